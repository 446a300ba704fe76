-- Lengths within a span. Assumes nothing.
use Rattle.std.proofs.Common.{◌≡◌, ℕ, ◌≤◌, Bool, true, false, ◌&&◌, leb, sym, refl, le-leb, leb-true}
use Rattle.mac.specs.declared.Span.{Span}
use Rattle.mac.specs.Face.{within}

both_left : (a b : Bool) → (a && b) ≡ true → a ≡ true
both_left true b e = refl
both_left false b e = e

both_right : (a b : Bool) → (a && b) ≡ true → b ≡ true
both_right true b e = e
both_right false b e = let z : true ≡ false = sym e in cc

pub at_least : (s : Span) (n : ℕ) → within s n ≡ true → s.least ≤ n
at_least s n e = leb-true s.least n (both_left (leb s.least n) (leb n s.most) e)

pub at_most : (s : Span) (n : ℕ) → within s n ≡ true → n ≤ s.most
at_most s n e = leb-true n s.most (both_right (leb s.least n) (leb n s.most) e)

pub inside : (s : Span) (n : ℕ) → s.least ≤ n → n ≤ s.most → within s n ≡ true
inside s n a b = rw (le-leb s.least n a, le-leb n s.most b)
