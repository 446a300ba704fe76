-- The tag of a whole message, begun, joined and closed in one call. Assumes nothing.
use Rattle.std.proofs.Common.{◌≡◌, ℕ, ◌+◌, ◌-◌, ◌≤◌, Bool, true, List, [], ◌++◌, length, take, drop, Ok, Result, sym, refl, ap, ◌∙◌, subst, zero-add, arith, length-drop}
use borrow.Rule.Slice.PartMut.{put_mid}
use Rattle.std.proofs.lemmas.List.{append-nil, take_all, drop_all, drop-drop, length-take-le}
use Rattle.std.specs.Str.{bytes_eq}
use Rattle.hash.specs.Meter.{after}
use Rattle.hash.proofs.Turns.{after_after}
use Rattle.refusals.specs.declared.Refusal.{Refusal}
use Rattle.mac.specs.Face.{Face, Laws, within}
use Rattle.mac.specs.Promises.{Added, Ended}
use Rattle.mac.specs.declared.KeyRecord.{KeyRecord}
use Rattle.mac.specs.declared.Run.{Run}
use Rattle.frame.specs.Layout.{signed_part, tag_in}
use Rattle.node.specs.Tags.{Compared}
use Rattle.node.specs.Taking.{Signed, Behind}

module _ {H : Type 0} (next : H → H) (f : Face) (laws : Laws f) where
  -- the rounds of a whole message
  pub rounds : (h0 h1 h2 : H) (n : ℕ) → h1 ≡ after next h0 (f.held n) → h2 ≡ after next h1 (f.whole n - f.held n) → h2 ≡ after next h0 (f.whole n)
  rounds h0 h1 h2 n a b =
      let sums : f.held n + (f.whole n - f.held n) ≡ f.whole n = omega (arith, laws.bounded n) in
      b ∙ ap (λ (h : H). after next h (f.whole n - f.held n)) a ∙ after_after next h0 (f.held n) (f.whole n - f.held n) ∙ ap (after next h0) sums

  module _ (h0 h1 : H) (r : KeyRecord) (run0 run1 : Run) (piece : List ℕ) (ra : Result Unit Refusal)
      (begins : (k : List ℕ) → f.RecordStands r k → f.RunStands run0 k []) (added : Added next f h0 h1 run0 run1 piece ra) where
    pub joins_all : (k : List ℕ) → f.RecordStands r k → length piece ≤ f.row.message → (ra ≡ Ok tt) × f.RunStands run1 k piece × (h1 ≡ after next h0 (f.held (length piece)))
    joins_all k s short =
        let j = added.joined k [] (begins k s) (omega (arith, short)) in
        let same : f.held (0 + length piece) - f.held 0 ≡ f.held (length piece) = rw zero-add (omega (arith, laws.none)) in
        (j.0, j.1, j.2 ∙ ap (after next h0) same)

    module _ (frame : List ℕ) (isPiece : piece ≡ signed_part frame) where
      pub signed_compared : (h2 : H) (tag : List ℕ) (b : Bool) → tag ≡ tag_in frame → Compared next f h1 h2 run1 (length tag) tag b → Signed next f h0 h2 r frame b
      signed_compared h2 tag b isTag compared = λ k s fits short.
          let j = joins_all k s (subst (λ (x : List ℕ). length x ≤ f.row.message) (sym isPiece) short) in
          let i = compared k piece j.1 (subst (λ (x : List ℕ). within f.row.tag (length x) ≡ true) (sym isTag) fits) refl in (
            i.0 ∙ ap (λ (x : List ℕ). bytes_eq x (f.tag k piece (length x))) isTag ∙ ap (λ (x : List ℕ). bytes_eq (tag_in frame) (f.tag k x (length (tag_in frame)))) isPiece,
            rounds h0 h1 h2 (length piece) j.2 i.1 ∙ ap (λ (x : List ℕ). after next h0 (f.whole (length x))) isPiece,
          )

    -- the tag written behind the message
    pub tag_laid : (out : List ℕ) (size t : ℕ) (h2 : H) (run2 : Run) (re : Result Unit Refusal) (last : List ℕ) → piece ≡ take size out → size ≤ length out →
        Ended next f h1 h2 run1 run2 t (take (length out - size) (drop size out)) last re → Behind next f h0 h2 r t size out (put_mid size (length out - size) out last) re
    tag_laid out size t h2 run2 re last isPiece le ended = λ k s fits short room.
        let long : length piece ≡ size = ap length isPiece ∙ length-take-le size out le in
        let j = joins_all k s (omega (arith, long)) in
        let rest = length-drop size out in
        let back : take (length out - size) (drop size out) ≡ drop size out = take_all (length out - size) (drop size out) (omega (arith, rest)) in
        let e = ended.tagged k piece j.1 fits (omega (arith, ap length back, rest)) in
        let past : drop (length out - size) (drop size out) ≡ [] = drop_all (length out - size) (drop size out) (omega (arith, rest)) in
        let kept : drop t (take (length out - size) (drop size out)) ≡ drop (size + t) out = ap (drop t) back ∙ drop-drop t size out in (
          e.0,
          ap (λ (x : List ℕ). take size out ++ (last ++ x)) past
              ∙ ap (λ (x : List ℕ). take size out ++ x)
              (append-nil last ∙ e.2 ∙ ap (λ (x : List ℕ). f.tag k x t ++ drop t (take (length out - size) (drop size out))) isPiece ∙ ap (λ (x : List ℕ). f.tag k (take size out) t ++ x) kept),
          rounds h0 h1 h2 (length piece) j.2 e.1 ∙ ap (λ (i : ℕ). after next h0 (f.whole i)) long,
        )
