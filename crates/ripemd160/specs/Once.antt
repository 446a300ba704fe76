-- The rules of the orders: each digit stands once in each row, and each step takes a word of the block. One test over the whole table. Assumes nothing.
use Rattle.std.proofs.Common.{◌≡◌, ℕ, zero, suc, ◌<◌, Bool, true, false, T, eqb, ltb, ◌⊎◌, List, [], slice_index_or, ⊎_elim, le_of_suc-le-suc, eq-or-lt_of_le, arith, eqb→eq, ltb→lt}
use Rattle.ripemd160.specs.Orders.{order_left, order_right, at, count, EachOnce, InBlock}

abbrev both : Bool → Bool → Bool
both true b = b
both false b = false

both_left : (a b : Bool) → T (both a b) → T a
both_left true b t = tt
both_left false b t = t

both_right : (a b : Bool) → T (both a b) → T b
both_right true b t = t
both_right false b t = absurd t

-- the test f passes at each number below n
abbrev all : (ℕ → Bool) → ℕ → Bool
all f zero = true
all f (suc n) = both (f n) (all f n)

all_at : (f : ℕ → Bool) (n : ℕ) → T (all f n) → (k : ℕ) → k < n → T (f k)
all_at f zero t k h = absurd (omega arith)
all_at f (suc n) t k h =
    let cases : (k ≡ n) ⊎ (k < n) = eq-or-lt_of_le (le_of_suc-le-suc h) in
    ⊎_elim (λ e. rw e (both_left (f n) (all f n) t)) (λ l. all_at f n (both_right (f n) (all f n) t) k l) cases

-- the test f passes at each place of a table
abbrev everywhere : (ℕ → ℕ → Bool) → Bool
everywhere f = all (λ row. all (f row) 16) 5

everywhere_at : (f : ℕ → ℕ → Bool) → T (everywhere f) → (row k : ℕ) → row < 5 → k < 16 → T (f row k)
everywhere_at f t row k hr hk = all_at (f row) 16 (all_at (λ r. all (f r) 16) 5 t row hr) k hk

abbrev once : List (List ℕ) → ℕ → ℕ → Bool
once table row digit = eqb (count digit (slice_index_or table row [])) 1

each_once : (table : List (List ℕ)) → T (everywhere (once table)) → EachOnce table
each_once table t row digit hr hd = eqb→eq _ 1 (everywhere_at (once table) t row digit hr hd)

abbrev low : List (List ℕ) → ℕ → ℕ → Bool
low table row i = ltb (at table row i) 16

in_block : (table : List (List ℕ)) → T (everywhere (low table)) → InBlock table
in_block table t row i hr hi = ltb→lt _ 16 (everywhere_at (low table) t row i hr hi)

pub once_left : EachOnce order_left
once_left = each_once order_left tt

pub once_right : EachOnce order_right
once_right = each_once order_right tt

pub within_left : InBlock order_left
within_left = in_block order_left tt

pub within_right : InBlock order_right
within_right = in_block order_right tt
