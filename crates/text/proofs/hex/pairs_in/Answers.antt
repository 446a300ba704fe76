use Rattle.std.proofs.Common.{◌≡◌, ℕ, ◌/◌, min, List, length, length-append, length-drop, length-take, vec_items, None, Some, refl, sym, ap, ◌∙◌, arith, rules}
use Rattle.std.proofs.lemmas.Grind.{common_steps}
use Rattle.std.proofs.lemmas.List.{nil_from_length}
use Rattle.std.specs.Slice.Iter.{chunks_rest}
use Rattle.text.specs.Hex.{pairs_of}
use Rattle.text.proofs.Pairs.{onto_none, pairs_odd, more_even, block_not, block_more, blocks_all}
use Rattle.text.proofs.hex.pairs_in.Goals as goal

pub returns-then-text-ne0 : goal.returns-then-text-ne0
returns-then-text-ne0 c = sym (pairs_odd c.args.text.now (omega arith))

pub loop-pairs-init : goal.loop-pairs-init
loop-pairs-init c = (search rules, tt, search rules, search rules, refl, search (rules, onto_none))

-- a block is 128 digits, or the last
sized : (size : ℕ) (block rest : List ℕ) → length block ≡ min size (length rest) → size ≡ 128 → length block ≡ min 128 (length rest)
sized size block rest h e = h ∙ ap (λ n. min n (length rest)) e

pub slice_bounds-place-end : goal.slice_bounds-place-end
slice_bounds-place-end c =
    omega (arith, sized _ c.in-Some.pairs.now (chunks_rest c.loop-pairs.pairs-iterator) c.in-Some.ensures.steps.1.1 c.loop-pairs.invariant.2, c.loop-pairs.invariant.4)

pub slice_bounds-front-end : goal.slice_bounds-front-end
slice_bounds-front-end c =
    omega (arith, sized _ c.in-Some.pairs.now (chunks_rest c.loop-pairs.pairs-iterator) c.in-Some.ensures.steps.1.1 c.loop-pairs.invariant.2, c.loop-pairs.invariant.4, length-take (length c.in-Some.pairs.now / 2) c.loop-pairs.place)

pub returns-then-is_none : goal.returns-then-is_none
returns-then-is_none c =
    let none : pairs_of c.in-Some.pairs.now ≡ None = grind (arith, common_steps) in
    sym (block_not c.args.text.now (vec_items c.loop-pairs.bytes) (chunks_rest c.loop-pairs.pairs-iterator) c.in-Some.pairs.now (chunks_rest c.next.new.self) c.in-Some.ensures.steps.1.0 (sized _ _ _ c.in-Some.ensures.steps.1.1 c.loop-pairs.invariant.2) c.loop-pairs.invariant.3 c.loop-pairs.invariant.5 none)

pub loop-pairs-preserved : goal.loop-pairs-preserved
loop-pairs-preserved c =
    let steps = c.in-Some.ensures.steps in
    let some : pairs_of c.in-Some.pairs.now ≡ Some c.read_pairs.new.place = grind (arith, common_steps) in
    let size = sized _ c.in-Some.pairs.now (chunks_rest c.loop-pairs.pairs-iterator) steps.1.1 c.loop-pairs.invariant.2 in (
      search rules,
      tt,
      steps.0 ∙ c.loop-pairs.invariant.2,
      more_even c.args.text.now (vec_items c.loop-pairs.bytes) (chunks_rest c.loop-pairs.pairs-iterator) c.in-Some.pairs.now (chunks_rest c.next.new.self) steps.1.0 size c.loop-pairs.invariant.3 c.loop-pairs.invariant.5,
      simp (length-append, length-drop) (omega (arith, size, c.loop-pairs.invariant.4, c.read_pairs.auto.place, length-take (length c.in-Some.pairs.now / 2) c.loop-pairs.place)),
      rw c.in_ok-extend_from_slice.ensures.items (block_more c.args.text.now (vec_items c.loop-pairs.bytes) (chunks_rest c.loop-pairs.pairs-iterator) c.in-Some.pairs.now (chunks_rest c.next.new.self) steps.1.0 size c.loop-pairs.invariant.3 c.loop-pairs.invariant.5 c.read_pairs.new.place some),
    )

pub returns : goal.returns
returns c = sym (blocks_all c.args.text.now (vec_items c.loop-pairs.bytes) (chunks_rest c.loop-pairs.pairs-iterator) (nil_from_length _ c.in-None.ensures.steps.1.0) c.loop-pairs.invariant.5)
