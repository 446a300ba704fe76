-- The replies to the lines of a script, one after the other. Assumes nothing.
use Rattle.std.proofs.Common.{◌≡◌, ℕ, ◌+◌, ◌<◌, ◌≤◌, List, [], ◌∷◌, ◌++◌, map, length, get_or, drop, Some, None, Option, sym, ap, ◌∙◌, append_assoc, arith}
use Rattle.std.specs.Option.{option_map}
use Rattle.std.proofs.lemmas.List.{append-nil, drop_more, drop_all}
use Rattle.refusals.specs.declared.Refusal.{Refusal}
use Rattle.node.specs.declared.replay.Report.{Report}
use Rattle.node.specs.Replies.{Answer}
use Rattle.scripts.specs.declared.command.Command.{Command}
use Rattle.scripts.specs.declared.stage.Stage.{Stage}
use Rattle.scripts.specs.declared.stage.Stage.TheVariants.{Waiting, Refusing, Working}
use Rattle.scripts.specs.declared.verb.Verb.{Verb}
use Rattle.scripts.specs.declared.verb.Verb.TheVariants.{Node, Calling, Meter, State}
use Rattle.scripts.specs.Form.{Said}
use Rattle.scripts.specs.Making.{making}
use Rattle.scripts.specs.Reply.{begun_by, on_from_waiting, on_from_working, onward, replied, transcript, calls_before}
use Rattle.scripts.specs.Told.{told}

begun_none : (o : Option Refusal) (t : ℕ) → calls_before (begun_by o t) ≤ 1
begun_none None t = omega arith
begun_none (Some e) t = omega arith

waiting_few : (v : Verb) (ns : List ℕ) → calls_before (on_from_waiting v ns) ≤ 1
waiting_few Node ns = begun_none (making ns) (get_or ns 2 0)
waiting_few (Calling d) ns = omega arith
waiting_few Meter ns = omega arith
waiting_few State ns = omega arith

working_few : (t k : ℕ) (v : Verb) → calls_before (on_from_working t k v) ≤ k + 1
working_few t k Node = omega arith
working_few t k (Calling d) = omega arith
working_few t k Meter = omega arith
working_few t k State = omega arith

-- a line adds at most one call
one_more : (stage : Stage) (line : Option Said) → calls_before (onward stage line) ≤ calls_before stage + 1
one_more stage None = omega arith
one_more Waiting (Some s) = waiting_few s.verb s.numbers
one_more (Refusing e) (Some s) = omega arith
one_more (Working t k) (Some s) = working_few t k s.verb

-- out has the replies to the first i lines
pub record Told-so-far (answers : List Answer) (reports : List Report) (lines : List (Option Command)) (i : ℕ) (stage : Stage) (out : List ℕ) : Type 0 where
  pub whole : out ++ transcript answers reports stage (map (option_map told) (drop i lines)) ≡ transcript answers reports Waiting (map (option_map told) lines)
  pub few : calls_before stage ≤ i

module _ (answers : List Answer) (reports : List Report) (lines : List (Option Command)) where
  pub told_none : (out : List ℕ) → out ≡ [] → Told-so-far answers reports lines 0 Waiting out
  told_none out e = record { whole = ap (λ l. l ++ transcript answers reports Waiting (map (option_map told) lines)) e; few = omega arith }

  pub told_more : (i : ℕ) (x : Option Command) (stage next : Stage) (out u w : List ℕ) → i < length lines → x ≡ get_or lines i x → u ≡ out ++ replied answers reports stage (option_map told x) → next ≡ onward stage (option_map told x) → w ≡ u ++ 10 ∷ [] → Told-so-far answers reports lines i stage out → Told-so-far answers reports lines (i + 1) next w
  told_more i x stage next out u w lt at text on line so =
      let reply = replied answers reports stage (option_map told x) in
      let rest = map (option_map told) (drop (i + 1) lines) in
      record {
        whole =
            (λ j. ((line ∙ ap (λ l. l ++ 10 ∷ []) text) j) ++ transcript answers reports (on j) rest)
            ∙ append_assoc (out ++ reply) (10 ∷ []) (transcript answers reports (onward stage (option_map told x)) rest)
            ∙ append_assoc out reply (10 ∷ transcript answers reports (onward stage (option_map told x)) rest)
            ∙ ap (λ ls. out ++ transcript answers reports stage (map (option_map told) ls)) (sym (drop_more lines i x lt ∙ ap (λ y. y ∷ drop (i + 1) lines) (sym at)))
            ∙ so.whole;
        few = omega (arith, ap calls_before on, one_more stage (option_map told x), so.few);
      }

  pub told_all : (i : ℕ) (stage : Stage) (out : List ℕ) → length lines ≤ i → Told-so-far answers reports lines i stage out → out ≡ transcript answers reports Waiting (map (option_map told) lines)
  told_all i stage out le so =
      sym (append-nil out) ∙ ap (λ ls. out ++ transcript answers reports stage (map (option_map told) ls)) (sym (drop_all i lines le)) ∙ so.whole
