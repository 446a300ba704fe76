-- The calls of a script, one after the other. Assumes nothing.
use Rattle.std.proofs.Common.{◌≡◌, ℕ, ◌+◌, ◌<◌, Bool, true, false, cond, List, [], ◌∷◌, ◌++◌, map, length, get_or, take, Some, None, Option, sym, refl, ap, ◌∙◌}
use Rattle.std.specs.Option.{option_map}
use Rattle.std.proofs.lemmas.List.{map_more, map_push}
use Rattle.std.proofs.lemmas.Bool.{cond-true}
use Rattle.node.specs.declared.replay.Call.{Call}
use Rattle.scripts.specs.declared.command.Command.{Command}
use Rattle.scripts.specs.Calls.{spelled, is_call, calls_asked}
use Rattle.scripts.specs.Form.{Said}
use Rattle.scripts.specs.Told.{told}

one_more : (b : Bool) (s : Said) (xs ys zs : List Said) → xs ≡ ys ++ zs → cond b (s ∷ xs) xs ≡ cond b (s ∷ ys) ys ++ zs
one_more true s xs ys zs e = ap (λ l. s ∷ l) e
one_more false s xs ys zs e = e

calls_push : (ls : List (Option Said)) (o : Option Said) → calls_asked (ls ++ o ∷ []) ≡ calls_asked ls ++ calls_asked (o ∷ [])
calls_push [] o = refl
calls_push (None ∷ ls) o = calls_push ls o
calls_push (Some s ∷ ls) o = one_more (is_call s.verb) s _ _ _ (calls_push ls o)

pub calls_more : (lines : List (Option Command)) (i : ℕ) (x : Option Command) (vs vs' : List Call) → i < length lines → x ≡ get_or lines i x → map spelled vs' ≡ map spelled vs ++ calls_asked (option_map told x ∷ []) → map spelled vs ≡ calls_asked (map (option_map told) (take i lines)) → map spelled vs' ≡ calls_asked (map (option_map told) (take (i + 1) lines))
calls_more lines i x vs vs' lt at grown so =
    grown ∙ (λ j. so j ++ calls_asked (option_map told (at j) ∷ []))
    ∙ sym (ap calls_asked (map_more (option_map told) lines i x lt) ∙ calls_push (map (option_map told) (take i lines)) (option_map told (get_or lines i x)))

-- a line that asks for a call
pub call_pushed : (vs vs' : List Call) (c : Call) (o : Option Said) (s : Said) → vs' ≡ vs ++ c ∷ [] → o ≡ Some s → is_call s.verb ≡ true → spelled c ≡ s → map spelled vs' ≡ map spelled vs ++ calls_asked (o ∷ [])
call_pushed vs vs' c o s grown is call e =
    ap (map spelled) grown ∙ map_push spelled vs c ∙ ap (λ x. map spelled vs ++ x ∷ []) e
    ∙ ap (λ l. map spelled vs ++ l) (sym (ap (λ x. calls_asked (x ∷ [])) is ∙ cond-true (is_call s.verb) (s ∷ []) [] call))
