-- The run of a script's calls. Assumes nothing.
use Rattle.std.proofs.Common.{◌≡◌, ℕ, ◌+◌, ◌-◌, ◌<◌, ◌≤◌, true, false, cond, List, ◌∷◌, map, length, get_or, take, drop, Some, None, vec_items, Option, sym, refl, ap, ◌∙◌, subst}
use Rattle.std.specs.Option.{option_map}
use Rattle.std.proofs.lemmas.List.{drop_more, drop_all, drop-map, take_rest}
use Rattle.tags.specs.Kinds.{meaning_of, face_of}
use Rattle.tags.specs.declared.AlgorithmKind.{AlgorithmKind}
use Rattle.tags.specs.declared.HashKind.{HashKind}
use Rattle.node.specs.declared.replay.Call.{Call}
use Rattle.node.specs.declared.replay.Report.{Report}
use Rattle.node.specs.Replies.{Answer}
use Rattle.history.specs.Law.{Logged}
use Rattle.scripts.specs.declared.command.Command.{Command}
use Rattle.scripts.specs.declared.making.Making.{Making}
use Rattle.scripts.specs.declared.verb.Verb.{Verb}
use Rattle.scripts.specs.declared.verb.Verb.TheVariants.{Node, Calling, Meter, State}
use Rattle.scripts.specs.Calls.{spelled, calls_asked}
use Rattle.scripts.specs.Form.{Said}
use Rattle.scripts.specs.Making.{making_of}
use Rattle.scripts.specs.Play.{is_node, PlayedAs, PlayedIn}
use Rattle.scripts.specs.Told.{told}

pub no_node : (v : Verb) → (v ≡ Node → ⊥) → is_node v ≡ false
no_node Node ne = absurd (ne refl)
no_node (Calling d) ne = refl
no_node Meter ne = refl
no_node State ne = refl

-- what is said of the rest of a script is said of the whole
abbrev pub Goes_on : List (Option Command) → ℕ → Type 0
Goes_on lines i = (answers : List Answer) (reports : List Report) → PlayedIn (drop i (map (option_map told) lines)) answers reports → PlayedIn (map (option_map told) lines) answers reports

module _ (lines : List (Option Command)) (i : ℕ) (x : Option Command) (lt : i < length lines) (at : x ≡ get_or lines i x) (answers : List Answer) (reports : List Report) where
  here : drop i (map (option_map told) lines) ≡ option_map told x ∷ map (option_map told) (drop (i + 1) lines)
  here =
      drop-map (option_map told) i lines ∙ ap (map (option_map told)) (drop_more lines i x lt)
      ∙ ap (λ y. option_map told y ∷ map (option_map told) (drop (i + 1) lines)) (sym at)

  -- the first node line
  pub play_node : (c : Command) → x ≡ Some c → is_node c.verb ≡ true → PlayedAs (making_of (vec_items c.numbers)) (calls_asked (map (option_map told) (take (length lines - (i + 1)) (drop (i + 1) lines)))) answers reports → PlayedIn (drop i (map (option_map told) lines)) answers reports
  play_node c is node p =
      let rest = map (option_map told) (drop (i + 1) lines) in
      let q : PlayedAs (making_of (vec_items c.numbers)) (calls_asked rest) answers reports =
      subst (λ l. PlayedAs (making_of (vec_items c.numbers)) (calls_asked (map (option_map told) l)) answers reports) (take_rest lines (i + 1)) p
      in
      subst (λ l. PlayedIn l answers reports) (sym (here ∙ ap (λ y. option_map told y ∷ rest) is))
      (subst (λ b. cond b (PlayedAs (making_of (vec_items c.numbers)) (calls_asked rest) answers reports) (PlayedIn rest answers reports)) (sym node) q)

  later : PlayedIn (drop (i + 1) (map (option_map told) lines)) answers reports → PlayedIn (map (option_map told) (drop (i + 1) lines)) answers reports
  later = subst (λ l. PlayedIn l answers reports) (drop-map (option_map told) (i + 1) lines)

  -- any other line before it
  pub play_form : x ≡ None → PlayedIn (drop (i + 1) (map (option_map told) lines)) answers reports → PlayedIn (drop i (map (option_map told) lines)) answers reports
  play_form is p = subst (λ l. PlayedIn l answers reports) (sym (here ∙ ap (λ y. option_map told y ∷ map (option_map told) (drop (i + 1) lines)) is)) (later p)

  pub play_other : (c : Command) → x ≡ Some c → is_node c.verb ≡ false → PlayedIn (drop (i + 1) (map (option_map told) lines)) answers reports → PlayedIn (drop i (map (option_map told) lines)) answers reports
  play_other c is other p =
      let rest = map (option_map told) (drop (i + 1) lines) in
      subst (λ l. PlayedIn l answers reports) (sym (here ∙ ap (λ y. option_map told y ∷ rest) is))
      (subst (λ b. cond b (PlayedAs (making_of (vec_items c.numbers)) (calls_asked rest) answers reports) (PlayedIn rest answers reports)) (sym other) (later p))

-- no node line came
pub play_none : (lines : List (Option Command)) (i : ℕ) (answers : List Answer) (reports : List Report) → length lines ≤ i → PlayedIn (drop i (map (option_map told) lines)) answers reports
play_none lines i answers reports le =
    subst (λ l. PlayedIn l answers reports) (sym (drop-map (option_map told) i lines ∙ ap (map (option_map told)) (drop_all i lines le))) tt
