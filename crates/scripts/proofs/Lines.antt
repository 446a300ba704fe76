-- The lines of an input. Assumes nothing.
use Rattle.std.proofs.Common.{◌≡◌, ℕ, zero, suc, ◌+◌, ◌-◌, ◌<◌, List, [], ◌∷◌, ◌++◌, map, length, get_or, take, Option, sym, refl, ap, ◌∙◌, arith, Bor}
use Rattle.std.specs.Option.{option_map}
use Rattle.std.proofs.lemmas.List.{take-map, get_or-map, length-map, nil_from_length, map_push, map_more}
use Rattle.scripts.specs.declared.command.Command.{Command}
use Rattle.scripts.specs.Form.{said_by}
use Rattle.scripts.specs.Script.{last_line, ended}
use Rattle.scripts.specs.Told.{told}
use Rattle.scripts.proofs.Fields.{Texts, texts_of}

last_some : (p : List ℕ) → (length p ≡ 0 → ⊥) → last_line p ≡ p ∷ []
last_some [] ne = absurd (ne refl)
last_some (b ∷ bs) ne = refl

ended_cut : (ps : List (List ℕ)) (n : ℕ) → length ps ≡ suc n → length (get_or ps n []) ≡ 0 → ended ps ≡ take n ps
ended_cut [] n e h = absurd (omega arith)
ended_cut (p ∷ []) zero e h = ap last_line (nil_from_length p h)
ended_cut (p ∷ []) (suc n) e h = absurd (omega arith)
ended_cut (p ∷ q ∷ ps) zero e h = absurd (omega arith)
ended_cut (p ∷ q ∷ ps) (suc n) e h = ap (λ l. p ∷ l) (ended_cut (q ∷ ps) n (omega arith) h)

ended_all : (ps : List (List ℕ)) (n : ℕ) → length ps ≡ suc n → (length (get_or ps n []) ≡ 0 → ⊥) → ended ps ≡ ps
ended_all [] n e h = absurd (omega arith)
ended_all (p ∷ []) zero e h = last_some p h
ended_all (p ∷ []) (suc n) e h = absurd (omega arith)
ended_all (p ∷ q ∷ ps) zero e h = absurd (omega arith)
ended_all (p ∷ q ∷ ps) (suc n) e h = ap (λ l. p ∷ l) (ended_all (q ∷ ps) n (omega arith) h)

module _ (lines : Texts) (ps : List (List ℕ)) (n : ℕ) (is : texts_of lines ≡ ps) (len : n ≡ length lines) where
  long : 0 < n → length ps ≡ suc (n - 1)
  long some = ap length (sym is) ∙ length-map lines (λ l. l.now) ∙ (let e : length lines ≡ suc (n - 1) = omega arith in e)

  module _ (x : Bor (List ℕ)) (at : x ≡ get_or lines (n - 1) x) where
    last_of : 0 < n → get_or ps (n - 1) [] ≡ x.now
    last_of some = ap (λ l. get_or l (n - 1) []) (sym is) ∙ get_or-map (λ l. l.now) lines (n - 1) x [] (omega arith) ∙ ap (λ y. y.now) (sym at)

    pub lines_cut : (lines' : Texts) → lines' ≡ take (n - 1) lines → 0 < n → length x.now ≡ 0 → texts_of lines' ≡ ended ps
    lines_cut lines' cut some empty =
        ap texts_of cut ∙ sym (take-map (λ l. l.now) (n - 1) lines) ∙ ap (take (n - 1)) is
        ∙ sym (ended_cut ps (n - 1) (long some) (ap length (last_of some) ∙ empty))

    pub lines_all : 0 < n → (length x.now ≡ 0 → ⊥) → texts_of lines ≡ ended ps
    lines_all some full = is ∙ sym (ended_all ps (n - 1) (long some) (λ e. full (sym (ap length (last_of some)) ∙ e)))

  pub lines_none : n ≡ 0 → texts_of lines ≡ ended ps
  lines_none none =
      let empty = nil_from_length lines (sym len ∙ none) in
      ap texts_of empty ∙ sym (ap ended (sym is ∙ ap texts_of empty))

-- one command more
pub commands_more : (lines : Texts) (i : ℕ) (d : Bor (List ℕ)) (vs vs' : List (Option Command)) (o : Option Command) → i < length lines → vs' ≡ vs ++ o ∷ [] → option_map told o ≡ said_by (get_or lines i d).now → map (option_map told) vs ≡ map said_by (texts_of (take i lines)) → map (option_map told) vs' ≡ map said_by (texts_of (take (i + 1) lines))
commands_more lines i d vs vs' o lt grown is so =
    ap (map (option_map told)) grown ∙ map_push (option_map told) vs o
    ∙ (λ j. so j ++ is j ∷ [])
    ∙ sym (ap (map said_by) (map_more (λ l. l.now) lines i d lt) ∙ map_push said_by (texts_of (take i lines)) (get_or lines i d).now)
