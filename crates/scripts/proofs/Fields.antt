-- The fields of a line, one after the other. Assumes nothing.
use Rattle.std.proofs.Common.{◌≡◌, ℕ, suc, min, ◌+◌, ◌-◌, ◌<◌, ◌≤◌, Bool, true, false, List, [], ◌∷◌, map, length, get_or, take, drop, Some, None, Err, vec_items, Option, Vec, sym, refl, ap, ◌∙◌, arith, Bor}
use Rattle.std.specs.declared.alloc.Global.{Global}
use Rattle.std.proofs.lemmas.List.{drop_more, drop_all, get_or-map, length-map, take_rest}
use Rattle.std.proofs.lemmas.Bool.{lt-leb, le-leb, cond-true, cond-false}
use Rattle.text.specs.Pieces.{pieces}
use Rattle.scripts.specs.declared.command.Draft.{Draft}
use Rattle.scripts.specs.declared.verb.Field.{Field}
use Rattle.scripts.specs.declared.verb.Verb.{Verb}
use Rattle.scripts.specs.Form.{Said, said, with_field, with_fields, form_of, begun, verb_in, verbs, said_in, said_by}
use Rattle.scripts.specs.declared.read.Unread.{Unread}
use Rattle.scripts.specs.declared.read.Unread.TheVariants.{OtherForm, NoMemory}
use Rattle.scripts.specs.Told.{told, drafted, ReadAs}

abbrev pub Texts : Type 0
Texts = List (Bor (List ℕ))

abbrev pub texts_of : Texts → List (List ℕ)
texts_of = map (λ t. t.now)

pub fields_uneven : (o : Option Said) (form : List Field) (texts : List (List ℕ)) → (length texts ≡ length form → ⊥) → with_fields o form texts ≡ None
fields_uneven None form texts ne = refl
fields_uneven (Some s) [] [] ne = absurd (ne refl)
fields_uneven (Some s) [] (t ∷ texts) ne = refl
fields_uneven (Some s) (f ∷ form) [] ne = refl
fields_uneven (Some s) (f ∷ form) (t ∷ texts) ne = fields_uneven (with_field s f t) form texts (λ e. ne (ap suc e))

-- what is left of the fields, after what was read of them
abbrev pub Left : Draft → ℕ → List Field → Texts → Option Said
Left c i form texts = with_fields (Some (drafted c)) (drop i form) (drop i (texts_of texts))

-- the field and its text at place i
module _ (form : List Field) (texts : Texts) (i : ℕ) (x : Field) (y : Bor (List ℕ)) (lt : i < length form) (lt' : i < length texts) (fx : (d : Field) → x ≡ get_or form i d) (fy : (d : Bor (List ℕ)) → y ≡ get_or texts i d) where
  left_step : (c : Draft) → Left c i form texts ≡ with_fields (with_field (drafted c) x y.now) (drop (i + 1) form) (drop (i + 1) (texts_of texts))
  left_step c =
      let long : i < length (texts_of texts) = omega (arith, length-map texts (λ t. t.now)) in
      let here = drop_more form i x lt ∙ ap (λ f. f ∷ drop (i + 1) form) (sym (fx x)) in
      let there = drop_more (texts_of texts) i y.now long ∙ ap (λ t. t ∷ drop (i + 1) (texts_of texts)) (get_or-map (λ t. t.now) texts i y y.now lt' ∙ ap (λ t. t.now) (sym (fy y))) in
      (λ j. with_fields (Some (drafted c)) (here j) (there j))

  pub field_more : (c c' : Draft) (all : Option Said) → Some (drafted c') ≡ with_field (drafted c) x y.now → Left c i form texts ≡ all → Left c' (i + 1) form texts ≡ all
  field_more c c' all is so = ap (λ o. with_fields o (drop (i + 1) form) (drop (i + 1) (texts_of texts))) is ∙ sym (left_step c) ∙ so

  pub field_not : {A : Type 0} (f : A → Said) (u : Unread) (c : Draft) (all : Option Said) → ReadAs f (Err u) (with_field (drafted c) x y.now) → Left c i form texts ≡ all → ReadAs told (Err u) all
  field_not f OtherForm c all is so = ap (λ o. with_fields o (drop (i + 1) form) (drop (i + 1) (texts_of texts))) is ∙ sym (left_step c) ∙ so
  field_not f (NoMemory e) c all is so = tt

pub fields_all : (c : Draft) (form : List Field) (texts : Texts) (i : ℕ) (all : Option Said) → length form ≤ i → length texts ≡ length form → Left c i form texts ≡ all → Some (drafted c) ≡ all
fields_all c form texts i all le same so =
    let here = drop_all i form le in
    let there = drop_all i (texts_of texts) (omega (arith, length-map texts (λ t. t.now))) in
    sym (λ j. with_fields (Some (drafted c)) (here j) (there j)) ∙ so

-- nothing was read of them yet
pub fields_begin : (v : Verb) (ns bs : Vec ℕ Global) (form : List Field) (texts : Texts) → vec_items ns ≡ [] → vec_items bs ≡ [] → form ≡ form_of v → Left record { verb = v; numbers = ns; bytes = bs } 0 form texts ≡ with_fields (Some (said v [] [])) (form_of v) (texts_of texts)
fields_begin v ns bs form texts a b e = λ j. with_fields (Some (said v (a j) (b j))) (e j) (texts_of texts)

-- all of them were read, from the first on
pub fields_read : (v : Verb) (texts : Texts) (c : Draft) (ns bs : Vec ℕ Global) (n : ℕ) → n ≡ min (length (form_of v)) (length texts) → length texts ≡ length (form_of v) → vec_items ns ≡ [] → vec_items bs ≡ [] → Left c n (form_of v) texts ≡ Left record { verb = v; numbers = ns; bytes = bs } 0 (form_of v) texts → Some (drafted c) ≡ with_fields (Some (said v [] [])) (form_of v) (texts_of texts)
fields_read v texts c ns bs n all same a b so = fields_all c (form_of v) texts n _ (omega (arith, all, same)) same (so ∙ fields_begin v ns bs (form_of v) texts a b refl)

-- the verb, and the words after it
pub words_none : (words : Texts) → length words ≡ 0 → None ≡ said_in (texts_of words)
words_none [] e = refl
words_none (w ∷ words) e = absurd (omega arith)

pub words_some : (words : Texts) (d : Bor (List ℕ)) (o : Option Verb) → 0 < length words → o ≡ verb_in verbs (get_or words 0 d).now → begun o (texts_of (take (length words - 1) (drop 1 words))) ≡ said_in (texts_of words)
words_some [] d o h e = absurd (omega arith)
words_some (w ∷ words) d o h e = ap (λ l. begun o (texts_of l)) (take_rest (w ∷ words) 1) ∙ ap (λ v. begun v (texts_of words)) e

pub line_long : (line : List ℕ) → 65536 < length line → None ≡ said_by line
unfolding said_by
line_long line h = sym (cond-false _ (said_in (pieces 32 line)) None (lt-leb (length line) 65536 h))

pub line_short : (line : List ℕ) (words : Texts) → length line ≤ 65536 → texts_of words ≡ pieces 32 line → said_by line ≡ said_in (texts_of words)
unfolding said_by
line_short line words h is = cond-true _ (said_in (pieces 32 line)) None (le-leb (length line) 65536 h) ∙ sym (ap said_in is)
