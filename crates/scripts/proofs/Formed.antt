-- What was read by a form is of that form. Assumes nothing.
use Rattle.std.proofs.Common.{◌≡◌, ℕ, Bool, true, false, cond, ◌&&◌, leb, List, [], ◌∷◌, ◌++◌, Some, None, Option, sym, refl, ap, ◌∙◌, append_assoc, arith}
use Rattle.std.proofs.lemmas.List.{append-nil}
use Rattle.std.proofs.lemmas.Bool.{and_from}
use Rattle.text.specs.Decimal.{number_of}
use Rattle.text.specs.Hex.{bytes_of}
use Rattle.scripts.specs.declared.verb.Field.{Field}
use Rattle.scripts.specs.declared.verb.Field.TheVariants.{Number, Bytes}
use Rattle.scripts.specs.declared.verb.Verb.{Verb}
use Rattle.scripts.specs.Form.{Said, said, limited, with_number, with_bytes, with_fields, form_of, numbered, silent, formed}

nothing : (s : Said) → ◌≡◌ {A = Option Said} None (Some s) → ⊥
nothing s e = let z : ◌≡◌ {A = ℕ} 0 1 = cc in omega arith

inside : (s t : Said) → ◌≡◌ {A = Option Said} (Some s) (Some t) → s ≡ t
inside s t e = cc

-- ns are the numbers read by the form after those of s
pub record Goes (form : List Field) (s t : Said) : Type 0 where
  pub ns : List ℕ
  pub verb : t.verb ≡ s.verb
  pub numbers : t.numbers ≡ s.numbers ++ ns
  pub counted : numbered form ns ≡ true
  pub quiet : s.bytes ≡ [] → silent form t.bytes ≡ true

pub record Number-read (form : List Field) (texts : List (List ℕ)) (s t : Said) (most : ℕ) : Type 0 where
  pub n : ℕ
  pub few : leb n most ≡ true
  pub rest : with_fields (Some (said s.verb (s.numbers ++ n ∷ []) s.bytes)) form texts ≡ Some t

module _ (form : List Field) (texts : List (List ℕ)) (s t : Said) where
  within : (n most : ℕ) (b : Bool) → leb n most ≡ b → with_fields (with_number s (cond b (Some n) None)) form texts ≡ Some t → Number-read form texts s t most
  within n most true e h = record { n = n; few = e; rest = h }
  within n most false e h = absurd (nothing t h)

  number_read : (most : ℕ) (o : Option ℕ) → with_fields (with_number s (limited most o)) form texts ≡ Some t → Number-read form texts s t most
  number_read most None h = absurd (nothing t h)
  number_read most (Some n) h = within n most (leb n most) refl h

  bytes_read : (o : Option (List ℕ)) → with_fields (with_bytes s o) form texts ≡ Some t → (bs : List ℕ) × (with_fields (Some (said s.verb s.numbers bs)) form texts ≡ Some t)
  bytes_read None h = absurd (nothing t h)
  bytes_read (Some bs) h = (bs, h)

goes : (form : List Field) (texts : List (List ℕ)) (s t : Said) → with_fields (Some s) form texts ≡ Some t → Goes form s t
goes [] [] s t h =
    let e = inside s t h in
    record {
      ns = [];
      verb = ap (λ x. x.verb) (sym e);
      numbers = ap (λ x. x.numbers) (sym e) ∙ sym (append-nil s.numbers);
      counted = refl;
      quiet = λ none. ap (silent []) (ap (λ x. x.bytes) (sym e) ∙ none);
    }
goes [] (x ∷ texts) s t h = absurd (nothing t h)
goes (f ∷ form) [] s t h = absurd (nothing t h)
goes (Number most ∷ form) (x ∷ texts) s t h =
    let r = number_read form texts s t most (number_of x) h in
    let g = goes form texts (said s.verb (s.numbers ++ r.n ∷ []) s.bytes) t r.rest in
    record {
      ns = r.n ∷ g.ns;
      verb = g.verb;
      numbers = g.numbers ∙ append_assoc s.numbers (r.n ∷ []) g.ns;
      counted = and_from (leb r.n most) (numbered form g.ns) r.few g.counted;
      quiet = g.quiet;
    }
goes (Bytes ∷ form) (x ∷ texts) s t h =
    let r = bytes_read form texts s t (bytes_of x) h in
    let g = goes form texts (said s.verb s.numbers r.0) t r.1 in
    record {
      ns = g.ns;
      verb = g.verb;
      numbers = g.numbers;
      counted = g.counted;
      quiet = λ none. refl;
    }

pub read_formed : (v : Verb) (texts : List (List ℕ)) (t : Said) → Some t ≡ with_fields (Some (said v [] [])) (form_of v) texts → formed t ≡ true
read_formed v texts t h =
    let g = goes (form_of v) texts (said v [] []) t (sym h) in
    (λ j. numbered (form_of (g.verb j)) (g.numbers j) && silent (form_of (g.verb j)) t.bytes)
    ∙ and_from (numbered (form_of v) g.ns) (silent (form_of v) t.bytes) g.counted (g.quiet refl)
