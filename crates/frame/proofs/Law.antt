-- What is laid out is read back, and what passes every question falls into its parts. Assumes nothing.
use Rattle.std.proofs.Common.{◌≡◌, ℕ, ◌+◌, ◌<◌, ◌≤◌, Bool, true, false, cond, eqb, leb, List, ◌∷◌, ◌++◌, length, get_or, take, drop, Some, None, Option, sym, refl, ap, ◌∙◌, append_assoc, arith, length-append, length-drop, rules, eqb-true, leb-true}
use Rattle.std.proofs.lemmas.List.{take_at, drop_at, length-take-le, take-append-drop}
use Rattle.refusals.specs.declared.Refusal.{Refusal}
use Rattle.refusals.specs.declared.Refusal.TheVariants.{FrameLength, Version, Kind, Body}
use Rattle.refusals.specs.Questions.{asks, first_refusal}
use Rattle.frame.specs.declared.Header.{Header}
use Rattle.frame.specs.Layout.{header_of, bytes_of_header, body_of, signed_part, tag_in}
use Rattle.frame.specs.Reading.{both, right_body, body_questions, asked, questions, record_with, unless, reads}
use Rattle.frame.specs.Sealing.{header_for, Sealable, Sealed, Parts, HeaderCases, LayoutLaws}
use Rattle.frame.proofs.Bytes.{round_trip, header_length, header_fits}

pub header_cases : HeaderCases
unfolding header_of bytes_of_header body_of questions
header_cases = (refl, refl, refl, refl)

-- a question that is not the first no
answered : (b : Bool) (o : Option Refusal) (f : Refusal) → cond b o (Some f) ≡ None → (b ≡ true) × (o ≡ None)
answered true o f e = (refl, e)
answered false o f e = let z : ◌≡◌ {A = ℕ} 0 1 = cc in absurd (omega arith)

left_of : (a b : Bool) → both a b ≡ true → a ≡ true
left_of true b e = refl
left_of false b e = e

right_of : (a b : Bool) → both a b ≡ true → b ≡ true
right_of true b e = e
right_of false b e = let z : ◌≡◌ {A = ℕ} 0 1 = cc in absurd (omega arith)

-- the questions pass where each of them does
passing :
    (h : Header) (n : ℕ) (body : List ℕ) (t : ℕ) → n ≡ 8 + h.size + t → h.version ≡ 1 →
    first_refusal (body_questions h.kind body) ≡ None → first_refusal (asked h n body t) ≡ None
passing h n body t long version right =
    let a : leb 8 n ≡ true = search rules in
    let b : eqb n (8 + h.size + t) ≡ true = search rules in
    let c : eqb h.version 1 ≡ true = search rules in
    rw (a, b, c) right

module _ (h : Header) (body tag : List ℕ) (t : ℕ) (s : Sealable h body) (long : length tag ≡ t) where
  abbrev frame : List ℕ
  frame = bytes_of_header h ++ (body ++ tag)

  header_back : header_of frame ≡ h
  header_back = round_trip h (body ++ tag) s.fits

  size_back : (header_of frame).size ≡ length body
  size_back = ap (λ k. k.size) header_back ∙ s.size

  signed_long : length (bytes_of_header h ++ body) ≡ 8 + (header_of frame).size
  signed_long = length-append (bytes_of_header h) body ∙ omega (arith, header_length h, size_back)

  grouped : frame ≡ (bytes_of_header h ++ body) ++ tag
  grouped = sym (append_assoc (bytes_of_header h) body tag)

  body_back : body_of frame ≡ body
  unfolding body_of
  body_back = ap (take (header_of frame).size) (drop_at (bytes_of_header h) (body ++ tag) 8 (header_length h)) ∙ take_at body tag (header_of frame).size (sym size_back)

  signed_back : signed_part frame ≡ bytes_of_header h ++ body
  unfolding signed_part
  signed_back = ap (take (8 + (header_of frame).size)) grouped ∙ take_at (bytes_of_header h ++ body) tag (8 + (header_of frame).size) signed_long

  tag_back : tag_in frame ≡ tag
  unfolding tag_in
  tag_back = ap (drop (8 + (header_of frame).size)) grouped ∙ drop_at (bytes_of_header h ++ body) tag (8 + (header_of frame).size) signed_long

  frame_long : length frame ≡ 8 + h.size + t
  frame_long =
      length-append (bytes_of_header h) (body ++ tag) ∙ omega (arith, header_length h, length-append body tag, s.size)

  passes_back : first_refusal (questions frame t) ≡ None
  unfolding questions
  passes_back =
      ap (λ k. first_refusal (asked k (length frame) (body_of frame) t)) header_back
      ∙ ap (λ k. first_refusal (asked h (length frame) k t)) body_back
      ∙ passing h (length frame) body t frame_long s.version s.right

  read_back : reads frame t ≡ record_with h body
  unfolding reads
  read_back =
      ap (λ k. unless k (record_with (header_of frame) (body_of frame))) passes_back
      ∙ ap (λ k. record_with k (body_of frame)) header_back
      ∙ ap (record_with h) body_back

few : (b : Bool) (n l : ℕ) → cond b (both (eqb n 1) (leb l 100)) (leb n 255) ≡ true → n ≤ 255
few true n l e = omega (arith, eqb-true n 1 (left_of (eqb n 1) (leb l 100) e))
few false n l e = leb-true n 255 e

-- what a right kind and body are limited to
pub limits : (kind : ℕ) (body : List ℕ) → first_refusal (body_questions kind body) ≡ None → (kind ≤ 1) × (length body ≤ 255)
limits kind body e =
    let first = answered (leb kind 1) (cond (right_body kind body) None (Some Body)) Kind e in
    let right = (answered (right_body kind body) None Body first.1).0 in
    (leb-true kind 1 first.0, few (eqb kind 0) (length body) (get_or body 0 0) right)

-- the header for a body that passes its questions
pub sealable :
    (slot kind address number : ℕ) (body : List ℕ) → slot < 8 → address < 65536 → number < 4294967296 →
    first_refusal (body_questions kind body) ≡ None → Sealable (header_for slot kind address number body) body
sealable slot kind address number body a b c right =
    let most = limits kind body right in
    record {
      fits = record { version = omega arith; slot = a; kind = omega (arith, most.0); size = omega (arith, most.1); address = b; number = c };
      version = refl;
      size = refl;
      right = right;
    }

pub sealed : Sealed
sealed h body tag t s long = record {
  passes = passes_back h body tag t s long;
  header = header_back h body tag t s long;
  body = body_back h body tag t s long;
  signed = signed_back h body tag t s long;
  tag = tag_back h body tag t s long;
  read = read_back h body tag t s long;
}

-- what each question says where none is answered no
record Passed (h : Header) (n : ℕ) (b : List ℕ) (t : ℕ) : Type 0 where
  long : n ≡ 8 + h.size + t
  version : h.version ≡ 1
  right : first_refusal (body_questions h.kind b) ≡ None

passed : (h : Header) (n : ℕ) (b : List ℕ) (t : ℕ) → first_refusal (asked h n b t) ≡ None → Passed h n b t
passed h n b t e =
    let first = answered (both (leb 8 n) (eqb n (8 + h.size + t))) (first_refusal (asks (eqb h.version 1) Version ∷ body_questions h.kind b)) FrameLength e in
    let second = answered (eqb h.version 1) (first_refusal (body_questions h.kind b)) Version first.1 in
    record {
      long = eqb-true n (8 + h.size + t) (right_of (leb 8 n) (eqb n (8 + h.size + t)) first.0);
      version = eqb-true h.version 1 second.0;
      right = second.1;
    }

pub parts : Parts
unfolding questions body_of signed_part tag_in
parts frame t e =
    let p = passed (header_of frame) (length frame) (body_of frame) t e in
    let size = (header_of frame).size in
    record {
      version = p.version;
      right = p.right;
      long = p.long;
      body = length-take-le size (drop 8 frame) (simp length-drop (omega (arith, p.long)));
      signed = length-take-le (8 + size) frame (omega (arith, p.long));
      tag = length-drop (8 + size) frame ∙ omega (arith, p.long);
      whole = take-append-drop (8 + size) frame;
    }

pub laws : LayoutLaws
laws = record { round = round_trip; fits = header_fits; sealed = sealed; parts = parts; cases = header_cases }
