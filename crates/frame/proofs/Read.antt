-- What a reader's answer tells of the frame. Assumes nothing.
use Rattle.std.proofs.Common.{◌≡◌, ℕ, ◌+◌, ◌<◌, ◌≤◌, Bool, true, false, cond, eqb, leb, List, length, get_or, take, drop, IfOk, Some, None, Ok, Err, Option, Result, sym, refl, ap, ◌∙◌, subst, arith, length-drop, rules}
use Rattle.refusals.specs.declared.Refusal.{Refusal}
use Rattle.refusals.specs.declared.Refusal.TheVariants.{FrameLength}
use Rattle.refusals.specs.Questions.{first_refusal}
use Rattle.frame.specs.declared.Header.{Header}
use Rattle.frame.specs.declared.Record.{Record}
use Rattle.frame.specs.declared.Record.TheVariants.{Level, Sheet}
use Rattle.frame.specs.Layout.{header_of, body_of, Fitting}
use Rattle.frame.specs.Reading.{asked, questions, Told, level, sheet, refused, told, tell, record_with, unless, read_as, reads, header_in, level_in, body_in, is_level, ReadOf}

-- a record is no refusal
pub accepted : (r : Record) (o : Option Refusal) (x : Told) → told r ≡ unless o x → o ≡ None
accepted r None x e = refl
accepted (Level h l b) (Some f) x e = let z : ◌≡◌ {A = ℕ} 0 1 = cc in absurd (omega arith)
accepted (Sheet h b) (Some f) x e = let z : ◌≡◌ {A = ℕ} 0 1 = cc in absurd (omega arith)

pub accepted_as : (r : Record) (o : Option Refusal) (x : Told) → told r ≡ unless o x → told r ≡ x
accepted_as r None x e = e
accepted_as (Level h l b) (Some f) x e = let z : ◌≡◌ {A = ℕ} 0 1 = cc in absurd (omega arith)
accepted_as (Sheet h b) (Some f) x e = let z : ◌≡◌ {A = ℕ} 0 1 = cc in absurd (omega arith)

-- a refusal is the first no
pub refused_by : (f : Refusal) (o : Option Refusal) (h : Header) (body : List ℕ) → refused f ≡ unless o (record_with h body) → o ≡ Some f
refused_by f (Some g) h body e = cc
refused_by f None h body e =
    elim (eqb h.kind 0) as (λ b. refused f ≡ cond b (level h (get_or body 0 0) body) (sheet h body) → None ≡ Some f) [
      | true ↦ λ d. let z : ◌≡◌ {A = ℕ} 0 1 = cc in absurd (omega arith)
      | false ↦ λ d. let z : ◌≡◌ {A = ℕ} 0 1 = cc in absurd (omega arith)
    ] e

-- a record's parts are those that it is told by
pub record Same (h : Header) (b : Bool) (body : List ℕ) (r : Record) : Type 0 where
  pub header : header_in r ≡ h
  pub kind : is_level r ≡ b
  pub level : level_in r ≡ cond b (get_or body 0 0) 0
  pub part : body_in r ≡ body

pub same : (r : Record) (h : Header) (b : Bool) (body : List ℕ) → told r ≡ cond b (level h (get_or body 0 0) body) (sheet h body) → Same h b body r
same (Level k l x) h true body e = record { header = cc; kind = refl; level = cc; part = cc }
same (Level k l x) h false body e = let z : ◌≡◌ {A = ℕ} 0 1 = cc in absurd (omega arith)
same (Sheet k x) h true body e = let z : ◌≡◌ {A = ℕ} 0 1 = cc in absurd (omega arith)
same (Sheet k x) h false body e = record { header = cc; kind = refl; level = refl; part = cc }

pub read_ok : (frame : List ℕ) (t : ℕ) (r : Record) → told r ≡ reads frame t → ReadOf frame t r
unfolding reads
read_ok frame t r e =
    let s = same r (header_of frame) (eqb (header_of frame).kind 0) (body_of frame) (accepted_as r (first_refusal (questions frame t)) _ e) in
    record {
      passes = accepted r (first_refusal (questions frame t)) _ e;
      header = s.header;
      kind = s.kind;
      level = s.level;
      body = s.part;
    }

pub read_refused : (frame : List ℕ) (t : ℕ) (f : Refusal) → refused f ≡ reads frame t → first_refusal (questions frame t) ≡ Some f
unfolding reads
read_refused frame t f e = refused_by f (first_refusal (questions frame t)) (header_of frame) (body_of frame) e

-- a header with what follows it is read as the frame that they make
pub whole :
    (frame rest : List ℕ) (h : Header) (t : ℕ) (x : Told) → 8 ≤ length frame → h ≡ header_of frame → rest ≡ drop 8 frame →
    x ≡ read_as h (8 + length rest) (take h.size rest) t → x ≡ reads frame t
unfolding reads questions body_of
whole frame rest h t x long e d is =
    let n : 8 + length rest ≡ length frame = omega (arith, ap length d, length-drop 8 frame) in
    let y : take h.size rest ≡ take (header_of frame).size (drop 8 frame) = cc in
    is
    ∙ ap (λ k. read_as k (8 + length rest) (take h.size rest) t) e
    ∙ ap (λ k. read_as (header_of frame) k (take h.size rest) t) n
    ∙ ap (λ k. read_as (header_of frame) (length frame) k t) y

-- a frame with no whole header fails the first question
pub short : (frame : List ℕ) (t : ℕ) → length frame < 8 → refused FrameLength ≡ reads frame t
unfolding reads questions
short frame t h = let low : leb 8 (length frame) ≡ false = search rules in rw low refl

-- the header of what is read is the one that it was read from
pub fits_still :
    (r : Result Record Refusal) (h : Header) (n : ℕ) (body : List ℕ) (t : ℕ) → Fitting h → tell r ≡ read_as h n body t →
    IfOk r (λ x. Fitting (header_in x))
fits_still (Ok x) h n body t f e =
    let s = same x h (eqb h.kind 0) body (accepted_as x (first_refusal (asked h n body t)) _ e) in subst Fitting (sym s.header) f
fits_still (Err g) h n body t f e = tt
