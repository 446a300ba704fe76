-- What a reader answers: its questions in their order, and the record where none is answered no. Assumes nothing.
use Rattle.std.specs.Prelude.{◌≡◌, ℕ, ◌+◌, Bool, true, false, cond, List, [], ◌∷◌, length, Some, None, Ok, Err, Option, Result, ◌==◌, nat_le, slice_index}
use Rattle.refusals.specs.declared.Refusal.{Refusal}
use Rattle.refusals.specs.declared.Refusal.TheVariants.{Kind, Body, FrameLength, Version}
use Rattle.refusals.specs.Questions.{Question, asks, first_refusal}
use Rattle.frame.specs.declared.Header.{Header}
use Rattle.frame.specs.declared.Record.{Record}
use Rattle.frame.specs.declared.Record.TheVariants.{Level, Sheet}
use Rattle.frame.specs.Layout.{header_of, body_of}

abbrev pub both : Bool → Bool → Bool
both true b = b
both false b = false

-- the body of a level is one byte of 0 to 100, that of a sheet at most 255 bytes
abbrev pub right_body : ℕ → List ℕ → Bool
right_body kind body = cond (kind == 0) (both (length body == 1) (nat_le (slice_index body 0) 100)) (nat_le (length body) 255)

-- the questions on a kind and a body
abbrev pub body_questions : ℕ → List ℕ → List Question
body_questions kind body = asks (nat_le kind 1) Kind ∷ asks (right_body kind body) Body ∷ []

-- the questions on a header and a body in a frame of n bytes that ends in a tag of t
abbrev pub asked : Header → ℕ → List ℕ → ℕ → List Question
asked h n body t =
    asks (both (nat_le 8 n) (n == 8 + h.size + t)) FrameLength
    ∷ asks (h.version == 1) Version
    ∷ body_questions h.kind body

unfoldable pub questions : List ℕ → ℕ → List Question
questions frame t = asked (header_of frame) (length frame) (body_of frame) t

-- an answer, by the values that it holds
pub data Told : Type 0 where
  level : Header → ℕ → List ℕ → Told
  sheet : Header → List ℕ → Told
  refused : Refusal → Told

abbrev pub told : Record → Told
told (Level h l b) = level h l b.now
told (Sheet h b) = sheet h b.now

abbrev pub tell : Result Record Refusal → Told
tell (Ok r) = told r
tell (Err e) = refused e

-- kind 0 is a level, whose value is the body's byte
abbrev pub record_with : Header → List ℕ → Told
record_with h body = cond (h.kind == 0) (level h (slice_index body 0) body) (sheet h body)

abbrev pub unless : Option Refusal → Told → Told
unless None r = r
unless (Some e) r = refused e

abbrev pub read_as : Header → ℕ → List ℕ → ℕ → Told
read_as h n body t = unless (first_refusal (asked h n body t)) (record_with h body)

-- what a frame with a tag of t bytes is read as
unfoldable pub reads : List ℕ → ℕ → Told
reads frame t = unless (first_refusal (questions frame t)) (record_with (header_of frame) (body_of frame))

abbrev pub header_in : Record → Header
header_in (Level h l b) = h
header_in (Sheet h b) = h

-- the level, and 0 for a sheet
abbrev pub level_in : Record → ℕ
level_in (Level h l b) = l
level_in (Sheet h b) = 0

abbrev pub body_in : Record → List ℕ
body_in (Level h l b) = b.now
body_in (Sheet h b) = b.now

abbrev pub is_level : Record → Bool
is_level (Level h l b) = true
is_level (Sheet h b) = false

-- the record of a frame, part by part
pub record ReadOf (frame : List ℕ) (t : ℕ) (r : Record) : Type 0 where
  pub passes : first_refusal (questions frame t) ≡ None
  pub header : header_in r ≡ header_of frame
  pub kind : is_level r ≡ ((header_of frame).kind == 0)
  pub level : level_in r ≡ cond ((header_of frame).kind == 0) (slice_index (body_of frame) 0) 0
  pub body : body_in r ≡ body_of frame
