-- What a writer lays at the front of a buffer, and that a reader has it back. Assumes nothing.
use Rattle.std.specs.Prelude.{◌≡◌, ℕ, ◌+◌, Bool, cond, List, [], ◌∷◌, ◌++◌, length, drop, Some, None, nat_le}
use Rattle.refusals.specs.declared.Refusal.TheVariants.{Body, Room}
use Rattle.refusals.specs.Questions.{Question, asks, first_refusal}
use Rattle.frame.specs.declared.Header.{Header}
use Rattle.frame.specs.Layout.{header_of, bytes_of_header, body_of, signed_part, tag_in, Fitting, RoundTrip, HeaderFits}
use Rattle.frame.specs.Reading.{both, body_questions, questions, record_with, reads}

-- the header that is written for a body
abbrev pub header_for : ℕ → ℕ → ℕ → ℕ → List ℕ → Header
header_for slot kind address number body =
    record { version = 1; slot = slot; kind = kind; size = length body; address = address; number = number }

-- a body whose length a header can tell, and room for both
abbrev pub fits_within : List ℕ → List ℕ → Bool
fits_within body out = both (nat_le (length body) 255) (nat_le (8 + length body) (length out))

-- the questions on a body and the place for it
abbrev pub front_questions : List ℕ → List ℕ → List Question
front_questions body out = asks (nat_le (length body) 255) Body ∷ asks (nat_le (8 + length body) (length out)) Room ∷ []

-- a buffer after header and body were written at its front, if they fit
abbrev pub front_laid : ℕ → ℕ → ℕ → ℕ → List ℕ → List ℕ → List ℕ
front_laid slot kind address number body out =
    cond (fits_within body out) (bytes_of_header (header_for slot kind address number body) ++ (body ++ drop (8 + length body) out)) out

-- a header of this version and the body that it tells of, each as it should be
pub record Sealable (h : Header) (body : List ℕ) : Type 0 where
  pub fits : Fitting h
  pub version : h.version ≡ 1
  pub size : h.size ≡ length body
  pub right : first_refusal (body_questions h.kind body) ≡ None

-- a frame passes every question, and is read as that header, that body and that tag
pub record ReadBack (h : Header) (b g frame : List ℕ) (t : ℕ) : Type 0 where
  pub passes : first_refusal (questions frame t) ≡ None
  pub header : header_of frame ≡ h
  pub body : body_of frame ≡ b
  pub signed : signed_part frame ≡ bytes_of_header h ++ b
  pub tag : tag_in frame ≡ g
  pub read : reads frame t ≡ record_with h b

-- what is laid out with a tag behind it is read back
abbrev pub Sealed : Type 0
Sealed = (h : Header) (body tag : List ℕ) (t : ℕ) → Sealable h body → length tag ≡ t → ReadBack h body tag (bytes_of_header h ++ (body ++ tag)) t

-- a frame that passes every question is its header and body, and then a tag of t bytes
pub record Parted (frame : List ℕ) (t : ℕ) : Type 0 where
  pub version : (header_of frame).version ≡ 1
  pub right : first_refusal (body_questions (header_of frame).kind (body_of frame)) ≡ None
  pub long : length frame ≡ 8 + (header_of frame).size + t
  pub body : length (body_of frame) ≡ (header_of frame).size
  pub signed : length (signed_part frame) ≡ 8 + (header_of frame).size
  pub tag : length (tag_in frame) ≡ t
  pub whole : signed_part frame ++ tag_in frame ≡ frame

abbrev pub Parts : Type 0
Parts = (frame : List ℕ) (t : ℕ) → first_refusal (questions frame t) ≡ None → Parted frame t

-- a frame of slot 2 to address 258 with the number 7, a level and a tag of one byte
abbrev pub level_frame : ℕ → List ℕ
level_frame l = 0x28 ∷ 0x01 ∷ 0x01 ∷ 0x02 ∷ 0x00 ∷ 0x00 ∷ 0x00 ∷ 0x07 ∷ l ∷ 0xA5 ∷ []

abbrev pub HeaderCases : Type 0
HeaderCases =
    (bytes_of_header (record { version = 1; slot = 2; kind = 0; size = 1; address = 258; number = 7 }) ≡ 0x28 ∷ 0x01 ∷ 0x01 ∷ 0x02 ∷ 0x00 ∷ 0x00 ∷ 0x00 ∷ 0x07 ∷ [])
    × (bytes_of_header (record { version = 1; slot = 7; kind = 1; size = 255; address = 65535; number = 4294967295 }) ≡ 0x3D ∷ 0xFF ∷ 0xFF ∷ 0xFF ∷ 0xFF ∷ 0xFF ∷ 0xFF ∷ 0xFF ∷ [])
    × (first_refusal (questions (level_frame 100) 1) ≡ None)
    × (first_refusal (questions (level_frame 101) 1) ≡ Some Body)

pub record LayoutLaws : Type 0 where
  pub round : RoundTrip
  pub fits : HeaderFits
  pub sealed : Sealed
  pub parts : Parts
  pub cases : HeaderCases
