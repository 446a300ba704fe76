-- The form of a line: a verb, and what stands in the fields after it, parted by one space each. Assumes nothing.
use Rattle.std.specs.Prelude.{ℕ, Bool, true, false, cond, ◌&&◌, List, [], ◌∷◌, ◌++◌, length, Some, None, codes, Option, nat_le}
use Rattle.std.specs.Str.{bytes_eq}
use Rattle.text.specs.Decimal.{number_of}
use Rattle.text.specs.Hex.{bytes_of}
use Rattle.text.specs.Pieces.{pieces}
use Rattle.scripts.specs.declared.verb.Verb.{Verb}
use Rattle.scripts.specs.declared.verb.Verb.TheVariants.{Node, Calling, Meter, State}
use Rattle.scripts.specs.declared.verb.Deed.TheVariants.{Install, Clear, Open, Feed, Finish, Judge, Drop, Seal, Take, Carry, Decline}
use Rattle.scripts.specs.declared.verb.Field.{Field}
use Rattle.scripts.specs.declared.verb.Field.TheVariants.{Number, Bytes}

abbrev pub name_of : Verb → List ℕ
name_of Node = codes "node"
name_of (Calling Install) = codes "install"
name_of (Calling Clear) = codes "clear"
name_of (Calling Open) = codes "open"
name_of (Calling Feed) = codes "feed"
name_of (Calling Finish) = codes "finish"
name_of (Calling Judge) = codes "judge"
name_of (Calling Drop) = codes "drop"
name_of (Calling Seal) = codes "seal"
name_of (Calling Take) = codes "take"
name_of (Calling Carry) = codes "carry"
name_of (Calling Decline) = codes "decline"
name_of Meter = codes "meter"
name_of State = codes "state"

abbrev pub verbs : List Verb
verbs =
    Node ∷ Calling Install ∷ Calling Clear ∷ Calling Open ∷ Calling Feed ∷ Calling Finish ∷ Calling Judge ∷ Calling Drop ∷
    Calling Seal ∷ Calling Take ∷ Calling Carry ∷ Calling Decline ∷ Meter ∷ State ∷ []

-- the verb of that name
abbrev pub verb_in : List Verb → List ℕ → Option Verb
verb_in [] word = None
verb_in (v ∷ vs) word = cond (bytes_eq word (name_of v)) (Some v) (verb_in vs word)

-- the six numbers of an order
abbrev pub order : List Field
order = Number 255 ∷ Number 4294967295 ∷ Number 255 ∷ Number 255 ∷ Number 65535 ∷ Number 65535 ∷ []

-- what stands in the fields of a verb: numbers with their limits, and bytes
abbrev pub form_of : Verb → List Field
form_of Node = Number 999 ∷ Number 999 ∷ Number 999 ∷ Number 65535 ∷ []
form_of (Calling Install) = Number 255 ∷ Bytes ∷ []
form_of (Calling Clear) = Number 255 ∷ []
form_of (Calling Open) = Number 255 ∷ Number 255 ∷ []
form_of (Calling Feed) = Number 255 ∷ Bytes ∷ []
form_of (Calling Finish) = Number 255 ∷ Number 65535 ∷ []
form_of (Calling Judge) = Number 255 ∷ Bytes ∷ []
form_of (Calling Drop) = Number 255 ∷ []
form_of (Calling Seal) = Number 255 ∷ Number 65535 ∷ Number 255 ∷ Bytes ∷ Number 65535 ∷ []
form_of (Calling Take) = Bytes ∷ []
form_of (Calling Carry) = order
form_of (Calling Decline) = order
form_of Meter = []
form_of State = []

-- what a line says: a verb, its numbers in their order, and its bytes
pub record Said : Type 0 where
  pub verb : Verb
  pub numbers : List ℕ
  pub bytes : List ℕ

abbrev pub said : Verb → List ℕ → List ℕ → Said
said v ns bs = record { verb = v; numbers = ns; bytes = bs }

-- a number for each that the form asks for, each at most its limit?
abbrev pub numbered : List Field → List ℕ → Bool
numbered [] [] = true
numbered [] (n ∷ ns) = false
numbered (Number most ∷ form) [] = false
numbered (Number most ∷ form) (n ∷ ns) = nat_le n most && numbered form ns
numbered (Bytes ∷ form) ns = numbered form ns

-- no bytes where the form asks for none?
abbrev pub silent : List Field → List ℕ → Bool
silent [] [] = true
silent [] (b ∷ bs) = false
silent (Number most ∷ form) bs = silent form bs
silent (Bytes ∷ form) bs = true

abbrev pub formed : Said → Bool
formed s = numbered (form_of s.verb) s.numbers && silent (form_of s.verb) s.bytes

-- at most the limit
abbrev pub limited : ℕ → Option ℕ → Option ℕ
limited most None = None
limited most (Some n) = cond (nat_le n most) (Some n) None

-- what was said so far, and a field more
abbrev pub with_number : Said → Option ℕ → Option Said
with_number s None = None
with_number s (Some n) = Some (said s.verb (s.numbers ++ n ∷ []) s.bytes)

abbrev pub with_bytes : Said → Option (List ℕ) → Option Said
with_bytes s None = None
with_bytes s (Some bs) = Some (said s.verb s.numbers bs)

abbrev pub with_field : Said → Field → List ℕ → Option Said
with_field s (Number most) text = with_number s (limited most (number_of text))
with_field s Bytes text = with_bytes s (bytes_of text)

-- the fields, one after the other: as many as the form has
abbrev pub with_fields : Option Said → List Field → List (List ℕ) → Option Said
with_fields None form texts = None
with_fields (Some s) [] [] = Some s
with_fields (Some s) [] (t ∷ texts) = None
with_fields (Some s) (f ∷ form) [] = None
with_fields (Some s) (f ∷ form) (t ∷ texts) = with_fields (with_field s f t) form texts

abbrev pub begun : Option Verb → List (List ℕ) → Option Said
begun None texts = None
begun (Some v) texts = with_fields (Some (said v [] [])) (form_of v) texts

abbrev pub said_in : List (List ℕ) → Option Said
said_in [] = None
said_in (word ∷ texts) = begun (verb_in verbs word) texts

-- what a line says, if it is of a form, and of at most 65,536 bytes
unfoldable pub said_by : List ℕ → Option Said
said_by line = cond (nat_le (length line) 65536) (said_in (pieces 32 line)) None
