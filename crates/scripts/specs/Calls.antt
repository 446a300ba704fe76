-- The calls of a script: how each call is spelled, and which lines are calls. Assumes nothing.
use Rattle.std.specs.Prelude.{ℕ, Bool, true, false, cond, List, [], ◌∷◌, Some, None, Option}
use Rattle.node.specs.declared.desk.Fields.{Fields}
use Rattle.node.specs.declared.replay.Call.{Call}
use Rattle.node.specs.declared.replay.Call.TheVariants.{Install, Clear, Open, Feed, Finish, Judge, Drop, Seal, Take, Carry, Decline}
use Rattle.scripts.specs.declared.verb.Deed.TheVariants.{Install as to-install, Clear as to_clear, Open as to-open, Feed as to-feed, Finish as to-finish, Judge as to-judge, Drop as to_drop, Seal as to-seal, Take as to_take, Carry as to-carry, Decline as to-decline}
use Rattle.scripts.specs.declared.verb.Verb.{Verb}
use Rattle.scripts.specs.declared.verb.Verb.TheVariants.{Node, Calling, Meter, State}
use Rattle.scripts.specs.Form.{Said, said}

-- the six numbers of an order
abbrev pub numbers_of : Fields → List ℕ
numbers_of o = o.slot ∷ o.number ∷ o.kind ∷ o.level ∷ o.place ∷ o.size ∷ []

-- what a line says that asks for this call
abbrev pub spelled : Call → Said
spelled (Install slot key) = said (Calling to-install) (slot ∷ []) key.now
spelled (Clear slot) = said (Calling to_clear) (slot ∷ []) []
spelled (Open lane slot) = said (Calling to-open) (lane ∷ slot ∷ []) []
spelled (Feed lane piece) = said (Calling to-feed) (lane ∷ []) piece.now
spelled (Finish lane room) = said (Calling to-finish) (lane ∷ room ∷ []) []
spelled (Judge lane tag) = said (Calling to-judge) (lane ∷ []) tag.now
spelled (Drop lane) = said (Calling to_drop) (lane ∷ []) []
spelled (Seal slot kind body address room) = said (Calling to-seal) (slot ∷ address ∷ kind ∷ room ∷ []) body.now
spelled (Take frame) = said (Calling to_take) [] frame.now
spelled (Carry o) = said (Calling to-carry) (numbers_of o) []
spelled (Decline o) = said (Calling to-decline) (numbers_of o) []

abbrev pub is_call : Verb → Bool
is_call Node = false
is_call (Calling d) = true
is_call Meter = false
is_call State = false

-- the lines that ask for a call
abbrev pub calls_asked : List (Option Said) → List Said
calls_asked [] = []
calls_asked (None ∷ lines) = calls_asked lines
calls_asked (Some s ∷ lines) = cond (is_call s.verb) (s ∷ calls_asked lines) (calls_asked lines)
