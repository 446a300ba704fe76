-- What a command that was read says. Assumes nothing.
use Rattle.std.specs.Prelude.{◌≡◌, Some, None, Ok, Err, vec_items, Option, Result}
use Rattle.scripts.specs.declared.command.Command.{Command}
use Rattle.scripts.specs.declared.command.Draft.{Draft}
use Rattle.scripts.specs.declared.read.Unread.{Unread}
use Rattle.scripts.specs.declared.read.Unread.TheVariants.{OtherForm, NoMemory}
use Rattle.scripts.specs.Form.{Said, said}

abbrev pub told : Command → Said
told c = said c.verb (vec_items c.numbers) (vec_items c.bytes)

-- a command that is still being read
abbrev pub drafted : Draft → Said
drafted c = said c.verb (vec_items c.numbers) (vec_items c.bytes)

-- what was read is what is said, or no form was met where nothing is; want of memory says nothing of the text
abbrev pub ReadAs : {A : Type 0} → (A → Said) → Result A Unread → Option Said → Type 0
ReadAs f (Ok a) o = Some (f a) ≡ o
ReadAs f (Err OtherForm) o = None ≡ o
ReadAs f (Err (NoMemory e)) o = Unit {0}
