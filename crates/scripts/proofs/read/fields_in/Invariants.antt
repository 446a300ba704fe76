use Rattle.std.proofs.Common.{◌≡◌, length}
use Rattle.scripts.specs.Form.{form_of}
use Rattle.scripts.proofs.Fields.{Left}
use Rattle.scripts.proofs.read.fields_in.Given as goal

abbrev pub invariant-loop-field : goal.invariant-loop-field
invariant-loop-field l = Left l.draft (length l.yielded) (form_of l.initial.draft.verb) l.texts ≡ Left l.initial.draft 0 (form_of l.initial.draft.verb) l.texts
