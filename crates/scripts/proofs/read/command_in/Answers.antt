use Rattle.std.proofs.Common.{ap, ◌∙◌}
use Rattle.scripts.proofs.Fields.{texts_of, line_long, line_short}
use Rattle.scripts.proofs.read.command_in.Goals as goal

pub returns-then-line-gt-LINE_BYTES : goal.returns-then-line-gt-LINE_BYTES
returns-then-line-gt-LINE_BYTES c = line_long c.args.line.now c.if-line-gt-LINE_BYTES.true

pub returns : goal.returns
returns c = rw (line_short c.args.line.now c.deref.result.now c.if-line-gt-LINE_BYTES.false (ap texts_of c.deref.ensures.value ∙ c.in_ok-words.ensures)) c.words_in.ensures
