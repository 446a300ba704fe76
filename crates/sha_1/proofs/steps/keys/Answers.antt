use Rattle.std.proofs.Common.{take, rules}
use Rattle.hash.proofs.Sums.{blank_at}
use Rattle.sha_1.specs.Groups.{keyed_none}
use Rattle.sha_1.proofs.steps.keys.Goals as goal

pub returns-else-this-ne0 : goal.returns-else-this-ne0
returns-else-this-ne0 g c = keyed_none (take 4 c.args.added.now) (blank_at c.args.added.now (c.requires (search rules)))
