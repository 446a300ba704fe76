use Rattle.std.proofs.Common.{◌≡◌, take}
use Rattle.mdxmac.specs.Bytes.{put}
use Rattle.mdxmac.specs.Mdx.{K'}
use Rattle.mdxmac.proofs.lay.put_key.Given as goal

abbrev pub invariant-loop-i : goal.invariant-loop-i
invariant-loop-i l = l.block ≡ put l.at (take l.i (K' l.key)) l.initial.block
