use Rattle.std.proofs.Common.{◌≡◌, take, drop}
use Rattle.mdxmac.specs.Bytes.{put, both}
use Rattle.mdxmac.proofs.lay.mix_bytes.Given as goal

abbrev pub invariant-loop-i : goal.invariant-loop-i
invariant-loop-i l = l.block ≡ put l.at (take l.i (both (take 16 (drop l.at l.initial.block)) l.with)) l.initial.block
