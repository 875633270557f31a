use Rattle.pair.specs.Restarts.{Copied}
use Rattle.pair.proofs.copy.copy_blocks.Given as goal

abbrev pub invariant-loop-block : goal.invariant-loop-block
invariant-loop-block g l = Copied g.A.Reader g.B.Disk l.block l.initial.from l.initial.to l.from l.to
