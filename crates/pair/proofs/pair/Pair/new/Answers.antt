use Rattle.pair.specs.Sides.{DeadWithBottoms}
use Rattle.pair.specs.Causes.{dead_with_bottoms}
use Rattle.pair.proofs.pair.Pair.new.Given
use Rattle.pair.proofs.pair.Pair.new.Goals as goal

bottoms : (g : Given.Over) → DeadWithBottoms g.A.Reader g.A.Disk g.B.Reader g.B.Disk
bottoms g = dead_with_bottoms g.A.Reader g.A.Disk g.B.Reader g.B.Disk g.met.A.Disk.losing g.met.B.Disk.losing

pub returns-in-Ok-clause-bottoms : goal.returns-in-Ok-clause-bottoms
returns-in-Ok-clause-bottoms g c = bottoms g

pub returns-in-Err-clause-bottoms : goal.returns-in-Err-clause-bottoms
returns-in-Err-clause-bottoms g c = bottoms g
