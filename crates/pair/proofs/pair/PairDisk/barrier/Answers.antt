use Rattle.std.proofs.Common.{rules}
use Rattle.pair.specs.Passing.{passed_as}
use Rattle.pair.specs.Writing.{pair_flushing}
use Rattle.pair.proofs.pair.PairDisk.barrier.Goals as goal

pub returns : goal.returns
returns g c =
    let steps = passed_as g.A.Disk.barriers g.B.Disk.barriers c.in_turn.ensures (λ s t x h. search rules) (λ s t x h. search rules) in
    record {
      steps = steps;
      means = pair_flushing g.A.Reader g.A.Disk g.B.Reader g.B.Disk g.met.A.Disk.flushing g.met.B.Disk.flushing _ _ _ steps;
    }
