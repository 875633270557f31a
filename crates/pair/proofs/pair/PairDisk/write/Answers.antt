use Rattle.std.proofs.Common.{rules}
use Rattle.disks.specs.Values.{answer_values}
use Rattle.pair.specs.Calls.{WriteOf, Writes}
use Rattle.pair.specs.Passing.{passed_as}
use Rattle.pair.specs.Writing.{pair_writing}
use Rattle.pair.proofs.pair.PairDisk.write.Goals as goal

pub returns : goal.returns
returns g c =
    let passed = passed_as (WriteOf g.A.Disk c.args.block c.args.content.now) (WriteOf g.B.Disk c.args.block c.args.content.now) c.in_turn.ensures (λ s t x h. search rules) (λ s t x h. search rules) in
    let steps : Writes g.A.Reader g.A.Disk g.B.Reader g.B.Disk c.args.self.now c.args.block c.args.content.now (answer_values c.in_turn.result) c.in_turn.new.self = search rules in
    record {
      steps = steps;
      means = pair_writing g.A.Reader g.A.Disk g.B.Reader g.B.Disk g.met.A.Disk.writing g.met.B.Disk.writing _ _ _ _ _ (record { long = c.told-content; bytes = c.fits-content }) steps;
    }
