use Rattle.std.proofs.Common.{rules}
use Rattle.disks.specs.Values.{answer_values}
use Rattle.pair.specs.Restarts.{Restarts}
use Rattle.pair.specs.Restarting.{pair_restarting}
use Rattle.pair.proofs.pair.PairDisk.restart.Goals as goal
use Rattle.pair.proofs.pair.PairDisk.restart.Goals.{in-On, in_default-matches}

pub returns : goal.returns
returns g c =
    let steps : Restarts g.A.Reader g.A.Disk g.B.Reader g.B.Disk c.args.self.now (answer_values c.answer.result) _ = elim c.match-matches.branch [ in-On w ↦ search rules | in_default-matches w ↦ search rules ] in
    record {
      steps = steps;
      means = pair_restarting g.A.Reader g.A.Disk g.B.Reader g.B.Disk g.met.A.LawfulReader.proper g.met.A.LawfulReader.reading g.met.B.Disk.writing g.met.B.Disk.flushing g.met.A.Disk.restarting g.met.B.Disk.restarting _ _ _ steps;
    }
