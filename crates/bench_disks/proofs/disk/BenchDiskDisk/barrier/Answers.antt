use Rattle.std.proofs.Common.{rules, ap, ◌∙◌}
use Rattle.disks.specs.Values.{CauseValues}
use Rattle.bench_disks.specs.Calls.{answered, called}
use Rattle.bench_disks.specs.Disks.{bench_of}
use Rattle.bench_disks.specs.Keeping.{barrier_law}
use Rattle.bench_disks.specs.Waiting.{flush}
use Rattle.bench_disks.proofs.disk.BenchDiskDisk.barrier.Goals as goal

pub returns-clause-steps : goal.returns-clause-steps
returns-clause-steps g c = c.call.ensures flush (λ after r. search rules) ∙ ap (λ (k : CauseValues). answered tt (called k flush (bench_of g.H.Holding.held c.args.self.now))) c.from.ensures

pub returns-clause-means : goal.returns-clause-means
returns-clause-means g c = λ snd. barrier_law _ _ snd _ (returns-clause-steps g c)
