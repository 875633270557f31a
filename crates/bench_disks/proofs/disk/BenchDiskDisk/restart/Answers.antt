use Rattle.std.proofs.Common.{rules}
use Rattle.bench_disks.specs.Keeping.{restart_law}
use Rattle.bench_disks.proofs.disk.BenchDiskDisk.restart.Goals as goal

pub returns-clause-means : goal.returns-clause-means
returns-clause-means g c = λ snd. restart_law _ _ snd _ (search rules)
