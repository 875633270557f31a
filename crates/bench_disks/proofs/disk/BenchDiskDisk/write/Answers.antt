use Rattle.std.proofs.Common.{rules}
use Rattle.bench_disks.specs.Keeping.{write_law}
use Rattle.bench_disks.proofs.disk.BenchDiskDisk.write.Goals as goal

pub returns-clause-means : goal.returns-clause-means
returns-clause-means g c = λ snd. write_law _ _ snd g.H.Holding.effect c.args.block c.args.content.now _
    (λ lt. g.met.H.Holding.wrote _ _ _ snd.held lt (record { long = c.told-content; bytes = c.fits-content })) (search rules)
