use Rattle.std.proofs.Common.{◌∙◌, arith}
use Rattle.bench_disks.specs.Caches.{held as held_of}
use Rattle.bench_disks.proofs.Cutting.{cut_all}
use Rattle.bench_disks.proofs.cache.calls.CacheHolding.flush.Goals as goal

pub returns : goal.returns
returns c = c.cut.ensures ∙ cut_all (held_of c.args.self.now) (omega arith)
