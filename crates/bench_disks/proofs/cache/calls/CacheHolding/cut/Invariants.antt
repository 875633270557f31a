use Rattle.std.proofs.Common.{◌≡◌}
use Rattle.std.specs.VecDeque.{deque_len}
use Rattle.bench_disks.specs.Caches.{held as held_of}
use Rattle.bench_disks.specs.Waiting.{cut}
use Rattle.bench_disks.proofs.cache.calls.CacheHolding.cut.Given as goal

abbrev pub invariant-loop-write : goal.invariant-loop-write
invariant-loop-write l = cut l.bits (held_of l.self) ≡ cut l.pick (held_of l.initial.self)

abbrev pub decreases-loop-write : goal.decreases-loop-write
decreases-loop-write l = deque_len l.self.waiting
