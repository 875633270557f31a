-- A bench disk by its state, the words left of its schedule, and what it holds.
use Rattle.std.specs.Prelude.{◌≡◌}
use Rattle.std.specs.Fn.{Once, FnOnceReturnsAtMut}
use Rattle.std.specs.Borrow.{MutBor}
use Rattle.disks.specs.Values.{state_values}
use Rattle.bench.specs.Schedules.{words_left}
use Rattle.bench_disks.specs.declared.cache.Cache.{Cache}
use Rattle.bench_disks.specs.declared.disk.BenchDisk.{BenchDisk}
use Rattle.bench_disks.specs.declared.memory.Memory.{Memory}
use Rattle.bench_disks.specs.Caches.{memory_held, held}
use Rattle.bench_disks.specs.Calls.{Bench}
use Rattle.bench_disks.specs.Waiting.{Held}

module _ {H : Type 0} (held : H → Held) where
  -- a disk of any make, by what is held in it
  abbrev pub bench_of : BenchDisk H → Bench
  bench_of d = record {
    state = state_values d.faults.state;
    words = words_left d.faults.schedule;
    held = held d.held;
  }

  -- a call of the closure at h does to what is held what f says
  abbrev pub HasEffect : {F : Type 0} → Once F (MutBor H × Unit {0}) (Unit × (MutBor H × Unit {0})) → F → (Held → Held) → H → Type 0
  HasEffect g effect f h = (after : H) → FnOnceReturnsAtMut g effect h tt after → held after ≡ f (held h)

-- at a plain disk nothing ever waits
abbrev pub plain_bench : BenchDisk Memory → Bench
plain_bench = bench_of memory_held

abbrev pub buffered_bench : BenchDisk Cache → Bench
buffered_bench = bench_of held
