-- What a memory holds, and what a cache does.
use Rattle.std.specs.Prelude.{[], vec_items}
use Rattle.bench_disks.specs.declared.cache.Cache.{Cache}
use Rattle.bench_disks.specs.declared.memory.Memory.{Memory}
use Rattle.bench_disks.specs.Waiting.{Held}

-- in a memory nothing ever waits
abbrev pub memory_held : Memory → Held
memory_held m = record { waiting = []; memory = vec_items m.bytes }

abbrev pub held : Cache → Held
held c = record { waiting = c.waiting.items; memory = vec_items c.memory.bytes }
