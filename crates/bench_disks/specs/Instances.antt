-- The two bench disks as readers and disks, for clauses of crates above.
use Rattle.bench_disks.specs.contracts.cache.Cache.{the_row as cache_row}
use Rattle.bench_disks.specs.contracts.cache.calls.CacheHolding.TheImpl as cache_holding
use Rattle.bench_disks.specs.contracts.disk.BenchDiskDisk.TheImpl as bench_disk
use Rattle.bench_disks.specs.contracts.disk.BenchDiskReader.TheImpl as bench_reader
use Rattle.bench_disks.specs.contracts.memory.Memory.{the_row as memory_row}
use Rattle.bench_disks.specs.contracts.memory.MemoryHolding.TheImpl as memory_holding
use Rattle.bench_disks.specs.declared.cache.Cache.{Cache}
use Rattle.bench_disks.specs.declared.disk.BenchDisk.{BenchDisk}
use Rattle.bench_disks.specs.declared.memory.Memory.{Memory}
use Rattle.disks.specs.declared.disk.Disk
use Rattle.disks.specs.declared.reader.Reader

-- the types that the crate names Plain and Buffered
abbrev pub Plain : Type 0
Plain = BenchDisk Memory

abbrev pub Buffered : Type 0
Buffered = BenchDisk Cache

abbrev pub plain_reader : Reader.Ghosts Plain
plain_reader = bench_reader.ghosts memory_row memory_holding.ghosts memory_holding.dict

abbrev pub plain_disk : Disk.Ghosts Plain
plain_disk = bench_disk.ghosts memory_row memory_holding.ghosts memory_holding.dict

abbrev pub buffered_reader : Reader.Ghosts Buffered
buffered_reader = bench_reader.ghosts cache_row cache_holding.ghosts cache_holding.dict

abbrev pub buffered_disk : Disk.Ghosts Buffered
buffered_disk = bench_disk.ghosts cache_row cache_holding.ghosts cache_holding.dict
