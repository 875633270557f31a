-- Disks whose calls are those of a bench disk.
use Rattle.std.specs.Prelude.{◌≡◌, ℕ}
use Rattle.bench_disks.specs.Calls.{Bench, reads, writes, barriers, restarts}
use Rattle.bench_disks.specs.Waiting.{Held}
use Rattle.disks.specs.Meaning.{Content, Shown}
use Rattle.disks.specs.Values.{Answer}

-- each call, by the disk's own account of it, is that call of its bench
pub record ByBench {S : Type 0} (reads_by : S → ℕ → Shown → S → Type 0) (writes_by : S → ℕ → Content → Answer Unit → S → Type 0) (barriers_by : S → Answer Unit → S → Type 0) (restarts_by : S → Answer Unit → S → Type 0) (bench : S → Bench) (effect : ℕ → Content → Held → Held) : Type 0 where
  pub reading : (s : S) (k : ℕ) (x : Shown) (t : S) → reads_by s k x t → (x, bench t) ≡ reads k (bench s)
  pub writing : (s : S) (k : ℕ) (b : Content) (r : Answer Unit) (t : S) → writes_by s k b r t → (r, bench t) ≡ writes effect k b (bench s)
  pub flushing : (s : S) (r : Answer Unit) (t : S) → barriers_by s r t → (r, bench t) ≡ barriers (bench s)
  pub restarting : (s : S) (r : Answer Unit) (t : S) → restarts_by s r t → (r, bench t) ≡ restarts (bench s)

-- the account of a bench disk, which is in those words already
abbrev pub own_account : {S : Type 0} (bench : S → Bench) (effect : ℕ → Content → Held → Held) →
    ByBench (λ s k x t. (x, bench t) ≡ reads k (bench s)) (λ s k b r t. (r, bench t) ≡ writes effect k b (bench s)) (λ s r t. (r, bench t) ≡ barriers (bench s)) (λ s r t. (r, bench t) ≡ restarts (bench s)) bench effect
own_account bench effect = record { reading = λ s k x t e. e; writing = λ s k b r t e. e; flushing = λ s r t e. e; restarting = λ s r t e. e }
