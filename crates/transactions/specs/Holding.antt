-- The store of the code by its values, and what ties it to its disk.
use Rattle.std.specs.Prelude.{◌≡◌, ◌≢◌, ◌+◌, false, not, ◌&&◌, [], ◌++◌, take, drop, Err}
use Rattle.disks.specs.Values.{On, PastEnd}
use Rattle.disks.specs.declared.reader.Reader
use Rattle.store.specs.Layout.{InRange}
use Rattle.store.specs.Headers.{header_values}
use Rattle.transactions.specs.StoreAnswers.{Disk, StoreAnswer}
use Rattle.transactions.specs.Stores.{StoreValues, at, phase_values, has_ticket, is_down, is_open}
use Rattle.transactions.specs.declared.plan_store.Store.{Store}

abbrev pub store_values : {D : Type 0} → Store D → StoreValues D
store_values s = at s.disk (phase_values s.phase) (has_ticket s.phase) s.table.n (take s.logged (header_values s.table).log) (drop s.logged (header_values s.table).log)

-- what holds of every store: it is open exactly if it is up with a ticket out, there are open writes only with a ticket out, and its table makes a header
pub record Ordered {D : Type 0} (s : StoreValues D) : Type 0 where
  pub opens : is_open s.phase ≡ (s.out && not (is_down s.phase))
  pub closed : s.out ≡ false → s.opened ≡ []
  pub table : InRange (record { n = s.n; log = s.logged ++ s.opened })

-- what ties a store to its disk: the disk is sound, and while the store is up the disk is on and has the size for N
pub record Tied {D : Type 0} (R : Reader.Ghosts D) (s : StoreValues D) : Type 0 where
  pub ordered : Ordered s
  pub sound : R.sound s.disk
  pub power : is_down s.phase ≡ false → (R.view s.disk).state ≡ On
  pub size : is_down s.phase ≡ false → (R.view s.disk).size ≡ 33 + s.n

-- a call's answer r and the store t that it leaves: t is tied to its disk, and no block past the end was asked for
pub record Kept {D X : Type 0} (R : Reader.Ghosts D) (r : StoreAnswer X) (t : StoreValues D) : Type 0 where
  pub tied : Tied R t
  pub inside : r ≢ Err (Disk PastEnd)

-- what a call promises: a store that was tied to its disk is kept
abbrev pub Keeps : {D X : Type 0} → Reader.Ghosts D → StoreValues D → StoreAnswer X → StoreValues D → Type 0
Keeps R s r t = Tied R s → Kept R r t
