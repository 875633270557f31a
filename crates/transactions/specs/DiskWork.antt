-- The work that a store does on its disk, call by call.
use Rattle.std.specs.Prelude.{◌≡◌, ℕ, zero, suc, List, [], ◌∷◌, replicate, Ok, Err}
use Rattle.disks.specs.Values.{RefusalValues, Answer}
use Rattle.disks.specs.Meaning.{Content, Shown}
use Rattle.disks.specs.declared.reader.Reader
use Rattle.disks.specs.declared.disk.Disk
use Rattle.store.specs.Layout.{HeaderValues, empty, packed}
use Rattle.store.specs.Log.{home}
use Rattle.store.specs.LookValues.{LookAnswer}
use Rattle.store.specs.Looks.{ReadsHeader}
use Rattle.transactions.specs.StoreAnswers.{StoreAnswer, Disk as DiskRefused, from_look}

-- work: the disk before, the answer, the disk after
abbrev pub Work : Type 0 → Type 1
Work D = D → Answer Unit → D → Type 0

-- what follows an answer: something more if it was done, else nothing
abbrev pub IfDone : {X : Type 0} → Answer X → (X → Type 0) → (RefusalValues → Type 0) → Type 0
IfDone (Ok x) P Q = P x
IfDone (Err e) P Q = Q e

-- the one, then the other; the first refusal ends it
abbrev pub ◌then◌ : {D : Type 0} → Work D → Work D → Work D
◌then◌ A B s r t = (q : Answer Unit) × (m : _) × A s q m × IfDone q (λ u. B m r t) (λ e. (r ≡ Err e) × (t ≡ m))

infixr 20 ◌then◌
abbrev pub nothing : {D : Type 0} → Work D
nothing s r t = (r ≡ Ok tt) × (t ≡ s)

module _ {D : Type 0} (R : Reader.Ghosts D) (W : Disk.Ghosts D) where
  -- the content put into block k
  abbrev pub putting : ℕ → Content → Work D
  putting k b s r t = W.writes s k b r t

  -- what block k shows put into block j
  abbrev pub copying : ℕ → ℕ → Work D
  copying k j s r t = (x : Shown) × (m : D) × R.reads s k x m × IfDone x (λ b. putting j b m r t) (λ e. (r ≡ Err e) × (t ≡ m))

  -- slots k, k + 1, and so on copied home in order
  abbrev pub copying_home : ℕ → List ℕ → Work D
  copying_home k [] = nothing
  copying_home k (a ∷ log) = copying k (home a) then copying_home (suc k) log

  -- The header written between two barriers: the first lets all that it speaks of stand before it, the second lets it stand itself.
  abbrev pub heading : HeaderValues → Work D
  heading h = W.barriers then (putting 0 (packed h) then W.barriers)

  -- the work of settle: the slots copied home, and then an empty log in the header; none at all where the log is empty
  abbrev pub settling : ℕ → List ℕ → Work D
  settling n [] = nothing
  settling n (a ∷ log) = copying_home 1 (a ∷ log) then heading (empty n)

  -- zeros put into c blocks from k on
  abbrev pub zeroing : ℕ → ℕ → Work D
  zeroing k zero = nothing
  zeroing k (suc c) = putting k (replicate 512 0) then zeroing (suc k) c

  -- the work of format for N addresses
  abbrev pub formatting : ℕ → Work D
  formatting n = W.restarts then (zeroing (home 0) n then (putting 0 (packed (empty n)) then W.barriers))

  -- done work leaves an empty log
  abbrev pub emptied : ℕ → Answer Unit → StoreAnswer HeaderValues
  emptied n (Ok u) = Ok (empty n)
  emptied n (Err e) = Err (DiskRefused e)

  -- what follows the header
  abbrev pub SettlesHeader : LookAnswer HeaderValues → D → StoreAnswer HeaderValues → D → Type 0
  SettlesHeader (Ok h) s x t = (r : Answer Unit) × settling h.n h.log s r t × (x ≡ emptied h.n r)
  SettlesHeader (Err e) s x t = (x ≡ Err (from_look e)) × (t ≡ s)

  -- the work of restart for N addresses: the disk's restart, the header, and the work of settle
  abbrev pub RecoversAt : ℕ → D → StoreAnswer HeaderValues → D → Type 0
  RecoversAt n s x t = (q : Answer Unit) × (m : D) × W.restarts s q m
      × IfDone q (λ u. (h : LookAnswer HeaderValues) × (l : D) × ReadsHeader R n m h l × SettlesHeader h l x t) (λ e. (x ≡ Err (DiskRefused e)) × (t ≡ m))
