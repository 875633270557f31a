-- What each call of a store does: its answer, and the store after it.
use Rattle.std.specs.Prelude.{◌≡◌, ℕ, ◌-◌, true, false, List, [], ◌∷◌, ◌++◌, Ok, Err, Result}
use Rattle.disks.specs.Values.{Answer}
use Rattle.disks.specs.Meaning.{Content, Shown}
use Rattle.disks.specs.declared.reader.Reader
use Rattle.disks.specs.declared.disk.Disk
use Rattle.store.specs.Layout.{HeaderValues}
use Rattle.store.specs.Log.{block_for}
use Rattle.transactions.specs.StoreAnswers.{StoreDown, StoreAnswer, by_disk}
use Rattle.transactions.specs.Stores.{PhaseValues, Idle, Open, Down, StoreValues, at, on, down, first, Passes, start_checks, begin_checks, write_checks, read_checks, ticket_checks, write_block, noting}
use Rattle.transactions.specs.DiskWork.{heading, settling, formatting, RecoversAt}

-- the store after disk work: the one given if it was done, else down
abbrev pub after : {D X E : Type 0} → Result X E → StoreValues D → StoreValues D
after (Ok x) s = s
after (Err e) s = down s

-- an answer without what it carries
abbrev pub bare : {X E : Type 0} → Result X E → Result Unit E
bare (Ok x) = Ok tt
bare (Err e) = Err e

-- an abandoned transaction leaves an open store idle
abbrev pub closed : PhaseValues → PhaseValues
closed Idle = Idle
closed Open = Idle
closed Down = Down

module _ {D : Type 0} where
  abbrev pub Begins : StoreValues D → StoreAnswer Unit → StoreValues D → Type 0
  Begins s r t = Passes (first (begin_checks s)) s r t ((r ≡ Ok tt) × (t ≡ at s.disk Open true s.n s.logged s.opened))

  abbrev pub Abandons : StoreValues D → StoreAnswer Unit → StoreValues D → Type 0
  Abandons s r t = Passes (first (ticket_checks s)) s r t ((r ≡ Ok tt) × (t ≡ at s.disk (closed s.phase) false s.n s.logged []))

  -- the store after a header that holds the open writes too: they are logged, or forgotten with the store down
  abbrev pub committed : Answer Unit → D → StoreValues D → StoreValues D
  committed (Ok u) m s = at m Idle false s.n (s.logged ++ s.opened) []
  committed (Err e) m s = at m Down false s.n s.logged []

  -- the store after its log was brought home
  abbrev pub settled : Answer Unit → D → StoreValues D → StoreValues D
  settled (Ok u) m s = at m s.phase s.out s.n [] []
  settled (Err e) m s = down (on m s)

  -- the store after its disk was made ready for N addresses
  abbrev pub renewed : {E : Type 0} → Result HeaderValues E → D → StoreValues D → StoreValues D
  renewed (Ok h) m s = at m Idle s.out h.n h.log []
  renewed (Err e) m s = down (on m s)

module _ {D : Type 0} (R : Reader.Ghosts D) (W : Disk.Ghosts D) where
  -- the store after a format
  abbrev pub formatted : Answer Unit → D → StoreValues D → StoreValues D
  formatted (Ok u) m s = at m Idle s.out ((R.view s.disk).size - 33) [] []
  formatted (Err e) m s = down (on m s)

  abbrev pub Writes : StoreValues D → ℕ → Content → StoreAnswer Unit → StoreValues D → Type 0
  Writes s a b r t = Passes (first (write_checks s a)) s r t
      ((q : Answer Unit) × (m : D) × W.writes s.disk (write_block s a) b q m × (r ≡ by_disk q) × (t ≡ after q (on m (noting s a))))

  abbrev pub Reads : StoreValues D → ℕ → StoreAnswer Content → StoreValues D → Type 0
  Reads s a x t = Passes (first (read_checks s a)) s x t
      ((y : Shown) × (m : D) × R.reads s.disk (block_for (s.logged ++ s.opened) a) y m × (x ≡ by_disk y) × (t ≡ after y (on m s)))

  -- a commit of a store that is up: with no open write there is nothing to do on the disk
  abbrev pub Logs : List ℕ → StoreValues D → StoreAnswer Unit → StoreValues D → Type 0
  Logs [] s r t = (r ≡ Ok tt) × (t ≡ at s.disk Idle false s.n s.logged [])
  Logs (a ∷ rest) s r t = (q : Answer Unit) × (m : D) × heading R W (record { n = s.n; log = s.logged ++ s.opened }) s.disk q m × (r ≡ by_disk q) × (t ≡ committed q m s)

  abbrev pub CommitsIn : PhaseValues → StoreValues D → StoreAnswer Unit → StoreValues D → Type 0
  CommitsIn Idle s r t = Logs s.opened s r t
  CommitsIn Open s r t = Logs s.opened s r t
  CommitsIn Down s r t = (r ≡ Err StoreDown) × (t ≡ at s.disk Down false s.n s.logged [])

  abbrev pub Commits : StoreValues D → StoreAnswer Unit → StoreValues D → Type 0
  Commits s r t = Passes (first (ticket_checks s)) s r t (CommitsIn s.phase s r t)

  abbrev pub Settles : StoreValues D → StoreAnswer Unit → StoreValues D → Type 0
  Settles s r t = Passes (first (begin_checks s)) s r t
      ((q : Answer Unit) × (m : D) × settling R W s.n s.logged s.disk q m × (r ≡ by_disk q) × (t ≡ settled q m s))

  abbrev pub Restarts : StoreValues D → StoreAnswer Unit → StoreValues D → Type 0
  Restarts s r t = Passes (first (start_checks (λ d. (R.view d).size) s)) s r t
      ((x : StoreAnswer HeaderValues) × (m : D) × RecoversAt R W ((R.view s.disk).size - 33) s.disk x m × (r ≡ bare x) × (t ≡ renewed x m s))

  abbrev pub Formats : StoreValues D → StoreAnswer Unit → StoreValues D → Type 0
  Formats s r t = Passes (first (start_checks (λ d. (R.view d).size) s)) s r t
      ((q : Answer Unit) × (m : D) × formatting R W ((R.view s.disk).size - 33) s.disk q m × (r ≡ by_disk q) × (t ≡ formatted q m s))
