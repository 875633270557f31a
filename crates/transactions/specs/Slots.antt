-- The slot of a write, as the code finds it.
use Rattle.std.specs.Prelude.{◌≡◌, ℕ, ◌+◌, ◌<◌, cond, length, Some, None, Option}
use Rattle.store.specs.Log.{newest}
use Rattle.transactions.specs.Stores.{StoreValues, member, write_block, full, noting}

module _ {D : Type 0} where
  -- the slot of an open write to a
  abbrev pub open_slot : StoreValues D → ℕ → Option ℕ
  open_slot s a = cond (member a s.opened) (Some (newest (1 + length s.logged) s.opened a 0)) None

  -- an address of the plan noted among the open writes, and its block; nothing changes where the log is full
  abbrev pub Notes : StoreValues D → ℕ → Option ℕ → StoreValues D → Type 0
  Notes s a r t = a < s.n → (r ≡ cond (full s a) None (Some (write_block s a))) × (t ≡ cond (full s a) s (noting s a))
