-- Examples of where a write goes.
use Rattle.std.specs.Prelude.{◌≡◌, ℕ, ◌<◌, true, false, [], length, Some, None, ◌≢◌}
use Rattle.transactions.specs.StoreAnswers.{LogFull}
use Rattle.transactions.specs.Stores.{StoreValues, is_down, first, write_checks, write_block, noting}

-- with 31 logged and no open write: a write takes block 32; after it the same address passes and goes to block 32 again, and another finds the log full
pub record LastSlot {D : Type 0} (s : StoreValues D) (a b : ℕ) : Type 0 where
  pub passes : first (write_checks s a) ≡ None
  pub takes : write_block s a ≡ 32
  pub same_passes : first (write_checks (noting s a) a) ≡ None
  pub same_takes : write_block (noting s a) a ≡ 32
  pub other : first (write_checks (noting s a) b) ≡ Some LogFull

abbrev pub WriteExamples : Type 0 → Type 0
WriteExamples D = (s : StoreValues D) (a b : ℕ) → s.out ≡ true → is_down s.phase ≡ false → length s.logged ≡ 31 → s.opened ≡ [] → a < s.n → b < s.n → (a ≢ b) → LastSlot s a b
