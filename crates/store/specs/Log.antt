-- Where a store keeps an address: in its newest log slot, else at home.
use Rattle.std.specs.Prelude.{◌≡◌, ℕ, suc, ◌+◌, ◌<◌, cond, List, [], ◌∷◌, length, Some, None, Option, ◌==◌, ◌≢◌, slice_index, slice_index_or}

-- where slots k, k + 1, and so on hold the addresses of the log in its order: the last slot that holds a, else block d
abbrev pub newest : ℕ → List ℕ → ℕ → ℕ → ℕ
newest k [] a d = d
newest k (x ∷ log) a d = newest (suc k) log a (cond (x == a) k d)

-- address a lives at home in block 33 + a
abbrev pub home : ℕ → ℕ
home a = 33 + a

-- the block that holds address a
abbrev pub block_for : List ℕ → ℕ → ℕ
block_for log a = newest 1 log a (home a)

-- slot 1 + i is the newest for a: it holds a, and no later slot does
pub record NewestAt (log : List ℕ) (a slot i : ℕ) : Type 0 where
  pub number : slot ≡ 1 + i
  pub used : i < length log
  pub holds : slice_index_or log i 0 ≡ a
  pub later : (j : ℕ) → i < j → j < length log → slice_index log j ≢ a

-- the newest slot for a, or none where no slot holds it
abbrev pub Newest : List ℕ → ℕ → Option ℕ → Type 0
Newest log a (Some slot) = (i : ℕ) × NewestAt log a slot i
Newest log a None = (i : ℕ) → i < length log → slice_index log i ≢ a
