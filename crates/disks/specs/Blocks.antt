-- Bytes in a row, taken as blocks.
use Rattle.std.specs.Prelude.{◌≡◌, ℕ, ◌+◌, ◌*◌, ◌/◌, ◌<◌, min, List, ◌++◌, length, take, drop, ◌≢◌}
use Rattle.disks.specs.Meaning.{Content}

-- how many whole blocks there are, at most 65,535
abbrev pub whole_blocks : List ℕ → ℕ
whole_blocks bytes = min (length bytes / 512) 65535

-- block k of the bytes
abbrev pub block_of : List ℕ → ℕ → Content
block_of bytes k = take 512 (drop (512 * k) bytes)

-- the bytes with b as their block k
abbrev pub with_block : List ℕ → ℕ → Content → List ℕ
with_block bytes k b = take (512 * k) bytes ++ (b ++ drop (512 * k + 512) bytes)

-- the bytes past the last block, which no call ever touches
abbrev pub spare : List ℕ → List ℕ
spare bytes = drop (512 * whole_blocks bytes) bytes

-- a block that was put is there, and nothing else changed: the other blocks, the number of bytes, the spare ones
pub record PutAt (bytes : List ℕ) (k : ℕ) (b : Content) : Type 0 where
  pub there : block_of (with_block bytes k b) k ≡ b
  pub others : (j : ℕ) → (j ≢ k) → block_of (with_block bytes k b) j ≡ block_of bytes j
  pub long : length (with_block bytes k b) ≡ length bytes
  pub spare : spare (with_block bytes k b) ≡ spare bytes

-- blocks do not touch each other
abbrev pub BlocksApart : Type 0
BlocksApart = (bytes : List ℕ) (k : ℕ) (b : Content) → k < whole_blocks bytes → length b ≡ 512 → PutAt bytes k b
