-- What an image shows and does.
use Rattle.std.specs.Prelude.{◌≡◌, ℕ, ◌<◌, cond, List, Ok, Err, nat_lt, slice_index}
use Rattle.disks.specs.Values.{On, PastEnd}
use Rattle.disks.specs.Meaning.{View, Shown, FacesStand, NothingWaits, ProperLaw, ReadLaw}
use Rattle.disks.specs.Blocks.{whole_blocks, block_of}
use Rattle.disks.specs.declared.image.Image.{Image}

-- what bytes show: always on, and each face its block's only candidate
abbrev pub bytes_view : List ℕ → View
bytes_view bytes = record { size = whole_blocks bytes; height = 0; state = On; face = block_of bytes; candidate = λ k b. b ≡ block_of bytes k }

abbrev pub view_of : Image → View
view_of i = bytes_view i.bytes.now

-- its bytes are bytes
abbrev pub Sound : Image → Type 0
Sound i = (j : ℕ) → slice_index i.bytes.now j < 256

-- a read shows the block, or refuses past the size, and changes nothing
abbrev pub Reads : Image → ℕ → Shown → Image → Type 0
Reads s k x t = (t ≡ s) × (x ≡ cond (nat_lt k (whole_blocks s.bytes.now)) (Ok (block_of s.bytes.now k)) (Err PastEnd))

-- an image is a reader, and each face its block's only candidate
pub record KeepsMeaning : Type 0 where
  pub proper : ProperLaw view_of Sound
  pub reading : ReadLaw view_of Sound Reads
  pub stand : (i : Image) → FacesStand (view_of i)
  pub settled : (i : Image) → NothingWaits (view_of i)
