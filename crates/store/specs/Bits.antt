-- The header bit by bit, most significant first.
use Rattle.std.specs.Prelude.{◌≡◌, ℕ, zero, suc, ◌-◌, ◌*◌, ◌/◌, ◌%◌, ◌^◌, List, [], ◌∷◌, ◌++◌, length, replicate, Some}
use Rattle.disks.specs.Meaning.{Content}
use Rattle.std.specs.List.{flat_map}
use Rattle.store.specs.Layout.{HeaderValues, InRange, filled, unpacked}

-- a number in `width` bits
unfoldable pub spelled : ℕ → ℕ → List ℕ
spelled zero x = []
spelled (suc width) x = x / 2 ^ width % 2 ∷ spelled width x

-- the bits of bytes in a row
abbrev pub bits : Content → List ℕ
bits bs = flat_map (spelled 8) bs

-- mark, layout 1, N - 1, count, two zero bits, 32 address fields; the rest of the 512 bytes is zero
abbrev pub layout_bits : HeaderValues → List ℕ
layout_bits h =
    spelled 16 0xB10C ++ (spelled 4 1 ++ (spelled 12 (h.n - 1) ++ (spelled 6 (length h.log) ++ (spelled 2 0
    ++ (flat_map (spelled 12) (filled h.log) ++ replicate (8 * 459) 0)))))

-- bytes are well formed exactly if they are the bits of a header that keeps its ranges
abbrev pub WellFormedExactly : Content → Type 0
WellFormedExactly bs = (h : HeaderValues) → (unpacked bs ≡ Some h → InRange h × (bits bs ≡ layout_bits h)) × (InRange h → bits bs ≡ layout_bits h → unpacked bs ≡ Some h)
