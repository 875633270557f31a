-- The header and the bytes that it is packed to.
use Rattle.std.specs.Prelude.{◌≡◌, ℕ, ◌+◌, ◌-◌, ◌*◌, ◌/◌, ◌%◌, ◌<◌, ◌≤◌, Bool, cond, ◌&&◌, List, [], ◌∷◌, ◌++◌, length, take, drop, replicate, Some, None, Option, ◌==◌, nat_le, nat_lt, slice_index}
use Rattle.std.specs.List.{list_all}
use Rattle.disks.specs.Meaning.{Content}

-- a header: N, and the addresses of the log slots 1, 2, and so on
pub record HeaderValues : Type 0 where
  pub n : ℕ
  pub log : List ℕ

-- what every header keeps
pub record InRange (h : HeaderValues) : Type 0 where
  pub some : 1 ≤ h.n
  pub most : h.n ≤ 4096
  pub few : length h.log ≤ 32
  pub below : (i : ℕ) → i < length h.log → slice_index h.log i < h.n

-- the header with an empty log
abbrev pub empty : ℕ → HeaderValues
empty n = record { n = n; log = [] }

-- whether the log can take one more address: below N, and not the 33rd
abbrev pub has_room : HeaderValues → ℕ → Bool
has_room h a = nat_lt (length h.log) 32 && nat_lt a h.n

-- the header with one more address, if the log can take it
abbrev pub with_address : HeaderValues → ℕ → HeaderValues
with_address h a = cond (has_room h a) (record { n = h.n; log = h.log ++ (a ∷ []) }) h

-- the header with the first k addresses of its log
abbrev pub cut_to : ℕ → HeaderValues → HeaderValues
cut_to k h = record { n = h.n; log = take k h.log }

-- the 32 address fields: the log, then zeros
abbrev pub filled : List ℕ → List ℕ
filled log = log ++ replicate (32 - length log) 0

-- two fields of 12 bits in three bytes
unfoldable pub pairs : List ℕ → List ℕ
pairs [] = []
pairs (a ∷ []) = []
pairs (a ∷ b ∷ rest) = a / 16 ∷ (a % 16 * 16 + b / 256) ∷ b % 256 ∷ pairs rest

-- mark; layout and N - 1; count and two zero bits
abbrev pub front : ℕ → ℕ → List ℕ
front n count = 0xB1 ∷ 0x0C ∷ (16 + (n - 1) / 256) ∷ (n - 1) % 256 ∷ count * 4 ∷ []

-- the block of a header
unfoldable pub packed : HeaderValues → Content
packed h = front h.n (length h.log) ++ (pairs (filled h.log) ++ replicate 459 0)

-- the two fields of each three bytes
unfoldable pub fields : List ℕ → List ℕ
fields [] = []
fields (x ∷ []) = []
fields (x ∷ y ∷ []) = []
fields (x ∷ y ∷ z ∷ rest) = (x * 16 + y / 16) ∷ (y % 16 * 256 + z) ∷ fields rest

-- what stands at the places of N, count and the address fields, whatever the bytes
abbrev pub n_in : Content → ℕ
n_in bs = slice_index bs 2 % 16 * 256 + slice_index bs 3 + 1

abbrev pub count_in : Content → ℕ
count_in bs = slice_index bs 4 / 4

abbrev pub fields_in : Content → List ℕ
fields_in bs = fields (take 48 (drop 5 bs))

-- each number is zero
abbrev pub all_zero : List ℕ → Bool
all_zero xs = list_all (λ x. x == 0) xs

-- each number is below n
abbrev pub all_below : ℕ → List ℕ → Bool
all_below n xs = list_all (λ x. nat_lt x n) xs

-- the first `count` fields are below n, the others zero
abbrev pub fits : ℕ → ℕ → List ℕ → Bool
fits n count xs = all_below n (take count xs) && all_zero (drop count xs)

-- the log of which `count` of 32 fields are in use, if there are so many and the others are zero
abbrev pub log_in : ℕ → List ℕ → Option (List ℕ)
log_in count xs = cond (nat_le count 32 && all_zero (drop count xs)) (Some (take count xs)) None

-- the log with one more address, if there is a field for it
abbrev pub added : List ℕ → ℕ → List ℕ
added log a = cond (nat_lt (length log) 32) (log ++ (a ∷ [])) log

-- mark and layout; count, zero bits and fields; the last 459 bytes
unfoldable pub well_formed : Content → Bool
well_formed bs =
    (slice_index bs 0 == 0xB1 && (slice_index bs 1 == 0x0C && slice_index bs 2 / 16 == 1))
    && ((nat_le (count_in bs) 32 && (slice_index bs 4 % 4 == 0 && fits (n_in bs) (count_in bs) (fields_in bs))) && all_zero (drop 53 bs))

-- the header that stands in a well formed block
unfoldable pub unpacked : Content → Option HeaderValues
unpacked bs = cond (well_formed bs) (Some (record { n = n_in bs; log = take (count_in bs) (fields_in bs) })) None

-- no bytes but its packing unpack to a header
abbrev pub OnlyPacking : Content → Type 0
OnlyPacking bs = (h : HeaderValues) → unpacked bs ≡ Some h → InRange h × (bs ≡ packed h)

-- N 10 with addresses 3 and 9; N 4,096 with address 4,095
abbrev pub PackedExamples : Type 0
PackedExamples = (packed (record { n = 10; log = 3 ∷ 9 ∷ [] }) ≡ 0xB1 ∷ 0x0C ∷ 0x10 ∷ 0x09 ∷ 0x08 ∷ 0x00 ∷ 0x30 ∷ 0x09 ∷ replicate 504 0)
    × (packed (record { n = 4096; log = 4095 ∷ [] }) ≡ 0xB1 ∷ 0x0C ∷ 0x1F ∷ 0xFF ∷ 0x04 ∷ 0xFF ∷ 0xF0 ∷ replicate 505 0)

-- the first bytes of a header with N 10, and zeros
abbrev pub with_front : ℕ → ℕ → ℕ → ℕ → Content
with_front count x y z = 0xB1 ∷ 0x0C ∷ 0x10 ∷ 0x09 ∷ count ∷ x ∷ y ∷ z ∷ replicate 504 0

-- well formed; count 33; a one in the zero bits; a field set past count
abbrev pub UnpackedExamples : Type 0
UnpackedExamples = (unpacked (with_front 0x08 0x00 0x30 0x09) ≡ Some (record { n = 10; log = 3 ∷ 9 ∷ [] })) × (unpacked (with_front 0x84 0x00 0x00 0x00) ≡ None)
    × (unpacked (with_front 0x09 0x00 0x30 0x09) ≡ None) × (unpacked (with_front 0x04 0x00 0x30 0x09) ≡ None)
