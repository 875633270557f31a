-- The packed header bit by bit, and bytes told apart by their bits.
use Rattle.std.proofs.Common.{◌≡◌, ℕ, zero, suc, ◌+◌, ◌-◌, ◌*◌, ◌/◌, ◌%◌, ◌^◌, ◌<◌, ◌≤◌, List, [], ◌∷◌, ◌++◌, length, get_or, replicate, sym, refl, ap, ◌∙◌, add-zero, mul_assoc, add_comm, suc-add, zero-add, mul-suc, arith}
use native.Mathlib.Nat.{pow-succ', mul-add-div_right}
use Rattle.std.proofs.lemmas.Nat.{pow_pos, shr-shr, shr_high, shr_split, mod_below}
use Rattle.std.proofs.lemmas.List.{append_assoc, length-append, length-replicate, replicate-append-replicate}
use Rattle.std.specs.List.{flat_map}
use Rattle.store.specs.Layout.{HeaderValues, InRange, filled, pairs, front, packed}
use Rattle.store.proofs.Fields.{filled_small}
use Rattle.store.specs.Bits.{spelled, bits, layout_bits}

-- the lowest bits do not change with what stands above them
spelled_low : (w x y : ℕ) → spelled w (x * 2 ^ w + y) ≡ spelled w y
unfolding spelled
spelled_low zero x y = refl
spelled_low (suc w) x y =
    let e : x * 2 ^ suc w ≡ x * 2 * 2 ^ w = rw (pow-succ', mul_assoc) in
    let d = mul-add-div_right (pow_pos w) (x * 2) y in
    let b : (x * 2 + y / 2 ^ w) % 2 ≡ y / 2 ^ w % 2 = omega arith in
    let i = spelled_low w (x * 2) y in
    cc

-- a number in v bits before one in w bits
spelled_append : (v w x y : ℕ) → y < 2 ^ w → spelled (v + w) (x * 2 ^ w + y) ≡ spelled v x ++ spelled w y
unfolding spelled
spelled_append zero w x y lt = rw zero-add (spelled_low w x y)
spelled_append (suc v) w x y lt =
    let d : (x * 2 ^ w + y) / 2 ^ (v + w) ≡ x / 2 ^ v = rw (add_comm v w, ← shr-shr, shr_high x w y lt) in
    let i = spelled_append v w x y lt in
    rw suc-add (cc)

-- a number in v + w bits, cut at the lowest w
spelled_cut : (v w x : ℕ) → spelled (v + w) x ≡ spelled v (x / 2 ^ w) ++ spelled w (x % 2 ^ w)
spelled_cut v w x = ap (spelled (v + w)) (sym (shr_split x w)) ∙ spelled_append v w (x / 2 ^ w) (x % 2 ^ w) (mod_below x (2 ^ w) (pow_pos w))

-- fields of 12 bits, an even number of them, and the bytes that they are packed to
pairs_bits : (xs rest : List ℕ) → length xs % 2 ≡ 0 → ((i : ℕ) → get_or xs i 0 < 4096) → bits (pairs xs ++ rest) ≡ flat_map (spelled 12) xs ++ bits rest
unfolding pairs
pairs_bits [] rest even below = refl
pairs_bits (a ∷ []) rest even below = absurd (omega arith)
pairs_bits (a ∷ b ∷ xs) rest even below =
    let m : spelled 8 (a % 16 * 16 + b / 256) ≡ spelled 4 (a % 16) ++ spelled 4 (b / 256) = spelled_append 4 4 (a % 16) (b / 256) (omega (arith, below 1)) in
    let i = pairs_bits xs rest (omega arith) (λ i. below (suc (suc i))) in
    simp (m, i, spelled_cut 8 4 a, spelled_cut 4 8 b, append_assoc)

-- mark, layout 1, N - 1, count and two zero bits are five bytes
front_bits : (n count : ℕ) (rest : List ℕ) → n ≤ 4096 → bits (front n count ++ rest) ≡ spelled 16 0xB10C ++ (spelled 4 1 ++ (spelled 12 (n - 1) ++ (spelled 6 count ++ (spelled 2 0 ++ bits rest))))
front_bits n count rest most =
    let mark : spelled 16 0xB10C ≡ spelled 8 0xB1 ++ spelled 8 0x0C = spelled_append 8 8 0xB1 0x0C (omega arith) in
    let top : spelled 8 (16 + (n - 1) / 256) ≡ spelled 4 1 ++ spelled 4 ((n - 1) / 256) = spelled_append 4 4 1 ((n - 1) / 256) (omega arith) in
    let counted : spelled 8 (count * 4) ≡ spelled 6 count ++ spelled 2 0 = simp add-zero at (spelled_append 6 2 count 0 (omega arith)) in
    simp (mark, top, spelled_cut 4 8 (n - 1), counted, append_assoc)

-- zero bytes are zero bits
zero_bits : (n : ℕ) → bits (replicate n 0) ≡ replicate (8 * n) 0
unfolding spelled
zero_bits zero = refl
zero_bits (suc n) = rw (zero_bits n, mul-suc, add_comm (8 * n) 8) (replicate-append-replicate 8 (8 * n) 0)

-- the packed header has the layout's bits
pub packed_bits : (h : HeaderValues) → InRange h → bits (packed h) ≡ layout_bits h
unfolding packed
packed_bits h r =
    front_bits h.n (length h.log) (pairs (filled h.log) ++ replicate 459 0) r.most
    ∙ rw (pairs_bits (filled h.log) (replicate 459 0) even (filled_small h r), zero_bits 459)
  where
    even : length (filled h.log) % 2 ≡ 0
    even = simp (length-append, length-replicate) (omega arith)

-- the first eight bits tell the first byte
byte_from : (b c : ℕ) (bs cs : List ℕ) → b < 256 → c < 256 → spelled 8 b ++ bs ≡ spelled 8 c ++ cs → (b ≡ c) × (bs ≡ cs)
unfolding spelled
byte_from b c bs cs lb lc e = (grind arith, cc)

-- bytes with the same bits are the same
pub bits_one_to_one : (bs cs : List ℕ) → length bs ≡ length cs → ((i : ℕ) → get_or bs i 0 < 256) → ((i : ℕ) → get_or cs i 0 < 256) → bits bs ≡ bits cs → bs ≡ cs
bits_one_to_one [] [] l p q e = refl
bits_one_to_one [] (c ∷ cs) l p q e = absurd (omega arith)
bits_one_to_one (b ∷ bs) [] l p q e = absurd (omega arith)
bits_one_to_one (b ∷ bs) (c ∷ cs) l p q e =
    let s = byte_from b c (bits bs) (bits cs) (p 0) (q 0) e in
    let i = bits_one_to_one bs cs (omega arith) (λ i. p (suc i)) (λ i. q (suc i)) s.1 in
    cc (s.0, i)
