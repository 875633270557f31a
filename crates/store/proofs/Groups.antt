-- The loops of pack and read_fields, which put what a group of fields or bytes gives behind what stands there.
use Rattle.std.proofs.Common.{◌≡◌, ℕ, zero, suc, ◌+◌, ◌-◌, ◌*◌, ◌/◌, ◌%◌, ◌<◌, ◌≤◌, List, [], ◌∷◌, ◌++◌, length, get_or, take, drop, replicate, refl, inl, inr, ap, arith}
use borrow.Rule.Slice.PartMut.{put_mid}
use Rattle.std.specs.List.{flat_map}
use Rattle.std.specs.Int.{w16, to_be_bytes, from_be_bytes}
use Rattle.std.specs.Simd.{first_chunks}
use Rattle.std.proofs.lemmas.List.{append_assoc, take_at, drop_at, take_more, flat_map_more, get_or-take, get_or-drop, get_or_past, drop-replicate, length-append, length-replicate, length-take, take_all}
use Rattle.std.proofs.lemmas.Bool.{cases_lt}
use Rattle.store.specs.Layout.{pairs, fields}

-- what the first g groups give, behind the head, and zeros behind it
abbrev pub filling : {X : Type 0} → (X → List ℕ) → List ℕ → List X → ℕ → ℕ → List ℕ
filling f head xs g left = (head ++ flat_map f (take g xs)) ++ replicate left 0

-- what the next group gives, written over the first k zeros
pub fill_more : {X : Type 0} (f : X → List ℕ) (head : List ℕ) (xs : List X) (d : X) (g i k n m : ℕ) (ys out : List ℕ) → out ≡ filling f head xs g n → g < length xs →
    ys ≡ f (get_or xs g d) → length ys ≡ k → length out ≡ i + n → m + k ≡ n → put_mid i k out ys ≡ filling f head xs (g + 1) m
fill_more f head xs d g i k n m ys out was lt gives long room left =
    let p : List ℕ = head ++ flat_map f (take g xs) in
    let e : length p ≡ i = omega (arith, simp (length-append p (replicate n 0), length-replicate) at (ap (λ (zs : List ℕ). length zs) was)) in
    let before = take_at p (replicate n 0) i e in
    let behind = drop_at p (replicate n 0) i e in
    let rest = drop-replicate {X = ℕ} k n 0 in
    let less : n - k ≡ m = omega arith in
    let more = take_more xs g d lt in
    let given = flat_map_more f head (take g xs) (get_or xs g d) in
    let join = append_assoc p ys (replicate m 0) in
    cc

-- two fields by the bytes of the numbers, and the numbers by three bytes
pub pair_is : (xs high low : List ℕ) → length xs ≡ 2 → ((i : ℕ) → get_or xs i 0 < 4096) → high ≡ to_be_bytes w16 (get_or xs 0 0 * 16) → low ≡ to_be_bytes w16 (get_or xs 1 0) →
    (get_or high 0 0 ∷ (get_or high 1 0 + get_or low 0 0) ∷ get_or low 1 0 ∷ []) ≡ pairs xs
unfolding pairs
pair_is [] high low e small h l = absurd (omega arith)
pair_is (a ∷ []) high low e small h l = absurd (omega arith)
pair_is (a ∷ b ∷ []) high low e small h l =
    let one : a * 16 / 256 % 256 ≡ a / 16 = omega (arith, small 0) in
    let two : a * 16 % 256 + b / 256 % 256 ≡ a % 16 * 16 + b / 256 = omega (arith, small 0, small 1) in
    rw (h, l) (cc)
pair_is (a ∷ b ∷ c ∷ xs) high low e small h l = absurd (omega arith)

pub triple_is : (ys : List ℕ) (p q : ℕ) → length ys ≡ 3 → ((i : ℕ) → get_or ys i 0 < 256) → p ≡ from_be_bytes w16 (get_or ys 0 0 ∷ get_or ys 1 0 ∷ []) →
    q ≡ from_be_bytes w16 (get_or ys 1 0 ∷ get_or ys 2 0 ∷ []) → (p / 16 ∷ q % 4096 ∷ []) ≡ fields ys
unfolding fields
triple_is [] p q e small h l = absurd (omega arith)
triple_is (x ∷ []) p q e small h l = absurd (omega arith)
triple_is (x ∷ y ∷ []) p q e small h l = absurd (omega arith)
triple_is (x ∷ y ∷ z ∷ []) p q e small h l =
    let one : p / 16 ≡ x * 16 + y / 16 = omega (arith, small 1) in
    let two : q % 4096 ≡ y % 16 * 256 + z = omega (arith, small 2) in
    cc
triple_is (x ∷ y ∷ z ∷ w ∷ ys) p q e small h l = absurd (omega arith)

-- numbers that are below m are so in each group
pub chunks_below : (n k m : ℕ) (xs : List ℕ) → ((i : ℕ) → get_or xs i 0 < m) → (g i : ℕ) → get_or (get_or (first_chunks n k xs) g []) i 0 < m
chunks_below n zero m xs h g i = omega (arith, h 0)
chunks_below n (suc k) m xs h zero i = elim (cases_lt i n) [
  | inl lt ↦ rw get_or-take (h i)
  | inr le ↦ let past = get_or_past (take n xs) i 0 (simp length-take (omega arith)) in omega (arith, h 0)
]
chunks_below n (suc k) m xs h (suc g) i = chunks_below n k m (drop n xs) (λ j. rw get_or-drop (h (n + j))) g i

pub pairs_chunks : (m : ℕ) (xs : List ℕ) → length xs ≡ 2 * m → flat_map pairs (first_chunks 2 m xs) ≡ pairs xs
unfolding pairs
pairs_chunks zero [] e = refl
pairs_chunks zero (a ∷ xs) e = absurd (omega arith)
pairs_chunks (suc m) [] e = absurd (omega arith)
pairs_chunks (suc m) (a ∷ []) e = absurd (omega arith)
pairs_chunks (suc m) (a ∷ b ∷ xs) e = ap (λ (ys : List ℕ). pairs (a ∷ b ∷ []) ++ ys) (pairs_chunks m xs (omega arith))

pub fields_chunks : (m : ℕ) (ys : List ℕ) → length ys ≡ 3 * m → flat_map fields (first_chunks 3 m ys) ≡ fields ys
unfolding fields
fields_chunks zero [] e = refl
fields_chunks zero (x ∷ ys) e = absurd (omega arith)
fields_chunks (suc m) [] e = absurd (omega arith)
fields_chunks (suc m) (x ∷ []) e = absurd (omega arith)
fields_chunks (suc m) (x ∷ y ∷ []) e = absurd (omega arith)
fields_chunks (suc m) (x ∷ y ∷ z ∷ ys) e = ap (λ (zs : List ℕ). fields (x ∷ y ∷ z ∷ []) ++ zs) (fields_chunks m ys (omega arith))

-- when all groups are done
pub all_filled : {X : Type 0} (f : X → List ℕ) (head : List ℕ) (xs : List X) (g left rest : ℕ) (zs : List ℕ) → length xs ≤ g → left ≡ rest → flat_map f xs ≡ zs → filling f head xs g left ≡ (head ++ zs) ++ replicate rest 0
all_filled f head xs g left rest zs all e is = cc (take_all g xs all)
