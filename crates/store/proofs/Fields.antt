-- Fields of 12 bits in bytes, there and back, and a log filled up to 32 of them.
use Rattle.std.proofs.Common.{◌≡◌, ℕ, zero, suc, ◌+◌, ◌-◌, ◌*◌, ◌/◌, ◌%◌, ◌<◌, ◌≤◌, true, eqb, ltb, List, [], ◌∷◌, length, get_or, take, drop, replicate, Decides, refl, ap, ◌∙◌, arith}
use Rattle.std.specs.List.{AllByRecursion}
use Rattle.std.proofs.ByRecursion.{All-get_or, All-from_get_or, Decides-by_and}
use Rattle.std.proofs.lemmas.Bool.{and_parts, eqb-true}
use Rattle.std.proofs.lemmas.Bool.Decides.{Decides-like, Decides-ltb}
use Rattle.std.proofs.lemmas.List.{places, drop_more, length-append, length-replicate, length-take, length-drop, take-append-drop}
use Rattle.store.specs.Layout.{HeaderValues, InRange, filled, pairs, fields, all_zero, all_below}

pub length_pairs : (m : ℕ) (xs : List ℕ) → length xs ≡ 2 * m → length (pairs xs) ≡ 3 * m
unfolding pairs
length_pairs m [] e = omega arith
length_pairs m (a ∷ []) e = omega arith
length_pairs m (a ∷ b ∷ xs) e = omega (arith, length_pairs (m - 1) xs (omega arith))

pub length_fields : (m : ℕ) (ys : List ℕ) → length ys ≡ 3 * m → length (fields ys) ≡ 2 * m
unfolding fields
length_fields m [] e = omega arith
length_fields m (x ∷ []) e = omega arith
length_fields m (x ∷ y ∷ []) e = omega arith
length_fields m (x ∷ y ∷ z ∷ ys) e = omega (arith, length_fields (m - 1) ys (omega arith))

pub fields_pairs : (m : ℕ) (xs : List ℕ) → length xs ≡ 2 * m → AllByRecursion (λ x. x < 4096) xs → fields (pairs xs) ≡ xs
unfolding pairs fields
fields_pairs m [] e h = refl
fields_pairs m (a ∷ []) e h = absurd (omega arith)
fields_pairs m (a ∷ b ∷ xs) e h =
    let one : a / 16 * 16 + (a % 16 * 16 + b / 256) / 16 ≡ a = omega arith in
    let two : (a % 16 * 16 + b / 256) % 16 * 256 + b % 256 ≡ b = omega arith in
    cc (fields_pairs (m - 1) xs (omega arith) h.1.1)

pub pairs_fields : (m : ℕ) (ys : List ℕ) → length ys ≡ 3 * m → AllByRecursion (λ y. y < 256) ys → pairs (fields ys) ≡ ys
unfolding pairs fields
pairs_fields m [] e h = refl
pairs_fields m (x ∷ []) e h = absurd (omega arith)
pairs_fields m (x ∷ y ∷ []) e h = absurd (omega arith)
pairs_fields m (x ∷ y ∷ z ∷ ys) e h =
    let one : (x * 16 + y / 16) / 16 ≡ x = omega arith in
    let two : (x * 16 + y / 16) % 16 * 16 + (y % 16 * 256 + z) / 256 ≡ y = omega arith in
    let three : (y % 16 * 256 + z) % 256 ≡ z = omega arith in
    cc (pairs_fields (m - 1) ys (omega arith) h.1.1.1)

pub pairs_bytes : (xs : List ℕ) → AllByRecursion (λ x. x < 4096) xs → AllByRecursion (λ y. y < 256) (pairs xs)
unfolding pairs
pairs_bytes [] h = tt
pairs_bytes (a ∷ []) h = tt
pairs_bytes (a ∷ b ∷ xs) h = (omega arith, (omega arith, (omega arith, pairs_bytes xs h.1.1)))

-- what stands at m places from i on
abbrev pub run : ℕ → ℕ → List ℕ → List ℕ
run zero i xs = []
run (suc m) i xs = get_or xs i 0 ∷ run m (i + 1) xs

pub run_is : (m i : ℕ) (xs : List ℕ) → i + m ≤ length xs → take m (drop i xs) ≡ run m i xs
run_is zero i xs h = refl
run_is (suc m) i xs h = ap (take (suc m)) (drop_more xs i 0 (omega arith)) ∙ ap (λ (ys : List ℕ). get_or xs i 0 ∷ ys) (run_is m (i + 1) xs (omega arith))

-- a test of each number, by place
pub below_tells : (n : ℕ) (xs : List ℕ) → Decides (all_below n xs) ((i : ℕ) → i < length xs → get_or xs i 0 < n)
below_tells n xs =
    let P : ℕ → Type 0 = λ x. x < n in
    Decides-like _ (λ all i h. All-get_or P xs i 0 h all) (All-from_get_or P xs 0) (Decides-by_and (λ x. ltb x n) P (all_below n) (λ x. Decides-ltb x n) refl (λ _ _. refl) xs)

pub zeros : (xs : List ℕ) → all_zero xs ≡ true → xs ≡ replicate (length xs) 0
zeros [] e = refl
zeros (x ∷ xs) e =
    let t = and_parts (eqb x 0) (all_zero xs) e in
    cc (eqb-true x 0 t.0, zeros xs t.1)

pub zero_replicate : (n : ℕ) → all_zero (replicate n 0) ≡ true
zero_replicate zero = refl
zero_replicate (suc n) = zero_replicate n

-- fields of which the first count are a log, and the others zero, are that log filled up
pub filled_log : (count : ℕ) (xs : List ℕ) → length xs ≡ 32 → count ≤ 32 → all_zero (drop count xs) ≡ true → xs ≡ filled (take count xs)
filled_log count xs e few z =
    let rest = zeros (drop count xs) z in
    let size : length (drop count xs) ≡ 32 - length (take count xs) = simp (length-drop, length-take) (omega arith) in
    cc (take-append-drop count xs)

pub filled_long : (log : List ℕ) → length log ≤ 32 → length (filled log) ≡ 32
filled_long log few = simp (length-append, length-replicate) (omega arith)

-- the fields of a header in its ranges
pub filled_small : (h : HeaderValues) → InRange h → (i : ℕ) → get_or (filled h.log) i 0 < 4096
filled_small h k i =
    let most = k.most in
    grind (arith, places, k.below i)
