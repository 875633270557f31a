-- A side put before a trail, and a trail as text.
use Rattle.std.proofs.Common.{◌≡◌, ℕ, ◌+◌, ◌-◌, ◌<◌, ◌≤◌, decimal, flat_map, min, List, [], ◌∷◌, ◌++◌, length, slice_index_or, take, replicate, sym, refl, ap, ◌∙◌, add-one, arith, length-take, take_all, take-take}
use native.Mathlib.Decide.{dec_lt}
use Rattle.std.proofs.Math.Seq.{take-append-add}
use Rattle.std.proofs.lemmas.List.{append-nil, take-append-le, take-replicate}
use Rattle.disks.specs.Text.{trail_text}
use Rattle.disks.specs.TrailSides.{filled, KeepsSides}

-- a list of eight, one by one
pub all_eight : {A : Type 0} (z : A) (s : List A) → length s ≡ 8 →
    slice_index_or s 0 z ∷ slice_index_or s 1 z ∷ slice_index_or s 2 z ∷ slice_index_or s 3 z ∷ slice_index_or s 4 z ∷ slice_index_or s 5 z ∷ slice_index_or s 6 z ∷ slice_index_or s 7 z ∷ [] ≡ s
all_eight z [] e = absurd (omega (arith, e))
all_eight z (a ∷ []) e = absurd (omega (arith, e))
all_eight z (a ∷ b ∷ []) e = absurd (omega (arith, e))
all_eight z (a ∷ b ∷ c ∷ []) e = absurd (omega (arith, e))
all_eight z (a ∷ b ∷ c ∷ d ∷ []) e = absurd (omega (arith, e))
all_eight z (a ∷ b ∷ c ∷ d ∷ x ∷ []) e = absurd (omega (arith, e))
all_eight z (a ∷ b ∷ c ∷ d ∷ x ∷ f ∷ []) e = absurd (omega (arith, e))
all_eight z (a ∷ b ∷ c ∷ d ∷ x ∷ f ∷ g ∷ []) e = absurd (omega (arith, e))
all_eight z (a ∷ b ∷ c ∷ d ∷ x ∷ f ∷ g ∷ h ∷ []) e = refl
all_eight z (a ∷ b ∷ c ∷ d ∷ x ∷ f ∷ g ∷ h ∷ y ∷ t) e = absurd (omega (arith, e))

-- the first seven of eight
pub first_seven : {A : Type 0} (z : A) (s : List A) → length s ≡ 8 →
    slice_index_or s 0 z ∷ slice_index_or s 1 z ∷ slice_index_or s 2 z ∷ slice_index_or s 3 z ∷ slice_index_or s 4 z ∷ slice_index_or s 5 z ∷ slice_index_or s 6 z ∷ [] ≡ take 7 s
first_seven z s e = ap (take 7) (all_eight z s e)

-- the sides l that the code makes of a trail and a side i before it, and their depth m
module _ (d : ℕ) (ss : List ℕ) (keeps : KeepsSides d ss) (i : ℕ) (l : List ℕ) (m : ℕ) (made : l ≡ i ∷ take 7 ss) (deep : m ≡ min d 7) where
  -- the trail is the side and the first seven of those before
  pub put_before : take (m + 1) l ≡ i ∷ take 7 (take d ss)
  put_before = rw (add-one, made) (ap (λ (t : List ℕ). i ∷ t) (go (dec_lt d 7)))
    where
      go : Dec (d < 7) → take m (take 7 ss) ≡ take 7 (take d ss)
      go (yes lt) =
          let q : m ≡ d = omega arith in
          ap (λ (n : ℕ). take n (take 7 ss)) q ∙ take-take d 7 ss (omega arith) ∙ sym (take_all 7 (take d ss) (rw length-take (omega arith)))
      go (no n) =
          let q : m ≡ 7 = omega arith in
          ap (λ (n : ℕ). take n (take 7 ss)) q ∙ take-take 7 7 ss (omega arith) ∙ sym (take-take 7 d ss (omega arith))

  -- the sides after it are of no meaning, as before
  pub keeps_before : KeepsSides (m + 1) l
  keeps_before = record { few = omega arith; others = made ∙ still (take d ss) keeps.others (rw length-take (omega (arith, keeps.few))) ∙ ap filled (sym put_before) }
    where
      still : (t : List ℕ) → ss ≡ filled t → length t ≤ 8 → i ∷ take 7 ss ≡ filled (i ∷ take 7 t)
      still t e le =
          let less : 7 - length (take 7 t) ≡ 8 - length (i ∷ take 7 t) = omega arith in
          ap (λ (u : List ℕ). i ∷ u) (ap (take 7) e ∙ go (dec_lt (length t) 8)) ∙ ap (λ (n : ℕ). i ∷ (take 7 t ++ replicate n 0)) less
        where
          go : Dec (length t < 8) → take 7 (filled t) ≡ take 7 t ++ replicate (7 - length (take 7 t)) 0
          go (yes lt) =
              let all = take_all 7 t (omega arith) in
              let n : length t + (7 - length t) ≡ 7 = omega arith in
              ap (λ (n : ℕ). take n (filled t)) (sym n)
              ∙ take-append-add t (replicate (8 - length t) 0) (7 - length t)
              ∙ ap (λ (u : List ℕ). t ++ u) (take-replicate (7 - length t) (8 - length t) 0 (omega arith))
              ∙ ap (λ (u : List ℕ). u ++ replicate (7 - length u) 0) (sym all)
          go (no h) =
              let none : 7 - length (take 7 t) ≡ 0 = rw length-take (omega arith) in
              take-append-le 7 t (replicate (8 - length t) 0) (omega arith) ∙ sym (append-nil (take 7 t)) ∙ ap (λ (n : ℕ). take 7 t ++ replicate n 0) (sym none)

-- the text of sides that are not none, told one by one
pub told : (s items : List ℕ) (i : ℕ) → items ≡ s → length items ≤ i → (length s ≡ 0 → ⊥) → flat_map decimal (take i items) ≡ trail_text s
told s items i e le some = ap (flat_map decimal) (take_all i items le ∙ e) ∙ not_none s some
  where
    not_none : (t : List ℕ) → (length t ≡ 0 → ⊥) → flat_map decimal t ≡ trail_text t
    not_none [] some = absurd (some refl)
    not_none (n ∷ ns) some = refl
