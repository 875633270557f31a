-- Two blocks compared byte by byte: where they differ first, or that they are equal.
use Rattle.std.proofs.Common.{◌≡◌, ℕ, suc, ◌+◌, ◌<◌, ◌≤◌, Bool, true, false, not, eqb, ◌⊎◌, [], ◌∷◌, length, get_or, take, Some, None, Option, refl, ap, subst, inl, inr, add-one, arith}
use Rattle.disks.specs.Meaning.{Content}
use Rattle.std.specs.Option.{option_map}
use Rattle.std.specs.List.{position_from, zip}
use Rattle.std.proofs.lemmas.Bool.{eqb-true, eq-eqb}
use Rattle.compare.specs.Differences.{difference, FirstDifference}

-- where the bytes differ first, counted on from i
abbrev pub unequal_at : ℕ → Content → Content → Option ℕ
unequal_at i bs cs = position_from (λ (p : ℕ × ℕ). not (eqb p.0 p.1)) i (zip bs cs)

-- the bytes from offset i on: none that both have differ
pub record Nowhere (a i : ℕ) (bs cs : Content) : Type 0 where
  pub place : unequal_at i bs cs ≡ None
  pub none : difference a i bs cs ≡ None
  pub equal : length bs ≡ length cs → bs ≡ cs

-- the first that differ are k further on
pub record Somewhere (a i : ℕ) (bs cs : Content) : Type 0 where
  pub k : ℕ
  pub place : unequal_at i bs cs ≡ Some (i + k)
  pub some : difference a i bs cs ≡ Some (record { address = a; offset = i + k; old = get_or bs k 0; new = get_or cs k 0 })
  pub within : k < length bs
  pub before : take k bs ≡ take k cs
  pub differ : get_or bs k 0 ≡ get_or cs k 0 → ⊥

module _ (a : ℕ) where
  further : (i b : ℕ) (bs cs : Content) → eqb b b ≡ true → Nowhere a (suc i) bs cs ⊎ Somewhere a (suc i) bs cs → Nowhere a i (b ∷ bs) (b ∷ cs) ⊎ Somewhere a i (b ∷ bs) (b ∷ cs)
  further i b bs cs e (inl n) = inl (record { place = rw (e, add-one i) n.place; none = rw e n.none; equal = λ l. ap (λ (t : Content). b ∷ t) (n.equal (omega arith)) })
  further i b bs cs e (inr s) =
      let on : i + suc s.k ≡ suc i + s.k = omega arith in
      inr (record {
        k = suc s.k;
        place = rw (e, add-one i, on) s.place;
        some = rw (e, on) s.some;
        within = omega arith;
        before = ap (λ (t : Content). b ∷ t) s.before;
        differ = s.differ;
      })

  pub compared : (i : ℕ) (bs cs : Content) → Nowhere a i bs cs ⊎ Somewhere a i bs cs
  compared i [] [] = inl (record { place = refl; none = refl; equal = λ l. refl })
  compared i [] (c ∷ cs) = inl (record { place = refl; none = refl; equal = λ l. absurd (omega arith) })
  compared i (b ∷ bs) [] = inl (record { place = refl; none = refl; equal = λ l. absurd (omega arith) })
  compared i (b ∷ bs) (c ∷ cs) = here (eqb b c) refl (compared (suc i) bs cs)
    where
      here : (t : Bool) → eqb b c ≡ t → Nowhere a (suc i) bs cs ⊎ Somewhere a (suc i) bs cs → Nowhere a i (b ∷ bs) (c ∷ cs) ⊎ Somewhere a i (b ∷ bs) (c ∷ cs)
      here true e r =
          let same = eqb-true b c e in
          subst (λ (d : ℕ). Nowhere a i (b ∷ bs) (d ∷ cs) ⊎ Somewhere a i (b ∷ bs) (d ∷ cs)) same (further i b bs cs (eq-eqb b b refl) r)
      here false e r =
          let at : i + 0 ≡ i = omega arith in
          inr (record { k = 0; place = rw (e, at) refl; some = rw (e, at) refl; within = omega arith; before = refl; differ = λ f. (let g = eq-eqb b c f in absurd (cc)) })

  pub located : (bs cs : Content) → difference a 0 bs cs ≡ option_map (λ k. record { address = a; offset = k; old = get_or bs k 0; new = get_or cs k 0 }) (unequal_at 0 bs cs)
  located bs cs = elim (compared 0 bs cs) [
    | inl n ↦ rw (n.none, n.place) refl
    | inr s ↦ (let at : 0 + s.k ≡ s.k = omega arith in rw (s.some, s.place, at) refl)
  ]

  -- the places tell the difference
  pub first : (bs cs : Content) → length bs ≡ length cs → length bs ≤ 512 → FirstDifference a bs cs (difference a 0 bs cs)
  first bs cs l h = elim (compared 0 bs cs) [
    | inl n ↦ rw n.none (n.equal l)
    | inr s ↦ (let at : 0 + s.k ≡ s.k = omega arith in
        rw s.some (record { address = refl; offset = omega arith; before = rw at s.before; old = rw at refl; new = rw at refl; differ = s.differ }))
  ]
