-- Where a byte first stands, the first piece ends.
use Rattle.std.proofs.Common.{◌≡◌, ℕ, ◌+◌, ◌≤◌, Bool, true, false, cond, eqb, List, [], ◌∷◌, length, take, drop, Some, None, Option, sym, refl, ap, ◌∙◌, arith, Bor}
use Rattle.std.proofs.lemmas.Bool.Decides.{nat_tests}
use Rattle.std.proofs.lemmas.List.Splits.{slice_split_first, slice_split_none}
use Rattle.std.proofs.lemmas.List.Sums.{fails_before_first}
use Rattle.std.specs.List.{slice_split, onto_first, position, position_or_len}
use Rattle.std.specs.Option.{unwrap_or}
use Rattle.script.specs.Pieces.{pieces, pieces_in, ended, lines}

module _ (p : ℕ → Bool) where
  pub split_at : (bs : List ℕ) (i : ℕ) → Some i ≡ position p bs → slice_split p bs ≡ take i bs ∷ slice_split p (drop (i + 1) bs)
  split_at bs i e = grind (arith, nat_tests, slice_split_first p bs 0)

  none_passes : (bs : List ℕ) → None ≡ position p bs → length bs ≤ position_or_len p bs
  none_passes bs e = grind (arith, nat_tests)

  pub split_none : (bs : List ℕ) → None ≡ position p bs → slice_split p bs ≡ bs ∷ []
  split_none bs e = slice_split_none p bs (λ k d lt. let all = none_passes bs e in fails_before_first p bs k d (omega arith))

-- a text has a first piece
pub pieces_some : (d : ℕ) (bs : List ℕ) → (p : List ℕ) × (ps : List (List ℕ)) × (pieces d bs ≡ p ∷ ps)
pieces_some d [] = ([], [], refl)
pieces_some d (b ∷ bs) =
    let rest = pieces_some d bs in
    elim (eqb b d) as (λ t. (p : List ℕ) × (ps : List (List ℕ)) × (cond t ([] ∷ pieces d bs) (onto_first b (pieces d bs)) ≡ p ∷ ps)) [
      | true ↦ ([], pieces d bs, refl)
      | false ↦ (b ∷ rest.0, rest.1, ap (onto_first b) rest.2)
    ]

-- the first piece of a text that begins is not empty where it is the only one
one_piece : (b : ℕ) (bs : List ℕ) (t : Bool) → cond t ([] ∷ pieces 10 bs) (onto_first b (pieces 10 bs)) ≡ [] ∷ [] → ⊥
one_piece b bs true e = let p = pieces_some 10 bs in cc
one_piece b bs false e = let p = pieces_some 10 bs in let g : onto_first b (p.0 ∷ p.1) ≡ [] ∷ [] = ap (onto_first b) (sym p.2) ∙ e in cc

only_line : (bs line : List ℕ) → (length bs ≡ 0 → ⊥) → pieces 10 bs ≡ line ∷ [] → lines bs ≡ line ∷ []
only_line [] line some e = absurd (some refl)
only_line (b ∷ bs) [] some e = absurd (one_piece b bs (eqb b 10) e)
only_line (b ∷ bs) (c ∷ line) some e = ap ended e

-- the first line, and those of what follows its end, if it has one
pub first_line : (bs line : List ℕ) (o : Option (Bor (List ℕ))) (nothing : Bor (List ℕ)) → (length bs ≡ 0 → ⊥) → pieces 10 bs ≡ line ∷ pieces_in 10 o → nothing.now ≡ [] →
    lines bs ≡ line ∷ lines (unwrap_or o nothing).now
first_line bs line None nothing some e empty = only_line bs line some e ∙ ap (λ (t : List ℕ). line ∷ lines t) (sym empty)
first_line bs line (Some after) nothing some e empty =
    let p = pieces_some 10 after.now in
    ap ended (e ∙ ap (λ (ps : List (List ℕ)). line ∷ ps) p.2) ∙ ap (λ (ps : List (List ℕ)). line ∷ ended ps) (sym p.2)
