-- The newest slot for an address, by what the log holds.
use Rattle.std.proofs.Common.{◌≡◌, ℕ, zero, suc, ◌+◌, ◌<◌, Bool, cond, eqb, List, [], ◌∷◌, length, get_or, refl, ap, ◌∙◌, arith}
use Rattle.std.proofs.lemmas.Bool.{eq-eqb, ne_eqb}
use Rattle.store.specs.Log.{newest}

-- no slot of the log holds a
pub newest_none : (k : ℕ) (log : List ℕ) (a d : ℕ) → ((i : ℕ) → i < length log → get_or log i 0 ≡ a → ⊥) → newest k log a d ≡ d
newest_none k [] a d h = refl
newest_none k (x ∷ log) a d h =
    newest_none (suc k) log a _ (λ i lt. h (suc i) (omega arith)) ∙ ap (λ (b : Bool). cond b k d) (ne_eqb x a (h 0 (omega arith)))

-- slot k + i holds a, and no later one
pub newest_some : (k : ℕ) (log : List ℕ) (a d i : ℕ) → i < length log → get_or log i 0 ≡ a → ((j : ℕ) → i < j → j < length log → get_or log j 0 ≡ a → ⊥) → newest k log a d ≡ k + i
newest_some k [] a d i lt e h = absurd (omega arith)
newest_some k (x ∷ log) a d zero lt e h =
    let first = ap (λ (b : Bool). cond b k d) (eq-eqb x a e) in
    let none = newest_none (suc k) log a (cond (eqb x a) k d) (λ j l. h (suc j) (omega arith) (omega arith)) in
    omega (arith, first, none)
newest_some k (x ∷ log) a d (suc i) lt e h =
    let more = newest_some (suc k) log a (cond (eqb x a) k d) i (omega arith) e (λ j l m. h (suc j) (omega arith) (omega arith)) in
    omega (arith, more)
