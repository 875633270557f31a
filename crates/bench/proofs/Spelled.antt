-- A schedule's steps are those that its words spell out.
use Rattle.std.proofs.Common.{◌≡◌, ℕ, zero, suc, ◌-◌, ◌<◌, List, [], ◌∷◌, refl, ap, ◌∙◌, add-one, arith}
use Rattle.std.proofs.lemmas.Bool.{eq-eqb, ne_eqb}
use Rattle.bench.specs.declared.schedule.Step.{Step}
use Rattle.bench.specs.Schedules.{verb_part, pick_part, gap_part, step_of, empty_step, step_from, left_after, step_at, SpelledOut}

abbrev Taken : Type 0
Taken = Step × List ℕ

-- a word with no gap is its step
at_once : (w : ℕ) (ws : List ℕ) → gap_part w ≡ 0 → ◌≡◌ {A = Taken} (step_from (w ∷ ws)) (step_of w, ws)
at_once w ws e = let t = eq-eqb (gap_part w) 0 e in cc

-- one with a gap is an empty step, and then the word one less
waits : (w : ℕ) (ws : List ℕ) → 0 < gap_part w → ◌≡◌ {A = Taken} (step_from (w ∷ ws)) (empty_step, (w - 1) ∷ ws)
waits w ws h = let t = ne_eqb (gap_part w) 0 (omega arith) in cc

-- which has the same verb and pick
same_step : (w : ℕ) → 0 < gap_part w → step_of (w - 1) ≡ step_of w
same_step w h =
    let v : verb_part (w - 1) ≡ verb_part w = omega arith in
    let p : pick_part (w - 1) ≡ pick_part w = omega arith in
    cc

gap_empty : (g w : ℕ) (ws : List ℕ) (i : ℕ) → gap_part w ≡ g → i < g → step_at i (w ∷ ws) ≡ empty_step
gap_empty zero w ws i e h = absurd (omega arith)
gap_empty (suc g) w ws zero e h = ap (λ (x : Taken). x.0) (waits w ws (omega arith))
gap_empty (suc g) w ws (suc i) e h =
    ap (λ (x : Taken). step_at i x.1) (waits w ws (omega arith)) ∙ gap_empty g (w - 1) ws i (omega arith) (omega arith)

-- after its gap a word is its step
past_gap : (g w : ℕ) (ws : List ℕ) → gap_part w ≡ g → ◌≡◌ {A = Taken} (step_from (left_after g (w ∷ ws))) (step_of w, ws)
past_gap zero w ws e = at_once w ws e
past_gap (suc g) w ws e =
    let a : left_after (suc g) (w ∷ ws) ≡ left_after g ((w - 1) ∷ ws) = ap (λ (x : Taken). left_after g x.1) (waits w ws (omega arith)) in
    let b = past_gap g (w - 1) ws (omega arith) in
    let c = same_step w (omega arith) in
    cc

-- one step more, at the end
left_more : (n : ℕ) (ws : List ℕ) → left_after (suc n) ws ≡ (step_from (left_after n ws)).1
left_more zero ws = refl
left_more (suc n) ws = left_more n (step_from ws).1

over : (n : ℕ) → step_at n [] ≡ empty_step
over zero = refl
over (suc n) = over n

pub spelled_out : SpelledOut
spelled_out = record {
  parts = λ v p g hv hp hg. record { fits = omega arith; verb = omega arith; pick = omega arith; gap = omega arith };
  whole = λ w. omega arith;
  words = λ w ws. record {
    gap = λ i h. gap_empty (gap_part w) w ws i refl h;
    step = ap (λ (x : Taken). x.0) (past_gap (gap_part w) w ws refl);
    rest = rw add-one (left_more (gap_part w) (w ∷ ws) ∙ ap (λ (x : Taken). x.1) (past_gap (gap_part w) w ws refl));
  };
  over = over;
}
