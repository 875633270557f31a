-- What the words of a schedule say.
use Rattle.std.specs.Prelude.{◌≡◌, ℕ, zero, suc, ◌+◌, ◌-◌, ◌*◌, ◌/◌, ◌%◌, ◌^◌, ◌<◌, cond, List, [], ◌∷◌, ◌==◌}
use Rattle.bench.specs.declared.schedule.Verb.{Verb}
use Rattle.bench.specs.declared.schedule.Verb.TheVariants.{Go, CutBefore, CutAfter, Kill}
use Rattle.bench.specs.declared.schedule.Step.{Step}
use Rattle.bench.specs.declared.schedule.Schedule.{Schedule}

-- the verb with this number
abbrev pub verb_at : ℕ → Verb
verb_at zero = Go
verb_at (suc zero) = CutBefore
verb_at (suc (suc zero)) = CutAfter
verb_at (suc (suc (suc n))) = Kill

-- the parts of a word: its first 2 bits, the next 16, and the last 14
abbrev pub verb_part : ℕ → ℕ
verb_part w = w / 2 ^ 30

abbrev pub pick_part : ℕ → ℕ
pick_part w = w / 2 ^ 14 % 2 ^ 16

abbrev pub gap_part : ℕ → ℕ
gap_part w = w % 2 ^ 14

-- the word with these parts
abbrev pub word_of : ℕ → ℕ → ℕ → ℕ
word_of v p g = v * 2 ^ 30 + p * 2 ^ 14 + g

-- the step with a word's verb and pick
abbrev pub step_of : ℕ → Step
step_of w = record { verb = verb_at (verb_part w); pick = pick_part w }

-- a step at which nothing happens
abbrev pub empty_step : Step
empty_step = record { verb = Go; pick = 0 }

-- The next step and the words left after it, from the words left. The gap is a word's last bits, so a word with one empty step less is one less.
abbrev pub step_from : List ℕ → Step × List ℕ
step_from [] = (empty_step, [])
step_from (w ∷ ws) = cond (gap_part w == 0) (step_of w, ws) (empty_step, (w - 1) ∷ ws)

-- the words left after n steps
abbrev pub left_after : ℕ → List ℕ → List ℕ
left_after zero ws = ws
left_after (suc n) ws = left_after n (step_from ws).1

-- step n, counted from 0
abbrev pub step_at : ℕ → List ℕ → Step
step_at n ws = (step_from (left_after n ws)).0

-- the words that a schedule has not used up
abbrev pub words_left : Schedule → List ℕ
words_left s = s.words.items

-- the word made of parts that fit their bits reads back as them
pub record WordParts (v p g : ℕ) : Type 0 where
  pub fits : word_of v p g < 2 ^ 32
  pub verb : verb_part (word_of v p g) ≡ v
  pub pick : pick_part (word_of v p g) ≡ p
  pub gap : gap_part (word_of v p g) ≡ g

-- a word is as many empty steps as its gap says, then the step with its verb and pick, then the later words
pub record WordSteps (w : ℕ) (ws : List ℕ) : Type 0 where
  pub gap : (i : ℕ) → i < gap_part w → step_at i (w ∷ ws) ≡ empty_step
  pub step : step_at (gap_part w) (w ∷ ws) ≡ step_of w
  pub rest : left_after (gap_part w + 1) (w ∷ ws) ≡ ws

-- a schedule's steps are those that its words spell out, and after the last word every step is empty
pub record SpelledOut : Type 0 where
  pub parts : (v p g : ℕ) → v < 4 → p < 65536 → g < 16384 → WordParts v p g
  pub whole : (w : ℕ) → word_of (verb_part w) (pick_part w) (gap_part w) ≡ w
  pub words : (w : ℕ) (ws : List ℕ) → WordSteps w ws
  pub over : (n : ℕ) → step_at n [] ≡ empty_step
