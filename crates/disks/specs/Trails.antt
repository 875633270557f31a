-- Causes and answers on their way up a pile: what a disk gives, as the pair gives it whose side the disk is.
use Rattle.std.specs.Prelude.{ℕ, List, [], ◌∷◌, take, Ok, Err}
use Rattle.disks.specs.Values.{CauseValues, RefusalValues, PastEnd, IsDark, IsLost, Answer}

-- the cause of a call on block k, with an empty trail: it met the cut or the death itself
abbrev pub cause_at : ℕ → ℕ → CauseValues
cause_at call k = record { call = call; block = k; trail = [] }

-- the cause of a pair that is not joined: no call met a cut
abbrev pub unjoined_cause : CauseValues
unjoined_cause = cause_at 0 0

-- the side put before the trail; a trail has room for eight
abbrev pub trail_under : {A : Type 0} → A → List A → List A
trail_under i t = take 8 (i ∷ t)

abbrev pub cause_under : ℕ → CauseValues → CauseValues
cause_under i c = record { call = c.call; block = c.block; trail = trail_under i c.trail }

-- a side's refusal and answer, as its pair gives them
abbrev pub refusal_under : ℕ → RefusalValues → RefusalValues
refusal_under i PastEnd = PastEnd
refusal_under i (IsDark c) = IsDark (cause_under i c)
refusal_under i (IsLost c) = IsLost (cause_under i c)

abbrev pub answer_under : {X : Type 0} → ℕ → Answer X → Answer X
answer_under i (Ok x) = Ok x
answer_under i (Err e) = Err (refusal_under i e)
