use Rattle.std.proofs.Common.{◌≡◌, ℕ, ◌<◌, ◌≤◌, length, take, get_or}
use Rattle.store.proofs.header.log.Log.slot_of.Given as goal

-- what is left is the front of the log, and no slot past it holds the address
abbrev pub invariant-loop-log : goal.invariant-loop-log
invariant-loop-log l = record {
  left : l.log ≡ take (length l.log) l.initial.log;
  within : length l.log ≤ length l.initial.log;
  passed : (j : ℕ) → length l.log ≤ j → j < length l.initial.log → get_or l.initial.log j 0 ≡ l.address → ⊥;
}

abbrev pub decreases-loop-log : goal.decreases-loop-log
decreases-loop-log l = length l.log
