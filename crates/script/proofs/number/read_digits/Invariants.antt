use Rattle.std.proofs.Common.{◌≡◌, ◌≤◌, drop}
use Rattle.script.specs.Numbers.{number_after}
use Rattle.script.proofs.number.read_digits.Given as goal

-- the digits that are left say the rest
abbrev pub invariant-loop-byte : goal.invariant-loop-byte
invariant-loop-byte l = (number_after l.limit l.value (drop l.byte-index l.text) ≡ number_after l.limit 0 l.text) × (l.value ≤ l.limit)
