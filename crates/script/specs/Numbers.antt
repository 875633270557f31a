-- The numbers that digits write.
use Rattle.std.specs.Prelude.{◌≡◌, ℕ, ◌^◌, ◌<◌, ◌≤◌, cond, ◌&&◌, List, [], ◌∷◌, Some, None, decimal, Option, nat_le}
use Rattle.std.specs.Str.Parse.{digits_value_after}
use Rattle.std.specs.Str.{all_ascii_digits}

-- digits alone, and the number that they write after n is at most the limit
abbrev pub number_after : ℕ → ℕ → List ℕ → Option ℕ
number_after limit n ds = cond (all_ascii_digits ds && nat_le (digits_value_after 10 n ds) limit) (Some (digits_value_after 10 n ds)) None

-- at least one digit
abbrev pub number_of : ℕ → List ℕ → Option ℕ
number_of limit [] = None
number_of limit (d ∷ ds) = number_after limit 0 (d ∷ ds)

-- a number that is written and at most the limit is read back
abbrev pub ReadsBack : Type 0
ReadsBack = (limit n : ℕ) → n ≤ limit → n < 2 ^ 64 → number_of limit (decimal n) ≡ Some n
