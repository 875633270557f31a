-- What a comparison comes to, as plain values.
use Rattle.std.specs.Prelude.{ℕ, List, Ok, Err, vec_items, Option, Result}
use Rattle.disks.specs.Meaning.{Content}
use Rattle.store.specs.LookValues.{LookRefusalValues, LookAnswer, look_refusal_values}
use Rattle.compare.specs.declared.comparison.Comparison.{Comparison}
use Rattle.compare.specs.declared.difference.Difference.{Difference}
use Rattle.compare.specs.declared.stop.Side.{Side}
use Rattle.compare.specs.declared.stop.Stop.{Stop}

-- the refusal that ended a comparison: at an address, of a side
pub data StopValues : Type 0 where
  Refused : ℕ → Side → LookRefusalValues → StopValues

abbrev pub stop_values : Stop → StopValues
stop_values s = Refused s.address s.side (look_refusal_values s.refusal)

-- done with an x, or stopped
abbrev pub Outcome : Type 0 → Type 0
Outcome X = Result X StopValues

-- what a result came to, where f takes what it gives to a plain value
abbrev pub outcome_by : {T X : Type 0} → (T → X) → Result T Stop → Outcome X
outcome_by f (Ok x) = Ok (f x)
outcome_by f (Err e) = Err (stop_values e)

-- what one look of a comparison came to
abbrev pub looked_at : Result Unit Stop → Content → LookAnswer Content
looked_at (Ok u) b = Ok b
looked_at (Err s) b = Err (look_refusal_values s.refusal)

-- what a comparison, and one address of it came to
abbrev pub outcome : Result Comparison Stop → Outcome (List Difference)
outcome r = outcome_by (λ c. vec_items c.differences) r

abbrev pub turn_outcome : Result (Option Difference) Stop → Outcome (Option Difference)
turn_outcome r = outcome_by (λ d. d) r
