-- The answers of look as plain values.
use Rattle.std.specs.Prelude.{◌≡◌, ℕ, List, [], Ok, Err, codes, Result}
use Rattle.disks.specs.Values.{StateValues, On, Dark, Dead, RefusalValues, IsDark, IsLost, refusal_values, numbered, meaning_of}
use Rattle.disks.specs.Meaning.{Content}
use Rattle.store.specs.Layout.{HeaderValues}
use Rattle.store.specs.Headers.{header_values}
use Rattle.store.specs.declared.header.Header.{Header}
use Rattle.store.specs.declared.look_refusal.LookRefusal.{LookRefusal}
use Rattle.store.specs.declared.look_refusal.LookRefusal.TheVariants as refusal

-- what the reader refused, or look itself
pub data LookRefusalValues : Type 0 where
  Disk : RefusalValues → LookRefusalValues
  UnfitSize : LookRefusalValues
  NoHeader : LookRefusalValues
  PastPlan : LookRefusalValues

abbrev pub look_refusal_values : LookRefusal → LookRefusalValues
look_refusal_values (refusal.Disk e) = Disk (refusal_values e)
look_refusal_values refusal.UnfitSize = UnfitSize
look_refusal_values refusal.NoHeader = NoHeader
look_refusal_values refusal.PastPlan = PastPlan

-- the number of a refusal, and the values that go with it
abbrev pub look_numbered : LookRefusalValues → ℕ × List ℕ
look_numbered (Disk e) = numbered e
look_numbered UnfitSize = (6, [])
look_numbered NoHeader = (7, [])
look_numbered PastPlan = (12, [])

-- the meaning of a refusal in words
abbrev pub look_meaning : LookRefusalValues → List ℕ
look_meaning (Disk e) = meaning_of e
look_meaning UnfitSize = codes "size below 34 or above 4,129 blocks"
look_meaning NoHeader = codes "header not well formed or N not size - 33"
look_meaning PastPlan = codes "address at or past N"

-- number and values say all
abbrev pub LookTellsApart : Type 0
LookTellsApart = (x y : LookRefusalValues) → look_numbered x ≡ look_numbered y → x ≡ y

-- done with an x, or a refusal
abbrev pub LookAnswer : Type 0 → Type 0
LookAnswer X = Result X LookRefusalValues

-- a look by its answer and what its place holds then
abbrev pub looked : Result Unit LookRefusal → Content → LookAnswer Content
looked (Ok u) b = Ok b
looked (Err e) b = Err (look_refusal_values e)

-- the same of a header that was read
abbrev pub header_looked : Result Header LookRefusal → LookAnswer HeaderValues
header_looked (Ok h) = Ok (header_values h)
header_looked (Err e) = Err (look_refusal_values e)

-- the answer at a reader that ends in a state: x if it is on, else dark or lost with the state's cause
abbrev pub look_answer_by : {X : Type 0} → LookAnswer X → StateValues → LookAnswer X
look_answer_by x On = x
look_answer_by x (Dark c) = Err (Disk (IsDark c))
look_answer_by x (Dead c) = Err (Disk (IsLost c))
