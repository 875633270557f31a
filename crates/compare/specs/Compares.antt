-- The comparison: its steps, look by look, and what it means.
use Rattle.std.specs.Prelude.{◌≡◌, ℕ, zero, suc, ◌-◌, ◌<◌, min, false, cond, List, [], ◌++◌, Some, None, Ok, Err, Option, nat_lt}
use Rattle.disks.specs.Values.{StateValues, On}
use Rattle.disks.specs.Meaning.{View, Content, Off, Kept, FacesKeep, NoneGained, Unchanged, Means}
use Rattle.disks.specs.declared.reader.Reader
use Rattle.std.specs.Option.{unwrap_or, option_to_list}
use Rattle.store.specs.LookValues.{LookAnswer}
use Rattle.store.specs.Looks.{fit, plan_of, Looks, LookMeans, look_answer}
use Rattle.compare.specs.Differences.{difference, differences}
use Rattle.compare.specs.Outcomes.{Refused, Outcome}
use Rattle.compare.specs.declared.comparison.Only.{Only}
use Rattle.compare.specs.declared.difference.Difference.{Difference}
use Rattle.compare.specs.declared.stop.Side.TheVariants.{Old, New}

-- how many addresses two stores of these sizes share; where one is no store, one address is looked up all the same
abbrev pub shared : ℕ → ℕ → ℕ
shared m n = unwrap_or (plan_of (min m n)) 1

-- the addresses that the longer one alone has
abbrev pub lone : ℕ → ℕ → Option Only
lone m n =
    cond (nat_lt n m) (Some (record { side = Old; first = n - 33; last = m - 34 }))
    (cond (nat_lt m n) (Some (record { side = New; first = m - 33; last = n - 34 })) None)

-- what an address comes to, where the old store showed b and the new one answers
abbrev pub compared_at : ℕ → Content → LookAnswer Content → Outcome (Option Difference)
compared_at a b (Ok c) = Ok (difference a 0 b c)
compared_at a b (Err e) = Err (Refused a New e)

-- by how a look goes in the old store and in the new one
module _ {A B : Type 0} (Look₀ : A → ℕ → LookAnswer Content → A → Type 0) (Look₁ : B → ℕ → LookAnswer Content → B → Type 0) where
  -- the new store's part, after the old one's answer
  abbrev pub ComparesNew : ℕ → LookAnswer Content → B → Outcome (Option Difference) → B → Type 0
  ComparesNew a (Ok b) t x t' = (y : LookAnswer Content) × Look₁ t a y t' × (x ≡ compared_at a b y)
  ComparesNew a (Err e) t x t' = (x ≡ Err (Refused a Old e)) × (t' ≡ t)

  -- address a is looked up in the old store, then in the new one
  abbrev pub ComparesAt : ℕ → A → B → Outcome (Option Difference) → A → B → Type 0
  ComparesAt a s t x s' t' = (y : LookAnswer Content) × Look₀ s a y s' × ComparesNew a y t x t'

  -- the first n addresses, with no refusal
  abbrev pub Compared : ℕ → A → B → List Difference → A → B → Type 0
  Compared zero s t ds s' t' = (ds ≡ []) × (s' ≡ s) × (t' ≡ t)
  Compared (suc a) s t ds s' t' =
      (m : A) × (k : B) × (es : List Difference) × (d : Option Difference) × Compared a s t es m k × ComparesAt a m k (Ok d) s' t' × (ds ≡ es ++ option_to_list d)

  -- n addresses, to the end or to the first refusal
  abbrev pub Compares : ℕ → A → B → Outcome (List Difference) → A → B → Type 0
  Compares n s t (Ok ds) s' t' = Compared n s t ds s' t'
  Compares n s t (Err (Refused a side e)) s' t' =
      (a < n) × (m : A) × (k : B) × (es : List Difference) × Compared a s t es m k × ComparesAt a m k (Err (Refused a side e)) s' t'

-- a look by its steps and its meaning
abbrev pub LooksMeant : {S : Type 0} → Reader.Ghosts S → S → ℕ → LookAnswer Content → S → Type 0
LooksMeant R s a x t = Looks R s a x t × Means R.view R.sound s t (λ v w. LookMeans v a x w)

-- what a look shows on a reader that stays on
abbrev pub shows : View → ℕ → LookAnswer Content
shows v a = look_answer v a On

-- the block in an answer
abbrev pub block_in : LookAnswer Content → Content
block_in (Ok b) = b
block_in (Err e) = []

-- the plan that looks show
abbrev pub plan : View → ℕ → Content
plan v a = block_in (shows v a)

-- look shows a block at each of the first n addresses
abbrev pub ShowsAll : ℕ → View → Type 0
ShowsAll n v = (a : ℕ) → a < n → shows v a ≡ Ok (plan v a)

-- what the answer says of both stores, by the faces before and the states after
abbrev pub Answers : ℕ → View → View → Outcome (List Difference) → StateValues → StateValues → Type 0
Answers n v w (Ok ds) st₀ st₁ = ShowsAll n v × ShowsAll n w × (ds ≡ differences n (plan v) (plan w)) × (st₀ ≡ On) × (st₁ ≡ On)
Answers n v w (Err (Refused a Old e)) st₀ st₁ = (a < n) × ShowsAll a v × ShowsAll a w × (Err e ≡ look_answer v a st₀) × (0 < a → st₁ ≡ On)
Answers n v w (Err (Refused a New e)) st₀ st₁ = (a < n) × ShowsAll (suc a) v × ShowsAll a w × (Err e ≡ look_answer w a st₁) × (st₀ ≡ On)

-- what looks leave of a reader
pub record Left (v w : View) : Type 0 where
  pub kept : Kept v w
  pub faces : w.state ≡ On → FacesKeep v w
  pub gained : NoneGained v w
  pub unfit : fit v.size ≡ false → Unchanged v w
  pub off : Off v.state → Unchanged v w

-- what a comparison says, and what it leaves of both readers
pub record Meant (v w : View) (x : Outcome (List Difference)) (v' w' : View) : Type 0 where
  pub answer : Answers (shared v.size w.size) v w x v'.state w'.state
  pub old : Left v v'
  pub new : Left w w'

-- two sound readers are left sound, and the comparison means what it says
abbrev pub CompareMeans : {A B : Type 0} → Reader.Ghosts A → Reader.Ghosts B → A → B → Outcome (List Difference) → A → B → Type 0
CompareMeans R₀ R₁ s t x s' t' = R₀.sound s → R₁.sound t → R₀.sound s' × R₁.sound t' × Meant (R₀.view s) (R₁.view t) x (R₀.view s') (R₁.view t')
