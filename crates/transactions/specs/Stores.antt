-- A store as its calls see it, and the checks that each call begins with.
use Rattle.std.specs.Prelude.{◌≡◌, ℕ, ◌+◌, Bool, true, false, cond, not, ◌&&◌, ◌||◌, List, [], ◌∷◌, ◌++◌, length, Some, None, Err, Option, ◌==◌, nat_le}
use Rattle.store.specs.Log.{newest}
use Rattle.store.specs.Looks.{fit}
use Rattle.transactions.specs.StoreAnswers.{StoreRefusalValues, UnfitSize, StoreDown, TransactionOpen, NoTicket, TicketOut, PastPlan, LogFull, StoreAnswer}
use Rattle.transactions.specs.declared.phase.Phase.{Phase}
use Rattle.transactions.specs.declared.phase.Phase.TheVariants as phase

-- what a store can do next: no transaction is open, one is, or the store has to be restarted or formatted first
pub data PhaseValues : Type 0 where
  Idle : PhaseValues
  Open : PhaseValues
  Down : PhaseValues

-- the same of the code's phase, and whether a ticket is out in it
abbrev pub phase_values : Phase → PhaseValues
phase_values phase.Idle = Idle
phase_values phase.Open = Open
phase_values (phase.Down out) = Down

abbrev pub has_ticket : Phase → Bool
has_ticket phase.Idle = false
has_ticket phase.Open = true
has_ticket (phase.Down out) = out

-- a store: the disk it holds, its phase, whether a ticket is out, N, the logged addresses and those of the open writes
pub record StoreValues (D : Type 0) : Type 0 where
  pub disk : D
  pub phase : PhaseValues
  pub out : Bool
  pub n : ℕ
  pub logged : List ℕ
  pub opened : List ℕ

abbrev pub at : {D : Type 0} → D → PhaseValues → Bool → ℕ → List ℕ → List ℕ → StoreValues D
at d ph o n xs ys = record { disk = d; phase = ph; out = o; n = n; logged = xs; opened = ys }

-- the same store, with its disk left as m
abbrev pub on : {D : Type 0} → D → StoreValues D → StoreValues D
on m s = at m s.phase s.out s.n s.logged s.opened

-- the same store, down
abbrev pub down : {D : Type 0} → StoreValues D → StoreValues D
down s = at s.disk Down s.out s.n s.logged s.opened

abbrev pub is_down : PhaseValues → Bool
is_down Idle = false
is_down Open = false
is_down Down = true

abbrev pub is_open : PhaseValues → Bool
is_open Idle = false
is_open Open = true
is_open Down = false

-- whether an address is among those of a list
abbrev pub member : ℕ → List ℕ → Bool
member a [] = false
member a (x ∷ xs) = x == a || member a xs

-- the open addresses after a write to a
abbrev pub noted : ℕ → List ℕ → List ℕ
noted a ys = cond (member a ys) ys (ys ++ (a ∷ []))

-- a check: what is wrong, and the refusal then
abbrev pub Check : Type 0
Check = Bool × StoreRefusalValues

-- the refusal of the first check that finds something wrong
abbrev pub first : List Check → Option StoreRefusalValues
first [] = None
first (c ∷ cs) = cond c.0 (Some c.1) (first cs)

module _ {D : Type 0} where
  -- the block that a write to a goes to: the slot of an open write to a, else the one after all that are in use
  abbrev pub write_block : StoreValues D → ℕ → ℕ
  write_block s a = newest (1 + length s.logged) s.opened a (1 + length (s.logged ++ s.opened))

  -- the log is full for a: 32 slots in use, and none of them is that of an open write to a
  abbrev pub full : StoreValues D → ℕ → Bool
  full s a = nat_le 32 (length (s.logged ++ s.opened)) && not (member a s.opened)

  -- a noted among the open writes
  abbrev pub noting : StoreValues D → ℕ → StoreValues D
  noting s a = at s.disk s.phase s.out s.n s.logged (noted a s.opened)

  -- the checks of each call, in their order
  abbrev pub start_checks : (D → ℕ) → StoreValues D → List Check
  start_checks size s = (s.out, TicketOut) ∷ (not (fit (size s.disk)), UnfitSize) ∷ []

  abbrev pub begin_checks : StoreValues D → List Check
  begin_checks s = (is_down s.phase, StoreDown) ∷ (is_open s.phase, TransactionOpen) ∷ []

  abbrev pub write_checks : StoreValues D → ℕ → List Check
  write_checks s a = (not s.out, NoTicket) ∷ (is_down s.phase, StoreDown) ∷ (nat_le s.n a, PastPlan) ∷ (full s a, LogFull) ∷ []

  abbrev pub read_checks : StoreValues D → ℕ → List Check
  read_checks s a = (is_down s.phase, StoreDown) ∷ (nat_le s.n a, PastPlan) ∷ []

  abbrev pub ticket_checks : StoreValues D → List Check
  ticket_checks s = (not s.out, NoTicket) ∷ []

  -- a call: refused by a check, with nothing changed, or the work past the checks
  abbrev pub Passes : {X : Type 0} → Option StoreRefusalValues → StoreValues D → StoreAnswer X → StoreValues D → Type 0 → Type 0
  Passes (Some e) s r t work = (r ≡ Err e) × (t ≡ s)
  Passes None s r t work = work
