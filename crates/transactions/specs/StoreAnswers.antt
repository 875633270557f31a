-- The answers of a store as plain values.
use Rattle.std.specs.Prelude.{◌≡◌, ℕ, List, [], Ok, Err, codes, Result}
use Rattle.disks.specs.Values.{RefusalValues, Answer, refusal_values, numbered, meaning_of}
use Rattle.disks.specs.Meaning.{Content}
use Rattle.store.specs.LookValues as look
use Rattle.transactions.specs.declared.store_refusal.StoreRefusal.{StoreRefusal}
use Rattle.transactions.specs.declared.store_refusal.StoreRefusal.TheVariants as refusal
use Rattle.transactions.specs.declared.ticket.Ticket.{Ticket}

-- what the disk refused, or the store itself
pub data StoreRefusalValues : Type 0 where
  Disk : RefusalValues → StoreRefusalValues
  UnfitSize : StoreRefusalValues
  NoHeader : StoreRefusalValues
  StoreDown : StoreRefusalValues
  TransactionOpen : StoreRefusalValues
  NoTicket : StoreRefusalValues
  TicketOut : StoreRefusalValues
  PastPlan : StoreRefusalValues
  LogFull : StoreRefusalValues

abbrev pub store_refusal_values : StoreRefusal → StoreRefusalValues
store_refusal_values (refusal.Disk e) = Disk (refusal_values e)
store_refusal_values refusal.UnfitSize = UnfitSize
store_refusal_values refusal.NoHeader = NoHeader
store_refusal_values refusal.StoreDown = StoreDown
store_refusal_values refusal.TransactionOpen = TransactionOpen
store_refusal_values refusal.NoTicket = NoTicket
store_refusal_values refusal.TicketOut = TicketOut
store_refusal_values refusal.PastPlan = PastPlan
store_refusal_values refusal.LogFull = LogFull

-- the number of a refusal, and the values that go with it
abbrev pub store_numbered : StoreRefusalValues → ℕ × List ℕ
store_numbered (Disk e) = numbered e
store_numbered UnfitSize = (6, [])
store_numbered NoHeader = (7, [])
store_numbered StoreDown = (8, [])
store_numbered TransactionOpen = (9, [])
store_numbered NoTicket = (10, [])
store_numbered TicketOut = (11, [])
store_numbered PastPlan = (12, [])
store_numbered LogFull = (13, [])

-- the meaning of a refusal in words
abbrev pub store_meaning : StoreRefusalValues → List ℕ
store_meaning (Disk e) = meaning_of e
store_meaning UnfitSize = codes "size below 34 or above 4,129 blocks"
store_meaning NoHeader = codes "header not well formed or N not size - 33"
store_meaning StoreDown = codes "store is down"
store_meaning TransactionOpen = codes "transaction open"
store_meaning NoTicket = codes "no ticket out at this store"
store_meaning TicketOut = codes "format or restart with a ticket out"
store_meaning PastPlan = codes "address at or past N"
store_meaning LogFull = codes "log full"

-- number and values say all
abbrev pub StoreTellsApart : Type 0
StoreTellsApart = (x y : StoreRefusalValues) → store_numbered x ≡ store_numbered y → x ≡ y

-- done with an x, or a refusal
abbrev pub StoreAnswer : Type 0 → Type 0
StoreAnswer X = Result X StoreRefusalValues

abbrev pub store_answer : {X : Type 0} → Result X StoreRefusal → StoreAnswer X
store_answer (Ok x) = Ok x
store_answer (Err e) = Err (store_refusal_values e)

-- the answer of begin: a done one gives a ticket
abbrev pub ticketed : Result Ticket StoreRefusal → StoreAnswer Unit
ticketed (Ok t) = Ok tt
ticketed (Err e) = Err (store_refusal_values e)

-- a read by its answer and what its place holds then
abbrev pub store_shown : Result Unit StoreRefusal → Content → StoreAnswer Content
store_shown (Ok u) b = Ok b
store_shown (Err e) b = Err (store_refusal_values e)

-- the disk's answer, passed on
abbrev pub by_disk : {X : Type 0} → Answer X → StoreAnswer X
by_disk (Ok x) = Ok x
by_disk (Err e) = Err (Disk e)

-- a refusal of look, as the store's
abbrev pub from_look : look.LookRefusalValues → StoreRefusalValues
from_look (look.Disk e) = Disk e
from_look look.UnfitSize = UnfitSize
from_look look.NoHeader = NoHeader
from_look look.PastPlan = PastPlan
