-- The address table of a store: its logged part, its open part, and its header.
use Rattle.std.proofs.Common.{◌≡◌, ℕ, not, ◌&&◌, List, ◌++◌, sym, refl, subst, arith}
use Rattle.std.proofs.lemmas.List.{drop_all, take-append-drop}
use Rattle.store.specs.Layout.{InRange}
use Rattle.store.specs.Headers.{header_values}
use Rattle.store.specs.declared.header.Header.{Header}
use Rattle.transactions.specs.Stores.{is_open, is_down, phase_values, has_ticket}
use Rattle.transactions.specs.Holding.{store_values, Ordered}
use Rattle.transactions.specs.declared.plan_store.Store.{Store}
use Rattle.transactions.specs.declared.phase.Phase.{Phase}
use Rattle.transactions.specs.declared.phase.Phase.TheVariants.{Idle, Open, Down}

-- a header keeps its ranges
pub header_in_range : (h : Header) → InRange (header_values h)
header_in_range h = h.in_range

-- the parts of a store's table make up the whole
pub table_parts : {D : Type 0} (s : Store D) → (store_values s).logged ++ (store_values s).opened ≡ (header_values s.table).log
table_parts s = take-append-drop s.logged (header_values s.table).log

-- a store is open exactly if it is up with a ticket out
opens : (p : Phase) → is_open (phase_values p) ≡ (has_ticket p && not (is_down (phase_values p)))
opens Idle = refl
opens Open = refl
opens (Down out) = grind arith

-- every store is ordered
pub ordered : {D : Type 0} (s : Store D) → Ordered (store_values s)
ordered s = record {
  opens = opens s.phase;
  closed = λ e. drop_all s.logged (header_values s.table).log (let c = s.closed e in omega arith);
  table = subst (λ (xs : List ℕ). InRange (record { n = s.table.n; log = xs })) (sym (table_parts s)) (header_in_range s.table);
}
