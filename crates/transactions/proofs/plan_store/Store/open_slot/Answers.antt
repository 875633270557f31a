use Rattle.std.proofs.Common.{◌∙◌, ap, sym, rules, List, ℕ}
use Rattle.std.proofs.lemmas.List.{length-take-le}
use Rattle.store.specs.Headers.{header_values}
use Rattle.store.specs.Log.{newest}
use Rattle.transactions.specs.Holding.{store_values}
use Rattle.transactions.proofs.Slots.{slot_filtered}
use Rattle.transactions.proofs.Tables.{table_parts}
use Rattle.transactions.proofs.plan_store.Store.open_slot.Goals as goal

pub returns : goal.returns
returns g c =
    let s = c.args.self.now in
    let long = length-take-le s.logged (header_values s.table).log s.within in
    let searched = λ (d : ℕ). c.slot_of.ensures.value d ∙ ap (λ (xs : List ℕ). newest 1 xs c.args.address d) (sym (table_parts s)) in
    slot_filtered (store_values s) c.args.address s.logged (sym long) _ _ _ searched (λ x b p. search rules) c.filter.ensures
