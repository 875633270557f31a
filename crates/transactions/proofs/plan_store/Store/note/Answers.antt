use Rattle.std.proofs.Common.{◌≡◌, ℕ, Bool, true, false, Option, Some, None, is_some, ◌∷◌, [], ◌++◌, length, take, drop, sym, ap, ◌∙◌, arith, rules, length-append}
use Rattle.std.specs.Option.{IfSome}
use Rattle.store.specs.Layout.{HeaderValues, has_room, with_address}
use Rattle.store.specs.Headers.{header_values}
use Rattle.transactions.specs.Stores.{at, phase_values, has_ticket}
use Rattle.transactions.specs.Slots.{open_slot, Notes}
use Rattle.transactions.specs.Holding.{store_values}
use Rattle.transactions.specs.declared.plan_store.Store.{Store}
use Rattle.transactions.proofs.Slots.{notes_again, notes_full, notes_new, pushed_values, has_room_true, has_room_false}
use Rattle.transactions.proofs.Tables.{table_parts}
use Rattle.transactions.proofs.plan_store.Store.note.Goals as goal

-- a table that took the address at its end, or had no room for it
pushed : {D : Type 0} (s : Store D) (a : ℕ) (t : HeaderValues) (added : Bool) (r : Option ℕ) (P : ℕ → Type 0) → None ≡ open_slot (store_values s) a →
    added ≡ has_room (header_values s.table) a → t ≡ with_address (header_values s.table) a → is_some r ≡ added → ((k : ℕ) → P k → k ≡ length t.log) → IfSome r P →
    Notes (store_values s) a r (at s.disk (phase_values s.phase) (has_ticket s.phase) t.n (take s.logged t.log) (drop s.logged t.log))
pushed s a t false None P none room after _ at_end p =
    let full = has_room_false (header_values s.table) a (sym room) in
    let parts = ap length (table_parts s) in
    notes_full (store_values s) a _ none (λ lt. let f = full.0 lt in omega arith) (ap (λ (h : HeaderValues). at s.disk (phase_values s.phase) (has_ticket s.phase) h.n (take s.logged h.log) (drop s.logged h.log)) (after ∙ full.1))
pushed s a t true (Some k) P none room after _ at_end p =
    let h = header_values s.table in
    let free = has_room_true h a (sym room) in
    let is : t ≡ record { n = h.n; log = h.log ++ (a ∷ []) } = after ∙ free.1 in
    let long = ap (λ (x : HeaderValues). length x.log) is in
    let one = length-append h.log (a ∷ []) in
    let parts = ap length (table_parts s) in
    let last = at_end k p in
    notes_new (store_values s) a k _ none (let f = free.0 in omega arith) (omega arith) (pushed_values s.disk (phase_values s.phase) (has_ticket s.phase) h t s.logged a s.within is)
pushed s a t true None P none room after same at_end p = cc
pushed s a t false (Some k) P none room after same at_end p = cc

pub returns-in-Some : goal.returns-in-Some
returns-in-Some g c = notes_again (store_values c.args.self.now) c.args.address _ (sym c.in-Some.is ∙ c.open_slot.ensures)

pub returns : goal.returns
returns g c =
    pushed c.args.self.now c.args.address _ c.push-added.result _ _ (sym c.in_default.is ∙ c.open_slot.ensures) c.push-added.ensures.room c.push-added.ensures.after c.then.ensures.variant (λ k p. search rules) c.then.ensures.some
