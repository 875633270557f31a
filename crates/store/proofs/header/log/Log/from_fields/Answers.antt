use Rattle.std.proofs.Common.{◌-◌, drop, arith}
use Rattle.std.proofs.lemmas.List.{take_all, length-drop}
use Rattle.store.proofs.Fields.{filled_log}
use Rattle.store.proofs.header.log.Log.from_fields.Goals as goal

pub invariant_of-result : goal.invariant_of-result
invariant_of-result c =
    let rest = take_all (32 - c.args.count) (drop c.args.count c.args.fields) (simp length-drop (omega arith)) in
    record { keeps = record { few = omega arith; zeros = filled_log c.args.count c.args.fields (omega arith) (omega arith) cc } }
