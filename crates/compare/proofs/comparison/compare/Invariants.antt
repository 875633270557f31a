use Rattle.std.proofs.Common.{◌≤◌, vec_items, vec_len, vec_capacity}
use Rattle.compare.specs.Compares.{Compared, LooksMeant}
use Rattle.compare.proofs.comparison.compare.Given as goal

-- there is room for the addresses to come, and those before were compared
abbrev pub invariant-loop-address : goal.invariant-loop-address
invariant-loop-address g l =
    (vec_len l.differences ≤ l.address) × (4096 ≤ vec_capacity l.differences) ×
    Compared (LooksMeant g.A.Reader) (LooksMeant g.B.Reader) l.address l.initial.old l.initial.new (vec_items l.differences) l.old l.new
