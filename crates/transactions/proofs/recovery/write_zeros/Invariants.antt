use Rattle.std.proofs.Common.{◌+◌, ◌-◌}
use Rattle.disks.specs.Values.{Answer}
use Rattle.store.specs.Log.{home}
use Rattle.transactions.specs.DiskWork.{zeroing}
use Rattle.transactions.proofs.recovery.write_zeros.Given as goal

-- what the rest of the zeroing does from here, the whole does from the start
abbrev pub invariant-loop-address : goal.invariant-loop-address
invariant-loop-address g l = (r : Answer Unit) (t : _) → zeroing g.D.Reader g.D.Disk (home 0 + l.address) (l.n - l.address) l.disk r t → zeroing g.D.Reader g.D.Disk (home 0) l.n l.initial.disk r t
