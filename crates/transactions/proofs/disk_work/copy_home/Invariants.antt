use Rattle.std.proofs.Common.{◌+◌, drop}
use Rattle.disks.specs.Values.{Answer}
use Rattle.transactions.specs.DiskWork.{copying_home}
use Rattle.transactions.proofs.disk_work.copy_home.Given as goal

-- what the rest of the copying does from here, the whole does from the start
abbrev pub invariant-loop-i : goal.invariant-loop-i
invariant-loop-i g l = (r : Answer Unit) (t : _) → copying_home g.D.Reader g.D.Disk (1 + l.i) (drop l.i l.log) l.disk r t → copying_home g.D.Reader g.D.Disk 1 l.log l.initial.disk r t
