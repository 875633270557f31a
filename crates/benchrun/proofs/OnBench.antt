-- A run on a disk whose calls are those of its bench is a run of that bench.
use Rattle.std.proofs.Common.{◌≡◌, ℕ, Bool, List, [], ◌∷◌, ◌++◌, Some, None, Option, ap, ◌∙◌, subst}
use Rattle.bench_disks.specs.Calls.{Bench, new_bench, reads, writes, barriers, restarts}
use Rattle.bench_disks.specs.Waiting.{Held}
use Rattle.disks.specs.Meaning.{Content}
use Rattle.disks.specs.declared.disk.Disk
use Rattle.disks.specs.declared.reader.Reader
use Rattle.drive.specs.Calls.{call_of}
use Rattle.drive.specs.Runs.{Makes, MakesBy, Runs, ThenBy}
use Rattle.drive.specs.declared.call.DiskCall.{DiskCall}
use Rattle.drive.specs.declared.call.DiskCall.TheVariants.{Read, Write, Barrier, Restart}
use Rattle.benchrun.specs.Kinds.{ByBench}
use Rattle.benchrun.specs.Output.{zeros, ending, RunsOnBench, RunsNew}

module _ {S : Type 0} (R : Reader.Ghosts S) (D : Disk.Ghosts S) (bench : S → Bench) (effect : ℕ → Content → Held → Held) (by : ByBench R.reads D.writes D.barriers D.restarts bench effect) where
  makes_so : (c : DiskCall) (s t : S) (text : List ℕ) → Makes R D c s text t →
      MakesBy (λ s k x t. (x, t) ≡ reads k s) (λ s k b r t. (r, t) ≡ writes effect k b s) (λ s r t. (r, t) ≡ barriers s) (λ s r t. (r, t) ≡ restarts s) c (bench s) text (bench t)
  makes_so (Read k) s t text m = (m.0, by.reading s k m.0 t m.1, m.2)
  makes_so (Write k v) s t text m = (m.0, by.writing s k _ m.0 t m.1, m.2)
  makes_so Barrier s t text m = (m.0, by.flushing s m.0 t m.1, m.2)
  makes_so Restart s t text m = (m.0, by.restarting s m.0 t m.1, m.2)

  then_so : (o : Option DiskCall) (ls : List (List ℕ)) (s t : S) (text : List ℕ) (whole : Bool) →
      ((m : S) (rest : List ℕ) → Runs R D ls m rest whole t → RunsOnBench effect ls (bench m) rest whole (bench t)) →
      ThenBy R.reads D.writes D.barriers D.restarts o (Runs R D ls) s text whole t →
      ThenBy (λ s k x t. (x, t) ≡ reads k s) (λ s k b r t. (r, t) ≡ writes effect k b s) (λ s r t. (r, t) ≡ barriers s) (λ s r t. (r, t) ≡ restarts s) o (RunsOnBench effect ls) (bench s) text whole (bench t)
  then_so None ls s t text whole on r = (r.0, r.1, ap bench r.2)
  then_so (Some c) ls s t text whole on r = (bench r.0, r.1, r.2, makes_so c s r.0 r.1 r.3, on r.0 r.2 r.4, r.5)

  pub runs_so : (ls : List (List ℕ)) (s t : S) (text : List ℕ) (whole : Bool) → Runs R D ls s text whole t → RunsOnBench effect ls (bench s) text whole (bench t)
  runs_so [] s t text whole r = (r.0, r.1, ap bench r.2)
  runs_so (l ∷ ls) s t text whole r = then_so (call_of l) ls s t text whole (λ m rest x. runs_so ls m t rest whole x) r

  -- from a new disk, to what its memory holds
  pub runs_new : (words memory : List ℕ) (ls : List (List ℕ)) (s t : S) (body text : List ℕ) (whole : Bool) →
      bench s ≡ new_bench words zeros → Runs R D ls s body whole t → memory ≡ (bench t).held.memory → text ≡ body ++ ending whole memory → RunsNew effect words ls text
  runs_new words memory ls s t body text whole e r stands told =
      (body, whole, bench t, subst (λ (d : Bench). RunsOnBench effect ls d body whole (bench t)) e (runs_so ls s t body whole r), told ∙ ap (λ (m : List ℕ). body ++ ending whole m) stands)
