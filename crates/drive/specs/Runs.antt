-- A script made on a disk, line by line.
use Rattle.std.specs.Prelude.{◌≡◌, ℕ, Bool, true, false, List, [], ◌∷◌, ◌++◌, replicate, Some, None, codes, Option}
use Rattle.disks.specs.Meaning.{Content, Shown}
use Rattle.disks.specs.Values.{Answer}
use Rattle.disks.specs.declared.disk.Disk
use Rattle.disks.specs.declared.reader.Reader
use Rattle.script.specs.Answers.{read_line, call_line}
use Rattle.drive.specs.Calls.{call_of}
use Rattle.drive.specs.declared.call.DiskCall.{DiskCall}
use Rattle.drive.specs.declared.call.DiskCall.TheVariants.{Read, Write, Barrier, Restart}

-- by a disk's own account of its calls
module _ {S : Type 0} (reads : S → ℕ → Shown → S → Type 0) (writes : S → ℕ → Content → Answer Unit → S → Type 0) (barriers : S → Answer Unit → S → Type 0) (restarts : S → Answer Unit → S → Type 0) where
  -- the call is made on the disk s, prints the text and leaves the disk t
  abbrev pub MakesBy : DiskCall → S → List ℕ → S → Type 0
  MakesBy (Read k) s text t = (x : Shown) × reads s k x t × (text ≡ read_line x)
  MakesBy (Write k v) s text t = (x : Answer Unit) × writes s k (replicate 512 v) x t × (text ≡ call_line x)
  MakesBy Barrier s text t = (x : Answer Unit) × barriers s x t × (text ≡ call_line x)
  MakesBy Restart s text t = (x : Answer Unit) × restarts s x t × (text ≡ call_line x)

  -- a line's call is made and the others run on; a line of no such form prints ? and ends the run
  abbrev pub ThenBy : Option DiskCall → (S → List ℕ → Bool → S → Type 0) → S → List ℕ → Bool → S → Type 0
  ThenBy None others s text whole t = (text ≡ codes "?\n") × (whole ≡ false) × (t ≡ s)
  ThenBy (Some c) others s text whole t = (m : S) × (line : List ℕ) × (rest : List ℕ) × MakesBy c s line m × others m rest whole t × (text ≡ line ++ rest)

  -- the lines run on the disk s, print the text and leave the disk t; whole if each line was a call
  abbrev pub RunsBy : List (List ℕ) → S → List ℕ → Bool → S → Type 0
  RunsBy [] s text whole t = (text ≡ []) × (whole ≡ true) × (t ≡ s)
  RunsBy (l ∷ ls) s text whole t = ThenBy (call_of l) (RunsBy ls) s text whole t

-- the same on any disk
abbrev pub Makes : {S : Type 0} → Reader.Ghosts S → Disk.Ghosts S → DiskCall → S → List ℕ → S → Type 0
Makes R D = MakesBy R.reads D.writes D.barriers D.restarts

abbrev pub Runs : {S : Type 0} → Reader.Ghosts S → Disk.Ghosts S → List (List ℕ) → S → List ℕ → Bool → S → Type 0
Runs R D = RunsBy R.reads D.writes D.barriers D.restarts
