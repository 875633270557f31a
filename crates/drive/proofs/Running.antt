-- A run, one line more.
use Rattle.std.proofs.Common.{◌≡◌, ℕ, Bool, true, List, [], ◌∷◌, ◌++◌, Some, Option, sym, refl, subst, append_assoc, append-nil}
use Rattle.disks.specs.declared.disk.Disk
use Rattle.disks.specs.declared.reader.Reader
use Rattle.drive.specs.Calls.{call_of}
use Rattle.drive.specs.Runs.{Makes, Runs, ThenBy}
use Rattle.drive.specs.declared.call.DiskCall.{DiskCall}

module _ {S : Type 0} (R : Reader.Ghosts S) (D : Disk.Ghosts S) where
  -- however the lines that are left run on, the whole is a run of all lines
  abbrev pub Onward : List (List ℕ) → S → List ℕ → List (List ℕ) → S → Type 0
  Onward all start text left s = (more : List ℕ) (whole : Bool) (t : S) → Runs R D left s more whole t → Runs R D all start (text ++ more) whole t

  pub onward_more : (all left ls : List (List ℕ)) (l : List ℕ) (start s m : S) (text line : List ℕ) (c : DiskCall) →
      Onward all start text left s → left ≡ l ∷ ls → call_of l ≡ Some c → Makes R D c s line m → Onward all start (text ++ line) ls m
  onward_more all left ls l start s m text line c on e f made more whole t r =
      let made_then : Runs R D (l ∷ ls) s (line ++ more) whole t =
      subst (λ (o : Option DiskCall). ThenBy R.reads D.writes D.barriers D.restarts o (Runs R D ls) s (line ++ more) whole t) (sym f) (m, line, more, made, r, refl) in
      let whole_run = on (line ++ more) whole t (subst (λ (ls : List (List ℕ)). Runs R D ls s (line ++ more) whole t) (sym e) made_then) in
      subst (λ (x : List ℕ). Runs R D all start x whole t) (sym (append_assoc text line more)) whole_run

  -- no line is left
  pub onward_ends : (all left : List (List ℕ)) (start s : S) (text : List ℕ) → Onward all start text left s → left ≡ [] → Runs R D all start text true s
  onward_ends all left start s text on e =
      subst (λ (x : List ℕ). Runs R D all start x true s) (append-nil text) (on [] true s (subst (λ (ls : List (List ℕ)). Runs R D ls s [] true s) (sym e) (refl, refl, refl)))
