-- The lines of answers, as bytes.
use Rattle.std.specs.Prelude.{ℕ, List, ◌++◌, Ok, Err, codes, decimal, slice_index}
use Rattle.disks.specs.Text.{cause_text}
use Rattle.disks.specs.Values.{RefusalValues, PastEnd, IsDark, IsLost, Answer}
use Rattle.disks.specs.Meaning.{Shown}

-- the refusal's number, and the cause where there is one
abbrev pub refusal_line : RefusalValues → List ℕ
refusal_line PastEnd = codes "1\n"
refusal_line (IsDark c) = codes "2 " ++ (cause_text c ++ codes "\n")
refusal_line (IsLost c) = codes "3 " ++ (cause_text c ++ codes "\n")

-- a done read tells the first byte of the block
abbrev pub read_line : Shown → List ℕ
read_line (Ok b) = codes "0 " ++ (decimal (slice_index b 0) ++ codes "\n")
read_line (Err e) = refusal_line e

abbrev pub call_line : Answer Unit → List ℕ
call_line (Ok u) = codes "0\n"
call_line (Err e) = refusal_line e
