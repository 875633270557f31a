-- The text of a comparison, as bytes: lines that each end with a line feed.
use Rattle.std.specs.Prelude.{ℕ, List, [], ◌++◌, Some, None, vec_items, vec_len, codes, decimal, Option}
use Rattle.std.specs.List.{flat_map}
use Rattle.store.specs.LookValues.{LookRefusalValues, look_numbered, look_meaning}
use Rattle.compare.specs.Outcomes.{StopValues, Refused}
use Rattle.compare.specs.declared.comparison.Comparison.{Comparison}
use Rattle.compare.specs.declared.comparison.Only.{Only}
use Rattle.compare.specs.declared.difference.Difference.{Difference}
use Rattle.compare.specs.declared.stop.Side.{Side}
use Rattle.compare.specs.declared.stop.Side.TheVariants.{Old, New}

-- address, offset, and the two bytes
abbrev pub difference_text : Difference → List ℕ
difference_text d = decimal d.address ++ (codes " " ++ (decimal d.offset ++ (codes " " ++ (decimal d.old ++ (codes " " ++ decimal d.new)))))

-- the same, as a line
abbrev pub difference_line : Difference → List ℕ
difference_line d = difference_text d ++ codes "\n"

-- a line for each
abbrev pub difference_lines : List Difference → List ℕ
difference_lines ds = flat_map difference_line ds

-- the name of a side
abbrev pub side_text : Side → List ℕ
side_text Old = codes "OLD"
side_text New = codes "NEW"

-- the addresses that one plan alone has
abbrev pub only_text : Only → List ℕ
only_text o = decimal o.first ++ (codes "-" ++ (decimal o.last ++ (codes " only in " ++ side_text o.side)))

-- the same, as a line
abbrev pub only_line : Only → List ℕ
only_line o = only_text o ++ codes "\n"

-- that line, if there are such addresses
abbrev pub only_lines : Option Only → List ℕ
only_lines None = []
only_lines (Some o) = only_line o

-- how many addresses were compared, and how many differ
abbrev pub summary_line : ℕ → ℕ → List ℕ
summary_line compared differ = decimal compared ++ (codes " compared, " ++ (decimal differ ++ codes " differ\n"))

-- the whole report
abbrev pub report_text : Comparison → List ℕ
report_text c = (difference_lines (vec_items c.differences) ++ only_lines c.only) ++ summary_line c.compared (vec_len c.differences)

-- The lines for standard error, without their line feed: plandiff, the file, and the refusal's number and meaning
abbrev pub refusal_text : List ℕ → LookRefusalValues → List ℕ
refusal_text file e = codes "plandiff: " ++ (file ++ (codes ": " ++ (decimal (look_numbered e).0 ++ (codes ": " ++ look_meaning e))))

-- the file of the side that refused
abbrev pub stop_text : List ℕ → List ℕ → StopValues → List ℕ
stop_text old-file new-file (Refused a Old e) = refusal_text old-file e
stop_text old-file new-file (Refused a New e) = refusal_text new-file e

-- plandiff, the file that cannot be read, and the reason
abbrev pub unreadable_text : List ℕ → List ℕ → List ℕ
unreadable_text file reason = codes "plandiff: " ++ (file ++ (codes ": cannot be read: " ++ reason))
