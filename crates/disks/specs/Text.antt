-- Causes as text.
use Rattle.std.specs.Prelude.{ℕ, List, [], ◌∷◌, ◌++◌, codes, decimal}
use Rattle.std.specs.List.{flat_map}
use Rattle.disks.specs.Values.{CauseValues}

-- the sides of a trail, top first and with nothing between, or a dash if there are none
abbrev pub trail_text : List ℕ → List ℕ
trail_text [] = codes "-"
trail_text (s ∷ ss) = flat_map decimal (s ∷ ss)

-- call, block and trail
abbrev pub cause_text : CauseValues → List ℕ
cause_text c = decimal c.call ++ (codes " " ++ (decimal c.block ++ (codes " " ++ trail_text c.trail)))
