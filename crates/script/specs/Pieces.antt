-- Pieces and lines of a text.
use Rattle.std.specs.Prelude.{ℕ, List, [], ◌∷◌, Some, None, Option, ◌==◌}
use Rattle.std.specs.Borrow.{Bor}
use Rattle.std.specs.List.{slice_split}

-- the pieces between the dividers: one more than there are dividers
abbrev pub pieces : ℕ → List ℕ → List (List ℕ)
pieces divider bs = slice_split (λ b. b == divider) bs

-- the pieces of the text that is left, if there is one
abbrev pub pieces_in : ℕ → Option (Bor (List ℕ)) → List (List ℕ)
pieces_in divider None = []
pieces_in divider (Some text) = pieces divider text.now

-- a piece alone, if it is not empty
abbrev pub unless_empty : List ℕ → List (List ℕ)
unless_empty [] = []
unless_empty (b ∷ p) = (b ∷ p) ∷ []

-- the pieces without the last one, if that is empty
abbrev pub ended : List (List ℕ) → List (List ℕ)
ended [] = []
ended (p ∷ []) = unless_empty p
ended (p ∷ (q ∷ ps)) = p ∷ ended (q ∷ ps)

-- the lines of an input: the pieces between line feeds; after the last line feed there is no line if nothing follows
abbrev pub lines : List ℕ → List (List ℕ)
lines input = ended (pieces 10 input)
