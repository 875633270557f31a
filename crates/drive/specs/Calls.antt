-- The lines that ask for calls of a disk.
use Rattle.std.specs.Prelude.{ℕ, cond, List, [], ◌∷◌, Some, None, codes, Option}
use Rattle.std.specs.Option.{option_map}
use Rattle.std.specs.Str.{bytes_eq}
use Rattle.script.specs.Numbers.{number_of}
use Rattle.script.specs.Pieces.{pieces}
use Rattle.drive.specs.declared.call.DiskCall.{DiskCall}
use Rattle.drive.specs.declared.call.DiskCall.TheVariants.{Read, Write, Barrier, Restart}

-- a write, if it has a block and a byte
abbrev pub write_with : Option ℕ → Option ℕ → Option DiskCall
write_with None byte = None
write_with (Some k) byte = option_map (Write k) byte

-- the call that words ask for: a block is at most 65,535, a byte at most 255
abbrev pub by_words : List (List ℕ) → Option DiskCall
by_words [] = None
by_words (name ∷ []) = cond (bytes_eq name (codes "barrier")) (Some Barrier) (cond (bytes_eq name (codes "restart")) (Some Restart) None)
by_words (name ∷ (block ∷ [])) = cond (bytes_eq name (codes "read")) (option_map Read (number_of 65535 block)) None
by_words (name ∷ (block ∷ (byte ∷ []))) = cond (bytes_eq name (codes "write")) (write_with (number_of 65535 block) (number_of 255 byte)) None
by_words (name ∷ (block ∷ (byte ∷ (more ∷ words)))) = None

-- the call that a line asks for, by its words with one space between
abbrev pub call_of : List ℕ → Option DiskCall
call_of line = by_words (pieces 32 line)
