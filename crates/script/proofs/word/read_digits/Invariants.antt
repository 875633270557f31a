use Rattle.std.proofs.Common.{◌≡◌, ◌^◌, ◌<◌, take}
use Rattle.script.specs.Words.{hex_text}
use Rattle.script.proofs.word.read_digits.Given as goal

-- the digits so far write the word so far
abbrev pub invariant-loop-byte : goal.invariant-loop-byte
invariant-loop-byte l = (take l.byte-index l.text ≡ hex_text l.byte-index l.word) × (l.word < 16 ^ l.byte-index)
