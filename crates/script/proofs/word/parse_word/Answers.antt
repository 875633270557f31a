use Rattle.script.proofs.Spelling.{words_apart, other_length_no_word}
use Rattle.script.proofs.word.parse_word.Goals as goal

pub returns-then-text-ne-WORD_DIGITS : goal.returns-then-text-ne-WORD_DIGITS
returns-then-text-ne-WORD_DIGITS c = record { word = other_length_no_word c.args.text.now c.if-text-ne-WORD_DIGITS.true; law = words_apart }

pub returns : goal.returns
returns c = record { word = c.read_digits.ensures; law = words_apart }
