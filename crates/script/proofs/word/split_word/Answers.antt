use Rattle.std.proofs.Common.{subst}
use Rattle.script.specs.Words.{NoWord}
use Rattle.script.proofs.Scheduling.{too_short, starts_with_no_word}
use Rattle.script.proofs.word.split_word.Goals as goal

pub returns-in_err-front : goal.returns-in_err-front
returns-in_err-front c = rw c.from_residual.ensures (too_short c.args.text.now c.in_err-front.ensures.cases)

pub returns-in_err-parse_word : goal.returns-in_err-parse_word
returns-in_err-parse_word c =
    rw c.from_residual-in_err-parse_word.ensures (starts_with_no_word c.args.text.now (subst NoWord c.in_ok-front.ensures.cases.1 c.in_err-parse_word.ensures.word))
