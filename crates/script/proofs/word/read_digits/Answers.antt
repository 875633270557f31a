use Rattle.std.proofs.Common.{◌<◌, sym, ap, ◌∙◌, arith}
use Rattle.script.specs.Words.{hex_char}
use Rattle.script.proofs.Spelling.{digit_fits, digit_below, digits_more, no_digit_no_word, whole_word}
use Rattle.script.proofs.word.read_digits.Goals as goal

pub returns-in_err-digit : goal.returns-in_err-digit
returns-in_err-digit c = rw c.from_residual.ensures (no_digit_no_word c.args.text.now c.loop-byte.byte-index (omega arith) c.in_err-digit.ensures)

pub overflow_mul-word : goal.overflow_mul-word
overflow_mul-word c = omega (arith, digit_fits c.loop-byte.byte-index c.loop-byte.word (omega arith) c.loop-byte.invariant.1)

pub overflow_add-word : goal.overflow_add-word
overflow_add-word c =
    let d = c.in_ok-digit.ensures in
    omega (arith, digit_fits c.loop-byte.byte-index c.loop-byte.word (omega arith) c.loop-byte.invariant.1)

pub loop-byte-preserved : goal.loop-byte-preserved
loop-byte-preserved c =
    let d = c.in_ok-digit.ensures in
    let i = c.loop-byte.byte-index in
    let small : c.from.result < 16 = omega arith in (
      digits_more c.args.text.now i c.loop-byte.word c.from.result (omega arith) c.loop-byte.invariant.0 (d.1 ∙ ap hex_char (sym c.from.ensures)) small,
      digit_below i c.loop-byte.word c.from.result small c.loop-byte.invariant.1,
    )

pub returns : goal.returns
returns c = whole_word c.args.text.now c.loop-byte.byte-index c.loop-byte.word c.requires (omega arith) (omega arith) c.loop-byte.invariant.0 c.loop-byte.invariant.1
