use Rattle.std.proofs.Common.{◌≡◌, ◌+◌, ◌-◌, ◌*◌, ◌<◌, true, get_or, drop, sym, ap, ◌∙◌, arith}
use Rattle.std.proofs.lemmas.List.{at_drop_more, at_drop_all}
use Rattle.std.specs.Char.{is_ascii_digit}
use Rattle.script.specs.Numbers.{number_after}
use Rattle.script.proofs.Reading.{past_limit, one_digit, no_digit, at_end}
use Rattle.script.proofs.number.read_digits.Goals as goal

pub returns-then-not-is_ascii_digit : goal.returns-then-not-is_ascii_digit
returns-then-not-is_ascii_digit c =
    let ds = c.args.text.now in
    let i = c.loop-byte.byte-index in
    let more = at_drop_more (number_after c.args.limit c.loop-byte.value) ds i 0 (omega arith) in
    sym (sym c.loop-byte.invariant.0 ∙ more ∙ no_digit c.args.limit c.loop-byte.value (get_or ds i 0) (drop (i + 1) ds) (sym c.if-not-is_ascii_digit.ensures.value))

pub returns-then-next-from : goal.returns-then-next-from
returns-then-next-from c =
    let ds = c.args.text.now in
    let i = c.loop-byte.byte-index in
    let digit : is_ascii_digit (get_or ds i 0) ≡ true = sym c.if-not-is_ascii_digit.ensures.value in
    let more = at_drop_more (number_after c.args.limit c.loop-byte.value) ds i 0 (omega arith) in
    let over : c.args.limit < c.loop-byte.value * 10 + (get_or ds i 0 - 48) = omega arith in
    sym (sym c.loop-byte.invariant.0 ∙ more ∙ one_digit c.args.limit c.loop-byte.value (get_or ds i 0) (drop (i + 1) ds) digit ∙ past_limit c.args.limit _ (drop (i + 1) ds) over)

pub loop-byte-preserved : goal.loop-byte-preserved
loop-byte-preserved c =
    let ds = c.args.text.now in
    let i = c.loop-byte.byte-index in
    let limit = c.args.limit in
    let digit : is_ascii_digit (get_or ds i 0) ≡ true = sym c.if-not-is_ascii_digit.ensures.value in
    let more = at_drop_more (number_after limit c.loop-byte.value) ds i 0 (omega arith) in
    let next : c.from.result * 10 + c.from-in-loop-byte.result ≡ c.loop-byte.value * 10 + (get_or ds i 0 - 48) = omega arith in
    (ap (λ n. number_after limit n (drop (i + 1) ds)) next ∙ sym (one_digit limit c.loop-byte.value (get_or ds i 0) (drop (i + 1) ds) digit) ∙ sym more ∙ c.loop-byte.invariant.0, omega arith)

pub returns : goal.returns
returns c =
    let more = at_drop_all (number_after c.args.limit c.loop-byte.value) c.args.text.now c.loop-byte.byte-index (omega arith) in
    sym (sym c.loop-byte.invariant.0 ∙ more ∙ at_end c.args.limit c.loop-byte.value c.loop-byte.invariant.1)
