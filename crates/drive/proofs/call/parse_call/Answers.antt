use Rattle.std.proofs.Common.{sym, ◌∙◌}
use Rattle.drive.proofs.Asking.{read_call, write_call}
use Rattle.drive.proofs.call.parse_call.Goals as goal

pub returns-in_err-number-in-Some : goal.returns-in_err-number-in-Some
returns-in_err-number-in-Some c =
    c.from_residual.ensures
    ∙ read_call c.args.line.now c.split_first.result.0.now c.split_first.result.1 c.in-Some.block c.split_first.ensures c.in-Some.is (sym c.if-is_word-3.ensures) _ c.in_err-number-in-Some.ensures.value

pub returns-in_ok-number-in-Some : goal.returns-in_ok-number-in-Some
returns-in_ok-number-in-Some c =
    read_call c.args.line.now c.split_first.result.0.now c.split_first.result.1 c.in-Some.block c.split_first.ensures c.in-Some.is (sym c.if-is_word-3.ensures) _ c.in_ok-number-in-Some.ensures.value

pub returns-in_err-fill-in-Some-2 : goal.returns-in_err-fill-in-Some-2
returns-in_err-fill-in-Some-2 c =
    c.from_residual-in_err-fill-in-Some-2.ensures
    ∙ write_call c.args.line.now c.split_first.result.0.now c.split_first.result.1 c.in-Some-2.words c.split_first.ensures c.in-Some-2.is (sym c.if-is_word-4.ensures) _ _ c.in_ok-byte-in-Some-2.field-0 c.split_first-in-Some-2.ensures c.in_ok-byte-in-Some-2.was _ _ c.in_ok-number-in-Some-2.ensures.value c.in_err-fill-in-Some-2.ensures.value

pub returns-in_ok-fill-in-Some-2 : goal.returns-in_ok-fill-in-Some-2
returns-in_ok-fill-in-Some-2 c =
    write_call c.args.line.now c.split_first.result.0.now c.split_first.result.1 c.in-Some-2.words c.split_first.ensures c.in-Some-2.is (sym c.if-is_word-4.ensures) _ _ c.in_ok-byte-in-Some-2.field-0 c.split_first-in-Some-2.ensures c.in_ok-byte-in-Some-2.was _ _ c.in_ok-number-in-Some-2.ensures.value c.in_ok-fill-in-Some-2.ensures.value
