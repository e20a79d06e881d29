use Rattle.std.proofs.Common.{◌<◌, length, sym, ◌∙◌, arith}
use Rattle.std.proofs.lemmas.Bool.Decides.{nat_tests}
use Rattle.rtrace_form.proofs.Digits.{told_by_digits, told-more, told-none, told-all}
use Rattle.rtrace_form.proofs.numbers.number_of.Goals as goal

pub returns-in_err-number : goal.returns-in_err-number
returns-in_err-number c =
    let whole = told_by_digits c.args.field.now (omega arith) (omega arith) in
    let none = told-none c.loop-digit.invariant (omega arith) (sym c.in_err-number.ensures) in
    cc

pub loop-digit-preserved : goal.loop-digit-preserved
loop-digit-preserved c = told-more c.loop-digit.invariant c.in_ok-number.number (omega arith) (sym c.in_ok-number.ensures)

pub returns : goal.returns
returns c =
    let some : 0 < length c.args.field.now = grind (arith, nat_tests) in
    sym (told_by_digits c.args.field.now some (omega arith) ∙ told-all c.loop-digit.invariant (omega arith))
