use Rattle.rtrace_form.proofs.Digits.{IsToldBefore}
use Rattle.rtrace_form.proofs.numbers.number_of.Given as goal

-- the digits so far have given the number
abbrev pub invariant-loop-digit : goal.invariant-loop-digit
invariant-loop-digit l = IsToldBefore l.field l.digit-index l.number
