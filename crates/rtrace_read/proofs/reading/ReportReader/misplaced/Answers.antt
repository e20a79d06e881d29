use Rattle.std.proofs.Common.{◌&&◌, nat_le, sym, ap, ◌∙◌, arith}
use Rattle.rtrace_read.proofs.Codes.{place_by, between, not_between}
use Rattle.rtrace_read.proofs.reading.ReportReader.misplaced.Goals as goal
use Rattle.rtrace_read.proofs.reading.ReportReader.misplaced.Goals.{else-least-self-via-then-least-self+else-self-most, else-least-self-via-else-least-self}

pub returns-then-is_change_due : goal.returns-then-is_change_due
returns-then-is_change_due c = λ whole s h.
    ap (λ d. place_by d (nat_le c.args.least s.last && nat_le s.last c.args.most)) (sym c.if-is_change_due.true ∙ c.is_change_due.ensures whole s h)

pub returns-then-self-most : goal.returns-then-self-most
returns-then-self-most c = λ whole s h.
    let last = h.last in
    let due = sym c.if-is_change_due.false ∙ c.is_change_due.ensures whole s h in
    λ i. place_by (due i) (sym (between c.args.least s.last c.args.most (omega (arith, last, c.if-least-self.true)) (omega (arith, last, c.if-self-most.true))) i)

pub returns-else-least-self : goal.returns-else-least-self
returns-else-least-self c = λ whole s h.
    let last = h.last in
    let due = sym c.if-is_change_due.false ∙ c.is_change_due.ensures whole s h in
    λ i. place_by (due i) (sym (not_between c.args.least s.last c.args.most (λ low high. elim c.else-least-self.branch [
      | else-least-self-via-then-least-self+else-self-most w ↦ omega (arith, last, low, high)
      | else-least-self-via-else-least-self w ↦ omega (arith, last, low, high)
    ])) i)
