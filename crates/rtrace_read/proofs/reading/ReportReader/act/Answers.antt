use Rattle.std.proofs.Common.{get_or, refl, sym, ap, ◌∙◌, arith}
use Rattle.std.proofs.Math.ListN.{set}
use Rattle.std.specs.Vec.{with_item}
use Rattle.rtrace_form.proofs.back.FineLines.{and_false}
use Rattle.rtrace_read.proofs.Codes.{act_misplaced}
use Rattle.rtrace_read.proofs.ActSteps.{not_six, answered_is, act_barred, act_wrong, act_taken}
use Rattle.rtrace_read.proofs.reading.ReportReader.act.Goals as goal

pub returns-then-is_change_due-clause-bad : goal.returns-then-is_change_due-clause-bad
returns-then-is_change_due-clause-bad c = λ whole s h.
    let last = h.last in
    let no = not_six s.last (λ e. omega (arith, last, e)) in
    act_misplaced whole s c.args.act.now _ no.0 no.1 (sym (c.is_change_due.ensures whole s h) ∙ c.if-is_change_due.true)

pub returns-else-is_change_due-clause-bad : goal.returns-else-is_change_due-clause-bad
returns-else-is_change_due-clause-bad c = λ whole s h.
    let last = h.last in
    let no = not_six s.last (λ e. omega (arith, last, e)) in
    act_misplaced whole s c.args.act.now _ no.0 no.1 (sym (c.is_change_due.ensures whole s h) ∙ c.if-is_change_due.false)

pub returns-then-not-may_do-clause-bad : goal.returns-then-not-may_do-clause-bad
returns-then-not-may_do-clause-bad c = λ whole s h.
    act_barred whole c.args.self.now s h (sym h.kind ∙ c.requires.whole) (sym h.last ∙ c.if-self-ne-AT_ACTS.false) c.args.act.now c.requires.below (sym c.may_do.ensures ∙ c.if-not-may_do.true)

pub returns-then-not-redo-clause-bad : goal.returns-then-not-redo-clause-bad
returns-then-not-redo-clause-bad c = λ whole s h.
    let place = c.from-place.ensures ∙ c.place_of.ensures in
    act_wrong whole c.args.self.now s h (sym h.kind ∙ c.requires.whole) (sym h.last ∙ c.if-self-ne-AT_ACTS.false) c.args.act.now c.requires.below c.index.result.now _
    (c.index.ensures ∙ ap (λ n. get_or c.args.self.now.ledgers.items n c.index.result.now) place)
    (answered_is c.redo.result c.index.result.now c.args.act.now c.redo.ensures.right ∙ c.if-not-redo.true) (and_false _)

pub returns-clause-taken : goal.returns-clause-taken
returns-clause-taken c = λ whole s h.
    let place = c.from-place.ensures ∙ c.place_of.ensures in
    act_taken whole c.args.self.now s h (sym h.kind ∙ c.requires.whole) (sym h.last ∙ c.if-self-ne-AT_ACTS.false) c.args.act.now c.requires.below c.index.result.now
    (record c.args.self.now { ledgers = with_item c.args.self.now.ledgers c.from-place.result c.redo.new.value })
    (c.index.ensures ∙ ap (λ n. get_or c.args.self.now.ledgers.items n c.index.result.now) place)
    (answered_is c.redo.result c.index.result.now c.args.act.now c.redo.ensures.right ∙ c.if-not-redo.false) (sym c.may_do.ensures ∙ c.if-not-may_do.false) refl
    (λ i. set c.args.self.now.ledgers.items (place i) (c.redo.ensures.value i))
