use Rattle.std.proofs.Common.{◌≡◌, ◌-◌, Some, ap, subst, sym, ◌∙◌, arith}
use Rattle.std.specs.Prelude.{slice_get}
use Rattle.std.proofs.lemmas.Bool.{ltb-true}
use Rattle.std.proofs.lemmas.Option.{slice_get-get_or}
use Rattle.rbound.specs.Bounds.{numbers_in}
use Rattle.rtrace_form.specs.WaitRecords.{cover_in}
use Rattle.rtrace_read.proofs.DueLines.{wait_before, wait_at}
use Rattle.rtrace_read.proofs.due.wait_at.Goals as goal

pub returns-then-told-before-clause-due : goal.returns-then-told-before-clause-due
returns-then-told-before-clause-due c =
    let size = c.count_of-before.ensures.count in
    sym (wait_before c.args.wait.now.seat c.args.wait.now.stage (cover_in c.args.wait.now.cover) (numbers_in c.args.wait.now.bound) c.args.changes.now c.args.ends.now c.args.told (omega (arith, size)))

pub returns-then-is_same_wait-clause-due : goal.returns-then-is_same_wait-clause-due
returns-then-is_same_wait-clause-due c =
    sym c.if-is_same_wait.true ∙ c.is_same_wait.ensures
    ∙ sym (wait_at c.args.wait.now.seat c.args.wait.now.stage (cover_in c.args.wait.now.cover) (numbers_in c.args.wait.now.bound) c.args.changes.now c.args.ends.now c.args.told c.count_of-before.result
    c.in-Some.due.now c.count_of-before.ensures.count c.if-told-before.false (slice_get-get_or c.args.ends.now (c.args.told - c.count_of-before.result) c.in-Some.due.now (ltb-true _ _ (sym c.in-Some.ensures.lookup.0)) ∙ ap Some (sym c.in-Some.ensures.lookup.1)))

pub returns-else-is_same_wait-clause-due : goal.returns-else-is_same_wait-clause-due
returns-else-is_same_wait-clause-due c =
    sym c.if-is_same_wait.false ∙ c.is_same_wait.ensures
    ∙ sym (wait_at c.args.wait.now.seat c.args.wait.now.stage (cover_in c.args.wait.now.cover) (numbers_in c.args.wait.now.bound) c.args.changes.now c.args.ends.now c.args.told c.count_of-before.result
    c.in-Some.due.now c.count_of-before.ensures.count c.if-told-before.false (slice_get-get_or c.args.ends.now (c.args.told - c.count_of-before.result) c.in-Some.due.now (ltb-true _ _ (sym c.in-Some.ensures.lookup.0)) ∙ ap Some (sym c.in-Some.ensures.lookup.1)))

pub returns-then-is_same_wait-clause-first : goal.returns-then-is_same_wait-clause-first
returns-then-is_same_wait-clause-first c =
    let size = c.count_of-before.ensures.count in
    let low = c.if-told-before.false in (
      omega (arith, size, low),
      subst (λ n. slice_get c.args.ends.now (c.args.told - n) ≡ Some c.in-Some.due.now) size
          (slice_get-get_or c.args.ends.now (c.args.told - c.count_of-before.result) c.in-Some.due.now (ltb-true _ _ (sym c.in-Some.ensures.lookup.0)) ∙ ap Some (sym c.in-Some.ensures.lookup.1)),
    )
