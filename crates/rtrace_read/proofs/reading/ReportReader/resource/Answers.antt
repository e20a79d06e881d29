use Rattle.std.proofs.Common.{false, inl, inr, ◌++◌, ◌∷◌, [], Some, sym, ap, ◌∙◌, refl}
use Rattle.rset.specs.declared.TheConstants.{RESOURCES}
use Rattle.rtrace_form.specs.Heads.{is_bad_name}
use Rattle.rtrace_form.specs.Lines.{HasResource}
use Rattle.rtrace_read.proofs.LineResults.{same_bad}
use Rattle.rtrace_read.proofs.HeadSteps.{head_misplaced, resource_is, resource_taken}
use Rattle.rtrace_read.proofs.Still.{due_still, first_same}
use Rattle.rtrace_read.proofs.reading.ReportReader.resource.Goals as goal

pub returns-in-Err-clause-bad : goal.returns-in-Err-clause-bad
returns-in-Err-clause-bad c = λ code is whole s h.
    let bad = c.in-Err.ensures.bad code is in
    resource_is whole s c.args.name.now _ (ap (λ xs. is_bad_name RESOURCES xs c.args.name.now) (sym h.resources) ∙ bad.0) ∙ ap Some (sym bad.1)

pub returns-in-Some-clause-bad : goal.returns-in-Some-clause-bad
returns-in-Some-clause-bad c = λ code is whole s h.
    head_misplaced whole s 1 2 (HasResource c.args.name.now) c.in-Some.code (resource_is whole s c.args.name.now false (ap (λ xs. is_bad_name RESOURCES xs c.args.name.now) (sym h.resources) ∙ c.in_default-declare.ensures.ok.0))
    (sym (c.misplaced-misplaced.ensures whole s h) ∙ c.in-Some.is) ∙ ap Some (same_bad is)

pub returns-clause-taken : goal.returns-clause-taken
returns-clause-taken c = λ whole s h.
    let told = c.in_default-declare.ensures.ok in
    resource_taken whole c.args.self.now s h c.args.name.now (record c.args.self.now { last = 2; resources = c.declare.new.table; ledgers = c.push_reserved.new.self })
    (sym (c.misplaced-misplaced.ensures whole s h) ∙ c.in_default-misplaced.is) told.0 (λ i. record c.args.self.now { last = 2; resources = sym told.1 i; ledgers = c.push_reserved.new.self })
    (c.push_reserved.ensures.items ∙ (λ i. c.reserve.ensures.items i ++ c.new.ensures i ∷ []))

pub returns-in-Err-clause-still : goal.returns-in-Err-clause-still
returns-in-Err-clause-still c = λ code is.
    let now = c.args.self.now in
    due_still now _ refl (first_same now.resources c.declare.new.table c.in-Err.ensures.still) (first_same now.tasks now.tasks refl) refl refl refl refl refl refl c.reserve.ensures.items refl refl

pub returns-in-Some-clause-still : goal.returns-in-Some-clause-still
returns-in-Some-clause-still c = λ code is.
    let now = c.args.self.now in
    due_still now _ refl (c.args.name.now ∷ [], c.in_default-declare.ensures.ok.1) (first_same now.tasks now.tasks refl) refl refl refl refl refl refl c.reserve.ensures.items refl refl

pub returns-in-Err-clause-names : goal.returns-in-Err-clause-names
returns-in-Err-clause-names c = λ code is. ((refl, c.reserve.ensures.items), inl c.in-Err.ensures.still)

pub returns-in-Some-clause-names : goal.returns-in-Some-clause-names
returns-in-Some-clause-names c = λ code is. ((refl, c.reserve.ensures.items), inr c.in_default-declare.ensures.ok.1)

pub returns-in-Err-clause-memory : goal.returns-in-Err-clause-memory
returns-in-Err-clause-memory c = λ is. ((λ i. record c.args.self.now { resources = c.in-Err.ensures.still i; ledgers = c.reserve.new.self }), c.reserve.ensures.items)
