use Rattle.std.proofs.Common.{true, false, Some, length, refl, sym, ap, ◌∙◌, arith}
use Rattle.rset.specs.Sets.{all_below}
use Rattle.rexpand.specs.Groups.{ReadGroups}
use Rattle.rtrace_form.specs.Lines.{HasGroup}
use Rattle.rtrace_form.proofs.facts.Choices.{some_is}
use Rattle.rtrace_read.specs.LineTakes.{groups_over, with_group}
use Rattle.rtrace_read.proofs.LineResults.{same_bad}
use Rattle.rtrace_read.proofs.HeadSteps.{head_misplaced, group_is, group_taken, groups_made, over_made, empty_test, stands}
use Rattle.rtrace_read.proofs.Still.{same_still}
use Rattle.rtrace_read.proofs.reading.ReportReader.group.Goals as goal

pub returns-then-is_empty-clause-bad : goal.returns-then-is_empty-clause-bad
returns-then-is_empty-clause-bad c = λ code is whole s h. group_is whole s c.args.set true (empty_test _ c.args.set c.is_empty.ensures ∙ c.if-is_empty.true) ∙ ap Some (same_bad is)

pub returns-in-Some-clause-bad : goal.returns-in-Some-clause-bad
returns-in-Some-clause-bad c = λ code is whole s h.
    head_misplaced whole s 2 3 (HasGroup c.args.set) c.in-Some.code (group_is whole s c.args.set false (empty_test _ c.args.set c.is_empty.ensures ∙ c.if-is_empty.false)) (sym (c.misplaced.ensures whole s h) ∙ c.in-Some.is) ∙ ap Some (same_bad is)

pub add_group-requires-clause-some : goal.add_group-requires-clause-some
add_group-requires-clause-some c =
    let whole = c.requires.known.0 in
    let s = c.requires.known.1 in
    let h = c.requires.known.2 in
    let here = sym (c.misplaced.ensures whole s h) ∙ c.in_default.is in
    let some = h.some_resource (stands whole s 2 3 here).0 in
    let same = c.len.ensures.value ∙ ap (λ xs. length xs) h.resources in
    omega (arith, some, same)

pub add_group-requires-clause-below : goal.add_group-requires-clause-below
add_group-requires-clause-below c =
    let whole = c.requires.known.0 in
    let s = c.requires.known.1 in
    let h = c.requires.known.2 in
    let here = sym (c.misplaced.ensures whole s h) ∙ c.in_default.is in
    let old = c.args.self.now.groups in
    let over = groups_over c.len.result old in
    let same = some_is (groups_made whole c.args.self.now s c.len.result (Some over) h (stands whole s 2 3 here).0 (c.len.ensures.value ∙ ap (λ xs. length xs) h.resources) (over_made c.len.result old)) in
    ap (λ q. all_below q c.args.set) (ap (λ (g : ReadGroups). g.q) same ∙ ap (λ xs. length xs) (sym h.resources)) ∙ c.requires.below

pub returns-clause-taken : goal.returns-clause-taken
returns-clause-taken c = λ whole s h.
    let here = sym (c.misplaced.ensures whole s h) ∙ c.in_default.is in
    let old = c.args.self.now.groups in
    let over = groups_over c.len.result old in
    let same = some_is (groups_made whole c.args.self.now s c.len.result (Some over) h (stands whole s 2 3 here).0 (c.len.ensures.value ∙ ap (λ xs. length xs) h.resources) (over_made c.len.result old)) in
    group_taken whole c.args.self.now s h c.args.set (record c.args.self.now { last = 3; groups = c.add_group.new.groups }) here (empty_test _ c.args.set c.is_empty.ensures ∙ c.if-is_empty.false) refl
    (c.in-Ok.ensures.ok ∙ ap (λ (g : ReadGroups). Some (with_group g c.args.set)) same)

pub returns-then-is_empty-clause-still : goal.returns-then-is_empty-clause-still
returns-then-is_empty-clause-still c = λ code is. same_still c.args.self.now _ refl

pub returns-in-Some-clause-still : goal.returns-in-Some-clause-still
returns-in-Some-clause-still c = λ code is. same_still c.args.self.now _ refl
