use Rattle.std.proofs.Common.{ℕ, List, Option, length, sym, ap, subst, ◌≤◌, arith}
use Rattle.std.specs.Prelude.{IfSome}
use Rattle.rset.specs.declared.TheConstants.{SEATS}
use Rattle.rclaim.specs.declared.event.Event.{Event}
use Rattle.rcover.specs.Follows.{Follows}
use Rattle.rtrace_form.specs.Heads.{read_groups}
use Rattle.rtrace_form.specs.SoFar.{head_in}
use Rattle.rtrace_read.specs.Knows.{past_in}
use Rattle.rtrace_read.proofs.Steps.{none_behind}
use Rattle.rtrace_read.proofs.HeadSteps.{groups_there, cap_fits, behind_head}
use Rattle.rtrace_read.proofs.reading.ReportReader.make_first.Goals as goal

pub returns-in_default-clause-made : goal.returns-in_default-clause-made
returns-in_default-clause-made c = absurd (groups_there c.requires.ready.0 c.args.self.now c.requires.ready.1 c.requires.ready.2 (behind_head c.requires.ready.0 c.args.self.now c.requires.ready.1 c.requires.ready.2 (c.requires.placed c.requires.ready.0 c.requires.ready.1 c.requires.ready.2)) c.in_default.is)

pub new-requires-clause-seats : goal.new-requires-clause-seats
new-requires-clause-seats c =
    let h = c.requires.ready.2 in
    let low = behind_head c.requires.ready.0 c.args.self.now c.requires.ready.1 h (c.requires.placed c.requires.ready.0 c.requires.ready.1 h) in
    let some = h.some_task low in
    let same = ap (λ xs. length xs) h.tasks in
    (omega (arith, some, same), omega arith)

pub new-requires-clause-cap : goal.new-requires-clause-cap
new-requires-clause-cap c =
    let h = c.requires.ready.2 in
    let low = behind_head c.requires.ready.0 c.args.self.now c.requires.ready.1 h (c.requires.placed c.requires.ready.0 c.requires.ready.1 h) in
    let some = h.some_task low in
    let same = ap (λ xs. length xs) h.tasks in
    subst (λ n. (1 ≤ n) × (n ≤ SEATS)) (sym c.unwrap_or-cap.ensures)
    (cap_fits c.args.self.now.cap c.len-tasks.result (subst (λ (o : Option ℕ). IfSome o (λ n. (1 ≤ n) × (n ≤ SEATS))) (sym h.cap) h.capped) (omega (arith, some, same)) (omega arith))

pub returns-clause-followed : goal.returns-clause-followed
returns-clause-followed c = λ whole s h.
    let low = behind_head whole c.args.self.now s h (c.requires.placed whole s h) in
    let some = h.some_task low in
    let same = ap (λ xs. length xs) h.tasks in
    let few : length s.tasks ≤ SEATS = omega (arith, same) in
    let cap = cap_fits s.cap (length s.tasks) h.capped (omega (arith, some)) few in
    let never = none_behind c.args.self.now.machine c.args.self.now.following s.latest (past_in s) h.stand c.requires.none in
    subst (λ (es : List Event). Follows c.in_ok-new.field-0 (record { groups = read_groups (head_in s); seats = length s.tasks; cap = (head_in s).cap; events = es })) (sym never.2)
    (c.in_ok-new.ensures.follows (read_groups (head_in s)) (length s.tasks) (head_in s).cap few cap.0 cap.1)
