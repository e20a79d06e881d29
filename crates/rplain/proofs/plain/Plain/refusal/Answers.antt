use Rattle.std.proofs.Common.{◌≡◌, ◌==◌, Bool, true, false, not, List, cond, refl, None, Some, sym, ap, subst, ◌∙◌}
use Rattle.rmodel.specs.declared.claimed.Claimed.{Claimed}
use Rattle.rmodel.specs.declared.refused.Refused.TheVariants.{SeatBusy, Full}
use Rattle.std.specs.Bool.{then_some}
use Rattle.std.specs.List.{count_by}
use Rattle.rmodel.specs.Claims.{is_read_half}
use Rattle.rplain.specs.Machine.{Standing}
use Rattle.rmodel.specs.Holds.{Alone}
use Rattle.rplain.specs.Plain.{state_of}
use Rattle.rmodel.specs.Steps.{incomplete_of}
use Rattle.rmodel.specs.WellFormed.{EachPair}
use Rattle.rplain.proofs.stepping.Marked.{issue_refused}
use Rattle.rmodel.proofs.reaching.OneOfSeat.{each_alone}
use Rattle.rplain.proofs.plain.Plain.refusal.Goals as goal

pub is_not_holding-requires-clause-alone : goal.is_not_holding-requires-clause-alone
is_not_holding-requires-clause-alone c =
    subst (λ (xs : List Claimed). EachPair Alone xs) (sym c.deref-in-Finish.ensures.value) (each_alone (state_of c.self.inside) c.self.invariant.reached)

pub is_not_holding-requires-in-Rise-clause-alone : goal.is_not_holding-requires-in-Rise-clause-alone
is_not_holding-requires-in-Rise-clause-alone c =
    subst (λ (xs : List Claimed). EachPair Alone xs) (sym c.deref-in-Rise.ensures.value) (each_alone (state_of c.self.inside) c.self.invariant.reached)

pub is_not_holding-requires-in-Ask-clause-alone : goal.is_not_holding-requires-in-Ask-clause-alone
is_not_holding-requires-in-Ask-clause-alone c =
    subst (λ (xs : List Claimed). EachPair Alone xs) (sym c.deref-in-Ask.ensures.value) (each_alone (state_of c.self.inside) c.self.invariant.reached)

pub returns-then-is_some : goal.returns-then-is_some
returns-then-is_some c =
    let s = c.args.self.now.state in
    ap (λ b. cond b (Some SeatBusy) (cond (incomplete_of s == s.cap) (Some Full) None)) (sym c.if-is_some.true ∙ c.is_some.ensures)
    ∙ issue_refused s c.args.event.now c.in-Issue.seat c.in-Issue.request c.args.place c.in-Issue.is c.requires

pub returns-else-is_some : goal.returns-else-is_some
returns-else-is_some c =
    let s = c.args.self.now.state in
    c.then_some.ensures ∙ chosen (c.incomplete-incomplete.result == c.self.inside.cap)
    ∙ ap (λ n. cond (n == c.self.inside.cap) (Some Full) None) (c.incomplete-incomplete.ensures ∙ ap (count_by (λ x. not (is_read_half x.claim))) c.deref.ensures.value)
    ∙ ap (λ (m : Standing). cond (incomplete_of m.state == m.state.cap) (Some Full) None) c.self.view_is
    ∙ ap (λ b. cond b (Some SeatBusy) (cond (incomplete_of s == s.cap) (Some Full) None)) (sym c.if-is_some.false ∙ c.is_some.ensures)
    ∙ issue_refused s c.args.event.now c.in-Issue.seat c.in-Issue.request c.args.place c.in-Issue.is c.requires
  where
    chosen : (b : Bool) → then_some b Full ≡ cond b (Some Full) None
    chosen true = refl
    chosen false = refl
