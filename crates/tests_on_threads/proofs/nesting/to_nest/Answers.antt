use Rattle.std.proofs.Common.{◌≡◌, sym, subst, ◌∙◌}
use Rattle.std.specs.FinSet.{union}
use Rattle.rclaim.specs.Requests.{RequestFields, normalised}
use Rattle.rclaim.specs.declared.request.Kind.TheVariants as kinds
use Rattle.rguard.specs.Seats.{SuitsSeat}
use Rattle.rvalue.specs.declared.ledger.Ledger.{Ledger}
use Rattle.rvalue.specs.Ledgers.{value_after, is_taken}
use Rattle.tests_on_threads.specs.Begun.{nesting, HasBegunLast}
use Rattle.tests_on_threads.proofs.Begun.{suits_to_nest, nest_begun, nest_writes}
use Rattle.tests_on_threads.proofs.nesting.to_nest.Goals as goal

pub acquire-requires-clause-suits : goal.acquire-requires-clause-suits
acquire-requires-clause-suits g c κs within =
    let all_is = c.union-all.ensures ∙ (λ i. union (c.one-first.ensures i) (c.one.ensures i)) in
    let is : c.in-Ok.request ≡ nesting c.args.one c.args.other = c.in-Ok.ensures.made ∙ (λ i. normalised kinds.Nested (c.empty-none.ensures i) (all_is i) (c.one-first.ensures i) 1 0) in
    subst (λ (r : RequestFields). SuitsSeat c.args.seat r) (sym is) (suits_to_nest c.args.group c.args.lock.now c.args.seat c.requires.rests.at c.args.one c.args.other c.requires.one c.requires.other)

pub returns-in-Ok-Nest-clause-begun : goal.returns-in-Ok-Nest-clause-begun
returns-in-Ok-Nest-clause-begun g c =
    let all_is = c.union-all.ensures ∙ (λ i. union (c.one-first.ensures i) (c.one.ensures i)) in
    let is : c.in-Ok.request ≡ nesting c.args.one c.args.other = c.in-Ok.ensures.made ∙ (λ i. normalised kinds.Nested (c.empty-none.ensures i) (all_is i) (c.one-first.ensures i) 1 0) in
    subst (λ (r : RequestFields). HasBegunLast r c.in-Ok-Nest.guard.seat) is (nest_begun c.args.lock.now c.args.seat c.in-Ok.request c.in-Ok-Nest.guard c.in-Ok-Nest.field-0 c.in-Ok-Nest.field-0-is c.in-Ok-Nest.ensures.ok).0

pub returns-in-Ok-Nest-clause-writes : goal.returns-in-Ok-Nest-clause-writes
returns-in-Ok-Nest-clause-writes g c =
    nest_writes value_after is_taken (λ (ledger : Ledger). ledger.balance) c.in-Ok-Nest.guard.seat c.args.one c.args.other c.seat.ensures.lawful c.seat.ensures.own
    (nest_begun c.args.lock.now c.args.seat c.in-Ok.request c.in-Ok-Nest.guard c.in-Ok-Nest.field-0 c.in-Ok-Nest.field-0-is c.in-Ok-Nest.ensures.ok).1 (returns-in-Ok-Nest-clause-begun g c)
