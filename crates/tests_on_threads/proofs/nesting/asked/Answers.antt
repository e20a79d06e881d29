use Rattle.std.proofs.Common.{[], ◌∷◌, sym, subst}
use Rattle.rset.specs.Sets.{Set}
use Rattle.rclaim.specs.declared.event.Event.TheVariants.{Ask}
use Rattle.rguard.specs.Guards.{IsPartOf}
use Rattle.rguard.specs.Seats.{Goes, bare}
use Rattle.rvalue.specs.declared.ledger.Ledger.{Ledger}
use Rattle.rvalue.specs.Ledgers.{value_after, is_taken}
use Rattle.tests_on_threads.specs.Begun.{nesting}
use Rattle.tests_on_threads.proofs.Begun.{nest_asks, asked_writes, begun_still}
use Rattle.tests_on_threads.proofs.nesting.asked.Goals as goal

pub ask-requires-after_bounds : goal.ask-requires-after_bounds
ask-requires-after_bounds g c κs within =
    subst (λ (part : Set). IsPartOf c.args.guard.seat part) (sym c.one-part.ensures) (nest_asks value_after is_taken (λ (ledger : Ledger). ledger.balance) c.args.guard.seat c.args.one c.args.other c.seat.ensures.lawful c.seat.ensures.own c.requires.begun)

pub returns-in-Ok-clause-writes : goal.returns-in-Ok-clause-writes
returns-in-Ok-clause-writes g c =
    asked_writes value_after is_taken (λ (ledger : Ledger). ledger.balance) c.args.guard.seat c.in-Ok.guard.seat c.args.one c.args.other
    (subst (λ (part : Set). Goes c.args.guard.seat (bare (Ask c.args.guard.seat.number part) ∷ []) c.in-Ok.guard.seat) c.one-part.ensures c.in-Ok.ensures.goes) c.seat-in-Ok.ensures.lawful c.seat-in-Ok.ensures.own c.in-Ok.ensures.ready c.requires.begun

pub returns-in-Err-clause-begun : goal.returns-in-Err-clause-begun
returns-in-Err-clause-begun g c = begun_still c.args.guard.seat c.in-Err.guard.seat (nesting c.args.one c.args.other) c.in-Err.ensures.err.2 c.requires.begun
