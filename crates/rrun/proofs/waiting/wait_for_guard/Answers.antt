use Rattle.std.proofs.Common.{◌≡◌, [], refl, sym, ap, subst, ◌∙◌}
use Rattle.rvalue.specs.declared.ledger.Edit.{Edit}
use Rattle.rvalue.specs.declared.ledger.Ledger.{Ledger}
use Rattle.rguard.specs.Guards.{WaitFields}
use Rattle.rguard.specs.Looks.{fields_of}
use Rattle.rguard.specs.Seats.{Goes}
use Rattle.rguard.proofs.Going.{goes_nowhere, goes_on}
use Rattle.rrun.proofs.waiting.wait_for_guard.Goals as goal

pub loop-init : goal.loop-init
loop-init g c = (refl, goes_nowhere c.args.pending.seat)

pub returns-in-Ready-clause-awaited : goal.returns-in-Ready-clause-awaited
returns-in-Ready-clause-awaited g c =
    let is = c.loop.invariant.0 in
    record {
      awaited = record {
        site = c.in-Ready.ensures.0.site ∙ ap (λ (w : WaitFields Ledger Edit). w.site) is;
        acts = c.in-Ready.ensures.0.acts ∙ ap (λ (w : WaitFields Ledger Edit). w.acts) is;
        kind = c.in-Ready.ensures.0.kind ∙ ap (λ (w : WaitFields Ledger Edit). w.kind) is;
      };
      goes = goes_on c.args.pending.seat c.loop.waiting.seat (fields_of c.in-Ready.guard).seat [] [] c.loop.invariant.1 c.in-Ready.ensures.1;
      ready = c.in-Ready.ensures.3;
    }

pub loop-preserved : goal.loop-preserved
loop-preserved g c =
    let is = c.loop.invariant.0 in
    let rests : c.rest-waiting.result ≡ c.in-NotYet.next = c.rest-waiting.ensures in (
      rests ∙ c.in-NotYet.ensures.0 ∙ (λ i. record { site = (is i).site; seat = (sym rests i).seat; acts = (is i).acts; kind = (is i).kind }),
      subst (λ (w : WaitFields Ledger Edit). Goes c.args.pending.seat [] w.seat) (sym rests) (goes_on c.args.pending.seat c.loop.waiting.seat c.in-NotYet.next.seat [] [] c.loop.invariant.1 c.in-NotYet.ensures.1),
    )
