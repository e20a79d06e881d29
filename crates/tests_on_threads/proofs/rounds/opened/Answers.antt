use Rattle.std.proofs.Common.{◌≡◌, sym, ap, ◌∙◌}
use Rattle.rmodel.specs.State.{LockState}
use Rattle.rguard.specs.Resting.{all_with}
use Rattle.rguard.proofs.Resting.{rest_new}
use Rattle.rmon.specs.Known.{begun}
use Rattle.rmon.specs.Known.{newcomer as new_monitor}
use Rattle.rmon.specs.declared.rule.Opening.{Opening}
use Rattle.rvalue.specs.Ledgers.{value_after, is_taken}
use Rattle.rvalue.specs.declared.ledger.Ledger.{Ledger}
use Rattle.tests_on_threads.proofs.FedBeginning.{feeds_at_first}
use Rattle.tests_on_threads.proofs.rounds.opened.Goals as goal

pub only_seat-seat-requires-clause-rest : goal.only_seat-seat-requires-clause-rest
only_seat-seat-requires-clause-rest g c =
    rest_new (all_with c.args.group) c.in_ok-rnlp.rnlp c.in_ok-rnlp.seats.items 1 _ _ c.in_ok-rnlp.ensures.count.1 c.in_ok-rnlp.ensures.seats c.in_ok-rnlp.ensures.each
    (ap (λ (s : LockState). s.groups) c.in_ok-machine.ensures.opening ∙ c.in_ok-groups.ensures)

pub returns-clause-feeds : goal.returns-clause-feeds
returns-clause-feeds g c =
    let began : Opening = record { groups = c.in_ok-again.again; seats = 1; cap = 1 } in
    let same : began ≡ record { groups = c.in_ok-machine.machine.state.groups; seats = c.in_ok-machine.machine.state.seats; cap = c.in_ok-machine.machine.state.cap } = λ i. record {
      groups = (c.in_ok-again.ensures ∙ sym (ap (λ (s : LockState). s.groups) c.in_ok-machine.ensures.opening)) i;
      seats = sym (ap (λ (s : LockState). s.seats) c.in_ok-machine.ensures.opening) i;
      cap = sym (ap (λ (s : LockState). s.cap) c.in_ok-machine.ensures.opening) i;
    } in
    let monitor : c.only_monitor-monitor.result ≡ new_monitor c.in_ok-feed.feed.feed began = c.only_monitor-monitor.ensures began c.in_ok-feed.ensures.monitors in (
      _,
      feeds_at_first value_after is_taken (λ (ledger : Ledger). ledger.balance) c.in_ok-rnlp.rnlp c.in_ok-rnlp.scribe _ _ _ c.in_ok-feed.feed c.only_monitor-monitor.result c.in_ok-rnlp.ensures.scribe c.in_ok-rnlp.ensures.its
          (c.in_ok-feed.ensures.feed ∙ ap (λ (o : Opening). begun c.in_ok-feed.feed.feed o) same) (monitor ∙ ap (λ (o : Opening). new_monitor c.in_ok-feed.feed.feed o) same),
    )
