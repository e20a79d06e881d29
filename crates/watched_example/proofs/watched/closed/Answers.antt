use Rattle.std.proofs.Common.{◌≡◌, ◌<◌, map, sym, subst}
use Rattle.std.specs.Arc.{arc_value}
use Rattle.std.specs.Prelude.{All, Any, option_map}
use Rattle.rvalue.specs.declared.ledger.Ledger.{Ledger}
use Rattle.rvalue.specs.declared.ledger.Edit.{Edit}
use Rattle.rvalue.specs.Ledgers.{value_after, is_taken}
use Rattle.rguard.specs.Closing.{IsClosedBy, IsToldTo}
use Rattle.rguard.specs.Seats.{SeatOf}
use Rattle.watched_example.proofs.Ending.{two_numbers, ended}
use Rattle.watched_example.proofs.watched.closed.Goals as goal

pub close_watched-audience-requires-clause-all : goal.close_watched-audience-requires-clause-all
close_watched-audience-requires-clause-all g c κs within = λ n less.
    subst (Any (λ (seat : SeatOf Ledger Edit). seat.number ≡ n)) (sym c.in-Ok.ensures) (two_numbers c.args.first c.args.second c.requires.first.1 c.requires.second.1 n (subst (λ m. n < m) c.requires.passes less))

pub returns : goal.returns
returns g c =
    let entries = c.close_watched-audience.result.0.0.entries in
    let values = map arc_value c.close_watched-audience.result.0.1.items in
    ended g.A.Audience.all c.close_watched-audience.result.1 entries values c.args.first c.args.second
    (subst (All (IsClosedBy value_after is_taken (λ (ledger : Ledger). ledger.balance) entries values)) c.in-Ok.ensures c.close_watched-audience.ensures.seats)
    (subst (All (IsToldTo (option_map g.A.Audience.all c.close_watched-audience.result.1) entries)) c.in-Ok.ensures c.close_watched-audience.ensures.told)
