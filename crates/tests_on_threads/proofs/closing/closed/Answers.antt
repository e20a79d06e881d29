use Rattle.std.proofs.Common.{rules, ◌≡◌, ◌<◌, List, length, get_or, true, None, [], sym, ap, ◌∙◌, subst}
use Rattle.std.proofs.lemmas.List.{get_or_default}
use Rattle.rguard.specs.Seats.{SeatOf}
use Rattle.tests_on_threads.proofs.closing.closed.Goals as goal

pub close-history-requires-clause-all : goal.close-history-requires-clause-all
close-history-requires-clause-all g c κs within = λ n low. let d : SeatOf g.row.T.Denot g.row.T-Edit.Denot = record { gate = c.args.lock.gate; number = 0; opening = None; seen = []; mine = []; last = None; turns = 0 } in let seats = c.args.seats.items in let same = c.as_slice.ensures.value in
    let inside : n < length seats = search rules in let yes : c.are_in_order.result ≡ true = search rules in (
      n,
      get_or seats n d,
      inside,
      get_or_default seats n (get_or seats n d) d inside,
      ap (λ (l : List (SeatOf g.row.T.Denot g.row.T-Edit.Denot)). (get_or l n d).number) (sym same) ∙ c.are_in_order.ensures yes n d (subst (λ (l : List (SeatOf g.row.T.Denot g.row.T-Edit.Denot)). n < length l) (sym same) inside),
    )
