use Rattle.std.proofs.Common.{rules, ◌≡◌, ◌<◌, length, Some, get_or, ap, ◌∙◌}
use Rattle.std.proofs.lemmas.Option.{slice_get-get_or}
use Rattle.tests_of_runs.proofs.sections.leaves_its_own.Goals as goal

pub run_first-requires-clause-seat : goal.run_first-requires-clause-seat
run_first-requires-clause-seat g c =
    let seats = c.args.seats.items in let seat = c.unwrap-seat.result in
    let some : 0 < length seats = search rules in
    let last : get_or seats 0 seat ≡ seat = search rules in
    c.requires.opened.seats_are.each 0 seat (slice_get-get_or seats 0 seat some ∙ ap Some last)
