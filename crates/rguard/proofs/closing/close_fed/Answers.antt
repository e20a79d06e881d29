use Rattle.std.proofs.Common.{rules, map, ◌∙◌}
use Rattle.std.specs.Arc.{arc_value}
use Rattle.std.specs.Prelude.{slice_index_or}
use Rattle.std.proofs.lemmas.List.{length-map}
use Rattle.rguard.proofs.LastState.{no_request, closed_by}
use Rattle.rguard.proofs.Passes.{seat_or_scribe}
use Rattle.rguard.proofs.closing.close_fed.Goals as goal

pub close_and-state-requires-clause-all : goal.close_and-state-requires-clause-all
close_and-state-requires-clause-all g c = seat_or_scribe c.args.gate c.args.seats.items c.args.scribe c.requires.scribe c.requires.all c.into_gate-gate.result.passes c.into_gate-gate.ensures.gate.1

pub into_parts-history-requires-after_bounds : goal.into_parts-history-requires-after_bounds
into_parts-history-requires-after_bounds g c κs within =
    no_request g.T.Editable.after g.T.Editable.taken g.T.Editable.number c.args.gate c.args.seats.items c.close_and-state.result c.requires.of c.requires.idle c.requires.all c.close_and-state.ensures.passes c.history.ensures.lawful
    c.into_gate-gate.ensures.some.0

pub returns-clause-seats : goal.returns-clause-seats
returns-clause-seats g c = λ k d less.
    closed_by g.T.Editable.after g.T.Editable.taken g.T.Editable.number (slice_index_or c.args.seats.items k d) c.close_and-state.result c.into_parts-history.result.0.entries (map arc_value c.into_parts-history.result.1.items)
    (c.close_and-state.ensures.passes k d less) c.into_parts-history.ensures.entries c.into_parts-history.ensures.lawful (length-map c.into_parts-history.result.1.items arc_value ∙ c.into_parts-history.ensures.count) c.into_parts-history.ensures.values

pub returns-clause-scribe : goal.returns-clause-scribe
returns-clause-scribe g c =
    closed_by g.T.Editable.after g.T.Editable.taken g.T.Editable.number c.args.scribe c.close_and-state.result c.into_parts-history.result.0.entries (map arc_value c.into_parts-history.result.1.items)
    c.close_and-state.ensures.last c.into_parts-history.ensures.entries c.into_parts-history.ensures.lawful (length-map c.into_parts-history.result.1.items arc_value ∙ c.into_parts-history.ensures.count) c.into_parts-history.ensures.values

pub returns-clause-receipt : goal.returns-clause-receipt
returns-clause-receipt g c = search rules
