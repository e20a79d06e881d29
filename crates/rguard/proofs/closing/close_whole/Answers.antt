use Rattle.std.proofs.Common.{rules, arith, ℕ, ◌<◌, ◌≤◌, map, ◌∙◌}
use Rattle.std.specs.Arc.{arc_value}
use Rattle.std.specs.Prelude.{slice_index_or}
use Rattle.std.proofs.lemmas.List.{length-map}
use Rattle.rguard.proofs.LastState.{no_request, closed_by, told_to}
use Rattle.rguard.proofs.closing.close_whole.Goals as goal

among : (n s p : ℕ) → n < s → s ≤ p → n < p
among n s p less at_most = omega arith

pub into_whole-history-requires-after_bounds : goal.into_whole-history-requires-after_bounds
into_whole-history-requires-after_bounds g c κs within =
    no_request g.T.Editable.after g.T.Editable.taken g.T.Editable.number c.args.gate c.args.seats.items c.close-state.result c.requires.of c.requires.idle (λ n less. c.requires.all n (among n c.args.gate.seats c.args.gate.passes less c.into_gate-gate.ensures.some.1)) c.close-state.ensures.passes c.history.ensures.lawful
    c.into_gate-gate.ensures.some.0

pub returns-clause-seats : goal.returns-clause-seats
returns-clause-seats g c = λ k d less.
    closed_by g.T.Editable.after g.T.Editable.taken g.T.Editable.number (slice_index_or c.args.seats.items k d) c.close-state.result c.into_whole-history.result.0.entries (map arc_value c.into_whole-history.result.1.items)
    (c.close-state.ensures.passes k d less) c.into_whole-history.ensures.entries c.into_whole-history.ensures.lawful (length-map c.into_whole-history.result.1.items arc_value ∙ c.into_whole-history.ensures.count) c.into_whole-history.ensures.values

pub returns-clause-receipt : goal.returns-clause-receipt
returns-clause-receipt g c = search rules

pub returns-clause-told : goal.returns-clause-told
returns-clause-told g c = λ k d less.
    told_to (slice_index_or c.args.seats.items k d) c.close-state.result c.into_whole-history.result.0.entries (g.M.Machine.watched c.into_whole-history.result.2)
    (c.close-state.ensures.passes k d less) c.into_whole-history.ensures.entries c.into_whole-history.ensures.told
