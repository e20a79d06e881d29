use Rattle.std.proofs.Common.{◌-◌, List, ap, arith, ◌∙◌}
use Rattle.std.proofs.lemmas.List.{take_all}
use Rattle.rclaim.specs.declared.event.Event.{Event}
use Rattle.rcover_laws.specs.History.{asks_since}
use Rattle.rcover_plain.proofs.by_definition.last_ask.Goals as goal

pub returns : goal.returns
returns c =
    c.saturating_sub.ensures
    ∙ ap (λ n. n - 1) (c.loop-event.invariant.count ∙ ap (λ (es : List Event). asks_since c.args.c.now.seat es) (take_all c.loop-event.event-index c.args.events.now (omega arith)))
