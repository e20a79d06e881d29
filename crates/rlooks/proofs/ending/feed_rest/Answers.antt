use Rattle.std.proofs.Common.{◌≡◌, ◌++◌, List, length, sym, ap, subst, ◌∙◌, append-nil}
use mathlib.Core.List.{IsPrefix}
use Rattle.rclaim.specs.declared.event.Event.{Event}
use Rattle.rguard.specs.Scribes.{events_from}
use Rattle.rmodel.specs.Steps.{AreAccepted}
use Rattle.rmodel.proofs.reaching.Histories.{accepted_parts}
use Rattle.rstate.proofs.homes.Lists.{same_item}
use Rattle.rmon.specs.declared.rule.Opening.{Opening}
use Rattle.rmon.specs.Fronts.{Reached}
use Rattle.rmon.specs.Known.{Feeding}
use Rattle.rmon.specs.Opened.{opening_of}
use Rattle.rlooks.specs.Workers.{events_in}
use Rattle.rlooks.proofs.Closed.{all_fed}
use Rattle.rlooks.proofs.ending.feed_rest.Goals as goal

pub pump-requires : goal.pump-requires
pump-requires g c = λ o opened.
    let entries = c.args.history.now.entries in
    let events : List Event = c.as_slice.result.now in
    let events_are : events ≡ events_from c.fed-from.result entries = c.as_slice.ensures.value ∙ c.in_ok-events.ensures ∙ ap (events_from c.fed-from.result) c.entries.ensures in
    let whole : c.args.feed.now.fed ++ events ≡ events_in entries = all_fed entries c.args.feed.now.fed c.requires.fed c.fed-from.result c.fed-from.ensures events events_are in
    let same : c.requires.began ≡ o = same_item c.requires.began o (sym c.requires.opened ∙ opened) in
    (accepted_parts (opening_of o) c.args.feed.now.fed events
    (subst (AreAccepted (opening_of o)) (sym whole) (subst (λ (q : Opening). AreAccepted (opening_of q) (events_in entries)) same c.requires.accepted))).1

pub returns-clause-first : goal.returns-clause-first
returns-clause-first g c = λ o opened.
    let entries = c.args.history.now.entries in
    let events : List Event = c.as_slice.result.now in
    let events_are : events ≡ events_from c.fed-from.result entries = c.as_slice.ensures.value ∙ c.in_ok-events.ensures ∙ ap (events_from c.fed-from.result) c.entries.ensures in
    let whole : c.args.feed.now.fed ++ events ≡ events_in entries = all_fed entries c.args.feed.now.fed c.requires.fed c.fed-from.result c.fed-from.ensures events events_are in
    let once : c.pump.new.self.fed ≡ events_in entries = ap (λ (f : Feeding). f.fed) c.in_ok-note.ensures.taken ∙ whole in
    let twice : c.pump-2.new.self.fed ≡ events_in entries = ap (λ (f : Feeding). f.fed) c.in_ok-again.ensures.taken ∙ append-nil c.pump.new.self.fed ∙ once in
    c.finish-first.ensures.looks o (events_in entries) (c.learn.ensures.on.opening ∙ c.requires.first_opening ∙ opened)
    (subst (λ (es : List Event). IsPrefix es c.learn.new.self.monitor.seen) (ap (λ (n : Reached). n.events) c.in_ok-note.ensures.note ∙ whole) c.learn.ensures.note)
    (sym (c.fed-all.ensures ∙ ap (λ (es : List Event). length es) twice))

pub returns-clause-second : goal.returns-clause-second
returns-clause-second g c = λ o opened.
    let entries = c.args.history.now.entries in
    let events : List Event = c.as_slice.result.now in
    let events_are : events ≡ events_from c.fed-from.result entries = c.as_slice.ensures.value ∙ c.in_ok-events.ensures ∙ ap (events_from c.fed-from.result) c.entries.ensures in
    let whole : c.args.feed.now.fed ++ events ≡ events_in entries = all_fed entries c.args.feed.now.fed c.requires.fed c.fed-from.result c.fed-from.ensures events events_are in
    let once : c.pump.new.self.fed ≡ events_in entries = ap (λ (f : Feeding). f.fed) c.in_ok-note.ensures.taken ∙ whole in
    let again = append-nil c.pump.new.self.fed ∙ once in
    let twice : c.pump-2.new.self.fed ≡ events_in entries = ap (λ (f : Feeding). f.fed) c.in_ok-again.ensures.taken ∙ again in
    c.finish-second.ensures.looks o (events_in entries) (c.learn-2.ensures.on.opening ∙ c.requires.second_opening ∙ opened)
    (subst (λ (es : List Event). IsPrefix es c.learn-2.new.self.monitor.seen) (ap (λ (n : Reached). n.events) c.in_ok-again.ensures.note ∙ again) c.learn-2.ensures.note)
    (sym (c.fed-all.ensures ∙ ap (λ (es : List Event). length es) twice))
