use Rattle.std.proofs.Common.{◌≡◌, ◌++◌, List, length, refl, sym, ap, subst, ◌∙◌}
use mathlib.Core.List.{IsPrefix}
use Rattle.rclaim.specs.declared.event.Event.{Event}
use Rattle.rguard.specs.Scribes.{events_from}
use Rattle.rmon.specs.Fronts.{Reached}
use Rattle.rmon.specs.Known.{Feeding}
use Rattle.rmon.proofs.Prefixes.{prefix_trans}
use Rattle.rlooks.specs.Workers.{events_in, opening_for}
use Rattle.rlooks.proofs.Behind.{may_pump, feeds_still, begun_still, fed_whole, fed_part}
use Rattle.rlooks.proofs.worker.feed_once.Goals as goal

pub pump-requires : goal.pump-requires
pump-requires g c =
    let from_is : c.fed-from.result ≡ length c.args.feed.now.fed = c.fed-from.ensures in
    let events : List Event = c.as_slice.result.now in
    let events_are : events ≡ events_from c.fed-from.result c.in-Ok.scribe.seen =
    c.as_slice.ensures.value ∙ c.in-Ok.ensures.read ∙ ap (λ (es : List Event). es ++ events_from c.fed-from.result c.in-Ok.scribe.seen) c.new-events.ensures.items in
    may_pump g.T.Editable.after g.T.Editable.taken g.T.Editable.number c.args.rnlp.now c.requires.0 c.args.scribe c.in-Ok.scribe c.args.feed.now c.args.monitor.now c.requires.1 c.in-Ok.ensures.of c.in-Ok.ensures.goes c.in-Ok.ensures.lawful c.fed-from.result from_is events events_are

pub returns-in-Ok-pump-clause-feeds : goal.returns-in-Ok-pump-clause-feeds
returns-in-Ok-pump-clause-feeds g c = λ b h.
    let from_is : c.fed-from.result ≡ length c.args.feed.now.fed = c.fed-from.ensures in
    let events : List Event = c.as_slice.result.now in
    let events_are : events ≡ events_from c.fed-from.result c.in-Ok.scribe.seen =
    c.as_slice.ensures.value ∙ c.in-Ok.ensures.read ∙ ap (λ (es : List Event). es ++ events_from c.fed-from.result c.in-Ok.scribe.seen) c.new-events.ensures.items in
    let taken = c.in-Ok-pump.ensures.taken in
    feeds_still g.T.Editable.after g.T.Editable.taken g.T.Editable.number c.args.rnlp.now b c.args.scribe c.in-Ok.scribe c.args.feed.now c.args.monitor.now h c.in-Ok.ensures.of c.in-Ok.ensures.goes c.in-Ok.ensures.lawful c.pump.new.self c.look.new.self (ap (λ (f : Feeding). f.feed) taken) (ap (λ (f : Feeding). f.opening) taken)
    (subst (λ es. IsPrefix es (events_in c.in-Ok.scribe.seen)) (sym (ap (λ (f : Feeding). f.fed) taken)) (fed_whole g.T.Editable.after g.T.Editable.taken g.T.Editable.number c.args.rnlp.now b c.args.scribe c.in-Ok.scribe c.args.feed.now c.args.monitor.now h c.in-Ok.ensures.of c.in-Ok.ensures.goes c.in-Ok.ensures.lawful c.fed-from.result from_is events events_are))
    (c.look.ensures.same.0 ∙ c.learn.ensures.same.0) (c.look.ensures.same.1 ∙ c.learn.ensures.same.1)

pub returns-in-Ok-pump-clause-look : goal.returns-in-Ok-pump-clause-look
returns-in-Ok-pump-clause-look g c = λ b h.
    let its = c.look.ensures.look (opening_for b) (c.learn.ensures.same.1 ∙ h.its_opening ∙ h.opened) in
    record {
      begins = prefix_trans c.args.monitor.now.seen c.learn.new.self.seen c.look.new.self.seen c.learn.ensures.before c.look.ensures.before;
      accepted = its.0;
      look_is = its.1;
    }

pub returns-in-Ok-pump-clause-fed : goal.returns-in-Ok-pump-clause-fed
returns-in-Ok-pump-clause-fed g c =
    subst (λ es. IsPrefix es c.look.new.self.seen) (ap (λ (n : Reached). n.events) c.in-Ok-pump.ensures.note ∙ sym (ap (λ (f : Feeding). f.fed) c.in-Ok-pump.ensures.taken))
    (prefix_trans c.in-Ok-pump.note.events c.learn.new.self.seen c.look.new.self.seen c.learn.ensures.note c.look.ensures.before)

pub returns-in-Ok-clause-err : goal.returns-in-Ok-clause-err
returns-in-Ok-clause-err g c = λ b h.
    let from_is : c.fed-from.result ≡ length c.args.feed.now.fed = c.fed-from.ensures in
    let events : List Event = c.as_slice.result.now in
    let events_are : events ≡ events_from c.fed-from.result c.in-Ok.scribe.seen =
    c.as_slice.ensures.value ∙ c.in-Ok.ensures.read ∙ ap (λ (es : List Event). es ++ events_from c.fed-from.result c.in-Ok.scribe.seen) c.new-events.ensures.items in
    let t = c.in-Err-pump.ensures.err in
    feeds_still g.T.Editable.after g.T.Editable.taken g.T.Editable.number c.args.rnlp.now b c.args.scribe c.in-Ok.scribe c.args.feed.now c.args.monitor.now h c.in-Ok.ensures.of c.in-Ok.ensures.goes c.in-Ok.ensures.lawful c.pump.new.self c.args.monitor.now (ap (λ (f : Feeding). f.feed) t.2) (ap (λ (f : Feeding). f.opening) t.2)
    (subst (λ es. IsPrefix es (events_in c.in-Ok.scribe.seen)) (sym (ap (λ (f : Feeding). f.fed) t.2)) (fed_part g.T.Editable.after g.T.Editable.taken g.T.Editable.number c.args.rnlp.now b c.args.scribe c.in-Ok.scribe c.args.feed.now c.args.monitor.now h c.in-Ok.ensures.of c.in-Ok.ensures.goes c.in-Ok.ensures.lawful c.fed-from.result from_is events events_are t.0 t.1)) refl refl

pub returns-clause-err : goal.returns-clause-err
returns-clause-err g c = λ b h.
    let scribe = c.in-Err.e.0 in
    feeds_still g.T.Editable.after g.T.Editable.taken g.T.Editable.number c.args.rnlp.now b c.args.scribe scribe c.args.feed.now c.args.monitor.now h c.in-Err.ensures.of_err c.in-Err.ensures.goes_err c.in-Err.ensures.lawful_err c.args.feed.now c.args.monitor.now refl refl
    (begun_still g.T.Editable.after g.T.Editable.taken g.T.Editable.number c.args.rnlp.now b c.args.scribe scribe c.args.feed.now c.args.monitor.now h c.in-Err.ensures.of_err c.in-Err.ensures.goes_err c.in-Err.ensures.lawful_err) refl refl
