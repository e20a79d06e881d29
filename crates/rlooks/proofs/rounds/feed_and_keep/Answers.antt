use Rattle.std.proofs.Common.{◌≡◌, List, [], ◌∷◌, Some, length, sym, ap, subst, ◌∙◌, arith}
use Rattle.std.proofs.lemmas.List.{length-append}
use Rattle.rstate.proofs.homes.Lists.{same_item}
use Rattle.rmodel.specs.Steps.{after}
use Rattle.rmon.specs.declared.look.Look.{Look}
use Rattle.rmon.specs.declared.rule.Opening.{Opening}
use Rattle.rmon.specs.Looks.{look_of}
use Rattle.rmon.specs.Opened.{opening_of}
use Rattle.rlooks.specs.Lookouts.{Looking, GoesOn}
use Rattle.rlooks.specs.Looks.{AreInOrder}
use Rattle.rlooks.specs.Workers.{Feeds, opening_for}
use Rattle.rlooks.proofs.Order.{in_order_with}
use Rattle.rlooks.proofs.rounds.feed_and_keep.Goals as goal

pub invariant_of-lookout : goal.invariant_of-lookout
invariant_of-lookout g c =
    let b = c.requires.feeds.0 in
    let old = c.lookout.inside.monitor in
    let new = c.feed_once.new.monitor in
    let h = subst (λ (l : Looking). Feeds g.T.Editable.after g.T.Editable.taken g.T.Editable.number c.args.rnlp.now b c.args.scribe c.args.feed.now l.monitor) (sym c.lookout.view_is) c.requires.feeds.1 in
    let its = c.in-Ok.ensures.look b h in
    record {
      room = omega (arith, c.push_reserved.ensures.capacity, c.lookout.invariant.room);
      in_order = λ o is.
          let was : old.opening ≡ Some o = sym c.in-Ok.ensures.its.1 ∙ is in
          let same : opening_for b ≡ o = same_item (opening_for b) o (sym (h.its_opening ∙ h.opened) ∙ was) in
          subst (λ (looks : List Look). AreInOrder (opening_of o) new.seen looks) (sym c.push_reserved.ensures.items)
          (in_order_with (opening_of o) old.seen new.seen its.begins c.lookout.inside.looks.items (c.lookout.invariant.in_order o was) c.in-Ok.look
          (subst (λ (q : Opening). c.in-Ok.look ≡ look_of (after (opening_of q) new.seen) (length new.seen)) same its.look_is));
    }

pub returns-in-Ok-clause-feeds : goal.returns-in-Ok-clause-feeds
returns-in-Ok-clause-feeds g c = λ b h.
    c.in-Ok.ensures.feeds b (subst (λ (l : Looking). Feeds g.T.Editable.after g.T.Editable.taken g.T.Editable.number c.args.rnlp.now b c.args.scribe c.args.feed.now l.monitor) (sym c.lookout.view_is) h)

pub returns-in-Ok-clause-on : goal.returns-in-Ok-clause-on
returns-in-Ok-clause-on g c =
    let b = c.requires.feeds.0 in
    let h = subst (λ (l : Looking). Feeds g.T.Editable.after g.T.Editable.taken g.T.Editable.number c.args.rnlp.now b c.args.scribe c.args.feed.now l.monitor) (sym c.lookout.view_is) c.requires.feeds.1 in
    subst (λ (l : Looking). GoesOn 1 l (record { monitor = c.feed_once.new.monitor; looks = c.push_reserved.new.self.items })) c.lookout.view_is
    (record {
      feed = c.in-Ok.ensures.its.0;
      opening = c.in-Ok.ensures.its.1;
      seen = (c.in-Ok.ensures.look b h).begins;
      looks = (c.in-Ok.look ∷ [], sym c.push_reserved.ensures.items);
      count = ap (λ (looks : List Look). length looks) c.push_reserved.ensures.items ∙ length-append c.lookout.inside.looks.items (c.in-Ok.look ∷ []);
    })

pub returns-in-Err-clause-back : goal.returns-in-Err-clause-back
returns-in-Err-clause-back g c = λ b h.
    c.in-Err.ensures.err b (subst (λ (l : Looking). Feeds g.T.Editable.after g.T.Editable.taken g.T.Editable.number c.args.rnlp.now b c.args.scribe c.args.feed.now l.monitor) (sym c.lookout.view_is) h)
