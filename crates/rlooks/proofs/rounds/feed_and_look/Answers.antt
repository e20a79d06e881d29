use Rattle.std.proofs.Common.{◌≡◌, Some, sym, subst, ◌∙◌, arith}
use Rattle.rmon.specs.Opened.{opening_of}
use Rattle.rmon.proofs.Prefixes.{prefix_self}
use Rattle.rlooks.specs.Lookouts.{Looking, GoesOn}
use Rattle.rlooks.specs.Workers.{Feeds, IsLookFrom}
use Rattle.rlooks.proofs.Order.{in_order_still}
use Rattle.rlooks.proofs.rounds.feed_and_look.Goals as goal

pub invariant_of-lookout : goal.invariant_of-lookout
invariant_of-lookout g c =
    let b = c.requires.0 in
    let old = c.lookout.inside.monitor in
    let new = c.feed_once.new.monitor in
    let h = subst (λ (l : Looking). Feeds g.T.Editable.after g.T.Editable.taken g.T.Editable.number c.args.rnlp.now b c.args.scribe c.args.feed.now l.monitor) (sym c.lookout.view_is) c.requires.1 in
    record {
      room = c.lookout.invariant.room;
      in_order = λ o is.
          let was : old.opening ≡ Some o = sym c.in-Ok.ensures.its.1 ∙ is in
          in_order_still (opening_of o) old.seen new.seen (c.in-Ok.ensures.look b h).begins c.lookout.inside.looks.items (c.lookout.invariant.in_order o was);
    }

pub returns-in-Ok-clause-feeds : goal.returns-in-Ok-clause-feeds
returns-in-Ok-clause-feeds g c = λ b h.
    c.in-Ok.ensures.feeds b (subst (λ (l : Looking). Feeds g.T.Editable.after g.T.Editable.taken g.T.Editable.number c.args.rnlp.now b c.args.scribe c.args.feed.now l.monitor) (sym c.lookout.view_is) h)

pub returns-in-Ok-clause-look : goal.returns-in-Ok-clause-look
returns-in-Ok-clause-look g c = λ b h.
    subst (λ (l : Looking). IsLookFrom b l.monitor c.feed_once.new.monitor c.in-Ok.look) c.lookout.view_is
    (c.in-Ok.ensures.look b (subst (λ (l : Looking). Feeds g.T.Editable.after g.T.Editable.taken g.T.Editable.number c.args.rnlp.now b c.args.scribe c.args.feed.now l.monitor) (sym c.lookout.view_is) h))

pub returns-in-Ok-clause-on : goal.returns-in-Ok-clause-on
returns-in-Ok-clause-on g c =
    let b = c.requires.0 in
    let h = subst (λ (l : Looking). Feeds g.T.Editable.after g.T.Editable.taken g.T.Editable.number c.args.rnlp.now b c.args.scribe c.args.feed.now l.monitor) (sym c.lookout.view_is) c.requires.1 in
    subst (λ (l : Looking). GoesOn 0 l (record { monitor = c.feed_once.new.monitor; looks = c.lookout.inside.looks.items })) c.lookout.view_is
    (record {
      feed = c.in-Ok.ensures.its.0;
      opening = c.in-Ok.ensures.its.1;
      seen = (c.in-Ok.ensures.look b h).begins;
      looks = prefix_self c.lookout.inside.looks.items;
      count = omega arith;
    })

pub returns-in-Err-clause-back : goal.returns-in-Err-clause-back
returns-in-Err-clause-back g c = λ b h.
    c.in-Err.ensures.err b (subst (λ (l : Looking). Feeds g.T.Editable.after g.T.Editable.taken g.T.Editable.number c.args.rnlp.now b c.args.scribe c.args.feed.now l.monitor) (sym c.lookout.view_is) h)
