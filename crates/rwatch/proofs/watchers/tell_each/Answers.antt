use Rattle.std.proofs.Common.{◌∙◌, ◌<◌, refl, sym, ap, subst, arith}
use Rattle.rwatch.specs.Seen.{told}
use Rattle.rwatch.proofs.Telling.{told_more, told_end}
use Rattle.rwatch.proofs.watchers.tell_each.Goals as goal

pub loop-watcher-init : goal.loop-watcher-init
loop-watcher-init g c = (refl, refl)

pub loop-watcher-preserved : goal.loop-watcher-preserved
loop-watcher-preserved g c =
    told_more (λ b. (goal.Watcher-dyn g (b.vtable, b.value)).seen b.value) (told c.args.event.now c.args.changes.now) c.args.list.now c.loop-watcher.list c.loop-watcher.watcher-index c.watcher-item.result
    _ (subst (λ n. c.loop-watcher.watcher-index < n) (sym c.loop-watcher.auto.list) c.loop-watcher-test.true) c.loop-watcher.invariant
    (c.told.ensures ∙ ap (λ z. told c.args.event.now c.args.changes.now ((goal.Watcher-dyn g z).seen z.1)) c.deref_box_mut-1.ensures.value.1)

pub returns : goal.returns
returns g c =
    told_end (λ b. (goal.Watcher-dyn g (b.vtable, b.value)).seen b.value) (told c.args.event.now c.args.changes.now) c.args.list.now c.loop-watcher.list c.loop-watcher.watcher-index
    (omega (arith, c.loop-watcher-test.false)) c.loop-watcher.invariant
