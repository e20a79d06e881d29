use Rattle.rwatch.specs.Seen.{told}
use Rattle.rwatch.proofs.Telling.{AreTold}
use Rattle.rwatch.proofs.watchers.tell_each.Given as goal

abbrev pub invariant-loop-watcher : goal.invariant-loop-watcher
invariant-loop-watcher g l = AreTold (λ b. (goal.Watcher-dyn g (b.vtable, b.value)).seen b.value) (told l.event l.changes) l.initial.list l.watcher-index l.list
