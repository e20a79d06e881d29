use Rattle.std.proofs.Common.{◌≡◌, map, take}
use Rattle.rnlp.specs.Counters.{fresh, kinds}
use Rattle.rnlp.proofs.run_watched.OwnLists.{own-1}
use Rattle.rnlp.proofs.run_watched.Given as goal

-- the counters of the kinds so far are in the list
abbrev pub invariant-loop-kind : goal.invariant-loop-kind
invariant-loop-kind g l = map (λ b. (own-1.entry b.vtable).1.seen b.value) l.list.items ≡ map fresh (take l.kind-index kinds)
