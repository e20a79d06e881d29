use denote.Param.Object.{read_made}
use Rattle.std.proofs.Common.{◌≡◌, ◌∙◌, [], map, refl, sym, ap, subst, None}
use Rattle.std.proofs.lemmas.List.{take_all}
use Rattle.rwatch.specs.Seen.{Seen}
use Rattle.rwatch.specs.declared.counter.Counter.{Counter}
use Rattle.rwatch.specs.declared.kinds.WatchKind.TheVariants.{Issues}
use Rattle.rnlp.specs.Counters.{fresh, kinds, counters}
use Rattle.rnlp.proofs.Counting.{one_more}
use Rattle.rnlp.proofs.run_watched.OwnLists.{own-1, at-1-1}
use Rattle.rnlp.proofs.run_watched.Given as given
use Rattle.rnlp.proofs.run_watched.Goals as goal

pub loop-kind-init : goal.loop-kind-init
loop-kind-init g c = subst (λ xs. map (λ b. (own-1.entry b.vtable).1.seen b.value) xs ≡ []) (sym c.new-list.ensures.items) refl

-- what is seen of a counter is seen of its box
boxed : (g : given.Over) (c : goal.In_ok-push g) → (own-1.entry c.into_dyn_box.result.vtable).1.seen c.into_dyn_box.result.value
    ≡ record { kind = c.in_ok-new.field-0.value.kind; count = c.in_ok-new.field-0.value.count; room = 0; kept = None }
boxed g c = read_made own-1 (own-1.entry at-1-1) at-1-1 refl Seen (λ j v. j.1.seen v) _ _ _ c.into_dyn_box.ensures.1

pub loop-kind-preserved : goal.loop-kind-preserved
loop-kind-preserved g c =
    one_more (λ b. (own-1.entry b.vtable).1.seen b.value) fresh kinds c.loop-kind.list.items c.push.new.self.items c.into_dyn_box.result c.loop-kind.kind-index Issues
    c.loop-kind-test.true c.loop-kind.invariant c.in_ok-push.ensures.items
    (boxed g c ∙ ap (λ (a : Counter). record { kind = a.kind; count = a.count; room = 0; kept = None }) (c.in_ok-new.ensures.ok ∙ c.new.ensures))

pub returns-clause-ran : goal.returns-clause-ran
returns-clause-ran g c =
    let ran = c.run.ensures.answer in
    let are : map (λ b. (own-1.entry b.vtable).1.seen b.value) c.new-watchers.result.list.items ≡ counters =
    subst (λ list. map (λ b. (own-1.entry b.vtable).1.seen b.value) list.items ≡ counters) (sym c.new-watchers.ensures)
    (c.loop-kind.invariant ∙ ap (map fresh) (take_all c.loop-kind.kind-index kinds c.loop-kind-test.false)) in
    (ran.0, _, _, ran.1, rw are at (rw c.new-receipts.ensures.items at ran.2))
