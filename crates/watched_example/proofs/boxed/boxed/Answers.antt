use denote.Param.Object.{read_made}
use Rattle.std.proofs.Common.{◌≡◌, ◌≤◌, ◌*◌, ◌++◌, [], ◌∷◌, List, map, None, refl, sym, ap, subst, ◌∙◌, arith}
use Rattle.rwatch.specs.Seen.{Seen}
use Rattle.rwatch.specs.Weights.{greatest}
use Rattle.rwatch.specs.declared.counter.Counter.{Counter}
use Rattle.watched_example.specs.Watching.{HaveSeen, counting}
use Rattle.watched_example.proofs.Counting.{count_is}
use Rattle.watched_example.proofs.boxed.boxed.OwnLists.{own-1, at-1-1}
use Rattle.watched_example.proofs.boxed.boxed.Goals as goal

pub returns : goal.returns
returns g c =
    let small : 2 * c.args.times ≤ greatest = omega (arith, c.ranges.times.fits) in
    let counter : (own-1.entry c.into_dyn_box-counter.result.vtable).1.seen c.into_dyn_box-counter.result.value ≡ counting 0 =
    read_made own-1 (own-1.entry at-1-1) at-1-1 refl Seen (λ j v. j.1.seen v) _ _ _ c.into_dyn_box-counter.ensures.1
    ∙ ap (λ (a : Counter). record { kind = a.kind; count = a.count; room = 0; kept = None }) (c.in-Ok.ensures.ok ∙ c.new.ensures) in
    let alone : map (λ b. (own-1.entry b.vtable).1.seen b.value) c.push.new.self.items ≡ counting 0 ∷ [] =
    subst (λ xs. map (λ b. (own-1.entry b.vtable).1.seen b.value) xs ≡ counting 0 ∷ []) (sym (c.in-Ok-push.ensures.items ∙ ap (λ xs. xs ++ c.into_dyn_box-counter.result ∷ []) c.new-list.ensures.items)) (ap (λ (s : Seen). s ∷ []) counter) in
    let begins : map (λ b. (own-1.entry b.vtable).1.seen b.value) c.new-watchers.result.list.items ≡ counting 0 ∷ [] =
    subst (λ list. map (λ b. (own-1.entry b.vtable).1.seen b.value) list.items ≡ counting 0 ∷ []) (sym c.new-watchers.ensures) alone in
    let after : List Seen = map (λ b. (own-1.entry b.vtable).1.seen b.value) c.in_ok-after.after.list.items in
    c.count_of.ensures ∙ count_is c.steps_are_heard.ensures (2 * c.args.times) small after (subst (λ (ws : List Seen). HaveSeen (2 * c.args.times) ws after) begins c.in_ok-after.ensures)
