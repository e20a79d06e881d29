use Rattle.std.proofs.Common.{◌≡◌, [], ◌∷◌, ◌++◌, arith, sym, ap, ◌∙◌, subst}
use Rattle.std.specs.Prelude.{All}
use Rattle.std.proofs.lemmas.List.Elements.{All-nil, All-cons, All-append}
use Rattle.rmon.specs.declared.rule.Opening.{Opening}
use Rattle.rmon.specs.Known.{Feeding, Watching, begun, newcomer}
use Rattle.rmon.proofs.feed.Feed.new.Goals as goal

pub loop-preserved : goal.loop-preserved
loop-preserved g c =
    let o : Opening = record { groups = c.args.groups; seats = c.args.seats; cap = c.args.cap } in
    let inv = c.loop.invariant in
    let same : c.monitor.new.self ≡ c.loop.feed = c.monitor.ensures.same in
    let is : c.monitor.result ≡ newcomer c.loop.feed.feed o = c.monitor.ensures.monitor ∙ (λ i. record { feed = c.loop.feed.feed; opening = (inv.feed i).opening; seen = (inv.feed i).fed }) in
    let Fresh : Watching → Type 0 = λ m. m ≡ newcomer c.loop.feed.feed o in
    let all : All Fresh (c.loop.all.items ++ c.monitor.result ∷ []) = All-append Fresh c.loop.all.items (c.monitor.result ∷ []) inv.all (All-cons Fresh c.monitor.result [] is (All-nil Fresh)) in
    record {
      feed = same ∙ (inv.feed ∙ ap (λ (f : Feeding). begun f.feed o) (sym same));
      count = omega (arith, c.push_reserved.ensures.len, inv.count);
      room = omega (arith, c.push_reserved.ensures.capacity, inv.room);
      all = subst (λ (f : Feeding). All (λ m. m ≡ newcomer f.feed o) c.push_reserved.new.self.items) (sym same) (subst (All Fresh) (sym c.push_reserved.ensures.items) all);
    }
