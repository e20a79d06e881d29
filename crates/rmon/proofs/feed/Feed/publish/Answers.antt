use Rattle.std.proofs.Common.{◌≡◌, [], ◌∷◌, ◌++◌, map, fold, drop, append-nil, sym, ap, ◌∙◌, subst}
use Rattle.left_right.specs.Sides.{view}
use Rattle.rmon.specs.declared.image.Change.TheVariants.{Take, Reach}
use Rattle.rmon.specs.Images.{absorbed}
use Rattle.rmon.specs.Rules.{IsAfter, KeepsRule, opening_told}
use Rattle.rmon.proofs.Publishing.{keeps_rule, comes_after}
use Rattle.rmon.proofs.feed.Feed.publish.Goals as goal
use Rattle.rmon.proofs.feed.Feed.publish.Goals.{In-Ok}

pub show-writer-requires : goal.show-writer-requires
show-writer-requires g c =
    let inv = c.self.invariant in
    let w = c.self.inside.writer in
    let front = c.self.inside.front in
    let changes = drop c.append.new.self.behind c.append.new.self.log.items in
    let are : changes ≡ map Take inv.more ++ Reach front ∷ [] = c.in-Ok.ensures.pending ∙ (ap (λ xs. xs ++ Reach c.again.result ∷ []) inv.pending ∙ ap (λ f. map Take inv.more ++ Reach f ∷ []) c.again.ensures) in
    subst (λ d. KeepsRule d.place.id (view d.place) d.shown.value changes) (sym c.append.ensures.desk)
    (keeps_rule w.desk.place.id (view w.desk.place) inv.told w.desk.shown.value front inv.more changes inv.knows inv.image are inv.fed inv.accepted (sym inv.same_feed))

pub invariant_of-feed : goal.invariant_of-feed
invariant_of-feed g c =
    let inv = c.self.invariant in
    let w = c.self.inside.writer in
    let front = c.self.inside.front in
    let desk : c.append.new.self.desk ≡ w.desk = c.append.ensures.desk in
    let changes = drop c.append.new.self.behind c.append.new.self.log.items in
    let are : changes ≡ map Take inv.more ++ Reach front ∷ [] = c.in-Ok.ensures.pending ∙ (ap (λ xs. xs ++ Reach c.again.result ∷ []) inv.pending ∙ ap (λ f. map Take inv.more ++ Reach f ∷ []) c.again.ensures) in
    let done = comes_after inv.told w.desk.shown.value front inv.more changes inv.image are inv.fed inv.accepted in
    let shown : c.show-writer.result.desk.shown.value ≡ fold absorbed w.desk.shown.value changes = c.show-writer.ensures.shown ∙ ap (λ d. fold absorbed d.shown.value changes) desk in
    let its : c.show-writer.result.desk.shown.value.front ≡ front = ap (λ x. x.front) shown ∙ done.1 in
    record {
      told = inv.told;
      knows = c.show-writer.ensures.knows ∙ (ap (λ d. view d.place) desk ∙ inv.knows);
      its_feed = inv.its_feed;
      counts = inv.counts;
      same_feed = ap (λ f. f.feed) its;
      image = subst (IsAfter inv.told.opening) (sym shown) done.0;
      more = [];
      pending = c.show-writer.ensures.pending;
      fed = sym (ap (λ f. f.events ++ []) its ∙ append-nil front.events);
      accepted = inv.accepted;
      completed = inv.completed;
    }

pub returns-in-Ok-clause-published : goal.returns-in-Ok-clause-published
returns-in-Ok-clause-published g c =
    let inv = c.self.invariant in
    let w = c.self.inside.writer in
    let front = c.self.inside.front in
    let desk : c.append.new.self.desk ≡ w.desk = c.append.ensures.desk in
    let changes = drop c.append.new.self.behind c.append.new.self.log.items in
    let are : changes ≡ map Take inv.more ++ Reach front ∷ [] = c.in-Ok.ensures.pending ∙ (ap (λ xs. xs ++ Reach c.again.result ∷ []) inv.pending ∙ ap (λ f. map Take inv.more ++ Reach f ∷ []) c.again.ensures) in
    let done = comes_after inv.told w.desk.shown.value front inv.more changes inv.image are inv.fed inv.accepted in
    let shown : c.show-writer.result.desk.shown.value ≡ fold absorbed w.desk.shown.value changes = c.show-writer.ensures.shown ∙ ap (λ d. fold absorbed d.shown.value changes) desk in
    let published = ap (λ x. x.front.events) shown ∙ ap (λ f. f.events) done.1 in
    let knows = ap opening_told (c.show-writer.ensures.knows ∙ ap (λ d. view d.place) desk) in
    let v = c.self.view_is in
    λ i. record { feed = (v i).feed; opening = (knows ∙ ap (λ f. f.opening) v) i; published = (published ∙ ap (λ f. f.fed) v) i; fed = (v i).fed }
