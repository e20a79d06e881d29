use Rattle.std.proofs.Common.{arith, ◌≡◌, ◌+◌, [], ◌∷◌, ◌++◌, append_assoc, Some, sym, ap, ◌∙◌, subst}
use Rattle.std.proofs.lemmas.List.{map-append}
use Rattle.left_right.specs.Sides.{view}
use Rattle.rmodel.specs.Steps.{after, AreAccepted, Comes}
use Rattle.rmodel.proofs.reaching.Histories.{accepted_push}
use Rattle.rmon.specs.declared.image.Change.TheVariants.{Take}
use Rattle.rmon.specs.Completed.{completed_by}
use Rattle.rmon.specs.Fronts.{head_of}
use Rattle.rmon.specs.Opened.{opening_of}
use Rattle.rmon.specs.Rules.{IsAfter, opening_told}
use Rattle.rmon.proofs.Counting.{completed_next, completed_most, at_most_one}
use Rattle.rmon.proofs.feed.Feed.take.Goals as goal

pub invariant_of-self : goal.invariant_of-self
invariant_of-self g c =
    let inv = c.self.invariant in
    let w = c.self.inside.writer in
    let front = c.self.inside.front in
    let e = c.args.event.now in
    let o = opening_of inv.told.opening in
    let desk : c.append.new.self.desk ≡ w.desk = c.append.ensures.desk in
    let longer = c.count-in-Ok.ensures in
    let v = c.self.view_is in
    let knows : c.args.self.now.opening ≡ Some inv.told.opening = sym (ap (λ f. f.opening) v) ∙ ap opening_told inv.knows in
    let comes : Comes (after o front.events) e = subst (λ es. Comes (after o es) e) (sym (ap (λ f. f.fed) v)) (c.requires inv.told.opening knows) in
    record {
      told = inv.told;
      knows = ap (λ d. view d.place) desk ∙ inv.knows;
      its_feed = inv.its_feed ∙ sym (ap (λ f. f.feed) longer);
      counts = inv.counts ∙ ap (λ f. head_of f.feed) (sym longer);
      same_feed = ap (λ d. d.shown.value.front.feed) desk ∙ (inv.same_feed ∙ sym (ap (λ f. f.feed) longer));
      image = subst (λ d. IsAfter inv.told.opening d.shown.value) (sym desk) inv.image;
      more = inv.more ++ e ∷ [];
      pending = c.in-Ok.ensures.pending ∙ (ap (λ xs. xs ++ Take e ∷ []) inv.pending ∙ sym (map-append Take inv.more (e ∷ [])));
      fed =
          ap (λ f. f.events) longer
          ∙ (ap (λ es. es ++ e ∷ []) inv.fed ∙ (append_assoc w.desk.shown.value.front.events inv.more (e ∷ []) ∙ ap (λ d. d.shown.value.front.events ++ (inv.more ++ e ∷ [])) (sym desk)));
      accepted = subst (AreAccepted o) (sym (ap (λ f. f.events) longer)) (accepted_push o front.events e inv.accepted comes);
      completed =
          ap (λ n. n + c.completes.result) inv.completed
          ∙ (ap (λ n. completed_by front.events + n) c.completes.ensures ∙ (sym (completed_next front.events e) ∙ ap (λ f. completed_by f.events) (sym longer)));
    }

pub overflow_add-self : goal.overflow_add-self
overflow_add-self g c =
    let is = c.self.invariant.completed in
    let most = completed_most c.self.inside.front.events in
    let one = at_most_one c.args.event.now in
    grind (arith, is, most, one, c.completes.ensures, c.if-count.false, c.count.ensures)
