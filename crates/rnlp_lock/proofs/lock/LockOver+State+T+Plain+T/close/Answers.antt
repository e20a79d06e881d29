use Rattle.std.proofs.Common.{◌≡◌, ◌<◌, map, sym, subst, ◌∙◌}
use Rattle.std.proofs.lemmas.List.{length-map}
use Rattle.std.specs.Arc.{arc_value}
use Rattle.rnlp_lock.specs.Seats.{LockFields, who_of}
use Rattle.rnlp_lock.proofs.Conserving.{law_left, count_left}
use Rattle.rnlp_lock.proofs.Keeping.{any_map}
use Rattle.rnlp_lock.proofs.lock.LockOver+State+T+Plain+T.close.Goals as goal

pub close-history-requires-clause-all : goal.close-history-requires-clause-all
close-history-requires-clause-all g c κs within =
    λ n less. any_map (who_of c.args.self) (λ w. w.number ≡ n) c.args.passes.items (length-map c.args.passes.items (who_of c.args.self)) (c.requires.all.all n (subst (λ (lock : LockFields). n < lock.site.passes) c.self.view_is less))

pub returns-clause-count : goal.returns-clause-count
returns-clause-count g c =
    sym (length-map c.close-history.result.1.items arc_value)
    ∙ count_left g.T.Editable.after g.T.Editable.taken g.T.Editable.number g.T.Law.holds g.T.Law.allows g.met.T.Law.keeps c.args.self c.args.passes.items c.requires.each
    (λ n less. any_map (who_of c.args.self) (λ w. w.number ≡ n) c.args.passes.items (length-map c.args.passes.items (who_of c.args.self)) (c.requires.all.all n less))
    (subst (λ (lock : LockFields). 0 < lock.site.passes) c.self.view_is c.self.invariant.0) c.close-history.result.0.entries (map arc_value c.close-history.result.1.items) c.close-history.ensures.seats

pub returns-clause-law : goal.returns-clause-law
returns-clause-law g c =
    law_left g.T.Editable.after g.T.Editable.taken g.T.Editable.number g.T.Law.holds g.T.Law.allows g.met.T.Law.keeps c.args.self c.args.passes.items c.requires.each
    (λ n less. any_map (who_of c.args.self) (λ w. w.number ≡ n) c.args.passes.items (length-map c.args.passes.items (who_of c.args.self)) (c.requires.all.all n less))
    (subst (λ (lock : LockFields). 0 < lock.site.passes) c.self.view_is c.self.invariant.0) c.close-history.result.0.entries (map arc_value c.close-history.result.1.items) c.close-history.ensures.seats
