use Rattle.std.proofs.Common.{◌≡◌, [], fold, nat_lt, ap, sym, ◌∙◌}
use Rattle.std.specs.List.{list_all}
use Rattle.std.specs.FinSet.{union}
use Rattle.rset.specs.Sets.{rising}
use Rattle.rexpand.specs.Groups.{shared_with}
use Rattle.rexpand.proofs.EntryLemmas.{rising_all_below}
use Rattle.rexpand.proofs.PlaceLemmas.{places_by_rising}
use Rattle.rexpand.proofs.groups.Groups.places.Goals as goal

pub loop-l-init : goal.loop-l-init
loop-l-init c =
    let whole : c.into_iter-l-iterator.result ≡ c.args.writes = c.into_iter-l-iterator.ensures.into_iter_gives ∙ c.iter-l-items.ensures.value in
    (ap (λ s. list_all (λ m. nat_lt m c.args.self.now.q) (rising s)) whole ∙ rising_all_below c.args.self.now.q c.args.writes c.requires, ap (λ s. fold (λ places m. union places (shared_with c.args.self.now.groups m)) c.args.reads (rising s)) whole)

pub returns : goal.returns
returns c =
    let none : rising c.loop-l.l-iterator ≡ [] = c.in-None.ensures.steps.0 in
    sym (ap (fold (λ places m. union places (shared_with c.args.self.now.groups m)) c.loop-l.places) none)
    ∙ c.loop-l.invariant.1
    ∙ places_by_rising c.args.self.now.groups c.args.reads c.args.writes c.iter-l-items.ensures.within
