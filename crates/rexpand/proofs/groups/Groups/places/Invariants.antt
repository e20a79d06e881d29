use Rattle.std.proofs.Common.{◌≡◌, true, fold, nat_lt}
use Rattle.std.specs.List.{list_all}
use Rattle.std.specs.FinSet.{union}
use Rattle.rset.specs.Sets.{rising}
use Rattle.rexpand.specs.Groups.{shared_with}
use Rattle.rexpand.proofs.groups.Groups.places.Given as goal

abbrev pub invariant-loop-l : goal.invariant-loop-l
invariant-loop-l l =
    (list_all (λ m. nat_lt m l.self.q) (rising l.l-iterator) ≡ true)
    × (fold (λ places m. union places (shared_with l.self.groups m)) l.places (rising l.l-iterator) ≡ fold (λ places m. union places (shared_with l.self.groups m)) l.fn.reads (rising l.fn.writes))
