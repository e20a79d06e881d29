use Rattle.std.proofs.Common.{◌≡◌, true, ◌/◌, length, get_or, fold, nat_lt}
use Rattle.std.specs.List.{list_all}
use Rattle.std.specs.FinSet.{empty}
use Rattle.rset.specs.Sets.{rising}
use Rattle.rexpand.specs.declared.TheConstants.{BLOCKS}
use Rattle.rexpand.specs.Kept.{place_in, narrow}
use Rattle.rexpand.proofs.noting.around.Given as goal

abbrev pub invariant-loop-m : goal.invariant-loop-m
invariant-loop-m l =
    (list_all (λ m. nat_lt m (length l.noted / BLOCKS)) (rising l.m-iterator) ≡ true)
    × (fold (narrow l.noted l.block) l.groups (rising l.m-iterator) ≡ fold (narrow l.noted l.block) (get_or l.noted (place_in l.block l.l) empty) (rising l.fn.set))
