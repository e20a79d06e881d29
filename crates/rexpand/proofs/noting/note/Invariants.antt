use Rattle.std.proofs.Common.{◌≡◌, true, ◌/◌, length, fold, nat_lt}
use Rattle.std.specs.List.{list_all}
use Rattle.rset.specs.Sets.{rising}
use Rattle.rexpand.specs.declared.TheConstants.{BLOCKS}
use Rattle.rexpand.specs.Kept.{place_in, widen}
use Rattle.rexpand.proofs.noting.note.Given as goal

abbrev pub invariant-loop-l : goal.invariant-loop-l
invariant-loop-l l =
    (list_all (λ m. nat_lt m (length l.noted / BLOCKS)) (rising l.l-iterator) ≡ true)
    × (fold (widen (place_in l.block) l.one) l.noted (rising l.l-iterator) ≡ fold (widen (place_in l.block) l.one) l.initial.noted (rising l.fn.group))
