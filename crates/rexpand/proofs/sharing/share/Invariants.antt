use Rattle.std.proofs.Common.{◌≡◌, true, length, fold, nat_lt}
use Rattle.std.specs.List.{list_all}
use Rattle.rset.specs.Sets.{rising}
use Rattle.rexpand.specs.Kept.{widen}
use Rattle.rexpand.proofs.sharing.share.Given as goal

abbrev pub invariant-loop-l : goal.invariant-loop-l
invariant-loop-l l =
    (list_all (λ m. nat_lt m (length l.shared)) (rising l.l-iterator) ≡ true)
    × (fold (widen (λ m. m) l.group) l.shared (rising l.l-iterator) ≡ fold (widen (λ m. m) l.group) l.initial.shared (rising l.group))
