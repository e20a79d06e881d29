-- Whether all members of a set are below a number, by looking at each.
use Rattle.std.proofs.Common.{◌≡◌, ℕ, true, nat_lt, ◌∙◌}
use Rattle.std.specs.List.{list_all}
use Rattle.std.proofs.lemmas.Bool.{ltb-true, lt-ltb}
use Rattle.rset.specs.Sets.{Set, all_below, rising}
use Rattle.rset.specs.declared.TheConstants.{RESOURCES}
use Rattle.rset.proofs.SetMembers.{same_test, all_at, all_from}
use Rattle.rset.proofs.SetsBelow.{all_below_at, all_below_from}
use Rattle.rset.proofs.SetsRising.{rising_has, rising_member}

pub below_by_rising : (q : ℕ) (s : Set) → all_below RESOURCES s ≡ true → list_all (λ m. nat_lt m q) (rising s) ≡ all_below q s
below_by_rising q s h =
    same_test _ _
    (λ all. all_below_from q s (λ l there. ltb-true l q (all_at (λ m. nat_lt m q) l (rising s) all (rising_has s h l ∙ there))))
    (λ below. all_from (λ l. nat_lt l q) (rising s) (λ l there. lt-ltb l q (all_below_at q s below l (rising_member s l there))))
