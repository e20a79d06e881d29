-- A claim in any wait waits.
use Rattle.std.proofs.Common.{◌≡◌, nat_lt, true}
use Rattle.std.proofs.lemmas.Bool.{and_parts, or_left, or_right}
use Rattle.std.specs.FinSet.{len}
use Rattle.rmodel.specs.declared.claimed.Claimed.{Claimed}
use Rattle.rbound.specs.declared.which.Which.{Which}
use Rattle.rbound.specs.declared.which.Which.TheVariants.{First, Rise, Ask}
use Rattle.rcover_laws.specs.Ended.{waits_in}
use Rattle.rcover_laws.specs.Moments.{Moment}
use Rattle.rcover_laws.specs.Told.{waits_first, waits_to_rise}
use Rattle.rcover.specs.Kept.{may_wait}
use Rattle.rcover.specs.NotedSeats.{some_wait}

-- before it holds anything
pub first_is : (m : Moment) (x : Claimed) → waits_first m x ≡ true → some_wait m x ≡ true
first_is m x on = or_left (may_wait m x) (nat_lt 0 (len x.asked)) (or_left (waits_first m x) (waits_to_rise m x) on)

-- to rise
pub rise_is : (m : Moment) (x : Claimed) → waits_to_rise m x ≡ true → some_wait m x ≡ true
rise_is m x on = or_left (may_wait m x) (nat_lt 0 (len x.asked)) (or_right (waits_first m x) (waits_to_rise m x) on)

-- and in any wait
pub waits_is : (m : Moment) (w : Which) (x : Claimed) → waits_in w m x ≡ true → some_wait m x ≡ true
waits_is m First x on = first_is m x on
waits_is m Rise x on = rise_is m x on
waits_is m (Ask k) x on = or_right (may_wait m x) (nat_lt 0 (len x.asked)) (and_parts _ (nat_lt 0 (len x.asked)) on).1
