-- What the first seats hold, with one more seat.
use Rattle.std.proofs.Common.{◌≡◌, ℕ, ◌+◌, List, ap, add-one, if◌then◌else◌}
use Rattle.rmodel.specs.declared.claimed.Claimed.{Claimed}
use Rattle.rmodel.specs.declared.granted.Granted.{Granted}
use Rattle.rmodel.specs.Holds.{both, holds_of, is_nothing}
use Rattle.rmon.specs.Looks.{all_held, with_held}

pub held_next : (xs : List Claimed) (seat holding more : ℕ) (all : Granted) → (holding, all) ≡ all_held xs seat
    → more ≡ (if is_nothing (holds_of xs seat) then holding else holding + 1)
    → (more, both all (holds_of xs seat)) ≡ all_held xs (seat + 1)
held_next xs seat holding more all is e = rw (add-one seat, e) (ap (λ sum. with_held sum (holds_of xs seat)) is)
