-- What a scribe knows after a turn, which leaves the state as it found it.
use Rattle.std.proofs.Common.{◌≡◌, [], refl, sym, ap, subst, ◌∙◌, append-nil}
use mathlib.Core.List.{IsPrefix}
use Rattle.rlock.specs.Known.{entered, left}
use Rattle.rstate.specs.Contents.{Contents}
use Rattle.rguard.specs.Seats.{SeatOf, IsOneTurn}

-- it was one turn, without an entry
pub read_turn : {V E : Type 0} (k : SeatOf V E) (found : Contents V E) (pass later : SeatOf V E) → IsPrefix k.seen found.entries → pass ≡ entered k found.entries → later ≡ left pass found.entries found
    → IsOneTurn k [] later
read_turn {V} {E} k found pass later begins pass_is left_is =
    subst (λ (x : SeatOf V E). IsOneTurn k [] x) (sym (left_is ∙ ap (λ (p : SeatOf V E). left p found.entries found) pass_is))
    (record { found = found.entries; begins = begins; seen = sym (append-nil found.entries); turns = refl })
