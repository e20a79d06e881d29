-- What the watchers of the example have seen.
use Rattle.std.specs.Prelude.{◌≡◌, ℕ, Option, Some, None, List, [], ◌∷◌, map}
use Rattle.rclaim.specs.Changes.{ChangeLists}
use Rattle.rclaim.specs.declared.event.Event.{Event}
use Rattle.rguard.specs.Closing.{IsClosedBy, IsToldTo}
use Rattle.rguard.specs.Seats.{SeatOf}
use Rattle.rvalue.specs.declared.ledger.Ledger.{Ledger}
use Rattle.rvalue.specs.declared.ledger.Edit.{Edit}
use Rattle.rvalue.specs.Entries.{EntryFields}
use Rattle.rvalue.specs.Ledgers.{value_after, is_taken}
use Rattle.rwatch.specs.Laws.{weights}
use Rattle.rwatch.specs.Seen.{Seen, told_all}
use Rattle.rwatch.specs.declared.kinds.WatchKind.TheVariants.{Issues}

-- a watcher that counts issues, has counted this many, and keeps no events
abbrev pub counting : ℕ → Seen
counting count = record { kind = Issues; count = count; room = 0; kept = None }

-- what one watcher has seen, if it is there
abbrev pub seen_by : {W : Type 0} → (W → Seen) → Option W → List Seen
seen_by seen None = []
seen_by seen (Some watcher) = seen watcher ∷ []

-- the watchers were given some steps, in order, of which this many are issues
pub record HaveSeen (issued : ℕ) (before after : List Seen) : Type 0 where
  pub steps : List (Event × ChangeLists)
  pub issues : weights Issues steps ≡ issued
  pub told : after ≡ map (told_all steps) before

-- the lock was closed by these two seats, and its watchers were given the steps of its history
pub record IsEnd (first second : SeatOf Ledger Edit) (watched : List Seen) : Type 0 where
  pub entries : List (EntryFields Edit)
  pub values : List Ledger
  pub first_knows : IsClosedBy value_after is_taken (λ ledger. ledger.balance) entries values first
  pub second_knows : IsClosedBy value_after is_taken (λ ledger. ledger.balance) entries values second
  pub told : IsToldTo (Some watched) entries first
