-- What a closed lock says of its seats, from how it began: for proofs of programs above.
use Rattle.std.proofs.Common.{◌≡◌, ℕ, ◌<◌, Bool, List, [], ◌∷◌, ◌++◌, map, length, replicate, Some, sym, ap, subst, ◌∙◌}
use Rattle.std.proofs.lemmas.List.{length-replicate}
use Rattle.std.proofs.lemmas.Option.{get_or_from_slice_get}
use Rattle.std.specs.List.{AllByRecursion}
use Rattle.std.specs.Prelude.{slice_get, slice_index_or, All, Any}
use Rattle.rclaim.specs.Events.{seat_of}
use Rattle.rclaim.specs.declared.event.Event.{Event}
use Rattle.rclaim.specs.declared.event.Event.TheVariants as events
use Rattle.rlock.specs.Known.{GateId, newcomer}
use Rattle.rmodel.specs.State.{LockState}
use Rattle.rmodel.specs.Steps.{Fits}
use Rattle.rmodel.proofs.reaching.Histories.{sizes_after}
use Rattle.rvalue.specs.InTurn.{AllInTurn}
use Rattle.rvalue.specs.Entries.{EntryFields}
use Rattle.rvalue.specs.Lawful.{AreOpenings}
use Rattle.rstate.specs.Contents.{Contents}
use Rattle.rstate.specs.Histories.{Beginning, IsListed, MayFollow, first_of, lock_after}
use Rattle.rstate.proofs.histories.Following.{event_of, lock_is_after}
use Rattle.rstate.proofs.homes.Lists.{same_item, get_there, get_replicate}
use Rattle.rguard.specs.Seats.{SeatOf}

-- ---- how a lock begins

module _ {V E : Type 0} where
  -- the seats of a new runtime have done nothing, and know the values with which it began
  pub new_seats : (gate : GateId) (seats : List (SeatOf V E)) (n : ℕ) (began : Beginning V) (state : Contents V E) (values : List V) → length seats ≡ n
      → ((k : ℕ) → k < n → slice_get seats k ≡ Some (newcomer gate k began state)) → began.values ≡ values
      → All (λ seat. (seat.mine ≡ []) × ((b : Beginning V) → seat.opening ≡ Some b → b.values ≡ values)) seats
  new_seats gate seats n began state values count each values_are k d less =
      let is = get_or_from_slice_get seats k (newcomer gate k began state) d (each k (subst (λ m. k < m) count less)) in (
        ap (λ (s : SeatOf V E). s.mine) is,
        λ b opens. ap (λ (x : Beginning V). x.values) (same_item b began (sym opens ∙ ap (λ (s : SeatOf V E). s.opening) is)) ∙ values_are,
      )

  -- if seats are numbered in their order, each number has its seat
  pub all_there : (seats now : List (SeatOf V E)) → now ≡ seats → ((k : ℕ) (d : SeatOf V E) → k < length now → (slice_index_or now k d).number ≡ k) → (n : ℕ) → n < length seats → Any (λ seat. seat.number ≡ n) seats
  all_there seats now same order n inside =
      let there = get_there seats n inside in
      let is = get_or_from_slice_get seats n there.0 there.0 there.1 in (
        n,
        there.0,
        inside,
        is,
        ap (λ (s : SeatOf V E). s.number) (sym is) ∙ ap (λ (l : List (SeatOf V E)). (slice_index_or l n there.0).number) (sym same) ∙ order n there.0 (subst (λ (l : List (SeatOf V E)). n < length l) (sym same) inside),
      )

-- a lock that began with one value for each of so many resources
module _ {V : Type 0} (count : ℕ) (value : V) (b : Beginning V) (values_are : b.values ≡ replicate count value) where
  pub each_opens : AreOpenings (IsListed b.values) (λ l. value)
  each_opens l other listed = sym (get_replicate count l value other (ap (λ (vs : List V). slice_get vs l) (sym values_are) ∙ listed))

  pub each_listed : (l : ℕ) → l < count → slice_get b.values l ≡ Some value
  each_listed l less =
      let there = get_there (replicate count value) l (subst (λ n. l < n) (sym (length-replicate count value)) less) in
      ap (λ (vs : List V). slice_get vs l) values_are ∙ there.1 ∙ ap Some (get_replicate count l value there.0 there.1)

-- ---- its history

seat_there : (s : LockState) (e : Event) → Fits s e → seat_of e < s.seats
seat_there s (events.Issue seat r) fits = fits.seat_there
seat_there s (events.Finish seat) fits = fits
seat_there s (events.Rise seat) fits = fits
seat_there s (events.Ask seat part) fits = fits.0

-- each entry of a lawful history is of a seat that exists
module _ {V E : Type 0} (after : V → E → V) (taken : V → E → Bool) (number : V → ℕ) (b : Beginning V) where
  pub seats_there : (earlier entries : List (EntryFields E)) → AllInTurn (MayFollow after taken number b) earlier entries → AllByRecursion (λ (entry : EntryFields E). seat_of entry.event < b.seats) entries
  seats_there earlier [] turns = tt
  seats_there earlier (entry ∷ entries) turns = (
    subst (λ n. seat_of entry.event < n) (ap (λ (s : LockState). s.seats) (lock_is_after b earlier) ∙ (sizes_after (first_of b) (map event_of earlier)).seats) (seat_there (lock_after b earlier) entry.event turns.0.comes.fits),
    seats_there (earlier ++ entry ∷ []) entries turns.1,
  )
