-- A finish leaves no claim of its seat, so what is kept of other seats needs no note of it.
use Rattle.std.proofs.Common.{◌≡◌, ◌≢◌, ℕ, ◌==◌, true, false, not, ◌&&◌, cond, refl, sym, ap, ◌∙◌}
use Rattle.std.proofs.lemmas.Bool.{eq-eqb, ne_eqb}
use Rattle.std.specs.List.{AllByRecursion}
use Rattle.std.specs.FinSet.{contains, remove}
use Rattle.rset.specs.Sets.{Set}
use Rattle.rset.proofs.SetMembers.{contains_remove}
use Rattle.rclaim.specs.Events.{seat_of}
use Rattle.rclaim.specs.declared.claim.Claim.{Claim}
use Rattle.rclaim.specs.declared.event.Event.{Event}
use Rattle.rclaim.specs.declared.event.Event.TheVariants.{Issue, Finish}
use Rattle.rclaim.specs.declared.event.Event.TheVariants as event
use Rattle.rmodel.specs.declared.claimed.Claimed.{Claimed}
use Rattle.rmodel.specs.Claims.{is_satisfied}
use Rattle.rmodel.specs.Reached.{IsReached}
use Rattle.rmodel.specs.State.{LockState}
use Rattle.rmodel.specs.Steps.{next, Comes}
use Rattle.rmodel.specs.WellFormed.{Among}
use Rattle.rmodel.proofs.ListFacts.{contrary, all_at, all_from, none_among}
use Rattle.rcover_laws.specs.History.{count_ask}
use Rattle.rcover_laws.specs.Moments.{Moment}
use Rattle.rcover_laws.specs.Sections.{Sections}
use Rattle.rcover_laws.specs.Told.{waits_to_rise, waits_for_ask}
use Rattle.rcover.specs.Kept.{may_wait, kept_of}
use Rattle.rcover.specs.Follow.{with_entry}
use Rattle.rcover.specs.Past.{noted}
use Rattle.rcover.specs.Tracked.{no_sections}
use Rattle.rcover.specs.NotedSeats.{some_wait, HoldWaiting, is_rising, TellRising, HoldAsking, HoldReading}
use Rattle.rcover.specs.Lines.{is_finish}
use Rattle.rcover.proofs.told.Asking.{asking_next}
use Rattle.rcover.proofs.told.Reading.{reading_next}
use Rattle.rcover.proofs.told.Rising.{risen_next}
use Rattle.rcover.proofs.told.Waiting.{none_left, waited_before}

module _ (s : LockState) (seat : ℕ) (reached : IsReached s) (comes : Comes s (Finish seat)) where
  abbrev m : Moment
  m = s.claims

  abbrev n : Moment
  n = (next s (Finish seat)).claims

  other : (x : Claimed) → Among x n → x.claim.seat ≢ seat
  other x there same = contrary (x.claim.seat == seat) (eq-eqb x.claim.seat seat same) (none_among (λ y. y.claim.seat == seat) n x (none_left s seat reached comes) there)

  without : (seats : Set) (x : Claimed) → Among x n → contains (remove seats seat) x.claim.seat ≡ contains seats x.claim.seat
  without seats x there = contains_remove seats seat x.claim.seat ∙ ap (λ b. not b && contains seats x.claim.seat) (ne_eqb x.claim.seat seat (other x there))

  waiting_left : (seats : Set) → HoldWaiting seats m → HoldWaiting seats n
  waiting_left seats hold =
      all_from (λ x. some_wait n x ≡ true → contains seats x.claim.seat ≡ true) n
      (λ x there. waited_before s (Finish seat) reached comes seats hold x there (other x there))

  rising_left : (seats : Set) → TellRising seats m → TellRising seats n
  rising_left seats tell =
      all_from (λ x. waits_to_rise n x ≡ is_rising seats x) n
      (λ x there. all_at (λ y. waits_to_rise n y ≡ is_rising (remove seats seat) y) n x (risen_next s (Finish seat) reached comes seats tell) there
      ∙ ap (λ b. b && not (is_satisfied x)) (without seats x there))

  asking_left : (seats : Set) → HoldAsking seats m → HoldAsking seats n
  asking_left seats hold =
      all_from (λ x. waits_for_ask n x ≡ true → contains seats x.claim.seat ≡ true) n
      (λ x there on. sym (without seats x there)
      ∙ all_at (λ y. waits_for_ask n y ≡ true → contains (remove seats seat) y.claim.seat ≡ true) n x (asking_next s (Finish seat) reached comes seats hold) there on)

  reading_left : (seats : Set) → HoldReading seats m → HoldReading seats n
  reading_left seats hold =
      all_from (λ x. x.claim.write_half ≡ false → contains seats x.claim.seat ≡ true) n
      (λ x there read. sym (without seats x there)
      ∙ all_at (λ y. y.claim.write_half ≡ false → contains (remove seats seat) y.claim.seat ≡ true) n x (reading_next s (Finish seat) reached comes seats hold) there read)

  kept_left : (table : ℕ → Sections) → AllByRecursion (λ x. may_wait n x ≡ true → with_entry table seat no_sections x.claim.seat ≡ kept_of m n (table x.claim.seat) x) n
      → AllByRecursion (λ x. may_wait n x ≡ true → table x.claim.seat ≡ kept_of m n (table x.claim.seat) x) n
  kept_left table kept =
      all_from (λ x. may_wait n x ≡ true → table x.claim.seat ≡ kept_of m n (table x.claim.seat) x) n
      (λ x there may. sym (ap (λ b. cond b no_sections (table x.claim.seat)) (ne_eqb x.claim.seat seat (other x there)))
      ∙ all_at (λ y. may_wait n y ≡ true → with_entry table seat no_sections y.claim.seat ≡ kept_of m n (table y.claim.seat) y) n x kept there may)

-- the same of any event that is a finish
module _ (s : LockState) (e : Event) (reached : IsReached s) (comes : Comes s e) where
  pub waiting_stays : is_finish e ≡ true → (seats : Set) → HoldWaiting seats s.claims → HoldWaiting seats (next s e).claims
  waiting_stays = at e comes
    where
      at : (d : Event) → Comes s d → is_finish d ≡ true → (seats : Set) → HoldWaiting seats s.claims → HoldWaiting seats (next s d).claims
      at (Issue t r) c is = contrary false is refl
      at (Finish t) c is = waiting_left s t reached c
      at (event.Rise t) c is = contrary false is refl
      at (event.Ask t part) c is = contrary false is refl

  pub rising_stays : is_finish e ≡ true → (seats : Set) → TellRising seats s.claims → TellRising seats (next s e).claims
  rising_stays = at e comes
    where
      at : (d : Event) → Comes s d → is_finish d ≡ true → (seats : Set) → TellRising seats s.claims → TellRising seats (next s d).claims
      at (Issue t r) c is = contrary false is refl
      at (Finish t) c is = rising_left s t reached c
      at (event.Rise t) c is = contrary false is refl
      at (event.Ask t part) c is = contrary false is refl

  pub asking_stays : is_finish e ≡ true → (seats : Set) → HoldAsking seats s.claims → HoldAsking seats (next s e).claims
  asking_stays = at e comes
    where
      at : (d : Event) → Comes s d → is_finish d ≡ true → (seats : Set) → HoldAsking seats s.claims → HoldAsking seats (next s d).claims
      at (Issue t r) c is = contrary false is refl
      at (Finish t) c is = asking_left s t reached c
      at (event.Rise t) c is = contrary false is refl
      at (event.Ask t part) c is = contrary false is refl

  pub reading_stays : is_finish e ≡ true → (seats : Set) → HoldReading seats s.claims → HoldReading seats (next s e).claims
  reading_stays = at e comes
    where
      at : (d : Event) → Comes s d → is_finish d ≡ true → (seats : Set) → HoldReading seats s.claims → HoldReading seats (next s d).claims
      at (Issue t r) c is = contrary false is refl
      at (Finish t) c is = reading_left s t reached c
      at (event.Rise t) c is = contrary false is refl
      at (event.Ask t part) c is = contrary false is refl

  pub kept_stays : is_finish e ≡ true → (table : ℕ → Sections)
      → AllByRecursion (λ x. may_wait (next s e).claims x ≡ true → with_entry table (seat_of e) no_sections x.claim.seat ≡ kept_of s.claims (next s e).claims (table x.claim.seat) x) (next s e).claims
      → AllByRecursion (λ x. may_wait (next s e).claims x ≡ true → table x.claim.seat ≡ kept_of s.claims (next s e).claims (table x.claim.seat) x) (next s e).claims
  kept_stays = at e comes
    where
      at : (d : Event) → Comes s d → is_finish d ≡ true → (table : ℕ → Sections)
          → AllByRecursion (λ x. may_wait (next s d).claims x ≡ true → with_entry table (seat_of d) no_sections x.claim.seat ≡ kept_of s.claims (next s d).claims (table x.claim.seat) x) (next s d).claims
          → AllByRecursion (λ x. may_wait (next s d).claims x ≡ true → table x.claim.seat ≡ kept_of s.claims (next s d).claims (table x.claim.seat) x) (next s d).claims
      at (Issue t r) c is = contrary false is refl
      at (Finish t) c is = kept_left s t reached c
      at (event.Rise t) c is = contrary false is refl
      at (event.Ask t part) c is = contrary false is refl

-- what a finish counts and notes: nothing
pub asks_stay : (e : Event) → is_finish e ≡ true → (seat n : ℕ) → n ≡ count_ask seat n e
asks_stay (Issue t r) is seat n = contrary false is refl
asks_stay (Finish t) is seat n = refl
asks_stay (event.Rise t) is seat n = contrary false is refl
asks_stay (event.Ask t part) is seat n = contrary false is refl

pub lengths_stay : (e : Event) → is_finish e ≡ true → (by : Claim → ℕ) (c : Claim) → by c ≡ noted e by c
lengths_stay (Issue t r) is by c = contrary false is refl
lengths_stay (Finish t) is by c = refl
lengths_stay (event.Rise t) is by c = contrary false is refl
lengths_stay (event.Ask t part) is by c = contrary false is refl
