-- A seat that is idle by its own entries has no request.
use Rattle.std.proofs.Common.{◌≡◌, ℕ, ◌==◌, Bool, true, false, cond, List, [], ◌∷◌, ◌++◌, refl, sym, ap, subst, ◌∙◌, append-nil, append_assoc}
use Rattle.std.proofs.lemmas.Bool.{eqb-true, true≢false}
use Rattle.std.proofs.lemmas.List.Sums.{fold-append}
use Rattle.rclaim.specs.Events.{seat_of}
use Rattle.rclaim.specs.declared.event.Event.{Event}
use Rattle.rclaim.specs.declared.event.Event.TheVariants.{Issue, Finish, Rise, Ask}
use Rattle.rlock.specs.Known.{entries_by}
use Rattle.rlock.proofs.Entries.{entries_by-append}
use Rattle.rmodel.specs.Holds.{has_request}
use Rattle.rmodel.specs.Reached.{IsReached}
use Rattle.rmodel.specs.State.{LockState}
use Rattle.rmodel.specs.Steps.{Comes, next}
use Rattle.rmodel.proofs.ListFacts.{contrary, false_from}
use Rattle.rmodel.proofs.reaching.Reached.{reached_opening}
use Rattle.rvalue.specs.Entries.{EntryFields}
use Rattle.rvalue.specs.InTurn.{AllInTurn}
use Rattle.rstate.specs.Histories.{Beginning, lock_after, MayFollow, IsLawfulFrom}
use Rattle.rstate.proofs.histories.Following.{lock_push, reached_push}
use Rattle.rguard.specs.Seats.{busy_after, is_busy}
use Rattle.rguard.proofs.seats.Along.{differs}
use Rattle.rguard.proofs.seats.Claims.{is_of, of_seat, claim_next, claim_asked, rise_leaves, finished_next}

-- one more own entry
pub busy_push : {E : Type 0} (mine : List (EntryFields E)) (e : EntryFields E) → is_busy (mine ++ e ∷ []) ≡ busy_after (is_busy mine) e.event
busy_push {E} mine e = fold-append (λ busy (entry : EntryFields E). busy_after busy entry.event) false mine (e ∷ [])

-- a seat that has a request after its own event is busy
busy_event : (n : ℕ) (s : LockState) (e : Event) (busy : Bool) → IsReached s → Comes s e → seat_of e ≡ n → (has_request s.claims n ≡ true → busy ≡ true) → has_request (next s e).claims n ≡ true → busy_after busy e ≡ true
busy_event n s (Issue k r) busy reached comes is was there = refl
busy_event n s (Finish k) busy reached comes is was there =
    contrary (has_request (next s (Finish n)).claims n) (subst (λ m. has_request (next s (Finish m)).claims n ≡ true) is there)
    (finished_next s n reached (subst (λ m. Comes s (Finish m)) is comes))
busy_event n s (Rise k) busy reached comes is was there =
    was (rise_leaves s n (is_of n) (of_seat n) reached (subst (λ m. Comes s (Rise m)) is comes) (subst (λ m. has_request (next s (Rise m)).claims n ≡ true) is there))
busy_event n s (Ask k part) busy reached comes is was there =
    was (sym (claim_asked n (is_of n) (of_seat n) s part reached (subst (λ m. Comes s (Ask m part)) is comes)) ∙ subst (λ m. has_request (next s (Ask m part)).claims n ≡ true) is there)

module _ {V E : Type 0} (after : V → E → V) (taken : V → E → Bool) (number : V → ℕ) (b : Beginning V) (n : ℕ) where
  abbrev Follows : List (EntryFields E) → EntryFields E → Type 0
  Follows = MayFollow after taken number b

  abbrev TellsBusy : List (EntryFields E) → Type 0
  TellsBusy entries = has_request (lock_after b entries).claims n ≡ true → is_busy (entries_by (λ (e : EntryFields E). seat_of e.event) n entries) ≡ true

  tells_push : (earlier : List (EntryFields E)) (e : EntryFields E) → IsReached (lock_after b earlier) → Follows earlier e → TellsBusy earlier → TellsBusy (earlier ++ e ∷ [])
  tells_push earlier e reached right was there = at (seat_of e.event == n) refl
    where
      now : has_request (next (lock_after b earlier) e.event).claims n ≡ true
      now = subst (λ (s : LockState). has_request s.claims n ≡ true) (lock_push b earlier e) there

      parts : entries_by (λ (e : EntryFields E). seat_of e.event) n (earlier ++ e ∷ []) ≡ entries_by (λ (e : EntryFields E). seat_of e.event) n earlier ++ cond (seat_of e.event == n) (e ∷ []) []
      parts = entries_by-append (λ (e : EntryFields E). seat_of e.event) n earlier (e ∷ [])

      at : (c : Bool) → (seat_of e.event == n) ≡ c → is_busy (entries_by (λ (e : EntryFields E). seat_of e.event) n (earlier ++ e ∷ [])) ≡ true
      at true is =
          ap is_busy (parts ∙ ap (λ (c : Bool). entries_by (λ (e : EntryFields E). seat_of e.event) n earlier ++ cond c (e ∷ []) []) is)
          ∙ busy_push (entries_by (λ (e : EntryFields E). seat_of e.event) n earlier) e
          ∙ busy_event n (lock_after b earlier) e.event (is_busy (entries_by (λ (e : EntryFields E). seat_of e.event) n earlier)) reached right.comes (eqb-true (seat_of e.event) n is) was now
      at false is =
          ap is_busy (parts ∙ ap (λ (c : Bool). entries_by (λ (e : EntryFields E). seat_of e.event) n earlier ++ cond c (e ∷ []) []) is ∙ append-nil (entries_by (λ (e : EntryFields E). seat_of e.event) n earlier))
          ∙ was (sym (claim_next n (is_of n) (of_seat n) (lock_after b earlier) e.event reached right.comes (differs (seat_of e.event) n is)) ∙ now)

  tells_along : (earlier more : List (EntryFields E)) → IsReached (lock_after b earlier) → AllInTurn Follows earlier more → TellsBusy earlier → TellsBusy (earlier ++ more)
  tells_along earlier [] reached fits was = subst TellsBusy (sym (append-nil earlier)) was
  tells_along earlier (e ∷ more) reached fits was =
      subst TellsBusy (append_assoc earlier (e ∷ []) more)
      (tells_along (earlier ++ e ∷ []) more (reached_push after taken number b earlier e reached fits.0) fits.1 (tells_push earlier e reached fits.0 was))

  -- after a lawful history
  pub idle_has_none : (entries : List (EntryFields E)) → IsLawfulFrom after taken number b entries → is_busy (entries_by (λ (e : EntryFields E). seat_of e.event) n entries) ≡ false → has_request (lock_after b entries).claims n ≡ false
  idle_has_none entries lawful idle =
      false_from (has_request (lock_after b entries).claims n) (λ h.
      true≢false (sym (tells_along [] entries (reached_opening b.groups b.seats b.cap) lawful (λ none. absurd (true≢false (sym none))) h) ∙ idle))
