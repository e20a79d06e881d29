-- Entries of a history one after another: the state that they lead to, whose events are accepted and which is reached.
use Rattle.std.proofs.Common.{◌≡◌, ℕ, Bool, List, [], ◌∷◌, ◌++◌, map, fold, refl, sym, ap, subst, ◌∙◌, append_assoc, append-nil}
use Rattle.std.proofs.lemmas.List.{map-append}
use Rattle.std.proofs.lemmas.List.Sums.{fold-append}
use Rattle.rclaim.specs.declared.event.Event.{Event}
use Rattle.rmodel.specs.Reached.{IsReached}
use Rattle.rmodel.specs.State.{LockState}
use Rattle.rmodel.specs.Steps.{next, after, AreAccepted}
use Rattle.rmodel.proofs.reaching.Reached.{reached_next, reached_opening}
use Rattle.rvalue.specs.Entries.{EntryFields}
use Rattle.rvalue.specs.InTurn.{AllInTurn}
use Rattle.rstate.specs.Histories.{Beginning, first_of, lock_after, MayFollow, IsLawfulFrom}

-- items that fit in turn, in two parts
pub in_turn_parts : {A : Type 0} (Fits : List A → A → Type 0) (earlier xs ys : List A) → AllInTurn Fits earlier (xs ++ ys) → AllInTurn Fits earlier xs × AllInTurn Fits (earlier ++ xs) ys
in_turn_parts Fits earlier [] ys fits = (tt, subst (λ before. AllInTurn Fits before ys) (sym (append-nil earlier)) fits)
in_turn_parts Fits earlier (x ∷ xs) ys fits =
    let rest = in_turn_parts Fits (earlier ++ x ∷ []) xs ys fits.1 in
    ((fits.0, rest.0), subst (λ before. AllInTurn Fits before ys) (append_assoc earlier (x ∷ []) xs) rest.1)

-- a state after events is the one that they lead to one by one
pub after_by_fold : (s : LockState) (events : List Event) → fold next s events ≡ after s events
after_by_fold s [] = refl
after_by_fold s (e ∷ events) = after_by_fold (next s e) events

-- the event of an entry
abbrev pub event_of : {E : Type 0} → EntryFields E → Event
event_of entry = entry.event

module _ {V E : Type 0} (b : Beginning V) where
  -- the state after one more entry
  pub lock_push : (earlier : List (EntryFields E)) (e : EntryFields E) → lock_after b (earlier ++ e ∷ []) ≡ next (lock_after b earlier) e.event
  lock_push earlier e = ap (fold next (first_of b)) (map-append event_of earlier (e ∷ [])) ∙ fold-append next (first_of b) (map event_of earlier) (e.event ∷ [])

  pub lock_is_after : (entries : List (EntryFields E)) → lock_after b entries ≡ after (first_of b) (map event_of entries)
  lock_is_after entries = after_by_fold (first_of b) (map event_of entries)

module _ {V E : Type 0} (after_edit : V → E → V) (taken : V → E → Bool) (number : V → ℕ) (b : Beginning V) where
  abbrev Follows : List (EntryFields E) → EntryFields E → Type 0
  Follows = MayFollow after_edit taken number b

  pub reached_push : (earlier : List (EntryFields E)) (e : EntryFields E) → IsReached (lock_after b earlier) → Follows earlier e → IsReached (lock_after b (earlier ++ e ∷ []))
  reached_push earlier e reached right = subst IsReached (sym (lock_push b earlier e)) (reached_next (lock_after b earlier) e.event reached right.comes)

  pub reached_along : (earlier more : List (EntryFields E)) → IsReached (lock_after b earlier) → AllInTurn Follows earlier more → IsReached (lock_after b (earlier ++ more))
  reached_along earlier [] reached fits = subst (λ es. IsReached (lock_after b es)) (sym (append-nil earlier)) reached
  reached_along earlier (e ∷ more) reached fits =
      subst (λ es. IsReached (lock_after b es)) (append_assoc earlier (e ∷ []) more) (reached_along (earlier ++ e ∷ []) more (reached_push earlier e reached fits.0) fits.1)

  -- a lawful history leads to a state that is reached
  pub reached_lawful : (entries : List (EntryFields E)) → IsLawfulFrom after_edit taken number b entries → IsReached (lock_after b entries)
  reached_lawful entries lawful = reached_along [] entries (reached_opening b.groups b.seats b.cap) lawful

  accepted_along : (earlier more : List (EntryFields E)) → AllInTurn Follows earlier more → AreAccepted (lock_after b earlier) (map event_of more)
  accepted_along earlier [] fits = tt
  accepted_along earlier (e ∷ more) fits =
      (fits.0.comes, subst (λ (s : LockState). AreAccepted s (map event_of more)) (lock_push b earlier e) (accepted_along (earlier ++ e ∷ []) more fits.1))

  -- the events of a lawful history are accepted
  pub accepted_lawful : (entries : List (EntryFields E)) → IsLawfulFrom after_edit taken number b entries → AreAccepted (first_of b) (map event_of entries)
  accepted_lawful entries lawful = accepted_along [] entries lawful
