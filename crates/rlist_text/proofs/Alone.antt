-- The events of a lawful history, alone, are a lawful history.
use Rattle.std.proofs.Common.{◌≡◌, ℕ, Bool, List, [], ◌∷◌, ◌++◌, map, fold, length, refl, sym, ap, subst}
use Rattle.std.proofs.lemmas.List.{map-append}
use Rattle.rclaim.specs.declared.event.Event.{Event}
use Rattle.rmodel.specs.State.{LockState, opening}
use Rattle.rmodel.specs.Steps.{Comes, next}
use Rattle.rvalue.specs.Entries.{EntryFields}
use Rattle.rvalue.specs.InTurn.{AllInTurn}
use Rattle.rvalue.specs.Lawful.{state_after}
use Rattle.rvalue.proofs.InTurnLemmas.{AllInTurn-weaker}
use Rattle.rstate.specs.Histories.{Beginning, IsLawfulFrom, MayFollow, first_of}
use Rattle.rtrace_form.specs.Heads.{Head, opening_of}
use Rattle.rtrace_form.specs.Reports.{Entry, lock_after, IsLawful, IsRightEntry}
use Rattle.rlist_text.specs.Lists.{alone, head_with, IsAccepted, AreAccepted}

module _ {E : Type 0} (head : Head) where
  events_same : (entries : List (EntryFields E)) → map (λ (y : Entry). y.event) (map alone entries) ≡ map (λ (y : EntryFields E). y.event) entries
  events_same [] = refl
  events_same (x ∷ xs) = ap (λ (events : List Event). x.event ∷ events) (events_same xs)

  pub state_same : (entries : List (EntryFields E)) → lock_after head (map alone entries) ≡ state_after next (opening_of head) entries
  state_same entries = ap (fold next (opening_of head)) (events_same entries)

  right_alone : (earlier : List (EntryFields E)) (x : EntryFields E) → IsAccepted head earlier x → IsRightEntry head (map alone earlier) (alone x)
  right_alone earlier x accepted = record {
    comes = subst (λ (s : LockState). Comes s x.event) (sym (state_same earlier)) accepted;
    stand = tt;
    held = tt;
    answers = λ openings are. tt;
  }

  right_in_turn : (earlier entries : List (EntryFields E)) → AllInTurn (IsAccepted head) earlier entries → AllInTurn (IsRightEntry head) (map alone earlier) (map alone entries)
  right_in_turn earlier [] accepted = tt
  right_in_turn earlier (x ∷ xs) accepted = (
    right_alone earlier x accepted.0,
    subst (λ (before : List Entry). AllInTurn (IsRightEntry head) before (map alone xs)) (map-append alone earlier (x ∷ [])) (right_in_turn (earlier ++ x ∷ []) xs accepted.1),
  )

  pub lawful_alone : (entries : List (EntryFields E)) → AreAccepted head entries → IsLawful head (map alone entries)
  lawful_alone entries accepted = right_in_turn [] entries accepted

-- the events of what a lock leaves are accepted in turn by a lock with its groups, its cap and as many tasks
pub left_listed : {V E : Type 0} (after : V → E → V) (taken : V → E → Bool) (number : V → ℕ) (b : Beginning V) (entries : List (EntryFields E)) (resources tasks : List (List ℕ))
    → b.groups.q ≡ length resources → b.seats ≡ length tasks → IsLawfulFrom after taken number b entries → AreAccepted (head_with resources b.groups tasks b.cap) entries
left_listed {V} {E} after taken number b entries resources tasks over seated lawful =
    AllInTurn-weaker (MayFollow after taken number b) (IsAccepted (head_with resources b.groups tasks b.cap))
    (λ earlier x right. subst (λ (s : LockState). Comes (state_after next s earlier) x.event) same right.comes) [] entries lawful
  where
    same : first_of b ≡ opening_of (head_with resources b.groups tasks b.cap)
    same = λ i. opening (record { q = over i; groups = b.groups.groups }) (seated i) b.cap
