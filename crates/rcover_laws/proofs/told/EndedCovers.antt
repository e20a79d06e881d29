-- The waits that an event ends are reported with the numbers of sections that cover them.
use Rattle.std.proofs.Common.{◌≡◌, ℕ, Bool, true, false, cond, List, [], Option, Some, None, refl, sym, subst}
use Rattle.rbound.specs.Groups.{ReadGroups}
use Rattle.rclaim.specs.declared.event.Event.{Event}
use Rattle.rmodel.specs.declared.claimed.Claimed.{Claimed}
use Rattle.rmodel.specs.State.{LockState, opening}
use Rattle.rmodel.specs.Steps.{next, after, AreAccepted}
use Rattle.rmodel.specs.WellFormed.{Among}
use Rattle.rbound.specs.declared.which.Which.{Which}
use Rattle.rbound.specs.declared.which.Which.TheVariants.{First, Rise, Ask}
use Rattle.rcover_laws.specs.Ended.{waits_in, wait_of, sections_in, wait_end, ended_if}
use Rattle.rcover_laws.specs.EndedCovers.{moments_of, IsCovered, EndedWaitsAreCovered}
use Rattle.rcover_laws.specs.History.{length_in, last_ask}
use Rattle.rcover_laws.specs.Line.{write_sections}
use Rattle.rcover_laws.specs.Moments.{Moment, moments}
use Rattle.rcover_laws.specs.Sections.{Covers, read_sections}
use Rattle.rcover_laws.specs.Told.{waits_first, waits_to_rise, waits_for_ask, stands}
use Rattle.rcover_laws.specs.Within.{numbers_of}
use Rattle.rcover_laws.specs.declared.wait_end.WaitEnd.{WaitEnd}
use Rattle.rcover_laws.proofs.lists.Different.{among_filter_map}
use Rattle.rcover_laws.proofs.told.EachWait.{each_wait_is_bounded}

none_is : {X : Type 0} {P : Type 0} (x : X) → None ≡ Some x → P
none_is x e = cc

some_is : {X : Type 0} (x y : X) → Some x ≡ Some y → x ≡ y
some_is x y e = cc

-- a claim is in the wait that is found for it
in_it : (es : List Event) (m : Moment) (x : Claimed) (k : Which) → wait_of es m x ≡ Some k → waits_in k m x ≡ true
in_it es m x k found = at (waits_first m x) (waits_to_rise m x) (waits_for_ask m x) refl refl refl found
  where
    is : (j : Which) → waits_in j m x ≡ true → Some j ≡ Some k → waits_in k m x ≡ true
    is j there e = subst (λ (i : Which). waits_in i m x ≡ true) (some_is j k e) there

    at : (f r a : Bool) → waits_first m x ≡ f → waits_to_rise m x ≡ r → waits_for_ask m x ≡ a
        → cond f (Some First) (cond r (Some Rise) (cond a (Some (Ask (last_ask es x.claim))) None)) ≡ Some k → waits_in k m x ≡ true
    at true r a p q s e = is First p e
    at false true a p q s e = is Rise q e
    at false false true p q s e = is (Ask (last_ask es x.claim)) s e
    at false false false p q s e = none_is k e

module _ (groups : ReadGroups) (seats cap : ℕ) (es : List Event) (accepted : AreAccepted (opening groups seats cap) es) where
  abbrev o : LockState
  o = opening groups seats cap

  -- the sections of a wait that a claim is in cover its moments
  covered : (k : Which) (x : Claimed) → Among x (after o es).claims → waits_in k (after o es).claims x ≡ true → Covers (sections_in k x (moments_of o es k x)) (moments_of o es k x)
  covered First x there waits = at x.claim.write_half refl
    where
      at : (b : Bool) → x.claim.write_half ≡ b → Covers (sections_in First x (moments_of o es First x)) (moments_of o es First x)
      at true is =
          subst (λ (c : Bool). Covers (cond c (write_sections x.claim (moments_of o es First x)) (read_sections x.claim (moments_of o es First x))) (moments_of o es First x)) (sym is)
          ((each_wait_is_bounded groups seats cap es [] accepted x there).first_write is waits).is_covered.covered
      at false is =
          subst (λ (c : Bool). Covers (cond c (write_sections x.claim (moments_of o es First x)) (read_sections x.claim (moments_of o es First x))) (moments_of o es First x)) (sym is)
          ((each_wait_is_bounded groups seats cap es [] accepted x there).first_read is waits).is_covered.covered
  covered Rise x there waits = ((each_wait_is_bounded groups seats cap es [] accepted x there).rise waits).is_covered.covered
  covered (Ask i) x there waits = ((each_wait_is_bounded groups seats cap es [] accepted x there).ask waits).is_covered.covered

  of_wait : (n : Moment) (x : Claimed) → Among x (after o es).claims → (p : Option Which) → wait_of es (after o es).claims x ≡ p → (w : WaitEnd) → ended_if es (moments o es) n x p ≡ Some w → IsCovered o es w
  of_wait n x there None found w is = none_is w is
  of_wait n x there (Some k) found w is = at (stands (waits_in k) x.claim n) is
    where
      reported : IsCovered o es (wait_end k x.claim (numbers_of (length_in es) (sections_in k x (moments_of o es k x))))
      reported =
          let waits = in_it es (after o es).claims x k found in
          record { at = x; among = there; seat = refl; stamp = refl; waits = waits; covered = covered k x there waits; numbers = refl }

      at : (b : Bool) → cond b None (Some (wait_end k x.claim (numbers_of (length_in es) (sections_in k x (moments_of o es k x))))) ≡ Some w → IsCovered o es w
      at true e = none_is w e
      at false e = subst (IsCovered o es) (some_is _ w e) reported

-- *What is reported of a wait that an event ends are the numbers of sections that cover it*
pub ended_waits_are_covered : EndedWaitsAreCovered
ended_waits_are_covered groups seats cap events event accepted w there =
    let o = opening groups seats cap in
    let now = (after o events).claims in
    let found = among_filter_map (λ x. ended_if events (moments o events) (next (after o events) event).claims x (wait_of events now x)) now w there in
    of_wait groups seats cap events accepted (next (after o events) event).claims found.0 found.1 (wait_of events now found.0) refl w found.2
