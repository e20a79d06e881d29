-- Each wait that an event ends is of a seat that there is, and no number of its cover is above that of its bound.
use Rattle.std.proofs.Common.{◌≡◌, ◌<◌, ◌≤◌, ℕ, zero, suc, Bool, true, false, cond, List, [], ◌∷◌, ◌++◌, length, Option, Some, None, refl, sym, ap, subst, arith}
use Rattle.std.specs.List.{AllByRecursion, sum_by}
use Rattle.std.proofs.lemmas.List.Sums.{sum_by-cons}
use Rattle.std.proofs.lemmas.List.FromFn.{length-map-range_with_len}
use Rattle.rset.specs.Sets.{Set}
use Rattle.rexpand.specs.Groups.{ReadGroups}
use Rattle.rclaim.specs.declared.claim.Claim.{Claim}
use Rattle.rclaim.specs.declared.event.Event.{Event}
use Rattle.rclaim.specs.declared.event.Event.TheVariants.{Issue, Finish, Rise}
use Rattle.rclaim.specs.declared.event.Event.TheVariants as event
use Rattle.rmodel.specs.declared.claimed.Claimed.{Claimed}
use Rattle.rmodel.specs.State.{LockState, opening}
use Rattle.rmodel.specs.Steps.{next, after, AreAccepted}
use Rattle.rmodel.proofs.ListFacts.{Among, all_at, all_from}
use Rattle.rmodel.proofs.reaching.Histories.{sizes_after}
use Rattle.rmodel.proofs.reaching.Reached.{reached_after, reached_opening}
use Rattle.rmodel.proofs.settling.OneSettlement.{both_cases}
use Rattle.rbound.specs.Bounds.{Numbers, IsWithin, first_bound, rise_bound, ask_bound_of}
use Rattle.rbound.specs.TaskNeeds.{TaskNeeds, bound_of, bound_of_part}
use Rattle.rbound.specs.declared.which.Which.{Which}
use Rattle.rbound.specs.declared.which.Which.TheVariants as which
use Rattle.rcover_laws.specs.Ended.{waits_in, wait_of, sections_in, wait_end, ended_if, ended_by}
use Rattle.rcover_laws.specs.History.{history_needs, length_from, length_in, number_from, number_in, last_ask}
use Rattle.rcover_laws.specs.Line.{write_sections}
use Rattle.rcover_laws.specs.Moments.{Moment, moments}
use Rattle.rcover_laws.specs.Sections.{Sections, read_sections}
use Rattle.rcover_laws.specs.Told.{waits_first, waits_to_rise, waits_for_ask, wait_so_far, AreBounded}
use Rattle.rcover_laws.specs.Within.{numbers_of, needed_by}
use Rattle.rcover_laws.specs.declared.wait_end.WaitEnd.{WaitEnd}
use Rattle.rcover_laws.proofs.lists.Different.{among_filter_map}
use Rattle.rcover_laws.proofs.told.EachWait.{each_wait_is_bounded}
use Rattle.rcover_laws.proofs.told.Few.{waits_told}
use Rattle.rtrace_form.specs.Waits.{cover_of}
use Rattle.rtrace_form.proofs.facts.Choices.{some_none, some_is}
use Rattle.rtrace_form.proofs.waits.AskedSets.{asked_at}

-- ---- no length by the events so far is above the one by the whole history

length_grows : (es ds : List Event) (k : ℕ) (c : Claim) → length_from es k c ≤ length_from (es ++ ds) k c
length_grows [] ds k c = omega arith
length_grows (Issue seat r ∷ es) ds zero c = omega arith
length_grows (Issue seat r ∷ es) ds (suc k) c = length_grows es ds k c
length_grows (Finish seat ∷ es) ds k c = length_grows es ds k c
length_grows (Rise seat ∷ es) ds k c = length_grows es ds k c
length_grows (event.Ask seat part ∷ es) ds k c = length_grows es ds k c

sum_grows : (es ds : List Event) (cs : List Claim) → sum_by (length_in es) cs ≤ sum_by (length_in (es ++ ds)) cs
sum_grows es ds [] = omega arith
sum_grows es ds (c ∷ cs) = let one = length_grows es ds c.stamp c in let rest = sum_grows es ds cs in let few = sum_by-cons (length_in es) c cs in let many = sum_by-cons (length_in (es ++ ds)) c cs in omega (arith, one, rest, few, many)

within_grown : (es ds : List Event) (a : Sections) (bound : Numbers) → IsWithin (numbers_of (length_in (es ++ ds)) a) bound → IsWithin (numbers_of (length_in es) a) bound
within_grown es ds a bound h =
    let reads = sum_grows es ds a.reads in
    let writes = sum_grows es ds a.writes in
    let units = h.units in
    record { reads = h.reads; writes = h.writes; units = omega (arith, reads, writes, units) }

-- ---- which wait it is

-- the number of an ask, if a wait is that of one
number_of : Option Which → ℕ
number_of (Some (which.Ask number)) = number
number_of _ = 0

is_last : (a b d : Bool) (number k : ℕ) → cond a (Some which.First) (cond b (Some which.Rise) (cond d (Some (which.Ask number)) None)) ≡ Some (which.Ask k) → number ≡ k
unfolding number_of
is_last true b d number k is = cc
is_last false true d number k is = cc
is_last false false true number k is = ap number_of is
is_last false false false number k is = cc

module _ (groups : ReadGroups) (seats cap : ℕ) (es rest : List Event) (accepted : AreAccepted (opening groups seats cap) es) where
  abbrev o : LockState
  o = opening groups seats cap

  abbrev now : Moment
  now = (after o es).claims

  -- what the tasks need by the whole history
  abbrev needs : TaskNeeds
  needs = record { groups = groups; tasks = history_needs seats (es ++ rest) }

  many : length (history_needs seats (es ++ rest)) ≡ seats
  many = length-map-range_with_len (λ task. _) 0 seats

  module _ (x : Claimed) (there : Among x now) where
    abbrev number : ℕ
    number = number_in (es ++ rest) x.claim

    abbrev so_far : (Moment → Claimed → Bool) → List Moment
    so_far test = wait_so_far test x.claim (moments o es)

    bounded : AreBounded (needed_by groups seats (es ++ rest)) (length_in (es ++ rest)) (number_in (es ++ rest)) seats cap (moments o es) now x
    bounded = each_wait_is_bounded groups seats cap es rest accepted x there

    first_within : waits_first now x ≡ true → IsWithin (numbers_of (length_in es) (sections_in which.First x (so_far waits_first))) (first_bound (needed_by groups seats (es ++ rest)) seats cap x.claim.seat number)
    first_within on =
        let bound = first_bound (needed_by groups seats (es ++ rest)) seats cap x.claim.seat number in
        both_cases x.claim.write_half
        (λ write. subst (λ b. IsWithin (numbers_of (length_in es) (cond b (write_sections x.claim (so_far waits_first)) (read_sections x.claim (so_far waits_first)))) bound) (sym write)
        (within_grown es rest (write_sections x.claim (so_far waits_first)) bound (bounded.first_write write on).is_within))
        (λ read. subst (λ b. IsWithin (numbers_of (length_in es) (cond b (write_sections x.claim (so_far waits_first)) (read_sections x.claim (so_far waits_first)))) bound) (sym read)
        (within_grown es rest (read_sections x.claim (so_far waits_first)) bound (bounded.first_read read on).is_within))

    wait_within : (w : Which) → wait_of es now x ≡ Some w → IsWithin (numbers_of (length_in es) (sections_in w x (so_far (waits_in w)))) (bound_of needs cap x.claim.seat number w)
    wait_within which.First is =
        subst (λ n. IsWithin (numbers_of (length_in es) (sections_in which.First x (so_far waits_first))) (first_bound (needed_by groups seats (es ++ rest)) n cap x.claim.seat number)) (sym many)
        (first_within (waits_told es now x which.First is))
    wait_within which.Rise is =
        let a = sections_in which.Rise x (so_far waits_to_rise) in
        subst (λ n. IsWithin (numbers_of (length_in es) a) (rise_bound (needed_by groups seats (es ++ rest)) n cap x.claim.seat number)) (sym many)
        (within_grown es rest a (rise_bound (needed_by groups seats (es ++ rest)) seats cap x.claim.seat number) (bounded.rise (waits_told es now x which.Rise is)).is_within)
    wait_within (which.Ask k) is =
        let on = waits_told es now x (which.Ask k) is in
        let a = sections_in (which.Ask k) x (so_far waits_for_ask) in
        let same : last_ask es x.claim ≡ k = is_last (waits_first now x) (waits_to_rise now x) (waits_for_ask now x) (last_ask es x.claim) k is in
        let part = asked_at groups seats cap es rest accepted x there on in
        subst (λ n. IsWithin (numbers_of (length_in es) a) (bound_of needs cap x.claim.seat number (which.Ask n))) same
        (subst (λ (p : Option Set). IsWithin (numbers_of (length_in es) a) (bound_of_part (needed_by groups seats (es ++ rest)) x.claim.seat number p)) (sym part)
        (within_grown es rest a (ask_bound_of (needed_by groups seats (es ++ rest)) x.claim.seat number x.asked) (bounded.ask on).is_within))

  -- what is known of a wait that is over
  pub record IsGoodEnd (w : WaitEnd) : Type 0 where
    pub seated : w.seat < seats
    pub within : IsWithin (cover_of w) (bound_of needs cap w.seat (number_from (es ++ rest) w.stamp w.seat) w.which)

  from_wait : (n : Moment) (x : Claimed) → Among x now → (p : Option Which) → wait_of es now x ≡ p → (w : WaitEnd) → ended_if es (moments o es) n x p ≡ Some w → IsGoodEnd w
  from_wait n x there None told w is = absurd (some_none is)
  from_wait n x there (Some k) told w is =
      let seated = all_at (λ (y : Claimed). y.claim.seat < (after o es).seats) now x (reached_after o es (reached_opening groups seats cap) accepted).sound.seated there in
      let same : wait_end k x.claim (numbers_of (length_in es) (sections_in k x (so_far x there (waits_in k)))) ≡ w = goes_on _ _ w is in
      subst IsGoodEnd same (record { seated = subst (λ n. x.claim.seat < n) (sizes_after o es).seats seated; within = wait_within x there k told })
    where
      goes_on : (b : Bool) (v w : WaitEnd) → cond b None (Some v) ≡ Some w → v ≡ w
      goes_on true v w h = absurd (some_none h)
      goes_on false v w h = some_is h

  -- *Each wait that an event ends is within its bound*
  pub ends_are_good : (e : Event) → AllByRecursion IsGoodEnd (ended_by o es e)
  ends_are_good e =
      all_from IsGoodEnd (ended_by o es e) (λ w in_ended.
      let found = among_filter_map (λ x. ended_if es (moments o es) (next (after o es) e).claims x (wait_of es now x)) now w in_ended in
      from_wait (next (after o es) e).claims found.0 found.1 (wait_of es now found.0) refl w found.2)
