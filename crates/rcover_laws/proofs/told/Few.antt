-- The sections of a wait are few.
use Rattle.std.proofs.Common.{◌≡◌, ℕ, ◌+◌, ◌-◌, ◌≤◌, Bool, true, false, cond, Option, Some, None, List, [], ◌++◌, refl, sym, subst, arith}
use Rattle.std.specs.List.{list_any, AllByRecursion}
use Rattle.rset.specs.Sets.{Set}
use Rattle.rset.specs.declared.TheConstants.{SEATS}
use Rattle.rbound.specs.Groups.{ReadGroups}
use Rattle.rclaim.specs.declared.claim.Claim.{Claim}
use Rattle.rclaim.specs.declared.event.Event.{Event}
use Rattle.rmodel.specs.declared.claimed.Claimed.{Claimed}
use Rattle.rmodel.specs.State.{opening}
use Rattle.rmodel.specs.Steps.{after, AreAccepted}
use Rattle.rmodel.proofs.ListFacts.{Among, all_from}
use Rattle.rmodel.proofs.settling.OneSettlement.{both_cases}
use Rattle.rbound.specs.Bounds.{Numbers, IsWithin, one_if, writes_of, reads_of, none_beside, reads_there, write_bound, read_bound, first_bound, rise_bound, ask_bound_of, bound_of_first, bound_of_rise, bound_of_ask}
use Rattle.rbound.specs.Needs.{Needed, first_need, write_need}
use Rattle.rbound.specs.declared.which.Which.{Which}
use Rattle.rbound.specs.declared.which.Which.TheVariants.{First, Rise, Ask}
use Rattle.rcover_laws.specs.Ended.{wait_of, waits_in, sections_in}
use Rattle.rcover_laws.specs.Lists.{AreFew, AreAtMost}
use Rattle.rcover_laws.specs.Moments.{Moment, moments}
use Rattle.rcover_laws.specs.Sections.{Sections, read_sections, ask_sections}
use Rattle.rbound.specs.Zones.{zone_of}
use Rattle.rcover_laws.specs.History.{length_in, number_in, last_ask}
use Rattle.rcover_laws.specs.Line.{write_sections}
use Rattle.rcover_laws.specs.Told.{waits_first, waits_to_rise, waits_for_ask, wait_so_far, AreBounded}
use Rattle.rcover_laws.specs.Within.{numbers_of, needed_by}
use Rattle.rcover_laws.proofs.told.EachWait.{each_wait_is_bounded}

-- numbers of sections that are not above this
record IsSmall (top : ℕ) (n : Numbers) : Type 0 where
  reads : n.reads ≤ top
  writes : n.writes ≤ top

one_at_most : (b : Bool) → one_if b ≤ 1
one_at_most true = omega arith
one_at_most false = omega arith

module _ (ns : List Needed) (tasks cap : ℕ) (some : 1 ≤ cap) where
  write_small : (c : Claim) → IsSmall cap (write_bound ns tasks cap c)
  write_small c = record { reads = reads (zone_of ns c.places); writes = let w = writes (zone_of ns c.places) in omega arith }
    where
      writes : (zone : Set) → writes_of ns tasks cap c.seat zone ≤ cap - 1
      writes zone = omega arith

      at : (a b : Bool) (w : ℕ) → w ≤ cap - 1 → cond a (cond b w (w + 1)) 0 ≤ cap
      at true true w h = omega arith
      at true false w h = omega arith
      at false b w h = omega arith

      reads : (zone : Set) → reads_of ns tasks cap c.seat zone ≤ cap
      reads zone = at (list_any (reads_there c.seat zone) ns) (none_beside ns tasks cap c.seat zone) (writes_of ns tasks cap c.seat zone) (writes zone)

  read_small : (c : Claim) → IsSmall cap (read_bound ns c)
  read_small c = record { reads = omega (arith, one_at_most); writes = omega (arith, one_at_most) }

  first_small : (o : Option Needed) → IsSmall cap (bound_of_first ns tasks cap o)
  first_small None = record { reads = omega arith; writes = omega arith }
  first_small (Some n) = at n.claim.write_half
    where
      at : (b : Bool) → IsSmall cap (cond b (write_bound ns tasks cap n.claim) (read_bound ns n.claim))
      at true = write_small n.claim
      at false = read_small n.claim

  rise_small : (o : Option Needed) → IsSmall cap (bound_of_rise ns tasks cap o)
  rise_small None = record { reads = omega arith; writes = omega arith }
  rise_small (Some n) = write_small n.claim

  ask_small : (part : Set) (o : Option Needed) → IsSmall cap (bound_of_ask ns part o)
  ask_small part None = record { reads = omega arith; writes = omega arith }
  ask_small part (Some n) = record { reads = omega (arith, one_at_most); writes = omega arith }

few_from : (len : Claim → ℕ) (a : Sections) (bound : Numbers) (cap : ℕ) → IsWithin (numbers_of len a) bound → IsSmall cap bound → AreAtMost cap a
few_from len a bound cap within small =
    let r = within.reads in let w = within.writes in let sr = small.reads in let sw = small.writes in
    record { reads = omega arith; writes = omega arith }

are_few : (cap : ℕ) (a : Sections) → cap ≤ SEATS → AreAtMost cap a → AreFew a
are_few cap a small few = let r = few.reads in let w = few.writes in record { reads = omega arith; writes = omega arith }

-- the test that goes with a wait
Stands : Bool → Bool → Bool → Which → Type 0
Stands first rise ask First = first ≡ true
Stands first rise ask Rise = rise ≡ true
Stands first rise ask (Ask number) = ask ≡ true

told_by : (a b d : Bool) (number : ℕ) (w : Which) → cond a (Some First) (cond b (Some Rise) (cond d (Some (Ask number)) None)) ≡ Some w → Stands a b d w
unfolding Stands
told_by true b d number First is = refl
told_by true b d number Rise is = cc
told_by true b d number (Ask k) is = cc
told_by false true d number First is = cc
told_by false true d number Rise is = refl
told_by false true d number (Ask k) is = cc
told_by false false true number First is = cc
told_by false false true number Rise is = cc
told_by false false true number (Ask k) is = refl
told_by false false false number First is = cc
told_by false false false number Rise is = cc
told_by false false false number (Ask k) is = cc

-- a wait that is reported is one that the claim is in
pub waits_told : (es : List Event) (m : Moment) (x : Claimed) (w : Which) → wait_of es m x ≡ Some w → waits_in w m x ≡ true
unfolding Stands
waits_told es m x First is = told_by (waits_first m x) (waits_to_rise m x) (waits_for_ask m x) (last_ask es x.claim) First is
waits_told es m x Rise is = told_by (waits_first m x) (waits_to_rise m x) (waits_for_ask m x) (last_ask es x.claim) Rise is
waits_told es m x (Ask k) is = told_by (waits_first m x) (waits_to_rise m x) (waits_for_ask m x) (last_ask es x.claim) (Ask k) is

module _ (groups : ReadGroups) (seats cap : ℕ) (events : List Event) (some : 1 ≤ cap) (accepted : AreAccepted (opening groups seats cap) events)
    (x : Claimed) (there : Among x (after (opening groups seats cap) events).claims) where
  abbrev now : Moment
  now = (after (opening groups seats cap) events).claims

  abbrev run : (Moment → Claimed → Bool) → List Moment
  run test = wait_so_far test x.claim (moments (opening groups seats cap) events)

  abbrev ns : List Needed
  ns = needed_by groups seats (events ++ [])

  abbrev number : ℕ
  number = number_in (events ++ []) x.claim

  abbrev bounded : AreBounded (needed_by groups seats (events ++ [])) (length_in (events ++ [])) (number_in (events ++ [])) seats cap (moments (opening groups seats cap) events) now x
  bounded = each_wait_is_bounded groups seats cap events [] accepted x there

  few_first : waits_first now x ≡ true → AreAtMost cap (cond x.claim.write_half (write_sections x.claim (run waits_first)) (read_sections x.claim (run waits_first)))
  few_first h =
      both_cases x.claim.write_half
      (λ write.
      subst (λ b. AreAtMost cap (cond b (write_sections x.claim (run waits_first)) (read_sections x.claim (run waits_first)))) (sym write)
      (few_from (length_in (events ++ [])) (write_sections x.claim (run waits_first)) (first_bound ns seats cap x.claim.seat number) cap (bounded.first_write write h).is_within (first_small ns seats cap some (first_need ns x.claim.seat number))))
      (λ read.
      subst (λ b. AreAtMost cap (cond b (write_sections x.claim (run waits_first)) (read_sections x.claim (run waits_first)))) (sym read)
      (few_from (length_in (events ++ [])) (read_sections x.claim (run waits_first)) (first_bound ns seats cap x.claim.seat number) cap (bounded.first_read read h).is_within (first_small ns seats cap some (first_need ns x.claim.seat number))))

  pub at_most : (w : Which) → waits_in w now x ≡ true → AreAtMost cap (sections_in w x (wait_so_far (waits_in w) x.claim (moments (opening groups seats cap) events)))
  at_most First on = few_first on
  at_most Rise on =
      few_from (length_in (events ++ [])) (write_sections x.claim (run waits_to_rise)) (rise_bound ns seats cap x.claim.seat number) cap (bounded.rise on).is_within
      (rise_small ns seats cap some (write_need ns x.claim.seat number))
  at_most (Ask k) on =
      few_from (length_in (events ++ [])) (ask_sections x.claim x.asked (run waits_for_ask)) (ask_bound_of ns x.claim.seat number x.asked) cap (bounded.ask on).is_within
      (ask_small ns seats cap some x.asked (write_need ns x.claim.seat number))

pub all_few : (groups : ReadGroups) (seats cap : ℕ) (events : List Event) → 1 ≤ cap → cap ≤ SEATS → AreAccepted (opening groups seats cap) events
    → (m : Moment) → (after (opening groups seats cap) events).claims ≡ m → (ms : List Moment) → moments (opening groups seats cap) events ≡ ms
    → AllByRecursion (λ x. (w : Which) → wait_of events m x ≡ Some w → AreFew (sections_in w x (wait_so_far (waits_in w) x.claim ms))) m
all_few groups seats cap events some small accepted m is ms are =
    subst (λ (p : Moment × List Moment). AllByRecursion (λ x. (w : Which) → wait_of events p.0 x ≡ Some w → AreFew (sections_in w x (wait_so_far (waits_in w) x.claim p.1))) p.0) (λ i. (is i, are i))
    (all_from (λ x. (w : Which) → wait_of events (after (opening groups seats cap) events).claims x ≡ Some w → AreFew (sections_in w x (wait_so_far (waits_in w) x.claim (moments (opening groups seats cap) events))))
    (after (opening groups seats cap) events).claims (λ x there w is. are_few cap _ small (at_most groups seats cap events some accepted x there w (waits_told events (after (opening groups seats cap) events).claims x w is))))
