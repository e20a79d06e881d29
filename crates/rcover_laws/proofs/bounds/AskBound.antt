-- No ask goes above its bound.
use Rattle.std.proofs.Common.{◌≢◌, ◌≤◌, ℕ, ◌==◌, not, length, List, subst, ◌∙◌, arith}
use Rattle.std.proofs.lemmas.Bool.{and_from}
use Rattle.std.specs.List.{AllByRecursion}
use Rattle.std.specs.FinSet.{intersection}
use Rattle.rset.specs.Sets.{Set, meets}
use Rattle.rclaim.specs.declared.claim.Claim.{Claim}
use Rattle.rclaim.specs.declared.event.Event.{Event}
use Rattle.rmodel.specs.Reached.{IsReached}
use Rattle.rmodel.specs.State.{LockState}
use Rattle.rmodel.specs.Steps.{AreAccepted}
use Rattle.rmodel.proofs.ListFacts.{all_at}
use Rattle.rbound.specs.Bounds.{IsWithin, may_bar, ask_bound}
use Rattle.rbound.specs.Needs.{Needed}
use Rattle.rcover_laws.specs.Moments.{Moment, moments}
use Rattle.rcover_laws.specs.Sections.{ask_sections}
use Rattle.rcover_laws.specs.Waits.{AskWaits}
use Rattle.rcover_laws.specs.Within.{numbers_of}
use Rattle.rcover_laws.proofs.bounds.Knowing.{IsNeed, IsKnown, AreKnown, Passes, few}
use Rattle.rcover_laws.proofs.bounds.ReadBound.{other_seats}
use Rattle.rcover_laws.proofs.covers.AskCover.{IsTakenForAsk, are_ask_sections}
use Rattle.rcover_laws.proofs.lists.Found.{all_so}
use Rattle.rcover_laws.proofs.runs.Moments.{at_moments}
use Rattle.rcover_laws.proofs.states.AtRest.{Sat}
use Rattle.rcover_laws.proofs.states.Seats.{ask_elsewhere}

module _ (s : LockState) (es : List Event) (reached : IsReached s) (accepted : AreAccepted s es) (c : Claim) (part : Set) (waits : AllByRecursion (AskWaits c part) (moments s es))
    (ns : List Needed) (len number : Claim → ℕ) (known : AllByRecursion (AreKnown ns len number) (moments s es)) (need : Needed) (is : IsNeed len number c need) where
  abbrev ms : List Moment
  ms = moments s es

  bars_passes : (x : Claim) → IsTakenForAsk c part ms x → Passes (may_bar need.claim part) ns len x
  bars_passes x t =
      let n = subst (IsKnown ns len number) t.sat.is (all_at (AreKnown ns len number) ms t.moment known t.among t.sat.at t.sat.among) in
      let other = all_at (λ m. AskWaits c part m → Sat x m → x.seat ≢ c.seat) ms t.moment
      (at_moments (λ m. AskWaits c part m → Sat x m → x.seat ≢ c.seat) (λ u r. ask_elsewhere u r c part x) s es reached accepted) t.among (all_at (AskWaits c part) ms t.moment waits t.among) t.sat in
      record {
        need = n.need;
        among = n.among;
        passes = and_from (not (n.need.claim.seat == need.claim.seat)) (meets n.need.claim.reads (intersection part need.claim.writes)) (other_seats len number x c n.need need n.is is other)
            ((λ i. meets (n.is.reads i) (intersection part (is.writes i))) ∙ t.asked);
        lasts = n.is.lasts;
      }

  pub ask_within : IsWithin (numbers_of len (ask_sections c part ms)) (ask_bound ns need.claim part)
  ask_within =
      let facts = are_ask_sections c part s es reached accepted waits in
      let a = ask_sections c part ms in
      let short : length a.reads ≤ 1 = (let one = facts.one_read in omega arith) in
      let reads = few (may_bar need.claim part) ns len a.reads short (all_so (IsTakenForAsk c part ms) (Passes (may_bar need.claim part) ns len) bars_passes a.reads facts.each) in
      record {
        reads = reads.number;
        writes = omega arith;
        units = (let u = reads.units in omega arith);
      }
