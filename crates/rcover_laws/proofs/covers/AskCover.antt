-- Asks are covered.
use Rattle.std.proofs.Common.{◌≡◌, Bool, true, length, List, [], ◌∷◌, ◌++◌, filter, refl, sym, ap, subst, ◌∙◌, inl}
use Rattle.std.specs.List.{list_any, AllByRecursion}
use Rattle.std.specs.FinSet.{intersection}
use Rattle.std.specs.Option.{option_to_list}
use Rattle.rset.specs.Sets.{Set, meets}
use Rattle.rclaim.specs.declared.claim.Claim.{Claim}
use Rattle.rclaim.specs.declared.event.Event.{Event}
use Rattle.rmodel.specs.Claims.{conflicts_on}
use Rattle.rmodel.specs.Reached.{IsReached}
use Rattle.rmodel.specs.State.{LockState}
use Rattle.rmodel.specs.Steps.{next, AreAccepted}
use Rattle.rmodel.proofs.ListFacts.{Among, contrary, any_among}
use Rattle.rcover_laws.specs.Covers.{IsAskCovered}
use Rattle.rcover_laws.specs.Moments.{Moment, moments, later, holds_at}
use Rattle.rcover_laws.specs.Sections.{ask_sections}
use Rattle.rcover_laws.specs.Waits.{AskWaits}
use Rattle.rcover_laws.proofs.lists.Found.{all_both, all_so, not_empty}
use Rattle.rcover_laws.proofs.runs.Moments.{at_moments}
use Rattle.rcover_laws.proofs.runs.Taken.{taken, IsTaken}
use Rattle.rcover_laws.proofs.runs.Throughout.{Stops, IsHeldThroughout, IsEntitledAndHeld, held_throughout}
use Rattle.rcover_laws.proofs.states.AtRest.{Sat}
use Rattle.rcover_laws.proofs.states.Asking.{ask_entitled, ask_held, reads_asked}

abbrev pub always : Moment → Bool
always m = true

pub filter_always : (ms : List Moment) → filter always ms ≡ ms
filter_always [] = refl
filter_always (m ∷ ms) = ap (λ ns. m ∷ ns) (filter_always ms)

pub stops_never : (s : LockState) (es : List Event) → Stops always s es
stops_never s [] = tt
stops_never s (e ∷ es) = (λ now not_then. contrary true refl not_then, stops_never (next s e) es)

-- a claim that is taken for an ask: at some moment it is satisfied, and it reads what the asker asks to write
pub record IsTakenForAsk (c : Claim) (part : Set) (ms : List Moment) (x : Claim) : Type 0 where
  pub moment : Moment
  pub among : Among moment ms
  pub sat : Sat x moment
  pub asked : meets x.reads (intersection part c.writes) ≡ true

-- what is taken for an ask
pub record AreAskSections (c : Claim) (part : Set) (ms : List Moment) (reads : List Claim) : Type 0 where
  pub covered : AllByRecursion (λ m. list_any (λ d. holds_at d m) (reads ++ []) ≡ true) ms
  pub one_read : length reads ≡ 1
  pub each : AllByRecursion (IsTakenForAsk c part ms) reads

module _ (c : Claim) (part : Set) where
  abbrev IsOnPart : Claim → Type 0
  IsOnPart d = conflicts_on d c part ≡ true

  pub are_ask_sections : (s : LockState) (es : List Event) → IsReached s → AreAccepted s es → AllByRecursion (AskWaits c part) (moments s es) → AreAskSections c part (moments s es) (ask_sections c part (moments s es)).reads
  are_ask_sections s es reached accepted waits =
      let ms = moments s es in
      let each = all_both (AskWaits c part) (λ m. AskWaits c part m → IsEntitledAndHeld IsOnPart c m) (λ m. always m ≡ true → IsEntitledAndHeld IsOnPart c m) (λ m w f. λ on. f w) ms waits
      (at_moments (λ m. AskWaits c part m → IsEntitledAndHeld IsOnPart c m) (λ t r w. record { entitled = ask_entitled t r c part w; held = ask_held t r c part w }) s es reached accepted) in
      let held = subst (IsHeldThroughout IsOnPart c) (filter_always ms)
      (held_throughout IsOnPart c always s es reached accepted each (stops_never s es) (λ none. not_empty ms s.claims (inl refl) (sym (filter_always ms) ∙ none))) in
      let t : IsTaken (λ d. conflicts_on d c part) s.claims (later s es) = taken (λ d. conflicts_on d c part) s.claims (later s es) held.by held.right held.sat in
      subst (AreAskSections c part ms) (ap option_to_list (sym t.is)) (record {
        covered = all_so (λ m. holds_at t.one m ≡ true) (λ m. list_any (λ d. holds_at d m) (t.one ∷ []) ≡ true) (λ m h. any_among (λ d. holds_at d m) (t.one ∷ []) t.one (inl refl) h) ms t.holds;
        one_read = refl;
        each = (record { moment = s.claims; among = inl refl; sat = t.first; asked = reads_asked s reached c part waits.0 t.one t.first t.passes }, tt);
      })

  pub ask_covered : (s : LockState) (es : List Event) → IsReached s → AreAccepted s es → AllByRecursion (AskWaits c part) (moments s es) → IsAskCovered c part (moments s es)
  ask_covered s es reached accepted waits =
      let facts = are_ask_sections s es reached accepted waits in
      record {
        covered = facts.covered;
        one_read = facts.one_read;
        reads_asked = all_so (IsTakenForAsk c part (moments s es)) (λ x. meets x.reads (intersection part c.writes) ≡ true) (λ x t. t.asked) (ask_sections c part (moments s es)).reads facts.each;
      }
