-- A report that may be written keeps the promise.
use Rattle.std.proofs.Common.{◌≡◌, true, false, List, [], ◌∷◌, ◌++◌, length, map, refl, sym, ap, subst, ◌∙◌, append_assoc}
use Rattle.std.proofs.lemmas.List.{map-append}
use Rattle.std.specs.List.{list_any}
use Rattle.rbound.specs.Bounds.{Numbers}
use Rattle.rclaim.specs.declared.event.Event.{Event}
use Rattle.rcover_laws.specs.History.{length_in, number_in}
use Rattle.rcover_laws.specs.Moments.{moments}
use Rattle.rcover_laws.specs.Told.{AreBounded}
use Rattle.rcover_laws.specs.Within.{needed_by}
use Rattle.rcover_laws.specs.declared.wait_end.WaitEnd.{WaitEnd}
use Rattle.rcover_laws.proofs.told.EachWait.{each_wait_is_bounded}
use Rattle.rmodel.specs.declared.claimed.Claimed.{Claimed}
use Rattle.rmodel.specs.Laws.{IsHeld, SettlesOnlyTo}
use Rattle.rmodel.specs.Settling.{settled}
use Rattle.rmodel.specs.State.{LockState}
use Rattle.rmodel.specs.Steps.{AreAccepted, Comes, changed, given, after}
use Rattle.rmodel.specs.WellFormed.{Among}
use Rattle.rmodel.proofs.ListFacts.{all_at, all_from}
use Rattle.rmodel.proofs.theorems.LawProofs.{one_settlement_a_step, writes_are_exclusive, somebody_holds_a_step}
use Rattle.rvalue.specs.InTurn.{AllInTurn}
use Rattle.rtrace_form.specs.Heads.{Head, read_groups, opening_of}
use Rattle.rtrace_form.specs.Lines.{Line, Happens, Does}
use Rattle.rtrace_form.specs.Reports.{Entry, Report, IsLawful, IsRightEntry, EachChangeIsTold, lock_after, wait_line, wait_lines}
use Rattle.rtrace_form.specs.Waits.{events_of, ended_in, bound_in}
use Rattle.rtrace_form.specs.Written.{MayBeWritten}
use Rattle.rtrace_form.proofs.lists.ToldWaits as told_waits
use Rattle.rtrace_form.proofs.waits.GoodWaits.{IsGoodWait, good_waits}
use Rattle.rtrace_form.proofs.written.Reaching.{lock-push, after_is, accepted_from}
use Rattle.rtrace_form.proofs.written.Told as told
use Rattle.rnlp_cli.specs.Headline.{IsByTheRules, HasItsChanges, IsGranted, IsApart, tells_change, AreCovered, IsPrintedWithin, HasItsWaits, IsKept}
use Rattle.rnlp_cli.proofs.Ledgers.{all_told}

-- ---- parts of a history

front_from : (head : Head) (before xs ys : List Entry) → AllInTurn (IsRightEntry head) before (xs ++ ys) → AllInTurn (IsRightEntry head) before xs
front_from head before [] ys all = tt
front_from head before (x ∷ xs) ys all = (all.0, front_from head (before ++ x ∷ []) xs ys all.1)

-- the first entries of a lawful history are one
front : (head : Head) (entries earlier rest : List Entry) → IsLawful head entries → entries ≡ earlier ++ rest → IsLawful head earlier
front head entries earlier rest lawful is = front_from head [] earlier rest (subst (IsLawful head) is lawful)

right_from : (head : Head) (before xs : List Entry) (y : Entry) (ys : List Entry) → AllInTurn (IsRightEntry head) before (xs ++ y ∷ ys) → IsRightEntry head (before ++ xs) y
right_from head before [] y ys all = subst (λ (zs : List Entry). IsRightEntry head zs y) (sym (append-none before)) all.0
  where
    append-none : (xs : List Entry) → xs ++ [] ≡ xs
    append-none [] = refl
    append-none (x ∷ xs) = ap (λ (zs : List Entry). x ∷ zs) (append-none xs)
right_from head before (x ∷ xs) y ys all = subst (λ (zs : List Entry). IsRightEntry head zs y) (append_assoc before (x ∷ []) xs) (right_from head (before ++ x ∷ []) xs y ys all.1)

-- ---- lines

none_tells : (bounds : WaitEnd → Numbers) (ws : List WaitEnd) → list_any tells_change (map (wait_line bounds) ws) ≡ false
none_tells bounds [] = refl
none_tells bounds (w ∷ ws) = none_tells bounds ws

-- after its event and its acts an entry has the lines of its changes, and then those of waits
changes_told : (head : Head) (entries earlier : List Entry) (entry : Entry) → EachChangeIsTold (lock_after head earlier) entry.event → HasItsChanges head entries earlier entry
unfolding wait_lines
changes_told head entries earlier entry each =
    let bounds = bound_in head entries in
    let waits = wait_lines true bounds head earlier entry.event in
    record {
      behind = waits;
      none = none_tells bounds (ended_in head earlier entry.event);
      are = ap (λ (lines : List Line). Happens entry.event ∷ (map Does entry.acts ++ (lines ++ waits))) each;
    }

module _ (r : Report) (may : MayBeWritten r) where
  -- an entry may come after those before it
  right : (earlier : List Entry) (entry : Entry) (rest : List Entry) → r.entries ≡ earlier ++ entry ∷ rest → IsRightEntry r.head earlier entry
  right earlier entry rest is = right_from r.head [] earlier entry rest (subst (IsLawful r.head) is may.lawful)

  accepted : (earlier rest : List Entry) → r.entries ≡ earlier ++ rest → AreAccepted (opening_of r.head) (events_of earlier)
  accepted earlier rest is = accepted_from r.head [] earlier (front r.head r.entries earlier rest may.lawful is)

  state_is : (earlier : List Entry) → after (opening_of r.head) (events_of earlier) ≡ lock_after r.head earlier
  state_is earlier = after_is (opening_of r.head) (events_of earlier)

  -- ---- what is held

  by_the_rules : (earlier : List Entry) (entry : Entry) (rest : List Entry) → r.entries ≡ earlier ++ entry ∷ rest
      → IsByTheRules (lock_after r.head earlier) entry.event (lock_after r.head (earlier ++ entry ∷ []))
  by_the_rules earlier entry rest is =
      let s = lock_after r.head earlier in
      let e = entry.event in
      let comes = (right earlier entry rest is).comes in
      let one =
      subst (λ (t : LockState). Comes t e → SettlesOnlyTo (changed t e).claims (settled (changed t e).claims)) (state_is earlier)
      (one_settlement_a_step (read_groups r.head) (length r.head.tasks) r.head.cap (events_of earlier) e (accepted earlier (entry ∷ rest) is)) comes in
      record {
        steps = record { accepted = comes.accepted; settled_to = settled (changed s e).claims; settles = one.settles; others = lock-push r.head earlier entry };
        only = λ u steps. steps.others ∙ ap (λ (xs : List Claimed). record (changed s e) { claims = given xs }) (one.only steps.settled_to steps.settles) ∙ sym (lock-push r.head earlier entry);
      }

  granted : (earlier : List Entry) (entry : Entry) (rest : List Entry) → r.entries ≡ earlier ++ entry ∷ rest → IsGranted r.head r.entries earlier entry
  granted earlier entry rest is = record {
    rules = by_the_rules earlier entry rest is;
    told =
        changes_told r.head r.entries earlier entry
        (told.each_told r.head earlier entry (front r.head r.entries (earlier ++ entry ∷ []) rest may.lawful (is ∙ sym (append_assoc earlier (entry ∷ []) rest))));
  }

  apart : (earlier rest : List Entry) → r.entries ≡ earlier ++ rest → IsApart (lock_after r.head earlier)
  apart earlier rest is =
      subst IsApart (state_is earlier) (writes_are_exclusive (read_groups r.head) (length r.head.tasks) r.head.cap (events_of earlier) (accepted earlier rest is))

  something : (earlier rest : List Entry) → r.entries ≡ earlier ++ rest → IsHeld (lock_after r.head earlier)
  something earlier rest is =
      subst IsHeld (state_is earlier) (somebody_holds_a_step (read_groups r.head) (length r.head.tasks) r.head.cap (events_of earlier) (accepted earlier rest is))

  -- ---- waits

  -- after the first entries each wait is covered within its bound by what these events need
  abbrev covered_by : List Event → List Entry → LockState → Type 0
  covered_by es earlier s =
      (x : Claimed) → Among x s.claims
      → AreBounded (needed_by (read_groups r.head) (length r.head.tasks) es) (length_in es) (number_in es) (length r.head.tasks) r.head.cap (moments (opening_of r.head) (events_of earlier)) s.claims x

  covered : (earlier rest : List Entry) → r.entries ≡ earlier ++ rest → AreCovered r.head r.entries earlier
  covered earlier rest is =
      let all : events_of earlier ++ events_of rest ≡ events_of r.entries = sym (map-append (λ (entry : Entry). entry.event) earlier rest) ∙ ap events_of (sym is) in
      subst (covered_by (events_of r.entries) earlier) (state_is earlier)
      (subst (λ (es : List Event). covered_by es earlier (after (opening_of r.head) (events_of earlier))) all
      (each_wait_is_bounded (read_groups r.head) (length r.head.tasks) r.head.cap (events_of earlier) (events_of rest) (accepted earlier rest is)))

  waits : (earlier : List Entry) (entry : Entry) (rest : List Entry) → r.entries ≡ earlier ++ entry ∷ rest → HasItsWaits r.head r.entries earlier entry
  waits earlier entry rest is =
      let ended = ended_in r.head earlier entry.event in
      let good = good_waits r.head r.entries may.lawful may.cap_low may.cap_high earlier entry rest (sym is) in
      record {
        told = told_waits.each_told (bound_in r.head r.entries) r.head earlier entry;
        within = all_from (IsPrintedWithin r.head r.entries) ended (λ (w : WaitEnd) there. (all_at (IsGoodWait r.head r.entries) ended w good there).within);
      }

  pub kept : IsKept r
  kept = record { lawful = may.lawful; granted = granted; apart = apart; something = something; covered = covered; waits = waits; ledgers = all_told r }
