-- How a watch ends.
use Rattle.std.proofs.Common.{◌≡◌, ℕ, Bool, List, [], ◌∷◌, ◌++◌, length, Some, sym, ap, subst, ◌∙◌, arith}
use Rattle.std.specs.Prelude.{slice_get}
use Rattle.std.proofs.Math.Seq.{get_or-append_seam}
use Rattle.std.proofs.lemmas.List.{length-append}
use Rattle.std.proofs.lemmas.Option.{slice_get-get_or}
use mathlib.Core.List.{IsPrefix}
use Rattle.rclaim.specs.declared.event.Event.{Event}
use Rattle.rvalue.specs.Entries.{EntryFields}
use Rattle.rmodel.specs.State.{LockState}
use Rattle.rmodel.specs.Steps.{after}
use Rattle.rstate.specs.Histories.{Beginning}
use Rattle.rstate.proofs.histories.Following.{accepted_lawful}
use Rattle.rstate.proofs.homes.Lists.{same_item}
use Rattle.rlock.specs.Known.{Site}
use Rattle.rguard.specs.Closing.{IsClosedBy}
use Rattle.rguard.specs.Scribes.{events_from}
use Rattle.rguard.specs.Seats.{SeatOf}
use Rattle.rmon.specs.declared.look.Look.{Look}
use Rattle.rmon.specs.Looks.{look_of}
use Rattle.rmon.proofs.Prefixes.{prefix_trans, prefix_whole}
use Rattle.rlooks.specs.declared.lookout.TheConstants.{ROUNDS}
use Rattle.rlooks.specs.declared.watch.Watch.{Watch}
use Rattle.rlooks.specs.Looks.{AreInOrder, AreLooksAt}
use Rattle.rlooks.specs.Watches.{Watches, MayEnd}
use Rattle.rlooks.specs.Workers.{events_in, opening_for}
use Rattle.rlooks.proofs.Behind.{events_begin, fed_and_more}
use Rattle.rlooks.proofs.Order.{in_order_with}

-- what stands after a list
pub at_end : {A : Type 0} (xs : List A) (x : A) (n : ℕ) → length xs ≡ n → slice_get (xs ++ x ∷ []) n ≡ Some x
at_end xs x n is =
    subst (λ (k : ℕ). slice_get (xs ++ x ∷ []) k ≡ Some x) is
    (slice_get-get_or (xs ++ x ∷ []) (length xs) x (omega (arith, length-append xs (x ∷ []))) ∙ ap (λ y. Some y) (get_or-append_seam xs x [] x))

-- what was fed, and the events of the entries after it, are all events
pub all_fed : {E : Type 0} (entries : List (EntryFields E)) (fed : List Event) → IsPrefix fed (events_in entries) → (from : ℕ) → from ≡ length fed → (events : List Event) → events ≡ events_from from entries → fed ++ events ≡ events_in entries
all_fed entries fed p from from_is events events_are = ap (λ (es : List Event). fed ++ es) (events_are ∙ ap (λ n. events_from n entries) from_is) ∙ fed_and_more entries fed p

-- The looks so far are in order, and the last one counts the events of a list that the monitor has seen: then these are all that it has seen
pub all_looks : (start : LockState) (seen later all : List Event) → IsPrefix seen later → IsPrefix all seen → (looks : List Look) → AreInOrder start seen looks → length looks ≡ ROUNDS
    → (look : Look) → look ≡ look_of (after start later) (length later) → look.events ≡ length all → AreLooksAt start all (looks ++ look ∷ [])
all_looks start seen later all begins first looks in_order count look is has_all =
    let counts : look.events ≡ length later = ap (λ (l : Look). l.events) is in
    let whole : all ≡ later = prefix_whole all later (prefix_trans all seen later first begins) (omega (arith, counts, has_all)) in
    let order : AreInOrder start later (looks ++ look ∷ []) = in_order_with start seen later begins looks in_order look is in
    subst (λ (es : List Event). AreLooksAt start es (looks ++ look ∷ [])) (sym whole)
    (record {
      count = omega (arith, length-append looks (look ∷ []), count);
      each = order.each;
      rising = order.rising;
      last = λ found found_is. ap (λ (l : Look). l.events) (same_item found look (sym found_is ∙ at_end looks look ROUNDS count)) ∙ counts;
    })

-- once the runtime is closed
module _ {V E : Type 0} (after_edit : V → E → V) (taken : V → E → Bool) (number : V → ℕ) (site : Site) (b : Beginning V) (scribe : SeatOf V E) (w : Watch) where
  pub may_end : Watches after_edit taken number ROUNDS site b scribe w → (entries : List (EntryFields E)) (values : List V) → IsClosedBy after_edit taken number entries values scribe → MayEnd (events_in entries) w
  may_end is entries values closed = record {
    began = opening_for b;
    opened = is.feeds.opened;
    accepted = accepted_lawful after_edit taken number b entries (closed.left b is.feeds.began).lawful;
    fed = prefix_trans w.feed.fed (events_in scribe.seen) (events_in entries) is.feeds.fed (events_begin scribe.seen entries closed.begins);
    first_feed = is.feeds.its_feed;
    first_opening = is.feeds.its_opening;
    second_feed = is.its_feed;
    second_opening = is.its_opening;
    first = is.first;
    second = is.second;
  }
