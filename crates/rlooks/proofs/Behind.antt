-- What a scribe has read on comes after what the feed was fed.
use Rattle.std.proofs.Common.{◌≡◌, ℕ, Bool, List, [], ◌++◌, drop, length, Some, sym, ap, subst, ◌∙◌, append_assoc}
use Rattle.std.proofs.Math.Seq.{drop-append_seam}
use Rattle.std.proofs.lemmas.List.{map-append, drop-map}
use mathlib.Core.List.{IsPrefix}
use Rattle.rclaim.specs.declared.event.Event.{Event}
use Rattle.rvalue.specs.Entries.{EntryFields}
use Rattle.rmodel.specs.Steps.{after, AreAccepted}
use Rattle.rmodel.proofs.reaching.Histories.{accepted_parts}
use Rattle.rstate.specs.Histories.{Beginning, first_of}
use Rattle.rstate.proofs.histories.Following.{accepted_lawful}
use Rattle.rstate.proofs.homes.Lists.{same_item}
use Rattle.rlock.specs.Known.{Site}
use Rattle.rguard.specs.Seats.{SeatOf, Goes}
use Rattle.rguard.specs.Scribes.{IsScribeOf, HasReadLawful, events_from}
use Rattle.rmon.specs.declared.rule.Opening.{Opening}
use Rattle.rmon.specs.Known.{Feeding, Watching}
use Rattle.rmon.specs.Opened.{opening_of}
use Rattle.rmon.proofs.Prefixes.{prefix_self, prefix_trans}
use Rattle.rlooks.specs.Workers.{events_in, opening_for, Feeds}

-- what was seen earlier has just the first events of what is seen later
pub events_begin : {E : Type 0} (seen later : List (EntryFields E)) → IsPrefix seen later → IsPrefix (events_in seen) (events_in later)
events_begin seen later p = (events_in p.0, sym (map-append (λ entry. entry.event) seen p.0) ∙ ap events_in p.1)

-- what was fed, and the events after it, are all events
pub fed_and_more : {E : Type 0} (later : List (EntryFields E)) (fed : List Event) → IsPrefix fed (events_in later) → fed ++ events_from (length fed) later ≡ events_in later
fed_and_more later fed p =
    ap (λ es. fed ++ es) (sym (drop-map (λ entry. entry.event) (length fed) later) ∙ ap (drop (length fed)) (sym p.1) ∙ drop-append_seam fed p.0) ∙ p.1

-- A round: the scribe of the lock has read on, and the events after what was fed are in `events`
module _ {V E : Type 0} (after_edit : V → E → V) (taken : V → E → Bool) (number : V → ℕ) (site : Site) (b : Beginning V) (scribe later : SeatOf V E) (feed : Feeding) (monitor : Watching)
    (h : Feeds after_edit taken number site b scribe feed monitor) (of : IsScribeOf site later) (goes : Goes scribe [] later) (lawful : HasReadLawful after_edit taken number later) where
  pub begun_still : IsPrefix feed.fed (events_in later.seen)
  begun_still = prefix_trans feed.fed (events_in scribe.seen) (events_in later.seen) h.fed (events_begin scribe.seen later.seen goes.seen)

  its_opening : later.opening ≡ Some b
  its_opening = goes.same.2 ∙ h.began

  -- what the worker keeps, of a feed that was fed a beginning of what the scribe has seen
  pub feeds_still : (feed2 : Feeding) (monitor2 : Watching) → feed2.feed ≡ feed.feed → feed2.opening ≡ feed.opening → IsPrefix feed2.fed (events_in later.seen) → monitor2.feed ≡ monitor.feed → monitor2.opening ≡ monitor.opening
      → Feeds after_edit taken number site b later feed2 monitor2
  feeds_still feed2 monitor2 same opening fed its its_o = record {
    of = of;
    began = its_opening;
    lawful = lawful;
    opened = opening ∙ h.opened;
    fed = fed;
    its_feed = its ∙ h.its_feed ∙ sym same;
    its_opening = its_o ∙ h.its_opening ∙ sym opening;
  }

  module _ (from : ℕ) (from_is : from ≡ length feed.fed) (events : List Event) (events_are : events ≡ events_from from later.seen) where
    pub fed_all : feed.fed ++ events ≡ events_in later.seen
    fed_all = ap (λ es. feed.fed ++ es) (events_are ∙ ap (λ n. events_from n later.seen) from_is) ∙ fed_and_more later.seen feed.fed begun_still

    pub fed_whole : IsPrefix (feed.fed ++ events) (events_in later.seen)
    fed_whole = subst (λ es. IsPrefix es (events_in later.seen)) (sym fed_all) (prefix_self (events_in later.seen))

    pub fed_part : (some : List Event) → IsPrefix some events → IsPrefix (feed.fed ++ some) (events_in later.seen)
    fed_part some p = (p.0, append_assoc feed.fed some p.0 ∙ ap (λ es. feed.fed ++ es) p.1 ∙ fed_all)

    -- they may come
    pub may_pump : (o : Opening) → feed.opening ≡ Some o → AreAccepted (after (opening_of o) feed.fed) events
    may_pump o opened =
        let same : opening_for b ≡ o = same_item (opening_for b) o (sym h.opened ∙ opened) in
        subst (λ (q : Opening). AreAccepted (after (opening_of q) feed.fed) events) same
        (accepted_parts (first_of b) feed.fed events
        (subst (AreAccepted (first_of b)) (sym fed_all) (accepted_lawful after_edit taken number b later.seen (lawful b its_opening)))).1
