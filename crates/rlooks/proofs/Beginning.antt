-- A watch that begins as its lock did.
use Rattle.std.proofs.Common.{◌≡◌, ℕ, Bool, List, length, refl, sym, ap, subst, ◌∙◌}
use mathlib.Core.List.{IsPrefix}
use Rattle.rclaim.specs.declared.event.Event.{Event}
use Rattle.rlock.specs.Known.{Site, newcomer}
use Rattle.rvalue.specs.Entries.{EntryFields}
use Rattle.rstate.specs.Contents.{Contents}
use Rattle.rstate.specs.Histories.{Beginning, IsLawfulFrom}
use Rattle.rguard.specs.Seats.{SeatOf}
use Rattle.rguard.specs.Scribes.{IsScribeOf}
use Rattle.rmon.specs.Known.{Feeding, Watching, begun}
use Rattle.rmon.specs.Known.{newcomer as new_monitor}
use Rattle.rlooks.specs.declared.watch.Watch.{Watch}
use Rattle.rlooks.specs.Lookouts.{Looking}
use Rattle.rlooks.specs.Watches.{IsNew, Watches}
use Rattle.rlooks.specs.Workers.{Feeds, opening_for, events_in}

module _ {V E : Type 0} (after_edit : V → E → V) (taken : V → E → Bool) (number : V → ℕ) (site : Site) (scribe : SeatOf V E) (b : Beginning V) (n : ℕ) (state : Contents V E) (of : IsScribeOf site scribe)
    (scribe_is : scribe ≡ newcomer site.gate n b state) where
  pub feeds_at_first : (feed : Feeding) (m : Watching) → feed ≡ begun feed.feed (opening_for b) → m ≡ new_monitor feed.feed (opening_for b) → Feeds after_edit taken number site b scribe feed m
  feeds_at_first feed m feed_is m_is = record {
    of = of;
    began = ap (λ (s : SeatOf V E). s.opening) scribe_is;
    lawful = λ d is. subst (λ (entries : List (EntryFields E)). IsLawfulFrom after_edit taken number d entries) (sym (ap (λ (s : SeatOf V E). s.seen) scribe_is)) tt;
    opened = ap (λ (f : Feeding). f.opening) feed_is;
    fed = subst (λ (es : List Event). IsPrefix es (events_in scribe.seen)) (sym (ap (λ (f : Feeding). f.fed) feed_is)) (events_in scribe.seen, refl);
    its_feed = ap (λ (w : Watching). w.feed) m_is;
    its_opening = ap (λ (w : Watching). w.opening) m_is ∙ sym (ap (λ (f : Feeding). f.opening) feed_is);
  }

  pub watches_at_first : (w : Watch) → IsNew (opening_for b) w → Watches after_edit taken number 0 site b scribe w
  watches_at_first w new = record {
    feeds = feeds_at_first w.feed w.first.monitor new.feed (ap (λ (l : Looking). l.monitor) new.first);
    its_feed = ap (λ (l : Looking). l.monitor.feed) new.second;
    its_opening = ap (λ (l : Looking). l.monitor.opening) new.second ∙ sym (ap (λ (f : Feeding). f.opening) new.feed);
    first = ap (λ (l : Looking). length l.looks) new.first;
    second = ap (λ (l : Looking). length l.looks) new.second;
  }
