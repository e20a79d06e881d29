-- A feed and its monitor that began as a lock did.
use Rattle.std.proofs.Common.{◌≡◌, ℕ, Bool, List, refl, sym, ap, subst, ◌∙◌}
use mathlib.Core.List.{IsPrefix}
use Rattle.rclaim.specs.declared.event.Event.{Event}
use Rattle.rlock.specs.Known.{Site, newcomer}
use Rattle.rvalue.specs.Entries.{EntryFields}
use Rattle.rstate.specs.Contents.{Contents}
use Rattle.rstate.specs.Histories.{Beginning, IsLawfulFrom}
use Rattle.rguard.specs.Seats.{SeatOf}
use Rattle.rguard.specs.Scribes.{IsScribeOf}
use Rattle.rmon.specs.Known.{Feeding, Watching, begun}
use Rattle.rmon.specs.Known.{newcomer as new_monitor}
use Rattle.rlooks.specs.Workers.{Feeds, opening_for, events_in}

module _ {V E : Type 0} (after_edit : V → E → V) (taken : V → E → Bool) (number : V → ℕ) where
  pub feeds_at_first : (site : Site) (scribe : SeatOf V E) (b : Beginning V) (n : ℕ) (state : Contents V E) (feed : Feeding) (m : Watching) → IsScribeOf site scribe → scribe ≡ newcomer site.gate n b state
      → feed ≡ begun feed.feed (opening_for b) → m ≡ new_monitor feed.feed (opening_for b) → Feeds after_edit taken number site b scribe feed m
  feeds_at_first site scribe b n state feed m of scribe_is feed_is m_is = record {
    of = of;
    began = ap (λ (s : SeatOf V E). s.opening) scribe_is;
    lawful = λ d is. subst (λ (entries : List (EntryFields E)). IsLawfulFrom after_edit taken number d entries) (sym (ap (λ (s : SeatOf V E). s.seen) scribe_is)) tt;
    opened = ap (λ (f : Feeding). f.opening) feed_is;
    fed = subst (λ (es : List Event). IsPrefix es (events_in scribe.seen)) (sym (ap (λ (f : Feeding). f.fed) feed_is)) (events_in scribe.seen, refl);
    its_feed = ap (λ (w : Watching). w.feed) m_is;
    its_opening = ap (λ (w : Watching). w.opening) m_is ∙ sym (ap (λ (f : Feeding). f.opening) feed_is);
  }
