-- What both workers have done, together.
use Rattle.std.proofs.Common.{◌≡◌, ℕ, Bool, Option, Result, Ok, Err, length, sym, ◌∙◌, arith}
use Rattle.std.specs.declared.alloc.AllocError.{AllocError}
use Rattle.std.specs.Prelude.{MatchResult}
use Rattle.rstate.specs.Histories.{Beginning}
use Rattle.rlock.specs.Known.{Site}
use Rattle.rguard.specs.Seats.{SeatOf}
use Rattle.rguard.specs.Scribes.{IsScribeOf}
use Rattle.rlooks.specs.declared.lookout.TheConstants.{ROUNDS}
use Rattle.rlooks.specs.declared.watch.Watch.{Watch}
use Rattle.rlooks.specs.Lookouts.{GoesOn}
use Rattle.rlooks.specs.Watches.{Watches, MayFeed, HasFed, MayWatch, HasWatched}
use Rattle.rlooks.specs.Workers.{Feeds}

module _ {V E : Type 0} (after_edit : V → E → V) (taken : V → E → Bool) (number : V → ℕ) (site : Site) where
  pub may_feed : (place : Option (SeatOf V E)) (w : Watch) → MayWatch after_edit taken number site place w → MayFeed after_edit taken number site place w.feed w.first
  may_feed place w may = (may.0, (may.1.0, (may.1.1.1.first, (may.1.1.0, may.1.1.1.feeds))))

  -- the second worker has made no round before
  pub none_yet : (place : Option (SeatOf V E)) (w : Watch) → MayWatch after_edit taken number site place w → length w.second.looks ≡ 0
  none_yet place w may = may.1.1.1.second

  both_done : (b : Beginning V) (scribe : SeatOf V E) (w later : Watch) (back : Result (SeatOf V E) (SeatOf V E × AllocError)) → Watches after_edit taken number 0 site b scribe w
      → MatchResult back (λ s. Feeds after_edit taken number site b s later.feed later.first.monitor × GoesOn ROUNDS w.first later.first) (λ e. IsScribeOf site e.0)
      → GoesOn ROUNDS w.second later.second → MatchResult back (λ s. Watches after_edit taken number ROUNDS site b s later) (λ e. IsScribeOf site e.0)
  both_done b scribe w later (Ok s) is fed looked = record {
    feeds = fed.0;
    its_feed = looked.feed ∙ is.its_feed ∙ sym is.feeds.its_feed ∙ sym fed.1.feed ∙ fed.0.its_feed;
    its_opening = looked.opening ∙ is.its_opening ∙ sym is.feeds.its_opening ∙ sym fed.1.opening ∙ fed.0.its_opening;
    first = omega (arith, fed.1.count, is.first);
    second = omega (arith, looked.count, is.second);
  }
  both_done b scribe w later (Err e) is fed looked = fed

  pub has_watched : (place : Option (SeatOf V E)) (w later : Watch) (back : Result (SeatOf V E) (SeatOf V E × AllocError)) → HasFed after_edit taken number site place w.feed w.first back later.feed later.first
      → GoesOn ROUNDS w.second later.second → HasWatched after_edit taken number site place w back later
  has_watched place w later back fed looked = λ scribe b there is. both_done b scribe w later back is (fed scribe b there is.feeds) looked
