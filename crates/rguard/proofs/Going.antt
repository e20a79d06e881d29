-- Steps of a seat, one after another: for proofs above.
use Rattle.std.proofs.Common.{◌<◌, List, [], ◌++◌, refl, sym, ap, subst, ◌∙◌, append-nil, append_assoc}
use Rattle.rlock.specs.Known.{Site}
use Rattle.rlock.proofs.Entries.{IsPrefix-trans}
use Rattle.rvalue.specs.Entries.{EntryFields}
use Rattle.rguard.specs.Seats.{SeatOf, IsOf, Goes}

module _ {V E : Type 0} where
  -- a seat goes on to itself
  pub goes_nowhere : (a : SeatOf V E) → Goes a [] a
  goes_nowhere a = record { same = (refl, refl, refl); seen = ([], append-nil a.seen); mine = sym (append-nil a.mine) }

  -- two steps are one
  pub goes_on : (a b c : SeatOf V E) (xs ys : List (EntryFields E)) → Goes a xs b → Goes b ys c → Goes a (xs ++ ys) c
  goes_on a b c xs ys p q = record {
    same = (q.same.0 ∙ p.same.0, q.same.1 ∙ p.same.1, q.same.2 ∙ p.same.2);
    seen = IsPrefix-trans a.seen b.seen c.seen p.seen q.seen;
    mine = q.mine ∙ ap (λ es. es ++ ys) p.mine ∙ append_assoc a.mine xs ys;
  }

  -- a seat of the lock stays a seat of it
  pub of_later : (site : Site) (a b : SeatOf V E) (more : List (EntryFields E)) → IsOf site a → Goes a more b → IsOf site b
  of_later site a b more of goes = record {
    gate = goes.same.0 ∙ of.gate;
    began = of.began;
    opening = goes.same.2 ∙ of.opening;
    there = subst (λ n. n < of.began.seats) (sym goes.same.1) of.there;
    all = of.all;
    within = of.within;
    enough = of.enough;
  }
