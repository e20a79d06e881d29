use Rattle.std.proofs.Common.{replicate, refl, ap}
use Rattle.std.proofs.lemmas.List.{get_or-replicate}
use Rattle.rset.specs.declared.TheConstants.{SEATS}
use Rattle.rcover.proofs.told.Knowing.{known_first, empty_long}
use Rattle.rcover.proofs.following.Following.new.Goals as goal

pub returns-clause-follows : goal.returns-clause-follows
returns-clause-follows c = λ groups seats cap most some few.
    known_first groups seats cap _ most some few
    (record { last = c.in_ok-with_capacity.ensures.exact; seats = c.in_ok-new_runs.ensures.len; runs_room = c.in_ok-new_runs.ensures.capacity; runs = c.in_ok-new_runs.ensures.room; scratch = c.in_ok-new_run.ensures.room; ended = c.in_ok-with_capacity-2.ensures.exact; lengths = refl; asks = refl; heads = c.in_ok-new.ensures.room; places = refl; wanted = refl }) c.in_ok-new.ensures.told c.in_ok-new.ensures.writes
    (empty_long c.in_ok-new_runs.field-0.items c.in_ok-new_runs.ensures.none) (λ seat h. get_or-replicate SEATS seat 0 0 h) c.in_ok-with_capacity-2.ensures.items

pub returns-clause-nothing : goal.returns-clause-nothing
returns-clause-nothing c = record {
  waiting = c.empty.ensures;
  rising = c.empty-2.ensures;
  asking = c.empty-3.ensures;
  reading = c.empty-4.ensures;
  wanted = ap (replicate SEATS) c.empty-5.ensures;
  last = c.in_ok-with_capacity.ensures.items;
  there = refl;
  lengths = refl;
  asks = refl;
  places = refl;
  scratch = c.in_ok-new_run.ensures.none;
}
