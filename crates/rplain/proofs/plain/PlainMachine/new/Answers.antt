use Rattle.std.proofs.Math.ListN.{replicate}
use Rattle.std.proofs.Common.{false, List, sym, ap, subst, ◌∙◌}
use Rattle.rmodel.specs.declared.claimed.Claimed.{Claimed}
use Rattle.std.specs.List.{count_by}
use Rattle.rmodel.specs.Claims.{is_read_half}
use Rattle.rplain.proofs.stepping.Marked.{none_marked}
use Rattle.rplain.proofs.stepping.OnlyMarks.{none_only}
use Rattle.rset.specs.declared.TheConstants.{SEATS}
use Rattle.rplain.specs.NewClaim.{seen_of}
use Rattle.rplain.proofs.settling.SweepSteps.{seen_none}
use Rattle.rmodel.specs.Reached.{IsReached}
use Rattle.rmodel.specs.Steps.{some_asks}
use Rattle.rplain.proofs.settling.SoFar.{within_none}
use Rattle.rmodel.specs.State.{opening}
use Rattle.rmodel.proofs.reaching.Reached.{reached_opening}
use Rattle.rplain.proofs.plain.PlainMachine.new.Goals as goal

pub invariant_of-result : goal.invariant_of-result
invariant_of-result c = record {
  reached = subst (λ (xs : List Claimed). IsReached (record (opening c.args.groups c.args.seats c.args.cap) { claims = xs })) (sym (c.in_ok-with_capacity.ensures.items))
      (reached_opening c.args.groups c.args.seats c.args.cap);
  seen = c.no_seen.ensures ∙ seen_none ∙ ap seen_of (sym c.in_ok-with_capacity.ensures.items);
  marks = none_marked (replicate SEATS false) _ c.in_ok-with_capacity.ensures.items;
  only = none_only SEATS _;
  halves = sym (ap (count_by (λ x. is_read_half x.claim)) c.in_ok-with_capacity.ensures.items);
  some_cap = c.requires.cap.0;
  within = within_none _ _ c.in_ok-with_capacity.ensures.items;
  unasked = λ _. ap some_asks c.in_ok-with_capacity.ensures.items;
  cap = c.requires.cap.1;
  some_seats = c.requires.seats.0;
  seats = c.requires.seats.1;
  claims_room = c.in_ok-with_capacity.ensures.exact;
  before_room = c.in_ok-with_capacity-2.ensures.exact;
}
