use Rattle.std.proofs.Common.{◌+◌, List, ◌++◌, map, sym, ap, subst, ◌∙◌, arith, ◌≡◌, nat_lt, true, cond}
use Rattle.rclaim.specs.declared.event.Event.TheVariants.{Issue}
use Rattle.rmodel.specs.declared.claimed.Claimed.{Claimed}
use Rattle.rclaim.specs.Changes.{ChangeLists}
use Rattle.std.proofs.Math.ListN.{set}
use Rattle.std.specs.List.{count_by}
use Rattle.rplain.specs.Plain.{AreMarked, AreOnlyMarks, state_of}
use Rattle.rplain.proofs.stepping.Marked.{issued_marked, marked_next, issued_halves, halves_next, as_number}
use Rattle.rplain.proofs.stepping.OnlyMarks.{issued_only, only_next}
use Rattle.rmodel.specs.Changes.{status_changes, grant_changes}
use Rattle.rmodel.specs.Claims.{waiting, claims_of, is_upgrade, is_read_half}
use Rattle.rmodel.specs.State.{LockState}
use Rattle.rmodel.specs.Reached.{IsReached}
use Rattle.rplain.proofs.stepping.PlainSteps.{kept_comes, taken}
use Rattle.rmodel.proofs.reaching.FewClaims.{few_claims, two_claims}
use Rattle.rplain.proofs.settling.IssueSteps.{issue_is, told_is}
use Rattle.std.proofs.lemmas.Bool.{or_parts}
use Rattle.std.specs.FinSet.{union, len, is_subset}
use Rattle.rset.proofs.SetLemmas.{within_union_right}
use Rattle.rset.specs.Sets.{Set}
use Rattle.rmodel.specs.Steps.{next, some_asks}
use Rattle.rplain.specs.Sweep.{AreReadWithin}
use Rattle.rplain.proofs.settling.SoFar.{within_more, within_issued, unasked_issued, within_next, unasked_next}
use Rattle.rmodel.proofs.reaching.Reached.{reached_next}
use Rattle.rplain.proofs.plain.Plain.issue.Goals as goal

pub push_claims-requires-clause-within : goal.push_claims-requires-clause-within
push_claims-requires-clause-within c =
    let a = c.self.inside in
    subst (λ (s : Set). AreReadWithin s a.claims.items) (sym c.union-self-inside.ensures) (within_more a.read c.reads.result a.claims.items c.self.invariant.within)

pub push_claims-requires-clause-request_within : goal.push_claims-requires-clause-request_within
push_claims-requires-clause-request_within c =
    let a = c.self.inside in
    (λ i. is_subset (sym c.reads.ensures.value i) (c.union-self-inside.ensures i)) ∙ within_union_right a.read c.reads.result

pub push_claims-requires-clause-room : goal.push_claims-requires-clause-room
push_claims-requires-clause-room c =
    let a = c.self.inside in
    let few = few_claims (state_of a) c.self.invariant.reached.sound in
    let two = two_claims a.groups.groups a.issued c.args.seat c.args.request.now in
    let seats = c.self.invariant.seats in
    let room = c.self.invariant.claims_room in
    omega arith

pub invariant_of-self : goal.invariant_of-self
invariant_of-self c =
    let a = c.self.inside in
    let r = c.args.request.now in
    let e = Issue c.args.seat r in
    let comes = kept_comes a c.args.self.now e c.self.view_is c.requires.fits c.requires.accepted c.push_claims.ensures.normal in
    let sound = c.self.invariant.reached.sound in
    let is : c.push_claims.new.claims.items ≡ (next (state_of a) e).claims = c.push_claims.ensures.items ∙ sym (issue_is (state_of a) c.args.seat r c.self.invariant.reached comes) in
    record {
      reached = subst (λ (xs : List Claimed). IsReached (record (state_of a) { issued = a.issued + 1; claims = xs })) (sym is)
          (reached_next (state_of a) e c.self.invariant.reached comes);
      seen = c.push_claims.ensures.seen;
      marks = subst (λ (xs : List Claimed). AreMarked (set a.marks c.args.seat true) xs) (sym is)
          (marked_next (state_of a) e sound comes (set a.marks c.args.seat true)
          (issued_marked a.marks a.claims.items a.groups.groups a.issued c.args.seat r (let there = comes.fits.seat_there in let seats = c.self.invariant.seats in omega arith) c.self.invariant.marks));
      only = subst (λ (xs : List Claimed). AreOnlyMarks (set a.marks c.args.seat true) xs) (sym is)
          (only_next (state_of a) e sound comes (set a.marks c.args.seat true) (issued_only a.marks a.claims.items a.groups.groups a.issued c.args.seat r c.self.invariant.only));
      halves = (λ i. c.self.invariant.halves i + (as_number c.is_upgrade.result ∙ ap (λ b. cond b 1 0) (c.is_upgrade.ensures ∙ ap is_upgrade c.kind.ensures.value)) i)
          ∙ sym (issued_halves a.claims.items a.groups.groups a.issued c.args.seat r) ∙ halves_next (state_of a) e sound comes ∙ ap (count_by (λ x. is_read_half x.claim)) (sym is);
      some_cap = c.self.invariant.some_cap;
      within = subst (λ (p : Set × List Claimed). AreReadWithin p.0 p.1) (λ k. (sym (c.union-self-inside.ensures ∙ ap (union a.read) c.reads.ensures.value) k, sym is k))
          (within_next (state_of a) e sound comes (union a.read r.reads) (within_issued a.read a.claims.items a.groups.groups a.issued c.args.seat r c.self.invariant.within));
      unasked = λ unasked.
          let parts = or_parts a.asked (nat_lt 0 c.len.result) unasked in
          ap some_asks is
          ∙ unasked_next (state_of a) e sound comes
          (unasked_issued a.claims.items a.groups.groups a.issued c.args.seat r (c.self.invariant.unasked parts.0) (ap (nat_lt 0) (sym (c.len.ensures.value ∙ ap len c.first.ensures)) ∙ parts.1));
      cap = c.self.invariant.cap;
      some_seats = c.self.invariant.some_seats;
      seats = c.self.invariant.seats;
      claims_room = c.push_claims.ensures.capacity ∙ c.self.invariant.claims_room;
      before_room = c.self.invariant.before_room;
    }

pub returns : goal.returns
returns c =
    let a = c.self.inside in
    let r = c.args.request.now in
    let e = Issue c.args.seat r in
    let comes = kept_comes a c.args.self.now e c.self.view_is c.requires.fits c.requires.accepted c.push_claims.ensures.normal in
    let xs = a.claims.items in
    let ns = map (waiting r.first) (claims_of a.groups.groups a.issued c.args.seat r) in
    let items = c.push_claims.ensures.items in
    let told = c.push_claims.ensures.changes ∙ told_is xs ns in
    taken a c.args.self.now e _ c.self.view_is c.self.invariant comes
    (ap (λ (ys : List Claimed). let s : LockState = record (state_of a) { issued = a.issued + 1; claims = ys } in s) (items ∙ sym (issue_is (state_of a) c.args.seat r c.self.invariant.reached comes)))
    (ap (λ (t : ChangeLists). t.statuses) told ∙ ap (status_changes (xs ++ ns)) (sym items))
    (ap (λ (t : ChangeLists). t.grants) told ∙ ap (grant_changes (xs ++ ns)) (sym items))
