use Rattle.std.proofs.Common.{◌≤◌, ◌∷◌, ◌++◌, [], ℕ, cond, length, sym, ap, subst, ◌∙◌}
use Rattle.rset.specs.declared.TheConstants.{SEATS}
use Rattle.rclaim.specs.declared.claim.Claim.{Claim}
use Rattle.rcover_laws.specs.Lists.{AreAtMost, reads_against, with_option}
use Rattle.rcover_laws.specs.Moments.{is_claim}
use Rattle.rcover.specs.declared.section.CoverSection.{CoverSection}
use Rattle.rcover.specs.Kept.{kept_in}
use Rattle.rcover.specs.Last.{first_at}
use Rattle.rcover.proofs.over.Closed.{made_of, held_closed, going_closed, over_closed}
use Rattle.rcover.proofs.run.close_lost.Goals as goal

pub keep_section-requires : goal.keep_section-requires
keep_section-requires c =
    let a = kept_in c.args.run.now in
    let few = subst (AreAtMost SEATS) (held_closed c.args.lost.now c.args.next_least.now a c.args.last.now c.if-lost.true) c.requires.few in
    let of = ap (λ (s : CoverSection). s.claim) c.requires.section in
    record { room = subst (λ (z : Claim × ℕ). length (cond (is_claim z.0 c.args.next_least.now.claim) a.writes (a.writes ++ z.0 ∷ [])) ≤ z.1) (λ i. (sym of i, sym c.requires.room.writes i)) few.writes }

pub returns-then-lost-clause-kept : goal.returns-then-lost-clause-kept
returns-then-lost-clause-kept c =
    let a = kept_in c.args.run.now in
    let of = ap (λ (s : CoverSection). s.claim) c.requires.section in
    ap (made_of a.reads) (c.keep_section.ensures.claims ∙ (λ i. cond (is_claim (of i) c.args.next_least.now.claim) a.writes (a.writes ++ of i ∷ [])))
    ∙ sym (held_closed c.args.lost.now c.args.next_least.now a c.args.last.now c.if-lost.true)

pub returns-then-lost-clause-lengths : goal.returns-then-lost-clause-lengths
returns-then-lost-clause-lengths c = λ len are own have. record {
  reads = have.reads;
  writes = c.keep_section.ensures.lengths len (ap (λ (s : CoverSection). s.len) c.requires.section ∙ own ∙ sym (ap (λ (s : CoverSection). len s.claim) c.requires.section)) have.writes;
}

pub returns-then-goes_on-clause-kept : goal.returns-then-goes_on-clause-kept
returns-then-goes_on-clause-kept c =
    sym (going_closed c.args.lost.now c.args.next_least.now (kept_in c.args.run.now) c.args.last.now c.if-lost.false (sym c.goes_on.ensures ∙ c.if-goes_on.true))

pub keep_taken-requires-clause-room : goal.keep_taken-requires-clause-room
keep_taken-requires-clause-room c =
    let a = kept_in c.args.run.now in
    let few = subst (AreAtMost SEATS) (over_closed c.args.lost.now c.args.next_least.now a c.args.last.now c.if-lost.false (sym c.goes_on.ensures ∙ c.if-goes_on.false)) c.requires.few in
    subst (λ (k : ℕ). length (with_option a.reads (first_at (reads_against c.args.lost.now.claim) c.args.last.now)) ≤ k) (sym c.requires.room.reads) few.reads

pub returns-clause-kept : goal.returns-clause-kept
returns-clause-kept c =
    let a = kept_in c.args.run.now in
    ap (λ r. made_of r a.writes) c.keep_taken.ensures.claims
    ∙ sym (over_closed c.args.lost.now c.args.next_least.now a c.args.last.now c.if-lost.false (sym c.goes_on.ensures ∙ c.if-goes_on.false))

pub returns-clause-lengths : goal.returns-clause-lengths
returns-clause-lengths c = λ len are own have. record { reads = c.keep_taken.ensures.lengths len are have.reads; writes = have.writes }
