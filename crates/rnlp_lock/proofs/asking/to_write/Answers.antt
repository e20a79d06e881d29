use Rattle.std.proofs.Common.{rules, ◌≡◌, true, sym, ap, ◌∙◌, inl, inr}
use Rattle.std.specs.FinSet.{is_subset}
use Rattle.rset.specs.Sets.{Set}
use Rattle.rclaim.specs.Requests.{normalised}
use Rattle.rnlp_lock.proofs.Refusing.{outside}
use Rattle.rnlp_lock.proofs.MayAsk.{may_write}
use Rattle.rnlp_lock.proofs.asking.to_write.Goals as goal

pub returns-in-Ok-clause-may : goal.returns-in-Ok-clause-may
returns-in-Ok-clause-may c =
    let first : is_subset c.args.reads c.args.all ≡ true = search rules in
    let second : is_subset c.args.writes c.args.all ≡ true = search rules in
    may_write c.args.groups.now c.args.all c.requires.below c.args.kind c.args.reads c.args.writes c.in-Ok.request c.requires.kind (c.in-Ok.ensures.made ∙ ap (λ (e : Set). normalised c.args.kind c.args.reads c.args.writes e 1 0) c.empty.ensures) first second

pub returns-then-not-within-clause-cause : goal.returns-then-not-within-clause-cause
returns-then-not-within-clause-cause c = inr (inl (outside c.args.groups.now.q c.args.all c.args.reads c.requires.all (sym c.within.ensures ∙ c.if-not-within.true)))

pub returns-then-not-within-2-clause-cause : goal.returns-then-not-within-2-clause-cause
returns-then-not-within-2-clause-cause c = inr (inr (outside c.args.groups.now.q c.args.all c.args.writes c.requires.all (sym c.within-2.ensures ∙ c.if-not-within-2.true)))
