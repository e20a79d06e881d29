use Rattle.std.proofs.Common.{refl, sym, ap, ◌∙◌, arith}
use Rattle.std.proofs.lemmas.Bool.{true≢false}
use Rattle.std.specs.FinSet.{contains}
use Rattle.rset.specs.declared.TheConstants.{RESOURCES}
use Rattle.rnlp_lock.specs.Works.{WorkFields}
use Rattle.rnlp_lock.proofs.Refusing.{over}
use Rattle.rnlp_lock.proofs.work.Work.make.Goals as goal

pub returns-then-from-ge-RESOURCES-clause-cause : goal.returns-then-from-ge-RESOURCES-clause-cause
returns-then-from-ge-RESOURCES-clause-cause g c = (
  λ there. over c.args.place c.self.inside.writes RESOURCES c.len.ensures.within (omega (arith, c.from.ensures, c.if-from-ge-RESOURCES.true))
      (ap (λ (w : WorkFields g.row.T.Denot g.row.T-Edit.Denot). contains w.place.writes c.args.place) c.self.view_is ∙ there),
  refl,
)

pub returns-then-not-has-clause-cause : goal.returns-then-not-has-clause-cause
returns-then-not-has-clause-cause g c = (
  λ there. true≢false (sym there ∙ sym (ap (λ (w : WorkFields g.row.T.Denot g.row.T-Edit.Denot). contains w.place.writes c.args.place) c.self.view_is) ∙ sym c.has.ensures ∙ c.if-not-has.true),
  refl,
)
