use Rattle.std.proofs.Common.{refl, ap, ◌∙◌, arith}
use Rattle.std.proofs.lemmas.Bool.{and_parts}
use Rattle.std.specs.FinSet.{contains}
use Rattle.rset.specs.declared.TheConstants.{RESOURCES}
use Rattle.rnlp_lock.specs.Nested.{NestFields, may_edit}
use Rattle.rnlp_lock.proofs.Refusing.{over}
use Rattle.rnlp_lock.proofs.nests.Nesting.make.Goals as goal

pub returns-then-from-ge-RESOURCES-clause-cause : goal.returns-then-from-ge-RESOURCES-clause-cause
returns-then-from-ge-RESOURCES-clause-cause g c = (
  λ there. over c.args.place c.self.inside.writes RESOURCES c.len.ensures.within (omega (arith, c.from.ensures, c.if-from-ge-RESOURCES.true))
      (and_parts (contains c.self.inside.granted c.args.place) (contains c.self.inside.writes c.args.place) (ap (λ (n : NestFields g.row.T.Denot g.row.T-Edit.Denot). may_edit n c.args.place) c.self.view_is ∙ there)).1,
  refl,
)
