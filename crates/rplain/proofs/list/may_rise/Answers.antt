use Rattle.std.proofs.Common.{sym, ap, ◌∙◌}
use Rattle.rmodel.specs.declared.claimed.Claimed.{Claimed}
use Rattle.rmodel.specs.Claims.{is_read_half}
use Rattle.rplain.proofs.stepping.Marked.{first_rises, none_rises}
use Rattle.rplain.proofs.list.may_rise.Goals as goal

pub returns-in-Some : goal.returns-in-Some
returns-in-Some c =
    c.is_read_half.ensures ∙ ap (λ (y : Claimed). is_read_half y.claim) (sym c.index-claims-i.is)
    ∙ first_rises c.args.seat c.args.claims.now c.in-Some.i c.index-claims-i.result c.requires.distinct (sym c.requires.place ∙ c.in-Some.is) c.index-claims-i.is

pub returns-in-None : goal.returns-in-None
returns-in-None c = none_rises c.args.seat c.args.claims.now (sym c.requires.place ∙ c.in-None.is)
