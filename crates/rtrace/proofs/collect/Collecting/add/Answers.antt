use Rattle.std.proofs.Common.{Some, refl, sym, ap, ◌∙◌}
use Rattle.std.proofs.lemmas.Result.{on_err_weaker}
use Rattle.std.specs.Prelude.{option_map}
use Rattle.rtrace_form.specs.SoFar.{with_act}
use Rattle.rtrace.proofs.Results.{on_ok}
use Rattle.rtrace.proofs.collect.Collecting.add.Goals as goal

pub returns-in-Some-clause-ok : goal.returns-in-Some-clause-ok
returns-in-Some-clause-ok c = on_ok c.add_act.result _ _ c.add_act.ensures.ok (λ is. (refl, refl, ap Some is ∙ ap (option_map (with_act c.args.act)) (sym c.in-Some.is)))

pub returns-in-Some-clause-still : goal.returns-in-Some-clause-still
returns-in-Some-clause-still c = on_err_weaker c.add_act.result (λ same. λ i. record c.args.self.now { latest = (ap Some same ∙ sym c.in-Some.is) i }) c.add_act.ensures.still
