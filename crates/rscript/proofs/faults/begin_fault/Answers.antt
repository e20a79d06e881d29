use Rattle.std.proofs.Common.{sym, ap, ◌∙◌}
use Rattle.std.specs.Prelude.{option_map}
use Rattle.rscript.specs.Causes.{groups_in, request_code}
use Rattle.rtrace_form.proofs.facts.Coming.{right_request}
use Rattle.rscript.proofs.record_facts.Causes.{undeclared}
use Rattle.rscript.proofs.faults.begin_fault.Goals as goal

pub returns-then-is_admitted : goal.returns-then-is_admitted
returns-then-is_admitted c =
    sym (ap (option_map request_code) (right_request (groups_in c.args.groups.now) c.args.request.now c.is_admitted.ensures.normal (sym c.is_admitted.ensures.value ∙ c.if-is_admitted.true)))

pub returns-else-is_admitted : goal.returns-else-is_admitted
returns-else-is_admitted c =
    sym (ap (option_map request_code) (undeclared (groups_in c.args.groups.now) c.args.request.now c.is_admitted.ensures.normal (sym c.is_admitted.ensures.value ∙ c.if-is_admitted.false)))
