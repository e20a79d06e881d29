use Rattle.rtrace_form.proofs.lists.NoActs.{list_has_no_acts}
use Rattle.rtrace_form.proofs.laws.an_event_list_has_no_acts.Goals as goal

pub returns : goal.returns
returns c = list_has_no_acts
