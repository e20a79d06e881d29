use Rattle.rtrace_form.proofs.lists.NoActs.{list_fault_alone}
use Rattle.rtrace_form.proofs.laws.an_event_list_tells_no_bounds.Goals as goal

pub returns : goal.returns
returns c = list_fault_alone
