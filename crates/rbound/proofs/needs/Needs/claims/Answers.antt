use Rattle.std.proofs.Common.{ap, ◌∙◌}
use Rattle.rbound.specs.Kept.{tasks_in}
use Rattle.rbound.specs.TaskNeeds.{TaskNeeds, needed_in}
use Rattle.rbound.proofs.SoundNeeds.{kept_sound}
use Rattle.rbound.proofs.needs.Needs.claims.Goals as goal

pub returns : goal.returns
returns c =
    let inside = c.self.inside in
    let v : TaskNeeds = record { groups = inside.groups; tasks = tasks_in inside.tasks.items } in
    record { value = c.deref.ensures.value ∙ c.self.invariant.claims ∙ ap needed_in c.self.view_is; sound = kept_sound v c.args.self.now c.self.view_is c.self.invariant.fine }
