-- The steps of a list that was replayed, as the watchers saw them.
use Rattle.std.proofs.Common.{◌≡◌, List, [], ◌∷◌, length, map, refl, ◌∙◌, arith}
use Rattle.rtrace_form.specs.Reports.{Report}
use Rattle.rwatch.specs.Seen.{Seen, told_all}
use Rattle.rmodel.specs.Watching.{steps_of}
use Rattle.rtrace_replay.specs.Stepping.{IsAtHead}
use Rattle.rtrace_replay.specs.declared.steps.Steps.{Steps}
use Rattle.rnlp_cli.specs.Watched.{list_steps}

pub told_list : (report : Report) (steps : Steps) (ws later : List Seen) → IsAtHead report steps → later ≡ map (told_all (steps_of steps.machine.state steps.events.items)) ws → later ≡ map (told_all (list_steps report)) ws
told_list report steps ws later at is = is ∙ (λ i. map (told_all (steps_of (at.state i) (at.events i))) ws)

-- if there are none, nobody watches
pub nobody : (ws : List Seen) → length ws ≡ 0 → ws ≡ []
nobody [] e = refl
nobody (w ∷ ws) e = absurd (omega (arith, e))
