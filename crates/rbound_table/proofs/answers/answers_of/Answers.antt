use Rattle.std.proofs.Common.{List, map, sym, ap, subst, ◌∙◌}
use Rattle.std.specs.List.{range_with_len}
use Rattle.rset.specs.Sets.{Set}
use Rattle.rset.specs.declared.TheConstants.{RESOURCES}
use Rattle.rbound.specs.Needs.{Needed}
use Rattle.rbound.specs.Sound.{AreSound}
use Rattle.rbound.specs.TaskNeeds.{needed_in}
use Rattle.rbound_table.specs.PlaceZones.{zone_at}
use Rattle.rbound_table.specs.Answers.{AreWriteBounds}
use Rattle.rbound_table.proofs.AnswerFacts.{same_answers}
use Rattle.rbound_table.proofs.answers.answers_of.Goals as goal

pub returns-clause-answers : goal.returns-clause-answers
returns-clause-answers c =
    let needs = c.args.needs.now in
    let same = c.claims.ensures.value in
    let all = c.tasks-tasks.ensures in
    same_answers _ c.claims.result.now (needed_in needs) c.tasks-tasks.result _ same all
    (record {
      sound = subst (λ (ns : List Needed). AreSound ns c.tasks-tasks.result) (sym same) (subst (AreSound (needed_in needs)) (sym all) c.claims.ensures.sound);
      tables = c.in_ok-tables.tables;
      are = c.in_ok-tables.ensures;
      lengths = c.in_ok-lengths.ensures;
      zones = c.in_ok-zones.ensures ∙ ap (λ ns. map (zone_at ns) (range_with_len 0 RESOURCES)) (sym same);
      writes = subst (λ (zones : List Set). AreWriteBounds c.in_ok-tables.tables c.tasks-tasks.result c.args.cap zones c.in_ok-writes.writes.items) c.deref.ensures.value c.in_ok-writes.ensures;
    })
