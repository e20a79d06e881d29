use Rattle.std.proofs.Common.{List, sym, subst}
use Rattle.rscript.specs.declared.statement.Statement.{Statement}
use Rattle.rrun.specs.Runs.{HasRun, HasBrokenOff}
use Rattle.rrun.specs.Working.{AreWholeAt}
use Rattle.rrun.specs.Sections.{behind_sections, section_at}
use Rattle.rrun.proofs.Breaking.{only_one}
use Rattle.rrun.proofs.Parts.{section_whole}
use Rattle.rrun.proofs.Whole.{whole_for}
use Rattle.rrun.proofs.section.run_section.Goals as goal

pub run_steps-requires-clause-whole : goal.run_steps-requires-clause-whole
run_steps-requires-clause-whole g c κs within =
    subst (λ (ss : List Statement). AreWholeAt c.args.seat ss) (sym (c.section-section.ensures c.steps.result.now c.steps.ensures.steps))
    (section_whole _ c.steps.result.now c.args.seat (whole_for c.args.script.now _ c.steps.result.now c.args.seat c.steps.ensures.script c.steps.ensures.steps c.requires.seat.over))

pub returns-in-Ok-clause-ran : goal.returns-in-Ok-clause-ran
returns-in-Ok-clause-ran g c = λ statements at. subst (λ (ss : List Statement). HasRun ss c.args.seat c.in-Ok.seat) (c.section-section.ensures statements at) c.in-Ok.ensures.ran

pub returns-in-Err-clause-broken : goal.returns-in-Err-clause-broken
returns-in-Err-clause-broken g c = λ statements at.
    let broken : HasBrokenOff c.in-Err.broken.sections (section_at c.args.k statements) c.args.seat c.in-Err.broken.seat =
    subst (λ (ss : List Statement). HasBrokenOff c.in-Err.broken.sections ss c.args.seat c.in-Err.broken.seat) (c.section-section.ensures statements at) c.in-Err.ensures.broken in
    subst (λ n. HasBrokenOff n (section_at c.args.k statements) c.args.seat c.in-Err.broken.seat)
    (only_one c.in-Err.broken.sections (behind_sections c.args.k statements) broken.run.count broken.run.some) broken
