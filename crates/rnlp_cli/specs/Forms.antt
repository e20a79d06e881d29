-- The forms that run a script: what each writes of a run, of which histories it hands out receipts, and what its watchers
-- have seen then.
use Rattle.std.specs.Prelude.{◌≡◌, ◌⊎◌, ℕ, List, [], ◌∷◌, ◌++◌, length, map, flat_map, codes, decimal}
use Rattle.rdrill.specs.Summary.{count_line, watcher_line}
use Rattle.rmon.specs.declared.look.Look.{Look}
use Rattle.rrun.specs.Monitors.{AreLooksOf}
use Rattle.rrun.specs.Report.{ReportFields, told_by}
use Rattle.rrun.specs.Reporting.{IsReportOf}
use Rattle.rrun.specs.Scripts.{ScriptFields}
use Rattle.rrun.specs.Steps.{list_steps}
use Rattle.rtrace_form.specs.Reports.{Entry, Report}
use Rattle.rtrace_form.specs.Texts.{line_text, report_text}
use Rattle.rwatch.specs.Seen.{Seen, told_all}
use Rattle.rnlp_cli.specs.declared.command.RunForm.{RunForm}
use Rattle.rnlp_cli.specs.declared.command.RunForm.TheVariants as forms

-- a report of a run of the script, in which each task has done all of its statements
abbrev pub IsReported : ScriptFields → Report → Type 0
IsReported script report = (r : ReportFields) × IsReportOf script r × (report ≡ told_by r)

-- the watchers of a run with this report: they were given just the steps of its history
abbrev pub told_run : Report → List Seen → List Seen
told_run report watchers = map (told_all (list_steps report)) watchers

-- what is written after the report of a tally: how many events its history has, and what each watcher has then counted
abbrev pub tally_text : ℕ → List Seen → List ℕ
tally_text events watchers = count_line (codes "tally") events ++ (flat_map watcher_line watchers ++ codes "end\n")

-- the line of a look by this monitor: how many events the history has then, how many requests are incomplete, and how many
-- seats hold something
abbrev pub look_line : ℕ → Look → List ℕ
look_line monitor look = line_text (codes "look" ∷ decimal monitor ∷ decimal look.events ∷ decimal look.incomplete ∷ decimal look.holding ∷ [])

-- what is written after the report of a run that was watched: the looks of each monitor
abbrev pub looks_text : List Look → List Look → List ℕ
looks_text first second = flat_map (look_line 1) first ++ (flat_map (look_line 2) second ++ codes "end\n")

-- the text is that of the report and of looks by two monitors, each at a state on the way of the report's history
pub record SaysLooks (report : Report) (text : List ℕ) : Type 0 where
  pub first : List Look
  pub second : List Look
  pub first_looks : AreLooksOf report first
  pub second_looks : AreLooksOf report second
  pub said : text ≡ report_text report ++ looks_text first second

-- `Is` says what a report of a script's run is
module _ (Is : ScriptFields → Report → Type 0) where
  -- one report was made of the run: the text says it, its history is that of the one receipt, and the watchers have seen
  -- what they see of it
  pub record HasOneReport (Says : Report → List ℕ → Type 0) (seen : Report → List Seen) (script : ScriptFields) (text : List ℕ) (histories : List (List Entry)) (after : List Seen) : Type 0 where
    pub report : Report
    pub is : Is script report
    pub said : Says report text
    pub kept : histories ≡ report.entries ∷ []
    pub watched : after ≡ seen report

  -- *What a form that runs a script does*: of a run of this script, where these watchers are passed in, it writes the
  -- text, hands out receipts of the histories, and leaves these watchers. `run` writes the report, and shows its watchers
  -- nothing; `run tally` shows them the steps of the history, and writes after the report what they have counted; `run watch`
  -- writes after the report what two monitors have seen of the run
  abbrev pub HasRun : RunForm → ScriptFields → List Seen → List ℕ → List (List Entry) → List Seen → Type 0
  HasRun forms.Report script before text histories after = HasOneReport (λ report text. text ≡ report_text report) (λ report. before) script text histories after
  HasRun forms.Tally script before text histories after =
      HasOneReport (λ report text. text ≡ report_text report ++ tally_text (length report.entries) after) (λ report. told_run report before) script text histories after
  HasRun forms.Watch script before text histories after = HasOneReport SaysLooks (λ report. before) script text histories after

-- the watchers of a run that found no memory: those of a tally are the same ones, by what they count, or are gone; those
-- of any other form are as they were
abbrev pub WithoutMemory : RunForm → List Seen → List Seen → Type 0
WithoutMemory forms.Report before after = after ≡ before
WithoutMemory forms.Watch before after = after ≡ before
WithoutMemory forms.Tally before after = (map (λ (w : Seen). w.kind) after ≡ map (λ (w : Seen). w.kind) before) ⊎ (after ≡ [])
