-- A run of the program that ends well has kept its promise.
use Rattle.std.proofs.Common.{◌≡◌, ℕ, Bool, true, false, List, Option, Some, None, refl, sym, ap, subst, ◌∙◌}
use Rattle.std.specs.Prelude.{Result, Ok, Err, IfOk}
use Rattle.rtrace_form.specs.Reports.{Entry}
use Rattle.rwatch.specs.Seen.{Seen}
use Rattle.rnlp_cli.proofs.Promises.{promise_kept}
use Rattle.rnlp_cli.specs.Status.{status_number}
use Rattle.rnlp_cli.specs.declared.status.ToolStatus.{ToolStatus}
use Rattle.rnlp_cli.specs.declared.status.ToolStatus.TheVariants as status
use Rattle.rnlp_cli.specs.Words.{command_in, words_of}
use Rattle.rnlp_cli.specs.declared.command.Command.TheVariants.{Run}
use Rattle.rnlp_cli.specs.declared.command.RunForm.{RunForm}
use Rattle.rnlp_cli.specs.declared.command.RunForm.TheVariants as forms
use Rattle.rnlp_edge.specs.Program.{AnswersBy, KeepsTheHeadline, ProgramAnswer, RunAnswer, ShownAnswer, WatchedAnswer, is_unwatched}
use Rattle.rnlp_edge.specs.Words.{own_text}

is_done : (s : ToolStatus) → status_number s ≡ 0 → s ≡ status.Done
is_done status.Done e = refl
is_done status.Words e = cc
is_done status.ReadFault e = cc
is_done status.WriteFault e = cc
is_done status.Script e = cc
is_done status.TooLong e = cc
is_done status.NoMemory e = cc
is_done status.Trace e = cc

-- the words of a form that runs a script ask for a run in this form, and have watchers
asks_for : (form : RunForm) → command_in (words_of form) ≡ Some (Run form)
asks_for forms.Report = refl
asks_for forms.Tally = refl
asks_for forms.Watch = refl

no_text : (form : RunForm) → own_text (words_of form) ≡ None
no_text forms.Report = refl
no_text forms.Tally = refl
no_text forms.Watch = refl

is_watched : (on_terminal : Bool) (form : RunForm) → is_unwatched on_terminal (Some (Run form)) ≡ false
unfolding is_unwatched
is_watched true form = refl
is_watched false form = refl

module _ {S K : Type 0} (left : S → Option (List ℕ)) (reads : S → ℕ) (written : K → Option (List ℕ)) (writes : K → ℕ)
    (source later : S) (sink after : K) (receipts more : List (List Entry)) where
  -- what the program answers to the words of such a form keeps the promise
  pub program_keeps : (words : List (List ℕ)) (ws heard : List Seen) (s : ToolStatus) → ProgramAnswer left reads written writes words source later sink after receipts more ws heard s
      → KeepsTheHeadline words (left source) (written sink) (written after) receipts more ws heard (status_number s)
  program_keeps words ws heard s answer form is done =
      let run : ProgramAnswer left reads written writes (words_of form) source later sink after receipts more ws heard s
      = subst (λ all. ProgramAnswer left reads written writes all source later sink after receipts more ws heard s) is answer in
      let tool : AnswersBy left reads written writes None (command_in (words_of form)) source later sink after receipts more ws heard s
      = subst (λ o. AnswersBy left reads written writes o (command_in (words_of form)) source later sink after receipts more ws heard s) (no_text form) run in
      promise_kept form (left source) (written sink) (written after) receipts more ws heard (command_in (words_of form)) s tool.1 (asks_for form) (is_done s done)

  -- also where what is counted of a replay is shown only on a terminal
  pub shown_keeps : (on_terminal : Bool) (words : List (List ℕ)) (ws heard : List Seen) (s : ToolStatus)
      → ShownAnswer left reads written writes on_terminal words source later sink after receipts more ws heard s → KeepsTheHeadline words (left source) (written sink) (written after) receipts more ws heard (status_number s)
  shown_keeps on_terminal words ws heard s answer form is done =
      let watched : is_unwatched on_terminal (command_in words) ≡ false
      = ap (λ all. is_unwatched on_terminal (command_in all)) is ∙ ap (is_unwatched on_terminal) (asks_for form) ∙ is_watched on_terminal form in
      program_keeps words ws heard s
      (subst (λ b. WatchedAnswer left reads written writes b words source later sink after receipts more ws heard s) watched answer) form is done

  -- and so does the run of the program that was started with it
  pub run_keeps : {W : Type 0} (spelled : W → List (List ℕ)) (words : Result W ToolStatus) (on_terminal : Bool) (ws heard : List Seen) (s : ToolStatus) (number : ℕ) → number ≡ status_number s
      → RunAnswer left reads written writes spelled words on_terminal source later sink after receipts more ws heard s
      → IfOk words (λ had. KeepsTheHeadline (spelled had) (left source) (written sink) (written after) receipts more ws heard number)
  run_keeps spelled (Ok had) on_terminal ws heard s number is answer = λ form run done. shown_keeps on_terminal (spelled had) ws heard s answer.0 form run (sym is ∙ done)
  run_keeps spelled (Err wanting) on_terminal ws heard s number is answer = tt
