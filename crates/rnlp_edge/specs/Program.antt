-- What the whole program answers.
use Rattle.std.specs.Prelude.{◌≡◌, ℕ, Bool, true, false, List, [], Option, Some, None, Result, IfOk, IfErr}
use Rattle.io_ends.specs.Faults.{Rose}
use Rattle.rtrace_form.specs.Reports.{Entry}
use Rattle.rnlp_cli.specs.Words.{command_in, words_of}
use Rattle.rnlp_cli.specs.Writing.{IsWritten}
use Rattle.rnlp_cli.specs.Answer.{ToolAnswer}
use Rattle.rnlp_cli.specs.Promise.{KeepsItsPromise}
use Rattle.rwatch.specs.Seen.{Seen}
use Rattle.rnlp_cli.specs.Status.{status_number}
use Rattle.rnlp_cli.specs.Told.{Tells}
use Rattle.rnlp_cli.specs.Watched.{Leaves}
use Rattle.rnlp_cli.specs.declared.command.Command.{Command}
use Rattle.rnlp_cli.specs.declared.command.Command.TheVariants.{Run, Replay, Audit, Bound, Drill}
use Rattle.rnlp_cli.specs.declared.command.RunForm.{RunForm}
use Rattle.rnlp_cli.specs.declared.status.ToolStatus.{ToolStatus}
use Rattle.rnlp_cli.specs.declared.status.ToolStatus.TheVariants.{Done}
use Rattle.rnlp_cli.specs.declared.explained.Told.{Told}
use Rattle.rnlp_edge.specs.Words.{own_text}

-- the words ask for a replay
abbrev pub is_replay : Option Command → Bool
is_replay None = false
is_replay (Some (Run form)) = false
is_replay (Some Replay) = true
is_replay (Some Audit) = false
is_replay (Some (Bound cap)) = false
is_replay (Some (Drill count)) = false

-- a replay has no watchers if no terminal shows it
unfoldable pub is_unwatched : Bool → Option Command → Bool
is_unwatched true asked = false
is_unwatched false asked = is_replay asked

-- nothing was touched
abbrev pub IsUntouched : {S K : Type 0} → S → S → K → K → List (List Entry) → List (List Entry) → List Seen → List Seen → Type 0
IsUntouched source source_after sink sink_after receipts receipts_after watchers watchers_after =
    (source_after ≡ source) × (sink_after ≡ sink) × (receipts_after ≡ receipts) × (watchers_after ≡ watchers)

-- the watchers of what is answered: none if it is `unwatched`
abbrev pub watching : Bool → List Seen → List Seen
watching true watchers = []
watching false watchers = watchers

-- beyond the status of one of the program's own texts nothing more is reported; beyond that of a tool, what the tool
-- reports
abbrev pub TellsBy : Option (List ℕ) → Option Command → List Seen → Option (List ℕ) → Option Told → Option Told → ToolStatus → Type 0
TellsBy (Some text) asked watchers left before after answer = after ≡ before
TellsBy None asked watchers left before after answer = Tells watchers asked left before after answer

-- what is reported to the user beyond the status, for what the program answers to words
abbrev pub ProgramTells : List (List ℕ) → List Seen → Option (List ℕ) → Option Told → Option Told → ToolStatus → Type 0
ProgramTells words watchers left before after answer = TellsBy (own_text words) (command_in words) watchers left before after answer

-- the same, where what is counted of a replay is shown only on a terminal
abbrev pub ShownTells : Bool → List (List ℕ) → List Seen → Option (List ℕ) → Option Told → Option Told → ToolStatus → Type 0
ShownTells on_terminal words watchers left before after answer = ProgramTells words (watching (is_unwatched on_terminal (command_in words)) watchers) left before after answer

-- what is reported beyond the status of how a run ended: that of its words if there are any, and otherwise nothing
abbrev pub RunTells : {W : Type 0} → (W → List (List ℕ)) → Result W ToolStatus → Bool → List Seen → Option (List ℕ) → Option Told → Option Told → ToolStatus → Type 0
RunTells spelled words on_terminal watchers left before after answer =
    IfOk words (λ had. ShownTells on_terminal (spelled had) watchers left before after answer) × IfErr words (λ _. after ≡ before)

-- for a source, the bytes that are left and how often it failed; for a sink, the bytes that were written and how often
-- it failed
module _ {S K : Type 0} (left : S → Option (List ℕ)) (reads : S → ℕ) (written : K → Option (List ℕ)) (writes : K → ℕ) where
  -- what the program answers if these words ask for its own text, or if it passes them to the tools
  abbrev pub AnswersBy : Option (List ℕ) → Option Command → S → S → K → K → List (List Entry) → List (List Entry) → List Seen → List Seen → ToolStatus → Type 0
  AnswersBy (Some text) asked source source_after sink sink_after receipts receipts_after watchers watchers_after answer =
      (source_after ≡ source) × (receipts_after ≡ receipts) × (watchers_after ≡ watchers)
      × IsWritten text (written sink) (written sink_after) (writes sink_after ≡ writes sink) (Rose (writes sink) (writes sink_after)) ⊥ answer
  AnswersBy None asked source source_after sink sink_after receipts receipts_after watchers watchers_after answer =
      ToolAnswer left reads written writes watchers asked source source_after sink sink_after answer
      × Leaves asked (left source) (written sink) (written sink_after) receipts receipts_after watchers watchers_after answer

  -- what the program answers to words: its own text; or what a tool answers, with the receipts and the watchers that it
  -- leaves
  abbrev pub ProgramAnswer : List (List ℕ) → S → S → K → K → List (List Entry) → List (List Entry) → List Seen → List Seen → ToolStatus → Type 0
  ProgramAnswer words source source_after sink sink_after receipts receipts_after watchers watchers_after answer =
      AnswersBy (own_text words) (command_in words) source source_after sink sink_after receipts receipts_after watchers watchers_after answer

  -- what the program answers to words with these watchers, or with none if it is `unwatched`
  abbrev pub WatchedAnswer : Bool → List (List ℕ) → S → S → K → K → List (List Entry) → List (List Entry) → List Seen → List Seen → ToolStatus → Type 0
  WatchedAnswer false words source source_after sink sink_after receipts receipts_after watchers watchers_after answer =
      ProgramAnswer words source source_after sink sink_after receipts receipts_after watchers watchers_after answer
  WatchedAnswer true words source source_after sink sink_after receipts receipts_after watchers watchers_after answer =
      ((heard : List Seen) × ProgramAnswer words source source_after sink sink_after receipts receipts_after [] heard answer) × (watchers_after ≡ watchers)

  -- what the program answers to words, where what is counted of a replay is shown only on a terminal
  abbrev pub ShownAnswer : Bool → List (List ℕ) → S → S → K → K → List (List Entry) → List (List Entry) → List Seen → List Seen → ToolStatus → Type 0
  ShownAnswer on_terminal words source source_after sink sink_after receipts receipts_after watchers watchers_after answer =
      WatchedAnswer (is_unwatched on_terminal (command_in words)) words source source_after sink sink_after receipts receipts_after watchers watchers_after answer

  -- how a run ended: if there are words, which `spelled` reads, they are answered; if not, with the status that says
  -- why, and nothing was touched
  abbrev pub RunAnswer : {W : Type 0} → (W → List (List ℕ)) → Result W ToolStatus → Bool → S → S → K → K → List (List Entry) → List (List Entry) → List Seen → List Seen → ToolStatus → Type 0
  RunAnswer spelled words on_terminal source source_after sink sink_after receipts receipts_after watchers watchers_after answer =
      IfOk words (λ had. ShownAnswer on_terminal (spelled had) source source_after sink sink_after receipts receipts_after watchers watchers_after answer)
      × IfErr words (λ wanting. (answer ≡ wanting) × IsUntouched source source_after sink sink_after receipts receipts_after watchers watchers_after)

-- *The headline of the program*: if it was started with just the words of a form that runs a script, and its exit status is
-- that of a run that is done, that run has kept its promise
abbrev pub KeepsTheHeadline : List (List ℕ) → Option (List ℕ) → Option (List ℕ) → Option (List ℕ) → List (List Entry) → List (List Entry) → List Seen → List Seen → ℕ → Type 0
KeepsTheHeadline words left written written_after receipts receipts_after watchers watchers_after number =
    (form : RunForm) → words ≡ words_of form → number ≡ status_number Done → KeepsItsPromise form left written written_after receipts receipts_after watchers watchers_after
