-- The headline, as it is promised for a run of the program, in whichever form.
use Rattle.std.specs.Prelude.{ℕ, List, Option}
use Rattle.io_ends.specs.Ends.{Appends}
use Rattle.rtrace_form.specs.Reports.{Entry}
use Rattle.rwatch.specs.Seen.{Seen}
use Rattle.rnlp_cli.specs.Headline.{IsHeadline}
use Rattle.rnlp_cli.specs.Leaving.{HasWritten}
use Rattle.rnlp_cli.specs.declared.command.RunForm.{RunForm}

-- *The promise of a run*: whatever script came (where the source says what it had left, that is a text of it), what was
-- written is the text of the form for the one history in the receipt, which only a lock makes, when it is closed; and all
-- that the headline says holds for it
abbrev pub KeepsItsPromise : RunForm → Option (List ℕ) → Option (List ℕ) → Option (List ℕ) → List (List Entry) → List (List Entry) → List Seen → List Seen → Type 0
KeepsItsPromise form left written written_after receipts receipts_after watchers watchers_after =
    HasWritten IsHeadline form left (Appends written written_after) receipts receipts_after watchers watchers_after
