-- How the writing of an output or of the line of a fault ended, for the parts of the tools only.
use Rattle.std.specs.Prelude.{◌≡◌, ◌⊎◌, ℕ, List, Option, Some}
use Rattle.io_ends.specs.Ends.{Appends, AppendsPrefix}
use Rattle.rwatch.specs.Seen.{Seen}
use Rattle.rnlp_cli.specs.Outputs.{IsInput, IsOutput, IsFaultLine, refusal_of}
use Rattle.rnlp_cli.specs.declared.command.Command.{Command}
use Rattle.rnlp_cli.specs.declared.status.ToolStatus.{ToolStatus}
use Rattle.rnlp_cli.specs.declared.status.ToolStatus.TheVariants as status

-- a line was written: whole with no fault of the sink (`quiet`), or a front part of it, and the sink failed
abbrev pub LineWritten : List ℕ → Option (List ℕ) → Option (List ℕ) → Type 0 → Type 0 → Type 0
LineWritten line before after quiet failed = (quiet × Appends before after line) ⊎ (failed × AppendsPrefix before after line)

-- how the writing of an output ended: `quiet` says that the sink's count of faults stayed as it was, `failed` that it rose, and `same` that the sink is as it was
abbrev pub IsWritten : List ℕ → Option (List ℕ) → Option (List ℕ) → Type 0 → Type 0 → Type 0 → ToolStatus → Type 0
IsWritten text before after quiet failed same status.Done = quiet × Appends before after text
IsWritten text before after quiet failed same status.WriteFault = failed × AppendsPrefix before after text
IsWritten text before after quiet failed same status.NoMemory = same
IsWritten text before after quiet failed same status.Words = ⊥
IsWritten text before after quiet failed same status.ReadFault = ⊥
IsWritten text before after quiet failed same status.Script = ⊥
IsWritten text before after quiet failed same status.TooLong = ⊥
IsWritten text before after quiet failed same status.Trace = ⊥

-- how the report of a fault ended: its line was written, and the answer is this status; or memory ran out before that
abbrev pub IsTold : List ℕ → Option (List ℕ) → Option (List ℕ) → Type 0 → Type 0 → Type 0 → ToolStatus → ToolStatus → Type 0
IsTold line before after quiet failed same under answer =
    ((answer ≡ under) × LineWritten line before after quiet failed) ⊎ ((answer ≡ status.NoMemory) × same)

-- an input was refused with this status: it is not an input of the command, whose refusals have this status, and the
-- line of its first fault was written
abbrev pub IsRefused : Option Command → List ℕ → Option (List ℕ) → Option (List ℕ) → Type 0 → Type 0 → ToolStatus → Type 0
IsRefused asked bytes before after quiet failed answer =
    (refusal_of asked ≡ Some answer) × (¬ IsInput asked bytes) × (line : List ℕ) × IsFaultLine asked bytes line × LineWritten line before after quiet failed

-- how a command with these bytes as input ended
abbrev pub IsAnswer : List Seen → Option Command → List ℕ → Option (List ℕ) → Option (List ℕ) → Type 0 → Type 0 → Type 0 → ToolStatus → Type 0
IsAnswer watchers asked bytes before after quiet failed same status.Done = quiet × (text : List ℕ) × IsOutput watchers asked bytes text × Appends before after text
IsAnswer watchers asked bytes before after quiet failed same status.WriteFault = failed × (text : List ℕ) × IsOutput watchers asked bytes text × AppendsPrefix before after text
IsAnswer watchers asked bytes before after quiet failed same status.Script = IsRefused asked bytes before after quiet failed status.Script
IsAnswer watchers asked bytes before after quiet failed same status.Trace = IsRefused asked bytes before after quiet failed status.Trace
IsAnswer watchers asked bytes before after quiet failed same status.NoMemory = same
IsAnswer watchers asked bytes before after quiet failed same status.Words = ⊥
IsAnswer watchers asked bytes before after quiet failed same status.ReadFault = ⊥
IsAnswer watchers asked bytes before after quiet failed same status.TooLong = ⊥
