-- The statuses of a tool, and their numbers.
use Rattle.std.specs.Prelude.{ℕ, ⊤}
use Rattle.rnlp_cli.specs.declared.status.ToolStatus.{ToolStatus}
use Rattle.rnlp_cli.specs.declared.status.ToolStatus.TheVariants as status

-- the exit status of the program
abbrev pub status_number : ToolStatus → ℕ
status_number status.Done = 0
status_number status.Words = 2
status_number status.ReadFault = 3
status_number status.WriteFault = 4
status_number status.Script = 5
status_number status.TooLong = 6
status_number status.NoMemory = 7
status_number status.Trace = 8

-- the statuses after which an input was read to its end
abbrev pub IsRead : ToolStatus → Type 0
IsRead status.Done = ⊤
IsRead status.WriteFault = ⊤
IsRead status.Script = ⊤
IsRead status.Trace = ⊤
IsRead status.Words = ⊥
IsRead status.ReadFault = ⊥
IsRead status.TooLong = ⊥
IsRead status.NoMemory = ⊥

-- the statuses after which nothing was written
abbrev pub IsSilent : ToolStatus → Type 0
IsSilent status.Words = ⊤
IsSilent status.ReadFault = ⊤
IsSilent status.TooLong = ⊤
IsSilent status.NoMemory = ⊤
IsSilent status.Done = ⊥
IsSilent status.WriteFault = ⊥
IsSilent status.Script = ⊥
IsSilent status.Trace = ⊥

-- the statuses with which the first fault of an input was written
abbrev pub IsRefusal : ToolStatus → Type 0
IsRefusal status.Script = ⊤
IsRefusal status.Trace = ⊤
IsRefusal status.Done = ⊥
IsRefusal status.Words = ⊥
IsRefusal status.ReadFault = ⊥
IsRefusal status.WriteFault = ⊥
IsRefusal status.TooLong = ⊥
IsRefusal status.NoMemory = ⊥
