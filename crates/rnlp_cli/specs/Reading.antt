-- How the reading of a command's input ended, for the parts of the tools only.
use Rattle.std.specs.Prelude.{◌≡◌, ◌+◌, ℕ, List, [], Option, Some, None, IfSome, IsSome}
use Rattle.io_ends.specs.Ends.{Took, TookAtMost}
use Rattle.io_ends.specs.Faults.{Rose}
use Rattle.rnlp_cli.specs.Outputs.{limit_of, input_of}
use Rattle.rnlp_cli.specs.declared.command.Command.{Command}
use Rattle.rnlp_cli.specs.declared.status.ToolStatus.{ToolStatus}
use Rattle.rnlp_cli.specs.declared.status.ToolStatus.TheVariants as status

module _ {S : Type 0} (left : S → Option (List ℕ)) (reads : S → ℕ) where
  -- no more than the limit was taken from the source, and nothing for a command that reads no input
  pub record IsWithin (asked : Option Command) (source source_after : S) : Type 0 where
    pub unread : limit_of asked ≡ None → source_after ≡ source
    pub within : IfSome (limit_of asked) (λ limit. TookAtMost (left source) (left source_after) limit)

  -- these bytes are the input of the command, which was read to its end
  pub record WasRead (asked : Option Command) (source source_after : S) (bytes : List ℕ) : Type 0 where
    pub taken : IsWithin asked source source_after
    pub whole : IfSome (input_of asked (left source)) (λ all. bytes ≡ all)
    pub ended : IsSome (limit_of asked) → IfSome (left source) (λ _. left source_after ≡ Some [])
    pub quiet : reads source_after ≡ reads source

  -- why the input was not read
  abbrev pub NotRead : Option Command → S → S → ToolStatus → Type 0
  NotRead asked source source_after status.ReadFault = IsWithin asked source source_after × IsSome (limit_of asked) × Rose (reads source) (reads source_after)
  NotRead asked source source_after status.TooLong =
      (limit : ℕ) × (limit_of asked ≡ Some limit) × Took (left source) (left source_after) (limit + 1) × (reads source_after ≡ reads source)
  NotRead asked source source_after status.NoMemory = IsWithin asked source source_after × (reads source_after ≡ reads source)
  NotRead asked source source_after status.Done = ⊥
  NotRead asked source source_after status.Words = ⊥
  NotRead asked source source_after status.WriteFault = ⊥
  NotRead asked source source_after status.Script = ⊥
  NotRead asked source source_after status.Trace = ⊥
