-- What a tool answers.
use Rattle.std.specs.Prelude.{◌≡◌, ◌≢◌, ◌≤◌, ◌+◌, ◌↔◌, ◌⊎◌, ℕ, List, [], length, Option, Some, None, IfSome, IsSome}
use Rattle.io_ends.specs.Faults.{Rose}
use Rattle.io_ends.specs.Ends.{Appends, AppendsPrefix, Took, TookAtMost}
use Rattle.rwatch.specs.Seen.{Seen}
use Rattle.rnlp_cli.specs.Status.{IsRead, IsSilent, IsRefusal}
use Rattle.rnlp_cli.specs.Outputs.{IsInput, IsOutput, IsFaultLine, limit_of, input_of, refusal_of}
use Rattle.rnlp_cli.specs.Writing.{LineWritten}
use Rattle.rnlp_cli.specs.declared.command.Command.{Command}
use Rattle.rnlp_cli.specs.declared.status.ToolStatus.{ToolStatus}
use Rattle.rnlp_cli.specs.declared.status.ToolStatus.TheVariants as status

-- for a source, the bytes that are left and how often it failed; for a sink, the bytes that were written and how often
-- it failed
module _ {S K : Type 0} (left : S → Option (List ℕ)) (reads : S → ℕ) (written : K → Option (List ℕ)) (writes : K → ℕ) where
  -- What a tool answers to a command, or to words that are not one, where these watchers are passed in: each status has
  -- its cause, and each cause its status. What is said about bytes holds where the source says what it had left, and
  -- the sink what was written
  pub record ToolAnswer (watchers : List Seen) (asked : Option Command) (source source_after : S) (sink sink_after : K) (answer : ToolStatus) : Type 0 where
    -- wrong words are answered exactly where nothing is asked, and then nothing was touched
    pub wrong_words : (answer ≡ status.Words) ↔ (asked ≡ None)
    pub untouched : answer ≡ status.Words → (source_after ≡ source) × (sink_after ≡ sink)
    -- a command that reads no input leaves the source as it was
    pub unread : limit_of asked ≡ None → source_after ≡ source
    -- a fault of a device is answered only where its count rose
    pub read_fault : answer ≡ status.ReadFault → IsSome (limit_of asked) × Rose (reads source) (reads source_after)
    pub write_fault : answer ≡ status.WriteFault → Rose (writes sink) (writes sink_after)
    -- and no fault goes unreported: with every other answer the count is as it was; under an error line `refused`
    -- reports it
    pub no_read_fault : answer ≢ status.ReadFault → reads source_after ≡ reads source
    pub no_write_fault : answer ≢ status.WriteFault → ¬ IsRefusal answer → writes sink_after ≡ writes sink
    -- too long is answered exactly where one byte above the limit was taken
    pub too_long : answer ≡ status.TooLong → (limit : ℕ) × (limit_of asked ≡ Some limit) × Took (left source) (left source_after) (limit + 1)
    pub within : answer ≢ status.TooLong → IfSome (limit_of asked) (λ limit. TookAtMost (left source) (left source_after) limit)
    -- where something was written about an input, the input was read to its end; with every other status nothing was
    -- written
    pub read_whole : IsRead answer → IsSome (limit_of asked) → IfSome (left source) (λ _. left source_after ≡ Some [])
    pub silent : IsSilent answer → sink_after ≡ sink
    -- the whole output was written, or a front part of it where the sink failed
    pub done : answer ≡ status.Done → IfSome (input_of asked (left source)) (λ bytes.
        (text : List ℕ) × IsOutput watchers asked bytes text × Appends (written sink) (written sink_after) text)
    pub broken_off : answer ≡ status.WriteFault → IfSome (input_of asked (left source)) (λ bytes.
        (text : List ℕ) × IsOutput watchers asked bytes text × AppendsPrefix (written sink) (written sink_after) text)
    -- what is not an input of the command is refused, with the status of the command, and the line of its first fault
    -- was written
    pub refusal : IsRefusal answer → refusal_of asked ≡ Some answer
    pub refused : IsRefusal answer → IfSome (input_of asked (left source)) (λ bytes.
        (¬ IsInput asked bytes)
        × (line : List ℕ) × IsFaultLine asked bytes line
        × LineWritten line (written sink) (written sink_after) (writes sink_after ≡ writes sink) (Rose (writes sink) (writes sink_after)))
    -- right words, an input of the command within the limit and no rise of either count give the output, or out of memory
    pub complete : IfSome (input_of asked (left source)) (λ bytes. IsInput asked bytes → IfSome (limit_of asked) (λ limit. length bytes ≤ limit)
        → ¬ Rose (reads source) (reads source_after) → ¬ Rose (writes sink) (writes sink_after)
        → (answer ≡ status.Done) ⊎ (answer ≡ status.NoMemory))
