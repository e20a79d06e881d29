-- An input that was checked while it was read.
use Rattle.std.proofs.Common.{◌≡◌, ℕ, true, List, [], Option, Some, None, refl}
use Rattle.std.specs.Prelude.{IfSome}
use Rattle.io_ends.specs.Ends.{TookAtMost}
use Rattle.rtrace.specs.Coming.{CameWhole}
use Rattle.rnlp_cli.specs.Outputs.{is_streamed, report_limit}
use Rattle.rnlp_cli.specs.Reading.{IsWithin, WasRead}
use Rattle.rnlp_cli.specs.declared.command.Command.{Command}
use Rattle.rnlp_cli.specs.declared.command.Command.TheVariants.{Run, Replay, Audit, Bound, Drill}

-- a command whose input is checked while it is read is an audit
pub streamed_is : (command : Command) → is_streamed command ≡ true → command ≡ Audit
streamed_is Audit is = refl
streamed_is (Run form) is = cc
streamed_is Replay is = cc
streamed_is (Bound cap) is = cc
streamed_is (Drill count) is = cc

all_of : (before after : Option (List ℕ)) (text : List ℕ) → CameWhole before after text → IfSome before (λ all. text ≡ all)
all_of None after text came = tt
all_of (Some bytes) after text came = came.0

ended_of : (before after : Option (List ℕ)) (text : List ℕ) → CameWhole before after text → IfSome before (λ _. after ≡ Some [])
ended_of None after text came = tt
ended_of (Some bytes) after text came = came.1

module _ {S : Type 0} (left : S → Option (List ℕ)) (reads : S → ℕ) (source later : S) where
  -- no more was taken than an audit may take
  pub stream_within : TookAtMost (left source) (left later) report_limit → IsWithin left reads (Some Audit) source later
  stream_within within = record { unread = λ e. cc; within = within }

  -- all that was left was taken, and the source did not fail
  pub stream_read : (text : List ℕ) → CameWhole (left source) (left later) text → TookAtMost (left source) (left later) report_limit → reads later ≡ reads source → WasRead left reads (Some Audit) source later text
  stream_read text came within quiet = record {
    taken = stream_within within;
    whole = all_of (left source) (left later) text came;
    ended = λ _. ended_of (left source) (left later) text came;
    quiet = quiet;
  }
