-- What was reported to the user, from how a command and its parts ended.
use Rattle.std.proofs.Common.{◌≡◌, ◌≢◌, ℕ, List, [], ◌∷◌, Option, Some, None, refl, sym, ap, subst, inl, inr}
use Rattle.std.specs.Prelude.{IfSome}
use Rattle.rtrace_form.specs.Reports.{Entry}
use Rattle.rrun.specs.declared.run.Run.{Run as Aside}
use Rattle.rscript.specs.Scripts.{ScriptFields, IsTextOf}
use Rattle.rwatch.specs.Seen.{Seen}
use Rattle.rnlp_cli.specs.Outputs.{input_of}
use Rattle.rnlp_cli.specs.Reading.{NotRead}
use Rattle.rnlp_cli.specs.Running.{IsRun}
use Rattle.rnlp_cli.specs.Stopping.{WasStopped, MayBeAside, told_aside}
use Rattle.rnlp_cli.specs.Told.{IsFaultTold, told_behind, TellsBehind, TellsStopped}
use Rattle.rnlp_cli.specs.Writing.{IsTold, IsWritten}
use Rattle.rnlp_cli.specs.declared.command.Command.{Command}
use Rattle.rnlp_cli.specs.declared.command.Command.TheVariants.{Run, Replay, Audit, Bound, Drill}
use Rattle.rnlp_cli.specs.declared.command.RunForm.{RunForm}
use Rattle.rnlp_cli.specs.declared.status.ToolStatus.{ToolStatus}
use Rattle.rnlp_cli.specs.declared.status.ToolStatus.TheVariants as status
use Rattle.rnlp_cli.specs.declared.explained.Told.{Told}
use Rattle.rnlp_cli.specs.declared.explained.Told.TheVariants as what

-- where memory ran out, and nothing was reported of it
none_stopped : (asked : Option Command) (left : Option (List ℕ)) (before after : Option Told) → after ≡ before → TellsStopped asked left before after
none_stopped None left before after same = same
none_stopped (Some (Run form)) left before after same = inl same
none_stopped (Some Replay) left before after same = same
none_stopped (Some Audit) left before after same = same
none_stopped (Some (Bound cap)) left before after same = same
none_stopped (Some (Drill count)) left before after same = same

-- an output was written, or memory ran out before that
pub written_tells : (text : List ℕ) (written written_after : Option (List ℕ)) (quiet failed same : Type 0) (behind : Option Told) (asked : Option Command) (left : Option (List ℕ)) (before after : Option Told) (s : ToolStatus)
    → after ≡ behind → (same → after ≡ before) → IsWritten text written written_after quiet failed same s → TellsBehind behind asked left before after s
written_tells text written written_after quiet failed same behind asked left before after status.Done is kept h = is
written_tells text written written_after quiet failed same behind asked left before after status.WriteFault is kept h = is
written_tells text written written_after quiet failed same behind asked left before after status.NoMemory is kept h = none_stopped asked left before after (kept h)
written_tells text written written_after quiet failed same behind asked left before after status.Words is kept h = absurd h
written_tells text written written_after quiet failed same behind asked left before after status.ReadFault is kept h = absurd h
written_tells text written written_after quiet failed same behind asked left before after status.Script is kept h = absurd h
written_tells text written written_after quiet failed same behind asked left before after status.TooLong is kept h = absurd h
written_tells text written written_after quiet failed same behind asked left before after status.Trace is kept h = absurd h

-- a run in which tasks were stopped was put aside
pub put_aside : (script : ScriptFields) (run : Aside) (before after : Option Aside) → WasStopped script run → after ≡ Some run → MayBeAside script before after status.NoMemory
put_aside script run before after stopped there = inr (record { answered = refl; run = run; there = there; stopped = stopped })

-- a script was run, or memory ran out, and then the run may have been put aside
pub run_tells : (form : RunForm) (bytes : List ℕ) (script : ScriptFields) (spelled : IsTextOf bytes script) (written written_after : Option (List ℕ)) (quiet failed same : Type 0) (receipts later : List (List Entry)) (ws heard : List Seen) (before : Option Told) (aside : Option Aside) (s : ToolStatus)
    → IsRun form script written written_after quiet failed same receipts later ws heard s → MayBeAside script None aside s → TellsBehind before (Some (Run form)) (Some bytes) before (told_aside script aside before) s
run_tells form bytes script spelled written written_after quiet failed same receipts later ws heard before aside s h (inr put) =
    subst (λ (t : ToolStatus). TellsBehind before (Some (Run form)) (Some bytes) before (told_aside script aside before) t) (sym put.answered)
    (inr (record { script = script; came = spelled; run = put.run; stopped = put.stopped; is = ap (λ (o : Option Aside). told_aside script o before) put.there }))
run_tells form bytes script spelled written written_after quiet failed same receipts later ws heard before aside s h (inl none) =
    subst (λ (o : Option Aside). TellsBehind before (Some (Run form)) (Some bytes) before (told_aside script o before) s) (sym none) (nothing s h)
  where
    nothing : (s : ToolStatus) → IsRun form script written written_after quiet failed same receipts later ws heard s → TellsBehind before (Some (Run form)) (Some bytes) before before s
    nothing status.Done h = refl
    nothing status.WriteFault h = refl
    nothing status.NoMemory h = inl refl
    nothing status.Words h = absurd h
    nothing status.ReadFault h = absurd h
    nothing status.Script h = absurd h
    nothing status.TooLong h = absurd h
    nothing status.Trace h = absurd h

no_script : (s : ToolStatus) → s ≡ status.NoMemory → s ≡ status.Script → ⊥
no_script s memory script = cc

no_trace : (s : ToolStatus) → s ≡ status.NoMemory → s ≡ status.Trace → ⊥
no_trace s memory trace = cc

-- the line of a fault was written, and the fault noted, for what the input was, as far as that is known; or memory ran
-- out before that
pub trace_told : (line : List ℕ) (written written_after : Option (List ℕ)) (quiet failed same : Type 0) (behind : Option Told) (asked : Option Command) (left : Option (List ℕ)) (before after : Option Told) (s : ToolStatus)
    → IsTold line written written_after quiet failed same status.Trace s → (s ≡ status.Trace → IfSome left (λ bytes. IsFaultTold asked bytes after)) → (s ≢ status.Trace → after ≡ before) → TellsBehind behind asked left before after s
trace_told line written written_after quiet failed same behind asked left before after s (inl h) noted kept = subst (λ (t : ToolStatus). TellsBehind behind asked left before after t) (sym h.0) (noted h.0)
trace_told line written written_after quiet failed same behind asked left before after s (inr h) noted kept = subst (λ (t : ToolStatus). TellsBehind behind asked left before after t) (sym h.0) (none_stopped asked left before after (kept (no_trace s h.0)))

-- the line of the first fault was written, and the fault noted, or memory ran out before that
module _ (line : List ℕ) (written written_after : Option (List ℕ)) (quiet failed same : Type 0) (behind : Option Told) (asked : Option Command) (bytes : List ℕ) (before after : Option Told) (s : ToolStatus) where
  pub script_tells : IsTold line written written_after quiet failed same status.Script s → (s ≡ status.Script → IsFaultTold asked bytes after) → (s ≢ status.Script → after ≡ before) → TellsBehind behind asked (Some bytes) before after s
  script_tells (inl h) noted kept = subst (λ (t : ToolStatus). TellsBehind behind asked (Some bytes) before after t) (sym h.0) (noted h.0)
  script_tells (inr h) noted kept = subst (λ (t : ToolStatus). TellsBehind behind asked (Some bytes) before after t) (sym h.0) (none_stopped asked (Some bytes) before after (kept (no_script s h.0)))

  pub trace_tells : IsTold line written written_after quiet failed same status.Trace s → (s ≡ status.Trace → IsFaultTold asked bytes after) → (s ≢ status.Trace → after ≡ before) → TellsBehind behind asked (Some bytes) before after s
  trace_tells = trace_told line written written_after quiet failed same behind asked (Some bytes) before after s

-- an input that was not read
pub unread_tells : {S : Type 0} (lefts : S → Option (List ℕ)) (reads : S → ℕ) (command : Option Command) (source source' : S) (behind : Option Told) (asked : Option Command) (left : Option (List ℕ)) (before : Option Told) (s : ToolStatus)
    → NotRead lefts reads command source source' s → TellsBehind behind asked left before before s
unread_tells lefts reads command source source' behind asked left before status.ReadFault h = refl
unread_tells lefts reads command source source' behind asked left before status.TooLong h = refl
unread_tells lefts reads command source source' behind asked left before status.NoMemory h = none_stopped asked left before before refl
unread_tells lefts reads command source source' behind asked left before status.Done h = absurd h
unread_tells lefts reads command source source' behind asked left before status.Words h = absurd h
unread_tells lefts reads command source source' behind asked left before status.WriteFault h = absurd h
unread_tells lefts reads command source source' behind asked left before status.Script h = absurd h
unread_tells lefts reads command source source' behind asked left before status.Trace h = absurd h

-- what was read is what the source had left, where it says that
of_left : (left : Option (List ℕ)) (bytes : List ℕ) (P : List ℕ → Type 0) → IfSome left (λ all. bytes ≡ all) → P bytes → IfSome left P
of_left None bytes P whole h = tt
of_left (Some all) bytes P whole h = subst P whole h

fault_left : (command : Command) (left : Option (List ℕ)) (bytes : List ℕ) (after : Option Told)
    → IfSome (input_of (Some command) left) (λ all. bytes ≡ all) → IsFaultTold (Some command) bytes after → IfSome left (λ all. IsFaultTold (Some command) all after)
fault_left (Run form) left bytes after whole h = of_left left bytes (λ all. IsFaultTold (Some (Run form)) all after) whole h
fault_left Replay left bytes after whole h = of_left left bytes (λ all. IsFaultTold (Some Replay) all after) whole h
fault_left Audit left bytes after whole h = of_left left bytes (λ all. IsFaultTold (Some Audit) all after) whole h
fault_left (Bound cap) left bytes after whole h = of_left left bytes (λ all. IsFaultTold (Some (Bound cap)) all after) whole h
fault_left (Drill count) left bytes after whole h = absurd h

stop_left : (command : Command) (left : Option (List ℕ)) (bytes : List ℕ) (before after : Option Told)
    → IfSome (input_of (Some command) left) (λ all. bytes ≡ all) → TellsStopped (Some command) (Some bytes) before after → TellsStopped (Some command) left before after
stop_left (Run form) left bytes before after whole (inl same) = inl same
stop_left (Run form) left bytes before after whole (inr told) =
    inr (record { script = told.script; came = of_left left bytes (λ all. IsTextOf all told.script) whole told.came; run = told.run; stopped = told.stopped; is = told.is })
stop_left Replay left bytes before after whole h = h
stop_left Audit left bytes before after whole h = h
stop_left (Bound cap) left bytes before after whole h = h
stop_left (Drill count) left bytes before after whole h = h

-- what is reported about a command whose input was read
pub tells_left : (command : Command) (left : Option (List ℕ)) (bytes : List ℕ) (behind before after : Option Told) (s : ToolStatus)
    → IfSome (input_of (Some command) left) (λ all. bytes ≡ all) → TellsBehind behind (Some command) (Some bytes) before after s → TellsBehind behind (Some command) left before after s
tells_left command left bytes behind before after status.Done whole h = h
tells_left command left bytes behind before after status.WriteFault whole h = h
tells_left command left bytes behind before after status.Script whole h = fault_left command left bytes after whole h
tells_left command left bytes behind before after status.Trace whole h = fault_left command left bytes after whole h
tells_left command left bytes behind before after status.Words whole h = h
tells_left command left bytes behind before after status.ReadFault whole h = h
tells_left command left bytes behind before after status.TooLong whole h = h
tells_left command left bytes behind before after status.NoMemory whole h = stop_left command left bytes before after whole h

-- after a replay that somebody watched
pub steps_behind : (watchers : List Seen) (before : Option Told) → (watchers ≡ [] → ⊥) → told_behind (Some Replay) watchers before ≡ Some what.Steps
steps_behind [] before some = absurd (some refl)
steps_behind (w ∷ ws) before some = refl
