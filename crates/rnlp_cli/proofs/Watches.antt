-- What watchers saw, from how a replay or a drill ended.
use Rattle.std.proofs.Common.{◌≡◌, ℕ, Bool, true, false, List, [], ◌∷◌, codes, map, Option, Some, None, refl, sym, subst, inl, inr}
use Rattle.std.specs.Prelude.{⊤, IfSome, if◌then◌else◌, option_map}
use Rattle.std.specs.Str.{bytes_eq}
use Rattle.io_ends.specs.Ends.{Appends, AppendsPrefix}
use Rattle.rtrace_form.specs.Reports.{Entry, Report}
use Rattle.rtrace_form.specs.Texts.{IsTextOf, report_text}
use Rattle.rwatch.specs.Seen.{Seen, told_all}
use Rattle.rnlp_cli.specs.Outputs.{input_of}
use Rattle.rnlp_cli.specs.Reading.{NotRead}
use Rattle.rnlp_cli.specs.Watched.{list_steps, AreToldList, ReplayWatched, Watched, Leaves}
use Rattle.rnlp_cli.specs.Words.{plain_in, bounds_under, cap_in, events_told}
use Rattle.rnlp_cli.specs.Writing.{IsTold, IsWritten}
use Rattle.rnlp_cli.specs.declared.command.Command.{Command}
use Rattle.rnlp_cli.specs.declared.command.Command.TheVariants.{Run, Replay, Audit, Bound, Drill}
use Rattle.rnlp_cli.proofs.Runs.{leaves_left, same_without}
use Rattle.rnlp_cli.specs.declared.status.ToolStatus.{ToolStatus}
use Rattle.rnlp_cli.specs.declared.status.ToolStatus.TheVariants as status

-- the report of a list was written, and its steps were shown
pub replay_watched : (bytes text : List ℕ) (report : Report) (before after : Option (List ℕ)) (quiet failed : Type 0) (ws later : List Seen) (s : ToolStatus)
    → IsTextOf false bytes report → text ≡ report_text report → IsWritten text before after quiet failed ⊥ s → later ≡ map (told_all (list_steps report)) ws → ReplayWatched (Some bytes) before after ws later s
replay_watched bytes text report before after quiet failed ws later status.Done spelled is h told = record { report = report; spelled = spelled; written = subst (Appends before after) is h.1; told = told }
replay_watched bytes text report before after quiet failed ws later status.WriteFault spelled is h told = record { report = report; spelled = spelled; written = subst (AppendsPrefix before after) is h.1; told = told }
replay_watched bytes text report before after quiet failed ws later status.NoMemory spelled is h told = absurd h
replay_watched bytes text report before after quiet failed ws later status.Words spelled is h told = absurd h
replay_watched bytes text report before after quiet failed ws later status.ReadFault spelled is h told = absurd h
replay_watched bytes text report before after quiet failed ws later status.Script spelled is h told = absurd h
replay_watched bytes text report before after quiet failed ws later status.TooLong spelled is h told = absurd h
replay_watched bytes text report before after quiet failed ws later status.Trace spelled is h told = absurd h

-- the line of a fault was written, or memory ran out: the watchers are as they were
pub told_watched : (left before after : Option (List ℕ)) (line : List ℕ) (quiet failed same : Type 0) (ws : List Seen) (s : ToolStatus) → IsTold line before after quiet failed same status.Trace s → ReplayWatched left before after ws ws s
told_watched left before after line quiet failed same ws s (inl h) = subst (λ (t : ToolStatus). ReplayWatched left before after ws ws t) (sym h.0) refl
told_watched left before after line quiet failed same ws s (inr h) = subst (λ (t : ToolStatus). ReplayWatched left before after ws ws t) (sym h.0) refl

-- if neither an output nor a front part of one was written, they are as they were
pub untold : (asked : Option Command) (left before after : Option (List ℕ)) (ws : List Seen) (s : ToolStatus) → (s ≡ status.Done → ⊥) → (s ≡ status.WriteFault → ⊥) → Watched asked left before after ws ws s
untold None left before after ws s done broken = refl
untold (Some (Run form)) left before after ws status.Done done broken = absurd (done refl)
untold (Some (Run form)) left before after ws status.WriteFault done broken = absurd (broken refl)
untold (Some (Run form)) left before after ws status.NoMemory done broken = ([], [], (refl, same_without form None None None [] ws))
untold (Some (Run form)) left before after ws status.Words done broken = ([], [], (refl, refl))
untold (Some (Run form)) left before after ws status.ReadFault done broken = ([], [], (refl, refl))
untold (Some (Run form)) left before after ws status.Script done broken = ([], [], (refl, refl))
untold (Some (Run form)) left before after ws status.TooLong done broken = ([], [], (refl, refl))
untold (Some (Run form)) left before after ws status.Trace done broken = ([], [], (refl, refl))
untold (Some Audit) left before after ws s done broken = refl
untold (Some (Bound cap)) left before after ws s done broken = refl
untold (Some Replay) left before after ws status.Done done broken = absurd (done refl)
untold (Some Replay) left before after ws status.WriteFault done broken = absurd (broken refl)
untold (Some Replay) left before after ws status.NoMemory done broken = refl
untold (Some Replay) left before after ws status.Words done broken = refl
untold (Some Replay) left before after ws status.ReadFault done broken = refl
untold (Some Replay) left before after ws status.Script done broken = refl
untold (Some Replay) left before after ws status.TooLong done broken = refl
untold (Some Replay) left before after ws status.Trace done broken = refl
untold (Some (Drill count)) left before after ws status.Done done broken = absurd (done refl)
untold (Some (Drill count)) left before after ws status.WriteFault done broken = absurd (broken refl)
untold (Some (Drill count)) left before after ws status.NoMemory done broken = refl
untold (Some (Drill count)) left before after ws status.Words done broken = refl
untold (Some (Drill count)) left before after ws status.ReadFault done broken = refl
untold (Some (Drill count)) left before after ws status.Script done broken = refl
untold (Some (Drill count)) left before after ws status.TooLong done broken = refl
untold (Some (Drill count)) left before after ws status.Trace done broken = refl

-- an input that was not read
unread_so : {S : Type 0} (lefts : S → Option (List ℕ)) (reads : S → ℕ) (asked : Option Command) (source source' : S) (s : ToolStatus) → NotRead lefts reads asked source source' s → (s ≡ status.Done → ⊥) × (s ≡ status.WriteFault → ⊥)
unread_so lefts reads asked source source' status.ReadFault h = (λ e. cc, λ e. cc)
unread_so lefts reads asked source source' status.TooLong h = (λ e. cc, λ e. cc)
unread_so lefts reads asked source source' status.NoMemory h = (λ e. cc, λ e. cc)
unread_so lefts reads asked source source' status.Done h = absurd h
unread_so lefts reads asked source source' status.Words h = absurd h
unread_so lefts reads asked source source' status.WriteFault h = absurd h
unread_so lefts reads asked source source' status.Script h = absurd h
unread_so lefts reads asked source source' status.Trace h = absurd h

pub unread_watched : {S : Type 0} (lefts : S → Option (List ℕ)) (reads : S → ℕ) (command other : Option Command) (source source' : S) (left before after : Option (List ℕ)) (ws : List Seen) (s : ToolStatus)
    → NotRead lefts reads command source source' s → Watched other left before after ws ws s
unread_watched lefts reads command other source source' left before after ws s h = let so = unread_so lefts reads command source source' s h in untold other left before after ws s so.0 so.1

-- what was read is what the source had left, where it says that
of_left : (left : Option (List ℕ)) (bytes : List ℕ) (P : List ℕ → Type 0) → IfSome left (λ all. bytes ≡ all) → P bytes → IfSome left P
of_left None bytes P whole h = tt
of_left (Some all) bytes P whole h = subst P whole h

list_left : (left : Option (List ℕ)) (bytes : List ℕ) (Writes : List ℕ → Type 0) (before after : List Seen) → IfSome left (λ all. bytes ≡ all) → AreToldList (Some bytes) Writes before after → AreToldList left Writes before after
list_left left bytes Writes before after whole h = record { report = h.report; spelled = of_left left bytes (λ all. IsTextOf false all h.report) whole h.spelled; written = h.written; told = h.told }

replay_left : (left : Option (List ℕ)) (bytes : List ℕ) (written written_after : Option (List ℕ)) (before after : List Seen) (s : ToolStatus)
    → IfSome left (λ all. bytes ≡ all) → ReplayWatched (Some bytes) written written_after before after s → ReplayWatched left written written_after before after s
replay_left left bytes written written_after before after status.Done whole h = list_left left bytes _ before after whole h
replay_left left bytes written written_after before after status.WriteFault whole h = list_left left bytes _ before after whole h
replay_left left bytes written written_after before after status.NoMemory whole h = h
replay_left left bytes written written_after before after status.Words whole h = h
replay_left left bytes written written_after before after status.ReadFault whole h = h
replay_left left bytes written written_after before after status.Script whole h = h
replay_left left bytes written written_after before after status.TooLong whole h = h
replay_left left bytes written written_after before after status.Trace whole h = h

-- the watchers after a command whose input was read
pub watched_left : (command : Command) (left : Option (List ℕ)) (bytes : List ℕ) (written written_after : Option (List ℕ)) (before after : List Seen) (s : ToolStatus)
    → IfSome (input_of (Some command) left) (λ all. bytes ≡ all) → Watched (Some command) (Some bytes) written written_after before after s → Watched (Some command) left written written_after before after s
watched_left (Run form) left bytes written written_after before after s whole h = (h.0, h.1, leaves_left form left bytes written written_after h.0 h.1 before after s whole h.2)
watched_left Audit left bytes written written_after before after s whole h = h
watched_left (Bound cap) left bytes written written_after before after s whole h = h
watched_left (Drill count) left bytes written written_after before after s whole h = h
watched_left Replay left bytes written written_after before after s whole h = replay_left left bytes written written_after before after s whole h

-- ---- tools that wait for nobody hand out no receipt

-- not a run
abbrev IsNoRun : Option Command → Type 0
IsNoRun None = ⊤
IsNoRun (Some (Run form)) = ⊥
IsNoRun (Some Replay) = ⊤
IsNoRun (Some Audit) = ⊤
IsNoRun (Some (Bound cap)) = ⊤
IsNoRun (Some (Drill count)) = ⊤

no_run : (asked : Option Command) (left written written_after : Option (List ℕ)) (receipts : List (List Entry)) (ws later : List Seen) (s : ToolStatus)
    → IsNoRun asked → Watched asked left written written_after ws later s → Leaves asked left written written_after receipts receipts ws later s
no_run None left written written_after receipts ws later s plain h = (refl, h)
no_run (Some (Run form)) left written written_after receipts ws later s plain h = absurd plain
no_run (Some Replay) left written written_after receipts ws later s plain h = (refl, h)
no_run (Some Audit) left written written_after receipts ws later s plain h = (refl, h)
no_run (Some (Bound cap)) left written written_after receipts ws later s plain h = (refl, h)
no_run (Some (Drill count)) left written written_after receipts ws later s plain h = (refl, h)

one_word : (replay audit bound : Bool) → IsNoRun (if replay then Some Replay else if audit then Some Audit else if bound then Some (Bound None) else None)
one_word true audit bound = tt
one_word false true bound = tt
one_word false false true = tt
one_word false false false = tt

a_drill : (count : Option ℕ) → IsNoRun (option_map Drill count)
a_drill None = tt
a_drill (Some count) = tt

a_bound : (cap : Option ℕ) → IsNoRun (option_map bounds_under cap)
a_bound None = tt
a_bound (Some cap) = tt

two_words : (drill bound : Bool) (count cap : Option ℕ) → IsNoRun (if drill then option_map Drill count else if bound then option_map bounds_under cap else None)
two_words true bound count cap = a_drill count
two_words false true count cap = a_bound cap
two_words false false count cap = tt

plain_no_run : (words : List (List ℕ)) → IsNoRun (plain_in words)
plain_no_run [] = tt
plain_no_run (word ∷ []) = one_word (bytes_eq word (codes "replay")) (bytes_eq word (codes "audit")) (bytes_eq word (codes "bound"))
plain_no_run (word ∷ number ∷ []) = two_words (bytes_eq word (codes "drill")) (bytes_eq word (codes "bound")) (events_told number) (cap_in number)
plain_no_run (word ∷ number ∷ next ∷ words) = tt

-- what a tool that waits for nobody leaves
pub plain_leaves : (words : List (List ℕ)) (left written written_after : Option (List ℕ)) (receipts : List (List Entry)) (ws later : List Seen) (s : ToolStatus)
    → Watched (plain_in words) left written written_after ws later s → Leaves (plain_in words) left written written_after receipts receipts ws later s
plain_leaves words left written written_after receipts ws later s h = no_run (plain_in words) left written written_after receipts ws later s (plain_no_run words) h
