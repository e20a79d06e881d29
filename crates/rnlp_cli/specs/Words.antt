-- What the words after the program's name ask for.
use Rattle.std.specs.Prelude.{ℕ, ◌≤◌, ⊤, Bool, false, ◌&&◌, nat_le, List, [], ◌∷◌, length, Option, Some, None, IfSome, option_map, option_and_then, codes, if◌then◌else◌}
use Rattle.std.specs.Str.{bytes_eq}
use Rattle.rtrace_form.specs.Numbers.{cap_told, number_told}
use Rattle.rnlp_cli.specs.declared.command.Command.{Command}
use Rattle.rnlp_cli.specs.declared.command.Command.TheVariants.{Run, Replay, Audit, Bound, Drill}
use Rattle.rnlp_cli.specs.declared.command.RunForm.{RunForm}
use Rattle.rnlp_cli.specs.declared.command.RunForm.TheVariants as forms

-- the words of a form that runs a script
abbrev pub words_of : RunForm → List (List ℕ)
words_of forms.Report = codes "run" ∷ []
words_of forms.Tally = codes "run" ∷ codes "tally" ∷ []
words_of forms.Watch = codes "run" ∷ codes "watch" ∷ []

-- the run that a word after `run` asks for
abbrev pub run_after : List ℕ → Option Command
run_after word =
    if bytes_eq word (codes "tally") then Some (Run forms.Tally)
    else if bytes_eq word (codes "watch") then Some (Run forms.Watch)
    else None

-- what these words ask of the tool that waits for its workers
abbrev pub run_in : List (List ℕ) → Option Command
run_in [] = None
run_in (word ∷ []) = if bytes_eq word (codes "run") then Some (Run forms.Report) else None
run_in (word ∷ next ∷ []) = if bytes_eq word (codes "run") then run_after next else None
run_in (word ∷ next ∷ third ∷ words) = None

-- the most events of a drill
abbrev pub most_events : ℕ
most_events = 1000000

-- the number of a drill's events is from 1 to the most that there may be
abbrev pub events_within : ℕ → Option ℕ
events_within n = if nat_le 1 n && nat_le n most_events then Some n else None

-- the number of a drill's events that a word of 1 to 7 digits gives, if it gives one
unfoldable pub events_told : List ℕ → Option ℕ
events_told word = if nat_le (length word) 7 then option_and_then events_within (number_told word) else None

-- the cap that a word of 1 to 7 digits gives, if it gives one
unfoldable pub cap_in : List ℕ → Option ℕ
cap_in word = if nat_le (length word) 7 then cap_told word else None

-- the bounds of a script under a cap
abbrev pub bounds_under : ℕ → Command
bounds_under cap = Bound (Some cap)

-- what they ask of the tools that wait for nobody
abbrev pub plain_in : List (List ℕ) → Option Command
plain_in [] = None
plain_in (word ∷ []) =
    if bytes_eq word (codes "replay") then Some Replay
    else if bytes_eq word (codes "audit") then Some Audit
    else if bytes_eq word (codes "bound") then Some (Bound None)
    else None
plain_in (word ∷ number ∷ []) =
    if bytes_eq word (codes "drill") then option_map Drill (events_told number)
    else if bytes_eq word (codes "bound") then option_map bounds_under (cap_in number)
    else None
plain_in (word ∷ number ∷ next ∷ words) = None

-- a command of the tools that wait for nobody; a cap of bounds is at least 1, and a drill has no more events than the
-- limit
abbrev pub IsPlain : Command → Type 0
IsPlain (Run form) = ⊥
IsPlain Replay = ⊤
IsPlain Audit = ⊤
IsPlain (Bound cap) = IfSome cap (λ m. 1 ≤ m)
IsPlain (Drill count) = count ≤ most_events

-- the first word is `run`
abbrev pub begins_with_run : List (List ℕ) → Bool
begins_with_run [] = false
begins_with_run (word ∷ words) = bytes_eq word (codes "run")

-- what they ask of the program: the first word says which tool
abbrev pub command_in : List (List ℕ) → Option Command
command_in [] = None
command_in (word ∷ words) = if bytes_eq word (codes "run") then run_in (word ∷ words) else plain_in (word ∷ words)
