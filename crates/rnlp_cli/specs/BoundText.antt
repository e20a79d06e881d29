-- What is written about the bounds of a script.
use Rattle.std.specs.Prelude.{ℕ, ◌+◌, List, [], ◌∷◌, ◌++◌, length, map, codes, decimal, Option, Some, None, unwrap_or}
use Rattle.std.specs.List.{flat_map, range_with_len}
use Rattle.rclaim.specs.declared.request.Kind.{Kind}
use Rattle.rclaim.specs.declared.request.Kind.TheVariants.{Read, Write, Mixed, Upgrade, Nested}
use Rattle.rtrace_form.specs.Records.{Row}
use Rattle.rtrace_form.specs.SetFields.{name_at}
use Rattle.rtrace_form.specs.Texts.{text_of}
use Rattle.rbound.specs.Bounds.{Numbers}
use Rattle.rbound.specs.TaskNeeds.{TaskNeeds, requests_of, kind_at, asks_at, bound_of}
use Rattle.rbound.specs.declared.which.Which.{Which}
use Rattle.rbound.specs.declared.which.Which.TheVariants.{First, Rise, Ask}
use Rattle.rscript.specs.Scripts.{ScriptFields}
use Rattle.rscript.specs.Needs.{needs_of}

-- ---- waits

-- the waits of a request of this kind after its first: the rise of an upgrade, and each ask of a nested request, in
-- order
abbrev pub later_waits : Kind → ℕ → List Which
later_waits Read asks = []
later_waits Write asks = []
later_waits Mixed asks = []
later_waits Upgrade asks = Rise ∷ []
later_waits Nested asks = map Ask (range_with_len 0 asks)

-- the waits of a request, its first one before the others
abbrev pub waits_of : Option Kind → ℕ → List Which
waits_of None asks = []
waits_of (Some kind) asks = First ∷ later_waits kind asks

-- the waits of a request of a task
abbrev pub waits_at : TaskNeeds → ℕ → ℕ → List Which
waits_at needs task number = waits_of (kind_at needs.tasks task number) (length (asks_at needs.tasks task number))

-- ---- records

-- the name of a wait
abbrev pub which_word : Which → List ℕ
which_word First = codes "first"
which_word Rise = codes "rise"
which_word (Ask i) = codes "ask"

-- the record of a bound: the task's name, the number of its request counted from 1, which wait of the request it is, and its numbers
abbrev pub bound_row : List ℕ → ℕ → Which → Numbers → Row
bound_row name number which bound = codes "bound" ∷ name ∷ decimal number ∷ which_word which ∷ decimal bound.reads ∷ decimal bound.writes ∷ decimal bound.units ∷ []

-- the record of the bound of a wait; requests are counted from 0 here
abbrev pub wait_row : TaskNeeds → ℕ → List ℕ → ℕ → ℕ → Which → Row
wait_row needs cap name task number which = bound_row name (number + 1) which (bound_of needs cap task number which)

-- the records of a request, one for each of its waits
abbrev pub request_rows : TaskNeeds → ℕ → List ℕ → ℕ → ℕ → List Row
request_rows needs cap name task number = map (wait_row needs cap name task number) (waits_at needs task number)

-- those of its asks, where it is nested
abbrev pub asks_rows : TaskNeeds → ℕ → List ℕ → ℕ → ℕ → List Row
asks_rows needs cap name task number = map (λ i. wait_row needs cap name task number (Ask i)) (range_with_len 0 (length (asks_at needs.tasks task number)))

-- the records of a task, request by request
abbrev pub task_rows : TaskNeeds → ℕ → List ℕ → ℕ → List Row
task_rows needs cap name task = flat_map (request_rows needs cap name task) (range_with_len 0 (length (requests_of needs.tasks task)))

-- the records of the tasks with these names, task by task
abbrev pub tasks_rows : TaskNeeds → ℕ → List (List ℕ) → List Row
tasks_rows needs cap names = flat_map (λ task. task_rows needs cap (name_at names task) task) (range_with_len 0 (length names))

-- ---- the text

-- the cap that is meant: the one that is given, else the number of tasks
abbrev pub cap_meant : ScriptFields → Option ℕ → ℕ
cap_meant p cap = unwrap_or cap (length p.tasks)

-- *The bounds of a script*: a line for each wait of each request of each task, and the end
abbrev pub bounds_text : ScriptFields → Option ℕ → List ℕ
bounds_text p cap = text_of (tasks_rows (needs_of p) (cap_meant p cap) p.tasks ++ (codes "end" ∷ []) ∷ [])
