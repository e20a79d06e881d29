-- Places: where the last line is, in the order in which lines may come.
use Rattle.std.specs.Prelude.{ℕ}
use Rattle.rscript.specs.declared.place.Stand.{Stand}
use Rattle.rscript.specs.declared.place.Where.TheVariants.{Outside, Inside, InNested, BeforeRise}
use Rattle.rscript.specs.declared.word.ScriptWord.{ScriptWord}
use Rattle.rscript.specs.declared.word.ScriptWord.TheVariants as word

abbrev pub at_start : ℕ
at_start = 0

abbrev pub at_version : ℕ
at_version = 1

abbrev pub at_resources : ℕ
at_resources = 2

abbrev pub at_groups : ℕ
at_groups = 3

-- after a task, and after its statements
abbrev pub at_tasks : ℕ
at_tasks = 4

abbrev pub at_end : ℕ
at_end = 5

-- where a record of a word may come
abbrev pub stands : ScriptWord → Stand
stands word.Version = record { least = at_start; most = at_start; inside = Outside }
stands word.Resource = record { least = at_version; most = at_resources; inside = Outside }
stands word.Group = record { least = at_resources; most = at_groups; inside = Outside }
stands word.Task = record { least = at_version; most = at_tasks; inside = Outside }
stands (word.Begin kind) = record { least = at_tasks; most = at_tasks; inside = Outside }
stands word.Show = record { least = at_tasks; most = at_tasks; inside = Inside }
stands word.Add = record { least = at_tasks; most = at_tasks; inside = Inside }
stands word.Take = record { least = at_tasks; most = at_tasks; inside = Inside }
stands word.Put = record { least = at_tasks; most = at_tasks; inside = Inside }
stands word.Ask = record { least = at_tasks; most = at_tasks; inside = InNested }
stands word.Rise = record { least = at_tasks; most = at_tasks; inside = BeforeRise }
stands word.Finish = record { least = at_tasks; most = at_tasks; inside = Inside }
stands word.End = record { least = at_version; most = at_tasks; inside = Outside }
