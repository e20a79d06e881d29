-- What a script needs: for each task its requests in order, each with the sets for which its section asks.
use Rattle.std.specs.Prelude.{◌≡◌, ℕ, true, List, [], ◌∷◌, map, length, IsTrue}
use Rattle.rset.specs.Sets.{Set, all_below}
use Rattle.rbound.specs.Needs.{Needs, RequestNeeds}
use Rattle.rbound.specs.TaskNeeds.{TaskNeeds, none_needed, with_request, with_ask, last_is_nested}
use Rattle.rscript.specs.declared.statement.Statement.{Statement}
use Rattle.rscript.specs.declared.statement.Statement.TheVariants as statement
use Rattle.rscript.specs.Scripts.{ScriptFields}

-- the sets for which statements ask, in order, until the next section begins
abbrev pub asks_in : List Statement → List Set
asks_in [] = []
asks_in (statement.Begin r ∷ statements) = []
asks_in (statement.Edit place edit ∷ statements) = asks_in statements
asks_in (statement.Show place ∷ statements) = asks_in statements
asks_in (statement.Ask part ∷ statements) = part ∷ asks_in statements
asks_in (statement.Rise ∷ statements) = asks_in statements
asks_in (statement.Finish ∷ statements) = asks_in statements

-- the requests with which statements begin sections, in order, each with the sets for which its section asks
abbrev pub requests_in : List Statement → List RequestNeeds
requests_in [] = []
requests_in (statement.Begin r ∷ statements) = record { request = r; asks = asks_in statements } ∷ requests_in statements
requests_in (statement.Edit place edit ∷ statements) = requests_in statements
requests_in (statement.Show place ∷ statements) = requests_in statements
requests_in (statement.Ask part ∷ statements) = requests_in statements
requests_in (statement.Rise ∷ statements) = requests_in statements
requests_in (statement.Finish ∷ statements) = requests_in statements

-- *What a script needs*: over its groups, for each task by number what its statements need
abbrev pub needs_of : ScriptFields → TaskNeeds
needs_of p = record { groups = record { q = length p.resources; groups = p.groups }; tasks = map requests_in p.steps }

-- nothing is needed yet
abbrev pub none_yet : ScriptFields → TaskNeeds
none_yet p = record { groups = record { q = length p.resources; groups = p.groups }; tasks = none_needed (length p.tasks) }

-- ---- one more statement

-- what tasks need where a task goes on with a statement
abbrev pub with_statement : Needs → ℕ → Statement → Needs
with_statement needs task (statement.Begin r) = with_request needs task r
with_statement needs task (statement.Edit place edit) = needs
with_statement needs task (statement.Show place) = needs
with_statement needs task (statement.Ask part) = with_ask needs task part
with_statement needs task statement.Rise = needs
with_statement needs task statement.Finish = needs

-- over q resources a statement may come after these requests of its task: an ask needs a nested request before it
abbrev pub GoesOn : ℕ → List RequestNeeds → Statement → Type 0
GoesOn q ns (statement.Begin r) = IsTrue (all_below q r.reads) × IsTrue (all_below q r.writes)
GoesOn q ns (statement.Edit place edit) = Unit {0}
GoesOn q ns (statement.Show place) = Unit {0}
GoesOn q ns (statement.Ask part) = last_is_nested ns ≡ true
GoesOn q ns statement.Rise = Unit {0}
GoesOn q ns statement.Finish = Unit {0}
