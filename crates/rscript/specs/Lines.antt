-- Lines: what records say, and how what they say is spelled.
use Rattle.std.specs.Prelude.{ℕ, List, [], Option, Some, None, option_map}
use Rattle.std.specs.FinSet.{empty}
use Rattle.rset.specs.Sets.{Set}
use Rattle.rclaim.specs.Requests.{normalised}
use Rattle.rclaim.specs.declared.request.Kind.{Kind}
use Rattle.rclaim.specs.declared.request.Kind.TheVariants.{Read, Write, Mixed, Upgrade, Nested}
use Rattle.rvalue.specs.declared.ledger.Edit.TheVariants as edit
use Rattle.rtrace_form.specs.Records.{Row}
use Rattle.rtrace_form.specs.Fields.{Names, Values, read, write}
use Rattle.rscript.specs.Words.{fields_of, word_in}
use Rattle.rscript.specs.declared.statement.Statement.{Statement}
use Rattle.rscript.specs.declared.statement.Statement.TheVariants as statement
use Rattle.rscript.specs.declared.word.ScriptWord.{ScriptWord}
use Rattle.rscript.specs.declared.word.ScriptWord.TheVariants as word

-- what a record says: the text opens, it has this resource, group or task, the task does this, the text ends
pub data Line : Type 0 where
  Opens : Line
  HasResource : List ℕ → Line
  HasGroup : Set → Line
  HasTask : List ℕ → Line
  Does : Statement → Line
  Ends : Line

-- the names that a script's fields may use: its resources
abbrev pub names_of : List (List ℕ) → Names
names_of resources = record { resources = resources; tasks = [] }

-- a section begins with a request of this kind, in normal form whatever sets and lengths are named
abbrev pub begins : Kind → Set → Set → Set → ℕ → ℕ → Line
begins kind reads writes first len later = Does (statement.Begin (normalised kind reads writes first len later))

-- the line that a record of this word says with these values
abbrev pub line_by : (w : ScriptWord) → Values (fields_of w) → Line
line_by word.Version v = Opens
line_by word.Resource v = HasResource v.0
line_by word.Group v = HasGroup v.0
line_by word.Task v = HasTask v.0
line_by (word.Begin Read) v = begins Read v.0 empty empty v.1.0 0
line_by (word.Begin Write) v = begins Write empty v.0 empty v.1.0 0
line_by (word.Begin Mixed) v = begins Mixed v.0 v.1.0 empty v.1.1.0 0
line_by (word.Begin Upgrade) v = begins Upgrade v.0 empty empty v.1.0 v.1.1.0
line_by (word.Begin Nested) v = begins Nested v.0 v.1.0 v.1.1.0 v.1.1.1.0 0
line_by word.Show v = Does (statement.Show v.0)
line_by word.Add v = Does (statement.Edit v.0 (edit.Add v.1.0))
line_by word.Take v = Does (statement.Edit v.0 (edit.Take v.1.0))
line_by word.Put v = Does (statement.Edit v.0 (edit.Set v.1.0))
line_by word.Ask v = Does (statement.Ask v.0)
line_by word.Rise v = Does statement.Rise
line_by word.Finish v = Does statement.Finish
line_by word.End v = Ends

-- the word of the record that says a statement
abbrev pub statement_word : Statement → ScriptWord
statement_word (statement.Begin r) = word.Begin r.kind
statement_word (statement.Edit place (edit.Add n)) = word.Add
statement_word (statement.Edit place (edit.Take n)) = word.Take
statement_word (statement.Edit place (edit.Set n)) = word.Put
statement_word (statement.Show place) = word.Show
statement_word (statement.Ask part) = word.Ask
statement_word statement.Rise = word.Rise
statement_word statement.Finish = word.Finish

-- the word of the record that says a line
abbrev pub word_of : Line → ScriptWord
word_of Opens = word.Version
word_of (HasResource name) = word.Resource
word_of (HasGroup group) = word.Group
word_of (HasTask name) = word.Task
word_of (Does s) = statement_word s
word_of Ends = word.End

-- the values of a request of this kind
abbrev pub request_values : (kind : Kind) → Set → Set → Set → ℕ → ℕ → Values (fields_of (word.Begin kind))
request_values Read reads writes first len later = (reads, (len, tt))
request_values Write reads writes first len later = (writes, (len, tt))
request_values Mixed reads writes first len later = (reads, (writes, (len, tt)))
request_values Upgrade reads writes first len later = (reads, (len, (later, tt)))
request_values Nested reads writes first len later = (reads, (writes, (first, (len, tt))))

abbrev pub statement_values : (s : Statement) → Values (fields_of (statement_word s))
statement_values (statement.Begin r) = request_values r.kind r.reads r.writes r.first r.len r.later
statement_values (statement.Edit place (edit.Add n)) = (place, (n, tt))
statement_values (statement.Edit place (edit.Take n)) = (place, (n, tt))
statement_values (statement.Edit place (edit.Set n)) = (place, (n, tt))
statement_values (statement.Show place) = (place, tt)
statement_values (statement.Ask part) = (part, tt)
statement_values statement.Rise = tt
statement_values statement.Finish = tt

-- the values with which the record of a line says it
abbrev pub values_of : (line : Line) → Values (fields_of (word_of line))
values_of Opens = tt
values_of (HasResource name) = (name, tt)
values_of (HasGroup group) = (group, tt)
values_of (HasTask name) = (name, tt)
values_of (Does s) = statement_values s
values_of Ends = tt

-- the line that a record of this word says, if its fields say something
abbrev pub meant_as : Names → Row → Option ScriptWord → Option Line
meant_as names row None = None
meant_as names row (Some w) = option_map (line_by w) (read names (fields_of w) row)

-- the line that a record says, by the names that are declared
unfoldable pub meaning : Names → Row → Option Line
meaning names row = meant_as names row (word_in row)

-- the record that says a line, in its one spelling
abbrev pub spelled : Names → Line → Row
spelled names line = write names (fields_of (word_of line)) (values_of line)
