-- What is wrong with what a record declares, with its fields, and with what they say, in the order of the codes. What
-- was said before is an argument.
use Rattle.std.specs.Prelude.{ℕ, not, ◌==◌, List, [], ◌∷◌, length, Option, Some, None, option_map}
use Rattle.std.specs.FinSet.{len}
use Rattle.rset.specs.Sets.{Set}
use Rattle.rset.specs.Names.{is_name, knows}
use Rattle.rexpand.specs.Groups.{ReadGroups}
use Rattle.rclaim.specs.declared.request.RequestErr.{RequestErr}
use Rattle.rclaim.specs.declared.request.RequestErr.TheVariants as refused
use Rattle.rtrace_form.specs.Records.{Row}
use Rattle.rtrace_form.specs.Events.{request_refusal}
use Rattle.rtrace_form.specs.Fields.{all_counted, all_known}
use Rattle.rtrace_form.specs.Walks.{when}
use Rattle.rscript.specs.Statements.{is_held, is_writable, may_ask_for}
use Rattle.rscript.specs.Words.{fields_of}
use Rattle.rscript.specs.Lines.{Line, HasGroup, Does, names_of, meant_as}
use Rattle.rscript.specs.declared.section.OpenSection.{OpenSection}
use Rattle.rscript.specs.declared.statement.Statement.{Statement}
use Rattle.rscript.specs.declared.statement.Statement.TheVariants as statement
use Rattle.rscript.specs.declared.word.ScriptWord.{ScriptWord}
use Rattle.rscript.specs.declared.code.ScriptCode.{ScriptCode}
use Rattle.rscript.specs.declared.code.ScriptCode.TheVariants.{BadName, Repeated, TooMany, UnknownName, BadNumber, EmptyGroup, EmptyRequest, Undeclared, FirstOutside, NotHeld, NotWritable}

-- ---- what is declared

-- the read groups so far; none until they are made
abbrev pub groups_in : Option ReadGroups → List Set
groups_in None = []
groups_in (Some groups) = groups.groups

-- what is wrong with a name that is declared after these, where there is a limit on how many there may be
abbrev pub name_causes : ℕ → List (List ℕ) → List ℕ → List (Option ScriptCode)
name_causes limit names name = when (not (is_name name)) BadName ∷ when (knows names name) Repeated ∷ when (length names == limit) TooMany ∷ []

-- ---- statements

-- the code of a request that is refused
abbrev pub request_code : RequestErr → ScriptCode
request_code refused.EmptyRequest = EmptyRequest
request_code refused.Undeclared = Undeclared
request_code refused.FirstOutside = FirstOutside

-- what is wrong with a statement where this section is open
abbrev pub statement_causes : List Set → Option OpenSection → Statement → List (Option ScriptCode)
statement_causes groups section (statement.Begin r) = option_map request_code (request_refusal groups r) ∷ []
statement_causes groups section (statement.Edit place edit) = when (not (is_held section place)) NotHeld ∷ when (not (is_writable section place)) NotWritable ∷ []
statement_causes groups section (statement.Show place) = when (not (is_held section place)) NotHeld ∷ []
statement_causes groups section (statement.Ask part) = when (not (may_ask_for section part)) NotHeld ∷ []
statement_causes groups section statement.Rise = []
statement_causes groups section statement.Finish = []

-- ---- fields

-- what is wrong with what a record says, by these read groups and where this section is open
abbrev pub line_causes : List Set → Option OpenSection → Line → List (Option ScriptCode)
line_causes groups section (HasGroup group) = when (len group == 0) EmptyGroup ∷ []
line_causes groups section (Does done) = statement_causes groups section done
line_causes groups section _ = []

-- the same for a record whose fields say this, if they say something
abbrev pub meant_causes : List Set → Option OpenSection → Option Line → List (Option ScriptCode)
meant_causes groups section None = Some BadNumber ∷ []
meant_causes groups section (Some line) = line_causes groups section line

-- what is wrong with the fields of a record of this word, by these resources, and with what they say
abbrev pub said_causes : List (List ℕ) → List Set → Option OpenSection → Row → ScriptWord → List (Option ScriptCode)
said_causes resources groups section row w =
    when (not (all_known (names_of resources) (fields_of w) row)) UnknownName
    ∷ when (not (all_counted (fields_of w) row)) BadNumber
    ∷ meant_causes groups section (meant_as (names_of resources) row (Some w))
