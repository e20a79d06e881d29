-- What is wrong with a record, from the record and what the records before it have said.
use Rattle.std.specs.Prelude.{ℕ, Bool, true, false, not, ◌&&◌, ◌==◌, nat_le, List, [], ◌∷◌, ◌++◌, length, fold, Option, Some, None}
use Rattle.rset.specs.declared.TheConstants.{RESOURCES, SEATS}
use Rattle.rexpand.specs.declared.TheConstants.{GROUPS}
use Rattle.rtrace_form.specs.Records.{Row}
use Rattle.rtrace_form.specs.Decided.{field_of}
use Rattle.rtrace_form.specs.Heads.{is_nil}
use Rattle.rtrace_form.specs.Walks.{when, first_of, fault_from}
use Rattle.rscript.specs.Statements.{is_there}
use Rattle.rscript.specs.Words.{word_in}
use Rattle.rscript.specs.Causes.{name_causes, said_causes}
use Rattle.rscript.specs.Places.{stands, at_end}
use Rattle.rscript.specs.declared.section.OpenSection.{OpenSection}
use Rattle.rscript.specs.declared.word.ScriptWord.{ScriptWord}
use Rattle.rscript.specs.declared.word.ScriptWord.TheVariants as word
use Rattle.rscript.specs.declared.code.ScriptCode.{ScriptCode}
use Rattle.rscript.specs.declared.code.ScriptCode.TheVariants.{BadField, BadOrder, NoResources, NoTask, TooMany, NoEnd}
use Rattle.rscript.specs.SoFar.{SoFar, section_of, nothing_yet, with_row}

-- ---- places

-- a record of this word may come after the place of the last one, where this section is open
abbrev pub stands_at : ℕ → Option OpenSection → ScriptWord → Bool
stands_at last section w = nat_le (stands w).least last && nat_le last (stands w).most && is_there (stands w).inside section

-- a record of this word may come next
abbrev pub may_stand : SoFar → ScriptWord → Bool
may_stand s w = stands_at s.last (section_of s.latest) w

-- a task or the end
abbrev pub needs_resources : ScriptWord → Bool
needs_resources word.Task = true
needs_resources word.End = true
needs_resources _ = false

abbrev pub is_end : ScriptWord → Bool
is_end word.End = true
is_end _ = false

-- ---- what is declared

-- what is wrong with what a record of this word declares: the name in its second field, or one group too many
abbrev pub declared_causes : SoFar → ScriptWord → Row → List (Option ScriptCode)
declared_causes s word.Resource row = name_causes RESOURCES s.resources (field_of row 1)
declared_causes s word.Task row = name_causes SEATS s.tasks (field_of row 1)
declared_causes s word.Group row = when (length s.groups == GROUPS) TooMany ∷ []
declared_causes s _ row = []

-- ---- codes

-- what is wrong with a record of this word that may come there, in the order of the codes
abbrev pub placed_causes : SoFar → Row → ScriptWord → List (Option ScriptCode)
placed_causes s row w =
    when (needs_resources w && is_nil s.resources) NoResources
    ∷ when (is_end w && is_nil s.tasks) NoTask
    ∷ (declared_causes s w row ++ said_causes s.resources s.groups (section_of s.latest) row w)

-- what is wrong with a record of this word
abbrev pub word_causes : SoFar → Row → ScriptWord → List (Option ScriptCode)
word_causes s row w = when (not (may_stand s w)) BadOrder ∷ placed_causes s row w

abbrev pub code_by : SoFar → Row → Option ScriptWord → Option ScriptCode
code_by s row None = Some BadField
code_by s row (Some w) = first_of (word_causes s row w)

-- what is wrong with a record: the first of all codes that hold
unfoldable pub code_of : SoFar → Row → Option ScriptCode
code_of s row = code_by s row (word_in row)

-- the text has ended
abbrev pub is_ended : SoFar → Bool
is_ended s = s.last == at_end

-- the first fault of a text's records, with its number counted from 1
abbrev pub first_fault : List Row → Option (ℕ × ScriptCode)
first_fault rows = fault_from code_of with_row is_ended NoEnd 1 nothing_yet rows

-- what records have said together
abbrev pub read_all : List Row → SoFar
read_all rows = fold with_row nothing_yet rows
