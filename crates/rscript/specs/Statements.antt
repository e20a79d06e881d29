-- What a task may do: sections, what they hold, and which statement may come after which. Nothing here is about texts.
use Rattle.std.specs.Prelude.{◌≡◌, ◌<◌, ◌^◌, ℕ, Bool, true, false, not, ◌&&◌, ◌||◌, List, [], Option, Some, None, is_none, option_map, fold, IsTrue, if◌then◌else◌}
use Rattle.std.specs.FinSet.{empty, union, intersection, contains}
use Rattle.rset.specs.Sets.{Set, all_below}
use Rattle.rclaim.specs.Requests.{RequestFields, IsNormal, is_part}
use Rattle.rclaim.specs.declared.request.Kind.{Kind}
use Rattle.rclaim.specs.declared.request.Kind.TheVariants.{Read, Write, Mixed, Upgrade, Nested}
use Rattle.rmodel.specs.Claims.{is_nested}
use Rattle.rmodel.specs.Holds.{nothing}
use Rattle.rmodel.specs.declared.granted.Granted.{Granted}
use Rattle.rvalue.specs.InTurn.{AllInTurn}
use Rattle.rvalue.specs.declared.ledger.Edit.{Edit}
use Rattle.rvalue.specs.declared.ledger.Edit.TheVariants as edit
use Rattle.rtrace_form.specs.Events.{request_refusal}
use Rattle.rscript.specs.declared.place.Where.{Where}
use Rattle.rscript.specs.declared.place.Where.TheVariants.{Outside, Inside, InNested, BeforeRise}
use Rattle.rscript.specs.declared.section.OpenSection.{OpenSection}
use Rattle.rscript.specs.declared.statement.Statement.{Statement}
use Rattle.rscript.specs.declared.statement.Statement.TheVariants as statement

-- ---- sections

-- the section that a request begins
abbrev pub begun : RequestFields → OpenSection
begun r = record { request = r; risen = false; asked = r.first }

-- a section that has asked for another part
abbrev pub with_asked : Set → OpenSection → OpenSection
with_asked part s = record s { asked = union s.asked part }

-- a section that has risen
abbrev pub with_risen : OpenSection → OpenSection
with_risen s = record s { risen = true }

-- the section that is open after a statement, if any
abbrev pub section_next : Option OpenSection → Statement → Option OpenSection
section_next section (statement.Begin r) = Some (begun r)
section_next section (statement.Edit place edit) = section
section_next section (statement.Show place) = section
section_next section (statement.Ask part) = option_map (with_asked part) section
section_next section statement.Rise = option_map with_risen section
section_next section statement.Finish = None

-- the section that is open after the statements of a task, if any
abbrev pub section_after : List Statement → Option OpenSection
section_after statements = fold section_next None statements

-- what a section with a request of this kind holds: an upgrade reads its set until it rises, and writes it after that;
-- a nested request holds what it has asked for, and every other kind holds all of its sets
abbrev pub held_as : Kind → OpenSection → Granted
held_as Read s = record { reads = s.request.reads; writes = s.request.writes }
held_as Write s = record { reads = s.request.reads; writes = s.request.writes }
held_as Mixed s = record { reads = s.request.reads; writes = s.request.writes }
held_as Upgrade s = if s.risen then record { reads = empty; writes = s.request.reads } else record { reads = s.request.reads; writes = empty }
held_as Nested s = record { reads = intersection s.asked s.request.reads; writes = intersection s.asked s.request.writes }

-- what is held there; nothing outside a section
abbrev pub held_in : Option OpenSection → Granted
held_in None = nothing
held_in (Some s) = held_as s.request.kind s

-- a resource is held there for writing
abbrev pub is_writable : Option OpenSection → ℕ → Bool
is_writable section place = contains (held_in section).writes place

-- a resource is held there, for reading or for writing
abbrev pub is_held : Option OpenSection → ℕ → Bool
is_held section place = contains (held_in section).reads place || contains (held_in section).writes place

-- a set is a part, not empty, of the sets in the open section's request
abbrev pub may_ask_for : Option OpenSection → Set → Bool
may_ask_for None part = false
may_ask_for (Some s) part = is_part part (union s.request.reads s.request.writes)

-- ---- where statements may come

abbrev pub is_upgrade : Kind → Bool
is_upgrade Upgrade = true
is_upgrade _ = false

-- this holds there
abbrev pub is_there : Where → Option OpenSection → Bool
is_there Outside section = is_none section
is_there Inside section = not (is_none section)
is_there InNested None = false
is_there InNested (Some s) = is_nested s.request.kind
is_there BeforeRise None = false
is_there BeforeRise (Some s) = is_upgrade s.request.kind && not s.risen

-- where a statement may come
abbrev pub where_of : Statement → Where
where_of (statement.Begin r) = Outside
where_of (statement.Edit place edit) = Inside
where_of (statement.Show place) = Inside
where_of (statement.Ask part) = InNested
where_of statement.Rise = BeforeRise
where_of statement.Finish = Inside

-- ---- what is right

-- the amount of an edit
abbrev pub amount_of : Edit → ℕ
amount_of (edit.Add n) = n
amount_of (edit.Take n) = n
amount_of (edit.Set n) = n

-- a statement is about resources below a number, its request is in normal form, and its amount fits in a field
abbrev pub IsWithin : ℕ → Statement → Type 0
IsWithin q (statement.Begin r) = IsNormal r × IsTrue (all_below q r.reads) × IsTrue (all_below q r.writes) × IsTrue (all_below q r.first)
IsWithin q (statement.Edit place edit) = (place < q) × (amount_of edit < 2 ^ 64)
IsWithin q (statement.Show place) = place < q
IsWithin q (statement.Ask part) = IsTrue (all_below q part)
IsWithin q statement.Rise = Unit {0}
IsWithin q statement.Finish = Unit {0}

-- a statement is right where this section is open: nothing refuses its request, what it edits is held for writing, what
-- it shows is held, and what it asks for is a part of the request
abbrev pub IsRight : List Set → Option OpenSection → Statement → Type 0
IsRight groups section (statement.Begin r) = request_refusal groups r ≡ None
IsRight groups section (statement.Edit place edit) = is_writable section place ≡ true
IsRight groups section (statement.Show place) = is_held section place ≡ true
IsRight groups section (statement.Ask part) = may_ask_for section part ≡ true
IsRight groups section statement.Rise = Unit {0}
IsRight groups section statement.Finish = Unit {0}

-- a statement over q resources with these read groups may come after the earlier ones of its task
pub record FitsBehind (q : ℕ) (groups : List Set) (earlier : List Statement) (s : Statement) : Type 0 where
  pub within : IsWithin q s
  pub placed : is_there (where_of s) (section_after earlier) ≡ true
  pub right : IsRight groups (section_after earlier) s

-- these are the statements of a task: each may come after those before it, and the last section is closed
pub record IsTask (q : ℕ) (groups : List Set) (statements : List Statement) : Type 0 where
  pub turns : AllInTurn (FitsBehind q groups) [] statements
  pub closed : section_after statements ≡ None
