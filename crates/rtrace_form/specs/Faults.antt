-- What is wrong with a record, given what the records before it have said.
use Rattle.std.specs.Prelude.{ℕ, Bool, true, false, not, ◌&&◌, ◌||◌, ◌==◌, nat_le, nat_lt, List, [], ◌∷◌, length, fold, Option, Some, None, option_map, if◌then◌else◌}
use Rattle.std.specs.FinSet.{len}
use Rattle.rset.specs.Sets.{equals}
use Rattle.rset.specs.declared.TheConstants.{RESOURCES, SEATS}
use Rattle.rexpand.specs.declared.TheConstants.{GROUPS}
use Rattle.rclaim.specs.Events.{seat_of}
use Rattle.rbound.specs.Bounds.{Numbers}
use Rattle.rvalue.specs.Acts.{place_of, value_within}
use Rattle.rvalue.specs.Ledgers.{is_taken, value_after}
use Rattle.rvalue.specs.Lawful.{stands_with, is_held}
use Rattle.rvalue.specs.declared.act.Act.{Act}
use Rattle.rvalue.specs.declared.act.Act.TheVariants.{Edited, Shown}
use Rattle.rvalue.specs.declared.ledger.Edit.{Edit}
use Rattle.rvalue.specs.declared.ledger.Ledger.{Ledger}
use Rattle.rtrace_form.specs.Records.{Row}
use Rattle.rtrace_form.specs.Fields.{all_counted}
use Rattle.rtrace_form.specs.Heads.{is_nil, is_bad_name}
use Rattle.rtrace_form.specs.Words.{fields_of, word_in}
use Rattle.rtrace_form.specs.Lines.{Line, HasResource, HasGroup, HasTask, Happens, Does, BecomesEntitled, BecomesSatisfied, Grants, Waits, Leaves, Ends, meant_as, word_of}
use Rattle.rtrace_form.specs.Reports.{Entry, lock_after, ledger_after, reads_of, writes_of}
use Rattle.rtrace_form.specs.Events.{refusal_in}
use Rattle.rtrace_form.specs.Walks.{when, first_of, fault_from}
use Rattle.rtrace_form.specs.SoFar.{SoFar, Stand, stands, at_acts, at_ledgers, at_end, names_in, head_in, lock_in, ledgers_due, nothing_yet, with_row}
use Rattle.rtrace_form.specs.declared.word.Stage.{Stage}
use Rattle.rtrace_form.specs.declared.word.Stage.TheVariants as stage
use Rattle.rtrace_form.specs.declared.word.Word.{Word}
use Rattle.rtrace_form.specs.declared.word.Word.TheVariants as word
use Rattle.rtrace_form.specs.declared.fault.Code.{Code}
use Rattle.rtrace_form.specs.declared.fault.Code.TheVariants.{BadField, UnknownName, BadOrder, Refused, WrongChange, WrongShow, WrongLedger, NoEnd}
use Rattle.rtrace_form.specs.declared.fault.Refusal.{Refusal}

-- ---- lines

-- two tests answer the same
abbrev pub same_answer : Bool → Bool → Bool
same_answer true b = b
same_answer false b = not b

-- two ledgers are the same
abbrev pub same_ledger : Ledger → Ledger → Bool
same_ledger a b = (a.balance == b.balance) && (a.edits == b.edits)

-- two stages are the same wait of a request
abbrev pub same_stage : Stage → Stage → Bool
same_stage stage.First stage.First = true
same_stage stage.Rise stage.Rise = true
same_stage stage.Ask stage.Ask = true
same_stage _ _ = false

-- the numbers of two waits are the same
abbrev pub same_numbers : Numbers → Numbers → Bool
same_numbers a b = (a.reads == b.reads) && ((a.writes == b.writes) && (a.units == b.units))

-- a line that may be due is the other one: spelling and the order of members in a set make no difference; bounds are not compared here
abbrev pub is_same_line : Line → Line → Bool
is_same_line (BecomesEntitled seat half) (BecomesEntitled other claim) = (seat == other) && same_answer half claim
is_same_line (BecomesSatisfied seat half) (BecomesSatisfied other claim) = (seat == other) && same_answer half claim
is_same_line (Grants seat set) (Grants other members) = (seat == other) && equals set members
is_same_line (Waits seat which cover bound) (Waits other kind numbers more) = (seat == other) && (same_stage which kind && same_numbers cover numbers)
is_same_line (Leaves place ledger) (Leaves other left) = (place == other) && same_ledger ledger left
is_same_line _ _ = false

-- the first of these lines is this one
abbrev pub is_first : List Line → Line → Bool
is_first [] line = false
is_first (first ∷ lines) line = is_same_line first line

-- a line is of a change, or of a wait that is over
abbrev pub is_change : Line → Bool
is_change (BecomesEntitled seat half) = true
is_change (BecomesSatisfied seat half) = true
is_change (Grants seat set) = true
is_change (Waits seat which cover bound) = true
is_change _ = false

abbrev pub is_act : Line → Bool
is_act (Does act) = true
is_act _ = false

abbrev pub is_ledger : Line → Bool
is_ledger (Leaves place ledger) = true
is_ledger _ = false

-- ---- causes

-- one group more than allowed is declared
abbrev pub is_group_more : SoFar → Word → Bool
is_group_more s word.Group = length s.groups == GROUPS
is_group_more s _ = false

-- the name that is declared is not a name, is already declared or is past the limit; or the group has no member
abbrev pub is_badly_declared : SoFar → Line → Bool
is_badly_declared s (HasResource name) = is_bad_name RESOURCES s.resources name
is_badly_declared s (HasGroup group) = len group == 0
is_badly_declared s (HasTask name) = is_bad_name SEATS s.tasks name
is_badly_declared s _ = false

-- a line of a change is due
abbrev pub is_change_due : SoFar → Bool
is_change_due s = nat_lt s.last at_ledgers && not (is_nil s.due)

-- a line of this word may come after the place of the last one
abbrev pub may_follow : ℕ → Stand → Bool
may_follow last stand = nat_le stand.least last && nat_le last stand.most

-- it is a ledger, and all ledgers were already given
abbrev pub is_ledger_more : Bool → SoFar → Line → Bool
is_ledger_more whole s line = is_ledger line && is_nil (ledgers_due whole s)

-- it may not come here; where a change is due it is a wrong change instead
abbrev pub is_out_of_place : Bool → SoFar → Line → Bool
is_out_of_place whole s line = (not (may_follow s.last (stands (word_of line))) || is_ledger_more whole s line) && not (is_change_due s)

-- the refusal of its event
abbrev pub refused : SoFar → Line → Option Refusal
refused s (Happens e) = if is_change_due s then None else refusal_in (lock_in s) e
refused s _ = None

-- it is an act in its place, though a change may be due
abbrev pub is_act_here : SoFar → Line → Bool
is_act_here s line = is_act line && (s.last == at_acts)

-- it is a line of a change and not the one that is due; or one is due and it is another kind of line
abbrev pub is_wrong_change : SoFar → Line → Bool
is_wrong_change s line =
    if is_change line then not (is_change_due s && is_first s.due line) else is_change_due s && not (is_act_here s line)

-- the answer of an act on a ledger
abbrev pub is_answered : Ledger → Act Edit → Bool
is_answered ledger (Edited place edit done) = same_answer done (is_taken ledger edit)
is_answered ledger (Shown place number) = number == ledger.balance

-- the act is right as the next one of an entry: it may come with the event, the seat holds its resource, and its answer is right
abbrev pub is_right_act : SoFar → Entry → Act Edit → Bool
is_right_act s entry act =
    stands_with entry.event act
    && is_held (reads_of (lock_after (head_in s) s.earlier) (seat_of entry.event)) (writes_of (lock_after (head_in s) s.earlier) (seat_of entry.event)) act
    && is_answered (value_within value_after (ledger_after s.earlier (place_of act)) entry.acts (place_of act)) act

-- an act of the latest entry is right
abbrev pub is_right_in : SoFar → Option Entry → Act Edit → Bool
is_right_in s None act = false
is_right_in s (Some entry) act = is_right_act s entry act

-- it is an act that is not right
abbrev pub is_wrong_act : SoFar → Line → Bool
is_wrong_act s (Does act) = not (is_right_in s s.latest act)
is_wrong_act s _ = false

-- it is a ledger and not the one that is due; or it is the end, and a ledger is due
abbrev pub is_wrong_ledger : Bool → SoFar → Line → Bool
is_wrong_ledger whole s (Leaves place ledger) = not (is_first (ledgers_due whole s) (Leaves place ledger))
is_wrong_ledger whole s Ends = not (is_nil (ledgers_due whole s))
is_wrong_ledger whole s _ = false

-- what is wrong with a line, in the codes' order
abbrev pub line_causes : Bool → SoFar → Line → List (Option Code)
line_causes whole s line =
    when (is_badly_declared s line) BadField
    ∷ when (is_out_of_place whole s line) BadOrder
    ∷ option_map Refused (refused s line)
    ∷ when (is_wrong_change s line) WrongChange
    ∷ when (is_wrong_act s line) WrongShow
    ∷ when (is_wrong_ledger whole s line) WrongLedger
    ∷ []

-- what is wrong with a line
unfoldable pub line_code : Bool → SoFar → Line → Option Code
line_code whole s line = first_of (line_causes whole s line)

-- what is wrong with a record whose fields say this
abbrev pub code_of_meaning : Bool → SoFar → Option Line → Option Code
code_of_meaning whole s None = Some UnknownName
code_of_meaning whole s (Some line) = line_code whole s line

-- what is wrong with a record of this word
abbrev pub code_by : Bool → SoFar → Row → Option Word → Option Code
code_by whole s row None = Some BadField
code_by whole s row (Some w) =
    first_of (
    when (not (all_counted (fields_of w) row)) BadField
    ∷ when (is_group_more s w) BadField
    ∷ code_of_meaning whole s (meant_as (names_in s) row (Some w))
    ∷ []
    )

-- what is wrong with a record: the first of all codes that hold
unfoldable pub code_of : Bool → SoFar → Row → Option Code
code_of whole s row = code_by whole s row (word_in whole row)

-- the text has ended
abbrev pub is_ended : SoFar → Bool
is_ended s = s.last == at_end

-- the first fault of a text's records, each judged by those before it alone, with its number counted from 1
abbrev pub first_record_fault : Bool → List Row → Option (ℕ × Code)
first_record_fault whole rows = fault_from (code_of whole) (with_row whole) is_ended NoEnd 1 nothing_yet rows

-- what records have said together
abbrev pub read_all : Bool → List Row → SoFar
read_all whole rows = fold (with_row whole) nothing_yet rows
