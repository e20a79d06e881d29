-- Lines: what records say, and how what they say is spelled.
use Rattle.std.specs.Prelude.{◌≡◌, ℕ, Bool, true, List, Option, Some, None, option_map}
use Rattle.std.specs.FinSet.{empty}
use Rattle.rset.specs.Names.{is_name}
use Rattle.rset.specs.Sets.{Set}
use Rattle.rclaim.specs.Events.{IsNormalEvent}
use Rattle.rclaim.specs.Requests.{normalised}
use Rattle.rclaim.specs.declared.event.Event.{Event}
use Rattle.rclaim.specs.declared.event.Event.TheVariants.{Issue, Finish, Rise, Ask}
use Rattle.rclaim.specs.declared.request.Kind.{Kind}
use Rattle.rclaim.specs.declared.request.Kind.TheVariants.{Read, Write, Mixed, Upgrade, Nested}
use Rattle.rbound.specs.Bounds.{Numbers}
use Rattle.rvalue.specs.declared.act.Act.{Act}
use Rattle.rvalue.specs.declared.act.Act.TheVariants.{Edited, Shown}
use Rattle.rvalue.specs.declared.ledger.Edit.{Edit}
use Rattle.rvalue.specs.declared.ledger.Edit.TheVariants as edit
use Rattle.rvalue.specs.declared.ledger.Ledger.{Ledger}
use Rattle.rtrace_form.specs.Records.{Row}
use Rattle.rtrace_form.specs.Fields.{Names, Values, read, write, AllGood}
use Rattle.rtrace_form.specs.Words.{fields_of, word_in}
use Rattle.rtrace_form.specs.declared.word.Stage.{Stage}
use Rattle.rtrace_form.specs.declared.word.Word.{Word}
use Rattle.rtrace_form.specs.declared.word.Word.TheVariants as word

-- what a record says: the text opens, it has this resource, group, task or cap, an event happens, a section does this,
-- a claim is entitled or satisfied now, a request holds this now, this wait of a request is over, with its cover and its bound,
-- a resource is left with this ledger, the text ends
pub data Line : Type 0 where
  Opens : Line
  HasResource : List ℕ → Line
  HasGroup : Set → Line
  HasTask : List ℕ → Line
  HasCap : ℕ → Line
  Happens : Event → Line
  Does : Act Edit → Line
  BecomesEntitled : ℕ → Bool → Line
  BecomesSatisfied : ℕ → Bool → Line
  Grants : ℕ → Set → Line
  Waits : ℕ → Stage → Numbers → Numbers → Line
  Leaves : ℕ → Ledger → Line
  Ends : Line

-- a seat issues a request of this kind, in normal form whatever sets and lengths are named
abbrev pub issued : Kind → ℕ → Set → Set → Set → ℕ → ℕ → Line
issued kind seat reads writes first len later = Happens (Issue seat (normalised kind reads writes first len later))

-- the line that a record of this word says with these values
abbrev pub line_by : (w : Word) → Values (fields_of w) → Line
line_by word.Version v = Opens
line_by word.Resource v = HasResource v.0
line_by word.Group v = HasGroup v.0
line_by word.Task v = HasTask v.0
line_by word.Cap v = HasCap v.0
line_by (word.Issue Read) v = issued Read v.0 v.1.0 empty empty v.1.1.0 0
line_by (word.Issue Write) v = issued Write v.0 empty v.1.0 empty v.1.1.0 0
line_by (word.Issue Mixed) v = issued Mixed v.0 v.1.0 v.1.1.0 empty v.1.1.1.0 0
line_by (word.Issue Upgrade) v = issued Upgrade v.0 v.1.0 empty empty v.1.1.0 v.1.1.1.0
line_by (word.Issue Nested) v = issued Nested v.0 v.1.0 v.1.1.0 v.1.1.1.0 v.1.1.1.1.0 0
line_by word.Finish v = Happens (Finish v.0)
line_by word.Rise v = Happens (Rise v.0)
line_by word.Ask v = Happens (Ask v.0 v.1.0)
line_by word.Show v = Does (Shown v.0 v.1.0)
line_by (word.Add done) v = Does (Edited v.0 (edit.Add v.1.0) done)
line_by (word.Take done) v = Does (Edited v.0 (edit.Take v.1.0) done)
line_by (word.Put done) v = Does (Edited v.0 (edit.Set v.1.0) done)
line_by (word.Entitled write_half) v = BecomesEntitled v.0 write_half
line_by (word.Satisfied write_half) v = BecomesSatisfied v.0 write_half
line_by word.Grant v = Grants v.0 v.1.0
line_by (word.Wait which) v =
    Waits v.0 which (record { reads = v.1.0; writes = v.1.1.0; units = v.1.1.1.0 }) (record { reads = v.1.1.1.1.0; writes = v.1.1.1.1.1.0; units = v.1.1.1.1.1.1.0 })
line_by word.Ledger v = Leaves v.0 (record { balance = v.1.0; edits = v.1.1.0 })
line_by word.End v = Ends

-- the word of the record of an event
abbrev pub event_word : Event → Word
event_word (Issue seat r) = word.Issue r.kind
event_word (Finish seat) = word.Finish
event_word (Rise seat) = word.Rise
event_word (Ask seat part) = word.Ask

-- the word of the record of an act
abbrev pub act_word : Act Edit → Word
act_word (Shown place number) = word.Show
act_word (Edited place (edit.Add n) done) = word.Add done
act_word (Edited place (edit.Take n) done) = word.Take done
act_word (Edited place (edit.Set n) done) = word.Put done

-- the word of the record that says a line
abbrev pub word_of : Line → Word
word_of Opens = word.Version
word_of (HasResource name) = word.Resource
word_of (HasGroup s) = word.Group
word_of (HasTask name) = word.Task
word_of (HasCap n) = word.Cap
word_of (Happens e) = event_word e
word_of (Does act) = act_word act
word_of (BecomesEntitled seat write_half) = word.Entitled write_half
word_of (BecomesSatisfied seat write_half) = word.Satisfied write_half
word_of (Grants seat s) = word.Grant
word_of (Waits seat which cover bound) = word.Wait which
word_of (Leaves place ledger) = word.Ledger
word_of Ends = word.End

-- the values of a request of this kind
abbrev pub issue_values : (kind : Kind) → ℕ → Set → Set → Set → ℕ → ℕ → Values (fields_of (word.Issue kind))
issue_values Read seat reads writes first len later = (seat, (reads, (len, tt)))
issue_values Write seat reads writes first len later = (seat, (writes, (len, tt)))
issue_values Mixed seat reads writes first len later = (seat, (reads, (writes, (len, tt))))
issue_values Upgrade seat reads writes first len later = (seat, (reads, (len, (later, tt))))
issue_values Nested seat reads writes first len later = (seat, (reads, (writes, (first, (len, tt)))))

abbrev pub event_values : (e : Event) → Values (fields_of (event_word e))
event_values (Issue seat r) = issue_values r.kind seat r.reads r.writes r.first r.len r.later
event_values (Finish seat) = (seat, tt)
event_values (Rise seat) = (seat, tt)
event_values (Ask seat part) = (seat, (part, tt))

abbrev pub act_values : (act : Act Edit) → Values (fields_of (act_word act))
act_values (Shown place number) = (place, (number, tt))
act_values (Edited place (edit.Add n) done) = (place, (n, tt))
act_values (Edited place (edit.Take n) done) = (place, (n, tt))
act_values (Edited place (edit.Set n) done) = (place, (n, tt))

-- the values with which the record of a line says it
abbrev pub values_of : (line : Line) → Values (fields_of (word_of line))
values_of Opens = tt
values_of (HasResource name) = (name, tt)
values_of (HasGroup s) = (s, tt)
values_of (HasTask name) = (name, tt)
values_of (HasCap n) = (n, tt)
values_of (Happens e) = event_values e
values_of (Does act) = act_values act
values_of (BecomesEntitled seat write_half) = (seat, tt)
values_of (BecomesSatisfied seat write_half) = (seat, tt)
values_of (Grants seat s) = (seat, (s, tt))
values_of (Waits seat which cover bound) = (seat, (cover.reads, (cover.writes, (cover.units, (bound.reads, (bound.writes, (bound.units, tt)))))))
values_of (Leaves place ledger) = (place, (ledger.balance, (ledger.edits, tt)))
values_of Ends = tt

-- the line that a record of this word says, if its fields say something
abbrev pub meant_as : Names → Row → Option Word → Option Line
meant_as names row None = None
meant_as names row (Some w) = option_map (line_by w) (read names (fields_of w) row)

-- the line that a record says, by the names that are declared
unfoldable pub meaning : Bool → Names → Row → Option Line
meaning whole names row = meant_as names row (word_in whole row)

-- the record that says a line, in its one spelling
abbrev pub spelled : Names → Line → Row
spelled names line = write names (fields_of (word_of line)) (values_of line)

-- an event on a line is in normal form
abbrev pub IsNormalLine : Line → Type 0
IsNormalLine (Happens e) = IsNormalEvent e
IsNormalLine _ = Unit {0}

-- a name that a line declares is a name
abbrev pub IsNamedLine : Line → Type 0
IsNamedLine (HasResource name) = is_name name ≡ true
IsNamedLine (HasTask name) = is_name name ≡ true
IsNamedLine _ = Unit {0}

-- a line may be written by these names: what it mentions is declared, and its numbers are within their limits
pub record IsWritable (names : Names) (line : Line) : Type 0 where
  pub good : AllGood names (fields_of (word_of line)) (values_of line)
  pub normal : IsNormalLine line
  pub named : IsNamedLine line
