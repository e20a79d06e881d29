-- A report that records spell may be written.
use Rattle.std.proofs.Common.{◌≡◌, ℕ, ◌≤◌, Bool, false, List, [], ◌∷◌, ◌++◌, map, length, Option, Some, None, IsTrue, refl, sym, subst, arith}
use Rattle.std.specs.List.{AllByRecursion, AllZip}
use Rattle.std.specs.Prelude.{option_map, option_to_list}
use Rattle.rset.specs.Sets.{Set, all_below}
use Rattle.rset.specs.declared.TheConstants.{SEATS}
use Rattle.rset.proofs.NameLemmas.{table_length}
use Rattle.rbound.specs.Bounds.{Numbers}
use Rattle.rcover_laws.specs.declared.wait_end.WaitEnd.{WaitEnd}
use Rattle.rvalue.specs.declared.act.Act.{Act}
use Rattle.rvalue.specs.declared.ledger.Edit.{Edit}
use Rattle.rtrace_form.specs.Records.{Row}
use Rattle.rtrace_form.specs.Fields.{Names, Values, AllGood, read}
use Rattle.rtrace_form.specs.Words.{fields_of, word_in}
use Rattle.rtrace_form.specs.Heads.{Head, names_of, IsHead, is_nil}
use Rattle.rtrace_form.specs.Lines.{Line, HasResource, HasGroup, HasTask, HasCap, Does, Ends, line_by, meant_as, meaning}
use Rattle.rtrace_form.specs.Reports.{Entry, Report, Spells, due_lines, history_lines, ledger_lines, lines_of}
use Rattle.rtrace_form.specs.Waits.{bound_in}
use Rattle.rtrace_form.specs.Written.{IsTellable, MayBeWritten}
use Rattle.rtrace_form.specs.declared.word.Word.{Word}
use Rattle.rtrace_form.specs.declared.word.Word.TheVariants as word
use Rattle.rclaim.specs.declared.request.Kind.TheVariants as kinds
use Rattle.std.proofs.lemmas.Bool.{true≢false}
use Rattle.rtrace_form.proofs.facts.Choices.{some_none, some_is}
use Rattle.rtrace_form.proofs.facts.ReadGood.{read_good}

-- ---- what a line says is within its limits

-- the group of a line is of resources that there are, its cap is within bounds, and the amount of its act may be written
abbrev IsLimited : Names → Line → Type 0
IsLimited names (HasGroup group) = IsTrue (all_below (length names.resources) group)
IsLimited names (HasCap n) = (1 ≤ n) × (n ≤ SEATS)
IsLimited names (Does act) = IsTellable act
IsLimited names _ = Unit {0}

by_limited : (names : Names) (w : Word) (v : Values (fields_of w)) → AllGood names (fields_of w) v → IsLimited names (line_by w v)
by_limited names word.Group v good = good.0
by_limited names word.Cap v good = good.0
by_limited names word.Show v good = tt
by_limited names (word.Add done) v good = good.1.0
by_limited names (word.Take done) v good = good.1.0
by_limited names (word.Put done) v good = good.1.0
by_limited names (word.Issue kinds.Read) v good = tt
by_limited names (word.Issue kinds.Write) v good = tt
by_limited names (word.Issue kinds.Mixed) v good = tt
by_limited names (word.Issue kinds.Upgrade) v good = tt
by_limited names (word.Issue kinds.Nested) v good = tt
by_limited names word.Version v good = tt
by_limited names word.Resource v good = tt
by_limited names word.Task v good = tt
by_limited names word.Finish v good = tt
by_limited names word.Rise v good = tt
by_limited names word.Ask v good = tt
by_limited names (word.Entitled half) v good = tt
by_limited names (word.Satisfied half) v good = tt
by_limited names word.Grant v good = tt
by_limited names (word.Wait which) v good = tt
by_limited names word.Ledger v good = tt
by_limited names word.End v good = tt

meant_limited : (names : Names) (row : Row) (o : Option Word) (line : Line) → meant_as names row o ≡ Some line → IsLimited names line
meant_limited names row None line h = absurd (some_none h)
meant_limited names row (Some w) line h = at (read names (fields_of w) row) refl h
  where
    at : (o : Option (Values (fields_of w))) → read names (fields_of w) row ≡ o → option_map (line_by w) o ≡ Some line → IsLimited names line
    at None is h = absurd (some_none h)
    at (Some v) is h = subst (IsLimited names) (some_is h) (by_limited names w v (read_good names (fields_of w) row v is))

meaning_limited : (whole : Bool) (names : Names) (row : Row) (line : Line) → meaning whole names row ≡ Some line → IsLimited names line
unfolding meaning
meaning_limited whole names row line h = meant_limited names row (word_in whole row) line h

said_limited : (whole : Bool) (names : Names) (rows : List Row) (lines : List Line) → AllZip (λ row line. meaning whole names row ≡ Some line) rows lines → AllByRecursion (IsLimited names) lines
said_limited whole names [] [] said = tt
said_limited whole names [] (line ∷ lines) said = absurd said
said_limited whole names (row ∷ rows) [] said = tt
said_limited whole names (row ∷ rows) (line ∷ lines) said = (meaning_limited whole names row line said.0, said_limited whole names rows lines said.1)

-- ---- the lines of a report, one part after another

front : {X : Type 0} (P : X → Type 0) (xs ys : List X) → AllByRecursion P (xs ++ ys) → AllByRecursion P xs
front P [] ys all = tt
front P (x ∷ xs) ys all = (all.0, front P xs ys all.1)

rest : {X : Type 0} (P : X → Type 0) (xs ys : List X) → AllByRecursion P (xs ++ ys) → AllByRecursion P ys
rest P [] ys all = all
rest P (x ∷ xs) ys all = rest P xs ys all.1

module _ (names : Names) where
  groups_below : (groups : List Set) → AllByRecursion (IsLimited names) (map HasGroup groups) → AllByRecursion (λ (group : Set). IsTrue (all_below (length names.resources) group)) groups
  groups_below [] all = tt
  groups_below (group ∷ groups) all = (all.0, groups_below groups all.1)

  acts_tellable : (acts : List (Act Edit)) → AllByRecursion (IsLimited names) (map Does acts) → AllByRecursion IsTellable acts
  acts_tellable [] all = tt
  acts_tellable (act ∷ acts) all = (all.0, acts_tellable acts all.1)

  entries_tellable : (whole : Bool) (bounds : WaitEnd → Numbers) (head : Head) (earlier entries : List Entry) → AllByRecursion (IsLimited names) (history_lines whole bounds head earlier entries)
      → AllByRecursion (λ (entry : Entry). AllByRecursion IsTellable entry.acts) entries
  unfolding history_lines
  entries_tellable whole bounds head earlier [] all = tt
  entries_tellable whole bounds head earlier (entry ∷ entries) all =
      let own = front (IsLimited names) (map Does entry.acts ++ due_lines whole bounds head earlier entry.event) (history_lines whole bounds head (earlier ++ entry ∷ []) entries) all.1 in (
        acts_tellable entry.acts (front (IsLimited names) (map Does entry.acts) (due_lines whole bounds head earlier entry.event) own),
        entries_tellable whole bounds head (earlier ++ entry ∷ []) entries
            (rest (IsLimited names) (map Does entry.acts ++ due_lines whole bounds head earlier entry.event) (history_lines whole bounds head (earlier ++ entry ∷ []) entries) all.1),
      )

some_length : {X : Type 0} (xs : List X) → is_nil xs ≡ false → 1 ≤ length xs
some_length [] h = absurd (true≢false h)
some_length (x ∷ xs) h = omega arith

cap_bounds : (head : Head) (told : Option ℕ) → IsHead head told → AllByRecursion (IsLimited (names_of head)) (map HasCap (option_to_list told)) → (1 ≤ head.cap) × (head.cap ≤ SEATS)
cap_bounds head None is all = subst (λ n. (1 ≤ n) × (n ≤ SEATS)) (sym is.cap) (some_length head.tasks is.some_task, table_length SEATS head.tasks is.tasks_named)
cap_bounds head (Some n) is all = subst (λ n. (1 ≤ n) × (n ≤ SEATS)) (sym is.cap) all.0

-- what records spell may be written
pub spelled_may_be : (whole : Bool) (rows : List Row) (r : Report) → Spells whole rows r → MayBeWritten r
spelled_may_be whole rows r spells =
    let P = IsLimited (names_of r.head) in
    let all = said_limited whole (names_of r.head) rows (lines_of whole (bound_in r.head r.entries) spells.told r) spells.said in
    let head = front P (map HasResource r.head.resources ++ (map HasGroup r.head.groups ++ (map HasTask r.head.tasks ++ map HasCap (option_to_list spells.told))))
    (history_lines whole (bound_in r.head r.entries) r.head [] r.entries ++ (ledger_lines whole r.head r.entries ++ Ends ∷ [])) all.1 in
    let tail = rest P (map HasResource r.head.resources ++ (map HasGroup r.head.groups ++ (map HasTask r.head.tasks ++ map HasCap (option_to_list spells.told))))
    (history_lines whole (bound_in r.head r.entries) r.head [] r.entries ++ (ledger_lines whole r.head r.entries ++ Ends ∷ [])) all.1 in
    let behind = rest P (map HasResource r.head.resources) (map HasGroup r.head.groups ++ (map HasTask r.head.tasks ++ map HasCap (option_to_list spells.told))) head in
    let caps = rest P (map HasTask r.head.tasks) (map HasCap (option_to_list spells.told)) (rest P (map HasGroup r.head.groups) (map HasTask r.head.tasks ++ map HasCap (option_to_list spells.told)) behind) in
    let bounds = cap_bounds r.head spells.told spells.head caps in
    record {
      head = record {
        resources_named = spells.head.resources_named;
        tasks_named = spells.head.tasks_named;
        grouped = spells.head.grouped;
        some_resource = spells.head.some_resource;
        some_task = spells.head.some_task;
        cap = refl;
      };
      cap_low = bounds.0;
      cap_high = bounds.1;
      groups = groups_below (names_of r.head) r.head.groups (front P (map HasGroup r.head.groups) (map HasTask r.head.tasks ++ map HasCap (option_to_list spells.told)) behind);
      lawful = spells.lawful;
      amounts = entries_tellable (names_of r.head) whole (bound_in r.head r.entries) r.head [] r.entries (front P (history_lines whole (bound_in r.head r.entries) r.head [] r.entries) (ledger_lines whole r.head r.entries ++ Ends ∷ []) tail);
    }
