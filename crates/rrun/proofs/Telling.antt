-- The report of a run may be written: each act of its history carries out a statement of the script, whose amounts fit
-- in a field.
use Rattle.std.proofs.Common.{◌≡◌, ◌<◌, ◌^◌, ◌==◌, ℕ, zero, suc, ◌-◌, Bool, true, false, cond, List, [], ◌∷◌, ◌++◌, map, take, length, Option, Some, None, refl, sym, ap, subst, ◌∙◌, arith}
use Rattle.std.proofs.lemmas.Bool.{eq-eqb}
use Rattle.std.specs.List.{AllByRecursion}
use Rattle.std.specs.Prelude.{IsTrue}
use Rattle.rset.specs.Sets.{Set, all_below}
use Rattle.rset.specs.Names.{is_table}
use Rattle.rset.specs.declared.TheConstants.{RESOURCES, SEATS}
use Rattle.rset.proofs.NameLemmas.{table_length}
use Rattle.rclaim.specs.Events.{seat_of}
use Rattle.rclaim.specs.declared.event.Event.{Event}
use Rattle.rclaim.specs.declared.event.Event.TheVariants as events
use Rattle.rlock.specs.Known.{entries_by}
use Rattle.rmodel.specs.State.{LockState}
use Rattle.rmodel.specs.Steps.{Fits}
use Rattle.rmodel.proofs.ListFacts.{in_filter, all_at, all_from, all_append}
use Rattle.rvalue.specs.InTurn.{AllInTurn}
use Rattle.rvalue.specs.declared.act.Act.{Act}
use Rattle.rvalue.specs.declared.act.Act.TheVariants.{Edited, Shown}
use Rattle.rvalue.specs.declared.ledger.Edit.{Edit}
use Rattle.rvalue.specs.declared.ledger.Edit.TheVariants as edit
use Rattle.rvalue.specs.Entries.{EntryFields}
use Rattle.rstate.proofs.homes.Lists.{get_there}
use Rattle.rtrace_form.specs.Heads.{Head, is_nil, are_read_groups}
use Rattle.rtrace_form.specs.Reports.{IsRightEntry, lock_after}
use Rattle.rtrace_form.specs.Written.{IsTellable, MayBeWritten}
use Rattle.rtrace_form.proofs.lists.Histories.{lock-tasks}
use Rattle.rtrace_write.specs.Report.{ReportFields, told_by as report_told}
use Rattle.rtrace_write.proofs.Counts.{some_length}
use Rattle.rscript.specs.declared.section.OpenSection.{OpenSection}
use Rattle.rrun.specs.Statements.{FitsBehind, IsWithin, amount_of, section_after}
use Rattle.rrun.specs.Statement.{Statement}
use Rattle.rrun.specs.Statement.TheVariants as statement
use Rattle.rrun.specs.Scripts.{ScriptFields, IsScript}
use Rattle.rrun.proofs.Tasks.{task_at}
use Rattle.rrun.specs.Reporting.{HasTold, IsReportOfRun}
use Rattle.rrun.specs.Runs.{Told, told_by, deed_of, deeds_next, entry_now, run_of, part_of, broken_off}
use Rattle.rrun.specs.Sections.{ends_section, first_sections, behind_sections, first_section, section_at}

-- ---- statements

-- the amount of a statement, if it has one, fits in a field
abbrev HasAmount : Statement → Type 0
HasAmount (statement.Begin r) = Unit {0}
HasAmount (statement.Edit place edit) = amount_of edit < 2 ^ 64
HasAmount (statement.Show place) = Unit {0}
HasAmount (statement.Ask part) = Unit {0}
HasAmount statement.Rise = Unit {0}
HasAmount statement.Finish = Unit {0}

of_within : (q : ℕ) (s : Statement) → IsWithin q s → HasAmount s
of_within q (statement.Begin r) within = tt
of_within q (statement.Edit place edit) within = within.1
of_within q (statement.Show place) within = tt
of_within q (statement.Ask part) within = tt
of_within q statement.Rise within = tt
of_within q statement.Finish within = tt

of_turns : (q : ℕ) (groups : List Set) (earlier ss : List Statement) → AllInTurn (FitsBehind q groups) earlier ss → AllByRecursion HasAmount ss
of_turns q groups earlier [] turns = tt
of_turns q groups earlier (s ∷ ss) turns = (of_within q s turns.0.within, of_turns q groups (earlier ++ s ∷ []) ss turns.1)

-- ---- the entries that statements make

-- the same of all acts of an entry
abbrev HasAmounts : Told → Type 0
HasAmounts t = AllByRecursion HasAmount t.deeds

now_has : (n : ℕ) (deeds : List Statement) (s : Statement) → AllByRecursion HasAmount deeds → AllByRecursion HasAmounts (entry_now n deeds s)
now_has n deeds (statement.Begin r) before = (tt, tt)
now_has n deeds (statement.Edit place edit) before = tt
now_has n deeds (statement.Show place) before = tt
now_has n deeds (statement.Ask part) before = (tt, tt)
now_has n deeds statement.Rise before = (before, tt)
now_has n deeds statement.Finish before = (before, tt)

next_has : (deeds : List Statement) (s : Statement) → AllByRecursion HasAmount deeds → HasAmount s → AllByRecursion HasAmount (deeds_next deeds s)
next_has deeds (statement.Begin r) before here = tt
next_has deeds (statement.Edit place edit) before here = all_append HasAmount deeds (statement.Edit place edit ∷ []) before (here, tt)
next_has deeds (statement.Show place) before here = all_append HasAmount deeds (statement.Show place ∷ []) before (tt, tt)
next_has deeds (statement.Ask part) before here = before
next_has deeds statement.Rise before here = tt
next_has deeds statement.Finish before here = tt

run_has : (n : ℕ) (deeds ss : List Statement) → AllByRecursion HasAmount deeds → AllByRecursion HasAmount ss → AllByRecursion HasAmounts (run_of n deeds ss)
run_has n deeds [] before all = tt
run_has n deeds (s ∷ ss) before all =
    all_append HasAmounts (entry_now n deeds s) (run_of n (deeds_next deeds s) ss) (now_has n deeds s before) (run_has n (deeds_next deeds s) ss (next_has deeds s before all.0) all.1)

-- a section that is broken off has no acts
broken_has : (n : ℕ) (section : Option OpenSection) → AllByRecursion HasAmounts (broken_off n section)
broken_has n None = tt
broken_has n (Some section) = (tt, tt)

front_has : (count : ℕ) (ss : List Statement) → AllByRecursion HasAmount ss → AllByRecursion HasAmount (take count ss)
front_has zero ss all = tt
front_has (suc count) [] all = tt
front_has (suc count) (s ∷ ss) all = (all.0, front_has count ss all.1)

-- ---- sections

either_has : (b : Bool) (xs ys : List Statement) → AllByRecursion HasAmount xs → AllByRecursion HasAmount ys → AllByRecursion HasAmount (cond b xs ys)
either_has true xs ys all others = all
either_has false xs ys all others = others

first_has : (k : ℕ) (ss : List Statement) → AllByRecursion HasAmount ss → AllByRecursion HasAmount (first_sections k ss)
first_has k [] all = tt
first_has k (s ∷ ss) all = either_has (k == 0) [] (s ∷ first_sections (cond (ends_section s) (k - 1) k) ss) tt (all.0, first_has (cond (ends_section s) (k - 1) k) ss all.1)

behind_has : (k : ℕ) (ss : List Statement) → AllByRecursion HasAmount ss → AllByRecursion HasAmount (behind_sections k ss)
behind_has k [] all = tt
behind_has k (s ∷ ss) all = either_has (k == 0) (s ∷ ss) (behind_sections (cond (ends_section s) (k - 1) k) ss) all (behind_has (cond (ends_section s) (k - 1) k) ss all.1)

one_has : (ss : List Statement) → AllByRecursion HasAmount ss → AllByRecursion HasAmount (first_section ss)
one_has [] all = tt
one_has (s ∷ ss) all = (all.0, either_has (ends_section s) [] (first_section ss) tt (one_has ss all.1))

part_has : (n : ℕ) (front : List Statement) → AllByRecursion HasAmount front → AllByRecursion HasAmounts (part_of n front)
part_has n front all = all_append HasAmounts (run_of n [] front) (broken_off n (section_after front)) (run_has n [] front tt all) (broken_has n (section_after front))

-- ---- entries and their acts

abbrev IsTellableEntry : EntryFields Edit → Type 0
IsTellableEntry entry = AllByRecursion IsTellable entry.acts

act_tellable : (act : Act Edit) → HasAmount (deed_of act) → IsTellable act
act_tellable (Edited place (edit.Add n) done) has = has
act_tellable (Edited place (edit.Take n) done) has = has
act_tellable (Edited place (edit.Set n) done) has = has
act_tellable (Shown place number) has = tt

acts_tellable : (acts : List (Act Edit)) → AllByRecursion HasAmount (map deed_of acts) → AllByRecursion IsTellable acts
acts_tellable [] has = tt
acts_tellable (act ∷ acts) has = (act_tellable act has.0, acts_tellable acts has.1)

entries_tellable : (entries : List (EntryFields Edit)) → AllByRecursion HasAmounts (map told_by entries) → AllByRecursion IsTellableEntry entries
entries_tellable [] has = tt
entries_tellable (entry ∷ entries) has = (acts_tellable entry.acts has.0, entries_tellable entries has.1)

-- the acts of a task that has run, or has run in part
task_tellable : (o : Option ℕ) (n : ℕ) (ss : List Statement) (entries : List (EntryFields Edit)) → AllByRecursion HasAmount ss → HasTold o n ss entries → AllByRecursion IsTellableEntry entries
task_tellable None n ss entries all ran = entries_tellable entries (subst (AllByRecursion HasAmounts) (sym ran) (run_has n [] ss tt all))
task_tellable (Some k) n ss entries all part =
    let whole = first_sections k ss in
    let front = take part.count (section_at k ss) in
    entries_tellable entries (subst (AllByRecursion HasAmounts) (sym part.are)
    (all_append HasAmounts (run_of n [] whole) (part_of n front) (run_has n [] whole tt (first_has k ss all)) (part_has n front (front_has part.count (section_at k ss) (one_has (behind_sections k ss) (behind_has k ss all))))))

-- ---- each entry of a lawful history is of a task

seat_there : (s : LockState) (e : Event) → Fits s e → seat_of e < s.seats
seat_there s (events.Issue seat r) fits = fits.seat_there
seat_there s (events.Finish seat) fits = fits
seat_there s (events.Rise seat) fits = fits
seat_there s (events.Ask seat part) fits = fits.0

seats_there : (head : Head) (earlier entries : List (EntryFields Edit)) → AllInTurn (IsRightEntry head) earlier entries → AllByRecursion (λ (entry : EntryFields Edit). seat_of entry.event < length head.tasks) entries
seats_there head earlier [] turns = tt
seats_there head earlier (entry ∷ entries) turns = (
  subst (λ n. seat_of entry.event < n) (lock-tasks head earlier) (seat_there (lock_after head earlier) entry.event turns.0.comes.fits),
  seats_there head (earlier ++ entry ∷ []) entries turns.1,
)

-- ---- the report

module _ (p : ScriptFields) (script : IsScript p) (stopped : List (Option ℕ)) (r : ReportFields) (run : IsReportOfRun p stopped r) where
  -- the entries of a task are the run of its statements, or of a part of them
  by_task : (k : ℕ) → k < length p.tasks → AllByRecursion IsTellableEntry (entries_by (λ (entry : EntryFields Edit). seat_of entry.event) k r.entries)
  by_task k less =
      let statements = get_there p.steps k (subst (λ n. k < n) (sym script.paired) less) in
      let all = of_turns (length p.resources) p.groups [] statements.0 (task_at p k statements.0 script statements.1).turns in
      let it = get_there stopped k (subst (λ n. k < n) (sym run.count) less) in
      task_tellable it.0 k statements.0 (entries_by (λ (entry : EntryFields Edit). seat_of entry.event) k r.entries) all (run.is.each k statements.0 statements.1 it.0 it.1)

  -- and each entry belongs to a task
  amounts : AllByRecursion IsTellableEntry r.entries
  amounts = all_from IsTellableEntry r.entries (λ entry there.
      let k = seat_of entry.event in
      let less : k < length r.tasks = all_at (λ (e : EntryFields Edit). seat_of e.event < length r.tasks) r.entries entry (seats_there (report_told r).head [] r.entries run.is.lawful) there in
      all_at IsTellableEntry (entries_by (λ (e : EntryFields Edit). seat_of e.event) k r.entries) entry (by_task k (subst (λ (names : List (List ℕ)). k < length names) run.is.head.tasks less))
      (in_filter (λ (e : EntryFields Edit). seat_of e.event == k) r.entries entry there (eq-eqb k k refl)))

  pub may_be_written : MayBeWritten (report_told r)
  may_be_written =
      let cap = run.is.head.cap in
      let some = some_length p.tasks script.some_task in
      let few = table_length SEATS p.tasks script.tasks in
      record {
        head = record {
          resources_named = ap (is_table RESOURCES) run.is.head.resources ∙ script.resources;
          tasks_named = ap (is_table SEATS) run.is.head.tasks ∙ script.tasks;
          grouped = ap (λ g. are_read_groups g.groups) run.is.head.groups ∙ script.groups;
          some_resource = ap (λ (names : List (List ℕ)). is_nil names) run.is.head.resources ∙ script.some_resource;
          some_task = ap (λ (names : List (List ℕ)). is_nil names) run.is.head.tasks ∙ script.some_task;
          cap = refl;
        };
        cap_low = omega (arith, cap, some);
        cap_high = omega (arith, cap, few);
        groups = by_names run.is.head.resources (ap (λ g. g.groups) run.is.head.groups);
        lawful = run.is.lawful;
        amounts = amounts;
      }
    where
      by_names : {names : List (List ℕ)} {groups : List Set} → names ≡ p.resources → groups ≡ p.groups → AllByRecursion (λ (group : Set). IsTrue (all_below (length names) group)) groups
      by_names {names} {groups} named grouped =
          subst (λ (gs : List Set). AllByRecursion (λ (group : Set). IsTrue (all_below (length names) group)) gs) (sym grouped)
          (subst (λ (ns : List (List ℕ)). AllByRecursion (λ (group : Set). IsTrue (all_below (length ns) group)) p.groups) (sym named) script.within)
