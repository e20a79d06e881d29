-- All lines of a report that may be written may be written themselves.
use Rattle.std.proofs.Common.{◌≡◌, ℕ, zero, suc, ◌+◌, ◌≤◌, ◌<◌, true, List, [], ◌∷◌, ◌++◌, length, map, Some, refl, sym, subst, ◌∙◌, arith, append_assoc, IsTrue}
use Rattle.std.specs.List.{AllByRecursion, range_with_len}
use Rattle.rset.specs.Sets.{Set, all_below}
use Rattle.rset.specs.declared.TheConstants.{RESOURCES, SEATS}
use Rattle.rset.proofs.NameLemmas.{table_names}
use Rattle.rclaim.specs.Events.{seat_of}
use Rattle.rbound.specs.Bounds.{Numbers}
use Rattle.rcover_laws.specs.declared.wait_end.WaitEnd.{WaitEnd}
use Rattle.rmodel.specs.State.{LockState}
use Rattle.rmodel.specs.Steps.{next}
use Rattle.rmodel.specs.StateLaws.{IsBelow}
use Rattle.rmodel.specs.declared.claimed.Claimed.{Claimed}
use Rattle.rvalue.specs.Acts.{IsAnsweredAfter}
use Rattle.rvalue.specs.InTurn.{AllInTurn}
use Rattle.rvalue.specs.Lawful.{is_held}
use Rattle.rvalue.specs.Ledgers.{opening_ledger, is_taken, value_after}
use Rattle.rvalue.specs.declared.act.Act.{Act}
use Rattle.rvalue.specs.declared.act.Act.TheVariants.{Edited, Shown}
use Rattle.rvalue.specs.declared.ledger.Edit.{Edit}
use Rattle.rvalue.specs.declared.ledger.Ledger.{Ledger}
use Rattle.rvalue.proofs.InTurnLemmas.{AllInTurn-longer}
use Rattle.rtrace_form.specs.Heads.{Head, names_of, read_groups}
use Rattle.rtrace_form.specs.Lines.{Line, Does, Leaves, Ends, IsWritable}
use Rattle.rtrace_form.specs.Reports.{Entry, Report, Spells, head_lines, lines_of, lock_after, ledger_after, reads_of, writes_of, change_lines, wait_lines, due_lines, entry_lines, history_lines, ledger_lines, IsLawful, IsRightEntry}
use Rattle.rtrace_form.specs.Waits.{bound_in}
use Rattle.rtrace_form.specs.Written.{IsTellable, MayBeWritten, report_rows}
use Rattle.rtrace_form.proofs.lists.Histories.{lock-resources, lock-tasks}
use Rattle.rtrace_form.proofs.written.Back.{said_back}
use Rattle.rtrace_form.proofs.written.GoodLines.{all_both, head_good, event_good, IsShort, act_good, changes_good}
use Rattle.rtrace_form.proofs.written.Limits.{ledger_limited, within_limited}
use Rattle.rtrace_form.proofs.waits.GoodWaits.{waits_writable}
use Rattle.rtrace_form.proofs.written.Reaching.{lock-push, inside, holds_reads, holds_writes}

module _ (head : Head) where
  abbrev AreWritable : List Line → Type 0
  AreWritable lines = AllByRecursion (IsWritable (names_of head)) lines

  -- the number of a show is that of a ledger
  answer_short : (entries : List Entry) (earlier : List (Act Edit)) (act : Act Edit)
      → IsAnsweredAfter value_after is_taken (λ (l : Ledger). l.balance) (λ l. ledger_after entries l) earlier act → IsShort head act
  answer_short entries earlier (Shown place number) answered = let limit = (within_limited entries earlier place).balance in omega (arith, answered, limit)
  answer_short entries earlier (Edited place e done) answered = tt

  acts_good : (entries : List Entry) (reads writes : Set) → all_below (length head.resources) reads ≡ true → all_below (length head.resources) writes ≡ true → (earlier acts : List (Act Edit))
      → AllByRecursion (λ act. IsTrue (is_held reads writes act)) acts → AllByRecursion IsTellable acts
      → AllInTurn (IsAnsweredAfter value_after is_taken (λ (l : Ledger). l.balance) (λ l. ledger_after entries l)) earlier acts → AreWritable (map Does acts)
  acts_good entries reads writes a b earlier [] held tellable answers = tt
  acts_good entries reads writes a b earlier (act ∷ acts) held tellable answers = (
    act_good head reads writes a b act held.0 tellable.0 (answer_short entries earlier act answers.0),
    acts_good entries reads writes a b (earlier ++ act ∷ []) acts held.1 tellable.1 answers.1,
  )

  module _ (bounds : WaitEnd → Numbers) (all : List Entry) (waits : (earlier : List Entry) (entry : Entry) (rest : List Entry) → earlier ++ entry ∷ rest ≡ all → AreWritable (wait_lines true bounds head earlier entry.event)) where
    entry_good : (earlier : List Entry) (entry : Entry) → IsLawful head earlier → IsLawful head (earlier ++ entry ∷ []) → IsRightEntry head earlier entry → AllByRecursion IsTellable entry.acts
        → AreWritable (wait_lines true bounds head earlier entry.event) → AreWritable (entry_lines true bounds head earlier entry)
    unfolding change_lines
    entry_good earlier entry before lawful right tellable ended =
        let s = lock_after head earlier in
        let now = inside head earlier before in
        let then = subst (λ (t : LockState). AllByRecursion (IsBelow (read_groups head)) t.claims) (lock-push head earlier entry) (inside head (earlier ++ entry ∷ []) lawful).below in
        let seated = subst (λ (t : LockState). AllByRecursion (λ (x : Claimed). x.claim.seat < length head.tasks) t.claims) (lock-push head earlier entry) (inside head (earlier ++ entry ∷ []) lawful).seated in
        let seat = seat_of entry.event in (
          event_good head s entry.event (lock-resources head earlier) (lock-tasks head earlier) right.comes,
          all_both (IsWritable (names_of head)) (map Does entry.acts) (due_lines true bounds head earlier entry.event)
              (acts_good earlier (reads_of s seat) (writes_of s seat) (holds_reads (read_groups head) seat s.claims now.below) (holds_writes (read_groups head) seat s.claims now.below) [] entry.acts
              right.held tellable (right.answers (λ l. opening_ledger) (λ l value is. sym is)))
              (all_both (IsWritable (names_of head)) (change_lines true s entry.event) (wait_lines true bounds head earlier entry.event) (changes_good head s (next s entry.event) seated then) ended),
        )

    history_good : (earlier entries : List Entry) → earlier ++ entries ≡ all → IsLawful head earlier → AllInTurn (IsRightEntry head) earlier entries → AllByRecursion (λ (x : Entry). AllByRecursion IsTellable x.acts) entries
        → AreWritable (history_lines true bounds head earlier entries)
    unfolding history_lines
    history_good earlier [] same before lawful tellable = tt
    history_good earlier (entry ∷ entries) same before lawful tellable =
        let longer : IsLawful head (earlier ++ entry ∷ []) = (AllInTurn-longer (IsRightEntry head) earlier entry).1 (before, lawful.0) in
        all_both (IsWritable (names_of head)) (entry_lines true bounds head earlier entry) (history_lines true bounds head (earlier ++ entry ∷ []) entries)
        (entry_good earlier entry before longer lawful.0 tellable.0 (waits earlier entry entries same))
        (history_good (earlier ++ entry ∷ []) entries (append_assoc earlier (entry ∷ []) entries ∙ same) longer lawful.1 tellable.1)

  ledgers_good : (entries : List Entry) → AreWritable (ledger_lines true head entries)
  unfolding ledger_lines
  ledgers_good entries = each 0 (length head.resources) (omega arith)
    where
      each : (low n : ℕ) → low + n ≤ length head.resources → AreWritable (map (λ l. Leaves l (ledger_after entries l)) (range_with_len low n))
      each low zero fits = tt
      each low (suc n) fits =
          let limit = ledger_limited entries low in
          let balance = limit.balance in
          let edits = limit.edits in
          (record { good = (omega (arith, fits), (omega (arith, balance), (omega (arith, edits), tt))); normal = tt; named = tt }, each (low + 1) n (omega (arith, fits)))

-- each line of such a report may be written
pub lines_writable : (r : Report) → MayBeWritten r → AllByRecursion (IsWritable (names_of r.head)) (lines_of true (bound_in r.head r.entries) (Some r.head.cap) r)
lines_writable r h =
    let names = names_of r.head in
    let bounds = bound_in r.head r.entries in
    let history = history_lines true bounds r.head [] r.entries in
    let ledgers = ledger_lines true r.head r.entries in
    all_both (IsWritable names) (head_lines r.head (Some r.head.cap)) (history ++ (ledgers ++ Ends ∷ []))
    (head_good r.head (table_names RESOURCES r.head.resources h.head.resources_named) (table_names SEATS r.head.tasks h.head.tasks_named) h.cap_low h.cap_high h.groups)
    (all_both (IsWritable names) history (ledgers ++ Ends ∷ []) (history_good r.head bounds r.entries (waits_writable r.head r.entries h.lawful h.cap_low h.cap_high) [] r.entries refl tt h.lawful h.amounts)
    (all_both (IsWritable names) ledgers (Ends ∷ []) (ledgers_good r.head r.entries) (record { good = tt; normal = tt; named = tt }, tt)))

pub written_spells : (r : Report) → MayBeWritten r → Spells true (report_rows r) r
written_spells r h = record {
  told = Some r.head.cap;
  said = said_back (names_of r.head) (record { resources = h.head.resources_named; tasks = h.head.tasks_named }) (lines_of true (bound_in r.head r.entries) (Some r.head.cap) r) (lines_writable r h);
  head = h.head;
  lawful = h.lawful;
}
