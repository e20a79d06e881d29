-- Each change in a lawful history has its line, since no change is to waiting.
use Rattle.std.proofs.Common.{◌≡◌, ℕ, Bool, true, cond, List, [], ◌∷◌, ◌++◌, map, length, refl, sym, ap, subst, true≢false}
use Rattle.std.specs.Prelude.{flat_map}
use Rattle.rclaim.specs.declared.changes.StatusChange.{StatusChange}
use Rattle.rclaim.specs.declared.claim.Status.{Status}
use Rattle.rclaim.specs.declared.claim.Status.TheVariants.{Waiting, Entitled, Satisfied}
use Rattle.rmodel.specs.Changes.{changes_between, AreActive}
use Rattle.rmodel.specs.Claims.{active_by, satisfied_by}
use Rattle.rmodel.specs.State.{LockState}
use Rattle.rmodel.specs.Steps.{next, Comes}
use Rattle.rmodel.proofs.theorems.HistoryLaws.{none_is_told_to_wait}
use Rattle.rvalue.proofs.InTurnLemmas.{AllInTurn-longer}
use Rattle.rtrace_form.specs.Heads.{Head, read_groups, opening_of}
use Rattle.rtrace_form.specs.Lines.{Line, BecomesEntitled, BecomesSatisfied}
use Rattle.rtrace_form.specs.Reports.{Entry, lock_after, status_lines, status_line, grant_line, change_lines, IsLawful, IsRightEntry, EachChangeIsTold}
use Rattle.rtrace_form.proofs.written.Reaching.{after_is, accepted_from}

one_told : (seat : ℕ) (half : Bool) (status : Status) → active_by status ≡ true
    → status_lines seat half status ≡ cond (satisfied_by status) (BecomesSatisfied seat half) (BecomesEntitled seat half) ∷ []
one_told seat half Waiting h = absurd (true≢false (sym h))
one_told seat half Entitled h = refl
one_told seat half Satisfied h = refl

all_told : (changes : List StatusChange) → AreActive changes → flat_map (λ (c : StatusChange). status_lines c.seat c.write_half c.status) changes ≡ map status_line changes
all_told [] active = refl
all_told (c ∷ changes) active = λ i. one_told c.seat c.write_half c.status active.0 i ++ all_told changes active.1 i

pub each_told : (head : Head) (earlier : List Entry) (entry : Entry) → IsLawful head (earlier ++ entry ∷ []) → EachChangeIsTold (lock_after head earlier) entry.event
unfolding change_lines
each_told head earlier entry lawful =
    let parts = (AllInTurn-longer (IsRightEntry head) earlier entry).0 lawful in
    let events = map (λ (y : Entry). y.event) earlier in
    let same = after_is (opening_of head) events in
    let s = lock_after head earlier in
    let active : AreActive (changes_between s (next s entry.event)).statuses =
    subst (λ (t : LockState). AreActive (changes_between t (next t entry.event)).statuses) same
    (none_is_told_to_wait (read_groups head) (length head.tasks) head.cap events entry.event (accepted_from head [] earlier parts.0)
    (subst (λ (t : LockState). Comes t entry.event) (sym same) parts.1.comes)) in
    ap (λ (lines : List Line). lines ++ map grant_line (changes_between s (next s entry.event)).grants) (all_told (changes_between s (next s entry.event)).statuses active)
