use Rattle.std.proofs.Common.{◌≡◌, ◌≤◌, ◌++◌, drop, length}
use Rattle.rmodel.specs.Changes.{status_changes, grant_changes}
use Rattle.rplain.proofs.tell.tell_changes.Given as goal

abbrev pub invariant-loop-i : goal.invariant-loop-i
invariant-loop-i l = record {
  statuses : l.changes.statuses ++ status_changes (drop l.i l.before) (drop l.i l.claims) ≡ status_changes l.before l.claims;
  grants : l.changes.grants ++ grant_changes (drop l.i l.before) (drop l.i l.claims) ≡ grant_changes l.before l.claims;
  few_statuses : length l.changes.statuses ≤ l.i;
  few_grants : length l.changes.grants ≤ l.i;
}
