-- The report of a run keeps the headline.
use Rattle.std.proofs.Common.{◌≡◌, ℕ, ◌<◌, zero, suc, true, List, [], ◌∷◌, length, Some, refl, sym, subst, ◌∙◌, arith, true≢false}
use Rattle.std.specs.Prelude.{slice_get}
use Rattle.std.specs.List.{AllByRecursion}
use Rattle.rclaim.specs.Events.{seat_of}
use Rattle.rmodel.specs.declared.claimed.Claimed.{Claimed}
use Rattle.rmodel.specs.State.{LockState}
use Rattle.rmodel.proofs.ListFacts.{all_at, all_from}
use Rattle.rmodel.proofs.reaching.Reached.{reached_opening}
use Rattle.rlock.specs.Known.{entries_by}
use Rattle.rscript.specs.declared.statement.Statement.{Statement}
use Rattle.rrun.specs.Scripts.{ScriptFields, IsScript}
use Rattle.rrun.proofs.Tasks.{task_at}
use Rattle.rrun.specs.Runs.{IsRunOf}
use Rattle.rtrace_form.specs.Heads.{read_groups, opening_of}
use Rattle.rtrace_form.specs.Reports.{Entry, Report, lock_after}
use Rattle.rtrace_form.specs.Waits.{events_of}
use Rattle.rtrace_form.specs.Written.{MayBeWritten}
use Rattle.rtrace_form.proofs.written.Reaching.{after_is, accepted_from, inside}
use Rattle.rnlp_cli.specs.Headline.{IsHeadline}
use Rattle.rnlp_cli.proofs.Beforehand.{same_needs}
use Rattle.rnlp_cli.proofs.Keeping.{kept}
use Rattle.rnlp_cli.proofs.OpenRequests.{is_open, all_open, none_open}

abbrev maker : Entry → ℕ
maker entry = seat_of entry.event

item_at : {A : Type 0} (xs : List A) (k : ℕ) → k < length xs → (x : A) × (slice_get xs k ≡ Some x)
item_at [] k low = absurd (omega (arith, low))
item_at (x ∷ xs) zero low = (x, refl)
item_at (x ∷ xs) (suc k) low = item_at xs k (omega (arith, low))

empty_of : {A : Type 0} (xs : List A) → AllByRecursion (λ x. ⊥) xs → xs ≡ []
empty_of [] none = refl
empty_of (x ∷ xs) none = absurd none.0

module _ (p : ScriptFields) (r : Report) (script : IsScript p) (may : MayBeWritten r) (tasks : r.head.tasks ≡ p.tasks)
    (each : (task : ℕ) (statements : List Statement) → slice_get p.steps task ≡ Some statements → IsRunOf task statements (entries_by maker task r.entries)) where
  -- no claim of the last state has a request left to finish
  none_there : (x : Claimed) → x.claim.seat < length r.head.tasks → is_open (events_of r.entries) x.claim.seat ≡ true → ⊥
  none_there x low busy =
      let found = item_at p.steps x.claim.seat (subst (λ n. x.claim.seat < n) (sym script.paired) (subst (λ (names : List (List ℕ)). x.claim.seat < length names) tasks low)) in
      true≢false (sym busy ∙ none_open x.claim.seat found.0 r.entries (task_at p x.claim.seat found.0 script found.1).closed (each x.claim.seat found.0 found.1))

  pub over : (lock_after r.head r.entries).claims ≡ []
  over =
      let s = lock_after r.head r.entries in
      let busy =
      subst (λ (t : LockState). AllByRecursion (λ (x : Claimed). is_open (events_of r.entries) x.claim.seat ≡ true) t.claims) (after_is (opening_of r.head) (events_of r.entries))
      (all_open (opening_of r.head) [] (events_of r.entries) (reached_opening (read_groups r.head) (length r.head.tasks) r.head.cap) (accepted_from r.head [] r.entries may.lawful) tt) in
      let low = (inside r.head r.entries may.lawful).seated in
      empty_of s.claims
      (all_from (λ (x : Claimed). ⊥) s.claims
      (λ (x : Claimed) there. none_there x (all_at (λ (y : Claimed). y.claim.seat < length r.head.tasks) s.claims x low there) (all_at (λ (y : Claimed). is_open (events_of r.entries) y.claim.seat ≡ true) s.claims x busy there)))

pub headline : (p : ScriptFields) (r : Report) → IsScript p → MayBeWritten r → r.head.resources ≡ p.resources → r.head.groups ≡ p.groups → r.head.tasks ≡ p.tasks → r.head.cap ≡ length p.tasks
    → ((task : ℕ) (statements : List Statement) → slice_get p.steps task ≡ Some statements → IsRunOf task statements (entries_by maker task r.entries)) → IsHeadline p r
headline p r script may resources groups tasks cap each = record {
  resources = resources;
  groups = groups;
  tasks = tasks;
  cap = cap;
  requests = each;
  needs = same_needs p r script.paired resources groups tasks each;
  kept = kept r may;
  over = over p r script may tasks each;
}
