-- An event that is read and not refused is accepted by the lock; and one that is accepted is not refused.
use Rattle.std.proofs.Common.{◌≡◌, ◌≢◌, ℕ, ◌^◌, ◌<◌, ◌≤◌, Bool, true, false, not, ◌==◌, cond, List, length, Option, Some, None, refl, sym, ap, subst, ◌∙◌, arith, IsTrue}
use Rattle.std.proofs.lemmas.Bool.{true≢false}
use Rattle.std.proofs.lemmas.Bool.Decides.{nat_tests}
use Rattle.std.specs.Prelude.{option_map}
use Rattle.std.specs.FinSet.{empty, union, len, empty_of_len, len-empty}
use Rattle.std.specs.Ordering.{nat_cmp}
use Rattle.rset.specs.Sets.{Set, all_below}
use Rattle.rset.proofs.SetLemmas.{all_below_empty, all_below_difference, difference_apart}
use Rattle.rclaim.specs.Requests.{RequestFields, asked_set, first_fits, FitsKind, FitsFirst, IsNormal, normalised}
use Rattle.rclaim.specs.declared.TheConstants.{LENGTH_LIMIT}
use Rattle.rclaim.specs.declared.request.Kind.{Kind}
use Rattle.rclaim.specs.declared.request.Kind.TheVariants.{Read, Write, Mixed, Upgrade, Nested}
use Rattle.rclaim.specs.declared.request.RequestErr.{RequestErr}
use Rattle.rclaim.specs.declared.request.RequestErr.TheVariants.{EmptyRequest, FirstOutside, Undeclared}
use Rattle.rclaim.specs.declared.event.Event.{Event}
use Rattle.rclaim.specs.declared.event.Event.TheVariants as event
use Rattle.rmodel.specs.Claims.{is_admitted}
use Rattle.rmodel.specs.State.{LockState}
use Rattle.rmodel.specs.Steps.{refusal, Comes}
use Rattle.rtrace_form.specs.Fields.{Names, Values, AllGood}
use Rattle.rtrace_form.specs.Words.{fields_of}
use Rattle.rtrace_form.specs.Lines.{Line, Happens, line_by}
use Rattle.rtrace_form.specs.Events.{request_refusal, refusal_by, refusal_in}
use Rattle.rtrace_form.specs.declared.word.Word.{Word}
use Rattle.rtrace_form.specs.declared.word.Word.TheVariants as word
use Rattle.rtrace_form.specs.declared.fault.Refusal.TheVariants.{Step}
use Rattle.rtrace_form.proofs.facts.Choices.{some_none}

no_refusal : {X : Type 0} (a b c : Bool) (x y z : X) → cond a (Some x) (cond (not b) (Some y) (cond c None (Some z))) ≡ None → (a ≡ false) × (b ≡ true) × (c ≡ true)
no_refusal true b c x y z h = absurd (some_none (sym h))
no_refusal false false c x y z h = absurd (some_none (sym h))
no_refusal false true true x y z h = (refl, refl, refl)
no_refusal false true false x y z h = absurd (some_none (sym h))

not_empty : (s : Set) → (len s == 0) ≡ false → s ≢ empty
not_empty s h e = true≢false (sym (ap (λ t. len t == 0) e ∙ ap (λ n. n == 0) (len-empty nat_cmp)) ∙ h)

has_members : (s : Set) → s ≢ empty → (len s == 0) ≡ false
has_members s h = elim (len s == 0) as (λ b. (len s == 0) ≡ b → b ≡ false) [ true ↦ λ e. absurd (h (empty_of_len s (grind (arith, nat_tests)))) | false ↦ λ _. refl ] refl

-- a request that is read in normal form, and that nothing refuses, is in normal form, and admitted
pub request_right : (groups : List Set) (kind : Kind) (reads writes first : Set) (len later : ℕ) → request_refusal groups (normalised kind reads writes first len later) ≡ None → len ≤ LENGTH_LIMIT → later ≤ LENGTH_LIMIT
    → IsNormal (normalised kind reads writes first len later) × IsTrue (is_admitted groups (normalised kind reads writes first len later))
request_right groups Read reads writes first n later h short late =
    let tests = no_refusal (len reads == 0) true _ EmptyRequest FirstOutside Undeclared h in
    (record { sets = (not_empty reads tests.0, refl); first = refl; len = short; later = refl }, tests.2)
request_right groups Write reads writes first n later h short late =
    let tests = no_refusal (len writes == 0) true _ EmptyRequest FirstOutside Undeclared h in
    (record { sets = (refl, not_empty writes tests.0); first = refl; len = short; later = refl }, tests.2)
request_right groups Mixed reads writes first n later h short late =
    let tests = no_refusal (len writes == 0) true _ EmptyRequest FirstOutside Undeclared h in
    (record { sets = (difference_apart reads writes, not_empty writes tests.0); first = refl; len = short; later = refl }, tests.2)
request_right groups Upgrade reads writes first n later h short late =
    let tests = no_refusal (len reads == 0) true _ EmptyRequest FirstOutside Undeclared h in
    (record { sets = (not_empty reads tests.0, refl); first = refl; len = short; later = late }, tests.2)
request_right groups Nested reads writes first n later h short late =
    let tests = no_refusal (len writes == 0) _ _ EmptyRequest FirstOutside Undeclared h in
    (record { sets = (difference_apart reads writes, not_empty writes tests.0); first = tests.1; len = short; later = refl }, tests.2)

pub some_set : (kind : Kind) (reads writes : Set) → FitsKind kind reads writes → (len (asked_set kind reads writes) == 0) ≡ false
some_set Read reads writes fits = has_members reads fits.0
some_set Write reads writes fits = has_members writes fits.1
some_set Mixed reads writes fits = has_members writes fits.1
some_set Upgrade reads writes fits = has_members reads fits.0
some_set Nested reads writes fits = has_members writes fits.1

pub fitting_first : (kind : Kind) (reads writes first : Set) → FitsFirst kind (union reads writes) first → first_fits kind reads writes first ≡ true
fitting_first Read reads writes first fits = refl
fitting_first Write reads writes first fits = refl
fitting_first Mixed reads writes first fits = refl
fitting_first Upgrade reads writes first fits = refl
fitting_first Nested reads writes first fits = fits

-- and one that is both is refused by nothing
pub right_request : (groups : List Set) (r : RequestFields) → IsNormal r → IsTrue (is_admitted groups r) → request_refusal groups r ≡ None
right_request groups r normal admitted =
    let some = some_set r.kind r.reads r.writes normal.sets in
    let part = fitting_first r.kind r.reads r.writes r.first normal.first in
    rw (some, part, admitted) refl

not_refused_by : (s : LockState) (e : Event) (o : Option RequestErr) → o ≡ None → refusal s e ≡ None → refusal_by s e o ≡ None
not_refused_by s e None p h = ap (option_map Step) h
not_refused_by s e (Some cause) p h = absurd (some_none (sym p))

-- an accepted event is not refused
pub accepted_free : (s : LockState) (e : Event) → Comes s e → refusal_in s e ≡ None
unfolding refusal_in
accepted_free s (event.Issue seat r) comes = not_refused_by s (event.Issue seat r) (request_refusal s.groups.groups r) (right_request s.groups.groups r comes.normal comes.fits.admitted) comes.accepted
accepted_free s (event.Finish seat) comes = ap (option_map Step) comes.accepted
accepted_free s (event.Rise seat) comes = ap (option_map Step) comes.accepted
accepted_free s (event.Ask seat part) comes = ap (option_map Step) comes.accepted

pub map_none : {X Y : Type 0} (f : X → Y) (o : Option X) → option_map f o ≡ None → o ≡ None
map_none f None h = refl
map_none f (Some x) h = absurd (some_none (sym h))

refused_by_none : (s : LockState) (e : Event) (o : Option RequestErr) → refusal_by s e o ≡ None → (o ≡ None) × (refusal s e ≡ None)
refused_by_none s e None h = (refl, map_none Step (refusal s e) h)
refused_by_none s e (Some cause) h = absurd (some_none (sym h))

pub kind_below : (q : ℕ) (kind : Kind) (reads writes first : Set) (n later : ℕ) → all_below q reads ≡ true → all_below q writes ≡ true
    → IsTrue (all_below q (normalised kind reads writes first n later).reads) × IsTrue (all_below q (normalised kind reads writes first n later).writes)
kind_below q Read reads writes first n later a b = (a, all_below_empty q)
kind_below q Write reads writes first n later a b = (all_below_empty q, b)
kind_below q Mixed reads writes first n later a b = (all_below_difference q reads writes a, b)
kind_below q Upgrade reads writes first n later a b = (a, all_below_empty q)
kind_below q Nested reads writes first n later a b = (all_below_difference q reads writes a, b)

-- the event of a line is accepted where it is not refused
abbrev pub MayCome : LockState → Line → Type 0
MayCome s (Happens e) = refusal_in s e ≡ None → Comes s e
MayCome s _ = Unit {0}

module _ (s : LockState) (names : Names) (resources : s.groups.q ≡ length names.resources) (tasks : s.seats ≡ length names.tasks) (stamps : s.issued < 2 ^ 63) where
  below : (set : Set) → all_below (length names.resources) set ≡ true → all_below s.groups.q set ≡ true
  below set h = ap (λ q. all_below q set) resources ∙ h

  seated : (seat : ℕ) → seat < length names.tasks → seat < s.seats
  seated seat h = subst (λ n. seat < n) (sym tasks) h

  issue_comes : (kind : Kind) (seat : ℕ) (reads writes first : Set) (len later : ℕ) → seat < length names.tasks
      → all_below (length names.resources) reads ≡ true → all_below (length names.resources) writes ≡ true → len ≤ LENGTH_LIMIT → later ≤ LENGTH_LIMIT
      → refusal_in s (event.Issue seat (normalised kind reads writes first len later)) ≡ None → Comes s (event.Issue seat (normalised kind reads writes first len later))
  unfolding refusal_in
  issue_comes kind seat reads writes first len later there a b short late free =
      let r : RequestFields = normalised kind reads writes first len later in
      let none = refused_by_none s (event.Issue seat r) (request_refusal s.groups.groups r) free in
      let right = request_right s.groups.groups kind reads writes first len later none.0 short late in
      let within = kind_below s.groups.q kind reads writes first len later (below reads a) (below writes b) in
      record {
        fits = record { seat_there = seated seat there; reads = within.0; writes = within.1; admitted = right.1; stamps = stamps };
        normal = right.0;
        accepted = none.1;
      }

  pub may_come : (w : Word) (v : Values (fields_of w)) → AllGood names (fields_of w) v → MayCome s (line_by w v)
  unfolding refusal_in
  may_come (word.Issue Read) v good =
      issue_comes Read v.0 v.1.0 empty empty v.1.1.0 0 good.0 good.1.0 (all_below_empty (length names.resources)) good.1.1.0 (omega arith)
  may_come (word.Issue Write) v good =
      issue_comes Write v.0 empty v.1.0 empty v.1.1.0 0 good.0 (all_below_empty (length names.resources)) good.1.0 good.1.1.0 (omega arith)
  may_come (word.Issue Mixed) v good = issue_comes Mixed v.0 v.1.0 v.1.1.0 empty v.1.1.1.0 0 good.0 good.1.0 good.1.1.0 good.1.1.1.0 (omega arith)
  may_come (word.Issue Upgrade) v good =
      issue_comes Upgrade v.0 v.1.0 empty empty v.1.1.0 v.1.1.1.0 good.0 good.1.0 (all_below_empty (length names.resources)) good.1.1.0 good.1.1.1.0
  may_come (word.Issue Nested) v good =
      issue_comes Nested v.0 v.1.0 v.1.1.0 v.1.1.1.0 v.1.1.1.1.0 0 good.0 good.1.0 good.1.1.0 good.1.1.1.1.0 (omega arith)
  may_come word.Finish v good = λ free. record { fits = seated v.0 good.0; normal = tt; accepted = map_none Step _ free }
  may_come word.Rise v good = λ free. record { fits = seated v.0 good.0; normal = tt; accepted = map_none Step _ free }
  may_come word.Ask v good = λ free. record { fits = (seated v.0 good.0, below v.1.0 good.1.0); normal = tt; accepted = map_none Step _ free }
  may_come word.Version v good = tt
  may_come word.Resource v good = tt
  may_come word.Group v good = tt
  may_come word.Task v good = tt
  may_come word.Cap v good = tt
  may_come word.Show v good = tt
  may_come (word.Add done) v good = tt
  may_come (word.Take done) v good = tt
  may_come (word.Put done) v good = tt
  may_come (word.Entitled write_half) v good = tt
  may_come (word.Satisfied write_half) v good = tt
  may_come word.Grant v good = tt
  may_come (word.Wait which) v good = tt
  may_come word.Ledger v good = tt
  may_come word.End v good = tt
