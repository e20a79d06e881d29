-- What there is of the lock after the entries of a lawful history.
use Rattle.std.proofs.Common.{◌≡◌, ℕ, ◌<◌, Bool, true, false, cond, ◌==◌, List, [], ◌∷◌, ◌++◌, length, map, fold, refl, ap, subst, ◌∙◌}
use Rattle.std.specs.List.{AllByRecursion}
use Rattle.std.proofs.lemmas.List.{map-append}
use Rattle.std.proofs.lemmas.List.Sums.{fold_push}
use Rattle.rset.specs.Sets.{all_below}
use Rattle.rset.proofs.SetLemmas.{all_below_empty, all_below_union, all_below_intersection}
use Rattle.rclaim.specs.declared.event.Event.{Event}
use Rattle.rexpand.specs.Groups.{ReadGroups}
use Rattle.rmodel.specs.Claims.{is_nested, is_satisfied}
use Rattle.rmodel.specs.Holds.{held_by, holds_of, both, nothing}
use Rattle.rmodel.specs.State.{LockState}
use Rattle.rmodel.specs.StateLaws.{IsBelow}
use Rattle.rmodel.specs.Steps.{next, after, AreAccepted}
use Rattle.rmodel.specs.declared.claimed.Claimed.{Claimed}
use Rattle.rmodel.specs.declared.granted.Granted.{Granted}
use Rattle.rmodel.proofs.theorems.HistoryLaws.{claims_are_below}
use Rattle.rmodel.proofs.reaching.Histories.{sound_after}
use Rattle.rvalue.specs.InTurn.{AllInTurn}
use Rattle.rtrace_form.specs.Heads.{Head, read_groups, opening_of}
use Rattle.rtrace_form.specs.Reports.{Entry, lock_after, IsLawful, IsRightEntry}
use Rattle.rtrace_form.proofs.lists.Histories.{lock-tasks}

pub lock-push : (head : Head) (earlier : List Entry) (x : Entry) → lock_after head (earlier ++ x ∷ []) ≡ next (lock_after head earlier) x.event
lock-push head earlier x =
    ap (fold next (opening_of head)) (map-append (λ (y : Entry). y.event) earlier (x ∷ []))
    ∙ fold_push next (opening_of head) (map (λ (y : Entry). y.event) earlier) x.event

pub after_is : (s : LockState) (es : List Event) → after s es ≡ fold next s es
after_is s [] = refl
after_is s (e ∷ es) = after_is (next s e) es

pub accepted_from : (head : Head) (earlier xs : List Entry) → AllInTurn (IsRightEntry head) earlier xs → AreAccepted (lock_after head earlier) (map (λ (y : Entry). y.event) xs)
accepted_from head earlier [] lawful = tt
accepted_from head earlier (x ∷ xs) lawful =
    (lawful.0.comes, subst (λ (s : LockState). AreAccepted s (map (λ (y : Entry). y.event) xs)) (lock-push head earlier x) (accepted_from head (earlier ++ x ∷ []) xs lawful.1))

-- its claims are of seats and of resources that there are
pub record IsInside (head : Head) (s : LockState) : Type 0 where
  pub seated : AllByRecursion (λ (x : Claimed). x.claim.seat < length head.tasks) s.claims
  pub below : AllByRecursion (IsBelow (read_groups head)) s.claims

pub inside : (head : Head) (entries : List Entry) → IsLawful head entries → IsInside head (lock_after head entries)
inside head entries lawful =
    let events = map (λ (y : Entry). y.event) entries in
    let accepted = accepted_from head [] entries lawful in
    let same : after (opening_of head) events ≡ lock_after head entries = after_is (opening_of head) events in
    let below = claims_are_below (read_groups head) (length head.tasks) head.cap events accepted in
    let sound = sound_after (read_groups head) (length head.tasks) head.cap events accepted in
    let seats : (after (opening_of head) events).seats ≡ length head.tasks = ap (λ (s : LockState). s.seats) same ∙ lock-tasks head entries in
    subst (IsInside head) same (record {
      seated = subst (λ n. AllByRecursion (λ (x : Claimed). x.claim.seat < n) (after (opening_of head) events).claims) seats sound.seated;
      below = below;
    })

-- ---- what seats hold

record AreBelow (q : ℕ) (g : Granted) : Type 0 where
  pub reads : all_below q g.reads ≡ true
  pub writes : all_below q g.writes ≡ true

either : (P : Granted → Type 0) (b : Bool) (x y : Granted) → P x → P y → P (cond b x y)
either P true x y p q = p
either P false x y p q = q

nothing_below : (q : ℕ) → AreBelow q nothing
nothing_below q = record { reads = all_below_empty q; writes = all_below_empty q }

held_are : (groups : ReadGroups) (x : Claimed) → IsBelow groups x → AreBelow groups.q (held_by x)
held_are groups x h =
    either (AreBelow groups.q) (is_nested x.claim.kind) _ _
    (record {
      reads = all_below_intersection groups.q x.granted x.claim.reads h.granted;
      writes = all_below_intersection groups.q x.granted x.claim.writes h.granted;
    })
    (either (AreBelow groups.q) (is_satisfied x) _ nothing (record { reads = h.reads; writes = h.writes }) (nothing_below groups.q))

pub held_reads : (groups : ReadGroups) (x : Claimed) → IsBelow groups x → all_below groups.q (held_by x).reads ≡ true
held_reads groups x h = (held_are groups x h).reads

pub held_writes : (groups : ReadGroups) (x : Claimed) → IsBelow groups x → all_below groups.q (held_by x).writes ≡ true
held_writes groups x h = (held_are groups x h).writes

holds_are : (groups : ReadGroups) (seat : ℕ) (all : Granted) (xs : List Claimed) → AreBelow groups.q all → AllByRecursion (IsBelow groups) xs
    → AreBelow groups.q (fold (λ all x. cond (x.claim.seat == seat) (both all (held_by x)) all) all xs)
holds_are groups seat all [] a h = a
holds_are groups seat all (x ∷ xs) a h =
    let one = held_are groups x h.0 in
    holds_are groups seat (cond (x.claim.seat == seat) (both all (held_by x)) all) xs
    (either (AreBelow groups.q) (x.claim.seat == seat) (both all (held_by x)) all
    (record {
      reads = all_below_union groups.q all.reads (held_by x).reads a.reads one.reads;
      writes = all_below_union groups.q all.writes (held_by x).writes a.writes one.writes;
    }) a)
    h.1

pub holds_reads : (groups : ReadGroups) (seat : ℕ) (xs : List Claimed) → AllByRecursion (IsBelow groups) xs → all_below groups.q (holds_of xs seat).reads ≡ true
unfolding holds_of
holds_reads groups seat xs h = (holds_are groups seat nothing xs (nothing_below groups.q) h).reads

pub holds_writes : (groups : ReadGroups) (seat : ℕ) (xs : List Claimed) → AllByRecursion (IsBelow groups) xs → all_below groups.q (holds_of xs seat).writes ≡ true
unfolding holds_of
holds_writes groups seat xs h = (holds_are groups seat nothing xs (nothing_below groups.q) h).writes
