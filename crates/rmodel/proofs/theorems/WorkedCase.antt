-- A worked case of the rules. t1 writes a and b, t2 reads a, t3 writes b, and t1 finishes:
-- t1 is satisfied, t2 entitled and t3 waiting, and after the finish t2 and t3 are satisfied.
use Rattle.std.proofs.Common.{◌≡◌, ◌≢◌, ℕ, nat_lt, true, false, not, ◌&&◌, ◌||◌, cond, List, [], ◌∷◌, Some, None, refl, sym, ap, ◌∙◌, arith}
use Rattle.std.proofs.lemmas.Bool.{true≢false}
use Rattle.std.specs.Ordering.{nat_cmp}
use Rattle.std.specs.FinSet.{empty, insert, is_subset, contains, len, len-insert, len-empty}
use Rattle.std.specs.Cmp.{nat_cmp_total}
use Rattle.rset.specs.Sets.{Set, meets, all_below}
use Rattle.rset.proofs.SetLemmas.{meets_insert_right, meets_empty_left, meets_empty_right, contains_insert, contains_empty, union_empty_left, empty_within, within_empty, within_reflexive, all_below_empty, all_below_insert}
use Rattle.rexpand.specs.Groups.{no_groups}
use Rattle.rexpand.proofs.PlaceLemmas.{places_without_groups}
use Rattle.rexpand.proofs.DeclaredLemmas.{declared_one}
use Rattle.rclaim.specs.Requests.{RequestFields, normalised}
use Rattle.rclaim.specs.declared.request.Kind.TheVariants.{Read, Write}
use Rattle.rclaim.specs.declared.claim.Status.{Status}
use Rattle.rclaim.specs.declared.claim.Status.TheVariants.{Waiting, Entitled, Satisfied}
use Rattle.rclaim.specs.declared.event.Event.{Event}
use Rattle.rclaim.specs.declared.event.Event.TheVariants.{Issue, Finish}
use Rattle.rmodel.specs.declared.claimed.Claimed.{Claimed}
use Rattle.rmodel.specs.declared.refused.Refused.TheVariants.{SeatBusy, Full, NotHolding}
use Rattle.rmodel.specs.Claims.{claim_of, is_satisfied, is_active}
use Rattle.rmodel.specs.Rules.{is_kept_out, may_enter, is_held_up, is_kept, SettlesAt, Settles}
use Rattle.rmodel.specs.Settling.{settled}
use Rattle.rmodel.specs.State.{LockState, opening}
use Rattle.rmodel.specs.Changes.{changes_between}
use Rattle.rmodel.specs.Holds.{holds_of}
use Rattle.rmodel.proofs.ListFacts.{false_from}
use Rattle.rmodel.specs.Steps.{next, after, refusal, changed, given, some_asks, is_not_holding, Accepts, Comes}
use Rattle.rmodel.specs.WellFormed.{IsClaim, AreExclusive, IsSound}
use Rattle.rmodel.specs.Laws.{keeps_out, AreKeptOutByOne}
use Rattle.rmodel.proofs.settling.OneSettlement.{only_one}
use Rattle.rmodel.proofs.settling.Settlement.{settles_settled}
use Rattle.rmodel.proofs.reaching.Soundness.{sound_opening, sound_changed, sound_settled_to}
use Rattle.rmodel.proofs.settling.Giving.{given_none}
use Rattle.rclaim.specs.Requests.{IsNormal}
use Rattle.std.specs.List.{count_by}
use Rattle.std.proofs.lemmas.List.Sums.{length-filter}

abbrev a : Set
a = insert (empty {R = nat_cmp}) 0

abbrev b : Set
b = insert (empty {R = nat_cmp}) 1

abbrev ab : Set
ab = insert (insert (empty {R = nat_cmp}) 0) 1

ab_a : meets ab a ≡ true
ab_a = simp (meets_insert_right, meets_empty_right, contains_insert, contains_empty)

a_ab : meets a ab ≡ true
a_ab = simp (meets_insert_right, meets_empty_right, contains_insert, contains_empty)

ab_b : meets ab b ≡ true
ab_b = simp (meets_insert_right, meets_empty_right, contains_insert, contains_empty)

b_ab : meets b ab ≡ true
b_ab = simp (meets_insert_right, meets_empty_right, contains_insert, contains_empty)

a_b : meets a b ≡ false
a_b = simp (meets_insert_right, meets_empty_right, contains_insert, contains_empty)

b_a : meets b a ≡ false
b_a = simp (meets_insert_right, meets_empty_right, contains_insert, contains_empty)

abbrev t1 : RequestFields
t1 = normalised Write empty ab empty 2 0

abbrev t2 : RequestFields
t2 = normalised Read a empty empty 1 0

abbrev t3 : RequestFields
t3 = normalised Write empty b empty 1 0

abbrev of_t1 : Status → Claimed
of_t1 status = record { claim = claim_of [] true 0 0 Write empty ab; status = status; asked = empty; granted = empty }

abbrev of_t2 : Status → Claimed
of_t2 status = record { claim = claim_of [] false 1 1 Read a empty; status = status; asked = empty; granted = empty }

abbrev of_t3 : Status → Claimed
of_t3 status = record { claim = claim_of [] true 2 2 Write empty b; status = status; asked = empty; granted = empty }

-- the rules at a write, and at a read
write_at : (s t : List Claimed) (x y : Claimed) → y.claim ≡ x.claim → y.asked ≡ x.asked → y.granted ≡ x.granted → y.claim.write_half ≡ true → is_active y ≡ (is_active x || may_enter t y.claim)
    → is_satisfied y ≡ (is_satisfied x || (is_active y && not (is_held_up t y.claim))) → SettlesAt s t x y
write_at s t x y same asked granted w active sat =
    record { same = same; asked = asked; granted = granted; reads = λ r. absurd (true≢false (sym w ∙ r)); entitlement = λ _. active; satisfaction = λ _. sat; kept_reads = λ r. absurd (true≢false (sym w ∙ r)) }

read_at : (s t : List Claimed) (x y : Claimed) → y.claim ≡ x.claim → y.asked ≡ x.asked → y.granted ≡ x.granted → y.claim.write_half ≡ false → is_satisfied y ≡ (is_satisfied x || not (is_kept_out s y.claim))
    → is_active y ≡ (is_satisfied y || is_kept t y.claim) → SettlesAt s t x y
read_at s t x y same asked granted r sat active =
    record { same = same; asked = asked; granted = granted; reads = λ _. sat; entitlement = λ w. absurd (true≢false (sym w ∙ r)); satisfaction = λ w. absurd (true≢false (sym w ∙ r)); kept_reads = λ _. active }

ruleset sets = (ab_a, a_ab, ab_b, b_ab, a_b, b_a, meets_empty_left, meets_empty_right, union_empty_left, places_without_groups)

first : Settles (of_t1 Waiting ∷ []) (of_t1 Satisfied ∷ [])
first = (write_at _ _ (of_t1 Waiting) (of_t1 Satisfied) refl refl refl refl refl refl, tt)

second : Settles (of_t1 Satisfied ∷ of_t2 Waiting ∷ []) (of_t1 Satisfied ∷ of_t2 Entitled ∷ [])
second = (
  write_at _ _ (of_t1 Satisfied) (of_t1 Satisfied) refl refl refl refl refl refl,
  (read_at _ _ (of_t2 Waiting) (of_t2 Entitled) refl refl refl refl (simp sets) (simp sets), tt),
)

third : Settles (of_t1 Satisfied ∷ of_t2 Entitled ∷ of_t3 Waiting ∷ []) (of_t1 Satisfied ∷ of_t2 Entitled ∷ of_t3 Waiting ∷ [])
third = (
  write_at _ _ (of_t1 Satisfied) (of_t1 Satisfied) refl refl refl refl refl refl,
  (
    read_at _ _ (of_t2 Entitled) (of_t2 Entitled) refl refl refl refl (simp sets) (simp sets),
    (write_at _ _ (of_t3 Waiting) (of_t3 Waiting) refl refl refl refl (simp sets) refl, tt),
  ),
)

fourth : Settles (of_t2 Entitled ∷ of_t3 Waiting ∷ []) (of_t2 Satisfied ∷ of_t3 Satisfied ∷ [])
fourth = (
  read_at _ _ (of_t2 Entitled) (of_t2 Satisfied) refl refl refl refl refl refl,
  (write_at _ _ (of_t3 Waiting) (of_t3 Satisfied) refl refl refl refl refl (simp sets), tt),
)

-- the state after an event whose claims settle to these, none of which asks for anything
record Outcome (s : LockState) (e : Event) (t : List Claimed) : Type 0 where
  is : next s e ≡ record (changed s e) { claims = t }
  sound : IsSound (record (changed s e) { claims = t })

outcome : (s : LockState) (e : Event) (t : List Claimed) → IsSound s → Comes s e → Settles (changed s e).claims t → some_asks t ≡ false → Outcome s e t
outcome s e t sound comes settles none =
    let mid = sound_changed s e sound comes in
    let one : t ≡ settled (changed s e).claims = only_one (changed s e).claims t (settled (changed s e).claims) settles (settles_settled (changed s e).claims mid.well_formed) in
    record {
      is = ap (λ (xs : List Claimed). let u : LockState = record (changed s e) { claims = xs } in u) (ap given (sym one) ∙ given_none t none);
      sound = sound_settled_to (changed s e) t mid settles;
    }

-- a set with a member is not empty
has_member : (s : Set) (l : ℕ) → contains s l ≡ true → s ≢ empty
has_member s l h none = true≢false (sym h ∙ ap (λ t. contains t l) none ∙ contains_empty l)

t1_normal : IsNormal t1
t1_normal = record { sets = (refl, has_member ab 0 (simp (contains_insert, contains_empty))); first = refl; len = omega arith; later = refl }

t2_normal : IsNormal t2
t2_normal = record { sets = (has_member a 0 (simp (contains_insert, contains_empty)), refl); first = refl; len = omega arith; later = refl }

t3_normal : IsNormal t3
t3_normal = record { sets = (refl, has_member b 1 (simp (contains_insert, contains_empty))); first = refl; len = omega arith; later = refl }

abbrev s1 : LockState
s1 = record { groups = no_groups 2; seats = 3; cap = 3; issued = 1; claims = of_t1 Satisfied ∷ [] }

abbrev s2 : LockState
s2 = record { groups = no_groups 2; seats = 3; cap = 3; issued = 2; claims = of_t1 Satisfied ∷ of_t2 Entitled ∷ [] }

abbrev s3 : LockState
s3 = record { groups = no_groups 2; seats = 3; cap = 3; issued = 3; claims = of_t1 Satisfied ∷ of_t2 Entitled ∷ of_t3 Waiting ∷ [] }

a_below : all_below 2 a ≡ true
a_below = all_below_insert 2 empty 0 (all_below_empty 2) (omega arith)

b_below : all_below 2 b ≡ true
b_below = all_below_insert 2 empty 1 (all_below_empty 2) (omega arith)

ab_below : all_below 2 ab ≡ true
ab_below = all_below_insert 2 a 1 a_below (omega arith)

-- nothing is asked by a claim that asks for nothing
none_asked : nat_lt 0 (len (empty {R = nat_cmp})) ≡ false
none_asked = ap (nat_lt 0) (len-empty nat_cmp)

after_first : Outcome (opening (no_groups 2) 3 3) (Issue 0 t1) (of_t1 Satisfied ∷ [])
after_first = outcome (opening (no_groups 2) 3 3) (Issue 0 t1) _ (sound_opening (no_groups 2) 3 3)
    (record { fits = record { seat_there = omega arith; reads = all_below_empty 2; writes = ab_below; admitted = refl; stamps = omega arith }; normal = t1_normal; accepted = refl }) first (simp none_asked)

after_second : Outcome s1 (Issue 1 t2) (of_t1 Satisfied ∷ of_t2 Entitled ∷ [])
after_second = outcome s1 (Issue 1 t2) _ after_first.sound
    (record { fits = record { seat_there = omega arith; reads = a_below; writes = all_below_empty 2; admitted = declared_one [] 0; stamps = omega arith }; normal = t2_normal; accepted = refl }) second (simp none_asked)

after_third : Outcome s2 (Issue 2 t3) (of_t1 Satisfied ∷ of_t2 Entitled ∷ of_t3 Waiting ∷ [])
after_third = outcome s2 (Issue 2 t3) _ after_second.sound
    (record { fits = record { seat_there = omega arith; reads = all_below_empty 2; writes = b_below; admitted = refl; stamps = omega arith }; normal = t3_normal; accepted = refl }) third (simp none_asked)

-- t1 holds a and b, so that it may finish
t1_holds : is_not_holding s3.claims 0 ≡ false
unfolding holds_of
t1_holds = simp (none_asked, union_empty_left, len-insert nat_cmp_total, contains_insert, contains_empty, len-empty)

t1_may_finish : Accepts s3 (Finish 0)
t1_may_finish = ap (λ n. cond n (Some NotHolding) None) t1_holds

after_fourth : Outcome s3 (Finish 0) (of_t2 Satisfied ∷ of_t3 Satisfied ∷ [])
after_fourth = outcome s3 (Finish 0) _ after_third.sound (record { fits = omega arith; normal = tt; accepted = t1_may_finish }) fourth (simp none_asked)

-- a seat issues one request at a time, and a full state takes none
busy : refusal s1 (Issue 0 t3) ≡ Some SeatBusy
busy = refl

full : refusal (record s3 { seats = 4 }) (Issue 3 t3) ≡ Some Full
full = refl

worked : (after (opening (no_groups 2) 3 3) (Issue 0 t1 ∷ Issue 1 t2 ∷ Issue 2 t3 ∷ Finish 0 ∷ [])).claims ≡ of_t2 Satisfied ∷ of_t3 Satisfied ∷ []
worked =
    ap (λ (s : LockState). (after s (Issue 1 t2 ∷ Issue 2 t3 ∷ Finish 0 ∷ [])).claims) after_first.is
    ∙ ap (λ (s : LockState). (after s (Issue 2 t3 ∷ Finish 0 ∷ [])).claims) after_second.is
    ∙ ap (λ (s : LockState). (after s (Finish 0 ∷ [])).claims) after_third.is
    ∙ ap (λ (s : LockState). s.claims) after_fourth.is

abbrev s4 : LockState
s4 = record { groups = no_groups 2; seats = 3; cap = 3; issued = 3; claims = of_t2 Satisfied ∷ of_t3 Satisfied ∷ [] }

some_a : is_subset a (empty {R = nat_cmp}) ≡ false
some_a = false_from (is_subset a empty) (λ h. has_member a 0 (simp (contains_insert, contains_empty)) (empty_within a h))

some_b : is_subset b (empty {R = nat_cmp}) ≡ false
some_b = false_from (is_subset b empty) (λ h. has_member b 1 (simp (contains_insert, contains_empty)) (empty_within b h))

-- the changes of the finish: t2 and t3 are satisfied, t2 holds a for reading and t3 holds b for writing
worked_changes : changes_between s3 s4 ≡ record {
  statuses = record { seat = 1; write_half = false; status = Satisfied } ∷ record { seat = 2; write_half = true; status = Satisfied } ∷ [];
  grants = record { seat = 1; reads = a; writes = empty } ∷ record { seat = 2; reads = empty; writes = b } ∷ [];
}
unfolding changes_between
worked_changes = simp (some_a, some_b, within_reflexive)

-- ---- two writes that keep one read waiting, where what it reads is not declared

abbrev write_of : ℕ → Set → Claimed
write_of n s = record { claim = record { stamp = n; seat = n; kind = Write; write_half = true; reads = empty; writes = s; places = s }; status = Satisfied; asked = empty; granted = empty }

abbrev read_of_both : Claimed
read_of_both = record { claim = record { stamp = 2; seat = 2; kind = Read; write_half = false; reads = ab; writes = empty; places = ab }; status = Entitled; asked = empty; granted = empty }

abbrev two_and_one : List Claimed
two_and_one = write_of 0 a ∷ write_of 1 b ∷ read_of_both ∷ []

two_keep_out : count_by (keeps_out read_of_both.claim) two_and_one ≡ 2
two_keep_out = sym (length-filter (keeps_out read_of_both.claim) two_and_one) ∙ simp sets

two_settled : Settles two_and_one two_and_one
two_settled = (
  write_at _ _ (write_of 0 a) (write_of 0 a) refl refl refl refl refl refl,
  (
    write_at _ _ (write_of 1 b) (write_of 1 b) refl refl refl refl refl refl,
    (read_at _ _ read_of_both read_of_both refl refl refl refl (simp sets) (simp sets), tt),
  ),
)

write_is_claim : (n : ℕ) (s : Set) → s ≢ empty → IsClaim (write_of n s).claim
write_is_claim n s some = record {
  reads_some = λ r. absurd (true≢false r);
  read_only = λ r. absurd (true≢false r);
  read_places = λ r. absurd (true≢false r);
  writes_some = λ _. some;
  reads_placed = λ _. within_empty s;
  writes_placed = λ _. within_reflexive s;
}

two_exclusive : AreExclusive two_and_one
two_exclusive = record {
  well_formed = record {
    rising = ((record { not_above = omega arith; after_write = λ _. omega arith }, (record { not_above = omega arith; after_write = λ _. omega arith }, tt)), ((record { not_above = omega arith; after_write = λ _. omega arith }, tt), (tt, tt)));
    claims = (
      write_is_claim 0 a (has_member a 0 (simp (contains_insert, contains_empty))),
      (
        write_is_claim 1 b (has_member b 1 (simp (contains_insert, contains_empty))),
        (
          record {
            reads_some = λ _. has_member ab 0 (simp (contains_insert, contains_empty));
            read_only = λ _. refl;
            read_places = λ _. refl;
            writes_some = λ w. absurd (true≢false (sym w));
            reads_placed = λ w. absurd (true≢false (sym w));
            writes_placed = λ w. absurd (true≢false (sym w));
          },
          tt,
        ),
      ),
    );
  };
  entered = (((λ w w' share. absurd (true≢false (sym share ∙ a_b))), ((λ w w'. absurd (true≢false (sym w'))), tt)), (((λ w w'. absurd (true≢false (sym w'))), tt), (tt, tt)));
  apart = (((λ sat sat'. simp sets), ((λ sat sat'. absurd (true≢false (sym sat'))), tt)), (((λ sat sat'. absurd (true≢false (sym sat'))), tt), (tt, tt)));
}

-- so the law that at most one write keeps a read waiting does not hold for claims that no groups admit
needs_admission : ((s t : List Claimed) → AreExclusive s → Settles s t → AreKeptOutByOne t) → ⊥
needs_admission law = let few = (law two_and_one two_and_one two_exclusive two_settled).1.1.0 refl in omega (arith, few, two_keep_out)
