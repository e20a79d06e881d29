-- The room that the claims of a seat need: at most what its request is about.
use Rattle.std.proofs.Common.{◌≡◌, ℕ, zero, suc, ◌+◌, ◌≤◌, ◌==◌, Bool, true, false, cond, ◌&&◌, ◌||◌, List, ◌∷◌, map, length, refl, sym, ap, ◌∙◌, arith}
use Rattle.std.proofs.lemmas.Bool.{true≢false, eq-eqb, and_parts, and_from}
use Rattle.std.proofs.lemmas.List.Folds.{list_any-append}
use Rattle.std.specs.List.{list_any}
use Rattle.std.specs.FinSet.{contains, difference, empty}
use Rattle.rset.specs.Sets.{Set, rising, members_from}
use Rattle.rset.proofs.SetMembers.{contains_empty, contains_difference}
use Rattle.rclaim.specs.Requests.{RequestFields}
use Rattle.rclaim.specs.declared.claim.Claim.{Claim}
use Rattle.rclaim.specs.declared.event.Event.TheVariants.{Issue}
use Rattle.rclaim.specs.declared.request.Kind.{Kind}
use Rattle.rclaim.specs.declared.request.Kind.TheVariants as kinds
use Rattle.rmodel.specs.declared.claimed.Claimed.{Claimed}
use Rattle.rmodel.specs.declared.granted.Granted.{Granted}
use Rattle.rmodel.specs.Claims.{claims_by, claims_of, is_upgrade, waiting}
use Rattle.rmodel.specs.Holds.{held_by, holds_of, has_request, Alone}
use Rattle.rmodel.specs.Reached.{IsReached}
use Rattle.rmodel.specs.State.{LockState}
use Rattle.rmodel.specs.Steps.{Comes, next}
use Rattle.rmodel.specs.WellFormed.{EachPair}
use Rattle.rmodel.proofs.ListFacts.{passing, any_among}
use Rattle.rmodel.proofs.reaching.HeldBySeat.{all_of, held_within, holding}
use Rattle.rmodel.proofs.reaching.OneOfSeat.{each_alone}
use Rattle.rstate.specs.Lent.{LentFields}
use Rattle.rstate.specs.Moves.{HasRoomFor}
use Rattle.rguard.specs.LentSections.{claim_reads, claim_writes, writes_at_most, HasRoomWithin}
use Rattle.rguard.proofs.Lending.{within_reads, within_writes}
use Rattle.rguard.proofs.seats.Claims.{claim_settled, of_seat_and}

-- ---- a set that includes another has at least as many members

fewer_from : (n low : ℕ) (s t : Set) → ((l : ℕ) → contains s l ≡ true → contains t l ≡ true) → length (members_from low n s) ≤ length (members_from low n t)
unfolding members_from
fewer_from zero low s t more = omega arith
fewer_from (suc n) low s t more = at (contains s low) (contains t low) (more low) (fewer_from n (suc low) s t more)
  where
    at : (a b : Bool) → (a ≡ true → b ≡ true) → length (members_from (suc low) n s) ≤ length (members_from (suc low) n t)
        → length (cond a (low ∷ members_from (suc low) n s) (members_from (suc low) n s)) ≤ length (cond b (low ∷ members_from (suc low) n t) (members_from (suc low) n t))
    at true true h rest = omega arith
    at true false h rest = absurd (true≢false (sym (h refl)))
    at false true h rest = omega arith
    at false false h rest = rest

pub rising_fewer : (s t : Set) → ((l : ℕ) → contains s l ≡ true → contains t l ≡ true) → length (rising s) ≤ length (rising t)
unfolding rising
rising_fewer s t more = fewer_from _ 0 s t more

left_fewer : (s g t : Set) → ((l : ℕ) → contains s l ≡ true → contains t l ≡ true) → length (rising (difference s g)) ≤ length (rising t)
left_fewer s g t more = rising_fewer (difference s g) t (λ l there. more l (and_parts (contains s l) _ (sym (contains_difference s g l) ∙ there)).0)

-- ---- what a seat holds is what its claims read and write

module _ (xs : List Claimed) (n : ℕ) (alone : EachPair Alone xs) (l : ℕ) where
  pub held_reads : contains (holds_of xs n).reads l ≡ true → list_any (λ x. claim_reads n l x.claim) xs ≡ true
  held_reads held =
      holding xs n alone
      (λ h. any_among (λ x. claim_reads n l x.claim) xs h.by h.there
      (and_from (h.by.claim.seat == n) (contains h.by.claim.reads l) (eq-eqb h.by.claim.seat n h.seated)
      (within_reads (held_by h.by) (all_of h.by.claim) l (held_within h.by) (ap (λ (g : Granted). contains g.reads l) (sym h.is) ∙ held))))
      (λ none. absurd (true≢false (sym held ∙ ap (λ (g : Granted). contains g.reads l) none ∙ contains_empty l)))

  pub held_writes : contains (holds_of xs n).writes l ≡ true → list_any (λ x. claim_writes n l x.claim) xs ≡ true
  held_writes held =
      holding xs n alone
      (λ h. any_among (λ x. claim_writes n l x.claim) xs h.by h.there
      (and_from (h.by.claim.seat == n) (contains h.by.claim.writes l) (eq-eqb h.by.claim.seat n h.seated)
      (within_writes (held_by h.by) (all_of h.by.claim) l (held_within h.by) (ap (λ (g : Granted). contains g.writes l) (sym h.is) ∙ held))))
      (λ none. absurd (true≢false (sym held ∙ ap (λ (g : Granted). contains g.writes l) none ∙ contains_empty l)))

-- there is room for what the seat holds
pub room_within : {V : Type 0} (s : LockState) (n : ℕ) (lent : LentFields V) (g : Granted) → IsReached s → HasRoomWithin s.claims n lent → HasRoomFor g (holds_of s.claims n) lent
room_within s n lent g reached room = record {
  reads = fits (length lent.reads) _ (length (rising room.most.reads)) lent.reads_room (left_fewer (holds_of s.claims n).reads g.reads room.most.reads (λ l held. room.reads_in l (held_reads s.claims n (each_alone s reached) l held))) room.reads;
  writes = fits (length lent.writes) _ (length (rising room.most.writes)) lent.writes_room (left_fewer (holds_of s.claims n).writes g.writes room.most.writes (λ l held. room.writes_in l (held_writes s.claims n (each_alone s reached) l held))) room.writes;
}
  where
    fits : (a m n c : ℕ) → m ≤ n → a + n ≤ c → a + m ≤ c
    fits a m n c few room = omega arith

-- ---- the claims of a request

either_of : {P : Type 0} (a b : Bool) → (a || b) ≡ true → (a ≡ true → P) → (b ≡ true → P) → P
either_of true b h p q = p refl
either_of false b h p q = q h

one_of : (a b : Bool) → ((a && b) || false) ≡ true → b ≡ true
one_of true true h = refl
one_of true false h = h
one_of false b h = absurd (true≢false (sym h))

first_of_two : (a b c : Bool) → c ≡ false → ((a && b) || ((a && c) || false)) ≡ true → b ≡ true
first_of_two true true c none h = refl
first_of_two true false true none h = absurd (true≢false none)
first_of_two true false false none h = h
first_of_two false b c none h = absurd (true≢false (sym h))

second_of_two : (a b c : Bool) → b ≡ false → ((a && b) || ((a && c) || false)) ≡ true → c ≡ true
second_of_two true true c none h = absurd (true≢false none)
second_of_two true false true none h = refl
second_of_two true false false none h = h
second_of_two false b c none h = absurd (true≢false (sym h))

module _ (groups : List Set) (stamp n : ℕ) (reads writes first : Set) (l : ℕ) where
  new_reads : (kind : Kind) → list_any (λ x. claim_reads n l x.claim) (map (waiting first) (claims_by groups kind stamp n reads writes)) ≡ true → contains reads l ≡ true
  new_reads kinds.Read h = one_of (n == n) (contains reads l) h
  new_reads kinds.Write h = one_of (n == n) (contains reads l) h
  new_reads kinds.Mixed h = one_of (n == n) (contains reads l) h
  new_reads kinds.Upgrade h = first_of_two (n == n) (contains reads l) (contains empty l) (contains_empty l) h
  new_reads kinds.Nested h = one_of (n == n) (contains reads l) h

  new_writes : (kind : Kind) → list_any (λ x. claim_writes n l x.claim) (map (waiting first) (claims_by groups kind stamp n reads writes)) ≡ true → contains (cond (is_upgrade kind) reads writes) l ≡ true
  new_writes kinds.Read h = one_of (n == n) (contains writes l) h
  new_writes kinds.Write h = one_of (n == n) (contains writes l) h
  new_writes kinds.Mixed h = one_of (n == n) (contains writes l) h
  new_writes kinds.Upgrade h = second_of_two (n == n) (contains empty l) (contains reads l) (contains_empty l) h
  new_writes kinds.Nested h = one_of (n == n) (contains writes l) h

-- after its issue, the claims of a seat that had none are those of the request
module _ (s : LockState) (n : ℕ) (r : RequestFields) (reached : IsReached s) (comes : Comes s (Issue n r)) (idle : has_request s.claims n ≡ false) where
  only_new : (q : Claim → Bool) → ((c : Claim) → q c ≡ true → c.seat ≡ n) → list_any (λ x. q x.claim) (next s (Issue n r)).claims ≡ true
      → list_any (λ x. q x.claim) (map (waiting r.first) (claims_of s.groups.groups s.issued n r)) ≡ true
  only_new q of h =
      let ns = map (waiting r.first) (claims_of s.groups.groups s.issued n r) in
      either_of (list_any (λ x. q x.claim) s.claims) (list_any (λ x. q x.claim) ns) (sym (list_any-append (λ x. q x.claim) s.claims ns) ∙ sym (claim_settled n q of s (Issue n r) reached comes) ∙ h)
      (λ old.
      let x = passing (λ x. q x.claim) s.claims old in
      absurd (true≢false (sym (any_among (λ x. x.claim.seat == n) s.claims x.0 x.1 (eq-eqb x.0.claim.seat n (of x.0.claim x.2))) ∙ idle)))
      (λ new. new)

  pub room_issued : {V : Type 0} (lent : LentFields V) → length lent.reads + length (rising r.reads) ≤ lent.reads_room → length lent.writes + length (rising (writes_at_most r)) ≤ lent.writes_room
      → HasRoomWithin (next s (Issue n r)).claims n lent
  room_issued lent reads writes = record {
    most = record { reads = r.reads; writes = writes_at_most r };
    reads_in = λ l h. new_reads s.groups.groups s.issued n r.reads r.writes r.first l r.kind (only_new (claim_reads n l) (of_seat_and n (λ c. contains c.reads l)) h);
    writes_in = λ l h. new_writes s.groups.groups s.issued n r.reads r.writes r.first l r.kind (only_new (claim_writes n l) (of_seat_and n (λ c. contains c.writes l)) h);
    reads = reads;
    writes = writes;
  }
