-- No read wait goes above its bound.
use Rattle.std.proofs.Common.{◌≡◌, ◌≢◌, ◌≤◌, ℕ, ◌==◌, true, not, ◌&&◌, ◌||◌, length, List, [], refl, sym, ap, subst, ◌∙◌, inl, inr, arith}
use Rattle.std.proofs.lemmas.Bool.{and_from, and_parts, or_left, or_right, eq-eqb, eqb-true}
use Rattle.std.specs.List.{list_any, AllByRecursion}
use Rattle.rset.specs.Sets.{meets}
use Rattle.rclaim.specs.declared.claim.Claim.{Claim}
use Rattle.rclaim.specs.declared.event.Event.{Event}
use Rattle.rmodel.specs.declared.claimed.Claimed.{Claimed}
use Rattle.rmodel.specs.Claims.{conflicts, is_read_half, is_active, is_upgrade}
use Rattle.rmodel.specs.Reached.{IsReached}
use Rattle.rmodel.specs.State.{LockState}
use Rattle.rmodel.specs.Steps.{AreAccepted}
use Rattle.rmodel.proofs.ListFacts.{Among, contrary, false_from, all_at, any_among}
use Rattle.rmodel.proofs.settling.OneSettlement.{both_cases}
use Rattle.rbound.specs.Bounds.{IsWithin, can_hold_up, may_keep, may_delay, read_bound}
use Rattle.rbound.specs.Needs.{Needed}
use Rattle.rcover_laws.specs.Covers.{IsKeptBy}
use Rattle.rcover_laws.specs.Moments.{Moment, moments}
use Rattle.rcover_laws.specs.Sections.{moments_without, read_sections}
use Rattle.rcover_laws.specs.Waits.{ReadWaits}
use Rattle.rcover_laws.specs.Within.{numbers_of}
use Rattle.rcover_laws.proofs.bounds.Knowing.{IsNeed, IsKnown, AreKnown, Passes, few}
use Rattle.rcover_laws.proofs.covers.ReadCover.{IsTakenRead, has_keeper, are_read_sections}
use Rattle.rcover_laws.proofs.lists.Found.{all_so, list_parts, not_empty}
use Rattle.rcover_laws.proofs.runs.Moments.{at_moments}
use Rattle.rcover_laws.proofs.states.AtRest.{Sat, IsEntitled}
use Rattle.rcover_laws.proofs.states.Seats.{elsewhere, satisfied_elsewhere, own_half}

-- two numbers that differ
pub differ : (m n : ℕ) → (m ≡ n → ⊥) → not (m == n) ≡ true
differ m n other = ap not (false_from (m == n) (λ h. other (eqb-true m n h)))

-- needs of claims conflict as the claims do
pub conflict_of_needs : (len number : Claim → ℕ) (a b : Claim) (m n : Needed) → IsNeed len number a m → IsNeed len number b n → conflicts m.claim n.claim ≡ conflicts a b
conflict_of_needs len number a b m n is_m is_n =
    (λ i. (meets (is_n.reads i) (is_m.writes i) || meets (is_n.writes i) (is_m.writes i)) || (meets (is_m.reads i) (is_n.writes i) || meets (is_m.writes i) (is_n.writes i)))

pub other_seats : (len number : Claim → ℕ) (a b : Claim) (m n : Needed) → IsNeed len number a m → IsNeed len number b n → a.seat ≢ b.seat → not (m.claim.seat == n.claim.seat) ≡ true
other_seats len number a b m n is_m is_n other = differ m.claim.seat n.claim.seat (λ same. other (sym is_m.seat ∙ same ∙ is_n.seat))

module _ (s : LockState) (es : List Event) (reached : IsReached s) (accepted : AreAccepted s es) (c : Claim) (waits : AllByRecursion (ReadWaits c) (moments s es))
    (ns : List Needed) (len number : Claim → ℕ) (stamps : (a b : Claim) → a.seat ≡ b.seat → a.stamp ≡ b.stamp → number a ≡ number b) (known : AllByRecursion (AreKnown ns len number) (moments s es)) (need : Needed)
    (is : IsNeed len number c need) where
  abbrev ms : List Moment
  ms = moments s es

  known_at : (m : Moment) → Among m ms → (x : Claimed) → Among x m → (d : Claim) → x.claim ≡ d → IsKnown ns len number d
  known_at m in_m x there d same = subst (IsKnown ns len number) same (all_at (AreKnown ns len number) ms m known in_m x there)

  -- the write that keeps the read waiting
  keeps_passes : (v : Claim) → (k : IsKeptBy c v s.claims) → Passes (may_keep need.claim) ns len v
  keeps_passes v k =
      let n = known_at s.claims (inl refl) k.at k.among v k.is in
      let w = waits.0 in
      let parts = and_parts (k.at.claim.write_half && is_active k.at) (conflicts k.at.claim c) k.keeps in
      let first = and_parts k.at.claim.write_half (is_active k.at) parts.0 in
      let read = ap (λ d. d.write_half) w.is ∙ w.read in
      let other = elsewhere s reached w.at k.at w.among k.among read w.unsatisfied first.1
      (λ same. contrary k.at.claim.write_half first.0 (ap (λ (z : Claimed). z.claim.write_half) same ∙ read)) in
      record {
        need = n.need;
        among = n.among;
        passes = and_from (n.need.claim.write_half && not (n.need.claim.seat == need.claim.seat)) (conflicts n.need.claim need.claim)
            (and_from n.need.claim.write_half (not (n.need.claim.seat == need.claim.seat)) (n.is.half ∙ ap (λ d. d.write_half) (sym k.is) ∙ first.0)
            (other_seats len number v c n.need need n.is is (λ same. other (ap (λ d. d.seat) k.is ∙ same ∙ ap (λ d. d.seat) (sym w.is)))))
            (conflict_of_needs len number v c n.need need n.is is ∙ ap (λ d. conflicts d c) (sym k.is) ∙ parts.1);
        lasts = n.is.lasts;
      }

  -- a claim that can hold it up
  holds_up_need : (v x : Claim) (m n : Needed) → IsNeed len number v m → IsNeed len number x n → meets x.reads v.writes ≡ true → (x.seat ≡ v.seat → (is_read_half x ≡ true) × (x.stamp ≡ v.stamp)) → can_hold_up n.claim m.claim ≡ true
  holds_up_need v x m n is_m is_n written own =
      and_from (meets n.claim.reads m.claim.writes) (not (n.claim.seat == m.claim.seat) || (is_read_half n.claim && (n.claim.stamp == m.claim.stamp)))
      ((λ i. meets (is_n.reads i) (is_m.writes i)) ∙ written)
      (both_cases (n.claim.seat == m.claim.seat)
      (λ same.
      let seats = sym is_n.seat ∙ eqb-true n.claim.seat m.claim.seat same ∙ is_m.seat in
      let h = own seats in
      or_right (not (n.claim.seat == m.claim.seat)) (is_read_half n.claim && (n.claim.stamp == m.claim.stamp))
      (and_from (is_read_half n.claim) (n.claim.stamp == m.claim.stamp) ((λ i. is_upgrade (is_n.kind i) && not (is_n.half i)) ∙ h.0)
      (eq-eqb n.claim.stamp m.claim.stamp (is_n.stamp ∙ stamps x v seats h.1 ∙ sym is_m.stamp))))
      (λ other. or_left (not (n.claim.seat == m.claim.seat)) (is_read_half n.claim && (n.claim.stamp == m.claim.stamp)) (ap not other)))

  delays_passes : (v x : Claim) → IsKeptBy c v s.claims → IsTakenRead v ms x → Passes (may_delay ns need.claim) ns len x
  unfolding known_at keeps_passes
  delays_passes v x k t =
      let n = known_at t.moment t.among t.sat.at t.sat.among x t.sat.is in
      let kept = keeps_passes v k in
      let of_v = known_at s.claims (inl refl) k.at k.among v k.is in
      let own = all_at (λ m. IsEntitled v m → Sat x m → x.seat ≡ v.seat → (is_read_half x ≡ true) × (x.stamp ≡ v.stamp)) ms t.moment
      (at_moments (λ m. IsEntitled v m → Sat x m → x.seat ≡ v.seat → (is_read_half x ≡ true) × (x.stamp ≡ v.stamp)) (λ u r. own_half u r v x) s es reached accepted) t.among t.entitled t.sat in
      let other = all_at (λ m. ReadWaits c m → Sat x m → x.seat ≢ c.seat) ms t.moment
      (at_moments (λ m. ReadWaits c m → Sat x m → x.seat ≢ c.seat) (λ u r. satisfied_elsewhere u r c x) s es reached accepted) t.among (all_at (ReadWaits c) ms t.moment waits t.among) t.sat in
      record {
        need = n.need;
        among = n.among;
        passes = and_from (not (n.need.claim.seat == need.claim.seat)) (list_any (λ v. may_keep need.claim v && can_hold_up n.need.claim v.claim) ns)
            (other_seats len number x c n.need need n.is is other)
            (any_among (λ v. may_keep need.claim v && can_hold_up n.need.claim v.claim) ns of_v.need of_v.among
            (and_from (may_keep need.claim of_v.need) (can_hold_up n.need.claim of_v.need.claim) kept.passes (holds_up_need v x of_v.need n.need of_v.is n.is t.written own)));
        lasts = n.is.lasts;
      }

  pub read_within : IsWithin (numbers_of len (read_sections c ms)) (read_bound ns need.claim)
  read_within =
      let k = has_keeper s es reached accepted c waits in
      let facts = are_read_sections s es reached accepted c k in
      let a = read_sections c ms in
      let reads = few (may_delay ns need.claim) ns len a.reads (short a.reads (moments_without k.keeper ms) facts.reads.one_read facts.reads.no_read)
      (all_so (IsTakenRead k.keeper ms) (Passes (may_delay ns need.claim) ns len) (λ x t. delays_passes k.keeper x k.kept.0 t) a.reads facts.reads.each) in
      let writes = few (may_keep need.claim) ns len a.writes facts.one_write
      (all_so (λ w. w ≡ k.keeper) (Passes (may_keep need.claim) ns len) (λ w same. subst (Passes (may_keep need.claim) ns len) (sym same) (keeps_passes k.keeper k.kept.0)) a.writes facts.writes) in
      record {
        reads = reads.number;
        writes = writes.number;
        units = (let u = reads.units in let v = writes.units in omega arith);
      }
    where
      short : (xs : List Claim) (all : List Moment) → (all ≢ [] → length xs ≡ 1) → (all ≡ [] → xs ≡ []) → length xs ≤ 1
      short xs all one none = elim (list_parts all) [
        | inl empty ↦ (let e = ap length (none empty) in omega arith)
        | inr some ↦ (let e = one (λ empty. not_empty all some.0 (subst (λ (ns : List Moment). Among some.0 ns) (sym some.2) (inl refl)) empty) in omega arith)
      ]
