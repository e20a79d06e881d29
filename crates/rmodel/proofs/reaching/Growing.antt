-- A request keeps what it holds until its own finish or rise.
use Rattle.std.proofs.Common.{◌≡◌, ℕ, true, false, List, [], ◌∷◌, sym, ap, subst, ◌∙◌}
use Rattle.std.proofs.lemmas.Bool.{and_from}
use Rattle.std.specs.FinSet.{intersection, is_subset}
use Rattle.std.specs.List.{AllByRecursion}
use Rattle.rset.specs.Sets.{Set}
use Rattle.rset.proofs.SetLemmas.{within_transitive, within_intersection, intersection_within_left, intersection_within_right}
use Rattle.rclaim.specs.declared.event.Event.{Event}
use Rattle.rmodel.specs.declared.claimed.Claimed.{Claimed}
use Rattle.rmodel.specs.declared.granted.Granted.{Granted}
use Rattle.rmodel.specs.Claims.{is_nested, is_satisfied, satisfied_by}
use Rattle.rmodel.specs.Holds.{held_by, holds_of, is_nothing, is_within}
use Rattle.rmodel.specs.Reached.{IsReached}
use Rattle.rmodel.specs.Settling.{settled}
use Rattle.rmodel.specs.State.{LockState}
use Rattle.rmodel.specs.StateLaws.{gives_back}
use Rattle.rmodel.specs.Steps.{changed, next, after, Comes, AreAccepted}
use Rattle.rmodel.proofs.reaching.Came.{IsStill, left, Moves, goes}
use Rattle.rmodel.proofs.reaching.Going.{satisfied_stays}
use Rattle.rmodel.proofs.reaching.HeldBySeat.{all_of, held_of_plain, held_of_unsatisfied, held_of_nested, nothing_of, is_nothing_of, within_nothing, within_itself, within_all, nothing_within, holds_here, HeldBy, holding}
use Rattle.rmodel.proofs.ListFacts.{contrary, false_from}
use Rattle.rmodel.proofs.settling.OneSettlement.{both_cases}
use Rattle.rmodel.proofs.reaching.OneOfSeat.{each_alone}
use Rattle.rmodel.proofs.reaching.Reached.{reached_next}

-- a claim, and the same claim at least as far, with at least as much granted
pub record IsGrown (x y : Claimed) : Type 0 where
  pub claim : y.claim ≡ x.claim
  pub satisfied : is_satisfied x ≡ true → is_satisfied y ≡ true
  pub granted : is_subset x.granted y.granted ≡ true

shared_grows : (s t u : Set) → is_subset s t ≡ true → is_subset (intersection s u) (intersection t u) ≡ true
shared_grows s t u within =
    within_intersection t u (intersection s u) (within_transitive (intersection s u) s t (intersection_within_left s u) within) (intersection_within_right s u)

-- it holds at least as much
pub grown_holds : (x y : Claimed) → IsGrown x y → is_within (held_by x) (held_by y) ≡ true
grown_holds x y grown =
    both_cases (is_nested x.claim.kind)
    (λ nested.
    let now = held_of_nested y (ap (λ c. is_nested c.kind) grown.claim ∙ nested) in
    (λ i. is_within (held_of_nested x nested i) (now i))
    ∙ (λ i. is_within (record { reads = intersection x.granted x.claim.reads; writes = intersection x.granted x.claim.writes })
    (record { reads = intersection y.granted (grown.claim i).reads; writes = intersection y.granted (grown.claim i).writes }))
    ∙ and_from (is_subset (intersection x.granted x.claim.reads) (intersection y.granted x.claim.reads)) (is_subset (intersection x.granted x.claim.writes) (intersection y.granted x.claim.writes))
    (shared_grows x.granted y.granted x.claim.reads grown.granted) (shared_grows x.granted y.granted x.claim.writes grown.granted))
    (λ plain.
    let plain_y = ap (λ c. is_nested c.kind) grown.claim ∙ plain in
    both_cases (is_satisfied x)
    (λ sat. (λ i. is_within (held_of_plain x plain sat i) ((held_of_plain y plain_y (grown.satisfied sat) ∙ ap all_of grown.claim) i)) ∙ within_itself (all_of x.claim))
    (λ unsat. ap (λ (g : Granted). is_within g (held_by y)) (held_of_unsatisfied x plain unsat) ∙ nothing_within (held_by y)))

-- a claim from one state to the next
pub grown : (s : LockState) (e : Event) (z x y : Claimed) → IsStill z x → Moves s e x y → IsGrown z y
grown s e z x y still m = record {
  claim = m.given.claim ∙ m.by_rule.same ∙ still.claim;
  satisfied = λ sat. ap satisfied_by m.given.status ∙ satisfied_stays (changed s e).claims (settled (changed s e).claims) x m.mid m.by_rule (ap satisfied_by still.status ∙ sat);
  granted = subst (λ (g : Set). is_subset g y.granted ≡ true) (m.by_rule.granted ∙ still.granted) m.given.granted;
}

pub held_next : (s : LockState) (e : Event) (seat : ℕ) → IsReached s → Comes s e → gives_back seat e ≡ false → is_within (holds_of s.claims seat) (holds_of (next s e).claims seat) ≡ true
held_next s e seat reached comes stays =
    holding s.claims seat (each_alone s reached) by_one
    (λ none. subst (λ (g : Granted). is_within g (holds_of (next s e).claims seat) ≡ true) (sym none) (nothing_within (holds_of (next s e).claims seat)))
  where
    by_one : HeldBy s.claims seat → is_within (holds_of s.claims seat) (holds_of (next s e).claims seat) ≡ true
    by_one h =
        let x = left s e h.by h.there (ap (λ n. gives_back n e) h.seated ∙ stays) in
        let y = goes s e reached comes x.to x.there in
        let more = grown s e h.by x.to y.0 x.still y.1 in
        let within = grown_holds h.by y.0 more in
        let some : is_nothing (held_by y.0) ≡ false = false_from (is_nothing (held_by y.0)) (λ none.
        contrary (is_nothing (held_by h.by)) (is_nothing_of (held_by h.by) (within_nothing (held_by h.by) (subst (λ (g : Granted). is_within (held_by h.by) g ≡ true) (nothing_of (held_by y.0) none) within))) h.some) in
        let held : holds_of (next s e).claims seat ≡ held_by y.0
        = holds_here (next s e).claims seat y.0 (each_alone (next s e) (reached_next s e reached comes)) y.1.in_next (ap (λ c. c.seat) more.claim ∙ h.seated) some in
        (λ i. is_within (h.is i) (held i)) ∙ within

pub held_after : (s : LockState) (es : List Event) (seat : ℕ) → IsReached s → AreAccepted s es → AllByRecursion (λ e. gives_back seat e ≡ false) es
    → is_within (holds_of s.claims seat) (holds_of (after s es).claims seat) ≡ true
held_after s [] seat reached accepted stays = within_itself (holds_of s.claims seat)
held_after s (e ∷ es) seat reached accepted stays =
    within_all (holds_of s.claims seat) (holds_of (next s e).claims seat) (holds_of (after (next s e) es).claims seat)
    (held_next s e seat reached accepted.0 stays.0) (held_after (next s e) es seat (reached_next s e reached accepted.0) accepted.1 stays.1)
