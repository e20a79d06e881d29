-- What a seat may do while nothing of it is pending: it holds what its section holds.
use Rattle.std.proofs.Common.{◌≡◌, ℕ, ◌==◌, nat_lt, Bool, true, false, cond, not, ◌&&◌, ◌||◌, Some, refl, sym, ap, subst, ◌∙◌, ◌⊎◌, inl, inr}
use Rattle.std.proofs.lemmas.Bool.{true≢false, eq-eqb, or_parts, and_from, or_left, or_right}
use Rattle.std.specs.Ordering.{nat_cmp}
use Rattle.std.specs.FinSet.{empty, union, intersection, contains, len}
use Rattle.rset.specs.Sets.{Set}
use Rattle.rset.proofs.SetLemmas.{contains_empty, same_members}
use Rattle.rclaim.specs.Requests.{is_part}
use Rattle.rclaim.specs.declared.claim.Claim.{Claim}
use Rattle.rclaim.specs.declared.request.Kind.{Kind}
use Rattle.rclaim.specs.declared.request.Kind.TheVariants as kinds
use Rattle.rmodel.specs.declared.claimed.Claimed.{Claimed}
use Rattle.rmodel.specs.declared.granted.Granted.{Granted}
use Rattle.rmodel.specs.Claims.{is_nested, is_satisfied}
use Rattle.rmodel.specs.Holds.{holds_of, held_by, has_request, has_ask, is_nothing}
use Rattle.rmodel.specs.Reached.{IsReached}
use Rattle.rmodel.specs.State.{LockState}
use Rattle.rmodel.specs.Steps.{is_not_holding}
use Rattle.rmodel.proofs.ListFacts.{Among, contrary, any_among, none_among}
use Rattle.rmodel.proofs.reaching.HeldBySeat.{HeldBy, holding, is_nothing_of, held_of_plain, held_of_unsatisfied, held_of_nested}
use Rattle.rmodel.proofs.reaching.OneOfSeat.{each_alone}
use Rattle.rstate.specs.Contents.{is_ready}
use Rattle.rstate.specs.Histories.{Beginning, lock_after}
use Rattle.rstate.proofs.histories.Following.{reached_lawful}
use Rattle.rguard.specs.Guards.{HasSeenLawful, HasSeenOwn, IsReady, Holding, HoldingToWrite, IsPartOf}
use Rattle.rguard.specs.Seats.{SeatOf}
use Rattle.rnlp_lock.proofs.Standing.{OpenSection, section_made, HalfFor, SetsFor, IsFor, Stands, none_in, stands}

-- what a section with a request of this kind holds: an upgrade reads its set until it rises, and writes it after that;
-- a nested request holds what it has asked for, and every other kind holds all of its sets
abbrev pub held_as : Kind → OpenSection → Granted
held_as kinds.Read s = record { reads = s.request.reads; writes = s.request.writes }
held_as kinds.Write s = record { reads = s.request.reads; writes = s.request.writes }
held_as kinds.Mixed s = record { reads = s.request.reads; writes = s.request.writes }
held_as kinds.Upgrade s = cond s.risen (record { reads = empty; writes = s.request.reads }) (record { reads = s.request.reads; writes = empty })
held_as kinds.Nested s = record { reads = intersection s.asked s.request.reads; writes = intersection s.asked s.request.writes }

-- the seat holds what the section holds, and may ask for any part of what its nested request is about
pub record MayDo {V E : Type 0} (seat : SeatOf V E) (s : OpenSection) : Type 0 where
  pub holds : (l : ℕ) → (contains (held_as s.request.kind s).reads l || contains (held_as s.request.kind s).writes l) ≡ true → Holding seat l
  pub writes : (l : ℕ) → contains (held_as s.request.kind s).writes l ≡ true → HoldingToWrite seat l
  pub asks : (part : Set) → is_nested s.request.kind ≡ true → is_part part (union s.request.reads s.request.writes) ≡ true → IsPartOf seat part

-- the seat holds what the section holds; for an upgrade that has not risen, one of the two halves holds all of its set
abbrev pub Holds : Kind → OpenSection → Granted → Type 0
Holds kinds.Read s g = g ≡ held_as kinds.Read s
Holds kinds.Write s g = g ≡ held_as kinds.Write s
Holds kinds.Mixed s g = g ≡ held_as kinds.Mixed s
Holds kinds.Upgrade s g = ((s.risen ≡ false) × (g ≡ record { reads = s.request.reads; writes = empty })) ⊎ (g ≡ record { reads = empty; writes = s.request.reads })
Holds kinds.Nested s g = g ≡ held_as kinds.Nested s

module _ (s : OpenSection) (x : Claimed) (some : is_nothing (held_by x) ≡ false) (none : (l : ℕ) → contains x.asked l ≡ false) where
  -- what a claim holds that is not nested and holds something
  whole : is_nested x.claim.kind ≡ false → held_by x ≡ record { reads = x.claim.reads; writes = x.claim.writes }
  whole flat = at (is_satisfied x) refl
    where
      at : (c : Bool) → is_satisfied x ≡ c → held_by x ≡ record { reads = x.claim.reads; writes = x.claim.writes }
      at true is = held_of_plain x flat is
      at false is = contrary (is_nothing (held_by x)) (is_nothing_of (held_by x) (held_of_unsatisfied x flat is)) some

  plain : is_nested x.claim.kind ≡ false → (reads writes : Set) → (x.claim.reads ≡ reads) × (x.claim.writes ≡ writes) → held_by x ≡ record { reads = reads; writes = writes }
  plain flat reads writes is = whole flat ∙ (λ i. record { reads = is.0 i; writes = is.1 i })

  granted_is : IsFor kinds.Nested s.risen s.request.reads s.request.writes s.asked x → x.granted ≡ s.asked
  granted_is is = same_members x.granted s.asked (λ l. sym (or_false (contains x.granted l)) ∙ ap (λ b. contains x.granted l || b) (sym (none l)) ∙ is.parts refl l)
    where
      or_false : (a : Bool) → (a || false) ≡ a
      or_false true = refl
      or_false false = refl

  half : is_nested x.claim.kind ≡ false → HalfFor s.risen s.request.reads x.claim → Holds kinds.Upgrade s (held_by x)
  half flat (inl h) = inl (h.0, plain flat s.request.reads empty (h.2, h.3))
  half flat (inr h) = inr (plain flat empty s.request.reads (h.1, h.2))

  by_kind : (k : Kind) → IsFor k s.risen s.request.reads s.request.writes s.asked x → Holds k s (held_by x)
  by_kind kinds.Read is = plain (ap is_nested is.kind_is) s.request.reads s.request.writes is.sets
  by_kind kinds.Write is = plain (ap is_nested is.kind_is) s.request.reads s.request.writes is.sets
  by_kind kinds.Mixed is = plain (ap is_nested is.kind_is) s.request.reads s.request.writes is.sets
  by_kind kinds.Upgrade is = half (ap is_nested is.kind_is) is.sets
  by_kind kinds.Nested is =
      held_of_nested x (ap is_nested is.kind_is)
      ∙ (λ i. record { reads = intersection (granted_is is i) (is.sets.0 i); writes = intersection (granted_is is i) (is.sets.1 i) })

-- what a seat holds that is in the section and waits for nothing
holds_by_section : (n : ℕ) (s : OpenSection) (lock : LockState) → IsReached lock → Stands n s lock → is_ready lock n ≡ true → Holds s.request.kind s (holds_of lock.claims n) × HeldBy lock.claims n
holds_by_section n s lock reached stands ready = holding lock.claims n (each_alone lock reached) by_one (λ none. contrary (is_nothing (holds_of lock.claims n)) (is_nothing_of (holds_of lock.claims n) none) some.0)
  where
    not_both : (x y : Bool) → not (x && y) ≡ true → x ≡ true → y ≡ false
    not_both true true h x_is = absurd (true≢false (sym h))
    not_both true false h x_is = refl
    not_both false y h x_is = absurd (true≢false (sym x_is))

    some : (is_nothing (holds_of lock.claims n) ≡ false) × (has_ask lock.claims n ≡ false)
    some = or_parts (is_nothing (holds_of lock.claims n)) (has_ask lock.claims n) (not_both (has_request lock.claims n) (is_not_holding lock.claims n) ready stands.some)

    unasked : (x : Claimed) → Among x lock.claims → x.claim.seat ≡ n → (l : ℕ) → contains x.asked l ≡ false
    unasked x there seated l = none_in x.asked (second (x.claim.seat == n) (nat_lt 0 (len x.asked)) (eq-eqb x.claim.seat n seated) (none_among (λ x. (x.claim.seat == n) && nat_lt 0 (len x.asked)) lock.claims x some.1 there)) l
      where
        second : (a b : Bool) → a ≡ true → (a && b) ≡ false → b ≡ false
        second true b is h = h
        second false b is h = absurd (true≢false (sym is))

    by_one : HeldBy lock.claims n → Holds s.request.kind s (holds_of lock.claims n) × HeldBy lock.claims n
    by_one h = (subst (Holds s.request.kind s) (sym h.is) (by_kind s h.by h.some (unasked h.by h.there h.seated) s.request.kind (stands.each h.by h.there h.seated)), h)

-- ---- resources that are held

-- what an upgrade holds
abbrev pub upgrade_held : Bool → Set → Granted
upgrade_held risen set = cond risen (record { reads = empty; writes = set }) (record { reads = set; writes = empty })

module _ (s : OpenSection) (g : Granted) (l : ℕ) where
  held : (k : Kind) → Holds k s g → (contains (held_as k s).reads l || contains (held_as k s).writes l) ≡ true → (contains g.reads l || contains g.writes l) ≡ true
  held kinds.Read is h = ap (λ (x : Granted). contains x.reads l || contains x.writes l) is ∙ h
  held kinds.Write is h = ap (λ (x : Granted). contains x.reads l || contains x.writes l) is ∙ h
  held kinds.Mixed is h = ap (λ (x : Granted). contains x.reads l || contains x.writes l) is ∙ h
  held kinds.Nested is h = ap (λ (x : Granted). contains x.reads l || contains x.writes l) is ∙ h
  held kinds.Upgrade is h = by_half is
    where
      or_false : (a : Bool) → (a || false) ≡ a
      or_false true = refl
      or_false false = refl

      either : (c : Bool) → (contains (upgrade_held c s.request.reads).reads l || contains (upgrade_held c s.request.reads).writes l) ≡ true → contains s.request.reads l ≡ true
      either true h = ap (λ b. b || contains s.request.reads l) (sym (contains_empty l)) ∙ h
      either false h = sym (or_false (contains s.request.reads l)) ∙ ap (λ b. contains s.request.reads l || b) (sym (contains_empty l)) ∙ h

      by_half : Holds kinds.Upgrade s g → (contains g.reads l || contains g.writes l) ≡ true
      by_half (inl e) = ap (λ (x : Granted). contains x.reads l || contains x.writes l) e.1 ∙ or_left (contains s.request.reads l) (contains (empty {R = nat_cmp}) l) (either s.risen h)
      by_half (inr e) = ap (λ (x : Granted). contains x.reads l || contains x.writes l) e ∙ or_right (contains (empty {R = nat_cmp}) l) (contains s.request.reads l) (either s.risen h)

  written : (k : Kind) → Holds k s g → contains (held_as k s).writes l ≡ true → contains g.writes l ≡ true
  written kinds.Read is h = ap (λ (x : Granted). contains x.writes l) is ∙ h
  written kinds.Write is h = ap (λ (x : Granted). contains x.writes l) is ∙ h
  written kinds.Mixed is h = ap (λ (x : Granted). contains x.writes l) is ∙ h
  written kinds.Nested is h = ap (λ (x : Granted). contains x.writes l) is ∙ h
  written kinds.Upgrade is h = at s.risen refl is h
    where
      at : (c : Bool) → s.risen ≡ c → Holds kinds.Upgrade s g → contains (upgrade_held c s.request.reads).writes l ≡ true → contains g.writes l ≡ true
      at true risen (inl e) h = absurd (true≢false (sym risen ∙ e.0))
      at true risen (inr e) h = ap (λ (x : Granted). contains x.writes l) e ∙ h
      at false risen e h = absurd (true≢false (sym h ∙ contains_empty l))

-- a nested request has one claim, which reads and writes what the request does
nested_sets : (k : Kind) (risen : Bool) (reads writes : Set) (c : Claim) → is_nested k ≡ true → SetsFor k risen reads writes c → (c.reads ≡ reads) × (c.writes ≡ writes)
nested_sets kinds.Read risen reads writes c nested h = h
nested_sets kinds.Write risen reads writes c nested h = h
nested_sets kinds.Mixed risen reads writes c nested h = h
nested_sets kinds.Upgrade risen reads writes c nested h = absurd (true≢false (sym nested))
nested_sets kinds.Nested risen reads writes c nested h = h

module _ {V E : Type 0} (after : V → E → V) (taken : V → E → Bool) (number : V → ℕ) (seat : SeatOf V E) (s : OpenSection) where
  pub may_do : HasSeenLawful after taken number seat → HasSeenOwn seat → IsReady seat true → section_made seat.mine ≡ Some s → MayDo seat s
  may_do lawful own ready made = record {
    holds = λ l h b opens. held s (holds_of (lock_after b seat.seen).claims seat.number) l s.request.kind (all b opens).0 h;
    writes = λ l h b opens. written s (holds_of (lock_after b seat.seen).claims seat.number) l s.request.kind (all b opens).0 h;
    asks = λ part nested h b opens.
        let by = (all b opens).1 in
        let sets = nested_sets s.request.kind s.risen s.request.reads s.request.writes by.by.claim nested ((stands_at b opens).each by.by by.there by.seated).sets in
        any_among (λ (x : Claimed). (x.claim.seat == seat.number) && is_part part (union x.claim.reads x.claim.writes)) (lock_after b seat.seen).claims by.by by.there
        (and_from (by.by.claim.seat == seat.number) (is_part part (union by.by.claim.reads by.by.claim.writes)) (eq-eqb by.by.claim.seat seat.number by.seated)
        ((λ i. is_part part (union (sets.0 i) (sets.1 i))) ∙ h));
  }
    where
      stands_at : (b : Beginning V) → seat.opening ≡ Some b → Stands seat.number s (lock_after b seat.seen)
      stands_at b opens = stands after taken number b seat.number seat.seen (lawful b opens) s (ap section_made own ∙ made)

      all : (b : Beginning V) → seat.opening ≡ Some b → Holds s.request.kind s (holds_of (lock_after b seat.seen).claims seat.number) × HeldBy (lock_after b seat.seen).claims seat.number
      all b opens = holds_by_section seat.number s (lock_after b seat.seen) (reached_lawful after taken number b seat.seen (lawful b opens)) (stands_at b opens) (ready b opens)
