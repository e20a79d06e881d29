-- What each issued claim has, each claim has after any events: its sets lie within the resources, and it reads nothing that it writes.
use Rattle.std.proofs.Common.{◌≡◌, ℕ, true, false, not, ◌&&◌, ◌==◌, List, [], ◌∷◌, map, refl, sym, ap, subst, ◌∙◌, inl, inr}
use Rattle.std.proofs.lemmas.Bool.{and_parts}
use Rattle.std.specs.List.{list_all, AllByRecursion}
use Rattle.std.specs.FinSet.{empty, is_subset}
use Rattle.rset.specs.Sets.{Set, all_below, meets}
use Rattle.rset.proofs.SetLemmas.{all_below_empty, meets_empty_left, meets_empty_right, apart_within_left, apart_within_right}
use Rattle.rexpand.specs.Groups.{ReadGroups, is_group}
use Rattle.rexpand.proofs.PlaceLemmas.{places_below}
use Rattle.rclaim.specs.Requests.{RequestFields, FitsKind}
use Rattle.rclaim.specs.declared.request.Kind.{Kind}
use Rattle.rclaim.specs.declared.request.Kind.TheVariants.{Read, Write, Mixed, Upgrade, Nested}
use Rattle.rclaim.specs.declared.claim.Claim.{Claim}
use Rattle.rclaim.specs.declared.event.Event.{Event}
use Rattle.rclaim.specs.declared.event.Event.TheVariants.{Issue, Finish, Rise, Ask}
use Rattle.rmodel.specs.declared.claimed.Claimed.{Claimed}
use Rattle.rmodel.specs.Claims.{claim_of, claims_by, claims_of, waiting}
use Rattle.rmodel.specs.Holds.{held_by, holds_of}
use Rattle.rmodel.specs.Reached.{IsReached}
use Rattle.rmodel.specs.State.{LockState, opening}
use Rattle.rmodel.specs.Steps.{changed, next, after, Comes, AreAccepted}
use Rattle.rmodel.specs.WellFormed.{Among}
use Rattle.rmodel.proofs.reaching.Came.{came, among_map}
use Rattle.rmodel.proofs.reaching.HeldBySeat.{held_within, HeldBy, holding}
use Rattle.rmodel.proofs.ListFacts.{all_at, all_from, all_of_zip, among_append, among_filter}
use Rattle.rmodel.proofs.reaching.OneOfSeat.{each_alone}
use Rattle.rmodel.proofs.reaching.Reached.{reached_next, reached_opening}
use Rattle.rmodel.proofs.settling.Standing.{SameStanding, asking_standing}

-- ---- through every event

-- each claim of an issue that may come has P
abbrev pub Issues : (ReadGroups → Claim → Type 0) → Type 0
Issues P = (s : LockState) (seat : ℕ) (r : RequestFields) → Comes s (Issue seat r) → AllByRecursion (P s.groups) (claims_of s.groups.groups s.issued seat r)

module _ (P : ReadGroups → Claim → Type 0) (issues : Issues P) where
  each_changed : (s : LockState) (e : Event) → IsReached s → Comes s e → AllByRecursion (λ x. P s.groups x.claim) s.claims → (x : Claimed) → Among x (changed s e).claims → P s.groups x.claim
  each_changed s (Issue seat r) reached comes each x there =
      let ns = map (waiting r.first) (claims_of s.groups.groups s.issued seat r) in
      elim (among_append s.claims ns x there) [
        | inl old ↦ all_at (λ x. P s.groups x.claim) s.claims x each old
        | inr new ↦
            let c = among_map (waiting r.first) (claims_of s.groups.groups s.issued seat r) x new in
            subst (λ (z : Claimed). P s.groups z.claim) (sym c.2) (all_at (P s.groups) (claims_of s.groups.groups s.issued seat r) c.0 (issues s seat r comes) c.1)
      ]
  each_changed s (Finish seat) reached comes each x there = all_at (λ x. P s.groups x.claim) s.claims x each (among_filter (λ x. not (x.claim.seat == seat)) s.claims x there).0
  each_changed s (Rise seat) reached comes each x there =
      all_at (λ x. P s.groups x.claim) s.claims x each (among_filter (λ x. not ((x.claim.seat == seat) && not x.claim.write_half)) s.claims x there).0
  each_changed s (Ask seat part) reached comes each x there =
      all_at (λ x. P s.groups x.claim) (changed s (Ask seat part)).claims x
      (all_of_zip (λ x. P s.groups x.claim) SameStanding (λ x. P s.groups x.claim) (λ x y h same. subst (P s.groups) (sym same.claim) h) s.claims (changed s (Ask seat part)).claims each (asking_standing seat part s.claims))
      there

  same_groups : (s : LockState) (e : Event) → (next s e).groups ≡ s.groups
  same_groups s (Issue seat r) = refl
  same_groups s (Finish seat) = refl
  same_groups s (Rise seat) = refl
  same_groups s (Ask seat part) = refl

  pub each_next : (s : LockState) (e : Event) → IsReached s → Comes s e → AllByRecursion (λ x. P s.groups x.claim) s.claims → AllByRecursion (λ x. P (next s e).groups x.claim) (next s e).claims
  each_next s e reached comes each =
      all_from (λ x. P (next s e).groups x.claim) (next s e).claims (λ y there.
      let from = came s e reached comes y there in
      let m = from.1 in
      subst (λ (g : ReadGroups). P g y.claim) (sym (same_groups s e)) (subst (P s.groups) (sym (m.given.claim ∙ m.by_rule.same)) (each_changed s e reached comes each from.0 m.in_changed)))

  pub each_after : (s : LockState) (es : List Event) → IsReached s → AreAccepted s es → AllByRecursion (λ x. P s.groups x.claim) s.claims
      → AllByRecursion (λ x. P (after s es).groups x.claim) (after s es).claims
  each_after s [] reached accepted each = each
  each_after s (e ∷ es) reached accepted each = each_after (next s e) es (reached_next s e reached accepted.0) accepted.1 (each_next s e reached accepted.0 each)

-- ---- within the resources

-- where the groups lie within the resources, so do the sets of a claim
pub record AreSetsBelow (g : ReadGroups) (c : Claim) : Type 0 where
  pub reads : all_below g.q c.reads ≡ true
  pub writes : all_below g.q c.writes ≡ true
  pub places : list_all (is_group g.q) g.groups ≡ true → all_below g.q c.places ≡ true

module _ (g : ReadGroups) (stamp seat : ℕ) (k : Kind) (reads writes : Set) (low_reads : all_below g.q reads ≡ true) (low_writes : all_below g.q writes ≡ true) where
  read_below : AreSetsBelow g (claim_of g.groups false stamp seat k reads writes)
  read_below = record { reads = low_reads; writes = low_writes; places = λ _. low_reads }

  write_below : AreSetsBelow g (claim_of g.groups true stamp seat k reads writes)
  write_below = record { reads = low_reads; writes = low_writes; places = λ each. places_below g.q g.groups reads writes each low_reads low_writes }

claims_below : (g : ReadGroups) (stamp seat : ℕ) (k : Kind) (reads writes : Set) → all_below g.q reads ≡ true → all_below g.q writes ≡ true → AllByRecursion (AreSetsBelow g) (claims_by g.groups k stamp seat reads writes)
claims_below g stamp seat Read reads writes a b = (read_below g stamp seat Read reads writes a b, tt)
claims_below g stamp seat Write reads writes a b = (write_below g stamp seat Write reads writes a b, tt)
claims_below g stamp seat Mixed reads writes a b = (write_below g stamp seat Mixed reads writes a b, tt)
claims_below g stamp seat Upgrade reads writes a b =
    (read_below g stamp seat Upgrade reads empty a (all_below_empty g.q), (write_below g stamp seat Upgrade empty reads (all_below_empty g.q) a, tt))
claims_below g stamp seat Nested reads writes a b = (write_below g stamp seat Nested reads writes a b, tt)

issues_below : Issues AreSetsBelow
issues_below s seat r comes = claims_below s.groups s.issued seat r.kind r.reads r.writes comes.fits.reads comes.fits.writes

pub sets_below : (groups : ReadGroups) (seats cap : ℕ) (es : List Event) → AreAccepted (opening groups seats cap) es
    → AllByRecursion (λ x. AreSetsBelow (after (opening groups seats cap) es).groups x.claim) (after (opening groups seats cap) es).claims
sets_below groups seats cap es accepted = each_after AreSetsBelow issues_below (opening groups seats cap) es (reached_opening groups seats cap) accepted tt

-- ---- in one way

-- a claim reads nothing that it writes
abbrev pub ReadsApart : ReadGroups → Claim → Type 0
ReadsApart g c = meets c.reads c.writes ≡ false

claims_apart : (g : ReadGroups) (stamp seat : ℕ) (k : Kind) (reads writes : Set) → FitsKind k reads writes → AllByRecursion (ReadsApart g) (claims_by g.groups k stamp seat reads writes)
claims_apart g stamp seat Read reads writes fits = (ap (meets reads) fits.1 ∙ meets_empty_right reads, tt)
claims_apart g stamp seat Write reads writes fits = (ap (λ s. meets s writes) fits.0 ∙ meets_empty_left writes, tt)
claims_apart g stamp seat Mixed reads writes fits = (fits.0, tt)
claims_apart g stamp seat Upgrade reads writes fits = (meets_empty_right reads, (meets_empty_left reads, tt))
claims_apart g stamp seat Nested reads writes fits = (fits.0, tt)

issues_apart : Issues ReadsApart
issues_apart s seat r comes = claims_apart s.groups s.issued seat r.kind r.reads r.writes comes.normal.sets

pub reads_apart : (groups : ReadGroups) (seats cap : ℕ) (es : List Event) → AreAccepted (opening groups seats cap) es
    → AllByRecursion (λ x. ReadsApart (after (opening groups seats cap) es).groups x.claim) (after (opening groups seats cap) es).claims
reads_apart groups seats cap es accepted = each_after ReadsApart issues_apart (opening groups seats cap) es (reached_opening groups seats cap) accepted tt

-- so a seat holds each resource in one way
pub one_way : (s : LockState) (seat : ℕ) → IsReached s → AllByRecursion (λ x. ReadsApart s.groups x.claim) s.claims → meets (holds_of s.claims seat).reads (holds_of s.claims seat).writes ≡ false
one_way s seat reached apart =
    holding s.claims seat (each_alone s reached) by_one
    (λ none. (λ i. meets (none i).reads (none i).writes) ∙ meets_empty_left empty)
  where
    by_one : HeldBy s.claims seat → meets (holds_of s.claims seat).reads (holds_of s.claims seat).writes ≡ false
    by_one h =
        let x = h.by in
        let parts = and_parts (is_subset (held_by x).reads x.claim.reads) (is_subset (held_by x).writes x.claim.writes) (held_within x) in
        (λ i. meets (h.is i).reads (h.is i).writes)
        ∙ apart_within_left (held_by x).reads x.claim.reads (held_by x).writes parts.0
        (apart_within_right x.claim.reads (held_by x).writes x.claim.writes parts.1 (all_at (λ x. ReadsApart s.groups x.claim) s.claims x apart h.there))
