-- Which claims the sections of a write wait belong to: other writers and other readers of the zone.
use Rattle.std.proofs.Common.{◌≡◌, ◌≢◌, ◌≤◌, ℕ, ◌==◌, Bool, true, false, not, ◌&&◌, is_some, Option, Some, None, List, refl, sym, ap, subst, ◌∙◌, ◌⊎◌, inl, inr, arith}
use Rattle.std.proofs.lemmas.Bool.{and_from, and_parts, eq-eqb}
use Rattle.std.specs.List.{filter_map, AllByRecursion}
use Rattle.rset.specs.Sets.{Set, meets}
use Rattle.rset.proofs.SetLemmas.{meets_within_right, within_transitive}
use Rattle.rclaim.specs.declared.claim.Claim.{Claim}
use Rattle.rclaim.specs.declared.event.Event.{Event}
use Rattle.rmodel.specs.declared.claimed.Claimed.{Claimed}
use Rattle.rmodel.specs.Claims.{conflicts}
use Rattle.rmodel.specs.Reached.{IsReached}
use Rattle.rmodel.specs.State.{LockState}
use Rattle.rmodel.specs.Steps.{AreAccepted}
use Rattle.rmodel.specs.WellFormed.{IsClaim}
use Rattle.rmodel.proofs.ListFacts.{Among, contrary, all_at, any_among, among_filter}
use Rattle.rmodel.proofs.settling.Settlement.{conflict_of_read}
use Rattle.rbound.proofs.ClosedZones.{zones_are_closed}
use Rattle.rbound.specs.Bounds.{reads_there, writes_there, is_writer, write_length, greatest}
use Rattle.rbound.specs.Needs.{Needed}
use Rattle.rbound.specs.Zones.{zone_of, IsZone, is_there}
use Rattle.rcover_laws.specs.Line.{leasts, kept_moments, is_kept_least, write_sections}
use Rattle.rcover_laws.specs.Moments.{Moment, moments, is_claim}
use Rattle.rcover_laws.specs.Sections.{holder_of}
use Rattle.rcover_laws.specs.Waits.{WriteWaits}
use Rattle.rcover_laws.proofs.bounds.Knowing.{IsNeed, IsKnown, AreKnown, IsThere, there_by, of_line_there, greatest_at}
use Rattle.rcover_laws.proofs.bounds.ReadBound.{other_seats}
use Rattle.rcover_laws.proofs.covers.WriteCover.{least_is_of_first, least_is_there, each_there, holds_up, IsTakenFor, read_taken, taken_for, of_other_seats}
use Rattle.rcover_laws.proofs.lists.Different.{among_different, among_filter_map}
use Rattle.rcover_laws.proofs.lists.Found.{list_parts}
use Rattle.rcover_laws.proofs.runs.Moments.{at_moments, is_other}
use Rattle.rcover_laws.proofs.states.AtRest.{Sat, claim_is}
use Rattle.rcover_laws.proofs.states.LeastOfLine.{IsWriteThere}
use Rattle.rcover_laws.proofs.states.LeastOfLine as least_lemmas
use Rattle.rcover_laws.proofs.states.Lines.{IsOfLine}

module _ (c : Claim) (s : LockState) (es : List Event) (reached : IsReached s) (accepted : AreAccepted s es) (waits : AllByRecursion (WriteWaits c) (moments s es)) where
  -- ---- the reads that are taken

  -- a read that is taken: it is satisfied at some moment for a least claim of the line
  pub record IsTakenRead (x : Claim) : Type 0 where
    pub least : Claim
    pub among_leasts : Among least (leasts c (moments s es))
    pub read : x.write_half ≡ false
    pub conflict : conflicts x least ≡ true
    pub moment : Moment
    pub among : Among moment (moments s es)
    pub sat : Sat x moment

  none_is_some : {P : Type 0} → (x : Claim) → None ≡ Some x → P
  none_is_some x h = contrary false (ap is_some h) refl

  taken_of : (d x : Claim) → Among d (leasts c (moments s es)) → holder_of (holds_up d) (kept_moments c d (moments s es)) ≡ Some x → IsTakenRead x
  taken_of d x there is = elim (list_parts (kept_moments c d (moments s es))) [
    | inl none ↦ none_is_some x (ap (holder_of (holds_up d)) (sym none) ∙ is)
    | inr some ↦
        let in_kept : Among some.0 (kept_moments c d (moments s es)) = subst (λ (ns : List Moment). Among some.0 ns) (sym some.2) (inl refl) in
        let t = read_taken c s es reached accepted waits d there some.0 in_kept in
        let one : Some t.taken.one ≡ Some x = sym t.taken.is ∙ ap (holder_of (holds_up d)) (sym t.moments_are) ∙ is in
        from_one d x there t (ap (or_else x) one)
  ]
    where
      or_else : Claim → Option Claim → Claim
      or_else y None = y
      or_else y (Some z) = z

      from_one : (d x : Claim) → Among d (leasts c (moments s es)) → (t : IsTakenFor c s es reached accepted waits d) → t.taken.one ≡ x → IsTakenRead x
      from_one d x there t same = subst IsTakenRead same (
          let parts = and_parts (not t.taken.one.write_half) (conflicts t.taken.one d) t.taken.passes in
          let in_ms = among_filter (is_kept_least c d) (moments s es) t.first (subst (λ (ns : List Moment). Among t.first ns) (sym t.moments_are) (inl refl)) in
          record {
            least = d;
            among_leasts = there;
            read = not_true t.taken.one.write_half parts.0;
            conflict = parts.1;
            moment = t.first;
            among = in_ms.0;
            sat = t.taken.first;
          })
        where
          not_true : (b : Bool) → not b ≡ true → b ≡ false
          not_true true h = sym h
          not_true false h = refl

  pub taken_read : (x : Claim) → Among x (write_sections c (moments s es)).reads → IsTakenRead x
  taken_read x there =
      let found = among_filter_map (taken_for c s es reached accepted waits) (leasts c (moments s es)) x
      (among_different (filter_map (taken_for c s es reached accepted waits) (leasts c (moments s es))) x there) in
      taken_of found.0 x found.1 found.2

  -- ---- in the zone

  module _ (ns : List Needed) (len number : Claim → ℕ) (known : AllByRecursion (AreKnown ns len number) (moments s es)) (need : Needed) (in_ns : Among need ns) (is : IsNeed len number c need) where
    abbrev pub zone : Set
    zone = zone_of ns need.claim.places

    pub is_zone : IsZone ns need.claim.places (zone_of ns need.claim.places)
    is_zone = zones_are_closed ns need.claim.places

    abbrev pub IsOfZone : Claim → Type 0
    IsOfZone d = IsThere ns len number need.claim.places (zone_of ns need.claim.places) is_zone d

    pub known_at : (m : Moment) → Among m (moments s es) → (x : Claimed) → Among x m → (d : Claim) → x.claim ≡ d → IsKnown ns len number d
    known_at m in_m x there d same = subst (IsKnown ns len number) same (all_at (AreKnown ns len number) (moments s es) m known in_m x there)

    pub line_of_zone : (d : Claim) → IsOfLine c s.claims d → IsOfZone d
    line_of_zone d h =
        of_line_there ns len number need.claim.places (zone_of ns need.claim.places) is_zone c (record { known = record { need = need; among = in_ns; is = is }; there = is_zone.has }) s.claims known.0 d h

    -- another writer of the zone
    pub record IsOtherWrite (d : Claim) : Type 0 where
      pub of_zone : IsOfZone d
      pub there : IsWriteThere d s.claims
      pub other : d.seat ≢ c.seat

    pub other_write : (d : Claim) → Among d (leasts c (moments s es)) → is_claim d c ≡ false → IsOtherWrite d
    other_write d there not_c = record {
      of_zone = line_of_zone d (least_is_of_first c s es reached accepted waits d there);
      there = least_is_there c s es reached accepted waits d there;
      other = elim (all_at (λ d. (d ≡ c) ⊎ (d.seat ≢ c.seat)) (leasts c (moments s es)) d (of_other_seats c s es reached accepted waits).from_it there) [
        | inl same ↦ contrary (is_claim d c) (is_other d c same) not_c
        | inr other ↦ other
      ];
    }

    pub write_passes : (d : Claim) → (o : IsOtherWrite d) → (writes_there need.claim.seat zone o.of_zone.known.need && (o.of_zone.known.need.claim.seat == d.seat)) ≡ true
    write_passes d o =
        let n = o.of_zone.known in
        and_from (writes_there need.claim.seat zone n.need) (n.need.claim.seat == d.seat)
        (and_from (not (n.need.claim.seat == need.claim.seat) && n.need.claim.write_half) (is_there zone n.need)
        (and_from (not (n.need.claim.seat == need.claim.seat)) n.need.claim.write_half (other_seats len number d c n.need need n.is is o.other) (n.is.half ∙ o.there.write)) o.of_zone.there)
        (eq-eqb n.need.claim.seat d.seat n.is.seat)

    pub writes_zone : (d : Claim) → IsOtherWrite d → is_writer ns need.claim.seat zone d.seat ≡ true
    writes_zone d o = any_among (λ n. writes_there need.claim.seat zone n && (n.claim.seat == d.seat)) ns o.of_zone.known.need o.of_zone.known.among (write_passes d o)

    pub write_less : (d : Claim) → IsOtherWrite d → len d ≤ write_length ns need.claim.seat zone d.seat
    write_less d o =
        let n = o.of_zone.known in
        let less = greatest_at (λ n. writes_there need.claim.seat zone n && (n.claim.seat == d.seat)) ns n.need n.among (write_passes d o) in
        let same = n.is.lasts in omega arith

    -- another reader of the zone
    pub record IsOtherRead (x : Claim) : Type 0 where
      pub of_zone : IsOfZone x
      pub passes : reads_there need.claim.seat zone of_zone.known.need ≡ true
      pub other : x.seat ≢ c.seat

    -- a read that is satisfied at some moment and conflicts with a claim of the line
    pub other_read : (x d : Claim) → IsOfLine c s.claims d → x.write_half ≡ false → conflicts x d ≡ true → (m : Moment) → Among m (moments s es) → Sat x m → IsOtherRead x
    other_read x d of_line read conflict m in_m sat =
        record {
          of_zone = of_zone;
          passes = and_from (not (of_zone.known.need.claim.seat == need.claim.seat) && not of_zone.known.need.claim.write_half) (is_there zone of_zone.known.need)
              (and_from (not (of_zone.known.need.claim.seat == need.claim.seat)) (not of_zone.known.need.claim.write_half) (other_seats len number x c of_zone.known.need need of_zone.known.is is other)
              (ap not (of_zone.known.is.half ∙ read))) of_zone.there;
          other = other;
        }
      where
        is_x : IsClaim x
        is_x = all_at (λ m. Sat x m → IsClaim x) (moments s es) m (at_moments (λ m. Sat x m → IsClaim x) (λ t r h. subst IsClaim h.is (claim_is t r h.at h.among)) s es reached accepted) in_m sat

        of_d : IsOfZone d
        of_d = line_of_zone d of_line

        d_there : IsWriteThere d s.claims
        d_there = least_lemmas.of_line_there s reached c (each_there c s es reached accepted waits).0 d of_line

        is_d : IsClaim d
        is_d = subst IsClaim d_there.there.is (claim_is s reached d_there.there.at d_there.there.among)

        near : meets x.places zone ≡ true
        near =
            ap (λ u. meets u zone) (is_x.read_places read)
            ∙ meets_within_right x.reads d.writes zone
            (within_transitive d.writes d.places zone (is_d.writes_placed d_there.write) (within_transitive d.places of_d.known.need.claim.places zone of_d.known.is.places of_d.there))
            (sym (conflict_of_read x d (is_x.read_only read)) ∙ conflict)

        of_zone : IsOfZone x
        of_zone = there_by ns len number need.claim.places zone is_zone x (known_at m in_m sat.at sat.among x sat.is) near

        other : x.seat ≢ c.seat
        other seats =
            contrary x.write_half
            (ap (λ y. y.write_half) (sym sat.is)
            ∙ all_at (λ y. y.claim.seat ≡ c.seat → y.claim.write_half ≡ true) m sat.at (all_at (WriteWaits c) (moments s es) m waits in_m).alone sat.among (ap (λ y. y.seat) sat.is ∙ seats)) read

    pub read_less : (x : Claim) → IsOtherRead x → len x ≤ greatest (reads_there need.claim.seat zone) ns
    read_less x o =
        let n = o.of_zone.known in
        let less = greatest_at (reads_there need.claim.seat zone) ns n.need n.among o.passes in
        let same = n.is.lasts in omega arith
