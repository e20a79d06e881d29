-- The claims of a request, as an issue adds them.
use Rattle.std.proofs.Common.{◌≡◌, ◌≢◌, ℕ, ◌+◌, Bool, true, false, not, cond, List, [], ◌∷◌, map, refl, sym, ap, ◌∙◌, arith}
use Rattle.std.proofs.lemmas.Bool.{true≢false, and_parts}
use Rattle.std.specs.List.{count_by, AllByRecursion}
use Rattle.std.specs.FinSet.{empty, union, is_subset}
use Rattle.rset.specs.Sets.{Set}
use Rattle.rset.proofs.SetLemmas.{within_empty, union_empty_left}
use Rattle.rexpand.proofs.DeclaredLemmas.{filled_by_number}
use Rattle.rexpand.proofs.PlaceLemmas.{reads_within_places, writes_within_places}
use Rattle.rclaim.specs.Requests.{RequestFields, FitsKind, FitsFirst, IsNormal, is_part}
use Rattle.rclaim.specs.declared.request.Kind.{Kind}
use Rattle.rclaim.specs.declared.request.Kind.TheVariants.{Read, Write, Mixed, Upgrade, Nested}
use Rattle.rclaim.specs.declared.claim.Claim.{Claim}
use Rattle.rclaim.specs.declared.claim.Status.TheVariants.{Waiting}
use Rattle.rmodel.specs.declared.claimed.Claimed.{Claimed}
use Rattle.rmodel.specs.Claims.{claim_of, claims_by, claims_of, is_nested, is_read_half, waiting}
use Rattle.rmodel.specs.WellFormed.{EachPair, Rises, IsClaim, Distinct, HasParts}

-- a claim that an issue adds
pub record IsNew (stamp seat : ℕ) (x : Claimed) : Type 0 where
  pub stamped : x.claim.stamp ≡ stamp
  pub seated : x.claim.seat ≡ seat
  pub waits : x.status ≡ Waiting
  pub nothing_granted : x.granted ≡ empty
  pub is_claim : IsClaim x.claim
  pub has_parts : HasParts x

-- the claims that an issue adds: they are those of one request
pub record AreNew (stamp seat : ℕ) (xs : List Claimed) : Type 0 where
  pub each : AllByRecursion (IsNew stamp seat) xs
  pub rising : EachPair Rises xs
  pub distinct : EachPair Distinct xs
  pub one : count_by (λ x. not (is_read_half x.claim)) xs ≡ 1

read_is_claim : (groups : List Set) (stamp seat : ℕ) (kind : Kind) (reads writes : Set) → reads ≢ empty → writes ≡ empty → IsClaim (claim_of groups false stamp seat kind reads writes)
read_is_claim groups stamp seat kind reads writes some none = record {
  reads_some = λ _. some;
  read_only = λ _. none;
  read_places = λ _. refl;
  writes_some = λ w. absurd (true≢false (sym w));
  reads_placed = λ w. absurd (true≢false (sym w));
  writes_placed = λ w. absurd (true≢false (sym w));
}

write_is_claim : (groups : List Set) (stamp seat : ℕ) (kind : Kind) (reads writes : Set) → writes ≢ empty → IsClaim (claim_of groups true stamp seat kind reads writes)
write_is_claim groups stamp seat kind reads writes some = record {
  reads_some = λ w. absurd (true≢false w);
  read_only = λ w. absurd (true≢false w);
  read_places = λ w. absurd (true≢false w);
  writes_some = λ _. some;
  reads_placed = λ _. reads_within_places groups reads writes;
  writes_placed = λ _. writes_within_places groups reads writes;
}

-- a claim that asks for nothing
plain_parts : (c : Claim) (first : Set) → is_nested c.kind ≡ false → first ≡ empty → HasParts (waiting first c)
plain_parts c first plain none = record {
  of_others = λ _. (none, refl);
  writes = λ n. absurd (true≢false (sym n ∙ plain));
  some = λ n. absurd (true≢false (sym n ∙ plain));
  asked = ap (λ f. is_subset f (union c.reads c.writes)) none ∙ within_empty (union c.reads c.writes);
  granted = within_empty (union c.reads c.writes);
  waits = λ _. refl;
}

-- the claim of a nested request, which asks for its first part
nested_parts : (c : Claim) (first : Set) → is_nested c.kind ≡ true → c.write_half ≡ true → is_part first (union c.reads c.writes) ≡ true → HasParts (waiting first c)
nested_parts c first nested writes part =
    let parts = and_parts _ (is_subset first (union c.reads c.writes)) part in
    record {
      of_others = λ p. absurd (true≢false (sym nested ∙ p));
      writes = λ _. writes;
      some = λ _ none. filled_by_number first parts.0 (sym (union_empty_left first) ∙ none);
      asked = parts.1;
      granted = within_empty (union c.reads c.writes);
      waits = λ _. refl;
    }

-- one claim alone
alone : (stamp seat : ℕ) (c : Claim) (first : Set) → c.stamp ≡ stamp → c.seat ≡ seat → IsClaim c → HasParts (waiting first c) → is_read_half c ≡ false → AreNew stamp seat (waiting first c ∷ [])
alone stamp seat c first stamped seated is parts whole = record {
  each = (record { stamped = stamped; seated = seated; waits = refl; nothing_granted = refl; is_claim = is; has_parts = parts }, tt);
  rising = (tt, tt);
  distinct = (tt, tt);
  one = count_one (is_read_half c) whole;
}
  where
    count_one : (b : Bool) → b ≡ false → (0 + cond (not b) 1 0) ≡ 1
    count_one true h = absurd (true≢false h)
    count_one false h = refl

new_by : (groups : List Set) (k : Kind) (stamp seat : ℕ) (reads writes first : Set) → FitsKind k reads writes → FitsFirst k (union reads writes) first
    → AreNew stamp seat (map (waiting first) (claims_by groups k stamp seat reads writes))
new_by groups Read stamp seat reads writes first fits none =
    alone stamp seat (claim_of groups false stamp seat Read reads writes) first refl refl (read_is_claim groups stamp seat Read reads writes fits.0 fits.1) (plain_parts _ first refl none) refl
new_by groups Write stamp seat reads writes first fits none =
    alone stamp seat (claim_of groups true stamp seat Write reads writes) first refl refl (write_is_claim groups stamp seat Write reads writes fits.1) (plain_parts _ first refl none) refl
new_by groups Mixed stamp seat reads writes first fits none =
    alone stamp seat (claim_of groups true stamp seat Mixed reads writes) first refl refl (write_is_claim groups stamp seat Mixed reads writes fits.1) (plain_parts _ first refl none) refl
new_by groups Upgrade stamp seat reads writes first fits none = record {
  each = (
    record { stamped = refl; seated = refl; waits = refl; nothing_granted = refl; is_claim = read_is_claim groups stamp seat Upgrade reads empty fits.0 refl; has_parts = plain_parts _ first refl none },
    (
      record { stamped = refl; seated = refl; waits = refl; nothing_granted = refl; is_claim = write_is_claim groups stamp seat Upgrade empty reads fits.0; has_parts = plain_parts _ first refl none },
      tt,
    ),
  );
  rising = ((record { not_above = omega arith; after_write = λ w. absurd (true≢false (sym w)) }, tt), (tt, tt));
  distinct = ((λ _. record { stamp = refl; reads = refl; upgrade = refl; writes = refl; same = refl }, tt), (tt, tt));
  one = refl;
}
new_by groups Nested stamp seat reads writes first fits part =
    alone stamp seat (claim_of groups true stamp seat Nested reads writes) first refl refl (write_is_claim groups stamp seat Nested reads writes fits.1) (nested_parts _ first refl refl part) refl

pub new_claims : (groups : List Set) (stamp seat : ℕ) (r : RequestFields) → IsNormal r → AreNew stamp seat (map (waiting r.first) (claims_of groups stamp seat r))
new_claims groups stamp seat r normal = new_by groups r.kind stamp seat r.reads r.writes r.first normal.sets normal.first
