-- What needs know of the claims of a state: each has its need, with its length.
use Rattle.std.proofs.Common.{◌≡◌, ◌≤◌, ℕ, max, Bool, true, false, ◌&&◌, cond, length, List, [], ◌∷◌, refl, sym, ap, subst, ◌∙◌, inl, inr, arith}
use Rattle.std.proofs.lemmas.Bool.{and_parts}
use Rattle.std.proofs.lemmas.List.Recursion.{is_sum_by}
use Rattle.std.specs.List.{list_any, sum_by, AllByRecursion}
use Rattle.std.specs.FinSet.{is_subset}
use Rattle.rset.specs.Sets.{Set, meets}
use Rattle.rset.proofs.SetLemmas.{meets_within_left, meets_within_right, within_transitive}
use Rattle.rclaim.specs.declared.claim.Claim.{Claim}
use Rattle.rmodel.specs.declared.claimed.Claimed.{Claimed}
use Rattle.rmodel.specs.Claims.{share_place}
use Rattle.rmodel.specs.Rules.{is_earlier_write}
use Rattle.rmodel.proofs.ListFacts.{Among, contrary, any_among, passing}
use Rattle.rbound.specs.Bounds.{greatest, one_if}
use Rattle.rbound.specs.Needs.{Needed}
use Rattle.rbound.specs.Zones.{IsZone, is_there}
use Rattle.rcover_laws.specs.Line.{line}
use Rattle.rcover_laws.specs.Moments.{Moment}
use Rattle.rcover_laws.proofs.lists.Counting.{total, total_within}
use Rattle.rcover_laws.proofs.lists.Found.{all_so}
use Rattle.rcover_laws.proofs.states.Lines.{IsOfLine}

-- a need is that of a claim; places may have grown
pub record IsNeed (len number : Claim → ℕ) (c : Claim) (n : Needed) : Type 0 where
  pub seat : n.claim.seat ≡ c.seat
  pub stamp : n.claim.stamp ≡ number c
  pub kind : n.claim.kind ≡ c.kind
  pub half : n.claim.write_half ≡ c.write_half
  pub reads : n.claim.reads ≡ c.reads
  pub writes : n.claim.writes ≡ c.writes
  pub places : is_subset c.places n.claim.places ≡ true
  pub lasts : n.len ≡ len c

-- a claim has its need among these
pub record IsKnown (ns : List Needed) (len number : Claim → ℕ) (c : Claim) : Type 0 where
  pub need : Needed
  pub among : Among need ns
  pub is : IsNeed len number c need

-- and so has each claim of a moment
abbrev pub AreKnown : List Needed → (Claim → ℕ) → (Claim → ℕ) → Moment → Type 0
AreKnown ns len number m = (x : Claimed) → Among x m → IsKnown ns len number x.claim

-- the greatest length is at least any length
pub greatest_at : (p : Needed → Bool) (ns : List Needed) (n : Needed) → Among n ns → p n ≡ true → n.len ≤ greatest p ns
greatest_at p [] n there pass = absurd there
greatest_at p (m ∷ ms) n (inl same) pass = at (p m) (ap p (sym same) ∙ pass) (ap (λ (x : Needed). x.len) same)
  where
    at : (b : Bool) → b ≡ true → n.len ≡ m.len → n.len ≤ cond b (max m.len (greatest p ms)) (greatest p ms)
    at true h e = omega arith
    at false h e = contrary false h refl
greatest_at p (m ∷ ms) n (inr later) pass = at (p m) (greatest_at p ms n later pass)
  where
    at : (b : Bool) → n.len ≤ greatest p ms → n.len ≤ cond b (max m.len (greatest p ms)) (greatest p ms)
    at true h = omega arith
    at false h = h

module _ (ns : List Needed) (len number : Claim → ℕ) (places zone : Set) (is_zone : IsZone ns places zone) where
  -- a claim has its need in the zone
  pub record IsThere (c : Claim) : Type 0 where
    pub known : IsKnown ns len number c
    pub there : is_there zone known.need ≡ true

  -- a claim that has a place in the zone has its need there
  pub there_by : (c : Claim) → IsKnown ns len number c → meets c.places zone ≡ true → IsThere c
  there_by c k h = record { known = k; there = is_zone.closed k.need k.among (meets_within_left c.places k.need.claim.places zone k.is.places h) }

  -- so has a claim that shares a place with such a claim
  pub there_beside : (c d : Claim) → IsThere d → IsKnown ns len number c → share_place c d ≡ true → IsThere c
  there_beside c d t k share =
      there_by c k (meets_within_right c.places d.places zone (within_transitive d.places t.known.need.claim.places zone t.known.is.places t.there) share)

  -- so have the claims of a line
  line_there : (c : Claim) → IsThere c → (xs : Moment) → AreKnown ns len number xs → (d : Claim) → Among d (line c xs) → IsThere d
  line_there c t [] known d there = absurd there
  line_there c t (x ∷ xs) known d there = at (is_earlier_write c x.claim && list_any (share_place x.claim) (c ∷ line c xs)) refl (line_there c t xs (λ y in_y. known y (inr in_y))) there
    where
      at : (b : Bool) → (is_earlier_write c x.claim && list_any (share_place x.claim) (c ∷ line c xs)) ≡ b → ((d : Claim) → Among d (line c xs) → IsThere d) → Among d (cond b (x.claim ∷ line c xs) (line c xs)) → IsThere d
      at false is rest h = rest d h
      at true is rest (inr later) = rest d later
      at true is rest (inl same) =
          let u = passing (share_place x.claim) (c ∷ line c xs) (and_parts (is_earlier_write c x.claim) (list_any (share_place x.claim) (c ∷ line c xs)) is).1 in
          let of_u : IsThere u.0 = elim u.1 [ inl is_c ↦ subst IsThere (sym is_c) t | inr in_xs ↦ rest u.0 in_xs ] in
          subst IsThere (sym same) (there_beside x.claim u.0 of_u (known x (inl refl)) u.2)

  pub of_line_there : (c : Claim) → IsThere c → (xs : Moment) → AreKnown ns len number xs → (d : Claim) → IsOfLine c xs d → IsThere d
  of_line_there c t xs known d (inl is) = subst IsThere (sym is) t
  of_line_there c t xs known d (inr there) = line_there c t xs known d there

-- ---- few sections

-- a section has a need that passes a test, with its length
pub record Passes (p : Needed → Bool) (ns : List Needed) (len : Claim → ℕ) (x : Claim) : Type 0 where
  pub need : Needed
  pub among : Among need ns
  pub passes : p need ≡ true
  pub lasts : need.len ≡ len x

passes_any : (p : Needed → Bool) (ns : List Needed) (len : Claim → ℕ) (x : Claim) → Passes p ns len x → list_any p ns ≡ true
passes_any p ns len x h = any_among p ns h.need h.among h.passes

passes_less : (p : Needed → Bool) (ns : List Needed) (len : Claim → ℕ) (x : Claim) → Passes p ns len x → len x ≤ greatest p ns
passes_less p ns len x h = let less = greatest_at p ns h.need h.among h.passes in let same = h.lasts in omega arith

-- at most one section, and its bound
pub record AreFew (p : Needed → Bool) (ns : List Needed) (len : Claim → ℕ) (xs : List Claim) : Type 0 where
  pub number : length xs ≤ one_if (list_any p ns)
  pub units : sum_by len xs ≤ greatest p ns

pub sum_is_total : (len : Claim → ℕ) (xs : List Claim) → total len xs ≡ sum_by len xs
sum_is_total len xs = is_sum_by (total len) len refl (λ x ys. refl) xs

pub few : (p : Needed → Bool) (ns : List Needed) (len : Claim → ℕ) (xs : List Claim) → length xs ≤ 1 → AllByRecursion (Passes p ns len) xs → AreFew p ns len xs
few p ns len [] short each = record { number = omega arith; units = omega arith }
few p ns len (x ∷ xs) short each = record {
  number = (let one : one_if (list_any p ns) ≡ 1 = ap (λ b. one_if b) (passes_any p ns len x each.0) in omega arith);
  units = (let all = total_within len (greatest p ns) 1 (x ∷ xs) short (all_so (Passes p ns len) (λ x. len x ≤ greatest p ns) (passes_less p ns len) (x ∷ xs) each) in let same = sum_is_total len (x ∷ xs) in omega arith);
}
