-- What requests of one shape have in common, and that their claims are alike.
use Rattle.std.proofs.Common.{◌≡◌, ◌==◌, ◌&&◌, ℕ, Bool, true, false, List, ◌∷◌, Option, Some, None, option_to_list, refl, sym, ap, subst, ◌∙◌, inl, inr}
use Rattle.std.specs.Bool.{⊤}
use Rattle.std.proofs.lemmas.Bool.{eq-eqb, eqb-true, and_parts, and_from}
use Rattle.std.specs.FinSet.{empty}
use Rattle.rset.specs.Sets.{Set, equals}
use Rattle.rset.specs.SetFacts.{equals-true, equals_itself}
use Rattle.rclaim.specs.Codes.{kind_number, kind_of, kind_of-kind_number}
use Rattle.rclaim.specs.Requests.{RequestFields}
use Rattle.rclaim.specs.declared.claim.Claim.{Claim}
use Rattle.rclaim.specs.declared.request.Kind.{Kind}
use Rattle.rclaim.specs.declared.request.Kind.TheVariants.{Read, Write, Mixed, Upgrade, Nested}
use Rattle.rmodel.specs.Claims.{claim_of}
use Rattle.rmodel.specs.WellFormed.{Among}
use Rattle.rbound.specs.Needs.{Needed, needed_of, length_of}
use Rattle.rbound.specs.Kept.{write_among}
use Rattle.rbound.proofs.ClaimFacts.{made_by}
use Rattle.rbound_history.specs.Shapes.{Shape, same_shape, has_shape}
use Rattle.rbound_history.proofs.AlikeClaims.{SameClaim}

-- two requests of one shape
pub record Alike (a b : RequestFields) : Type 0 where
  pub kind : a.kind ≡ b.kind
  pub reads : a.reads ≡ b.reads
  pub writes : a.writes ≡ b.writes
  pub first : a.first ≡ b.first

pub alike : (a b : RequestFields) → same_shape a b ≡ true → Alike a b
alike a b h =
    let firsts = and_parts ((kind_number a.kind == kind_number b.kind) && equals a.reads b.reads && equals a.writes b.writes) (equals a.first b.first) h in
    let writes = and_parts ((kind_number a.kind == kind_number b.kind) && equals a.reads b.reads) (equals a.writes b.writes) firsts.0 in
    let reads = and_parts (kind_number a.kind == kind_number b.kind) (equals a.reads b.reads) writes.0 in
    record {
      kind = sym (kind_of-kind_number a.kind) ∙ ap kind_of (eqb-true (kind_number a.kind) (kind_number b.kind) reads.0) ∙ kind_of-kind_number b.kind;
      reads = equals-true a.reads b.reads reads.1;
      writes = equals-true a.writes b.writes writes.1;
      first = equals-true a.first b.first firsts.1;
    }

pub alike_back : (a b : RequestFields) → Alike a b → Alike b a
alike_back a b s = record { kind = sym s.kind; reads = sym s.reads; writes = sym s.writes; first = sym s.first }

pub alike_on : (a b c : RequestFields) → Alike a b → Alike b c → Alike a c
alike_on a b c s t = record { kind = s.kind ∙ t.kind; reads = s.reads ∙ t.reads; writes = s.writes ∙ t.writes; first = s.first ∙ t.first }

-- and such requests pass the test
pub shaped : (a b : RequestFields) → Alike a b → same_shape a b ≡ true
shaped a b s =
    and_from _ _
    (and_from _ _ (and_from _ _ (eq-eqb (kind_number a.kind) (kind_number b.kind) (ap kind_number s.kind)) (ap (equals a.reads) (sym s.reads) ∙ equals_itself a.reads))
    (ap (equals a.writes) (sym s.writes) ∙ equals_itself a.writes))
    (ap (equals a.first) (sym s.first) ∙ equals_itself a.first)

-- a request of a task, and its shape
pub record IsOf (t : ℕ) (r : RequestFields) (s : Shape) : Type 0 where
  pub task : t ≡ s.task
  pub alike : Alike r s.request

pub is_of : (task : ℕ) (r : RequestFields) (s : Shape) → has_shape task r s ≡ true → IsOf task r s
is_of task r s h =
    let parts = and_parts (task == s.task) (same_shape r s.request) h in
    record { task = eqb-true task s.task parts.0; alike = alike r s.request parts.1 }

pub of_shape : (task : ℕ) (r : RequestFields) (s : Shape) → IsOf task r s → has_shape task r s ≡ true
of_shape task r s is = and_from _ _ (eq-eqb task s.task is.task) (shaped r s.request is.alike)

-- ---- their claims

-- the claim of a request that is like a claim of another request
pub record Counterpart (a b : RequestFields) (ms : List Needed) (n : Needed) : Type 0 where
  pub like : Needed
  pub there : Among like ms
  pub same : SameClaim n.claim like.claim
  pub own_len : n.len ≡ length_of a n.claim
  pub like_len : like.len ≡ length_of b n.claim

same_claim : (groups : List Set) (half : Bool) (number other task : ℕ) (k : Kind) (reads writes : Set) → SameClaim (claim_of groups half number task k reads writes) (claim_of groups half other task k reads writes)
same_claim groups half number other task k reads writes = record { seat = refl; kind = refl; half = refl; reads = refl; writes = refl; places = refl }

counterpart_by : (groups : List Set) (k : Kind) (a b : RequestFields) (task number other : ℕ) (reads writes : Set) (n : Needed) → Among n (made_by groups k (length_of a) task number reads writes)
    → Counterpart a b (made_by groups k (length_of b) task other reads writes) n
counterpart_by groups Read a b task number other reads writes n (inl same) =
    subst (λ (m : Needed). Counterpart a b (made_by groups Read (length_of b) task other reads writes) m) (sym same)
    (record { like = _; there = inl refl; same = same_claim groups false number other task Read reads writes; own_len = refl; like_len = refl })
counterpart_by groups Read a b task number other reads writes n (inr there) = absurd there
counterpart_by groups Write a b task number other reads writes n (inl same) =
    subst (λ (m : Needed). Counterpart a b (made_by groups Write (length_of b) task other reads writes) m) (sym same)
    (record { like = _; there = inl refl; same = same_claim groups true number other task Write reads writes; own_len = refl; like_len = refl })
counterpart_by groups Write a b task number other reads writes n (inr there) = absurd there
counterpart_by groups Mixed a b task number other reads writes n (inl same) =
    subst (λ (m : Needed). Counterpart a b (made_by groups Mixed (length_of b) task other reads writes) m) (sym same)
    (record { like = _; there = inl refl; same = same_claim groups true number other task Mixed reads writes; own_len = refl; like_len = refl })
counterpart_by groups Mixed a b task number other reads writes n (inr there) = absurd there
counterpart_by groups Nested a b task number other reads writes n (inl same) =
    subst (λ (m : Needed). Counterpart a b (made_by groups Nested (length_of b) task other reads writes) m) (sym same)
    (record { like = _; there = inl refl; same = same_claim groups true number other task Nested reads writes; own_len = refl; like_len = refl })
counterpart_by groups Nested a b task number other reads writes n (inr there) = absurd there
counterpart_by groups Upgrade a b task number other reads writes n (inl same) =
    subst (λ (m : Needed). Counterpart a b (made_by groups Upgrade (length_of b) task other reads writes) m) (sym same)
    (record { like = _; there = inl refl; same = same_claim groups false number other task Upgrade reads empty; own_len = refl; like_len = refl })
counterpart_by groups Upgrade a b task number other reads writes n (inr (inl same)) =
    subst (λ (m : Needed). Counterpart a b (made_by groups Upgrade (length_of b) task other reads writes) m) (sym same)
    (record { like = _; there = inr (inl refl); same = same_claim groups true number other task Upgrade empty reads; own_len = refl; like_len = refl })
counterpart_by groups Upgrade a b task number other reads writes n (inr (inr there)) = absurd there

pub counterpart : (groups : List Set) (a b : RequestFields) (task number other : ℕ) → Alike a b → (n : Needed) → Among n (needed_of groups task number a) → Counterpart a b (needed_of groups task other b) n
counterpart groups a b task number other same n there =
    counterpart_by groups b.kind a b task number other b.reads b.writes n (subst (λ (ns : List Needed). Among n ns) (λ i. made_by groups (same.kind i) (length_of a) task number (same.reads i) (same.writes i)) there)

-- ---- the claims that wait

-- the write claims of both are alike, where there are any
abbrev pub SameWrites : Option Needed → Option Needed → Type 0
SameWrites None None = ⊤
SameWrites None (Some m) = ⊥
SameWrites (Some n) None = ⊥
SameWrites (Some n) (Some m) = SameClaim n.claim m.claim

-- the claims of two requests of one shape, which wait
pub record Heads (ns ms : List Needed) : Type 0 where
  pub first : Needed
  pub second : Option Needed
  pub are : first ∷ option_to_list second ≡ ns
  pub first_like : Needed
  pub second_like : Option Needed
  pub are_like : first_like ∷ option_to_list second_like ≡ ms
  pub same : SameClaim first.claim first_like.claim
  pub writes : SameWrites (write_among first second) (write_among first_like second_like)

heads_by : (groups : List Set) (k : Kind) (a b : Claim → ℕ) (task number other : ℕ) (reads writes : Set) → Heads (made_by groups k a task number reads writes) (made_by groups k b task other reads writes)
heads_by groups Read a b task number other reads writes = record {
  first = _;
  second = None;
  are = refl;
  first_like = _;
  second_like = None;
  are_like = refl;
  same = same_claim groups false number other task Read reads writes;
  writes = tt;
}
heads_by groups Write a b task number other reads writes = record {
  first = _;
  second = None;
  are = refl;
  first_like = _;
  second_like = None;
  are_like = refl;
  same = same_claim groups true number other task Write reads writes;
  writes = same_claim groups true number other task Write reads writes;
}
heads_by groups Mixed a b task number other reads writes = record {
  first = _;
  second = None;
  are = refl;
  first_like = _;
  second_like = None;
  are_like = refl;
  same = same_claim groups true number other task Mixed reads writes;
  writes = same_claim groups true number other task Mixed reads writes;
}
heads_by groups Nested a b task number other reads writes = record {
  first = _;
  second = None;
  are = refl;
  first_like = _;
  second_like = None;
  are_like = refl;
  same = same_claim groups true number other task Nested reads writes;
  writes = same_claim groups true number other task Nested reads writes;
}
heads_by groups Upgrade a b task number other reads writes = record {
  first = _;
  second = Some _;
  are = refl;
  first_like = _;
  second_like = Some _;
  are_like = refl;
  same = same_claim groups false number other task Upgrade reads empty;
  writes = same_claim groups true number other task Upgrade empty reads;
}

pub heads_of : (groups : List Set) (a b : RequestFields) (task number other : ℕ) → Alike a b → Heads (needed_of groups task number a) (needed_of groups task other b)
heads_of groups a b task number other same =
    subst (λ (ns : List Needed). Heads ns (needed_of groups task other b)) (λ i. made_by groups (sym same.kind i) (length_of a) task number (sym same.reads i) (sym same.writes i)) (heads_by groups b.kind (length_of a) (length_of b) task number other b.reads b.writes)
