-- What requests have read so far, and whether anything was asked for so far: what these say about the claims also holds after a step.
use Rattle.std.proofs.Common.{◌≡◌, ℕ, Bool, true, false, not, nat_lt, ◌&&◌, ◌||◌, ◌==◌, cond, fold, List, [], ◌∷◌, ◌++◌, map, filter, refl, sym, ap, subst, ◌∙◌}
use Rattle.std.proofs.lemmas.Bool.{or_parts}
use Rattle.std.proofs.lemmas.List.Folds.{list_any-append}
use Rattle.std.specs.FinSet.{empty, union, len, len-empty, is_subset}
use Rattle.std.specs.Ordering.{nat_cmp}
use Rattle.rset.specs.Sets.{Set, meets}
use Rattle.rset.proofs.SetLemmas.{apart_within_left, within_transitive, within_union_left, within_union_right, within_empty}
use Rattle.rclaim.specs.Requests.{RequestFields}
use Rattle.rclaim.specs.declared.claim.Claim.{Claim}
use Rattle.rclaim.specs.declared.event.Event.{Event}
use Rattle.rclaim.specs.declared.request.Kind.{Kind}
use Rattle.rclaim.specs.declared.request.Kind.TheVariants.{Read, Write, Mixed, Upgrade, Nested}
use Rattle.rmodel.specs.declared.claimed.Claimed.{Claimed}
use Rattle.rmodel.specs.Changes.{SameClaim}
use Rattle.rmodel.specs.Claims.{claims_by, claims_of, is_satisfied, waiting}
use Rattle.rplain.specs.NewClaim.{seen_of, is_past, is_read, new_status, new_claim}
use Rattle.rmodel.specs.Settling.{with_status, read_near, is_clear, settled}
use Rattle.rmodel.specs.State.{LockState}
use Rattle.rmodel.specs.Steps.{Comes, changed, next, asking, some_asks, gets_asked, with_asked, given}
use Rattle.rplain.specs.Sweep.{AreReadWithin}
use Rattle.rmodel.specs.WellFormed.{IsSound}
use Rattle.rmodel.proofs.settling.Giving.{given_none, settled_asks, same_given}
use Rattle.rmodel.proofs.ListFacts.{all_append, all_of_zip}
use Rattle.rmodel.proofs.settling.Settlement.{ReadsOnly, settles_settled}
use Rattle.rmodel.proofs.reaching.Soundness.{same_claims, sound_changed}
use Rattle.rplain.proofs.settling.OneSwept.{none_near}

-- ---- what an event leaves, before it is settled

pub within_none : (read : Set) (xs : List Claimed) → xs ≡ [] → AreReadWithin read xs
within_none read xs none = subst (λ (l : List Claimed). AreReadWithin read l) (sym none) tt

pub within_more : (read more : Set) (xs : List Claimed) → AreReadWithin read xs → AreReadWithin (union read more) xs
within_more read more [] within = tt
within_more read more (x ∷ xs) within = (within_transitive x.claim.reads read (union read more) within.0 (within_union_left read more), within_more read more xs within.1)

-- an issue
pub within_issued : (read : Set) (xs : List Claimed) (groups : List Set) (stamp seat : ℕ) (r : RequestFields) → AreReadWithin read xs
    → AreReadWithin (union read r.reads) (xs ++ map (waiting r.first) (claims_of groups stamp seat r))
within_issued read xs groups stamp seat r within =
    all_append (λ x. is_subset x.claim.reads (union read r.reads) ≡ true) xs (map (waiting r.first) (claims_of groups stamp seat r)) (within_more read r.reads xs within) (by r.kind)
  where
    by : (k : Kind) → AreReadWithin (union read r.reads) (map (waiting r.first) (claims_by groups k stamp seat r.reads r.writes))
    by Read = (within_union_right read r.reads, tt)
    by Write = (within_union_right read r.reads, tt)
    by Mixed = (within_union_right read r.reads, tt)
    by Upgrade = (within_union_right read r.reads, (within_empty (union read r.reads), tt))
    by Nested = (within_union_right read r.reads, tt)

pub unasked_issued : (xs : List Claimed) (groups : List Set) (stamp seat : ℕ) (r : RequestFields) → some_asks xs ≡ false → nat_lt 0 (len r.first) ≡ false
    → some_asks (xs ++ map (waiting r.first) (claims_of groups stamp seat r)) ≡ false
unasked_issued xs groups stamp seat r none first =
    list_any-append (λ x. nat_lt 0 (len x.asked)) xs (map (waiting r.first) (claims_of groups stamp seat r)) ∙ (λ i. none i || by r.kind i)
  where
    by : (k : Kind) → some_asks (map (waiting r.first) (claims_by groups k stamp seat r.reads r.writes)) ≡ false
    by Read = (λ i. first i || false)
    by Write = (λ i. first i || false)
    by Mixed = (λ i. first i || false)
    by Upgrade = (λ i. first i || (first i || false))
    by Nested = (λ i. first i || false)

-- a finish and a rise
pub unasked_left : (stays : Claimed → Bool) (xs : List Claimed) → some_asks xs ≡ false → some_asks (filter stays xs) ≡ false
unasked_left stays [] none = refl
unasked_left stays (x ∷ xs) none = let parts = or_parts (nat_lt 0 (len x.asked)) (some_asks xs) none in at (stays x) parts.0 (unasked_left stays xs parts.1)
  where
    at : (b : Bool) → nat_lt 0 (len x.asked) ≡ false → some_asks (filter stays xs) ≡ false → some_asks (cond b (x ∷ filter stays xs) (filter stays xs)) ≡ false
    at true here later = (λ i. here i || later i)
    at false here later = later

-- an ask
pub within_asking : (read part : Set) (seat : ℕ) (xs : List Claimed) → AreReadWithin read xs → AreReadWithin read (map (asking seat part) xs)
within_asking read part seat [] within = tt
within_asking read part seat (x ∷ xs) within = (at (x.claim.seat == seat), within_asking read part seat xs within.1)
  where
    at : (b : Bool) → is_subset (cond b (record x { asked = part }) x).claim.reads read ≡ true
    at true = within.0
    at false = within.0

-- one new claim
pub within_pushed : (read : Set) (xs : List Claimed) (x : Claimed) → AreReadWithin read xs → is_subset x.claim.reads read ≡ true → AreReadWithin read (xs ++ new_claim xs x ∷ [])
unfolding new_claim
within_pushed read xs x within here =
    let z = with_status x (new_status xs (seen_of xs) x) in
    all_append (λ x. is_subset x.claim.reads read ≡ true) xs (with_asked xs z ∷ []) within (at (gets_asked xs z), tt)
  where
    at : (b : Bool)
        → let z = with_status x (new_status xs (seen_of xs) x) in is_subset (cond b (record z { asked = empty; granted = union z.granted z.asked }) z).claim.reads read ≡ true
    at true = here
    at false = here

pub read_only_pushed : (xs : List Claimed) (x : Claimed) → ReadsOnly x → ReadsOnly (new_claim xs x)
unfolding new_claim
read_only_pushed xs x only = let z = with_status x (new_status xs (seen_of xs) x) in at (gets_asked xs z)
  where
    at : (b : Bool) → let z = with_status x (new_status xs (seen_of xs) x) in ReadsOnly (cond b (record z { asked = empty; granted = union z.granted z.asked }) z)
    at true = only
    at false = only

-- ---- where nobody has read these resources

-- no satisfied claim reads them
pub unread : (read : Set) (s : Set) → meets read s ≡ false → (xs : List Claimed) → AreReadWithin read xs → is_read xs s ≡ false
unread read s apart [] within = refl
unread read s apart (x ∷ xs) within =
    (λ i.
    (ap (λ m. is_satisfied x && m) (apart_within_left x.claim.reads read s within.0 apart) ∙ none (is_satisfied x)) i
    || unread read s apart xs within.1 i)
  where
    none : (b : Bool) → (b && false) ≡ false
    none true = refl
    none false = refl

-- and no read that waits touches them
near_unread : (read : Set) (s : Set) → meets read s ≡ false → (xs : List Claimed) → AreReadWithin read xs → read_near xs s ≡ empty
unfolding read_near
near_unread read s apart [] within = refl
near_unread read s apart (x ∷ xs) within =
    ap (λ b. fold (λ all x. cond (not x.claim.write_half && not (is_satisfied x) && meets x.claim.reads s) (union all x.claim.reads) all) (cond b (union empty x.claim.reads) empty) xs)
    (ap (λ m. not x.claim.write_half && not (is_satisfied x) && m) (apart_within_left x.claim.reads read s within.0 apart) ∙ none_near x.claim.write_half (is_satisfied x))
    ∙ near_unread read s apart xs within.1

pub past_unread : (read : Set) (c : Claim) (xs : List Claimed) → meets read c.places ≡ false → AreReadWithin read xs → is_past xs c (read_near xs c.places) ≡ true
past_unread read c xs apart within =
    ap (is_past xs c) (near_unread read c.places apart xs within) ∙ ap (λ n. (n == 0) || is_clear xs c empty) (len-empty nat_cmp)

-- ---- what it settles to

module _ (s : LockState) (e : Event) (sound : IsSound s) (comes : Comes s e) where
  pub within_next : (read : Set) → AreReadWithin read (changed s e).claims → AreReadWithin read (next s e).claims
  within_next read within =
      let ys = (changed s e).claims in
      all_of_zip (λ x. is_subset x.claim.reads read ≡ true) SameClaim (λ y. is_subset y.claim.reads read ≡ true) (λ x y w same. ap (λ (c : Claim). is_subset c.reads read) same ∙ w) ys (given (settled ys)) within
      (same_given ys (settled ys) (same_claims ys (settled ys) (settles_settled ys (sound_changed s e sound comes).well_formed)))

  pub unasked_next : some_asks (changed s e).claims ≡ false → some_asks (next s e).claims ≡ false
  unasked_next none =
      let ys = (changed s e).claims in
      let still : some_asks (settled ys) ≡ false = settled_asks ys (sound_changed s e sound comes).well_formed ∙ none in
      ap some_asks (given_none (settled ys) still) ∙ still
