-- Sound states: an accepted event keeps a state sound, and so does settling.
use Rattle.std.proofs.Common.{◌≡◌, ◌≢◌, ℕ, ◌+◌, ◌<◌, ◌≤◌, ◌==◌, Bool, true, false, not, ◌&&◌, cond, List, [], ◌∷◌, ◌++◌, map, filter, Option, Some, None, refl, sym, ap, subst, ◌∙◌, inl, inr, arith}
use Rattle.std.proofs.lemmas.Bool.{true≢false, eq-eqb, eqb-true, or_cases, or_parts, and_parts}
use Rattle.std.proofs.lemmas.List.Sums.{sum_by-append}
use Rattle.std.specs.List.{count_by, AllZip, AllByRecursion}
use Rattle.std.specs.FinSet.{empty, union, is_subset}
use Rattle.rset.specs.Sets.{Set}
use Rattle.rset.proofs.SetLemmas.{within_empty, within_union_right, empty_within, union_within, union_empty_left, union_empty_right}
use Rattle.rexpand.specs.Groups.{ReadGroups}
use Rattle.rexpand.proofs.DeclaredLemmas.{filled_by_number}
use Rattle.rclaim.specs.Requests.{RequestFields, is_part}
use Rattle.rclaim.specs.declared.request.Kind.{Kind}
use Rattle.rclaim.specs.declared.request.Kind.TheVariants.{Read, Write, Mixed, Upgrade, Nested}
use Rattle.rclaim.specs.declared.claim.Claim.{Claim}
use Rattle.rclaim.specs.declared.claim.Status.{Status}
use Rattle.rclaim.specs.declared.claim.Status.TheVariants.{Waiting, Entitled, Satisfied}
use Rattle.rclaim.specs.declared.event.Event.{Event}
use Rattle.rclaim.specs.declared.event.Event.TheVariants.{Issue, Finish, Rise, Ask}
use Rattle.rmodel.specs.declared.claimed.Claimed.{Claimed}
use Rattle.rmodel.specs.declared.refused.Refused.{Refused}
use Rattle.rmodel.specs.Claims.{claims_of, waiting, is_nested, is_upgrade, is_read_half, is_active, is_satisfied, active_by, satisfied_by}
use Rattle.rmodel.specs.Holds.{has_request, may_ask, is_part_of}
pub use Rattle.rmodel.specs.Changes.{SameClaim}
use Rattle.rmodel.specs.Rules.{may_enter, SettlesAt, Settles}
use Rattle.rmodel.specs.Settling.{settled}
use Rattle.rmodel.specs.State.{LockState, opening}
use Rattle.rmodel.specs.Steps.{Accepts, Comes, changed, next, incomplete_of, asking, is_kept_from, gets_asked, with_asked, given}
use Rattle.rmodel.specs.WellFormed.{EachPair, Rises, IsClaim, AreWellFormed, Distinct, AreHalves, HasParts, IsSound}
use Rattle.rmodel.proofs.ListFacts.{Among, contrary, none_among, passing, all_from, all_at, all_append, all_filter, all_map, pair_among, pairs_append_all, pairs_filter, pairs_of_zip, all_of_zip, zip_weaker, zip_map_right, zip_same}
use Rattle.rmodel.proofs.reaching.NewClaims.{IsNew, AreNew, new_claims}
use Rattle.rmodel.proofs.settling.OneSettlement.{both_cases}
use Rattle.rmodel.proofs.settling.Settlement.{settles_settled}

pub active_of_satisfied : (a : Status) → satisfied_by a ≡ true → active_by a ≡ true
active_of_satisfied Waiting h = absurd (true≢false (sym h))
active_of_satisfied Entitled h = refl
active_of_satisfied Satisfied h = refl

-- a read half is a read claim
pub read_of_half : (c : Claim) → is_read_half c ≡ true → c.write_half ≡ false
read_of_half c h = from_test c.write_half (and_parts _ (not c.write_half) h).1
  where
    from_test : (b : Bool) → not b ≡ true → b ≡ false
    from_test true no-write = sym no-write
    from_test false no-write = refl

-- ---- what is known of an accepted event

pub passed : (b : Bool) (cause : Refused) (rest : Option Refused) → cond b (Some cause) rest ≡ None → (b ≡ false) × (rest ≡ None)
passed true cause rest none = cc
passed false cause rest none = (refl, none)

pub seat_is_idle : (s : LockState) (seat : ℕ) (r : RequestFields) → Accepts s (Issue seat r) → has_request s.claims seat ≡ false
seat_is_idle s seat r accepted = (passed _ _ _ accepted).0

pub is_not_full : (s : LockState) (seat : ℕ) (r : RequestFields) → Accepts s (Issue seat r) → (incomplete_of s == s.cap) ≡ false
is_not_full s seat r accepted = (passed _ _ _ (passed _ _ _ accepted).1).0

unequal : (m n : ℕ) → (m == n) ≡ false → m ≢ n
unequal m n h e = true≢false (sym (eq-eqb m n e) ∙ h)

-- ---- an event

append_sound : (s : LockState) (seat : ℕ) (ns : List Claimed) → IsSound s → AreNew s.issued seat ns → seat < s.seats → has_request s.claims seat ≡ false → (incomplete_of s == s.cap) ≡ false
    → IsSound (record s { issued = s.issued + 1; claims = s.claims ++ ns })
append_sound s seat ns sound new there idle room = record {
  well_formed = record {
    rising = pairs_append_all Rises s.claims ns sound.well_formed.rising new.rising
        (λ x y in_s in_new. below x y (all_at (λ x. x.claim.stamp < s.issued) s.claims x sound.given_out in_s) (each_new y in_new).stamped);
    claims = all_append (λ x. IsClaim x.claim) s.claims ns sound.well_formed.claims (all_from _ ns (λ x in_new. (each_new x in_new).is_claim));
  };
  given_out = all_append (λ x. x.claim.stamp < s.issued + 1) s.claims ns
      (all_from (λ x. x.claim.stamp < s.issued + 1) s.claims (λ x in_s. more x.claim.stamp (all_at (λ x. x.claim.stamp < s.issued) s.claims x sound.given_out in_s)))
      (all_from _ ns (λ x in_new. last x.claim.stamp (each_new x in_new).stamped));
  seated = all_append (λ x. x.claim.seat < s.seats) s.claims ns sound.seated (all_from _ ns (λ x in_new. subst (λ (n : ℕ). n < s.seats) (sym (each_new x in_new).seated) there));
  one_each = pairs_append_all Distinct s.claims ns sound.one_each new.distinct
      (λ x y in_s in_new e. absurd (unequal x.claim.seat seat (none_among (λ x. x.claim.seat == seat) s.claims x idle in_s) (e ∙ (each_new y in_new).seated)));
  parts = all_append HasParts s.claims ns sound.parts (all_from _ ns (λ x in_new. (each_new x in_new).has_parts));
  within_cap = fits (unequal (incomplete_of s) s.cap room) sound.within_cap (sum_by-append _ s.claims ns) new.one;
}
  where
    each_new : (x : Claimed) → Among x ns → IsNew s.issued seat x
    each_new x in_new = all_at (IsNew s.issued seat) ns x new.each in_new

    below : (x y : Claimed) → x.claim.stamp < s.issued → y.claim.stamp ≡ s.issued → Rises x y
    below x y h stamped = record { not_above = omega (arith, h, stamped); after_write = λ _. omega (arith, h, stamped) }

    more : (m : ℕ) → m < s.issued → m < s.issued + 1
    more m h = omega arith

    last : (m : ℕ) → m ≡ s.issued → m < s.issued + 1
    last m e = omega arith

    fits : {m n : ℕ} → incomplete_of s ≢ s.cap → incomplete_of s ≤ s.cap → n ≡ incomplete_of s + m → m ≡ 1 → n ≤ s.cap
    fits a b c d = omega arith

-- a list counts its first element and the rest
pub count_first : {X : Type 0} (q : X → Bool) (x : X) (xs : List X) → count_by q (x ∷ xs) ≡ count_by q (x ∷ []) + count_by q xs
count_first q x xs = sum_by-append _ (x ∷ []) xs

pub count-filter-le : {X : Type 0} (q p : X → Bool) (xs : List X) → count_by q (filter p xs) ≤ count_by q xs
count-filter-le q p [] = omega arith
count-filter-le q p (x ∷ xs) = at (p x) (count-filter-le q p xs)
  where
    at : (b : Bool) → count_by q (filter p xs) ≤ count_by q xs → count_by q (cond b (x ∷ filter p xs) (filter p xs)) ≤ count_by q (x ∷ xs)
    at true h = let a = count_first q x (filter p xs) in let b = count_first q x xs in omega arith
    at false h = let b = count_first q x xs in omega arith

-- some claims of a sound state leave a sound one
filter_sound : (s : LockState) (p : Claimed → Bool) → IsSound s → IsSound (record s { claims = filter p s.claims })
filter_sound s p sound = record {
  well_formed = record {
    rising = pairs_filter Rises p s.claims sound.well_formed.rising;
    claims = all_filter (λ x. IsClaim x.claim) p s.claims sound.well_formed.claims;
  };
  given_out = all_filter (λ x. x.claim.stamp < s.issued) p s.claims sound.given_out;
  seated = all_filter (λ x. x.claim.seat < s.seats) p s.claims sound.seated;
  one_each = pairs_filter Distinct p s.claims sound.one_each;
  parts = all_filter HasParts p s.claims sound.parts;
  within_cap = (let le = count-filter-le (λ (x : Claimed). not (is_read_half x.claim)) p s.claims in let had = sound.within_cap in omega arith);
}

-- what an ask may ask for
pub record IsAsk (xs : List Claimed) (seat : ℕ) (part : Set) : Type 0 where
  pub nested : may_ask xs seat ≡ true
  pub part_of : is_part_of xs seat part ≡ true

pub ask_is_right : (s : LockState) (seat : ℕ) (part : Set) → Accepts s (Ask seat part) → IsAsk s.claims seat part
ask_is_right s seat part accepted =
    let one = (passed _ _ _ accepted).1 in
    let two = (passed _ _ _ one).1 in
    record { nested = from_not _ (passed _ _ _ one).0; part_of = from_not _ (passed _ _ _ two).0 }
  where
    from_not : (b : Bool) → not b ≡ false → b ≡ true
    from_not true h = refl
    from_not false h = absurd (true≢false h)

-- the claims of a seat with a nested request are its one claim
pub same_seat : (xs : List Claimed) (x y : Claimed) → EachPair Distinct xs → Among x xs → Among y xs → x.claim.seat ≡ y.claim.seat → is_nested x.claim.kind ≡ true → x ≡ y
same_seat xs x y distinct in_x in_y seats nested =
    elim (pair_among Distinct xs x y distinct in_x in_y) [
      | inl same ↦ same
      | inr (inl first) ↦ absurd (clash x.claim.kind nested (and_parts _ _ (first seats).reads).0)
      | inr (inr last) ↦ absurd (clash x.claim.kind nested (last (sym seats)).upgrade)
    ]
  where
    clash : (k : Kind) → is_nested k ≡ true → is_upgrade k ≡ true → ⊥
    clash Read n u = true≢false (sym n)
    clash Write n u = true≢false (sym n)
    clash Mixed n u = true≢false (sym n)
    clash Upgrade n u = true≢false (sym n)
    clash Nested n u = true≢false (sym u)

-- a claim of the seat that asks is nested, and the part lies in what it reads and writes
asks : (xs : List Claimed) (seat : ℕ) (part : Set) (x : Claimed) → EachPair Distinct xs → IsAsk xs seat part → Among x xs → x.claim.seat ≡ seat
    → (is_nested x.claim.kind ≡ true) × (is_part part (union x.claim.reads x.claim.writes) ≡ true)
asks xs seat part x distinct is there seated =
    let n = passing (λ y. (y.claim.seat == seat) && is_nested y.claim.kind) xs is.nested in
    let p = passing (λ y. (y.claim.seat == seat) && is_part part (union y.claim.reads y.claim.writes)) xs is.part_of in
    let of_n = and_parts (n.0.claim.seat == seat) (is_nested n.0.claim.kind) n.2 in
    let of_p = and_parts (p.0.claim.seat == seat) (is_part part (union p.0.claim.reads p.0.claim.writes)) p.2 in
    let one : n.0 ≡ x = same_seat xs n.0 x distinct n.1 there (eqb-true n.0.claim.seat seat of_n.0 ∙ sym seated) of_n.1 in
    let two : n.0 ≡ p.0 = same_seat xs n.0 p.0 distinct n.1 p.1 (eqb-true n.0.claim.seat seat of_n.0 ∙ sym (eqb-true p.0.claim.seat seat of_p.0)) of_n.1 in (
      subst (λ (z : Claimed). is_nested z.claim.kind ≡ true) one of_n.1,
      subst (λ (z : Claimed). is_part part (union z.claim.reads z.claim.writes) ≡ true) (sym two ∙ one) of_p.1,
    )

-- a claim that asks for a part has its parts
asking_has_parts : (seat : ℕ) (part : Set) (x : Claimed) → HasParts x → (x.claim.seat ≡ seat → (is_nested x.claim.kind ≡ true) × (is_part part (union x.claim.reads x.claim.writes) ≡ true)) → HasParts (asking seat part x)
asking_has_parts seat part x had right = at (x.claim.seat == seat) refl
  where
    at : (b : Bool) → (x.claim.seat == seat) ≡ b → HasParts (cond b (record x { asked = part }) x)
    at false is = had
    at true is =
        let facts = right (eqb-true x.claim.seat seat is) in
        let parts = and_parts _ (is_subset part (union x.claim.reads x.claim.writes)) facts.1 in
        record {
          of_others = λ other. absurd (true≢false (sym facts.0 ∙ other));
          writes = had.writes;
          some = λ _ none. filled_by_number part parts.0 (empty_within part (subst (λ (u : Set). is_subset part u ≡ true) none (within_union_right x.granted part)));
          asked = parts.1;
          granted = had.granted;
          waits = had.waits;
        }

asking_parts : (s : LockState) (seat : ℕ) (part : Set) → IsSound s → Accepts s (Ask seat part) → AllByRecursion HasParts (map (asking seat part) s.claims)
asking_parts s seat part sound accepted =
    all_map (asking seat part) HasParts s.claims
    (λ x there. asking_has_parts seat part x (all_at HasParts s.claims x sound.parts there) (asks s.claims seat part x sound.one_each (ask_is_right s seat part accepted) there))

pub asking_same : (seat : ℕ) (part : Set) (xs : List Claimed) → AllZip SameClaim xs (map (asking seat part) xs)
asking_same seat part xs = zip_map_right (asking seat part) (λ x y. x ≡ y) SameClaim (λ x y e. at y (y.claim.seat == seat) ∙ ap (λ z. z.claim) (sym e)) xs xs (zip_same (λ x y. x ≡ y) (λ x. refl) xs)
  where
    at : (y : Claimed) (b : Bool) → (cond b (record y { asked = part }) y).claim ≡ y.claim
    at y true = refl
    at y false = refl

pub same_claims_well_formed : (xs ys : List Claimed) → AreWellFormed xs → AllZip SameClaim xs ys → AreWellFormed ys
same_claims_well_formed xs ys well same = record {
  rising = pairs_of_zip Rises SameClaim Rises
      (λ x x' y y' r e e'. record {
        not_above = subst (λ (c : Claim). c.stamp ≤ y'.claim.stamp) (sym e) (subst (λ (c : Claim). x.claim.stamp ≤ c.stamp) (sym e') r.not_above);
        after_write = λ w. subst (λ (c : Claim). c.stamp < y'.claim.stamp) (sym e) (subst (λ (c : Claim). x.claim.stamp < c.stamp) (sym e') (r.after_write (ap (λ c. c.write_half) (sym e) ∙ w)));
      })
      xs ys well.rising same;
  claims = all_of_zip (λ x. IsClaim x.claim) SameClaim (λ x. IsClaim x.claim) (λ x y c e. subst (λ (k : Claim). IsClaim k) (sym e) c) xs ys well.claims same;
}

pub distinct_same : (xs ys : List Claimed) → EachPair Distinct xs → AllZip SameClaim xs ys → EachPair Distinct ys
distinct_same xs ys distinct same =
    pairs_of_zip Distinct SameClaim Distinct
    (λ x x' y y' d e e' seats. subst (λ (a : Claim). AreHalves a y'.claim) (sym e) (subst (λ (b : Claim). AreHalves x.claim b) (sym e') (d (ap (λ c. c.seat) (sym e) ∙ seats ∙ ap (λ c. c.seat) e'))))
    xs ys distinct same

-- the same claims, with parts of their own, are as sound
pub same_claims_sound : (s : LockState) (ys : List Claimed) → IsSound s → AllZip SameClaim s.claims ys → AllByRecursion HasParts ys → IsSound (record s { claims = ys })
same_claims_sound s ys sound same parts = record {
  well_formed = same_claims_well_formed s.claims ys sound.well_formed same;
  given_out = all_of_zip (λ x. x.claim.stamp < s.issued) SameClaim (λ x. x.claim.stamp < s.issued) (λ x y h e. subst (λ (k : Claim). k.stamp < s.issued) (sym e) h) s.claims ys sound.given_out same;
  seated = all_of_zip (λ x. x.claim.seat < s.seats) SameClaim (λ x. x.claim.seat < s.seats) (λ x y h e. subst (λ (k : Claim). k.seat < s.seats) (sym e) h) s.claims ys sound.seated same;
  one_each = distinct_same s.claims ys sound.one_each same;
  parts = parts;
  within_cap = subst (λ (n : ℕ). n ≤ s.cap) (same_count s.claims ys same) sound.within_cap;
}
  where
    same_count : (xs ys : List Claimed) → AllZip SameClaim xs ys → count_by (λ x. not (is_read_half x.claim)) xs ≡ count_by (λ x. not (is_read_half x.claim)) ys
    same_count [] [] zip = refl
    same_count [] (y ∷ ys) zip = absurd zip
    same_count (x ∷ xs) [] zip = absurd zip
    same_count (x ∷ xs) (y ∷ ys) zip =
        count_first _ x xs ∙ (λ i. (0 + cond (not (is_read_half (sym zip.0 i))) 1 0) + same_count xs ys zip.1 i) ∙ sym (count_first (λ x. not (is_read_half x.claim)) y ys)

pub sound_changed : (s : LockState) (e : Event) → IsSound s → Comes s e → IsSound (changed s e)
sound_changed s (Issue seat r) sound comes =
    append_sound s seat (map (waiting r.first) (claims_of s.groups.groups s.issued seat r)) sound (new_claims s.groups.groups s.issued seat r comes.normal) comes.fits.seat_there
    (seat_is_idle s seat r comes.accepted) (is_not_full s seat r comes.accepted)
sound_changed s (Finish seat) sound comes = filter_sound s (λ x. not (x.claim.seat == seat)) sound
sound_changed s (Rise seat) sound comes = filter_sound s (λ x. not ((x.claim.seat == seat) && not x.claim.write_half)) sound
sound_changed s (Ask seat part) sound comes =
    same_claims_sound s (map (asking seat part) s.claims) sound (asking_same seat part s.claims) (asking_parts s seat part sound comes.accepted)

-- ---- settling, and what is granted then

pub same_claims : (s t : List Claimed) → Settles s t → AllZip SameClaim s t
same_claims s t settles = zip_weaker (SettlesAt s t) SameClaim (λ x y h. h.same) s t settles

-- a settled claim has its parts: what waits now waited before
settled_parts : (s t : List Claimed) → AllByRecursion HasParts s → Settles s t → AllByRecursion HasParts t
settled_parts s t parts settles = all_of_zip HasParts (SettlesAt s t) HasParts at s t parts settles
  where
    at : (x y : Claimed) → HasParts x → SettlesAt s t x y → HasParts y
    at x y had h = record {
      of_others = λ other. (let both = had.of_others (ap (λ c. is_nested c.kind) (sym h.same) ∙ other) in (h.asked ∙ both.0, h.granted ∙ both.1));
      writes = λ n. ap (λ c. c.write_half) h.same ∙ had.writes (ap (λ c. is_nested c.kind) (sym h.same) ∙ n);
      some = λ n none. had.some (ap (λ c. is_nested c.kind) (sym h.same) ∙ n) ((λ i. union (sym h.granted i) (sym h.asked i)) ∙ none);
      asked = (λ i. is_subset (h.asked i) (union (h.same i).reads (h.same i).writes)) ∙ had.asked;
      granted = (λ i. is_subset (h.granted i) (union (h.same i).reads (h.same i).writes)) ∙ had.granted;
      waits = λ waiting. h.granted ∙ none_granted waiting;
    }
      where
        was_waiting : y.claim.write_half ≡ true → is_active y ≡ false → is_active x ≡ false
        was_waiting w waiting = (or_parts (is_active x) (may_enter t y.claim) (sym (h.entitlement w) ∙ waiting)).0

        none_granted : is_active y ≡ false → x.granted ≡ empty
        none_granted waiting =
            both_cases (is_nested x.claim.kind)
            (λ n. had.waits (was_waiting (ap (λ c. c.write_half) h.same ∙ had.writes n) waiting))
            (λ other. (had.of_others other).1)

-- a claim that gets something is entitled or satisfied
pub active_of_gets : (xs : List Claimed) (x : Claimed) → gets_asked xs x ≡ true → is_active x ≡ true
active_of_gets xs x gets =
    elim (or_cases (is_satisfied x) (is_active x && not (is_kept_from xs x.claim x.asked)) gets) [
      | inl sat ↦ active_of_satisfied x.status sat
      | inr free ↦ (and_parts (is_active x) (not (is_kept_from xs x.claim x.asked)) free).0
    ]

-- so has a claim that got what it asked for
given_parts : (xs : List Claimed) → AllByRecursion HasParts xs → AllByRecursion HasParts (given xs)
unfolding given
given_parts xs parts = all_map (with_asked xs) HasParts xs (λ x there. at x (all_at HasParts xs x parts there) (gets_asked xs x) refl)
  where
    at : (x : Claimed) → HasParts x → (b : Bool) → gets_asked xs x ≡ b → HasParts (cond b (record x { asked = empty; granted = union x.granted x.asked }) x)
    at x had false is = had
    at x had true is = record {
      of_others = λ other. (refl, (λ i. union ((had.of_others other).1 i) ((had.of_others other).0 i)) ∙ union_empty_left empty);
      writes = had.writes;
      some = λ n none. had.some n (sym (union_empty_right (union x.granted x.asked)) ∙ none);
      asked = within_empty (union x.claim.reads x.claim.writes);
      granted = union_within x.granted x.asked (union x.claim.reads x.claim.writes) had.granted had.asked;
      waits = λ waiting. contrary (is_active x) (active_of_gets xs x is) waiting;
    }

-- granting changes no claim
pub given_same : (xs : List Claimed) → AllZip SameClaim xs (given xs)
unfolding given
given_same xs = zip_map_right (with_asked xs) (λ x y. x ≡ y) SameClaim (λ x y e. at y (gets_asked xs y) ∙ ap (λ z. z.claim) (sym e)) xs xs (zip_same (λ x y. x ≡ y) (λ x. refl) xs)
  where
    at : (y : Claimed) (b : Bool) → (cond b (record y { asked = empty; granted = union y.granted y.asked }) y).claim ≡ y.claim
    at y true = refl
    at y false = refl

pub sound_settled_to : (s : LockState) (t : List Claimed) → IsSound s → Settles s.claims t → IsSound (record s { claims = t })
sound_settled_to s t sound settles = same_claims_sound s t sound (same_claims s.claims t settles) (settled_parts s.claims t sound.parts settles)

pub sound_given : (s : LockState) → IsSound s → IsSound (record s { claims = given s.claims })
sound_given s sound = same_claims_sound s (given s.claims) sound (given_same s.claims) (given_parts s.claims sound.parts)

pub sound_settled : (s : LockState) → IsSound s → IsSound (record s { claims = settled s.claims })
sound_settled s sound = sound_settled_to s (settled s.claims) sound (settles_settled s.claims sound.well_formed)

pub sound_next : (s : LockState) (e : Event) → IsSound s → Comes s e → IsSound (next s e)
sound_next s e sound comes = sound_given (record (changed s e) { claims = settled (changed s e).claims }) (sound_settled (changed s e) (sound_changed s e sound comes))

pub sound_opening : (groups : ReadGroups) (seats cap : ℕ) → IsSound (opening groups seats cap)
sound_opening groups seats cap = record { well_formed = record { rising = tt; claims = tt }; given_out = tt; seated = tt; one_each = tt; parts = tt; within_cap = omega arith }
