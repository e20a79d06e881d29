-- A claim before and after the settlement of what a removal leaves, case by case.
use Rattle.std.proofs.Common.{◌≡◌, ℕ, zero, suc, ◌≤◌, ◌==◌, Bool, true, false, not, ◌&&◌, ◌||◌, nat_lt, cond, List, [], ◌∷◌, ◌++◌, fold, take, drop, refl, sym, ap, ◌∙◌, arith}
use Rattle.std.proofs.lemmas.Bool.Decides.{nat_tests}
use Rattle.std.specs.List.{AllZip, AllByRecursion}
use Rattle.std.specs.FinSet.{empty, union, len-empty}
use Rattle.std.specs.Ordering.{nat_cmp}
use Rattle.rset.specs.Sets.{Set, meets}
use Rattle.rset.proofs.SetLemmas.{apart_within_left}
use Rattle.rclaim.specs.declared.claim.Claim.{Claim}
use Rattle.rclaim.specs.declared.claim.Status.{Status}
use Rattle.rclaim.specs.declared.claim.Status.TheVariants.{Waiting, Entitled, Satisfied}
use Rattle.rmodel.specs.declared.claimed.Claimed.{Claimed}
use Rattle.rplain.specs.declared.left.Left.{Left}
use Rattle.rmodel.specs.Changes.{is_same}
use Rattle.rmodel.specs.Claims.{satisfied_by, entitled_by, active_by}
use Rattle.rplain.specs.NewClaim.{is_past}
use Rattle.rmodel.specs.Rules.{is_earlier_write}
use Rattle.rmodel.specs.Settling.{is_clear, entered_status}
use Rattle.rplain.specs.Sweep.{stands, with_near, still_near, is_past_still, is_read_still, AreReadWithin}
use Rattle.rmodel.specs.WellFormed.{EachPair}
use Rattle.rmodel.proofs.settling.OneSettlement.{status_told}
use Rattle.rmodel.proofs.reaching.Soundness.{active_of_satisfied}

-- ---- statuses, case by case

pub told : (y z : Claimed) → y.claim ≡ z.claim → y.asked ≡ z.asked → y.granted ≡ z.granted → y.status ≡ z.status → y ≡ z
told y z c a g e = (λ i. record { claim = c i; status = e i; asked = a i; granted = g i })

-- a status is this one where its tests are
pub is_satisfied_one : (b : Status) → satisfied_by b ≡ true → Satisfied ≡ b
is_satisfied_one b s = status_told Satisfied b (sym s) (sym (active_of_satisfied b s))

pub is_entitled_one : (b : Status) → satisfied_by b ≡ false → active_by b ≡ true → Entitled ≡ b
is_entitled_one b s a = status_told Entitled b (sym s) (sym a)

pub is_waiting_one : (b : Status) → satisfied_by b ≡ false → active_by b ≡ false → Waiting ≡ b
is_waiting_one b s a = status_told Waiting b (sym s) (sym a)

-- a satisfied claim, whether or not it is quickly seen to stay
pub satisfied_at : (b : Status) (stays : Bool) → satisfied_by b ≡ true → cond stays Satisfied Satisfied ≡ b
satisfied_at b true s = is_satisfied_one b s
satisfied_at b false s = is_satisfied_one b s

-- a read: `met` says that what is gone kept it waiting, `kept` that a satisfied write does
pub read_at : (a b : Status) (met kept : Bool) → satisfied_by b ≡ (satisfied_by a || met) → (satisfied_by b ≡ false → active_by b ≡ kept)
    → cond (not met && is_same (entitled_by a) kept) a (cond (satisfied_by a) Satisfied (cond met Satisfied (cond kept Entitled Waiting))) ≡ b
read_at Satisfied b met kept s t = satisfied_at b (not met && is_same false kept) s
read_at Waiting b true kept s t = is_satisfied_one b s
read_at Waiting b false true s t = is_entitled_one b s (t s)
read_at Waiting b false false s t = is_waiting_one b s (t s)
read_at Entitled b true kept s t = is_satisfied_one b s
read_at Entitled b false true s t = is_entitled_one b s (t s)
read_at Entitled b false false s t = is_waiting_one b s (t s)

-- a write: it is barred, it shares something with what is gone, it has way, it is held up
pub write_at : (a b : Status) (barred met way up may up' : Bool) → active_by b ≡ (active_by a || may) → satisfied_by b ≡ (satisfied_by a || (active_by b && not up'))
    → (barred ≡ true → may ≡ false) → (active_by a ≡ false → barred ≡ false → way ≡ may) → up ≡ up' → (active_by a ≡ true → satisfied_by a ≡ false → met ≡ false → up' ≡ true)
    → cond (cond (active_by a) (not met) barred) a (cond (satisfied_by a) Satisfied (entered_status (active_by a || way) up)) ≡ b
write_at Satisfied b barred met way up may up' act sat bars clear same stays = satisfied_at b (not met) sat
write_at Entitled b barred true way true may up' act sat bars clear same stays = is_entitled_one b (sat ∙ (λ i. act i && not (sym same i))) act
write_at Entitled b barred true way false may up' act sat bars clear same stays = is_satisfied_one b (sat ∙ (λ i. act i && not (sym same i)))
write_at Entitled b barred false way up may up' act sat bars clear same stays = is_entitled_one b (sat ∙ (λ i. act i && not (stays refl refl refl i))) act
write_at Waiting b true met way up may up' act sat bars clear same stays = is_waiting_one b (sat ∙ (λ i. (act ∙ bars refl) i && not up')) (act ∙ bars refl)
write_at Waiting b false met true true may up' act sat bars clear same stays =
    is_entitled_one b (sat ∙ (λ i. (act ∙ sym (clear refl refl)) i && not (sym same i))) (act ∙ sym (clear refl refl))
write_at Waiting b false met true false may up' act sat bars clear same stays =
    is_satisfied_one b (sat ∙ (λ i. (act ∙ sym (clear refl refl)) i && not (sym same i)))
write_at Waiting b false met false up may up' act sat bars clear same stays =
    is_waiting_one b (sat ∙ (λ i. (act ∙ sym (clear refl refl)) i && not up')) (act ∙ sym (clear refl refl))

-- ---- lists beside one another

pub fold_zip : {X Y A : Type 0} (R : X → Y → Type 0) (f : A → X → A) (g : A → Y → A) → ((a : A) (x : X) (y : Y) → R x y → f a x ≡ g a y) → (a : A) (xs : List X) (ys : List Y) → AllZip R xs ys
    → fold f a xs ≡ fold g a ys
fold_zip R f g same a [] [] zip = refl
fold_zip R f g same a [] (y ∷ ys) zip = absurd zip
fold_zip R f g same a (x ∷ xs) [] zip = absurd zip
fold_zip R f g same a (x ∷ xs) (y ∷ ys) zip = ap (λ b. fold f b xs) (same a x y zip.0) ∙ fold_zip R f g same (g a y) xs ys zip.1

pub zip_take : {X Y : Type 0} (R : X → Y → Type 0) (i : ℕ) (xs : List X) (ys : List Y) → AllZip R xs ys → AllZip R (take i xs) (take i ys)
zip_take R zero xs ys zip = tt
zip_take R (suc i) [] [] zip = tt
zip_take R (suc i) [] (y ∷ ys) zip = absurd zip
zip_take R (suc i) (x ∷ xs) [] zip = absurd zip
zip_take R (suc i) (x ∷ xs) (y ∷ ys) zip = (zip.0, zip_take R i xs ys zip.1)

pub zip_drop : {X Y : Type 0} (R : X → Y → Type 0) (i : ℕ) (xs : List X) (ys : List Y) → AllZip R xs ys → AllZip R (drop i xs) (drop i ys)
zip_drop R zero xs ys zip = zip
zip_drop R (suc i) [] [] zip = tt
zip_drop R (suc i) [] (y ∷ ys) zip = absurd zip
zip_drop R (suc i) (x ∷ xs) [] zip = absurd zip
zip_drop R (suc i) (x ∷ xs) (y ∷ ys) zip = zip_drop R i xs ys zip.1

-- what holds of an element and each that comes after it
pub pairs_at : (R : Claimed → Claimed → Type 0) (done : List Claimed) (y : Claimed) (tail : List Claimed) → EachPair R (done ++ (y ∷ tail)) → AllByRecursion (R y) tail
pairs_at R [] y tail pairs = pairs.0
pairs_at R (z ∷ done) y tail pairs = pairs_at R done y tail pairs.1

-- ---- a claim before and after the settlement

pub not_not : (b : Bool) → not (not b) ≡ b
not_not true = refl
not_not false = refl

pub or_none : (b : Bool) → (b || false) ≡ b
or_none true = refl
or_none false = refl

pub and_none : (b : Bool) → (b && false) ≡ false
and_none true = refl
and_none false = refl

pub clear_same : (w l a b s p : Bool) → (w ≡ true → l ≡ true → a ≡ b) → (not ((w && l) && s) || (a && p)) ≡ (not ((w && l) && s) || (b && p))
clear_same false l a b s p same = refl
clear_same true false a b s p same = refl
clear_same true true a b s p same = ap (λ c. not s || (c && p)) (same refl refl)

pub held_same : (w l a b p : Bool) → (w ≡ false → a ≡ b) → (w ≡ true → l ≡ true → a ≡ b) → (a && (not w || (w && l)) && p) ≡ (b && (not w || (w && l)) && p)
held_same false l a b p reads writes = ap (λ c. c && true && p) (reads refl)
held_same true true a b p reads writes = ap (λ c. c && true && p) (writes refl refl)
held_same true false a b p reads writes = ap (λ c. c && p) (and_none a ∙ sym (and_none b))

pub near_same : (w a b m : Bool) (all more : Set) → (w ≡ false → a ≡ b) → cond (not w && not a && m) more all ≡ cond (not w && not b && m) more all
near_same true a b m all more same = refl
near_same false a b m all more same = ap (λ c. cond (not c && m) more all) (same refl)

-- ---- what the claims read lies within a set

pub none_near : (a b : Bool) → (not a && not b && false) ≡ false
none_near true b = refl
none_near false true = refl
none_near false false = refl

pub none_read : (a b : Bool) → (a && b && false) ≡ false
none_read false b = refl
none_read true false = refl
none_read true true = refl

-- where that has none of these resources, no read is near them
pub near_none : (left : Left) (s : Set) → meets left.read s ≡ false → (zs : List Claimed) → AreReadWithin left.read zs → still_near left zs s ≡ empty
unfolding still_near
near_none left s apart [] within = refl
near_none left s apart (z ∷ zs) within =
    ap (λ b. fold (with_near left s) (cond b (union empty z.claim.reads) empty) zs)
    (ap (λ m. not z.claim.write_half && not (stands left z) && m) (apart_within_left z.claim.reads left.read s within.0 apart) ∙ none_near z.claim.write_half (stands left z))
    ∙ near_none left s apart zs within.1

-- and nobody reads them
pub read_none : (left : Left) (c : Claim) → meets left.read c.writes ≡ false → (zs : List Claimed) → AreReadWithin left.read zs → is_read_still left zs c ≡ false
read_none left c apart [] within = refl
read_none left c apart (z ∷ zs) within =
    (λ i.
    (ap (λ m. stands left z && (not z.claim.write_half || is_earlier_write c z.claim) && m) (apart_within_left z.claim.reads left.read c.writes within.0 apart)
    ∙ none_read (stands left z) (not z.claim.write_half || is_earlier_write c z.claim)) i
    || read_none left c apart zs within.1 i)

-- so testing that first gives the same answer
pub read_guarded : (left : Left) (c : Claim) (zs : List Claimed) → AreReadWithin left.read zs → (meets left.read c.writes && is_read_still left zs c) ≡ is_read_still left zs c
read_guarded left c zs within = at (meets left.read c.writes) refl
  where
    at : (b : Bool) → meets left.read c.writes ≡ b → (b && is_read_still left zs c) ≡ is_read_still left zs c
    at true is = refl
    at false is = sym (read_none left c is zs within)

pub past_guarded : (left : Left) (c : Claim) (zs : List Claimed) → AreReadWithin left.read zs → is_past_still left zs c ≡ is_past zs c (still_near left zs c.places)
past_guarded left c zs within = at (meets left.read c.places) refl
  where
    at : (b : Bool) → meets left.read c.places ≡ b → (not b || is_past zs c (still_near left zs c.places)) ≡ is_past zs c (still_near left zs c.places)
    at true is = refl
    at false is = sym (ap (is_past zs c) (near_none left c.places is zs within) ∙ ap (λ n. (n == 0) || is_clear zs c empty) (len-empty nat_cmp))

-- ---- what holds a write up: what the satisfied writes before it write, or whoever reads what it writes

pub last : (a b c : Bool) → ((a || b) || c) ≡ ((a || b) || (c || b))
last true b c = refl
last false true c = refl
last false false true = refl
last false false false = refl

-- a claim before it
pub held_before : (w s l a b c : Bool) → (w ≡ true → l ≡ true) → (w ≡ false → a ≡ false) → (w ≡ false → b ≡ false)
    → (s && (not w || (w && l)) && ((a || b) || (c || b))) ≡ ((((w && s) && a) || ((w && s) && b)) || (s && (not w || (w && l)) && c))
held_before true false l a b c less none none' = refl
held_before true true l a b c less none none' = (λ i. less refl i && ((a || b) || (c || b))) ∙ sym (last a b c) ∙ (λ i. (a || b) || (sym (less refl) i && c))
held_before false false l a b c less none none' = refl
held_before false true l a b c less none none' = (λ i. (none refl i || none' refl i) || (c || none' refl i)) ∙ sym (last false false c)

-- a claim that is not before it
pub held_behind : (w s l a b c : Bool) → l ≡ false → (w ≡ false → a ≡ false) → (w ≡ false → b ≡ false)
    → (s && (not w || (w && l)) && ((a || b) || (c || b))) ≡ (s && (not w || (w && l)) && c)
held_behind true s l a b c late none none' = (λ i. s && late i && ((a || b) || (c || b))) ∙ at s ∙ (λ i. s && sym late i && c)
  where
    at : (s : Bool) → (s && false && ((a || b) || (c || b))) ≡ (s && false && c)
    at true = refl
    at false = refl
held_behind false false l a b c late none none' = refl
held_behind false true l a b c late none none' = (λ i. (none refl i || none' refl i) || (c || none' refl i)) ∙ sym (last false false c)

pub or_assoc : (a b c : Bool) → ((a || b) || c) ≡ (a || (b || c))
or_assoc true b c = refl
or_assoc false b c = refl

pub not_below : (m n : ℕ) → n ≤ m → nat_lt m n ≡ false
not_below m n h = grind (arith, nat_tests)
