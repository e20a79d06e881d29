-- Sections that are kept, and their claims.
use Rattle.std.proofs.Common.{true, false, not, None, Option, ◌≡◌, ℕ, zero, suc, ◌+◌, arith, Bool, ◌||◌, ◌&&◌, cond, Some, List, [], ◌∷◌, length, find, refl, sym, ap, subst, ◌∙◌, inl, inr}
use Rattle.std.specs.Prelude.{slice_get}
use Rattle.std.specs.Option.{IfSome, option_map, unwrap_or, option_to_list}
use Rattle.std.proofs.lemmas.Option.{none-some, same_Some}
use Rattle.rmodel.specs.declared.claimed.Claimed.{Claimed}
use Rattle.rmodel.specs.Claims.{is_satisfied, share_place, is_active, conflicts, touches}
use Rattle.rmodel.proofs.settling.OneSettlement.{both_cases}
use Rattle.rcover_laws.specs.Lists.{reads_against}
use Rattle.std.specs.FinSet.{empty}
use Rattle.rset.specs.Sets.{meets}
use Rattle.rset.proofs.SetsMeet.{meets_empty_left, meets_empty_right}
use Rattle.rmodel.specs.Rules.{is_earlier_write}
use Rattle.rcover.specs.Last.{first_at}
use Rattle.rcover_laws.specs.Line.{line, first_or, least_of}
use Rattle.rcover_laws.specs.Moments.{Moment, is_claim, holds_at}
use Rattle.std.proofs.lemmas.List.Sums.{sum_by-cons}
use Rattle.std.specs.List.{list_any, sum_by, AllByRecursion}
use Rattle.rmodel.specs.WellFormed.{Among, EachPair, Rises}
use Rattle.rmodel.proofs.ListFacts.{false_from}
use Rattle.std.proofs.lemmas.Bool.{and_parts}
use Rattle.rcover_laws.proofs.runs.Moments.{are_one}
use Rattle.rclaim.specs.declared.claim.Claim.{Claim}
use Rattle.rcover.specs.declared.section.CoverSection.{CoverSection}
use Rattle.rcover.specs.declared.section.Lengths.{Lengths}
use Rattle.rcover.specs.Kept.{claims_of, claim_if, length_by, section_of, HaveLengths, AreOf}
use Rattle.rmodel.specs.Laws.{keeps_out}
use Rattle.rcover_laws.specs.Sections.{Sections}
use Rattle.rcover.specs.Tracked.{keeper_at, read_closed_if}

pub any_claims : (p : Claim → Bool) (ss : List CoverSection) → list_any (λ s. p s.claim) ss ≡ list_any p (claims_of ss)
any_claims p [] = refl
any_claims p (s ∷ ss) = ap (λ b. p s.claim || b) (any_claims p ss)

pub length_claims : (ss : List CoverSection) → length (claims_of ss) ≡ length ss
length_claims [] = refl
length_claims (s ∷ ss) = ap (λ n. suc n) (length_claims ss)

-- the claim that is found at a moment has its length
pub found_has : (by len : Claim → ℕ) (p : Claim → Bool) (m : Moment) → AreOf by len m → IfSome (first_at p m) (λ d. by d ≡ len d)
found_has by len p [] are = tt
found_has by len p (x ∷ xs) are =
    both_cases (p x.claim && is_satisfied x)
    (λ on. subst (λ b. IfSome (option_map (λ (y : Claimed). y.claim) (cond b (Some x) (find (λ y. p y.claim && is_satisfied y) xs))) (λ d. by d ≡ len d)) (sym on) are.0)
    (λ off. subst (λ b. IfSome (option_map (λ (y : Claimed). y.claim) (cond b (Some x) (find (λ y. p y.claim && is_satisfied y) xs))) (λ d. by d ≡ len d)) (sym off) (found_has by len p xs are.1))

-- and so has the least of a line
pub least_has : (by len : Claim → ℕ) (c : Claim) → by c ≡ len c → (m : Moment) → AreOf by len m → by (least_of c m) ≡ len (least_of c m)
least_has by len c own [] are = own
least_has by len c own (x ∷ xs) are =
    both_cases (is_earlier_write c x.claim && list_any (share_place x.claim) (c ∷ line c xs))
    (λ on. subst (λ b. by (first_or c (cond b (x.claim ∷ line c xs) (line c xs))) ≡ len (first_or c (cond b (x.claim ∷ line c xs) (line c xs)))) (sym on) are.0)
    (λ off. subst (λ b. by (first_or c (cond b (x.claim ∷ line c xs) (line c xs))) ≡ len (first_or c (cond b (x.claim ∷ line c xs) (line c xs)))) (sym off) (least_has by len c own xs are.1))

-- ---- one element of a list is replaced

-- the sum of the lengths of sections that have theirs
pub sum_claims : (len : Claim → ℕ) (ss : List CoverSection) → HaveLengths len ss → sum_by (λ s. s.len) ss ≡ sum_by len (claims_of ss)
sum_claims len [] have = refl
sum_claims len (s ∷ ss) have = sum_by-cons (λ s. s.len) s ss ∙ (λ i. have.0 i + sum_claims len ss have.1 i) ∙ sym (sum_by-cons len s.claim (claims_of ss))

-- and so has the write that keeps a read claim waiting
pub keeper_has : (by len : Claim → ℕ) (c : Claim) (m : Moment) → AreOf by len m → IfSome (keeper_at c m) (λ d. by d ≡ len d)
keeper_has by len c [] are = tt
keeper_has by len c (x ∷ xs) are =
    both_cases (keeps_out c x)
    (λ on. subst (λ b. IfSome (option_map (λ (y : Claimed). y.claim) (cond b (Some x) (find (keeps_out c) xs))) (λ d. by d ≡ len d)) (sym on) are.0)
    (λ off. subst (λ b. IfSome (option_map (λ (y : Claimed). y.claim) (cond b (Some x) (find (keeps_out c) xs))) (λ d. by d ≡ len d)) (sym off) (keeper_has by len c xs are.1))

-- the write that keeps a read claim waiting is a write
pub keeper_write : (c : Claim) (m : Moment) → IfSome (keeper_at c m) (λ v. v.write_half ≡ true)
keeper_write c [] = tt
keeper_write c (x ∷ xs) =
    both_cases (keeps_out c x)
    (λ on.
    subst (λ b. IfSome (option_map (λ (y : Claimed). y.claim) (cond b (Some x) (find (keeps_out c) xs))) (λ v. v.write_half ≡ true)) (sym on)
    (writes x.claim.write_half (is_active x) (conflicts x.claim c) on))
    (λ off. subst (λ b. IfSome (option_map (λ (y : Claimed). y.claim) (cond b (Some x) (find (keeps_out c) xs))) (λ v. v.write_half ≡ true)) (sym off) (keeper_write c xs))
  where
    writes : (a b d : Bool) → (a && b && d) ≡ true → a ≡ true
    writes true b d h = refl
    writes false true true h = h
    writes false true false h = h
    writes false false true h = h
    writes false false false h = h

-- it is there, and keeps the read out
pub keeper_there : (c : Claim) (m : Moment) (v : Claim) → keeper_at c m ≡ Some v → (k : Claimed) × Among k m × (k.claim ≡ v) × (keeps_out c k ≡ true)
keeper_there c [] v is = absurd (no_one v is)
  where
    no_one : (v : Claim) → None ≡ Some v → ⊥
    no_one v h = cc
keeper_there c (x ∷ xs) v is = at (keeper_there c xs v) (keeps_out c x) refl is
  where
    rest : Option Claimed
    rest = find (keeps_out c) xs

    same : (d : Claim) → Some d ≡ Some v → d ≡ v
    same d h = cc

    at : (option_map (λ (y : Claimed). y.claim) rest ≡ Some v → (k : Claimed) × Among k xs × (k.claim ≡ v) × (keeps_out c k ≡ true))
        → (b : Bool) → keeps_out c x ≡ b → option_map (λ (y : Claimed). y.claim) (cond b (Some x) rest) ≡ Some v → (k : Claimed) × Among k (x ∷ xs) × (k.claim ≡ v) × (keeps_out c k ≡ true)
    at more true on is = (x, inl refl, same x.claim is, on)
    at more false off is = let r = more is in (r.0, inr r.1, r.2, r.3)

-- a write is satisfied if the first claim that is the same one is
pub holds_none : (c : Claim) (x : Claimed) → is_claim c x.claim ≡ true → c.write_half ≡ true → (xs : Moment) → AllByRecursion (Rises x) xs → holds_at c xs ≡ false
holds_none c x is write [] all = refl
holds_none c x is write (y ∷ ys) all =
    ap (λ b. b || holds_at c ys)
    (false_from (is_satisfied y && is_claim c y.claim) (λ on.
    let a = are_one c x.claim is in
    let b = are_one c y.claim (and_parts (is_satisfied y) (is_claim c y.claim) on).1 in
    let below = all.0.after_write (sym a.half ∙ write) in
    let s = a.stamp in
    let t = b.stamp in
    absurd (omega arith)))
    ∙ holds_none c x is write ys all.1

pub holds_found : (c : Claim) → c.write_half ≡ true → (m : Moment) → EachPair Rises m → (o : Option Claimed) → o ≡ find (λ x. is_claim c x.claim) m → (b : Bool) → IfSome o (λ x. b ≡ is_satisfied x) → (o ≡ None → b ≡ false) → b ≡ holds_at c m
holds_found c write [] rising o is b some none = none is
holds_found c write (x ∷ xs) rising o is b some none =
    both_cases (is_claim c x.claim)
    (λ on.
    subst (λ (p : Option Claimed). IfSome p (λ x. b ≡ is_satisfied x)) (is ∙ ap (λ d. cond d (Some x) (find (λ y. is_claim c y.claim) xs)) on) some
    ∙ sym ((λ i. (is_satisfied x && on i) || holds_none c x on write xs rising.0 i) ∙ at (is_satisfied x)))
    (λ off.
    holds_found c write xs rising.1 o (is ∙ ap (λ d. cond d (Some x) (find (λ y. is_claim c y.claim) xs)) off) b some none
    ∙ sym (ap (λ d. (is_satisfied x && d) || holds_at c xs) off ∙ and_false (is_satisfied x) (holds_at c xs)))
  where
    at : (s : Bool) → ((s && true) || false) ≡ s
    at true = refl
    at false = refl

    and_false : (s h : Bool) → ((s && false) || h) ≡ h
    and_false true h = refl
    and_false false h = refl

pub holds_first : (c : Claim) → c.write_half ≡ true → (m : Moment) → EachPair Rises m → unwrap_or (option_map is_satisfied (find (λ x. is_claim c x.claim) m)) false ≡ holds_at c m
holds_first c write m rising = at (find (λ x. is_claim c x.claim) m) refl
  where
    at : (o : Option Claimed) → o ≡ find (λ x. is_claim c x.claim) m → unwrap_or (option_map is_satisfied o) false ≡ holds_at c m
    at None is = holds_found c write m rising None is false tt (λ _. refl)
    at (Some x) is = holds_found c write m rising (Some x) is (is_satisfied x) refl (λ h. cc)

-- if the write that keeps a read waiting does not become satisfied, what is kept of the wait stays
pub read_not_closed : (m n : Moment) (o : Option Claim) → ((v : Claim) → o ≡ Some v → holds_at v m ≡ false → holds_at v n ≡ false) → (a : Sections) → read_closed_if o a m n ≡ a
read_not_closed m n None none a = refl
read_not_closed m n (Some v) none a =
    let reads : (read_closed_if (Some v) a m n).reads ≡ a.reads
    = both_cases (holds_at v m)
    (λ on. ap (λ b. cond (holds_at v n) (cond b a.reads (option_to_list (first_at (λ d. conflicts d v) m))) a.reads) on ∙ at (holds_at v n) a.reads)
    (λ off. ap (λ b. cond b (cond (holds_at v m) a.reads (option_to_list (first_at (λ d. conflicts d v) m))) a.reads) (none v refl off)) in
    (λ i. let s : Sections = record { reads = reads i; writes = a.writes } in s)
  where
    at : (b : Bool) (r : List Claim) → cond b r r ≡ r
    at true r = refl
    at false r = refl

-- ---- the read that is taken for a claim

-- the section of a claim, if there is one, is that claim's
pub claim_same : (ls : List Lengths) (o : Option Claim) → claim_if (option_map (section_of ls) o) ≡ o
claim_same ls None = refl
claim_same ls (Some d) = refl

-- it is the same for claims that read and write the same
pub same_against : (c d : Claim) → c.reads ≡ d.reads → c.writes ≡ d.writes → reads_against c ≡ reads_against d
same_against c d reads writes = λ i. λ r. not r.write_half && ((meets (reads i) r.writes || meets (writes i) r.writes) || touches r (writes i))

-- and has its length
pub taken_has : (ls : List Lengths) (len : Claim → ℕ) (p : Claim → Bool) (m : Moment) → AreOf (length_by ls) len m → IfSome (option_map (section_of ls) (first_at p m)) (λ s. s.len ≡ len s.claim)
taken_has ls len p m are = at (first_at p m) (found_has (length_by ls) len p m are)
  where
    at : (o : Option Claim) → IfSome o (λ d. length_by ls d ≡ len d) → IfSome (option_map (section_of ls) o) (λ s. s.len ≡ len s.claim)
    at None has = tt
    at (Some d) has = has

-- no read is taken for a claim that reads and writes nothing
pub none_against : (c : Claim) → c.reads ≡ empty → c.writes ≡ empty → (m : Moment) → first_at (reads_against c) m ≡ None
none_against c reads writes [] = refl
none_against c reads writes (x ∷ xs) =
    ap (λ b. option_map (λ (y : Claimed). y.claim) (cond (b && is_satisfied x) (Some x) (find (λ y. reads_against c y.claim && is_satisfied y) xs))) off
    ∙ none_against c reads writes xs
  where
    at : (b : Bool) → (b && false) ≡ false
    at true = refl
    at false = refl

    off : reads_against c x.claim ≡ false
    off =
        (λ i. not x.claim.write_half && ((meets (reads i) x.claim.writes || meets (writes i) x.claim.writes) || (meets x.claim.reads (writes i) || meets x.claim.writes (writes i))))
        ∙ (λ i. not x.claim.write_half && ((meets_empty_left x.claim.writes i || meets_empty_left x.claim.writes i) || (meets_empty_right x.claim.reads i || meets_empty_right x.claim.writes i)))
        ∙ at (not x.claim.write_half)

-- what is at a place is an element of a list
pub in_list : {X : Type 0} (xs : List X) (i : ℕ) (x : X) → slice_get xs i ≡ Some x → Among x xs
in_list [] i x h = absurd (none-some x h)
in_list (y ∷ xs) zero x h = inl (sym (same_Some y x h))
in_list (y ∷ xs) (suc i) x h = inr (in_list xs i x h)
