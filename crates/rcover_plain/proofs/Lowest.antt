-- The least claim of a line, found from its end.
use Rattle.std.proofs.Common.{◌≡◌, Bool, true, false, ◌&&◌, ◌||◌, cond, List, [], ◌∷◌, fold, reverse, refl, sym, ap, ◌∙◌}
use Rattle.std.specs.FinSet.{union}
use Rattle.std.specs.List.{list_any}
use Rattle.std.proofs.lemmas.List.Sums.{fold-append}
use Rattle.std.proofs.lemmas.List.{reverse-append}
use Rattle.rset.specs.Sets.{Set, meets}
use Rattle.rset.proofs.SetsMeet.{meets_union_right}
use Rattle.rclaim.specs.declared.claim.Claim.{Claim}
use Rattle.rmodel.specs.Claims.{share_place}
use Rattle.rmodel.specs.Rules.{is_earlier_write}
use Rattle.rcover_plain.specs.declared.leasts.Lowest.{Lowest}
use Rattle.rcover_laws.specs.Line.{line, first_or, least_of}
use Rattle.rcover_plain.specs.Lists.{with_lowest, lowest_of}
use Rattle.rcover_laws.specs.Moments.{Moment}

-- the places of a write and of claims of its line
pub all_places : Claim → List Claim → Set
all_places c [] = c.places
all_places c (d ∷ ds) = union d.places (all_places c ds)

or_turned : (a b d : Bool) → (a || (b || d)) ≡ (b || (a || d))
or_turned true true d = refl
or_turned true false d = refl
or_turned false b d = refl

or_none : (b : Bool) → (b || false) ≡ b
or_none true = refl
or_none false = refl

-- a claim shares a place with one of them if its places meet these
meets_all : (x c : Claim) (ds : List Claim) → meets x.places (all_places c ds) ≡ list_any (share_place x) (c ∷ ds)
unfolding all_places
meets_all x c [] = sym (or_none (share_place x c))
meets_all x c (d ∷ ds) =
    meets_union_right x.places d.places (all_places c ds) ∙ ap (λ b. share_place x d || b) (meets_all x c ds)
    ∙ or_turned (share_place x d) (share_place x c) (list_any (share_place x) ds)

abbrev low_of : Claim → Set → Lowest
low_of d s = record { least = d; places = s }

chosen : (c x : Claim) (ds : List Claim) (b : Bool) → cond b (low_of x (union x.places (all_places c ds))) (low_of (first_or c ds) (all_places c ds))
    ≡ low_of (first_or c (cond b (x ∷ ds) ds)) (all_places c (cond b (x ∷ ds) ds))
unfolding all_places
chosen c x ds true = refl
chosen c x ds false = refl

pub lowest_is : (c : Claim) (m : Moment) → fold (with_lowest c) (low_of c c.places) (reverse m) ≡ low_of (first_or c (line c m)) (all_places c (line c m))
unfolding all_places
lowest_is c [] = refl
lowest_is c (x ∷ xs) =
    ap (fold (with_lowest c) (low_of c c.places)) (reverse-append (x ∷ []) xs)
    ∙ fold-append (with_lowest c) (low_of c c.places) (reverse xs) (x ∷ [])
    ∙ ap (λ low. with_lowest c low x) (lowest_is c xs)
    ∙ ap (λ b. cond (is_earlier_write c x.claim && b) (low_of x.claim (union x.claim.places (all_places c (line c xs)))) (low_of (first_or c (line c xs)) (all_places c (line c xs)))) (meets_all x.claim c (line c xs))
    ∙ chosen c x.claim (line c xs) (is_earlier_write c x.claim && list_any (share_place x.claim) (c ∷ line c xs))

-- the least claim of a line
pub least_is : (c : Claim) (m : Moment) → (lowest_of c m).least ≡ least_of c m
unfolding lowest_of
least_is c m = ap (λ (low : Lowest). low.least) (lowest_is c m)
