-- Lists with one more element.
use Rattle.std.proofs.Common.{◌≡◌, ℕ, ◌+◌, ◌<◌, Bool, true, false, cond, Option, List, [], ◌∷◌, ◌++◌, filter, length, get_or, take, map, refl, sym, ap, ◌∙◌}
use Rattle.std.proofs.lemmas.List.{map_more, map-append}
use Rattle.std.proofs.lemmas.List.Elements.{filter-append}
use Rattle.std.specs.List.{filter_map}
use Rattle.std.specs.declared.vec.Vec.{Vec}
use Rattle.std.specs.declared.alloc.Global.{Global}
use Rattle.rclaim.specs.declared.claim.Claim.{Claim}
use Rattle.rmodel.specs.declared.claimed.Claimed.{Claimed}
use Rattle.rcover_laws.specs.Line.{least_of, leasts}
use Rattle.rcover_plain.specs.Lists.{moments_in}
use Rattle.rcover_laws.specs.Moments.{Moment}
use Rattle.rcover_laws.specs.Sections.{different}
use Rattle.rcover_laws.specs.Lists.{with_different, with_option}
use Rattle.rcover_laws.proofs.runs.Push.{append_none, different_push, different_option}
use Rattle.rcover_laws.proofs.lists.Pushed.{found_more}

-- the lists of claims up to one more of them
pub moments_more : (vs : List (Vec Claimed Global)) (i : ℕ) (v : Vec Claimed Global) (m : Moment) → i < length vs → v ≡ get_or vs i v → m ≡ v.items → moments_in (take (i + 1) vs) ≡ moments_in (take i vs) ++ m ∷ []
moments_more vs i v m h there is = map_more (λ (u : Vec Claimed Global). u.items) vs i v h ∙ ap (λ n. moments_in (take i vs) ++ n ∷ []) (sym (is ∙ ap (λ (u : Vec Claimed Global). u.items) there))

pub different_more : (f : Claim → Option Claim) (ds : List Claim) (i : ℕ) (d : Claim) → i < length ds → d ≡ get_or ds i d → different (filter_map f (take (i + 1) ds)) ≡ with_option (different (filter_map f (take i ds))) (f d)
different_more f ds i d h there = ap different (found_more f ds i d h there) ∙ different_option (filter_map f (take i ds)) (f d)

pub leasts_more : (c : Claim) (ms : List Moment) (m : Moment) → leasts c (ms ++ m ∷ []) ≡ with_different (leasts c ms) (least_of c m)
leasts_more c ms m = ap different (map-append (least_of c) ms (m ∷ [])) ∙ different_push (map (least_of c) ms) (least_of c m)

-- the elements that pass a test, once there is one more
pub filter_more : {X : Type 0} (p : X → Bool) (xs : List X) (x : X) → filter p (xs ++ x ∷ []) ≡ cond (p x) (filter p xs ++ x ∷ []) (filter p xs)
filter_more {X} p xs x = filter-append p xs (x ∷ []) ∙ at (p x) (filter p xs)
  where
    at : (b : Bool) (ys : List X) → ys ++ cond b (x ∷ []) [] ≡ cond b (ys ++ x ∷ []) ys
    at true ys = refl
    at false ys = append_none ys
