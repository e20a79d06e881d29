-- Lists: tests and folds over lists that agree place by place, elements of a list, and pairs of its elements.
use Rattle.std.proofs.Common.{◌≡◌, Bool, true, false, ◌&&◌, ◌||◌, List, [], ◌∷◌, ◌++◌, map, filter, cond, refl, sym, ap, subst, ◌∙◌, ◌⊎◌, inl, inr}
use Rattle.std.proofs.lemmas.Bool.{true≢false, or_cases, or_left, or_right, or_parts, and_parts, and_from}
use Rattle.std.specs.List.{list_any, list_all, AllZip, AllByRecursion}
use Rattle.rmodel.specs.WellFormed.{EachPair}
pub use Rattle.rmodel.specs.WellFormed.{Among}

pub contrary : {P : Type 0} → (b : Bool) → b ≡ true → b ≡ false → P
contrary b is not_so = absurd (true≢false (sym is ∙ not_so))

-- what is not true is false
pub false_from : (b : Bool) → (b ≡ true → ⊥) → b ≡ false
false_from true h = absurd (h refl)
false_from false h = refl

module _ {X : Type 0} (p : X → Bool) where
  pub any_among : (xs : List X) (x : X) → Among x xs → p x ≡ true → list_any p xs ≡ true
  any_among [] x there pass = absurd there
  any_among (y ∷ ys) x (inl same) pass = or_left (p y) _ (ap p (sym same) ∙ pass)
  any_among (y ∷ ys) x (inr later) pass = or_right (p y) _ (any_among ys x later pass)

  pub none_among : (xs : List X) (x : X) → list_any p xs ≡ false → Among x xs → p x ≡ false
  none_among xs x none there = false_from (p x) (λ pass. true≢false (sym (any_among xs x there pass) ∙ none))

  pub none_from : (xs : List X) → ((x : X) → Among x xs → p x ≡ false) → list_any p xs ≡ false
  none_from [] each = refl
  none_from (x ∷ xs) each = (λ i. each x (inl refl) i || none_from xs (λ y there. each y (inr there)) i)

  pub all_among : (xs : List X) (x : X) → list_all p xs ≡ true → Among x xs → p x ≡ true
  all_among [] x all there = absurd there
  all_among (y ∷ ys) x all (inl same) = ap p same ∙ (and_parts (p y) (list_all p ys) all).0
  all_among (y ∷ ys) x all (inr later) = all_among ys x (and_parts (p y) (list_all p ys) all).1 later

  -- an element that passes, where some does
  pub passing : (xs : List X) → list_any p xs ≡ true → (x : X) × Among x xs × (p x ≡ true)
  passing [] some = contrary false some refl
  passing (x ∷ xs) some =
      elim (or_cases (p x) (list_any p xs) some) [
        | inl here ↦ (x, inl refl, here)
        | inr later ↦ let found = passing xs later in (found.0, inr found.1, found.2)
      ]

  pub among_filter : (xs : List X) (x : X) → Among x (filter p xs) → Among x xs × (p x ≡ true)
  among_filter [] x there = absurd there
  among_filter (y ∷ ys) x there = at (p y) refl (among_filter ys x) there
    where
      at : (b : Bool) → p y ≡ b → (Among x (filter p ys) → Among x ys × (p x ≡ true)) → Among x (cond b (y ∷ filter p ys) (filter p ys)) → Among x (y ∷ ys) × (p x ≡ true)
      at true pass rest (inl same) = (inl same, ap p same ∙ pass)
      at true pass rest (inr later) = let found = rest later in (inr found.0, found.1)
      at false fail rest later = let found = rest later in (inr found.0, found.1)

-- an element that passes is left
pub in_filter : {X : Type 0} (p : X → Bool) (xs : List X) (x : X) → Among x xs → p x ≡ true → Among x (filter p xs)
in_filter p [] x there pass = absurd there
in_filter p (y ∷ ys) x (inl same) pass =
    let here : p y ≡ true = ap p (sym same) ∙ pass in
    subst (λ (b : Bool). Among x (cond b (y ∷ filter p ys) (filter p ys))) (sym here) (inl same)
in_filter p (y ∷ ys) x (inr later) pass = at (p y) (in_filter p ys x later pass)
  where
    at : (b : Bool) → Among x (filter p ys) → Among x (cond b (y ∷ filter p ys) (filter p ys))
    at true there = inr there
    at false there = there

-- all pass a test where none passes another that bars it
pub all_of_none : {X : Type 0} (p q : X → Bool) → ((x : X) → p x ≡ false → q x ≡ true) → (xs : List X) → list_any p xs ≡ false → list_all q xs ≡ true
all_of_none p q passes [] none = refl
all_of_none p q passes (x ∷ xs) none =
    let parts = or_parts (p x) (list_any p xs) none in
    and_from (q x) (list_all q xs) (passes x parts.0) (all_of_none p q passes xs parts.1)

pub among_append : {X : Type 0} (xs ys : List X) (x : X) → Among x (xs ++ ys) → Among x xs ⊎ Among x ys
among_append [] ys x there = inr there
among_append (z ∷ xs) ys x (inl same) = inl (inl same)
among_append (z ∷ xs) ys x (inr later) = elim (among_append xs ys x later) [ inl here ↦ inl (inr here) | inr there ↦ inr there ]

module _ {X : Type 0} (P : X → Type 0) where
  pub all_at : (xs : List X) (x : X) → AllByRecursion P xs → Among x xs → P x
  all_at [] x all there = absurd there
  all_at (y ∷ ys) x all (inl same) = subst P (sym same) all.0
  all_at (y ∷ ys) x all (inr later) = all_at ys x all.1 later

  pub all_from : (xs : List X) → ((x : X) → Among x xs → P x) → AllByRecursion P xs
  all_from [] each = tt
  all_from (x ∷ xs) each = (each x (inl refl), all_from xs (λ y there. each y (inr there)))

  pub all_append : (xs ys : List X) → AllByRecursion P xs → AllByRecursion P ys → AllByRecursion P (xs ++ ys)
  all_append [] ys a b = b
  all_append (x ∷ xs) ys a b = (a.0, all_append xs ys a.1 b)

-- ---- two lists, place by place

module _ {X Y : Type 0} where
  pub any_zip : (R : X → Y → Type 0) (p : X → Bool) (q : Y → Bool) → ((x : X) (y : Y) → R x y → p x ≡ q y) → (xs : List X) (ys : List Y) → AllZip R xs ys → list_any p xs ≡ list_any q ys
  any_zip R p q alike [] [] zip = refl
  any_zip R p q alike [] (y ∷ ys) zip = absurd zip
  any_zip R p q alike (x ∷ xs) [] zip = absurd zip
  any_zip R p q alike (x ∷ xs) (y ∷ ys) zip = (λ i. alike x y zip.0 i || any_zip R p q alike xs ys zip.1 i)

  pub all_zip : (R : X → Y → Type 0) (p : X → Bool) (q : Y → Bool) → ((x : X) (y : Y) → R x y → p x ≡ q y) → (xs : List X) (ys : List Y) → AllZip R xs ys → list_all p xs ≡ list_all q ys
  all_zip R p q alike [] [] zip = refl
  all_zip R p q alike [] (y ∷ ys) zip = absurd zip
  all_zip R p q alike (x ∷ xs) [] zip = absurd zip
  all_zip R p q alike (x ∷ xs) (y ∷ ys) zip = (λ i. alike x y zip.0 i && all_zip R p q alike xs ys zip.1 i)

  pub zip_weaker : (R S : X → Y → Type 0) → ((x : X) (y : Y) → R x y → S x y) → (xs : List X) (ys : List Y) → AllZip R xs ys → AllZip S xs ys
  zip_weaker R S gives [] [] zip = tt
  zip_weaker R S gives [] (y ∷ ys) zip = absurd zip
  zip_weaker R S gives (x ∷ xs) [] zip = absurd zip
  zip_weaker R S gives (x ∷ xs) (y ∷ ys) zip = (gives x y zip.0, zip_weaker R S gives xs ys zip.1)

  pub zip_apply : (P Q : X → Y → Type 0) (xs : List X) (ys : List Y) → AllZip (λ x y. P x y → Q x y) xs ys → AllZip P xs ys → AllZip Q xs ys
  zip_apply P Q [] [] gives zip = tt
  zip_apply P Q [] (y ∷ ys) gives zip = absurd zip
  zip_apply P Q (x ∷ xs) [] gives zip = absurd zip
  zip_apply P Q (x ∷ xs) (y ∷ ys) gives zip = (gives.0 zip.0, zip_apply P Q xs ys gives.1 zip.1)

  -- with what holds of each of the first list
  pub zip_all : (P : X → Type 0) (R S : X → Y → Type 0) → ((x : X) (y : Y) → P x → R x y → S x y) → (xs : List X) (ys : List Y) → AllByRecursion P xs → AllZip R xs ys → AllZip S xs ys
  zip_all P R S gives [] [] all zip = tt
  zip_all P R S gives [] (y ∷ ys) all zip = absurd zip
  zip_all P R S gives (x ∷ xs) [] all zip = absurd zip
  zip_all P R S gives (x ∷ xs) (y ∷ ys) all zip = (gives x y all.0 zip.0, zip_all P R S gives xs ys all.1 zip.1)

  -- what holds of each of the second list
  pub all_of_zip : (P : X → Type 0) (R : X → Y → Type 0) (Q : Y → Type 0) → ((x : X) (y : Y) → P x → R x y → Q y) → (xs : List X) (ys : List Y) → AllByRecursion P xs → AllZip R xs ys → AllByRecursion Q ys
  all_of_zip P R Q gives [] [] all zip = tt
  all_of_zip P R Q gives [] (y ∷ ys) all zip = absurd zip
  all_of_zip P R Q gives (x ∷ xs) [] all zip = absurd zip
  all_of_zip P R Q gives (x ∷ xs) (y ∷ ys) all zip = (gives x y all.0 zip.0, all_of_zip P R Q gives xs ys all.1 zip.1)

  -- what holds of each of the second list whatever the first is
  pub each_second : (R : X → Y → Type 0) (P : Y → Type 0) → ((x : X) (y : Y) → R x y → P y) → (xs : List X) (ys : List Y) → AllZip R xs ys → AllByRecursion P ys
  each_second R P gives [] [] zip = tt
  each_second R P gives [] (y ∷ ys) zip = absurd zip
  each_second R P gives (x ∷ xs) [] zip = absurd zip
  each_second R P gives (x ∷ xs) (y ∷ ys) zip = (gives x y zip.0, each_second R P gives xs ys zip.1)

  -- the second list beside itself
  pub second_itself : (R : X → Y → Type 0) (S : Y → Y → Type 0) → ((x : X) (y : Y) → R x y → S y y) → (xs : List X) (ys : List Y) → AllZip R xs ys → AllZip S ys ys
  second_itself R S gives [] [] zip = tt
  second_itself R S gives [] (y ∷ ys) zip = absurd zip
  second_itself R S gives (x ∷ xs) [] zip = absurd zip
  second_itself R S gives (x ∷ xs) (y ∷ ys) zip = (gives x y zip.0, second_itself R S gives xs ys zip.1)

  -- some element of the second list passes, where one of the first does and what passes there passes here
  pub some_second : (R : X → Y → Type 0) (p : X → Bool) (q : Y → Bool) → ((x : X) (y : Y) → R x y → p x ≡ true → q y ≡ true) → (xs : List X) (ys : List Y) → AllZip R xs ys → list_any p xs ≡ true → list_any q ys ≡ true
  some_second R p q passes [] [] zip some = some
  some_second R p q passes [] (y ∷ ys) zip some = absurd zip
  some_second R p q passes (x ∷ xs) [] zip some = absurd zip
  some_second R p q passes (x ∷ xs) (y ∷ ys) zip some =
      elim (or_cases (p x) (list_any p xs) some) [
        | inl here ↦ or_left (q y) _ (passes x y zip.0 here)
        | inr later ↦ or_right (q y) _ (some_second R p q passes xs ys zip.1 later)
      ]

  -- with what holds of each pair of the first list: what holds of each pair of the second
  pub pairs_of_zip : (P : X → X → Type 0) (R : X → Y → Type 0) (Q : Y → Y → Type 0) → ((x x' : X) (y y' : Y) → P x x' → R x y → R x' y' → Q y y') → (xs : List X) (ys : List Y) → EachPair P xs → AllZip R xs ys → EachPair Q ys
  pairs_of_zip P R Q gives [] [] pairs zip = tt
  pairs_of_zip P R Q gives [] (y ∷ ys) pairs zip = absurd zip
  pairs_of_zip P R Q gives (x ∷ xs) [] pairs zip = absurd zip
  pairs_of_zip P R Q gives (x ∷ xs) (y ∷ ys) pairs zip =
      (all_of_zip (P x) R (Q y) (λ x' y' p r. gives x x' y y' p zip.0 r) xs ys pairs.0 zip.1, pairs_of_zip P R Q gives xs ys pairs.1 zip.1)

  -- each pair of places with the elements' membership
  pub zip_among : (R : X → Y → Type 0) (xs : List X) (ys : List Y) → AllZip R xs ys → AllZip (λ x y. R x y × Among x xs × Among y ys) xs ys
  zip_among R [] [] zip = tt
  zip_among R [] (y ∷ ys) zip = absurd zip
  zip_among R (x ∷ xs) [] zip = absurd zip
  zip_among R (x ∷ xs) (y ∷ ys) zip =
      ((zip.0, inl refl, inl refl), zip_weaker (λ a b. R a b × Among a xs × Among b ys) (λ a b. R a b × Among a (x ∷ xs) × Among b (y ∷ ys)) (λ a b h. (h.0, inr h.1, inr h.2)) xs ys (zip_among R xs ys zip.1))

  -- what stands beside an element of the first list
  pub zip_partner : (R : X → Y → Type 0) (xs : List X) (ys : List Y) (x : X) → AllZip R xs ys → Among x xs → (y : Y) × Among y ys × R x y
  zip_partner R [] ys x zip there = absurd there
  zip_partner R (z ∷ xs) [] x zip there = absurd zip
  zip_partner R (z ∷ xs) (y ∷ ys) x zip (inl same) = (y, inl refl, subst (λ (w : X). R w y) (sym same) zip.0)
  zip_partner R (z ∷ xs) (y ∷ ys) x zip (inr later) = let found = zip_partner R xs ys x zip.1 later in (found.0, inr found.1, found.2)

  -- a family of relations at once
  pub zip_each : {N : Type 0} (R : N → X → Y → Type 0) (xs : List X) (ys : List Y) → ((n : N) → AllZip (R n) xs ys) → N → AllZip (λ x y. (n : N) → R n x y) xs ys
  zip_each R [] [] zip n = tt
  zip_each R [] (y ∷ ys) zip n = absurd (zip n)
  zip_each R (x ∷ xs) [] zip n = absurd (zip n)
  zip_each R (x ∷ xs) (y ∷ ys) zip n = ((λ m. (zip m).0), zip_each R xs ys (λ m. (zip m).1) n)

-- two lists that stand place by place to a third
pub zip_join : {X Y Z : Type 0} (R : X → Y → Type 0) (Q : X → Z → Type 0) (S : Y → Z → Type 0) → ((x : X) (y : Y) (z : Z) → R x y → Q x z → S y z) → (xs : List X) (ys : List Y) (zs : List Z) → AllZip R xs ys → AllZip Q xs zs → AllZip S ys zs
zip_join R Q S gives [] [] [] a b = tt
zip_join R Q S gives [] (y ∷ ys) zs a b = absurd a
zip_join R Q S gives [] [] (z ∷ zs) a b = absurd b
zip_join R Q S gives (x ∷ xs) [] zs a b = absurd a
zip_join R Q S gives (x ∷ xs) (y ∷ ys) [] a b = absurd b
zip_join R Q S gives (x ∷ xs) (y ∷ ys) (z ∷ zs) a b = (gives x y z a.0 b.0, zip_join R Q S gives xs ys zs a.1 b.1)

pub zip_same : {X : Type 0} (R : X → X → Type 0) → ((x : X) → R x x) → (xs : List X) → AllZip R xs xs
zip_same R itself [] = tt
zip_same R itself (x ∷ xs) = (itself x, zip_same R itself xs)

pub zip_append : {X Y : Type 0} (R : X → Y → Type 0) (xs : List X) (ys : List Y) (us : List X) (vs : List Y) → AllZip R xs ys → AllZip R us vs → AllZip R (xs ++ us) (ys ++ vs)
zip_append R [] [] us vs a b = b
zip_append R [] (y ∷ ys) us vs a b = absurd a
zip_append R (x ∷ xs) [] us vs a b = absurd a
zip_append R (x ∷ xs) (y ∷ ys) us vs a b = (a.0, zip_append R xs ys us vs a.1 b)

pub zip_map_left : {X Y Z : Type 0} (f : X → Y) (R : Y → Z → Type 0) (xs : List X) (zs : List Z) → AllZip R (map f xs) zs → AllZip (λ x z. R (f x) z) xs zs
zip_map_left f R [] [] zip = tt
zip_map_left f R [] (z ∷ zs) zip = absurd zip
zip_map_left f R (x ∷ xs) [] zip = absurd zip
zip_map_left f R (x ∷ xs) (z ∷ zs) zip = (zip.0, zip_map_left f R xs zs zip.1)

pub zip_map_right : {X Y Z : Type 0} (g : Y → Z) (R : X → Y → Type 0) (S : X → Z → Type 0) → ((x : X) (y : Y) → R x y → S x (g y)) → (xs : List X) (ys : List Y) → AllZip R xs ys → AllZip S xs (map g ys)
zip_map_right g R S gives [] [] zip = tt
zip_map_right g R S gives [] (y ∷ ys) zip = absurd zip
zip_map_right g R S gives (x ∷ xs) [] zip = absurd zip
zip_map_right g R S gives (x ∷ xs) (y ∷ ys) zip = (gives x y zip.0, zip_map_right g R S gives xs ys zip.1)

pub zip_equal : {X : Type 0} (xs ys : List X) → AllZip (λ x y. x ≡ y) xs ys → xs ≡ ys
zip_equal [] [] zip = refl
zip_equal [] (y ∷ ys) zip = absurd zip
zip_equal (x ∷ xs) [] zip = absurd zip
zip_equal (x ∷ xs) (y ∷ ys) zip = (λ i. zip.0 i ∷ zip_equal xs ys zip.1 i)

-- ---- pairs of one list

module _ {X : Type 0} (R : X → X → Type 0) where
  pub pairs_append : (xs : List X) (y : X) → EachPair R xs → AllByRecursion (λ x. R x y) xs → EachPair R (xs ++ y ∷ [])
  pairs_append [] y pairs each = (tt, tt)
  pairs_append (x ∷ xs) y pairs each = (all_append (R x) xs (y ∷ []) pairs.0 (each.0, tt), pairs_append xs y pairs.1 each.1)

  -- two lists behind one another, of which each of the first stands so to each of the second
  pub pairs_append_all : (xs ys : List X) → EachPair R xs → EachPair R ys → ((x y : X) → Among x xs → Among y ys → R x y) → EachPair R (xs ++ ys)
  pairs_append_all [] ys a b each = b
  pairs_append_all (x ∷ xs) ys a b each =
      (all_append (R x) xs ys a.0 (all_from (R x) ys (λ y there. each x y (inl refl) there)), pairs_append_all xs ys a.1 b (λ z y in_xs in_ys. each z y (inr in_xs) in_ys))

  pub pairs_filter : (p : X → Bool) (xs : List X) → EachPair R xs → EachPair R (filter p xs)
  pairs_filter p [] pairs = tt
  pairs_filter p (x ∷ xs) pairs = at (p x) (pairs_filter p xs pairs.1)
    where
      at : (b : Bool) → EachPair R (filter p xs) → EachPair R (cond b (x ∷ filter p xs) (filter p xs))
      at true rest = (all_from (R x) (filter p xs) (λ y there. all_at (R x) xs y pairs.0 (among_filter p xs y there).0), rest)
      at false rest = rest

  -- two elements are the same one, or one of them comes first
  pub pair_among : (xs : List X) (x y : X) → EachPair R xs → Among x xs → Among y xs → (x ≡ y) ⊎ (R x y ⊎ R y x)
  pair_among [] x y pairs a b = absurd a
  pair_among (z ∷ zs) x y pairs (inl a) (inl b) = inl (a ∙ sym b)
  pair_among (z ∷ zs) x y pairs (inl a) (inr b) = inr (inl (subst (λ (w : X). R w y) (sym a) (all_at (R z) zs y pairs.0 b)))
  pair_among (z ∷ zs) x y pairs (inr a) (inl b) = inr (inr (subst (λ (w : X). R w x) (sym b) (all_at (R z) zs x pairs.0 a)))
  pair_among (z ∷ zs) x y pairs (inr a) (inr b) = pair_among zs x y pairs.1 a b

-- what any two elements of which this holds stand in
pub pairs_from_all : {X : Type 0} (P : X → Type 0) (R : X → X → Type 0) → ((x y : X) → P x → P y → R x y) → (xs : List X) → AllByRecursion P xs → EachPair R xs
pairs_from_all P R gives [] all = tt
pairs_from_all P R gives (x ∷ xs) all = (all_from (R x) xs (λ y there. gives x y all.0 (all_at P xs y all.1 there)), pairs_from_all P R gives xs all.1)

-- a list beside itself
pub all_of_itself : {X : Type 0} (R : X → X → Type 0) (xs : List X) → AllZip R xs xs → AllByRecursion (λ x. R x x) xs
all_of_itself R [] zip = tt
all_of_itself R (x ∷ xs) zip = (zip.0, all_of_itself R xs zip.1)

-- two facts of each pair at once
pub pairs_both : {X : Type 0} (P Q R : X → X → Type 0) → ((x y : X) → P x y → Q x y → R x y) → (xs : List X) → EachPair P xs → EachPair Q xs → EachPair R xs
pairs_both P Q R gives [] a b = tt
pairs_both P Q R gives (x ∷ xs) a b = (both (P x) (Q x) (R x) (gives x) xs a.0 b.0, pairs_both P Q R gives xs a.1 b.1)
  where
    both : {X : Type 0} (P Q R : X → Type 0) → ((y : X) → P y → Q y → R y) → (ys : List X) → AllByRecursion P ys → AllByRecursion Q ys → AllByRecursion R ys
    both P Q R gives [] a b = tt
    both P Q R gives (y ∷ ys) a b = (gives y a.0 b.0, both P Q R gives ys a.1 b.1)

-- with what holds of each element
pub pairs_with : {X : Type 0} (P : X → Type 0) (Q R : X → X → Type 0) → ((x y : X) → P x → P y → Q x y → R x y) → (xs : List X) → AllByRecursion P xs → EachPair Q xs → EachPair R xs
pairs_with P Q R gives [] all pairs = tt
pairs_with P Q R gives (x ∷ xs) all pairs =
    (all_from (R x) xs (λ y there. gives x y all.0 (all_at P xs y all.1 there) (all_at (Q x) xs y pairs.0 there)), pairs_with P Q R gives xs all.1 pairs.1)

pub all_map : {X Y : Type 0} (f : X → Y) (P : Y → Type 0) (xs : List X) → ((x : X) → Among x xs → P (f x)) → AllByRecursion P (map f xs)
all_map f P [] each = tt
all_map f P (x ∷ xs) each = (each x (inl refl), all_map f P xs (λ y there. each y (inr there)))

pub all_filter : {X : Type 0} (P : X → Type 0) (p : X → Bool) (xs : List X) → AllByRecursion P xs → AllByRecursion P (filter p xs)
all_filter P p xs all = all_from P (filter p xs) (λ x there. all_at P xs x all (among_filter p xs x there).0)

-- ---- a list behind another

pub behind : {X : Type 0} (P : X → Type 0) (xs ys : List X) → AllByRecursion P (xs ++ ys) → AllByRecursion P ys
behind P [] ys all = all
behind P (w ∷ zs) ys all = behind P zs ys all.1

-- two elements, one of each of them
pub pairs_across : {X : Type 0} (R : X → X → Type 0) (ys xs : List X) (x y : X) → EachPair R (xs ++ ys) → Among x xs → Among y ys → R x y
pairs_across R ys [] x y pairs a b = absurd a
pairs_across R ys (z ∷ xs) x y pairs (inl same) b = all_at (R x) ys y (subst (λ w. AllByRecursion (R w) ys) (sym same) (behind (R z) xs ys pairs.0)) b
pairs_across R ys (z ∷ xs) x y pairs (inr later) b = pairs_across R ys xs x y pairs.1 later b

pub among_behind : {X : Type 0} (xs ys : List X) (x : X) → Among x ys → Among x (xs ++ ys)
among_behind [] ys x there = there
among_behind (z ∷ xs) ys x there = inr (among_behind xs ys x there)

-- ---- maps and tests

pub map_same : {X : Type 0} (f : X → X) (xs : List X) → AllByRecursion (λ x. f x ≡ x) xs → map f xs ≡ xs
map_same f [] same = refl
map_same f (x ∷ xs) same = (λ i. same.0 i ∷ map_same f xs same.1 i)

-- where each passes a test, each passes a weaker one
pub all_weaker : {X : Type 0} (p q : X → Bool) → ((x : X) → p x ≡ true → q x ≡ true) → (xs : List X) → list_all p xs ≡ true → list_all q xs ≡ true
all_weaker p q gives [] h = refl
all_weaker p q gives (x ∷ xs) h =
    let parts = and_parts (p x) (list_all p xs) h in
    (λ i. gives x parts.0 i && all_weaker p q gives xs parts.1 i)
