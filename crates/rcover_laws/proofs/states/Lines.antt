-- The line of a write at a moment: what is in it, that it is closed, and its least.
use Rattle.std.proofs.Common.{◌≡◌, ◌<◌, ◌≤◌, Bool, true, false, ◌&&◌, nat_lt, cond, List, [], ◌∷◌, refl, sym, ap, subst, ◌∙◌, ◌⊎◌, inl, inr, arith}
use Rattle.std.proofs.lemmas.Bool.{and_parts, and_from, ltb-true, lt-ltb}
use Rattle.std.specs.List.{list_any}
use Rattle.rclaim.specs.declared.claim.Claim.{Claim}
use Rattle.rmodel.specs.declared.claimed.Claimed.{Claimed}
use Rattle.rmodel.specs.Claims.{share_place}
use Rattle.rmodel.specs.Rules.{is_earlier_write}
use Rattle.rmodel.specs.WellFormed.{EachPair, Rises}
use Rattle.rmodel.proofs.ListFacts.{Among, all_at, all_from, any_among, passing}
use Rattle.rcover_laws.specs.Line.{line, first_or, least_of}
use Rattle.rcover_laws.specs.Moments.{Moment, There}
use Rattle.rcover_laws.proofs.lists.Found.{list_parts}

-- ---- earlier writes

pub record IsEarlier (c d : Claim) : Type 0 where
  pub write : d.write_half ≡ true
  pub below : d.stamp < c.stamp

pub earlier_of : (c d : Claim) → is_earlier_write c d ≡ true → IsEarlier c d
earlier_of c d h = let parts = and_parts d.write_half (nat_lt d.stamp c.stamp) h in record { write = parts.0; below = ltb-true d.stamp c.stamp parts.1 }

pub earlier_from : (c d : Claim) → IsEarlier c d → is_earlier_write c d ≡ true
earlier_from c d h = and_from d.write_half (nat_lt d.stamp c.stamp) h.write (lt-ltb d.stamp c.stamp h.below)

pub not_before_itself : {P : Type 0} → (c : Claim) → is_earlier_write c c ≡ true → P
not_before_itself c h = let below = (earlier_of c c h).below in absurd (omega arith)

-- ---- what is in the line

pub record IsInLine (c d : Claim) (m : Moment) : Type 0 where
  pub at : Claimed
  pub among : Among at m
  pub is : at.claim ≡ d
  pub earlier : is_earlier_write c d ≡ true

module _ (c : Claim) where
  -- the test of a claim before the line of those after it
  abbrev joins : Claimed → Moment → Bool
  joins x xs = is_earlier_write c x.claim && list_any (share_place x.claim) (c ∷ line c xs)

  later_in_line : (x : Claimed) (xs : Moment) (d : Claim) → IsInLine c d xs → IsInLine c d (x ∷ xs)
  later_in_line x xs d h = record { at = h.at; among = inr h.among; is = h.is; earlier = h.earlier }

  pub in_line : (xs : Moment) (d : Claim) → Among d (line c xs) → IsInLine c d xs
  in_line [] d there = absurd there
  in_line (x ∷ xs) d there = at (joins x xs) refl (in_line xs d) there
    where
      at : (b : Bool) → joins x xs ≡ b → (Among d (line c xs) → IsInLine c d xs) → Among d (cond b (x.claim ∷ line c xs) (line c xs)) → IsInLine c d (x ∷ xs)
      at true is rest (inl same) =
          record { at = x; among = inl refl; is = sym same; earlier = ap (is_earlier_write c) same ∙ (and_parts (is_earlier_write c x.claim) (list_any (share_place x.claim) (c ∷ line c xs)) is).0 }
      at true is rest (inr later) = later_in_line x xs d (rest later)
      at false is rest later = later_in_line x xs d (rest later)

  pub line_rises : (xs : Moment) → EachPair Rises xs → EachPair (λ d e. d.stamp < e.stamp) (line c xs)
  line_rises [] pairs = tt
  line_rises (x ∷ xs) pairs = at (joins x xs) refl (line_rises xs pairs.1)
    where
      at : (b : Bool) → joins x xs ≡ b → EachPair (λ (d e : Claim). d.stamp < e.stamp) (line c xs) → EachPair (λ (d e : Claim). d.stamp < e.stamp) (cond b (x.claim ∷ line c xs) (line c xs))
      at false is rest = rest
      at true is rest =
          let write = (earlier_of c x.claim (and_parts (is_earlier_write c x.claim) (list_any (share_place x.claim) (c ∷ line c xs)) is).0).write in (
            all_from (λ (e : Claim). x.claim.stamp < e.stamp) (line c xs) (λ e there.
                let h = in_line xs e there in
                let up = (all_at (Rises x) xs h.at pairs.0 h.among).after_write write in
                let same = ap (λ (d : Claim). d.stamp) h.is in omega arith),
            rest,
          )

  -- a claim of the line, itself included
  abbrev pub IsOfLine : Moment → Claim → Type 0
  IsOfLine m d = (d ≡ c) ⊎ Among d (line c m)

  stays_in : (x : Claimed) (xs : Moment) (d : Claim) → Among d (line c xs) → Among d (line c (x ∷ xs))
  stays_in x xs d there = at (joins x xs)
    where
      at : (b : Bool) → Among d (cond b (x.claim ∷ line c xs) (line c xs))
      at true = inr there
      at false = there

  joins_in : (x : Claimed) (xs : Moment) → joins x xs ≡ true → Among x.claim (line c (x ∷ xs))
  joins_in x xs is = subst (λ (b : Bool). Among x.claim (cond b (x.claim ∷ line c xs) (line c xs))) (sym is) (inl refl)

  -- an earlier write that shares a place with the claim, or with a claim of the line after it, joins
  shares_in : (x : Claimed) (xs : Moment) (u : Claim) → Among u (c ∷ line c xs) → is_earlier_write c x.claim ≡ true → share_place x.claim u ≡ true → Among x.claim (line c (x ∷ xs))
  shares_in x xs u there earlier share =
      joins_in x xs (and_from (is_earlier_write c x.claim) (list_any (share_place x.claim) (c ∷ line c xs)) earlier (any_among (share_place x.claim) (c ∷ line c xs) u there share))

  earlier_than_it : (xs : Moment) (u d : Claim) → Among u (line c xs) → is_earlier_write u d ≡ true → is_earlier_write c d ≡ true
  earlier_than_it xs u d there h =
      let first = earlier_of u d h in
      let then' = (earlier_of c u (in_line xs u there).earlier).below in
      let less = first.below in
      earlier_from c d (record { write = first.write; below = omega arith })

  -- closed, for a claim of the line after a claim
  closed_behind : (z : Claimed) (zs : Moment) (u : Claim) (x : Claimed) → Among u (line c zs) → (Among x zs → Among x.claim (line c zs)) → Among x (z ∷ zs) → is_earlier_write u x.claim ≡ true → share_place x.claim u ≡ true
      → Among x.claim (line c (z ∷ zs))
  closed_behind z zs u x in_zs rest (inl same) earlier share =
      subst (λ (w : Claimed). Among w.claim (line c (z ∷ zs))) (sym same)
      (shares_in z zs u (inr in_zs) (earlier_than_it zs u z.claim in_zs (ap (λ (w : Claimed). is_earlier_write u w.claim) (sym same) ∙ earlier)) (ap (λ (w : Claimed). share_place w.claim u) (sym same) ∙ share))
  closed_behind z zs u x in_zs rest (inr later) earlier share = stays_in z zs x.claim (rest later)

  -- the line is closed: an earlier write that shares a place with a claim of it is in it
  pub line_closed : (xs : Moment) → EachPair Rises xs → (u : Claim) → IsOfLine xs u → (x : Claimed) → Among x xs → is_earlier_write u x.claim ≡ true → share_place x.claim u ≡ true → Among x.claim (line c xs)
  line_closed [] pairs u of_line x there earlier share = absurd there
  line_closed (z ∷ zs) pairs u (inl is) x (inl same) earlier share =
      subst (λ (w : Claimed). Among w.claim (line c (z ∷ zs))) (sym same)
      (shares_in z zs u (inl is) (ap (λ d. is_earlier_write d z.claim) (sym is) ∙ ap (λ (w : Claimed). is_earlier_write u w.claim) (sym same) ∙ earlier) (ap (λ (w : Claimed). share_place w.claim u) (sym same) ∙ share))
  line_closed (z ∷ zs) pairs u (inl is) x (inr later) earlier share = stays_in z zs x.claim (line_closed zs pairs.1 u (inl is) x later earlier share)
  line_closed (z ∷ zs) pairs u (inr in_line') x there earlier share = at (joins z zs) refl in_line' (λ in_zs later. line_closed zs pairs.1 u (inr in_zs) x later earlier share) there
    where
      at : (b : Bool) → joins z zs ≡ b → Among u (cond b (z.claim ∷ line c zs) (line c zs)) → (Among u (line c zs) → Among x zs → Among x.claim (line c zs)) → Among x (z ∷ zs) → Among x.claim (line c (z ∷ zs))
      at true is (inl is_z) rest (inl same) = not_before_itself z.claim (ap (is_earlier_write z.claim) (ap (λ (w : Claimed). w.claim) (sym same)) ∙ ap (λ d. is_earlier_write d x.claim) (sym is_z) ∙ earlier)
      at true is (inl is_z) rest (inr later) =
          let up = (all_at (Rises z) zs x pairs.0 later).not_above in
          let down = (earlier_of z.claim x.claim (ap (λ d. is_earlier_write d x.claim) (sym is_z) ∙ earlier)).below in absurd (omega arith)
      at true is (inr in_zs) rest there' = closed_behind z zs u x in_zs (rest in_zs) there' earlier share
      at false is in_zs rest there' = closed_behind z zs u x in_zs (rest in_zs) there' earlier share

  -- ---- the least

  pub least_is : (m : Moment) → IsOfLine m (least_of c m)
  least_is m = elim (list_parts (line c m)) [
    | inl none ↦ inl (ap (first_or c) none)
    | inr some ↦ inr (subst (λ (ds : List Claim). Among (first_or c ds) ds) (sym some.2) (inl refl))
  ]

  pub least_below : (m : Moment) → EachPair Rises m → (d : Claim) → IsOfLine m d → (least_of c m).stamp ≤ d.stamp
  least_below m pairs d (inl is) = elim (least_is m) [
    | inl itself ↦ (let e = ap (λ (x : Claim). x.stamp) (itself ∙ sym is) in omega arith)
    | inr there ↦ (let below = (earlier_of c (least_of c m) (in_line m (least_of c m) there).earlier).below in let e = ap (λ (x : Claim). x.stamp) is in omega arith)
  ]
  least_below m pairs d (inr there) = first_below (line c m) (line_rises m pairs) there
    where
      first_below : (ds : List Claim) → EachPair (λ (d e : Claim). d.stamp < e.stamp) ds → Among d ds → (first_or c ds).stamp ≤ d.stamp
      first_below [] p h = absurd h
      first_below (e ∷ es) p (inl same) = let s = ap (λ (x : Claim). x.stamp) same in omega arith
      first_below (e ∷ es) p (inr h) = let s = all_at (λ (x : Claim). e.stamp < x.stamp) es d p.0 h in omega arith

  -- ---- two moments

  -- if each earlier write of a second list is in the first, the line of the second lies within that of the first
  pub line_within : (xs ys : Moment) → EachPair Rises xs → EachPair Rises ys → ((y : Claimed) → Among y ys → is_earlier_write c y.claim ≡ true → There y.claim xs) → (d : Claim) → Among d (line c ys) → Among d (line c xs)
  line_within xs [] rises rises' old d there = absurd there
  line_within xs (y ∷ ys) rises rises' old d there = at (joins y ys) refl (λ e. line_within xs ys rises rises'.1 (λ z in_ys. old z (inr in_ys)) e) there
    where
      -- the claim joined the line after it by a claim that is in the first line too
      joined : (u : Claim) → IsOfLine xs u → IsOfLine ys u → is_earlier_write c y.claim ≡ true → share_place y.claim u ≡ true → Among y.claim (line c xs)
      joined u of_xs of_ys earlier share =
          let h = old y (inl refl) earlier in
          subst (λ (e : Claim). Among e (line c xs)) h.is
          (line_closed xs rises u of_xs h.at h.among (ap (is_earlier_write u) h.is ∙ before u of_ys earlier) (ap (λ e. share_place e u) h.is ∙ share))
        where
          before : (u : Claim) → IsOfLine ys u → is_earlier_write c y.claim ≡ true → is_earlier_write u y.claim ≡ true
          before u (inl is) earlier = ap (λ e. is_earlier_write e y.claim) is ∙ earlier
          before u (inr in_ys) earlier =
              let write = (earlier_of c y.claim earlier).write in
              let h = in_line ys u in_ys in
              let up = (all_at (Rises y) ys h.at rises'.0 h.among).after_write write in
              let same = ap (λ (e : Claim). e.stamp) h.is in
              earlier_from u y.claim (record { write = write; below = omega arith })

      at : (b : Bool) → joins y ys ≡ b → ((e : Claim) → Among e (line c ys) → Among e (line c xs)) → Among d (cond b (y.claim ∷ line c ys) (line c ys)) → Among d (line c xs)
      at false is rest there' = rest d there'
      at true is rest (inr later) = rest d later
      at true is rest (inl same) =
          let parts = and_parts (is_earlier_write c y.claim) (list_any (share_place y.claim) (c ∷ line c ys)) is in
          let u = passing (share_place y.claim) (c ∷ line c ys) parts.1 in
          subst (λ e. Among e (line c xs)) (sym same) (elim u.1 [
            | inl is_c ↦ joined u.0 (inl is_c) (inl is_c) parts.0 u.2
            | inr in_ys ↦ joined u.0 (inr (rest u.0 in_ys)) (inr in_ys) parts.0 u.2
          ])
