-- The least claims of lines, by those of the earlier writes that share a place.
use Rattle.std.proofs.Common.{◌≡◌, ◌≤◌, Bool, true, false, ◌&&◌, cond, [], ◌∷◌, refl, sym, ap, subst, ◌∙◌, ◌⊎◌, inl, inr, arith}
use Rattle.std.proofs.lemmas.Bool.{and_parts, and_from}
use Rattle.std.specs.List.{list_any, AllByRecursion}
use Rattle.rclaim.specs.declared.claim.Claim.{Claim}
use Rattle.rmodel.specs.declared.claimed.Claimed.{Claimed}
use Rattle.rmodel.specs.Claims.{share_place}
use Rattle.rmodel.specs.Rules.{is_earlier_write}
use Rattle.rmodel.specs.WellFormed.{Among, EachPair, Rises}
use Rattle.rmodel.proofs.ListFacts.{all_at, any_among, pair_among, passing}
use Rattle.rcover_laws.specs.Line.{line, least_of, first_or}
use Rattle.rcover_laws.specs.Moments.{Moment}
use Rattle.rcover_laws.proofs.states.Lines.{earlier_of, earlier_from, in_line, line_closed, least_is, least_below}
use Rattle.rmodel.proofs.settling.OneSettlement.{both_cases}

pub least_all : (P : Claim → Type 0) (c : Claim) → P c → (m : Moment) → AllByRecursion (λ x. P x.claim) m → P (least_of c m)
least_all P c own [] all = own
least_all P c own (x ∷ xs) all =
    both_cases (is_earlier_write c x.claim && list_any (share_place x.claim) (c ∷ line c xs))
    (λ on. subst (λ b. P (first_or c (cond b (x.claim ∷ line c xs) (line c xs)))) (sym on) all.0)
    (λ off. subst (λ b. P (first_or c (cond b (x.claim ∷ line c xs) (line c xs)))) (sym off) (least_all P c own xs all.1))

-- the test by which a claim joins the line after it
abbrev joins : Claim → Claimed → Moment → Bool
joins c x xs = is_earlier_write c x.claim && list_any (share_place x.claim) (c ∷ line c xs)

-- an earlier write that shares a place with a claim, and by which a claim of its line is reached
pub record IsBeside (c d : Claim) (xs : Moment) : Type 0 where
  pub at : Claimed
  pub among : Among at xs
  pub earlier : is_earlier_write c at.claim ≡ true
  pub share : share_place at.claim c ≡ true
  pub reaches : (d ≡ at.claim) ⊎ Among d (line at.claim xs)

-- each claim of a line is reached by one
pub beside : (c : Claim) (xs : Moment) → EachPair Rises xs → (d : Claim) → Among d (line c xs) → IsBeside c d xs
beside c [] pairs d there = absurd there
beside c (x ∷ xs) pairs d there = at (joins c x xs) refl (λ e. beside c xs pairs.1 e) there
  where
    stays : (b e : Claim) → Among e (line b xs) → Among e (line b (x ∷ xs))
    stays b e h = by (joins b x xs)
      where
        by : (on : Bool) → Among e (cond on (x.claim ∷ line b xs) (line b xs))
        by true = inr h
        by false = h

    longer : (e : Claim) → IsBeside c e xs → IsBeside c e (x ∷ xs)
    longer e h = record { at = h.at; among = inr h.among; earlier = h.earlier; share = h.share; reaches = elim h.reaches [ inl is ↦ inl is | inr further ↦ inr (stays h.at.claim e further) ] }

    -- a claim that joins by a claim of the line is reached by what reaches that
    joined : (u : Claim) (h : IsBeside c u xs) → x.claim.write_half ≡ true → share_place x.claim u ≡ true → Among x.claim (line h.at.claim (x ∷ xs))
    joined u h write share =
        let up = (all_at (Rises x) xs h.at pairs.0 h.among).after_write write in
        subst (λ (b : Bool). Among x.claim (cond b (x.claim ∷ line h.at.claim xs) (line h.at.claim xs)))
        (sym (and_from (is_earlier_write h.at.claim x.claim) (list_any (share_place x.claim) (h.at.claim ∷ line h.at.claim xs)) (earlier_from h.at.claim x.claim (record { write = write; below = up }))
        (any_among (share_place x.claim) (h.at.claim ∷ line h.at.claim xs) u h.reaches share)))
        (inl refl)

    at : (b : Bool) → joins c x xs ≡ b → ((e : Claim) → Among e (line c xs) → IsBeside c e xs) → Among d (cond b (x.claim ∷ line c xs) (line c xs)) → IsBeside c d (x ∷ xs)
    at false is rest h = longer d (rest d h)
    at true is rest (inr later) = longer d (rest d later)
    at true is rest (inl same) =
        let parts = and_parts (is_earlier_write c x.claim) (list_any (share_place x.claim) (c ∷ line c xs)) is in
        let u = passing (share_place x.claim) (c ∷ line c xs) parts.1 in
        elim u.1 [
          | inl is_c ↦ record { at = x; among = inl refl; earlier = parts.0; share = ap (share_place x.claim) (sym is_c) ∙ u.2; reaches = inl same }
          | inr in_xs ↦ (
              let h = rest u.0 in_xs in
              record {
                at = h.at;
                among = inr h.among;
                earlier = h.earlier;
                share = h.share;
                reaches = inr (subst (λ (e : Claim). Among e (line h.at.claim (x ∷ xs))) (sym same) (joined u.0 h (earlier_of c x.claim parts.0).write u.2));
              })
        ]

module _ (m : Moment) (rising : EachPair Rises m) where
  -- a line includes the lines of its claims
  line_of_one : (c v : Claim) → Among v (line c m) → (ys : Moment) → ((y : Claimed) → Among y ys → Among y m) → EachPair Rises ys → (d : Claim) → Among d (line v ys) → Among d (line c m)
  line_of_one c v in_c [] within pairs d there = absurd there
  line_of_one c v in_c (y ∷ ys) within pairs d there = at (joins v y ys) refl (λ e. line_of_one c v in_c ys (λ z h. within z (inr h)) pairs.1 e) there
    where
      before : (u : Claim) → Among u (line v ys) → y.claim.write_half ≡ true → is_earlier_write u y.claim ≡ true
      before u in_ys write =
          let h = in_line v ys u in_ys in
          let up = (all_at (Rises y) ys h.at pairs.0 h.among).after_write write in
          let same = ap (λ (e : Claim). e.stamp) h.is in
          earlier_from u y.claim (record { write = write; below = omega arith })

      at : (b : Bool) → joins v y ys ≡ b → ((e : Claim) → Among e (line v ys) → Among e (line c m)) → Among d (cond b (y.claim ∷ line v ys) (line v ys)) → Among d (line c m)
      at false is rest h = rest d h
      at true is rest (inr later) = rest d later
      at true is rest (inl same) =
          let parts = and_parts (is_earlier_write v y.claim) (list_any (share_place y.claim) (v ∷ line v ys)) is in
          let u = passing (share_place y.claim) (v ∷ line v ys) parts.1 in
          subst (λ (e : Claim). Among e (line c m)) (sym same) (elim u.1 [
            | inl is_v ↦ line_closed c m rising v (inr in_c) y (within y (inl refl)) parts.0 (ap (share_place y.claim) (sym is_v) ∙ u.2)
            | inr in_ys ↦ line_closed c m rising u.0 (inr (rest u.0 in_ys)) y (within y (inl refl)) (before u.0 in_ys (earlier_of v y.claim parts.0).write) u.2
          ])

  -- the least of a line is not above that of an earlier write that shares a place
  pub least_under : (c : Claim) (x : Claimed) → Among x m → is_earlier_write c x.claim ≡ true → share_place x.claim c ≡ true → (least_of c m).stamp ≤ (least_of x.claim m).stamp
  least_under c x there earlier share =
      let in_c = line_closed c m rising c (inl refl) x there earlier share in
      elim (least_is x.claim m) [
        | inl itself ↦ (let h = least_below c m rising x.claim (inr in_c) in let e = ap (λ (d : Claim). d.stamp) itself in omega arith)
        | inr of_x ↦ least_below c m rising (least_of x.claim m) (inr (line_of_one c x.claim in_c m (λ y h. h) rising (least_of x.claim m) of_x))
      ]

  -- it is the claim itself, or not below that of one of these
  pub least_from : (c : Claim) → (least_of c m ≡ c) ⊎ ((x : Claimed) × Among x m × (is_earlier_write c x.claim ≡ true) × (share_place x.claim c ≡ true) × ((least_of x.claim m).stamp ≤ (least_of c m).stamp))
  least_from c = elim (least_is c m) [
    | inl itself ↦ inl itself
    | inr there ↦ (
        let h = beside c m rising (least_of c m) there in
        let low : (least_of h.at.claim m).stamp ≤ (least_of c m).stamp
        = elim h.reaches [
          | inl is ↦ (let b = least_below h.at.claim m rising h.at.claim (inl refl) in let e = ap (λ (d : Claim). d.stamp) is in omega arith)
          | inr r ↦ least_below h.at.claim m rising (least_of c m) (inr r)
        ] in
        inr (h.at, h.among, h.earlier, h.share, low))
  ]

  -- the least of a line is the least of its own
  pub least_own : (c : Claim) → least_of (least_of c m) m ≡ least_of c m
  least_own c = elim (least_is c m) [
    | inl itself ↦ ap (λ d. least_of d m) itself
    | inr in_c ↦ elim (least_is (least_of c m) m) [
      | inl is ↦ is
      | inr there ↦ (
          let low = least_below c m rising (least_of (least_of c m) m) (inr (line_of_one c (least_of c m) in_c m (λ y h. h) rising (least_of (least_of c m) m) there)) in
          let up = (earlier_of (least_of c m) (least_of (least_of c m) m) (in_line (least_of c m) m (least_of (least_of c m) m) there).earlier).below in absurd (omega arith))
    ]
  ]

  -- the least of the line of a write that is there is a write that is there
  pub least_in : (x : Claimed) → Among x m → x.claim.write_half ≡ true → (y : Claimed) × Among y m × (y.claim ≡ least_of x.claim m) × (y.claim.write_half ≡ true)
  least_in x there write = elim (least_is x.claim m) [
    | inl itself ↦ (x, there, sym itself, write)
    | inr in_line' ↦ (
        let h = in_line x.claim m (least_of x.claim m) in_line' in
        (h.at, h.among, h.is, ap (λ (d : Claim). d.write_half) h.is ∙ (earlier_of x.claim (least_of x.claim m) h.earlier).write))
  ]

  -- writes of one stamp are the same
  pub one_of_stamp : (x y : Claimed) → Among x m → Among y m → x.claim.write_half ≡ true → y.claim.write_half ≡ true → x.claim.stamp ≡ y.claim.stamp → x ≡ y
  one_of_stamp x y in_x in_y x_write y_write stamp =
      elim (pair_among Rises m x y rising in_x in_y) [
        | inl same ↦ same
        | inr (inl r) ↦ (let below = r.after_write x_write in absurd (omega arith))
        | inr (inr r) ↦ (let below = r.after_write y_write in absurd (omega arith))
      ]

  -- leasts of one stamp are the same
  pub same_least : (x y : Claimed) → Among x m → Among y m → x.claim.write_half ≡ true → y.claim.write_half ≡ true → (least_of x.claim m).stamp ≡ (least_of y.claim m).stamp → least_of x.claim m ≡ least_of y.claim m
  same_least x y in_x in_y x_write y_write stamps =
      let a = least_in x in_x x_write in
      let b = least_in y in_y y_write in
      sym a.2 ∙ ap (λ (z : Claimed). z.claim) (one_of_stamp a.0 b.0 a.1 b.1 a.3 b.3 (ap (λ (d : Claim). d.stamp) a.2 ∙ stamps ∙ ap (λ (d : Claim). d.stamp) (sym b.2))) ∙ b.2

  -- a least of the stamp of the write is the write itself
  pub itself_least : (x : Claimed) → Among x m → x.claim.write_half ≡ true → (least_of x.claim m).stamp ≡ x.claim.stamp → least_of x.claim m ≡ x.claim
  itself_least x there write stamps =
      let a = least_in x there write in
      sym a.2 ∙ ap (λ (z : Claimed). z.claim) (one_of_stamp a.0 x a.1 there a.3 write (ap (λ (d : Claim). d.stamp) a.2 ∙ stamps))
