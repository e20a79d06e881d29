-- The line of a write over a run of moments: it only loses claims, its least only rises, and a least that is satisfied or passed stays so.
use Rattle.std.proofs.Common.{◌≡◌, ◌<◌, ◌≤◌, Bool, true, false, not, ◌&&◌, List, [], ◌∷◌, refl, sym, ap, subst, ◌∙◌, inl, inr, arith}
use Rattle.std.proofs.lemmas.Bool.{and_from, and_parts, cases_order, or_cases}
use Rattle.std.specs.List.{AllByRecursion, list_any}
use Rattle.rclaim.specs.declared.claim.Claim.{Claim}
use Rattle.rclaim.specs.declared.event.Event.{Event}
use Rattle.rmodel.specs.Reached.{IsReached}
use Rattle.rmodel.specs.State.{LockState}
use Rattle.rmodel.specs.Steps.{next, Comes, AreAccepted, after}
use Rattle.rmodel.specs.WellFormed.{EachPair}
use Rattle.rmodel.proofs.ListFacts.{contrary, false_from, all_at, all_from}
use Rattle.rmodel.proofs.reaching.Reached.{reached_next}
use Rattle.rcover_laws.specs.Line.{least_of, is_least, is_kept_least, kept_moments}
use Rattle.rcover_laws.specs.Moments.{Moment, moments, holds_at}
use Rattle.rcover_laws.proofs.lists.Found.{filter_no, all_so}
use Rattle.rcover_laws.proofs.runs.Moments.{is_other, are_one, holds_sat, sat_holds}
use Rattle.rcover_laws.proofs.runs.Throughout.{Stops}
use Rattle.rcover_laws.proofs.states.AtRest.{Sat}
use Rattle.rcover_laws.proofs.states.LeastOfLine.{IsWriteThere, write_by_stamp, of_line_there, least_there, line_shrinks}
use Rattle.rcover_laws.proofs.states.Lines.{IsOfLine, least_is, least_below}
use Rattle.rcover_laws.proofs.states.ThroughEvent.{sat_next}

module _ (c : Claim) where
  -- the line at each moment lies within the first one
  pub line_of_first : (s : LockState) (es : List Event) → IsReached s → AreAccepted s es → AllByRecursion (IsWriteThere c) (moments s es) → AllByRecursion (λ m. (d : Claim) → IsOfLine c m d → IsOfLine c s.claims d) (moments s es)
  line_of_first s [] reached accepted there = (λ d h. h, tt)
  line_of_first s (e ∷ es) reached accepted there = (
    λ d h. h,
    all_so (λ m. (d : Claim) → IsOfLine c m d → IsOfLine c (next s e).claims d) (λ m. (d : Claim) → IsOfLine c m d → IsOfLine c s.claims d) (λ m f d h. line_shrinks s reached e accepted.0 c there.0 d (f d h)) (moments (next s e) es)
        (line_of_first (next s e) es (reached_next s e reached accepted.0) accepted.1 there.1),
  )

  -- so its least only rises
  pub least_rises : (s : LockState) (es : List Event) → IsReached s → AreAccepted s es → AllByRecursion (IsWriteThere c) (moments s es) → EachPair (λ m n. (least_of c m).stamp ≤ (least_of c n).stamp) (moments s es)
  least_rises s [] reached accepted there = (tt, tt)
  least_rises s (e ∷ es) reached accepted there = (
    all_so (λ m. (d : Claim) → IsOfLine c m d → IsOfLine c s.claims d) (λ m. (least_of c s.claims).stamp ≤ (least_of c m).stamp)
        (λ m f. least_below c s.claims reached.sound.well_formed.rising (least_of c m) (f (least_of c m) (least_is c m))) (moments (next s e) es) (line_of_first s (e ∷ es) reached accepted there).1,
    least_rises (next s e) es (reached_next s e reached accepted.0) accepted.1 there.1,
  )

  module _ (d : Claim) where
    -- a claim that was the least still is and is satisfied, or the least has a greater stamp
    pub data Gone (m : Moment) : Type 0 where
      done : least_of c m ≡ d → Sat d m → Gone m
      passed : d.stamp < (least_of c m).stamp → Gone m

    module _ (s : LockState) (e : Event) (reached : IsReached s) (comes : Comes s e) (there : IsWriteThere c s.claims) (there' : IsWriteThere c (next s e).claims) where
      abbrev on : IsReached (next s e)
      on = reached_next s e reached comes

      abbrev least' : Claim
      least' = least_of c (next s e).claims

      least_of_before : IsOfLine c s.claims least'
      least_of_before = line_shrinks s reached e comes c there least' (least_is c (next s e).claims)

      not_below : (least_of c s.claims).stamp ≤ least'.stamp
      not_below = least_below c s.claims reached.sound.well_formed.rising least' least_of_before

      -- a claim that was the least still is, or was passed
      goes_or_passed : {P : Type 0} → least_of c s.claims ≡ d → (least' ≡ d → P) → (d.stamp < least'.stamp → P) → P
      goes_or_passed is goes passes = elim (cases_order d.stamp least'.stamp) [
        | inl same ↦ goes (sym (write_by_stamp s reached d least' (subst (λ (x : Claim). IsWriteThere x s.claims) is (least_there s reached c there)) (of_line_there s reached c there least' least_of_before) same))
        | inr (inl less) ↦ passes less
        | inr (inr more) ↦ (let up = not_below in let e' = ap (λ (x : Claim). x.stamp) is in absurd (omega arith))
      ]

      there_after : least' ≡ d → IsWriteThere d (next s e).claims
      there_after is = subst (λ (x : Claim). IsWriteThere x (next s e).claims) is (least_there (next s e) on c there')

      gone_on : Gone s.claims → Gone (next s e).claims
      gone_on (done is sat) = goes_or_passed is (λ is'. done is' (sat_next s e reached comes d sat (there_after is').there)) passed
      gone_on (passed less) = passed (let up = not_below in omega arith)

      gone_from : least_of c s.claims ≡ d → is_kept_least c d (next s e).claims ≡ false → Gone (next s e).claims
      gone_from is off = goes_or_passed is
          (λ is'. let w = there_after is' in done is' (sat_holds (next s e) on d w.write w.there (held (is_least c d (next s e).claims) (holds_at d (next s e).claims) (is_other d least' (sym is')) off))) passed
        where
          held : (a b : Bool) → a ≡ true → (a && not b) ≡ false → b ≡ true
          held true true is h = refl
          held true false is h = sym h
          held false b is h = contrary false is refl

    gone_off : (m : Moment) → Gone m → is_kept_least c d m ≡ false
    gone_off m (done is sat) = ap (λ b. is_least c d m && not b) (holds_sat d m sat) ∙ never (is_least c d m)
      where
        never : (a : Bool) → (a && false) ≡ false
        never true = refl
        never false = refl
    gone_off m (passed less) = ap (λ b. b && not (holds_at d m)) (false_from (is_least c d m) (λ h. let same = (are_one d (least_of c m) h).stamp in omega arith))

    pub gone_filter : (s : LockState) (es : List Event) → IsReached s → AreAccepted s es → AllByRecursion (IsWriteThere c) (moments s es) → Gone s.claims → kept_moments c d (moments s es) ≡ []
    gone_filter s [] reached accepted there gone = filter_no (is_kept_least c d) s.claims [] (gone_off s.claims gone)
    gone_filter s (e ∷ es) reached accepted there gone =
        filter_no (is_kept_least c d) s.claims (moments (next s e) es) (gone_off s.claims gone)
        ∙ gone_filter (next s e) es (reached_next s e reached accepted.0) accepted.1 there.1 (gone_on s e reached accepted.0 there.0 there.1.0 gone)

    -- if the claim is the least, it is that very claim
    abbrev pub IsThatLeast : Moment → Type 0
    IsThatLeast m = is_least c d m ≡ true → least_of c m ≡ d

    pub stops_least : (s : LockState) (es : List Event) → IsReached s → AreAccepted s es → AllByRecursion (IsWriteThere c) (moments s es) → AllByRecursion IsThatLeast (moments s es) → Stops (is_kept_least c d) s es
    stops_least s [] reached accepted there same = tt
    stops_least s (e ∷ es) reached accepted there same =
        let on = reached_next s e reached accepted.0 in (
          λ now off. gone_filter (next s e) es on accepted.1 there.1
              (gone_from s e reached accepted.0 there.0 there.1.0 (same.0 (and_parts (is_least c d s.claims) (not (holds_at d s.claims)) now).0) off),
          stops_least (next s e) es on accepted.1 there.1 same.1,
        )

  -- a least that is satisfied at the first moment is never kept waiting
  pub satisfied_first : (s : LockState) (es : List Event) → IsReached s → AreAccepted s es → AllByRecursion (IsWriteThere c) (moments s es) → Sat (least_of c s.claims) s.claims
      → kept_moments c (least_of c s.claims) (moments s es) ≡ []
  satisfied_first s es reached accepted there sat = gone_filter (least_of c s.claims) s es reached accepted there (done refl sat)

  -- the least at the last moment has the greatest stamp
  pub rises_to_last : (s : LockState) (es : List Event) → IsReached s → AreAccepted s es → AllByRecursion (IsWriteThere c) (moments s es) → AllByRecursion (λ m. (least_of c m).stamp ≤ (least_of c (after s es).claims).stamp) (moments s es)
  rises_to_last s [] reached accepted there = (omega arith, tt)
  rises_to_last s (e ∷ es) reached accepted there =
      let rest = rises_to_last (next s e) es (reached_next s e reached accepted.0) accepted.1 there.1 in
      let up = (least_rises s (e ∷ es) reached accepted there).0.0 in
      let more = rest.0 in
      (omega arith, rest)

  module _ (d : Claim) where
    gone_last : (s : LockState) (es : List Event) → IsReached s → AreAccepted s es → AllByRecursion (IsWriteThere c) (moments s es) → Gone d s.claims → Gone d (after s es).claims
    gone_last s [] reached accepted there gone = gone
    gone_last s (e ∷ es) reached accepted there gone = gone_last (next s e) es (reached_next s e reached accepted.0) accepted.1 there.1 (gone_on d s e reached accepted.0 there.0 there.1.0 gone)

    -- a claim that was satisfied as the least is so at the last moment, or was passed
    gone_here : (s : LockState) → IsReached s → IsWriteThere c s.claims → IsThatLeast d s.claims → (is_least c d s.claims && holds_at d s.claims) ≡ true → Gone d s.claims
    gone_here s reached there same h =
        let parts = and_parts (is_least c d s.claims) (holds_at d s.claims) h in
        let is = same parts.0 in
        let w = subst (λ (x : Claim). IsWriteThere x s.claims) is (least_there s reached c there) in
        done is (sat_holds s reached d w.write w.there parts.1)

    held_gone : (s : LockState) (es : List Event) → IsReached s → AreAccepted s es → AllByRecursion (IsWriteThere c) (moments s es) → AllByRecursion (IsThatLeast d) (moments s es)
        → list_any (λ m. is_least c d m && holds_at d m) (moments s es) ≡ true → Gone d (after s es).claims
    held_gone s [] reached accepted there same held = elim (or_cases (is_least c d s.claims && holds_at d s.claims) false held) [ inl h ↦ gone_here s reached there.0 same.0 h | inr h ↦ contrary false h refl ]
    held_gone s (e ∷ es) reached accepted there same held =
        let on = reached_next s e reached accepted.0 in
        elim (or_cases (is_least c d s.claims && holds_at d s.claims) (list_any (λ m. is_least c d m && holds_at d m) (moments (next s e) es)) held) [
          | inl h ↦ gone_last s (e ∷ es) reached accepted there (gone_here s reached there.0 same.0 h)
          | inr h ↦ held_gone (next s e) es on accepted.1 there.1 same.1 h
        ]

    -- if the claim is the least at the last moment, and was ever satisfied as the least, it is satisfied there
    pub held_now : (s : LockState) (es : List Event) → IsReached s → AreAccepted s es → AllByRecursion (IsWriteThere c) (moments s es) → AllByRecursion (IsThatLeast d) (moments s es) → least_of c (after s es).claims ≡ d
        → list_any (λ m. is_least c d m && holds_at d m) (moments s es) ≡ true → holds_at d (after s es).claims ≡ true
    held_now s es reached accepted there same is held = from_gone (held_gone s es reached accepted there same held)
      where
        from_gone : Gone d (after s es).claims → holds_at d (after s es).claims ≡ true
        from_gone (done h sat) = holds_sat d (after s es).claims sat
        from_gone (passed less) = let e = ap (λ (x : Claim). x.stamp) is in absurd (omega arith)

    -- once the claim is satisfied as the least, it is so wherever it is the least later
    gone_each : (s : LockState) (es : List Event) → IsReached s → AreAccepted s es → AllByRecursion (IsWriteThere c) (moments s es) → Gone d s.claims → AllByRecursion (Gone d) (moments s es)
    gone_each s [] reached accepted there gone = (gone, tt)
    gone_each s (e ∷ es) reached accepted there gone = (
      gone,
      gone_each (next s e) es (reached_next s e reached accepted.0) accepted.1 there.1 (gone_on d s e reached accepted.0 there.0 there.1.0 gone),
    )

    gone_holds : (m : Moment) → Gone d m → is_least c d m ≡ true → holds_at d m ≡ true
    gone_holds m (done is sat) least = holds_sat d m sat
    gone_holds m (passed less) least = let same = (are_one d (least_of c m) least).stamp in absurd (omega arith)

    pub stays_held : (s : LockState) (es : List Event) → IsReached s → AreAccepted s es → AllByRecursion (IsWriteThere c) (moments s es) → AllByRecursion (IsThatLeast d) (moments s es)
        → EachPair (λ m n. is_least c d m ≡ true → is_least c d n ≡ true → holds_at d m ≡ true → holds_at d n ≡ true) (moments s es)
    stays_held s [] reached accepted there same = (tt, tt)
    stays_held s (e ∷ es) reached accepted there same = (
      all_from (λ n. is_least c d s.claims ≡ true → is_least c d n ≡ true → holds_at d s.claims ≡ true → holds_at d n ≡ true) (moments (next s e) es) (λ n later first least holds.
          gone_holds n
          (all_at (Gone d) (moments s (e ∷ es)) n
          (gone_each s (e ∷ es) reached accepted there (gone_here s reached there.0 same.0 (and_from (is_least c d s.claims) (holds_at d s.claims) first holds))) (inr later)) least),
      stays_held (next s e) es (reached_next s e reached accepted.0) accepted.1 there.1 same.1,
    )
