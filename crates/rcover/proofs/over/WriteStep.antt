-- The sections of the closed periods of a write wait, once one more moment comes.
use Rattle.std.proofs.Common.{◌≡◌, ◌<◌, ◌≤◌, Bool, true, false, not, ◌&&◌, ◌||◌, cond, List, [], ◌∷◌, ◌++◌, filter, map, refl, sym, ap, subst, ◌∙◌, inl, inr, arith}
use Rattle.std.proofs.lemmas.Bool.{cases_order}
use Rattle.std.specs.List.{filter_map, AllByRecursion}
use Rattle.std.specs.Option.{option_to_list}
use Rattle.rclaim.specs.declared.claim.Claim.{Claim}
use Rattle.rclaim.specs.declared.event.Event.{Event}
use Rattle.rmodel.specs.Reached.{IsReached}
use Rattle.rmodel.specs.State.{LockState}
use Rattle.rmodel.specs.Steps.{next, after, Comes, AreAccepted}
use Rattle.rmodel.specs.WellFormed.{EachPair}
use Rattle.rmodel.proofs.ListFacts.{Among, contrary, false_from, all_at, any_among, none_from, among_behind, pairs_across}
use Rattle.rmodel.proofs.reaching.Came.{among_map, in_append}
use Rattle.rmodel.proofs.reaching.Reached.{reached_next, reached_after}
use Rattle.rmodel.proofs.reaching.Stamps.{OfOneSeat}
use Rattle.rmodel.proofs.settling.OneSettlement.{both_cases}
use Rattle.rcover_laws.specs.Line.{least_of, is_least, leasts, is_kept_least, kept_moments}
use Rattle.rcover_laws.specs.Moments.{Moment, moments, is_claim, holds_at}
use Rattle.rcover_laws.specs.Sections.{Sections, holder_of, different}
use Rattle.rcover_laws.specs.Lists.{reads_against, with_different}
use Rattle.rcover.specs.Shown.{write_shown, write_closed}
use Rattle.rcover.specs.Tracked.{taken_over, held_over, IsClosed, no_sections}
use Rattle.rcover_laws.specs.Waits.{WriteWaits}
use Rattle.rcover_laws.proofs.covers.WriteCover.{write_there, each_there, least_is_there}
use Rattle.rcover.proofs.over.WriteRun.{last_among, one_of_option, shown_reads, shown_writes}
use Rattle.rcover_laws.proofs.lists.Different.{among_different, are_different}
use Rattle.rcover_laws.proofs.lists.Found.{filter_no}
use Rattle.rcover_laws.proofs.runs.LineOverTime.{rises_to_last}
use Rattle.rcover_laws.proofs.runs.Moments.{are_one, is_other, holds_sat, sat_holds}
use Rattle.rcover_laws.proofs.runs.Push.{map_append, filter_append, filter_map_append, any_append, append_none, filter_map_same, filter_same, different_push}
use Rattle.rcover_laws.proofs.states.LeastOfLine.{IsWriteThere, write_by_stamp, of_line_there, least_there, line_shrinks}
use Rattle.rcover_laws.proofs.states.Lines.{least_is, least_below}
use Rattle.rcover_laws.proofs.states.ThroughEvent.{sat_next}

module _ (c : Claim) (s : LockState) (es : List Event) (reached : IsReached s) (accepted : AreAccepted s es) (seats : EachPair OfOneSeat s.claims) (waits : AllByRecursion (WriteWaits c) (moments s es))
    (event : Event) (comes : Comes (after s es) event) (waits' : WriteWaits c (next (after s es) event).claims) where
  abbrev ms : List Moment
  ms = moments s es

  abbrev now : LockState
  now = after s es

  abbrev m : Moment
  m = (after s es).claims

  abbrev n : Moment
  n = (next (after s es) event).claims

  abbrev e : Claim
  e = least_of c m

  abbrev f : Claim
  f = least_of c n

  at_now : IsReached now
  at_now = reached_after s es reached accepted

  at_next : IsReached (next now event)
  at_next = reached_next now event at_now comes

  there_now : IsWriteThere c m
  there_now = write_there c m (all_at (WriteWaits c) ms m waits (last_among s es))

  there_next : IsWriteThere c n
  there_next = write_there c n waits'

  -- the least does not fall
  not_below : e.stamp ≤ f.stamp
  not_below = least_below c m at_now.sound.well_formed.rising f (line_shrinks now at_now event comes c there_now f (least_is c n))

  -- if it is of the same stamp, it is the same claim
  same_least : is_claim e f ≡ true → e ≡ f
  same_least one = write_by_stamp now at_now e f (least_there now at_now c there_now) (of_line_there now at_now c there_now f (line_shrinks now at_now event comes c there_now f (least_is c n))) (are_one e f one).stamp

  rises : is_claim e f ≡ false → e.stamp < f.stamp
  rises other =
      let up = not_below in
      both_below (λ same. contrary (is_claim e f) (is_other e f (write_by_stamp now at_now e f (least_there now at_now c there_now)
      (of_line_there now at_now c there_now f (line_shrinks now at_now event comes c there_now f (least_is c n))) same)) other) up
    where
      both_below : (e.stamp ≡ f.stamp → ⊥) → e.stamp ≤ f.stamp → e.stamp < f.stamp
      both_below apart up = elim (cases_order e.stamp f.stamp) [ inl same ↦ absurd (apart same) | inr (inl less) ↦ less | inr (inr more) ↦ absurd (omega arith) ]

  -- ---- the least claims so far

  not_above : (d : Claim) → Among d (leasts c ms) → d.stamp ≤ e.stamp
  not_above d there =
      let found = among_map (least_of c) ms d (among_different (map (least_of c) ms) d there) in
      let up = all_at (λ m. (least_of c m).stamp ≤ e.stamp) ms found.0 (rises_to_last c s es reached accepted (each_there c s es reached accepted waits)) found.1 in
      let same = ap (λ (x : Claim). x.stamp) found.2 in omega arith

  -- a claim of a smaller stamp than the new least is not the least then
  not_least : (d : Claim) → d.stamp < f.stamp → is_least c d n ≡ false
  not_least d less = false_from (is_least c d n) (λ h. let same = (are_one d f h).stamp in omega arith)

  abbrev ms' : List Moment
  ms' = ms ++ n ∷ []

  -- what is not kept waiting as the least at the new moment keeps its read
  taken_same : (d : Claim) → is_kept_least c d n ≡ false → taken_over c ms' d ≡ taken_over c ms d
  taken_same d off =
      ap (holder_of (reads_against d)) (filter_append (is_kept_least c d) ms (n ∷ []) ∙ ap (λ b. kept_moments c d ms ++ cond b (n ∷ []) []) off ∙ append_none (kept_moments c d ms))

  held_same : (d : Claim) → is_least c d n ≡ false → held_over c ms' d ≡ held_over c ms d
  held_same d off = any_append (λ m. is_least c d m && holds_at d m) ms n ∙ ap (λ b. held_over c ms d || (b && holds_at d n)) off ∙ or_false (held_over c ms d)
    where
      or_false : (b : Bool) → (b || (false && holds_at d n)) ≡ b
      or_false true = refl
      or_false false = refl

  kept_off : (d : Claim) → is_least c d n ≡ false → is_kept_least c d n ≡ false
  kept_off d off = ap (λ b. b && not (holds_at d n)) off

  leasts_push : leasts c ms' ≡ with_different (leasts c ms) f
  leasts_push = ap different (map_append (least_of c) ms (n ∷ [])) ∙ different_push (map (least_of c) ms) f

  module _ (a : Sections) (k : IsClosed c ms m a) where
    in_leasts : (d : Claim) → Among d (k.before ++ e ∷ []) → Among d (leasts c ms)
    in_leasts d there = subst (λ (ds : List Claim). Among d ds) (sym k.leasts_are) there

    -- those before the last are of smaller stamp
    below : (d : Claim) → Among d k.before → d.stamp < e.stamp
    below d there =
        let in_d = in_leasts d (in_append k.before (e ∷ []) d there) in
        let in_e = in_leasts e (among_behind k.before (e ∷ []) e (inl refl)) in
        let other : is_claim d e ≡ false =
        pairs_across (λ d e. is_claim d e ≡ false) (e ∷ []) k.before d e (subst (λ (ds : List Claim). EachPair (λ d e. is_claim d e ≡ false) ds) k.leasts_are (are_different (map (least_of c) ms))) there (inl refl) in
        elim (cases_order d.stamp e.stamp) [
          | inl same ↦ contrary (is_claim d e) (is_other d e (write_by_stamp s reached d e (least_is_there c s es reached accepted waits d in_d) (least_is_there c s es reached accepted waits e in_e) same)) other
          | inr (inl less) ↦ less
          | inr (inr more) ↦ (let up = not_above d in_d in absurd (omega arith))
        ]

    taken_before : filter_map (taken_over c ms') k.before ≡ filter_map (taken_over c ms) k.before
    taken_before =
        filter_map_same (taken_over c ms') (taken_over c ms) k.before (λ d there. let less = below d there in let up = not_below in taken_same d (kept_off d (not_least d (omega arith))))

    held_before : filter (held_over c ms') k.before ≡ filter (held_over c ms) k.before
    held_before = filter_same (held_over c ms') (held_over c ms) k.before (λ d there. let less = below d there in let up = not_below in held_same d (not_least d (omega arith)))

    shown_are : (write_shown e a m).reads ≡ different (filter_map (taken_over c ms) k.before ++ option_to_list (taken_over c ms e))
    shown_are = shown_reads c s es reached accepted seats waits a k

    -- ---- the least is the same

    module _ (one : is_claim e f ≡ true) where
      held_on : holds_at f n ≡ false → holds_at e m ≡ false
      held_on off = false_from (holds_at e m) (λ on.
          let l = least_there now at_now c there_now in
          let l' = subst (λ (x : Claim). IsWriteThere x n) (sym (same_least one)) (least_there (next now event) at_next c there_next) in
          let sat = sat_next now event at_now comes e (sat_holds now at_now e l.write l.there on) l'.there in
          contrary (holds_at f n) (ap (λ x. holds_at x n) (sym (same_least one)) ∙ holds_sat e n sat) off)

      reads_one : (b : Bool) → holds_at f n ≡ b → cond (is_claim e f && not b) a.reads (write_shown e a m).reads ≡ different (filter_map (taken_over c ms') k.before ++ cond b (option_to_list (taken_over c ms' f)) [])
      reads_one true on =
          ap (λ b. cond (b && false) a.reads (write_shown e a m).reads) one ∙ shown_are
          ∙ (λ i. different (sym taken_before i ++ option_to_list (same i)))
        where
          off : is_kept_least c f n ≡ false
          off = ap (λ b. is_least c f n && not b) on ∙ never (is_least c f n)
            where
              never : (b : Bool) → (b && false) ≡ false
              never true = refl
              never false = refl

          same : taken_over c ms e ≡ taken_over c ms' f
          same = ap (taken_over c ms) (same_least one) ∙ sym (taken_same f off)
      reads_one false off =
          ap (λ b. cond (b && true) a.reads (write_shown e a m).reads) one ∙ k.reads_are
          ∙ (λ i. different (sym taken_before i ++ cond (held_on off i) (option_to_list (taken_over c ms e)) []))

      closed_one : IsClosed c ms' n (write_closed e a m f n)
      closed_one = record {
        before = k.before;
        leasts_are = leasts_push
            ∙ ap (λ b. cond b (leasts c ms) (leasts c ms ++ f ∷ [])) (any_among (λ d. is_claim d f) (leasts c ms) e (in_leasts e (among_behind k.before (e ∷ []) e (inl refl))) one)
            ∙ k.leasts_are ∙ ap (λ x. k.before ++ x ∷ []) (same_least one);
        reads_are = reads_one (holds_at f n) refl;
        writes_are = ap (λ b. cond b a.writes (write_shown e a m).writes) one ∙ k.writes_are ∙ sym held_before;
      }

    -- ---- the least is a new one

    module _ (new : is_claim e f ≡ false) where
      e_off : is_least c e n ≡ false
      e_off = not_least e (rises new)

      none_kept : (ns : List Moment) → AllByRecursion (λ m. (least_of c m).stamp ≤ e.stamp) ns → kept_moments c f ns ≡ []
      none_kept [] all = refl
      none_kept (m' ∷ ns) all =
          filter_no (is_kept_least c f) m' ns
          (ap (λ b. b && not (holds_at f m')) (false_from (is_least c f m') (λ h. let same = (are_one f (least_of c m') h).stamp in let up = all.0 in let less = rises new in omega arith)))
          ∙ none_kept ns all.1

      -- no read is taken yet for the new least if it is satisfied
      none_taken : (b : Bool) → holds_at f n ≡ b → cond b (option_to_list (taken_over c ms' f)) [] ≡ []
      none_taken false off = refl
      none_taken true on =
          ap (λ ds. option_to_list (holder_of (reads_against f) ds))
          (filter_append (is_kept_least c f) ms (n ∷ [])
          ∙ (λ i. none_kept ms (rises_to_last c s es reached accepted (each_there c s es reached accepted waits)) i ++ cond (is_least c f n && not (on i)) (n ∷ []) [])
          ∙ ap (λ b. cond b (n ∷ []) []) (never (is_least c f n)))
        where
          never : (b : Bool) → (b && false) ≡ false
          never true = refl
          never false = refl

      reads_new : cond (is_claim e f && not (holds_at f n)) a.reads (write_shown e a m).reads
          ≡ different (filter_map (taken_over c ms') (k.before ++ e ∷ []) ++ cond (holds_at f n) (option_to_list (taken_over c ms' f)) [])
      reads_new =
          ap (λ b. cond (b && not (holds_at f n)) a.reads (write_shown e a m).reads) new ∙ shown_are
          ∙ ap different (
          (λ i. sym taken_before i ++ option_to_list (sym (taken_same e (kept_off e e_off)) i))
          ∙ ap (λ ys. filter_map (taken_over c ms') k.before ++ ys) (sym (one_of_option (taken_over c ms' e)))
          ∙ sym (filter_map_append (taken_over c ms') k.before (e ∷ []))
          ∙ sym (append_none (filter_map (taken_over c ms') (k.before ++ e ∷ [])))
          ∙ ap (λ ys. filter_map (taken_over c ms') (k.before ++ e ∷ []) ++ ys) (sym (none_taken (holds_at f n) refl)))

      writes_new : cond (is_claim e f) a.writes (write_shown e a m).writes ≡ filter (held_over c ms') (k.before ++ e ∷ [])
      writes_new =
          ap (λ b. cond b a.writes (write_shown e a m).writes) new ∙ shown_writes c s es reached accepted seats waits a k
          ∙ filter_same (held_over c ms) (held_over c ms') (k.before ++ e ∷ []) (λ d there.
          let up = not_above d (in_leasts d there) in let less = rises new in sym (held_same d (not_least d (omega arith))))

      closed_new : IsClosed c ms' n (write_closed e a m f n)
      closed_new = record {
        before = k.before ++ e ∷ [];
        leasts_are = leasts_push
            ∙ ap (λ b. cond b (leasts c ms) (leasts c ms ++ f ∷ []))
            (none_from (λ d. is_claim d f) (leasts c ms) (λ d there. false_from (is_claim d f) (λ h. let same = (are_one d f h).stamp in let up = not_above d there in let less = rises new in omega arith)))
            ∙ ap (λ ds. ds ++ f ∷ []) k.leasts_are;
        reads_are = reads_new;
        writes_are = writes_new;
      }

    pub closed_next : IsClosed c (ms ++ n ∷ []) n (write_closed e a m f n)
    closed_next = both_cases (is_claim e f) closed_one closed_new

-- ---- the first moment

pub closed_first : (c : Claim) (m : Moment) → IsClosed c (m ∷ []) m no_sections
closed_first c m = record {
  before = [];
  leasts_are = refl;
  reads_are = by_case (holds_at (least_of c m) m) refl;
  writes_are = refl;
}
  where
    never : (b : Bool) → (b && false) ≡ false
    never true = refl
    never false = refl

    by_case : (b : Bool) → holds_at (least_of c m) m ≡ b → [] ≡ different (cond b (option_to_list (taken_over c (m ∷ []) (least_of c m))) [])
    by_case false off = refl
    by_case true on =
        sym (ap (λ ds. different (option_to_list (holder_of (reads_against (least_of c m)) ds))) (filter_no (is_kept_least c (least_of c m)) m [] (ap (λ b. is_least c (least_of c m) m && not b) on ∙ never (is_least c (least_of c m) m))))
