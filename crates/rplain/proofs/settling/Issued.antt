-- An issue leaves the claims that were there as they are: the new claims come after settled ones.
use Rattle.std.proofs.Common.{◌≡◌, Bool, true, false, not, ◌&&◌, ◌||◌, cond, List, [], ◌∷◌, ◌++◌, map, refl, sym, ap, subst, ◌∙◌, append_assoc, append-nil, inl, inr}
use Rattle.std.proofs.lemmas.Bool.{true≢false, or_left, and_parts, and_from}
use Rattle.std.proofs.lemmas.List.{map-append}
use Rattle.std.proofs.lemmas.List.Folds.{list_any-append, list_all-append}
use Rattle.std.specs.List.{list_any, AllByRecursion}
use Rattle.std.specs.FinSet.{empty, union}
use Rattle.rset.specs.Sets.{Set, meets}
use Rattle.rclaim.specs.declared.claim.Claim.{Claim}
use Rattle.rclaim.specs.declared.claim.Status.{Status}
use Rattle.rclaim.specs.declared.claim.Status.TheVariants.{Waiting, Entitled, Satisfied}
use Rattle.rmodel.specs.declared.claimed.Claimed.{Claimed}
use Rattle.rmodel.specs.Claims.{conflicts, conflicts_on, share_place, is_satisfied, is_active, satisfied_by, active_by}
use Rattle.rmodel.specs.Laws.{keeps_out}
use Rattle.rmodel.specs.Rules.{is_earlier_write, is_kept_out, has_read_between, may_enter, is_held_up, is_kept, SettlesAt, Settles}
use Rattle.rmodel.specs.Settling.{with_status, written_by_active, written_by_satisfied, has_way, entered_status, write_status, settle_reads, settle_rest}
use Rattle.rmodel.specs.Steps.{is_kept_from, gets_asked, with_asked, given}
use Rattle.rmodel.specs.WellFormed.{EachPair, IsClaim, AreExclusive, AreAdmittedBy}
use Rattle.rmodel.proofs.settling.Giving.{asks_nothing}
use Rattle.rmodel.proofs.ListFacts.{Among, pairs_across, contrary, false_from, none_from, passing, all_at, all_from, all_append, all_of_itself, map_same, all_weaker}
use Rattle.rmodel.proofs.settling.OneWrite.{one_keeps}
use Rattle.rmodel.proofs.settling.Settlement.{ReadsOnly, first_pass, third_pass, third_write, kept_out_is, kept_is, has_way_is}
use Rattle.rmodel.proofs.reaching.Soundness.{active_of_satisfied}

-- ---- what was there, with more claims after it

module _ (xs ns : List Claimed) (c : Claim) where
  kept_out_more : is_kept_out xs c ≡ true → is_kept_out (xs ++ ns) c ≡ true
  kept_out_more h = list_any-append _ xs ns ∙ or_left (is_kept_out xs c) _ h

  held_up_more : is_held_up xs c ≡ true → is_held_up (xs ++ ns) c ≡ true
  held_up_more h = list_any-append _ xs ns ∙ or_left (is_held_up xs c) _ h

  read_between_more : (v : Claim) → has_read_between xs v c ≡ true → has_read_between (xs ++ ns) v c ≡ true
  read_between_more v h = list_any-append _ xs ns ∙ or_left (has_read_between xs v c) _ h

  enters_less : may_enter (xs ++ ns) c ≡ true → may_enter xs c ≡ true
  enters_less h =
      all_weaker _ _
      (λ v. way_less (is_earlier_write c v.claim && share_place v.claim c) (is_satisfied v) (meets v.claim.writes c.places) (has_read_between xs v.claim c) (has_read_between (xs ++ ns) v.claim c) (read_between_more v.claim))
      xs (and_parts _ _ (sym (list_all-append _ xs ns) ∙ h)).0
    where
      way_less : (e s m r more : Bool) → (r ≡ true → more ≡ true) → (not e || (s && not m && not more)) ≡ true → (not e || (s && not m && not r)) ≡ true
      way_less false s m r more up h = refl
      way_less true false m r more up h = h
      way_less true true true r more up h = h
      way_less true true false false more up h = refl
      way_less true true false true more up h = ap not (sym (up refl)) ∙ h

-- ---- each pass leaves a settled claim as it is

first_left : (w m out : Bool) (a : Status) → (w ≡ false → satisfied_by a ≡ (satisfied_by a || not out)) → (w ≡ false → out ≡ true → m ≡ true) → cond (not w && not m) Satisfied a ≡ a
first_left true m out a sat up = refl
first_left false true out a sat up = refl
first_left false false out Satisfied sat up = refl
first_left false false true Waiting sat up = absurd (true≢false (sym (up refl refl)))
first_left false false false Waiting sat up = absurd (true≢false (sym (sat refl)))
first_left false false true Entitled sat up = absurd (true≢false (sym (up refl refl)))
first_left false false false Entitled sat up = absurd (true≢false (sym (sat refl)))

second_left : (w e h may held : Bool) (a : Status) → (w ≡ true → active_by a ≡ (active_by a || may)) → (w ≡ true → satisfied_by a ≡ (satisfied_by a || (active_by a && not held)))
    → (e ≡ true → may ≡ true) → (held ≡ true → h ≡ true) → cond (not w || satisfied_by a) a (entered_status (active_by a || e) h) ≡ a
second_left false e h may held a act sat less more = refl
second_left true e h may held Satisfied act sat less more = refl
second_left true false h may held Waiting act sat less more = refl
second_left true true h may held Waiting act sat less more = absurd (true≢false (sym (act refl ∙ less refl)))
second_left true e true may held Entitled act sat less more = refl
second_left true e false may true Entitled act sat less more = absurd (true≢false (sym (more refl)))
second_left true e false may false Entitled act sat less more = absurd (true≢false (sym (sat refl)))

third_left : (w m : Bool) (a : Status) → (w ≡ false → satisfied_by a ≡ false → m ≡ active_by a) → cond (w || satisfied_by a) a (cond m Entitled Waiting) ≡ a
third_left true m a same = refl
third_left false m Satisfied same = refl
third_left false true Waiting same = absurd (true≢false (same refl refl))
third_left false false Waiting same = refl
third_left false true Entitled same = refl
third_left false false Entitled same = absurd (true≢false (sym (same refl refl)))

-- the second pass over claims that it leaves as they are
rest_left : (done rest ns : List Claimed) → AllByRecursion (λ x. write_status ((done ++ rest) ++ ns) x ≡ x.status) rest → settle_rest done (rest ++ ns) ≡ rest ++ settle_rest (done ++ rest) ns
unfolding settle_rest
rest_left done [] ns left = ap (λ d. settle_rest d ns) (sym (append-nil done))
rest_left done (x ∷ rest) ns left =
    let same : with_status x (write_status (done ++ (x ∷ (rest ++ ns))) x) ≡ x = ap (λ zs. with_status x (write_status zs x)) (sym (append_assoc done (x ∷ rest) ns)) ∙ ap (with_status x) left.0 in
    let later = subst (λ (zs : List Claimed). AllByRecursion (λ z. write_status (zs ++ ns) z ≡ z.status) rest) (sym (append_assoc done (x ∷ []) rest)) left.1 in
    ap (λ y. y ∷ settle_rest (done ++ y ∷ []) (rest ++ ns)) same
    ∙ ap (λ r. x ∷ r) (rest_left (done ++ x ∷ []) rest ns later ∙ ap (λ d. rest ++ settle_rest d ns) (append_assoc done (x ∷ []) rest))

-- two elements, one from each of two lists that follow one another
among_map : {X Y : Type 0} (f : X → Y) (xs : List X) (x : X) → Among x xs → Among (f x) (map f xs)
among_map f [] x there = absurd there
among_map f (y ∷ ys) x (inl same) = inl (ap f same)
among_map f (y ∷ ys) x (inr later) = inr (among_map f ys x later)

among_front : {X : Type 0} (xs ys : List X) (x : X) → Among x xs → Among x (xs ++ ys)
among_front [] ys x there = absurd there
among_front (y ∷ xs) ys x (inl same) = inl same
among_front (y ∷ xs) ys x (inr later) = inr (among_front xs ys x later)

module _ (xs : List Claimed) (stable : Settles xs xs) (are : AllByRecursion (λ x. IsClaim x.claim) xs) where
  -- the rules at each claim
  by_rule : (x : Claimed) → Among x xs → SettlesAt xs xs x x
  by_rule x there = all_at (λ x. SettlesAt xs xs x x) xs x (all_of_itself (SettlesAt xs xs) xs stable) there

  is_claim : (x : Claimed) → Among x xs → IsClaim x.claim
  is_claim x there = all_at (λ x. IsClaim x.claim) xs x are there

  pub first_stays : (ns : List Claimed) → settle_reads (xs ++ ns) ≡ xs ++ map (first_pass (written_by_active (xs ++ ns))) ns
  unfolding settle_reads
  first_stays ns =
      let busy = written_by_active (xs ++ ns) in
      map-append (first_pass busy) xs ns
      ∙ ap (λ ys. ys ++ map (first_pass busy) ns) (map_same (first_pass busy) xs (all_from (λ x. first_pass busy x ≡ x) xs (λ x there.
      ap (with_status x) (first_left x.claim.write_half (meets busy x.claim.reads) (is_kept_out xs x.claim) x.status (by_rule x there).reads
      (λ r out. kept_out_is (xs ++ ns) x.claim ((is_claim x there).read_only r) ∙ kept_out_more xs ns x.claim out)))))

  pub second_stays : (ns : List Claimed) → AllByRecursion ReadsOnly ns → settle_rest [] (xs ++ ns) ≡ xs ++ settle_rest xs ns
  unfolding write_status
  second_stays ns only =
      rest_left [] xs ns (all_from (λ x. write_status (xs ++ ns) x ≡ x.status) xs (λ x there.
      let at = by_rule x there in
      second_left x.claim.write_half (has_way (xs ++ ns) x.claim) (is_held_up (xs ++ ns) x.claim) (may_enter xs x.claim) (is_held_up xs x.claim) x.status at.entitlement at.satisfaction
      (λ e. enters_less xs ns x.claim (sym (has_way_is (xs ++ ns) x.claim all_only) ∙ e)) (held_up_more xs ns x.claim)))
    where
      all_only : AllByRecursion ReadsOnly (xs ++ ns)
      all_only = all_append ReadsOnly xs ns (all_from ReadsOnly xs (λ x there. (is_claim x there).read_only)) only

  -- where the outcome is exclusive and admitted, no satisfied write among the new claims conflicts with a read that is already kept out
  module _ (groups : List Set) (ns : List Claimed) (busy : Set)
      (exclusive : AreExclusive (map (third_pass busy) (xs ++ ns))) (admitted : AreAdmittedBy groups (map (third_pass busy) (xs ++ ns))) where
    keeps : (c : Claim) (v : Claimed) → keeps_out c v ≡ true → keeps_out c (third_pass busy v) ≡ true
    keeps c v h =
        let first = and_parts v.claim.write_half (is_active v) (and_parts (v.claim.write_half && is_active v) (conflicts v.claim c) h).0 in
        ap (λ a. v.claim.write_half && active_by a && conflicts v.claim c) (third_write v.claim.write_half (meets busy v.claim.reads) v.status first.0) ∙ h

    pub kept_alike : (r : Claimed) → Among r (xs ++ ns) → r.claim.write_half ≡ false → is_kept_out xs r.claim ≡ true → is_kept (xs ++ ns) r.claim ≡ is_kept xs r.claim
    kept_alike r there is_read out =
        let g = third_pass busy in
        let v = passing (keeps_out r.claim) xs out in
        let pairs = subst (λ (ys : List Claimed). EachPair (λ v w. keeps_out r.claim v ≡ true → keeps_out r.claim w ≡ false) ys) (map-append g xs ns)
        (one_keeps groups (map g (xs ++ ns)) exclusive admitted (g r) (among_map g (xs ++ ns) r there) is_read) in
        let none : list_any (λ u. u.claim.write_half && is_satisfied u && conflicts u.claim r.claim) ns ≡ false
        = none_from _ ns (λ u in_ns. false_from _ (λ h.
        let parts = and_parts (u.claim.write_half && is_satisfied u) (conflicts u.claim r.claim) h in
        let first = and_parts u.claim.write_half (is_satisfied u) parts.0 in
        contrary (keeps_out r.claim (g u))
        (keeps r.claim u (and_from (u.claim.write_half && is_active u) (conflicts u.claim r.claim) (and_from u.claim.write_half (is_active u) first.0 (active_of_satisfied u.status first.1)) parts.1))
        (pairs_across _ (map g ns) (map g xs) (g v.0) (g u) pairs (among_map g xs v.0 v.1) (among_map g ns u in_ns) (keeps r.claim v.0 v.2)))) in
        list_any-append _ xs ns ∙ ap (λ b. is_kept xs r.claim || b) none ∙ or_none (is_kept xs r.claim)
      where
        or_none : (b : Bool) → (b || false) ≡ b
        or_none true = refl
        or_none false = refl

    pub third_stays : busy ≡ written_by_satisfied (xs ++ ns) → map (third_pass busy) (xs ++ ns) ≡ xs ++ map (third_pass busy) ns
    third_stays is =
        map-append (third_pass busy) xs ns
        ∙ ap (λ ys. ys ++ map (third_pass busy) ns) (map_same (third_pass busy) xs (all_from (λ x. third_pass busy x ≡ x) xs (λ x there.
        ap (with_status x) (third_left x.claim.write_half (meets busy x.claim.reads) x.status (λ r unsat.
        let at = by_rule x there in
        let out : is_kept_out xs x.claim ≡ true = must_be (is_satisfied x) (is_kept_out xs x.claim) (at.reads r) unsat in
        ap (λ s. meets s x.claim.reads) is ∙ kept_is (xs ++ ns) x.claim ((is_claim x there).read_only r) ∙ kept_alike x (among_front xs ns x there) r out
        ∙ ap (λ b. b || is_kept xs x.claim) (sym unsat) ∙ sym (at.kept_reads r))))))
      where
        must_be : (s out : Bool) → s ≡ (s || not out) → s ≡ false → out ≡ true
        must_be s true h unsat = refl
        must_be true false h unsat = absurd (true≢false unsat)
        must_be false false h unsat = absurd (true≢false (sym h))

-- ---- what is granted

-- what a claim did not get, it does not get with more claims after it
asked_left : (xs ns : List Claimed) (x : Claimed) → with_asked xs x ≡ x → with_asked (xs ++ ns) x ≡ x
asked_left xs ns x same = at (gets_asked xs x) refl
  where
    both : (s a k more : Bool) → (s || (a && not k)) ≡ false → (s || (a && not (k || more))) ≡ false
    both true a k more h = h
    both false false k more h = h
    both false true true more h = refl
    both false true false more h = absurd (true≢false h)

    at : (b : Bool) → gets_asked xs x ≡ b → with_asked (xs ++ ns) x ≡ x
    at true gets = asks_nothing (xs ++ ns) x (sym (ap (λ y. y.asked) (ap (λ b. cond b (record x { asked = empty; granted = union x.granted x.asked }) x) (sym gets) ∙ same)))
    at false gets =
        ap (λ b. cond b (record x { asked = empty; granted = union x.granted x.asked }) x)
        (ap (λ k. is_satisfied x || (is_active x && not k)) (list_any-append (λ v. is_satisfied v && conflicts_on v.claim x.claim x.asked) xs ns)
        ∙ both (is_satisfied x) (is_active x) (is_kept_from xs x.claim x.asked) _ gets)

pub given_stays : (xs ns : List Claimed) → given xs ≡ xs → given (xs ++ ns) ≡ xs ++ map (with_asked (xs ++ ns)) ns
unfolding given
given_stays xs ns rest =
    map-append (with_asked (xs ++ ns)) xs ns
    ∙ ap (λ ys. ys ++ map (with_asked (xs ++ ns)) ns) (left xs (same xs rest))
  where
    same : (ys : List Claimed) → map (with_asked xs) ys ≡ ys → AllByRecursion (λ x. with_asked xs x ≡ x) ys
    same [] e = tt
    same (y ∷ ys) e = (cc e, same ys (cc e))

    left : (ys : List Claimed) → AllByRecursion (λ x. with_asked xs x ≡ x) ys → map (with_asked (xs ++ ns)) ys ≡ ys
    left [] all = refl
    left (y ∷ ys) all = (λ i. asked_left xs ns y all.0 i ∷ left ys all.1 i)
