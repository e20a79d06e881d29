-- An issue: its claims are settled after those that were there, and their changes are reported.
use Rattle.std.proofs.Common.{◌≡◌, ℕ, Bool, true, false, not, ◌&&◌, ◌||◌, cond, List, [], ◌∷◌, ◌++◌, map, fold, inl, refl, sym, ap, subst, ◌∙◌, append_assoc, append-nil}
use Rattle.std.proofs.lemmas.Bool.{true≢false}
use Rattle.std.proofs.lemmas.List.Folds.{list_any-append}
use Rattle.std.proofs.lemmas.List.Sums.{fold-append}
use Rattle.std.specs.List.{AllZip, AllByRecursion}
use Rattle.std.specs.FinSet.{empty, union}
use Rattle.std.specs.Option.{option_to_list}
use Rattle.rset.specs.Sets.{Set, meets}
use Rattle.rclaim.specs.Changes.{ChangeLists, no_changes}
use Rattle.rclaim.specs.Requests.{RequestFields, FitsFirst}
use Rattle.rclaim.specs.declared.claim.Status.{Status}
use Rattle.rclaim.specs.declared.claim.Status.TheVariants.{Waiting, Entitled, Satisfied}
use Rattle.rclaim.specs.declared.event.Event.TheVariants.{Issue}
use Rattle.rclaim.specs.declared.request.Kind.{Kind}
use Rattle.rclaim.specs.declared.request.Kind.TheVariants.{Read, Write, Mixed, Upgrade, Nested}
use Rattle.rmodel.specs.declared.claimed.Claimed.{Claimed}
use Rattle.rmodel.specs.Changes.{status_change, grant_change, status_changes, grant_changes, with_change}
use Rattle.rmodel.specs.Claims.{claims_by, claims_of, conflicts_on, is_satisfied, is_active, satisfied_by, active_by, waiting}
use Rattle.rplain.specs.NewClaim.{seen_of, new_read_status, new_write_status, new_status, new_claim, settled_behind, told_behind}
use Rattle.rmodel.specs.Reached.{IsReached}
use Rattle.rmodel.specs.Rules.{is_held_up, Settles}
use Rattle.rmodel.specs.Settling.{with_status, has_way, written_by_active, written_by_satisfied, entered, entered_status, write_status, settle_rest, settle_kept, settled}
use Rattle.rmodel.specs.State.{LockState}
use Rattle.rmodel.specs.Steps.{Comes, changed, is_kept_from, with_asked, given}
use Rattle.rmodel.specs.WellFormed.{IsClaim, AreWellFormed, AreExclusive, AreAdmittedBy}
use Rattle.rmodel.proofs.settling.Admitted.{admitted_changed, admitted_settled}
use Rattle.rmodel.proofs.settling.Alike.{SameSatisfied, may_enter_alike, is_held_up_alike, same_satisfied_alike}
use Rattle.rplain.proofs.settling.Barred.{front}
use Rattle.rplain.proofs.settling.ChangeSteps.{no_change}
use Rattle.rmodel.proofs.settling.Giving.{asks_nothing}
use Rattle.rplain.proofs.settling.Issued.{kept_alike, first_stays, second_stays, third_stays, given_stays}
use Rattle.rmodel.proofs.settling.Keeping.{exclusive_settled}
use Rattle.rmodel.proofs.ListFacts.{all_at, all_from, all_append, all_map, behind, among_behind, zip_same, zip_append}
use Rattle.rplain.proofs.settling.NewSettled.{active_seen, kept_seen, new_write_is}
use Rattle.rmodel.proofs.reaching.Reached.{entered_changed, apart_changed}
use Rattle.rmodel.proofs.settling.Settlement.{ReadsOnly, first_pass, third_pass, third_write, third_satisfied, kept_out_is, kept_is, has_way_is, settles_settled}
use Rattle.rmodel.proofs.settling.OneSettlement.{both_cases}
use Rattle.rmodel.proofs.reaching.Soundness.{SameClaim, same_claims_well_formed, sound_changed}

second_read : (w e h : Bool) (a : Status) → w ≡ false → cond (not w || satisfied_by a) a (entered_status (active_by a || e) h) ≡ a
second_read true e h a is = absurd (true≢false is)
second_read false e h a is = refl

-- the second pass leaves each read as it is
read_is_left : (xs : List Claimed) (x : Claimed) → x.claim.write_half ≡ false → write_status xs x ≡ x.status
unfolding write_status
read_is_left xs x r = second_read x.claim.write_half (has_way xs x.claim) (is_held_up xs x.claim) x.status r

-- new claims come after settled ones, in a state that accepted events lead to
record IsBehind (groups : List Set) (xs ns : List Claimed) : Type 0 where
  stable : Settles xs xs
  at_rest : given xs ≡ xs
  well_formed : AreWellFormed (xs ++ ns)
  exclusive : AreExclusive (settled (xs ++ ns))
  admitted : AreAdmittedBy groups (settled (xs ++ ns))

module _ (groups : List Set) (xs ns : List Claimed) (b : IsBehind groups xs ns) where
  are : AllByRecursion (λ x. IsClaim x.claim) xs
  are = front xs ns b.well_formed.claims

  -- the new claims after the first and the second pass
  abbrev firsts : List Claimed
  firsts = map (first_pass (written_by_active (xs ++ ns))) ns

  abbrev seconds : List Claimed
  seconds = settle_rest xs firsts

  only : AllByRecursion ReadsOnly firsts
  only = all_map (first_pass (written_by_active (xs ++ ns))) ReadsOnly ns (λ x there. (all_at (λ x. IsClaim x.claim) ns x (behind (λ x. IsClaim x.claim) xs ns b.well_formed.claims) there).read_only)

  two_passes : settled (xs ++ ns) ≡ map (third_pass (written_by_satisfied (xs ++ seconds))) (xs ++ seconds)
  unfolding settled settle_kept
  two_passes = ap (λ ys. settle_kept (settle_rest [] ys)) (first_stays xs b.stable are ns) ∙ ap settle_kept (second_stays xs b.stable are firsts only)

  three_passes : settled (xs ++ ns) ≡ xs ++ map (third_pass (written_by_satisfied (xs ++ seconds))) seconds
  three_passes =
      two_passes
      ∙ third_stays xs b.stable are groups seconds (written_by_satisfied (xs ++ seconds)) (subst AreExclusive two_passes b.exclusive) (subst (AreAdmittedBy groups) two_passes b.admitted) refl

-- one new claim

-- it gets what it asks for, whether or not it is in the list itself
asked_behind : (xs : List Claimed) (z : Claimed) → with_asked (xs ++ z ∷ []) z ≡ with_asked xs z
asked_behind xs z =
    ap (λ b. cond b (record z { asked = empty; granted = union z.granted z.asked }) z)
    (ap (λ k. is_satisfied z || (is_active z && not k)) (list_any-append (λ v. is_satisfied v && conflicts_on v.claim z.claim z.asked) xs (z ∷ []))
    ∙ at (is_satisfied z) (is_active z) (is_kept_from xs z.claim z.asked) (conflicts_on z.claim z.claim z.asked))
  where
    at : (s a k c : Bool) → (s || (a && not (k || ((s && c) || false)))) ≡ (s || (a && not k))
    at true a k c = refl
    at false true true c = refl
    at false true false c = refl
    at false false k c = refl

read_told : (w a k : Bool) (st other : Status) → w ≡ false → st ≡ Waiting
    → (let y = cond (not w && not a) Satisfied st in cond (w || satisfied_by y) y (cond k Entitled Waiting)) ≡ cond w other (cond a (cond k Entitled Waiting) Satisfied)
read_told true a k st other r waits = absurd (true≢false r)
read_told false true k Waiting other r waits = refl
read_told false true k Satisfied other r waits = absurd (true≢false (ap satisfied_by waits))
read_told false true k Entitled other r waits = refl
read_told false false k st other r waits = refl

module _ (xs : List Claimed) (y : Claimed) (read : y.claim.write_half ≡ false) where
  active_same : written_by_active (xs ++ y ∷ []) ≡ written_by_active xs
  unfolding written_by_active
  active_same = fold-append _ empty xs (y ∷ []) ∙ ap (λ w. cond (w && is_active y) (union (written_by_active xs) y.claim.writes) (written_by_active xs)) read

  kept_same : written_by_satisfied (xs ++ y ∷ []) ≡ written_by_satisfied xs
  unfolding written_by_satisfied
  kept_same = fold-append _ empty xs (y ∷ []) ∙ ap (λ w. cond (w && is_satisfied y) (union (written_by_satisfied xs) y.claim.writes) (written_by_satisfied xs)) read

module _ (groups : List Set) (xs : List Claimed) (x : Claimed) (b : IsBehind groups xs (x ∷ [])) (waits : x.status ≡ Waiting) where
  -- settled, after the others
  abbrev result : Claimed
  result = with_status x (new_status xs (seen_of xs) x)

  ends : map (third_pass (written_by_satisfied (xs ++ seconds groups xs (x ∷ []) b))) (seconds groups xs (x ∷ []) b) ≡ result ∷ [] → given (settled (xs ++ x ∷ [])) ≡ settled_behind xs (x ∷ [])
  unfolding new_claim
  ends is =
      ap given (three_passes groups xs (x ∷ []) b ∙ ap (λ zs. xs ++ zs) is)
      ∙ given_stays xs (result ∷ []) b.at_rest
      ∙ ap (λ z. xs ++ z ∷ []) (asked_behind xs result)

  of_read : x.claim.write_half ≡ false → map (third_pass (written_by_satisfied (xs ++ seconds groups xs (x ∷ []) b))) (seconds groups xs (x ∷ []) b) ≡ result ∷ []
  unfolding settle_rest
  of_read read =
      let y = first_pass (written_by_active (xs ++ x ∷ [])) x in
      let left : settle_rest xs (y ∷ []) ≡ y ∷ [] = ap (λ a. with_status y a ∷ []) (read_is_left (xs ++ y ∷ []) y read) in
      ap (λ zs. map (third_pass (written_by_satisfied (xs ++ zs))) zs) left
      ∙ ap (λ a. with_status x a ∷ [])
      (ap (λ k. cond (x.claim.write_half || satisfied_by y.status) y.status (cond (meets k x.claim.reads) Entitled Waiting)) (kept_same xs y read ∙ sym (kept_seen xs))
      ∙ ap (λ k. let a = cond (not x.claim.write_half && not (meets k x.claim.reads)) Satisfied x.status in
      cond (x.claim.write_half || satisfied_by a) a (cond (meets (seen_of xs).kept x.claim.reads) Entitled Waiting)) (active_same xs x read ∙ sym (active_seen xs))
      ∙ read_told x.claim.write_half (meets (seen_of xs).active x.claim.reads) (meets (seen_of xs).kept x.claim.reads) x.status (new_write_status xs (seen_of xs) x) read waits)

  of_write : x.claim.write_half ≡ true → map (third_pass (written_by_satisfied (xs ++ seconds groups xs (x ∷ []) b))) (seconds groups xs (x ∷ []) b) ≡ result ∷ []
  unfolding settle_rest
  of_write write =
      let busy = written_by_active (xs ++ x ∷ []) in
      let same : first_pass busy x ≡ x = ap (λ w. with_status x (cond (not w && not (meets busy x.claim.reads)) Satisfied x.status)) write in
      let e = entered (xs ++ x ∷ []) x in
      ap (λ y. let zs = settle_rest xs (y ∷ []) in map (third_pass (written_by_satisfied (xs ++ zs))) zs) same
      ∙ ap (λ a. with_status x a ∷ [])
      (third_write x.claim.write_half (meets (written_by_satisfied (xs ++ e ∷ [])) x.claim.reads) e.status write
      ∙ new_write_is xs x b.well_formed waits write
      ∙ ap (λ w. cond w (new_write_status xs (seen_of xs) x) (new_read_status (seen_of xs) x)) (sym write))

  of_one : given (settled (xs ++ x ∷ [])) ≡ settled_behind xs (x ∷ [])
  of_one = both_cases x.claim.write_half (λ w. ends (of_write w)) (λ r. ends (of_read r))

-- the two claims of an upgrade

-- a write settles to the same among claims that are equally satisfied
write_alike : (us vs : List Claimed) (x : Claimed) → AllZip SameSatisfied us vs → AllByRecursion ReadsOnly us → AllByRecursion ReadsOnly vs → write_status us x ≡ write_status vs x
unfolding write_status
write_alike us vs x same only_us only_vs =
    let alike = same_satisfied_alike x.claim.stamp us vs same in
    let way = has_way_is us x.claim only_us ∙ may_enter_alike x.claim.stamp us vs alike x.claim refl ∙ sym (has_way_is vs x.claim only_vs) in
    (λ i. cond (not x.claim.write_half || is_satisfied x) x.status (entered_status (is_active x || way i) (is_held_up_alike x.claim.stamp us vs alike x.claim refl i)))

module _ (groups : List Set) (xs : List Claimed) (x x' : Claimed) (b : IsBehind groups xs (x ∷ x' ∷ [])) (read : x.claim.write_half ≡ false) (write : x'.claim.write_half ≡ true)
    (waits : x.status ≡ Waiting) (waits' : x'.status ≡ Waiting) (asks : x.asked ≡ empty) (asks' : x'.asked ≡ empty) where
  abbrev busy : Set
  busy = written_by_active (xs ++ x ∷ x' ∷ [])

  abbrev y : Claimed
  y = first_pass busy x

  -- the write half after the second pass
  abbrev e : Claimed
  e = entered ((xs ++ y ∷ []) ++ x' ∷ []) x'

  abbrev kept : Set
  kept = written_by_satisfied (xs ++ y ∷ e ∷ [])

  -- the read half, settled after the others
  abbrev half : Claimed
  half = with_status x (new_status xs (seen_of xs) x)

  claims : AllByRecursion (λ z. IsClaim z.claim) (x ∷ x' ∷ [])
  claims = behind (λ z. IsClaim z.claim) xs (x ∷ x' ∷ []) b.well_formed.claims

  none_active : busy ≡ written_by_active xs
  unfolding written_by_active
  none_active =
      let all = fold (λ all z. cond (z.claim.write_half && is_active z) (union all z.claim.writes) all) empty xs in
      fold-append (λ all z. cond (z.claim.write_half && is_active z) (union all z.claim.writes) all) empty xs (x ∷ x' ∷ [])
      ∙ (λ i. let first = cond (read i && is_active x) (union all x.claim.writes) all in cond (write i && active_by (waits' i)) (union first x'.claim.writes) first)

  seconds_are : seconds groups xs (x ∷ x' ∷ []) b ≡ y ∷ e ∷ []
  unfolding settle_rest
  seconds_are =
      let y' = first_pass busy x' in
      let same : y' ≡ x' = ap (λ w. with_status x' (cond (not w && not (meets busy x'.claim.reads)) Satisfied x'.status)) write in
      ap (λ a. let u = with_status y a in u ∷ with_status y' (write_status ((xs ++ u ∷ []) ++ y' ∷ []) y') ∷ []) (read_is_left (xs ++ y ∷ y' ∷ []) y read)
      ∙ ap (λ z. y ∷ with_status z (write_status ((xs ++ y ∷ []) ++ z ∷ []) z) ∷ []) same

  whole : settled (xs ++ x ∷ x' ∷ []) ≡ map (third_pass kept) (xs ++ y ∷ e ∷ [])
  whole = two_passes groups xs (x ∷ x' ∷ []) b ∙ ap (λ zs. map (third_pass (written_by_satisfied (xs ++ zs))) (xs ++ zs)) seconds_are

  -- where the read half is kept out, the write half makes no difference to it
  kept_as_seen : meets (seen_of xs).active x.claim.reads ≡ true → meets kept x.claim.reads ≡ meets (seen_of xs).kept x.claim.reads
  kept_as_seen out =
      let only = claims.0.read_only read in
      kept_is (xs ++ y ∷ e ∷ []) x.claim only
      ∙ kept_alike xs b.stable (are groups xs (x ∷ x' ∷ []) b) groups (y ∷ e ∷ []) kept (subst AreExclusive whole b.exclusive) (subst (AreAdmittedBy groups) whole b.admitted)
      y (among_behind xs (y ∷ e ∷ []) y (inl refl)) read (sym (kept_out_is xs x.claim only) ∙ ap (λ s. meets s x.claim.reads) (sym (active_seen xs)) ∙ out)
      ∙ sym (kept_is xs x.claim only)
      ∙ ap (λ s. meets s x.claim.reads) (sym (kept_seen xs))

  half_is : third_pass kept y ≡ half
  half_is =
      ap (λ k. let a = cond (not x.claim.write_half && not (meets k x.claim.reads)) Satisfied x.status in
      with_status x (cond (x.claim.write_half || satisfied_by a) a (cond (meets kept x.claim.reads) Entitled Waiting))) (none_active ∙ sym (active_seen xs))
      ∙ ap (with_status x)
      (read_told x.claim.write_half (meets (seen_of xs).active x.claim.reads) (meets kept x.claim.reads) x.status (new_write_status xs (seen_of xs) x) read waits
      ∙ ap (cond x.claim.write_half (new_write_status xs (seen_of xs) x)) (at (meets (seen_of xs).active x.claim.reads) (meets kept x.claim.reads) (meets (seen_of xs).kept x.claim.reads) kept_as_seen))
    where
      at : (a k seen : Bool) → (a ≡ true → k ≡ seen) → cond a (cond k Entitled Waiting) Satisfied ≡ cond a (cond seen Entitled Waiting) Satisfied
      at true k seen same = ap (λ t. cond t Entitled Waiting) (same refl)
      at false k seen same = refl

  -- the write half after the read half
  abbrev last : Claimed
  last = with_status x' (new_status (xs ++ half ∷ []) (seen_of (xs ++ half ∷ [])) x')

  equally : AllZip SameSatisfied ((xs ++ y ∷ []) ++ x' ∷ []) ((xs ++ half ∷ []) ++ x' ∷ [])
  equally =
      let own : (zs : List Claimed) → AllZip SameSatisfied zs zs = zip_same SameSatisfied (λ z. record { claim = refl; satisfied = refl }) in
      zip_append SameSatisfied (xs ++ y ∷ []) (xs ++ half ∷ []) (x' ∷ []) (x' ∷ [])
      (zip_append SameSatisfied xs xs (y ∷ []) (half ∷ []) (own xs)
      (record { claim = refl; satisfied = sym (third_satisfied y.claim.write_half (meets kept y.claim.reads) y.status) ∙ ap is_satisfied half_is }, tt))
      (own (x' ∷ []))

  only_reads : (z : Claimed) → z.claim ≡ x.claim → AllByRecursion ReadsOnly ((xs ++ z ∷ []) ++ x' ∷ [])
  only_reads z same =
      all_append ReadsOnly (xs ++ z ∷ []) (x' ∷ [])
      (all_append ReadsOnly xs (z ∷ []) (all_from ReadsOnly xs (λ v there. (all_at (λ z. IsClaim z.claim) xs v (are groups xs (x ∷ x' ∷ []) b) there).read_only))
      ((λ r. ap (λ k. k.writes) same ∙ claims.0.read_only (ap (λ k. k.write_half) (sym same) ∙ r)), tt))
      (claims.1.0.read_only, tt)

  half_well_formed : AreWellFormed ((xs ++ half ∷ []) ++ x' ∷ [])
  half_well_formed =
      subst AreWellFormed (sym (append_assoc xs (half ∷ []) (x' ∷ [])))
      (same_claims_well_formed (xs ++ x ∷ x' ∷ []) (xs ++ half ∷ x' ∷ []) b.well_formed
      (zip_append SameClaim xs xs (x ∷ x' ∷ []) (half ∷ x' ∷ []) (zip_same SameClaim (λ z. refl) xs) (refl, (refl, tt))))

  last_is : third_pass kept e ≡ last
  last_is =
      ap (with_status x')
      (third_write x'.claim.write_half (meets kept x'.claim.reads) e.status write
      ∙ write_alike ((xs ++ y ∷ []) ++ x' ∷ []) ((xs ++ half ∷ []) ++ x' ∷ []) x' equally (only_reads y refl) (only_reads half refl)
      ∙ new_write_is (xs ++ half ∷ []) x' half_well_formed waits' write
      ∙ ap (λ w. cond w (new_write_status (xs ++ half ∷ []) (seen_of (xs ++ half ∷ [])) x') (new_read_status (seen_of (xs ++ half ∷ [])) x')) (sym write))

  of_two : given (settled (xs ++ x ∷ x' ∷ [])) ≡ settled_behind xs (x ∷ x' ∷ [])
  unfolding new_claim
  of_two =
      let zs = xs ++ half ∷ last ∷ [] in
      let first : with_asked xs half ≡ half = asks_nothing xs half asks in
      let second : with_asked (xs ++ half ∷ []) last ≡ last = asks_nothing (xs ++ half ∷ []) last asks' in
      ap given (three_passes groups xs (x ∷ x' ∷ []) b
      ∙ ap (λ zs. xs ++ map (third_pass (written_by_satisfied (xs ++ zs))) zs) seconds_are ∙ (λ i. xs ++ half_is i ∷ last_is i ∷ []))
      ∙ given_stays xs (half ∷ last ∷ []) b.at_rest
      ∙ (λ i. xs ++ asks_nothing zs half asks i ∷ asks_nothing zs last asks' i ∷ [])
      ∙ sym (append_assoc xs (half ∷ []) (last ∷ []))
      ∙ ap (λ z. (xs ++ half ∷ []) ++ z ∷ []) (sym second)
      ∙ ap (λ z. (xs ++ z ∷ []) ++ with_asked (xs ++ z ∷ []) (with_status x' (new_status (xs ++ z ∷ []) (seen_of (xs ++ z ∷ [])) x')) ∷ []) (sym first)

-- ---- what is reported

-- what new claims settle to, one after another
abbrev news : List Claimed → List Claimed → List Claimed
news xs [] = []
news xs (x ∷ rest) = new_claim xs x ∷ news (xs ++ new_claim xs x ∷ []) rest

settled_news : (xs ns : List Claimed) → settled_behind xs ns ≡ xs ++ news xs ns
settled_news xs [] = sym (append-nil xs)
settled_news xs (x ∷ rest) = settled_news (xs ++ new_claim xs x ∷ []) rest ∙ append_assoc xs (new_claim xs x ∷ []) (news (xs ++ new_claim xs x ∷ []) rest)

told_news : (all : ChangeLists) (xs ns : List Claimed)
    → told_behind all xs ns ≡ record { statuses = all.statuses ++ status_changes ns (news xs ns); grants = all.grants ++ grant_changes ns (news xs ns) }
unfolding status_changes grant_changes
told_news all xs [] = (λ i. record { statuses = sym (append-nil all.statuses) i; grants = sym (append-nil all.grants) i })
told_news all xs (x ∷ rest) =
    told_news (with_change all x (new_claim xs x)) (xs ++ new_claim xs x ∷ []) rest
    ∙ (λ i. record {
      statuses = append_assoc all.statuses (option_to_list (status_change x (new_claim xs x))) (status_changes rest (news (xs ++ new_claim xs x ∷ []) rest)) i;
      grants = append_assoc all.grants (option_to_list (grant_change x (new_claim xs x))) (grant_changes rest (news (xs ++ new_claim xs x ∷ []) rest)) i;
    })

-- nothing is reported of claims that stay
statuses_behind : (xs ys zs : List Claimed) → status_changes (xs ++ ys) (xs ++ zs) ≡ status_changes ys zs
unfolding status_changes
statuses_behind [] ys zs = refl
statuses_behind (x ∷ xs) ys zs = ap (λ (c : ChangeLists). c.statuses ++ status_changes (xs ++ ys) (xs ++ zs)) (no_change no_changes x) ∙ statuses_behind xs ys zs

grants_behind : (xs ys zs : List Claimed) → grant_changes (xs ++ ys) (xs ++ zs) ≡ grant_changes ys zs
unfolding grant_changes
grants_behind [] ys zs = refl
grants_behind (x ∷ xs) ys zs = ap (λ (c : ChangeLists). c.grants ++ grant_changes (xs ++ ys) (xs ++ zs)) (no_change no_changes x) ∙ grants_behind xs ys zs

pub told_is : (xs ns : List Claimed)
    → told_behind no_changes xs ns ≡ record { statuses = status_changes (xs ++ ns) (settled_behind xs ns); grants = grant_changes (xs ++ ns) (settled_behind xs ns) }
told_is xs ns =
    told_news no_changes xs ns
    ∙ (λ i. record { statuses = sym (statuses_behind xs ns (news xs ns)) i; grants = sym (grants_behind xs ns (news xs ns)) i })
    ∙ (λ i. record { statuses = status_changes (xs ++ ns) (sym (settled_news xs ns) i); grants = grant_changes (xs ++ ns) (sym (settled_news xs ns) i) })

-- ---- an issue

module _ (s : LockState) (seat : ℕ) (r : RequestFields) (reached : IsReached s) (comes : Comes s (Issue seat r)) where
  abbrev new_ones : Kind → List Claimed
  new_ones k = map (waiting r.first) (claims_by s.groups.groups k s.issued seat r.reads r.writes)

  is_behind : IsBehind s.groups.groups s.claims (new_ones r.kind)
  is_behind =
      let ys = (changed s (Issue seat r)).claims in
      let mid = sound_changed s (Issue seat r) reached.sound comes in
      let settles = settles_settled ys mid.well_formed in
      record {
        stable = reached.stable;
        at_rest = reached.at_rest;
        well_formed = mid.well_formed;
        exclusive = exclusive_settled ys (settled ys)
            (record { well_formed = mid.well_formed; entered = entered_changed s (Issue seat r) comes reached.entered; apart = apart_changed s (Issue seat r) comes reached.apart }) settles;
        admitted = admitted_settled s.groups.groups ys (settled ys) (admitted_changed s (Issue seat r) comes.fits reached.admitted) settles;
      }

  -- only a nested request asks
  by_kind : (k : Kind) → FitsFirst k (union r.reads r.writes) r.first → IsBehind s.groups.groups s.claims (new_ones k) → given (settled (s.claims ++ new_ones k)) ≡ settled_behind s.claims (new_ones k)
  by_kind Read first b = of_one s.groups.groups s.claims _ b refl
  by_kind Write first b = of_one s.groups.groups s.claims _ b refl
  by_kind Mixed first b = of_one s.groups.groups s.claims _ b refl
  by_kind Upgrade first b = of_two s.groups.groups s.claims _ _ b refl refl refl refl first first
  by_kind Nested first b = of_one s.groups.groups s.claims _ b refl

  pub issue_is : given (settled (changed s (Issue seat r)).claims) ≡ settled_behind s.claims (map (waiting r.first) (claims_of s.groups.groups s.issued seat r))
  issue_is = by_kind r.kind comes.normal.first is_behind
