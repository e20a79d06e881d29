-- The pass over the claims that a removal leaves gives what they settle to.
use Rattle.std.proofs.Common.{◌≡◌, ℕ, ◌+◌, ◌<◌, ◌≤◌, Bool, true, false, not, ◌&&◌, ◌||◌, nat_lt, cond, List, [], ◌∷◌, ◌++◌, length, get_or, take, drop, refl, sym, ap, subst, ◌∙◌, arith}
use Rattle.std.proofs.lemmas.Bool.{or_parts, and_parts, and_from, or_left, ltb-true, lt-ltb}
use Rattle.std.proofs.lemmas.List.Folds.{list_any-append}
use Rattle.std.proofs.lemmas.List.Elements.{AllZip-get_or, length_all_zip}
use Rattle.std.specs.List.{list_any, AllZip, AllByRecursion}
use Rattle.std.specs.FinSet.{empty, union, is_subset}
use Rattle.rset.specs.Sets.{Set, meets}
use Rattle.rset.proofs.SetLemmas.{meets_symmetric, meets_empty_left}
use Rattle.rclaim.specs.declared.claim.Claim.{Claim}
use Rattle.rclaim.specs.declared.claim.Status.{Status}
use Rattle.rclaim.specs.declared.claim.Status.TheVariants.{Waiting, Entitled, Satisfied}
use Rattle.rmodel.specs.declared.claimed.Claimed.{Claimed}
use Rattle.rplain.specs.declared.seen.Seen.{Seen}
use Rattle.rplain.specs.declared.left.Left.{Left}
use Rattle.rmodel.specs.Changes.{is_same}
use Rattle.rmodel.specs.Claims.{conflicts, share_place, is_active, is_entitled, is_satisfied}
use Rattle.rmodel.specs.Laws.{keeps_out}
use Rattle.rplain.specs.NewClaim.{seen_of, is_past}
use Rattle.rmodel.specs.Reached.{KeptBehind}
use Rattle.rmodel.specs.Rules.{is_earlier_write, is_kept_out, may_enter, is_held_up, is_kept, SettlesAt, Settles}
use Rattle.rmodel.specs.Settling.{with_status, written_by_satisfied, read_near, is_clear, has_way, bars_of, entered_status, settled}
use Rattle.rplain.specs.Sweep.{stands, still_near, is_past_still, is_read_still, is_held_still, remains, swept_status, swept, AreReadWithin, IsLeft}
use Rattle.rmodel.specs.WellFormed.{EachPair, Rises, IsClaim, AreWellFormed}
use Rattle.rplain.proofs.settling.Barred.{between, barred_in, clear_in, past_is, rise_to, rise_from, front}
use Rattle.rplain.proofs.settling.ChangeSteps.{first_of_rest}
use Rattle.rmodel.proofs.ListFacts.{contrary, false_from, any_zip, all_zip, none_from, all_at, all_from, zip_all, zip_append, some_second, second_itself, each_second, all_append, behind}
use Rattle.rplain.proofs.settling.NewSettled.{bars_seen, kept_seen, kept_meets, any_or, all_both}
use Rattle.rplain.proofs.settling.OneSwept.{told, read_at, write_at, fold_zip, zip_take, zip_drop, pairs_at, not_not, or_none, clear_same, held_same, near_same, read_guarded, past_guarded, held_before, held_behind, or_assoc, not_below}
use Rattle.rmodel.proofs.settling.OneSettlement.{both_cases}
use Rattle.rmodel.proofs.settling.Settlement.{ReadsOnly, any_agree, has_way_is, kept_is, settles_settled}
use Rattle.rmodel.proofs.reaching.Soundness.{active_of_satisfied, same_claims, same_claims_well_formed}

module _ (c : Claim) where
  -- a satisfied read, or a satisfied write of smaller stamp, conflicts with it
  abbrev holds : Claimed → Bool
  holds v = is_satisfied v && (not v.claim.write_half || is_earlier_write c v.claim) && conflicts v.claim c

  -- or reads what it writes
  abbrev reads : Claimed → Bool
  reads v = is_satisfied v && (not v.claim.write_half || is_earlier_write c v.claim) && meets v.claim.reads c.writes

  abbrev writes_in : Set → Claimed → Bool
  writes_in s v = (v.claim.write_half && is_satisfied v) && meets v.claim.writes s

  turned : (v : Claimed)
      → holds v ≡ (is_satisfied v && (not v.claim.write_half || is_earlier_write c v.claim)
      && ((meets v.claim.writes c.reads || meets v.claim.writes c.writes) || (meets v.claim.reads c.writes || meets v.claim.writes c.writes)))
  turned v =
      (λ i. is_satisfied v && (not v.claim.write_half || is_earlier_write c v.claim)
      && ((meets_symmetric c.reads v.claim.writes i || meets_symmetric c.writes v.claim.writes i) || (meets v.claim.reads c.writes || meets v.claim.writes c.writes)))

  writes_none : (v : Claimed) → IsClaim v.claim → (s : Set) → v.claim.write_half ≡ false → meets v.claim.writes s ≡ false
  writes_none v is s r = ap (λ w. meets w s) (is.read_only r) ∙ meets_empty_left s

  holds_before : (v : Claimed) → (v.claim.write_half ≡ true → v.claim.stamp < c.stamp) × IsClaim v.claim → holds v ≡ ((writes_in c.reads v || writes_in c.writes v) || reads v)
  holds_before v h =
      turned v
      ∙ held_before v.claim.write_half (is_satisfied v) (nat_lt v.claim.stamp c.stamp) (meets v.claim.writes c.reads) (meets v.claim.writes c.writes) (meets v.claim.reads c.writes)
      (λ w. lt-ltb v.claim.stamp c.stamp (h.0 w)) (writes_none v h.1 c.reads) (writes_none v h.1 c.writes)

  holds_behind : (v : Claimed) → (c.stamp ≤ v.claim.stamp) × IsClaim v.claim → holds v ≡ reads v
  holds_behind v h =
      turned v
      ∙ held_behind v.claim.write_half (is_satisfied v) (nat_lt v.claim.stamp c.stamp) (meets v.claim.writes c.reads) (meets v.claim.writes c.writes) (meets v.claim.reads c.writes)
      (not_below v.claim.stamp c.stamp h.0) (writes_none v h.1 c.reads) (writes_none v h.1 c.writes)

  held_seen : (done rest : List Claimed) → AllByRecursion (λ v. (v.claim.write_half ≡ true → v.claim.stamp < c.stamp) × IsClaim v.claim) done
      → AllByRecursion (λ v. (c.stamp ≤ v.claim.stamp) × IsClaim v.claim) rest
      → is_held_up (done ++ rest) c ≡ ((meets (seen_of done).kept c.reads || meets (seen_of done).kept c.writes) || list_any reads (done ++ rest))
  held_seen done rest before behind =
      list_any-append holds done rest
      ∙ (λ i. any_agree _ holds _ holds_before done before i || any_agree _ holds reads holds_behind rest behind i)
      ∙ ap (λ b. b || list_any reads rest) (sym (any_or (λ v. writes_in c.reads v || writes_in c.writes v) reads done))
      ∙ or_assoc _ (list_any reads done) (list_any reads rest)
      ∙ ap (λ b. list_any (λ v. writes_in c.reads v || writes_in c.writes v) done || b) (sym (list_any-append reads done rest))
      ∙ ap (λ b. b || list_any reads (done ++ rest)) (sym (any_or (writes_in c.reads) (writes_in c.writes) done) ∙ (λ i. sym (kept_meets done c.reads) i || sym (kept_meets done c.writes) i))

module _ (xs : List Claimed) (left : Left) (is_left : IsLeft xs left) where
  abbrev t : List Claimed
  t = settled xs

  settles : Settles xs t
  settles = settles_settled xs is_left.well_formed

  well : AreWellFormed t
  well = same_claims_well_formed xs t is_left.well_formed (same_claims xs t settles)

  pub reads_only : AllByRecursion ReadsOnly t
  reads_only = all_from ReadsOnly t (λ x there r. (all_at (λ x. IsClaim x.claim) t x well.claims there).read_only r)

  -- what is known of a claim before
  record Was (x : Claimed) : Type 0 where
    is_claim : IsClaim x.claim
    within : is_subset x.claim.reads left.read ≡ true
    released : x.claim.write_half ≡ false → is_satisfied x ≡ false → is_kept_out xs x.claim ≡ not (meets left.written x.claim.reads)
    held : x.claim.write_half ≡ true → is_active x ≡ true → is_satisfied x ≡ false → meets left.freed x.claim.places ≡ false → is_held_up xs x.claim ≡ true

  -- a claim before and after
  record Falls (x y : Claimed) : Type 0 where
    at : SettlesAt xs t x y
    was : Was x

  falls : AllZip Falls xs t
  falls = zip_all Was (SettlesAt xs t) Falls (λ x y w a. record { at = a; was = w }) xs t
      (all_from Was xs (λ x there. record {
        is_claim = all_at (λ x. IsClaim x.claim) xs x is_left.well_formed.claims there;
        within = all_at (λ x. is_subset x.claim.reads left.read ≡ true) xs x is_left.within there;
        released = all_at _ xs x is_left.released there;
        held = all_at _ xs x is_left.held there;
      }))
      settles

  half : (x y : Claimed) → Falls x y → x.claim.write_half ≡ y.claim.write_half
  half x y f = ap (λ c. c.write_half) (sym f.at.same)

  -- a read is satisfied where it was, or where what is gone kept it waiting
  read_satisfied : (x y : Claimed) → Falls x y → x.claim.write_half ≡ false → is_satisfied y ≡ (is_satisfied x || meets left.written x.claim.reads)
  read_satisfied x y f r =
      let rule = f.at.reads (sym (half x y f) ∙ r) in
      both_cases (is_satisfied x)
      (λ sat. rule ∙ ap (λ a. a || not (is_kept_out xs y.claim)) sat ∙ sym (ap (λ a. a || meets left.written x.claim.reads) sat))
      (λ unsat. rule ∙ (λ i. unsat i || not (is_kept_out xs (f.at.same i))) ∙ ap not (f.was.released r unsat) ∙ not_not (meets left.written x.claim.reads)
      ∙ sym (ap (λ a. a || meets left.written x.claim.reads) unsat))

  -- ---- a claim as the pass finds it, beside the same claim settled, for a write of stamp n

  record Beside (n : ℕ) (u v : Claimed) : Type 0 where
    claim : u.claim ≡ v.claim
    reads : v.claim.write_half ≡ false → stands left u ≡ is_satisfied v
    writes : v.claim.write_half ≡ true → nat_lt v.claim.stamp n ≡ true → is_satisfied u ≡ is_satisfied v

  -- the pass is already past it
  beside_itself : (n : ℕ) (x y : Claimed) → Falls x y → Beside n y y
  beside_itself n x y f = record {
    claim = refl;
    reads = λ r. both_cases (is_satisfied y)
        (λ sat. ap (λ a. a || (not y.claim.write_half && meets left.written y.claim.reads)) sat ∙ sym sat)
        (λ unsat.
        let apart = (or_parts (is_satisfied x) (meets left.written x.claim.reads) (sym (read_satisfied x y f (half x y f ∙ r)) ∙ unsat)).1 in
        (λ i. unsat i || (not (r i) && (ap (λ (c : Claim). meets left.written c.reads) f.at.same ∙ apart) i)) ∙ sym unsat);
    writes = λ w low. refl;
  }

  -- the pass has yet to reach it
  beside_later : (n : ℕ) (x y : Claimed) → Falls x y → n ≤ x.claim.stamp → Beside n x y
  beside_later n x y f late = record {
    claim = sym f.at.same;
    reads = λ r. ap (λ w. is_satisfied x || (not w && meets left.written x.claim.reads)) (half x y f ∙ r) ∙ sym (read_satisfied x y f (half x y f ∙ r));
    writes = λ w low.
        let below : x.claim.stamp < n = subst (λ (c : Claim). c.stamp < n) f.at.same (ltb-true y.claim.stamp n low) in
        absurd (omega arith);
  }

  module _ (c : Claim) (us vs : List Claimed) (zip : AllZip (Beside c.stamp) us vs) where
    clear_beside : (s : Set) → is_clear us c s ≡ is_clear vs c s
    unfolding is_clear
    clear_beside s = all_zip (Beside c.stamp) _ _
        (λ u v b.
        ap (λ k. not (is_earlier_write c k && share_place k c) || (is_satisfied u && not (meets k.writes s))) b.claim
        ∙ clear_same v.claim.write_half (nat_lt v.claim.stamp c.stamp) (is_satisfied u) (is_satisfied v) (share_place v.claim c) (not (meets v.claim.writes s)) b.writes)
        us vs zip

    read_beside : is_read_still left us c ≡ list_any (reads c) vs
    read_beside = any_zip (Beside c.stamp) _ _
        (λ u v b.
        ap (λ k. stands left u && (not k.write_half || is_earlier_write c k) && meets k.reads c.writes) b.claim
        ∙ held_same v.claim.write_half (nat_lt v.claim.stamp c.stamp) (stands left u) (is_satisfied v) (meets v.claim.reads c.writes) b.reads
        (λ w low. ap (λ h. is_satisfied u || (not h && meets left.written u.claim.reads)) (ap (λ k. k.write_half) b.claim ∙ w) ∙ or_none (is_satisfied u) ∙ b.writes w low))
        us vs zip

    near_beside : (s : Set) → still_near left us s ≡ read_near vs s
    unfolding still_near read_near
    near_beside s = fold_zip (Beside c.stamp) _ _
        (λ all u v b.
        ap (λ k. cond (not k.write_half && not (stands left u) && meets k.reads s) (union all k.reads) all) b.claim
        ∙ near_same v.claim.write_half (stands left u) (is_satisfied v) (meets v.claim.reads s) all (union all v.claim.reads) b.reads)
        empty us vs zip

  -- what is held up stays held up
  held_on : (c : Claim) → is_held_up xs c ≡ true → is_held_up t c ≡ true
  held_on c = some_second (SettlesAt xs t) _ _
      (λ x y a h.
      let parts = and_parts (is_satisfied x && (not x.claim.write_half || is_earlier_write c x.claim)) (conflicts x.claim c) h in
      let first = and_parts (is_satisfied x) (not x.claim.write_half || is_earlier_write c x.claim) parts.0 in
      let sat : is_satisfied y ≡ true = both_cases y.claim.write_half
      (λ w. a.satisfaction w ∙ or_left (is_satisfied x) _ first.0)
      (λ r. a.reads r ∙ or_left (is_satisfied x) _ first.0) in
      (λ i. sat i && (not (a.same i).write_half || is_earlier_write c (a.same i)) && conflicts (a.same i) c) ∙ (λ i. first.1 i && parts.1 i))
      xs t settles

  -- ---- the claim at a place

  module _ (done was tail rest : List Claimed) (x y : Claimed) (whole : done ++ (y ∷ tail) ≡ t) (all : was ++ (x ∷ rest) ≡ xs)
      (before : AllZip Falls was done) (here : Falls x y) (later : AllZip Falls rest tail) where
    abbrev us : List Claimed
    us = done ++ (x ∷ rest)

    same : x.claim ≡ y.claim
    same = sym here.at.same

    late : AllByRecursion (Rises x) rest
    late = rise_from was rest x (subst (λ (l : List Claimed). EachPair Rises l) (sym all) is_left.well_formed.rising)

    beside : AllZip (Beside y.claim.stamp) us t
    beside =
        subst (λ (l : List Claimed). AllZip (Beside y.claim.stamp) us l) whole
        (zip_append (Beside y.claim.stamp) done done (x ∷ rest) (y ∷ tail)
        (second_itself Falls (Beside y.claim.stamp) (λ a b f. beside_itself y.claim.stamp a b f) was done before)
        (beside_later y.claim.stamp x y here at_it, zip_all (Rises x) Falls (Beside y.claim.stamp) (λ a b r f. beside_later y.claim.stamp a b f (from_it a r)) rest tail late later))
      where
        at_it : y.claim.stamp ≤ x.claim.stamp
        at_it = let e = ap (λ c. c.stamp) same in omega arith

        from_it : (a : Claimed) → Rises x a → y.claim.stamp ≤ a.claim.stamp
        from_it a r = let e = ap (λ c. c.stamp) same in let above = r.not_above in omega arith

    well_whole : AreWellFormed (done ++ (y ∷ tail))
    well_whole = subst AreWellFormed (sym whole) well

    within : AreReadWithin left.read us
    within =
        let P : Claimed → Type 0 = λ v. is_subset v.claim.reads left.read ≡ true in
        all_append P done (x ∷ rest)
        (each_second Falls P (λ a b f. ap (λ (c : Claim). is_subset c.reads left.read) f.at.same ∙ f.was.within) was done before)
        (behind P was (x ∷ rest) (subst (λ (l : List Claimed). AreReadWithin left.read l) (sym all) is_left.within))

    -- a barred write does not enter
    barred_out : meets (bars_of done) x.claim.places ≡ true → may_enter t y.claim ≡ false
    barred_out h =
        sym (has_way_is t y.claim reads_only) ∙ ap (λ l. has_way l y.claim) (sym whole)
        ∙ barred_in done tail y well_whole (ap (λ c. meets (bars_of done) c.places) (sym same) ∙ h)

    -- any other write enters where no read stands between
    way_is : meets (bars_of done) x.claim.places ≡ false → is_past_still left us x.claim ≡ may_enter t y.claim
    unfolding has_way
    way_is h =
        past_guarded left x.claim us within
        ∙ (λ i. is_past us (same i) (still_near left us (same i).places))
        ∙ past_is us y.claim (still_near left us y.claim.places) (clear_beside y.claim us t beside y.claim.places ∙ free)
        ∙ clear_beside y.claim us t beside (still_near left us y.claim.places)
        ∙ ap (is_clear t y.claim) (near_beside y.claim us t beside y.claim.places)
        ∙ ap (λ b. b && is_clear t y.claim (read_near t y.claim.places)) (sym free)
        ∙ has_way_is t y.claim reads_only
      where
        free : is_clear t y.claim y.claim.places ≡ true
        free = ap (λ l. is_clear l y.claim y.claim.places) (sym whole) ∙ clear_in done tail y well_whole (ap (λ c. meets (bars_of done) c.places) (sym same) ∙ h)

    -- what keeps a read waiting comes before it
    none_later : y.claim.write_half ≡ false → is_satisfied y ≡ false → list_any (λ v. v.claim.write_half && is_satisfied v && conflicts v.claim y.claim) tail ≡ false
    none_later r unsat = none_from _ tail (λ v there. false_from _ (λ keeps.
        let parts = and_parts (v.claim.write_half && is_satisfied v) (conflicts v.claim y.claim) keeps in
        let first = and_parts v.claim.write_half (is_satisfied v) parts.0 in
        contrary (keeps_out y.claim v)
        (and_from (v.claim.write_half && is_active v) (conflicts v.claim y.claim) (and_from v.claim.write_half (is_active v) first.0 (active_of_satisfied v.status first.1)) parts.1)
        (all_at (KeptBehind y) tail v (pairs_at KeptBehind done y tail (subst (λ (l : List Claimed). EachPair KeptBehind l) (sym whole) is_left.kept_behind)) there r unsat)))

    kept_before : y.claim.write_half ≡ false → is_satisfied y ≡ false → is_kept t y.claim ≡ meets (written_by_satisfied done) x.claim.reads
    kept_before r unsat =
        let keeps : Claimed → Bool = λ v. v.claim.write_half && is_satisfied v && conflicts v.claim y.claim in
        ap (λ l. is_kept l y.claim) (sym whole)
        ∙ list_any-append keeps done (y ∷ tail)
        ∙ (λ i. is_kept done y.claim || ((r i && is_satisfied y && conflicts y.claim y.claim) || none_later r unsat i))
        ∙ or_none (is_kept done y.claim)
        ∙ sym (kept_is done y.claim (ap (λ c. c.writes) (sym same) ∙ here.was.is_claim.read_only (half x y here ∙ r)))
        ∙ ap (λ c. meets (written_by_satisfied done) c.reads) (sym same)

    module _ (seen : Seen) (is_seen : seen ≡ seen_of done) where
      bars : (s : Set) → meets seen.bars s ≡ meets (bars_of done) s
      bars s = ap (λ (z : Seen). meets z.bars s) is_seen ∙ ap (λ b. meets b s) (bars_seen done)

      kept : (s : Set) → meets seen.kept s ≡ meets (written_by_satisfied done) s
      kept s = ap (λ (z : Seen). meets z.kept s) is_seen ∙ ap (λ b. meets b s) (kept_seen done)

      held_is : is_held_still left seen us x.claim ≡ is_held_up t y.claim
      held_is =
          let c = y.claim in
          ap (is_held_still left seen us) same
          ∙ (λ i. (meets (is_seen i).kept c.reads || meets (is_seen i).kept c.writes) || (read_guarded left c us within ∙ read_beside c us t beside ∙ ap (list_any (reads c)) (sym whole)) i)
          ∙ sym
          (held_seen c done (y ∷ tail)
          (all_weak _ _ (λ v h. (h.0.after_write, h.1)) done (all_both (λ v. Rises v y) (λ v. IsClaim v.claim) done (rise_to done tail y well_whole.rising) (front done (y ∷ tail) well_whole.claims)))
          ((le_itself c.stamp, claims.0), all_weak _ _ (λ v h. (h.0.not_above, h.1)) tail (all_both (Rises y) (λ v. IsClaim v.claim) tail (rise_from done tail y well_whole.rising) claims.1)))
          ∙ ap (λ l. is_held_up l c) whole
        where
          claims : AllByRecursion (λ v. IsClaim v.claim) (y ∷ tail)
          claims = behind (λ v. IsClaim v.claim) done (y ∷ tail) well_whole.claims

          le_itself : (n : ℕ) → n ≤ n
          le_itself n = omega arith

          all_weak : (P Q : Claimed → Type 0) → ((v : Claimed) → P v → Q v) → (vs : List Claimed) → AllByRecursion P vs → AllByRecursion Q vs
          all_weak P Q by [] h = tt
          all_weak P Q by (v ∷ vs) h = (by v h.0, all_weak P Q by vs h.1)

      -- the status that the pass makes, where the claim is a write or not
      abbrev made : Bool → Status
      made w =
          cond
          (cond w (cond (is_active x) (not (meets left.freed x.claim.places)) (meets seen.bars x.claim.places))
          (not (meets left.written x.claim.reads) && is_same (is_entitled x) (meets seen.kept x.claim.reads)))
          x.status
          (cond (is_satisfied x) Satisfied
          (cond w (entered_status (is_active x || is_past_still left us x.claim) (is_held_still left seen us x.claim))
          (cond (meets left.written x.claim.reads) Satisfied (cond (meets seen.kept x.claim.reads) Entitled Waiting))))

      status_is : cond (remains left seen x) x.status (swept_status left seen us x) ≡ y.status
      status_is = both_cases x.claim.write_half
          (λ w.
          ap made w
          ∙ write_at x.status y.status (meets seen.bars x.claim.places) (meets left.freed x.claim.places) (is_past_still left us x.claim)
          (is_held_still left seen us x.claim) (may_enter t y.claim) (is_held_up t y.claim)
          (here.at.entitlement (sym (half x y here) ∙ w)) (here.at.satisfaction (sym (half x y here) ∙ w))
          (λ h. barred_out (sym (bars x.claim.places) ∙ h))
          (λ waits h. way_is (sym (bars x.claim.places) ∙ h))
          held_is
          (λ active unsat apart. ap (is_held_up t) (sym same) ∙ held_on x.claim (here.was.held w active unsat apart)))
          (λ r.
          ap made r
          ∙ read_at x.status y.status (meets left.written x.claim.reads) (meets seen.kept x.claim.reads) (read_satisfied x y here r)
          (λ unsat. here.at.kept_reads (sym (half x y here) ∙ r) ∙ ap (λ a. a || is_kept t y.claim) unsat
          ∙ kept_before (sym (half x y here) ∙ r) unsat ∙ sym (kept x.claim.reads)))

      swept_is : swept left seen us x ≡ y
      unfolding swept
      swept_is = at (remains left seen x) refl ∙ told _ y same (sym here.at.asked) (sym here.at.granted) status_is
        where
          at : (b : Bool) → remains left seen x ≡ b
              → cond b x (with_status x (swept_status left seen us x)) ≡ with_status x (cond b x.status (swept_status left seen us x))
          at true is = refl
          at false is = refl

  -- the same, by place
  pub swept_at : (i : ℕ) (d : Claimed) (cur : List Claimed) (seen : Seen) → i < length xs → cur ≡ take i t ++ drop i xs → seen ≡ seen_of (take i t) → swept left seen cur (get_or xs i d) ≡ get_or t i d
  swept_at i d cur seen h is_cur is_seen =
      let long : length xs ≡ length t = length_all_zip Falls xs t falls in
      let in_t : i < length t = omega arith in
      ap (λ l. swept left seen l (get_or xs i d)) (is_cur ∙ ap (λ r. take i t ++ r) (first_of_rest xs i d h))
      ∙ swept_is (take i t) (take i xs) (drop (i + 1) t) (drop (i + 1) xs) (get_or xs i d) (get_or t i d) (between t i d in_t) (between xs i d h)
      (zip_take Falls i xs t falls) (AllZip-get_or Falls xs t i d d falls h) (zip_drop Falls (i + 1) xs t falls) seen is_seen

  pub as_long : length t ≡ length xs
  as_long = sym (length_all_zip Falls xs t falls)
