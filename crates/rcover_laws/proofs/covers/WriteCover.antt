-- Write waits are covered.
use Rattle.std.proofs.Common.{◌≡◌, ◌≢◌, Bool, true, false, not, ◌&&◌, Option, Some, List, ◌∷◌, ◌++◌, map, sym, ap, subst, ◌∙◌, ◌⊎◌, inl, inr, arith, is_some, [], refl}
use Rattle.std.proofs.lemmas.Bool.{and_parts, and_from}
use Rattle.std.specs.List.{list_any, filter_map, AllByRecursion}
use Rattle.rclaim.specs.declared.claim.Claim.{Claim}
use Rattle.rclaim.specs.declared.event.Event.{Event}
use Rattle.rmodel.specs.Claims.{conflicts, is_satisfied}
use Rattle.rmodel.specs.Reached.{IsReached}
use Rattle.rmodel.specs.Rules.{is_earlier_write}
use Rattle.rmodel.specs.State.{LockState}
use Rattle.rmodel.specs.Steps.{AreAccepted}
use Rattle.rmodel.specs.WellFormed.{EachPair}
use Rattle.rmodel.proofs.ListFacts.{Among, contrary, false_from, all_at, all_from, any_among, among_filter, in_filter, among_behind, passing, pairs_with}
use Rattle.rmodel.proofs.settling.Keeping.{not_false}
use Rattle.rmodel.proofs.settling.OneSettlement.{both_cases}
use Rattle.rmodel.proofs.reaching.Came.{among_map, in_map, in_append}
use Rattle.rcover_laws.specs.Covers.{AreOfOtherSeats, IsWriteCovered}
use Rattle.rcover_laws.specs.Line.{least_of, is_least, leasts, is_kept_least, kept_moments, write_sections, read_for}
use Rattle.rcover_laws.specs.Moments.{Moment, moments, is_claim, holds_at}
use Rattle.rcover_laws.specs.Sections.{Covers, holder_of}
use Rattle.rcover_laws.specs.Waits.{WriteWaits}
use Rattle.rcover_laws.proofs.lists.Different.{among_different, in_different, are_different, filter_within, different_shorter, filter_map_shorter, in_filter_map, one_less}
use Rattle.rcover_laws.proofs.lists.Found.{all_both, all_so, not_empty, list_parts}
use Rattle.rcover_laws.proofs.runs.LineOverTime.{line_of_first, least_rises, IsThatLeast, stops_least, stays_held}
use Rattle.rcover_laws.proofs.runs.Moments.{at_moments, is_itself, is_other, are_one, holds_one, sat_holds}
use Rattle.rcover_laws.proofs.runs.Taken.{taken, IsTaken}
use Rattle.rcover_laws.proofs.runs.Throughout.{IsHeldThroughout, IsEntitledAndHeld, held_throughout}
use Rattle.rcover_laws.proofs.states.AtRest.{one_claim}
use Rattle.rcover_laws.proofs.states.LeastOfLine.{IsWriteThere, write_by_stamp, write_by_seat, of_line_there, least_entitled, least_held}
use Rattle.rcover_laws.proofs.states.Lines.{IsOfLine, in_line, not_before_itself, least_is}

-- a write that waits is there, and not satisfied
pub write_there : (c : Claim) (m : Moment) → WriteWaits c m → IsWriteThere c m
write_there c m w = record { there = record { at = w.at; among = w.among; is = w.is }; write = w.write }

not_satisfied : (s : LockState) → IsReached s → (c : Claim) → WriteWaits c s.claims → holds_at c s.claims ≡ false
not_satisfied s reached c w = false_from (holds_at c s.claims) (λ h.
    let sat = sat_holds s reached c w.write (record { at = w.at; among = w.among; is = w.is }) h in
    contrary (is_satisfied sat.at) sat.satisfied (ap is_satisfied (one_claim s reached sat.at w.at sat.among w.among (sat.is ∙ sym w.is)) ∙ w.unsatisfied))

-- the test of a read that is taken for a least claim
abbrev pub holds_up : Claim → Claim → Bool
holds_up d r = not r.write_half && conflicts r d

abbrev pub IsRead : Claim → Type 0
IsRead x = x.write_half ≡ false

module _ (c : Claim) (s : LockState) (es : List Event) (reached : IsReached s) (accepted : AreAccepted s es) (waits : AllByRecursion (WriteWaits c) (moments s es)) where
  abbrev ms : List Moment
  ms = moments s es

  pub each_there : AllByRecursion (IsWriteThere c) ms
  each_there = all_so (WriteWaits c) (IsWriteThere c) (write_there c) ms waits

  -- ---- the least claims are writes of the first moment

  abbrev line_at : List (Moment) → Type 0
  line_at ns = AllByRecursion (λ m. (d : Claim) → IsOfLine c m d → IsOfLine c s.claims d) ns

  pub least_at : (m : Moment) → Among m ms → IsOfLine c s.claims (least_of c m)
  least_at m there = all_at (λ m. (d : Claim) → IsOfLine c m d → IsOfLine c s.claims d) ms m (line_of_first c s es reached accepted each_there) there (least_of c m) (least_is c m)

  pub least_is_of_first : (d : Claim) → Among d (leasts c ms) → IsOfLine c s.claims d
  least_is_of_first d there =
      let found = among_map (least_of c) ms d (among_different (map (least_of c) ms) d there) in
      subst (IsOfLine c s.claims) (sym found.2) (least_at found.0 found.1)

  pub first_there : (d : Claim) → IsOfLine c s.claims d → IsWriteThere d s.claims
  first_there d h = of_line_there s reached c each_there.0 d h

  pub least_is_there : (d : Claim) → Among d (leasts c ms) → IsWriteThere d s.claims
  least_is_there d there = first_there d (least_is_of_first d there)

  -- if one of the least claims is the least, it is that very claim
  pub that_least : (d : Claim) → Among d (leasts c ms) → AllByRecursion (IsThatLeast c d) ms
  that_least d there = all_from (IsThatLeast c d) ms (λ m in_m is.
      sym (write_by_stamp s reached d (least_of c m) (least_is_there d there) (first_there (least_of c m) (least_at m in_m)) (are_one d (least_of c m) is).stamp))

  -- the least at a moment is one of the least claims
  pub least_among : (m : Moment) → Among m ms → Among (least_of c m) (leasts c ms)
  least_among m in_m =
      let h = in_different (map (least_of c) ms) (least_of c m) (in_map (least_of c) ms m in_m) in
      subst (λ d. Among d (leasts c ms))
      (write_by_stamp s reached h.by (least_of c m) (least_is_there h.by h.among) (first_there (least_of c m) (least_at m in_m)) h.are_one.stamp) h.among

  -- ---- the read that is taken for a least claim

  pub each_held : (d : Claim) → Among d (leasts c ms) → AllByRecursion (λ m. is_kept_least c d m ≡ true → IsEntitledAndHeld IsRead d m) ms
  each_held d there =
      all_both (λ m. IsWriteThere c m × IsThatLeast c d m) (λ m. IsWriteThere c m → holds_at (least_of c m) m ≡ false → IsEntitledAndHeld IsRead (least_of c m) m) (λ m. is_kept_least c d m ≡ true → IsEntitledAndHeld IsRead d m)
      (λ m a f on.
      let parts = and_parts (is_least c d m) (not (holds_at d m)) on in
      let is = a.1 parts.0 in
      subst (λ (x : Claim). IsEntitledAndHeld IsRead x m) is (f a.0 (ap (λ x. holds_at x m) is ∙ not_false (holds_at d m) parts.1))) ms
      (all_both (IsWriteThere c) (IsThatLeast c d) (λ m. IsWriteThere c m × IsThatLeast c d m) (λ m a b. (a, b)) ms each_there (that_least d there))
      (at_moments (λ m. IsWriteThere c m → holds_at (least_of c m) m ≡ false → IsEntitledAndHeld IsRead (least_of c m) m)
      (λ t r w off. let ent = least_entitled t r c w off in record { entitled = ent; held = least_held t r c w ent }) s es reached accepted)

  -- a read is taken if the least claim is not satisfied at some moment
  pub record IsTakenFor (d : Claim) : Type 0 where
    pub first : Moment
    pub rest : List Moment
    pub moments_are : kept_moments c d ms ≡ first ∷ rest
    pub taken : IsTaken (holds_up d) first rest

  pub read_taken : (d : Claim) → Among d (leasts c ms) → (m : Moment) → Among m (kept_moments c d ms) → IsTakenFor d
  read_taken d there m in_kept = elim (list_parts (kept_moments c d ms)) [
    | inl none ↦ absurd (not_empty (kept_moments c d ms) m in_kept none)
    | inr some ↦
        let held = subst (IsHeldThroughout IsRead d) some.2
        (held_throughout IsRead d (is_kept_least c d) s es reached accepted (each_held d there) (stops_least c d s es reached accepted each_there (that_least d there)) (not_empty (kept_moments c d ms) m in_kept)) in
        record {
          first = some.0;
          rest = some.1;
          moments_are = some.2;
          taken = taken (holds_up d) some.0 some.1 held.by (and_from (not held.by.write_half) (conflicts held.by d) (ap not held.right) held.holds_up.conflict) held.sat;
        }
  ]

  abbrev pub taken_for : Claim → Option Claim
  taken_for d = holder_of (holds_up d) (kept_moments c d ms)

  abbrev all_reads : List Claim
  all_reads = filter_map taken_for (leasts c ms)

  -- ---- one of the sections goes on

  abbrev a_reads : List Claim
  a_reads = (write_sections c ms).reads

  abbrev a_writes : List Claim
  a_writes = (write_sections c ms).writes

  by_read : (n : Moment) → Among n ms → holds_at (least_of c n) n ≡ false → list_any (λ r. holds_at r n) (a_reads ++ a_writes) ≡ true
  by_read n in_n off =
      let d = least_of c n in
      let there = least_among n in_n in
      let kept : Among n (kept_moments c d ms) = in_filter (is_kept_least c d) ms n in_n (and_from (is_least c d n) (not (holds_at d n)) (is_itself d) (ap not off)) in
      let t = read_taken d there n kept in
      let is : taken_for d ≡ Some t.taken.one = ap (holder_of (holds_up d)) t.moments_are ∙ t.taken.is in
      let on : holds_at t.taken.one n ≡ true = all_at (λ n. holds_at t.taken.one n ≡ true) (t.first ∷ t.rest) n t.taken.holds (subst (λ (ns : List Moment). Among n ns) t.moments_are kept) in
      let h = in_different all_reads t.taken.one (in_filter_map taken_for (leasts c ms) d t.taken.one there is) in
      any_among (λ r. holds_at r n) (a_reads ++ a_writes) h.by (in_append a_reads a_writes h.by h.among)
      (holds_one t.taken.one h.by n (record { stamp = sym h.are_one.stamp; half = sym h.are_one.half }) on)

  by_write : (n : Moment) → Among n ms → holds_at (least_of c n) n ≡ true → list_any (λ r. holds_at r n) (a_reads ++ a_writes) ≡ true
  by_write n in_n on =
      let d = least_of c n in
      any_among (λ r. holds_at r n) (a_reads ++ a_writes) d
      (among_behind a_reads a_writes d (in_filter (λ d. list_any (λ m. is_least c d m && holds_at d m) ms) (leasts c ms) d (least_among n in_n)
      (any_among (λ m. is_least c d m && holds_at d m) ms n in_n (and_from (is_least c d n) (holds_at d n) (is_itself d) on)))) on

  all_covered : Covers (write_sections c ms) ms
  all_covered = all_from (λ m. list_any (λ r. holds_at r m) (a_reads ++ a_writes) ≡ true) ms (λ n in_n. both_cases (holds_at (least_of c n) n) (by_write n in_n) (by_read n in_n))

  -- ---- the claim itself takes no write section

  never : AllByRecursion (λ m. holds_at c m ≡ false) ms
  never = all_both (WriteWaits c) (λ m. WriteWaits c m → holds_at c m ≡ false) (λ m. holds_at c m ≡ false) (λ m w f. f w) ms waits (at_moments (λ m. WriteWaits c m → holds_at c m ≡ false) (λ t r w. not_satisfied t r c w) s es reached accepted)

  pub no_section : (d : Claim) → list_any (λ m. is_least c d m && holds_at d m) ms ≡ true → is_claim d c ≡ false
  no_section d some = false_from (is_claim d c) (λ one.
      let m = passing (λ m. is_least c d m && holds_at d m) ms some in
      contrary (holds_at c m.0) (holds_one d c m.0 (are_one d c one) (and_parts (is_least c d m.0) (holds_at d m.0) m.2).1) (all_at (λ m. holds_at c m ≡ false) ms m.0 never m.1))

  -- ---- which claims they belong to

  pub of_other_seats : AreOfOtherSeats c (leasts c ms)
  of_other_seats = record {
    from_it = all_from (λ d. (d ≡ c) ⊎ (d.seat ≢ c.seat)) (leasts c ms) (λ d there. from_it d (least_is_of_first d there));
    among_them = pairs_with (λ d. IsWriteThere d s.claims) (λ d e. is_claim d e ≡ false) (λ d e. d.seat ≢ e.seat)
        (λ d e a b other seats. contrary (is_claim d e) (is_other d e (write_by_seat s reached d e a b seats)) other) (leasts c ms)
        (all_from (λ d. IsWriteThere d s.claims) (leasts c ms) least_is_there) (are_different (map (least_of c) ms));
  }
    where
      from_it : (d : Claim) → IsOfLine c s.claims d → (d ≡ c) ⊎ (d.seat ≢ c.seat)
      from_it d (inl is) = inl is
      from_it d (inr there) = inr (λ seats. not_before_itself c
          (ap (is_earlier_write c) (sym (write_by_seat s reached d c (first_there d (inr there)) each_there.0 seats)) ∙ (in_line c s.claims d there).earlier))

  -- ---- a read is taken for each least claim that is kept waiting

  reads_exist : (d : Claim) → Among d (leasts c ms) → kept_moments c d ms ≢ [] → is_some (read_for c ms d) ≡ true
  reads_exist d there some = elim (list_parts (kept_moments c d ms)) [
    | inl none ↦ absurd (some none)
    | inr parts ↦
        let t = read_taken d there parts.0 (subst (λ (ns : List Moment). Among parts.0 ns) (sym parts.2) (inl refl)) in
        ap is_some (ap (holder_of (holds_up d)) t.moments_are ∙ t.taken.is)
  ]

  pub write_covered : IsWriteCovered c ms
  write_covered = record {
    rises = least_rises c s es reached accepted each_there;
    other_seats = of_other_seats;
    stays = all_from (λ d. EachPair (λ m n. is_least c d m ≡ true → is_least c d n ≡ true → holds_at d m ≡ true → holds_at d n ≡ true) ms) (leasts c ms)
        (λ d there. stays_held c d s es reached accepted each_there (that_least d there));
    reads_exist = all_from (λ d. kept_moments c d ms ≢ [] → is_some (read_for c ms d) ≡ true) (leasts c ms) reads_exist;
    covered = all_covered;
    not_itself = all_from (λ d. is_claim d c ≡ false) a_writes (λ d there. no_section d (among_filter (λ d. list_any (λ m. is_least c d m && holds_at d m) ms) (leasts c ms) d there).1);
    few_writes = filter_within (λ d. list_any (λ m. is_least c d m && holds_at d m) ms) (λ d. not (is_claim d c)) (leasts c ms)
        (all_from _ (leasts c ms) (λ d there some. ap not (no_section d some)));
    few_reads = (let a = different_shorter all_reads in let b = filter_map_shorter taken_for (leasts c ms) in let e = one_less c (leasts c ms) (are_different (map (least_of c) ms)) in omega arith);
  }
