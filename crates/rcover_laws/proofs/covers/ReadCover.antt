-- Read waits are covered.
use Rattle.std.proofs.Common.{◌≡◌, ◌≢◌, ◌≤◌, Bool, true, false, not, ◌&&◌, cond, length, Some, List, [], ◌∷◌, ◌++◌, refl, sym, ap, subst, ◌∙◌, inl, inr, arith}
use Rattle.std.proofs.lemmas.Bool.{and_parts}
use Rattle.std.specs.List.{list_any, AllByRecursion}
use Rattle.std.specs.Option.{option_map, option_to_list}
use Rattle.rset.specs.Sets.{meets}
use Rattle.rclaim.specs.declared.claim.Claim.{Claim}
use Rattle.rclaim.specs.declared.event.Event.{Event}
use Rattle.rmodel.specs.declared.claimed.Claimed.{Claimed}
use Rattle.rmodel.specs.Claims.{conflicts, is_active}
use Rattle.rmodel.specs.Laws.{keeps_out}
use Rattle.rmodel.specs.Reached.{IsReached}
use Rattle.rmodel.specs.Rules.{is_kept_out}
use Rattle.rmodel.specs.State.{LockState}
use Rattle.rmodel.specs.Steps.{next, AreAccepted}
use Rattle.rmodel.specs.WellFormed.{EachPair}
use Rattle.rmodel.proofs.ListFacts.{Among, all_at, all_from, any_among, among_filter, in_filter, among_behind, passing}
use Rattle.rmodel.proofs.settling.Keeping.{not_false}
use Rattle.rmodel.proofs.settling.OneSettlement.{both_cases}
use Rattle.rmodel.proofs.reaching.Came.{in_append}
use Rattle.rmodel.proofs.reaching.Reached.{reached_next}
use Rattle.rcover_laws.specs.Covers.{IsKeptBy, IsReadCovered}
use Rattle.rcover_laws.specs.Moments.{Moment, moments, holds_at}
use Rattle.rcover_laws.specs.Sections.{Sections, Covers, holder_of, keeper_of, moments_without, sections_by, sections_of_keeper, read_sections}
use Rattle.rcover_laws.specs.Waits.{ReadWaits}
use Rattle.rcover_laws.proofs.lists.Found.{first_of, filter_no, all_both, all_so, not_empty, list_parts}
use Rattle.rcover_laws.proofs.runs.Moments.{at_moments, holds_sat, sat_holds, not_held}
use Rattle.rcover_laws.proofs.runs.Taken.{taken, IsTaken}
use Rattle.rcover_laws.proofs.runs.Throughout.{Stops, IsHeldThroughout, IsEntitledAndHeld, held_throughout}
use Rattle.rcover_laws.proofs.states.AtRest.{Sat, IsEntitled, IsHeld, keeper, one_keeper, holder, reads_written}
use Rattle.rcover_laws.proofs.states.ThroughEvent.{same_keeper, sat_next}

-- ---- one write keeps the read waiting

-- some write keeps a read waiting
kept_out : (s : LockState) → IsReached s → (c : Claim) → ReadWaits c s.claims → is_kept_out s.claims c ≡ true
kept_out s reached c w = ap (is_kept_out s.claims) (sym w.is) ∙ keeper s reached w.at w.among (ap (λ d. d.write_half) w.is ∙ w.read) w.unsatisfied

kept_by : (s : LockState) → IsReached s → (c v : Claim) → ReadWaits c s.claims → (x : Claimed) → Among x s.claims → keeps_out c x ≡ true → x.claim ≡ v → IsKeptBy c v s.claims
kept_by s reached c v w x there keeps is = record {
  at = x;
  among = there;
  is = is;
  keeps = keeps;
  alone = all_from (λ y. keeps_out c y ≡ true → y.claim ≡ v) s.claims (λ y in_y keeps_y.
      ap (λ z. z.claim) (one_keeper s reached w.at x y w.among (ap (λ d. d.write_half) w.is ∙ w.read) there (ap (λ d. keeps_out d x) w.is ∙ keeps) in_y (ap (λ d. keeps_out d y) w.is ∙ keeps_y)) ∙ is);
}

-- it is the same write at all moments
pub kept_throughout : (c v : Claim) (s : LockState) (es : List Event) → IsReached s → AreAccepted s es → AllByRecursion (ReadWaits c) (moments s es)
    → (x : Claimed) → Among x s.claims → keeps_out c x ≡ true → x.claim ≡ v → AllByRecursion (IsKeptBy c v) (moments s es)
kept_throughout c v s [] reached accepted waits x there keeps is = (kept_by s reached c v waits.0 x there keeps is, tt)
kept_throughout c v s (e ∷ es) reached accepted waits x there keeps is =
    let w = waits.0 in
    let w' = waits.1.0 in
    let on = reached_next s e reached accepted.0 in
    let y = passing (keeps_out c) (next s e).claims (kept_out (next s e) on c w') in
    let same : y.0.claim ≡ x.claim =
    same_keeper s e reached accepted.0 w.at w'.at x y.0 w.among w'.among (w'.is ∙ sym w.is) (ap (λ d. d.write_half) w.is ∙ w.read) w'.unsatisfied there (ap (λ d. keeps_out d x) w.is ∙ keeps) y.1
    (ap (λ d. keeps_out d y.0) w.is ∙ y.2) in
    (kept_by s reached c v w x there keeps is, kept_throughout c v (next s e) es on accepted.1 waits.1 y.0 y.1 y.2 (same ∙ is))

-- ---- the sections by that write

-- at a moment the write is entitled or satisfied
pub record IsActiveWrite (v : Claim) (m : Moment) : Type 0 where
  pub at : Claimed
  pub among : Among at m
  pub is : at.claim ≡ v
  pub write : v.write_half ≡ true
  pub active : is_active at ≡ true

pub active_write : (c v : Claim) (m : Moment) → IsKeptBy c v m → IsActiveWrite v m
active_write c v m k =
    let parts = and_parts (k.at.claim.write_half && is_active k.at) (conflicts k.at.claim c) k.keeps in
    let first = and_parts k.at.claim.write_half (is_active k.at) parts.0 in
    record { at = k.at; among = k.among; is = k.is; write = ap (λ d. d.write_half) (sym k.is) ∙ first.0; active = first.1 }

pub entitled_without : (v : Claim) (m : Moment) → IsActiveWrite v m → not (holds_at v m) ≡ true → IsEntitled v m
entitled_without v m a h = record {
  at = a.at;
  among = a.among;
  is = a.is;
  write = a.write;
  active = a.active;
  unsatisfied = not_held v m (record { at = a.at; among = a.among; is = a.is }) (not_false (holds_at v m) h);
}

-- once the write is satisfied, it stays so
pub satisfied_on : (v : Claim) (s : LockState) (es : List Event) → IsReached s → AreAccepted s es → AllByRecursion (IsActiveWrite v) (moments s es) → Sat v s.claims → moments_without v (moments s es) ≡ []
satisfied_on v s [] reached accepted active sat = filter_no (λ m. not (holds_at v m)) s.claims [] (ap not (holds_sat v s.claims sat))
satisfied_on v s (e ∷ es) reached accepted active sat =
    let a = active.1.0 in
    let sat' = sat_next s e reached accepted.0 v sat (record { at = a.at; among = a.among; is = a.is }) in
    filter_no (λ m. not (holds_at v m)) s.claims (moments (next s e) es) (ap not (holds_sat v s.claims sat)) ∙ satisfied_on v (next s e) es (reached_next s e reached accepted.0) accepted.1 active.1 sat'

pub stops_once : (v : Claim) (s : LockState) (es : List Event) → IsReached s → AreAccepted s es → AllByRecursion (IsActiveWrite v) (moments s es) → Stops (λ m. not (holds_at v m)) s es
stops_once v s [] reached accepted active = tt
stops_once v s (e ∷ es) reached accepted active =
    let on = reached_next s e reached accepted.0 in
    let a = active.1.0 in (
      λ now not_then. satisfied_on v (next s e) es on accepted.1 active.1
          (sat_holds (next s e) on v a.write (record { at = a.at; among = a.among; is = a.is }) (held (holds_at v (next s e).claims) not_then)),
      stops_once v (next s e) es on accepted.1 active.1,
    )
  where
    held : (b : Bool) → not b ≡ false → b ≡ true
    held true h = refl
    held false h = sym h

-- so it is satisfied at each moment, if it is at the first
satisfied_each : (v : Claim) (s : LockState) (es : List Event) → IsReached s → AreAccepted s es → AllByRecursion (IsActiveWrite v) (moments s es) → Sat v s.claims → AllByRecursion (λ n. holds_at v n ≡ true) (moments s es)
satisfied_each v s [] reached accepted active sat = (holds_sat v s.claims sat, tt)
satisfied_each v s (e ∷ es) reached accepted active sat =
    let a = active.1.0 in
    let sat' = sat_next s e reached accepted.0 v sat (record { at = a.at; among = a.among; is = a.is }) in
    (holds_sat v s.claims sat, satisfied_each v (next s e) es (reached_next s e reached accepted.0) accepted.1 active.1 sat')

pub stays_satisfied : (v : Claim) (s : LockState) (es : List Event) → IsReached s → AreAccepted s es → AllByRecursion (IsActiveWrite v) (moments s es) → EachPair (λ m n. holds_at v m ≡ true → holds_at v n ≡ true) (moments s es)
stays_satisfied v s [] reached accepted active = (tt, tt)
stays_satisfied v s (e ∷ es) reached accepted active = (
  all_from (λ n. holds_at v s.claims ≡ true → holds_at v n ≡ true) (moments (next s e) es) (λ n later holds.
      let a = active.0 in
      all_at (λ n. holds_at v n ≡ true) (moments s (e ∷ es)) n
      (satisfied_each v s (e ∷ es) reached accepted active (sat_holds s reached v a.write (record { at = a.at; among = a.among; is = a.is }) holds)) (inr later)),
  stays_satisfied v (next s e) es (reached_next s e reached accepted.0) accepted.1 active.1,
)

-- a claim that is taken for a read: at some moment the write is entitled, and the claim satisfied and in conflict with it
pub record IsTakenRead (v : Claim) (ms : List Moment) (x : Claim) : Type 0 where
  pub moment : Moment
  pub among : Among moment ms
  pub entitled : IsEntitled v moment
  pub sat : Sat x moment
  pub conflict : conflicts x v ≡ true
  pub written : meets x.reads v.writes ≡ true

-- what is taken for a read
pub record AreReads (v : Claim) (ms : List Moment) (reads : List Claim) : Type 0 where
  pub go_on : (n : Moment) → Among n ms → holds_at v n ≡ false → list_any (λ c. holds_at c n) reads ≡ true
  pub one_read : moments_without v ms ≢ [] → length reads ≡ 1
  pub no_read : moments_without v ms ≡ [] → reads ≡ []
  pub each : AllByRecursion (IsTakenRead v ms) reads

module _ (v : Claim) (s : LockState) (es : List Event) (reached : IsReached s) (accepted : AreAccepted s es) (active : AllByRecursion (IsActiveWrite v) (moments s es)) where
  abbrev ms : List Moment
  ms = moments s es

  abbrev test : Claim → Bool
  test c = conflicts c v

  each_held : AllByRecursion (λ m. not (holds_at v m) ≡ true → IsEntitledAndHeld (λ x. Unit {0}) v m) ms
  each_held =
      all_both (IsActiveWrite v) (λ m. IsEntitled v m → IsHeld (λ x. Unit {0}) v m) _
      (λ m a h. λ off. record { entitled = entitled_without v m a off; held = h (entitled_without v m a off) }) ms active
      (at_moments (λ m. IsEntitled v m → IsHeld (λ x. Unit {0}) v m) (λ t r. holder t r v) s es reached accepted)

  with_reads : (m : Moment) (rest : List Moment) → moments_without v ms ≡ m ∷ rest → IsTaken test m rest → AreReads v ms (option_to_list (holder_of test (moments_without v ms)))
  with_reads m rest is t = subst (AreReads v ms) (ap option_to_list (sym t.is) ∙ ap (λ ns. option_to_list (holder_of test ns)) (sym is)) (record {
    go_on = λ n there off. any_among (λ c. holds_at c n) (t.one ∷ []) t.one (inl refl)
        (all_at (λ n. holds_at t.one n ≡ true) (m ∷ rest) n t.holds (subst (λ (ns : List Moment). Among n ns) is (in_filter (λ m. not (holds_at v m)) ms n there (ap not off))));
    one_read = λ some. refl;
    no_read = λ none. absurd (not_empty (m ∷ rest) m (inl refl) (sym is ∙ none));
    each = (taken_read, tt);
  })
    where
      in_without : Among m ms × (not (holds_at v m) ≡ true)
      in_without = among_filter (λ m. not (holds_at v m)) ms m (subst (λ (ns : List Moment). Among m ns) (sym is) (inl refl))

      entitled_then : IsEntitled v m
      entitled_then = entitled_without v m (all_at (IsActiveWrite v) ms m active in_without.0) in_without.1

      taken_read : IsTakenRead v ms t.one
      taken_read = record {
        moment = m;
        among = in_without.0;
        entitled = entitled_then;
        sat = t.first;
        conflict = t.passes;
        written = all_at (λ m. (x : Claim) → IsEntitled v m → Sat x m → conflicts x v ≡ true → meets x.reads v.writes ≡ true) ms m
            (at_moments (λ m. (x : Claim) → IsEntitled v m → Sat x m → conflicts x v ≡ true → meets x.reads v.writes ≡ true) (λ t r x ent sat c. reads_written t r v x ent sat c) s es reached accepted)
            in_without.0 t.one entitled_then t.first t.passes;
      }

  pub are_reads : AreReads v ms (option_to_list (holder_of test (moments_without v ms)))
  are_reads = elim (list_parts (moments_without v ms)) [
    | inl none ↦ subst (AreReads v ms) (ap (λ ns. option_to_list (holder_of test ns)) (sym none)) (record {
      go_on = λ n there off. absurd (not_empty (moments_without v ms) n (in_filter (λ m. not (holds_at v m)) ms n there (ap not off)) none);
      one_read = λ some. absurd (some none);
      no_read = λ none. refl;
      each = tt;
    })
    | inr some ↦
        let held = held_throughout (λ x. Unit {0}) v (λ m. not (holds_at v m)) s es reached accepted each_held (stops_once v s es reached accepted active)
        (λ none. not_empty (some.0 ∷ some.1) some.0 (inl refl) (sym some.2 ∙ none)) in
        let here = subst (IsHeldThroughout (λ x. Unit {0}) v) some.2 held in
        with_reads some.0 some.1 some.2 (taken test some.0 some.1 here.by here.holds_up.conflict here.sat)
  ]

  abbrev writes : List Claim
  writes = cond (list_any (holds_at v) ms) (v ∷ []) []

  one_write : (b : Bool) → length (cond b (v ∷ []) []) ≤ 1
  one_write true = omega arith
  one_write false = omega arith

  all_covered : Covers (sections_by v ms) ms
  all_covered = all_from (λ m. list_any (λ c. holds_at c m) ((sections_by v ms).reads ++ writes) ≡ true) ms (λ n there.
      both_cases (holds_at v n)
      (λ on. any_among (λ c. holds_at c n) ((sections_by v ms).reads ++ writes) v
      (among_behind (sections_by v ms).reads writes v (subst (λ (b : Bool). Among v (cond b (v ∷ []) [])) (sym (any_among (holds_at v) ms n there on)) (inl refl))) on)
      (λ off. let r = passing (λ c. holds_at c n) (sections_by v ms).reads (are_reads.go_on n there off) in
      any_among (λ c. holds_at c n) ((sections_by v ms).reads ++ writes) r.0 (in_append (sections_by v ms).reads writes r.0 r.1) r.2))

-- ---- the theorem

-- the write that keeps a read waiting over a run
pub record HasKeeper (c : Claim) (ms : List Moment) : Type 0 where
  pub keeper : Claim
  pub is_keeper : keeper_of c ms ≡ Some keeper
  pub kept : AllByRecursion (IsKeptBy c keeper) ms
  pub active : AllByRecursion (IsActiveWrite keeper) ms

pub has_keeper : (s : LockState) (es : List Event) → IsReached s → AreAccepted s es → (c : Claim) → AllByRecursion (ReadWaits c) (moments s es) → HasKeeper c (moments s es)
has_keeper s es reached accepted c waits =
    let first = first_of (keeps_out c) s.claims (kept_out s reached c waits.0) in
    let kept = kept_throughout c first.one.claim s es reached accepted waits first.one first.among first.passes refl in
    record {
      keeper = first.one.claim;
      is_keeper = ap (λ o. option_map (λ (x : Claimed). x.claim) o) first.is;
      kept = kept;
      active = all_so (IsKeptBy c first.one.claim) (IsActiveWrite first.one.claim) (active_write c first.one.claim) (moments s es) kept;
    }

-- the facts about the sections of a read wait that v keeps waiting
pub record AreReadSections (v : Claim) (ms : List Moment) (a : Sections) : Type 0 where
  pub covered : Covers a ms
  pub reads : AreReads v ms a.reads
  pub one_write : length a.writes ≤ 1
  pub writes : AllByRecursion (λ w. w ≡ v) a.writes

pub are_read_sections : (s : LockState) (es : List Event) → IsReached s → AreAccepted s es → (c : Claim) → (k : HasKeeper c (moments s es)) → AreReadSections k.keeper (moments s es) (read_sections c (moments s es))
are_read_sections s es reached accepted c k =
    subst (AreReadSections k.keeper (moments s es)) (ap (λ o. sections_of_keeper o (moments s es)) (sym k.is_keeper)) (record {
      covered = all_covered k.keeper s es reached accepted k.active;
      reads = are_reads k.keeper s es reached accepted k.active;
      one_write = one_write k.keeper s es reached accepted k.active (list_any (holds_at k.keeper) (moments s es));
      writes = itself (list_any (holds_at k.keeper) (moments s es));
    })
  where
    itself : (b : Bool) → AllByRecursion (λ w. w ≡ k.keeper) (cond b (k.keeper ∷ []) [])
    itself true = (refl, tt)
    itself false = tt

pub read_covered : (s : LockState) (es : List Event) → IsReached s → AreAccepted s es → (c : Claim) → AllByRecursion (ReadWaits c) (moments s es) → IsReadCovered c (moments s es)
read_covered s es reached accepted c waits =
    let k = has_keeper s es reached accepted c waits in
    let facts = are_read_sections s es reached accepted c k in
    record {
      keeper = k.keeper;
      is_keeper = k.is_keeper;
      kept = k.kept;
      stays = stays_satisfied k.keeper s es reached accepted k.active;
      covered = facts.covered;
      one_read = facts.reads.one_read;
      no_read = facts.reads.no_read;
      one_write = facts.one_write;
      reads_written = all_so (IsTakenRead k.keeper (moments s es)) (λ x. meets x.reads k.keeper.writes ≡ true) (λ x t. t.written) (read_sections c (moments s es)).reads facts.reads.each;
    }
