-- An issue ends no wait and leaves what is kept of others as it is.
use Rattle.std.proofs.Common.{◌≡◌, ◌≢◌, ℕ, ◌<◌, ◌≤◌, ◌==◌, Bool, true, false, not, ◌&&◌, ◌||◌, cond, Option, Some, None, List, [], ◌∷◌, ◌++◌, append-nil, append_assoc, find, length, length-append, map, take, refl, sym, ap, subst, ◌∙◌, arith, inl, inr}
use Rattle.std.proofs.lemmas.Bool.{and_parts, and_from, eq-eqb, eqb-true}
use Rattle.std.proofs.lemmas.List.{take-append-le, take_all}
use Rattle.std.specs.List.{list_any, filter_map, cons_option, AllByRecursion}
use Rattle.std.specs.Option.{IfSome, option_map, option_to_list}
use Rattle.rclaim.specs.Events.{seat_of}
use Rattle.rclaim.specs.Requests.{RequestFields}
use Rattle.rclaim.specs.declared.claim.Claim.{Claim}
use Rattle.rclaim.specs.declared.event.Event.{Event}
use Rattle.rclaim.specs.declared.event.Event.TheVariants.{Issue, Finish}
use Rattle.rclaim.specs.declared.event.Event.TheVariants as event
use Rattle.rmodel.specs.declared.claimed.Claimed.{Claimed}
use Rattle.rmodel.specs.Claims.{claims_of, waiting, conflicts, is_satisfied, share_place}
use Rattle.rmodel.specs.Laws.{keeps_out}
use Rattle.rmodel.specs.Reached.{IsReached}
use Rattle.rmodel.specs.Rules.{is_earlier_write}
use Rattle.rmodel.specs.State.{LockState}
use Rattle.rmodel.specs.Steps.{next, Comes}
use Rattle.rmodel.specs.WellFormed.{Among, EachPair, Distinct}
use Rattle.rmodel.proofs.ListFacts.{contrary, false_from, all_at, all_from, any_among, none_among, none_from, among_append, among_behind, pairs_across}
use Rattle.rmodel.proofs.reaching.Came.{came, in_append}
use Rattle.rmodel.proofs.reaching.NewClaims.{IsNew, new_claims}
use Rattle.rmodel.proofs.reaching.Reached.{reached_next}
use Rattle.rmodel.proofs.reaching.Soundness.{read_of_half, seat_is_idle}
use Rattle.rmodel.proofs.settling.OneSettlement.{both_cases}
use Rattle.rplain.specs.NewClaim.{new_claim, settled_behind}
use Rattle.rplain.proofs.settling.IssueSteps.{issue_is}
use Rattle.rbound.specs.declared.which.Which.{Which}
use Rattle.rbound.specs.declared.which.Which.TheVariants.{First, Rise, Ask}
use Rattle.rcover_laws.specs.Ended.{waits_in, wait_of, wait_end}
use Rattle.rcover_laws.specs.History.{length_in}
use Rattle.rcover_laws.specs.Line.{line, first_or, least_of}
use Rattle.rcover_laws.specs.Moments.{Moment, is_claim, holds_at}
use Rattle.rcover_laws.specs.Sections.{Sections}
use Rattle.rcover_laws.specs.Told.{is_rising_half, waits_first, has_read_claim, waits_to_rise, stands}
use Rattle.rcover_laws.specs.Within.{numbers_of}
use Rattle.rcover_laws.proofs.runs.Moments.{are_one, is_itself}
use Rattle.rcover_laws.proofs.states.Lines.{earlier_of}
use Rattle.rcover_laws.proofs.told.Few.{waits_told}
use Rattle.rcover.specs.Kept.{may_wait, kept_of}
use Rattle.rcover.specs.Follow.{with_entry}
use Rattle.rcover.specs.Past.{is_issue}
use Rattle.rcover.specs.Last.{first_at}
use Rattle.rcover_laws.specs.Lists.{reads_against, with_option}
use Rattle.rcover.specs.Shown.{write_shown, write_closed}
use Rattle.rcover.specs.Tracked.{no_sections, keeper_at, read_closed_if, gone_on, kept_by, shown, told_if, told}
use Rattle.rcover.proofs.heads_told.Leasts.{least_all}

-- ---- what is there at a moment has what all claims there have

pub keeper_all : (P : Claim → Type 0) (c : Claim) (m : Moment) → AllByRecursion (λ x. P x.claim) m → IfSome (keeper_at c m) P
keeper_all P c [] all = tt
keeper_all P c (x ∷ xs) all =
    both_cases (keeps_out c x)
    (λ on. subst (λ b. IfSome (option_map (λ (y : Claimed). y.claim) (cond b (Some x) (find (keeps_out c) xs))) P) (sym on) all.0)
    (λ off. subst (λ b. IfSome (option_map (λ (y : Claimed). y.claim) (cond b (Some x) (find (keeps_out c) xs))) P) (sym off) (keeper_all P c xs all.1))

-- ---- claims after all others

-- claims that are settled after others come after them
behind_is : (xs ns : Moment) → (zs : Moment) × (settled_behind xs ns ≡ xs ++ zs)
behind_is xs [] = ([], sym (append-nil xs))
behind_is xs (x ∷ rest) = let h = behind_is (xs ++ new_claim xs x ∷ []) rest in (new_claim xs x ∷ h.0, h.1 ∙ append_assoc xs (new_claim xs x ∷ []) h.0)

-- stamps from this number on
abbrev From : ℕ → Moment → Type 0
From first ns = AllByRecursion (λ y. first ≤ y.claim.stamp) ns

not_earlier : (c d : Claim) → c.stamp ≤ d.stamp → is_earlier_write c d ≡ false
not_earlier c d h = false_from (is_earlier_write c d) (λ on. let below = (earlier_of c d on).below in absurd (omega arith))

module _ (first : ℕ) (m ns : Moment) (from : From first ns) where
  line_stays_none : (c : Claim) → c.stamp < first → (ys : Moment) → From first ys → line c ys ≡ []
  line_stays_none c below [] all = refl
  line_stays_none c below (y ∷ ys) all =
      (let h = all.0 in
      ap (λ b. cond (b && list_any (share_place y.claim) (c ∷ line c ys)) (y.claim ∷ line c ys) (line c ys)) (not_earlier c y.claim (omega arith))) ∙ line_stays_none c below ys all.1

  line_stays : (c : Claim) → c.stamp < first → (xs : Moment) → line c (xs ++ ns) ≡ line c xs
  line_stays c below [] = line_stays_none c below ns from
  line_stays c below (x ∷ xs) = ap (λ l. cond (is_earlier_write c x.claim && list_any (share_place x.claim) (c ∷ l)) (x.claim ∷ l) l) (line_stays c below xs)

  least_stays : (c : Claim) → c.stamp < first → least_of c (m ++ ns) ≡ least_of c m
  least_stays c below = ap (first_or c) (line_stays c below m)

  holds_stays_none : (d : Claim) → d.stamp < first → (ys : Moment) → From first ys → holds_at d ys ≡ false
  holds_stays_none d below [] all = refl
  holds_stays_none d below (y ∷ ys) all =
      ap (λ b. b || holds_at d ys)
      (false_from (is_satisfied y && is_claim d y.claim) (λ on.
      let one = are_one d y.claim (and_parts (is_satisfied y) (is_claim d y.claim) on).1 in
      let same = one.stamp in
      let h = all.0 in
      absurd (omega arith)))
      ∙ holds_stays_none d below ys all.1

  holds_stays : (d : Claim) → d.stamp < first → (xs : Moment) → holds_at d (xs ++ ns) ≡ holds_at d xs
  holds_stays d below [] = holds_stays_none d below ns from
  holds_stays d below (x ∷ xs) = ap (λ b. (is_satisfied x && is_claim d x.claim) || b) (holds_stays d below xs)

  module _ (all : AllByRecursion (λ x. x.claim.stamp < first) m) (c : Claim) (below : c.stamp < first) (a : Sections) where
    write_same : (e f : Claim) → e.stamp < first → f ≡ e → write_closed e a m f (m ++ ns) ≡ a
    write_same e f low same =
        let holds : holds_at f (m ++ ns) ≡ holds_at e m = ap (λ d. holds_at d (m ++ ns)) same ∙ holds_stays e low m in
        let one : is_claim e f ≡ true = ap (is_claim e) same ∙ is_itself e in
        let reads : (write_closed e a m f (m ++ ns)).reads ≡ a.reads
        = (λ i. cond (one i && not (holds i)) a.reads (write_shown e a m).reads) ∙ at (holds_at e m) a.reads (with_option a.reads (first_at (reads_against e) m)) in
        let writes : (write_closed e a m f (m ++ ns)).writes ≡ a.writes = ap (λ b. cond b a.writes (write_shown e a m).writes) one in
        (λ i. record { reads = reads i; writes = writes i })
      where
        at : (b : Bool) (r s : List Claim) → cond (true && not b) r (cond b r s) ≡ r
        at true r s = refl
        at false r s = refl

    read_same : (o : Option Claim) → IfSome o (λ v. v.stamp < first) → read_closed_if o a m (m ++ ns) ≡ a
    read_same None low = refl
    read_same (Some v) low =
        let reads : (read_closed_if (Some v) a m (m ++ ns)).reads ≡ a.reads
        = ap (λ b. cond b (cond (holds_at v m) a.reads (option_to_list (first_at (λ d. conflicts d v) m))) a.reads) (holds_stays v low m) ∙ at (holds_at v m) a.reads (option_to_list (first_at (λ d. conflicts d v) m)) in
        (λ i. record { reads = reads i; writes = a.writes })
      where
        at : (b : Bool) (r s : List Claim) → cond b (cond b r s) r ≡ r
        at true r s = refl
        at false r s = refl

    -- nothing changes of what is kept of a claim's wait
    pub same_kept : gone_on c a m (m ++ ns) ≡ a
    same_kept =
        both_cases c.write_half
        (λ write.
        ap (λ b. cond b (write_closed (least_of c m) a m (least_of c (m ++ ns)) (m ++ ns)) (read_closed_if (keeper_at c m) a m (m ++ ns))) write
        ∙ write_same (least_of c m) (least_of c (m ++ ns)) (least_all (λ d. d.stamp < first) c below m all) (least_stays c below))
        (λ read.
        ap (λ b. cond b (write_closed (least_of c m) a m (least_of c (m ++ ns)) (m ++ ns)) (read_closed_if (keeper_at c m) a m (m ++ ns))) read
        ∙ read_same (keeper_at c m) (keeper_all (λ d. d.stamp < first) c m all))

-- ---- an issue

module _ (s : LockState) (seat : ℕ) (r : RequestFields) (reached : IsReached s) (comes : Comes s (Issue seat r)) where
  abbrev m : Moment
  m = s.claims

  abbrev n : Moment
  n = (next s (Issue seat r)).claims

  parted : (zs : Moment) × (n ≡ m ++ zs)
  parted = let h = behind_is m (map (waiting r.first) (claims_of s.groups.groups s.issued seat r)) in (h.0, issue_is s seat r reached comes ∙ h.1)

  abbrev ns : Moment
  ns = parted.0

  is : n ≡ m ++ ns
  is = parted.1

  on : IsReached (next s (Issue seat r))
  on = reached_next s (Issue seat r) reached comes

  in_next : (y : Claimed) → Among y ns → Among y n
  in_next y there = subst (Among y) (sym is) (among_behind m ns y there)

  old_in_next : (x : Claimed) → Among x m → Among x n
  old_in_next x there = subst (Among x) (sym is) (in_append m ns x there)

  given : (x : Claimed) → Among x m → x.claim.stamp < s.issued
  given x there = all_at (λ y. y.claim.stamp < s.issued) m x reached.sound.given_out there

  -- each new claim is of the seat, with a new stamp
  of_seat : (y : Claimed) → Among y ns → (s.issued ≤ y.claim.stamp) × (y.claim.seat ≡ seat)
  of_seat y there =
      let news = map (waiting r.first) (claims_of s.groups.groups s.issued seat r) in
      let from = came s (Issue seat r) reached comes y (in_next y there) in
      let same : y.claim ≡ from.0.claim = from.1.given.claim ∙ from.1.by_rule.same in
      elim (among_append m news from.0 from.1.in_changed) [
        | inl old ↦
            let pair = pairs_across Distinct ns m from.0 y (subst (EachPair Distinct) is on.sound.one_each) old there in
            let halves = pair (ap (λ (d : Claim). d.seat) (sym same)) in
            contrary y.claim.write_half halves.writes (ap (λ (d : Claim). d.write_half) same ∙ read_of_half from.0.claim halves.reads)
        | inr new ↦
            let h = all_at (IsNew s.issued seat) news from.0 (new_claims s.groups.groups s.issued seat r comes.normal).each new in
            let stamped = h.stamped in
            let stamps = ap (λ (d : Claim). d.stamp) same in
            (omega arith, ap (λ (d : Claim). d.seat) same ∙ h.seated)
      ]

  from : From s.issued ns
  from = all_from (λ y. s.issued ≤ y.claim.stamp) ns (λ y there. (of_seat y there).0)

  pub elsewhere : (x : Claimed) → Among x m → x.claim.seat ≢ seat
  elsewhere x there same =
      contrary (x.claim.seat == seat) (eq-eqb x.claim.seat seat same) (none_among (λ y. y.claim.seat == seat) m x (seat_is_idle s seat r comes.accepted) there)

  -- a read claim of a seat that has a claim was there before
  read_stays : (x : Claimed) → Among x m → has_read_claim n x.claim ≡ has_read_claim m x.claim
  read_stays x there =
      let test = λ (y : Claimed). (y.claim.seat == x.claim.seat) && not y.claim.write_half in
      ap (list_any test) is ∙ joined test m ns
      ∙ ap (λ b. list_any test m || b)
      (none_from test ns (λ y new. false_from (test y) (λ on.
      let seated = eqb-true y.claim.seat x.claim.seat (and_parts (y.claim.seat == x.claim.seat) (not y.claim.write_half) on).0 in
      absurd (elsewhere x there (sym seated ∙ (of_seat y new).1)))))
      ∙ or_false (list_any test m)
    where
      joined : (p : Claimed → Bool) (xs ys : Moment) → list_any p (xs ++ ys) ≡ (list_any p xs || list_any p ys)
      joined p [] ys = refl
      joined p (x ∷ xs) ys = ap (λ b. p x || b) (joined p xs ys) ∙ over (p x) (list_any p xs) (list_any p ys)
        where
          over : (a b c : Bool) → (a || (b || c)) ≡ ((a || b) || c)
          over true b c = refl
          over false b c = refl

      or_false : (b : Bool) → (b || false) ≡ b
      or_false true = refl
      or_false false = refl

  rise_stays : (x : Claimed) → Among x m → waits_to_rise n x ≡ waits_to_rise m x
  rise_stays x there = ap (λ b. (is_rising_half x.claim && not b) && not (is_satisfied x)) (read_stays x there)

  waits_stays : (w : Which) (x : Claimed) → Among x m → waits_in w n x ≡ waits_in w m x
  waits_stays First x there = refl
  waits_stays Rise x there = rise_stays x there
  waits_stays (Ask k) x there = refl

  stands_in : (test : Moment → Claimed → Bool) (k : Moment) (x : Claimed) → Among x k → test k x ≡ true → stands test x.claim k ≡ true
  stands_in test k x there passes = any_among (λ y. is_claim x.claim y.claim && test k y) k x there (and_from (is_claim x.claim x.claim) (test k x) (is_itself x.claim) passes)

  -- it ends no wait
  pub none_told : (es : List Event) (table : ℕ → Sections) → told es m n table ≡ []
  none_told es table = all_none m (λ x there. there)
    where
      of_one : (x : Claimed) → Among x m → (o : Option Which) → wait_of es m x ≡ o → told_if (length_in es) m n table x o ≡ None
      of_one x there None told_so = refl
      of_one x there (Some w) told_so =
          ap (λ b. cond b None (Some (wait_end w x.claim (numbers_of (length_in es) (shown w x (table x.claim.seat) m))))) (stands_in (waits_in w) n x (old_in_next x there) (waits_stays w x there ∙ waits_told es m x w told_so))

      all_none : (xs : Moment) → ((x : Claimed) → Among x xs → Among x m) → filter_map (λ x. told_if (length_in es) m n table x (wait_of es m x)) xs ≡ []
      all_none [] within = refl
      all_none (x ∷ xs) within = (λ i. cons_option (of_one x (within x (inl refl)) (wait_of es m x) refl i) (all_none xs (λ y there. within y (inr there)) i))

  -- a new claim was not there before
  stood_not : (test : Moment → Claimed → Bool) (y : Claimed) → Among y ns → stands test y.claim m ≡ false
  stood_not test y there =
      none_from (λ x. is_claim y.claim x.claim && test m x) m
      (λ x old. false_from (is_claim y.claim x.claim && test m x) (λ on.
      let same = (are_one y.claim x.claim (and_parts (is_claim y.claim x.claim) (test m x) on).0).stamp in
      let low = given x old in
      let high = (of_seat y there).0 in
      absurd (omega arith)))

  kept_new : (a : Sections) (y : Claimed) → Among y ns → kept_of m n a y ≡ no_sections
  kept_new a y there =
      (λ i. cond (waits_first n y) (cond (stood_not waits_first y there i) (gone_on y.claim a m n) no_sections) (cond (stood_not waits_to_rise y there i) (gone_on y.claim a m n) no_sections)) ∙ at (waits_first n y)
    where
      at : (b : Bool) → cond b no_sections no_sections ≡ no_sections
      at true = refl
      at false = refl

  same_old : (a : Sections) (x : Claimed) → Among x m → gone_on x.claim a m n ≡ a
  same_old a x there = ap (gone_on x.claim a m) is ∙ same_kept s.issued m ns from reached.sound.given_out x.claim (given x there) a

  kept_old : (a : Sections) (x : Claimed) → Among x m → may_wait n x ≡ true → kept_of m n a x ≡ a
  kept_old a x there waits =
      both_cases (waits_first n x)
      (λ first.
      ap (λ b. cond b (kept_by waits_first x.claim a m n) (kept_by waits_to_rise x.claim a m n)) first
      ∙ ap (λ b. cond b (gone_on x.claim a m n) no_sections) (stands_in waits_first m x there first) ∙ same_old a x there)
      (λ not_first.
      let rise : waits_to_rise n x ≡ true = ap (λ b. b || waits_to_rise n x) (sym not_first) ∙ waits in
      ap (λ b. cond b (kept_by waits_first x.claim a m n) (kept_by waits_to_rise x.claim a m n)) not_first
      ∙ ap (λ b. cond b (gone_on x.claim a m n) no_sections) (stands_in waits_to_rise m x there (sym (rise_stays x there) ∙ rise)) ∙ same_old a x there)

  -- and what is kept of all waits is what was kept, except for the seat, whose wait begins
  pub kept_all : (table table' : ℕ → Sections) → ((other : ℕ) → table' other ≡ with_entry table seat no_sections other) → AllByRecursion (λ x. may_wait n x ≡ true → table' x.claim.seat ≡ kept_of m n (table x.claim.seat) x) n
  kept_all table table' are =
      all_from (λ x. may_wait n x ≡ true → table' x.claim.seat ≡ kept_of m n (table x.claim.seat) x) n
      (λ x there waits. elim (among_append m ns x (subst (Among x) is there)) [
        | inl old ↦
            are x.claim.seat ∙ ap (λ b. cond b no_sections (table x.claim.seat)) (false_from (x.claim.seat == seat) (λ same. absurd (elsewhere x old (eqb-true x.claim.seat seat same))))
            ∙ sym (kept_old (table x.claim.seat) x old waits)
        | inr new ↦
            are x.claim.seat ∙ ap (λ b. cond b no_sections (table x.claim.seat)) (eq-eqb x.claim.seat seat (of_seat x new).1)
            ∙ sym (kept_new (table x.claim.seat) x new)
      ])

  -- a claim of another seat was there, and waits as it did
  pub old_as_before : (x : Claimed) → Among x n → x.claim.seat ≢ seat → Among x m × (may_wait n x ≡ may_wait m x)
  old_as_before x there other = elim (among_append m ns x (subst (Among x) is there)) [
    | inl old ↦ (old, ap (λ b. waits_first m x || b) (rise_stays x old))
    | inr new ↦ absurd (other (of_seat x new).1)
  ]

  pub old_rises_as : (x : Claimed) → Among x n → x.claim.seat ≢ seat → Among x m × (waits_to_rise n x ≡ waits_to_rise m x)
  old_rises_as x there other = let old = (old_as_before x there other).0 in (old, rise_stays x old)

  -- the claims that were there come before the new ones
  pub first_there : (take (length m) n ≡ m) × (length m ≤ length n)
  first_there =
      let long = ap (λ (zs : Moment). length zs) is ∙ length-append m ns in
      (ap (λ (zs : Moment). take (length m) zs) is ∙ take-append-le (length m) m ns (omega arith) ∙ take_all (length m) m (omega arith), omega arith)

-- an event that is an issue
pub there_before : (s : LockState) (e : Event) → IsReached s → Comes s e → is_issue e ≡ true → (take (length s.claims) (next s e).claims ≡ s.claims) × (length s.claims ≤ length (next s e).claims)
there_before s (Issue seat r) reached comes issue = first_there s seat r reached comes
there_before s (Finish seat) reached comes issue = contrary false issue refl
there_before s (event.Rise seat) reached comes issue = contrary false issue refl
there_before s (event.Ask seat part) reached comes issue = contrary false issue refl

pub old_rises : (s : LockState) (e : Event) → IsReached s → Comes s e → is_issue e ≡ true → (x : Claimed) → Among x (next s e).claims → x.claim.seat ≢ seat_of e → Among x s.claims × (waits_to_rise (next s e).claims x ≡ waits_to_rise s.claims x)
old_rises s (Issue seat r) reached comes issue x there other = old_rises_as s seat r reached comes x there other
old_rises s (Finish seat) reached comes issue x there other = contrary false issue refl
old_rises s (event.Rise seat) reached comes issue x there other = contrary false issue refl
old_rises s (event.Ask seat part) reached comes issue x there other = contrary false issue refl

pub old_waits : (s : LockState) (e : Event) → IsReached s → Comes s e → is_issue e ≡ true → (x : Claimed) → Among x (next s e).claims → x.claim.seat ≢ seat_of e → Among x s.claims × (may_wait (next s e).claims x ≡ may_wait s.claims x)
old_waits s (Issue seat r) reached comes issue x there other = old_as_before s seat r reached comes x there other
old_waits s (Finish seat) reached comes issue x there other = contrary false issue refl
old_waits s (event.Rise seat) reached comes issue x there other = contrary false issue refl
old_waits s (event.Ask seat part) reached comes issue x there other = contrary false issue refl

pub begun_kept : (s : LockState) (e : Event) → IsReached s → Comes s e → is_issue e ≡ true → (table table' : ℕ → Sections) → ((other : ℕ) → table' other ≡ with_entry table (seat_of e) no_sections other)
    → AllByRecursion (λ x. may_wait (next s e).claims x ≡ true → table' x.claim.seat ≡ kept_of s.claims (next s e).claims (table x.claim.seat) x) (next s e).claims
begun_kept s (Issue seat r) reached comes issue table table' are = kept_all s seat r reached comes table table' are
begun_kept s (Finish seat) reached comes issue table table' are = contrary false issue refl
begun_kept s (event.Rise seat) reached comes issue table table' are = contrary false issue refl
begun_kept s (event.Ask seat part) reached comes issue table table' are = contrary false issue refl

pub begun_told : (s : LockState) (e : Event) → IsReached s → Comes s e → is_issue e ≡ true → (es : List Event) (table : ℕ → Sections) → told es s.claims (next s e).claims table ≡ []
begun_told s (Issue seat r) reached comes issue es table = none_told s seat r reached comes es table
begun_told s (Finish seat) reached comes issue es table = contrary false issue refl
begun_told s (event.Rise seat) reached comes issue es table = contrary false issue refl
begun_told s (event.Ask seat part) reached comes issue es table = contrary false issue refl
