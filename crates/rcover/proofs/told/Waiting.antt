-- If no seat waits, an event ends no wait; and which seats wait after it.
use Rattle.std.proofs.Common.{◌≡◌, ◌≢◌, ℕ, ◌≤◌, ◌==◌, ◌-◌, nat_lt, Bool, true, false, not, ◌&&◌, ◌||◌, cond, Option, Some, None, List, [], ◌∷◌, ◌++◌, arith, drop, length, map, take, refl, sym, ap, subst, ◌∙◌, inl, inr}
use Rattle.std.proofs.lemmas.Bool.{and_parts, and_from, eq-eqb, eqb-true}
use Rattle.std.proofs.lemmas.List.{length-drop, take-append-drop, take_all}
use Rattle.std.specs.List.{filter_map, cons_option, list_any, AllByRecursion}
use Rattle.std.specs.FinSet.{contains, empty, insert, is_subset, len, len-empty, remove, union}
use Rattle.std.specs.Ordering.{nat_cmp}
use Rattle.rset.specs.Sets.{Set}
use Rattle.rset.proofs.SetMembers.{contains_empty, contains_insert, contains_remove}
use Rattle.rset.proofs.SetsWithin.{within_at}
use Rattle.rclaim.specs.Events.{seat_of}
use Rattle.rclaim.specs.declared.claim.Claim.{Claim}
use Rattle.rclaim.specs.declared.event.Event.{Event}
use Rattle.rclaim.specs.declared.event.Event.TheVariants.{Issue, Finish}
use Rattle.rclaim.specs.declared.event.Event.TheVariants as event
use Rattle.rmodel.specs.declared.claimed.Claimed.{Claimed}
use Rattle.rmodel.specs.Claims.{claims_of, waiting}
use Rattle.rmodel.specs.Reached.{IsReached}
use Rattle.rmodel.specs.Rules.{SettlesAt}
use Rattle.rmodel.specs.Settling.{settled}
use Rattle.rmodel.specs.State.{LockState}
use Rattle.rmodel.specs.Steps.{asking, changed, gets_asked, given, next, with_asked, Comes}
use Rattle.rmodel.specs.WellFormed.{Among}
use Rattle.rmodel.proofs.ListFacts.{contrary, false_from, all_at, all_from, among_append, among_filter, any_among, none_among, none_from}
use Rattle.rmodel.proofs.reaching.Came.{among_map, came, zip_source}
use Rattle.rmodel.proofs.reaching.NewClaims.{IsNew, new_claims}
use Rattle.rmodel.proofs.reaching.Soundness.{seat_is_idle, sound_changed}
use Rattle.rmodel.proofs.settling.Keeping.{not_false}
use Rattle.rmodel.proofs.settling.OneSettlement.{both_cases}
use Rattle.rmodel.proofs.settling.Settlement.{settles_settled}
use Rattle.rbound.specs.declared.which.Which.{Which}
use Rattle.rcover_laws.specs.Ended.{wait_of}
use Rattle.rcover_laws.specs.History.{length_in}
use Rattle.rcover_laws.specs.Moments.{Moment, is_claim}
use Rattle.rcover_laws.specs.Sections.{Sections}
use Rattle.rcover_laws.specs.Told.{waits_first, waits_to_rise, stands}
use Rattle.rcover_laws.proofs.told.Few.{waits_told}
use Rattle.rcover.specs.Kept.{may_wait, kept_of}
use Rattle.rcover.specs.Follow.{with_entry}
use Rattle.rcover.specs.Past.{is_issue}
use Rattle.rcover.specs.Begun.{rises_at}
use Rattle.rcover.specs.Tracked.{gone_on, no_sections, told, told_if}
use Rattle.rcover.specs.NotedSeats.{some_wait, HoldWaiting}
use Rattle.rcover.specs.Waiting.{with_seat, first_of, ends_none}
use Rattle.rcover.proofs.ending.Quiet.{begun_kept, begun_told, old_waits, there_before}
use Rattle.rcover.proofs.told.Stood.{before, first_was, rise_was}
use Rattle.rcover.proofs.Waits.{first_is, rise_is, waits_is}

or_left : (a b : Bool) → a ≡ true → (a || b) ≡ true
or_left true b h = refl
or_left false b h = contrary false h refl

or_right : (a b : Bool) → b ≡ true → (a || b) ≡ true
or_right true b h = refl
or_right false b h = h

-- a claim whose seat is not in the set does not wait
module _ (n : Moment) (x : Claimed) (seats : Set) where
  not_by : (test : Bool) → (test ≡ true → contains seats x.claim.seat ≡ true) → contains seats x.claim.seat ≡ false → test ≡ false
  not_by test is off = false_from test (λ on. contrary (contains seats x.claim.seat) (is on) off)

  pub not_risen : (waits_to_rise n x ≡ true → contains seats x.claim.seat ≡ true) → contains seats x.claim.seat ≡ false → waits_to_rise n x ≡ false
  not_risen is off = not_by (waits_to_rise n x) is off

-- if the set has the seats of all claims of other seats that pass a test, it is known of one more seat
module _ (test : Moment → Claimed → Bool) (seats : Set) (n : Moment) (seat : ℕ) where
  abbrev passes : Bool
  passes = list_any (λ x. (x.claim.seat == seat) && test n x) n

  noted_by : ((x : Claimed) → Among x n → x.claim.seat ≢ seat → test n x ≡ true → contains seats x.claim.seat ≡ true)
      → AllByRecursion (λ x. test n x ≡ true → contains (cond passes (insert seats seat) (remove seats seat)) x.claim.seat ≡ true) n
  noted_by others =
      all_from (λ x. test n x ≡ true → contains (cond passes (insert seats seat) (remove seats seat)) x.claim.seat ≡ true) n
      (λ x there on. both_cases (x.claim.seat == seat)
      (λ own.
      let some : passes ≡ true = any_among (λ y. (y.claim.seat == seat) && test n y) n x there (and_from (x.claim.seat == seat) (test n x) own on) in
      ap (λ b. contains (cond b (insert seats seat) (remove seats seat)) x.claim.seat) some
      ∙ contains_insert seats seat x.claim.seat ∙ or_left (x.claim.seat == seat) (contains seats x.claim.seat) own)
      (λ other.
      let held = others x there (λ same. contrary (x.claim.seat == seat) (eq-eqb x.claim.seat seat same) other) on in
      at passes x.claim.seat held other))
    where
      at : (b : Bool) (l : ℕ) → contains seats l ≡ true → (l == seat) ≡ false → contains (cond b (insert seats seat) (remove seats seat)) l ≡ true
      at true l held other = contains_insert seats seat l ∙ or_right (l == seat) (contains seats l) held
      at false l held other = contains_remove seats seat l ∙ (λ i. not (other i) && held i)

pub noted_seat : (seats : Set) (n : Moment) (seat : ℕ) → ((x : Claimed) → Among x n → x.claim.seat ≢ seat → some_wait n x ≡ true → contains seats x.claim.seat ≡ true) → HoldWaiting (with_seat seats n seat) n
noted_seat seats n seat others = noted_by some_wait seats n seat others

-- ---- after an event

module _ (s : LockState) (e : Event) (reached : IsReached s) (comes : Comes s e) where
  abbrev m : Moment
  m = s.claims

  abbrev n : Moment
  n = (next s e).claims

  -- a claim of another seat was there, and asked for what it asks for
  pub in_changed : (e : Event) → Comes s e → (c : Claimed) → Among c (changed s e).claims → c.claim.seat ≢ seat_of e → Among c m
  in_changed (Issue seat r) comes c there other =
      let ns = map (waiting r.first) (claims_of s.groups.groups s.issued seat r) in
      elim (among_append m ns c there) [
        | inl old ↦ old
        | inr new ↦ absurd (other (all_at (IsNew s.issued seat) ns c (new_claims s.groups.groups s.issued seat r comes.normal).each new).seated)
      ]
  in_changed (Finish seat) comes c there other = (among_filter (λ x. not (x.claim.seat == seat)) m c there).0
  in_changed (event.Rise seat) comes c there other = (among_filter (λ x. not ((x.claim.seat == seat) && not x.claim.write_half)) m c there).0
  in_changed (event.Ask seat part) comes c there other =
      let w = among_map (asking seat part) m c there in
      let own : w.0.claim.seat ≡ c.claim.seat = sym (ap (λ (z : Claimed). z.claim.seat) w.2 ∙ kept (w.0.claim.seat == seat) w.0) in
      let off : (w.0.claim.seat == seat) ≡ false = false_from (w.0.claim.seat == seat) (λ same. absurd (other (sym own ∙ eqb-true w.0.claim.seat seat same))) in
      subst (λ (z : Claimed). Among z m) (sym (w.2 ∙ ap (λ b. cond b (record w.0 { asked = part }) w.0) off)) w.1
    where
      kept : (b : Bool) (w : Claimed) → (cond b (record w { asked = part }) w).claim.seat ≡ w.claim.seat
      kept true w = refl
      kept false w = refl

  -- a claim that asks for something did so once the event had changed it, and was granted as much
  pub asked_from : (x : Claimed) → Among x n → nat_lt 0 (len x.asked) ≡ true → (y : Claimed) × Among y (changed s e).claims × (y.claim ≡ x.claim) × (y.granted ≡ x.granted) × (y.asked ≡ x.asked)
  unfolding given
  asked_from x there asks =
      let S = settled (changed s e).claims in
      let w = among_map (with_asked S) S x there in
      let is : x ≡ w.0 = w.2 ∙ still (gets_asked S w.0) w.0 (ap (λ (z : Claimed). nat_lt 0 (len z.asked)) (sym w.2) ∙ asks) in
      let from = zip_source (SettlesAt (changed s e).claims S) (changed s e).claims S w.0 (settles_settled (changed s e).claims (sound_changed s e reached.sound comes).well_formed) w.1 in
      (from.0, from.1, sym (ap (λ (z : Claimed). z.claim) is ∙ from.2.same), sym (ap (λ (z : Claimed). z.granted) is ∙ from.2.granted), sym (ap (λ (z : Claimed). z.asked) is ∙ from.2.asked))
    where
      still : (b : Bool) (w : Claimed) → nat_lt 0 (len (cond b (record w { asked = empty; granted = union w.granted w.asked }) w).asked) ≡ true → cond b (record w { asked = empty; granted = union w.granted w.asked }) w ≡ w
      still true w asks = contrary (nat_lt 0 (len (empty {R = nat_cmp}))) asks (ap (nat_lt 0) (len-empty nat_cmp))
      still false w asks = refl

  asked_before : (x : Claimed) → Among x n → x.claim.seat ≢ seat_of e → nat_lt 0 (len x.asked) ≡ true → (y : Claimed) × Among y m × (y.claim ≡ x.claim) × (nat_lt 0 (len y.asked) ≡ true)
  asked_before x there other asks =
      let from = asked_from x there asks in
      (from.0, in_changed e comes from.0 from.1 (λ same. other (ap (λ (d : Claim). d.seat) (sym from.2) ∙ same)), from.2, ap (λ (a : Set). nat_lt 0 (len a)) from.4 ∙ asks)

  pub rises_not : (e : Event) (seat : ℕ) → seat ≢ seat_of e → rises_at e seat ≡ false
  rises_not (Issue t r) seat other = refl
  rises_not (Finish t) seat other = refl
  rises_not (event.Rise t) seat other = false_from (t == seat) (λ same. absurd (other (sym (eqb-true t seat same))))
  rises_not (event.Ask t part) seat other = refl

  may_before : (seats : Set) → HoldWaiting seats m → (x : Claimed) → Among x n → x.claim.seat ≢ seat_of e → may_wait n x ≡ true → contains seats x.claim.seat ≡ true
  may_before seats hold x there other waits =
      both_cases (is_issue e)
      (λ issue.
      let old = old_waits s e reached comes issue x there other in
      all_at (λ y. some_wait m y ≡ true → contains seats y.claim.seat ≡ true) m x hold old.0 (or_left (may_wait m x) (nat_lt 0 (len x.asked)) (sym old.1 ∙ waits)))
      (λ plain.
      let was = before s e reached comes plain x there in
      let held = all_at (λ y. some_wait m y ≡ true → contains seats y.claim.seat ≡ true) m was.0 hold was.1 in
      ap (λ (d : Claim). contains seats d.seat) was.2.claim
      ∙ held (or_left (may_wait m was.0) (nat_lt 0 (len was.0.asked)) (both_cases (waits_first n x)
      (λ first. or_left (waits_first m was.0) (waits_to_rise m was.0) (first_was s e reached comes plain x there first))
      (λ off. or_right (waits_first m was.0) (waits_to_rise m was.0) (rise_was s e reached comes plain x there (ap (λ b. b || waits_to_rise n x) (sym off) ∙ waits) (rises_not e x.claim.seat other))))))

  -- the seats that wait, except that of the event, waited before
  pub waited_before : (seats : Set) → HoldWaiting seats m → (x : Claimed) → Among x n → x.claim.seat ≢ seat_of e → some_wait n x ≡ true → contains seats x.claim.seat ≡ true
  waited_before seats hold x there other waits =
      both_cases (may_wait n x) (may_before seats hold x there other)
      (λ off.
      let y = asked_before x there other (ap (λ b. b || nat_lt 0 (len x.asked)) (sym off) ∙ waits) in
      ap (λ (d : Claim). contains seats d.seat) (sym y.2)
      ∙ all_at (λ z. some_wait m z ≡ true → contains seats z.claim.seat ≡ true) m y.0 hold y.1 (or_right (may_wait m y.0) (nat_lt 0 (len y.0.asked)) y.3))

  pub waiting_next : (seats : Set) → HoldWaiting seats m → HoldWaiting (with_seat seats n (seat_of e)) n
  waiting_next seats hold = noted_seat seats n (seat_of e) (waited_before seats hold)

  -- ---- if no seat waits

  module _ (seats : Set) (hold : HoldWaiting seats m) (none : is_subset seats empty ≡ true) where
    held_not : (l : ℕ) → contains seats l ≡ true → ⊥
    held_not l held = contrary (contains (empty) l) (within_at seats empty none l held) (contains_empty l)

    waits_not : (x : Claimed) → Among x m → some_wait m x ≡ true → ⊥
    waits_not x there waits = held_not x.claim.seat (all_at (λ y. some_wait m y ≡ true → contains seats y.claim.seat ≡ true) m x hold there waits)

    stood_not : (test : Moment → Claimed → Bool) → ((x : Claimed) → test m x ≡ true → some_wait m x ≡ true) → (c : Claim) → stands test c m ≡ false
    stood_not test is c =
        none_from (λ x. is_claim c x.claim && test m x) m
        (λ x there. false_from (is_claim c x.claim && test m x) (λ on. absurd (waits_not x there (is x (and_parts (is_claim c x.claim) (test m x) on).1))))

    kept_none : (a : Sections) (x : Claimed) → kept_of m n a x ≡ no_sections
    kept_none a x =
        (λ i. cond (waits_first n x) (cond (stood_not waits_first (first_is m) x.claim i) (gone_on x.claim a m n) no_sections) (cond (stood_not waits_to_rise (rise_is m) x.claim i) (gone_on x.claim a m n) no_sections)) ∙ at (waits_first n x)
      where
        at : (b : Bool) → cond b no_sections no_sections ≡ no_sections
        at true = refl
        at false = refl

    pub calm_kept : (table table' : ℕ → Sections) → ((other : ℕ) → table' other ≡ with_entry table (seat_of e) no_sections other) → AllByRecursion (λ x. may_wait n x ≡ true → table' x.claim.seat ≡ kept_of m n (table x.claim.seat) x) n
    calm_kept table table' are =
        all_from (λ x. may_wait n x ≡ true → table' x.claim.seat ≡ kept_of m n (table x.claim.seat) x) n
        (λ x there waits. both_cases (x.claim.seat == seat_of e)
        (λ own. are x.claim.seat ∙ ap (λ b. cond b no_sections (table x.claim.seat)) own ∙ sym (kept_none (table x.claim.seat) x))
        (λ other. absurd (held_not x.claim.seat (may_before seats hold x there (λ same. contrary (x.claim.seat == seat_of e) (eq-eqb x.claim.seat (seat_of e) same) other) waits))))

    pub calm_told : (es : List Event) (table : ℕ → Sections) → told es m n table ≡ []
    calm_told es table = all_none m (λ x there. there)
      where
        of_one : (x : Claimed) → Among x m → (o : Option Which) → wait_of es m x ≡ o → told_if (length_in es) m n table x o ≡ None
        of_one x there None told_so = refl
        of_one x there (Some w) told_so = absurd (waits_not x there (waits_is m w x (waits_told es m x w told_so)))

        all_none : (xs : Moment) → ((x : Claimed) → Among x xs → Among x m) → filter_map (λ x. told_if (length_in es) m n table x (wait_of es m x)) xs ≡ []
        all_none [] within = refl
        all_none (x ∷ xs) within = (λ i. cons_option (of_one x (within x (inl refl)) (wait_of es m x) refl i) (all_none xs (λ y there. within y (inr there)) i))

  -- ---- if it ends no wait: it is an issue, or no seat waits

  module _ (seats : Set) (hold : HoldWaiting seats m) (calm : ends_none seats e ≡ true) where
    pub calm_all : (table table' : ℕ → Sections) → ((other : ℕ) → table' other ≡ with_entry table (seat_of e) no_sections other) → AllByRecursion (λ x. may_wait n x ≡ true → table' x.claim.seat ≡ kept_of m n (table x.claim.seat) x) n
    calm_all table table' are =
        both_cases (is_issue e)
        (λ issue. begun_kept s e reached comes issue table table' are)
        (λ plain. calm_kept seats hold (ap (λ b. b || is_subset seats empty) (sym plain) ∙ calm) table table' are)

    pub calm_none : (es : List Event) (table : ℕ → Sections) → told es m n table ≡ []
    calm_none es table =
        both_cases (is_issue e)
        (λ issue. begun_told s e reached comes issue es table)
        (λ plain. calm_told seats hold (ap (λ b. b || is_subset seats empty) (sym plain) ∙ calm) es table)

-- an event that may end a wait is no issue
pub plain_of : (seats : Set) (e : Event) → ends_none seats e ≡ false → is_issue e ≡ false
plain_of seats e may = false_from (is_issue e) (λ issue. contrary (ends_none seats e) (or_left (is_issue e) (is_subset seats empty) issue) may)

-- ---- where the claims of the seat of an event are

-- a test of the claims after a place, if no claim before it can pass
pub any_behind : (p q : Claimed → Bool) → ((x : Claimed) → p x ≡ true → q x ≡ true) → (i : ℕ) (xs : Moment) → list_any q (take i xs) ≡ false → list_any p (drop i xs) ≡ list_any p xs
any_behind p q within i xs none =
    sym (ap (list_any p) (sym (take-append-drop i xs)) ∙ joined (take i xs) (drop i xs)
    ∙ ap (λ b. b || list_any p (drop i xs)) (none_from p (take i xs) (λ x there. false_from (p x) (λ on. contrary (q x) (within x on) (none_among q (take i xs) x none there)))))
  where
    joined : (ys zs : Moment) → list_any p (ys ++ zs) ≡ (list_any p ys || list_any p zs)
    joined [] zs = refl
    joined (y ∷ ys) zs = ap (λ b. p y || b) (joined ys zs) ∙ over (p y) (list_any p ys) (list_any p zs)
      where
        over : (a b c : Bool) → (a || (b || c)) ≡ ((a || b) || c)
        over true b c = refl
        over false b c = refl

-- what is in a list from a place on
pub rest_is : (xs : Moment) (i : ℕ) → take (length xs - i) (drop i xs) ≡ drop i xs
rest_is xs i = let long = length-drop i xs in take_all (length xs - i) (drop i xs) (omega arith)

-- a finish leaves no claim of its seat
pub none_left : (s : LockState) (seat : ℕ) → IsReached s → Comes s (Finish seat) → list_any (λ x. x.claim.seat == seat) (next s (Finish seat)).claims ≡ false
none_left s seat reached comes =
    none_from (λ x. x.claim.seat == seat) (next s (Finish seat)).claims
    (λ x there. false_from (x.claim.seat == seat) (λ on.
    let from = came s (Finish seat) reached comes x there in
    let same : x.claim.seat ≡ from.0.claim.seat = ap (λ (d : Claim). d.seat) (from.1.given.claim ∙ from.1.by_rule.same) in
    let kept = (among_filter (λ y. not (y.claim.seat == seat)) s.claims from.0 from.1.in_changed).1 in
    contrary (from.0.claim.seat == seat) (eq-eqb from.0.claim.seat seat (sym same ∙ eqb-true x.claim.seat seat on)) (not_false (from.0.claim.seat == seat) kept)))

pub none_before : (s : LockState) (e : Event) → IsReached s → Comes s e → (there : ℕ) → there ≡ length s.claims
    → (first_of e there (length (next s e).claims) ≤ length (next s e).claims) × (list_any (λ x. x.claim.seat == seat_of e) (take (first_of e there (length (next s e).claims)) (next s e).claims) ≡ false)
none_before s (Issue seat r) reached comes there is =
    let was = there_before s (Issue seat r) reached comes refl in (
      subst (λ k. k ≤ length (next s (Issue seat r)).claims) (sym is) was.1,
      ap (λ k. list_any (λ x. x.claim.seat == seat) (take k (next s (Issue seat r)).claims)) is ∙ ap (list_any (λ x. x.claim.seat == seat)) was.0 ∙ seat_is_idle s seat r comes.accepted,
    )
none_before s (Finish seat) reached comes there is =
    let n = (next s (Finish seat)).claims in (
      omega arith,
      ap (list_any (λ x. x.claim.seat == seat)) (take_all (length n) n (omega arith)) ∙ none_left s seat reached comes,
    )
none_before s (event.Rise seat) reached comes there is = (omega arith, refl)
none_before s (event.Ask seat part) reached comes there is = (omega arith, refl)
