-- A wait that an event ends is seen by a grant, unless an ask ends with it.
use Rattle.std.proofs.Common.{◌≡◌, ◌≢◌, ◌==◌, Bool, true, false, not, ◌&&◌, cond, Option, Some, None, List, [], ◌∷◌, find, refl, sym, ap, subst, ◌∙◌, inl, inr}
use Rattle.std.proofs.lemmas.Bool.{and_parts, and_from, eq-eqb, eqb-true}
use Rattle.std.specs.List.{filter_map, cons_option}
use Rattle.std.specs.Option.{unwrap_or}
use Rattle.std.specs.FinSet.{empty}
use Rattle.rclaim.specs.Events.{seat_of}
use Rattle.rclaim.specs.declared.changes.GrantChange.{GrantChange}
use Rattle.rclaim.specs.Codes.{number_of}
use Rattle.rclaim.specs.declared.changes.StatusChange.{StatusChange}
use Rattle.rclaim.specs.declared.claim.Claim.{Claim}
use Rattle.rclaim.specs.declared.claim.Status.{Status}
use Rattle.rclaim.specs.declared.claim.Status.TheVariants.{Waiting, Entitled, Satisfied}
use Rattle.rclaim.specs.declared.event.Event.{Event}
use Rattle.rclaim.specs.declared.event.Event.TheVariants.{Issue, Finish}
use Rattle.rclaim.specs.declared.event.Event.TheVariants as event
use Rattle.rmodel.specs.declared.claimed.Claimed.{Claimed}
use Rattle.rmodel.specs.Changes.{is_same, is_claim_of, claim_at, was_in, grant_change, status_change, changes_between}
use Rattle.rmodel.specs.Claims.{is_satisfied, satisfied_by, is_upgrade, is_nested, waiting}
use Rattle.rmodel.specs.Holds.{held_by, is_nothing, is_within, nothing}
use Rattle.rmodel.specs.Reached.{IsReached}
use Rattle.rmodel.specs.State.{LockState}
use Rattle.rmodel.specs.StateLaws.{gives_back}
use Rattle.rmodel.specs.Steps.{next, Comes}
use Rattle.rmodel.specs.WellFormed.{Among, EachPair, Distinct, IsClaim}
use Rattle.rmodel.proofs.ListFacts.{contrary, false_from, all_at, any_among, none_among, none_from, pair_among, passing}
use Rattle.rmodel.proofs.reaching.Came.{goes, left}
use Rattle.rmodel.proofs.reaching.Growing.{IsGrown, grown}
use Rattle.rmodel.proofs.reaching.HeldBySeat.{nothing_of, is_nothing_of, within_nothing, held_of_plain, held_of_unsatisfied}
use Rattle.rmodel.proofs.reaching.OneOfSeat.{not_nested}
use Rattle.rmodel.proofs.reaching.Reached.{reached_next}
use Rattle.rmodel.proofs.reaching.Soundness.{read_of_half}
use Rattle.rmodel.proofs.settling.Keeping.{not_false}
use Rattle.rmodel.proofs.settling.OneSettlement.{both_cases}
use Rattle.rbound.specs.declared.which.Which.{Which}
use Rattle.rbound.specs.declared.which.Which.TheVariants.{First, Rise, Ask}
use Rattle.rcover_laws.specs.Ended.{waits_in}
use Rattle.rcover_laws.specs.Moments.{Moment, is_claim}
use Rattle.rcover_laws.specs.Told.{is_rising_half, waits_first, has_read_claim, waits_to_rise, waits_for_ask, stands}
use Rattle.rcover_laws.proofs.lists.Different.{among_filter_map}
use Rattle.rcover_laws.proofs.runs.Moments.{is_itself}
use Rattle.rcover.specs.Past.{is_issue}
use Rattle.rcover.specs.Quiet.{has_grant, is_quiet}
use Rattle.rcover.specs.Lines.{tells_write_of}
use Rattle.rcover.proofs.told.Stood.{before, rising_parts}
use Rattle.rcover.proofs.heads_told.Taken.{one_write}

among_found : {X Y : Type 0} (f : X → Option Y) (xs : List X) (x : X) (y : Y) → Among x xs → f x ≡ Some y → Among y (filter_map f xs)
among_found f [] x y there is = absurd there
among_found {X} {Y} f (z ∷ zs) x y (inl same) is = subst (λ (o : Option Y). Among y (cons_option o (filter_map f zs))) (sym (ap f (sym same) ∙ is)) (inl refl)
among_found {X} {Y} f (z ∷ zs) x y (inr later) is = more (f z) (among_found f zs x y later is)
  where
    more : (o : Option Y) → Among y (filter_map f zs) → Among y (cons_option o (filter_map f zs))
    more None h = h
    more (Some w) h = inr h

same_half : (b : Bool) → is_same b b ≡ true
same_half true = refl
same_half false = refl

halves_same : (a b : Bool) → is_same a b ≡ true → a ≡ b
halves_same true b h = sym h
halves_same false true h = contrary false h refl
halves_same false false h = refl

module _ (xs : Moment) (distinct : EachPair Distinct xs) (x : Claimed) (there : Among x xs) where
  one_only : (z : Claimed) → Among z xs → is_claim_of x.claim.seat x.claim.write_half z ≡ true → z ≡ x
  one_only z in_xs on =
      let parts = and_parts (z.claim.seat == x.claim.seat) (is_same z.claim.write_half x.claim.write_half) on in
      let seated = eqb-true z.claim.seat x.claim.seat parts.0 in
      let half = halves_same z.claim.write_half x.claim.write_half parts.1 in
      elim (pair_among Distinct xs z x distinct in_xs there) [
        | inl same ↦ same
        | inr (inl two) ↦ (let h = two seated in contrary x.claim.write_half h.writes (sym half ∙ read_of_half z.claim h.reads))
        | inr (inr two) ↦ (let h = two (sym seated) in contrary z.claim.write_half h.writes (half ∙ read_of_half x.claim h.reads))
      ]

  found_one : (zs : Moment) → ((z : Claimed) → Among z zs → Among z xs) → Among x zs → find (is_claim_of x.claim.seat x.claim.write_half) zs ≡ Some x
  found_one [] within here = absurd here
  found_one (z ∷ zs) within (inl same) =
      ap (λ b. cond b (Some z) (find (is_claim_of x.claim.seat x.claim.write_half) zs))
      (ap (is_claim_of x.claim.seat x.claim.write_half) (sym same) ∙ and_from (x.claim.seat == x.claim.seat) (is_same x.claim.write_half x.claim.write_half) (eq-eqb x.claim.seat x.claim.seat refl) (same_half x.claim.write_half))
      ∙ ap Some (sym same)
  found_one (z ∷ zs) within (inr later) =
      both_cases (is_claim_of x.claim.seat x.claim.write_half z)
      (λ on. ap (λ b. cond b (Some z) (find (is_claim_of x.claim.seat x.claim.write_half) zs)) on ∙ ap Some (one_only z (within z (inl refl)) on))
      (λ off. ap (λ b. cond b (Some z) (find (is_claim_of x.claim.seat x.claim.write_half) zs)) off ∙ found_one zs (λ w h. within w (inr h)) later)

module _ (s : LockState) (e : Event) (reached : IsReached s) (comes : Comes s e) (old : is_issue e ≡ false) (x : Claimed) (there : Among x s.claims) (quiet : is_quiet (seat_of e) (changes_between s (next s e)).grants x ≡ true) where
  abbrev m : Moment
  m = s.claims

  abbrev n : Moment
  n = (next s e).claims

  parts : (not (x.claim.seat == seat_of e) ≡ true) × (not (waits_for_ask [] x) ≡ true) × (not (has_grant (changes_between s (next s e)).grants x.claim.seat) ≡ true)
  parts =
      let a = and_parts (not (x.claim.seat == seat_of e)) ((not (waits_for_ask [] x)) && not (has_grant (changes_between s (next s e)).grants x.claim.seat)) quiet in
      let b = and_parts (not (waits_for_ask [] x)) (not (has_grant (changes_between s (next s e)).grants x.claim.seat)) a.1 in
      (a.0, b.0, b.1)

  elsewhere : x.claim.seat ≢ seat_of e
  elsewhere same = contrary (not (x.claim.seat == seat_of e)) parts.0 (ap not (eq-eqb x.claim.seat (seat_of e) same))

  stays : (e : Event) → x.claim.seat ≢ seat_of e → gives_back x.claim.seat e ≡ false
  stays (Issue t r) apart = refl
  stays (Finish t) apart = false_from (t == x.claim.seat) (λ same. absurd (apart (sym (eqb-true t x.claim.seat same))))
  stays (event.Rise t) apart = false_from (t == x.claim.seat) (λ same. absurd (apart (sym (eqb-true t x.claim.seat same))))
  stays (event.Ask t part) apart = refl

  -- the claim after the event
  on : (y : Claimed) × Among y n × IsGrown x y
  on =
      let to = left s e x there (stays e elsewhere) in
      let y = goes s e reached comes to.to to.there in
      (y.0, y.1.in_next, grown s e x to.to y.0 to.still y.1)

  no_grant : grant_change (was_in m on.0.claim) on.0 ≡ None
  unfolding changes_between
  no_grant = at (grant_change (was_in m on.0.claim) on.0) refl
    where
      at : (o : Option GrantChange) → grant_change (was_in m on.0.claim) on.0 ≡ o → o ≡ None
      at None is = refl
      at (Some g) is =
          let given = among_found (λ y. grant_change (was_in m y.claim) y) n on.0 g on.1 is in
          let seat : g.seat ≡ x.claim.seat = of_seat (is_within (held_by on.0) (held_by (was_in m on.0.claim))) g is ∙ ap (λ d. d.seat) on.2.claim in
          contrary (has_grant (changes_between s (next s e)).grants x.claim.seat) (any_among (λ (h : GrantChange). h.seat == x.claim.seat) (changes_between s (next s e)).grants g given (eq-eqb g.seat x.claim.seat seat))
          (not_true (has_grant (changes_between s (next s e)).grants x.claim.seat) parts.2)
        where
          not_true : (b : Bool) → not b ≡ true → b ≡ false
          not_true true h = contrary false h refl
          not_true false h = refl

          of_seat : (b : Bool) (g : GrantChange) → cond b None (Some (record { seat = on.0.claim.seat; reads = (held_by on.0).reads; writes = (held_by on.0).writes })) ≡ Some g → g.seat ≡ on.0.claim.seat
          of_seat true g h = cc
          of_seat false g h = cc

  was_is : was_in m on.0.claim ≡ x
  was_is =
      ap (λ (d : Claim). unwrap_or (claim_at m d.seat d.write_half) (waiting empty d)) on.2.claim
      ∙ ap (λ o. unwrap_or o (waiting empty x.claim)) (found_one m reached.sound.one_each x there m (λ z h. h) there)

  -- it holds no more than before
  holds_no_more : is_within (held_by on.0) (held_by x) ≡ true
  holds_no_more =
      ap (λ w. is_within (held_by on.0) (held_by w)) (sym was_is)
      ∙ both_cases (is_within (held_by on.0) (held_by (was_in m on.0.claim))) (λ h. h)
      (λ off. absurd (some_grant (sym (ap (λ b. cond b None (Some (record { seat = on.0.claim.seat; reads = (held_by on.0).reads; writes = (held_by on.0).writes }))) off) ∙ no_grant)))
    where
      some_grant : {g : GrantChange} → Some g ≡ None → ⊥
      some_grant h = cc

  holds_none : held_by x ≡ nothing → held_by on.0 ≡ nothing
  holds_none none = within_nothing (held_by on.0) (subst (λ g. is_within (held_by on.0) g ≡ true) none holds_no_more)

  stands_by : (test : Moment → Claimed → Bool) → test n on.0 ≡ true → stands test x.claim n ≡ true
  stands_by test passes =
      any_among (λ z. is_claim x.claim z.claim && test n z) n on.0 on.1 (and_from (is_claim x.claim on.0.claim) (test n on.0) (ap (is_claim x.claim) on.2.claim ∙ is_itself x.claim) passes)

  rise_goes : waits_to_rise m x ≡ true → waits_to_rise n on.0 ≡ true
  rise_goes rises =
      let r = rising_parts s e reached comes old m x rises in
      let kind = and_parts (is_upgrade x.claim.kind) x.claim.write_half r.0 in
      let plain = not_nested x.claim.kind kind.0 in
      let plain_on = ap (λ d. is_nested d.kind) on.2.claim ∙ plain in
      let unsat : is_satisfied on.0 ≡ false
      = false_from (is_satisfied on.0) (λ sat.
      (all_at (λ z. IsClaim z.claim) m x reached.sound.well_formed.claims there).writes_some kind.1
      (ap (λ d. d.writes) (sym on.2.claim) ∙ ap (λ g. g.writes) (sym (held_of_plain on.0 plain_on sat) ∙ holds_none (held_of_unsatisfied x plain r.2)))) in
      let none : has_read_claim n x.claim ≡ false
      = none_from (λ y. (y.claim.seat == x.claim.seat) && not y.claim.write_half) n
      (λ z in_n. false_from ((z.claim.seat == x.claim.seat) && not z.claim.write_half) (λ reads.
      let was = before s e reached comes old z in_n in
      contrary ((was.0.claim.seat == x.claim.seat) && not was.0.claim.write_half) (ap (λ (d : Claim). (d.seat == x.claim.seat) && not d.write_half) (sym was.2.claim) ∙ reads)
      (none_among (λ y. (y.claim.seat == x.claim.seat) && not y.claim.write_half) m was.0 r.1 was.1))) in
      and_from (is_rising_half on.0.claim && not (has_read_claim n on.0.claim)) (not (is_satisfied on.0))
      (and_from (is_rising_half on.0.claim) (not (has_read_claim n on.0.claim)) (ap is_rising_half on.2.claim ∙ r.0) (ap (λ d. not (has_read_claim n d)) on.2.claim ∙ ap not none)) (ap not unsat)

  first_goes : waits_first m x ≡ true → waits_first n on.0 ≡ true
  first_goes first =
      let p = and_parts (is_nothing (held_by x)) (not (is_rising_half x.claim)) first in
      and_from (is_nothing (held_by on.0)) (not (is_rising_half on.0.claim)) (is_nothing_of (held_by on.0) (holds_none (nothing_of (held_by x) p.0))) (ap (λ d. not (is_rising_half d)) on.2.claim ∙ p.1)

  -- its wait goes on
  pub goes_on : (w : Which) → waits_in w m x ≡ true → stands (waits_in w) x.claim n ≡ true
  goes_on First waits = stands_by waits_first (first_goes waits)
  goes_on Rise waits = stands_by waits_to_rise (rise_goes waits)
  goes_on (Ask k) waits = contrary (waits_for_ask [] x) waits (not_false (waits_for_ask [] x) parts.1)

-- ---- a write that becomes satisfied is reported

same_satisfied : (a b : Status) → (number_of a == number_of b) ≡ true → satisfied_by b ≡ true → satisfied_by a ≡ true
same_satisfied Satisfied b same sat = refl
same_satisfied Waiting Satisfied same sat = contrary (0 == 2) same refl
same_satisfied Entitled Satisfied same sat = contrary (1 == 2) same refl
same_satisfied Waiting Waiting same sat = sat
same_satisfied Waiting Entitled same sat = sat
same_satisfied Entitled Waiting same sat = contrary (1 == 0) same refl
same_satisfied Entitled Entitled same sat = sat

module _ (s : LockState) (e : Event) (reached : IsReached s) (comes : Comes s e) (old : is_issue e ≡ false) where
  abbrev told : List StatusChange
  told = (changes_between s (next s e)).statuses

  -- a write that becomes satisfied is reported with its seat
  pub is_told : (y z : Claimed) → Among y (next s e).claims → Among z s.claims → y.claim ≡ z.claim → y.claim.write_half ≡ true → is_satisfied y ≡ true → is_satisfied z ≡ false → tells_write_of told y.claim.seat ≡ true
  unfolding changes_between
  is_told y z in_next in_claims claim half sat unsat =
      let was : was_in s.claims y.claim ≡ z
      = ap (λ (d : Claim). unwrap_or (claim_at s.claims d.seat d.write_half) (waiting empty d)) claim
      ∙ ap (λ o. unwrap_or o (waiting empty z.claim)) (found_one s.claims reached.sound.one_each z in_claims s.claims (λ w h. h) in_claims) in
      let changed_status : (number_of z.status == number_of y.status) ≡ false
      = false_from (number_of z.status == number_of y.status) (λ same. contrary (is_satisfied z) (same_satisfied z.status y.status same sat) unsat) in
      let change : StatusChange = record { seat = y.claim.seat; write_half = y.claim.write_half; status = y.status } in
      let is : status_change (was_in s.claims y.claim) y ≡ Some change = ap (λ (w : Claimed). status_change w y) was ∙ ap (λ b. cond b None (Some change)) changed_status in
      any_among (λ (c : StatusChange). (c.seat == y.claim.seat) && (c.write_half && satisfied_by c.status)) told change
      (among_found (λ x. status_change (was_in s.claims x.claim) x) (next s e).claims y change in_next is)
      (and_from (y.claim.seat == y.claim.seat) (y.claim.write_half && satisfied_by y.status) (eq-eqb y.claim.seat y.claim.seat refl) (and_from y.claim.write_half (satisfied_by y.status) half sat))

  -- and a write that is reported is satisfied
  pub told_is : (y : Claimed) → Among y (next s e).claims → y.claim.write_half ≡ true → tells_write_of told y.claim.seat ≡ true → is_satisfied y ≡ true
  unfolding changes_between
  told_is y in_next half on =
      let change = passing (λ (c : StatusChange). (c.seat == y.claim.seat) && (c.write_half && satisfied_by c.status)) told on in
      let from = among_filter_map (λ x. status_change (was_in s.claims x.claim) x) (next s e).claims change.0 change.1 in
      let is = of_change (number_of (was_in s.claims from.0.claim).status == number_of from.0.status) from.0 change.0 from.2 in
      let parts = and_parts (change.0.seat == y.claim.seat) (change.0.write_half && satisfied_by change.0.status) change.2 in
      let more = and_parts change.0.write_half (satisfied_by change.0.status) parts.1 in
      let one : from.0 ≡ y
      = one_write (next s e).claims (reached_next s e reached comes).sound.one_each from.0 y from.1 in_next (ap (λ (c : StatusChange). c.write_half) (sym is) ∙ more.0) half
      (ap (λ (c : StatusChange). c.seat) (sym is) ∙ eqb-true change.0.seat y.claim.seat parts.0) in
      ap is_satisfied (sym one) ∙ ap (λ (c : StatusChange). satisfied_by c.status) (sym is) ∙ more.1
    where
      of_change : (b : Bool) (y : Claimed) (c : StatusChange) → cond b None (Some (record { seat = y.claim.seat; write_half = y.claim.write_half; status = y.status })) ≡ Some c → c ≡ record { seat = y.claim.seat; write_half = y.claim.write_half; status = y.status }
      of_change true y c h = cc
      of_change false y c h = cc
