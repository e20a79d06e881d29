-- Which waits begin with an event that is no issue: that of the upgrade that rises, and no other.
use Rattle.std.proofs.Common.{◌≡◌, ℕ, ◌<◌, ◌==◌, Bool, true, false, not, ◌&&◌, List, refl, sym, ap, subst, ◌∙◌, arith, inl, inr}
use Rattle.std.proofs.lemmas.Bool.{and_parts, and_from, eq-eqb, eqb-true}
use Rattle.std.specs.List.{list_any}
use Rattle.rexpand.specs.Groups.{ReadGroups}
use Rattle.rclaim.specs.declared.claim.Claim.{Claim}
use Rattle.rclaim.specs.declared.event.Event.{Event}
use Rattle.rclaim.specs.declared.event.Event.TheVariants.{Issue, Finish}
use Rattle.rclaim.specs.declared.event.Event.TheVariants as event
use Rattle.rmodel.specs.declared.claimed.Claimed.{Claimed}
use Rattle.rmodel.specs.Claims.{is_satisfied, is_read_half, is_upgrade}
use Rattle.rmodel.specs.Holds.{held_by, is_nothing, is_within, may_rise}
use Rattle.rmodel.specs.Reached.{IsReached}
use Rattle.rmodel.specs.State.{LockState, opening}
use Rattle.rmodel.specs.StateLaws.{gives_back}
use Rattle.rmodel.specs.Steps.{changed, next, after, is_not_holding, Comes, AreAccepted}
use Rattle.rmodel.specs.WellFormed.{Among, Distinct}
use Rattle.rmodel.proofs.ListFacts.{contrary, false_from, all_at, any_among, none_among, none_from, passing, among_filter, pair_among}
use Rattle.rmodel.proofs.reaching.Came.{came, goes, origin, left}
use Rattle.rmodel.proofs.reaching.Growing.{IsGrown, grown, grown_holds}
use Rattle.rmodel.proofs.reaching.HeldBySeat.{nothing_of, is_nothing_of, within_nothing}
use Rattle.rmodel.proofs.reaching.Reached.{reached_after, reached_next, reached_opening}
use Rattle.rmodel.proofs.reaching.Soundness.{passed, read_of_half}
use Rattle.rmodel.proofs.settling.Keeping.{not_false}
use Rattle.rmodel.proofs.settling.OneSettlement.{both_cases}
use Rattle.rbound.specs.declared.which.Which.{Which}
use Rattle.rbound.specs.declared.which.Which.TheVariants.{First, Rise, Ask}
use Rattle.rcover_laws.specs.Ended.{waits_in}
use Rattle.rcover_laws.specs.Moments.{Moment, is_claim}
use Rattle.rcover_laws.specs.Told.{is_rising_half, waits_first, has_read_claim, waits_to_rise, stands}
use Rattle.rcover_laws.proofs.runs.Moments.{is_itself}
use Rattle.rcover.specs.Past.{is_issue}
use Rattle.rcover.specs.Begun.{rises_at}
use Rattle.rcover.proofs.over.Tracking.{is_ask, was_before}

module _ (s : LockState) (e : Event) (reached : IsReached s) (comes : Comes s e) (old : is_issue e ≡ false) where
  abbrev m : Moment
  m = s.claims

  abbrev n : Moment
  n = (next s e).claims

  -- no claim comes with it
  not_new : (e : Event) → is_issue e ≡ false → (next s e).issued ≡ s.issued
  not_new (Issue seat r) old = contrary true refl old
  not_new (Finish seat) old = refl
  not_new (event.Rise seat) old = refl
  not_new (event.Ask seat part) old = refl

  -- each claim after it was there, and is at least as far
  pub before : (x : Claimed) → Among x n → (y : Claimed) × Among y m × IsGrown y x
  before x there =
      let c = came s e reached comes x there in
      let low = all_at (λ z. z.claim.stamp < (next s e).issued) n x (reached_next s e reached comes).sound.given_out there in
      let same = not_new e old in
      let stamps = ap (λ (d : Claim). d.stamp) (c.1.given.claim ∙ c.1.by_rule.same) in
      elim (origin s e comes c.0 c.1.in_changed) [
        | inl was ↦ (was.was, was.there, grown s e was.was c.0 x was.still c.1)
        | inr new ↦ (let stamped = new.stamped in absurd (omega arith))
      ]

  stands_by : (test : Moment → Claimed → Bool) (c : Claim) (y : Claimed) → Among y m → c ≡ y.claim → test m y ≡ true → stands test c m ≡ true
  stands_by test c y there same passes =
      any_among (λ z. is_claim c z.claim && test m z) m y there (and_from (is_claim c y.claim) (test m y) (ap (is_claim c) (sym same) ∙ is_itself c) passes)

  -- a first wait was a first wait before it
  pub first_was : (x : Claimed) → (there : Among x n) → waits_first n x ≡ true → waits_first m (before x there).0 ≡ true
  first_was x there on =
      let was = before x there in
      let parts = and_parts (is_nothing (held_by x)) (not (is_rising_half x.claim)) on in
      let none = within_nothing (held_by was.0) (subst (λ g. is_within (held_by was.0) g ≡ true) (nothing_of (held_by x) parts.0) (grown_holds was.0 x was.2)) in
      and_from (is_nothing (held_by was.0)) (not (is_rising_half was.0.claim)) (is_nothing_of (held_by was.0) none) (ap (λ d. not (is_rising_half d)) (sym was.2.claim) ∙ parts.1)

  first_stood : (x : Claimed) → Among x n → waits_first n x ≡ true → stands waits_first x.claim m ≡ true
  first_stood x there on = let was = before x there in stands_by waits_first x.claim was.0 was.1 was.2.claim (first_was x there on)

  pub rising_parts : (k : Moment) (x : Claimed) → waits_to_rise k x ≡ true → (is_rising_half x.claim ≡ true) × (has_read_claim k x.claim ≡ false) × (is_satisfied x ≡ false)
  rising_parts k x on =
      let parts = and_parts (is_rising_half x.claim && not (has_read_claim k x.claim)) (not (is_satisfied x)) on in
      let first = and_parts (is_rising_half x.claim) (not (has_read_claim k x.claim)) parts.0 in
      (first.0, not_false (has_read_claim k x.claim) first.1, not_false (is_satisfied x) parts.1)

  -- a seat that still has a claim neither finishes nor, except the one that rises, gives back a part
  not_given : (e : Event) → Comes s e → is_issue e ≡ false → (c : Claim) → (x : Claimed) → Among x (changed s e).claims → x.claim ≡ c → rises_at e c.seat ≡ false → gives_back c.seat e ≡ false
  not_given (Issue seat r) comes old c x there is rises = refl
  not_given (Finish seat) comes old c x there is rises =
      false_from (seat == c.seat) (λ same.
      contrary (x.claim.seat == seat) (eq-eqb x.claim.seat seat (ap (λ (d : Claim). d.seat) is ∙ sym (eqb-true seat c.seat same))) (not_false (x.claim.seat == seat) (among_filter (λ x. not (x.claim.seat == seat)) s.claims x there).1))
  not_given (event.Rise seat) comes old c x there is rises = rises
  not_given (event.Ask seat part) comes old c x there is rises = refl

  -- and so was the wait of an upgrade to rise, except the one that rises
  pub rise_was : (x : Claimed) → (there : Among x n) → waits_to_rise n x ≡ true → rises_at e x.claim.seat ≡ false → waits_to_rise m (before x there).0 ≡ true
  rise_was x there on rises =
      let was = before x there in
      let parts = rising_parts n x on in
      let from = came s e reached comes x there in
      let stays = not_given e comes old x.claim from.0 from.1.in_changed (sym (from.1.given.claim ∙ from.1.by_rule.same)) rises in
      let unsat : is_satisfied was.0 ≡ false = false_from (is_satisfied was.0) (λ sat. contrary (is_satisfied x) (was.2.satisfied sat) parts.2) in
      let none : has_read_claim m x.claim ≡ false
      = none_from (λ y. (y.claim.seat == x.claim.seat) && not y.claim.write_half) m
      (λ z in_m. false_from ((z.claim.seat == x.claim.seat) && not z.claim.write_half) (λ reads.
      let seated = eqb-true z.claim.seat x.claim.seat (and_parts (z.claim.seat == x.claim.seat) (not z.claim.write_half) reads).0 in
      let to = left s e z in_m (ap (λ seat. gives_back seat e) seated ∙ stays) in
      let on = goes s e reached comes to.to to.there in
      let same : on.0.claim ≡ z.claim = on.1.given.claim ∙ on.1.by_rule.same ∙ to.still.claim in
      contrary ((on.0.claim.seat == x.claim.seat) && not on.0.claim.write_half) (ap (λ (d : Claim). (d.seat == x.claim.seat) && not d.write_half) same ∙ reads)
      (none_among (λ y. (y.claim.seat == x.claim.seat) && not y.claim.write_half) n on.0 parts.1 on.1.in_next))) in
      and_from (is_rising_half was.0.claim && not (has_read_claim m was.0.claim)) (not (is_satisfied was.0))
      (and_from (is_rising_half was.0.claim) (not (has_read_claim m was.0.claim)) (ap is_rising_half (sym was.2.claim) ∙ parts.0) (ap (λ d. not (has_read_claim m d)) (sym was.2.claim) ∙ ap not none)) (ap not unsat)

  rise_stood : (x : Claimed) → Among x n → waits_to_rise n x ≡ true → rises_at e x.claim.seat ≡ false → stands waits_to_rise x.claim m ≡ true
  rise_stood x there on rises = let was = before x there in stands_by waits_to_rise x.claim was.0 was.1 was.2.claim (rise_was x there on rises)

  -- the read half of the upgrade that rises was there
  half_there : (e : Event) → Comes s e → (seat : ℕ) → rises_at e seat ≡ true → list_any (λ x. (x.claim.seat == seat) && is_read_half x.claim) m ≡ true
  half_there (Issue t r) comes seat on = contrary false on refl
  half_there (Finish t) comes seat on = contrary false on refl
  half_there (event.Rise t) comes seat on =
      let rest = (passed (is_not_holding s.claims t) _ _ comes.accepted).1 in
      let may = not_false (may_rise s.claims t) in
      let is = both_cases (may_rise s.claims t) (λ h. h) (λ off. let none = (passed (not (may_rise s.claims t)) _ _ rest).0 in contrary (not (may_rise s.claims t)) (ap not off) none) in
      subst (λ k. list_any (λ x. (x.claim.seat == k) && is_read_half x.claim) m ≡ true) (eqb-true t seat on) is
  half_there (event.Ask t part) comes seat on = contrary false on refl

  -- what is left of the request that rises is a write
  left_write : (e : Event) → (x : Claimed) → Among x (changed s e).claims → rises_at e x.claim.seat ≡ true → x.claim.write_half ≡ true
  left_write (Issue t r) x there on = contrary false on refl
  left_write (Finish t) x there on = contrary false on refl
  left_write (event.Rise t) x there on =
      let kept = not_false ((x.claim.seat == t) && not x.claim.write_half) (among_filter (λ x. not ((x.claim.seat == t) && not x.claim.write_half)) s.claims x there).1 in
      both_cases x.claim.write_half (λ w. w)
      (λ r. contrary ((x.claim.seat == t) && not x.claim.write_half) (and_from (x.claim.seat == t) (not x.claim.write_half) (eq-eqb x.claim.seat t (sym (eqb-true t x.claim.seat on))) (ap not r)) kept)
  left_write (event.Ask t part) x there on = contrary false on refl

  pub left_is_write : (x : Claimed) → Among x n → rises_at e x.claim.seat ≡ true → x.claim.write_half ≡ true
  left_is_write x there rises =
      let from = came s e reached comes x there in
      let same : x.claim ≡ from.0.claim = from.1.given.claim ∙ from.1.by_rule.same in
      ap (λ d. d.write_half) same ∙ left_write e from.0 from.1.in_changed (ap (λ d. rises_at e d.seat) (sym same) ∙ rises)

  -- and it is the write half of the upgrade
  pub left_half : (x : Claimed) → Among x n → rises_at e x.claim.seat ≡ true → is_rising_half x.claim ≡ true
  left_half x there rises =
      let write = left_is_write x there rises in
      let was = before x there in
      let half = passing (λ z. (z.claim.seat == x.claim.seat) && is_read_half z.claim) m (half_there e comes x.claim.seat rises) in
      let parts = and_parts (half.0.claim.seat == x.claim.seat) (is_read_half half.0.claim) half.2 in
      let seated : half.0.claim.seat ≡ was.0.claim.seat = eqb-true half.0.claim.seat x.claim.seat parts.0 ∙ ap (λ d. d.seat) was.2.claim in
      let was_write : was.0.claim.write_half ≡ true = ap (λ d. d.write_half) (sym was.2.claim) ∙ write in
      elim (pair_among Distinct m half.0 was.0 reached.sound.one_each half.1 was.1) [
        | inl one ↦ contrary was.0.claim.write_half was_write (ap (λ (z : Claimed). z.claim.write_half) (sym one) ∙ read_of_half half.0.claim parts.1)
        | inr (inl two) ↦ ap is_rising_half was.2.claim ∙ and_from (is_upgrade was.0.claim.kind) was.0.claim.write_half (two seated).upgrade was_write
        | inr (inr two) ↦ contrary was.0.claim.write_half was_write (read_of_half was.0.claim (two (sym seated)).reads)
      ]

module _ (groups : ReadGroups) (seats cap : ℕ) (es : List Event) (accepted : AreAccepted (opening groups seats cap) es) (e : Event) (comes : Comes (after (opening groups seats cap) es) e) (old : is_issue e ≡ false) where
  abbrev now : LockState
  now = after (opening groups seats cap) es

  abbrev after_it : Moment
  after_it = (next now e).claims

  reached_now : IsReached now
  reached_now = reached_after (opening groups seats cap) es (reached_opening groups seats cap) accepted

  -- the wait of an upgrade that rises was not there before
  begun : (x : Claimed) → Among x after_it → rises_at e x.claim.seat ≡ true → stands waits_to_rise x.claim now.claims ≡ false
  begun x there on =
      false_from (stands waits_to_rise x.claim now.claims) (λ stood.
      let y = was_before groups seats cap es accepted e comes waits_to_rise x there stood in
      let half = passing (λ z. (z.claim.seat == x.claim.seat) && is_read_half z.claim) now.claims (half_there now e reached_now comes old e comes x.claim.seat on) in
      let parts = and_parts (half.0.claim.seat == x.claim.seat) (is_read_half half.0.claim) half.2 in
      contrary ((half.0.claim.seat == y.0.claim.seat) && not half.0.claim.write_half)
      (and_from (half.0.claim.seat == y.0.claim.seat) (not half.0.claim.write_half) (ap (λ (d : Claim). half.0.claim.seat == d.seat) y.2 ∙ parts.0) (ap not (read_of_half half.0.claim parts.1)))
      (none_among (λ z. (z.claim.seat == y.0.claim.seat) && not z.claim.write_half) now.claims half.0 (rising_parts now e reached_now comes old now.claims y.0 y.3).1 half.1))

  -- no claim of the seat that rises is in a first wait: what is left is the write half
  never_first : (x : Claimed) → Among x after_it → waits_first after_it x ≡ true → rises_at e x.claim.seat ≡ false
  never_first x there on =
      false_from (rises_at e x.claim.seat) (λ rises.
      contrary (is_rising_half x.claim) (left_half now e reached_now comes old x there rises)
      (not_false (is_rising_half x.claim) (and_parts (is_nothing (held_by x)) (not (is_rising_half x.claim)) on).1))

  pub stood_by : (w : Which) (x : Claimed) → Among x after_it → is_ask w ≡ false → waits_in w after_it x ≡ true → stands (waits_in w) x.claim now.claims ≡ not (rises_at e x.claim.seat)
  stood_by First x there plain on = first_stood now e reached_now comes old x there on ∙ sym (ap not (never_first x there on))
  stood_by Rise x there plain on =
      both_cases (rises_at e x.claim.seat)
      (λ rises. begun x there rises ∙ sym (ap not rises))
      (λ off. rise_stood now e reached_now comes old x there on off ∙ sym (ap not off))
  stood_by (Ask k) x there plain on = contrary true refl plain
