-- No claim falls back: what is entitled or satisfied stays so, and no reported status is that of a claim that waits.
use Rattle.std.proofs.Common.{◌≡◌, ℕ, ◌==◌, Bool, true, false, not, ◌&&◌, ◌||◌, cond, List, [], ◌∷◌, Some, None, refl, sym, ap, subst, ◌∙◌, inl, inr}
use Rattle.std.proofs.lemmas.Bool.{true≢false, eq-eqb, or_left, or_right, or_parts, and_parts, and_from}
use Rattle.std.specs.List.{AllZip}
use Rattle.std.specs.Option.{option_to_list}
use Rattle.rclaim.specs.Codes.{number_of}
use Rattle.rclaim.specs.declared.changes.StatusChange.{StatusChange}
use Rattle.rclaim.specs.declared.claim.Claim.{Claim}
use Rattle.rclaim.specs.declared.claim.Status.{Status}
use Rattle.rclaim.specs.declared.claim.Status.TheVariants.{Waiting, Entitled, Satisfied}
use Rattle.rclaim.specs.declared.event.Event.{Event}
use Rattle.rmodel.specs.declared.claimed.Claimed.{Claimed}
use Rattle.rmodel.specs.Changes.{status_change, status_changes, changes_between, AreActive}
use Rattle.rmodel.specs.Claims.{conflicts, is_active, is_satisfied, active_by, satisfied_by}
use Rattle.rmodel.specs.Laws.{keeps_out}
use Rattle.rmodel.specs.Reached.{IsReached}
use Rattle.rmodel.specs.Rules.{is_kept_out, is_kept, is_held_up, may_enter, SettlesAt, Settles}
use Rattle.rmodel.specs.Settling.{settled}
use Rattle.rmodel.specs.State.{LockState}
use Rattle.rmodel.specs.Steps.{changed, next, given, Comes}
use Rattle.rmodel.specs.Telling.{AreAsFar}
use Rattle.rmodel.specs.WellFormed.{AreExclusive, Distinct}
use Rattle.rmodel.proofs.settling.Behind.{not_same, so_from}
use Rattle.rmodel.proofs.reaching.Came.{IsStill, WasThere, origin, IsGiven, given_more, came}
use Rattle.rmodel.proofs.telling.ChangesTold.{changes_told}
use Rattle.rmodel.proofs.settling.Giving.{same_given}
use Rattle.rmodel.proofs.ListFacts.{Among, contrary, any_among, passing, all_at, all_append, all_of_itself, pair_among, zip_among, zip_weaker, zip_partner}
use Rattle.rmodel.proofs.settling.OneSettlement.{both_cases}
use Rattle.rmodel.proofs.settling.OneWrite.{one_keeps}
use Rattle.rmodel.proofs.settling.Settlement.{settles_settled}
use Rattle.rmodel.proofs.reaching.Soundness.{active_of_satisfied, same_claims, sound_changed}

-- a write that keeps a claim out as it is kept it out as it was
kept_before : (c d : Claim) (was x : Claimed) → c ≡ d → IsStill was x → keeps_out d x ≡ true → keeps_out c was ≡ true
kept_before c d was x same still keeps = (λ i. (sym still.claim i).write_half && active_by (sym still.status i) && conflicts (sym still.claim i) (same i)) ∙ keeps

-- ---- a claim that an event leaves, and the same claim once all are settled

module _ (s : LockState) (e : Event) (reached : IsReached s) (comes : Comes s e) (t : List Claimed) (settles : Settles (changed s e).claims t) where
  abbrev mid : List Claimed
  mid = (changed s e).claims

  -- what is entitled or satisfied was there before the event
  was_active : (x : Claimed) → Among x mid → is_active x ≡ true → WasThere s x
  was_active x there active = elim (origin s e comes x there) [
    | inl was ↦ was
    | inr new ↦ contrary (is_active x) active (ap active_by new.waits)
  ]

  exclusive : AreExclusive s.claims
  exclusive = record { well_formed = reached.sound.well_formed; entered = reached.entered; apart = reached.apart }

  -- for a read that was kept waiting, the write that keeps it waiting is the satisfied one
  keeper : (r v w : Claimed) → Among r s.claims → Among v s.claims → Among w s.claims → r.claim.write_half ≡ false → keeps_out r.claim v ≡ true → keeps_out r.claim w ≡ true → w ≡ v
  keeper r v w in_r in_v in_w read keeps_v keeps_w =
      elim (pair_among (λ a b. keeps_out r.claim a ≡ true → keeps_out r.claim b ≡ false) s.claims w v (one_keeps s.groups.groups s.claims exclusive reached.admitted r in_r read) in_w in_v) [
        | inl same ↦ same
        | inr (inl first) ↦ contrary (keeps_out r.claim v) keeps_v (first keeps_w)
        | inr (inr last) ↦ contrary (keeps_out r.claim w) keeps_w (last keeps_v)
      ]

  -- a read that was entitled in s, not satisfied, is kept waiting by a satisfied write of s
  kept_by : (r v : Claimed) → Among r s.claims → Among v s.claims → r.claim.write_half ≡ false → is_active r ≡ true → is_satisfied r ≡ false → keeps_out r.claim v ≡ true → is_satisfied v ≡ true
  kept_by r v in_r in_v read active unsat keeps =
      let at : SettlesAt s.claims s.claims r r = all_at (λ x. SettlesAt s.claims s.claims x x) s.claims r (all_of_itself (SettlesAt s.claims s.claims) s.claims reached.stable) in_r in
      let kept : is_kept s.claims r.claim ≡ true = ap (λ b. b || is_kept s.claims r.claim) (sym unsat) ∙ sym (at.kept_reads read) ∙ active in
      let w = passing (λ v. v.claim.write_half && is_satisfied v && conflicts v.claim r.claim) s.claims kept in
      let parts = and_parts (w.0.claim.write_half && is_satisfied w.0) (conflicts w.0.claim r.claim) w.2 in
      let first = and_parts w.0.claim.write_half (is_satisfied w.0) parts.0 in
      let keeps_w : keeps_out r.claim w.0 ≡ true =
      and_from (w.0.claim.write_half && is_active w.0) (conflicts w.0.claim r.claim) (and_from w.0.claim.write_half (is_active w.0) first.0 (active_of_satisfied w.0.status first.1)) parts.1 in
      ap is_satisfied (sym (keeper r v w.0 in_r in_v w.1 read keeps keeps_w)) ∙ first.1

  -- a satisfied write of the list that the event leaves keeps reads waiting once all are settled
  keeps_settled : (v y : Claimed) → Among v mid → is_satisfied v ≡ true → keeps_out y.claim v ≡ true → is_kept t y.claim ≡ true
  keeps_settled v y in_v sat keeps =
      let parts = and_parts (v.claim.write_half && is_active v) (conflicts v.claim y.claim) keeps in
      let first = and_parts v.claim.write_half (is_active v) parts.0 in
      let beside = zip_partner (SettlesAt mid t) mid t v settles in_v in
      let u = beside.0 in
      let at = beside.2 in
      let write : u.claim.write_half ≡ true = ap (λ c. c.write_half) at.same ∙ first.0 in
      let still : is_satisfied u ≡ true = at.satisfaction write ∙ or_left (is_satisfied v) (is_active u && not (is_held_up t u.claim)) sat in
      any_among (λ w. w.claim.write_half && is_satisfied w && conflicts w.claim y.claim) t u beside.1
      (and_from (u.claim.write_half && is_satisfied u) (conflicts u.claim y.claim) (and_from u.claim.write_half (is_satisfied u) write still) (ap (λ c. conflicts c y.claim) at.same ∙ parts.1))

  read_stays : (x y : Claimed) → Among x mid → SettlesAt mid t x y → y.claim.write_half ≡ false → is_active x ≡ true → is_active y ≡ true
  read_stays x y there at read active =
      both_cases (is_satisfied y)
      (λ sat. at.kept_reads read ∙ or_left (is_satisfied y) (is_kept t y.claim) sat)
      (λ unsat.
      let none = or_parts (is_satisfied x) (not (is_kept_out mid y.claim)) (sym (at.reads read) ∙ unsat) in
      let v = passing (keeps_out y.claim) mid (so_from (is_kept_out mid y.claim) none.1) in
      let parts = and_parts (v.0.claim.write_half && is_active v.0) (conflicts v.0.claim y.claim) v.2 in
      let r = was_active x there active in
      let w = was_active v.0 v.1 (and_parts v.0.claim.write_half (is_active v.0) parts.0).1 in
      let same : r.was.claim ≡ y.claim = sym r.still.claim ∙ sym at.same in
      let keeps = kept_before r.was.claim y.claim w.was v.0 same w.still v.2 in
      let sat : is_satisfied w.was ≡ true =
      kept_by r.was w.was r.there w.there (ap (λ c. c.write_half) same ∙ read) (ap active_by (sym r.still.status) ∙ active) (ap satisfied_by (sym r.still.status) ∙ none.0) keeps in
      at.kept_reads read ∙ or_right (is_satisfied y) (is_kept t y.claim) (keeps_settled v.0 y v.1 (ap satisfied_by w.still.status ∙ sat) v.2))

  pub stays : (x y : Claimed) → Among x mid → SettlesAt mid t x y → is_active x ≡ true → is_active y ≡ true
  stays x y there at active =
      both_cases y.claim.write_half
      (λ write. at.entitlement write ∙ or_left (is_active x) (may_enter t y.claim) active)
      (λ read. read_stays x y there at read active)

-- what is satisfied stays satisfied, by the rules alone
pub satisfied_stays : (s t : List Claimed) (x y : Claimed) → SettlesAt s t x y → is_satisfied x ≡ true → is_satisfied y ≡ true
satisfied_stays s t x y at sat =
    both_cases y.claim.write_half
    (λ write. at.satisfaction write ∙ or_left (is_satisfied x) (is_active y && not (is_held_up t y.claim)) sat)
    (λ read. at.reads read ∙ or_left (is_satisfied x) (not (is_kept_out s y.claim)) sat)

-- ---- what is reported

-- from a claim to the same claim, which is at least as far
active_at : (seat : ℕ) (half : Bool) (a b : Status) → (active_by a ≡ true → active_by b ≡ true)
    → AreActive (option_to_list (cond (number_of a == number_of b) None (Some (record { seat = seat; write_half = half; status = b }))))
active_at seat half Waiting Waiting stays = tt
active_at seat half Waiting Entitled stays = (refl, tt)
active_at seat half Waiting Satisfied stays = (refl, tt)
active_at seat half Entitled Waiting stays = absurd (true≢false (sym (stays refl)))
active_at seat half Entitled Entitled stays = tt
active_at seat half Entitled Satisfied stays = (refl, tt)
active_at seat half Satisfied Waiting stays = absurd (true≢false (sym (stays refl)))
active_at seat half Satisfied Entitled stays = (refl, tt)
active_at seat half Satisfied Satisfied stays = tt

tells_active : (xs ys : List Claimed) → AllZip (λ x y. is_active x ≡ true → is_active y ≡ true) xs ys → AreActive (status_changes xs ys)
unfolding status_changes
tells_active [] [] stays = tt
tells_active [] (y ∷ ys) stays = absurd stays
tells_active (x ∷ xs) [] stays = absurd stays
tells_active (x ∷ xs) (y ∷ ys) stays =
    all_append (λ (c : StatusChange). active_by c.status ≡ true) (option_to_list (status_change x y)) (status_changes xs ys)
    (active_at y.claim.seat y.claim.write_half x.status y.status stays.0) (tells_active xs ys stays.1)

module _ (s : LockState) (e : Event) (reached : IsReached s) (comes : Comes s e) where
  -- no reported status is that of a claim that waits
  pub told_active : AreActive (status_changes (changed s e).claims (next s e).claims)
  told_active =
      let xs = (changed s e).claims in
      let t = settled xs in
      let settles = settles_settled xs (sound_changed s e reached.sound comes).well_formed in
      tells_active xs (given t)
      (stays_given xs t (given t)
      (zip_weaker (λ x y. SettlesAt xs t x y × Among x xs × Among y t) (λ x y. is_active x ≡ true → is_active y ≡ true) (λ x y h. stays s e reached comes t settles x y h.1 h.0) xs t
      (zip_among (SettlesAt xs t) xs t settles))
      (given_more t))
    where
      stays_given : (xs ts ys : List Claimed) → AllZip (λ x y. is_active x ≡ true → is_active y ≡ true) xs ts → AllZip IsGiven ts ys → AllZip (λ x y. is_active x ≡ true → is_active y ≡ true) xs ys
      stays_given [] [] [] a b = tt
      stays_given [] [] (y ∷ ys) a b = absurd b
      stays_given [] (t ∷ ts) ys a b = absurd a
      stays_given (x ∷ xs) [] ys a b = absurd a
      stays_given (x ∷ xs) (t ∷ ts) [] a b = absurd b
      stays_given (x ∷ xs) (t ∷ ts) (y ∷ ys) a b = ((λ active. ap active_by b.0.status ∙ a.0 active), stays_given xs ts ys a.1 b.1)

  pub none_told_to_wait : AreActive (changes_between s (next s e)).statuses
  none_told_to_wait =
      let xs = (changed s e).claims in
      let settles = settles_settled xs (sound_changed s e reached.sound comes).well_formed in
      subst AreActive (ap (λ c. c.statuses) (sym (changes_told s (next s e) e reached.sound comes (same_given xs (settled xs) (same_claims xs (settled xs) settles))))) told_active

  -- a claim is at least as far after the event as before
  pub none_falls_back : AreAsFar s.claims (next s e).claims
  none_falls_back x y in_s in_next same =
      let from = came s e reached comes y in_next in
      let m = from.1 in
      let one : y.claim ≡ from.0.claim = m.given.claim ∙ m.by_rule.same in
      let as_it_was : from.0.status ≡ x.status =
      elim (origin s e comes from.0 m.in_changed) [
        | inl was ↦ was.still.status ∙ ap (λ z. z.status) (the_claim was.was x was.there in_s (sym was.still.claim ∙ sym one ∙ same))
        | inr new ↦ absurd (true≢false (sym (any_among (λ z. z.claim.seat == from.0.claim.seat) s.claims x in_s (seat_is x from.0 (sym same ∙ one))) ∙ new.idle))
      ] in
      record {
        active = λ active. ap active_by m.given.status
            ∙ stays s e reached comes (settled (changed s e).claims) (settles_settled (changed s e).claims (sound_changed s e reached.sound comes).well_formed) from.0 m.mid m.in_changed m.by_rule (ap active_by as_it_was ∙ active);
        satisfied = λ sat. ap satisfied_by m.given.status ∙ satisfied_stays (changed s e).claims (settled (changed s e).claims) from.0 m.mid m.by_rule (ap satisfied_by as_it_was ∙ sat);
      }
    where
      the_claim : (v w : Claimed) → Among v s.claims → Among w s.claims → v.claim ≡ w.claim → v ≡ w
      the_claim v w in_v in_w same =
          elim (pair_among Distinct s.claims v w reached.sound.one_each in_v in_w) [
            | inl is ↦ is
            | inr (inl d) ↦ not_same v w d same
            | inr (inr d) ↦ not_same w v d (sym same)
          ]

      seat_is : (v w : Claimed) → v.claim ≡ w.claim → (v.claim.seat == w.claim.seat) ≡ true
      seat_is v w same = eq-eqb v.claim.seat w.claim.seat (ap (λ c. c.seat) same)
