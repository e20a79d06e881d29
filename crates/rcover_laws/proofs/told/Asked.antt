-- While an ask is pending, what is asked for stays the same.
use Rattle.std.proofs.Common.{◌≡◌, ℕ, ◌==◌, nat_lt, Bool, true, false, not, ◌&&◌, cond, List, [], ◌∷◌, map, refl, sym, ap, ◌∙◌, inl, inr, arith}
use Rattle.std.proofs.lemmas.Bool.{and_parts, and_from, or_parts}
use Rattle.std.specs.List.{AllByRecursion}
use Rattle.std.specs.FinSet.{empty, union, len}
use Rattle.rset.specs.Sets.{Set}
use Rattle.rclaim.specs.declared.claim.Claim.{Claim}
use Rattle.rclaim.specs.declared.event.Event.{Event}
use Rattle.rclaim.specs.declared.event.Event.TheVariants.{Issue, Finish, Rise, Ask}
use Rattle.rmodel.specs.declared.claimed.Claimed.{Claimed}
use Rattle.rmodel.specs.Claims.{claims_of, waiting}
use Rattle.rmodel.specs.Holds.{held_by, holds_of, is_nothing, has_ask}
use Rattle.rmodel.specs.Reached.{IsReached}
use Rattle.rmodel.specs.Rules.{SettlesAt}
use Rattle.rmodel.specs.Settling.{settled}
use Rattle.rmodel.specs.State.{LockState}
use Rattle.rmodel.specs.Steps.{changed, next, after, asking, gets_asked, with_asked, given, is_not_holding, Comes, AreAccepted}
use Rattle.rmodel.proofs.ListFacts.{Among, contrary, all_at, among_append, among_filter, none_among}
use Rattle.rmodel.proofs.reaching.Came.{among_map, zip_source}
use Rattle.rmodel.proofs.reaching.NewClaims.{IsNew, new_claims}
use Rattle.rmodel.proofs.reaching.Reached.{reached_next}
use Rattle.rmodel.proofs.reaching.Soundness.{passed, sound_changed}
use Rattle.rmodel.proofs.settling.OneSettlement.{both_cases}
use Rattle.rmodel.proofs.settling.Settlement.{settles_settled}
use Rattle.rcover_laws.specs.Moments.{moments}
use Rattle.rcover_laws.specs.Told.{waits_for_ask}
use Rattle.rcover_laws.specs.Waits.{AskWaits}
use Rattle.rcover_laws.proofs.states.AtRest.{one_claim, stamp_given}
use Rattle.rcover_laws.proofs.told.OneClaim.{StandsAs}
use Rattle.rcover_laws.proofs.told.Waits.{ask_waits}

module _ (s : LockState) (e : Event) (reached : IsReached s) (comes : Comes s e) where
  -- a claim that asks for something after the event, and as the event leaves it
  record IsAsking (y : Claimed) : Type 0 where
    was : Claimed
    among : Among was (changed s e).claims
    claim : y.claim ≡ was.claim
    asked : y.asked ≡ was.asked

  asking_before : (y : Claimed) → Among y (next s e).claims → (y.asked ≡ empty → ⊥) → IsAsking y
  unfolding given
  asking_before y there some =
      let xs = (changed s e).claims in
      let z = among_map (with_asked (settled xs)) (settled xs) y there in
      let x = zip_source (SettlesAt xs (settled xs)) xs (settled xs) z.0 (settles_settled xs (sound_changed s e reached.sound comes).well_formed) z.1 in
      both_cases (gets_asked (settled xs) z.0)
      (λ gets. absurd (some (ap (λ (w : Claimed). w.asked) z.2 ∙ ap (λ b. (cond b (record z.0 { asked = empty; granted = union z.0.granted z.0.asked }) z.0).asked) gets)))
      (λ keeps.
      let same : y ≡ z.0 = z.2 ∙ ap (λ b. cond b (record z.0 { asked = empty; granted = union z.0.granted z.0.asked }) z.0) keeps in
      record { was = x.0; among = x.1; claim = ap (λ (w : Claimed). w.claim) same ∙ x.2.same; asked = ap (λ (w : Claimed). w.asked) same ∙ x.2.asked })

asking_claim : (seat : ℕ) (part : Set) (x : Claimed) → (asking seat part x).claim ≡ x.claim
asking_claim seat part x = at (x.claim.seat == seat)
  where
    at : (b : Bool) → (cond b (record x { asked = part }) x).claim ≡ x.claim
    at true = refl
    at false = refl

-- a claim that is there and asks for something asked for the same before it is settled
asked_in : (s : LockState) (e : Event) → IsReached s → Comes s e → (x y : Claimed) → Among y s.claims → nat_lt 0 (len y.asked) ≡ true → Among x (changed s e).claims → x.claim ≡ y.claim → y.asked ≡ x.asked
asked_in s (Issue seat r) reached comes x y in_y some there same =
    elim (among_append s.claims (map (waiting r.first) (claims_of s.groups.groups s.issued seat r)) x there) [
      | inl old ↦ ap (λ (z : Claimed). z.asked) (one_claim s reached y x in_y old (sym same))
      | inr new ↦
          (let stamped = (all_at (IsNew s.issued seat) (map (waiting r.first) (claims_of s.groups.groups s.issued seat r)) x (new_claims s.groups.groups s.issued seat r comes.normal).each new).stamped in
          let below = stamp_given s reached y in_y in
          let e' = ap (λ d. d.stamp) same in absurd (omega arith))
    ]
asked_in s (Finish seat) reached comes x y in_y some there same =
    ap (λ (z : Claimed). z.asked) (one_claim s reached y x in_y (among_filter (λ x. not (x.claim.seat == seat)) s.claims x there).0 (sym same))
asked_in s (Rise seat) reached comes x y in_y some there same =
    ap (λ (z : Claimed). z.asked) (one_claim s reached y x in_y (among_filter (λ x. not ((x.claim.seat == seat) && not x.claim.write_half)) s.claims x there).0 (sym same))
asked_in s (Ask seat part) reached comes x y in_y some there same =
    let was = among_map (asking seat part) s.claims x there in
    let same_claim = asking_claim seat part was.0 in
    let one : y ≡ was.0 = one_claim s reached y was.0 in_y was.1 (sym same ∙ ap (λ (z : Claimed). z.claim) was.2 ∙ same_claim) in
    both_cases (was.0.claim.seat == seat)
    (λ asks.
    let held = (passed (is_not_holding s.claims seat) _ _ comes.accepted).0 in
    let none = (or_parts (is_nothing (holds_of s.claims seat)) (has_ask s.claims seat) held).1 in
    contrary ((y.claim.seat == seat) && nat_lt 0 (len y.asked)) (and_from (y.claim.seat == seat) (nat_lt 0 (len y.asked)) (ap (λ (z : Claimed). z.claim.seat == seat) one ∙ asks) some)
    (none_among (λ z. (z.claim.seat == seat) && nat_lt 0 (len z.asked)) s.claims y none in_y))
    (λ other. ap (λ (z : Claimed). z.asked) one ∙ sym (ap (λ (z : Claimed). z.asked) was.2 ∙ ap (λ b. (cond b (record was.0 { asked = part }) was.0).asked) other))

-- over the moments at which an ask is pending, it is the same ask
pub ask_run : (c : Claim) (part : Set) (s : LockState) (es : List Event) → IsReached s → AreAccepted s es → AllByRecursion (StandsAs waits_for_ask c) (moments s es) → (x : Claimed) → Among x (after s es).claims → x.claim ≡ c → x.asked ≡ part
    → AllByRecursion (AskWaits c part) (moments s es)
ask_run c part s [] reached accepted each x there is asks =
    (ask_waits s reached c part each.0 (ap (λ (z : Claimed). z.asked) (one_claim s reached each.0.at x each.0.among there (each.0.is ∙ sym is)) ∙ asks), tt)
ask_run c part s (e ∷ es) reached accepted each x there is asks =
    let on = reached_next s e reached accepted.0 in
    let rest = ask_run c part (next s e) es on accepted.1 each.1 x there is asks in
    let h = each.0 in
    let after_it = rest.0 in
    let before = asking_before s e reached accepted.0 after_it.at after_it.among (λ none. after_it.some (sym after_it.asks ∙ none)) in
    let pending = (and_parts (not (is_nothing (held_by h.at))) (nat_lt 0 (len h.at.asked)) h.passes).1 in
    let same = asked_in s e reached accepted.0 before.was h.at h.among pending before.among (sym before.claim ∙ after_it.is ∙ sym h.is) in
    (ask_waits s reached c part h (same ∙ sym before.asked ∙ after_it.asks), rest)
