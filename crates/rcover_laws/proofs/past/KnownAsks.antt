-- What the events so far say of the asks of each claim: while an ask is pending, what it asks for is the last set that its seat asked for.
use Rattle.std.proofs.Common.{◌≡◌, ◌≢◌, ℕ, ◌+◌, ◌==◌, Bool, true, false, not, ◌&&◌, cond, List, [], ◌∷◌, ◌++◌, map, refl, sym, ap, subst, ◌∙◌, inl, inr, arith, append_assoc}
use Rattle.std.specs.FinSet.{empty, union}
use Rattle.std.proofs.lemmas.Bool.{eq-eqb, eqb-true}
use Rattle.std.proofs.lemmas.List.{append-nil}
use Rattle.rset.specs.Sets.{Set}
use Rattle.rbound.specs.Groups.{ReadGroups}
use Rattle.rclaim.specs.declared.event.Event.{Event}
use Rattle.rclaim.specs.declared.event.Event.TheVariants.{Issue, Finish, Rise, Ask}
use Rattle.rmodel.specs.declared.claimed.Claimed.{Claimed}
use Rattle.rmodel.specs.Claims.{claims_of, waiting}
use Rattle.rmodel.specs.Holds.{has_request}
use Rattle.rmodel.specs.Reached.{IsReached}
use Rattle.rmodel.specs.Rules.{SettlesAt}
use Rattle.rmodel.specs.Settling.{settled}
use Rattle.rmodel.specs.State.{LockState, opening}
use Rattle.rmodel.specs.Steps.{changed, next, after, asking, gets_asked, with_asked, given, Comes, AreAccepted}
use Rattle.rmodel.proofs.ListFacts.{Among, contrary, false_from, all_at, among_append, among_filter, none_among}
use Rattle.rmodel.proofs.reaching.Came.{among_map, zip_source}
use Rattle.rmodel.proofs.reaching.NewClaims.{IsNew, new_claims}
use Rattle.rmodel.proofs.reaching.Reached.{reached_next, reached_opening}
use Rattle.rmodel.proofs.reaching.Soundness.{seat_is_idle, sound_changed}
use Rattle.rmodel.proofs.settling.OneSettlement.{both_cases}
use Rattle.rmodel.proofs.settling.Settlement.{settles_settled}
use Rattle.rcover_laws.specs.History as history
use Rattle.rcover_laws.proofs.past.Asks.{more_asked, asked_since, asked_push, asks_behind, issues, issues_push, asks_next, is_issue_of, asks_on}

-- ---- where a claim comes from

-- a claim after an event, and as the event leaves it: what it still asks for, it asked for before, and it was granted the same
pub record CameFrom (s : LockState) (e : Event) (y : Claimed) : Type 0 where
  pub was : Claimed
  pub among : Among was (changed s e).claims
  pub claim : y.claim ≡ was.claim
  pub asked : y.asked ≢ empty → (y.asked ≡ was.asked) × (y.granted ≡ was.granted)

pub came_from : (s : LockState) (e : Event) → IsReached s → Comes s e → (y : Claimed) → Among y (next s e).claims → CameFrom s e y
unfolding given
came_from s e reached comes y there =
    let xs = (changed s e).claims in
    let z = among_map (with_asked (settled xs)) (settled xs) y there in
    let x = zip_source (SettlesAt xs (settled xs)) xs (settled xs) z.0 (settles_settled xs (sound_changed s e reached.sound comes).well_formed) z.1 in
    let to = λ (b : Bool). cond b (record z.0 { asked = empty; granted = union z.0.granted z.0.asked }) z.0 in
    record {
      was = x.0;
      among = x.1;
      claim = ap (λ (w : Claimed). w.claim) z.2 ∙ both_cases (gets_asked (settled xs) z.0) (λ gets. ap (λ b. (to b).claim) gets) (λ keeps. ap (λ b. (to b).claim) keeps) ∙ x.2.same;
      asked = λ some.
          both_cases (gets_asked (settled xs) z.0)
          (λ gets. absurd (some (ap (λ (w : Claimed). w.asked) z.2 ∙ ap (λ b. (to b).asked) gets)))
          (λ keeps.
          let same : y ≡ z.0 = z.2 ∙ ap to keeps in
          (ap (λ (w : Claimed). w.asked) same ∙ x.2.asked, ap (λ (w : Claimed). w.granted) same ∙ x.2.granted));
    }

-- ---- what the events so far say of a claim

-- they give the asks of its request so far, and the last of these is what it asks for
pub record IsKnown (past : List Event) (x : Claimed) : Type 0 where
  pub behind : (rest : List Event) → asks_behind (past ++ rest) x.claim.stamp x.claim.seat ≡ asked_since x.claim.seat past ++ history.asks_of x.claim.seat rest
  pub last : x.granted ≢ empty → x.asked ≢ empty → (before : List Set) × (asked_since x.claim.seat past ≡ before ++ x.asked ∷ [])

-- and that for each claim of a state
record AreKnown (past : List Event) (s : LockState) : Type 0 where
  counted : s.issued ≡ issues past
  each : (x : Claimed) → Among x s.claims → IsKnown past x

known_as : (past : List Event) (x y : Claimed) → y.claim ≡ x.claim → (y.asked ≢ empty → (y.asked ≡ x.asked) × (y.granted ≡ x.granted)) → IsKnown past x → IsKnown past y
known_as past x y claim asked known = record {
  behind = λ rest.
      (λ i. asks_behind (past ++ rest) (claim i).stamp (claim i).seat) ∙ known.behind rest ∙ (λ i. asked_since (sym claim i).seat past ++ history.asks_of (sym claim i).seat rest);
  last = λ granted some.
      let same = asked some in
      let found = known.last (λ none. granted (same.1 ∙ none)) (λ none. some (same.0 ∙ none)) in
      (found.0, (λ i. asked_since (claim i).seat past) ∙ found.1 ∙ (λ i. found.0 ++ sym same.0 i ∷ []));
}

-- a claim that was there, once an event comes that is no issue of its seat
behind_on : (past : List Event) (e : Event) (x : Claimed) → IsKnown past x → is_issue_of x.claim.seat e ≡ false
    → (rest : List Event) → asks_behind ((past ++ e ∷ []) ++ rest) x.claim.stamp x.claim.seat ≡ asked_since x.claim.seat (past ++ e ∷ []) ++ history.asks_of x.claim.seat rest
behind_on past e x known off rest =
    ap (λ (es : List Event). asks_behind es x.claim.stamp x.claim.seat) (append_assoc past (e ∷ []) rest)
    ∙ known.behind (e ∷ rest)
    ∙ asks_on x.claim.seat e off (asked_since x.claim.seat past) rest
    ∙ ap (λ (parts : List Set). parts ++ history.asks_of x.claim.seat rest) (sym (asked_push x.claim.seat past e))

-- and that asks for what it asked for before
pub known_on : (past : List Event) (e : Event) (x : Claimed) → IsKnown past x → is_issue_of x.claim.seat e ≡ false → more_asked x.claim.seat (asked_since x.claim.seat past) e ≡ asked_since x.claim.seat past → IsKnown (past ++ e ∷ []) x
known_on past e x known off same = record {
  behind = behind_on past e x known off;
  last = λ granted some. let found = known.last granted some in (found.0, asked_push x.claim.seat past e ∙ same ∙ found.1);
}

known_new : (past : List Event) (s : LockState) (seat : ℕ) (r : _) (x : Claimed) → s.issued ≡ issues past → IsNew s.issued seat x → IsKnown (past ++ Issue seat r ∷ []) x
known_new past s seat r x counted new =
    let there : asked_since x.claim.seat (past ++ Issue seat r ∷ []) ≡ [] =
    asked_push x.claim.seat past (Issue seat r) ∙ ap (λ b. cond b [] (asked_since x.claim.seat past)) (eq-eqb seat x.claim.seat (sym new.seated)) in
    record {
      behind = λ rest.
          ap (λ (es : List Event). asks_behind es x.claim.stamp x.claim.seat) (append_assoc past (Issue seat r ∷ []) rest)
          ∙ ap (λ stamp. asks_behind (past ++ Issue seat r ∷ rest) stamp x.claim.seat) (new.stamped ∙ counted)
          ∙ asks_next past rest seat x.claim.seat r
          ∙ ap (λ (parts : List Set). parts ++ history.asks_of x.claim.seat rest) (sym there);
      last = λ granted some. absurd (granted new.nothing_granted);
    }

pub not_of : (s : LockState) (seat : ℕ) (x : Claimed) → has_request s.claims seat ≡ false → Among x s.claims → (seat == x.claim.seat) ≡ false
not_of s seat x idle there =
    false_from (seat == x.claim.seat) (λ h. contrary (x.claim.seat == seat) (eq-eqb x.claim.seat seat (sym (eqb-true seat x.claim.seat h))) (none_among (λ (y : Claimed). y.claim.seat == seat) s.claims x idle there))

known_asking : (past : List Event) (seat : ℕ) (part : Set) (x : Claimed) → IsKnown past x → IsKnown (past ++ Ask seat part ∷ []) (asking seat part x)
known_asking past seat part x known = at (seat == x.claim.seat) refl (x.claim.seat == seat) refl
  where
    old : (y : Claimed) → y.claim ≡ x.claim → (rest : List Event)
        → asks_behind ((past ++ Ask seat part ∷ []) ++ rest) y.claim.stamp y.claim.seat ≡ asked_since y.claim.seat (past ++ Ask seat part ∷ []) ++ history.asks_of y.claim.seat rest
    old y claim rest =
        (λ i. asks_behind ((past ++ Ask seat part ∷ []) ++ rest) (claim i).stamp (claim i).seat) ∙ behind_on past (Ask seat part) x known refl rest
        ∙ (λ i. asked_since (sym claim i).seat (past ++ Ask seat part ∷ []) ++ history.asks_of (sym claim i).seat rest)

    at : (a : Bool) → (seat == x.claim.seat) ≡ a → (b : Bool) → (x.claim.seat == seat) ≡ b → IsKnown (past ++ Ask seat part ∷ []) (cond b (record x { asked = part }) x)
    at true e true f = record {
      behind = old (record x { asked = part }) refl;
      last = λ granted some. (asked_since x.claim.seat past, asked_push x.claim.seat past (Ask seat part) ∙ ap (λ b. cond b (asked_since x.claim.seat past ++ part ∷ []) (asked_since x.claim.seat past)) e);
    }
    at false e false f = known_on past (Ask seat part) x known refl (ap (λ b. cond b (asked_since x.claim.seat past ++ part ∷ []) (asked_since x.claim.seat past)) e)
    at true e false f = contrary (x.claim.seat == seat) (eq-eqb x.claim.seat seat (sym (eqb-true seat x.claim.seat e))) f
    at false e true f = contrary (seat == x.claim.seat) (eq-eqb seat x.claim.seat (sym (eqb-true x.claim.seat seat f))) e

known_changed : (past : List Event) (s : LockState) (e : Event) → Comes s e → AreKnown past s → (x : Claimed) → Among x (changed s e).claims → IsKnown (past ++ e ∷ []) x
known_changed past s (Issue seat r) comes known x there =
    elim (among_append s.claims (map (waiting r.first) (claims_of s.groups.groups s.issued seat r)) x there) [
      | inl old ↦
          let off = not_of s seat x (seat_is_idle s seat r comes.accepted) old in
          known_on past (Issue seat r) x (known.each x old) off (ap (λ b. cond b [] (asked_since x.claim.seat past)) off)
      | inr new ↦
          known_new past s seat r x known.counted
          (all_at (IsNew s.issued seat) (map (waiting r.first) (claims_of s.groups.groups s.issued seat r)) x (new_claims s.groups.groups s.issued seat r comes.normal).each new)
    ]
known_changed past s (Finish seat) comes known x there = known_on past (Finish seat) x (known.each x (among_filter (λ x. not (x.claim.seat == seat)) s.claims x there).0) refl refl
known_changed past s (Rise seat) comes known x there = known_on past (Rise seat) x (known.each x (among_filter (λ x. not ((x.claim.seat == seat) && not x.claim.write_half)) s.claims x there).0) refl refl
known_changed past s (Ask seat part) comes known x there =
    let was = among_map (asking seat part) s.claims x there in
    subst (IsKnown (past ++ Ask seat part ∷ [])) (sym was.2) (known_asking past seat part was.0 (known.each was.0 was.1))

pub next_issued : (s : LockState) (e : Event) → (next s e).issued ≡ s.issued + issues (e ∷ [])
next_issued s (Issue seat r) = refl
next_issued s (Finish seat) = omega arith
next_issued s (Rise seat) = omega arith
next_issued s (Ask seat part) = omega arith

known_next : (past : List Event) (s : LockState) (e : Event) → IsReached s → Comes s e → AreKnown past s → AreKnown (past ++ e ∷ []) (next s e)
known_next past s e reached comes known = record {
  counted = (let more = next_issued s e in let push = issues_push past e in let same = known.counted in omega (arith, more, push, same));
  each = λ y there.
      let from = came_from s e reached comes y there in
      known_as (past ++ e ∷ []) from.was y from.claim from.asked (known_changed past s e comes known from.was from.among);
}

known_after : (past : List Event) (s : LockState) (es : List Event) → IsReached s → AreAccepted s es → AreKnown past s → AreKnown (past ++ es) (after s es)
known_after past s [] reached accepted known = subst (λ (es : List Event). AreKnown es s) (sym (append-nil past)) known
known_after past s (e ∷ es) reached accepted known =
    subst (λ (ds : List Event). AreKnown ds (after (next s e) es)) (append_assoc past (e ∷ []) es)
    (known_after (past ++ e ∷ []) (next s e) es (reached_next s e reached accepted.0) accepted.1 (known_next past s e reached accepted.0 known))

-- *The events so far give the asks of each claim*
pub known_claims : (groups : ReadGroups) (seats cap : ℕ) (es : List Event) → AreAccepted (opening groups seats cap) es → (x : Claimed) → Among x (after (opening groups seats cap) es).claims → IsKnown es x
known_claims groups seats cap es accepted x there =
    (known_after [] (opening groups seats cap) es (reached_opening groups seats cap) accepted (record { counted = refl; each = λ y none. absurd none })).each x there
