-- What the events so far say about each claim: its request, which is the last one of its seat, and its asks.
use Rattle.std.proofs.Common.{◌≡◌, ℕ, ◌==◌, Bool, true, false, not, ◌&&◌, cond, List, [], ◌∷◌, ◌++◌, map, Some, refl, sym, ap, subst, ◌∙◌, inl, inr, arith, append_assoc}
use Rattle.std.proofs.lemmas.Bool.{eq-eqb}
use Rattle.std.proofs.lemmas.List.{append-nil}
use Rattle.rset.specs.Sets.{Set}
use Rattle.rexpand.specs.Groups.{ReadGroups}
use Rattle.rclaim.specs.declared.event.Event.{Event}
use Rattle.rclaim.specs.declared.event.Event.TheVariants.{Issue, Finish, Rise, Ask}
use Rattle.rmodel.specs.declared.claimed.Claimed.{Claimed}
use Rattle.rclaim.specs.Requests.{RequestFields}
use Rattle.rclaim.specs.declared.claim.Claim.{Claim}
use Rattle.rclaim.specs.declared.request.Kind.{Kind}
use Rattle.rclaim.specs.declared.request.Kind.TheVariants.{Read, Write, Mixed, Upgrade, Nested}
use Rattle.rmodel.specs.Claims.{claims_by, claims_of, waiting}
use Rattle.rmodel.specs.Reached.{IsReached}
use Rattle.rmodel.specs.State.{LockState, opening}
use Rattle.rmodel.specs.Steps.{changed, next, after, asking, Comes, AreAccepted}
use Rattle.rmodel.proofs.ListFacts.{Among, all_at, among_append, among_filter}
use Rattle.rmodel.proofs.reaching.Came.{among_map}
use Rattle.rmodel.proofs.reaching.NewClaims.{IsNew, new_claims}
use Rattle.rmodel.proofs.reaching.Reached.{reached_next, reached_opening}
use Rattle.rmodel.proofs.reaching.Soundness.{seat_is_idle}
use Rattle.rcover_laws.proofs.bounds.Issued.{IsIssueAt}
use Rattle.rbound_history.specs.History.{last_issue, later_issue}
use Rattle.rbound_history.proofs.Following.{issue_push}
use Rattle.rcover_laws.proofs.past.Asks.{more_asked, asked_since, issues, issues_push, issue_next, is_issue_of}
use Rattle.rcover_laws.proofs.past.KnownAsks as asks
use Rattle.rcover_laws.proofs.past.KnownAsks.{came_from, next_issued, not_of}

-- a claim is of this request, which is the last one of its seat
pub record IsOfLast (past : List Event) (c : Claim) (r : RequestFields) : Type 0 where
  pub last : last_issue c.seat past ≡ Some r
  pub at : (rest : List Event) → IsIssueAt (past ++ rest) c.stamp c.seat r
  pub kind : c.kind ≡ r.kind

-- they give its request, and the asks of it so far
pub record IsKnown (past : List Event) (x : Claimed) : Type 0 where
  pub request : (r : RequestFields) × IsOfLast past x.claim r
  pub asks : asks.IsKnown past x

-- ---- from one event to the next

-- a claim that was there, after an event that is not an issue of its seat
pub of_last_on : (past : List Event) (e : Event) (c : Claim) (r : RequestFields) → is_issue_of c.seat e ≡ false → IsOfLast past c r → IsOfLast (past ++ e ∷ []) c r
of_last_on past e c r off was = record {
  last = issue_push c.seat past e ∙ same e off ∙ was.last;
  at = λ rest. subst (λ (es : List Event). IsIssueAt es c.stamp c.seat r) (sym (append_assoc past (e ∷ []) rest)) (was.at (e ∷ rest));
  kind = was.kind;
}
  where
    same : (e : Event) → is_issue_of c.seat e ≡ false → later_issue c.seat (last_issue c.seat past) e ≡ last_issue c.seat past
    same (Issue seat q) off = ap (λ b. cond b (Some q) (last_issue c.seat past)) off
    same (Finish seat) off = refl
    same (Rise seat) off = refl
    same (Ask seat part) off = refl

-- and that asks for what it asked for before
pub known_on : (past : List Event) (e : Event) (x : Claimed) → IsKnown past x → is_issue_of x.claim.seat e ≡ false → more_asked x.claim.seat (asked_since x.claim.seat past) e ≡ asked_since x.claim.seat past → IsKnown (past ++ e ∷ []) x
known_on past e x known off same = record {
  request = (known.request.0, of_last_on past e x.claim known.request.0 off known.request.1);
  asks = asks.known_on past e x known.asks off same;
}

-- the claims of a request are of its kind
of_kind : (groups : List Set) (kind : Kind) (stamp seat : ℕ) (reads writes : Set) (c : Claim) → Among c (claims_by groups kind stamp seat reads writes) → c.kind ≡ kind
of_kind groups Read stamp seat reads writes c (inl same) = ap (λ (d : Claim). d.kind) same
of_kind groups Read stamp seat reads writes c (inr later) = absurd later
of_kind groups Write stamp seat reads writes c (inl same) = ap (λ (d : Claim). d.kind) same
of_kind groups Write stamp seat reads writes c (inr later) = absurd later
of_kind groups Mixed stamp seat reads writes c (inl same) = ap (λ (d : Claim). d.kind) same
of_kind groups Mixed stamp seat reads writes c (inr later) = absurd later
of_kind groups Upgrade stamp seat reads writes c (inl same) = ap (λ (d : Claim). d.kind) same
of_kind groups Upgrade stamp seat reads writes c (inr (inl same)) = ap (λ (d : Claim). d.kind) same
of_kind groups Upgrade stamp seat reads writes c (inr (inr later)) = absurd later
of_kind groups Nested stamp seat reads writes c (inl same) = ap (λ (d : Claim). d.kind) same
of_kind groups Nested stamp seat reads writes c (inr later) = absurd later

of_new : (past : List Event) (s : LockState) (seat : ℕ) (r : RequestFields) (x : Claimed) → s.issued ≡ issues past → IsNew s.issued seat x → x.claim.kind ≡ r.kind → IsOfLast (past ++ Issue seat r ∷ []) x.claim r
of_new past s seat r x counted new kind = record {
  last = issue_push x.claim.seat past (Issue seat r) ∙ ap (λ b. cond b (Some r) (last_issue x.claim.seat past)) (eq-eqb seat x.claim.seat (sym new.seated));
  at = λ rest.
      subst (λ (es : List Event). IsIssueAt es x.claim.stamp x.claim.seat r) (sym (append_assoc past (Issue seat r ∷ []) rest))
      (subst (λ (p : ℕ × ℕ). IsIssueAt (past ++ Issue seat r ∷ rest) p.0 p.1 r) (λ i. (sym (new.stamped ∙ counted) i, sym new.seated i)) (issue_next past rest seat r));
  kind = kind;
}

-- ---- from the first event on

-- they give the request of a claim
abbrev HasRequest : List Event → Claim → Type 0
HasRequest past c = (r : RequestFields) × IsOfLast past c r

-- and of each claim of a state
record HaveRequests (past : List Event) (s : LockState) : Type 0 where
  counted : s.issued ≡ issues past
  each : (x : Claimed) → Among x s.claims → HasRequest past x.claim

stays : (past : List Event) (e : Event) (c : Claim) → is_issue_of c.seat e ≡ false → HasRequest past c → HasRequest (past ++ e ∷ []) c
stays past e c off was = (was.0, of_last_on past e c was.0 off was.1)

has_changed : (past : List Event) (s : LockState) (e : Event) → Comes s e → HaveRequests past s → (x : Claimed) → Among x (changed s e).claims → HasRequest (past ++ e ∷ []) x.claim
has_changed past s (Issue seat r) comes have x there =
    elim (among_append s.claims (map (waiting r.first) (claims_of s.groups.groups s.issued seat r)) x there) [
      | inl old ↦ stays past (Issue seat r) x.claim (not_of s seat x (seat_is_idle s seat r comes.accepted) old) (have.each x old)
      | inr new ↦
          let c = among_map (waiting r.first) (claims_of s.groups.groups s.issued seat r) x new in
          let kind = ap (λ (z : Claimed). z.claim.kind) c.2 ∙ of_kind s.groups.groups r.kind s.issued seat r.reads r.writes c.0 c.1 in
          let made = all_at (IsNew s.issued seat) (map (waiting r.first) (claims_of s.groups.groups s.issued seat r)) x (new_claims s.groups.groups s.issued seat r comes.normal).each new in
          (r, of_new past s seat r x have.counted made kind)
    ]
has_changed past s (Finish seat) comes have x there = stays past (Finish seat) x.claim refl (have.each x (among_filter (λ x. not (x.claim.seat == seat)) s.claims x there).0)
has_changed past s (Rise seat) comes have x there = stays past (Rise seat) x.claim refl (have.each x (among_filter (λ x. not ((x.claim.seat == seat) && not x.claim.write_half)) s.claims x there).0)
has_changed past s (Ask seat part) comes have x there =
    let was = among_map (asking seat part) s.claims x there in
    let claim : x.claim ≡ was.0.claim = ap (λ (z : Claimed). z.claim) was.2 ∙ same (was.0.claim.seat == seat) was.0 in
    subst (HasRequest (past ++ Ask seat part ∷ [])) (sym claim) (stays past (Ask seat part) was.0.claim refl (have.each was.0 was.1))
  where
    same : (b : Bool) (y : Claimed) → (cond b (record y { asked = part }) y).claim ≡ y.claim
    same true y = refl
    same false y = refl

have_next : (past : List Event) (s : LockState) (e : Event) → IsReached s → Comes s e → HaveRequests past s → HaveRequests (past ++ e ∷ []) (next s e)
have_next past s e reached comes have = record {
  counted = (let more = next_issued s e in let push = issues_push past e in let same = have.counted in omega (arith, more, push, same));
  each = λ y there.
      let from = came_from s e reached comes y there in
      subst (HasRequest (past ++ e ∷ [])) (sym from.claim) (has_changed past s e comes have from.was from.among);
}

have_after : (past : List Event) (s : LockState) (es : List Event) → IsReached s → AreAccepted s es → HaveRequests past s → HaveRequests (past ++ es) (after s es)
have_after past s [] reached accepted have = subst (λ (es : List Event). HaveRequests es s) (sym (append-nil past)) have
have_after past s (e ∷ es) reached accepted have =
    subst (λ (ds : List Event). HaveRequests ds (after (next s e) es)) (append_assoc past (e ∷ []) es)
    (have_after (past ++ e ∷ []) (next s e) es (reached_next s e reached accepted.0) accepted.1 (have_next past s e reached accepted.0 have))

-- *The events so far give the request and the asks of each claim*
pub known_claims : (groups : ReadGroups) (seats cap : ℕ) (es : List Event) → AreAccepted (opening groups seats cap) es → (x : Claimed) → Among x (after (opening groups seats cap) es).claims → IsKnown es x
known_claims groups seats cap es accepted x there = record {
  request = (have_after [] (opening groups seats cap) es (reached_opening groups seats cap) accepted (record { counted = refl; each = λ y none. absurd none })).each x there;
  asks = asks.known_claims groups seats cap es accepted x there;
}
