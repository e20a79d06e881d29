-- Each event that is drawn may come at the lock.
use Rattle.std.proofs.Common.{◌≡◌, ℕ, ◌<◌, ◌≤◌, ◌^◌, ◌%◌, ◌==◌, Bool, true, false, not, ◌&&◌, ◌||◌, cond, List, [], ◌∷◌, find, Some, None, refl, sym, ap, subst, ◌∙◌, arith}
use Rattle.std.proofs.Math.Nat.{mod-lt}
use Rattle.std.proofs.lemmas.Bool.{true≢false, and_parts, eqb-true}
use Rattle.std.specs.List.{AllByRecursion, list_any}
use Rattle.std.specs.Prelude.{is_some, option_map}
use Rattle.std.specs.FinSet.{union, difference}
use Rattle.rset.specs.Sets.{all_below, equals}
use Rattle.rclaim.specs.Requests.{RequestFields, is_part}
use Rattle.rclaim.specs.declared.event.Event.{Event}
use Rattle.rclaim.specs.declared.event.Event.TheVariants.{Issue, Finish, Rise, Ask}
use Rattle.rclaim.specs.declared.request.Kind.{Kind}
use Rattle.rclaim.specs.declared.request.Kind.TheVariants.{Read, Write, Mixed, Upgrade, Nested}
use Rattle.rmodel.specs.declared.claimed.Claimed.{Claimed}
use Rattle.rmodel.specs.declared.refused.Refused.TheVariants.{NotHolding, NotUpgradeable, NotNested, AskOutside}
use Rattle.rmodel.specs.Changes.{is_same, is_claim_of, status_in}
use Rattle.rmodel.specs.Claims.{is_admitted, is_upgrade, is_nested, is_read_half}
use Rattle.rmodel.specs.Holds.{holds_of, has_request, may_rise, may_ask, is_part_of}
use Rattle.rmodel.specs.Reached.{IsReached}
use Rattle.rmodel.specs.State.{LockState}
use Rattle.rmodel.specs.Steps.{Comes, is_not_holding}
use Rattle.rmodel.specs.WellFormed.{Among}
use Rattle.rmodel.proofs.ListFacts.{any_among, passing, all_at}
use Rattle.rmodel.proofs.reaching.IdleSeats.{has_room}
use Rattle.rdrill.specs.Draws.{next_draw, drill_groups, kind_drawn, request_for}
use Rattle.rdrill.specs.Drill.{may_act, acting, drawn_issue, either, all_held, drawn_by, drawn_holding, drawn_for, drawn_in, latest_of}
use Rattle.rdrill.proofs.Acting.{acting_below, acts}
use Rattle.rdrill.proofs.Latest.{IsClaimOf, HasLatest}
use Rattle.rdrill.proofs.DrawnRequests.{IsDrawn, drawn_reads, drawn_writes, drawn_admitted, drawn_normal, rest_below, rest_part}

same_request : (a b : RequestFields) → Some a ≡ Some b → a ≡ b
same_request a b h = cc

-- ---- what is found has passed

found_some : (p : Claimed → Bool) (xs : List Claimed) → is_some (option_map (λ (x : Claimed). x.status) (find p xs)) ≡ true → list_any p xs ≡ true
found_some p [] some = absurd (true≢false (sym some))
found_some p (x ∷ xs) some = at (p x) refl some (found_some p xs)
  where
    at : (b : Bool) → p x ≡ b → is_some (option_map (λ (x : Claimed). x.status) (cond b (Some x) (find p xs))) ≡ true
        → (is_some (option_map (λ (x : Claimed). x.status) (find p xs)) ≡ true → list_any p xs ≡ true) → (b || list_any p xs) ≡ true
    at true is some rest = refl
    at false is some rest = rest some

-- ---- in a state that was reached, whose claims are of the latest requests, which were drawn

module _ (s : LockState) (es : List Event) (reached : IsReached s) (groups : s.groups ≡ drill_groups) (seats : s.seats ≡ 8) (cap : s.cap ≡ 8) (stamps : s.issued < 2 ^ 63)
    (has : AllByRecursion (λ (x : Claimed). HasLatest es x.claim) s.claims) (ones : (seat : ℕ) (r : RequestFields) → latest_of es seat ≡ Some r → IsDrawn r)
    (seat : ℕ) (there : seat < 8) where
  seated : seat < s.seats
  seated = subst (λ n. seat < n) (sym seats) there

  -- ---- an idle seat issues

  pub comes_issue : (k : Kind) (l : ℕ) → l < 7 → has_request s.claims seat ≡ false → Comes s (Issue seat (request_for k l))
  comes_issue k l small idle = record {
    fits = record {
      seat_there = seated;
      reads = ap (λ g. all_below g.q (request_for k l).reads) groups ∙ drawn_reads l small k;
      writes = ap (λ g. all_below g.q (request_for k l).writes) groups ∙ drawn_writes l small k;
      admitted = ap (λ g. is_admitted g.groups (request_for k l)) groups ∙ drawn_admitted l small k;
      stamps = stamps;
    };
    normal = drawn_normal l small k;
    accepted = (has_room s seat reached.sound seated idle).accepted (request_for k l) (enough seats cap);
  }
    where
      enough : s.seats ≡ 8 → s.cap ≡ 8 → s.seats ≤ s.cap
      enough a b = omega (arith, a, b)

  -- ---- a seat that holds something

  module _ (busy : has_request s.claims seat ≡ true) (holding : is_not_holding s.claims seat ≡ false) (r : RequestFields) (latest : latest_of es seat ≡ Some r) where
    pub comes_finish : Comes s (Finish seat)
    comes_finish = record { fits = seated; normal = tt; accepted = ap (λ b. cond b (Some NotHolding) None) holding }

    -- a claim of the seat is of its latest request
    of_seat : (x : Claimed) → Among x s.claims → (x.claim.seat == seat) ≡ true → IsClaimOf r x.claim
    of_seat x in_s is =
        let its = all_at (λ (x : Claimed). HasLatest es x.claim) s.claims x has in_s in
        subst (λ q. IsClaimOf q x.claim) (same_request its.request r (sym its.latest ∙ ap (latest_of es) (eqb-true x.claim.seat seat is) ∙ latest)) its.of

    pub comes_rise : r.kind ≡ Upgrade → is_some (status_in s.claims seat false) ≡ true → Comes s (Rise seat)
    comes_rise upgrade some =
        let x = passing (is_claim_of seat false) s.claims (found_some (is_claim_of seat false) s.claims some) in
        let parts = and_parts (x.0.claim.seat == seat) (is_same x.0.claim.write_half false) x.2 in
        let its = of_seat x.0 x.1 parts.0 in
        let rises : may_rise s.claims seat ≡ true
        = any_among (λ (y : Claimed). (y.claim.seat == seat) && is_read_half y.claim) s.claims x.0 x.1
        ((λ i. parts.0 i && (is_upgrade ((its.kind ∙ upgrade) i) && not x.0.claim.write_half)) ∙ reads x.0.claim.write_half parts.1) in
        record { fits = seated; normal = tt; accepted = (λ i. cond (holding i) (Some NotHolding) (cond (not (rises i)) (Some NotUpgradeable) None)) }
      where
        reads : (b : Bool) → is_same b false ≡ true → not b ≡ true
        reads true h = absurd (true≢false (sym h))
        reads false h = refl

    pub comes_ask : (l : ℕ) → l < 7 → r ≡ request_for Nested l → Comes s (Ask seat (difference r.writes r.first))
    comes_ask l small is =
        let x = passing (λ (y : Claimed). y.claim.seat == seat) s.claims busy in
        let its = of_seat x.0 x.1 x.2 in
        let nested : r.kind ≡ Nested = ap (λ (q : RequestFields). q.kind) is in
        let sets = its.sets nested in
        let asks : may_ask s.claims seat ≡ true
        = any_among (λ (y : Claimed). (y.claim.seat == seat) && is_nested y.claim.kind) s.claims x.0 x.1 (λ i. x.2 i && is_nested ((its.kind ∙ nested) i)) in
        let part : is_part_of s.claims seat (difference r.writes r.first) ≡ true
        = any_among (λ (y : Claimed). (y.claim.seat == seat) && is_part (difference r.writes r.first) (union y.claim.reads y.claim.writes)) s.claims x.0 x.1
        ((λ i. x.2 i && is_part (difference (is i).writes (is i).first) (union x.0.claim.reads ((sets.1 ∙ ap (λ (q : RequestFields). q.writes) is) i))) ∙ rest_part l small x.0.claim.reads) in
        record {
          fits = (seated, ap (λ g. all_below g.q (difference r.writes r.first)) groups ∙ ap (λ (q : RequestFields). all_below 8 (difference q.writes q.first)) is ∙ rest_below l small);
          normal = tt;
          accepted = (λ i. cond (holding i) (Some NotHolding) (cond (not (asks i)) (Some NotNested) (cond (not (part i)) (Some AskOutside) None)));
        }

    -- ---- what is drawn for it

    comes_either : (first second : Event) (x : ℕ) → Comes s first → Comes s second → Comes s (either first second x).event
    comes_either first second x a b = at (next_draw x % 2 == 0)
      where
        at : (c : Bool) → Comes s (cond c first second)
        at true = a
        at false = b

    by_kind : (k : Kind) (x : ℕ) → r.kind ≡ k → IsDrawn r → Comes s (drawn_by k s r seat x).event
    by_kind Read x is drawn = comes_finish
    by_kind Write x is drawn = comes_finish
    by_kind Mixed x is drawn = comes_finish
    by_kind Upgrade x is drawn = at (is_some (status_in s.claims seat false)) refl
      where
        at : (b : Bool) → is_some (status_in s.claims seat false) ≡ b → Comes s (cond b (either (Rise seat) (Finish seat) x) (record { event = Finish seat; x = x })).event
        at true some = comes_either (Rise seat) (Finish seat) x (comes_rise is some) comes_finish
        at false some = comes_finish
    by_kind Nested x is drawn = at (equals (all_held (holds_of s.claims seat)) r.first)
      where
        its_kind : (k : Kind) (l : ℕ) → (request_for k l).kind ≡ k
        its_kind Read l = refl
        its_kind Write l = refl
        its_kind Mixed l = refl
        its_kind Upgrade l = refl
        its_kind Nested l = refl

        nested : r ≡ request_for Nested drawn.l
        nested = drawn.is ∙ ap (λ k. request_for k drawn.l) (sym (its_kind drawn.kind drawn.l) ∙ sym (ap (λ (q : RequestFields). q.kind) drawn.is) ∙ is)

        at : (b : Bool) → Comes s (cond b (either (Ask seat (difference r.writes r.first)) (Finish seat) x) (record { event = Finish seat; x = x })).event
        at true = comes_either (Ask seat (difference r.writes r.first)) (Finish seat) x (comes_ask drawn.l drawn.small nested) comes_finish
        at false = comes_finish

    pub comes_holding : (x : ℕ) → Comes s (drawn_holding s (latest_of es seat) seat x).event
    comes_holding x = subst (λ o. Comes s (drawn_holding s o seat x).event) (sym latest) (by_kind r.kind x refl (ones seat r latest))

  -- a seat that may act draws an event that may come
  pub comes_for : (x : ℕ) → may_act s seat ≡ true → Comes s (drawn_for s (latest_of es seat) seat x).event
  comes_for x may = at (has_request s.claims seat) refl
    where
      holds : (a b : Bool) → not (a && b) ≡ true → a ≡ true → b ≡ false
      holds true true h is = absurd (true≢false (sym h))
      holds true false h is = refl
      holds false b h is = absurd (true≢false (sym is))

      its : has_request s.claims seat ≡ true → (r : RequestFields) × (latest_of es seat ≡ Some r)
      its busy =
          let x = passing (λ (y : Claimed). y.claim.seat == seat) s.claims busy in
          let of = all_at (λ (x : Claimed). HasLatest es x.claim) s.claims x.0 has x.1 in
          (of.request, sym (ap (latest_of es) (eqb-true x.0.claim.seat seat x.2)) ∙ of.latest)

      at : (b : Bool) → has_request s.claims seat ≡ b → Comes s (cond b (drawn_holding s (latest_of es seat) seat x) (drawn_issue seat x)).event
      at true busy = let r = its busy in comes_holding busy (holds (has_request s.claims seat) (is_not_holding s.claims seat) may busy) r.0 r.1 x
      at false idle = comes_issue (kind_drawn (next_draw x % 5)) (next_draw (next_draw x) % 7) (mod-lt (next_draw (next_draw x)) (omega arith)) idle

-- so may what is drawn in the state
pub comes_in : (s : LockState) (es : List Event) → IsReached s → s.groups ≡ drill_groups → s.seats ≡ 8 → s.cap ≡ 8 → s.issued < 2 ^ 63
    → AllByRecursion (λ (x : Claimed). HasLatest es x.claim) s.claims → ((seat : ℕ) (r : RequestFields) → latest_of es seat ≡ Some r → IsDrawn r)
    → (x : ℕ) → Comes s (drawn_in s (latest_of es) x).event
comes_in s es reached groups seats cap stamps has ones x =
    let named : next_draw x % 8 < 8 = mod-lt (next_draw x) (omega arith) in
    comes_for s es reached groups seats cap stamps has ones (acting s (next_draw x % 8)) (acting_below s (next_draw x % 8) named) (next_draw x) (acts s (next_draw x % 8) reached seats named)
