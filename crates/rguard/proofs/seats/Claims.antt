-- What an event of one seat leaves of the claims of another, and what a seat's own events make of its own.
use Rattle.std.proofs.Common.{◌≡◌, ◌≢◌, ℕ, ◌==◌, nat_lt, Bool, true, false, cond, not, ◌&&◌, ◌||◌, List, [], ◌∷◌, ◌++◌, map, filter, refl, sym, ap, subst, ◌∙◌}
use Rattle.std.proofs.lemmas.Bool.{true≢false, eq-eqb, eqb-true, or_parts, or_from, or_left, or_right, and_parts, and_from}
use Rattle.std.proofs.lemmas.List.Folds.{list_any-append}
use Rattle.std.specs.FinSet.{empty, len, len-empty, union}
use Rattle.std.specs.Ordering.{nat_cmp}
use Rattle.std.specs.List.{list_any}
use Rattle.rset.specs.Sets.{Set}
use Rattle.rclaim.specs.Events.{seat_of}
use Rattle.rclaim.specs.Requests.{RequestFields}
use Rattle.rclaim.specs.declared.claim.Claim.{Claim}
use Rattle.rclaim.specs.declared.event.Event.{Event}
use Rattle.rclaim.specs.declared.event.Event.TheVariants.{Issue, Finish, Rise, Ask}
use Rattle.rclaim.specs.declared.request.Kind.{Kind}
use Rattle.rclaim.specs.declared.request.Kind.TheVariants as kinds
use Rattle.rmodel.specs.declared.claimed.Claimed.{Claimed}
use Rattle.rmodel.specs.Claims.{claims_of, claims_by, is_read_half, is_nested, waiting}
use Rattle.rmodel.specs.Holds.{has_request, has_ask, may_rise, may_ask, holds_of, is_nothing, is_within}
use Rattle.rmodel.specs.Reached.{IsReached}
use Rattle.rmodel.specs.Rules.{Settles, SettlesAt}
use Rattle.rmodel.specs.Settling.{settled}
use Rattle.rmodel.specs.State.{LockState}
use Rattle.rmodel.specs.StateLaws.{gives_back}
use Rattle.rmodel.specs.Steps.{Comes, changed, next, given, asking, with_asked, gets_asked, is_not_holding}
use Rattle.rmodel.proofs.ListFacts.{contrary, false_from, any_zip, any_among, none_from, none_among, all_at, passing, among_filter}
use Rattle.rmodel.proofs.reaching.Growing.{held_next}
use Rattle.rmodel.proofs.reaching.HeldBySeat.{nothing_of, is_nothing_of, within_nothing}
use Rattle.rmodel.proofs.reaching.NewClaims.{IsNew, new_claims}
use Rattle.rmodel.proofs.reaching.Soundness.{SameClaim, same_claims, given_same, sound_changed}
use Rattle.rmodel.proofs.settling.Settlement.{settles_settled}

-- ---- tests of lists

put_any : {X : Type 0} (p : X → Bool) (x : X) (b : Bool) (ys zs : List X) → (b ≡ false → p x ≡ false) → list_any p ys ≡ list_any p zs → list_any p (cond b (x ∷ ys) ys) ≡ (p x || list_any p zs)
put_any p x true ys zs none same = ap (λ c. p x || c) same
put_any p x false ys zs none same = same ∙ sym (ap (λ c. c || list_any p zs) (none refl))

-- a filter that leaves out no element that passes
pub any_filter : {X : Type 0} (p r : X → Bool) → ((x : X) → r x ≡ false → p x ≡ false) → (xs : List X) → list_any p (filter r xs) ≡ list_any p xs
any_filter p r none [] = refl
any_filter p r none (x ∷ xs) = put_any p x (r x) (filter r xs) xs (none x) (any_filter p r none xs)

any_map : {X : Type 0} (p : X → Bool) (f : X → X) → ((x : X) → p (f x) ≡ p x) → (xs : List X) → list_any p (map f xs) ≡ list_any p xs
any_map p f same [] = refl
any_map p f same (x ∷ xs) = (λ i. same x i || any_map p f same xs i)

none_map : {X : Type 0} (p : X → Bool) (f : X → X) → ((x : X) → p x ≡ false → p (f x) ≡ false) → (xs : List X) → list_any p xs ≡ false → list_any p (map f xs) ≡ false
none_map p f keeps [] none = refl
none_map p f keeps (x ∷ xs) none =
    let parts = or_parts (p x) (list_any p xs) none in
    or_from (p (f x)) (list_any p (map f xs)) (keeps x parts.0) (none_map p f keeps xs parts.1)

-- a list without an element that passes, after another
none_behind : {X : Type 0} (p : X → Bool) (xs ys : List X) → list_any p ys ≡ false → list_any p (xs ++ ys) ≡ list_any p xs
none_behind p xs ys none = list_any-append p xs ys ∙ ap (λ b. list_any p xs || b) none ∙ or_false (list_any p xs)
  where
    or_false : (b : Bool) → (b || false) ≡ b
    or_false true = refl
    or_false false = refl

differ_test : (m n : ℕ) → m ≢ n → (m == n) ≡ false
differ_test m n differ = false_from (m == n) (λ h. differ (eqb-true m n h))

-- ---- claims of a seat, by what is in the claim itself

module _ (n : ℕ) (q : Claim → Bool) (of : (c : Claim) → q c ≡ true → c.seat ≡ n) where
  other_fails : (k : ℕ) (c : Claim) → k ≢ n → c.seat ≡ k → q c ≡ false
  other_fails k c differ is = false_from (q c) (λ h. differ (sym is ∙ of c h))

  -- settling changes no claim
  pub claim_settled : (s : LockState) (e : Event) → IsReached s → Comes s e → list_any (λ x. q x.claim) (next s e).claims ≡ list_any (λ x. q x.claim) (changed s e).claims
  claim_settled s e reached comes =
      let settles = settles_settled (changed s e).claims (sound_changed s e reached.sound comes).well_formed in
      sym (any_zip SameClaim (λ x. q x.claim) (λ x. q x.claim) (λ x y h. ap q (sym h)) (changed s e).claims (settled (changed s e).claims) (same_claims (changed s e).claims (settled (changed s e).claims) settles)
      ∙ any_zip SameClaim (λ x. q x.claim) (λ x. q x.claim) (λ x y h. ap q (sym h)) (settled (changed s e).claims) (given (settled (changed s e).claims)) (given_same (settled (changed s e).claims)))

  asking_claim : (k : ℕ) (part : Set) (x : Claimed) → q (asking k part x).claim ≡ q x.claim
  asking_claim k part x = at (x.claim.seat == k)
    where
      at : (b : Bool) → q (cond b (record x { asked = part }) x).claim ≡ q x.claim
      at true = refl
      at false = refl

  -- an event of another seat changes none of them
  claim_changed : (s : LockState) (e : Event) → Comes s e → seat_of e ≢ n → list_any (λ x. q x.claim) (changed s e).claims ≡ list_any (λ x. q x.claim) s.claims
  claim_changed s (Issue k r) comes differ =
      let ns = map (waiting r.first) (claims_of s.groups.groups s.issued k r) in
      none_behind (λ x. q x.claim) s.claims ns
      (none_from (λ x. q x.claim) ns (λ x there. other_fails k x.claim differ (all_at (IsNew s.issued k) ns x (new_claims s.groups.groups s.issued k r comes.normal).each there).seated))
  claim_changed s (Finish k) comes differ =
      any_filter (λ x. q x.claim) (λ x. not (x.claim.seat == k)) (λ x out. other_fails k x.claim differ (eqb-true x.claim.seat k (from_not (x.claim.seat == k) out))) s.claims
    where
      from_not : (b : Bool) → not b ≡ false → b ≡ true
      from_not true h = refl
      from_not false h = absurd (true≢false h)
  claim_changed s (Rise k) comes differ =
      any_filter (λ x. q x.claim) (λ x. not ((x.claim.seat == k) && not x.claim.write_half))
      (λ x out. other_fails k x.claim differ (eqb-true x.claim.seat k (and_parts (x.claim.seat == k) (not x.claim.write_half) (from_not ((x.claim.seat == k) && not x.claim.write_half) out)).0)) s.claims
    where
      from_not : (b : Bool) → not b ≡ false → b ≡ true
      from_not true h = refl
      from_not false h = absurd (true≢false h)
  claim_changed s (Ask k part) comes differ = any_map (λ x. q x.claim) (asking k part) (asking_claim k part) s.claims

  pub claim_next : (s : LockState) (e : Event) → IsReached s → Comes s e → seat_of e ≢ n → list_any (λ x. q x.claim) (next s e).claims ≡ list_any (λ x. q x.claim) s.claims
  claim_next s e reached comes differ = claim_settled s e reached comes ∙ claim_changed s e comes differ

  -- and neither does the seat's own ask
  pub claim_asked : (s : LockState) (part : Set) → IsReached s → Comes s (Ask n part) → list_any (λ x. q x.claim) (next s (Ask n part)).claims ≡ list_any (λ x. q x.claim) s.claims
  claim_asked s part reached comes = claim_settled s (Ask n part) reached comes ∙ any_map (λ x. q x.claim) (asking n part) (asking_claim n part) s.claims

-- ---- the tests

abbrev pub is_of : ℕ → Claim → Bool
is_of n c = c.seat == n

abbrev pub may_rise_by : ℕ → Claim → Bool
may_rise_by n c = (c.seat == n) && is_read_half c

abbrev pub may_ask_by : ℕ → Claim → Bool
may_ask_by n c = (c.seat == n) && is_nested c.kind

abbrev pub writes_by : ℕ → Claim → Bool
writes_by n c = (c.seat == n) && c.write_half

pub of_seat : (n : ℕ) (c : Claim) → is_of n c ≡ true → c.seat ≡ n
of_seat n c h = eqb-true c.seat n h

pub of_seat_and : (n : ℕ) (b : Claim → Bool) (c : Claim) → ((c.seat == n) && b c) ≡ true → c.seat ≡ n
of_seat_and n b c h = eqb-true c.seat n (and_parts (c.seat == n) (b c) h).0

-- ---- asks of a seat

abbrev none_asked : Set
none_asked = empty

no_length : nat_lt 0 (len none_asked) ≡ false
no_length = ap (nat_lt 0) (len-empty nat_cmp)

and_none : (a b : Bool) → b ≡ false → (a && b) ≡ false
and_none true b none = none
and_none false b none = refl

module _ (n : ℕ) where
  abbrev asks : Claimed → Bool
  asks x = (x.claim.seat == n) && nat_lt 0 (len x.asked)

  ask_settled : (ys zs : List Claimed) → Settles ys zs → list_any asks ys ≡ list_any asks zs
  ask_settled ys zs settles =
      any_zip (SettlesAt ys zs) asks asks (λ x y h. (λ i. ((sym h.same i).seat == n) && nat_lt 0 (len (sym h.asked i)))) ys zs settles

  given_asks : (xs : List Claimed) (x : Claimed) → asks x ≡ false → asks (with_asked xs x) ≡ false
  given_asks xs x none = at (gets_asked xs x)
    where
      at : (b : Bool) → asks (cond b (record x { asked = empty; granted = union x.granted x.asked }) x) ≡ false
      at true = and_none (x.claim.seat == n) (nat_lt 0 (len none_asked)) no_length
      at false = none

  given_none : (xs : List Claimed) → list_any asks xs ≡ false → list_any asks (given xs) ≡ false
  unfolding given
  given_none xs none = none_map asks (with_asked xs) (given_asks xs) xs none

  ask_fails : (k : ℕ) (x : Claimed) → k ≢ n → x.claim.seat ≡ k → asks x ≡ false
  ask_fails k x differ is = ap (λ b. b && nat_lt 0 (len x.asked)) (differ_test x.claim.seat n (λ h. differ (sym is ∙ h)))

  none_filter : (r : Claimed → Bool) (xs : List Claimed) → list_any asks xs ≡ false → list_any asks (filter r xs) ≡ false
  none_filter r xs none = none_from asks (filter r xs) (λ x there. none_among asks xs x none (among_filter r xs x there).0)

  -- an event of another seat asks for nothing for this one
  ask_changed : (s : LockState) (e : Event) → Comes s e → seat_of e ≢ n → list_any asks s.claims ≡ false → list_any asks (changed s e).claims ≡ false
  ask_changed s (Issue k r) comes differ none =
      let ns = map (waiting r.first) (claims_of s.groups.groups s.issued k r) in
      none_behind asks s.claims ns
      (none_from asks ns (λ x there. ask_fails k x differ (all_at (IsNew s.issued k) ns x (new_claims s.groups.groups s.issued k r comes.normal).each there).seated)) ∙ none
  ask_changed s (Finish k) comes differ none = none_filter (λ x. not (x.claim.seat == k)) s.claims none
  ask_changed s (Rise k) comes differ none = none_filter (λ x. not ((x.claim.seat == k) && not x.claim.write_half)) s.claims none
  ask_changed s (Ask k part) comes differ none = none_map asks (asking k part) (λ x fails. at x fails (x.claim.seat == k) refl) s.claims none
    where
      at : (x : Claimed) → asks x ≡ false → (b : Bool) → (x.claim.seat == k) ≡ b → asks (cond b (record x { asked = part }) x) ≡ false
      at x fails true is = ask_fails k (record x { asked = part }) differ (eqb-true x.claim.seat k is)
      at x fails false is = fails

  ask_next : (s : LockState) (e : Event) → IsReached s → Comes s e → seat_of e ≢ n → list_any asks s.claims ≡ false → list_any asks (next s e).claims ≡ false
  ask_next s e reached comes differ none =
      let settles = settles_settled (changed s e).claims (sound_changed s e reached.sound comes).well_formed in
      given_none (settled (changed s e).claims) (sym (ask_settled (changed s e).claims (settled (changed s e).claims) settles) ∙ ask_changed s e comes differ none)

  -- an event of another seat gives back nothing of this one's
  pub gives_not : (e : Event) → seat_of e ≢ n → gives_back n e ≡ false
  gives_not (Issue k r) differ = refl
  gives_not (Finish k) differ = differ_test k n differ
  gives_not (Rise k) differ = differ_test k n differ
  gives_not (Ask k part) differ = refl

  -- a seat that holds something, and has no pending ask, is still like that after an event of another
  pub holding_next : (s : LockState) (e : Event) → IsReached s → Comes s e → seat_of e ≢ n → is_not_holding s.claims n ≡ false → is_not_holding (next s e).claims n ≡ false
  holding_next s e reached comes differ holding =
      let parts = or_parts (is_nothing (holds_of s.claims n)) (has_ask s.claims n) holding in
      let grows = held_next s e n reached comes (gives_not e differ) in
      or_from (is_nothing (holds_of (next s e).claims n)) (has_ask (next s e).claims n)
      (false_from (is_nothing (holds_of (next s e).claims n)) (λ none. contrary (is_nothing (holds_of s.claims n))
      (is_nothing_of (holds_of s.claims n) (within_nothing (holds_of s.claims n) (subst (λ g. is_within (holds_of s.claims n) g ≡ true) (nothing_of (holds_of (next s e).claims n) none) grows))) parts.0))
      (ask_next s e reached comes differ parts.1)

-- ---- a seat's own issue, finish and rise

first_claim : (groups : List Set) (kind : Kind) (stamp seat : ℕ) (reads writes first : Set) → list_any (λ x. is_of seat x.claim) (map (waiting first) (claims_by groups kind stamp seat reads writes)) ≡ true
first_claim groups kinds.Read stamp seat reads writes first = or_left (seat == seat) _ (eq-eqb seat seat refl)
first_claim groups kinds.Write stamp seat reads writes first = or_left (seat == seat) _ (eq-eqb seat seat refl)
first_claim groups kinds.Mixed stamp seat reads writes first = or_left (seat == seat) _ (eq-eqb seat seat refl)
first_claim groups kinds.Upgrade stamp seat reads writes first = or_left (seat == seat) _ (eq-eqb seat seat refl)
first_claim groups kinds.Nested stamp seat reads writes first = or_left (seat == seat) _ (eq-eqb seat seat refl)

module _ (s : LockState) (n : ℕ) (r : RequestFields) (reached : IsReached s) (comes : Comes s (Issue n r)) where
  new_claim : (q : Claim → Bool) → ((c : Claim) → q c ≡ true → c.seat ≡ n) → list_any (λ x. q x.claim) (map (waiting r.first) (claims_of s.groups.groups s.issued n r)) ≡ true → list_any (λ x. q x.claim) (next s (Issue n r)).claims ≡ true
  new_claim q of new =
      let ns = map (waiting r.first) (claims_of s.groups.groups s.issued n r) in
      claim_settled n q of s (Issue n r) reached comes ∙ list_any-append (λ x. q x.claim) s.claims ns ∙ or_right (list_any (λ x. q x.claim) s.claims) (list_any (λ x. q x.claim) ns) new

  pub issued_next : has_request (next s (Issue n r)).claims n ≡ true
  issued_next = new_claim (is_of n) (of_seat n) (first_claim s.groups.groups r.kind s.issued n r.reads r.writes r.first)

  pub may_rise_next : r.kind ≡ kinds.Upgrade → may_rise (next s (Issue n r)).claims n ≡ true
  may_rise_next is = new_claim (may_rise_by n) (of_seat_and n is_read_half)
      (subst (λ (k : Kind). list_any (λ x. may_rise_by n x.claim) (map (waiting r.first) (claims_by s.groups.groups k s.issued n r.reads r.writes)) ≡ true) (sym is)
      (or_left ((n == n) && true) _ (and_from (n == n) true (eq-eqb n n refl) refl)))

  pub may_ask_next : r.kind ≡ kinds.Nested → may_ask (next s (Issue n r)).claims n ≡ true
  may_ask_next is = new_claim (may_ask_by n) (of_seat_and n (λ c. is_nested c.kind))
      (subst (λ (k : Kind). list_any (λ x. may_ask_by n x.claim) (map (waiting r.first) (claims_by s.groups.groups k s.issued n r.reads r.writes)) ≡ true) (sym is)
      (or_left ((n == n) && true) _ (and_from (n == n) true (eq-eqb n n refl) refl)))

-- a claim that is left after a rise was there before
pub rise_leaves : (s : LockState) (n : ℕ) (q : Claim → Bool) → ((c : Claim) → q c ≡ true → c.seat ≡ n) → IsReached s → Comes s (Rise n)
    → list_any (λ x. q x.claim) (next s (Rise n)).claims ≡ true → list_any (λ x. q x.claim) s.claims ≡ true
rise_leaves s n q of reached comes there =
    let r : Claimed → Bool = λ x. not ((x.claim.seat == n) && not x.claim.write_half) in
    let x = passing (λ x. q x.claim) (filter r s.claims) (sym (claim_settled n q of s (Rise n) reached comes) ∙ there) in
    any_among (λ x. q x.claim) s.claims x.0 (among_filter r s.claims x.0 x.1).0 x.2

-- after its finish a seat has no request
pub finished_next : (s : LockState) (n : ℕ) → IsReached s → Comes s (Finish n) → has_request (next s (Finish n)).claims n ≡ false
finished_next s n reached comes =
    claim_settled n (is_of n) (of_seat n) s (Finish n) reached comes
    ∙ none_from (λ x. is_of n x.claim) (filter (λ x. not (x.claim.seat == n)) s.claims) (λ x there.
    false_from (x.claim.seat == n) (λ h. contrary (x.claim.seat == n) h (to_false (x.claim.seat == n) (among_filter (λ x. not (x.claim.seat == n)) s.claims x there).1)))
  where
    to_false : (b : Bool) → not b ≡ true → b ≡ false
    to_false true h = absurd (true≢false (sym h))
    to_false false h = refl
