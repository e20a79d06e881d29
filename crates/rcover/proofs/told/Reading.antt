-- Which requests have a claim that reads, and what it reads.
use Rattle.std.proofs.Common.{◌≡◌, ◌≢◌, ℕ, ◌==◌, Bool, true, false, not, ◌&&◌, cond, List, map, sym, ap, ◌∙◌, refl, inl, inr}
use Rattle.std.proofs.lemmas.Bool.{and_from, eq-eqb}
use Rattle.std.specs.FinSet.{contains, insert, remove}
use Rattle.rset.specs.Sets.{Set}
use Rattle.rclaim.specs.declared.claim.Claim.{Claim}
use Rattle.rclaim.specs.declared.event.Event.{Event}
use Rattle.rclaim.specs.declared.event.Event.TheVariants.{Issue, Finish}
use Rattle.rclaim.specs.declared.event.Event.TheVariants as event
use Rattle.rclaim.specs.declared.request.Kind.{Kind}
use Rattle.rclaim.specs.declared.request.Kind.TheVariants.{Read, Write, Mixed, Upgrade, Nested}
use Rattle.rmodel.specs.declared.claimed.Claimed.{Claimed}
use Rattle.rmodel.specs.Claims.{claims_by, claims_of, waiting}
use Rattle.rmodel.specs.Reached.{IsReached}
use Rattle.rmodel.specs.State.{LockState}
use Rattle.rmodel.specs.Steps.{asking, changed, next, Comes}
use Rattle.rmodel.specs.WellFormed.{Among}
use Rattle.rmodel.proofs.ListFacts.{contrary, all_at, all_from, among_append, among_filter, none_among}
use Rattle.rmodel.proofs.reaching.Came.{among_map, came}
use Rattle.rmodel.proofs.reaching.NewClaims.{IsNew, new_claims}
use Rattle.rmodel.proofs.reaching.Soundness.{seat_is_idle}
use Rattle.rmodel.proofs.settling.Keeping.{not_false}
use Rattle.rcover.specs.Lines.{set_at, is_finish}
use Rattle.rcover.specs.Past.{is_issue}
use Rattle.rcover.specs.NotedSeats.{HoldReading, TellWanted}
use Rattle.rcover.specs.Waiting.{has_read, reading_by, wanted_by}
use Rattle.rcover.proofs.told.Rising.{inserted_other, inserted_own, removed_other}

-- a request that has a claim that reads is of such a kind
has_read_of : (groups : List Set) (kind : Kind) (stamp seat : ℕ) (reads writes : Set) (c : Claim) → Among c (claims_by groups kind stamp seat reads writes) → c.write_half ≡ false → has_read kind ≡ true
has_read_of groups Read stamp seat reads writes c there off = refl
has_read_of groups Write stamp seat reads writes c (inl is) off = contrary c.write_half (ap (λ (d : Claim). d.write_half) is) off
has_read_of groups Write stamp seat reads writes c (inr none) off = elim none [ ]
has_read_of groups Mixed stamp seat reads writes c (inl is) off = contrary c.write_half (ap (λ (d : Claim). d.write_half) is) off
has_read_of groups Mixed stamp seat reads writes c (inr none) off = elim none [ ]
has_read_of groups Upgrade stamp seat reads writes c there off = refl
has_read_of groups Nested stamp seat reads writes c (inl is) off = contrary c.write_half (ap (λ (d : Claim). d.write_half) is) off
has_read_of groups Nested stamp seat reads writes c (inr none) off = elim none [ ]

-- and that claim reads what the request reads
reads_of : (groups : List Set) (kind : Kind) (stamp seat : ℕ) (reads writes : Set) (c : Claim) → Among c (claims_by groups kind stamp seat reads writes) → c.write_half ≡ false → c.reads ≡ reads
reads_of groups Read stamp seat reads writes c (inl is) off = ap (λ (d : Claim). d.reads) is
reads_of groups Read stamp seat reads writes c (inr none) off = elim none [ ]
reads_of groups Write stamp seat reads writes c (inl is) off = contrary c.write_half (ap (λ (d : Claim). d.write_half) is) off
reads_of groups Write stamp seat reads writes c (inr none) off = elim none [ ]
reads_of groups Mixed stamp seat reads writes c (inl is) off = contrary c.write_half (ap (λ (d : Claim). d.write_half) is) off
reads_of groups Mixed stamp seat reads writes c (inr none) off = elim none [ ]
reads_of groups Upgrade stamp seat reads writes c (inl is) off = ap (λ (d : Claim). d.reads) is
reads_of groups Upgrade stamp seat reads writes c (inr (inl is)) off = contrary c.write_half (ap (λ (d : Claim). d.write_half) is) off
reads_of groups Upgrade stamp seat reads writes c (inr (inr none)) off = elim none [ ]
reads_of groups Nested stamp seat reads writes c (inl is) off = contrary c.write_half (ap (λ (d : Claim). d.write_half) is) off
reads_of groups Nested stamp seat reads writes c (inr none) off = elim none [ ]

-- a request that comes says nothing of other seats
noted_other : (b : Bool) (seats : Set) (seat l : ℕ) → l ≢ seat → contains (cond b (insert seats seat) (remove seats seat)) l ≡ contains seats l
noted_other true seats seat l other = inserted_other seats seat l other
noted_other false seats seat l other = removed_other seats seat l other

-- a claim that reads, once an event changed what is asked for
reading_in : (s : LockState) (e : Event) → Comes s e → (seats : Set) → HoldReading seats s.claims → (y : Claimed) → Among y (changed s e).claims → y.claim.write_half ≡ false → contains (reading_by seats e) y.claim.seat ≡ true
reading_in s (Issue seat r) comes seats hold y there read =
    let ns = map (waiting r.first) (claims_of s.groups.groups s.issued seat r) in
    elim (among_append s.claims ns y there) [
      | inl old ↦
          noted_other (has_read r.kind) seats seat y.claim.seat (λ same. contrary (y.claim.seat == seat) (eq-eqb y.claim.seat seat same) (none_among (λ z. z.claim.seat == seat) s.claims y (seat_is_idle s seat r comes.accepted) old))
          ∙ all_at (λ z. z.claim.write_half ≡ false → contains seats z.claim.seat ≡ true) s.claims y hold old read
      | inr new ↦
          let is = all_at (IsNew s.issued seat) ns y (new_claims s.groups.groups s.issued seat r comes.normal).each new in
          let w = among_map (waiting r.first) (claims_of s.groups.groups s.issued seat r) y new in
          let kind = has_read_of s.groups.groups r.kind s.issued seat r.reads r.writes w.0 w.1 (ap (λ (z : Claimed). z.claim.write_half) (sym w.2) ∙ read) in
          ap (λ b. contains (cond b (insert seats seat) (remove seats seat)) y.claim.seat) kind ∙ inserted_own seats seat y.claim.seat is.seated
    ]
reading_in s (Finish seat) comes seats hold y there read =
    let kept = among_filter (λ x. not (x.claim.seat == seat)) s.claims y there in
    removed_other seats seat y.claim.seat (λ same. contrary (y.claim.seat == seat) (eq-eqb y.claim.seat seat same) (not_false (y.claim.seat == seat) kept.1))
    ∙ all_at (λ z. z.claim.write_half ≡ false → contains seats z.claim.seat ≡ true) s.claims y hold kept.0 read
reading_in s (event.Rise seat) comes seats hold y there read =
    let kept = among_filter (λ x. not ((x.claim.seat == seat) && not x.claim.write_half)) s.claims y there in
    removed_other seats seat y.claim.seat
    (λ same.
    contrary ((y.claim.seat == seat) && not y.claim.write_half) (and_from (y.claim.seat == seat) (not y.claim.write_half) (eq-eqb y.claim.seat seat same) (ap not read))
    (not_false ((y.claim.seat == seat) && not y.claim.write_half) kept.1))
    ∙ all_at (λ z. z.claim.write_half ≡ false → contains seats z.claim.seat ≡ true) s.claims y hold kept.0 read
reading_in s (event.Ask seat part) comes seats hold y there read =
    let w = among_map (asking seat part) s.claims y there in
    let is : y.claim ≡ w.0.claim = ap (λ (z : Claimed). z.claim) w.2 ∙ same (w.0.claim.seat == seat) w.0 in
    ap (λ (c : Claim). contains seats c.seat) is ∙ all_at (λ z. z.claim.write_half ≡ false → contains seats z.claim.seat ≡ true) s.claims w.0 hold w.1 (ap (λ (c : Claim). c.write_half) (sym is) ∙ read)
  where
    same : (b : Bool) (z : Claimed) → (cond b (record z { asked = part }) z).claim ≡ z.claim
    same true z = refl
    same false z = refl

-- after any event, the set has the seats of all claims that read
pub reading_next : (s : LockState) (e : Event) → IsReached s → Comes s e → (seats : Set) → HoldReading seats s.claims → HoldReading (reading_by seats e) (next s e).claims
reading_next s e reached comes seats hold =
    all_from (λ x. x.claim.write_half ≡ false → contains (reading_by seats e) x.claim.seat ≡ true) (next s e).claims
    (λ x there read.
    let from = came s e reached comes x there in
    let is : x.claim ≡ from.0.claim = from.1.given.claim ∙ from.1.by_rule.same in
    ap (λ (c : Claim). contains (reading_by seats e) c.seat) is ∙ reading_in s e comes seats hold from.0 from.1.in_changed (ap (λ (c : Claim). c.write_half) (sym is) ∙ read))

-- ---- what they read

-- what a claim reads is noted, once an event changed what is asked for
wanted_in : (s : LockState) (e : Event) → Comes s e → (wanted : List Set) → TellWanted wanted s.claims → (y : Claimed) → Among y (changed s e).claims → y.claim.write_half ≡ false → wanted_by wanted e y.claim.seat ≡ y.claim.reads
wanted_in s (Issue seat r) comes wanted tell y there read =
    let ns = map (waiting r.first) (claims_of s.groups.groups s.issued seat r) in
    elim (among_append s.claims ns y there) [
      | inl old ↦
          ap (λ b. cond b r.reads (set_at wanted y.claim.seat)) (none_among (λ z. z.claim.seat == seat) s.claims y (seat_is_idle s seat r comes.accepted) old)
          ∙ all_at (λ z. z.claim.write_half ≡ false → set_at wanted z.claim.seat ≡ z.claim.reads) s.claims y tell old read
      | inr new ↦
          let is = all_at (IsNew s.issued seat) ns y (new_claims s.groups.groups s.issued seat r comes.normal).each new in
          let w = among_map (waiting r.first) (claims_of s.groups.groups s.issued seat r) y new in
          ap (λ b. cond b r.reads (set_at wanted y.claim.seat)) (eq-eqb y.claim.seat seat is.seated)
          ∙ sym (ap (λ (z : Claimed). z.claim.reads) w.2 ∙ reads_of s.groups.groups r.kind s.issued seat r.reads r.writes w.0 w.1 (ap (λ (z : Claimed). z.claim.write_half) (sym w.2) ∙ read))
    ]
wanted_in s (Finish seat) comes wanted tell y there read =
    all_at (λ z. z.claim.write_half ≡ false → set_at wanted z.claim.seat ≡ z.claim.reads) s.claims y tell (among_filter (λ x. not (x.claim.seat == seat)) s.claims y there).0 read
wanted_in s (event.Rise seat) comes wanted tell y there read =
    all_at (λ z. z.claim.write_half ≡ false → set_at wanted z.claim.seat ≡ z.claim.reads) s.claims y tell (among_filter (λ x. not ((x.claim.seat == seat) && not x.claim.write_half)) s.claims y there).0 read
wanted_in s (event.Ask seat part) comes wanted tell y there read =
    let w = among_map (asking seat part) s.claims y there in
    let is : y.claim ≡ w.0.claim = ap (λ (z : Claimed). z.claim) w.2 ∙ same (w.0.claim.seat == seat) w.0 in
    ap (λ (c : Claim). set_at wanted c.seat) is ∙ all_at (λ z. z.claim.write_half ≡ false → set_at wanted z.claim.seat ≡ z.claim.reads) s.claims w.0 tell w.1 (ap (λ (c : Claim). c.write_half) (sym is) ∙ read)
    ∙ ap (λ (c : Claim). c.reads) (sym is)
  where
    same : (b : Bool) (z : Claimed) → (cond b (record z { asked = part }) z).claim ≡ z.claim
    same true z = refl
    same false z = refl

-- and after any event
pub wanted_next : (s : LockState) (e : Event) → IsReached s → Comes s e → (wanted wanted' : List Set) → ((seat : ℕ) → set_at wanted' seat ≡ wanted_by wanted e seat) → TellWanted wanted s.claims → TellWanted wanted' (next s e).claims
wanted_next s e reached comes wanted wanted' is_noted tell =
    all_from (λ x. x.claim.write_half ≡ false → set_at wanted' x.claim.seat ≡ x.claim.reads) (next s e).claims
    (λ x there read.
    let from = came s e reached comes x there in
    let is : x.claim ≡ from.0.claim = from.1.given.claim ∙ from.1.by_rule.same in
    ap (λ (c : Claim). set_at wanted' c.seat) is ∙ is_noted from.0.claim.seat ∙ wanted_in s e comes wanted tell from.0 from.1.in_changed (ap (λ (c : Claim). c.write_half) (sym is) ∙ read)
    ∙ ap (λ (c : Claim). c.reads) (sym is))

-- if no request comes, all that is noted stays
pub wanted_still : (e : Event) → is_issue e ≡ false → (wanted : List Set) (seat : ℕ) → set_at wanted seat ≡ wanted_by wanted e seat
wanted_still (Issue t r) plain wanted seat = contrary true refl plain
wanted_still (Finish t) plain wanted seat = refl
wanted_still (event.Rise t) plain wanted seat = refl
wanted_still (event.Ask t part) plain wanted seat = refl

pub finish_plain : (e : Event) → is_finish e ≡ true → is_issue e ≡ false
finish_plain (Issue t r) is = contrary false is refl
finish_plain (Finish t) is = refl
finish_plain (event.Rise t) is = refl
finish_plain (event.Ask t part) is = refl
