-- The least of a line stays if it is not of the lost seat.
use Rattle.std.proofs.Common.{◌≡◌, ◌≢◌, ℕ, zero, suc, ◌<◌, ◌≤◌, ◌==◌, Bool, true, false, not, ◌&&◌, ◌||◌, cond, Some, List, [], ◌∷◌, refl, sym, ap, subst, ◌∙◌, arith, inl, inr}
use Rattle.std.proofs.lemmas.Bool.{and_parts, and_from, eq-eqb, eqb-true}
use Rattle.std.specs.List.{list_any, AllByRecursion}
use Rattle.std.specs.Prelude.{slice_get}
use Rattle.std.specs.FinSet.{contains, empty, is_subset}
use Rattle.rset.specs.Sets.{Set, meets}
use Rattle.rset.specs.declared.TheConstants.{SEATS}
use Rattle.rset.proofs.SetsMeet.{meets_empty_left, meets_empty_right, meets_symmetric, meets_within_right}
use Rattle.rclaim.specs.declared.claim.Claim.{Claim}
use Rattle.rclaim.specs.declared.changes.StatusChange.{StatusChange}
use Rattle.rclaim.specs.declared.event.Event.{Event}
use Rattle.rclaim.specs.declared.event.Event.TheVariants.{Issue, Finish}
use Rattle.rclaim.specs.declared.event.Event.TheVariants as event
use Rattle.rmodel.specs.declared.claimed.Claimed.{Claimed}
use Rattle.rmodel.specs.Changes.{changes_between}
use Rattle.rmodel.specs.Claims.{conflicts, is_active, is_satisfied, share_place}
use Rattle.rmodel.specs.Reached.{IsReached}
use Rattle.rmodel.specs.Rules.{is_earlier_write}
use Rattle.rmodel.specs.State.{LockState}
use Rattle.rmodel.specs.Steps.{changed, next, Comes}
use Rattle.rmodel.specs.WellFormed.{Among, EachPair, Rises, IsClaim}
use Rattle.rmodel.proofs.ListFacts.{contrary, false_from, all_at, all_from, any_among, in_filter, passing}
use Rattle.rmodel.proofs.reaching.Reached.{reached_next}
use Rattle.rmodel.proofs.reaching.Came.{IsStill, goes, left}
use Rattle.rmodel.proofs.reaching.Growing.{IsGrown}
use Rattle.rmodel.proofs.settling.OneSettlement.{both_cases}
use Rattle.rcover_laws.specs.Line.{line, first_or, least_of}
use Rattle.rcover_laws.specs.Moments.{Moment, There, is_claim, holds_at}
use Rattle.rcover_laws.proofs.runs.Moments.{are_one}
use Rattle.rcover_laws.proofs.states.LeastOfLine.{IsWriteThere, write_by_stamp, of_line_there, least_there, line_shrinks}
use Rattle.rcover_laws.proofs.states.Lines.{IsOfLine, earlier_of, least_is, least_below}
use Rattle.rcover.specs.declared.lines.Head.{Head}
use Rattle.rcover.specs.Lines.{head_of, takes_seat, set_at, IsBehind, HoldBehind, IsLost, IsTouched, with_told, TellAt, TellHeads, IsNoted, GoesBy, tells_write_of}
use Rattle.rcover.specs.Due.{ReadStays}
use Rattle.rcover.specs.declared.shares.Share.{Share}
use Rattle.rcover.specs.Shares.{share_of, TellShares}
use Rattle.rcover.specs.Past.{is_issue}
use Rattle.rcover.proofs.Kept.{keeper_there}
use Rattle.rcover.proofs.ending.Grants.{is_told, told_is}
use Rattle.rcover.proofs.heads_told.Heads.{holds_own}
use Rattle.rcover.proofs.heads_told.Leasts.{least_under, least_from, one_of_stamp, least_all}
use Rattle.rcover.proofs.told.Stood.{before}

-- resources that include all that is written by the writes that are reported to be satisfied
abbrev pub HoldWritten : Set → List StatusChange → Moment → Type 0
HoldWritten written statuses m = AllByRecursion (λ x. x.claim.write_half ≡ true → tells_write_of statuses x.claim.seat ≡ true → is_subset x.claim.writes written ≡ true) m

and_none : (b : Bool) → (b && false) ≡ false
and_none true = refl
and_none false = refl

-- ---- writes that keep a read out

first_of_three : (a b d : Bool) → (a && b && d) ≡ true → a ≡ true
first_of_three true b d h = refl
first_of_three false true true h = h
first_of_three false true false h = h
first_of_three false false true h = h
first_of_three false false false h = h

third_of_three : (a b d : Bool) → (a && b && d) ≡ true → d ≡ true
third_of_three a b true h = refl
third_of_three true true false h = h
third_of_three true false false h = h
third_of_three false true false h = h
third_of_three false false false h = h

-- a read conflicts with a claim that writes some of what it reads
read_meets : (c v : Claim) → c.writes ≡ empty → conflicts v c ≡ true → meets c.reads v.writes ≡ true
read_meets c v none h =
    sym (at (meets c.reads v.writes))
    ∙ sym ((λ i. (meets c.reads v.writes || meets (none i) v.writes) || (meets v.reads (none i) || meets v.writes (none i)))
    ∙ (λ i. (meets c.reads v.writes || meets_empty_left v.writes i) || (meets_empty_right v.reads i || meets_empty_right v.writes i)))
    ∙ h
  where
    at : (b : Bool) → ((b || false) || (false || false)) ≡ b
    at true = refl
    at false = refl

-- what holds of a claim and of all writes holds of the least of its line
least_writes : (P : Claim → Type 0) (c : Claim) → P c → (m : Moment) → AllByRecursion (λ x. x.claim.write_half ≡ true → P x.claim) m → P (least_of c m)
least_writes P c own [] all = own
least_writes P c own (x ∷ xs) all =
    both_cases (is_earlier_write c x.claim && list_any (share_place x.claim) (c ∷ line c xs))
    (λ on.
    subst (λ b. P (first_or c (cond b (x.claim ∷ line c xs) (line c xs)))) (sym on)
    (all.0 (earlier_of c x.claim (and_parts (is_earlier_write c x.claim) (list_any (share_place x.claim) (c ∷ line c xs)) on).0).write))
    (λ off. subst (λ b. P (first_or c (cond b (x.claim ∷ line c xs) (line c xs)))) (sym off) (least_writes P c own xs all.1))

-- ---- after an event that is no issue

module _ (s : LockState) (e : Event) (reached : IsReached s) (comes : Comes s e) (old : is_issue e ≡ false) where
  abbrev m : Moment
  m = s.claims

  abbrev n : Moment
  n = (next s e).claims

  abbrev told : List StatusChange
  told = (changes_between s (next s e)).statuses

  on : IsReached (next s e)
  on = reached_next s e reached comes

  -- a write that the event does not take away is there after it
  pub stands : (x : Claimed) → Among x m → x.claim.write_half ≡ true → takes_seat e x.claim.seat ≡ false → There x.claim n
  stands x there write still =
      let at = left_by e old still in
      let y = goes s e reached comes at.0 at.1 in
      record { at = y.0; among = y.1.in_next; is = y.1.given.claim ∙ y.1.by_rule.same ∙ at.2.claim }
    where
      turned : (seat : ℕ) → (seat == x.claim.seat) ≡ false → (x.claim.seat == seat) ≡ false
      turned seat other = false_from (x.claim.seat == seat) (λ h. contrary (seat == x.claim.seat) (eq-eqb seat x.claim.seat (sym (eqb-true x.claim.seat seat h))) other)

      itself : IsStill x x
      itself = record { claim = refl; status = refl; granted = refl }

      left_by : (e : Event) → is_issue e ≡ false → takes_seat e x.claim.seat ≡ false → (z : Claimed) × Among z (changed s e).claims × IsStill x z
      left_by (Issue seat r) old still = contrary true refl old
      left_by (Finish seat) old still = (x, in_filter (λ z. not (z.claim.seat == seat)) s.claims x there (ap not (turned seat still)), itself)
      left_by (event.Rise seat) old still = (x, in_filter (λ z. not ((z.claim.seat == seat) && not z.claim.write_half)) s.claims x there (ap (λ b. not ((x.claim.seat == seat) && not b)) write ∙ ap not (and_none (x.claim.seat == seat))), itself)
      left_by (event.Ask seat part) old still = let h = left s (event.Ask seat part) x there refl in (h.to, h.there, h.still)

  -- the least of a line stays if it is of another seat than the lost one
  module _ (lost : Head) (gone : Set) (is_lost : AllByRecursion (IsLost lost gone e m) m) where
    rising : EachPair Rises m
    rising = reached.sound.well_formed.rising

    rising_on : EachPair Rises n
    rising_on = on.sound.well_formed.rising

    not_taken : (x : Claimed) → Among x m → x.claim.write_half ≡ true → (least_of x.claim m).seat ≢ lost.claim.seat → takes_seat e x.claim.seat ≡ false
    not_taken x there write other =
        false_from (takes_seat e x.claim.seat) (λ h.
        absurd (other (ap (λ (k : Head). k.claim.seat) ((all_at (IsLost lost gone e m) m x is_lost there).taken write h))))

    pub least_stays : (k : ℕ) (x : Claimed) → Among x m → x.claim.write_half ≡ true → There x.claim n → x.claim.stamp < k → (least_of x.claim m).seat ≢ lost.claim.seat → least_of x.claim n ≡ least_of x.claim m
    least_stays zero x there write there' below other = absurd (omega arith)
    least_stays (suc k) x there write there' below other =
        write_by_stamp s reached (least_of c n) (least_of c m) (of_line_there s reached c waits (least_of c n) shrunk) (least_there s reached c waits) (let l = low in let h = high (least_stays k) in omega arith)
      where
        c : Claim
        c = x.claim

        waits : IsWriteThere c m
        waits = record { there = record { at = x; among = there; is = refl }; write = write }

        shrunk : IsOfLine c m (least_of c n)
        shrunk = line_shrinks s reached e comes c waits (least_of c n) (least_is c n)

        low : (least_of c m).stamp ≤ (least_of c n).stamp
        low = least_below c m rising (least_of c n) shrunk

        -- it holds of earlier writes
        Earlier : Type 0
        Earlier = (y : Claimed) → Among y m → y.claim.write_half ≡ true → There y.claim n → y.claim.stamp < k → (least_of y.claim m).seat ≢ lost.claim.seat → least_of y.claim n ≡ least_of y.claim m

        -- by an earlier write that shares a place and has the same least
        by : Earlier → (y : Claimed) → Among y m → is_earlier_write c y.claim ≡ true → share_place y.claim c ≡ true → (least_of y.claim m).stamp ≤ (least_of c m).stamp → (least_of c n).stamp ≤ (least_of c m).stamp
        by stays_so y in_m earlier share not_below =
            let parts = earlier_of c y.claim earlier in
            let of_y : IsWriteThere y.claim m = record { there = record { at = y; among = in_m; is = refl }; write = parts.write } in
            let up = least_under m rising c y in_m earlier share in
            let same : least_of y.claim m ≡ least_of c m = write_by_stamp s reached (least_of y.claim m) (least_of c m) (least_there s reached y.claim of_y) (least_there s reached c waits) (omega arith) in
            let other_y : (least_of y.claim m).seat ≢ lost.claim.seat = λ h. other (ap (λ (d : Claim). d.seat) (sym same) ∙ h) in
            let z = stands y in_m parts.write (not_taken y in_m parts.write other_y) in
            let less = parts.below in
            let stays = stays_so y in_m parts.write z (omega arith) other_y in
            let under = least_under n rising_on c z.at z.among (ap (is_earlier_write c) z.is ∙ earlier) (ap (λ d. share_place d c) z.is ∙ share) in
            let e_1 = ap (λ (d : Claim). (least_of d n).stamp) z.is in
            let e_2 = ap (λ (d : Claim). d.stamp) stays in
            omega arith

        high : Earlier → (least_of c n).stamp ≤ (least_of c m).stamp
        high stays_so = elim (least_from m rising c) [
          | inl itself ↦ (let h = least_below c n rising_on c (inl refl) in let e_1 = ap (λ (d : Claim). d.stamp) itself in omega arith)
          | inr y ↦ by stays_so y.0 y.1 y.2 y.3 y.4
        ]

  -- it also stays if no earlier write that shares a place goes or gets another least: the places of those are among these
  module _ (dirty : Set) (gone : AllByRecursion (λ y. y.claim.write_half ≡ true → takes_seat e y.claim.seat ≡ true → is_subset y.claim.places dirty ≡ true) m) where
    pub least_apart : (x : Claimed) → Among x m → x.claim.write_half ≡ true → meets x.claim.places dirty ≡ false → AllByRecursion (λ y. y.claim.stamp < x.claim.stamp → IsNoted dirty m n y) n → (least_of x.claim n).stamp ≡ (least_of x.claim m).stamp
    least_apart x there write apart noted = let l = low in let h = high in omega arith
      where
        c : Claim
        c = x.claim

        rises : EachPair Rises m
        rises = reached.sound.well_formed.rising

        rises_on : EachPair Rises n
        rises_on = on.sound.well_formed.rising

        waits : IsWriteThere c m
        waits = record { there = record { at = x; among = there; is = refl }; write = write }

        low : (least_of c m).stamp ≤ (least_of c n).stamp
        low = least_below c m rises (least_of c n) (line_shrinks s reached e comes c waits (least_of c n) (least_is c n))

        clear : (y : Claimed) → share_place y.claim c ≡ true → is_subset y.claim.places dirty ≡ false
        clear y share =
            false_from (is_subset y.claim.places dirty) (λ within.
            contrary (meets c.places dirty) (meets_within_right c.places y.claim.places dirty within (meets_symmetric c.places y.claim.places ∙ share)) apart)

        by : (y : Claimed) → Among y m → is_earlier_write c y.claim ≡ true → share_place y.claim c ≡ true → (least_of y.claim m).stamp ≤ (least_of c m).stamp → (least_of c n).stamp ≤ (least_of c m).stamp
        by y in_m earlier share not_below =
            let parts = earlier_of c y.claim earlier in
            let stays = false_from (takes_seat e y.claim.seat) (λ takes.
            contrary (is_subset y.claim.places dirty) (all_at (λ z. z.claim.write_half ≡ true → takes_seat e z.claim.seat ≡ true → is_subset z.claim.places dirty ≡ true) m y gone in_m parts.write takes) (clear y share)) in
            let z = stands y in_m parts.write stays in
            let below = subst (λ (d : Claim). d.stamp < c.stamp) (sym z.is) parts.below in
            let under = least_under n rises_on c z.at z.among (ap (is_earlier_write c) z.is ∙ earlier) (ap (λ d. share_place d c) z.is ∙ share) in
            elim (all_at (λ (y : Claimed). y.claim.stamp < c.stamp → IsNoted dirty m n y) n z.at noted z.among below (ap (λ (d : Claim). d.write_half) z.is ∙ parts.write)) [
              | inl same ↦ (let e_1 = ap (λ (d : Claim). (least_of d m).stamp) z.is in omega arith)
              | inr within ↦ contrary (is_subset y.claim.places dirty) (ap (λ (d : Claim). is_subset d.places dirty) (sym z.is) ∙ within) (clear y share)
            ]

        high : (least_of c n).stamp ≤ (least_of c m).stamp
        high = elim (least_from m rises c) [
          | inl itself ↦ (let h = least_below c n rises_on c (inl refl) in let e_1 = ap (λ (d : Claim). d.stamp) itself in omega arith)
          | inr y ↦ by y.0 y.1 y.2 y.3 y.4
        ]

  -- heads that are known for all writes before the event are known for those after it
  pub told_before : (hs : List Head) → TellHeads hs m → TellAt hs m n
  told_before hs tells =
      all_from (λ z. z.claim.write_half ≡ true → slice_get hs z.claim.seat ≡ Some (head_of m z.claim)) n
      (λ x there write.
      let z = before s e reached comes old x there in
      subst (λ (d : Claim). slice_get hs d.seat ≡ Some (head_of m d)) (sym z.2.claim)
      (all_at (λ y. y.claim.write_half ≡ true → slice_get hs y.claim.seat ≡ Some (head_of m y.claim)) m z.0 tells z.1 (ap (λ (d : Claim). d.write_half) (sym z.2.claim) ∙ write)))

  -- sets that hold all writes before the event hold those after it
  pub behind_before : (ss : List Set) → HoldBehind ss m m → HoldBehind ss m n
  behind_before ss hold =
      all_from (λ z. z.claim.write_half ≡ true → IsBehind ss m z) n
      (λ x there write.
      let z = before s e reached comes old x there in
      subst (λ (d : Claim). contains (set_at ss (least_of d m).seat) d.seat ≡ true) (sym z.2.claim)
      (all_at (λ y. y.claim.write_half ≡ true → IsBehind ss m y) m z.0 hold z.1 (ap (λ (d : Claim). d.write_half) (sym z.2.claim) ∙ write)))

  module _ (came : Set) (are : (seat : ℕ) → seat < SEATS → contains came seat ≡ tells_write_of told seat) (seats : AllByRecursion (λ y. y.claim.seat < SEATS) m) where
    module _ (x : Claimed) (there : Among x n) (write : x.claim.write_half ≡ true) (low : x.claim.seat < SEATS) where
      abbrev c : Claim
      c = x.claim

      least_low : (least_of c m).seat < SEATS
      least_low = least_all (λ d. d.seat < SEATS) c low m seats

      -- the least of the line is there at the next moment
      standing : (y : Claimed) × Among y n × (y.claim ≡ least_of c n) × ((least_of c n).write_half ≡ true)
      standing =
          least_writes (λ d. (y : Claimed) × Among y n × (y.claim ≡ d) × (d.write_half ≡ true)) c (x, there, refl, write) n
          (all_from (λ z. z.claim.write_half ≡ true → (y : Claimed) × Among y n × (y.claim ≡ z.claim) × (z.claim.write_half ≡ true)) n (λ z in_n w. (z, in_n, refl, w)))

      abbrev y : Claimed
      y = standing.0

      y_write : y.claim.write_half ≡ true
      y_write = ap (λ (d : Claim). d.write_half) standing.2 ∙ standing.3

      holds_y : holds_at (least_of c n) n ≡ is_satisfied y
      holds_y = ap (λ d. holds_at d n) (sym standing.2) ∙ holds_own n on.sound.well_formed.rising y standing.1 y_write

      -- a least claim of the same stamp is the same
      module _ (stamps : (least_of c n).stamp ≡ (least_of c m).stamp) where
        least_is_still : least_of c n ≡ least_of c m
        least_is_still =
            let z = before s e reached comes old x there in
            let waits : IsWriteThere c m = record { there = record { at = z.0; among = z.1; is = sym z.2.claim }; write = write } in
            write_by_stamp s reached (least_of c n) (least_of c m) (of_line_there s reached c waits (least_of c n) (line_shrinks s reached e comes c waits (least_of c n) (least_is c n))) (least_there s reached c waits) stamps

        y_is : y.claim ≡ least_of c m
        y_is = standing.2 ∙ least_is_still

        told_y : tells_write_of told y.claim.seat ≡ contains came (least_of c m).seat
        told_y = ap (λ (d : Claim). tells_write_of told d.seat) y_is ∙ sym (are (least_of c m).seat least_low)

        holds_came : contains came (least_of c m).seat ≡ true → holds_at (least_of c n) n ≡ true
        holds_came h = holds_y ∙ told_is s e reached comes old y standing.1 y_write (told_y ∙ h)

        holds_stays : contains came (least_of c m).seat ≡ false → holds_at (least_of c n) n ≡ holds_at (least_of c m) m
        holds_stays h =
            let z = before s e reached comes old y standing.1 in
            let same : is_satisfied y ≡ is_satisfied z.0
            = both_cases (is_satisfied z.0) (λ sat. z.2.satisfied sat ∙ sym sat)
            (λ unsat.
            false_from (is_satisfied y) (λ sat.
            contrary (tells_write_of told y.claim.seat) (is_told s e reached comes old y z.0 standing.1 z.1 z.2.claim y_write sat unsat) (told_y ∙ h))
            ∙ sym unsat) in
            holds_y ∙ same
            ∙ sym (ap (λ d. holds_at d m) (sym y_is ∙ z.2.claim) ∙ holds_own m reached.sound.well_formed.rising z.0 z.1 (ap (λ (d : Claim). d.write_half) (sym z.2.claim) ∙ y_write))

        head_stays : head_of n c ≡ with_told came (head_of m c)
        head_stays =
            both_cases (contains came (least_of c m).seat)
            (λ h.
            (λ i. let g : Head = record { claim = least_is_still i; holds = holds_came h i } in g)
            ∙ sym (ap (λ b. cond b came_head (head_of m c)) h))
            (λ h.
            (λ i. let g : Head = record { claim = least_is_still i; holds = holds_stays h i } in g)
            ∙ sym (ap (λ b. cond b came_head (head_of m c)) h))
          where
            came_head : Head
            came_head = record { claim = least_of c m; holds = true }

    -- so the head of each write is carried on
    pub goes_by : (lost : Head) (gone : Set) → AllByRecursion (IsLost lost gone e m) m → (touched : Set) → AllByRecursion (IsTouched lost.claim.seat told touched m) m → (x : Claimed) → Among x n → x.claim.seat < SEATS → GoesBy lost gone came touched m n x
    goes_by lost gone is_lost touched touch x there low = record {
      still = λ write off.
          head_stays x there write low (other write (elsewhere write off))
          ∙ ap (λ b. cond b (let g : Head = record { claim = least_of x.claim m; holds = true } in g) (head_of m x.claim))
          (are (least_of x.claim m).seat (least_low x there write low) ∙ ap (λ (d : Claim). tells_write_of told (least_of d m).seat) is ∙ parts.not_told (half write) (ap (λ (d : Claim). contains touched d.seat) (sym is) ∙ off));
      elsewhere = elsewhere;
      seat = λ write. least_low x there write low;
      other = other;
      apart = λ write dirty within apart noted.
          subst (λ (d : Claim). (least_of d n).stamp ≡ (least_of d m).stamp) (sym is)
          (least_apart dirty
          (all_from (λ y. y.claim.write_half ≡ true → takes_seat e y.claim.seat ≡ true → is_subset y.claim.places dirty ≡ true) m
          (λ y in_m w takes. ap (λ (s : Set). is_subset s dirty) ((all_at (IsLost lost gone e m) m y is_lost in_m).places w takes) ∙ within)) z.0 z.1 (half write) (ap (λ (d : Claim). meets d.places dirty) (sym is) ∙ apart)
          (subst (λ (d : Claim). AllByRecursion (λ y. y.claim.stamp < d.stamp → IsNoted dirty m n y) n) is noted));
      head = λ write stamps. head_stays x there write low stamps;
      one = λ write same.
          ap (head_of m) is ∙ (all_at (IsLost lost gone e m) m z.0 is_lost z.1).one (half write) (ap (λ (d : Claim). (least_of d m).seat) (sym is) ∙ same);
    }
      where
        z : (y : Claimed) × Among y m × IsGrown y x
        z = before s e reached comes old x there

        is : x.claim ≡ z.0.claim
        is = z.2.claim

        parts : IsTouched lost.claim.seat told touched m z.0
        parts = all_at (IsTouched lost.claim.seat told touched m) m z.0 touch z.1

        half : x.claim.write_half ≡ true → z.0.claim.write_half ≡ true
        half write = ap (λ (d : Claim). d.write_half) (sym is) ∙ write

        elsewhere : x.claim.write_half ≡ true → contains touched x.claim.seat ≡ false → (least_of x.claim m).seat ≢ lost.claim.seat
        elsewhere write off h = parts.not_lost (half write) (ap (λ (d : Claim). contains touched d.seat) (sym is) ∙ off) (ap (λ (d : Claim). (least_of d m).seat) (sym is) ∙ h)

        other : x.claim.write_half ≡ true → (least_of x.claim m).seat ≢ lost.claim.seat → (least_of x.claim n).stamp ≡ (least_of x.claim m).stamp
        other write apart =
            ap (λ (d : Claim). d.stamp)
            (subst (λ (d : Claim). least_of d n ≡ least_of d m) (sym is)
            (least_stays lost gone is_lost (suc z.0.claim.stamp) z.0 z.1 (half write) (record { at = x; among = there; is = is }) (omega arith)
            (λ h. apart (ap (λ (d : Claim). (least_of d m).seat) is ∙ h))))

  -- what the writes before the event take, those after it do
  pub shares_before : (ss : List Share) → TellShares ss m → TellShares ss n
  shares_before ss tell =
      all_from (λ z. z.claim.write_half ≡ true → slice_get ss z.claim.seat ≡ Some (share_of z.claim)) n
      (λ x there write.
      let z = before s e reached comes old x there in
      subst (λ (d : Claim). slice_get ss d.seat ≡ Some (share_of d)) (sym z.2.claim)
      (all_at (λ y. y.claim.write_half ≡ true → slice_get ss y.claim.seat ≡ Some (share_of y.claim)) m z.0 tell z.1 (ap (λ (d : Claim). d.write_half) (sym z.2.claim) ∙ write)))

  -- a read that reads nothing of what came to be held is kept waiting as before
  pub read_stays : (written : Set) → HoldWritten written told n → (x : Claimed) → Among x n → ReadStays written m n x
  read_stays written hold x there read apart v keeper before_off =
      false_from (holds_at v n) (λ h.
      let y = passing (λ z. is_satisfied z && is_claim v z.claim) n h in
      let parts = and_parts (is_satisfied y.0) (is_claim v y.0.claim) y.2 in
      let z = before s e reached comes old y.0 y.1 in
      let k = keeper_there x.claim m v keeper in
      let one = are_one v y.0.claim parts.1 in
      let v_write : v.write_half ≡ true = ap (λ (d : Claim). d.write_half) (sym k.2) ∙ first_of_three k.0.claim.write_half (is_active k.0) (conflicts k.0.claim x.claim) k.3 in
      let y_write : y.0.claim.write_half ≡ true = sym one.half ∙ v_write in
      let k_write : k.0.claim.write_half ≡ true = ap (λ (d : Claim). d.write_half) k.2 ∙ v_write in
      let z_write : z.0.claim.write_half ≡ true = ap (λ (d : Claim). d.write_half) (sym z.2.claim) ∙ y_write in
      let stamp : k.0.claim.stamp ≡ z.0.claim.stamp = ap (λ (d : Claim). d.stamp) k.2 ∙ one.stamp ∙ ap (λ (d : Claim). d.stamp) z.2.claim in
      let same : k.0 ≡ z.0 = one_of_stamp m reached.sound.well_formed.rising k.0 z.0 k.1 z.1 k_write z_write stamp in
      let is : k.0.claim ≡ y.0.claim = ap (λ (w : Claimed). w.claim) same ∙ sym z.2.claim in
      let unsat : is_satisfied z.0 ≡ false
      = false_from (is_satisfied z.0) (λ sat.
      contrary (holds_at v m)
      (any_among (λ w. is_satisfied w && is_claim v w.claim) m z.0 z.1 (and_from (is_satisfied z.0) (is_claim v z.0.claim) sat (ap (is_claim v) (sym z.2.claim) ∙ parts.1))) before_off) in
      let held : tells_write_of told y.0.claim.seat ≡ true = is_told s e reached comes old y.0 z.0 y.1 z.1 z.2.claim y_write parts.0 unsat in
      let within : is_subset y.0.claim.writes written ≡ true
      = all_at (λ w. w.claim.write_half ≡ true → tells_write_of told w.claim.seat ≡ true → is_subset w.claim.writes written ≡ true) n y.0 hold y.1 y_write held in
      let none : x.claim.writes ≡ empty = (all_at (λ w. IsClaim w.claim) n x on.sound.well_formed.claims there).read_only read in
      let met : meets x.claim.reads y.0.claim.writes ≡ true
      = ap (λ (d : Claim). meets x.claim.reads d.writes) (sym is)
      ∙ read_meets x.claim k.0.claim none (third_of_three k.0.claim.write_half (is_active k.0) (conflicts k.0.claim x.claim) k.3) in
      contrary (meets x.claim.reads written) (meets_within_right x.claim.reads y.0.claim.writes written within met) apart)
