-- The grants that an event reports are those of the requests that hold more: one for each, with all that it holds.
use Rattle.std.proofs.Common.{◌≡◌, ◌≢◌, ℕ, ◌==◌, Bool, true, false, not, cond, List, [], ◌∷◌, Option, Some, None, refl, sym, ap, subst, ◌∙◌, inl, inr}
use Rattle.std.proofs.lemmas.Bool.{eq-eqb, or_left, or_right, and_parts}
use Rattle.std.specs.Prelude.{unwrap_or}
use Rattle.std.specs.FinSet.{empty, is_subset}
use Rattle.std.specs.List.{list_any, filter_map, cons_option, AllByRecursion}
use Rattle.rset.proofs.SetLemmas.{empty_within}
use Rattle.rclaim.specs.declared.changes.GrantChange.{GrantChange}
use Rattle.rclaim.specs.declared.event.Event.{Event}
use Rattle.rmodel.specs.declared.claimed.Claimed.{Claimed}
use Rattle.rmodel.specs.declared.granted.Granted.{Granted}
use Rattle.rmodel.specs.Changes.{was_in, grant_change, changes_between}
use Rattle.rmodel.specs.Claims.{is_nested, is_satisfied, waiting}
use Rattle.rmodel.specs.Holds.{nothing, held_by, holds_of, has_request, is_nothing, is_within, Alone}
use Rattle.rmodel.specs.Reached.{IsReached}
use Rattle.rmodel.specs.State.{LockState}
use Rattle.rmodel.specs.Steps.{next, Comes}
use Rattle.rmodel.specs.Telling.{holds_more, IsGrant, AreGrants}
use Rattle.rmodel.specs.WellFormed.{Among, EachPair, IsClaim, Distinct}
use Rattle.rmodel.proofs.reaching.Came.{IsBrought, origin, came}
use Rattle.rmodel.proofs.telling.ChangesTold.{absent, was_there}
use Rattle.rmodel.proofs.reaching.HeldBySeat.{nothing_of, is_nothing_of, within_itself, nothing_within, within_nothing, within_all, all_of, held_of_plain, held_of_unsatisfied, held_within, new_holds_nothing, holds_here, idle_holds_nothing, HeldBy, holding}
use Rattle.rmodel.proofs.ListFacts.{contrary, false_from, all_at, pair_among, pairs_both}
use Rattle.rmodel.proofs.settling.OneSettlement.{both_cases}
use Rattle.rmodel.proofs.reaching.OneOfSeat.{not_nested, each_alone}
use Rattle.rmodel.proofs.reaching.Reached.{reached_next}
use Rattle.rmodel.proofs.reaching.Soundness.{read_of_half}

-- ---- lists of what a function gives

module _ {X Y : Type 0} (f : X → Option Y) where
  all_given : (P : Y → Type 0) (xs : List X) → ((x : X) → Among x xs → (y : Y) → f x ≡ Some y → P y) → AllByRecursion P (filter_map f xs)
  all_given P [] each = tt
  all_given P (x ∷ xs) each = at (f x) (each x (inl refl)) (all_given P xs (λ z there. each z (inr there)))
    where
      at : (o : Option Y) → ((y : Y) → o ≡ Some y → P y) → AllByRecursion P (filter_map f xs) → AllByRecursion P (cons_option o (filter_map f xs))
      at None one rest = rest
      at (Some y) one rest = (one y refl, rest)

  some_given : (q : Y → Bool) (xs : List X) (x : X) (y : Y) → Among x xs → f x ≡ Some y → q y ≡ true → list_any q (filter_map f xs) ≡ true
  some_given q [] x y there gives pass = absurd there
  some_given q (z ∷ xs) x y (inl same) gives pass =
      ap (λ o. list_any q (cons_option o (filter_map f xs))) (ap f (sym same) ∙ gives) ∙ or_left (q y) (list_any q (filter_map f xs)) pass
  some_given q (z ∷ xs) x y (inr later) gives pass = at (f z) (some_given q xs x y later gives pass)
    where
      at : (o : Option Y) → list_any q (filter_map f xs) ≡ true → list_any q (cons_option o (filter_map f xs)) ≡ true
      at None rest = rest
      at (Some w) rest = or_right (q w) _ rest

  pairs_given : (Q : Y → Y → Type 0) (xs : List X) → EachPair (λ a b. (y z : Y) → f a ≡ Some y → f b ≡ Some z → Q y z) xs → EachPair Q (filter_map f xs)
  pairs_given Q [] pairs = tt
  pairs_given Q (x ∷ xs) pairs = at (f x) refl (pairs_given Q xs pairs.1)
    where
      at : (o : Option Y) → f x ≡ o → EachPair Q (filter_map f xs) → EachPair Q (cons_option o (filter_map f xs))
      at None gives rest = rest
      at (Some y) gives rest =
          (all_given (Q y) xs (λ z there w gives_w. all_at (λ b. (y z : Y) → f x ≡ Some y → f b ≡ Some z → Q y z) xs z pairs.0 there y w gives gives_w), rest)

-- ---- the grant of a claim

-- a claim makes a grant where it holds more than it did
record Tells (was y : Claimed) (g : GrantChange) : Type 0 where
  more : is_within (held_by y) (held_by was) ≡ false
  seat : g.seat ≡ y.claim.seat
  reads : g.reads ≡ (held_by y).reads
  writes : g.writes ≡ (held_by y).writes

abbrev grant_by : Claimed → GrantChange
grant_by y = record { seat = y.claim.seat; reads = (held_by y).reads; writes = (held_by y).writes }

tells : (was y : Claimed) (g : GrantChange) → grant_change was y ≡ Some g → Tells was y g
tells was y g = at (is_within (held_by y) (held_by was)) refl
  where
    the_one : Some (grant_by y) ≡ Some g → grant_by y ≡ g
    the_one h = cc

    at : (b : Bool) → is_within (held_by y) (held_by was) ≡ b → cond b None (Some (grant_by y)) ≡ Some g → Tells was y g
    at true is h = absurd (none_some h)
      where
        none_some : None ≡ Some g → ⊥
        none_some h = cc
    at false is h =
        let e = the_one h in
        record { more = is; seat = ap (λ (c : GrantChange). c.seat) (sym e); reads = ap (λ (c : GrantChange). c.reads) (sym e); writes = ap (λ (c : GrantChange). c.writes) (sym e) }

tells_some : (was y : Claimed) → is_within (held_by y) (held_by was) ≡ false → grant_change was y ≡ Some (grant_by y)
tells_some was y more = ap (λ b. cond b None (Some (grant_by y))) more

-- ---- a claim and its seat

-- the write half of an upgrade that holds something holds what the read half reads, for writing
half_holds : (x z y : Claimed) → IsClaim x.claim → Distinct x z → x.claim.seat ≡ z.claim.seat → y.claim ≡ z.claim → is_nothing (held_by y) ≡ false → is_within (held_by y) (held_by x) ≡ true → ⊥
half_holds x z y is distinct seats same some within =
    let halves = distinct seats in
    let read = read_of_half x.claim halves.reads in
    let plain : is_nested y.claim.kind ≡ false = ap (λ c. is_nested c.kind) same ∙ not_nested z.claim.kind halves.upgrade in
    let writes : y.claim.writes ≡ x.claim.reads = ap (λ c. c.writes) same ∙ halves.same in
    let parts = and_parts (is_subset (held_by y).reads (all_of x.claim).reads) (is_subset (held_by y).writes (all_of x.claim).writes) (within_all (held_by y) (held_by x) (all_of x.claim) within (held_within x)) in
    both_cases (is_satisfied y)
    (λ sat.
    let held : (held_by y).writes ≡ y.claim.writes = ap (λ (g : Granted). g.writes) (held_of_plain y plain sat) in
    is.reads_some read (sym writes ∙ sym held ∙ empty_within (held_by y).writes (ap (is_subset (held_by y).writes) (sym (is.read_only read)) ∙ parts.1)))
    (λ unsat. contrary (is_nothing (held_by y)) (is_nothing_of (held_by y) (held_of_unsatisfied y plain unsat)) some)

module _ (s : LockState) (e : Event) (reached : IsReached s) (comes : Comes s e) where
  abbrev t : LockState
  t = next s e

  abbrev was : Claimed → Claimed
  was y = was_in s.claims y.claim

  alone : EachPair Alone s.claims
  alone = each_alone s reached

  alone_after : EachPair Alone t.claims
  alone_after = each_alone t (reached_next s e reached comes)

  -- a claim and its seat: it held no more than its seat, and where it now holds no more than its seat did, it holds no more than it did
  record OfSeat (y : Claimed) : Type 0 where
    held : is_within (held_by (was y)) (holds_of s.claims y.claim.seat) ≡ true
    kept : is_within (held_by y) (holds_of s.claims y.claim.seat) ≡ true → is_within (held_by y) (held_by (was y)) ≡ true

  -- a claim that was there
  was_of_seat : (y z : Claimed) → Among z s.claims → y.claim ≡ z.claim → OfSeat y
  was_of_seat y z in_s same = record {
    held = subst (λ (w : Claimed). is_within (held_by w) (holds_of s.claims y.claim.seat) ≡ true) (sym is_z) (subst (λ n. is_within (held_by z) (holds_of s.claims n) ≡ true) (ap (λ c. c.seat) (sym same)) held_then);
    kept = λ within. subst (λ (w : Claimed). is_within (held_by y) (held_by w) ≡ true) (sym is_z) (kept_then (subst (λ n. is_within (held_by y) (holds_of s.claims n) ≡ true) (ap (λ c. c.seat) same) within));
  }
    where
      is_z : was y ≡ z
      is_z = ap (was_in s.claims) same ∙ was_there s z reached.sound in_s

      held_then : is_within (held_by z) (holds_of s.claims z.claim.seat) ≡ true
      held_then =
          both_cases (is_nothing (held_by z))
          (λ none. subst (λ (g : Granted). is_within g (holds_of s.claims z.claim.seat) ≡ true) (sym (nothing_of (held_by z) none)) (nothing_within (holds_of s.claims z.claim.seat)))
          (λ some. subst (λ (g : Granted). is_within (held_by z) g ≡ true) (sym (holds_here s.claims z.claim.seat z alone in_s refl some)) (within_itself (held_by z)))

      -- the seat held what x held
      by_one : is_nothing (held_by y) ≡ false → is_within (held_by y) (holds_of s.claims z.claim.seat) ≡ true → HeldBy s.claims z.claim.seat → is_within (held_by y) (held_by z) ≡ true
      by_one some within h =
          let within_x : is_within (held_by y) (held_by h.by) ≡ true = subst (λ (g : Granted). is_within (held_by y) g ≡ true) h.is within in
          elim (pair_among (λ a b. Alone a b × Distinct a b) s.claims h.by z (pairs_both Alone Distinct (λ a b. Alone a b × Distinct a b) (λ a b p q. (p, q)) s.claims alone reached.sound.one_each) h.there in_s) [
            | inl one ↦ subst (λ (w : Claimed). is_within (held_by y) (held_by w) ≡ true) one within_x
            | inr (inl first) ↦ absurd (half_holds h.by z y (all_at (λ x. IsClaim x.claim) s.claims h.by reached.sound.well_formed.claims h.there) first.1 h.seated same some within_x)
            | inr (inr last) ↦ contrary (is_nothing (held_by h.by)) (is_nothing_of (held_by h.by) (last.0 (sym h.seated)).0) h.some
          ]

      kept_then : is_within (held_by y) (holds_of s.claims z.claim.seat) ≡ true → is_within (held_by y) (held_by z) ≡ true
      kept_then within =
          both_cases (is_nothing (held_by y))
          (λ none. subst (λ (g : Granted). is_within g (held_by z) ≡ true) (sym (nothing_of (held_by y) none)) (nothing_within (held_by z)))
          (λ some. holding s.claims z.claim.seat alone (by_one some within)
          (λ none. contrary (is_nothing (held_by y)) (is_nothing_of (held_by y) (within_nothing (held_by y) (subst (λ (g : Granted). is_within (held_by y) g ≡ true) none within))) some))

  -- a claim that the event added
  new_of_seat : (y x : Claimed) → IsBrought s x → y.claim ≡ x.claim → OfSeat y
  new_of_seat y x new same =
      let idle = ap (λ c. has_request s.claims c.seat) same ∙ new.idle in
      let fresh : held_by (was y) ≡ nothing =
      ap (λ o. held_by (unwrap_or o (waiting empty y.claim))) (absent s.claims y.claim.seat y.claim.write_half idle) ∙ new_holds_nothing y.claim in
      let none = idle_holds_nothing s.claims y.claim.seat idle in
      record {
        held = subst (λ (g : Granted). is_within g (holds_of s.claims y.claim.seat) ≡ true) (sym fresh) (nothing_within (holds_of s.claims y.claim.seat));
        kept = λ within. subst (λ (g : Granted). is_within (held_by y) g ≡ true) (none ∙ sym fresh) within;
      }

  of_seat : (y : Claimed) → Among y t.claims → OfSeat y
  of_seat y there =
      let from = came s e reached comes y there in
      let m = from.1 in
      let same : y.claim ≡ from.0.claim = m.given.claim ∙ m.by_rule.same in
      elim (origin s e comes from.0 m.in_changed) [
        | inl old ↦ was_of_seat y old.was old.there (same ∙ old.still.claim)
        | inr new ↦ new_of_seat y from.0 new same
      ]

  -- ---- the grants

  -- a claim that holds more than it did holds something
  holds_some : (y : Claimed) → is_within (held_by y) (held_by (was y)) ≡ false → is_nothing (held_by y) ≡ false
  holds_some y more = false_from (is_nothing (held_by y)) (λ none.
      contrary (is_within (held_by y) (held_by (was y))) (subst (λ (g : Granted). is_within g (held_by (was y)) ≡ true) (sym (nothing_of (held_by y) none)) (nothing_within (held_by (was y)))) more)

  grant_is : (y : Claimed) (g : GrantChange) → Among y t.claims → Tells (was y) y g → IsGrant s t g
  grant_is y g there told =
      let held : holds_of t.claims g.seat ≡ held_by y = holds_here t.claims g.seat y alone_after there (sym told.seat) (holds_some y told.more) in
      record {
        more = ap not (false_from (is_within (holds_of t.claims g.seat) (holds_of s.claims g.seat)) (λ within.
            contrary (is_within (held_by y) (held_by (was y))) ((of_seat y there).kept ((λ i. is_within (sym held i) (holds_of s.claims (sym told.seat i))) ∙ within)) told.more));
        reads = told.reads ∙ ap (λ (h : Granted). h.reads) (sym held);
        writes = told.writes ∙ ap (λ (h : Granted). h.writes) (sym held);
      }

  -- a seat that holds more has a claim that reports it
  grant_of : (seat : ℕ) → holds_more s t seat ≡ true → (h : HeldBy t.claims seat) → is_within (held_by h.by) (held_by (was h.by)) ≡ false
  grant_of seat more h = false_from (is_within (held_by h.by) (held_by (was h.by))) (λ within.
      contrary (not (is_within (holds_of t.claims seat) (holds_of s.claims seat))) more
      (ap not ((λ i. is_within (h.is i) (holds_of s.claims (sym h.seated i))) ∙ within_all (held_by h.by) (held_by (was h.by)) (holds_of s.claims h.by.claim.seat) within (of_seat h.by h.there).held)))

  pub grants_are : AreGrants s t (changes_between s t).grants
  unfolding changes_between
  grants_are = record {
    each = all_given (λ y. grant_change (was y) y) (IsGrant s t) t.claims (λ y there g gives. grant_is y g there (tells (was y) y g gives));
    all = λ seat more. holding t.claims seat alone_after
        (λ h. some_given (λ y. grant_change (was y) y) (λ g. g.seat == seat) t.claims h.by (grant_by h.by) h.there (tells_some (was h.by) h.by (grant_of seat more h)) (eq-eqb h.by.claim.seat seat h.seated))
        (λ none. contrary (not (is_within (holds_of t.claims seat) (holds_of s.claims seat))) more
        (ap (λ (g : Granted). not (is_within g (holds_of s.claims seat))) none ∙ ap not (nothing_within (holds_of s.claims seat))));
    once = pairs_given (λ y. grant_change (was y) y) (λ g h. g.seat ≢ h.seat) t.claims
        (pairs_weaker t.claims alone_after);
  }
    where
      two : (a b : Claimed) → Alone a b → (g h : GrantChange) → grant_change (was a) a ≡ Some g → grant_change (was b) b ≡ Some h → g.seat ≢ h.seat
      two a b alone g h gives_g gives_h seats =
          let of_g = tells (was a) a g gives_g in
          let of_h = tells (was b) b h gives_h in
          contrary (is_nothing (held_by b)) (is_nothing_of (held_by b) (alone (sym of_g.seat ∙ seats ∙ of_h.seat)).0) (holds_some b of_h.more)

      pairs_weaker : (xs : List Claimed) → EachPair Alone xs → EachPair (λ a b. (g h : GrantChange) → grant_change (was a) a ≡ Some g → grant_change (was b) b ≡ Some h → g.seat ≢ h.seat) xs
      pairs_weaker xs pairs = pairs_both Alone Alone _ (λ a b p q. two a b p) xs pairs pairs
