use Rattle.std.proofs.Common.{◌≡◌, ◌≢◌, ◌<◌, ◌==◌, ◌||◌, ◌∷◌, true, false, ℕ, List, length, refl, sym, ap, subst, arith, ◌∙◌}
use Rattle.std.proofs.lemmas.Bool.{and_parts, or_right, eq-eqb}
use Rattle.std.specs.List.{list_any}
use Rattle.std.specs.List.Sorted.{IsStrictlyIncreasing}
use Rattle.std.specs.FinSet.{contains}
use Rattle.rset.specs.Sets.{Set, rising}
use Rattle.rset.specs.declared.TheConstants.{SEATS}
use Rattle.rset.proofs.SetMembers.{contains_empty}
use Rattle.rset.proofs.SetsRising.{rising_has, rising_member, rising_strict}
use Rattle.rmodel.proofs.ListFacts.{all_at, all_from, contrary, false_from}
use Rattle.rcover_laws.specs.Lists.{AreAtMost}
use Rattle.rcover_laws.specs.Sections.{Sections}
use Rattle.rcover_laws.specs.Told.{waits_to_rise}
use Rattle.rcover.specs.Follow.{table_of}
use Rattle.rcover.specs.Kept.{length_by, may_wait, kept_of}
use Rattle.rcover.specs.Lines.{HeadsTell}
use Rattle.rcover.specs.Due.{is_write_of_these, StoodBy}
use Rattle.rcover.specs.NotedSeats.{is_rising}
use Rattle.rcover.proofs.Tables.{Visited, comes_once, first_kept, other, visited_all, visited_none, visited_push}
use Rattle.rcover.proofs.follow.keep_writes.Goals as goal

-- the first of some seats is among them
comes_first : (s : ℕ) (all left : List ℕ) → all ≡ s ∷ left → list_any (λ k. k == s) all ≡ true
comes_first s all left steps = ap (λ ls. list_any (λ k. k == s) ls) steps ∙ ap (λ b. b || list_any (λ k. k == s) left) (eq-eqb s s refl)

-- and not again
once : (s seat : ℕ) (set : Set) (left : List ℕ) → rising set ≡ s ∷ left → seat ≡ s → list_any (λ l. l == seat) left ≡ false
once s seat set left steps own = ap (λ k. list_any (λ l. l == k) left) own ∙ comes_once s left (subst (λ ls. IsStrictlyIncreasing ls) steps (rising_strict set))

pub loop-seat-init : goal.loop-seat-init
loop-seat-init c =
    let looked = c.args.looked in
    let whole : c.into_iter-seat-iterator.result ≡ looked = c.into_iter-seat-iterator.ensures.into_iter_gives ∙ c.iter-seat-items.ensures.value in
    record {
      taken = c.none_taken-taken.ensures c.args.lengths.now c.args.last.now;
      within = λ seat h. rising_member looked seat (ap (λ s. list_any (λ k. k == seat) (rising s)) (sym whole) ∙ h);
      visited =
          visited_none c.args.last.now c.args.next.now looked (table_of c.args.runs.now) (rising c.into_iter-seat-iterator.result)
          (λ seat on. ap (λ s. list_any (λ k. k == seat) (rising s)) whole ∙ rising_has looked c.iter-seat-items.ensures.within seat ∙ on) c.args.next.now;
      others = λ seat none. refl;
      room = c.requires.room;
      len = refl;
      lengths = λ len are_m are_n have. have;
    }

pub write_at-x-requires : goal.write_at-x-requires
write_at-x-requires c = c.requires.placed c.in-Some.seat (c.loop-seat.invariant.within c.in-Some.seat (comes_first c.in-Some.seat (rising c.loop-seat.seat-iterator) (rising c.next.new.self) c.in-Some.ensures.steps))

pub keep_due-requires-clause-low : goal.keep_due-requires-clause-low
keep_due-requires-clause-low c = all_at (λ y. y.claim.seat < SEATS) c.args.next.now c.write_at-x.result.now c.requires.low c.write_at-x.ensures.there

pub keep_due-requires-clause-rising : goal.keep_due-requires-clause-rising
keep_due-requires-clause-rising c = all_at (λ y. waits_to_rise c.args.next.now y ≡ is_rising c.args.rising y) c.args.next.now c.write_at-x.result.now c.requires.rising c.write_at-x.ensures.there

pub keep_due-requires-clause-seat : goal.keep_due-requires-clause-seat
keep_due-requires-clause-seat c =
    let h = all_at (λ y. y.claim.seat < length c.args.runs.now) c.args.next.now c.write_at-x.result.now c.requires.seats c.write_at-x.ensures.there in
    let same = c.loop-seat.invariant.len in
    omega arith

pub keep_due-requires-clause-head : goal.keep_due-requires-clause-head
keep_due-requires-clause-head c = all_at (λ y. y.claim.seat < length c.args.heads.now) c.args.next.now c.write_at-x.result.now c.requires.head c.write_at-x.ensures.there

pub keep_due-requires-clause-heads : goal.keep_due-requires-clause-heads
keep_due-requires-clause-heads c =
    all_at (HeadsTell c.args.heads.now c.args.lost.now c.args.moved c.args.risen c.args.last.now c.args.next.now) c.args.next.now c.write_at-x.result.now c.requires.heads c.write_at-x.ensures.there

pub keep_due-requires-clause-stood : goal.keep_due-requires-clause-stood
keep_due-requires-clause-stood c = all_at (StoodBy c.args.event.now c.args.last.now c.args.next.now) c.args.next.now c.write_at-x.result.now c.requires.stood c.write_at-x.ensures.there

pub keep_due-requires-clause-few : goal.keep_due-requires-clause-few
keep_due-requires-clause-few c = λ on.
    let m = c.args.last.now in
    let n = c.args.next.now in
    let s = c.in-Some.seat in
    let x = c.write_at-x.result.now in
    let there = c.write_at-x.ensures.there in
    let own = c.write_at-x.ensures.own in
    let left = rising c.next.new.self in
    let steps = c.in-Some.ensures.steps in
    let table = table_of c.loop-seat.runs in
    let old = table_of c.args.runs.now in
    let seen = ap (contains c.args.looked) own ∙ c.loop-seat.invariant.within s (comes_first s (rising c.loop-seat.seat-iterator) left steps) in
    let visited = subst (λ (ls : List ℕ). Visited m n c.args.looked old table ls n) (steps ∙ ap (λ k. k ∷ left) (sym own)) c.loop-seat.invariant.visited in
    subst (λ (a : Sections). AreAtMost SEATS (kept_of m n a x))
    (sym (first_kept m n c.args.looked old table left x there c.write_at-x.ensures.write seen (once s x.claim.seat c.loop-seat.seat-iterator left steps own) c.requires.one_each c.requires.apart visited on))
    (all_at (λ y. may_wait n y ≡ true → AreAtMost SEATS (kept_of m n (old y.claim.seat) y)) n x c.requires.few there on)

pub loop-seat-preserved : goal.loop-seat-preserved
loop-seat-preserved c =
    let m = c.args.last.now in
    let n = c.args.next.now in
    let s = c.in-Some.seat in
    let x = c.write_at-x.result.now in
    let there = c.write_at-x.ensures.there in
    let own = c.write_at-x.ensures.own in
    let left = rising c.next.new.self in
    let steps = c.in-Some.ensures.steps in
    let table = table_of c.loop-seat.runs in
    let old = table_of c.args.runs.now in
    let seen = ap (contains c.args.looked) own ∙ c.loop-seat.invariant.within s (comes_first s (rising c.loop-seat.seat-iterator) left steps) in
    let visited = subst (λ (ls : List ℕ). Visited m n c.args.looked old table ls n) (steps ∙ ap (λ k. k ∷ left) (sym own)) c.loop-seat.invariant.visited in
    record {
      taken = c.keep_due.ensures.taken;
      within = λ seat h. c.loop-seat.invariant.within seat (ap (λ ls. list_any (λ k. k == seat) ls) steps ∙ or_right (s == seat) (list_any (λ k. k == seat) left) h);
      visited =
          visited_push m n c.args.looked old table left x there c.write_at-x.ensures.write seen (once s x.claim.seat c.loop-seat.seat-iterator left steps own) c.requires.one_each c.requires.apart visited
          (table_of c.keep_due.new.runs) c.keep_due.ensures.kept;
      others = λ seat none.
          other m n old table (table_of c.keep_due.new.runs) x c.keep_due.ensures.kept seat (all_at (λ y. may_wait n y ≡ true → seat ≢ y.claim.seat) n x none there)
          ∙ c.loop-seat.invariant.others seat none;
      room = c.keep_due.ensures.room;
      len = c.keep_due.ensures.len ∙ c.loop-seat.invariant.len;
      lengths = λ len are_m are_n have.
          c.keep_due.ensures.lengths len are_m (all_at (λ y. length_by c.args.lengths.now y.claim ≡ len y.claim) n x are_n there) (c.loop-seat.invariant.lengths len are_m are_n have);
    }

pub returns-clause-kept : goal.returns-clause-kept
returns-clause-kept c =
    let m = c.args.last.now in
    let n = c.args.next.now in
    let old = table_of c.args.runs.now in
    let table = table_of c.loop-seat.runs in
    visited_all m n c.args.looked old table n c.requires.undue (subst (λ (ls : List ℕ). Visited m n c.args.looked old table ls n) c.in-None.ensures.steps.0 c.loop-seat.invariant.visited)

pub returns-then-is_empty-clause-kept : goal.returns-then-is_empty-clause-kept
returns-then-is_empty-clause-kept c =
    let m = c.args.last.now in
    let n = c.args.next.now in
    let looked = c.args.looked in
    let table = table_of c.args.runs.now in
    let none = c.is_empty.ensures.0 c.if-is_empty.true in
    all_from (λ x. may_wait n x ≡ true → table x.claim.seat ≡ kept_of m n (table x.claim.seat) x) n
    (λ x there on.
    let off = false_from (is_write_of_these looked x) (λ h. contrary (contains looked x.claim.seat) (and_parts x.claim.write_half (contains looked x.claim.seat) h).1 (ap (λ s. contains s x.claim.seat) none ∙ contains_empty x.claim.seat)) in
    sym (all_at (λ y. is_write_of_these looked y ≡ false → may_wait n y ≡ true → (a : Sections) → kept_of m n a y ≡ a) n x c.requires.undue there off on (table x.claim.seat)))
