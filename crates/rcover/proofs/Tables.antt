-- Tables of what is kept for each seat, claim by claim.
use Rattle.std.proofs.Common.{◌≡◌, ◌≢◌, ◌<◌, ℕ, suc, length, get_or, arith, ◌==◌, Bool, true, false, not, ◌&&◌, ◌||◌, cond, List, [], ◌∷◌, ◌++◌, refl, sym, ap, subst, ◌∙◌, inl, inr}
use Rattle.std.proofs.lemmas.Bool.{and_parts, eqb-true, eq-eqb}
use Rattle.std.specs.FinSet.{contains}
use Rattle.std.specs.List.Sorted.{IsStrictlyIncreasing}
use Rattle.std.proofs.lemmas.List.Kept.{AllPairs-from_increasing}
use Rattle.std.specs.List.{AllByRecursion, list_any}
use Rattle.rset.specs.Sets.{Set}
use Rattle.rmodel.specs.declared.claimed.Claimed.{Claimed}
use Rattle.rmodel.specs.WellFormed.{Among, Distinct, EachPair}
use Rattle.rmodel.proofs.ListFacts.{contrary, false_from, all_append, all_at, all_from, pair_among}
use Rattle.rmodel.proofs.settling.OneSettlement.{both_cases}
use Rattle.rcover.specs.Kept.{may_wait, WaitApart, kept_of}
use Rattle.rcover.specs.Follow.{with_entry, kept_with}
use Rattle.rcover.specs.Due.{is_write_of_these}
use Rattle.rcover_laws.specs.Moments.{Moment}
use Rattle.rcover_laws.specs.Sections.{Sections}
use Rattle.rcover.proofs.Pairs.{pairs_before, pairs_after}
use Rattle.rcover.proofs.heads_told.Taken.{one_write}

module _ (m n : Moment) (table : ℕ → Sections) (x : Claimed) where
  abbrev made_of : Sections
  made_of = kept_of m n (table x.claim.seat) x

  -- nothing is kept of a claim that does not wait
  pub none_kept : may_wait n x ≡ false → (seat : ℕ) → table seat ≡ kept_with m n table x seat
  none_kept off seat = sym (ap (λ b. (cond b (with_entry table x.claim.seat made_of) table) seat) off)

  -- of a claim that waits, what is due is kept
  pub some_kept : may_wait n x ≡ true → (a : Sections) → made_of ≡ a → (seat : ℕ) → with_entry table x.claim.seat a seat ≡ kept_with m n table x seat
  some_kept on a is seat = sym (ap (λ b. (cond b (with_entry table x.claim.seat made_of) table) seat) on ∙ ap (λ s. with_entry table x.claim.seat s seat) is)

  entry_same : (seat : ℕ) → table seat ≡ with_entry table x.claim.seat (table x.claim.seat) seat
  entry_same seat =
      both_cases (seat == x.claim.seat)
      (λ own. sym (ap (λ b. cond b (table x.claim.seat) (table seat)) own ∙ ap table (sym (eqb-true seat x.claim.seat own))))
      (λ other. sym (ap (λ b. cond b (table x.claim.seat) (table seat)) other))

  -- if what is kept stays, the table does
  pub same_kept : (may_wait n x ≡ true → made_of ≡ table x.claim.seat) → (seat : ℕ) → table seat ≡ kept_with m n table x seat
  same_kept same seat =
      both_cases (may_wait n x)
      (λ on. entry_same seat ∙ some_kept on (table x.claim.seat) (same on) seat)
      (λ off. none_kept off seat)

-- claims that wait have what is due
abbrev pub Done : Moment → Moment → (ℕ → Sections) → (ℕ → Sections) → List Claimed → Type 0
Done m n old table xs = AllByRecursion (λ x. may_wait n x ≡ true → table x.claim.seat ≡ kept_of m n (old x.claim.seat) x) xs

-- and what was kept of others is still there
abbrev pub Rest : Moment → (ℕ → Sections) → (ℕ → Sections) → List Claimed → Type 0
Rest n old table xs = AllByRecursion (λ x. may_wait n x ≡ true → table x.claim.seat ≡ old x.claim.seat) xs

module _ (m n : Moment) (old table table' : ℕ → Sections) (x : Claimed) (is : (seat : ℕ) → table' seat ≡ kept_with m n table x seat) where
  abbrev made : Sections
  made = kept_of m n (table x.claim.seat) x

  -- nothing changes for another seat, or for any seat if the claim does not wait
  pub other : (seat : ℕ) → (may_wait n x ≡ true → seat ≢ x.claim.seat) → table' seat ≡ table seat
  other seat apart =
      is seat
      ∙ both_cases (may_wait n x)
      (λ on.
      ap (λ b. (cond b (with_entry table x.claim.seat made) table) seat) on
      ∙ ap (λ b. cond b made (table seat)) (false_from (seat == x.claim.seat) (λ same. absurd (apart on (eqb-true seat x.claim.seat same)))))
      (λ off. ap (λ b. (cond b (with_entry table x.claim.seat made) table) seat) off)

  own : may_wait n x ≡ true → table' x.claim.seat ≡ made
  own on =
      is x.claim.seat ∙ ap (λ b. (cond b (with_entry table x.claim.seat made) table) x.claim.seat) on
      ∙ ap (λ b. cond b made (table x.claim.seat)) (eq-eqb x.claim.seat x.claim.seat refl)

  done_on : (ys : List Claimed) → AllByRecursion (λ y. WaitApart n y x) ys → Done m n old table ys → Done m n old table' ys
  done_on [] apart done = tt
  done_on (y ∷ ys) apart done = ((λ on. other y.claim.seat (λ on_x. apart.0 on on_x) ∙ done.0 on), done_on ys apart.1 done.1)

  rest_on : (ys : List Claimed) → AllByRecursion (WaitApart n x) ys → Rest n old table ys → Rest n old table' ys
  rest_on [] apart rest = tt
  rest_on (y ∷ ys) apart rest = ((λ on. other y.claim.seat (λ on_x same. apart.0 on_x on (sym same)) ∙ rest.0 on), rest_on ys apart.1 rest.1)

  pub kept_step : (front back : List Claimed) → EachPair (WaitApart n) (front ++ x ∷ back) → Done m n old table front → Rest n old table (x ∷ back)
      → Done m n old table' (front ++ x ∷ []) × Rest n old table' back
  kept_step front back pairs done rest = (
    all_append (λ y. may_wait n y ≡ true → table' y.claim.seat ≡ kept_of m n (old y.claim.seat) y) front (x ∷ [])
        (done_on front (pairs_before (WaitApart n) front x back pairs) done)
        ((λ on. own on ∙ ap (λ a. kept_of m n a x) (rest.0 on)), tt),
    rest_on back (pairs_after (WaitApart n) front x back pairs) rest.1,
  )

-- ---- the writes of some seats, seat after seat

none_at : (s : ℕ) (xs : List ℕ) → ((j : ℕ) → j < length xs → s < get_or xs j 0) → list_any (λ l. l == s) xs ≡ false
none_at s [] above = refl
none_at s (x ∷ xs) above = (λ i. off i || none_at s xs (λ j h. above (suc j) (omega arith)) i)
  where
    off : (x == s) ≡ false
    off = false_from (x == s) (λ e. let same = eqb-true x s e in let h = above 0 (omega arith) in absurd (omega arith))

-- the first of some seats that rise does not come again
pub comes_once : (s : ℕ) (left : List ℕ) → IsStrictlyIncreasing (s ∷ left) → list_any (λ l. l == s) left ≡ false
comes_once s left rises = none_at s left (λ j h. AllPairs-from_increasing (s ∷ left) rises 0 (suc j) 0 (omega arith) (omega arith))

-- a claim is the write of one of these seats, and its seat is not among those that are left
abbrev pub is_over : Set → List ℕ → Claimed → Bool
is_over looked left x = is_write_of_these looked x && not (list_any (λ l. l == x.claim.seat) left)

-- the writes that are over have what is due, and what was kept of others is still there
abbrev pub Visited : Moment → Moment → Set → (ℕ → Sections) → (ℕ → Sections) → List ℕ → List Claimed → Type 0
Visited m n looked old table left xs = AllByRecursion (λ x. may_wait n x ≡ true → table x.claim.seat ≡ cond (is_over looked left x) (kept_of m n (old x.claim.seat) x) (old x.claim.seat)) xs

-- if all are left, nothing is over
pub visited_none : (m n : Moment) (looked : Set) (table : ℕ → Sections) (left : List ℕ) → ((seat : ℕ) → contains looked seat ≡ true → list_any (λ l. l == seat) left ≡ true) → (xs : List Claimed) → Visited m n looked table table left xs
visited_none m n looked table left all [] = tt
visited_none m n looked table left all (x ∷ xs) = ((λ on. ap (λ b. cond b (kept_of m n (table x.claim.seat) x) (table x.claim.seat)) (sym still)), visited_none m n looked table left all xs)
  where
    still : is_over looked left x ≡ false
    still =
        both_cases (is_write_of_these looked x)
        (λ on. ap (λ b. b && not (list_any (λ l. l == x.claim.seat) left)) on ∙ ap not (all x.claim.seat (and_parts x.claim.write_half (contains looked x.claim.seat) on).1))
        (λ off. ap (λ b. b && not (list_any (λ l. l == x.claim.seat) left)) off)

-- if no seat is left, all have what is due, as nothing is due of any other claim
pub visited_all : (m n : Moment) (looked : Set) (old table : ℕ → Sections) (xs : List Claimed) → AllByRecursion (λ x. is_write_of_these looked x ≡ false → may_wait n x ≡ true → (a : Sections) → kept_of m n a x ≡ a) xs → Visited m n looked old table [] xs → Done m n old table xs
visited_all m n looked old table [] undue visited = tt
visited_all m n looked old table (x ∷ xs) undue visited = (
  (λ on.
      both_cases (is_write_of_these looked x)
      (λ due. visited.0 on ∙ ap (λ b. cond (b && true) (kept_of m n (old x.claim.seat) x) (old x.claim.seat)) due)
      (λ off. visited.0 on ∙ ap (λ b. cond (b && true) (kept_of m n (old x.claim.seat) x) (old x.claim.seat)) off ∙ sym (undue.0 off on (old x.claim.seat)))),
  visited_all m n looked old table xs undue.1 visited.1,
)

module _ (m n : Moment) (looked : Set) (old table : ℕ → Sections) (left : List ℕ) (x : Claimed) (there : Among x n) (write : x.claim.write_half ≡ true) (seen : contains looked x.claim.seat ≡ true)
    (first : list_any (λ l. l == x.claim.seat) left ≡ false) (distinct : EachPair Distinct n) (apart : EachPair (WaitApart n) n) (visited : Visited m n looked old table (x.claim.seat ∷ left) n) where
  -- nothing was kept yet of the write of the seat that comes
  pub first_kept : may_wait n x ≡ true → table x.claim.seat ≡ old x.claim.seat
  first_kept on =
      all_at (λ y. may_wait n y ≡ true → table y.claim.seat ≡ cond (is_over looked (x.claim.seat ∷ left) y) (kept_of m n (old y.claim.seat) y) (old y.claim.seat)) n x visited there on
      ∙ ap (λ b. cond b (kept_of m n (old x.claim.seat) x) (old x.claim.seat)) (off (is_write_of_these looked x) (x.claim.seat == x.claim.seat) (list_any (λ l. l == x.claim.seat) left) (eq-eqb x.claim.seat x.claim.seat refl))
    where
      off : (a b d : Bool) → b ≡ true → (a && not (b || d)) ≡ false
      off true b d on = ap (λ e. not (e || d)) on
      off false b d on = refl

  -- and now it is kept
  pub visited_push : (table' : ℕ → Sections) → ((seat : ℕ) → table' seat ≡ kept_with m n table x seat) → Visited m n looked old table' left n
  visited_push table' is = all_from (λ y. may_wait n y ≡ true → table' y.claim.seat ≡ cond (is_over looked left y) (kept_of m n (old y.claim.seat) y) (old y.claim.seat)) n here
    where
      now_over : is_over looked left x ≡ true
      now_over = (λ i. (write i && seen i) && not (first i))

      was : (y : Claimed) → Among y n → may_wait n y ≡ true → table y.claim.seat ≡ cond (is_over looked (x.claim.seat ∷ left) y) (kept_of m n (old y.claim.seat) y) (old y.claim.seat)
      was y in_n on = all_at (λ z. may_wait n z ≡ true → table z.claim.seat ≡ cond (is_over looked (x.claim.seat ∷ left) z) (kept_of m n (old z.claim.seat) z) (old z.claim.seat)) n y visited in_n on

      itself : may_wait n x ≡ true → table' x.claim.seat ≡ cond (is_over looked left x) (kept_of m n (old x.claim.seat) x) (old x.claim.seat)
      itself on =
          own m n old table table' x is on ∙ ap (λ a. kept_of m n a x) (first_kept on)
          ∙ sym (ap (λ b. cond b (kept_of m n (old x.claim.seat) x) (old x.claim.seat)) now_over)

      -- another claim that waits while this one does is of another seat
      else_where : (y : Claimed) → Among y n → may_wait n y ≡ true → y.claim.write_half ≡ false → may_wait n x ≡ true → y.claim.seat ≢ x.claim.seat
      else_where y in_n on read on_x same =
          elim (pair_among (WaitApart n) n y x apart in_n there) [
            | inl one ↦ contrary x.claim.write_half write (ap (λ (z : Claimed). z.claim.write_half) (sym one) ∙ read)
            | inr (inl two) ↦ two on on_x same
            | inr (inr two) ↦ two on_x on (sym same)
          ]

      read_still : (y : Claimed) → Among y n → y.claim.write_half ≡ false → may_wait n y ≡ true → table' y.claim.seat ≡ cond (is_over looked left y) (kept_of m n (old y.claim.seat) y) (old y.claim.seat)
      read_still y in_n read on =
          other m n old table table' x is y.claim.seat (else_where y in_n on read) ∙ was y in_n on
          ∙ ap (λ b. cond ((b && contains looked y.claim.seat) && not (list_any (λ l. l == y.claim.seat) (x.claim.seat ∷ left))) (kept_of m n (old y.claim.seat) y) (old y.claim.seat)) read
          ∙ sym (ap (λ b. cond ((b && contains looked y.claim.seat) && not (list_any (λ l. l == y.claim.seat) left)) (kept_of m n (old y.claim.seat) y) (old y.claim.seat)) read)

      of_other : (y : Claimed) → Among y n → (x.claim.seat == y.claim.seat) ≡ false → may_wait n y ≡ true → table' y.claim.seat ≡ cond (is_over looked left y) (kept_of m n (old y.claim.seat) y) (old y.claim.seat)
      of_other y in_n off on =
          other m n old table table' x is y.claim.seat (λ _ same. contrary (x.claim.seat == y.claim.seat) (eq-eqb x.claim.seat y.claim.seat (sym same)) off) ∙ was y in_n on
          ∙ ap (λ b. cond (is_write_of_these looked y && not (b || list_any (λ l. l == y.claim.seat) left)) (kept_of m n (old y.claim.seat) y) (old y.claim.seat)) off

      here : (y : Claimed) → Among y n → may_wait n y ≡ true → table' y.claim.seat ≡ cond (is_over looked left y) (kept_of m n (old y.claim.seat) y) (old y.claim.seat)
      here y in_n on =
          both_cases (x.claim.seat == y.claim.seat)
          (λ same.
          both_cases y.claim.write_half
          (λ y_write.
          subst (λ (z : Claimed). table' z.claim.seat ≡ cond (is_over looked left z) (kept_of m n (old z.claim.seat) z) (old z.claim.seat)) (one_write n distinct x y there in_n write y_write (eqb-true x.claim.seat y.claim.seat same))
          (itself (subst (λ (z : Claimed). may_wait n z ≡ true) (sym (one_write n distinct x y there in_n write y_write (eqb-true x.claim.seat y.claim.seat same))) on)))
          (λ read. read_still y in_n read on))
          (λ off. of_other y in_n off on)
