-- The totals of a zone give the numbers of each task.
use Rattle.std.proofs.Common.{◌≡◌, ◌≤◌, ◌<◌, ◌+◌, ◌-◌, ◌*◌, ◌&&◌, ◌||◌, ◌==◌, not, ℕ, Bool, true, false, cond, List, [], ◌∷◌, map, is_some, unwrap_or, refl, sym, ap, ◌∙◌, inl, inr, arith}
use mir.Val.{bool_byte}
use Rattle.std.specs.List.{list_all, count_by}
use Rattle.std.proofs.lemmas.Bool.{eq-eqb}
use Rattle.std.proofs.lemmas.Bool.Decides.{eqb_tells}
use Rattle.std.proofs.lemmas.List.Sums.{sum_by-cons}
use Rattle.rbound.specs.Bounds.{largest, tasks_of, one_if}
use Rattle.rbound.specs.ZoneRows.{beside, row_at, writers_in, writes_in, all_may_write_in, reads_in, write_length_in, numbers_of}
use Rattle.rbound.specs.declared.rows.ZoneRows.{ZoneRows}
use Rattle.rbound_table.specs.Two.{two_at}
use Rattle.rbound_table.specs.Totals.{AreTotals, only_reads, only_readers}
use Rattle.rbound_table.specs.declared.totals.ZoneTotals.{ZoneTotals}
use Rattle.rbound_table.proofs.TwoFacts.{two_of_at}
use Rattle.rbound_table.proofs.TopFacts.{unequal}
use Rattle.rbound_table.proofs.SumFacts.{sum_other, other_writers, capped}

pub as_number : (b : Bool) → bool_byte b ≡ one_if b
as_number true = refl
as_number false = refl

-- nothing passes exactly where the count is 0
none_counted : (r q : ℕ → Bool) (ks : List ℕ) → ((t : ℕ) → r t ≡ not (q t)) → list_all r ks ≡ (count_by q ks == 0)
none_counted r q [] same = refl
none_counted r q (k ∷ ks) same =
    (λ i. same k i && none_counted r q ks same i) ∙ at (q k) (count_by q ks) ∙ sym (ap (λ n. n == 0) (sum_by-cons (λ t. cond (q t) 1 0) k ks))
  where
    at : (b : Bool) (n : ℕ) → (not b && (n == 0)) ≡ ((cond b 1 0 + n) == 0)
    at true n = elim (eqb_tells (1 + n) 0) [ inl same ↦ absurd (let e = same.1 in omega arith) | inr other ↦ sym other.0 ]
    at false n = let e : 0 + n ≡ n = omega arith in ap (λ k. k == 0) (sym e)

-- ---- the numbers of a task

module _ (rows : ZoneRows) (tasks : ℕ) (all : ZoneTotals) (are : AreTotals rows tasks all) (me : ℕ) (within : me < tasks) where
  writers_are : writers_in rows.writes.items tasks me + one_if (is_some (row_at rows.writes.items me)) ≡ all.writers
  writers_are = other_writers rows.writes.items tasks me within ∙ sym are.writers

  pub own_fewer : one_if (is_some (row_at rows.writes.items me)) ≤ all.writers
  own_fewer = omega (arith, writers_are)

  pub writers_less : all.writers - one_if (is_some (row_at rows.writes.items me)) ≡ writers_in rows.writes.items tasks me
  writers_less = less (writers_in rows.writes.items tasks me) (one_if (is_some (row_at rows.writes.items me))) all.writers writers_are
    where
      less : (a b c : ℕ) → a + b ≡ c → c - b ≡ a
      less a b c h = omega arith

  -- each other task that reads there writes there too
  pub may_write : all_may_write_in rows tasks me ≡ (all.only_readers == one_if (only_reads rows me))
  may_write =
      none_counted (λ t. ((t == me) || not (is_some (row_at rows.reads.items t))) || is_some (row_at rows.writes.items t)) other (tasks_of tasks)
      (λ t. at (t == me) (is_some (row_at rows.reads.items t)) (is_some (row_at rows.writes.items t)))
      ∙ counted (count_by other (tasks_of tasks)) (one_if (only_reads rows me)) all.only_readers (counts ∙ sym are.only_readers)
    where
      other : ℕ → Bool
      other t = cond (t == me) false (only_reads rows t)

      at : (b r w : Bool) → ((b || not r) || w) ≡ not (cond b false (r && not w))
      at true r w = refl
      at false false w = refl
      at false true true = refl
      at false true false = refl

      counts : count_by other (tasks_of tasks) + one_if (only_reads rows me) ≡ only_readers rows tasks
      counts =
          sum_other (λ t. cond (only_reads rows t) 1 0) (λ t. cond (other t) 1 0) me 0 tasks
          (λ t apart. ap (λ b. cond (cond b false (only_reads rows t)) 1 0) (unequal t me apart)) (ap (λ b. cond (cond b false (only_reads rows me)) 1 0) (eq-eqb me me refl)) (omega arith) (omega arith)

      counted : (a b c : ℕ) → a + b ≡ c → (a == 0) ≡ (c == b)
      counted a b c h = elim (eqb_tells a 0) [
        | inl same ↦ same.0 ∙ sym (eq-eqb c b (let e = same.1 in omega arith))
        | inr other ↦ other.0 ∙ sym (unequal c b (λ e. other.1 (omega (arith, e, h))))
      ]

  pub upgrade_is : two_at all.upgrades me ≡ beside tasks me (row_at rows.upgrades.items)
  upgrade_is = ap (λ two. two_at two me) are.upgrades ∙ two_of_at tasks me (row_at rows.upgrades.items)

  pub read_is : two_at all.reads me ≡ beside tasks me (row_at rows.reads.items)
  read_is = ap (λ two. two_at two me) are.reads ∙ two_of_at tasks me (row_at rows.reads.items)

  -- *The numbers of the task*
  pub numbers_are : (cap writes reads written read : ℕ) → writes ≡ writes_in rows.writes.items tasks cap me → reads ≡ reads_in rows tasks cap me
      → written ≡ largest (cap - 1) (map (write_length_in rows.writes.items me) (tasks_of tasks)) → read ≡ unwrap_or (two_at all.reads me) 0
      → record { reads = reads; writes = writes; units = written + reads * read } ≡ numbers_of rows tasks cap me
  numbers_are cap writes reads written read first second third fourth =
      (λ i. record {
        reads = second i;
        writes = first i;
        units = (third ∙ sym (capped rows.writes.items tasks me within (cap - 1))) i + second i * (fourth ∙ ap (λ o. unwrap_or o 0) read_is) i;
      })
