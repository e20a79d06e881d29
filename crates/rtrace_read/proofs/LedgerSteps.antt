-- The ledgers at the end, and the end.
use Rattle.std.proofs.Common.{◌≡◌, ◌⊎◌, ℕ, suc, ◌+◌, ◌≤◌, ◌<◌, Bool, true, false, not, ◌&&◌, cond, nat_le, List, [], ◌∷◌, drop, get_or, length, map, ◌==◌, Some, None, refl, sym, ap, ◌∙◌, arith, add-one, inl, inr, true≢false}
use Rattle.std.specs.List.{range_with_len}
use Rattle.std.proofs.Math.Seq.{drop-cons, drop-nil}
use Rattle.std.proofs.Math.ListN.{drop_of_length-le}
use Rattle.std.proofs.lemmas.Bool.{lt-ltb, le-ltb, leb-true, leb-false}
use Rattle.std.proofs.lemmas.Bool.Decides.{nat_tests}
use Rattle.std.proofs.lemmas.List.{length-map}
use Rattle.std.proofs.lemmas.List.FromFn.{length-range_with_len, get_or-map-range_with_len}
use Rattle.std.proofs.lemmas.Option.{slice_get-get_or}
use Rattle.rvalue.specs.Ledgers.{opening_ledger}
use Rattle.rvalue.specs.declared.ledger.Ledger.{Ledger}
use Rattle.rtrace_form.specs.Heads.{Head, is_nil}
use Rattle.rtrace_form.specs.Lines.{Line, Leaves, Ends}
use Rattle.rtrace_form.specs.Reports.{Entry, ledger_after, ledger_lines}
use Rattle.rtrace_form.specs.SoFar.{SoFar, head_in, entries_in, ledgers_due, with_line, at_ledgers}
use Rattle.rtrace_form.specs.Walks.{first_of}
use Rattle.rtrace_form.specs.Faults.{line_code, is_change_due, is_first, is_same_line}
use Rattle.rtrace_form.specs.declared.fault.Code.{Code}
use Rattle.rtrace_form.specs.declared.fault.Code.TheVariants.{BadOrder, WrongLedger}
use Rattle.rtrace_form.proofs.facts.Choices.{some_is}
use Rattle.rtrace_read.specs.declared.reading.ReportReader.{ReportReader}
use Rattle.rtrace_read.specs.Knows.{Knows}
use Rattle.rtrace_read.specs.LineTakes.{place_code, ledgers_told}
use Rattle.rtrace_read.proofs.DueLines.{drop_one}
use Rattle.rtrace_read.proofs.Codes.{plain_causes, place_code_is, placed, more_code, ledger_code, no_plain_code, follows_both, leaves_is, ends_is}
use Rattle.rtrace_read.proofs.Steps.{still}

module _ (head : Head) (entries : List Entry) where
  pub ledgers_many : length (ledger_lines true head entries) ≡ length head.resources
  unfolding ledger_lines
  ledgers_many = length-map (range_with_len 0 (length head.resources)) (λ l. Leaves l (ledger_after entries l)) ∙ length-range_with_len 0 (length head.resources)

  pub ledger_first : (n : ℕ) → n < length head.resources → drop n (ledger_lines true head entries) ≡ Leaves n (ledger_after entries n) ∷ drop (suc n) (ledger_lines true head entries)
  unfolding ledger_lines
  ledger_first n h =
      let lines = map (λ l. Leaves l (ledger_after entries l)) (range_with_len 0 (length head.resources)) in
      let many = length-map (range_with_len 0 (length head.resources)) (λ l. Leaves l (ledger_after entries l)) ∙ length-range_with_len 0 (length head.resources) in
      drop-cons lines n Ends (omega (arith, many, h))
      ∙ ap (λ (line : Line). line ∷ drop (suc n) lines) (get_or-map-range_with_len (λ l. Leaves l (ledger_after entries l)) 0 (length head.resources) n n Ends h (omega arith))

  pub no_ledgers : ledger_lines false head entries ≡ []
  unfolding ledger_lines
  no_ledgers = refl

up_to_seven : (n : ℕ) → (n ≤ 7) ⊎ (8 ≤ n)
up_to_seven n = at (nat_le n 7) refl
  where
    at : (b : Bool) → nat_le n 7 ≡ b → (n ≤ 7) ⊎ (8 ≤ n)
    at true e = inl (leb-true n 7 e)
    at false e = let more = leb-false n 7 e in inr (omega arith)

module _ (whole : Bool) (old : ReportReader) (s : SoFar) (h : Knows whole old s) where
  not_eight : s.last ≤ 7 → ledgers_told old ≡ 0
  not_eight low = let last = h.last in let no : (old.last == 8) ≡ false = grind (arith, nat_tests) in ap (λ b. cond b old.told 0) no

  at_eight : s.last ≡ 8 → ledgers_told old ≡ old.told
  at_eight eight = let last = h.last in let yes : (old.last == 8) ≡ true = grind (arith, nat_tests) in ap (λ b. cond b old.told 0) yes

  -- the ledgers that are due
  pub due_ledgers : s.last ≤ 8 → ledgers_due whole s ≡ drop (ledgers_told old) (ledger_lines whole (head_in s) (entries_in s))
  due_ledgers low = elim (up_to_seven s.last) [
    | inl early ↦ ap (λ b. cond b (ledger_lines whole (head_in s) (entries_in s)) s.due) (lt-ltb s.last at_ledgers (omega (arith, early)))
        ∙ ap (λ n. drop n (ledger_lines whole (head_in s) (entries_in s))) (sym (not_eight early))
    | inr late ↦ let eight : s.last ≡ 8 = omega (arith, late, low) in
        ap (λ b. cond b (ledger_lines whole (head_in s) (entries_in s)) s.due) (le-ltb s.last at_ledgers (omega (arith, late)))
        ∙ h.left eight ∙ ap (λ n. drop n (ledger_lines whole (head_in s) (entries_in s))) (sym (at_eight eight))
  ]

  -- after these places, and where no change is due
  pub standing : place_code s 4 8 ≡ None → (is_change_due s ≡ false) × (4 ≤ s.last) × (s.last ≤ 8)
  standing h = let at = placed (is_change_due s) (nat_le 4 s.last && nat_le s.last 8) h in let both = follows_both 4 s.last 8 at.1 in (at.0, both.0, both.1)

  pub leave_misplaced : (place : ℕ) (ledger : Ledger) (code : Code) → place_code s 4 8 ≡ Some code → line_code whole s (Leaves place ledger) ≡ Some code
  leave_misplaced place ledger code is =
      leaves_is whole s place ledger ∙ place_code_is (is_change_due s) (nat_le 4 s.last && nat_le s.last 8) (is_nil (ledgers_due whole s)) _ None code (λ _. refl) is

  pub end_misplaced : (code : Code) → place_code s 4 8 ≡ Some code → line_code whole s Ends ≡ Some code
  end_misplaced code is = ends_is whole s ∙ place_code_is (is_change_due s) (nat_le 4 s.last && nat_le s.last 8) false _ None code (λ _. refl) is

  none_left : length old.ledgers.items ≤ ledgers_told old → s.last ≤ 8 → ledgers_due whole s ≡ []
  none_left all low = due_ledgers low ∙ at whole
    where
      at : (w : Bool) → drop (ledgers_told old) (ledger_lines w (head_in s) (entries_in s)) ≡ []
      at true =
          let many = ledgers_many (head_in s) (entries_in s) in
          let kept = h.ledgers.many in
          drop_of_length-le (ledger_lines true (head_in s) (entries_in s)) (omega (arith, many, kept, all))
      at false = ap (drop (ledgers_told old)) (no_ledgers (head_in s) (entries_in s)) ∙ drop-nil (ledgers_told old)

  -- all were given
  pub leave_more : (place : ℕ) (ledger : Ledger) → place_code s 4 8 ≡ None → length old.ledgers.items ≤ ledgers_told old → line_code whole s (Leaves place ledger) ≡ Some BadOrder
  leave_more place ledger none all =
      let at = standing none in
      leaves_is whole s place ledger
      ∙ ap (λ (xs : List Line). first_of (plain_causes false (is_change_due s) (nat_le 4 s.last && nat_le s.last 8) (is_nil xs) None (not (is_first xs (Leaves place ledger))))) (none_left all at.2)
      ∙ more_code (is_change_due s) (nat_le 4 s.last && nat_le s.last 8) true None none

  kept_ledger : (n : ℕ) (left : Ledger) → n < length old.ledgers.items → left ≡ get_or old.ledgers.items n left → left ≡ ledger_after (entries_in s) n
  kept_ledger n left small is =
      let many = h.ledgers.many in
      is ∙ some_is (sym (slice_get-get_or old.ledgers.items n left small) ∙ h.ledgers.each n (omega (arith, many, small)))

  -- the first that is due
  due_first : (left : Ledger) → whole ≡ true → s.last ≤ 8 → ledgers_told old < length old.ledgers.items → left ≡ get_or old.ledgers.items (ledgers_told old) left
      → (rest : List Line) × (ledgers_due whole s ≡ Leaves (ledgers_told old) left ∷ rest) × (rest ≡ drop (suc (ledgers_told old)) (ledger_lines whole (head_in s) (entries_in s)))
  due_first left is low small at =
      let many = h.ledgers.many in (
        drop (suc (ledgers_told old)) (ledger_lines true (head_in s) (entries_in s)),
        due_ledgers low
            ∙ ap (λ w. drop (ledgers_told old) (ledger_lines w (head_in s) (entries_in s))) is
            ∙ ledger_first (head_in s) (entries_in s) (ledgers_told old) (omega (arith, many, small))
            ∙ ap (λ (l : Ledger). Leaves (ledgers_told old) l ∷ drop (suc (ledgers_told old)) (ledger_lines true (head_in s) (entries_in s))) (sym (kept_ledger (ledgers_told old) left small at)),
        ap (λ w. drop (suc (ledgers_told old)) (ledger_lines w (head_in s) (entries_in s))) (sym is),
      )

  by_first : (left : Ledger) (place : ℕ) (ledger : Ledger) (same : Bool) → whole ≡ true → place_code s 4 8 ≡ None → ledgers_told old < length old.ledgers.items → left ≡ get_or old.ledgers.items (ledgers_told old) left
      → is_same_line (Leaves (ledgers_told old) left) (Leaves place ledger) ≡ same
      → line_code whole s (Leaves place ledger) ≡ first_of (plain_causes false (is_change_due s) (nat_le 4 s.last && nat_le s.last 8) false None (not same))
  by_first left place ledger same is none small at test =
      let first = due_first left is (standing none).2 small at in
      leaves_is whole s place ledger
      ∙ ap (λ (xs : List Line). first_of (plain_causes false (is_change_due s) (nat_le 4 s.last && nat_le s.last 8) (is_nil xs) None (not (is_first xs (Leaves place ledger))))) first.1
      ∙ ap (λ b. first_of (plain_causes false (is_change_due s) (nat_le 4 s.last && nat_le s.last 8) false None (not b))) test

  pub leave_wrong : (left : Ledger) (place : ℕ) (ledger : Ledger) → whole ≡ true → place_code s 4 8 ≡ None → ledgers_told old < length old.ledgers.items → left ≡ get_or old.ledgers.items (ledgers_told old) left
      → is_same_line (Leaves (ledgers_told old) left) (Leaves place ledger) ≡ false → line_code whole s (Leaves place ledger) ≡ Some WrongLedger
  leave_wrong left place ledger is none small at test = by_first left place ledger false is none small at test ∙ ledger_code (is_change_due s) (nat_le 4 s.last && nat_le s.last 8) none

  pub leave_taken : (left : Ledger) (place : ℕ) (ledger : Ledger) → whole ≡ true → place_code s 4 8 ≡ None → ledgers_told old < length old.ledgers.items → left ≡ get_or old.ledgers.items (ledgers_told old) left
      → is_same_line (Leaves (ledgers_told old) left) (Leaves place ledger) ≡ true
      → (line_code whole s (Leaves place ledger) ≡ None) × Knows whole (record old { last = 8; told = ledgers_told old + 1 }) (with_line whole s (Leaves place ledger))
  leave_taken left place ledger is none small at test =
      let there = standing none in (
        by_first left place ledger true is none small at test ∙ no_plain_code (is_change_due s) (nat_le 4 s.last && nat_le s.last 8) none,
        still whole old s 8 (ledgers_told old + 1) (drop 1 (ledgers_due whole s)) h there.1 (omega arith) (omega arith) (λ list. absurd (true≢false (sym is ∙ list))) (λ e. absurd (omega (arith, e)))
            (λ _. ap (λ (xs : List Line). drop 1 xs) (due_ledgers there.2) ∙ drop_one (ledger_lines whole (head_in s) (entries_in s)) (ledgers_told old)
            ∙ ap (λ n. drop n (ledger_lines whole (head_in s) (entries_in s))) (sym (add-one (ledgers_told old)))),
      )

  -- ---- the end

  pub end_wrong : whole ≡ true → place_code s 4 8 ≡ None → ledgers_told old < length old.ledgers.items → line_code whole s Ends ≡ Some WrongLedger
  end_wrong is none small =
      let first = due_first (get_or old.ledgers.items (ledgers_told old) opening_ledger) is (standing none).2 small (kept_again (ledgers_told old) small) in
      ends_is whole s
      ∙ ap (λ (xs : List Line). first_of (plain_causes false (is_change_due s) (nat_le 4 s.last && nat_le s.last 8) false None (not (is_nil xs)))) first.1
      ∙ ledger_code (is_change_due s) (nat_le 4 s.last && nat_le s.last 8) none
    where
      kept_again : (n : ℕ) → n < length old.ledgers.items → get_or old.ledgers.items n opening_ledger ≡ get_or old.ledgers.items n (get_or old.ledgers.items n opening_ledger)
      kept_again n small = some_is (sym (slice_get-get_or old.ledgers.items n opening_ledger small) ∙ slice_get-get_or old.ledgers.items n (get_or old.ledgers.items n opening_ledger) small)

  end_by : place_code s 4 8 ≡ None → ledgers_due whole s ≡ [] → (line_code whole s Ends ≡ None) × Knows whole (record old { last = 9 }) (with_line whole s Ends)
  end_by none nil =
      let there = standing none in (
        ends_is whole s
            ∙ ap (λ (xs : List Line). first_of (plain_causes false (is_change_due s) (nat_le 4 s.last && nat_le s.last 8) false None (not (is_nil xs)))) nil
            ∙ no_plain_code (is_change_due s) (nat_le 4 s.last && nat_le s.last 8) none,
        still whole old s 9 old.told [] h there.1 (omega arith) (omega arith) h.untold (λ e. absurd (omega (arith, e))) (λ e. absurd (omega (arith, e))),
      )

  pub end_taken : place_code s 4 8 ≡ None → length old.ledgers.items ≤ ledgers_told old → (line_code whole s Ends ≡ None) × Knows whole (record old { last = 9 }) (with_line whole s Ends)
  end_taken none all = end_by none (none_left all (standing none).2)

  pub list_ends : whole ≡ false → place_code s 4 8 ≡ None → (line_code whole s Ends ≡ None) × Knows whole (record old { last = 9 }) (with_line whole s Ends)
  list_ends is none =
      end_by none (due_ledgers (standing none).2 ∙ ap (λ w. drop (ledgers_told old) (ledger_lines w (head_in s) (entries_in s))) is
      ∙ ap (drop (ledgers_told old)) (no_ledgers (head_in s) (entries_in s)) ∙ drop-nil (ledgers_told old))
