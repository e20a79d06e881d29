-- The ledgers and the end, and so all lines of a report.
use Rattle.std.proofs.Common.{◌≡◌, ℕ, ◌≤◌, ◌<◌, ◌&&◌, Bool, true, false, not, cond, List, [], ◌∷◌, ◌++◌, drop, length, map, Option, None, nat_lt, refl, sym, ap, ◌∙◌, arith, true≢false}
use Rattle.std.specs.Prelude.{option_to_list}
use Rattle.std.specs.List.{AllByRecursion, range_with_len}
use Rattle.std.proofs.lemmas.Bool.{lt-ltb, ltb-true}
use Rattle.rset.specs.Sets.{Set}
use Rattle.rtrace_form.specs.Heads.{Head, is_nil, IsHead}
use Rattle.rtrace_form.specs.Lines.{Line, Leaves, Ends}
use Rattle.rtrace_form.specs.Reports.{Entry, ledger_after, ledger_lines, history_lines, head_lines, lines_of, IsLawful}
use Rattle.rtrace_form.specs.Waits.{no_bounds}
use Rattle.rtrace_form.specs.SoFar.{SoFar, nothing_yet, ledgers_due, with_line, at_ledgers}
use Rattle.rtrace_form.specs.Faults.{is_ledger, is_first, is_same_line}
use Rattle.rtrace_form.proofs.lists.SameLines.{ledger_itself}
use Rattle.rtrace_form.proofs.forth.Stands.{IsNext}
use Rattle.rtrace_form.proofs.back.Runs.{Runs, runs_none, runs_on, runs_both, last_place, heading}
use Rattle.rtrace_form.proofs.back.FineLines.{plain_fine, follows}
use Rattle.rtrace_form.proofs.back.HeadRuns.{head_run, cap_place}
use Rattle.rtrace_form.proofs.back.EntryRuns.{entries_run, living, head_of}

abbrev AreLedgers : List Line → Type 0
AreLedgers lines = AllByRecursion (λ line. is_ledger line ≡ true) lines

ledgers_are : (whole : Bool) (head : Head) (entries : List Entry) → AreLedgers (ledger_lines whole head entries)
unfolding ledger_lines
ledgers_are true head entries = each (range_with_len 0 (length head.resources))
  where
    each : (places : List ℕ) → AreLedgers (map (λ l. Leaves l (ledger_after entries l)) places)
    each [] = tt
    each (l ∷ places) = (refl, each places)
ledgers_are false head entries = tt

module _ (whole : Bool) (rs : List (List ℕ)) (gs : List Set) (ts : List (List ℕ)) (told : Option ℕ) where
  abbrev alive : ℕ → List Entry → Option Entry → List Line → SoFar
  alive place earlier latest due = living whole rs gs ts told place earlier latest due

  -- a ledger that is due, where no change is
  ledger_next : (s : SoFar) (line : Line) (due : List Line) → is_ledger line ≡ true → 4 ≤ s.last → s.last ≤ 8 → ledgers_due whole s ≡ line ∷ due → (s.last < 8 → s.due ≡ [])
      → IsNext whole s line × (with_line whole s line ≡ record s { last = 8; due = due })
  ledger_next s line due is low high first none = at line is (ledger_itself line is) first
    where
      no_change_due : (b : Bool) → nat_lt s.last at_ledgers ≡ b → (b && not (is_nil s.due)) ≡ false
      no_change_due true e = ap (λ (xs : List Line). not (is_nil xs)) (none (ltb-true s.last 8 e))
      no_change_due false e = refl

      at : (l : Line) → is_ledger l ≡ true → is_same_line l l ≡ true → ledgers_due whole s ≡ l ∷ due → IsNext whole s l × (with_line whole s l ≡ record s { last = 8; due = due })
      at (Leaves place ledger) i same e = (
        record {
          room = refl;
          fine = record {
            declared = refl;
            placed = follows whole s (Leaves place ledger) low high (ap (λ (xs : List Line). is_nil xs) e);
            accepted = refl;
            change = ap (λ b. b && true) (no_change_due (nat_lt s.last at_ledgers) refl);
            act = refl;
            ledger = ap (λ (xs : List Line). not (is_first xs (Leaves place ledger))) e ∙ ap not same;
          };
          comes = λ _. tt;
        },
        ap (λ (xs : List Line). record s { last = 8; due = drop 1 xs }) e,
      )
      at _ i same e = absurd (true≢false (sym i))

  -- the ledgers after the first
  rest_run : (earlier : List Entry) (latest : Option Entry) (due : List Line) → AreLedgers due → Runs whole (alive 8 earlier latest due) due (alive 8 earlier latest [])
  rest_run earlier latest [] all = runs_none whole (alive 8 earlier latest [])
  rest_run earlier latest (line ∷ due) all =
      let s = alive 8 earlier latest (line ∷ due) in
      let one = ledger_next s line due all.0 (omega arith) (omega arith) refl (λ e. absurd (omega (arith, e))) in
      runs_on whole s (alive 8 earlier latest due) (alive 8 earlier latest []) line due one.0 one.1 (rest_run earlier latest due all.1)

  -- where the history has come, all ledgers are due
  due_at : (p : ℕ) (earlier : List Entry) (latest : Option Entry) → p ≤ 7
      → ledgers_due whole (alive p earlier latest []) ≡ ledger_lines whole (head_of whole rs gs ts told) (earlier ++ option_to_list latest)
  due_at p earlier latest high = ap (λ b. cond b (ledger_lines whole (head_of whole rs gs ts told) (earlier ++ option_to_list latest)) []) (lt-ltb p 8 (omega (arith, high)))

  ledgers_run : (p : ℕ) (earlier : List Entry) (latest : Option Entry) (due : List Line) → 4 ≤ p → p ≤ 7 → AreLedgers due → ledgers_due whole (alive p earlier latest []) ≡ due
      → (q : ℕ) × (4 ≤ q) × (q ≤ 8) × (ledgers_due whole (alive q earlier latest []) ≡ []) × Runs whole (alive p earlier latest []) due (alive q earlier latest [])
  ledgers_run p earlier latest [] low high all are = (p, low, omega (arith, high), are, runs_none whole (alive p earlier latest []))
  ledgers_run p earlier latest (line ∷ due) low high all are =
      let s = alive p earlier latest [] in
      let one = ledger_next s line due all.0 low (omega (arith, high)) are (λ _. refl) in
      (8, omega arith, omega arith, refl, runs_on whole s (alive 8 earlier latest due) (alive 8 earlier latest []) line due one.0 one.1 (rest_run earlier latest due all.1))

  end_run : (q : ℕ) (earlier : List Entry) (latest : Option Entry) → 4 ≤ q → q ≤ 8 → ledgers_due whole (alive q earlier latest []) ≡ []
      → Runs whole (alive q earlier latest []) (Ends ∷ []) (alive 9 earlier latest [])
  end_run q earlier latest low high none =
      let s = alive q earlier latest [] in
      let fine = plain_fine whole s Ends refl refl low high refl refl refl refl (ap (λ (xs : List Line). not (is_nil xs)) none) in
      runs_on whole s (alive 9 earlier latest []) (alive 9 earlier latest []) Ends [] (record { room = refl; fine = fine; comes = λ _. tt }) refl (runs_none whole (alive 9 earlier latest []))

  -- all lines of a report lead to its end
  pub record Ended (lines : List Line) (entries : List Entry) : Type 0 where
    pub earlier : List Entry
    pub latest : Option Entry
    pub all : earlier ++ option_to_list latest ≡ entries
    pub runs : Runs whole nothing_yet lines (alive 9 earlier latest [])

  pub lines_run : (entries : List Entry) → IsHead (head_of whole rs gs ts told) told → IsLawful (head_of whole rs gs ts told) entries
      → Ended (lines_of whole no_bounds told (record { head = head_of whole rs gs ts told; entries = entries })) entries
  lines_run entries h lawful =
      let head = head_of whole rs gs ts told in
      let p = last_place 4 5 (option_to_list told) in
      let a = head_run whole rs gs ts told h.resources_named h.grouped h.tasks_named h.some_resource h.some_task in
      let at = cap_place whole told in
      let b = entries_run whole rs gs ts told p [] None entries at.0 at.1 lawful in
      let due = due_at b.place b.earlier b.latest b.high ∙ ap (λ (xs : List Entry). ledger_lines whole head xs) b.all in
      let c = ledgers_run b.place b.earlier b.latest (ledger_lines whole head entries) b.low b.high (ledgers_are whole head entries) due in
      let d = end_run c.0 b.earlier b.latest c.1 c.2 c.3 in
      let history = history_lines whole no_bounds head [] entries in
      let ledgers = ledger_lines whole head entries in
      let t = alive b.place b.earlier b.latest [] in
      let u = alive c.0 b.earlier b.latest [] in
      let v = alive 9 b.earlier b.latest [] in
      record {
        earlier = b.earlier;
        latest = b.latest;
        all = b.all;
        runs = runs_both whole nothing_yet (heading p rs gs ts told) v (head_lines head told) (history ++ (ledgers ++ Ends ∷ [])) a
            (runs_both whole (heading p rs gs ts told) t v history (ledgers ++ Ends ∷ []) b.runs (runs_both whole t u v ledgers (Ends ∷ []) c.4 d));
      }
