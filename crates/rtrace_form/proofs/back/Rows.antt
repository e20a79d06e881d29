-- Records that spell a report have no fault.
use Rattle.std.proofs.Common.{◌≡◌, ℕ, ◌+◌, ◌≤◌, Bool, true, false, not, List, [], ◌∷◌, fold, Option, Some, None, refl, sym, ap, subst, ◌∙◌}
use Rattle.std.specs.Prelude.{is_none, option_map, option_and_then}
use Rattle.std.specs.List.{AllZip}
use Rattle.std.proofs.lemmas.Bool.{and_from}
use Rattle.rset.specs.Sets.{Set}
use Rattle.rtrace_form.specs.Records.{Row}
use Rattle.rtrace_form.specs.Numbers.{is_number, read_on, number_told, length_told, cap_told}
use Rattle.rtrace_form.specs.Fields.{Names, Field, Said, Fresh, OneResource, OneTask, Members, Number, Length, Limit, Values, all_counted, read}
use Rattle.rtrace_form.specs.Heads.{cap_or, names_of, IsHead}
use Rattle.rtrace_form.specs.Words.{fields_of}
use Rattle.rtrace_form.specs.Lines.{Line, line_by, word_of, meaning, meant_as}
use Rattle.rtrace_form.specs.Waits.{bound_in}
use Rattle.rtrace_form.specs.Reports.{Entry, Report, Spells, lines_of, IsLawful}
use Rattle.rtrace_form.specs.SoFar.{SoFar, nothing_yet, names_in, told_in, with_line, with_meaning, with_row}
use Rattle.rtrace_form.specs.Walks.{AllClean, when, first_of, or_else}
use Rattle.rtrace_form.specs.Faults.{code_of, code_by, code_of_meaning, is_group_more, is_ended, first_record_fault, read_all}
use Rattle.rtrace_form.specs.WrongBounds.{bound_told, or_more, bounds_said, bounds_due, wrong_bound, first_other, first_wrong_bound, first_fault}
use Rattle.rtrace_form.specs.declared.fault.Code.{Code}
use Rattle.rtrace_form.specs.declared.fault.Code.TheVariants.{BadField, NoEnd}
use Rattle.rtrace_form.proofs.facts.Choices.{map_some}
use Rattle.rtrace_form.proofs.facts.Walks.{clean_none}
use Rattle.rtrace_form.proofs.facts.Fine.{IsFine, no_code_of_fine}
use Rattle.rtrace_form.proofs.facts.Said.{says, word_by}
use Rattle.rtrace_form.proofs.facts.ReadGood.{pair_some, chosen}
use Rattle.rtrace_form.proofs.forth.Stands.{AllNext}
use Rattle.rtrace_form.proofs.forth.Names.{means_same, own_place, resources_kept, tasks_kept, resources_same, tasks_same}
use Rattle.rtrace_form.proofs.lists.BlankLines.{lines_blank}
use Rattle.rtrace_form.proofs.lists.Likes.{told_from, none_other, bounds_are_due}
use Rattle.rtrace_form.proofs.lists.NoActs.{no_wrong_bound}
use Rattle.rtrace_form.proofs.back.BlankRuns.{all_blank, leads_blank}
use Rattle.rtrace_form.proofs.back.EntryRuns.{head_of}
use Rattle.rtrace_form.proofs.back.EndRuns.{lines_run}

-- ---- a record that says a fine line has no fault

there : {X : Type 0} (o : Option X) (x : X) → o ≡ Some x → not (is_none o) ≡ true
there o x h = ap (λ p. not (is_none p)) h

pub read_counted : (names : Names) (fs : List Field) (row : Row) (v : Values fs) → read names fs row ≡ Some v → all_counted fs row ≡ true
unfolding read all_counted
read_counted names [] row v h = refl
read_counted names (f ∷ fs) [] v h = refl
read_counted names (Said word ∷ fs) (x ∷ row) v h = read_counted names fs row v h
read_counted names (Fresh ∷ fs) (x ∷ row) v h = let told = map_some (λ b. (x, b)) (read names fs row) v h in read_counted names fs row told.0 told.1
read_counted names (OneResource ∷ fs) (x ∷ row) v h = let told = pair_some _ (read names fs row) v h in read_counted names fs row v.1 told.1
read_counted names (OneTask ∷ fs) (x ∷ row) v h = let told = pair_some _ (read names fs row) v h in read_counted names fs row v.1 told.1
read_counted names (Members ∷ fs) (x ∷ row) v h = let told = pair_some _ (read names fs row) v h in read_counted names fs row v.1 told.1
read_counted names (Number ∷ fs) (x ∷ row) v h =
    let told = pair_some (number_told x) (read names fs row) v h in
    and_from (is_number x) _ (chosen (is_number x) (read_on 0 x) v.0 told.0).0 (read_counted names fs row v.1 told.1)
read_counted names (Length ∷ fs) (x ∷ row) v h =
    let told = pair_some (length_told x) (read names fs row) v h in and_from _ _ (there (length_told x) v.0 told.0) (read_counted names fs row v.1 told.1)
read_counted names (Limit ∷ fs) (x ∷ row) v h =
    let told = pair_some (cap_told x) (read names fs row) v h in and_from _ _ (there (cap_told x) v.0 told.0) (read_counted names fs row v.1 told.1)

none_of : (a b : Bool) (c : Option Code) → a ≡ true → b ≡ false → c ≡ None → first_of (when (not a) BadField ∷ when b BadField ∷ c ∷ []) ≡ None
none_of a b c p q r = rw (p, q, r) refl

no_code : (whole : Bool) (s : SoFar) (row : Row) (line : Line) → meaning whole (names_in s) row ≡ Some line → is_group_more s (word_of line) ≡ false → IsFine whole s line → code_of whole s row ≡ None
unfolding code_of
no_code whole s row line means room fine =
    let told = says whole (names_in s) row line means in
    let of : told.of ≡ word_of line = sym (word_by told.of told.values) ∙ ap word_of told.tells in
    let meant : meant_as (names_in s) row (Some told.of) ≡ Some line = ap (option_map (line_by told.of)) told.reads ∙ ap (λ (l : Line). Some l) told.tells in
    ap (code_by whole s row) told.is
    ∙ none_of (all_counted (fields_of told.of) row) (is_group_more s told.of) (code_of_meaning whole s (meant_as (names_in s) row (Some told.of)))
    (read_counted (names_in s) (fields_of told.of) row told.values told.reads) (ap (is_group_more s) of ∙ room)
    (ap (code_of_meaning whole s) meant ∙ no_code_of_fine whole s line fine)

row_leads : (whole : Bool) (s : SoFar) (row : Row) (line : Line) → meaning whole (names_in s) row ≡ Some line → with_row whole s row ≡ with_line whole s line
unfolding with_row
row_leads whole s row line means = ap (with_meaning whole s) means

-- what records lead to
record AreClean (whole : Bool) (s : SoFar) (rows : List Row) (lines : List Line) : Type 0 where
  pub clean : AllClean (code_of whole) (with_row whole) s rows
  pub leads : fold (with_row whole) s rows ≡ fold (with_line whole) s lines
  pub bounds : (n : ℕ) → bounds_said whole n s rows ≡ told_from n lines

rows_clean : (whole : Bool) (names : Names) (s : SoFar) (rows : List Row) (lines : List Line) → AllZip (λ row line. meaning whole names row ≡ Some line) rows lines → AllNext whole s lines
    → names_in (fold (with_line whole) s lines) ≡ names → AreClean whole s rows lines
unfolding bounds_said
rows_clean whole names s [] [] said next final = record { clean = tt; leads = refl; bounds = λ n. refl }
rows_clean whole names s [] (line ∷ lines) said next final = absurd said
rows_clean whole names s (row ∷ rows) [] said next final = absurd said
rows_clean whole names s (row ∷ rows) (line ∷ lines) said next final =
    let then = with_line whole s line in
    let place = own_place whole s line in
    let means : meaning whole (names_in s) row ≡ Some line = means_same whole names (names_in s) row line
    (λ far. ap (λ (n : Names). n.resources) (sym final) ∙ resources_kept whole then lines (subst (λ n. 3 ≤ n) (sym place) far) next.1 ∙ resources_same whole s line far)
    (λ far. ap (λ (n : Names). n.tasks) (sym final) ∙ tasks_kept whole then lines (subst (λ n. 5 ≤ n) (sym place) far) next.1 ∙ tasks_same whole s line far)
    said.0 in
    let leads = row_leads whole s row line means in
    let rest = rows_clean whole names then rows lines said.1 next.1 final in
    record {
      clean = (no_code whole s row line means next.0.room next.0.fine, subst (λ (t : SoFar). AllClean (code_of whole) (with_row whole) t rows) (sym leads) rest.clean);
      leads = ap (λ (t : SoFar). fold (with_row whole) t rows) leads ∙ rest.leads;
      bounds = λ n. (λ i. or_more n (option_and_then bound_told (means i)) (bounds_said whole (n + 1) (leads i) rows)) ∙ ap (or_more n (bound_told line)) (rest.bounds (n + 1));
    }

-- ---- all records

abbrev Clean : Bool → List Row → Report → Type 0
Clean whole rows r = (first_fault whole rows ≡ None) × (told_in (read_all whole rows) ≡ r)

-- where they have said the report, no bound is wrong
right_bounds : (whole : Bool) (rows : List Row) (told : Option ℕ) (r : Report) → AreClean whole nothing_yet rows (lines_of whole (bound_in r.head r.entries) told r) → told_in (read_all whole rows) ≡ r → first_wrong_bound whole rows ≡ None
right_bounds true rows told r all is =
    let lines = lines_of true (bound_in r.head r.entries) told r in
    ap (λ (q : Report). option_map wrong_bound (first_other (bounds_said true 1 nothing_yet rows) (bounds_due q.head q.entries))) is
    ∙ (λ i. option_map wrong_bound (first_other (all.bounds 1 i) (sym (bounds_are_due told r) i)))
    ∙ ap (option_map wrong_bound) (none_other 1 lines)
right_bounds false rows told r all is = no_wrong_bound rows

-- for a head whose cap is the one in the text, or else the number of tasks
clean_told : (whole : Bool) (rows : List Row) (told : Option ℕ) (rs : List (List ℕ)) (gs : List Set) (ts : List (List ℕ)) (entries : List Entry)
    → AllZip (λ row line. meaning whole (names_of (head_of whole rs gs ts told)) row ≡ Some line) rows (lines_of whole (bound_in (head_of whole rs gs ts told) entries) told (record { head = head_of whole rs gs ts told; entries = entries }))
    → IsHead (head_of whole rs gs ts told) told → IsLawful (head_of whole rs gs ts told) entries
    → Clean whole rows (record { head = head_of whole rs gs ts told; entries = entries })
clean_told whole rows told rs gs ts entries said head lawful =
    let e = lines_run whole rs gs ts told entries head lawful in
    let r : Report = record { head = head_of whole rs gs ts told; entries = entries } in
    let lines = lines_of whole (bound_in r.head entries) told r in
    let blanked = lines_blank whole (bound_in r.head entries) told r in
    let next = all_blank whole nothing_yet lines (subst (AllNext whole nothing_yet) (sym blanked) e.runs.next) in
    let leads = sym (leads_blank whole nothing_yet lines) ∙ ap (fold (with_line whole) nothing_yet) blanked ∙ e.runs.leads in
    let all = rows_clean whole (names_of r.head) nothing_yet rows lines said next (ap names_in leads) in
    let ended = all.leads ∙ leads in
    let alone : first_record_fault whole rows ≡ None = clean_none (code_of whole) (with_row whole) is_ended NoEnd 1 nothing_yet rows all.clean (ap is_ended ended) in
    let is : told_in (read_all whole rows) ≡ r = ap told_in ended ∙ ap (λ (xs : List Entry). record { head = head_of whole rs gs ts told; entries = xs }) e.all in
    (ap (λ o. or_else o (first_wrong_bound whole rows)) alone ∙ right_bounds whole rows told r all is, is)

-- a report by the parts of its head
abbrev report_by : List (List ℕ) → List Set → List (List ℕ) → ℕ → List Entry → Report
report_by rs gs ts cap entries = record { head = record { resources = rs; groups = gs; tasks = ts; cap = cap }; entries = entries }

by_cap : (whole : Bool) (rows : List Row) (told : Option ℕ) (rs : List (List ℕ)) (gs : List Set) (ts : List (List ℕ)) (cap : ℕ) (entries : List Entry)
    → AllZip (λ row line. meaning whole (names_of (report_by rs gs ts cap entries).head) row ≡ Some line) rows (lines_of whole (bound_in (report_by rs gs ts cap entries).head entries) told (report_by rs gs ts cap entries))
    → IsHead (report_by rs gs ts cap entries).head told → IsLawful (report_by rs gs ts cap entries).head entries → cap_or ts told ≡ cap → Clean whole rows (report_by rs gs ts cap entries)
by_cap whole rows told rs gs ts cap entries said head lawful is =
    subst (λ n. AllZip (λ row line. meaning whole (names_of (report_by rs gs ts n entries).head) row ≡ Some line) rows (lines_of whole (bound_in (report_by rs gs ts n entries).head entries) told (report_by rs gs ts n entries))
    → IsHead (report_by rs gs ts n entries).head told → IsLawful (report_by rs gs ts n entries).head entries → Clean whole rows (report_by rs gs ts n entries))
    is (clean_told whole rows told rs gs ts entries) said head lawful

-- records that spell a report have no fault, and it is what they have said together
pub spelled_clean : (whole : Bool) (rows : List Row) (r : Report) → Spells whole rows r → Clean whole rows r
spelled_clean whole rows r h = by_cap whole rows h.told r.head.resources r.head.groups r.head.tasks r.head.cap r.entries h.said h.head h.lawful (sym h.head.cap)
