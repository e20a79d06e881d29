-- The bounds in records, one record after another.
use Rattle.std.proofs.Common.{◌≡◌, ℕ, suc, ◌+◌, ◌<◌, true, List, [], ◌∷◌, ◌++◌, length, Option, Some, None, refl, sym, ap, subst, ◌∙◌, arith, length-append}
use Rattle.std.specs.Prelude.{option_map, option_to_list}
use Rattle.std.proofs.lemmas.List.{length-map}
use Rattle.rbound.specs.Bounds.{Numbers}
use Rattle.rtrace_form.specs.Records.{Row}
use Rattle.rtrace_form.specs.Lines.{Line, Waits}
use Rattle.rtrace_form.specs.Waits.{bound_in, all_ended}
use Rattle.rtrace_form.specs.Reports.{Entry, lines_of}
use Rattle.rtrace_form.specs.SoFar.{SoFar, nothing_yet, names_in, head_in, entries_in, told_in, with_row, with_act, bare}
use Rattle.rtrace_form.specs.Faults.{read_all}
use Rattle.rtrace_form.specs.Takers.{list_code, is_list_done, HasTaken}
use Rattle.rtrace_form.specs.WrongBounds.{bound_said, bounds_said, or_more}
use Rattle.rtrace_form.specs.declared.fault.Code.TheVariants.{NoEnd}
use Rattle.rtrace_form.proofs.forth.Rows.{HaveTold, have_told}
use Rattle.rtrace_form.proofs.lists.BlankLines.{blank, lines_blank}
use Rattle.rtrace_form.proofs.lists.Likes.{told_from, bounds_in, bounds_are_due}
use Rattle.rtrace_form.proofs.texts.Lists.{read_more, bounds_more, list_faults}
use Rattle.rtrace_read.specs.declared.reading.ReportReader.{ReportReader}
use Rattle.rtrace_read.specs.declared.taken.TakenRecord.{TakenRecord}
use Rattle.rtrace_read.specs.declared.taken.TakenRecord.TheVariants as taken
use Rattle.rtrace_read.specs.Knows.{Knows}
use Rattle.rtrace_read.specs.Takes.{Adds, TakesRow, TellsBound, bound_of}
use Rattle.rtrace.specs.declared.count.Counting.{Counting}
use Rattle.rtrace.specs.ToldBounds.{KnowsBounds}
use Rattle.rtrace.specs.Collects.{KnowsCount, one_if_told, one_if_event, waits_told}

-- ---- counting

told_one : (n : ℕ) (o : Option Numbers) → length (or_more n o []) ≡ one_if_told o
told_one n None = refl
told_one n (Some b) = refl

-- one more record has one more wait, if it is of a wait
pub waits_more : (rows : List Row) (row : Row) (o : Option Numbers) → bound_said true (names_in (read_all true rows)) row ≡ o → waits_told (rows ++ row ∷ []) ≡ waits_told rows + one_if_told o
waits_more rows row o is =
    ap length (bounds_more true rows row ∙ ap (λ b. bounds_said true 1 nothing_yet rows ++ or_more (length rows + 1) b []) is)
    ∙ length-append (bounds_said true 1 nothing_yet rows) (or_more (length rows + 1) o [])
    ∙ ap (λ n. waits_told rows + n) (told_one (length rows + 1) o)

act_same : (f : Entry → Entry) (o : Option Entry) → length (option_to_list (option_map f o)) ≡ length (option_to_list o)
act_same f None = refl
act_same f (Some x) = refl

entries_more : (what : TakenRecord) (s t : SoFar) → Adds what s t → length (entries_in t) ≡ length (entries_in s) + one_if_event what
entries_more (taken.Event e) s t adds =
    (λ i. length (adds.0 i ++ option_to_list (adds.1 i))) ∙ length-append (entries_in s) (bare e ∷ [])
entries_more (taken.Act act) s t adds =
    let now = length-append s.earlier (option_to_list (option_map (with_act act) s.latest)) in
    let was = length-append s.earlier (option_to_list s.latest) in
    let same = act_same (with_act act) s.latest in
    let is : length (entries_in t) ≡ length (s.earlier ++ option_to_list (option_map (with_act act) s.latest)) = (λ i. length (adds.0 i ++ option_to_list (adds.1 i))) in
    omega (arith, now, was, same, is)
entries_more (taken.Wait told) s t adds =
    let is : length (entries_in t) ≡ length (entries_in s) = (λ i. length (adds.0 i ++ option_to_list (adds.1 i))) in omega (arith, is)
entries_more taken.Other s t adds =
    let is : length (entries_in t) ≡ length (entries_in s) = (λ i. length (adds.0 i ++ option_to_list (adds.1 i))) in omega (arith, is)

module _ (rows : List Row) (row : Row) where
  -- what is known by what was said is known by the records
  pub by_rows : {T : Type 0} (L : T → SoFar → Type 0) (new : T) → L new (with_row true (read_all true rows) row) → L new (read_all true (rows ++ row ∷ []))
  by_rows L new h = subst (λ (t : SoFar). L new t) (sym (read_more true rows row)) h

  pub events_more : (what : TakenRecord) → Adds what (read_all true rows) (with_row true (read_all true rows) row)
      → length (entries_in (read_all true (rows ++ row ∷ []))) ≡ length (entries_in (read_all true rows)) + one_if_event what
  events_more what adds = ap (λ (t : SoFar). length (entries_in t)) (read_more true rows row) ∙ entries_more what (read_all true rows) (with_row true (read_all true rows) row) adds

-- one more record is counted
pub count_on : (old new : Counting) (rows : List Row) (row : Row) (what : TakenRecord) → KnowsCount old rows → TakesRow old.reading new.reading row what → TellsBound old.reading row what
    → KnowsBounds new.bounds (rows ++ row ∷ []) → new.events ≡ old.events + one_if_event what → new.waits ≡ old.waits + one_if_told (bound_of what)
    → (list_code true rows row ≡ None) × KnowsCount new (rows ++ row ∷ [])
count_on old new rows row what h takes tells bounds events waits =
    let took = takes true (read_all true rows) h.knows in
    let more = events_more rows row what took.2 in
    let on = waits_more rows row (bound_of what) (tells true (read_all true rows) h.knows) in
    let was = h.events in
    let said = h.waits in (
      took.0,
      record { knows = by_rows rows row (λ (r : ReportReader) (t : SoFar). Knows true r t) new.reading took.1; bounds = bounds; events = omega (arith, events, more, was); waits = omega (arith, waits, on, said) },
    )

-- records have no more waits than there are records
pub waits_few : (rows : List Row) → waits_told rows < length rows + 1
unfolding bounds_said
waits_few rows = from 1 nothing_yet rows
  where
    one : (n : ℕ) (o : Option Numbers) (more : List (ℕ × Numbers)) (k : ℕ) → length more < k → length (or_more n o more) < k + 1
    one n None more k h = omega (arith, h)
    one n (Some b) more k h = omega (arith, h)

    from : (n : ℕ) (s : SoFar) (xs : List Row) → length (bounds_said true n s xs) < length xs + 1
    from n s [] = omega arith
    from n s (x ∷ xs) = let more = one n (bound_said true (names_in s) x) (bounds_said true (n + 1) (with_row true s x) xs) (length xs + 1) (from (n + 1) (with_row true s x) xs) in omega (arith, more)

-- ---- whole texts

-- what the records of a text that were taken have said, whatever the taker knows of them
pub told_by_taken : {T : Type 0} (K : T → List Row → Type 0) (bytes : List ℕ) (taker : T) (h : HasTaken (list_code true) (is_list_done true) NoEnd K bytes taker) → HaveTold true h.rows (read_all true h.rows)
told_by_taken K bytes taker h = let few = h.few in have_told true h.rows (omega (arith, few)) (sym (list_faults true h.rows) ∙ h.right)

-- lines have as many bounds as without them
as_many : (n : ℕ) (lines : List Line) → length (told_from n lines) ≡ length (bounds_in (blank lines))
as_many n [] = refl
as_many n (line ∷ lines) = at line (as_many (n + 1) lines)
  where
    at : (x : Line) → length (told_from (n + 1) lines) ≡ length (bounds_in (blank lines)) → length (told_from n (x ∷ lines)) ≡ length (bounds_in (blank (x ∷ lines)))
    at (Waits seat which cover bound) rest = ap suc rest
    at _ rest = rest

-- *The records of a report have just as many waits as its history ended*
pub told_are_ended : (rows : List Row) → HaveTold true rows (read_all true rows) → waits_told rows ≡ length (all_ended (head_in (read_all true rows)) (entries_in (read_all true rows)))
told_are_ended rows h =
    let s = read_all true rows in
    let bounds = bound_in (head_in s) (entries_in s) in
    let dues = lines_of true bounds s.cap (told_in s) in
    let same : blank h.lines ≡ blank dues = h.are ∙ sym (lines_blank true bounds s.cap (told_in s)) in
    ap length h.bounds
    ∙ as_many 1 h.lines
    ∙ ap (λ (xs : List Line). length (bounds_in xs)) same
    ∙ sym (as_many 1 dues)
    ∙ as_told 1 dues
    ∙ ap length (bounds_are_due s.cap (told_in s))
    ∙ length-map (all_ended (head_in s) (entries_in s)) bounds
  where
    as_told : (n : ℕ) (lines : List Line) → length (told_from n lines) ≡ length (bounds_in lines)
    as_told n [] = refl
    as_told n (line ∷ lines) = at line (as_told (n + 1) lines)
      where
        at : (x : Line) → length (told_from (n + 1) lines) ≡ length (bounds_in lines) → length (told_from n (x ∷ lines)) ≡ length (bounds_in (x ∷ lines))
        at (Waits seat which cover bound) rest = ap suc rest
        at _ rest = rest
