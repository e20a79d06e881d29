-- The report of an event list that was read to its end.
use Rattle.std.proofs.Common.{◌≡◌, ℕ, ◌<◌, true, false, List, [], ◌∷◌, ◌++◌, map, length, Some, None, sym, ap, subst, ◌≤◌, ◌∙◌, arith, cond, nat_lt, eqb-true}
use Rattle.std.specs.Prelude.{Bool, Option, Result, Ok, Err, IfOk, IfSome, IsSome, is_some, unwrap_or}
use Rattle.std.specs.List.{range_with_len}
use Rattle.std.proofs.lemmas.List.{same_lists}
use Rattle.std.proofs.lemmas.List.FromFn.{length-map-range_with_len, get_or-map-range_with_len}
use Rattle.std.proofs.lemmas.Option.{get_or_from_slice_get}
use Rattle.rexpand.specs.Groups.{ReadGroups}
use Rattle.rtrace_form.specs.Fields.{Names}
use Rattle.rset.specs.declared.TheConstants.{SEATS}
use Rattle.rtrace_form.specs.Heads.{read_groups, cap_or}
use Rattle.rtrace_form.specs.Lines.{Ends}
use Rattle.rtrace_form.specs.Reports.{Entry, Spells, ledger_after, declared_lines, history_lines}
use Rattle.rtrace_form.specs.SoFar.{SoFar, nothing_yet, entries_in, head_in, names_in, told_in, with_row}
use Rattle.rtrace_form.specs.Faults.{code_of, is_ended, read_all}
use Rattle.rtrace_form.specs.Takers.{HasTaken, list_code, is_list_done, KnowsSaid}
use Rattle.rtrace_form.specs.Texts.{report_text}
use Rattle.rtrace_form.specs.Waits.{all_ended, bound_in, ended_from}
use Rattle.rtrace_form.specs.declared.fault.Code.TheVariants.{NoEnd}
use Rattle.rtrace_form.proofs.facts.Walks.{no_fault}
use Rattle.rtrace_form.proofs.texts.Lists.{list_faults, list_told}
use Rattle.rtrace_form.proofs.forth.Rows.{right_bounds}
use Rattle.rtrace_form.proofs.lists.NoActs.{no_wrong_bound}
use Rattle.rtrace_write.specs.Behind.{past_in, IsToldWhole}
use Rattle.rtrace_write.specs.Gathered.{KnowsGathered}
use Rattle.rtrace_write.specs.Told.{told, leaves_from}
use Rattle.rtrace_write.proofs.Parts.{parts_are, ledgers_are as told_ledgers}
use Rattle.rtrace_read.specs.Past.{begun}
use Rattle.rtrace_read.specs.Knows.{Knows}
use Rattle.rtrace_read.specs.declared.reading.ReportReader.{ReportReader}
use Rattle.rtrace_replay.specs.Names.{names_read}
use Rattle.rtrace_replay.specs.Parts.{ArePartsOf}
use Rattle.rtrace_replay.specs.Replaying.{KnowsTelling, IsToldToEnd}
use Rattle.rtrace_replay.specs.declared.replaying.Telling.{Telling}
use Rattle.rtrace_replay.proofs.Replays.{names_are}

-- a text that was taken has ended
pub taken_ended : {T : Type 0} (whole : Bool) (Know : T → SoFar → Type 0) (bytes : List ℕ) (taker : T) (h : HasTaken (list_code whole) (is_list_done whole) NoEnd (KnowsSaid whole Know) bytes taker) → is_ended (read_all whole h.rows) ≡ true
taken_ended whole Know bytes taker h = (no_fault (code_of whole) (with_row whole) is_ended NoEnd 1 nothing_yet h.rows (sym (list_faults whole h.rows) ∙ h.right)).1

-- and its records spell what they have said: no bound of an event list is wrong
pub taken_spells : {T : Type 0} (Know : T → SoFar → Type 0) (bytes : List ℕ) (taker : T) (h : HasTaken (list_code false) (is_list_done false) NoEnd (KnowsSaid false Know) bytes taker)
    → Spells false h.rows (told_in (read_all false h.rows))
taken_spells Know bytes taker h = right_bounds false h.rows (list_told false Know bytes taker h) (no_wrong_bound h.rows)

one_some : {X : Type 0} {x y : X} → Some x ≡ Some y → x ≡ y
one_some e = cc

module _ (whole : Bool) (reading : ReportReader) (s : SoFar) (k : Knows whole reading s) where
  -- its ledgers are those of the history
  pub ledgers_are : reading.ledgers.items ≡ map (ledger_after (entries_in s)) (range_with_len 0 (length s.resources))
  ledgers_are =
      let many = k.ledgers.many in
      let f = ledger_after (entries_in s) in
      same_lists reading.ledgers.items (map f (range_with_len 0 (length s.resources))) (many ∙ sym (length-map-range_with_len f 0 (length s.resources)))
      (λ i d within.
      let low : i < length s.resources = omega (arith, many, within) in
      get_or_from_slice_get reading.ledgers.items i (f i) d (k.ledgers.each i low) ∙ sym (get_or-map-range_with_len f 0 (length s.resources) i i d low (omega arith)))

  module _ (ended : is_ended s ≡ true) where
    -- its groups are there
    pub groups_are : reading.groups ≡ Some (read_groups (head_in s))
    groups_are = k.groups ∙ at s.last (eqb-true s.last 9 ended)
      where
        at : (n : ℕ) → n ≡ 9 → cond (nat_lt n 3) None (Some (read_groups (head_in s))) ≡ Some (read_groups (head_in s))
        at n e = ap (λ m. cond (nat_lt m 3) None (Some (read_groups (head_in s)))) e

    pub some_groups : IsSome reading.groups
    some_groups = ap is_some groups_are

-- what was made after a list without events was given all of it
pub told_none : (t : Telling) (reading : ReportReader) (s : SoFar) → Knows false reading s → is_ended s ≡ true → t.names ≡ names_read reading
    → ((groups : ReadGroups) (cap : ℕ) → KnowsGathered t.gathered (begun groups (length reading.tasks) cap) []) → entries_in s ≡ [] → KnowsTelling t s
unfolding ended_from
told_none t reading s k ended named told none =
    let last = eqb-true s.last 9 ended in
    record {
      names = named ∙ names_are reading s k;
      far = omega (arith, last);
      gathered = subst (λ (entries : List Entry). KnowsGathered t.gathered (past_in (head_in s) entries) (all_ended (head_in s) entries)) (sym none)
          (subst (λ (seats : ℕ). KnowsGathered t.gathered (begun (read_groups (head_in s)) seats (head_in s).cap) []) (ap (λ (ts : List (List ℕ)). length ts) k.tasks) (told (read_groups (head_in s)) (head_in s).cap));
    }

-- the history of what was read to its end was given whole, also when its text is moved out
pub told_whole : (text given : List (Option ℕ)) (telling : Telling) (reading : ReportReader) (s : SoFar) → given ≡ text → IsToldToEnd text telling reading s → IsToldWhole given telling.gathered (names_in s) (head_in s) (entries_in s)
told_whole text given telling reading s same h = record { told = same ∙ h.history; known = h.told.gathered }

-- its cap is that of the head, and at least 1
pub cap_is : (reading : ReportReader) (s : SoFar) → Knows false reading s → cap_or reading.tasks reading.cap ≡ (head_in s).cap
cap_is reading s k = λ i. cap_or (k.tasks i) (k.cap i)

low_cap : (told : Option ℕ) (n : ℕ) → IfSome told (λ m. (1 ≤ m) × (m ≤ SEATS)) → 0 < n → 1 ≤ unwrap_or told n
low_cap None n fits some = some
low_cap (Some m) n fits some = fits.0

pub some_cap : (reading : ReportReader) (s : SoFar) → Knows false reading s → is_ended s ≡ true → 1 ≤ (head_in s).cap
some_cap reading s k ended = let last = eqb-true s.last 9 ended in low_cap s.cap (length s.tasks) k.capped (k.some_task (omega (arith, last)))

-- what is made of a value is so in a weaker way too
pub if_ok_weaker : {T E : Type 0} {P Q : T → Type 0} (r : Result T E) → ((x : T) → P x → Q x) → IfOk r P → IfOk r Q
if_ok_weaker (Ok x) f h = f x h
if_ok_weaker (Err e) f h = tt

-- the parts that were made are the text of the report
pub made_are : (reading : ReportReader) (s : SoFar) (names : Names) (head history ending : List ℕ) (groups : ReadGroups) → Knows false reading s → is_ended s ≡ true → names ≡ names_in s
    → reading.groups ≡ Some groups → head ≡ told names (declared_lines names.resources groups.groups names.tasks (Some (cap_or reading.tasks reading.cap)))
    → history ≡ told (names_in s) (history_lines true (bound_in (head_in s) (entries_in s)) (head_in s) [] (entries_in s)) → ending ≡ told names (leaves_from 0 reading.ledgers.items ++ Ends ∷ [])
    → head ++ (history ++ ending) ≡ report_text (told_in s)
made_are reading s names head history ending groups k ended own there e f g =
    parts_are (told_in s) names groups.groups (cap_or reading.tasks reading.cap) reading.ledgers.items head history ending own
    (ap (λ (o : ReadGroups). o.groups) (one_some (sym there ∙ groups_are false reading s k ended)))
    (λ i. cap_or (k.tasks i) (k.cap i)) (ledgers_are false reading s k) e
    (f ∙ ap (λ n. told n (history_lines true (bound_in (head_in s) (entries_in s)) (head_in s) [] (entries_in s))) (sym own)) g

-- and each of them is its part of that text
pub made_parts : (reading : ReportReader) (s : SoFar) (names : Names) (head history ending : List ℕ) (groups : ReadGroups) → Knows false reading s → is_ended s ≡ true → names ≡ names_in s
    → reading.groups ≡ Some groups → head ≡ told names (declared_lines names.resources groups.groups names.tasks (Some (cap_or reading.tasks reading.cap)))
    → history ≡ told (names_in s) (history_lines true (bound_in (head_in s) (entries_in s)) (head_in s) [] (entries_in s)) → ending ≡ told names (leaves_from 0 reading.ledgers.items ++ Ends ∷ [])
    → ArePartsOf (told_in s) head history ending
made_parts reading s names head history ending groups k ended own there e f g =
    let grouped : groups.groups ≡ s.groups = ap (λ (o : ReadGroups). o.groups) (one_some (sym there ∙ groups_are false reading s k ended)) in
    record {
      is_head = e ∙ (λ i. told (own i) (declared_lines (own i).resources (grouped i) (own i).tasks (Some (cap_or (k.tasks i) (k.cap i)))));
      is_history = f;
      is_ending = g ∙ (λ i. told (own i) (leaves_from 0 (ledgers_are false reading s k i) ++ Ends ∷ []))
          ∙ ap (λ lines. told (names_in s) (lines ++ Ends ∷ [])) (told_ledgers (head_in s) (entries_in s));
    }
