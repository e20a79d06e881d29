-- The text of an event list: its records are those that it was written of, and they spell the list.
use Rattle.std.proofs.Common.{◌≡◌, ℕ, ◌≤◌, ◌==◌, arith, true, false, not, List, [], ◌∷◌, ◌++◌, map, length, codes, Some, refl, sym, ap, subst, append_assoc, ◌∙◌, IsTrue}
use Rattle.std.specs.Prelude.{nat_lt}
use Rattle.std.specs.List.{AllByRecursion, AllZip, list_all}
use Rattle.std.specs.FinSet.{len}
use Rattle.std.proofs.lemmas.Bool.{and_parts, and_from, le-leb}
use Rattle.std.proofs.lemmas.Bool.Decides.{nat_tests}
use Rattle.csv.specs.Reading.{AreRecords, default_config, strip_bom}
use Rattle.csv.specs.declared.parser.State.TheVariants as st
use Rattle.rset.specs.Names.{is_table}
use Rattle.rset.specs.Sets.{Set, all_below}
use Rattle.rset.specs.declared.TheConstants.{RESOURCES, SEATS}
use Rattle.rexpand.specs.Groups.{ReadGroups, is_group, are_groups}
use Rattle.rexpand.proofs.GroupLemmas.{AreGroups, groups_parts, group_below}
use Rattle.rvalue.specs.Entries.{EntryFields}
use Rattle.rtrace_form.specs.Records.{Row}
use Rattle.rtrace_form.specs.Fields.{Names, AreTables, write}
use Rattle.rtrace_form.specs.Heads.{Head, names_of, IsHead, is_nil, has_member}
use Rattle.rtrace_form.specs.Lines.{Line, Happens, Ends, IsWritable, spelled, meaning}
use Rattle.rtrace_form.specs.Waits.{bound_in}
use Rattle.rtrace_form.specs.Reports.{Spells, declared_lines}
use Rattle.rtrace_form.specs.Texts.{text_of, IsTextOf}
use Rattle.rtrace_form.proofs.texts.Rows.{records_back, rows_plain}
use Rattle.rtrace_write.specs.Told.{told}
use Rattle.rtrace_write.proofs.Growing.{told-one, grown}
use Rattle.rtrace_write.proofs.Rows.{ends_is}
use Rattle.rlist_text.specs.Lists.{list_of, list_lines, AreAccepted, head_with}
use Rattle.rlist_text.proofs.Alone.{lawful_alone}
use Rattle.rlist_text.proofs.Saying.{said_listed, are_listed, list_writable, lines_are}

-- ---- the head

has_some : (n : ℕ) → nat_lt 0 n ≡ true → not (n == 0) ≡ true
has_some n h = grind (arith, nat_tests)

members : (q : ℕ) (groups : List Set) → list_all (is_group q) groups ≡ true → list_all has_member groups ≡ true
unfolding is_group
members q [] h = refl
members q (group ∷ groups) h =
    let parts = and_parts (is_group q group) (list_all (is_group q) groups) h in
    let some = (and_parts (nat_lt 0 (len group)) (all_below q group) parts.0).0 in
    and_from _ _ (has_some (len group) some) (members q groups parts.1)

below : (q : ℕ) (groups : List Set) → list_all (is_group q) groups ≡ true → AllByRecursion (λ (group : Set). IsTrue (all_below q group)) groups
below q [] h = tt
below q (group ∷ groups) h =
    let parts = and_parts (is_group q group) (list_all (is_group q) groups) h in
    (group_below q group parts.0, below q groups parts.1)

not_nil : {X : Type 0} (xs : List X) → 1 ≤ length xs → is_nil xs ≡ false
not_nil [] h = absurd (omega (arith, h))
not_nil (x ∷ xs) h = refl

module _ (resources : List (List ℕ)) (groups : ReadGroups) (tasks : List (List ℕ)) (cap : ℕ) (over : groups.q ≡ length resources) (valid : are_groups groups ≡ true)
    (named : is_table RESOURCES resources ≡ true) (called : is_table SEATS tasks ≡ true) (some : 1 ≤ length tasks) (low : 1 ≤ cap) (high : cap ≤ SEATS) where
  abbrev head : Head
  head = head_with resources groups tasks cap

  parts : AreGroups groups.q groups.groups
  parts = groups_parts groups valid

  is_head : IsHead head (Some cap)
  is_head = record {
    resources_named = named;
    tasks_named = called;
    grouped = and_from _ _ (members groups.q groups.groups parts.each) (le-leb _ _ parts.few);
    some_resource = not_nil resources (subst (λ n. 1 ≤ n) over parts.some);
    some_task = not_nil tasks some;
    cap = refl;
  }

  tables : AreTables (names_of head)
  tables = record { resources = named; tasks = called }

  module _ {E : Type 0} (entries : List (EntryFields E)) (accepted : AreAccepted head entries) where
    abbrev rows : List Row
    rows = map (spelled (names_of head)) (list_lines head entries)

    writable : AllByRecursion (IsWritable (names_of head)) (list_lines head entries)
    writable = list_writable head is_head low high (subst (λ n. AllByRecursion (λ (group : Set). IsTrue (all_below n group)) groups.groups) over (below groups.q groups.groups parts.each)) entries accepted

    spells : Spells false rows (list_of head entries)
    spells = record {
      told = Some cap;
      said = subst (λ (lines : List Line). AllZip (λ row line. meaning false (names_of head) row ≡ Some line) rows lines) (lines_are head (bound_in head (list_of head entries).entries) entries)
          (said_listed (names_of head) tables (list_lines head entries) writable (are_listed head entries));
      head = is_head;
      lawful = lawful_alone head entries accepted;
    }

    -- such a text has no byte order mark
    no_mark : strip_bom (text_of rows) ≡ text_of rows
    unfolding strip_bom write
    no_mark = refl

    pub listed : IsTextOf false (text_of rows) (list_of head entries)
    listed = (rows, subst (λ (text : List ℕ). AreRecords default_config st.StartRecord text rows) (sym no_mark) (records_back rows (rows_plain (names_of head) tables (list_lines head entries) writable)), spells)

-- ---- the parts of the text

-- head, events and end are the text of the list
pub parts_are : {E : Type 0} (head : Head) (entries : List (EntryFields E)) (names : Names) (first second last : List ℕ) → names ≡ names_of head
    → first ≡ told names (declared_lines names.resources head.groups names.tasks (Some head.cap)) → second ≡ first ++ told names (map (λ (entry : EntryFields E). Happens entry.event) entries)
    → last ≡ second ++ codes "end\n" → last ≡ told (names_of head) (list_lines head entries)
parts_are {E} head entries names first second last named a b c =
    let events : List Line = map (λ (entry : EntryFields E). Happens entry.event) entries in
    let heads : List Line = declared_lines names.resources head.groups names.tasks (Some head.cap) in
    let two = grown names [] first second heads events a b in
    let three = grown names [] second last (heads ++ events) (Ends ∷ []) two (c ∙ ap (λ (t : List ℕ). second ++ t) (sym (told-one names Ends ∙ ends_is names))) in
    three ∙ ap (told names) (append_assoc heads events (Ends ∷ []))
    ∙ ap (λ (n : Names). told n (declared_lines n.resources head.groups n.tasks (Some head.cap) ++ (events ++ Ends ∷ []))) named
