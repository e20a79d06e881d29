-- What a reader knows after it has taken a record.
use Rattle.std.proofs.Common.{◌≡◌, ℕ, suc, ◌≤◌, Bool, true, false, not, ◌&&◌, ◌==◌, codes, List, [], ◌∷◌, ◌++◌, length, Option, Some, None, refl, sym, ap, subst, ◌∙◌, arith, true≢false}
use Rattle.std.proofs.lemmas.Bool.Decides.{nat_tests}
use Rattle.std.proofs.lemmas.List.{append-nil}
use Rattle.std.proofs.lemmas.List.Sums.{fold_push}
use Rattle.rset.specs.Sets.{all_below, Set}
use Rattle.rset.proofs.SetLemmas.{all_below_at}
use Rattle.rset.proofs.SetMembers.{some_member}
use Rattle.rtrace_form.specs.declared.errors.RowErr.{RowErr}
use Rattle.rtrace_form.specs.declared.errors.RowErr.TheVariants as why
use Rattle.std.specs.Prelude.{Result, Ok, Err, OnOk, is_none, option_map, option_to_list, IfSome}
use Rattle.std.specs.FinSet.{empty, len}
use Rattle.rset.specs.declared.TheConstants.{RESOURCES}
use Rattle.rexpand.specs.Groups.{ReadGroups}
use Rattle.rexpand.specs.declared.TheConstants.{GROUPS}
use Rattle.rtrace_form.specs.Records.{Row}
use Rattle.rtrace_form.specs.Decided.{field_of}
use Rattle.rtrace_form.specs.Fields.{paired, read, all_known, all_counted, Said, Fresh, Members}
use Rattle.rtrace_form.specs.Heads.{is_nil}
use Rattle.rtrace_form.specs.SetFields.{set_told}
use Rattle.rtrace_form.specs.Walks.{when, or_else, first_of}
use Rattle.rscript.specs.Statements.{section_next}
use Rattle.rscript.specs.Words.{fields_of, word_in}
use Rattle.rscript.specs.Lines.{Line, Opens, HasResource, HasGroup, HasTask, Does, Ends, names_of, line_by, meant_as, meaning}
use Rattle.rscript.specs.Causes.{name_causes, line_causes, meant_causes, said_causes, statement_causes, groups_in}
use Rattle.rscript.specs.Told.{is_statement, Tells, IsWrong}
use Rattle.rscript.specs.declared.code.ScriptCode.{ScriptCode}
use Rattle.rscript.specs.declared.code.ScriptCode.TheVariants.{UnknownName, EmptyGroup}
use Rattle.rscript.specs.declared.section.OpenSection.{OpenSection}
use Rattle.rscript.specs.declared.statement.Statement.{Statement}
use Rattle.rscript.specs.declared.word.ScriptWord.{ScriptWord}
use Rattle.rscript.specs.declared.word.ScriptWord.TheVariants as word
use Rattle.rscript.proofs.record_facts.Causes.{first_of-append}
use Rattle.rscript.proofs.record_facts.Shapes.{long_of, one_row, two_row}
use Rattle.rscript.proofs.record_facts.Tells.{line_first, unknown_wrong, told_causes}
use Rattle.rscript.specs.SoFar.{SoFar, steps_in, section_of, followed_by, with_line, with_meaning, with_row}
use Rattle.rscript.specs.Faults.{placed_causes}
use Rattle.rscript.specs.Reading.{statements_in, latest_in, Knows, Adds, Closes, Takes, Refuses}
use Rattle.rscript.specs.declared.reading.ScriptReader.{ScriptReader}

-- ---- what a record says

-- the fields of a record of this word name what is declared, its numbers are numbers, and this is what they say
record Says (resources : List (List ℕ)) (w : ScriptWord) (row : Row) (line : Line) : Type 0 where
  pub known : all_known (names_of resources) (fields_of w) row ≡ true
  pub counted : all_counted (fields_of w) row ≡ true
  pub means : meant_as (names_of resources) row (Some w) ≡ Some line

module _ (s : SoFar) (w : ScriptWord) (row : Row) where
  said_line : (line : Line) → Says s.resources w row line → first_of (said_causes s.resources s.groups (section_of s.latest) row w) ≡ first_of (line_causes s.groups (section_of s.latest) line)
  said_line line h =
      line_first _ _ (meant_causes s.groups (section_of s.latest) (meant_as (names_of s.resources) row (Some w))) h.known h.counted
      ∙ ap (λ (o : Option Line). first_of (meant_causes s.groups (section_of s.latest) o)) h.means

  adds_line : (line : Line) → word_in row ≡ Some w → meant_as (names_of s.resources) row (Some w) ≡ Some line → with_row s row ≡ with_line s line
  unfolding with_row meaning
  adds_line line is means = ap (with_meaning s) (ap (meant_as (names_of s.resources) row) is ∙ means)

module _ (rs : List (List ℕ)) where
  version_fields : (a b : List ℕ) → Says rs word.Version (a ∷ b ∷ []) Opens
  unfolding all_known all_counted read
  version_fields a b = record { known = refl; counted = refl; means = refl }

  version_says : (row : Row) → word_in row ≡ Some word.Version → Says rs word.Version row Opens
  version_says row is = subst (λ (r : Row). Says rs word.Version r Opens) (sym (two_row (Said (codes "rnlp")) (Said (codes "1")) row (long_of word.Version row is))) (version_fields (field_of row 0) (field_of row 1))

  resource_fields : (a x : List ℕ) → Says rs word.Resource (a ∷ x ∷ []) (HasResource x)
  unfolding all_known all_counted read
  resource_fields a x = record { known = refl; counted = refl; means = refl }

  resource_says : (row : Row) → word_in row ≡ Some word.Resource → Says rs word.Resource row (HasResource (field_of row 1))
  resource_says row is =
      subst (λ (r : Row). Says rs word.Resource r (HasResource (field_of row 1))) (sym (two_row (Said (codes "resource")) Fresh row (long_of word.Resource row is))) (resource_fields (field_of row 0) (field_of row 1))

  task_fields : (a x : List ℕ) → Says rs word.Task (a ∷ x ∷ []) (HasTask x)
  unfolding all_known all_counted read
  task_fields a x = record { known = refl; counted = refl; means = refl }

  task_says : (row : Row) → word_in row ≡ Some word.Task → Says rs word.Task row (HasTask (field_of row 1))
  task_says row is =
      subst (λ (r : Row). Says rs word.Task r (HasTask (field_of row 1))) (sym (two_row (Said (codes "task")) Fresh row (long_of word.Task row is))) (task_fields (field_of row 0) (field_of row 1))

  group_fields : (a x : List ℕ) (group : Set) → set_told rs x ≡ Some group → Says rs word.Group (a ∷ x ∷ []) (HasGroup group)
  unfolding all_known all_counted read
  group_fields a x group h = record {
    known = ap (λ o. not (is_none o) && true) h;
    counted = refl;
    means = ap (λ o. option_map (line_by word.Group) (paired o (Some tt))) h;
  }

  group_says : (row : Row) (group : Set) → word_in row ≡ Some word.Group → set_told rs (field_of row 1) ≡ Some group → Says rs word.Group row (HasGroup group)
  group_says row group is h =
      subst (λ (r : Row). Says rs word.Group r (HasGroup group)) (sym (two_row (Said (codes "group")) Members row (long_of word.Group row is))) (group_fields (field_of row 0) (field_of row 1) group h)

  group_none : (a x : List ℕ) → set_told rs x ≡ None → all_known (names_of rs) (fields_of word.Group) (a ∷ x ∷ []) ≡ false
  unfolding all_known
  group_none a x h = ap (λ o. not (is_none o) && true) h

  group_unknown : (row : Row) → word_in row ≡ Some word.Group → set_told rs (field_of row 1) ≡ None → IsWrong rs word.Group row UnknownName
  group_unknown row is h =
      unknown_wrong rs word.Group row (ap (all_known (names_of rs) (fields_of word.Group)) (two_row (Said (codes "group")) Members row (long_of word.Group row is)) ∙ group_none (field_of row 0) (field_of row 1) h)

  end_fields : (a : List ℕ) → Says rs word.End (a ∷ []) Ends
  unfolding all_known all_counted read
  end_fields a = record { known = refl; counted = refl; means = refl }

  end_says : (row : Row) → word_in row ≡ Some word.End → Says rs word.End row Ends
  end_says row is = subst (λ (r : Row). Says rs word.End r Ends) (sym (one_row (Said (codes "end")) row (long_of word.End row is))) (end_fields (field_of row 0))

-- ---- tests

pub nil_length : {X : Type 0} (xs : List X) → (length xs == 0) ≡ is_nil xs
nil_length [] = refl
nil_length (x ∷ xs) = at (length xs)
  where
    at : (n : ℕ) → (suc n == 0) ≡ false
    at n = grind (arith, nat_tests)

pub not_zero : (n m : ℕ) → n ≡ m → (n ≡ 0 → ⊥) → (m == 0) ≡ false
not_zero n m e h = grind (arith, nat_tests)

both_none : (xs ys : List (Option ScriptCode)) → first_of xs ≡ None → first_of ys ≡ None → first_of (xs ++ ys) ≡ None
both_none xs ys p q = first_of-append xs ys ∙ ap (λ (o : Option ScriptCode). or_else o (first_of ys)) p ∙ q

-- a set that is not empty has some resource
pub some_below : (q : ℕ) (set : Set) → all_below q set ≡ true → (set ≡ empty → ⊥) → 1 ≤ q
some_below q set below some = let m = some_member set some in let low = all_below_at q set below m.0 m.1 in omega arith

-- what follows on success
pub on_ok : {T E : Type 0} {P Q : Type 0} (r : Result T E) → (P → Q) → OnOk r P → OnOk r Q
on_ok (Ok x) f h = f h
on_ok (Err e) f h = tt

pub same_bad : {T : Type 0} {a b : ScriptCode} → ◌≡◌ {A = Result T (RowErr ScriptCode)} (Err (why.Bad a)) (Err (why.Bad b)) → a ≡ b
same_bad {T} {a} {b} e = cc

-- what is wrong with the fields of a record is the same by the resources that the reader knows
by_known : (resources : List (List ℕ)) (s : SoFar) (row : Row) (w : ScriptWord) → s.resources ≡ resources
    → first_of (said_causes s.resources s.groups (section_of s.latest) row w) ≡ first_of (said_causes resources s.groups (section_of s.latest) row w)
by_known resources s row w same = ap (λ (rs : List (List ℕ)). first_of (said_causes rs s.groups (section_of s.latest) row w)) same

-- ---- records

module _ (r : ScriptReader) (row : Row) where
  pub takes_version : word_in row ≡ Some word.Version → r.last ≤ 2 → Takes r (record r { last = 1 }) row word.Version
  takes_version is early s k =
      let says = version_says s.resources row is in
      let last = k.last in
      let low : s.last ≤ 2 = omega (arith, last, early) in (
        said_line s word.Version row Opens says,
        subst (λ (t : SoFar). Knows (record r { last = 1 }) t) (sym (adds_line s word.Version row Opens is says.means)) (record {
          last = refl;
          resources = k.resources;
          groups = k.groups;
          over = k.over;
          no_groups = λ _. k.no_groups low;
          tasks = k.tasks;
          earlier = k.earlier;
          latest = k.latest;
          fresh = k.fresh;
          section = k.section;
          task = λ e. absurd (omega (arith, e));
        }),
      )

  pub takes_resource : (table : List (List ℕ)) → word_in row ≡ Some word.Resource → r.last ≤ 2 → first_of (name_causes RESOURCES r.resources (field_of row 1)) ≡ None
      → table ≡ r.resources ++ field_of row 1 ∷ [] → Takes r (record r { last = 2; resources = table }) row word.Resource
  takes_resource table is early free grown s k =
      let says = resource_says s.resources row is in
      let last = k.last in
      let low : s.last ≤ 2 = omega (arith, last, early) in
      let named : first_of (name_causes RESOURCES s.resources (field_of row 1)) ≡ None = ap (λ (names : List (List ℕ)). first_of (name_causes RESOURCES names (field_of row 1))) (sym k.resources) ∙ free in (
        both_none (name_causes RESOURCES s.resources (field_of row 1)) (said_causes s.resources s.groups (section_of s.latest) row word.Resource) named (said_line s word.Resource row (HasResource (field_of row 1)) says),
        subst (λ (t : SoFar). Knows (record r { last = 2; resources = table }) t) (sym (adds_line s word.Resource row (HasResource (field_of row 1)) is says.means)) (record {
          last = refl;
          resources = grown ∙ ap (λ (names : List (List ℕ)). names ++ field_of row 1 ∷ []) k.resources;
          groups = k.groups;
          over = subst (λ (o : Option ReadGroups). IfSome o (λ groups. groups.q ≡ length table)) (sym (k.no_groups low)) tt;
          no_groups = λ _. k.no_groups low;
          tasks = k.tasks;
          earlier = k.earlier;
          latest = k.latest;
          fresh = k.fresh;
          section = k.section;
          task = λ e. absurd (omega (arith, e));
        }),
      )

  room_left : (s : SoFar) → Knows r s → (length (groups_in r.groups) == GROUPS) ≡ false → (length s.groups == GROUPS) ≡ false
  room_left s k room = ap (λ (gs : List Set). length gs == GROUPS) (sym k.groups) ∙ room

  with_room : (s : SoFar) → (length s.groups == GROUPS) ≡ false → first_of (placed_causes s row word.Group) ≡ first_of (said_causes s.resources s.groups (section_of s.latest) row word.Group)
  with_room s room = rw room refl

  pub takes_group : (set : Set) (groups : Option ReadGroups) → word_in row ≡ Some word.Group → set_told r.resources (field_of row 1) ≡ Some set → (length (groups_in r.groups) == GROUPS) ≡ false → (len set == 0) ≡ false
      → groups ≡ Some (record { q = length r.resources; groups = groups_in r.groups ++ set ∷ [] }) → Takes r (record r { last = 3; groups = groups }) row word.Group
  takes_group set groups is told room some grown s k =
      let says = group_says s.resources row set is (ap (λ (names : List (List ℕ)). set_told names (field_of row 1)) (sym k.resources) ∙ told) in (
        with_room s (room_left s k room) ∙ said_line s word.Group row (HasGroup set) says ∙ ap (λ b. first_of (when b EmptyGroup ∷ [])) some,
        subst (λ (t : SoFar). Knows (record r { last = 3; groups = groups }) t) (sym (adds_line s word.Group row (HasGroup set) is says.means)) (record {
          last = refl;
          resources = k.resources;
          groups = ap groups_in grown ∙ ap (λ (gs : List Set). gs ++ set ∷ []) k.groups;
          over = subst (λ (o : Option ReadGroups). IfSome o (λ groups. groups.q ≡ length r.resources)) (sym grown) refl;
          no_groups = λ e. absurd (omega (arith, e));
          tasks = k.tasks;
          earlier = k.earlier;
          latest = k.latest;
          fresh = k.fresh;
          section = k.section;
          task = λ e. absurd (omega (arith, e));
        }),
      )

  pub refuses_unknown : word_in row ≡ Some word.Group → set_told r.resources (field_of row 1) ≡ None → (length (groups_in r.groups) == GROUPS) ≡ false → Refuses r row word.Group UnknownName
  refuses_unknown is none room s k = with_room s (room_left s k room) ∙ by_known r.resources s row word.Group (sym k.resources) ∙ group_unknown r.resources row is none s.groups (section_of s.latest)

  pub refuses_empty : (set : Set) → word_in row ≡ Some word.Group → set_told r.resources (field_of row 1) ≡ Some set → (length (groups_in r.groups) == GROUPS) ≡ false → (len set == 0) ≡ true
      → Refuses r row word.Group EmptyGroup
  refuses_empty set is told room none s k =
      let says = group_says s.resources row set is (ap (λ (names : List (List ℕ)). set_told names (field_of row 1)) (sym k.resources) ∙ told) in
      with_room s (room_left s k room) ∙ said_line s word.Group row (HasGroup set) says ∙ ap (λ b. first_of (when b EmptyGroup ∷ [])) none

  -- ---- tasks

  task_free : (s : SoFar) → is_nil s.resources ≡ false → first_of (name_causes RESOURCES s.tasks (field_of row 1)) ≡ None → Says s.resources word.Task row (HasTask (field_of row 1))
      → first_of (placed_causes s row word.Task) ≡ None
  task_free s some named says = rw some (both_none (name_causes RESOURCES s.tasks (field_of row 1)) (said_causes s.resources s.groups (section_of s.latest) row word.Task) named (said_line s word.Task row (HasTask (field_of row 1)) says))

  steps_after : (none : Bool) (s : SoFar) (closed : ScriptReader) (table : List (List ℕ)) (groups : Option ReadGroups) → Knows r s → none ≡ is_nil s.tasks → Closes none (record r { tasks = table; groups = groups }) closed
      → (statements_in closed.steps.items ≡ steps_in s) × (closed.latest.items ≡ []) × (closed ≡ record r { tasks = table; groups = groups; steps = closed.steps; latest = closed.latest })
  steps_after true s closed table groups k is h =
      let no_latest : s.latest ≡ None = k.latest ∙ ap (λ b. latest_in b r.latest.items) (sym is) in (
        ap (λ (c : ScriptReader). statements_in c.steps.items) h ∙ k.earlier ∙ sym (append-nil s.earlier) ∙ ap (λ (o : Option (List Statement)). s.earlier ++ option_to_list o) (sym no_latest),
        ap (λ (c : ScriptReader). c.latest.items) h ∙ k.fresh (sym is),
        h ∙ (λ i. record r { tasks = table; groups = groups; steps = (sym h i).steps; latest = (sym h i).latest }),
      )
  steps_after false s closed table groups k is h =
      let some_latest : s.latest ≡ Some r.latest.items = k.latest ∙ ap (λ b. latest_in b r.latest.items) (sym is) in (
        h.steps ∙ ap (λ (xs : List (List Statement)). xs ++ r.latest.items ∷ []) k.earlier ∙ ap (λ (o : Option (List Statement)). s.earlier ++ option_to_list o) (sym some_latest),
        h.latest,
        h.others,
      )

  pub takes_task : (none : Bool) (table : List (List ℕ)) (groups : Option ReadGroups) (closed : ScriptReader) → word_in row ≡ Some word.Task → (length r.resources == 0) ≡ false → none ≡ (length r.tasks == 0) → r.section ≡ None
      → first_of (name_causes RESOURCES r.tasks (field_of row 1)) ≡ None → table ≡ r.tasks ++ field_of row 1 ∷ []
      → groups ≡ Some (record { q = length r.resources; groups = groups_in r.groups }) → Closes none (record r { tasks = table; groups = groups }) closed
      → Takes r (record closed { last = 4 }) row word.Task
  takes_task none table groups closed is some first outside free grown made closes s k =
      let says = task_says s.resources row is in
      let name = field_of row 1 in
      let resources : is_nil s.resources ≡ false = ap is_nil (sym k.resources) ∙ sym (nil_length r.resources) ∙ some in
      let named : first_of (name_causes RESOURCES s.tasks name) ≡ None = ap (λ (names : List (List ℕ)). first_of (name_causes RESOURCES names name)) (sym k.tasks) ∙ free in
      let parts = steps_after none s closed table groups k (first ∙ nil_length r.tasks ∙ ap is_nil k.tasks) closes in
      let then = with_line s (HasTask name) in
      let knows : Knows (record r { last = 4; tasks = table; groups = groups; steps = closed.steps; latest = closed.latest }) then = record {
        last = refl;
        resources = k.resources;
        groups = ap groups_in made ∙ k.groups;
        over = subst (λ (o : Option ReadGroups). IfSome o (λ groups. groups.q ≡ length r.resources)) (sym made) refl;
        no_groups = λ e. absurd (omega (arith, e));
        tasks = grown ∙ ap (λ (names : List (List ℕ)). names ++ name ∷ []) k.tasks;
        earlier = parts.0;
        latest = ap (λ (xs : List Statement). Some xs) (sym parts.1) ∙ ap (λ b. latest_in b closed.latest.items) (sym (is_filled s.tasks name));
        fresh = λ e. parts.1;
        section = outside;
        task = λ _. is_filled s.tasks name;
      } in (
        task_free s resources named says,
        subst (λ (t : SoFar). Knows (record closed { last = 4 }) t) (sym (adds_line s word.Task row (HasTask name) is says.means))
            (subst (λ (c : ScriptReader). Knows (record c { last = 4 }) then) (sym parts.2) knows),
      )
    where
      is_filled : {X : Type 0} (xs : List X) (x : X) → is_nil (xs ++ x ∷ []) ≡ false
      is_filled [] x = refl
      is_filled (y ∷ xs) x = refl

  -- ---- the end

  end_free : (s : SoFar) → is_nil s.resources ≡ false → is_nil s.tasks ≡ false → Says s.resources word.End row Ends → first_of (placed_causes s row word.End) ≡ None
  end_free s some task says = rw (some, task) (said_line s word.End row Ends says)

  pub takes_end : word_in row ≡ Some word.End → (length r.resources == 0) ≡ false → (length r.tasks == 0) ≡ false → Takes r (record r { last = 5 }) row word.End
  takes_end is some task s k =
      let says = end_says s.resources row is in
      let resources : is_nil s.resources ≡ false = ap is_nil (sym k.resources) ∙ sym (nil_length r.resources) ∙ some in
      let tasks : is_nil s.tasks ≡ false = ap is_nil (sym k.tasks) ∙ sym (nil_length r.tasks) ∙ task in (
        end_free s resources tasks says,
        subst (λ (t : SoFar). Knows (record r { last = 5 }) t) (sym (adds_line s word.End row Ends is says.means)) (record {
          last = refl;
          resources = k.resources;
          groups = k.groups;
          over = k.over;
          no_groups = λ e. absurd (omega (arith, e));
          tasks = k.tasks;
          earlier = k.earlier;
          latest = k.latest;
          fresh = k.fresh;
          section = k.section;
          task = λ e. absurd (omega (arith, e));
        }),
      )

  -- ---- statements

  placed_said : (s : SoFar) (w : ScriptWord) → is_statement w ≡ true → first_of (placed_causes s row w) ≡ first_of (said_causes s.resources s.groups (section_of s.latest) row w)
  placed_said s (word.Begin kind) h = refl
  placed_said s word.Show h = refl
  placed_said s word.Add h = refl
  placed_said s word.Take h = refl
  placed_said s word.Put h = refl
  placed_said s word.Ask h = refl
  placed_said s word.Rise h = refl
  placed_said s word.Finish h = refl
  placed_said s _ h = absurd (true≢false (sym h))

  pub refuses_wrong : (w : ScriptWord) (code : ScriptCode) → is_statement w ≡ true → IsWrong r.resources w row code → Refuses r row w code
  refuses_wrong w code kind wrong s k = placed_said s w kind ∙ by_known r.resources s row w (sym k.resources) ∙ wrong s.groups (section_of s.latest)

  statement_code : (w : ScriptWord) (st : Statement) → is_statement w ≡ true → Tells r.resources w row st → (s : SoFar) → Knows r s
      → first_of (placed_causes s row w) ≡ first_of (statement_causes (groups_in r.groups) r.section st)
  statement_code w st kind tells s k =
      placed_said s w kind ∙ by_known r.resources s row w (sym k.resources) ∙ told_causes r.resources w row st tells s.groups (section_of s.latest) ∙ (λ i. first_of (statement_causes (sym k.groups i) (sym k.section i) st))

  pub refuses_statement : (w : ScriptWord) (st : Statement) (code : ScriptCode) → is_statement w ≡ true → Tells r.resources w row st → first_of (statement_causes (groups_in r.groups) r.section st) ≡ Some code
      → Refuses r row w code
  refuses_statement w st code kind tells bad s k = statement_code w st kind tells s k ∙ bad

  pub takes_statement : (w : ScriptWord) (st : Statement) (now : ScriptReader) → word_in row ≡ Some w → is_statement w ≡ true → r.last ≡ 4 → Tells r.resources w row st
      → first_of (statement_causes (groups_in r.groups) r.section st) ≡ None → Adds r now st → Takes r now row w
  takes_statement w st now is kind behind tells free adds s k =
      let means : meant_as (names_of s.resources) row (Some w) ≡ Some (Does st) = ap (λ (names : List (List ℕ)). meant_as (names_of names) row (Some w)) (sym k.resources) ∙ tells.means in
      let four : s.last ≡ 4 = sym k.last ∙ behind in
      let some = k.task four in
      let latest : s.latest ≡ Some r.latest.items = k.latest ∙ ap (λ b. latest_in b r.latest.items) some in
      let then = with_line s (Does st) in
      let knows : Knows (record r { latest = now.latest; section = now.section }) then = record {
        last = behind;
        resources = k.resources;
        groups = k.groups;
        over = k.over;
        no_groups = λ e. absurd (omega (arith, e));
        tasks = k.tasks;
        earlier = k.earlier;
        latest = ap (option_map (followed_by st)) latest ∙ ap (λ (xs : List Statement). Some xs) (sym adds.latest) ∙ ap (λ b. latest_in b now.latest.items) (sym some);
        fresh = λ e. absurd (true≢false (sym e ∙ some));
        section = adds.section ∙ ap (λ (o : Option OpenSection). section_next o st) (k.section ∙ ap section_of latest) ∙ sym (fold_push section_next None r.latest.items st)
            ∙ ap (λ (o : Option (List Statement)). section_of (option_map (followed_by st) o)) (sym latest);
        task = λ _. some;
      } in (
        statement_code w st kind tells s k ∙ free,
        subst (λ (t : SoFar). Knows now t) (sym (adds_line s w row (Does st) is means)) (subst (λ (c : ScriptReader). Knows c then) (sym adds.others) knows),
      )
