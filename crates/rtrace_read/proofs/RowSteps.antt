-- From a record to its line.
use Rattle.std.proofs.Common.{◌≡◌, ℕ, ◌≤◌, ◌<◌, ◌^◌, ◌==◌, Bool, true, false, not, ◌&&◌, cond, nat_le, nat_lt, List, [], ◌∷◌, length, Option, Some, None, refl, sym, ap, subst, ◌∙◌, arith, IsTrue, true≢false}
use Rattle.std.specs.Prelude.{option_map, option_and_then, is_none, find, IsSome}
use Rattle.std.proofs.lemmas.Bool.{and_parts, leb-true}
use Rattle.std.proofs.lemmas.Bool.Decides.{nat_tests}
use Rattle.std.specs.List.{AllByRecursion}
use Rattle.std.specs.FinSet.{empty}
use Rattle.rset.specs.Sets.{Set, all_below}
use Rattle.rset.proofs.SetLemmas.{all_below_empty}
use Rattle.rclaim.specs.Events.{IsNormalEvent}
use Rattle.rclaim.specs.Requests.{normalised, IsNormal}
use Rattle.rclaim.specs.declared.request.Kind.{Kind}
use Rattle.rclaim.specs.declared.request.Kind.TheVariants.{Read, Write, Mixed, Upgrade, Nested}
use Rattle.rclaim.specs.declared.request.RequestErr.{RequestErr}
use Rattle.rclaim.specs.declared.event.Event.{Event}
use Rattle.rclaim.specs.declared.event.Event.TheVariants as event
use Rattle.rmodel.specs.State.{LockState}
use Rattle.rset.specs.declared.TheConstants.{RESOURCES}
use Rattle.rexpand.specs.Groups.{ReadGroups, are_groups}
use Rattle.rexpand.specs.declared.TheConstants.{GROUPS}
use Rattle.rtrace_form.specs.Heads.{read_groups}
use Rattle.rtrace_form.specs.Records.{Row}
use Rattle.rtrace_form.specs.Numbers.{cap_told}
use Rattle.rtrace_form.specs.Decided.{field_of}
use Rattle.rtrace_form.specs.Fields.{Names, Values, AllGood, paired, read, has_form, all_counted}
use Rattle.rtrace_form.specs.Words.{fields_of, word_in, words_of, list_words}
use Rattle.rtrace_form.specs.Lines.{Line, Opens, HasResource, HasTask, HasCap, Happens, Ends, line_by, meaning, meant_as}
use Rattle.rtrace_form.specs.Reports.{Entry}
use Rattle.rtrace_form.specs.Events.{refusal_by, refusal_in}
use Rattle.rtrace_form.specs.SoFar.{SoFar, at_groups, head_in, entries_in, lock_in, names_in, with_line, with_meaning, with_row}
use Rattle.rtrace_form.specs.Walks.{when, or_else, first_of}
use Rattle.rtrace_form.specs.Faults.{line_code, code_of, code_by, code_of_meaning, is_group_more, is_change}
use Rattle.rtrace_form.specs.WrongBounds.{bound_told, bound_said}
use Rattle.rtrace_form.specs.declared.word.Word.{Word}
use Rattle.rtrace_form.specs.declared.word.Word.TheVariants as word
use Rattle.rtrace_form.specs.declared.fault.Code.{Code}
use Rattle.rtrace_form.specs.declared.fault.Code.TheVariants.{BadField, UnknownName}
use Rattle.rtrace_form.specs.declared.fault.Refusal.TheVariants.{Request}
use Rattle.rtrace_form.proofs.facts.Coming.{kind_below}
use Rattle.rtrace_form.proofs.facts.Choices.{some_is, some_none, map_some}
use Rattle.rtrace_form.proofs.facts.ReadGood.{read_good}
use Rattle.rtrace_form.proofs.lists.Histories.{lock-resources, lock-tasks, lock-issued}
use Rattle.rtrace_form.specs.Told.{names_by, IsOf, Says, IsWrong, is_event, is_act, is_status, IsTold}
use Rattle.rtrace_form.specs.declared.event.EventTold.TheVariants as told
use Rattle.rtrace_form.proofs.Places.{says_at, uncounted_at}
use Rattle.rtrace_read.specs.declared.reading.ReportReader.{ReportReader}
use Rattle.rtrace_read.specs.declared.taken.TakenRecord.{TakenRecord}
use Rattle.rtrace_read.specs.declared.taken.TakenRecord.TheVariants as taken
use Rattle.rtrace_read.specs.Knows.{Knows}
use Rattle.rtrace_read.specs.Takes.{Adds}
use Rattle.rtrace_read.specs.LineTakes.{FitsTold}
use Rattle.rtrace_read.proofs.Codes.{with_change}

-- ---- words

found : (p : Word → Bool) (xs : List Word) (w : Word) → find p xs ≡ Some w → p w ≡ true
found p [] w h = absurd (some_none h)
found p (x ∷ xs) w h = at (p x) refl h (found p xs w)
  where
    at : (b : Bool) → p x ≡ b → cond b (Some x) (find p xs) ≡ Some w → (find p xs ≡ Some w → p w ≡ true) → p w ≡ true
    at true e g rest = ap p (sym (some_is g)) ∙ e
    at false e g rest = rest g

found_all : (p q : Word → Bool) (xs : List Word) (w : Word) → AllByRecursion (λ x. q x ≡ false) xs → find p xs ≡ Some w → q w ≡ false
found_all p q [] w all h = absurd (some_none h)
found_all p q (x ∷ xs) w all h = at (p x) h (found_all p q xs w all.1)
  where
    at : (b : Bool) → cond b (Some x) (find p xs) ≡ Some w → (find p xs ≡ Some w → q w ≡ false) → q w ≡ false
    at true g rest = ap q (sym (some_is g)) ∙ all.0
    at false g rest = rest g

pub is_of : (whole : Bool) (row : Row) (w : Word) → word_in whole row ≡ Some w → IsOf w row
unfolding word_in
is_of whole row w h = found (λ x. has_form (fields_of x) row) (words_of whole) w h

-- a word that only a report has
is_report : Word → Bool
is_report word.Show = true
is_report (word.Add done) = true
is_report (word.Take done) = true
is_report (word.Put done) = true
is_report word.Ledger = true
is_report _ = false

of_report : (whole : Bool) (row : Row) (w : Word) → word_in whole row ≡ Some w → is_report w ≡ true → whole ≡ true
unfolding word_in is_report
of_report true row w h is = refl
of_report false row w h is =
    absurd (true≢false (sym is ∙ found_all (λ x. has_form (fields_of x) row) is_report list_words w (refl, (refl, (refl, (refl, (refl, (refl, (refl, (refl, (refl, (refl, (refl, (refl, (refl, (refl, tt)))))))))))))) h))

pub ledger_whole : (whole : Bool) (row : Row) → word_in whole row ≡ Some word.Ledger → whole ≡ true
unfolding is_report
ledger_whole whole row h = of_report whole row word.Ledger h refl

act_report : (w : Word) → is_act w ≡ true → is_report w ≡ true
unfolding is_report
act_report word.Show h = refl
act_report (word.Add done) h = refl
act_report (word.Take done) h = refl
act_report (word.Put done) h = refl
act_report _ h = absurd (true≢false (sym h))

pub act_whole : (whole : Bool) (row : Row) (w : Word) → word_in whole row ≡ Some w → is_act w ≡ true → whole ≡ true
act_whole whole row w h is = of_report whole row w h (act_report w is)

pub event_no_more : (s : SoFar) (w : Word) → is_event w ≡ true → is_group_more s w ≡ false
event_no_more s (word.Issue kind) h = refl
event_no_more s word.Finish h = refl
event_no_more s word.Rise h = refl
event_no_more s word.Ask h = refl
event_no_more s _ h = absurd (true≢false (sym h))

pub act_no_more : (s : SoFar) (w : Word) → is_act w ≡ true → is_group_more s w ≡ false
act_no_more s word.Show h = refl
act_no_more s (word.Add done) h = refl
act_no_more s (word.Take done) h = refl
act_no_more s (word.Put done) h = refl
act_no_more s _ h = absurd (true≢false (sym h))

pub status_no_more : (s : SoFar) (w : Word) → is_status w ≡ true → is_group_more s w ≡ false
status_no_more s (word.Entitled half) h = refl
status_no_more s (word.Satisfied half) h = refl
status_no_more s _ h = absurd (true≢false (sym h))

-- ---- records

or-none : {X : Type 0} (o : Option X) → or_else o None ≡ o
or-none None = refl
or-none (Some x) = refl

module _ (whole : Bool) (old : ReportReader) (s : SoFar) (h : Knows whole old s) (row : Row) (w : Word) (is : word_in old.whole row ≡ Some w) where
  here : word_in whole row ≡ Some w
  here = ap (λ b. word_in b row) (sym h.kind) ∙ is

  same_names : names_by old.resources old.tasks ≡ names_in s
  same_names = λ i. record { resources = h.resources i; tasks = h.tasks i }

  by_word : code_of whole s row ≡ code_by whole s row (Some w)
  unfolding code_of
  by_word = ap (code_by whole s row) here

  pub row_code : is_group_more s w ≡ false → (line : Line) → Says (names_by old.resources old.tasks) w row line → code_of whole s row ≡ line_code whole s line
  row_code more line said =
      by_word
      ∙ (λ i. first_of (when (not (said.counted i)) BadField ∷ when (more i) BadField ∷ code_of_meaning whole s ((ap (λ (n : Names). meant_as n row (Some w)) (sym same_names) ∙ said.meant) i) ∷ []))
      ∙ or-none (line_code whole s line)

  pub row_adds : (line : Line) → Says (names_by old.resources old.tasks) w row line → with_row whole s row ≡ with_line whole s line
  unfolding with_row meaning
  row_adds line said = ap (with_meaning whole s) (ap (meant_as (names_in s) row) here ∙ ap (λ (n : Names). meant_as n row (Some w)) (sym same_names) ∙ said.meant)

  pub row_bound : (line : Line) → Says (names_by old.resources old.tasks) w row line → bound_said whole (names_in s) row ≡ bound_told line
  unfolding meaning
  row_bound line said = ap (option_and_then bound_told) (ap (meant_as (names_in s) row) here ∙ ap (λ (n : Names). meant_as n row (Some w)) (sym same_names) ∙ said.meant)

  pub row_wrong : is_group_more s w ≡ false → (code : Code) → IsWrong (names_by old.resources old.tasks) w row code → code_of whole s row ≡ Some code
  row_wrong more BadField wrong = by_word ∙ ap (λ b. first_of (when (not b) BadField ∷ when (is_group_more s w) BadField ∷ code_of_meaning whole s (meant_as (names_in s) row (Some w)) ∷ [])) wrong
  row_wrong more UnknownName wrong =
      by_word
      ∙ (λ i. first_of (when (not (wrong.counted i)) BadField ∷ when (more i) BadField ∷ code_of_meaning whole s ((ap (λ (n : Names). meant_as n row (Some w)) (sym same_names) ∙ wrong.meant) i) ∷ []))
  row_wrong more _ wrong = absurd wrong

  more_by : (a : Bool) (o : Option Code) → first_of (when a BadField ∷ when true BadField ∷ o ∷ []) ≡ Some BadField
  more_by true o = refl
  more_by false o = refl

  pub row_more : is_group_more s w ≡ true → code_of whole s row ≡ Some BadField
  row_more more =
      by_word
      ∙ ap (λ b. first_of (when (not (all_counted (fields_of w) row)) BadField ∷ when b BadField ∷ code_of_meaning whole s (meant_as (names_in s) row (Some w)) ∷ [])) more
      ∙ more_by (not (all_counted (fields_of w) row)) (code_of_meaning whole s (meant_as (names_in s) row (Some w)))

  -- a line that was taken is a record that was taken
  pub row_taken : is_group_more s w ≡ false → (line : Line) → Says (names_by old.resources old.tasks) w row line → (new : ReportReader) (what : TakenRecord)
      → (line_code whole s line ≡ None) × Knows whole new (with_line whole s line) → Adds what s (with_line whole s line)
      → (code_of whole s row ≡ None) × Knows whole new (with_row whole s row) × Adds what s (with_row whole s row)
  row_taken more line said new what took adds = (
    row_code more line said ∙ took.0,
    subst (λ (t : SoFar). Knows whole new t) (sym (row_adds line said)) took.1,
    subst (λ (t : SoFar). Adds what s t) (sym (row_adds line said)) adds,
  )

pub row_unknown : (whole : Bool) (old : ReportReader) (s : SoFar) → Knows whole old s → (row : Row) → word_in old.whole row ≡ None → code_of whole s row ≡ Some BadField
unfolding code_of
row_unknown whole old s h row none = ap (code_by whole s row) (ap (λ b. word_in b row) (sym h.kind) ∙ none)

pub change_adds : (whole : Bool) (s : SoFar) (line : Line) → is_change line ≡ true → Adds taken.Other s (with_line whole s line)
change_adds whole s line h = subst (λ (t : SoFar). Adds taken.Other s t) (sym (with_change whole s line h)) (refl, refl)

-- ---- the head, and the end

module _ (names : Names) (row : Row) where
  pub version_says : IsOf word.Version row → Says names word.Version row Opens
  version_says form = says_at names word.Version row form Opens refl refl

  pub resource_says : IsOf word.Resource row → Says names word.Resource row (HasResource (field_of row 1))
  resource_says form = says_at names word.Resource row form (HasResource (field_of row 1)) refl refl

  pub task_says : IsOf word.Task row → Says names word.Task row (HasTask (field_of row 1))
  task_says form = says_at names word.Task row form (HasTask (field_of row 1)) refl refl

  pub end_says : IsOf word.End row → Says names word.End row Ends
  end_says form = says_at names word.End row form Ends refl refl

  pub cap_says : (n : ℕ) → IsOf word.Cap row → cap_told (field_of row 1) ≡ Some n → Says names word.Cap row (HasCap n)
  cap_says n form is =
      says_at names word.Cap row form (HasCap n) (λ i. not (is_none (is i)) && true) (ap (λ o. option_map (line_by word.Cap) (paired o (Some tt))) is)

  pub cap_uncounted : IsOf word.Cap row → cap_told (field_of row 1) ≡ None → all_counted (fields_of word.Cap) row ≡ false
  cap_uncounted form none = uncounted_at names word.Cap row form (λ i. not (is_none (none i)) && true)

-- ---- events

pub alone_refused : (s : LockState) (e : Event) (cause : RequestErr) → IsTold (told.Refused cause) e → refusal_in s e ≡ Some (Request cause)
unfolding refusal_in
alone_refused s (event.Issue seat r) cause h = ap (refusal_by s (event.Issue seat r)) (h s.groups.groups)
alone_refused s (event.Finish seat) cause h = absurd h
alone_refused s (event.Rise seat) cause h = absurd h
alone_refused s (event.Ask seat part) cause h = absurd h

-- the event of a line fits where its request is in normal form
abbrev FitsLine : LockState → Line → Type 0
FitsLine s (Happens e) = IsNormalEvent e → FitsTold s e
FitsLine s _ = Unit {0}

module _ (s : LockState) (names : Names) (resources : s.groups.q ≡ length names.resources) (tasks : s.seats ≡ length names.tasks) (stamps : s.issued < 2 ^ 63) where
  below : (set : Set) → all_below (length names.resources) set ≡ true → all_below s.groups.q set ≡ true
  below set h = ap (λ q. all_below q set) resources ∙ h

  seated : (seat : ℕ) → seat < length names.tasks → seat < s.seats
  seated seat h = subst (λ n. seat < n) (sym tasks) h

  issue_fits : (kind : Kind) (seat : ℕ) (reads writes first : Set) (len later : ℕ) → seat < length names.tasks
      → all_below (length names.resources) reads ≡ true → all_below (length names.resources) writes ≡ true
      → IsNormal (normalised kind reads writes first len later) → FitsTold s (event.Issue seat (normalised kind reads writes first len later))
  issue_fits kind seat reads writes first len later there a b normal =
      let within = kind_below s.groups.q kind reads writes first len later (below reads a) (below writes b) in
      (seated seat there, within.0, within.1, normal, stamps)

  fits_line : (w : Word) (v : Values (fields_of w)) → AllGood names (fields_of w) v → FitsLine s (line_by w v)
  fits_line (word.Issue Read) v good = issue_fits Read v.0 v.1.0 empty empty v.1.1.0 0 good.0 good.1.0 (all_below_empty (length names.resources))
  fits_line (word.Issue Write) v good = issue_fits Write v.0 empty v.1.0 empty v.1.1.0 0 good.0 (all_below_empty (length names.resources)) good.1.0
  fits_line (word.Issue Mixed) v good = issue_fits Mixed v.0 v.1.0 v.1.1.0 empty v.1.1.1.0 0 good.0 good.1.0 good.1.1.0
  fits_line (word.Issue Upgrade) v good = issue_fits Upgrade v.0 v.1.0 empty empty v.1.1.0 v.1.1.1.0 good.0 good.1.0 (all_below_empty (length names.resources))
  fits_line (word.Issue Nested) v good = issue_fits Nested v.0 v.1.0 v.1.1.0 v.1.1.1.0 v.1.1.1.1.0 0 good.0 good.1.0 good.1.1.0
  fits_line word.Finish v good = λ _. seated v.0 good.0
  fits_line word.Rise v good = λ _. seated v.0 good.0
  fits_line word.Ask v good = λ _. (seated v.0 good.0, below v.1.0 good.1.0)
  fits_line word.Version v good = tt
  fits_line word.Resource v good = tt
  fits_line word.Group v good = tt
  fits_line word.Task v good = tt
  fits_line word.Cap v good = tt
  fits_line word.Show v good = tt
  fits_line (word.Add done) v good = tt
  fits_line (word.Take done) v good = tt
  fits_line (word.Put done) v good = tt
  fits_line (word.Entitled half) v good = tt
  fits_line (word.Satisfied half) v good = tt
  fits_line word.Grant v good = tt
  fits_line (word.Wait which) v good = tt
  fits_line word.Ledger v good = tt
  fits_line word.End v good = tt

pub event_fits : (whole : Bool) (old : ReportReader) (s : SoFar) → Knows whole old s → length (entries_in s) < 2 ^ 62 → (w : Word) (row : Row) (x e : Event)
    → Says (names_by old.resources old.tasks) w row (Happens x) → IsTold (told.Event e) x → FitsTold (lock_in s) e
event_fits whole old s h few w row x e said is =
    let names : Names = names_by old.resources old.tasks in
    let told = map_some (line_by w) (read names (fields_of w) row) (Happens x) said.meant in
    let issued = lock-issued (head_in s) (entries_in s) in
    let fits = fits_line (lock_in s) names (lock-resources (head_in s) (entries_in s) ∙ ap (λ xs. length xs) (sym h.resources)) (lock-tasks (head_in s) (entries_in s) ∙ ap (λ xs. length xs) (sym h.tasks)) (omega (arith, issued, few))
    w told.0 (read_good names (fields_of w) row told.0 told.1) in
    subst (λ (y : Event). IsNormalEvent y → FitsTold (lock_in s) y) is.0 (subst (λ (l : Line). FitsLine (lock_in s) l) told.2 fits) is.1

-- ---- acts

pub latest_there : (whole : Bool) (old : ReportReader) (s : SoFar) → Knows whole old s → whole ≡ true → old.last ≡ 6 → IsSome s.latest
latest_there whole old s h is six = let o = h.acts is (sym h.last ∙ six) in subst (λ (l : Option Entry). IsSome l) (sym o.is) refl

-- ---- groups

few_groups : (g : ReadGroups) → IsTrue (are_groups g) → length g.groups ≤ GROUPS
unfolding are_groups
few_groups g h =
    let a = and_parts (nat_le 1 g.q && nat_le g.q RESOURCES && nat_le (length g.groups) GROUPS) _ h in
    let b = and_parts (nat_le 1 g.q && nat_le g.q RESOURCES) (nat_le (length g.groups) GROUPS) a.0 in
    leb-true (length g.groups) GROUPS b.1

below_limit : (n : ℕ) → n ≤ GROUPS → (n == GROUPS) ≡ false → n < GROUPS
below_limit n few free = grind (arith, nat_tests)

-- there is room for one more group, where there are fewer than allowed
pub groups_room : (whole : Bool) (old : ReportReader) (s : SoFar) → Knows whole old s → (g : ReadGroups) → old.groups ≡ Some g → IsTrue (are_groups g) → (length g.groups == GROUPS) ≡ false → length s.groups < GROUPS
groups_room whole old s h g is right free = at (nat_lt s.last at_groups) (sym h.groups ∙ is) (below_limit (length g.groups) (few_groups g right) free)
  where
    at : (b : Bool) → cond b None (Some (read_groups (head_in s))) ≡ Some g → length g.groups < GROUPS → length s.groups < GROUPS
    at true e room = absurd (some_none e)
    at false e room = subst (λ (x : ReadGroups). length x.groups < GROUPS) (sym (some_is e)) room
