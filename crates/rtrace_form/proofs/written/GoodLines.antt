-- Lines that may be written: those of a head, of an accepted event, of acts and of changes.
use Rattle.std.proofs.Common.{◌≡◌, ℕ, ◌≤◌, ◌<◌, ◌^◌, Bool, true, false, cond, List, [], ◌∷◌, ◌++◌, length, map, Option, Some, None, refl, sym, ap, subst, ◌∙◌, IsTrue, ◌⊎◌, inl, inr}
use Rattle.std.specs.Prelude.{flat_map, filter_map}
use Rattle.std.specs.List.{AllByRecursion, list_all, cons_option}
use Rattle.std.specs.FinSet.{union, contains, is_subset}
use Rattle.std.proofs.lemmas.Bool.{or_cases, and_parts}
use Rattle.rset.specs.Names.{is_name}
use Rattle.rset.specs.Sets.{Set, all_below}
use Rattle.rset.specs.declared.TheConstants.{SEATS}
use Rattle.rset.proofs.SetLemmas.{all_below_at, all_below_within, all_below_union}
use Rattle.rclaim.specs.Requests.{FitsFirst, FitsLater}
use Rattle.rclaim.specs.declared.TheConstants.{LENGTH_LIMIT}
use Rattle.rclaim.specs.declared.changes.GrantChange.{GrantChange}
use Rattle.rclaim.specs.declared.changes.StatusChange.{StatusChange}
use Rattle.rclaim.specs.declared.claim.Status.{Status}
use Rattle.rclaim.specs.declared.claim.Status.TheVariants.{Waiting, Entitled, Satisfied}
use Rattle.rclaim.specs.declared.event.Event.{Event}
use Rattle.rclaim.specs.declared.event.Event.TheVariants as event
use Rattle.rclaim.specs.declared.request.Kind.{Kind}
use Rattle.rclaim.specs.declared.request.Kind.TheVariants.{Read, Write, Mixed, Upgrade, Nested}
use Rattle.rmodel.specs.Changes.{changes_between, status_change, grant_change, was_in}
use Rattle.rmodel.specs.State.{LockState}
use Rattle.rmodel.specs.StateLaws.{IsBelow}
use Rattle.rmodel.specs.Steps.{Comes}
use Rattle.rmodel.specs.declared.claimed.Claimed.{Claimed}
use Rattle.rvalue.specs.Lawful.{is_held}
use Rattle.rvalue.specs.declared.act.Act.{Act}
use Rattle.rvalue.specs.declared.act.Act.TheVariants.{Edited, Shown}
use Rattle.rvalue.specs.declared.ledger.Edit.{Edit}
use Rattle.rvalue.specs.declared.ledger.Edit.TheVariants as edit
use Rattle.rtrace_form.specs.Fields.{AllGood}
use Rattle.rtrace_form.specs.Heads.{Head, names_of, read_groups}
use Rattle.rtrace_form.specs.Words.{fields_of}
use Rattle.rtrace_form.specs.Lines.{Line, HasResource, HasGroup, HasTask, HasCap, Happens, Does, BecomesEntitled, BecomesSatisfied, IsWritable, issue_values}
use Rattle.rtrace_form.specs.Reports.{status_lines, grant_line, told_changes, head_lines}
use Rattle.rtrace_form.specs.Written.{IsTellable}
use Rattle.rtrace_form.specs.declared.word.Word.TheVariants as word
use Rattle.rtrace_form.proofs.facts.Choices.{some_is, some_none}
use Rattle.rtrace_form.proofs.written.Reaching.{held_reads, held_writes}

pub all_both : {X : Type 0} (P : X → Type 0) (xs ys : List X) → AllByRecursion P xs → AllByRecursion P ys → AllByRecursion P (xs ++ ys)
all_both P [] ys a b = b
all_both P (x ∷ xs) ys a b = (a.0, all_both P xs ys a.1 b)

all_flat : {X Y : Type 0} (P : X → Type 0) (Q : Y → Type 0) (f : X → List Y) → ((x : X) → P x → AllByRecursion Q (f x)) → (xs : List X) → AllByRecursion P xs → AllByRecursion Q (flat_map f xs)
all_flat P Q f each [] all = tt
all_flat P Q f each (x ∷ xs) all = all_both Q (f x) (flat_map f xs) (each x all.0) (all_flat P Q f each xs all.1)

all_mapped : {X Y : Type 0} (P : X → Type 0) (Q : Y → Type 0) (f : X → Y) → ((x : X) → P x → Q (f x)) → (xs : List X) → AllByRecursion P xs → AllByRecursion Q (map f xs)
all_mapped P Q f each [] all = tt
all_mapped P Q f each (x ∷ xs) all = (each x all.0, all_mapped P Q f each xs all.1)

chosen_on : {X Y : Type 0} (Q : Y → Type 0) (f : X → Option Y) (x : X) (rest : List Y) → ((y : Y) → f x ≡ Some y → Q y) → AllByRecursion Q rest → AllByRecursion Q (cons_option (f x) rest)
chosen_on {Y = Y} Q f x rest each all = at (f x) refl
  where
    at : (o : Option Y) → f x ≡ o → AllByRecursion Q (cons_option o rest)
    at None is = all
    at (Some y) is = (each y is, all)

all_chosen : {X Y : Type 0} (P : X → Type 0) (Q : Y → Type 0) (f : X → Option Y) → ((x : X) (y : Y) → P x → f x ≡ Some y → Q y) → (xs : List X) → AllByRecursion P xs → AllByRecursion Q (filter_map f xs)
all_chosen P Q f each [] all = tt
all_chosen P Q f each (x ∷ xs) all = chosen_on Q f x (filter_map f xs) (λ y is. each x y all.0 is) (all_chosen P Q f each xs all.1)

-- ---- the head

module _ (head : Head) where
  abbrev AreWritable : List Line → Type 0
  AreWritable lines = AllByRecursion (IsWritable (names_of head)) lines

  all_names : (f : List ℕ → Line) → ((name : List ℕ) → is_name name ≡ true → IsWritable (names_of head) (f name)) → (names : List (List ℕ)) → list_all is_name names ≡ true → AreWritable (map f names)
  all_names f each [] all = tt
  all_names f each (name ∷ names) all = let parts = and_parts (is_name name) (list_all is_name names) all in (each name parts.0, all_names f each names parts.1)

  pub head_good : list_all is_name head.resources ≡ true → list_all is_name head.tasks ≡ true → 1 ≤ head.cap → head.cap ≤ SEATS → AllByRecursion (λ (group : Set). IsTrue (all_below (length head.resources) group)) head.groups → AreWritable (head_lines head (Some head.cap))
  head_good resources tasks low high groups = (
    record { good = tt; normal = tt; named = tt },
    all_both (IsWritable (names_of head)) (map HasResource head.resources) (map HasGroup head.groups ++ (map HasTask head.tasks ++ HasCap head.cap ∷ [])) (all_names HasResource (λ name is. record { good = tt; normal = tt; named = is }) head.resources resources)
        (all_both (IsWritable (names_of head)) (map HasGroup head.groups) (map HasTask head.tasks ++ HasCap head.cap ∷ [])
        (all_mapped (λ (group : Set). IsTrue (all_below (length head.resources) group)) (IsWritable (names_of head)) HasGroup (λ group below. record { good = (below, tt); normal = tt; named = tt }) head.groups groups)
        (all_both (IsWritable (names_of head)) (map HasTask head.tasks) (HasCap head.cap ∷ []) (all_names HasTask (λ name is. record { good = tt; normal = tt; named = is }) head.tasks tasks)
        (record { good = ((low, high), tt); normal = tt; named = tt }, tt))),
  )

  -- ---- events

  abbrev q : ℕ
  q = length head.resources

  issue_good : (kind : Kind) (seat : ℕ) (reads writes first : Set) (len later : ℕ) → seat < length head.tasks → all_below q reads ≡ true → all_below q writes ≡ true
      → len ≤ LENGTH_LIMIT → FitsFirst kind (union reads writes) first → FitsLater kind later → AllGood (names_of head) (fields_of (word.Issue kind)) (issue_values kind seat reads writes first len later)
  issue_good Read seat reads writes first len later there a b short part late = (there, (a, (short, tt)))
  issue_good Write seat reads writes first len later there a b short part late = (there, (b, (short, tt)))
  issue_good Mixed seat reads writes first len later there a b short part late = (there, (a, (b, (short, tt))))
  issue_good Upgrade seat reads writes first len later there a b short part late = (there, (a, (short, (late, tt))))
  issue_good Nested seat reads writes first len later there a b short part late =
      let within = (and_parts _ (is_subset first (union reads writes)) part).1 in
      (there, (a, (b, (all_below_within q first (union reads writes) within (all_below_union q reads writes a b), (short, tt)))))

  pub event_good : (s : LockState) (e : Event) → s.groups.q ≡ q → s.seats ≡ length head.tasks → Comes s e → IsWritable (names_of head) (Happens e)
  event_good s (event.Issue seat r) resources tasks h = record {
    good = issue_good r.kind seat r.reads r.writes r.first r.len r.later (subst (λ n. seat < n) tasks h.fits.seat_there) (ap (λ n. all_below n r.reads) (sym resources) ∙ h.fits.reads)
        (ap (λ n. all_below n r.writes) (sym resources) ∙ h.fits.writes) h.normal.len h.normal.first h.normal.later;
    normal = h.normal;
    named = tt;
  }
  event_good s (event.Finish seat) resources tasks h = record { good = (subst (λ n. seat < n) tasks h.fits, tt); normal = tt; named = tt }
  event_good s (event.Rise seat) resources tasks h = record { good = (subst (λ n. seat < n) tasks h.fits, tt); normal = tt; named = tt }
  event_good s (event.Ask seat part) resources tasks h = record { good = (subst (λ n. seat < n) tasks h.fits.0, (ap (λ n. all_below n part) (sym resources) ∙ h.fits.1, tt)); normal = tt; named = tt }

  -- ---- acts

  -- the number of a show is one that a field may hold
  abbrev pub IsShort : Act Edit → Type 0
  IsShort (Shown place number) = number < 2 ^ 64
  IsShort (Edited place e done) = Unit {0}

  pub act_good : (reads writes : Set) → all_below q reads ≡ true → all_below q writes ≡ true → (act : Act Edit) → IsTrue (is_held reads writes act) → IsTellable act → IsShort act → IsWritable (names_of head) (Does act)
  act_good reads writes a b (Shown place number) held tellable short = record { good = (at (or_cases (contains reads place) (contains writes place) held), (short, tt)); normal = tt; named = tt }
    where
      at : (contains reads place ≡ true) ⊎ (contains writes place ≡ true) → place < q
      at (inl h) = all_below_at q reads a place h
      at (inr h) = all_below_at q writes b place h
  act_good reads writes a b (Edited place (edit.Add n) done) held tellable short = record { good = (all_below_at q writes b place held, (tellable, tt)); normal = tt; named = tt }
  act_good reads writes a b (Edited place (edit.Take n) done) held tellable short = record { good = (all_below_at q writes b place held, (tellable, tt)); normal = tt; named = tt }
  act_good reads writes a b (Edited place (edit.Set n) done) held tellable short = record { good = (all_below_at q writes b place held, (tellable, tt)); normal = tt; named = tt }

  -- ---- changes

  not_chosen : {X : Type 0} (b : Bool) (x y : X) → cond b None (Some x) ≡ Some y → x ≡ y
  not_chosen true x y h = absurd (some_none h)
  not_chosen false x y h = some_is h

  status_good : (seat : ℕ) (half : Bool) (status : Status) → seat < length head.tasks → AreWritable (status_lines seat half status)
  status_good seat half Waiting there = tt
  status_good seat half Entitled there = half_good half
    where
      half_good : (b : Bool) → AreWritable (BecomesEntitled seat b ∷ [])
      half_good true = (record { good = (there, tt); normal = tt; named = tt }, tt)
      half_good false = (record { good = (there, tt); normal = tt; named = tt }, tt)
  status_good seat half Satisfied there = half_good half
    where
      half_good : (b : Bool) → AreWritable (BecomesSatisfied seat b ∷ [])
      half_good true = (record { good = (there, tt); normal = tt; named = tt }, tt)
      half_good false = (record { good = (there, tt); normal = tt; named = tt }, tt)

  record IsGoodGrant (c : GrantChange) : Type 0 where
    pub seat : c.seat < length head.tasks
    pub reads : all_below q c.reads ≡ true
    pub writes : all_below q c.writes ≡ true

  abbrev IsGood : Claimed → Type 0
  IsGood x = (x.claim.seat < length head.tasks) × IsBelow (read_groups head) x

  both_hold : (xs : List Claimed) → AllByRecursion (λ (x : Claimed). x.claim.seat < length head.tasks) xs → AllByRecursion (IsBelow (read_groups head)) xs → AllByRecursion IsGood xs
  both_hold [] a b = tt
  both_hold (x ∷ xs) a b = ((a.0, b.0), both_hold xs a.1 b.1)

  pub changes_good : (s t : LockState) → AllByRecursion (λ (x : Claimed). x.claim.seat < length head.tasks) t.claims → AllByRecursion (IsBelow (read_groups head)) t.claims → AreWritable (told_changes (changes_between s t))
  unfolding changes_between
  changes_good s t seated below =
      let Seated = λ (x : Claimed). x.claim.seat < length head.tasks in
      let statuses = filter_map (λ (y : Claimed). status_change (was_in s.claims y.claim) y) t.claims in
      let grants = filter_map (λ (y : Claimed). grant_change (was_in s.claims y.claim) y) t.claims in
      all_both (IsWritable (names_of head)) (flat_map (λ (c : StatusChange). status_lines c.seat c.write_half c.status) statuses) (map grant_line grants)
      (all_flat (λ (c : StatusChange). c.seat < length head.tasks) (IsWritable (names_of head)) (λ (c : StatusChange). status_lines c.seat c.write_half c.status) (λ c there. status_good c.seat c.write_half c.status there) statuses
      (all_chosen Seated (λ (c : StatusChange). c.seat < length head.tasks) (λ (y : Claimed). status_change (was_in s.claims y.claim) y)
      (λ y c there is. subst (λ (d : StatusChange). d.seat < length head.tasks) (not_chosen _ _ c is) there) t.claims seated))
      (all_mapped IsGoodGrant (IsWritable (names_of head)) grant_line (λ c h. record { good = (h.seat, (all_below_union q c.reads c.writes h.reads h.writes, tt)); normal = tt; named = tt }) grants
      (all_chosen IsGood IsGoodGrant (λ (y : Claimed). grant_change (was_in s.claims y.claim) y)
      (λ y c h is. subst IsGoodGrant (not_chosen _ _ c is) (record { seat = h.0; reads = held_reads (read_groups head) y h.1; writes = held_writes (read_groups head) y h.1 })) t.claims (both_hold t.claims seated below)))
