-- What the statements of a task need, gathered one after another.
use Rattle.std.proofs.Common.{◌≡◌, ◌≤◌, ◌<◌, ◌+◌, ℕ, zero, suc, true, List, [], ◌∷◌, ◌++◌, length, map, take, fold, get_or, set, Option, Some, None, refl, sym, ap, subst, ◌∙◌, arith, append_assoc}
use Rattle.std.specs.Prelude.{slice_get}
use Rattle.std.proofs.lemmas.List.{append-nil, take_more, take_all, set-get_or, get_or-set_same}
use Rattle.rset.specs.Sets.{Set}
use Rattle.rclaim.specs.Requests.{RequestFields}
use Rattle.rmodel.specs.Claims.{is_nested}
use Rattle.rvalue.specs.InTurn.{AllInTurn}
use Rattle.rtrace_form.proofs.facts.Choices.{some_is, some_none}
use Rattle.rbound.specs.Needs.{Needs, RequestNeeds}
use Rattle.rbound.specs.TaskNeeds.{TaskNeeds, with_request, with_ask, with_last_ask, last_is_nested, requests_of, none_needed}
use Rattle.rscript.specs.Statements.{FitsBehind, IsTask, section_next, section_after, is_there}
use Rattle.rscript.specs.declared.place.Where.TheVariants.{InNested}
use Rattle.rscript.specs.declared.section.OpenSection.{OpenSection}
use Rattle.rscript.specs.declared.statement.Statement.{Statement}
use Rattle.rscript.specs.declared.statement.Statement.TheVariants as statement
use Rattle.rscript.specs.Scripts.{ScriptFields, IsScript}
use Rattle.rscript.specs.Needs.{asks_in, requests_in, needs_of, none_yet, with_statement, GoesOn}
use Rattle.rscript.proofs.Tasks.{task_at}

-- ---- one task

-- what a task needs where it goes on with a statement
abbrev with_next : List RequestNeeds → Statement → List RequestNeeds
with_next ns (statement.Begin r) = ns ++ record { request = r; asks = [] } ∷ []
with_next ns (statement.Edit place edit) = ns
with_next ns (statement.Show place) = ns
with_next ns (statement.Ask part) = with_last_ask ns part
with_next ns statement.Rise = ns
with_next ns statement.Finish = ns

one_asks : (ns : List RequestNeeds) (r : RequestFields) (asks : List Set) (part : Set) → with_last_ask (ns ++ record { request = r; asks = asks } ∷ []) part ≡ ns ++ record { request = r; asks = asks ++ part ∷ [] } ∷ []
one_asks [] r asks part = refl
one_asks (n ∷ []) r asks part = refl
one_asks (n ∷ m ∷ ns) r asks part = ap (λ us. n ∷ us) (one_asks (m ∷ ns) r asks part)

last_asks : (ns : List RequestNeeds) (r : RequestFields) (asks parts : List Set)
    → fold with_last_ask (ns ++ record { request = r; asks = asks } ∷ []) parts ≡ ns ++ record { request = r; asks = asks ++ parts } ∷ []
last_asks ns r asks [] = ap (λ all. ns ++ record { request = r; asks = all } ∷ []) (sym (append-nil asks))
last_asks ns r asks (part ∷ parts) =
    ap (λ us. fold with_last_ask us parts) (one_asks ns r asks part)
    ∙ last_asks ns r (asks ++ part ∷ []) parts
    ∙ ap (λ all. ns ++ record { request = r; asks = all } ∷ []) (append_assoc asks (part ∷ []) parts)

gathered : (ns : List RequestNeeds) (ss : List Statement) → fold with_next ns ss ≡ fold with_last_ask ns (asks_in ss) ++ requests_in ss
gathered ns [] = sym (append-nil ns)
gathered ns (statement.Begin r ∷ ss) =
    gathered (ns ++ record { request = r; asks = [] } ∷ []) ss
    ∙ ap (λ us. us ++ requests_in ss) (last_asks ns r [] (asks_in ss))
    ∙ append_assoc ns (record { request = r; asks = asks_in ss } ∷ []) (requests_in ss)
gathered ns (statement.Edit place edit ∷ ss) = gathered ns ss
gathered ns (statement.Show place ∷ ss) = gathered ns ss
gathered ns (statement.Ask part ∷ ss) = gathered (with_last_ask ns part) ss
gathered ns (statement.Rise ∷ ss) = gathered ns ss
gathered ns (statement.Finish ∷ ss) = gathered ns ss

none_asks : (parts : List Set) → fold with_last_ask [] parts ≡ []
none_asks [] = refl
none_asks (part ∷ parts) = none_asks parts

in_turn : (ss : List Statement) → fold with_next [] ss ≡ requests_in ss
in_turn ss = gathered [] ss ∙ ap (λ us. us ++ requests_in ss) (none_asks (asks_in ss))

fold_push : {X Y : Type 0} (f : Y → X → Y) (y : Y) (xs : List X) (x : X) → fold f y (xs ++ x ∷ []) ≡ f (fold f y xs) x
fold_push f y [] x = refl
fold_push f y (z ∷ xs) x = fold_push f (f y z) xs x

requests_more : (ss : List Statement) (s : Statement) → requests_in (ss ++ s ∷ []) ≡ with_next (requests_in ss) s
requests_more ss s = sym (in_turn (ss ++ s ∷ [])) ∙ fold_push with_next [] ss s ∙ ap (λ ns. with_next ns s) (in_turn ss)

-- ---- asks belong to the nested request of the section that is open

-- the last request is that of the open section
abbrev IsOpen : Option OpenSection → List RequestNeeds → Type 0
IsOpen None ns = Unit {0}
IsOpen (Some s) ns = last_is_nested ns ≡ is_nested s.request.kind

last_pushed : (ns : List RequestNeeds) (n : RequestNeeds) → last_is_nested (ns ++ n ∷ []) ≡ is_nested n.request.kind
last_pushed [] n = refl
last_pushed (m ∷ []) n = refl
last_pushed (m ∷ k ∷ ns) n = last_pushed (k ∷ ns) n

last_asked : (ns : List RequestNeeds) (part : Set) → last_is_nested (with_last_ask ns part) ≡ last_is_nested ns
last_asked [] part = refl
last_asked (n ∷ []) part = refl
last_asked (n ∷ m ∷ []) part = refl
last_asked (n ∷ m ∷ k ∷ ns) part = last_asked (m ∷ k ∷ ns) part

stays_open : (section : Option OpenSection) (ns : List RequestNeeds) (s : Statement) → IsOpen section ns → IsOpen (section_next section s) (with_next ns s)
stays_open section ns (statement.Begin r) h = last_pushed ns (record { request = r; asks = [] })
stays_open section ns (statement.Edit place edit) h = h
stays_open section ns (statement.Show place) h = h
stays_open None ns (statement.Ask part) h = tt
stays_open (Some o) ns (statement.Ask part) h = last_asked ns part ∙ h
stays_open None ns statement.Rise h = tt
stays_open (Some o) ns statement.Rise h = h
stays_open section ns statement.Finish h = tt

open_after : (section : Option OpenSection) (ns : List RequestNeeds) (ss : List Statement) → IsOpen section ns → IsOpen (fold section_next section ss) (fold with_next ns ss)
open_after section ns [] h = h
open_after section ns (s ∷ ss) h = open_after (section_next section s) (with_next ns s) ss (stays_open section ns s h)

-- ---- one task of several

request_put : (ts : Needs) (t : ℕ) (ns : List RequestNeeds) (r : RequestFields) → t < length ts → with_request (set ts t ns) t r ≡ set ts t (ns ++ record { request = r; asks = [] } ∷ [])
request_put [] t ns r h = absurd (omega arith)
request_put (x ∷ ts) zero ns r h = refl
request_put (x ∷ ts) (suc t) ns r h = ap (λ us. x ∷ us) (request_put ts t ns r (omega arith))

ask_put : (ts : Needs) (t : ℕ) (ns : List RequestNeeds) (part : Set) → t < length ts → with_ask (set ts t ns) t part ≡ set ts t (with_last_ask ns part)
ask_put [] t ns part h = absurd (omega arith)
ask_put (x ∷ ts) zero ns part h = refl
ask_put (x ∷ ts) (suc t) ns part h = ap (λ us. x ∷ us) (ask_put ts t ns part (omega arith))

statement_put : (ts : Needs) (t : ℕ) (ns : List RequestNeeds) (s : Statement) → t < length ts → with_statement (set ts t ns) t s ≡ set ts t (with_next ns s)
statement_put ts t ns (statement.Begin r) h = request_put ts t ns r h
statement_put ts t ns (statement.Edit place edit) h = refl
statement_put ts t ns (statement.Show place) h = refl
statement_put ts t ns (statement.Ask part) h = ask_put ts t ns part h
statement_put ts t ns statement.Rise h = refl
statement_put ts t ns statement.Finish h = refl

-- for the task, just what its first statements need was added to what was needed at first
pub record HasPut (first now : TaskNeeds) (task : ℕ) (ss : List Statement) (i : ℕ) : Type 0 where
  pub is : now ≡ record first { tasks = set first.tasks task (requests_in (take i ss)) }

pub puts_none : (first : TaskNeeds) (task : ℕ) (ss : List Statement) → requests_of first.tasks task ≡ [] → HasPut first first task ss 0
puts_none first task ss none = record { is = λ k. record first { tasks = (sym (set-get_or first.tasks task []) ∙ ap (set first.tasks task) none) k } }

pub puts_more : (first now then : TaskNeeds) (task : ℕ) (ss : List Statement) (i : ℕ) (s : Statement) → i < length ss → s ≡ get_or ss i s → task < length first.tasks
    → HasPut first now task ss i → then ≡ record now { tasks = with_statement now.tasks task s } → HasPut first then task ss (i + 1)
puts_more first now then task ss i s less at within so is = record {
  is =
      is
      ∙ ap (λ (n : TaskNeeds). record n { tasks = with_statement n.tasks task s }) so.is
      ∙ ap (λ (ts : Needs). record first { tasks = ts })
      (statement_put first.tasks task (requests_in (take i ss)) s within
      ∙ ap (set first.tasks task) (sym (requests_more (take i ss) s) ∙ ap requests_in (ap (λ x. take i ss ++ x ∷ []) at ∙ sym (take_more ss i s less))));
}

pub puts_all : (first now : TaskNeeds) (task : ℕ) (ss : List Statement) (i : ℕ) → length ss ≤ i → HasPut first now task ss i → now ≡ record first { tasks = set first.tasks task (requests_in ss) }
puts_all first now task ss i all so = so.is ∙ ap (λ xs. record first { tasks = set first.tasks task (requests_in xs) }) (take_all i ss all)

-- ---- a statement of a task may come after those before it

fits_at : (q : ℕ) (groups : List Set) (earlier ss : List Statement) (i : ℕ) (d : Statement) → AllInTurn (FitsBehind q groups) earlier ss → i < length ss → FitsBehind q groups (earlier ++ take i ss) (get_or ss i d)
fits_at q groups earlier [] i d all h = absurd (omega arith)
fits_at q groups earlier (s ∷ ss) zero d all h = subst (λ (before : List Statement). FitsBehind q groups before s) (sym (append-nil earlier)) all.0
fits_at q groups earlier (s ∷ ss) (suc i) d all h =
    subst (λ (before : List Statement). FitsBehind q groups before (get_or ss i d)) (append_assoc earlier (s ∷ []) (take i ss)) (fits_at q groups (earlier ++ s ∷ []) ss i d all.1 (omega arith))

nested_there : (section : Option OpenSection) (ns : List RequestNeeds) → IsOpen section ns → is_there InNested section ≡ true → last_is_nested ns ≡ true
nested_there None ns h there = cc
nested_there (Some o) ns h there = h ∙ there

fitting : (q : ℕ) (groups : List Set) (before : List Statement) (s : Statement) → FitsBehind q groups before s → GoesOn q (requests_in before) s
fitting q groups before (statement.Begin r) h = (h.within.1, h.within.2)
fitting q groups before (statement.Edit place edit) h = tt
fitting q groups before (statement.Show place) h = tt
fitting q groups before (statement.Ask part) h =
    nested_there (section_after before) (requests_in before) (subst (λ (ns : List RequestNeeds). IsOpen (section_after before) ns) (in_turn before) (open_after None [] before tt)) h.placed
fitting q groups before statement.Rise h = tt
fitting q groups before statement.Finish h = tt

pub goes_on : (first now : TaskNeeds) (task : ℕ) (ss : List Statement) (i : ℕ) (s : Statement) → i < length ss → s ≡ get_or ss i s → task < length first.tasks
    → IsTask first.groups.q first.groups.groups ss → HasPut first now task ss i → GoesOn now.groups.q (requests_of now.tasks task) s
goes_on first now task ss i s less at within are so =
    subst (λ (n : TaskNeeds). GoesOn n.groups.q (requests_of n.tasks task) s) (sym so.is)
    (subst (λ (ns : List RequestNeeds). GoesOn first.groups.q ns s) (sym (get_or-set_same first.tasks task (requests_in (take i ss)) [] within))
    (subst (λ (x : Statement). GoesOn first.groups.q (requests_in (take i ss)) x) (sym at)
    (fitting first.groups.q first.groups.groups (take i ss) (get_or ss i s) (fits_at first.groups.q first.groups.groups [] ss i s are.turns less))))

-- ---- all tasks

-- what the first tasks need, and the others nothing yet
abbrev pub filled : ℕ → List (List Statement) → Needs
filled i [] = []
filled zero (ss ∷ steps) = [] ∷ filled zero steps
filled (suc i) (ss ∷ steps) = requests_in ss ∷ filled i steps

filled_none : (steps : List (List Statement)) → filled 0 steps ≡ none_needed (length steps)
filled_none [] = refl
filled_none (ss ∷ steps) = ap (λ ns. [] ∷ ns) (filled_none steps)

filled_more : (i : ℕ) (steps : List (List Statement)) (ss : List Statement) → slice_get steps i ≡ Some ss → set (filled i steps) i (requests_in ss) ≡ filled (suc i) steps
filled_more i [] ss at = absurd (some_none at)
filled_more zero (s ∷ steps) ss at = ap (λ (x : List Statement). requests_in x ∷ filled 0 steps) (sym (some_is at))
filled_more (suc i) (s ∷ steps) ss at = ap (λ ns. requests_in s ∷ ns) (filled_more i steps ss at)

filled_all : (steps : List (List Statement)) → filled (length steps) steps ≡ map requests_in steps
filled_all [] = refl
filled_all (ss ∷ steps) = ap (λ ns. requests_in ss ∷ ns) (filled_all steps)

length_filled : (i : ℕ) (steps : List (List Statement)) → length (filled i steps) ≡ length steps
length_filled i [] = refl
length_filled zero (ss ∷ steps) = ap suc (length_filled zero steps)
length_filled (suc i) (ss ∷ steps) = ap suc (length_filled i steps)

filled_later : (i : ℕ) (steps : List (List Statement)) → requests_of (filled i steps) i ≡ []
filled_later i [] = refl
filled_later zero (ss ∷ steps) = refl
filled_later (suc i) (ss ∷ steps) = filled_later i steps

-- what the first tasks of a script need was added
pub record HasFilled (now : TaskNeeds) (p : ScriptFields) (i : ℕ) : Type 0 where
  pub is : now ≡ record (needs_of p) { tasks = filled i p.steps }

pub fills_none : (now : TaskNeeds) (p : ScriptFields) → IsScript p → now ≡ none_yet p → HasFilled now p 0
fills_none now p h is = record { is = is ∙ ap (λ (ts : Needs). record (needs_of p) { tasks = ts }) (ap none_needed (sym h.paired) ∙ sym (filled_none p.steps)) }

pub fills_more : (now then : TaskNeeds) (p : ScriptFields) (i : ℕ) (ss : List Statement) → slice_get p.steps i ≡ Some ss → HasFilled now p i → then ≡ record now { tasks = set now.tasks i (requests_in ss) } → HasFilled then p (i + 1)
fills_more now then p i ss at so is =
    let next : suc i ≡ i + 1 = omega arith in
    record {
      is =
          is
          ∙ ap (λ (n : TaskNeeds). record n { tasks = set n.tasks i (requests_in ss) }) so.is
          ∙ ap (λ (ts : Needs). record (needs_of p) { tasks = ts }) (filled_more i p.steps ss at ∙ ap (λ k. filled k p.steps) next);
    }

pub fills_all : (now : TaskNeeds) (p : ScriptFields) (i : ℕ) → IsScript p → i ≡ length p.tasks → HasFilled now p i → now ≡ needs_of p
fills_all now p i h all so = so.is ∙ ap (λ (ts : Needs). record (needs_of p) { tasks = ts }) (ap (λ k. filled k p.steps) (all ∙ sym h.paired) ∙ filled_all p.steps)

pub is_next : (now : TaskNeeds) (p : ScriptFields) (i : ℕ) → HasFilled now p i → requests_of now.tasks i ≡ []
is_next now p i so = ap (λ (n : TaskNeeds). requests_of n.tasks i) so.is ∙ filled_later i p.steps

pub is_there_yet : (now : TaskNeeds) (p : ScriptFields) (i : ℕ) → IsScript p → i < length p.tasks → HasFilled now p i → i < length now.tasks
is_there_yet now p i h less so = subst (λ (n : TaskNeeds). i < length n.tasks) (sym so.is) (omega (arith, length_filled i p.steps, h.paired))

pub are_of_task : (now : TaskNeeds) (p : ScriptFields) (i : ℕ) (ss : List Statement) → IsScript p → slice_get p.steps i ≡ Some ss → HasFilled now p i → IsTask now.groups.q now.groups.groups ss
are_of_task now p i ss h at so = subst (λ (n : TaskNeeds). IsTask n.groups.q n.groups.groups ss) (sym so.is) (task_at p i ss h at)
