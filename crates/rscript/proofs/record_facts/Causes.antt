-- Causes, none of which holds.
use Rattle.std.proofs.Common.{◌≡◌, ℕ, Bool, true, false, not, ◌||◌, ◌==◌, List, [], ◌∷◌, ◌++◌, length, Option, Some, None, refl, sym, ap, ◌∙◌}
use Rattle.std.specs.Prelude.{option_map}
use Rattle.rset.specs.Names.{is_name, knows}
use Rattle.rset.specs.Sets.{Set}
use Rattle.rclaim.specs.Requests.{RequestFields, IsNormal}
use Rattle.rclaim.specs.declared.request.RequestErr.{RequestErr}
use Rattle.rclaim.specs.declared.request.RequestErr.TheVariants.{Undeclared}
use Rattle.rmodel.specs.Claims.{is_admitted}
use Rattle.rtrace_form.specs.Heads.{is_bad_name}
use Rattle.rtrace_form.specs.Events.{request_refusal}
use Rattle.rtrace_form.specs.Walks.{when, or_else, first_of}
use Rattle.rtrace_form.proofs.facts.Tests.{three_of, not_false}
use Rattle.rtrace_form.proofs.facts.Walks.{when_not, or_none}
use Rattle.rtrace_form.proofs.facts.Said.{last_none}
use Rattle.rtrace_form.proofs.facts.Coming.{map_none, some_set, fitting_first}
use Rattle.rscript.specs.declared.section.OpenSection.{OpenSection}
use Rattle.rscript.specs.Statements.{is_held, is_writable, may_ask_for, IsRight}
use Rattle.rscript.specs.Causes.{name_causes, statement_causes, request_code}
use Rattle.rscript.specs.declared.statement.Statement.{Statement}
use Rattle.rscript.specs.declared.statement.Statement.TheVariants as statement
use Rattle.rscript.specs.declared.code.ScriptCode.TheVariants.{BadName, Repeated, TooMany, NotHeld, NotWritable}

-- the first cause in two lists is that of the first list, or else that of the second
pub first_of-append : {X : Type 0} (xs ys : List (Option X)) → first_of (xs ++ ys) ≡ or_else (first_of xs) (first_of ys)
first_of-append [] ys = refl
first_of-append (None ∷ xs) ys = first_of-append xs ys
first_of-append (Some x ∷ xs) ys = refl

pub none_of_both : {X : Type 0} (xs ys : List (Option X)) → first_of (xs ++ ys) ≡ None → (first_of xs ≡ None) × (first_of ys ≡ None)
none_of_both xs ys h = or_none (first_of xs) (first_of ys) (sym (first_of-append xs ys) ∙ h)

-- nothing is wrong with a name exactly where the table takes it
pub name_fine : (limit : ℕ) (names : List (List ℕ)) (name : List ℕ) → first_of (name_causes limit names name) ≡ None → is_bad_name limit names name ≡ false
name_fine limit names name h =
    let a = or_none (when (not (is_name name)) BadName) _ h in
    let b = or_none (when (knows names name) Repeated) _ a.1 in
    let named = when_not (not (is_name name)) BadName a.0 in
    let new = when_not (knows names name) Repeated b.0 in
    let room = when_not (length names == limit) TooMany (last_none _ b.1) in
    rw (named, new, room) refl

pub name_none : (limit : ℕ) (names : List (List ℕ)) (name : List ℕ) → is_bad_name limit names name ≡ false → first_of (name_causes limit names name) ≡ None
name_none limit names name h =
    let parts = three_of (not (is_name name)) (knows names name) (length names == limit) h in
    rw (parts.0, parts.1, parts.2) refl

-- what is writable is held
pub writable_held : (section : Option OpenSection) (place : ℕ) → is_writable section place ≡ true → is_held section place ≡ true
writable_held section place h = rw h (or_true _)
  where
    or_true : (b : Bool) → (b || true) ≡ true
    or_true true = refl
    or_true false = refl

two_none : (a b : Bool) → a ≡ true → b ≡ true → first_of (when (not a) NotHeld ∷ when (not b) NotWritable ∷ []) ≡ None
two_none a b p q = rw (p, q) refl

one_none : (a : Bool) → a ≡ true → first_of (when (not a) NotHeld ∷ []) ≡ None
one_none a p = rw p refl

one_held : (a : Bool) → first_of (when (not a) NotHeld ∷ []) ≡ None → a ≡ true
one_held a h = not_false a (when_not (not a) NotHeld (last_none _ h))

-- nothing is wrong with a statement exactly where it is right
pub statement_right : (groups : List Set) (section : Option OpenSection) (s : Statement) → first_of (statement_causes groups section s) ≡ None → IsRight groups section s
statement_right groups section (statement.Begin r) h = map_none request_code (request_refusal groups r) (last_none _ h)
statement_right groups section (statement.Edit place edit) h =
    let a = or_none (when (not (is_held section place)) NotHeld) _ h in
    not_false (is_writable section place) (when_not (not (is_writable section place)) NotWritable (last_none _ a.1))
statement_right groups section (statement.Show place) h = one_held (is_held section place) h
statement_right groups section (statement.Ask part) h = one_held (may_ask_for section part) h
statement_right groups section statement.Rise h = tt
statement_right groups section statement.Finish h = tt

pub statement_none : (groups : List Set) (section : Option OpenSection) (s : Statement) → IsRight groups section s → first_of (statement_causes groups section s) ≡ None
statement_none groups section (statement.Begin r) h = ap (λ (o : Option RequestErr). first_of (option_map request_code o ∷ [])) h
statement_none groups section (statement.Edit place edit) h = two_none (is_held section place) (is_writable section place) (writable_held section place h) h
statement_none groups section (statement.Show place) h = one_none (is_held section place) h
statement_none groups section (statement.Ask part) h = one_none (may_ask_for section part) h
statement_none groups section statement.Rise h = refl
statement_none groups section statement.Finish h = refl

-- a request in normal form that is not admitted is undeclared
pub undeclared : (groups : List Set) (r : RequestFields) → IsNormal r → is_admitted groups r ≡ false → request_refusal groups r ≡ Some Undeclared
undeclared groups r normal admitted =
    let some = some_set r.kind r.reads r.writes normal.sets in
    let part = fitting_first r.kind r.reads r.writes r.first normal.first in
    rw (some, part, admitted) refl
