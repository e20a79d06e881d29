-- A line in which nothing is wrong.
use Rattle.std.proofs.Common.{◌≡◌, ℕ, ◌≤◌, Bool, true, false, ◌&&◌, ◌==◌, List, [], ◌∷◌, length, Some, None, refl, sym, ap, ◌∙◌, arith, IsTrue, nat_le}
use Rattle.std.proofs.lemmas.Bool.{leb-true, le-leb, and_from}
use Rattle.std.specs.FinSet.{empty, len}
use Rattle.csv.specs.Records.{field_at}
use Rattle.rset.specs.Sets.{Set, all_below}
use Rattle.rset.specs.declared.TheConstants.{RESOURCES, SEATS}
use Rattle.rset.proofs.SetLemmas.{all_below_empty}
use Rattle.rexpand.specs.declared.TheConstants.{GROUPS}
use Rattle.rclaim.specs.Requests.{normalised}
use Rattle.rclaim.specs.declared.TheConstants.{LENGTH_LIMIT}
use Rattle.rclaim.specs.declared.request.Kind.{Kind}
use Rattle.rclaim.specs.declared.request.Kind.TheVariants.{Read, Write, Mixed, Upgrade, Nested}
use Rattle.rvalue.specs.declared.ledger.Edit.TheVariants as edit
use Rattle.rtrace_form.specs.Records.{Row}
use Rattle.rtrace_form.specs.Decided.{field_of}
use Rattle.rtrace_form.specs.Events.{request_refusal}
use Rattle.rtrace_form.specs.Fields.{Names, Said, Fresh, Values, read, AllGood}
use Rattle.rtrace_form.specs.Heads.{is_nil, is_bad_name}
use Rattle.rtrace_form.specs.Walks.{first_of}
use Rattle.rtrace_form.proofs.facts.Choices.{some_is, some_none}
use Rattle.rtrace_form.proofs.facts.Coming.{request_right, kind_below}
use Rattle.rtrace_form.proofs.facts.Said.{last_none}
use Rattle.rtrace_form.proofs.facts.Walks.{when_not}
use Rattle.rscript.specs.Statements.{IsWithin, IsRight, is_there}
use Rattle.rscript.specs.Words.{fields_of}
use Rattle.rscript.specs.Lines.{Line, Opens, HasResource, HasGroup, HasTask, Does, Ends, names_of, line_by, word_of}
use Rattle.rscript.specs.Places.{stands}
use Rattle.rscript.specs.Causes.{line_causes}
use Rattle.rscript.specs.declared.word.ScriptWord.{ScriptWord}
use Rattle.rscript.specs.declared.word.ScriptWord.TheVariants as word
use Rattle.rscript.specs.declared.statement.Statement.TheVariants as statement
use Rattle.rscript.specs.declared.code.ScriptCode.TheVariants.{TooMany, EmptyGroup}
use Rattle.rscript.proofs.record_facts.Causes.{name_fine, statement_right}
use Rattle.rscript.specs.SoFar.{SoFar, section_of, with_line}
use Rattle.rscript.specs.Faults.{may_stand, needs_resources, is_end, declared_causes}

-- nothing is wrong with what a line declares or does
abbrev pub IsFine : SoFar → Line → Type 0
IsFine s Opens = Unit {0}
IsFine s (HasResource name) = is_bad_name RESOURCES s.resources name ≡ false
IsFine s (HasGroup group) = ((length s.groups == GROUPS) ≡ false) × ((len group == 0) ≡ false) × IsTrue (all_below (length s.resources) group)
IsFine s (HasTask name) = is_bad_name SEATS s.tasks name ≡ false
IsFine s (Does done) = IsWithin (length s.resources) done × IsRight s.groups (section_of s.latest) done
IsFine s Ends = Unit {0}

-- a line may come next
pub record IsNext (s : SoFar) (line : Line) : Type 0 where
  pub placed : may_stand s (word_of line) ≡ true
  pub resources : (needs_resources (word_of line) && is_nil s.resources) ≡ false
  pub task : (is_end (word_of line) && is_nil s.tasks) ≡ false
  pub fine : IsFine s line

-- each of these lines may come next
abbrev pub AllNext : SoFar → List Line → Type 0
AllNext s [] = Unit {0}
AllNext s (line ∷ lines) = IsNext s line × AllNext (with_line s line) lines

three_hold : (a b c : Bool) → (a && b && c) ≡ true → (a ≡ true) × (b ≡ true) × (c ≡ true)
three_hold true true true h = (refl, refl, refl)
three_hold true true false h = absurd (some_false h)
  where
    some_false : {X : Type 0} → false ≡ true → X
    some_false e = cc
three_hold true false c h = cc
three_hold false b c h = cc

-- the place of a line that may come there
pub placed_at : (s : SoFar) (w : ScriptWord) → may_stand s w ≡ true → ((stands w).least ≤ s.last) × (s.last ≤ (stands w).most) × (is_there (stands w).inside (section_of s.latest) ≡ true)
placed_at s w h =
    let parts = three_hold (nat_le (stands w).least s.last) (nat_le s.last (stands w).most) _ h in
    (leb-true (stands w).least s.last parts.0, leb-true s.last (stands w).most parts.1, parts.2)

pub stands_there : (s : SoFar) (w : ScriptWord) → (stands w).least ≤ s.last → s.last ≤ (stands w).most → is_there (stands w).inside (section_of s.latest) ≡ true → may_stand s w ≡ true
stands_there s w low high inside =
    and_from _ _ (and_from _ _ (le-leb (stands w).least s.last low) (le-leb s.last (stands w).most high)) inside

-- ---- a record of a name

pub fresh_is : (names : Names) (text : List ℕ) (row : Row) (v : Values (Said text ∷ Fresh ∷ [])) → read names (Said text ∷ Fresh ∷ []) row ≡ Some v → field_of row 1 ≡ v.0
unfolding read field_at
fresh_is names text [] v h = absurd (some_none h)
fresh_is names text (a ∷ []) v h = absurd (some_none h)
fresh_is names text (a ∷ x ∷ []) v h = ap (λ (q : List ℕ × Unit {0}). q.0) (some_is h)
fresh_is names text (a ∷ x ∷ y ∷ row) v h = absurd (some_none h)

-- ---- what is read without a fault is fine

module _ (s : SoFar) where
  begin_fine : (kind : Kind) (reads writes first : Set) (n later : ℕ) → all_below (length s.resources) reads ≡ true → all_below (length s.resources) writes ≡ true
      → all_below (length s.resources) (normalised kind reads writes first n later).first ≡ true → n ≤ LENGTH_LIMIT → later ≤ LENGTH_LIMIT
      → first_of (line_causes s.groups (section_of s.latest) (Does (statement.Begin (normalised kind reads writes first n later)))) ≡ None
      → IsFine s (Does (statement.Begin (normalised kind reads writes first n later)))
  begin_fine kind reads writes first n later a b c short late h =
      let free : request_refusal s.groups (normalised kind reads writes first n later) ≡ None = statement_right s.groups (section_of s.latest) (statement.Begin (normalised kind reads writes first n later)) h in
      let right = request_right s.groups kind reads writes first n later free short late in
      let below = kind_below (length s.resources) kind reads writes first n later a b in
      ((right.0, below.0, below.1, c), free)

  pub fine_by : (row : Row) (w : ScriptWord) (v : Values (fields_of w)) → read (names_of s.resources) (fields_of w) row ≡ Some v → AllGood (names_of s.resources) (fields_of w) v
      → first_of (declared_causes s w row) ≡ None → first_of (line_causes s.groups (section_of s.latest) (line_by w v)) ≡ None → IsFine s (line_by w v)
  fine_by row word.Version v reads good declared line = tt
  fine_by row word.Resource v reads good declared line =
      ap (is_bad_name RESOURCES s.resources) (sym (fresh_is (names_of s.resources) _ row v reads)) ∙ name_fine RESOURCES s.resources (field_of row 1) declared
  fine_by row word.Group v reads good declared line =
      (when_not (length s.groups == GROUPS) TooMany (last_none _ declared), when_not (len v.0 == 0) EmptyGroup (last_none _ line), good.0)
  fine_by row word.Task v reads good declared line =
      ap (is_bad_name SEATS s.tasks) (sym (fresh_is (names_of s.resources) _ row v reads)) ∙ name_fine SEATS s.tasks (field_of row 1) declared
  fine_by row (word.Begin Read) v reads good declared line =
      begin_fine Read v.0 empty empty v.1.0 0 good.0 (all_below_empty (length s.resources)) (all_below_empty (length s.resources)) good.1.0 (omega arith) line
  fine_by row (word.Begin Write) v reads good declared line =
      begin_fine Write empty v.0 empty v.1.0 0 (all_below_empty (length s.resources)) good.0 (all_below_empty (length s.resources)) good.1.0 (omega arith) line
  fine_by row (word.Begin Mixed) v reads good declared line =
      begin_fine Mixed v.0 v.1.0 empty v.1.1.0 0 good.0 good.1.0 (all_below_empty (length s.resources)) good.1.1.0 (omega arith) line
  fine_by row (word.Begin Upgrade) v reads good declared line =
      begin_fine Upgrade v.0 empty empty v.1.0 v.1.1.0 good.0 (all_below_empty (length s.resources)) (all_below_empty (length s.resources)) good.1.0 good.1.1.0 line
  fine_by row (word.Begin Nested) v reads good declared line =
      begin_fine Nested v.0 v.1.0 v.1.1.0 v.1.1.1.0 0 good.0 good.1.0 good.1.1.0 good.1.1.1.0 (omega arith) line
  fine_by row word.Show v reads good declared line = (good.0, statement_right s.groups (section_of s.latest) (statement.Show v.0) line)
  fine_by row word.Add v reads good declared line = ((good.0, good.1.0), statement_right s.groups (section_of s.latest) (statement.Edit v.0 (edit.Add v.1.0)) line)
  fine_by row word.Take v reads good declared line = ((good.0, good.1.0), statement_right s.groups (section_of s.latest) (statement.Edit v.0 (edit.Take v.1.0)) line)
  fine_by row word.Put v reads good declared line = ((good.0, good.1.0), statement_right s.groups (section_of s.latest) (statement.Edit v.0 (edit.Set v.1.0)) line)
  fine_by row word.Ask v reads good declared line = (good.0, statement_right s.groups (section_of s.latest) (statement.Ask v.0) line)
  fine_by row word.Rise v reads good declared line = (tt, tt)
  fine_by row word.Finish v reads good declared line = (tt, tt)
  fine_by row word.End v reads good declared line = tt
