-- A line that is spelled is read back.
use Rattle.std.proofs.Common.{◌≡◌, ℕ, Some, refl, sym, ap, ◌∙◌}
use Rattle.std.specs.Prelude.{option_map}
use Rattle.std.specs.FinSet.{union}
use Rattle.rset.specs.Sets.{Set}
use Rattle.rset.proofs.SetLemmas.{difference_of_apart}
use Rattle.rclaim.specs.Requests.{FitsKind, FitsFirst, FitsLater, IsNormal}
use Rattle.rclaim.specs.declared.request.Kind.{Kind}
use Rattle.rclaim.specs.declared.request.Kind.TheVariants.{Read, Write, Mixed, Upgrade, Nested}
use Rattle.rvalue.specs.declared.ledger.Edit.TheVariants as edit
use Rattle.rtrace_form.specs.Fields.{Names, AreTables, AllGood}
use Rattle.rtrace_form.proofs.fields.ReadBack.{read_back}
use Rattle.rscript.specs.Words.{fields_of}
use Rattle.rscript.specs.Lines.{Line, Opens, HasResource, HasGroup, HasTask, Does, Ends, line_by, word_of, values_of, request_values, meaning, meant_as, spelled}
use Rattle.rscript.specs.declared.statement.Statement.TheVariants as statement
use Rattle.rscript.specs.declared.word.ScriptWord.TheVariants as word
use Rattle.rscript.proofs.lines.WordBack.{word_back}

-- the request of a line is in normal form
abbrev pub IsNormalLine : Line → Type 0
IsNormalLine (Does (statement.Begin r)) = IsNormal r
IsNormalLine _ = Unit {0}

-- a line may be written by these names
pub record IsWritable (names : Names) (line : Line) : Type 0 where
  pub good : AllGood names (fields_of (word_of line)) (values_of line)
  pub normal : IsNormalLine line

-- the request that is read from the record of a request in normal form is that request
request_back : (kind : Kind) (reads writes first : Set) (len later : ℕ) → FitsKind kind reads writes → FitsFirst kind (union reads writes) first → FitsLater kind later
    → line_by (word.Begin kind) (request_values kind reads writes first len later)
    ≡ Does (statement.Begin (record { kind = kind; reads = reads; writes = writes; first = first; len = len; later = later }))
request_back Read reads writes first len later fits part late =
    λ i. Does (statement.Begin (record { kind = Read; reads = reads; writes = sym fits.1 i; first = sym part i; len = len; later = sym late i }))
request_back Write reads writes first len later fits part late =
    λ i. Does (statement.Begin (record { kind = Write; reads = sym fits.0 i; writes = writes; first = sym part i; len = len; later = sym late i }))
request_back Mixed reads writes first len later fits part late =
    λ i. Does (statement.Begin (record { kind = Mixed; reads = difference_of_apart reads writes fits.0 i; writes = writes; first = sym part i; len = len; later = sym late i }))
request_back Upgrade reads writes first len later fits part late =
    λ i. Does (statement.Begin (record { kind = Upgrade; reads = reads; writes = sym fits.1 i; first = sym part i; len = len; later = later }))
request_back Nested reads writes first len later fits part late =
    λ i. Does (statement.Begin (record { kind = Nested; reads = difference_of_apart reads writes fits.0 i; writes = writes; first = first; len = len; later = sym late i }))

line_back : (line : Line) → IsNormalLine line → line_by (word_of line) (values_of line) ≡ line
line_back Opens normal = refl
line_back (HasResource name) normal = refl
line_back (HasGroup group) normal = refl
line_back (HasTask name) normal = refl
line_back (Does (statement.Begin r)) normal = request_back r.kind r.reads r.writes r.first r.len r.later normal.sets normal.first normal.later
line_back (Does (statement.Edit place (edit.Add n))) normal = refl
line_back (Does (statement.Edit place (edit.Take n))) normal = refl
line_back (Does (statement.Edit place (edit.Set n))) normal = refl
line_back (Does (statement.Show place)) normal = refl
line_back (Does (statement.Ask part)) normal = refl
line_back (Does statement.Rise) normal = refl
line_back (Does statement.Finish) normal = refl
line_back Ends normal = refl

-- what is spelled of a line that may be written is read back as the same line
pub meaning_back : (names : Names) (line : Line) → AreTables names → IsWritable names line → meaning names (spelled names line) ≡ Some line
unfolding meaning
meaning_back names line tables h =
    ap (meant_as names (spelled names line)) (word_back names (word_of line) (values_of line))
    ∙ ap (option_map (line_by (word_of line))) (read_back names tables (fields_of (word_of line)) (values_of line) h.good)
    ∙ ap (λ l. Some l) (line_back line h.normal)
