-- A line that is spelled is read again.
use Rattle.std.proofs.Common.{◌≡◌, ℕ, true, Some, refl, sym, ap, ◌∙◌}
use Rattle.std.specs.Prelude.{option_map}
use Rattle.std.specs.FinSet.{union}
use Rattle.rset.specs.Sets.{Set}
use Rattle.rset.proofs.SetLemmas.{difference_of_apart}
use Rattle.rclaim.specs.Requests.{FitsKind, FitsFirst, FitsLater}
use Rattle.rclaim.specs.declared.event.Event.TheVariants.{Issue, Finish, Rise, Ask}
use Rattle.rclaim.specs.declared.request.Kind.{Kind}
use Rattle.rclaim.specs.declared.request.Kind.TheVariants.{Read, Write, Mixed, Upgrade, Nested}
use Rattle.rvalue.specs.declared.act.Act.TheVariants.{Edited, Shown}
use Rattle.rvalue.specs.declared.ledger.Edit.TheVariants as edit
use Rattle.rtrace_form.specs.Fields.{Names, AreTables}
use Rattle.rtrace_form.specs.Words.{fields_of}
use Rattle.rtrace_form.specs.Lines.{Line, Opens, HasResource, HasGroup, HasTask, HasCap, Happens, Does, BecomesEntitled, BecomesSatisfied, Grants, Waits, Leaves, Ends, line_by, word_of, values_of, issue_values, meaning, meant_as, spelled, IsNormalLine, IsWritable}
use Rattle.rtrace_form.specs.declared.word.Word.TheVariants as word
use Rattle.rtrace_form.proofs.fields.ReadBack.{read_back}
use Rattle.rtrace_form.proofs.lines.WordBack.{word_back}

-- the request in the record of a request in normal form is that request
request_back : (kind : Kind) (seat : ℕ) (reads writes first : Set) (len later : ℕ) → FitsKind kind reads writes → FitsFirst kind (union reads writes) first → FitsLater kind later
    → line_by (word.Issue kind) (issue_values kind seat reads writes first len later)
    ≡ Happens (Issue seat (record { kind = kind; reads = reads; writes = writes; first = first; len = len; later = later }))
request_back Read seat reads writes first len later fits part late =
    λ i. Happens (Issue seat (record { kind = Read; reads = reads; writes = sym fits.1 i; first = sym part i; len = len; later = sym late i }))
request_back Write seat reads writes first len later fits part late =
    λ i. Happens (Issue seat (record { kind = Write; reads = sym fits.0 i; writes = writes; first = sym part i; len = len; later = sym late i }))
request_back Mixed seat reads writes first len later fits part late =
    λ i. Happens (Issue seat (record { kind = Mixed; reads = difference_of_apart reads writes fits.0 i; writes = writes; first = sym part i; len = len; later = sym late i }))
request_back Upgrade seat reads writes first len later fits part late =
    λ i. Happens (Issue seat (record { kind = Upgrade; reads = reads; writes = sym fits.1 i; first = sym part i; len = len; later = later }))
request_back Nested seat reads writes first len later fits part late =
    λ i. Happens (Issue seat (record { kind = Nested; reads = difference_of_apart reads writes fits.0 i; writes = writes; first = first; len = len; later = sym late i }))

pub line_back : (line : Line) → IsNormalLine line → line_by (word_of line) (values_of line) ≡ line
line_back Opens normal = refl
line_back (HasResource name) normal = refl
line_back (HasGroup s) normal = refl
line_back (HasTask name) normal = refl
line_back (HasCap n) normal = refl
line_back (Happens (Issue seat r)) normal = request_back r.kind seat r.reads r.writes r.first r.len r.later normal.sets normal.first normal.later
line_back (Happens (Finish seat)) normal = refl
line_back (Happens (Rise seat)) normal = refl
line_back (Happens (Ask seat part)) normal = refl
line_back (Does (Shown place number)) normal = refl
line_back (Does (Edited place (edit.Add n) done)) normal = refl
line_back (Does (Edited place (edit.Take n) done)) normal = refl
line_back (Does (Edited place (edit.Set n) done)) normal = refl
line_back (BecomesEntitled seat write_half) normal = refl
line_back (BecomesSatisfied seat write_half) normal = refl
line_back (Grants seat s) normal = refl
line_back (Waits seat which cover bound) normal = refl
line_back (Leaves place ledger) normal = refl
line_back Ends normal = refl

-- a line that may be written is read back from its spelling
pub meaning_back : (names : Names) (line : Line) → AreTables names → IsWritable names line → meaning true names (spelled names line) ≡ Some line
unfolding meaning
meaning_back names line tables h =
    ap (meant_as names (spelled names line)) (word_back names (word_of line) (values_of line))
    ∙ ap (option_map (line_by (word_of line))) (read_back names tables (fields_of (word_of line)) (values_of line) h.good)
    ∙ ap (λ l. Some l) (line_back line h.normal)
