-- The records of a text are those that it was written of.
use Rattle.std.proofs.Common.{◌≡◌, ℕ, true, false, cond, List, [], ◌∷◌, ◌++◌, map, Some, refl, sym, ap, subst, ◌∙◌, true≢false}
use Rattle.std.specs.Prelude.{flat_map}
use Rattle.std.specs.List.{AllByRecursion}
use Rattle.csv.specs.Machine.{next_record}
use Rattle.csv.specs.Reading.{AreRecords, Reached, default_config, strip_bom}
use Rattle.csv.specs.Writing.{default_writer, is_blank, field_text, fields_text, row_text, quoted, read_back}
use Rattle.csv.specs.declared.parser.State.TheVariants as st
use Rattle.csv.proofs.RoundTrip.{read-write}
use Rattle.rtrace_form.specs.Records.{Row}
use Rattle.rtrace_form.specs.Fields.{Names, AreTables, write}
use Rattle.rtrace_form.specs.Heads.{names_of}
use Rattle.rtrace_form.specs.Lines.{Line, IsWritable, spelled, word_of, values_of}
use Rattle.rtrace_form.specs.Waits.{bound_in}
use Rattle.rtrace_form.specs.Reports.{Report, lines_of}
use Rattle.rtrace_form.specs.Written.{MayBeWritten, report_rows}
use Rattle.rtrace_form.specs.Texts.{behind_comma, line_text, text_of, report_text, IsTextOf}
use Rattle.rtrace_form.proofs.texts.Plain.{IsPlain, spelled_plain, not_blank}
use Rattle.rtrace_form.proofs.written.GoodEntries.{lines_writable, written_spells}

pub record IsPlainRow (row : Row) : Type 0 where
  pub plain : AllByRecursion IsPlain row
  pub shown : is_blank default_writer row ≡ false

field_back : (field : List ℕ) → IsPlain field → field_text default_writer field ≡ field
field_back field plain = ap (λ b. cond b (quoted default_writer field) field) plain

fields_back : (fields : Row) → AllByRecursion IsPlain fields → fields_text default_writer fields ≡ flat_map behind_comma fields
unfolding fields_text
fields_back [] plain = refl
fields_back (field ∷ fields) plain = λ i. 44 ∷ (field_back field plain.0 i ++ fields_back fields plain.1 i)

row_back : (row : Row) → IsPlainRow row → (row_text default_writer row ≡ line_text row) × (read_back row ≡ row)
unfolding is_blank
row_back [] h = absurd (true≢false h.shown)
row_back (field ∷ fields) h =
    ((λ i. (field_back field h.plain.0 i ++ fields_back fields h.plain.1 i) ++ (cond (h.shown i) (34 ∷ 34 ∷ []) [] ++ 10 ∷ [])), refl)

-- the text of plain records is read back as these
pub records_back : (rows : List Row) → AllByRecursion IsPlainRow rows → AreRecords default_config st.StartRecord (text_of rows) rows
unfolding Reached next_record
records_back [] plain = (st.StartRecord, [], (refl, refl), refl)
records_back (row ∷ rows) plain =
    let back = row_back row plain.0 in
    let rest = records_back rows plain.1 in
    let read : next_record default_config st.StartRecord [] [] (line_text row ++ text_of rows) ≡ Some (row, st.StartRecord, text_of rows) =
    ap (λ (text : List ℕ). next_record default_config st.StartRecord [] [] (text ++ text_of rows)) (sym back.0)
    ∙ read-write row (text_of rows) ∙ ap (λ (r : Row). Some (r, st.StartRecord, text_of rows)) back.1 in
    (rest.0, rest.1, ((row, st.StartRecord, text_of rows), read, refl, rest.2), rest.3)

-- what is spelled of lines that may be written is plain
pub rows_plain : (names : Names) → AreTables names → (lines : List Line) → AllByRecursion (IsWritable names) lines → AllByRecursion IsPlainRow (map (spelled names) lines)
rows_plain names tables [] all = tt
rows_plain names tables (line ∷ lines) all =
    (record { plain = spelled_plain names tables line all.0; shown = not_blank names (word_of line) (values_of line) }, rows_plain names tables lines all.1)

-- the text of a report has no byte order mark
no_mark : (r : Report) → strip_bom (report_text r) ≡ report_text r
unfolding strip_bom write
no_mark r = refl

pub written_read : (r : Report) → MayBeWritten r → IsTextOf true (report_text r) r
written_read r h =
    let tables : AreTables (names_of r.head) = record { resources = h.head.resources_named; tasks = h.head.tasks_named } in
    let plain = rows_plain (names_of r.head) tables (lines_of true (bound_in r.head r.entries) (Some r.head.cap) r) (lines_writable r h) in
    (report_rows r, subst (λ (text : List ℕ). AreRecords default_config st.StartRecord text (report_rows r)) (sym (no_mark r)) (records_back (report_rows r) plain), written_spells r h)
