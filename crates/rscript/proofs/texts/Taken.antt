-- What is known about a text whose records a reader has taken.
use Rattle.std.proofs.Common.{◌≡◌, ℕ, Bool, true, false, not, List, [], ◌∷◌, ◌++◌, Option, Some, None, refl, sym, ap, subst, ◌∙◌}
use Rattle.std.proofs.lemmas.List.Sums.{fold_push}
use Rattle.std.specs.Prelude.{Result, Ok, Err, IfOk}
use Rattle.rtrace_form.specs.Records.{Row}
use Rattle.rtrace_form.specs.Takers.{followed, fault_of, IsFaultOf, HasTaken}
use Rattle.rtrace_form.specs.Walks.{when, first_of}
use Rattle.rtrace_form.specs.declared.fault.Fault.{Fault}
use Rattle.rtrace_form.proofs.texts.Lists.{fault_by_state}
use Rattle.rscript.specs.Words.{word_in}
use Rattle.rscript.specs.Scripts.{ScriptFields, Spells, IsScript, IsTextOf}
use Rattle.rscript.specs.SoFar.{SoFar, nothing_yet, section_of, told_in, with_row}
use Rattle.rscript.specs.Faults.{stands_at, placed_causes, code_by, code_of, is_ended, first_fault, read_all}
use Rattle.rscript.specs.Reading.{Knows, Takes, Refuses}
use Rattle.rtrace_form.specs.declared.errors.TextErr.{TextErr}
use Rattle.rtrace_form.specs.declared.errors.TextErr.TheVariants as text
use Rattle.rscript.specs.declared.code.ScriptCode.{ScriptCode}
use Rattle.rscript.specs.declared.code.ScriptCode.TheVariants.{BadField, BadOrder, NoEnd}
use Rattle.rscript.specs.declared.word.ScriptWord.{ScriptWord}
use Rattle.rscript.specs.Texts.{script_code, is_script_done, KnowsSaid, error_of, IsFirstFault}
use Rattle.rscript.specs.declared.reading.ScriptReader.{ScriptReader}
use Rattle.rscript.specs.declared.script.ScriptErr.{ScriptErr}
use Rattle.rscript.specs.declared.script.ScriptErr.TheVariants as script
use Rattle.rscript.proofs.forth.Rows.{spells}

-- one more record says what it adds
read_more : (rows : List Row) (row : Row) → read_all (followed rows row) ≡ with_row (read_all rows) row
read_more rows row = fold_push with_row nothing_yet rows row

out_of_place : (b : Bool) (rest : List (Option ScriptCode)) → b ≡ false → first_of (when (not b) BadOrder ∷ rest) ≡ Some BadOrder
out_of_place b rest h = rw h refl

in_place : (b : Bool) (rest : List (Option ScriptCode)) → b ≡ true → first_of (when (not b) BadOrder ∷ rest) ≡ first_of rest
in_place b rest h = rw h refl

module _ (old : ScriptReader) (row : Row) where
  pub no_record : word_in row ≡ None → (rows : List Row) → script_code rows row ≡ Some BadField
  unfolding code_of
  no_record is rows = ap (code_by (read_all rows) row) is

  module _ (w : ScriptWord) (is : word_in row ≡ Some w) where
    stands_so : (s : SoFar) → Knows old s → stands_at s.last (section_of s.latest) w ≡ stands_at old.last old.section w
    stands_so s k = λ i. stands_at (sym k.last i) (sym k.section i) w

    pub misplaced : stands_at old.last old.section w ≡ false → (rows : List Row) → KnowsSaid Knows old rows → script_code rows row ≡ Some BadOrder
    unfolding code_of
    misplaced h rows k = ap (code_by (read_all rows) row) is ∙ out_of_place _ (placed_causes (read_all rows) row w) (stands_so (read_all rows) k ∙ h)

    code_placed : stands_at old.last old.section w ≡ true → (s : SoFar) → Knows old s → code_of s row ≡ first_of (placed_causes s row w)
    unfolding code_of
    code_placed h s k = ap (code_by s row) is ∙ in_place _ (placed_causes s row w) (stands_so s k ∙ h)

    pub refused_rows : stands_at old.last old.section w ≡ true → (code : ScriptCode) → Refuses old row w code → (rows : List Row) → KnowsSaid Knows old rows → script_code rows row ≡ Some code
    refused_rows h code refuses rows k = code_placed h (read_all rows) k ∙ refuses (read_all rows) k

    pub taken_rows : stands_at old.last old.section w ≡ true → (now : ScriptReader) → Takes old now row w → (rows : List Row) → KnowsSaid Knows old rows
        → (script_code rows row ≡ None) × KnowsSaid Knows now (rows ++ row ∷ [])
    taken_rows h now takes rows k =
        let taken = takes (read_all rows) k in
        (code_placed h (read_all rows) k ∙ taken.0, subst (λ (s : SoFar). Knows now s) (sym (read_more rows row)) taken.1)

-- ---- whole texts

script_faults : (rows : List Row) → fault_of script_code is_script_done NoEnd rows ≡ first_fault rows
script_faults rows = fault_by_state code_of with_row is_ended NoEnd read_all followed read_more 1 [] rows

pub script_fault : (bytes : List ℕ) (fault : Fault ScriptCode) → IsFaultOf script_code is_script_done NoEnd bytes fault → IsFirstFault bytes fault.line fault.code
script_fault bytes fault h = (h.0, h.1, sym (script_faults h.0) ∙ h.2)

-- a text that was taken spells what the reader knows
pub script_taken : (bytes : List ℕ) (reader : ScriptReader) (h : HasTaken script_code is_script_done NoEnd (KnowsSaid Knows) bytes reader) → Spells h.rows (told_in (read_all h.rows))
script_taken bytes reader h = spells h.rows (sym (script_faults h.rows) ∙ h.right)

-- the reader knows what a script says
pub may_be_script : (bytes : List ℕ) (reader : ScriptReader) → HasTaken script_code is_script_done NoEnd (KnowsSaid Knows) bytes reader → (s : SoFar) × Knows reader s × IsScript (told_in s)
may_be_script bytes reader h = (read_all h.rows, h.knows, (script_taken bytes reader h).script)

-- and a script that says what the reader knows is the one that the text spells
pub script_read : (bytes : List ℕ) (reader : ScriptReader) → HasTaken script_code is_script_done NoEnd (KnowsSaid Knows) bytes reader
    → (p : ScriptFields) → ((s : SoFar) → Knows reader s → p ≡ told_in s) → IsTextOf bytes p
script_read bytes reader h p says =
    (h.rows, h.are, subst (λ (q : ScriptFields). Spells h.rows q) (sym (says (read_all h.rows) h.knows)) (script_taken bytes reader h))

pub if_ok : {T E : Type 0} {P Q : T → Type 0} (r : Result T E) → ((x : T) → P x → Q x) → IfOk r P → IfOk r Q
if_ok (Ok x) f h = f x h
if_ok (Err e) f h = tt

err_is : {T : Type 0} {a b : ScriptErr} → ◌≡◌ {A = Result T ScriptErr} (Err a) (Err b) → a ≡ b
err_is {T} {a} {b} e = cc

bad_line : {a b : ℕ} {x y : ScriptCode} → script.Bad a x ≡ script.Bad b y → a ≡ b
bad_line {a} {b} {x} {y} e = cc

bad_code : {a b : ℕ} {x y : ScriptCode} → script.Bad a x ≡ script.Bad b y → x ≡ y
bad_code {a} {b} {x} {y} e = cc

-- the error of a text that was not taken is its first fault
pub fault_told : {T : Type 0} (bytes : List ℕ) (e : TextErr ScriptCode) → ((fault : Fault ScriptCode) → e ≡ text.Bad fault → IsFaultOf script_code is_script_done NoEnd bytes fault)
    → (line : ℕ) (code : ScriptCode) → ◌≡◌ {A = Result T ScriptErr} (Err (error_of e)) (Err (script.Bad line code)) → IsFirstFault bytes line code
fault_told bytes (text.Bad fault) bad line code is =
    let same = err_is is in
    subst (λ n. IsFirstFault bytes n code) (bad_line same) (subst (λ (c : ScriptCode). IsFirstFault bytes fault.line c) (bad_code same) (script_fault bytes fault (bad fault refl)))
fault_told bytes text.Memory bad line code is = absurd (apart (err_is is))
  where
    apart : script.Memory ≡ script.Bad line code → ⊥
    apart e = cc
