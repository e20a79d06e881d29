-- What the record of a section's beginning says, from its sets and its lengths.
use Rattle.std.proofs.Common.{◌≡◌, ℕ, Bool, true, false, not, ◌&&◌, codes, List, [], ◌∷◌, Option, Some, None, refl, sym, ap, ◌∙◌}
use Rattle.std.specs.Prelude.{is_none, option_map, option_and_then}
use Rattle.rset.specs.Sets.{Set}
use Rattle.rclaim.specs.declared.request.Kind.{Kind}
use Rattle.rclaim.specs.declared.request.Kind.TheVariants.{Read, Write, Mixed, Upgrade, Nested}
use Rattle.rclaim.specs.declared.request.RequestErr.{RequestErr}
use Rattle.rclaim.specs.declared.request.RequestErr.TheVariants.{EmptyRequest, Undeclared, FirstOutside}
use Rattle.rtrace_form.specs.Records.{Row}
use Rattle.rtrace_form.specs.Decided.{field_of}
use Rattle.rtrace_form.specs.Events.{request_refusal}
use Rattle.rtrace_form.specs.Numbers.{length_told}
use Rattle.rtrace_form.specs.SetFields.{set_told}
use Rattle.rtrace_form.specs.Fields.{paired, read, all_known, all_counted, Said, Members, Length}
use Rattle.rtrace_form.specs.Walks.{first_of}
use Rattle.rtrace_form.proofs.facts.Choices.{some_none, and_then_some, map_some}
use Rattle.rscript.specs.Words.{fields_of, word_in}
use Rattle.rscript.specs.Lines.{names_of, line_by, Does}
use Rattle.rtrace_form.specs.Requests.{no_part, with_part, request_sets, request_lengths, request_told}
use Rattle.rtrace_form.proofs.Lengths.{AreLengths, lengths_are, none_one, none_two}
use Rattle.rscript.specs.Causes.{request_code}
use Rattle.rscript.specs.Told.{Tells, IsWrong, is_of_fields}
use Rattle.rscript.specs.declared.code.ScriptCode.TheVariants.{UnknownName, BadNumber}
use Rattle.rtrace_form.specs.declared.requests.RequestSets.{RequestSets}
use Rattle.rtrace_form.specs.declared.requests.RequestLengths.{RequestLengths}
use Rattle.rscript.specs.declared.statement.Statement.TheVariants as statement
use Rattle.rscript.specs.declared.word.ScriptWord.TheVariants as word
use Rattle.rscript.proofs.record_facts.Shapes.{long_of, three_row, four_row, five_row}
use Rattle.rscript.proofs.record_facts.Tells.{unknown_wrong, uncounted_wrong, told_causes}

-- ---- sets

-- the sets that a request of this kind takes, where its record names them
abbrev AreSets : List (List ℕ) → Kind → Row → RequestSets → Type 0
AreSets rs Read row sets = set_told rs (field_of row 1) ≡ Some sets.reads
AreSets rs Write row sets = set_told rs (field_of row 1) ≡ Some sets.writes
AreSets rs Mixed row sets = (set_told rs (field_of row 1) ≡ Some sets.reads) × (set_told rs (field_of row 2) ≡ Some sets.writes)
AreSets rs Upgrade row sets = set_told rs (field_of row 1) ≡ Some sets.reads
AreSets rs Nested row sets = (set_told rs (field_of row 1) ≡ Some sets.reads) × (set_told rs (field_of row 2) ≡ Some sets.writes) × (set_told rs (field_of row 3) ≡ Some sets.first)

one_are : (o : Option Set) (sets : RequestSets) → option_map (λ set. no_part set set) o ≡ Some sets → (o ≡ Some sets.reads) × (o ≡ Some sets.writes)
one_are o sets h =
    let a = map_some (λ set. no_part set set) o sets h in
    (a.1 ∙ ap (λ (s : RequestSets). Some s.reads) a.2, a.1 ∙ ap (λ (s : RequestSets). Some s.writes) a.2)

two_are : (o p : Option Set) (sets : RequestSets) → option_and_then (λ reads. option_map (no_part reads) p) o ≡ Some sets → (o ≡ Some sets.reads) × (p ≡ Some sets.writes)
two_are o p sets h =
    let a = and_then_some (λ reads. option_map (no_part reads) p) o sets h in
    let b = map_some (no_part a.0) p sets a.2 in
    (a.1 ∙ ap (λ (s : RequestSets). Some s.reads) b.2, b.1 ∙ ap (λ (s : RequestSets). Some s.writes) b.2)

three_are : (o p q : Option Set) (sets : RequestSets) → option_and_then (λ reads. option_and_then (λ writes. option_map (with_part reads writes) q) p) o ≡ Some sets
    → (o ≡ Some sets.reads) × (p ≡ Some sets.writes) × (q ≡ Some sets.first)
three_are o p q sets h =
    let a = and_then_some (λ reads. option_and_then (λ writes. option_map (with_part reads writes) q) p) o sets h in
    let b = and_then_some (λ writes. option_map (with_part a.0 writes) q) p sets a.2 in
    let c = map_some (with_part a.0 b.0) q sets b.2 in
    (a.1 ∙ ap (λ (s : RequestSets). Some s.reads) c.2, b.1 ∙ ap (λ (s : RequestSets). Some s.writes) c.2, c.1 ∙ ap (λ (s : RequestSets). Some s.first) c.2)

sets_are : (rs : List (List ℕ)) (kind : Kind) (row : Row) (sets : RequestSets) → request_sets rs kind 1 row ≡ Some sets → AreSets rs kind row sets
sets_are rs Read row sets h = (one_are (set_told rs (field_of row 1)) sets h).0
sets_are rs Write row sets h = (one_are (set_told rs (field_of row 1)) sets h).1
sets_are rs Mixed row sets h = two_are (set_told rs (field_of row 1)) (set_told rs (field_of row 2)) sets h
sets_are rs Upgrade row sets h = (one_are (set_told rs (field_of row 1)) sets h).0
sets_are rs Nested row sets h = three_are (set_told rs (field_of row 1)) (set_told rs (field_of row 2)) (set_told rs (field_of row 3)) sets h

one_none : (f : Set → RequestSets) (o : Option Set) (b : Bool) → option_map f o ≡ None → (not (is_none o) && b) ≡ false
one_none f None b h = refl
one_none f (Some s) b h = absurd (some_none (sym h))

two_none : (o p : Option Set) (b : Bool) → option_and_then (λ reads. option_map (no_part reads) p) o ≡ None → (not (is_none o) && (not (is_none p) && b)) ≡ false
two_none None p b h = refl
two_none (Some s) None b h = refl
two_none (Some s) (Some t) b h = absurd (some_none (sym h))

three_none : (o p q : Option Set) (b : Bool) → option_and_then (λ reads. option_and_then (λ writes. option_map (with_part reads writes) q) p) o ≡ None
    → (not (is_none o) && (not (is_none p) && (not (is_none q) && b))) ≡ false
three_none None p q b h = refl
three_none (Some s) None q b h = refl
three_none (Some s) (Some t) None b h = refl
three_none (Some s) (Some t) (Some u) b h = absurd (some_none (sym h))

-- ---- by its fields

-- a record of a beginning by its fields
abbrev fields_told : Kind → Row → Row
fields_told Read row = field_of row 0 ∷ field_of row 1 ∷ field_of row 2 ∷ []
fields_told Write row = field_of row 0 ∷ field_of row 1 ∷ field_of row 2 ∷ []
fields_told Mixed row = field_of row 0 ∷ field_of row 1 ∷ field_of row 2 ∷ field_of row 3 ∷ []
fields_told Upgrade row = field_of row 0 ∷ field_of row 1 ∷ field_of row 2 ∷ field_of row 3 ∷ []
fields_told Nested row = field_of row 0 ∷ field_of row 1 ∷ field_of row 2 ∷ field_of row 3 ∷ field_of row 4 ∷ []

are_fields : (kind : Kind) (row : Row) → word_in row ≡ Some (word.Begin kind) → row ≡ fields_told kind row
are_fields Read row is = three_row (Said (codes "read")) Members Length row (long_of (word.Begin Read) row is)
are_fields Write row is = three_row (Said (codes "write")) Members Length row (long_of (word.Begin Write) row is)
are_fields Mixed row is = four_row (Said (codes "mixed")) Members Members Length row (long_of (word.Begin Mixed) row is)
are_fields Upgrade row is = four_row (Said (codes "upgrade")) Members Length Length row (long_of (word.Begin Upgrade) row is)
are_fields Nested row is = five_row (Said (codes "nested")) Members Members Members Length row (long_of (word.Begin Nested) row is)

module _ (rs : List (List ℕ)) (row : Row) where
  fields_known : (kind : Kind) (sets : RequestSets) → AreSets rs kind row sets → all_known (names_of rs) (fields_of (word.Begin kind)) (fields_told kind row) ≡ true
  unfolding all_known
  fields_known Read sets h = ap (λ o. not (is_none o) && true) h
  fields_known Write sets h = ap (λ o. not (is_none o) && true) h
  fields_known Mixed sets h = λ i. not (is_none (h.0 i)) && (not (is_none (h.1 i)) && true)
  fields_known Upgrade sets h = ap (λ o. not (is_none o) && true) h
  fields_known Nested sets h = λ i. not (is_none (h.0 i)) && (not (is_none (h.1 i)) && (not (is_none (h.2 i)) && true))

  fields_unknown : (kind : Kind) → request_sets rs kind 1 row ≡ None → all_known (names_of rs) (fields_of (word.Begin kind)) (fields_told kind row) ≡ false
  unfolding all_known
  fields_unknown Read h = one_none (λ set. no_part set set) (set_told rs (field_of row 1)) true h
  fields_unknown Write h = one_none (λ set. no_part set set) (set_told rs (field_of row 1)) true h
  fields_unknown Mixed h = two_none (set_told rs (field_of row 1)) (set_told rs (field_of row 2)) true h
  fields_unknown Upgrade h = one_none (λ set. no_part set set) (set_told rs (field_of row 1)) true h
  fields_unknown Nested h = three_none (set_told rs (field_of row 1)) (set_told rs (field_of row 2)) (set_told rs (field_of row 3)) true h

  fields_counted : (kind : Kind) (lengths : RequestLengths) → AreLengths kind 1 row lengths → all_counted (fields_of (word.Begin kind)) (fields_told kind row) ≡ true
  unfolding all_counted
  fields_counted Read lengths h = ap (λ o. not (is_none o) && true) h.len
  fields_counted Write lengths h = ap (λ o. not (is_none o) && true) h.len
  fields_counted Mixed lengths h = ap (λ o. not (is_none o) && true) h.len
  fields_counted Upgrade lengths h = λ i. not (is_none (h.len i)) && (not (is_none (h.later i)) && true)
  fields_counted Nested lengths h = ap (λ o. not (is_none o) && true) h.len

  fields_uncounted : (kind : Kind) → request_lengths kind 1 row ≡ None → all_counted (fields_of (word.Begin kind)) (fields_told kind row) ≡ false
  unfolding all_counted
  fields_uncounted Read h = none_one (length_told (field_of row 2)) h
  fields_uncounted Write h = none_one (length_told (field_of row 2)) h
  fields_uncounted Mixed h = none_one (length_told (field_of row 3)) h
  fields_uncounted Upgrade h = none_two (length_told (field_of row 2)) (length_told (field_of row 3)) h
  fields_uncounted Nested h = none_one (length_told (field_of row 4)) h

  fields_mean : (kind : Kind) (sets : RequestSets) (lengths : RequestLengths) → AreSets rs kind row sets → AreLengths kind 1 row lengths
      → option_map (line_by (word.Begin kind)) (read (names_of rs) (fields_of (word.Begin kind)) (fields_told kind row)) ≡ Some (Does (statement.Begin (request_told kind sets lengths)))
  unfolding read
  fields_mean Read sets lengths h k = λ i. option_map (line_by (word.Begin Read)) (paired (h i) (paired (k.len i) (Some tt)))
  fields_mean Write sets lengths h k = λ i. option_map (line_by (word.Begin Write)) (paired (h i) (paired (k.len i) (Some tt)))
  fields_mean Mixed sets lengths h k = λ i. option_map (line_by (word.Begin Mixed)) (paired (h.0 i) (paired (h.1 i) (paired (k.len i) (Some tt))))
  fields_mean Upgrade sets lengths h k = λ i. option_map (line_by (word.Begin Upgrade)) (paired (h i) (paired (k.len i) (paired (k.later i) (Some tt))))
  fields_mean Nested sets lengths h k = λ i. option_map (line_by (word.Begin Nested)) (paired (h.0 i) (paired (h.1 i) (paired (h.2 i) (paired (k.len i) (Some tt)))))

  module _ (kind : Kind) (is : word_in row ≡ Some (word.Begin kind)) where
    pub begin_unknown : request_sets rs kind 1 row ≡ None → IsWrong rs (word.Begin kind) row UnknownName
    begin_unknown h = unknown_wrong rs (word.Begin kind) row (ap (all_known (names_of rs) (fields_of (word.Begin kind))) (are_fields kind row is) ∙ fields_unknown kind h)

    begin_known : (sets : RequestSets) → request_sets rs kind 1 row ≡ Some sets → all_known (names_of rs) (fields_of (word.Begin kind)) row ≡ true
    begin_known sets h = ap (all_known (names_of rs) (fields_of (word.Begin kind))) (are_fields kind row is) ∙ fields_known kind sets (sets_are rs kind row sets h)

    pub begin_uncounted : (sets : RequestSets) → request_sets rs kind 1 row ≡ Some sets → request_lengths kind 1 row ≡ None → IsWrong rs (word.Begin kind) row BadNumber
    begin_uncounted sets h none =
        uncounted_wrong rs (word.Begin kind) row (begin_known sets h) (ap (all_counted (fields_of (word.Begin kind))) (are_fields kind row is) ∙ fields_uncounted kind none)

    pub begin_tells : (sets : RequestSets) (lengths : RequestLengths) → request_sets rs kind 1 row ≡ Some sets → request_lengths kind 1 row ≡ Some lengths
        → Tells rs (word.Begin kind) row (statement.Begin (request_told kind sets lengths))
    begin_tells sets lengths h k =
        let told = lengths_are kind 1 row lengths k in
        record {
          known = begin_known sets h;
          counted = ap (all_counted (fields_of (word.Begin kind))) (are_fields kind row is) ∙ fields_counted kind lengths told;
          means = ap (λ (r : Row). option_map (line_by (word.Begin kind)) (read (names_of rs) (fields_of (word.Begin kind)) r)) (are_fields kind row is) ∙ fields_mean kind sets lengths (sets_are rs kind row sets h) told;
        }

    -- what refuses the request under any groups is what is wrong with the record
    pub begin_refused : (sets : RequestSets) (lengths : RequestLengths) (cause : RequestErr) → request_sets rs kind 1 row ≡ Some sets → request_lengths kind 1 row ≡ Some lengths
        → ((groups : List Set) → request_refusal groups (request_told kind sets lengths) ≡ Some cause) → IsWrong rs (word.Begin kind) row (request_code cause)
    begin_refused sets lengths cause h k refused = λ groups section.
        told_causes rs (word.Begin kind) row (statement.Begin (request_told kind sets lengths)) (begin_tells sets lengths h k) groups section
        ∙ ap (λ (o : Option RequestErr). first_of (option_map request_code o ∷ [])) (refused groups)

-- the code of a refused request is one of its record's fields
pub request_of_fields : (cause : RequestErr) → is_of_fields (request_code cause) ≡ true
request_of_fields EmptyRequest = refl
request_of_fields Undeclared = refl
request_of_fields FirstOutside = refl
