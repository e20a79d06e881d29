-- What the record of an issue says, from its sets and its lengths.
use Rattle.std.proofs.Common.{◌≡◌, ℕ, true, false, not, ◌&&◌, List, Option, Some, None, refl, sym, ap, subst, true≢false}
use Rattle.std.specs.Prelude.{is_none, option_map, option_and_then}
use Rattle.rset.specs.Names.{number_in}
use Rattle.rset.specs.Sets.{Set}
use Rattle.rclaim.specs.declared.request.Kind.{Kind}
use Rattle.rclaim.specs.declared.request.Kind.TheVariants.{Read, Write, Mixed, Upgrade, Nested}
use Rattle.rclaim.specs.declared.event.Event.TheVariants as event
use Rattle.rtrace_form.specs.Records.{Row}
use Rattle.rtrace_form.specs.Numbers.{length_told}
use Rattle.rtrace_form.specs.SetFields.{set_told}
use Rattle.rtrace_form.specs.Fields.{paired, all_counted}
use Rattle.rtrace_form.specs.Decided.{field_of}
use Rattle.rtrace_form.specs.Words.{fields_of}
use Rattle.rtrace_form.specs.Lines.{Happens, line_by}
use Rattle.rtrace_form.specs.declared.word.Word.TheVariants as word
use Rattle.rtrace_form.proofs.facts.Choices.{some_none, and_then_some, map_some}
use Rattle.rtrace_form.specs.declared.requests.RequestSets.{RequestSets}
use Rattle.rtrace_form.specs.declared.requests.RequestLengths.{RequestLengths}
use Rattle.rtrace_form.specs.Requests.{no_part, with_part, request_sets, request_lengths, request_told}
use Rattle.rtrace_form.specs.Told.{names_by, IsOf, Says, IsUnknown, is_plain}
use Rattle.rtrace_form.proofs.Lengths.{AreLengths, lengths_are, none_one, none_two}
use Rattle.rtrace_form.proofs.Places.{read_at, counted_at, says_at, unknown_at, uncounted_at}

counted_one : (o : Option ℕ) (n : ℕ) → o ≡ Some n → (not (is_none o) && true) ≡ true
counted_one o n h = ap (λ p. not (is_none p) && true) h

pub lengths_counted : (kind : Kind) (row : Row) (lengths : RequestLengths) → AreLengths kind 3 row lengths → counted_at (fields_of (word.Issue kind)) 0 row ≡ true
lengths_counted Read row lengths h = counted_one _ _ h.len
lengths_counted Write row lengths h = counted_one _ _ h.len
lengths_counted Mixed row lengths h = counted_one _ _ h.len
lengths_counted Upgrade row lengths h = λ i. not (is_none (h.len i)) && (not (is_none (h.later i)) && true)
lengths_counted Nested row lengths h = counted_one _ _ h.len

uncounted : (kind : Kind) (row : Row) → request_lengths kind 3 row ≡ None → counted_at (fields_of (word.Issue kind)) 0 row ≡ false
uncounted Read row h = none_one (length_told (field_of row 4)) h
uncounted Write row h = none_one (length_told (field_of row 4)) h
uncounted Mixed row h = none_one (length_told (field_of row 5)) h
uncounted Upgrade row h = none_two (length_told (field_of row 4)) (length_told (field_of row 5)) h
uncounted Nested row h = none_one (length_told (field_of row 6)) h

one_none : {X : Type 0} (f : Set → RequestSets) (o : Option Set) (rest : Option X) → option_map f o ≡ None → paired o rest ≡ None
one_none f None rest h = refl
one_none f (Some s) rest h = absurd (some_none (sym h))

two_none : {X : Type 0} (o p : Option Set) (rest : Option X) → option_and_then (λ reads. option_map (no_part reads) p) o ≡ None → paired o (paired p rest) ≡ None
two_none None p rest h = refl
two_none (Some s) None rest h = refl
two_none (Some s) (Some t) rest h = absurd (some_none (sym h))

three_none : {X : Type 0} (o p q : Option Set) (rest : Option X) → option_and_then (λ reads. option_and_then (λ writes. option_map (with_part reads writes) q) p) o ≡ None → paired o (paired p (paired q rest)) ≡ None
three_none None p q rest h = refl
three_none (Some s) None q rest h = refl
three_none (Some s) (Some t) None rest h = refl
three_none (Some s) (Some t) (Some u) rest h = absurd (some_none (sym h))

-- the lengths and the sets of a record that has one of each
pub plain_lengths : (kind : Kind) (row : Row) (len : ℕ) → is_plain kind ≡ true → length_told (field_of row 4) ≡ Some len → request_lengths kind 3 row ≡ Some (record { len = len; later = 0 })
plain_lengths Read row len plain told = ap (option_and_then (λ len. Some (record { len = len; later = 0 }))) told
plain_lengths Write row len plain told = ap (option_and_then (λ len. Some (record { len = len; later = 0 }))) told
plain_lengths Mixed row len plain told = absurd (true≢false (sym plain))
plain_lengths Upgrade row len plain told = absurd (true≢false (sym plain))
plain_lengths Nested row len plain told = absurd (true≢false (sym plain))

pub plain_uncounted : (kind : Kind) (row : Row) → is_plain kind ≡ true → length_told (field_of row 4) ≡ None → request_lengths kind 3 row ≡ None
plain_uncounted Read row plain told = ap (option_and_then (λ len. Some (record { len = len; later = 0 }))) told
plain_uncounted Write row plain told = ap (option_and_then (λ len. Some (record { len = len; later = 0 }))) told
plain_uncounted Mixed row plain told = absurd (true≢false (sym plain))
plain_uncounted Upgrade row plain told = absurd (true≢false (sym plain))
plain_uncounted Nested row plain told = absurd (true≢false (sym plain))

pub plain_sets : (rs : List (List ℕ)) (kind : Kind) (row : Row) (set : Set) → is_plain kind ≡ true → set_told rs (field_of row 3) ≡ Some set → request_sets rs kind 3 row ≡ Some (no_part set set)
plain_sets rs Read row set plain told = ap (option_map (λ s. no_part s s)) told
plain_sets rs Write row set plain told = ap (option_map (λ s. no_part s s)) told
plain_sets rs Mixed row set plain told = absurd (true≢false (sym plain))
plain_sets rs Upgrade row set plain told = absurd (true≢false (sym plain))
plain_sets rs Nested row set plain told = absurd (true≢false (sym plain))

pub plain_unknown : (rs : List (List ℕ)) (kind : Kind) (row : Row) → is_plain kind ≡ true → set_told rs (field_of row 3) ≡ None → request_sets rs kind 3 row ≡ None
plain_unknown rs Read row plain told = ap (option_map (λ s. no_part s s)) told
plain_unknown rs Write row plain told = ap (option_map (λ s. no_part s s)) told
plain_unknown rs Mixed row plain told = absurd (true≢false (sym plain))
plain_unknown rs Upgrade row plain told = absurd (true≢false (sym plain))
plain_unknown rs Nested row plain told = absurd (true≢false (sym plain))

module _ (rs ts : List (List ℕ)) (row : Row) where
  pub issue_uncounted : (kind : Kind) → IsOf (word.Issue kind) row → request_lengths kind 3 row ≡ None → all_counted (fields_of (word.Issue kind)) row ≡ false
  issue_uncounted kind form none = uncounted_at (names_by rs ts) (word.Issue kind) row form (uncounted kind row none)

  no_task : (kind : Kind) → number_in ts (field_of row 1) ≡ None → read_at (names_by rs ts) (fields_of (word.Issue kind)) 0 row ≡ None
  no_task Read none = ap (λ o. paired o (paired (set_told rs (field_of row 3)) (paired (length_told (field_of row 4)) (Some tt)))) none
  no_task Write none = ap (λ o. paired o (paired (set_told rs (field_of row 3)) (paired (length_told (field_of row 4)) (Some tt)))) none
  no_task Mixed none = ap (λ o. paired o (paired (set_told rs (field_of row 3)) (paired (set_told rs (field_of row 4)) (paired (length_told (field_of row 5)) (Some tt))))) none
  no_task Upgrade none = ap (λ o. paired o (paired (set_told rs (field_of row 3)) (paired (length_told (field_of row 4)) (paired (length_told (field_of row 5)) (Some tt))))) none
  no_task Nested none = ap (λ o. paired o (paired (set_told rs (field_of row 3)) (paired (set_told rs (field_of row 4)) (paired (set_told rs (field_of row 5)) (paired (length_told (field_of row 6)) (Some tt)))))) none

  pub issue_no_task : (kind : Kind) (lengths : RequestLengths) → IsOf (word.Issue kind) row → request_lengths kind 3 row ≡ Some lengths → number_in ts (field_of row 1) ≡ None → IsUnknown (names_by rs ts) (word.Issue kind) row
  issue_no_task kind lengths form told none = unknown_at (names_by rs ts) (word.Issue kind) row form (lengths_counted kind row lengths (lengths_are kind 3 row lengths told)) (no_task kind none)

  no_sets : (kind : Kind) (seat : ℕ) → number_in ts (field_of row 1) ≡ Some seat → request_sets rs kind 3 row ≡ None → read_at (names_by rs ts) (fields_of (word.Issue kind)) 0 row ≡ None
  no_sets Read seat task none = λ i. paired (task i) (one_none (λ set. no_part set set) (set_told rs (field_of row 3)) (paired (length_told (field_of row 4)) (Some tt)) none i)
  no_sets Write seat task none = λ i. paired (task i) (one_none (λ set. no_part set set) (set_told rs (field_of row 3)) (paired (length_told (field_of row 4)) (Some tt)) none i)
  no_sets Mixed seat task none = λ i. paired (task i) (two_none (set_told rs (field_of row 3)) (set_told rs (field_of row 4)) (paired (length_told (field_of row 5)) (Some tt)) none i)
  no_sets Upgrade seat task none = λ i. paired (task i) (one_none (λ set. no_part set set) (set_told rs (field_of row 3)) (paired (length_told (field_of row 4)) (paired (length_told (field_of row 5)) (Some tt))) none i)
  no_sets Nested seat task none = λ i. paired (task i) (three_none (set_told rs (field_of row 3)) (set_told rs (field_of row 4)) (set_told rs (field_of row 5)) (paired (length_told (field_of row 6)) (Some tt)) none i)

  pub issue_unknown : (kind : Kind) (lengths : RequestLengths) (seat : ℕ) → IsOf (word.Issue kind) row → request_lengths kind 3 row ≡ Some lengths → number_in ts (field_of row 1) ≡ Some seat → request_sets rs kind 3 row ≡ None
      → IsUnknown (names_by rs ts) (word.Issue kind) row
  issue_unknown kind lengths seat form told task none = unknown_at (names_by rs ts) (word.Issue kind) row form (lengths_counted kind row lengths (lengths_are kind 3 row lengths told)) (no_sets kind seat task none)

  -- the event of an issue of this kind, with these sets and lengths
  abbrev tells : Kind → ℕ → RequestSets → RequestLengths → Type 0
  tells kind seat sets lengths = option_map (line_by (word.Issue kind)) (read_at (names_by rs ts) (fields_of (word.Issue kind)) 0 row) ≡ Some (Happens (event.Issue seat (request_told kind sets lengths)))

  issue_tells : (kind : Kind) (seat : ℕ) (sets : RequestSets) (lengths : RequestLengths) → number_in ts (field_of row 1) ≡ Some seat → request_sets rs kind 3 row ≡ Some sets → AreLengths kind 3 row lengths → tells kind seat sets lengths
  issue_tells Read seat sets lengths task members told =
      let a = map_some (λ set. no_part set set) (set_told rs (field_of row 3)) sets members in
      subst (λ (s : RequestSets). tells Read seat s lengths) a.2 (λ i. option_map (line_by (word.Issue Read)) (paired (task i) (paired (a.1 i) (paired (told.len i) (Some tt)))))
  issue_tells Write seat sets lengths task members told =
      let a = map_some (λ set. no_part set set) (set_told rs (field_of row 3)) sets members in
      subst (λ (s : RequestSets). tells Write seat s lengths) a.2 (λ i. option_map (line_by (word.Issue Write)) (paired (task i) (paired (a.1 i) (paired (told.len i) (Some tt)))))
  issue_tells Mixed seat sets lengths task members told =
      let a = and_then_some (λ reads. option_map (no_part reads) (set_told rs (field_of row 4))) (set_told rs (field_of row 3)) sets members in
      let b = map_some (no_part a.0) (set_told rs (field_of row 4)) sets a.2 in
      subst (λ (s : RequestSets). tells Mixed seat s lengths) b.2 (λ i. option_map (line_by (word.Issue Mixed)) (paired (task i) (paired (a.1 i) (paired (b.1 i) (paired (told.len i) (Some tt))))))
  issue_tells Upgrade seat sets lengths task members told =
      let a = map_some (λ set. no_part set set) (set_told rs (field_of row 3)) sets members in
      subst (λ (s : RequestSets). tells Upgrade seat s lengths) a.2 (λ i. option_map (line_by (word.Issue Upgrade)) (paired (task i) (paired (a.1 i) (paired (told.len i) (paired (told.later i) (Some tt))))))
  issue_tells Nested seat sets lengths task members told =
      let a = and_then_some (λ reads. option_and_then (λ writes. option_map (with_part reads writes) (set_told rs (field_of row 5))) (set_told rs (field_of row 4))) (set_told rs (field_of row 3)) sets members in
      let b = and_then_some (λ writes. option_map (with_part a.0 writes) (set_told rs (field_of row 5))) (set_told rs (field_of row 4)) sets a.2 in
      let d = map_some (with_part a.0 b.0) (set_told rs (field_of row 5)) sets b.2 in
      subst (λ (s : RequestSets). tells Nested seat s lengths) d.2 (λ i. option_map (line_by (word.Issue Nested)) (paired (task i) (paired (a.1 i) (paired (b.1 i) (paired (d.1 i) (paired (told.len i) (Some tt)))))))

  pub issue_says : (kind : Kind) (lengths : RequestLengths) (seat : ℕ) (sets : RequestSets) → IsOf (word.Issue kind) row → request_lengths kind 3 row ≡ Some lengths → number_in ts (field_of row 1) ≡ Some seat → request_sets rs kind 3 row ≡ Some sets
      → Says (names_by rs ts) (word.Issue kind) row (Happens (event.Issue seat (request_told kind sets lengths)))
  issue_says kind lengths seat sets form told task members =
      let are = lengths_are kind 3 row lengths told in
      says_at (names_by rs ts) (word.Issue kind) row form _ (lengths_counted kind row lengths are) (issue_tells kind seat sets lengths task members are)
