-- The lengths of a request, where the first of its sets is at the place `at`.
use Rattle.std.proofs.Common.{◌≡◌, ℕ, true, false, not, ◌&&◌, Option, Some, None, refl, sym, ap, ◌∙◌}
use Rattle.std.specs.Prelude.{is_none, option_map, option_and_then}
use Rattle.rclaim.specs.declared.request.Kind.{Kind}
use Rattle.rtrace_form.specs.Records.{Row}
use Rattle.rtrace_form.specs.Numbers.{length_told}
use Rattle.rtrace_form.proofs.facts.Choices.{some_none, and_then_some, map_some}
use Rattle.rtrace_form.specs.declared.requests.RequestLengths.{RequestLengths}
use Rattle.rtrace_form.specs.Requests.{request_lengths, length_field, later_told}

-- both lengths, where they are there
pub record AreLengths (kind : Kind) (at : ℕ) (row : Row) (lengths : RequestLengths) : Type 0 where
  pub len : length_told (length_field kind at row) ≡ Some lengths.len
  pub later : later_told kind at row ≡ Some lengths.later

pub lengths_are : (kind : Kind) (at : ℕ) (row : Row) (lengths : RequestLengths) → request_lengths kind at row ≡ Some lengths → AreLengths kind at row lengths
lengths_are kind at row lengths h =
    let a = and_then_some (λ n. option_map (λ later. record { len = n; later = later }) (later_told kind at row)) (length_told (length_field kind at row)) lengths h in
    let b = map_some (λ later. record { len = a.0; later = later }) (later_told kind at row) lengths a.2 in
    record { len = a.1 ∙ ap (λ (l : RequestLengths). Some l.len) b.2; later = b.1 ∙ ap (λ (l : RequestLengths). Some l.later) b.2 }

-- where there are none, one of their fields has no length
pub none_one : (o : Option ℕ) → option_and_then (λ len. option_map (λ later. let l : RequestLengths = record { len = len; later = later } in l) (Some 0)) o ≡ None → (not (is_none o) && true) ≡ false
none_one None h = refl
none_one (Some n) h = absurd (some_none (sym h))

pub none_two : (o p : Option ℕ) → option_and_then (λ len. option_map (λ later. let l : RequestLengths = record { len = len; later = later } in l) p) o ≡ None → (not (is_none o) && (not (is_none p) && true)) ≡ false
none_two None p h = refl
none_two (Some n) None h = refl
none_two (Some n) (Some m) h = absurd (some_none (sym h))
