-- The request in a record: its sets, its lengths, and its normal form. `at` is the place of its first set.
use Rattle.std.specs.Prelude.{◌≡◌, ◌+◌, ℕ, List, Option, Some, Result, MatchResult, option_map, option_and_then}
use Rattle.std.specs.FinSet.{empty}
use Rattle.rset.specs.Sets.{Set}
use Rattle.rclaim.specs.Requests.{RequestFields, IsNormal, normalised}
use Rattle.rclaim.specs.declared.request.RequestErr.{RequestErr}
use Rattle.rtrace_form.specs.Events.{request_refusal}
use Rattle.rclaim.specs.declared.request.Kind.{Kind}
use Rattle.rclaim.specs.declared.request.Kind.TheVariants.{Read, Write, Mixed, Upgrade, Nested}
use Rattle.rtrace_form.specs.Records.{Row}
use Rattle.rtrace_form.specs.Decided.{field_of}
use Rattle.rtrace_form.specs.Numbers.{length_told}
use Rattle.rtrace_form.specs.SetFields.{set_told}
use Rattle.rtrace_form.specs.declared.requests.RequestSets.{RequestSets}
use Rattle.rtrace_form.specs.declared.requests.RequestLengths.{RequestLengths}

-- these sets to read and to write, with nothing as a first part
abbrev pub no_part : Set → Set → RequestSets
no_part reads writes = record { reads = reads; writes = writes; first = empty }

-- these sets to read and to write, with this first part
abbrev pub with_part : Set → Set → Set → RequestSets
with_part reads writes first = record { reads = reads; writes = writes; first = first }

-- the one set of a record that names one
abbrev pub one_set : List (List ℕ) → ℕ → Row → Option RequestSets
one_set resources at fields = option_map (λ set. no_part set set) (set_told resources (field_of fields at))

-- the two sets of a record that names what is read and what is written
abbrev pub two_sets : List (List ℕ) → ℕ → Row → Option RequestSets
two_sets resources at fields =
    option_and_then (λ reads. option_map (no_part reads) (set_told resources (field_of fields (at + 1)))) (set_told resources (field_of fields at))

-- the three sets of a record that names a first part after the other two
abbrev pub three_sets : List (List ℕ) → ℕ → Row → Option RequestSets
three_sets resources at fields =
    option_and_then (λ reads.
    option_and_then (λ writes.
    option_map (with_part reads writes) (set_told resources (field_of fields (at + 2))))
    (set_told resources (field_of fields (at + 1))))
    (set_told resources (field_of fields at))

-- the sets that a record of a request of this kind names
abbrev pub request_sets : List (List ℕ) → Kind → ℕ → Row → Option RequestSets
request_sets resources Read at fields = one_set resources at fields
request_sets resources Write at fields = one_set resources at fields
request_sets resources Mixed at fields = two_sets resources at fields
request_sets resources Upgrade at fields = one_set resources at fields
request_sets resources Nested at fields = three_sets resources at fields

-- the field with its length
abbrev pub length_field : Kind → ℕ → Row → List ℕ
length_field Read at fields = field_of fields (at + 1)
length_field Write at fields = field_of fields (at + 1)
length_field Mixed at fields = field_of fields (at + 2)
length_field Upgrade at fields = field_of fields (at + 1)
length_field Nested at fields = field_of fields (at + 3)

-- its later length, which only an upgrade has
abbrev pub later_told : Kind → ℕ → Row → Option ℕ
later_told Read at fields = Some 0
later_told Write at fields = Some 0
later_told Mixed at fields = Some 0
later_told Upgrade at fields = length_told (field_of fields (at + 2))
later_told Nested at fields = Some 0

-- both lengths
abbrev pub request_lengths : Kind → ℕ → Row → Option RequestLengths
request_lengths kind at fields =
    option_and_then (λ len. option_map (λ later. record { len = len; later = later }) (later_told kind at fields)) (length_told (length_field kind at fields))

-- the request of this kind with these sets and lengths, in normal form
abbrev pub request_told : Kind → RequestSets → RequestLengths → RequestFields
request_told kind sets lengths = normalised kind sets.reads sets.writes sets.first lengths.len lengths.later

-- the result for these sets and lengths: the request, in normal form, or what refuses it under any read groups
abbrev pub IsMade : Kind → RequestSets → RequestLengths → Result RequestFields RequestErr → Type 0
IsMade kind sets lengths made =
    MatchResult made
    (λ r. (r ≡ request_told kind sets lengths) × IsNormal r)
    (λ cause. (groups : List Set) → request_refusal groups (request_told kind sets lengths) ≡ Some cause)
