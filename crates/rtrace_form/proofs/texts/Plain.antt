-- What is written of lines needs no quotes.
use Rattle.std.proofs.Common.{◌≡◌, ℕ, ◌≤◌, ◌<◌, ◌^◌, ◌==◌, Bool, true, false, ◌||◌, List, [], ◌∷◌, ◌++◌, length, map, refl, ap, ◌∙◌, arith, nat_le}
use Rattle.std.specs.Prelude.{decimal}
use Rattle.std.specs.List.{list_all, list_any, join_with_byte, AllByRecursion}
use Rattle.std.proofs.lemmas.Bool.{and_parts, leb-true}
use Rattle.std.proofs.lemmas.Bool.Decides.{nat_tests}
use Rattle.csv.specs.Quoting.{needs_byte}
use Rattle.csv.specs.Writing.{default_writer, is_blank}
use Rattle.rset.specs.Names.{is_name, is_name_byte}
use Rattle.rset.specs.Sets.{Set, all_below, rising}
use Rattle.rset.specs.declared.TheConstants.{SEATS}
use Rattle.rset.proofs.NameLemmas.{table_name_at}
use Rattle.std.proofs.lemmas.Option.{slice_get-get_or}
use Rattle.rclaim.specs.declared.event.Event.TheVariants as event
use Rattle.rclaim.specs.declared.request.Kind.{Kind}
use Rattle.rclaim.specs.declared.request.Kind.TheVariants.{Read, Write, Mixed, Upgrade, Nested}
use Rattle.rvalue.specs.declared.act.Act.TheVariants.{Edited, Shown}
use Rattle.rvalue.specs.declared.ledger.Edit.TheVariants as edit
use Rattle.rtrace_form.specs.Numbers.{is_digit}
use Rattle.rtrace_form.specs.SetFields.{name_at, joined, set_text}
use Rattle.rtrace_form.specs.Fields.{Names, AreTables, Field, Said, Fresh, OneResource, OneTask, Members, Number, Length, Limit, With, Values, write, AllGood}
use Rattle.rtrace_form.specs.Words.{fields_of}
use Rattle.rtrace_form.specs.Lines.{Line, Opens, HasResource, HasGroup, HasTask, HasCap, Happens, Does, BecomesEntitled, BecomesSatisfied, Grants, Waits, Leaves, Ends, word_of, values_of, issue_values, spelled, IsNamedLine, IsWritable}
use Rattle.rtrace_form.specs.declared.word.Stage.TheVariants as stage
use Rattle.rtrace_form.specs.declared.word.Word.{Word}
use Rattle.rtrace_form.specs.declared.word.Word.TheVariants as word
use Rattle.rtrace_form.proofs.fields.NumbersBack.{digits_back}
use Rattle.rtrace_form.proofs.fields.SetsBack.{name_bytes, is_name_at, members_bytes}

-- a field needs no quotes
abbrev pub IsPlain : List ℕ → Type 0
IsPlain field = list_any (needs_byte default_writer) field ≡ false

high_byte : (b : ℕ) → 45 ≤ b → needs_byte default_writer b ≡ false
high_byte b h =
    let comma : (b == 44) ≡ false = grind (arith, nat_tests) in
    let quote : (b == 34) ≡ false = grind (arith, nat_tests) in
    let feed : (b == 10) ≡ false = grind (arith, nat_tests) in
    let return : (b == 13) ≡ false = grind (arith, nat_tests) in
    rw (comma, quote, feed, return) refl

name_high : (b : ℕ) → is_name_byte b ≡ true → 45 ≤ b
name_high b h = grind (arith, nat_tests)

digit_high : (b : ℕ) → is_digit b ≡ true → 45 ≤ b
digit_high b h = let low = leb-true 48 b (and_parts (nat_le 48 b) (nat_le b 57) h).0 in omega (arith, low)

plain_of : (p : ℕ → Bool) → ((b : ℕ) → p b ≡ true → 45 ≤ b) → (field : List ℕ) → list_all p field ≡ true → IsPlain field
plain_of p high [] h = refl
plain_of p high (b ∷ field) h =
    let parts = and_parts (p b) (list_all p field) h in
    ap (λ x. x || list_any (needs_byte default_writer) field) (high_byte b (high b parts.0)) ∙ plain_of p high field parts.1

name_plain : (name : List ℕ) → list_all is_name_byte name ≡ true → IsPlain name
name_plain = plain_of is_name_byte name_high

number_plain : (n : ℕ) → n < 2 ^ 64 → IsPlain (decimal n)
number_plain n h = plain_of is_digit digit_high (decimal n) (digits_back n h)

joint_plain : (name rest : List ℕ) → IsPlain name → IsPlain rest → IsPlain (name ++ 43 ∷ rest)
joint_plain [] rest a b = b
joint_plain (x ∷ name) rest a b = at (needs_byte default_writer x) a (joint_plain name rest)
  where
    at : (n : Bool) → (n || list_any (needs_byte default_writer) name) ≡ false → (IsPlain name → IsPlain rest → IsPlain (name ++ 43 ∷ rest))
        → (n || list_any (needs_byte default_writer) (name ++ 43 ∷ rest)) ≡ false
    at true h more = h
    at false h more = more h b

joined_plain : (names : List (List ℕ)) → AllByRecursion (λ x. list_all is_name_byte x ≡ true) names → IsPlain (joined names)
joined_plain [] all = refl
joined_plain (name ∷ []) all = name_plain name all.0
joined_plain (name ∷ next ∷ names) all = joint_plain name (join_with_byte 43 (next ∷ names)) (name_plain name all.0) (joined_plain (next ∷ names) all.1)

-- the parts of a record that do not follow from what it says: its words, and a name that it declares
abbrev PlainWith : {Rest : Type 0} → (f : Field) → (Rest → Type 0) → With f Rest → Type 0
PlainWith (Said word) rest v = IsPlain word × rest v
PlainWith Fresh rest v = IsPlain v.0 × rest v.1
PlainWith OneResource rest v = rest v.1
PlainWith OneTask rest v = rest v.1
PlainWith Members rest v = rest v.1
PlainWith Number rest v = rest v.1
PlainWith Length rest v = rest v.1
PlainWith Limit rest v = rest v.1

abbrev ArePlainParts : (fs : List Field) → Values fs → Type 0
ArePlainParts [] v = Unit {0}
ArePlainParts (f ∷ fs) v = PlainWith f (ArePlainParts fs) v

module _ (names : Names) (tables : AreTables names) where
  set_plain : (s : Set) → all_below (length names.resources) s ≡ true → IsPlain (set_text names.resources s)
  unfolding set_text
  set_plain s below = joined_plain (map (name_at names.resources) (rising s)) (members_bytes names.resources tables.resources s below)

  write_plain : (fs : List Field) (v : Values fs) → AllGood names fs v → ArePlainParts fs v → AllByRecursion IsPlain (write names fs v)
  unfolding write
  write_plain [] v good plain = tt
  write_plain (Said word ∷ fs) v good plain = (plain.0, write_plain fs v good plain.1)
  write_plain (Fresh ∷ fs) v good plain = (plain.0, write_plain fs v.1 good plain.1)
  write_plain (OneResource ∷ fs) v good plain =
      (name_plain (name_at names.resources v.0) (name_bytes (name_at names.resources v.0) (is_name_at names.resources tables.resources v.0 good.0)), write_plain fs v.1 good.1 plain)
  write_plain (OneTask ∷ fs) v good plain = (name_plain (name_at names.tasks v.0) (name_bytes (name_at names.tasks v.0) (task_name v.0 good.0)), write_plain fs v.1 good.1 plain)
    where
      task_name : (n : ℕ) → n < length names.tasks → is_name (name_at names.tasks n) ≡ true
      task_name n there = table_name_at SEATS names.tasks (name_at names.tasks n) n tables.tasks (slice_get-get_or names.tasks n [] there)
  write_plain (Members ∷ fs) v good plain = (set_plain v.0 good.0, write_plain fs v.1 good.1 plain)
  write_plain (Number ∷ fs) v good plain = (number_plain v.0 good.0, write_plain fs v.1 good.1 plain)
  write_plain (Length ∷ fs) v good plain = (let short = good.0 in number_plain v.0 (omega (arith, short)), write_plain fs v.1 good.1 plain)
  write_plain (Limit ∷ fs) v good plain = (let high = good.0.1 in number_plain v.0 (omega (arith, high)), write_plain fs v.1 good.1 plain)

  plain_parts : (line : Line) → IsNamedLine line → ArePlainParts (fields_of (word_of line)) (values_of line)
  plain_parts Opens named = (refl, (refl, tt))
  plain_parts (HasResource name) named = (refl, (name_plain name (name_bytes name named), tt))
  plain_parts (HasGroup s) named = (refl, tt)
  plain_parts (HasTask name) named = (refl, (name_plain name (name_bytes name named), tt))
  plain_parts (HasCap n) named = (refl, tt)
  plain_parts (Happens (event.Issue seat r)) named = issue_parts r.kind seat r.reads r.writes r.first r.len r.later
    where
      issue_parts : (kind : Kind) (seat : ℕ) (reads writes first : Set) (len later : ℕ) → ArePlainParts (fields_of (word.Issue kind)) (issue_values kind seat reads writes first len later)
      issue_parts Read seat reads writes first len later = (refl, (refl, tt))
      issue_parts Write seat reads writes first len later = (refl, (refl, tt))
      issue_parts Mixed seat reads writes first len later = (refl, (refl, tt))
      issue_parts Upgrade seat reads writes first len later = (refl, (refl, tt))
      issue_parts Nested seat reads writes first len later = (refl, (refl, tt))
  plain_parts (Happens (event.Finish seat)) named = (refl, tt)
  plain_parts (Happens (event.Rise seat)) named = (refl, tt)
  plain_parts (Happens (event.Ask seat part)) named = (refl, tt)
  plain_parts (Does (Shown place number)) named = (refl, tt)
  plain_parts (Does (Edited place (edit.Add n) true)) named = (refl, (refl, tt))
  plain_parts (Does (Edited place (edit.Add n) false)) named = (refl, (refl, tt))
  plain_parts (Does (Edited place (edit.Take n) true)) named = (refl, (refl, tt))
  plain_parts (Does (Edited place (edit.Take n) false)) named = (refl, (refl, tt))
  plain_parts (Does (Edited place (edit.Set n) true)) named = (refl, (refl, tt))
  plain_parts (Does (Edited place (edit.Set n) false)) named = (refl, (refl, tt))
  plain_parts (BecomesEntitled seat true) named = (refl, (refl, (refl, tt)))
  plain_parts (BecomesEntitled seat false) named = (refl, (refl, (refl, tt)))
  plain_parts (BecomesSatisfied seat true) named = (refl, (refl, (refl, tt)))
  plain_parts (BecomesSatisfied seat false) named = (refl, (refl, (refl, tt)))
  plain_parts (Grants seat s) named = (refl, tt)
  plain_parts (Waits seat stage.First cover bound) named = (refl, (refl, tt))
  plain_parts (Waits seat stage.Rise cover bound) named = (refl, (refl, tt))
  plain_parts (Waits seat stage.Ask cover bound) named = (refl, (refl, tt))
  plain_parts (Leaves place ledger) named = (refl, tt)
  plain_parts Ends named = (refl, tt)

  -- no field of what is spelled of a line needs quotes
  pub spelled_plain : (line : Line) → IsWritable names line → AllByRecursion IsPlain (spelled names line)
  spelled_plain line h = write_plain (fields_of (word_of line)) (values_of line) h.good (plain_parts line h.named)

-- no record is blank
pub not_blank : (names : Names) (w : Word) (v : Values (fields_of w)) → is_blank default_writer (write names (fields_of w) v) ≡ false
unfolding is_blank write
not_blank names word.Version v = refl
not_blank names word.Resource v = refl
not_blank names word.Group v = refl
not_blank names word.Task v = refl
not_blank names word.Cap v = refl
not_blank names (word.Issue Read) v = refl
not_blank names (word.Issue Write) v = refl
not_blank names (word.Issue Mixed) v = refl
not_blank names (word.Issue Upgrade) v = refl
not_blank names (word.Issue Nested) v = refl
not_blank names word.Finish v = refl
not_blank names word.Rise v = refl
not_blank names word.Ask v = refl
not_blank names word.Show v = refl
not_blank names (word.Add done) v = refl
not_blank names (word.Take done) v = refl
not_blank names (word.Put done) v = refl
not_blank names (word.Entitled half) v = refl
not_blank names (word.Satisfied half) v = refl
not_blank names word.Grant v = refl
not_blank names (word.Wait which) v = refl
not_blank names word.Ledger v = refl
not_blank names word.End v = refl
