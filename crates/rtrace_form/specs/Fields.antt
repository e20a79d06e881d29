-- Fields of records: what a field of each kind says, and how what it says is spelled. All texts have these.
use Rattle.std.specs.Prelude.{◌≡◌, ℕ, ◌≤◌, ◌<◌, ◌^◌, Bool, true, false, not, ◌&&◌, List, [], ◌∷◌, length, Option, Some, None, is_none, option_map, option_and_then, decimal, IsTrue}
use Rattle.std.specs.Str.{bytes_eq}
use Rattle.rset.specs.declared.TheConstants.{RESOURCES, SEATS}
use Rattle.rset.specs.Names.{number_in, is_table}
use Rattle.rset.specs.Sets.{Set, all_below}
use Rattle.rclaim.specs.declared.TheConstants.{LENGTH_LIMIT}
use Rattle.rtrace_form.specs.Records.{Row}
use Rattle.rtrace_form.specs.Numbers.{is_number, number_told, length_told, cap_told}
use Rattle.rtrace_form.specs.SetFields.{set_told, set_text, name_at}

-- the names that a text declares, each numbered from 0 by its place
pub record Names : Type 0 where
  pub resources : List (List ℕ)
  pub tasks : List (List ℕ)

-- names that may be declared: those of each kind are names, and differ
pub record AreTables (names : Names) : Type 0 where
  pub resources : is_table RESOURCES names.resources ≡ true
  pub tasks : is_table SEATS names.tasks ≡ true

-- what a field may be: exactly this word, a name that it declares, a resource, a task, a set of resources, a number, a length or a cap
pub data Field : Type 0 where
  Said : List ℕ → Field
  Fresh : Field
  OneResource : Field
  OneTask : Field
  Members : Field
  Number : Field
  Length : Field
  Limit : Field

-- what a field says, before what those after it say; a word says nothing more
abbrev pub With : Field → Type 0 → Type 0
With (Said word) Rest = Rest
With Fresh Rest = List ℕ × Rest
With OneResource Rest = ℕ × Rest
With OneTask Rest = ℕ × Rest
With Members Rest = Set × Rest
With Number Rest = ℕ × Rest
With Length Rest = ℕ × Rest
With Limit Rest = ℕ × Rest

-- what the fields of a record say together
abbrev pub Values : List Field → Type 0
Values [] = Unit {0}
Values (f ∷ fs) = With f (Values fs)

-- ---- form

-- a record has this many fields
abbrev pub is_as_long : List Field → Row → Bool
is_as_long [] [] = true
is_as_long [] (x ∷ row) = false
is_as_long (f ∷ fs) [] = false
is_as_long (f ∷ fs) (x ∷ row) = is_as_long fs row

-- a field is the word that it must be
abbrev pub is_said : Field → List ℕ → Bool
is_said (Said word) x = bytes_eq x word
is_said _ x = true

-- each field is the word that it must be
abbrev pub are_said : List Field → Row → Bool
are_said [] row = true
are_said (f ∷ fs) [] = true
are_said (f ∷ fs) (x ∷ row) = is_said f x && are_said fs row

-- a record has these fields: this many, and the words where they must be
unfoldable pub has_form : List Field → Row → Bool
has_form fs row = is_as_long fs row && are_said fs row

-- ---- what is wrong with fields

-- a field that must be a number is one, within its limit
abbrev pub is_counted : Field → List ℕ → Bool
is_counted Number x = is_number x
is_counted Length x = not (is_none (length_told x))
is_counted Limit x = not (is_none (cap_told x))
is_counted _ x = true

-- each field that must be a number is one
unfoldable pub all_counted : List Field → Row → Bool
all_counted [] row = true
all_counted (f ∷ fs) [] = true
all_counted (f ∷ fs) (x ∷ row) = is_counted f x && all_counted fs row

-- a field that must name something declared does
abbrev pub is_known : Names → Field → List ℕ → Bool
is_known names OneResource x = not (is_none (number_in names.resources x))
is_known names OneTask x = not (is_none (number_in names.tasks x))
is_known names Members x = not (is_none (set_told names.resources x))
is_known names _ x = true

-- each field that must name something declared does
unfoldable pub all_known : Names → List Field → Row → Bool
all_known names [] row = true
all_known names (f ∷ fs) [] = true
all_known names (f ∷ fs) (x ∷ row) = is_known names f x && all_known names fs row

-- ---- reading and writing

-- both, where both are there
abbrev pub paired : {X Y : Type 0} → Option X → Option Y → Option (X × Y)
paired x rest = option_and_then (λ a. option_map (λ b. (a, b)) rest) x

-- what a field says, before what those after it say
abbrev pub read_with : {Rest : Type 0} → Names → (f : Field) → List ℕ → Option Rest → Option (With f Rest)
read_with names (Said word) x rest = rest
read_with names Fresh x rest = option_map (λ b. (x, b)) rest
read_with names OneResource x rest = paired (number_in names.resources x) rest
read_with names OneTask x rest = paired (number_in names.tasks x) rest
read_with names Members x rest = paired (set_told names.resources x) rest
read_with names Number x rest = paired (number_told x) rest
read_with names Length x rest = paired (length_told x) rest
read_with names Limit x rest = paired (cap_told x) rest

-- what the fields of a record say, by the names that are declared
unfoldable pub read : Names → (fs : List Field) → Row → Option (Values fs)
read names [] [] = Some tt
read names [] (x ∷ row) = None
read names (f ∷ fs) [] = None
read names (f ∷ fs) (x ∷ row) = read_with names f x (read names fs row)

-- the field that says this, before those after it
abbrev pub write_with : {Rest : Type 0} → Names → (f : Field) → (Rest → Row) → With f Rest → Row
write_with names (Said word) rest v = word ∷ rest v
write_with names Fresh rest v = v.0 ∷ rest v.1
write_with names OneResource rest v = name_at names.resources v.0 ∷ rest v.1
write_with names OneTask rest v = name_at names.tasks v.0 ∷ rest v.1
write_with names Members rest v = set_text names.resources v.0 ∷ rest v.1
write_with names Number rest v = decimal v.0 ∷ rest v.1
write_with names Length rest v = decimal v.0 ∷ rest v.1
write_with names Limit rest v = decimal v.0 ∷ rest v.1

-- the record that says this, in its one spelling
unfoldable pub write : Names → (fs : List Field) → Values fs → Row
write names [] v = []
write names (f ∷ fs) v = write_with names f (write names fs) v

-- what a field says may be written: it is about declared names, and a number is within its limit
abbrev pub GoodWith : {Rest : Type 0} → Names → (f : Field) → (Rest → Type 0) → With f Rest → Type 0
GoodWith names (Said word) rest v = rest v
GoodWith names Fresh rest v = rest v.1
GoodWith names OneResource rest v = (v.0 < length names.resources) × rest v.1
GoodWith names OneTask rest v = (v.0 < length names.tasks) × rest v.1
GoodWith names Members rest v = IsTrue (all_below (length names.resources) v.0) × rest v.1
GoodWith names Number rest v = (v.0 < 2 ^ 64) × rest v.1
GoodWith names Length rest v = (v.0 ≤ LENGTH_LIMIT) × rest v.1
GoodWith names Limit rest v = ((1 ≤ v.0) × (v.0 ≤ SEATS)) × rest v.1

-- what fields say together may be written
abbrev pub AllGood : Names → (fs : List Field) → Values fs → Type 0
AllGood names [] v = Unit {0}
AllGood names (f ∷ fs) v = GoodWith names f (AllGood names fs) v
