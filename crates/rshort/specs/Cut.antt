-- Cut fields and records: bytes are left out of them that cannot change what they mean, or what is wrong with them.
use Rattle.std.specs.Prelude.{◌≡◌, ◌<◌, ◌≤◌, ◌+◌, ◌==◌, ◌⊎◌, ℕ, Bool, zero, suc, true, false, List, [], ◌∷◌, ◌++◌, length, take, drop, if◌then◌else◌}
use Rattle.std.specs.List.{list_any, slice_split, IsDistinct}
use Rattle.std.specs.Set.{is_member}
use Rattle.csv.specs.Reading.{AreRecords, default_config}
use Rattle.csv.specs.declared.parser.State.TheVariants as st
use Rattle.rset.specs.Names.{same_name}
use Rattle.rset.specs.declared.TheConstants.{RESOURCES}
use Rattle.rtrace_form.specs.Records.{Row, AreRowsOf}

-- the length of a piece after one byte more; a field that names no set is one piece
abbrev pub piece_after : ℕ → ℕ → ℕ
piece_after n c = if c == 43 then 0 else n + 1

-- *A field without bytes*: each byte that is left out comes after more than 20 bytes of its piece; n bytes of the piece come before the field
abbrev pub LacksBytes : ℕ → List ℕ → List ℕ → Type 0
LacksBytes n [] cut = cut ≡ []
LacksBytes n (c ∷ field) cut = ((20 < n) × ((c == 43) ≡ false) × LacksBytes n field cut) ⊎ ((rest : List ℕ) × (cut ≡ c ∷ rest) × LacksBytes (piece_after n c) field rest)

-- whether bytes have a `+`
abbrev pub has_joint : List ℕ → Bool
has_joint = list_any (λ b. b == 43)

-- the pieces of a field, which are joined by `+`
abbrev pub pieces_of : List ℕ → List (List ℕ)
pieces_of = slice_split (λ b. b == 43)

-- one of these pieces
abbrev pub is_among : List (List ℕ) → List ℕ → Bool
is_among pieces = is_member same_name pieces

-- so many of these pieces differ
pub record Differ (many : ℕ) (pieces : List (List ℕ)) : Type 0 where
  pub some : List (List ℕ)
  pub differ : IsDistinct same_name some
  pub among : (piece : List ℕ) → is_among some piece ≡ true → is_among pieces piece ≡ true
  pub enough : many ≤ length some

-- *A field without a piece*: two pieces come before it, and it is one of those before, or so many of them differ that one is no resource
pub record LacksPiece (field cut : List ℕ) : Type 0 where
  pub front : List ℕ
  pub piece : List ℕ
  pub rest : List ℕ
  pub whole : field ≡ front ++ 43 ∷ (piece ++ 43 ∷ rest)
  pub left : cut ≡ front ++ 43 ∷ rest
  pub two : has_joint front ≡ true
  pub one : has_joint piece ≡ false
  pub nothing : (is_among (pieces_of front) piece ≡ true) ⊎ Differ (suc RESOURCES) (pieces_of front)

-- bytes or a piece were left out this many times
abbrev pub IsCutTimes : ℕ → List ℕ → List ℕ → Type 0
IsCutTimes zero field cut = field ≡ cut
IsCutTimes (suc n) field cut = (mid : List ℕ) × IsCutTimes n field mid × (LacksBytes 0 mid cut ⊎ LacksPiece mid cut)

-- *A cut field*
abbrev pub IsCut : List ℕ → List ℕ → Type 0
IsCut field cut = (n : ℕ) × IsCutTimes n field cut

-- each field of a record is cut
abbrev pub AreCut : Row → Row → Type 0
AreCut [] cut = cut ≡ []
AreCut (field ∷ row) cut = (first : List ℕ) × (rest : Row) × (cut ≡ first ∷ rest) × IsCut field first × AreCut row rest

-- more fields than a record may have
abbrev pub HasTooMany : Row → Type 0
HasTooMany row = 9 < length row

-- *A cut record*: each of its fields is cut, or it has too many fields and so has what is kept
abbrev pub IsCutRow : Row → Row → Type 0
IsCutRow row cut = AreCut row cut ⊎ (HasTooMany row × HasTooMany cut)

-- each of these records is cut
abbrev pub AreCutRows : List Row → List Row → Type 0
AreCutRows [] cut = cut ≡ []
AreCutRows (row ∷ rows) cut = (first : Row) × (rest : List Row) × (cut ≡ first ∷ rest) × IsCutRow row first × AreCutRows rows rest

-- the length of the last piece of a field, whose first n bytes come before it
abbrev pub piece_in : ℕ → List ℕ → ℕ
piece_in n [] = n
piece_in n (c ∷ field) = piece_in (piece_after n c) field

-- *A cut part of a record*: its whole fields and its last field are cut, or it has too many fields for a record, and so has what is kept
abbrev pub IsCutPart : Row → List ℕ → Row → List ℕ → Type 0
IsCutPart row field cut short = (AreCut row cut × IsCut field short) ⊎ ((9 ≤ length row) × (9 ≤ length cut))

-- *A cut text*: whatever follows both, its records are those of the whole text, cut
abbrev pub IsCutText : List ℕ → List ℕ → Type 0
IsCutText bytes short = (more : List ℕ) (cut : List Row) → AreRecords default_config st.StartRecord (short ++ more) cut
    → (rows : List Row) × AreRecords default_config st.StartRecord (bytes ++ more) rows × AreCutRows rows cut

-- *A shortened beginning of a text*: whatever follows both, its records are those of the whole text, cut
abbrev pub IsShortened : List ℕ → List ℕ → Type 0
IsShortened bytes short = (more : List ℕ) (cut : List Row) → AreRowsOf (short ++ more) cut → (rows : List Row) × AreRowsOf (bytes ++ more) rows × AreCutRows rows cut

-- *A place where the beginning of a text may be cut in two*: whatever follows, the records of the text are those of both parts
abbrev pub MayBeCut : List ℕ → ℕ → Type 0
MayBeCut bytes at = (more : List ℕ) (rows after : List Row) → AreRowsOf (take at bytes) rows → AreRowsOf (drop at bytes ++ more) after → AreRowsOf (bytes ++ more) (rows ++ after)
