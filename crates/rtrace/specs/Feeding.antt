-- What a taker knows of a text whose beginning was taken, while some of it is held.
use Rattle.std.specs.Prelude.{◌≡◌, ◌+◌, ◌⊎◌, ℕ, Bool, List, ◌++◌, length, Option}
use Rattle.rtrace_form.specs.Records.{Row, AreRowsOf}
use Rattle.rtrace_form.specs.Takers.{AreGood, fault_of, StandsAt}
use Rattle.rshort.specs.Cut.{AreCutRows}

-- of this text some is held; the records before that were taken, maybe cut, and have no fault; whatever follows, they and the records of what is held and follows are those of the text, cut
pub record IsFed {C T : Type 0} (code : List Row → Row → Option C) (Knows : T → List Row → Type 0) (text held : List ℕ) (taker : T) (line : ℕ) : Type 0 where
  pub rows : List Row
  pub knows : Knows taker rows
  pub clean : AreGood code rows
  pub counted : length rows + 1 ≡ line
  pub joins : (more : List ℕ) (after : List Row) → AreRowsOf (held ++ more) after → (whole : List Row) × AreRowsOf (text ++ more) whole × AreCutRows whole (rows ++ after)

-- cut records have the first fault of the whole ones
abbrev pub FaultsStay : {C : Type 0} → (List Row → Row → Option C) → (List Row → Bool) → C → Type 0
FaultsStay code is_done no_end = (rows cut : List Row) → AreCutRows rows cut → fault_of code is_done no_end rows ≡ fault_of code is_done no_end cut

-- a taker that knows cut records without a fault knows the whole ones
abbrev pub KnowledgeStays : {C T : Type 0} → (List Row → Row → Option C) → (T → List Row → Type 0) → Type 0
KnowledgeStays {T = T} code Knows = (taker : T) (rows cut : List Row) → AreCutRows rows cut → AreGood code cut → Knows taker cut → Knows taker rows

-- the taker knows the first records of a text
abbrev pub KnowsFront : {T : Type 0} → (T → List Row → Type 0) → List ℕ → T → Type 0
KnowsFront Knows text taker = (rows : List Row) × (after : List Row) × AreRowsOf text (rows ++ after) × Knows taker rows

-- where a source breaks off after a text: the taker knows its first records, or stands where one of them was refused
abbrev pub StandsBrokenOff : {T : Type 0} → (T → List Row → Type 0) → (T → T → Type 0) → List ℕ → T → Type 0
StandsBrokenOff Knows Stays text taker = KnowsFront Knows text taker ⊎ ((line : ℕ) × StandsAt Knows Stays text line taker)
