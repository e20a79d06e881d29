-- The beginning of a text, cut while it is read.
use Rattle.std.specs.Prelude.{◌≡◌, ◌≤◌, ◌<◌, ◌++◌, ◌∷◌, ℕ, Bool, false, List, [], length, nat_le, if◌then◌else◌}
use Rattle.csv.specs.Machine.{Feeds}
use Rattle.csv.specs.Reading.{default_config}
use Rattle.csv.specs.declared.parser.State.{State}
use Rattle.csv.specs.declared.parser.State.TheVariants as st
use Rattle.rtrace_form.specs.Records.{Row}
use Rattle.rshort.specs.declared.cutter.Cutter.{Cutter}
use Rattle.rshort.specs.declared.step.Stand.TheVariants.{QuoteRead}
use Rattle.rshort.specs.Cut.{piece_in, IsCutPart}
use Rattle.rshort.specs.Joints.{KnowsJoint}
use Rattle.rshort.specs.Steps.{state_of}

-- it keeps no more of a record that has as many fields as any record
abbrev pub is_full : Cutter → Bool
is_full cutter = nat_le 9 cutter.fields

-- the state after what is kept: of a full record the beginning of its next field
abbrev pub kept_state : Cutter → State
kept_state cutter = if is_full cutter then st.StartField else state_of cutter.stand

-- *A cutter that has read these bytes*, in which no record ends: what is kept of them leads to the same place of a cut record or, where that is full, to the beginning of a field
pub record HasRead (cutter : Cutter) (bytes : List ℕ) : Type 0 where
  pub row : Row
  pub field : List ℕ
  pub cut : Row
  pub left : List ℕ
  pub whole : Feeds default_config st.StartRecord [] [] bytes (state_of cutter.stand) row field false
  pub kept : Feeds default_config st.StartRecord [] [] cutter.kept.items (kept_state cutter) cut left false
  pub part : IsCutPart row field cut left
  pub few : cutter.piece ≤ piece_in 0 left
  pub same : cutter.field.items ≡ left
  pub joint : KnowsJoint cutter.joint cutter.kept.items cut left
  pub many : cutter.fields ≤ length row
  pub many_kept : cutter.fields ≤ length cut
  pub quoted : cutter.stand ≡ QuoteRead → cutter.fields < 9 → (front : List ℕ) × (cutter.kept.items ≡ front ++ 34 ∷ []) × Feeds default_config st.StartRecord [] [] front st.InQuoted cut left false
