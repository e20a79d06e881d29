-- The joints of the last field that is kept.
use Rattle.std.specs.Prelude.{◌≡◌, ◌<◌, ◌⊎◌, ◌++◌, ◌∷◌, ℕ, false, List, [], length}
use Rattle.csv.specs.Machine.{Feeds, fields_after, field_after}
use Rattle.csv.specs.Reading.{default_config}
use Rattle.csv.specs.declared.parser.State.TheVariants as st
use Rattle.rtrace_form.specs.Records.{Row}
use Rattle.rshort.specs.declared.joint.Joint.{Joint}
use Rattle.rshort.specs.Cut.{has_joint, pieces_of, Differ}
use Rattle.rshort.specs.declared.step.Stand.{Stand}
use Rattle.rshort.specs.declared.step.Does.{Does}
use Rattle.rshort.specs.Steps.{state_of, action_of}

-- the last joint of a field: these bytes of what is kept come before it, and this front of the field
pub record IsLastJoint (joint : Joint) (kept : List ℕ) (cut : Row) (left : List ℕ) : Type 0 where
  pub there : 0 < joint.different
  pub before : List ℕ
  pub rest : List ℕ
  pub kept_is : kept ≡ before ++ 43 ∷ rest
  pub kept_before : length before ≡ joint.kept
  pub front : List ℕ
  pub piece : List ℕ
  pub left_is : left ≡ front ++ 43 ∷ piece
  pub left_before : length front ≡ joint.field
  pub one : has_joint piece ≡ false
  pub fed : Feeds default_config st.StartRecord [] [] before (state_of joint.stand) cut front false
  pub differ : Differ joint.different (pieces_of front)

-- what is known of the last joint of a field, or that it has none
abbrev pub KnowsJoint : Joint → List ℕ → Row → List ℕ → Type 0
KnowsJoint joint kept cut left = ((joint.different ≡ 0) × (has_joint left ≡ false)) ⊎ IsLastJoint joint kept cut left

-- a byte is kept, of which this joint becomes the last one: what is known stays known, where the field was this and so many bytes were kept
abbrev pub BecomesLast : Joint → Joint → Stand → ℕ → Does → List ℕ → ℕ → Type 0
BecomesLast joint later stand c does left kept = (bytes : List ℕ) (cut : Row) → Feeds default_config st.StartRecord [] [] bytes (state_of stand) cut left false → length bytes ≡ kept → KnowsJoint joint bytes cut left
    → KnowsJoint later (bytes ++ c ∷ []) (fields_after (action_of does) cut left) (field_after (action_of does) c left)
