-- The text of lines whose bounds are not known yet.
use Rattle.std.specs.Prelude.{◌≡◌, ℕ, List, [], ◌∷◌, ◌++◌, flat_map, Option, None}
use Rattle.std.specs.List.{filter_map}
use Rattle.rbound.specs.Bounds.{Numbers}
use Rattle.rtrace_form.specs.Fields.{Names}
use Rattle.rtrace_form.specs.Lines.{Line, Waits}
use Rattle.rtrace_form.specs.WrongBounds.{bound_told}
use Rattle.rtrace_write.specs.Told.{told_line}
use Rattle.rtrace_write.specs.Waits.{cover_text}
use Rattle.rtrace_write.specs.Gaps.{solid}

-- the text of one line; in that of a wait a gap takes the place of its bound
abbrev pub open_line : Names → Line → List (Option ℕ)
open_line names (Waits seat stage cover bound) = solid (cover_text names seat stage cover) ++ None ∷ []
open_line names line = solid (told_line names line)

-- the text of lines, one after another, whatever their bounds
abbrev pub open_told : Names → List Line → List (Option ℕ)
open_told names lines = flat_map (open_line names) lines

-- a text grew by the first of these lines, and by nothing else
pub record GrewBySome (names : Names) (old new : List (Option ℕ)) (lines : List Line) : Type 0 where
  pub first : List Line
  pub rest : List Line
  pub are : lines ≡ first ++ rest
  pub grown : new ≡ old ++ open_told names first

-- the bounds on these lines, in their order
abbrev pub bounds_of : List Line → List Numbers
bounds_of lines = filter_map bound_told lines
