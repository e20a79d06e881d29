-- The text of the line of a wait, in its two pieces: up to its cover, and its bound.
use Rattle.std.specs.Prelude.{ℕ, List, [], ◌∷◌, ◌++◌, codes, decimal}
use Rattle.rbound.specs.Bounds.{Numbers}
use Rattle.rtrace_form.specs.Fields.{Names}
use Rattle.rtrace_form.specs.SetFields.{name_at}
use Rattle.rtrace_form.specs.Texts.{behind_comma}
use Rattle.rtrace_form.specs.Words.{stage_text}
use Rattle.rtrace_form.specs.declared.word.Stage.{Stage}

-- the beginning of the line of a wait: whose it was, which, and its cover
abbrev pub cover_text : Names → ℕ → Stage → Numbers → List ℕ
cover_text names seat stage cover =
    codes "wait," ++ (name_at names.tasks seat ++ (behind_comma (stage_text stage)
    ++ (behind_comma (decimal cover.reads) ++ (behind_comma (decimal cover.writes) ++ behind_comma (decimal cover.units)))))

-- its end: its bound, and the end of the line
abbrev pub bound_text : Numbers → List ℕ
bound_text bound = behind_comma (decimal bound.reads) ++ (behind_comma (decimal bound.writes) ++ (behind_comma (decimal bound.units) ++ 10 ∷ []))
