-- The line of the fault of a script, as it is made.
use Rattle.std.proofs.Common.{◌≡◌, ℕ, [], ◌∷◌, ◌++◌, codes, decimal, append_assoc}
use Rattle.rscript.specs.Codes.{code_number}
use Rattle.rscript.specs.declared.code.ScriptCode.{ScriptCode}
use Rattle.rnlp_cli.specs.Outputs.{script_line}

pub line_is : (line : ℕ) (code : ScriptCode) → script_line line code ≡ (((codes "error," ++ decimal line) ++ (44 ∷ [])) ++ decimal (code_number code)) ++ (10 ∷ [])
line_is line code = simp append_assoc
