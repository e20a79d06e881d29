-- What is written of lines that may be written says these lines.
use Rattle.std.proofs.Common.{◌≡◌, true, List, [], ◌∷◌, map, Some}
use Rattle.std.specs.List.{AllByRecursion, AllZip}
use Rattle.rtrace_form.specs.Fields.{Names, AreTables}
use Rattle.rtrace_form.specs.Lines.{Line, IsWritable, meaning, spelled}
use Rattle.rtrace_form.proofs.lines.LineBack.{meaning_back}

pub said_back : (names : Names) → AreTables names → (lines : List Line) → AllByRecursion (IsWritable names) lines
    → AllZip (λ row line. meaning true names row ≡ Some line) (map (spelled names) lines) lines
said_back names tables [] all = tt
said_back names tables (line ∷ lines) all = (meaning_back names line tables all.0, said_back names tables lines all.1)
