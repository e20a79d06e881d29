use Rattle.std.proofs.Common.{◌≡◌, ◌+◌, List, ℕ, length}
use Rattle.rtrace_form.specs.Records.{Row}
use Rattle.rtrace_form.specs.Takers.{IsFresh}
use Rattle.rtrace_form.proofs.texts.Place.{IsAt}
use Rattle.rtrace_form.proofs.taker.take_rows.Given as goal

abbrev pub invariant-loop-line : goal.invariant-loop-line
invariant-loop-line g l =
    (bytes : List ℕ) → IsFresh bytes l.fn.reader → (earlier : List Row) → g.T.Records.knows l.fn.taker earlier → length earlier + 1 ≡ l.fn.from
    → (before : List Row) × (left : List ℕ) × IsAt g.T.Records.code g.T.Records.is_done g.T.Records.no_end g.T.Records.knows earlier bytes l.reader l.taker l.line before left
