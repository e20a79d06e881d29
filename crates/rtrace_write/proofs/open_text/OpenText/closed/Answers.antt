use Rattle.std.proofs.Common.{ℕ, List, map, length, ap, sym, ◌∙◌}
use Rattle.std.proofs.lemmas.Bool.{eqb-true}
use Rattle.std.specs.Vec.{vec_len}
use Rattle.rtrace_write.specs.Behind.{bound_by}
use Rattle.rtrace_write.specs.Gaps.{gaps_in, filled}
use Rattle.rtrace_write.proofs.Gaps.{gaps_are, no_gap}
use Rattle.rtrace_write.proofs.open_text.OpenText.closed.Goals as goal

pub returns-then-is_empty : goal.returns-then-is_empty
returns-then-is_empty c = λ p ws known groups cap.
    no_gap c.self.inside.gaps.items c.self.inside.page (map (bound_by p) ws) (sym c.self.inside.gaps.ok.0 ∙ eqb-true (vec_len c.self.inside.gaps) 0 (sym c.if-is_empty.ensures))
    ∙ ap (filled (map (bound_by p) ws)) c.self.view_is

pub bounds-requires : goal.bounds-requires
bounds-requires c = let r = c.requires in (r.0, r.1, r.2, r.3, r.4, r.5)

pub fill-requires-clause-each : goal.fill-requires-clause-each
fill-requires-clause-each c =
    let r = c.requires in
    let gaps = ap gaps_in (sym c.self.view_is) ∙ gaps_are 0 c.self.inside.gaps.items c.self.inside.page ∙ ap (λ (xs : List ℕ). length xs) (sym c.deref.ensures.value) in
    (r.0, r.1, c.in_ok-bounds.ensures r.0 r.1 r.2 r.3 r.4, r.6 ∙ gaps)
