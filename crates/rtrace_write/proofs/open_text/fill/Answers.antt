use Rattle.std.proofs.Common.{ℕ, List, ◌++◌, map, sym, ap, subst, ◌∙◌, arith}
use Rattle.rcover_laws.specs.declared.wait_end.WaitEnd.{WaitEnd}
use Rattle.rcover.specs.Past.{Past}
use Rattle.rtrace_write.specs.Behind.{bound_by}
use Rattle.rtrace_write.proofs.Filling.{IsFilled, none_filled, gap_within, end_within, fill_more, fill_end, rest_is}
use Rattle.rtrace_write.proofs.Gathering.{bounds_many}
use Rattle.rtrace_write.proofs.open_text.fill.Goals as goal

pub loop-number-init : goal.loop-number-init
loop-number-init c = λ p ws known.
    subst (λ (sofar : List ℕ). IsFilled (map (bound_by p) ws) c.args.gaps.now c.args.text.now 0 0 sofar) (sym c.in_ok-closed.ensures.items)
    (none_filled (map (bound_by p) ws) c.args.gaps.now c.args.text.now c.requires.rising)

pub bound-requires : goal.bound-requires
bound-requires c =
    let r = c.requires.each in
    (r.0, r.1, r.2, omega (arith, r.3, c.loop-number-test.true))

pub push_part-requires : goal.push_part-requires
push_part-requires c =
    let r = c.requires.each in
    let p : Past = r.0 in
    let ws : List WaitEnd = r.1 in
    let many = bounds_many p ws c.args.gathered.now.keys.items r.2.known.keys p ws c.args.gaps.now r.2.known.keys r.3 in
    gap_within (map (bound_by p) ws) c.args.gaps.now c.args.text.now many c.loop-number.number c.loop-number.at c.loop-number.closed.items (c.loop-number.invariant p ws r.2) c.loop-number-test.true

pub loop-number-preserved : goal.loop-number-preserved
loop-number-preserved c = λ p ws known.
    let r = c.requires.each in
    let many = bounds_many r.0 r.1 c.args.gathered.now.keys.items r.2.known.keys p ws c.args.gaps.now known.known.keys r.3 in
    fill_more (map (bound_by p) ws) c.args.gaps.now c.args.text.now many c.loop-number.number c.loop-number.at c.loop-number.closed.items (c.loop-number.invariant p ws known)
    _ c.push_part.new.closed.items c.loop-number-test.true (c.bound.ensures p ws known) c.in_ok-push_part.ensures

pub returns : goal.returns
returns c = λ p ws known.
    let r = c.requires.each in
    let many = bounds_many r.0 r.1 c.args.gathered.now.keys.items r.2.known.keys p ws c.args.gaps.now known.known.keys r.3 in
    let inside = end_within (map (bound_by p) ws) c.args.gaps.now c.args.text.now many c.loop-number.number c.loop-number.at c.loop-number.closed.items (c.loop-number.invariant p ws known) in
    c.of.ensures
    ∙ fill_end (map (bound_by p) ws) c.args.gaps.now c.args.text.now many c.loop-number.number c.loop-number.at c.loop-number.closed.items (c.loop-number.invariant p ws known)
    c.extend_from_slice.new.self.items (omega (arith, c.loop-number-test.false, c.loop-number.auto.number-end))
    (c.in_ok-extend_from_slice.ensures.items ∙ ap (λ (t : List ℕ). c.loop-number.closed.items ++ t) (rest_is c.loop-number.at c.args.text.now inside))
