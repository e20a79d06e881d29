use Rattle.std.proofs.Common.{◌∙◌, arith, length-drop}
use Rattle.std.proofs.lemmas.Grind.{common_steps}
use Rattle.std.proofs.lemmas.List.{take_rest}
use Rattle.io_ends.proofs.Appending.{Appends-more}
use Rattle.io_ends.proofs.writing.write_all.Goals as goal

pub loop-done-preserved : goal.loop-done-preserved
loop-done-preserved g c =
    let bytes = c.args.bytes.now in
    let done = c.loop-done.done in
    let before = c.loop-done.invariant in
    let taken = c.in_ok-taken.ensures.taken in
    record {
      within = omega (arith, taken.fits, before.within, length-drop done bytes);
      written = Appends-more _ _ _ bytes done c.in_ok-taken.taken before.written (rw (take_rest bytes done) at taken.told);
      quiet = c.in_ok-taken.ensures.quiet ∙ before.quiet;
    }

pub returns-clause-whole : goal.returns-clause-whole
returns-clause-whole g c = grind (arith, common_steps)
