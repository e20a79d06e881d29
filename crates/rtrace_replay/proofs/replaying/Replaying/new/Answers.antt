use Rattle.std.proofs.Common.{refl, sym, ◌∙◌}
use Rattle.rtrace_form.specs.SoFar.{nothing_yet, head_in, names_in}
use Rattle.rtrace_replay.proofs.Following.{no_text}
use Rattle.rtrace_replay.proofs.replaying.Replaying.new.Goals as goal

pub returns-clause-knows : goal.returns-clause-knows
returns-clause-knows c = record {
  reading = c.new.ensures;
  history = c.new-2.ensures ∙ sym (no_text (head_in nothing_yet) (names_in nothing_yet));
  telling = tt;
  untold = λ none. refl;
}
