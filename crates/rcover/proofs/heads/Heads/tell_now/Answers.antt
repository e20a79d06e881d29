use Rattle.std.proofs.Common.{ap, ◌∙◌}
use Rattle.std.specs.FinSet.{contains}
use Rattle.rset.specs.Sets.{Set}
use Rattle.rset.proofs.SetMembers.{contains_empty}
use Rattle.rcover.proofs.heads.Heads.tell_now.Goals as goal

pub note_writes-requires-clause-told : goal.note_writes-requires-clause-told
note_writes-requires-clause-told c = record { seats = λ seat. ap (λ (s : Set). contains s seat) c.empty-self.ensures ∙ contains_empty seat; shares = tt }
