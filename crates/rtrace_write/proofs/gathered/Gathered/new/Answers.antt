use Rattle.std.proofs.Common.{List, [], sym, subst}
use Rattle.std.specs.List.{AllZip}
use Rattle.rbound_history.specs.declared.key.BoundKey.{BoundKey}
use Rattle.rcover.specs.Past.{begun}
use Rattle.rtrace_write.specs.Gathered.{HadKeyIn}
use Rattle.rtrace_write.proofs.gathered.Gathered.new.Goals as goal

pub returns : goal.returns
returns c = λ groups cap. record { accepted = tt; needs = c.in_ok-new.ensures; keys = subst (λ (keys : List BoundKey). AllZip (HadKeyIn (begun groups c.args.tasks cap)) [] keys) (sym c.new-2.ensures.items) tt }
