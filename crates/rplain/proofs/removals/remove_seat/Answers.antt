use Rattle.std.proofs.Common.{rules, not, ◌==◌}
use Rattle.std.proofs.lemmas.Fn.{filter_same}
use Rattle.rplain.proofs.removals.remove_seat.Goals as goal

pub returns-clause-items : goal.returns-clause-items
returns-clause-items c =
    filter_same _ (λ x. not (x.claim.seat == c.args.seat)) _ (λ x b f' k. search rules) c.args.claims.now.items c.retain.new.self.items c.retain.ensures.filtered
