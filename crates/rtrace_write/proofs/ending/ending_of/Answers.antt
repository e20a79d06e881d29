use Rattle.std.proofs.Common.{[], ◌∷◌, ◌++◌, sym, ap, ◌∙◌}
use Rattle.rtrace_form.specs.Lines.{Ends}
use Rattle.rtrace_write.specs.Told.{told, leaves_from}
use Rattle.rtrace_write.proofs.Growing.{told-one, grown}
use Rattle.rtrace_write.proofs.Rows.{ends_is}
use Rattle.rtrace_write.proofs.ending.ending_of.Goals as goal

pub returns : goal.returns
returns c =
    grown c.args.names.now [] c.push_ledgers.new.page c.push.new.self (leaves_from 0 c.args.ledgers.now) (Ends ∷ [])
    (c.in_ok-push_ledgers.ensures ∙ ap (λ t. t ++ told c.args.names.now (leaves_from 0 c.args.ledgers.now)) c.new-page.ensures)
    (c.in_ok-push.ensures.ok ∙ ap (λ t. c.push_ledgers.new.page ++ t) (sym (told-one c.args.names.now Ends ∙ ends_is c.args.names.now)))
