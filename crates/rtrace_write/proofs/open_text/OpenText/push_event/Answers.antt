use Rattle.rtrace_form.specs.Lines.{Happens}
use Rattle.rtrace_write.specs.Told.{told_line}
use Rattle.rtrace_write.proofs.Opening.{still_rising, grown_open, stays_open}
use Rattle.rtrace_write.proofs.open_text.OpenText.push_event.Goals as goal

pub invariant_of-self : goal.invariant_of-self
invariant_of-self c = still_rising c.push_event.result c.self.inside.gaps.items c.self.inside.page c.push_event.new.self (told_line c.args.names.now (Happens c.args.event.now)) c.push_event.ensures.ok c.push_event.ensures.err c.self.invariant

pub returns-clause-ok : goal.returns-clause-ok
returns-clause-ok c = grown_open c.push_event.result c.self.inside.gaps.items c.self.inside.page c.push_event.new.self (told_line c.args.names.now (Happens c.args.event.now)) c.args.self.now c.self.view_is c.self.invariant c.push_event.ensures.ok

pub returns-clause-err : goal.returns-clause-err
returns-clause-err c = stays_open c.push_event.result c.self.inside.gaps.items c.self.inside.page c.push_event.new.self (told_line c.args.names.now (Happens c.args.event.now)) c.args.self.now c.self.view_is c.push_event.ensures.err
