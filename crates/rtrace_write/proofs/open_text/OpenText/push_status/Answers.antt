use Rattle.std.proofs.Common.{◌≡◌, ◌++◌, OnOk, sym, subst}
use Rattle.std.specs.Prelude.{List, Option, ℕ}
use Rattle.rtrace_form.specs.Reports.{status_lines}
use Rattle.rtrace_write.specs.Gaps.{with_gaps}
use Rattle.rtrace_write.specs.Told.{told}
use Rattle.rtrace_write.proofs.Opening.{still_rising, grown_open, stays_open, status_open}
use Rattle.rtrace_write.proofs.open_text.OpenText.push_status.Goals as goal

pub invariant_of-self : goal.invariant_of-self
invariant_of-self c =
    still_rising c.push_status.result c.self.inside.gaps.items c.self.inside.page c.push_status.new.self (told c.args.names.now (status_lines c.args.change.now.seat c.args.change.now.write_half c.args.change.now.status))
    c.push_status.ensures.ok c.push_status.ensures.err c.self.invariant

pub returns-clause-ok : goal.returns-clause-ok
returns-clause-ok c =
    subst (λ (more : List (Option ℕ)). OnOk c.push_status.result (with_gaps 0 c.self.inside.gaps.items c.push_status.new.self ≡ c.args.self.now ++ more))
    (sym (status_open c.args.names.now c.args.change.now.seat c.args.change.now.write_half c.args.change.now.status))
    (grown_open c.push_status.result c.self.inside.gaps.items c.self.inside.page c.push_status.new.self (told c.args.names.now (status_lines c.args.change.now.seat c.args.change.now.write_half c.args.change.now.status))
    c.args.self.now c.self.view_is c.self.invariant c.push_status.ensures.ok)

pub returns-clause-err : goal.returns-clause-err
returns-clause-err c = stays_open c.push_status.result c.self.inside.gaps.items c.self.inside.page c.push_status.new.self (told c.args.names.now (status_lines c.args.change.now.seat c.args.change.now.write_half c.args.change.now.status)) c.args.self.now c.self.view_is c.push_status.ensures.err
