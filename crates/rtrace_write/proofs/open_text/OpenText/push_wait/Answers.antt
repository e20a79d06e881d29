use Rattle.std.proofs.Common.{ℕ, List, ◌++◌, ◌∷◌, [], ap, ◌∙◌}
use Rattle.rtrace_form.specs.Waits.{stage_of, cover_of}
use Rattle.rtrace_write.specs.Waits.{cover_text}
use Rattle.rtrace_write.specs.Gaps.{with_gaps}
use Rattle.rtrace_write.proofs.Opening.{still_rising, gap_put, gap_rising}
use Rattle.rtrace_write.proofs.Results.{always_on_err}
use Rattle.rtrace_write.proofs.open_text.OpenText.push_wait.Goals as goal

pub invariant_of-self-in_err-push_cover : goal.invariant_of-self-in_err-push_cover
invariant_of-self-in_err-push_cover c =
    rw c.reserve.ensures.items
    (still_rising c.push_cover.result c.self.inside.gaps.items c.self.inside.page c.push_cover.new.self (cover_text c.args.names.now c.args.wait.now.seat (stage_of c.args.wait.now.which) (cover_of c.args.wait.now))
    c.push_cover.ensures.ok c.push_cover.ensures.err c.self.invariant)

pub invariant_of-self-2 : goal.invariant_of-self-2
invariant_of-self-2 c =
    gap_rising c.self.inside.gaps.items c.push_reserved.new.self.items c.self.inside.page c.push_cover.new.self (cover_text c.args.names.now c.args.wait.now.seat (stage_of c.args.wait.now.which) (cover_of c.args.wait.now))
    c.self.invariant c.in_ok-push_cover.ensures.ok (c.push_reserved.ensures.items ∙ (λ i. c.in_ok-reserve.ensures.items i ++ c.len.ensures i ∷ []))

pub returns-clause-ok : goal.returns-clause-ok
returns-clause-ok c =
    gap_put c.self.inside.gaps.items c.push_reserved.new.self.items c.self.inside.page c.push_cover.new.self (cover_text c.args.names.now c.args.wait.now.seat (stage_of c.args.wait.now.which) (cover_of c.args.wait.now))
    c.args.self.now c.self.view_is c.self.invariant c.in_ok-push_cover.ensures.ok (c.push_reserved.ensures.items ∙ (λ i. c.in_ok-reserve.ensures.items i ++ c.len.ensures i ∷ []))

pub returns-in_err-reserve-clause-err : goal.returns-in_err-reserve-clause-err
returns-in_err-reserve-clause-err c = always_on_err _ (ap (λ (gaps : List ℕ). with_gaps 0 gaps c.self.inside.page) c.in_err-reserve.ensures.items ∙ c.self.view_is)

pub returns-in_err-push_cover-clause-err : goal.returns-in_err-push_cover-clause-err
returns-in_err-push_cover-clause-err c = always_on_err _ ((λ i. with_gaps 0 (c.in_ok-reserve.ensures.items i) (c.in_err-push_cover.ensures.err i)) ∙ c.self.view_is)
