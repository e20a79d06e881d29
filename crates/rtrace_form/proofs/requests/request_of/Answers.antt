use Rattle.rtrace_form.proofs.Made.{is_made}
use Rattle.rtrace_form.proofs.requests.request_of.Goals as goal

pub returns : goal.returns
returns c =
    is_made c.args.kind c.args.sets.now c.args.lengths.now c.new.result c.new.ensures.made c.new.ensures.normal c.new.ensures.only c.new.ensures.empty.0 c.new.ensures.outside.0
