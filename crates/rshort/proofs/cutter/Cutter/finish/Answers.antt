use Rattle.rshort.proofs.Cutting.{cut_part, full_start, full_bare, full_quoted, full_quote}
use Rattle.rshort.proofs.cutter.Cutter.finish.Goals as goal

pub returns-then-fields-lt-MOST : goal.returns-then-fields-lt-MOST
returns-then-fields-lt-MOST c bytes so_far = cut_part c.args.self bytes so_far c.if-fields-lt-MOST.true

pub returns-in-FieldStart : goal.returns-in-FieldStart
returns-in-FieldStart c bytes so_far = full_start c.args.self bytes so_far c.if-fields-lt-MOST.false c.in-FieldStart.is

pub returns-in-Bare : goal.returns-in-Bare
returns-in-Bare c bytes so_far = full_bare c.args.self bytes c.push.new.self.items so_far c.if-fields-lt-MOST.false c.in-Bare.is c.in_ok-push-in-Bare.ensures.items

pub returns-in-Quoted : goal.returns-in-Quoted
returns-in-Quoted c bytes so_far = full_quoted c.args.self bytes c.push-in-Quoted.new.self.items so_far c.if-fields-lt-MOST.false c.in-Quoted.is c.in_ok-push-in-Quoted.ensures.items

pub returns-in-QuoteRead : goal.returns-in-QuoteRead
returns-in-QuoteRead c bytes so_far =
    full_quote c.args.self bytes c.push-in-QuoteRead.new.self.items c.push-in-QuoteRead-2.new.self.items so_far c.if-fields-lt-MOST.false c.in-QuoteRead.is c.in_ok-push-in-QuoteRead.ensures.items c.in_ok-push-in-QuoteRead-2.ensures.items
