use Rattle.std.proofs.Common.{◌++◌, Err, inl, inr, refl, sym, ap, subst, ◌∙◌}
use Rattle.rtrace_form.specs.Takers.{HasTaken}
use Rattle.rtrace_form.proofs.texts.Place.{err_is}
use Rattle.rtrace.specs.Errors.{error_of, IsBad}
use Rattle.rtrace.specs.declared.error.StreamErr.{StreamErr}
use Rattle.rtrace.proofs.Errors.{is_fault, none_of_source}
use Rattle.rtrace.proofs.Windows.{came_more}
use Rattle.rtrace.proofs.Gaining.{feeding_none, feeding_more, feeding_lines, feeding_broken, came_whole, within_limit, ended_more, to_stream, broken_off, on_ok}
use Rattle.rtrace.proofs.feed.feed.Goals as goal

pub loop-window-init : goal.loop-window-init
loop-window-init g c =
    (feeding_none g.T.Records.code g.T.Records.is_done g.T.Records.no_end g.T.Records.knows (g.S.Source.left c.args.source.now) c.args.window.now c.args.taker.now c.requires.knows c.requires.held c.requires.taken c.requires.sound, refl)

pub take_rest-requires-clause-fed : goal.take_rest-requires-clause-fed
take_rest-requires-clause-fed g c =
    let got = c.in-Ok-true.ensures.gained in
    let f = feeding_more g.T.Records.code g.T.Records.is_done g.T.Records.no_end g.T.Records.knows (g.S.Source.left c.args.source.now) (g.S.Source.left c.loop-window.source) (g.S.Source.left c.fill.new.source) c.args.window.now c.loop-window.window
    c.fill.new.self c.loop-window.taker c.loop-window.line got.0 c.loop-window.invariant.0 got.1 got.2 in
    (f.text, f.fed)

pub returns-in-Ok-true-clause-taken : goal.returns-in-Ok-true-clause-taken
returns-in-Ok-true-clause-taken g c =
    let got = c.in-Ok-true.ensures.gained in
    let at = c.loop-window.invariant.0 in
    let f = feeding_more g.T.Records.code g.T.Records.is_done g.T.Records.no_end g.T.Records.knows (g.S.Source.left c.args.source.now) (g.S.Source.left c.loop-window.source) (g.S.Source.left c.fill.new.source) c.args.window.now c.loop-window.window
    c.fill.new.self c.loop-window.taker c.loop-window.line got.0 at got.1 got.2 in
    let ended = ended_more (g.S.Source.left c.args.source.now) (g.S.Source.left c.loop-window.source) (g.S.Source.left c.fill.new.source) at.text at.came (c.in-Ok-true.ensures.ended c.in-Ok-true.field-0-test) in
    on_ok c.take_rest.result
    (λ (h : HasTaken g.T.Records.code g.T.Records.is_done g.T.Records.no_end g.T.Records.knows f.text c.take_rest.new.taker). (f.text, came_whole (g.S.Source.left c.args.source.now) (g.S.Source.left c.fill.new.source) f.text f.came ended, h))
    (c.take_rest.ensures.taken f.text f.fed)

pub returns-in-Ok-true-clause-bad : goal.returns-in-Ok-true-clause-bad
returns-in-Ok-true-clause-bad g c = λ fault is.
    let got = c.in-Ok-true.ensures.gained in
    let at = c.loop-window.invariant.0 in
    let f = feeding_more g.T.Records.code g.T.Records.is_done g.T.Records.no_end g.T.Records.knows (g.S.Source.left c.args.source.now) (g.S.Source.left c.loop-window.source) (g.S.Source.left c.fill.new.source) c.args.window.now c.loop-window.window
    c.fill.new.self c.loop-window.taker c.loop-window.line got.0 at got.1 got.2 in
    let ended = ended_more (g.S.Source.left c.args.source.now) (g.S.Source.left c.loop-window.source) (g.S.Source.left c.fill.new.source) at.text at.came (c.in-Ok-true.ensures.ended c.in-Ok-true.field-0-test) in
    (f.text, came_whole (g.S.Source.left c.args.source.now) (g.S.Source.left c.fill.new.source) f.text f.came ended, c.take_rest.ensures.bad f.text f.fed fault is)

pub returns-in-Ok-true-clause-within : goal.returns-in-Ok-true-clause-within
returns-in-Ok-true-clause-within g c = λ other.
    let got = c.in-Ok-true.ensures.gained in
    let f = feeding_more g.T.Records.code g.T.Records.is_done g.T.Records.no_end g.T.Records.knows (g.S.Source.left c.args.source.now) (g.S.Source.left c.loop-window.source) (g.S.Source.left c.fill.new.source) c.args.window.now c.loop-window.window
    c.fill.new.self c.loop-window.taker c.loop-window.line got.0 c.loop-window.invariant.0 got.1 got.2 in
    within_limit g.T.Records.code g.T.Records.is_done g.T.Records.no_end g.T.Records.knows (g.S.Source.left c.args.source.now) (g.S.Source.left c.fill.new.source) c.args.window.now c.fill.new.self c.loop-window.taker c.loop-window.line f

pub take_lines-requires-clause-fed : goal.take_lines-requires-clause-fed
take_lines-requires-clause-fed g c =
    let got = c.in-Ok-false.ensures.gained in
    let f = feeding_more g.T.Records.code g.T.Records.is_done g.T.Records.no_end g.T.Records.knows (g.S.Source.left c.args.source.now) (g.S.Source.left c.loop-window.source) (g.S.Source.left c.fill.new.source) c.args.window.now c.loop-window.window
    c.fill.new.self c.loop-window.taker c.loop-window.line got.0 c.loop-window.invariant.0 got.1 got.2 in
    (f.text, f.fed)

pub loop-window-preserved : goal.loop-window-preserved
loop-window-preserved g c =
    let got = c.in-Ok-false.ensures.gained in
    let f = feeding_more g.T.Records.code g.T.Records.is_done g.T.Records.no_end g.T.Records.knows (g.S.Source.left c.args.source.now) (g.S.Source.left c.loop-window.source) (g.S.Source.left c.fill.new.source) c.args.window.now c.loop-window.window
    c.fill.new.self c.loop-window.taker c.loop-window.line got.0 c.loop-window.invariant.0 got.1 got.2 in (
      feeding_lines g.T.Records.code g.T.Records.is_done g.T.Records.no_end g.T.Records.knows (g.S.Source.left c.args.source.now) (g.S.Source.left c.fill.new.source) c.args.window.now c.fill.new.self c.take_lines.new.window c.loop-window.taker
          c.take_lines.new.taker c.loop-window.line c.in-Ok.next f (c.in-Ok.ensures.fed f.text f.fed) c.in-Ok.ensures.same.0 c.in-Ok.ensures.same.1 c.in-Ok.ensures.sound,
      c.in-Ok-false.ensures.calm ∙ c.loop-window.invariant.1,
    )

pub returns-in-Err-take_lines-clause-bad : goal.returns-in-Err-take_lines-clause-bad
returns-in-Err-take_lines-clause-bad g c = λ fault is.
    let got = c.in-Ok-false.ensures.gained in
    let f = feeding_more g.T.Records.code g.T.Records.is_done g.T.Records.no_end g.T.Records.knows (g.S.Source.left c.args.source.now) (g.S.Source.left c.loop-window.source) (g.S.Source.left c.fill.new.source) c.args.window.now c.loop-window.window
    c.fill.new.self c.loop-window.taker c.loop-window.line got.0 c.loop-window.invariant.0 got.1 got.2 in
    let o = g.S.Source.left c.args.source.now in
    let p = g.S.Source.left c.fill.new.source in
    let q = g.S.Source.left c.refused.new.source in
    let b = c.refused.ensures.came in
    let ended = ended_more o p q f.text f.came (c.refused.ensures.ended (subst (λ (e : StreamErr _). IsBad e) (sym (err_is is)) tt)) in (
      f.text ++ b.0,
      came_whole o q (f.text ++ b.0) (came_more o p q f.text b.0 f.came b.1) ended,
      c.in-Err-take_lines.ensures.bad f.text f.fed fault (ap Err (c.refused.ensures.bad fault (err_is is))) b.0,
    )

pub returns-in-Err-take_lines-clause-too_long : goal.returns-in-Err-take_lines-clause-too_long
returns-in-Err-take_lines-clause-too_long g c = λ is.
    let got = c.in-Ok-false.ensures.gained in
    let f = feeding_more g.T.Records.code g.T.Records.is_done g.T.Records.no_end g.T.Records.knows (g.S.Source.left c.args.source.now) (g.S.Source.left c.loop-window.source) (g.S.Source.left c.fill.new.source) c.args.window.now c.loop-window.window
    c.fill.new.self c.loop-window.taker c.loop-window.line got.0 c.loop-window.invariant.0 got.1 got.2 in
    let same = c.in-Err-take_lines.ensures.same in
    (broken_off (g.S.Source.left c.args.source.now) (g.S.Source.left c.fill.new.source) (g.S.Source.left c.refused.new.source) f.text c.take_lines.new.window.taken c.take_lines.new.window.limit c.args.window.now.limit c.refused.result f.came
    (same.0 ∙ f.taken) (same.1 ∙ f.limit) c.refused.ensures.came).0 (err_is is)

pub returns-in-Err-take_lines-clause-within : goal.returns-in-Err-take_lines-clause-within
returns-in-Err-take_lines-clause-within g c = λ other.
    let got = c.in-Ok-false.ensures.gained in
    let f = feeding_more g.T.Records.code g.T.Records.is_done g.T.Records.no_end g.T.Records.knows (g.S.Source.left c.args.source.now) (g.S.Source.left c.loop-window.source) (g.S.Source.left c.fill.new.source) c.args.window.now c.loop-window.window
    c.fill.new.self c.loop-window.taker c.loop-window.line got.0 c.loop-window.invariant.0 got.1 got.2 in
    let same = c.in-Err-take_lines.ensures.same in
    (broken_off (g.S.Source.left c.args.source.now) (g.S.Source.left c.fill.new.source) (g.S.Source.left c.refused.new.source) f.text c.take_lines.new.window.taken c.take_lines.new.window.limit c.args.window.now.limit c.refused.result f.came
    (same.0 ∙ f.taken) (same.1 ∙ f.limit) c.refused.ensures.came).1 (λ is. other (ap Err is))

pub returns-in-Err-clause-too_long : goal.returns-in-Err-clause-too_long
returns-in-Err-clause-too_long g c = λ is.
    let at = c.loop-window.invariant.0 in
    (broken_off (g.S.Source.left c.args.source.now) (g.S.Source.left c.loop-window.source) (g.S.Source.left c.fill.new.source) at.text c.loop-window.window.taken c.loop-window.window.limit c.args.window.now.limit (error_of c.in-Err.e) at.came at.taken at.limit
    (to_stream _ c.in-Err.e (g.S.Source.left c.loop-window.source) (g.S.Source.left c.fill.new.source) c.loop-window.window.taken c.loop-window.window.limit c.in-Err.ensures.broken)).0 (sym c.error_of.ensures ∙ err_is is)

pub returns-in-Err-clause-within : goal.returns-in-Err-clause-within
returns-in-Err-clause-within g c = λ other.
    let at = c.loop-window.invariant.0 in
    (broken_off (g.S.Source.left c.args.source.now) (g.S.Source.left c.loop-window.source) (g.S.Source.left c.fill.new.source) at.text c.loop-window.window.taken c.loop-window.window.limit c.args.window.now.limit (error_of c.in-Err.e) at.came at.taken at.limit
    (to_stream _ c.in-Err.e (g.S.Source.left c.loop-window.source) (g.S.Source.left c.fill.new.source) c.loop-window.window.taken c.loop-window.window.limit c.in-Err.ensures.broken)).1 (λ is. other (ap Err (c.error_of.ensures ∙ is)))

pub returns-in-Ok-true-clause-still : goal.returns-in-Ok-true-clause-still
returns-in-Ok-true-clause-still g c = λ fault is.
    let got = c.in-Ok-true.ensures.gained in
    let at = c.loop-window.invariant.0 in
    let f = feeding_more g.T.Records.code g.T.Records.is_done g.T.Records.no_end g.T.Records.knows (g.S.Source.left c.args.source.now) (g.S.Source.left c.loop-window.source) (g.S.Source.left c.fill.new.source) c.args.window.now c.loop-window.window
    c.fill.new.self c.loop-window.taker c.loop-window.line got.0 at got.1 got.2 in
    let ended = ended_more (g.S.Source.left c.args.source.now) (g.S.Source.left c.loop-window.source) (g.S.Source.left c.fill.new.source) at.text at.came (c.in-Ok-true.ensures.ended c.in-Ok-true.field-0-test) in
    (f.text, came_whole (g.S.Source.left c.args.source.now) (g.S.Source.left c.fill.new.source) f.text f.came ended, c.take_rest.ensures.still f.text f.fed fault is)

pub returns-in-Err-take_lines-clause-still : goal.returns-in-Err-take_lines-clause-still
returns-in-Err-take_lines-clause-still g c = λ fault is.
    let got = c.in-Ok-false.ensures.gained in
    let f = feeding_more g.T.Records.code g.T.Records.is_done g.T.Records.no_end g.T.Records.knows (g.S.Source.left c.args.source.now) (g.S.Source.left c.loop-window.source) (g.S.Source.left c.fill.new.source) c.args.window.now c.loop-window.window
    c.fill.new.self c.loop-window.taker c.loop-window.line got.0 c.loop-window.invariant.0 got.1 got.2 in
    let o = g.S.Source.left c.args.source.now in
    let p = g.S.Source.left c.fill.new.source in
    let q = g.S.Source.left c.refused.new.source in
    let b = c.refused.ensures.came in
    let ended = ended_more o p q f.text f.came (c.refused.ensures.ended (subst (λ (e : StreamErr _). IsBad e) (sym (err_is is)) tt)) in (
      f.text ++ b.0,
      came_whole o q (f.text ++ b.0) (came_more o p q f.text b.0 f.came b.1) ended,
      c.in-Err-take_lines.ensures.still f.text f.fed fault (ap Err (c.refused.ensures.bad fault (err_is is))) b.0,
    )

pub returns-in-Ok-true-clause-broken : goal.returns-in-Ok-true-clause-broken
returns-in-Ok-true-clause-broken g c = none_of_source _ c.take_rest.result c.take_rest.ensures.of_text

pub returns-in-Err-take_lines-clause-broken : goal.returns-in-Err-take_lines-clause-broken
returns-in-Err-take_lines-clause-broken g c = λ is.
    let got = c.in-Ok-false.ensures.gained in
    let f = feeding_more g.T.Records.code g.T.Records.is_done g.T.Records.no_end g.T.Records.knows (g.S.Source.left c.args.source.now) (g.S.Source.left c.loop-window.source) (g.S.Source.left c.fill.new.source) c.args.window.now c.loop-window.window
    c.fill.new.self c.loop-window.taker c.loop-window.line got.0 c.loop-window.invariant.0 got.1 got.2 in
    let b = c.refused.ensures.came in
    let told = is_fault c.in-Err-take_lines.e (c.refused.ensures.memory is) in (
      f.text ++ b.0,
      came_more (g.S.Source.left c.args.source.now) (g.S.Source.left c.fill.new.source) (g.S.Source.left c.refused.new.source) f.text b.0 f.came b.1,
      inr (told.0.line, c.in-Err-take_lines.ensures.still f.text f.fed told.0 (ap Err told.1) b.0),
    )

pub returns-in-Err-clause-broken : goal.returns-in-Err-clause-broken
returns-in-Err-clause-broken g c = λ is.
    let at = c.loop-window.invariant.0 in
    let b = c.in-Err.ensures.broken in (
      at.text ++ b.0,
      came_more (g.S.Source.left c.args.source.now) (g.S.Source.left c.loop-window.source) (g.S.Source.left c.fill.new.source) at.text b.0 at.came b.1,
      inl (feeding_broken g.T.Records.code g.T.Records.is_done g.T.Records.no_end g.T.Records.knows g.met.T.Shortened.faults_stay g.met.T.Shortened.knowledge_stays (g.S.Source.left c.args.source.now) (g.S.Source.left c.loop-window.source) c.args.window.now c.loop-window.window c.loop-window.taker c.loop-window.line b.0 at),
    )
