use Rattle.rtrace_replay.proofs.Endings.{if_ok_weaker, told_none}
use Rattle.rtrace_replay.proofs.replaying.Replaying.made.Goals as goal

pub made_of-requires-in-None : goal.made_of-requires-in-None
made_of-requires-in-None c =
    let k = c.requires.1 in
    let telling = c.in_ok-telling-in-None in (
      c.requires.0,
      record {
        knows = k.reading;
        ended = c.requires.2;
        history = k.history;
        told = told_none telling.telling c.args.self.now.reading c.requires.0 k.reading c.requires.2 telling.ensures.names telling.ensures.gathered (k.untold c.in-None.is);
      },
    )

pub returns-in_ok-telling-in-None-clause-text : goal.returns-in_ok-telling-in-None-clause-text
returns-in_ok-telling-in-None-clause-text c =
    let telling = c.in_ok-telling-in-None in
    if_ok_weaker c.made_of-in-None.result
    (λ made parts s k ended.
    parts s (record {
      knows = k.reading;
      ended = ended;
      history = k.history;
      told = told_none telling.telling c.args.self.now.reading s k.reading ended telling.ensures.names telling.ensures.gathered (k.untold c.in-None.is);
    }))
    c.made_of-in-None.ensures.text
