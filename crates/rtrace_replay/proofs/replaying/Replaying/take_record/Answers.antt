use Rattle.std.proofs.Common.{false, Err, inl, inr, refl, ap}
use Rattle.csv.specs.Records.{fields_of}
use Rattle.rtrace_form.specs.SoFar.{entries_in, head_in}
use Rattle.rtrace_form.specs.Waits.{all_ended}
use Rattle.rtrace_write.specs.Behind.{past_in}
use Rattle.rtrace_replay.proofs.Following.{never_act}
use Rattle.rtrace_replay.proofs.Replays.{one_err, followed_event, still_told, told_event, telling_kept, event_history, other_history, some_telling, other_untold}
use Rattle.rtrace_replay.proofs.replaying.Replaying.take_record.Goals as goal

pub tell-told-requires-clause-there : goal.tell-told-requires-clause-there
tell-told-requires-clause-there c =
    let s = c.requires.0 in
    let k = c.requires.1 in
    let row = fields_of c.args.fields.now in
    let event = c.in-Event.event in
    let taken = (rw c.in-Event.is at c.in_default.ensures.taken) false s k.reading in
    let followed = followed_event s row taken.0 c.args.self.now.reading c.take.new.reading k.reading taken.1 event taken.2.0 taken.2.1 in
    (followed.0, followed.1)

pub tell-told-requires-clause-told : goal.tell-told-requires-clause-told
tell-told-requires-clause-told c =
    let s = c.requires.0 in
    let k = c.requires.1 in
    let row = fields_of c.args.fields.now in
    let event = c.in-Event.event in
    let taken = (rw c.in-Event.is at c.in_default.ensures.taken) false s k.reading in
    let before = c.args.self.now.reading in
    let reading = c.take.new.reading in (
      past_in (head_in s) (entries_in s),
      all_ended (head_in s) (entries_in s),
      (followed_event s row taken.0 before reading k.reading taken.1 event taken.2.0 taken.2.1).2,
      still_told s row taken.0 before reading k.reading taken.1 event taken.2.0 taken.2.1 c.args.self.now.telling k.telling k.untold,
    )

pub returns-in-Ok-clause-taken : goal.returns-in-Ok-clause-taken
returns-in-Ok-clause-taken c = λ s k.
    let row = fields_of c.args.fields.now in
    let event = c.in-Event.event in
    let taken = (rw c.in-Event.is at c.in_default.ensures.taken) false s k.reading in
    let before = c.args.self.now.reading in
    let reading = c.take.new.reading in
    let past = past_in (head_in s) (entries_in s) in
    let followed = (followed_event s row taken.0 before reading k.reading taken.1 event taken.2.0 taken.2.1).2 in
    let told = c.in-Ok.ensures.told past (all_ended (head_in s) (entries_in s)) followed
    (still_told s row taken.0 before reading k.reading taken.1 event taken.2.0 taken.2.1 c.args.self.now.telling k.telling k.untold) in (
      taken.0,
      record {
        reading = taken.1;
        history = event_history s row taken.0 before reading k.reading taken.1 event taken.2.0 taken.2.1 c.args.self.now.history c.tell-told.new.history k.history (c.in-Ok.ensures.text past followed);
        telling = told_event s row taken.0 before reading k.reading taken.1 event taken.2.0 taken.2.1 c.tell-told.new.telling c.in-Ok.ensures.there told;
        untold = some_telling c.tell-told.new.telling c.in-Ok.ensures.there;
      },
    )

pub returns-in-Act-clause-taken : goal.returns-in-Act-clause-taken
returns-in-Act-clause-taken c = λ s k.
    let taken = (rw c.in-Act.is at c.in_default.ensures.taken) false s k.reading in
    absurd (never_act s (fields_of c.args.fields.now) taken.0 c.in-Act.field-0 taken.2.0 taken.2.1 taken.2.2)

pub returns-in-Wait-clause-taken : goal.returns-in-Wait-clause-taken
returns-in-Wait-clause-taken c = λ s k.
    let row = fields_of c.args.fields.now in
    let taken = (rw c.in-Wait.is at c.in_default.ensures.taken) false s k.reading in (
      taken.0,
      record {
        reading = taken.1;
        history = other_history s row taken.0 c.args.self.now.reading c.take.new.reading k.reading taken.1 c.args.self.now.history taken.2.0 taken.2.1 k.history;
        telling = telling_kept s row taken.0 c.args.self.now.reading c.take.new.reading k.reading taken.1 c.args.self.now.telling taken.2.0 taken.2.1 k.telling;
        untold = λ none. other_untold s row taken.2.0 taken.2.1 (k.untold none);
      },
    )

pub returns-in-Other-clause-taken : goal.returns-in-Other-clause-taken
returns-in-Other-clause-taken c = λ s k.
    let row = fields_of c.args.fields.now in
    let taken = (rw c.in-Other.is at c.in_default.ensures.taken) false s k.reading in (
      taken.0,
      record {
        reading = taken.1;
        history = other_history s row taken.0 c.args.self.now.reading c.take.new.reading k.reading taken.1 c.args.self.now.history taken.2.0 taken.2.1 k.history;
        telling = telling_kept s row taken.0 c.args.self.now.reading c.take.new.reading k.reading taken.1 c.args.self.now.telling taken.2.0 taken.2.1 k.telling;
        untold = λ none. other_untold s row taken.2.0 taken.2.1 (k.untold none);
      },
    )

pub returns-in-Err-clause-bad : goal.returns-in-Err-clause-bad
returns-in-Err-clause-bad c = λ code e s k. c.in-Err.ensures.bad code (ap Err (one_err e)) false s k.reading

pub returns-in-Err-clause-still : goal.returns-in-Err-clause-still
returns-in-Err-clause-still c = λ code e. (refl, c.in-Err.ensures.still code (ap Err (one_err e)))

pub returns-in-Ok-clause-told : goal.returns-in-Ok-clause-told
returns-in-Ok-clause-told c = λ s k. (c.in_default.ensures.taken false s k.reading).2

pub returns-in-Act-clause-told : goal.returns-in-Act-clause-told
returns-in-Act-clause-told c = λ s k. (c.in_default.ensures.taken false s k.reading).2

pub returns-in-Wait-clause-told : goal.returns-in-Wait-clause-told
returns-in-Wait-clause-told c = λ s k. (c.in_default.ensures.taken false s k.reading).2

pub returns-in-Other-clause-told : goal.returns-in-Other-clause-told
returns-in-Other-clause-told c = λ s k. (c.in_default.ensures.taken false s k.reading).2

pub returns-in-Err-clause-names : goal.returns-in-Err-clause-names
returns-in-Err-clause-names c = λ code e. c.in-Err.ensures.names code (ap Err (one_err e))

pub returns-in-Err-clause-memory : goal.returns-in-Err-clause-memory
returns-in-Err-clause-memory c = λ e. inl (c.in-Err.ensures.memory (ap Err (one_err e)))

pub returns-in-Err-told-clause-memory : goal.returns-in-Err-told-clause-memory
returns-in-Err-told-clause-memory c = λ e. inr (c.take.new.taken, c.in_default.ensures.taken)
