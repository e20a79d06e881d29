use Rattle.std.proofs.Common.{◌∷◌, refl, sym, ◌∙◌}
use Rattle.rmodel.specs.Steps.{next}
use Rattle.rcover.specs.declared.following.Following.{Following}
use Rattle.rcover.specs.Follow.{table_of, with_entry}
use Rattle.rcover.specs.Kept.{length_by}
use Rattle.rcover.specs.Past.{state_of}
use Rattle.rcover.specs.Tracked.{no_sections}
use Rattle.std.specs.Prelude.{slice_index}
use Rattle.rclaim.specs.Events.{seat_of}
use Rattle.rcover.proofs.told.Knowing.{reached, known}
use Rattle.rcover.proofs.told.LetGo.{waiting_stays, rising_stays, asking_stays, reading_stays, kept_stays, asks_stay, lengths_stay}
use Rattle.rcover.proofs.told.Reading.{finish_plain, wanted_next, wanted_still}
use Rattle.rcover.proofs.told.Waiting.{calm_all, calm_none}
use Rattle.rcover.proofs.following.Following.let_go.Goals as goal

pub returns : goal.returns
returns c = λ machine p g.
    let k = g.follows in
    let comes = g.comes in
    let a = c.args.self.now in
    let e = c.args.event.now in
    let s = state_of p in
    let is = c.requires.finish in
    let there = reached a p k in
    let table = table_of a.runs.items in
    let b : Following = record a { ended = c.clear.new.self; heads = c.close.new.self } in
    known a p k e comes b
    (record { last = k.room.last; seats = k.room.seats; runs_room = k.room.runs_room; runs = k.room.runs; scratch = k.room.scratch; ended = c.clear.ensures.capacity ∙ k.room.ended; lengths = k.room.lengths; asks = k.room.asks; heads = c.close.ensures.room; places = k.room.places; wanted = k.room.wanted })
    (kept_stays s e there comes is table (calm_all s e there comes a.waiting k.waiting c.requires.calm table (with_entry table (seat_of e) no_sections) (λ other. refl)))
    (λ rest. k.long (e ∷ rest))
    (λ d. lengths_stay e is (length_by a.lengths) d)
    (λ seat h. asks_stay e is seat (slice_index a.asks seat))
    (waiting_stays s e there comes is a.waiting k.waiting)
    (rising_stays s e there comes is a.rising k.rising)
    (asking_stays s e there comes is a.asking k.asking)
    (reading_stays s e there comes is a.reading k.reading)
    (wanted_next s e there comes a.wanted a.wanted (wanted_still e (finish_plain e is) a.wanted) k.wanted)
    (c.close.ensures.told (next s e).claims)
    (c.close.ensures.writes (next s e).claims)
    (c.clear.ensures.items ∙ sym (calm_none s e there comes a.waiting k.waiting c.requires.calm p.events table))

pub close-requires : goal.close-requires
close-requires c = record { room = c.requires.ahead.2.follows.room.heads }
