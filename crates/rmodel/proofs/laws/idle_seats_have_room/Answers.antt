use Rattle.rmodel.proofs.theorems.HistoryLaws.{idle_seats_have_room}
use Rattle.rmodel.proofs.laws.idle_seats_have_room.Goals as goal

pub returns : goal.returns
returns c = idle_seats_have_room
