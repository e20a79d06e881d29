-- The promises on waits.
use Rattle.rmodel.specs.State.{opening}
use Rattle.rmodel.specs.Steps.{after}
use Rattle.rmodel.proofs.reaching.Histories.{accepted_parts}
use Rattle.rmodel.proofs.reaching.Reached.{reached_after, reached_opening}
use Rattle.rcover_laws.specs.Promises.{ReadsAreCovered, WritesAreCovered, AsksAreCovered}
use Rattle.rcover_laws.proofs.covers.AskCover.{ask_covered}
use Rattle.rcover_laws.proofs.covers.ReadCover.{read_covered}
use Rattle.rcover_laws.proofs.covers.WriteCover.{write_covered}

pub reads_are_covered : ReadsAreCovered
reads_are_covered groups seats cap events more accepted c waits =
    let parts = accepted_parts (opening groups seats cap) events more accepted in
    read_covered (after (opening groups seats cap) events) more (reached_after (opening groups seats cap) events (reached_opening groups seats cap) parts.0) parts.1 c waits

pub asks_are_covered : AsksAreCovered
asks_are_covered groups seats cap events more accepted c part waits =
    let parts = accepted_parts (opening groups seats cap) events more accepted in
    ask_covered c part (after (opening groups seats cap) events) more (reached_after (opening groups seats cap) events (reached_opening groups seats cap) parts.0) parts.1 waits

pub writes_are_covered : WritesAreCovered
writes_are_covered groups seats cap events more accepted c waits =
    let parts = accepted_parts (opening groups seats cap) events more accepted in
    write_covered c (after (opening groups seats cap) events) more (reached_after (opening groups seats cap) events (reached_opening groups seats cap) parts.0) parts.1 waits
