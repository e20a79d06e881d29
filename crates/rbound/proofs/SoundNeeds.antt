-- The claims that are needed are sound.
use Rattle.std.proofs.Common.{◌≡◌, ℕ, List, length, subst}
use Rattle.rset.specs.Sets.{Set}
use Rattle.rbound.specs.Needs.{Needs, all_needed}
use Rattle.rbound.specs.TaskNeeds.{TaskNeeds, needed_in}
use Rattle.rbound.specs.Kept.{AreFine}
use Rattle.rbound.specs.Sound.{AreSound}
use Rattle.rbound.proofs.ClaimFacts.{sound, seats_below, write_of, writes_it}

pub are_sound : (groups : List Set) (q : ℕ) (needs : Needs) → AreFine q needs → AreSound (all_needed groups needs) (length needs)
are_sound groups q needs fine = record {
  seats = seats_below groups needs;
  writes = λ n there. (sound groups q needs n fine there).writes;
  places = λ n there. (sound groups q needs n fine there).places;
  place = λ n there. let s = sound groups q needs n fine there in (s.place, s.has);
  write_of = λ n there half. let w = write_of groups needs n there half in (w.write, w.there, w.half, w.seat, w.stamp, w.writes);
  writes_it = λ n v there half beside write seat stamp. writes_it groups needs n v there half beside write seat stamp;
}

-- by what is kept of the needs
pub kept_sound : (v n : TaskNeeds) → v ≡ n → AreFine v.groups.q v.tasks → AreSound (needed_in n) (length n.tasks)
kept_sound v n same fine = subst (λ (u : TaskNeeds). AreSound (needed_in u) (length u.tasks)) same (are_sound v.groups.groups v.groups.q v.tasks fine)
