use Rattle.std.proofs.Common.{◌≡◌, length, take, drop}
use Rattle.std.specs.List.{AllByRecursion}
use Rattle.rcover_laws.specs.Moments.{Moment}
use Rattle.rcover.specs.Heads.{StayWithoutWrite}
use Rattle.rcover.specs.Lines.{TellAt, GoesBy, ArePlaced, HoldBehindBut}
use Rattle.rcover.proofs.heads_told.Turns.{AreHeld, AreTurned}
use Rattle.rcover.proofs.turns.turn_heads.Given as goal

abbrev pub invariant-loop-i : goal.invariant-loop-i
invariant-loop-i l = record {
  len : length l.now ≡ length l.fn.now;
  behind_len : length l.behind ≡ length l.fn.behind;
  places_len : length l.places ≡ length l.fn.places;
  others : StayWithoutWrite l.fn.now l.now l.moment;
  placed : (m : Moment) → TellAt l.fn.now m l.moment → AllByRecursion (GoesBy l.lost l.fn.gone l.came l.touched m l.moment) l.moment → ArePlaced l.places l.moves.moved l.moves.risen l.moment;
  told : (m : Moment) → TellAt l.fn.now m l.moment → AllByRecursion (GoesBy l.lost l.fn.gone l.came l.touched m l.moment) l.moment → AreTurned l.now l.moves l.lost l.fn.gone m l.moment (take l.i l.moment) (drop l.i l.moment);
  held : (m : Moment) → TellAt l.fn.now m l.moment → AllByRecursion (GoesBy l.lost l.fn.gone l.came l.touched m l.moment) l.moment → HoldBehindBut l.lost.claim.seat l.fn.behind m l.moment → AreHeld l.lost.claim.seat l.behind m l.moment (take l.i l.moment) (drop l.i l.moment);
}
