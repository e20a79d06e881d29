use Rattle.rcover.proofs.covers.Covers.new.Goals as goal

pub returns : goal.returns
returns c = record {
  state = c.in_ok-new.ensures.opening;
  follows = c.in_ok-new-2.ensures.follows c.args.groups c.args.seats c.args.cap c.requires.seats.1 c.requires.cap.0 c.requires.cap.1;
}
