use Rattle.std.proofs.Common.{◌≡◌, ◌++◌, take}
use Rattle.std.specs.List.{flat_map}
use Rattle.rnlp_cli.specs.Forms.{look_line}
use Rattle.rnlp_cli.proofs.looking.push_looks.Given as goal

abbrev pub invariant-loop-look : goal.invariant-loop-look
invariant-loop-look l = l.text.items ≡ l.fn.text.items ++ flat_map (look_line l.monitor) (take l.look-index l.looks)
