use Rattle.std.proofs.Common.{codes, string_bytes}
use Rattle.rnlp_edge.proofs.WatcherLines.{put_three}
use Rattle.rnlp_edge.proofs.lines.push_due.Goals as goal

pub returns : goal.returns
returns c =
    put_three (string_bytes c.args.lines.now) (string_bytes c.push_str.new.self) (string_bytes c.push_str-2.new.self) (string_bytes c.push_str-3.new.self) (codes "rnlp: expected: ") c.args.line.now (codes "\n")
    c.in_ok-push_str.ensures.bytes c.in_ok-push_str-2.ensures.bytes c.in_ok-push_str-3.ensures.bytes
