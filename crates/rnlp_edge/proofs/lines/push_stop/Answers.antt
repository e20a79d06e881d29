use Rattle.std.proofs.Common.{rules, ◌≡◌, ◌++◌, ◌+◌, ℕ, List, codes, decimal, string_bytes, ap, ◌∙◌}
use Rattle.rnlp_edge.proofs.TaskLines.{put_first}
use Rattle.rnlp_edge.proofs.lines.push_stop.Goals as goal

pub returns : goal.returns
returns c =
    let written : c.as_str.result.now ≡ decimal (c.args.sections + 1) = search rules in
    put_first (string_bytes c.args.lines.now) (string_bytes c.push_str.new.self) (string_bytes c.push_str-5.new.self) (codes "rnlp: task ") _ c.in_ok-push_str.ensures.bytes
    (put_first (string_bytes c.push_str.new.self) (string_bytes c.push_str-2.new.self) (string_bytes c.push_str-5.new.self) c.args.name.now _ c.in_ok-push_str-2.ensures.bytes
    (put_first (string_bytes c.push_str-2.new.self) (string_bytes c.push_str-3.new.self) (string_bytes c.push_str-5.new.self) (codes " was stopped in section ") _ c.in_ok-push_str-3.ensures.bytes
    (put_first (string_bytes c.push_str-3.new.self) (string_bytes c.push_str-4.new.self) (string_bytes c.push_str-5.new.self) (decimal (c.args.sections + 1)) (codes ": out of memory\n")
    (c.in_ok-push_str-4.ensures.bytes ∙ ap (λ (d : List ℕ). string_bytes c.push_str-3.new.self ++ d) written) c.in_ok-push_str-5.ensures.bytes)))
