use Rattle.std.proofs.Common.{◌≡◌, ◌+◌, ◌*◌, ◌≤◌, ◌++◌, map, take, length}
use Rattle.rset.specs.Sets.{rising}
use Rattle.rtrace_form.specs.SetFields.{name_at}
use Rattle.rtrace_write.proofs.Sets.{separated}
use Rattle.rtrace_write.proofs.pieces.put_set.Given as goal

-- what was put and the names that are left are all that is to be put, and there is room for these names
abbrev pub invariant-loop-member : goal.invariant-loop-member
invariant-loop-member l = record {
  put : take l.at l.page ++ separated l.separator (map (name_at l.names.resources) (rising l.member-iterator))
      ≡ take l.initial.at l.initial.page ++ separated 44 (map (name_at l.names.resources) (rising l.fn.set));
  room : l.at + 17 * length (rising l.member-iterator) ≤ l.initial.at + 17 * 64;
}
