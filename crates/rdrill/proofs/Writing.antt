-- The lines of watchers, one after another.
use Rattle.std.proofs.Common.{◌≡◌, ℕ, ◌+◌, ◌*◌, ◌≤◌, ◌<◌, List, ◌++◌, length, take, flat_map, sym, ap, ◌∙◌, arith}
use Rattle.std.proofs.lemmas.List.{append-nil, take_all, flat_map_more, take_more}
use Rattle.rwatch.specs.Seen.{Seen, watcher_at, nobody}
use Rattle.rdrill.specs.Summary.{count_line, kind_word, watcher_line}

-- the lines of the first i watchers were written after a text, in the room that was there
pub record HasWritten (first now : List ℕ) (before after : ℕ) (ws : List Seen) (i : ℕ) : Type 0 where
  pub items : now ≡ first ++ flat_map watcher_line (take i ws)
  pub room : before ≤ after
  pub long : length now ≤ length first + 32 * i

pub writes_none : (first : List ℕ) (room : ℕ) (ws : List Seen) → HasWritten first first room room ws 0
writes_none first room ws = record { items = sym (append-nil first); room = omega arith; long = omega arith }

pub writes_more : (first now then : List ℕ) (before room after : ℕ) (ws : List Seen) (i : ℕ) (word : List ℕ) (n : ℕ) → i < length ws → HasWritten first now before room ws i
    → word ≡ kind_word (watcher_at ws i).kind → n ≡ (watcher_at ws i).count → then ≡ now ++ count_line word n → room ≤ after → length then ≤ length now + 32 → HasWritten first then before after ws (i + 1)
writes_more first now then before room after ws i word n less so words counts is larger longer =
    let was = so.room in
    let long = so.long in
    record {
      items = is ∙ (λ k. so.items k ++ count_line (words k) (counts k)) ∙ flat_map_more watcher_line first (take i ws) (watcher_at ws i)
          ∙ ap (λ xs. first ++ flat_map watcher_line xs) (sym (take_more ws i nobody less));
      room = omega (arith, was, larger);
      long = omega (arith, long, longer);
    }

pub writes_all : (first now : List ℕ) (before room : ℕ) (ws : List Seen) (i : ℕ) → length ws ≤ i → HasWritten first now before room ws i → now ≡ first ++ flat_map watcher_line ws
writes_all first now before room ws i all so = so.items ∙ ap (λ xs. first ++ flat_map watcher_line xs) (take_all i ws all)
