-- The lines of watchers, one after another.
use Rattle.std.proofs.Common.{◌≡◌, ℕ, ◌+◌, ◌<◌, ◌≤◌, List, [], ◌∷◌, ◌++◌, codes, decimal, length, take, flat_map, sym, ap, ◌∙◌, append_assoc}
use Rattle.std.proofs.lemmas.List.{take_all, flat_map_more, take_more}
use Rattle.rwatch.specs.Seen.{Seen, watcher_at, nobody}
use Rattle.rwatch.specs.declared.kinds.WatchKind.{WatchKind}
use Rattle.rnlp_edge.specs.Meanings.{kind_word}
use Rattle.rnlp_edge.specs.Lines.{watcher_line}

-- the lines of the first i watchers, and then that of the next
pub counts_more : (first now then : List ℕ) (ws : List Seen) (i : ℕ) (kind : WatchKind) (n : ℕ) → i < length ws → now ≡ first ++ flat_map watcher_line (take i ws)
    → kind ≡ (watcher_at ws i).kind → n ≡ (watcher_at ws i).count → then ≡ now ++ (codes "rnlp: " ++ (kind_word kind ++ (codes " " ++ (decimal n ++ 10 ∷ []))))
    → then ≡ first ++ flat_map watcher_line (take (i + 1) ws)
counts_more first now then ws i kind n less so kinds counts is =
    is
    ∙ (λ k. so k ++ (codes "rnlp: " ++ (kind_word (kinds k) ++ (codes " " ++ (decimal (counts k) ++ 10 ∷ [])))))
    ∙ flat_map_more watcher_line first (take i ws) (watcher_at ws i)
    ∙ ap (λ xs. first ++ flat_map watcher_line xs) (sym (take_more ws i nobody less))

pub counts_all : (first now : List ℕ) (ws : List Seen) (i : ℕ) → length ws ≤ i → now ≡ first ++ flat_map watcher_line (take i ws) → now ≡ first ++ flat_map watcher_line ws
counts_all first now ws i all so = so ∙ ap (λ xs. first ++ flat_map watcher_line xs) (take_all i ws all)

-- a text that grew by three pieces
pub put_three : (t₀ t₁ t₂ t₃ a b c : List ℕ) → t₁ ≡ t₀ ++ a → t₂ ≡ t₁ ++ b → t₃ ≡ t₂ ++ c → t₃ ≡ t₀ ++ (a ++ (b ++ c))
put_three t₀ t₁ t₂ t₃ a b c p q r = r ∙ ap (λ t. t ++ c) (q ∙ ap (λ t. t ++ b) p) ∙ append_assoc (t₀ ++ a) b c ∙ append_assoc t₀ a (b ++ c)
