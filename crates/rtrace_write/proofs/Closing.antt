-- An open text that is closed is the text of the same lines with their bounds.
use Rattle.std.proofs.Common.{◌≡◌, ℕ, suc, true, false, List, [], ◌∷◌, ◌++◌, map, length, Option, None, refl, sym, ap, ◌∙◌, append_assoc, true≢false, codes, decimal}
use Rattle.std.specs.List.{list_any}
use Rattle.std.proofs.lemmas.List.{length-map}
use Rattle.std.proofs.lemmas.List.Elements.{filter_map-append}
use Rattle.rbound.specs.Bounds.{Numbers}
use Rattle.rcover_laws.specs.declared.wait_end.WaitEnd.{WaitEnd}
use Rattle.rtrace_form.specs.Fields.{Names, write}
use Rattle.rtrace_form.specs.Heads.{Head}
use Rattle.rtrace_form.specs.Lines.{Line, Opens, HasResource, HasGroup, HasTask, HasCap, Happens, Does, BecomesEntitled, BecomesSatisfied, Grants, Waits, Leaves, Ends}
use Rattle.rtrace_form.specs.Reports.{Entry, lock_after, change_lines, wait_line, wait_lines, entry_lines, history_lines}
use Rattle.rtrace_form.specs.SetFields.{name_at}
use Rattle.rtrace_form.specs.Texts.{behind_comma}
use Rattle.rtrace_form.specs.ToldWaits.{tells_wait}
use Rattle.rtrace_form.specs.Waits.{ended_in, ended_from, all_ended, bound_in, no_bounds}
use Rattle.rtrace_form.specs.Words.{stage_text}
use Rattle.rtrace_form.specs.WrongBounds.{bound_told}
use Rattle.rtrace_form.specs.declared.word.Stage.{Stage}
use Rattle.rtrace_form.proofs.lists.ToldWaits.{each_told}
use Rattle.rtrace_write.specs.Behind.{past_in, bound_by}
use Rattle.rtrace_write.specs.Waits.{bound_text, cover_text}
use Rattle.rtrace_write.specs.Gaps.{solid, gaps_in, filled}
use Rattle.rtrace_write.specs.Open.{open_line, open_told, bounds_of}
use Rattle.rtrace_write.specs.Told.{told, told_line}
use Rattle.rtrace_write.proofs.Gaps.{solid_gaps, filled-solid}
use Rattle.rtrace_write.proofs.Opening.{open-append}
use Rattle.rtrace_write.proofs.Rows.{line_is}

five_behind : (a b c d e z : List ℕ) → (a ++ (b ++ (c ++ (d ++ e)))) ++ z ≡ a ++ (b ++ (c ++ (d ++ (e ++ z))))
five_behind a b c d e z =
    append_assoc a (b ++ (c ++ (d ++ e))) z
    ∙ ap (λ (t : List ℕ). a ++ t) (append_assoc b (c ++ (d ++ e)) z ∙ ap (λ (t : List ℕ). b ++ t) (append_assoc c (d ++ e) z ∙ ap (λ (t : List ℕ). c ++ t) (append_assoc d e z)))

module _ (names : Names) where
  -- the line of a wait, in its two pieces
  pub wait_is : (seat : ℕ) (stage : Stage) (cover bound : Numbers) → told_line names (Waits seat stage cover bound) ≡ cover_text names seat stage cover ++ bound_text bound
  unfolding write
  wait_is seat stage cover bound =
      line_is (codes "wait")
      (name_at names.tasks seat ∷ stage_text stage ∷ decimal cover.reads ∷ decimal cover.writes ∷ decimal cover.units ∷ decimal bound.reads ∷ decimal bound.writes ∷ decimal bound.units ∷ [])
      ∙ ap (λ (t : List ℕ). codes "wait," ++ t)
      (sym (five_behind (name_at names.tasks seat) (behind_comma (stage_text stage)) (behind_comma (decimal cover.reads)) (behind_comma (decimal cover.writes)) (behind_comma (decimal cover.units)) (bound_text bound)))

  -- an open text of lines that is filled with their bounds is their text
  abbrev IsClosed : List Line → Type 0
  IsClosed lines = filled (bounds_of lines) (open_told names lines) ≡ told names lines

  -- *An open text that is filled with the bounds of its lines is the text of these lines*
  pub filled-lines : (lines : List Line) → filled (bounds_of lines) (open_told names lines) ≡ told names lines
  filled-lines [] = refl
  filled-lines (line ∷ lines) = at line (filled-lines lines)
    where
      plain : (x : Line) → IsClosed lines → filled (bounds_of lines) (solid (told_line names x) ++ open_told names lines) ≡ told_line names x ++ told names lines
      plain x rest = filled-solid (bounds_of lines) (told_line names x) (open_told names lines) ∙ ap (λ (t : List ℕ). told_line names x ++ t) rest

      at : (x : Line) → IsClosed lines → IsClosed (x ∷ lines)
      at Opens rest = plain Opens rest
      at (HasResource name) rest = plain (HasResource name) rest
      at (HasGroup s) rest = plain (HasGroup s) rest
      at (HasTask name) rest = plain (HasTask name) rest
      at (HasCap n) rest = plain (HasCap n) rest
      at (Happens e) rest = plain (Happens e) rest
      at (Does act) rest = plain (Does act) rest
      at (BecomesEntitled seat half) rest = plain (BecomesEntitled seat half) rest
      at (BecomesSatisfied seat half) rest = plain (BecomesSatisfied seat half) rest
      at (Grants seat s) rest = plain (Grants seat s) rest
      at (Waits seat stage cover bound) rest =
          let front = cover_text names seat stage cover in
          ap (filled (bound ∷ bounds_of lines)) (append_assoc (solid front) (None ∷ []) (open_told names lines))
          ∙ filled-solid (bound ∷ bounds_of lines) front (None ∷ open_told names lines)
          ∙ ap (λ (t : List ℕ). front ++ (bound_text bound ++ t)) rest
          ∙ sym (append_assoc front (bound_text bound) (told names lines))
          ∙ ap (λ (t : List ℕ). t ++ told names lines) (sym (wait_is seat stage cover bound))
      at (Leaves place ledger) rest = plain (Leaves place ledger) rest
      at Ends rest = plain Ends rest

  -- it has a gap for each bound
  abbrev HasGaps : List Line → Type 0
  HasGaps lines = gaps_in (open_told names lines) ≡ length (bounds_of lines)

  gaps_told : (lines : List Line) → gaps_in (open_told names lines) ≡ length (bounds_of lines)
  gaps_told [] = refl
  gaps_told (line ∷ lines) = at line (gaps_told lines)
    where
      plain : (x : Line) → HasGaps lines → gaps_in (solid (told_line names x) ++ open_told names lines) ≡ length (bounds_of lines)
      plain x rest = solid_gaps (told_line names x) (open_told names lines) ∙ rest

      at : (x : Line) → HasGaps lines → HasGaps (x ∷ lines)
      at Opens rest = plain Opens rest
      at (HasResource name) rest = plain (HasResource name) rest
      at (HasGroup s) rest = plain (HasGroup s) rest
      at (HasTask name) rest = plain (HasTask name) rest
      at (HasCap n) rest = plain (HasCap n) rest
      at (Happens e) rest = plain (Happens e) rest
      at (Does act) rest = plain (Does act) rest
      at (BecomesEntitled seat half) rest = plain (BecomesEntitled seat half) rest
      at (BecomesSatisfied seat half) rest = plain (BecomesSatisfied seat half) rest
      at (Grants seat s) rest = plain (Grants seat s) rest
      at (Waits seat stage cover bound) rest =
          ap gaps_in (append_assoc (solid (cover_text names seat stage cover)) (None ∷ []) (open_told names lines))
          ∙ solid_gaps (cover_text names seat stage cover) (None ∷ open_told names lines)
          ∙ ap suc rest
      at (Leaves place ledger) rest = plain (Leaves place ledger) rest
      at Ends rest = plain Ends rest

  -- ---- a history

  waits_open : (bounds others : WaitEnd → Numbers) (ws : List WaitEnd) → open_told names (map (wait_line bounds) ws) ≡ open_told names (map (wait_line others) ws)
  waits_open bounds others [] = refl
  waits_open bounds others (w ∷ ws) = ap (λ (t : List (Option ℕ)). open_line names (wait_line bounds w) ++ t) (waits_open bounds others ws)

  entry_open : (bounds others : WaitEnd → Numbers) (head : Head) (earlier : List Entry) (entry : Entry) → open_told names (entry_lines true bounds head earlier entry) ≡ open_told names (entry_lines true others head earlier entry)
  unfolding wait_lines
  entry_open bounds others head earlier entry =
      let acts = map Does entry.acts in
      let changes = change_lines true (lock_after head earlier) entry.event in
      let ws = ended_in head earlier entry.event in
      let due : (b : WaitEnd → Numbers) → open_told names (acts ++ (changes ++ map (wait_line b) ws)) ≡ open_told names acts ++ (open_told names changes ++ open_told names (map (wait_line b) ws)) =
      λ b. open-append names acts (changes ++ map (wait_line b) ws) ∙ ap (λ (t : List (Option ℕ)). open_told names acts ++ t) (open-append names changes (map (wait_line b) ws)) in
      ap (λ (t : List (Option ℕ)). open_line names (Happens entry.event) ++ t)
      (due bounds ∙ ap (λ (t : List (Option ℕ)). open_told names acts ++ (open_told names changes ++ t)) (waits_open bounds others ws) ∙ sym (due others))

  -- whatever the bounds, the open text of a history is the same
  pub history_open : (bounds others : WaitEnd → Numbers) (head : Head) (earlier entries : List Entry) → open_told names (history_lines true bounds head earlier entries) ≡ open_told names (history_lines true others head earlier entries)
  unfolding history_lines
  history_open bounds others head earlier [] = refl
  history_open bounds others head earlier (entry ∷ entries) =
      open-append names (entry_lines true bounds head earlier entry) (history_lines true bounds head (earlier ++ entry ∷ []) entries)
      ∙ (λ i. entry_open bounds others head earlier entry i ++ history_open bounds others head (earlier ++ entry ∷ []) entries i)
      ∙ sym (open-append names (entry_lines true others head earlier entry) (history_lines true others head (earlier ++ entry ∷ []) entries))

bounds-append : (xs ys : List Line) → bounds_of (xs ++ ys) ≡ bounds_of xs ++ bounds_of ys
bounds-append xs ys = filter_map-append bound_told xs ys

-- lines without a wait have no bound
bounds_none : (lines : List Line) → list_any tells_wait lines ≡ false → bounds_of lines ≡ []
bounds_none [] none = refl
bounds_none (Opens ∷ lines) none = bounds_none lines none
bounds_none (HasResource name ∷ lines) none = bounds_none lines none
bounds_none (HasGroup s ∷ lines) none = bounds_none lines none
bounds_none (HasTask name ∷ lines) none = bounds_none lines none
bounds_none (HasCap n ∷ lines) none = bounds_none lines none
bounds_none (Happens e ∷ lines) none = bounds_none lines none
bounds_none (Does act ∷ lines) none = bounds_none lines none
bounds_none (BecomesEntitled seat half ∷ lines) none = bounds_none lines none
bounds_none (BecomesSatisfied seat half ∷ lines) none = bounds_none lines none
bounds_none (Grants seat s ∷ lines) none = bounds_none lines none
bounds_none (Waits seat stage cover bound ∷ lines) none = absurd (true≢false none)
bounds_none (Leaves place ledger ∷ lines) none = bounds_none lines none
bounds_none (Ends ∷ lines) none = bounds_none lines none

bounds_waits : (bounds : WaitEnd → Numbers) (ws : List WaitEnd) → bounds_of (map (wait_line bounds) ws) ≡ map bounds ws
bounds_waits bounds [] = refl
bounds_waits bounds (w ∷ ws) = ap (λ (bs : List Numbers). bounds w ∷ bs) (bounds_waits bounds ws)

map_joined : (bounds : WaitEnd → Numbers) (us vs : List WaitEnd) → map bounds us ++ map bounds vs ≡ map bounds (us ++ vs)
map_joined bounds [] vs = refl
map_joined bounds (u ∷ us) vs = ap (λ (bs : List Numbers). bounds u ∷ bs) (map_joined bounds us vs)

-- the bounds on the lines of a history are those of the waits that it ended
pub bounds_history : (bounds : WaitEnd → Numbers) (head : Head) (earlier entries : List Entry) → bounds_of (history_lines true bounds head earlier entries) ≡ map bounds (ended_from head earlier entries)
unfolding history_lines ended_from
bounds_history bounds head earlier [] = refl
bounds_history bounds head earlier (entry ∷ entries) =
    let each = each_told bounds head earlier entry in
    let ws = ended_in head earlier entry.event in
    let first : bounds_of (entry_lines true bounds head earlier entry) ≡ map bounds ws =
    ap bounds_of each.are
    ∙ bounds-append each.before (map (wait_line bounds) ws)
    ∙ (λ i. bounds_none each.before each.none i ++ bounds_waits bounds ws i) in
    bounds-append (entry_lines true bounds head earlier entry) (history_lines true bounds head (earlier ++ entry ∷ []) entries)
    ∙ (λ i. first i ++ bounds_history bounds head (earlier ++ entry ∷ []) entries i)
    ∙ map_joined bounds ws (ended_from head (earlier ++ entry ∷ []) entries)

-- bounds by the events are bounds by the entries
pub bounds_same : (head : Head) (entries : List Entry) → map (bound_by (past_in head entries)) (all_ended head entries) ≡ map (bound_in head entries) (all_ended head entries)
unfolding bound_by bound_in
bounds_same head entries = refl

module _ (names : Names) (head : Head) (entries : List Entry) (text : List (Option ℕ)) (opened : text ≡ open_told names (history_lines true no_bounds head [] entries)) where
  abbrev bounds : List Numbers
  bounds = map (bound_by (past_in head entries)) (all_ended head entries)

  all_bounds : bounds ≡ bounds_of (history_lines true (bound_in head entries) head [] entries)
  all_bounds = bounds_same head entries ∙ sym (bounds_history (bound_in head entries) head [] entries)

  same_open : text ≡ open_told names (history_lines true (bound_in head entries) head [] entries)
  same_open = opened ∙ history_open names no_bounds (bound_in head entries) head [] entries

  -- an open history has as many gaps as waits ended
  pub history_gaps : length (all_ended head entries) ≡ gaps_in text
  history_gaps =
      sym (length-map (all_ended head entries) (bound_by (past_in head entries)))
      ∙ ap (λ (bs : List Numbers). length bs) all_bounds
      ∙ sym (gaps_told names (history_lines true (bound_in head entries) head [] entries))
      ∙ ap gaps_in (sym same_open)

  -- *An open history that is closed by its bounds is the text of the history*
  pub history_closed : filled bounds text ≡ told names (history_lines true (bound_in head entries) head [] entries)
  history_closed = (λ i. filled (all_bounds i) (same_open i)) ∙ filled-lines names (history_lines true (bound_in head entries) head [] entries)
