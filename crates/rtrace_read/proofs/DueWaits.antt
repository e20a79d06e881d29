-- The waits that are due: those of the latest event whose lines are due.
use Rattle.std.proofs.Common.{◌≡◌, ℕ, zero, suc, ◌+◌, ◌-◌, ◌<◌, ◌≤◌, Bool, true, false, cond, List, [], ◌∷◌, ◌++◌, drop, filter, length, map, Some, refl, sym, ap, ◌∙◌, arith, true≢false, append_assoc, inl, inr}
use Rattle.std.specs.Prelude.{Option, slice_get, IfSome, None}
use Rattle.std.proofs.Math.Seq.{drop-nil, drop-append-add}
use Rattle.std.proofs.lemmas.List.{length-map}
use Rattle.rclaim.specs.Changes.{ChangeLists}
use Rattle.rclaim.specs.declared.changes.StatusChange.{StatusChange}
use Rattle.rclaim.specs.declared.changes.GrantChange.{GrantChange}
use Rattle.rmodel.specs.Claims.{satisfied_by}
use Rattle.rmodel.specs.WellFormed.{Among}
use Rattle.rplain.specs.Machine.{Standing}
use Rattle.rbound.specs.Bounds.{Numbers}
use Rattle.rcover_laws.specs.declared.wait_end.WaitEnd.{WaitEnd}
use Rattle.rcover.specs.Follows.{Follows}
use Rattle.rcover.specs.Past.{Past, AreLastEnded}
use Rattle.rcover.specs.declared.following.Following.{Following}
use Rattle.rtrace_form.specs.Heads.{is_nil}
use Rattle.rtrace_form.specs.Lines.{Line, BecomesEntitled, BecomesSatisfied, Waits}
use Rattle.rtrace_form.specs.Waits.{no_bounds}
use Rattle.rtrace_form.specs.Reports.{status_line, grant_line, wait_line}
use Rattle.rtrace_form.specs.SoFar.{SoFar}
use Rattle.rtrace_form.specs.ToldWaits.{tells_wait}
use Rattle.rtrace_form.specs.declared.word.Stage.{Stage}
use Rattle.rtrace_form.proofs.facts.Choices.{some_is, some_none}
use Rattle.rtrace_read.specs.declared.reading.ReportReader.{ReportReader}
use Rattle.rtrace_read.specs.Due.{change_list, due_list}
use Rattle.rtrace_read.specs.Knows.{last_ended, waits_due}
use Rattle.rtrace_read.specs.LineTakes.{IsFirstDue}
use Rattle.rtrace_read.proofs.DueLines.{drop_one}
use Rattle.rtrace_read.proofs.Steps.{ended_is, due_beside}

-- ---- lines of waits

-- how many lines are of waits
abbrev pub waits_in : List Line → ℕ
waits_in lines = length (filter tells_wait lines)

statuses_none : (ss : List StatusChange) (rest : List Line) → filter tells_wait (map status_line ss ++ rest) ≡ filter tells_wait rest
statuses_none [] rest = refl
statuses_none (s ∷ ss) rest = at (satisfied_by s.status) ∙ statuses_none ss rest
  where
    at : (b : Bool) → filter tells_wait (cond b (BecomesSatisfied s.seat s.write_half) (BecomesEntitled s.seat s.write_half) ∷ (map status_line ss ++ rest)) ≡ filter tells_wait (map status_line ss ++ rest)
    at true = refl
    at false = refl

grants_none : (gs : List GrantChange) (rest : List Line) → filter tells_wait (map grant_line gs ++ rest) ≡ filter tells_wait rest
grants_none [] rest = refl
grants_none (g ∷ gs) rest = grants_none gs rest

all_of_waits : (ws : List WaitEnd) → filter tells_wait (map (wait_line no_bounds) ws) ≡ map (wait_line no_bounds) ws
all_of_waits [] = refl
all_of_waits (w ∷ ws) = ap (λ (lines : List Line). wait_line no_bounds w ∷ lines) (all_of_waits ws)

-- all waits that an event ended are due after it
pub all_due : (changes : ChangeLists) (ws : List WaitEnd) → waits_in (due_list changes ws) ≡ length ws
all_due changes ws =
    ap length (ap (filter tells_wait) (append_assoc (map status_line changes.statuses) (map grant_line changes.grants) (map (wait_line no_bounds) ws))
    ∙ statuses_none changes.statuses (map grant_line changes.grants ++ map (wait_line no_bounds) ws) ∙ grants_none changes.grants (map (wait_line no_bounds) ws) ∙ all_of_waits ws)
    ∙ length-map ws (wait_line no_bounds)

-- so many are due after some of them
pub few_due : (ws : List WaitEnd) (k : ℕ) → waits_in (drop k (map (wait_line no_bounds) ws)) ≡ length ws - k
few_due [] k = ap waits_in (drop-nil k) ∙ zero_less k
  where
    zero_less : (k : ℕ) → 0 ≡ 0 - k
    zero_less k = omega arith
few_due (w ∷ ws) zero = ap length (all_of_waits (w ∷ ws)) ∙ length-map (w ∷ ws) (wait_line no_bounds) ∙ less_none (length (w ∷ ws))
  where
    less_none : (n : ℕ) → n ≡ n - 0
    less_none n = omega arith
few_due (w ∷ ws) (suc k) = few_due ws k ∙ less (length ws) k
  where
    less : (n k : ℕ) → n - k ≡ suc n - suc k
    less n k = omega arith

pub drop_at : {X : Type 0} (xs : List X) (k : ℕ) (x : X) → slice_get xs k ≡ Some x → (drop k xs ≡ x ∷ drop (suc k) xs) × (k < length xs)
drop_at [] k x is = absurd (some_none is)
drop_at (y ∷ xs) zero x is = (ap (λ z. z ∷ xs) (some_is is), omega arith)
drop_at (y ∷ xs) (suc k) x is = let rest = drop_at xs k x is in let low = rest.1 in (rest.0, omega (arith, low))

pub among_drop : {X : Type 0} (xs : List X) (n : ℕ) (x : X) (rest : List X) → drop n xs ≡ x ∷ rest → Among x xs
among_drop [] n x rest is = absurd (true≢false (ap is_nil (sym (drop-nil n) ∙ is)))
among_drop (y ∷ xs) zero x rest is = inl (sym (some_is (ap (λ zs. slice_get zs 0) is)))
among_drop (y ∷ xs) (suc n) x rest is = inr (among_drop xs n x rest is)

-- ---- what is due at a place

-- the wait at the place after the changes is the first that is due, and once it was reported those after it are
pub wait_first : (s : SoFar) (k : ℕ) (w : WaitEnd) → s.due ≡ drop k (map (wait_line no_bounds) (last_ended s)) → slice_get (last_ended s) k ≡ Some w
    → waits_due s ≡ w ∷ drop (length (last_ended s) - waits_in (drop 1 s.due)) (last_ended s)
wait_first s k w due is =
    let ws = last_ended s in
    let at = drop_at ws k w is in
    let low = at.1 in
    let now : waits_in s.due ≡ length ws - k = ap waits_in due ∙ few_due ws k in
    let later : waits_in (drop 1 s.due) ≡ length ws - suc k = ap (λ (xs : List Line). waits_in (drop 1 xs)) due ∙ ap waits_in (drop_one (map (wait_line no_bounds) ws) k) ∙ few_due ws (suc k) in
    let here : length ws - waits_in s.due ≡ k = omega (arith, now, low) in
    let next : length ws - waits_in (drop 1 s.due) ≡ suc k = omega (arith, later, low) in
    ap (λ n. drop n ws) here ∙ at.0 ∙ ap (λ n. w ∷ drop n ws) (sym next)

-- the wait that a follower has at the place after the changes is the first that is due
pub follower_first : (old : ReportReader) (machine : Standing) (f : Following) (ends : List WaitEnd) (changes : ChangeLists) → old.machine ≡ Some machine → old.following ≡ Some f → old.whole ≡ true → old.last < 8 → ((p : Past) → Follows f p → AreLastEnded p ends)
    → changes ≡ machine.last → (seat : ℕ) (stage : Stage) (cover bound : Numbers) (o : Option WaitEnd)
    → IfSome o (λ due. (length (change_list changes) ≤ old.told) × (slice_get ends (old.told - length (change_list changes)) ≡ Some due)) → IfSome o (λ due. IsFirstDue old (Waits seat stage cover bound) due)
follower_first old machine f ends changes is follower report low answers same seat stage cover bound None h = tt
follower_first old machine f ends changes is follower report low answers same seat stage cover bound (Some due) h = λ whole s knows.
    let ended : ends ≡ last_ended s = ended_is whole old s knows f ends follower answers in
    let k = old.told - length (change_list changes) in
    let place : old.told ≡ length (change_list machine.last) + k =
    let many = ap (λ (x : ChangeLists). length (change_list x)) same in let room = h.0 in omega (arith, many, room) in
    let lines : s.due ≡ drop k (map (wait_line no_bounds) (last_ended s)) =
    due_beside whole old s knows machine is report low ∙ ap (λ n. drop n (due_list machine.last (last_ended s))) place ∙ drop-append-add (change_list machine.last) (map (wait_line no_bounds) (last_ended s)) k in
    wait_first s k due lines (ap (λ (ws : List WaitEnd). slice_get ws k) (sym ended) ∙ h.1)
