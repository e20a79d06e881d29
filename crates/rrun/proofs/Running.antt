-- Statements one after another.
use Rattle.std.proofs.Common.{◌≡◌, ℕ, ◌+◌, ◌-◌, ◌^◌, ◌<◌, ◌≤◌, Bool, true, false, cond, List, [], ◌∷◌, ◌++◌, fold, take, drop, length, get_or, Option, Some, None, refl, sym, ap, subst, ◌∙◌, append-nil, append_assoc, arith}
use Rattle.std.proofs.lemmas.Bool.{true≢false}
use Rattle.std.proofs.lemmas.List.{map-append, length-take, take_more, drop_more, drop_all}
use Rattle.std.proofs.lemmas.List.Sums.{fold-append}
use Rattle.rclaim.specs.declared.event.Event.{Event}
use Rattle.rclaim.specs.declared.event.Event.TheVariants.{Issue, Finish, Rise, Ask}
use Rattle.rvalue.specs.declared.ledger.Edit.{Edit}
use Rattle.rvalue.specs.declared.ledger.Ledger.{Ledger}
use Rattle.rvalue.specs.Entries.{EntryFields}
use Rattle.rstate.specs.Histories.{Beginning}
use Rattle.rscript.specs.Statements.{section_next}
use Rattle.rscript.specs.declared.section.OpenSection.{OpenSection}
use Rattle.rscript.specs.declared.statement.Statement.{Statement}
use Rattle.rguard.specs.Seats.{SeatOf, IsIdle, busy_after, is_busy}
use Rattle.rguard.specs.declared.guard.Guard.{Guard}
use Rattle.rguard.proofs.Going.{goes_nowhere, goes_on}
use Rattle.rrun.specs.declared.desk.Desk.{Desk}
use Rattle.rrun.specs.declared.desk.Desk.TheVariants.{Idle, Busy}
use Rattle.rrun.specs.Desks.{seat_in, section_in, IsAt, IsBehind, HasStepped, HasLeft}
use Rattle.rrun.specs.Runs.{Told, told_by, deeds_next, entry_now, run_of, broken_off, HasBrokenOff}
use Rattle.rrun.specs.Sections.{ends_section}
use Rattle.rrun.specs.Working.{section_told, section_made, FitsIn, AreWhole, AreWholeAt}
use Rattle.rrun.proofs.Breaking.{IsCut, sections_in, one_more, no_more_than, cut_at, cut_run}

-- ---- an idle seat is in no section

is_open : Option OpenSection → Bool
is_open None = false
is_open (Some section) = true

module _ where
  open_told : (o : Option OpenSection) (e : Event) → busy_after (is_open o) e ≡ is_open (section_told o e)
  unfolding is_open
  open_told o (Issue seat r) = refl
  open_told o (Finish seat) = refl
  open_told None (Rise seat) = refl
  open_told (Some section) (Rise seat) = refl
  open_told None (Ask seat part) = refl
  open_told (Some section) (Ask seat part) = refl

  open_made : (mine : List (EntryFields Edit)) (busy : Bool) (o : Option OpenSection) → busy ≡ is_open o
      → fold (λ (b : Bool) (entry : EntryFields Edit). busy_after b entry.event) busy mine ≡ is_open (fold (λ (x : Option OpenSection) (entry : EntryFields Edit). section_told x entry.event) o mine)
  open_made [] busy o same = same
  open_made (entry ∷ mine) busy o same = open_made mine (busy_after busy entry.event) (section_told o entry.event) (ap (λ b. busy_after b entry.event) same ∙ open_told o entry.event)

  closed : (o : Option OpenSection) → is_open o ≡ false → o ≡ None
  unfolding is_open
  closed None h = refl
  closed (Some section) h = absurd (true≢false h)

  pub idle_closed : (mine : List (EntryFields Edit)) → is_busy mine ≡ false → section_made mine ≡ None
  unfolding is_open
  idle_closed mine idle = closed (section_made mine) (sym (open_made mine false None refl) ∙ idle)

-- ---- lists

run_push : (n : ℕ) (deeds xs : List Statement) (s : Statement) → run_of n deeds (xs ++ s ∷ []) ≡ run_of n deeds xs ++ entry_now n (fold deeds_next deeds xs) s
run_push n deeds [] s = append-nil (entry_now n deeds s)
run_push n deeds (x ∷ xs) s =
    ap (λ (es : List Told). entry_now n deeds x ++ es) (run_push n (deeds_next deeds x) xs s)
    ∙ sym (append_assoc (entry_now n deeds x) (run_of n (deeds_next deeds x) xs) (entry_now n (fold deeds_next (deeds_next deeds x) xs) s))

ahead_of : (xs : List Statement) (i : ℕ) (x : Statement) → i < length xs → x ≡ get_or xs i x → drop i xs ≡ x ∷ drop (i + 1) xs
ahead_of xs i x less is = drop_more xs i x less ∙ ap (λ (y : Statement). y ∷ drop (i + 1) xs) (sym is)

behind_of : (xs : List Statement) (i : ℕ) (x : Statement) → i < length xs → x ≡ get_or xs i x → take (i + 1) xs ≡ take i xs ++ x ∷ []
behind_of xs i x less is = take_more xs i x less ∙ ap (λ (y : Statement). take i xs ++ y ∷ []) (sym is)

-- how many whole sections there are with one more statement
pub counted : (xs : List Statement) (i : ℕ) (x : Statement) (before now : ℕ) → i < length xs → x ≡ get_or xs i x → before ≡ sections_in (take i xs) → now ≡ before + cond (ends_section x) 1 0 → now ≡ sections_in (take (i + 1) xs)
counted xs i x before now less is was made = made ∙ ap (λ (k : ℕ). k + cond (ends_section x) 1 0) was ∙ sym (ap sections_in (behind_of xs i x less is) ∙ one_more (take i xs) x)

-- they are fewer than the statements
pub few : (xs : List Statement) (i before : ℕ) → i < length xs → before ≡ sections_in (take i xs) → length xs < 2 ^ 64 → before < 2 ^ 64 - 1
few xs i before less was small =
    let fewer = no_more_than (take i xs) in
    let taken = length-take i xs in
    omega (arith, less, was, small, fewer, taken)

-- ---- the loop

module _ {M : Type 0} where
  pub behind_none : (seat : SeatOf Ledger Edit) (steps : List Statement) → IsIdle seat → AreWholeAt seat steps → IsBehind {M = M} seat [] steps (Idle seat)
  behind_none seat steps idle whole =
      let none = idle_closed seat.mine idle in
      record {
        is_at = (idle, none);
        section = none;
        deeds = refl;
        more = [];
        goes = goes_nowhere seat;
        run = refl;
        whole = λ b opens. subst (λ (o : Option OpenSection). AreWhole b.groups.q b.groups.groups o steps) (sym none) (whole b opens);
      }

  module _ (seat : SeatOf Ledger Edit) (steps : List Statement) (i : ℕ) (x : Statement) (less : i < length steps) (is : x ≡ get_or steps i x) (desk : Desk M) (h : IsBehind {M = M} seat (take i steps) (drop i steps) desk) where
    whole_there : (b : Beginning Ledger) → seat.opening ≡ Some b → AreWhole b.groups.q b.groups.groups (section_in desk) (x ∷ drop (i + 1) steps)
    whole_there b opens = subst (AreWhole b.groups.q b.groups.groups (section_in desk)) (ahead_of steps i x less is) (h.whole b opens)

    pub fits_there : (b : Beginning Ledger) → (seat_in desk).opening ≡ Some b → FitsIn b.groups.q b.groups.groups (section_in desk) x
    fits_there b opens = (whole_there b (sym h.goes.same.2 ∙ opens)).0

    pub behind_more : (later : Desk M) → HasStepped {M = M} desk x later → IsBehind {M = M} seat (take (i + 1) steps) (drop (i + 1) steps) later
    behind_more later st = subst (λ (xs : List Statement). IsBehind {M = M} seat xs (drop (i + 1) steps) later) (sym (behind_of steps i x less is)) (record {
      is_at = st.is_at;
      section = st.section ∙ ap (λ (o : Option OpenSection). section_next o x) h.section ∙ sym (fold-append section_next None (take i steps) (x ∷ []));
      deeds = st.deeds ∙ ap (λ (ds : List Statement). deeds_next ds x) h.deeds ∙ sym (fold-append deeds_next [] (take i steps) (x ∷ []));
      more = h.more ++ st.more;
      goes = goes_on seat (seat_in desk) (seat_in later) h.more st.more h.goes st.goes;
      run = map-append told_by h.more st.more
          ∙ (λ j. h.run j ++ (st.run ∙ (λ k. entry_now (h.goes.same.1 k) (h.deeds k) x)) j)
          ∙ sym (run_push seat.number [] (take i steps) x);
      whole = λ b opens. subst (λ (o : Option OpenSection). AreWhole b.groups.q b.groups.groups o (drop (i + 1) steps)) (sym st.section) (whole_there b opens).1;
    })

  pub at_end : (seat : SeatOf Ledger Edit) (steps : List Statement) (i : ℕ) (desk : Desk M) → length steps ≤ i → IsBehind {M = M} seat (take i steps) (drop i steps) desk → (b : Beginning Ledger) → seat.opening ≡ Some b → section_in desk ≡ None
  at_end seat steps i desk over h b opens = subst (AreWhole b.groups.q b.groups.groups (section_in desk)) (drop_all i steps over) (h.whole b opens)

  pub broken_there : (seat : SeatOf Ledger Edit) (steps ahead : List Statement) (i sections : ℕ) (desk : Desk M) (later : SeatOf Ledger Edit) → i < length steps → sections ≡ sections_in (take i steps)
      → IsBehind {M = M} seat (take i steps) ahead desk → HasLeft (seat_in desk) later → HasBrokenOff sections steps seat later
  broken_there seat steps ahead i sections desk later some count h left = record {
    more = h.more ++ left.more;
    goes = goes_on seat (seat_in desk) later h.more left.more h.goes left.goes;
    run = record {
      count = cut.count;
      some = cut.some;
      are = map-append told_by h.more left.more ∙ (λ j. h.run j ++ (left.run ∙ (λ k. broken_off (h.goes.same.1 k) (h.section k))) j) ∙ cut_run seat.number sections (take i steps) steps cut;
    };
  }
    where
      cut : IsCut sections (take i steps) steps
      cut = subst (λ (k : ℕ). IsCut k (take i steps) steps) (sym count) (cut_at i steps some)

  pub not_busy : (desk : Desk M) (guard : Guard Ledger M Edit) → desk ≡ Busy guard → IsAt desk → section_in desk ≡ None → ⊥
  not_busy desk guard is at none =
      let there = subst (IsAt {M = M}) is at in
      none_some there.0 (sym none ∙ ap (section_in {M = M}) is ∙ there.1.is_in.made)
    where
      none_some : (x : OpenSection) → None ≡ Some x → ⊥
      none_some x h = cc
