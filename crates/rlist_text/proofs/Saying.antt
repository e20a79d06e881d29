-- The lines of an event list: they may be written, and are read back from their spelling.
use Rattle.std.proofs.Common.{◌≡◌, ◌≤◌, false, List, [], ◌∷◌, ◌++◌, map, length, Some, refl, sym, ap, ◌∙◌, IsTrue}
use Rattle.std.specs.Prelude.{option_map}
use Rattle.std.specs.List.{AllByRecursion, AllZip}
use Rattle.rset.specs.Sets.{Set, all_below}
use Rattle.rset.specs.declared.TheConstants.{RESOURCES, SEATS}
use Rattle.rset.proofs.NameLemmas.{table_names}
use Rattle.rclaim.specs.declared.event.Event.TheVariants.{Issue, Finish, Rise, Ask}
use Rattle.rclaim.specs.declared.request.Kind.{Kind}
use Rattle.rclaim.specs.declared.request.Kind.TheVariants.{Read, Write, Mixed, Upgrade, Nested}
use Rattle.rbound.specs.Bounds.{Numbers}
use Rattle.rcover_laws.specs.declared.wait_end.WaitEnd.{WaitEnd}
use Rattle.rvalue.specs.Entries.{EntryFields}
use Rattle.rvalue.specs.InTurn.{AllInTurn}
use Rattle.rtrace_form.specs.Fields.{Names, AreTables, Values, write, has_form}
use Rattle.rtrace_form.specs.Heads.{Head, names_of, IsHead}
use Rattle.rtrace_form.specs.Lines.{Line, Opens, HasResource, HasGroup, HasTask, HasCap, Happens, Does, BecomesEntitled, BecomesSatisfied, Grants, Waits, Leaves, Ends, IsWritable, line_by, meaning, meant_as, spelled, word_of, values_of}
use Rattle.rtrace_form.specs.Reports.{Entry, head_lines, history_lines, change_lines, wait_lines, ledger_lines, lines_of}
use Rattle.rtrace_form.specs.Words.{fields_of, word_in}
use Rattle.rtrace_form.specs.declared.word.Word.TheVariants as word
use Rattle.rtrace_form.proofs.fields.ReadBack.{read_back}
use Rattle.rtrace_form.proofs.lines.LineBack.{line_back}
use Rattle.rtrace_form.proofs.lists.Histories.{lock-resources, lock-tasks}
use Rattle.rtrace_form.proofs.written.GoodLines.{all_both, head_good, event_good}
use Rattle.rlist_text.specs.Lists.{alone, list_of, list_lines, IsAccepted, AreAccepted}
use Rattle.rlist_text.proofs.Alone.{state_same}

-- ---- which lines a list has

abbrev pub IsListed : Line → Type 0
IsListed (Does act) = ⊥
IsListed (BecomesEntitled seat half) = ⊥
IsListed (BecomesSatisfied seat half) = ⊥
IsListed (Grants seat s) = ⊥
IsListed (Waits seat which cover bound) = ⊥
IsListed (Leaves place ledger) = ⊥
IsListed _ = Unit {0}

issue_back : (names : Names) (kind : Kind) (v : Values (fields_of (word.Issue kind))) → word_in false (write names (fields_of (word.Issue kind)) v) ≡ Some (word.Issue kind)
unfolding word_in write has_form
issue_back names Read v = refl
issue_back names Write v = refl
issue_back names Mixed v = refl
issue_back names Upgrade v = refl
issue_back names Nested v = refl

word_listed : (names : Names) (line : Line) → IsListed line → word_in false (spelled names line) ≡ Some (word_of line)
unfolding word_in write has_form
word_listed names Opens listed = refl
word_listed names (HasResource name) listed = refl
word_listed names (HasGroup s) listed = refl
word_listed names (HasTask name) listed = refl
word_listed names (HasCap n) listed = refl
word_listed names (Happens (Issue seat r)) listed = issue_back names r.kind (values_of (Happens (Issue seat r)))
word_listed names (Happens (Finish seat)) listed = refl
word_listed names (Happens (Rise seat)) listed = refl
word_listed names (Happens (Ask seat part)) listed = refl
word_listed names (Does act) listed = absurd listed
word_listed names (BecomesEntitled seat half) listed = absurd listed
word_listed names (BecomesSatisfied seat half) listed = absurd listed
word_listed names (Grants seat s) listed = absurd listed
word_listed names (Waits seat which cover bound) listed = absurd listed
word_listed names (Leaves place ledger) listed = absurd listed
word_listed names Ends listed = refl

meaning_listed : (names : Names) (line : Line) → AreTables names → IsWritable names line → IsListed line → meaning false names (spelled names line) ≡ Some line
unfolding meaning
meaning_listed names line tables h listed =
    ap (meant_as names (spelled names line)) (word_listed names line listed)
    ∙ ap (option_map (line_by (word_of line))) (read_back names tables (fields_of (word_of line)) (values_of line) h.good)
    ∙ ap (λ l. Some l) (line_back line h.normal)

pub said_listed : (names : Names) → AreTables names → (lines : List Line) → AllByRecursion (IsWritable names) lines → AllByRecursion IsListed lines
    → AllZip (λ row line. meaning false names row ≡ Some line) (map (spelled names) lines) lines
said_listed names tables [] all listed = tt
said_listed names tables (line ∷ lines) all listed = (meaning_listed names line tables all.0 listed.0, said_listed names tables lines all.1 listed.1)

-- ---- the lines of a list

mapped_listed : {X : Type 0} (f : X → Line) → ((x : X) → IsListed (f x)) → (xs : List X) → AllByRecursion IsListed (map f xs)
mapped_listed f each [] = tt
mapped_listed f each (x ∷ xs) = (each x, mapped_listed f each xs)

module _ {E : Type 0} (head : Head) where
  pub are_listed : (entries : List (EntryFields E)) → AllByRecursion IsListed (list_lines head entries)
  are_listed entries =
      let ends : AllByRecursion IsListed (Ends ∷ []) = (tt, tt) in
      let events = all_both IsListed (map (λ (entry : EntryFields E). Happens entry.event) entries) (Ends ∷ []) (mapped_listed (λ (entry : EntryFields E). Happens entry.event) (λ entry. tt) entries) ends in
      all_both IsListed (head_lines head (Some head.cap)) (map (λ (entry : EntryFields E). Happens entry.event) entries ++ Ends ∷ []) (
        tt,
        all_both IsListed (map HasResource head.resources) (map HasGroup head.groups ++ (map HasTask head.tasks ++ HasCap head.cap ∷ [])) (mapped_listed HasResource (λ x. tt) head.resources)
            (all_both IsListed (map HasGroup head.groups) (map HasTask head.tasks ++ HasCap head.cap ∷ []) (mapped_listed HasGroup (λ x. tt) head.groups)
            (all_both IsListed (map HasTask head.tasks) (HasCap head.cap ∷ []) (mapped_listed HasTask (λ x. tt) head.tasks) (tt, tt))),
      )
      events

  events_good : (earlier entries : List (EntryFields E)) → AllInTurn (IsAccepted head) earlier entries → AllByRecursion (IsWritable (names_of head)) (map (λ (entry : EntryFields E). Happens entry.event) entries)
  events_good earlier [] accepted = tt
  events_good earlier (x ∷ xs) accepted =
      let same = state_same head earlier in (
        event_good head _ x.event (ap (λ s. s.groups.q) (sym same) ∙ lock-resources head (map alone earlier)) (ap (λ s. s.seats) (sym same) ∙ lock-tasks head (map alone earlier)) accepted.0,
        events_good (earlier ++ x ∷ []) xs accepted.1,
      )

  pub list_writable : IsHead head (Some head.cap) → 1 ≤ head.cap → head.cap ≤ SEATS → AllByRecursion (λ (group : Set). IsTrue (all_below (length head.resources) group)) head.groups
      → (entries : List (EntryFields E)) → AreAccepted head entries → AllByRecursion (IsWritable (names_of head)) (list_lines head entries)
  list_writable is low high groups entries accepted =
      all_both (IsWritable (names_of head)) (head_lines head (Some head.cap)) (map (λ (entry : EntryFields E). Happens entry.event) entries ++ Ends ∷ [])
      (head_good head (table_names RESOURCES head.resources is.resources_named) (table_names SEATS head.tasks is.tasks_named) low high groups)
      (all_both (IsWritable (names_of head)) (map (λ (entry : EntryFields E). Happens entry.event) entries) (Ends ∷ []) (events_good [] entries accepted)
      (record { good = tt; normal = tt; named = tt }, tt))

  history_bare : (bounds : WaitEnd → Numbers) (earlier : List Entry) (entries : List (EntryFields E)) → history_lines false bounds head earlier (map alone entries) ≡ map (λ (entry : EntryFields E). Happens entry.event) entries
  unfolding history_lines change_lines wait_lines
  history_bare bounds earlier [] = refl
  history_bare bounds earlier (x ∷ xs) = ap (λ (lines : List Line). Happens x.event ∷ lines) (history_bare bounds (earlier ++ alone x ∷ []) xs)

  -- they are the lines of its event list
  pub lines_are : (bounds : WaitEnd → Numbers) (entries : List (EntryFields E)) → list_lines head entries ≡ lines_of false bounds (Some head.cap) (list_of head entries)
  unfolding ledger_lines
  lines_are bounds entries = ap (λ (lines : List Line). head_lines head (Some head.cap) ++ (lines ++ Ends ∷ [])) (sym (history_bare bounds [] entries))
