-- What a tool answers, from how the reading of its input and its command ended.
use Rattle.std.proofs.Common.{◌≡◌, ℕ, ◌+◌, ◌≤◌, List, length, Option, Some, None, refl, sym, ap, subst, arith, ◌⊎◌, inl, inr}
use Rattle.std.specs.Prelude.{IfSome}
use Rattle.io_ends.specs.Ends.{Appends, AppendsPrefix, Took, TookAtMost}
use Rattle.io_ends.specs.Faults.{Rose}
use Rattle.rwatch.specs.Seen.{Seen}
use Rattle.rnlp_cli.specs.Outputs.{IsInput, IsOutput, IsFaultLine, limit_of, input_of}
use Rattle.rnlp_cli.specs.Reading.{WasRead, NotRead}
use Rattle.rnlp_cli.specs.Writing.{LineWritten, IsAnswer, IsRefused}
use Rattle.rnlp_cli.specs.Answer.{ToolAnswer}
use Rattle.rnlp_cli.specs.declared.command.Command.{Command}
use Rattle.rnlp_cli.specs.declared.command.Command.TheVariants.{Run, Replay, Audit, Bound, Drill}
use Rattle.rnlp_cli.specs.declared.status.ToolStatus.{ToolStatus}
use Rattle.rnlp_cli.specs.declared.status.ToolStatus.TheVariants as status

-- what holds for some bytes holds for those that are known to be the same
of_bytes : (told : Option (List ℕ)) (all : List ℕ) (P : List ℕ → Type 0) → IfSome told (λ bytes. all ≡ bytes) → P all → IfSome told P
of_bytes None all P whole h = tt
of_bytes (Some bytes) all P whole h = subst P whole h

of_each : {X : Type 0} (told : Option X) (P : X → Type 0) → ((x : X) → P x) → IfSome told P
of_each None P h = tt
of_each (Some x) P h = h x

-- with no fault of the sink, an input of the command is answered by an output, or out of memory
completed : (watchers : List Seen) (asked : Option Command) (bytes : List ℕ) (before after : Option (List ℕ)) (quiet failed same : Type 0) (s : ToolStatus) → IsAnswer watchers asked bytes before after quiet failed same s
    → IsInput asked bytes → ¬ failed → (s ≡ status.Done) ⊎ (s ≡ status.NoMemory)
completed watchers asked bytes before after quiet failed same status.Done h right fine = inl refl
completed watchers asked bytes before after quiet failed same status.NoMemory h right fine = inr refl
completed watchers asked bytes before after quiet failed same status.WriteFault h right fine = absurd (fine h.0)
completed watchers asked bytes before after quiet failed same status.Script h right fine = absurd (h.1 right)
completed watchers asked bytes before after quiet failed same status.Trace h right fine = absurd (h.1 right)
completed watchers asked bytes before after quiet failed same status.Words h right fine = absurd h
completed watchers asked bytes before after quiet failed same status.ReadFault h right fine = absurd h
completed watchers asked bytes before after quiet failed same status.TooLong h right fine = absurd h

-- more bytes than the limit are not an input within it
past_limit : (o : Option ℕ) (limit : ℕ) (bytes : List ℕ) → o ≡ Some limit → limit + 1 ≤ length bytes → IfSome o (λ most. length bytes ≤ most) → ⊥
past_limit None limit bytes is more few = cc
past_limit (Some most) limit bytes is more few = let same : most ≡ limit = cc in omega arith

-- where an input was read, the input is what the source has left
input_left : (asked : Option Command) (limit : ℕ) (told : Option (List ℕ)) (P : List ℕ → Type 0) → limit_of asked ≡ Some limit → IfSome told P → IfSome (input_of asked told) P
input_left None limit told P is h = cc
input_left (Some (Run form)) limit told P is h = h
input_left (Some Replay) limit told P is h = h
input_left (Some Audit) limit told P is h = h
input_left (Some (Bound cap)) limit told P is h = h
input_left (Some (Drill count)) limit told P is h = cc

no_limit : (o : Option ℕ) (limit : ℕ) → o ≡ Some limit → o ≡ None → ⊥
no_limit o limit is none = cc

module _ {S K : Type 0} (left : S → Option (List ℕ)) (reads : S → ℕ) (written : K → Option (List ℕ)) (writes : K → ℕ) (watchers : List Seen) where
  -- wrong words: nothing was touched
  pub no_words : (asked : Option Command) (source : S) (sink : K) → asked ≡ None → ToolAnswer left reads written writes watchers asked source source sink sink status.Words
  no_words asked source sink none = record {
    wrong_words = (λ _. none, λ _. refl);
    untouched = λ _. (refl, refl);
    unread = λ _. refl;
    read_fault = λ e. cc;
    write_fault = λ e. cc;
    no_read_fault = λ _. refl;
    no_write_fault = λ _ _. refl;
    too_long = λ e. cc;
    within = λ _. subst (λ o. IfSome (limit_of o) (λ limit. TookAtMost (left source) (left source) limit)) (sym none) tt;
    read_whole = λ e. absurd e;
    silent = λ _. refl;
    done = λ e. cc;
    broken_off = λ e. cc;
    refusal = λ e. absurd e;
    refused = λ e. absurd e;
    complete = subst (λ o. IfSome (input_of o (left source)) (λ bytes. IsInput o bytes → IfSome (limit_of o) (λ limit. length bytes ≤ limit) → ¬ Rose (reads source) (reads source) → ¬ Rose (writes sink) (writes sink) → (status.Words ≡ status.Done) ⊎ (status.Words ≡ status.NoMemory))) (sym none) (λ right. absurd right);
  }

  module _ (command : Command) where
    module _ (source source' : S) (sink sink' : K) (all : List ℕ) (was : WasRead left reads (Some command) source source' all) where
      abbrev Ended : ToolStatus → Type 0
      Ended answer = IsAnswer watchers (Some command) all (written sink) (written sink') (writes sink' ≡ writes sink) (Rose (writes sink) (writes sink')) (sink' ≡ sink) answer

      of_all : (P : List ℕ → Type 0) → P all → IfSome (input_of (Some command) (left source)) P
      of_all P h = of_bytes (input_of (Some command) (left source)) all P was.whole h

      is_complete : (answer : ToolStatus) → Ended answer → IfSome (input_of (Some command) (left source)) (λ bytes. IsInput (Some command) bytes → IfSome (limit_of (Some command)) (λ most. length bytes ≤ most)
          → ¬ Rose (reads source) (reads source') → ¬ Rose (writes sink) (writes sink') → (answer ≡ status.Done) ⊎ (answer ≡ status.NoMemory))
      is_complete answer h =
          of_all (λ bytes. IsInput (Some command) bytes → IfSome (limit_of (Some command)) (λ most. length bytes ≤ most) → ¬ Rose (reads source) (reads source') → ¬ Rose (writes sink) (writes sink') → (answer ≡ status.Done) ⊎ (answer ≡ status.NoMemory))
          (λ right _ _ fine. completed watchers (Some command) all _ _ _ _ _ answer h right fine)

      was_refused : (answer : ToolStatus) → IsRefused (Some command) all (written sink) (written sink') (writes sink' ≡ writes sink) (Rose (writes sink) (writes sink')) answer
          → IfSome (input_of (Some command) (left source)) (λ bytes. (¬ IsInput (Some command) bytes) × (line : List ℕ) × IsFaultLine (Some command) bytes line × LineWritten line (written sink) (written sink') (writes sink' ≡ writes sink) (Rose (writes sink) (writes sink')))
      was_refused answer h = of_all (λ bytes. (¬ IsInput (Some command) bytes) × (line : List ℕ) × IsFaultLine (Some command) bytes line × LineWritten line (written sink) (written sink') (writes sink' ≡ writes sink) (Rose (writes sink) (writes sink'))) (h.1, h.2, h.3, h.4)

      -- an input that was read is answered as its command ended
      answered_to : (answer : ToolStatus) → Ended answer → ToolAnswer left reads written writes watchers (Some command) source source' sink sink' answer
      answered_to status.Done h = record {
        wrong_words = (λ e. cc, λ e. cc);
        untouched = λ e. cc;
        unread = was.taken.unread;
        read_fault = λ e. cc;
        write_fault = λ e. cc;
        no_read_fault = λ _. was.quiet;
        no_write_fault = λ _ _. h.0;
        too_long = λ e. cc;
        within = λ _. was.taken.within;
        read_whole = λ _. was.ended;
        silent = λ e. absurd e;
        done = λ _. of_all (λ bytes. (text : List ℕ) × IsOutput watchers (Some command) bytes text × Appends (written sink) (written sink') text) (h.1, h.2, h.3);
        broken_off = λ e. cc;
        refusal = λ e. absurd e;
        refused = λ e. absurd e;
        complete = is_complete status.Done h;
      }
      answered_to status.WriteFault h = record {
        wrong_words = (λ e. cc, λ e. cc);
        untouched = λ e. cc;
        unread = was.taken.unread;
        read_fault = λ e. cc;
        write_fault = λ _. h.0;
        no_read_fault = λ _. was.quiet;
        no_write_fault = λ e _. absurd (e refl);
        too_long = λ e. cc;
        within = λ _. was.taken.within;
        read_whole = λ _. was.ended;
        silent = λ e. absurd e;
        done = λ e. cc;
        broken_off = λ _. of_all (λ bytes. (text : List ℕ) × IsOutput watchers (Some command) bytes text × AppendsPrefix (written sink) (written sink') text) (h.1, h.2, h.3);
        refusal = λ e. absurd e;
        refused = λ e. absurd e;
        complete = is_complete status.WriteFault h;
      }
      answered_to status.NoMemory h = record {
        wrong_words = (λ e. cc, λ e. cc);
        untouched = λ e. cc;
        unread = was.taken.unread;
        read_fault = λ e. cc;
        write_fault = λ e. cc;
        no_read_fault = λ _. was.quiet;
        no_write_fault = λ _ _. ap writes h;
        too_long = λ e. cc;
        within = λ _. was.taken.within;
        read_whole = λ e. absurd e;
        silent = λ _. h;
        done = λ e. cc;
        broken_off = λ e. cc;
        refusal = λ e. absurd e;
        refused = λ e. absurd e;
        complete = is_complete status.NoMemory h;
      }
      answered_to status.Script h = record {
        wrong_words = (λ e. cc, λ e. cc);
        untouched = λ e. cc;
        unread = was.taken.unread;
        read_fault = λ e. cc;
        write_fault = λ e. cc;
        no_read_fault = λ _. was.quiet;
        no_write_fault = λ _ e. absurd (e tt);
        too_long = λ e. cc;
        within = λ _. was.taken.within;
        read_whole = λ _. was.ended;
        silent = λ e. absurd e;
        done = λ e. cc;
        broken_off = λ e. cc;
        refusal = λ _. h.0;
        refused = λ _. was_refused status.Script h;
        complete = is_complete status.Script h;
      }
      answered_to status.Trace h = record {
        wrong_words = (λ e. cc, λ e. cc);
        untouched = λ e. cc;
        unread = was.taken.unread;
        read_fault = λ e. cc;
        write_fault = λ e. cc;
        no_read_fault = λ _. was.quiet;
        no_write_fault = λ _ e. absurd (e tt);
        too_long = λ e. cc;
        within = λ _. was.taken.within;
        read_whole = λ _. was.ended;
        silent = λ e. absurd e;
        done = λ e. cc;
        broken_off = λ e. cc;
        refusal = λ _. h.0;
        refused = λ _. was_refused status.Trace h;
        complete = is_complete status.Trace h;
      }
      answered_to status.Words h = absurd h
      answered_to status.ReadFault h = absurd h
      answered_to status.TooLong h = absurd h

    module _ (source source' : S) (sink : K) where
      abbrev Completes : ToolStatus → List ℕ → Type 0
      Completes answer bytes = IsInput (Some command) bytes → IfSome (limit_of (Some command)) (λ most. length bytes ≤ most) → ¬ Rose (reads source) (reads source') → ¬ Rose (writes sink) (writes sink)
          → (answer ≡ status.Done) ⊎ (answer ≡ status.NoMemory)

      never_within : (limit : ℕ) → limit_of (Some command) ≡ Some limit → Took (left source) (left source') (limit + 1) → IfSome (left source) (Completes status.TooLong)
      never_within limit so took = at (left source) took
        where
          at : (before : Option (List ℕ)) → Took before (left source') (limit + 1) → IfSome before (Completes status.TooLong)
          at None h = tt
          at (Some bytes) h = λ _ few _ _. absurd (past_limit (limit_of (Some command)) limit bytes so h.0 few)

      -- an input that was not read: nothing was written
      unread_to : (answer : ToolStatus) → NotRead left reads (Some command) source source' answer → ToolAnswer left reads written writes watchers (Some command) source source' sink sink answer
      unread_to status.ReadFault h = record {
        wrong_words = (λ e. cc, λ e. cc);
        untouched = λ e. cc;
        unread = h.0.unread;
        read_fault = λ _. (h.1, h.2);
        write_fault = λ e. cc;
        no_read_fault = λ e. absurd (e refl);
        no_write_fault = λ _ _. refl;
        too_long = λ e. cc;
        within = λ _. h.0.within;
        read_whole = λ e. absurd e;
        silent = λ _. refl;
        done = λ e. cc;
        broken_off = λ e. cc;
        refusal = λ e. absurd e;
        refused = λ e. absurd e;
        complete = of_each (input_of (Some command) (left source)) (Completes status.ReadFault) (λ bytes _ _ calm _. absurd (calm h.2));
      }
      unread_to status.TooLong h = record {
        wrong_words = (λ e. cc, λ e. cc);
        untouched = λ e. cc;
        unread = λ e. absurd (no_limit (limit_of (Some command)) h.0 h.1 e);
        read_fault = λ e. cc;
        write_fault = λ e. cc;
        no_read_fault = λ _. h.3;
        no_write_fault = λ _ _. refl;
        too_long = λ _. (h.0, h.1, h.2);
        within = λ e. absurd (e refl);
        read_whole = λ e. absurd e;
        silent = λ _. refl;
        done = λ e. cc;
        broken_off = λ e. cc;
        refusal = λ e. absurd e;
        refused = λ e. absurd e;
        complete = input_left (Some command) h.0 (left source) (Completes status.TooLong) h.1 (never_within h.0 h.1 h.2);
      }
      unread_to status.NoMemory h = record {
        wrong_words = (λ e. cc, λ e. cc);
        untouched = λ e. cc;
        unread = h.0.unread;
        read_fault = λ e. cc;
        write_fault = λ e. cc;
        no_read_fault = λ _. h.1;
        no_write_fault = λ _ _. refl;
        too_long = λ e. cc;
        within = λ _. h.0.within;
        read_whole = λ e. absurd e;
        silent = λ _. refl;
        done = λ e. cc;
        broken_off = λ e. cc;
        refusal = λ e. absurd e;
        refused = λ e. absurd e;
        complete = of_each (input_of (Some command) (left source)) (Completes status.NoMemory) (λ bytes _ _ _ _. inr refl);
      }
      unread_to status.Done h = absurd h
      unread_to status.Words h = absurd h
      unread_to status.WriteFault h = absurd h
      unread_to status.Script h = absurd h
      unread_to status.Trace h = absurd h

  -- words that ask for a command whose input was read are answered as the command ended
  pub answered : (asked : Option Command) (command : Command) (source source' : S) (sink sink' : K) (all : List ℕ) (answer : ToolStatus) → asked ≡ Some command → WasRead left reads (Some command) source source' all
      → IsAnswer watchers (Some command) all (written sink) (written sink') (writes sink' ≡ writes sink) (Rose (writes sink) (writes sink')) (sink' ≡ sink) answer
      → ToolAnswer left reads written writes watchers asked source source' sink sink' answer
  answered asked command source source' sink sink' all answer is was h =
      subst (λ o. ToolAnswer left reads written writes watchers o source source' sink sink' answer) (sym is) (answered_to command source source' sink sink' all was answer h)

  -- and where it was not read, as the reading ended
  pub unread : (asked : Option Command) (command : Command) (source source' : S) (sink : K) (answer : ToolStatus) → asked ≡ Some command → NotRead left reads (Some command) source source' answer
      → ToolAnswer left reads written writes watchers asked source source' sink sink answer
  unread asked command source source' sink answer is h =
      subst (λ o. ToolAnswer left reads written writes watchers o source source' sink sink answer) (sym is) (unread_to command source source' sink answer h)
