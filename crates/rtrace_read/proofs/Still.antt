-- What is due where a line is refused.
use Rattle.std.proofs.Common.{◌≡◌, ℕ, List, [], Option, Some, None, sym, ap, subst, ◌∙◌}
use Rattle.std.specs.Prelude.{IfSome, is_some}
use Rattle.std.proofs.lemmas.List.{append-nil}
use Rattle.rplain.specs.Machine.{Standing}
use Rattle.rcover.specs.Follows.{Follows}
use Rattle.rcover.specs.Past.{Past}
use Rattle.rcover.specs.declared.following.Following.{Following}
use Rattle.rtrace_form.specs.Reports.{Entry}
use Rattle.rtrace_read.specs.declared.reading.ReportReader.{ReportReader}
use Rattle.rtrace_read.specs.Knows.{state_in, changes_in, past_in, StandBehind}
use Rattle.rtrace_read.specs.LineTakes.{StillDue, AreFirstOf}

-- where a follower is beside a machine, or neither is there
follows_if : (machine : Option Standing) (o : Option Following) (latest : Option Entry) (p : Past) → StandBehind machine o latest p → IfSome o (λ f. Follows f p)
follows_if None None latest p h = tt
follows_if (Some m) (Some f) latest p h = h.1
follows_if None (Some f) latest p h = absurd h
follows_if (Some m) None latest p h = absurd h

-- the same names
pub first_same : (names all : List (List ℕ)) → all ≡ names → AreFirstOf names all
first_same names all same = ([], same ∙ sym (append-nil names))

module _ (old new : ReportReader) where
  -- what else may have changed has nothing to do with what is due
  pub due_still : new.whole ≡ old.whole → AreFirstOf old.resources new.resources → AreFirstOf old.tasks new.tasks → new.cap ≡ old.cap → new.groups ≡ old.groups → new.last ≡ old.last → new.told ≡ old.told
      → new.machine ≡ old.machine → new.following ≡ old.following → new.ledgers.items ≡ old.ledgers.items → new.shown ≡ old.shown → new.edited ≡ old.edited → StillDue old new
  due_still kind resources tasks cap groups last told machine following ledgers shown edited = record {
    kind = kind;
    resources = resources;
    tasks = tasks;
    cap = cap;
    groups = groups;
    last = last;
    told = told;
    lock = λ whole s h. ap (state_in s) machine ∙ h.lock;
    changes = ap changes_in machine;
    ledgers = ledgers;
    shown = shown;
    edited = edited;
    there = λ some. ap (λ (o : Option Following). is_some o) following ∙ some;
    followed = λ whole s h. subst (λ (o : Option Following). IfSome o (λ f. Follows f (past_in s))) (sym following) (follows_if old.machine old.following s.latest (past_in s) h.stand);
  }

  pub same_still : new ≡ old → StillDue old new
  same_still same =
      due_still (ap (λ (r : ReportReader). r.whole) same) (first_same old.resources new.resources (ap (λ (r : ReportReader). r.resources) same)) (first_same old.tasks new.tasks (ap (λ (r : ReportReader). r.tasks) same))
      (ap (λ (r : ReportReader). r.cap) same) (ap (λ (r : ReportReader). r.groups) same) (ap (λ (r : ReportReader). r.last) same) (ap (λ (r : ReportReader). r.told) same) (ap (λ (r : ReportReader). r.machine) same) (ap (λ (r : ReportReader). r.following) same) (ap (λ (r : ReportReader). r.ledgers.items) same)
      (ap (λ (r : ReportReader). r.shown) same) (ap (λ (r : ReportReader). r.edited) same)
