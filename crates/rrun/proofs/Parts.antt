-- A section of whole sections is whole.
use Rattle.std.proofs.Common.{◌≡◌, ℕ, ◌-◌, ◌==◌, Bool, true, false, cond, List, [], ◌∷◌, Option, None, refl, sym, subst, ◌∙◌}
use Rattle.std.proofs.lemmas.Bool.{true≢false, eqb-true, eq-eqb}
use Rattle.rset.specs.Sets.{Set}
use Rattle.rvalue.specs.declared.ledger.Edit.{Edit}
use Rattle.rvalue.specs.declared.ledger.Ledger.{Ledger}
use Rattle.rscript.specs.Statements.{section_next}
use Rattle.rscript.specs.declared.section.OpenSection.{OpenSection}
use Rattle.rscript.specs.declared.statement.Statement.{Statement}
use Rattle.rscript.specs.declared.statement.Statement.TheVariants as statement
use Rattle.rguard.specs.Seats.{SeatOf}
use Rattle.rrun.specs.Sections.{ends_section, behind_sections, first_section, section_at}
use Rattle.rrun.specs.Working.{AreWhole, AreWholeAt}

ends_open : (o : Option OpenSection) (s : Statement) → ends_section s ≡ true → section_next o s ≡ None
ends_open o (statement.Begin r) h = absurd (true≢false (sym h))
ends_open o (statement.Edit place edit) h = absurd (true≢false (sym h))
ends_open o (statement.Show place) h = absurd (true≢false (sym h))
ends_open o (statement.Ask part) h = absurd (true≢false (sym h))
ends_open o statement.Rise h = absurd (true≢false (sym h))
ends_open o statement.Finish h = refl

module _ (q : ℕ) (groups : List Set) where
  behind_whole : (k : ℕ) (o : Option OpenSection) (ss : List Statement) → (k ≡ 0 → o ≡ None) → AreWhole q groups o ss → AreWhole q groups None (behind_sections k ss)
  behind_whole k o [] first whole = refl
  behind_whole k o (s ∷ ss) first whole = at (k == 0) refl (λ f. behind_whole (k - 1) (section_next o s) ss f whole.1) (λ f. behind_whole k (section_next o s) ss f whole.1)
    where
      behind : (b : Bool) → ends_section s ≡ b → (k == 0) ≡ false → ((k - 1 ≡ 0 → section_next o s ≡ None) → AreWhole q groups None (behind_sections (k - 1) ss)) → ((k ≡ 0 → section_next o s ≡ None) → AreWhole q groups None (behind_sections k ss))
          → AreWhole q groups None (behind_sections (cond b (k - 1) k) ss)
      behind true is some fewer same = fewer (λ _. ends_open o s is)
      behind false is some fewer same = same (λ none. absurd (true≢false (sym (eq-eqb k 0 none) ∙ some)))

      at : (b : Bool) → (k == 0) ≡ b → ((k - 1 ≡ 0 → section_next o s ≡ None) → AreWhole q groups None (behind_sections (k - 1) ss)) → ((k ≡ 0 → section_next o s ≡ None) → AreWhole q groups None (behind_sections k ss))
          → AreWhole q groups None (cond b (s ∷ ss) (behind_sections (cond (ends_section s) (k - 1) k) ss))
      at true is fewer same = subst (λ (x : Option OpenSection). AreWhole q groups x (s ∷ ss)) (first (eqb-true k 0 is)) whole
      at false is fewer same = behind (ends_section s) refl is fewer same

  first_whole : (o : Option OpenSection) (ss : List Statement) → AreWhole q groups o ss → AreWhole q groups o (first_section ss)
  first_whole o [] whole = whole
  first_whole o (s ∷ ss) whole = (whole.0, at (ends_section s) refl (first_whole (section_next o s) ss whole.1))
    where
      at : (b : Bool) → ends_section s ≡ b → AreWhole q groups (section_next o s) (first_section ss) → AreWhole q groups (section_next o s) (cond b [] (first_section ss))
      at true is rest = ends_open o s is
      at false is rest = rest

pub section_whole : (k : ℕ) (ss : List Statement) (seat : SeatOf Ledger Edit) → AreWholeAt seat ss → AreWholeAt seat (section_at k ss)
section_whole k ss seat whole b opens =
    first_whole b.groups.q b.groups.groups None (behind_sections k ss) (behind_whole b.groups.q b.groups.groups k None ss (λ _. refl) (whole b opens))
