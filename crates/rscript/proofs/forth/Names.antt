-- The names by which a record is read: all names give the same as those declared before it, since the resources it
-- needs are all declared by then.
use Rattle.std.proofs.Common.{◌≡◌, ℕ, ◌≤◌, List, [], ◌∷◌, fold, Some, refl, sym, ap, subst, ◌∙◌, arith}
use Rattle.std.specs.Prelude.{option_map}
use Rattle.rclaim.specs.declared.request.Kind.TheVariants.{Read, Write, Mixed, Upgrade, Nested}
use Rattle.rtrace_form.specs.Records.{Row}
use Rattle.rtrace_form.specs.Fields.{Values}
use Rattle.rtrace_form.proofs.forth.Names.{AgreeOnAll, read_same}
use Rattle.rscript.specs.Words.{fields_of}
use Rattle.rscript.specs.Lines.{Line, Opens, HasResource, HasGroup, HasTask, Does, Ends, line_by, names_of, meaning, meant_as}
use Rattle.rscript.specs.declared.word.ScriptWord.{ScriptWord}
use Rattle.rscript.specs.declared.word.ScriptWord.TheVariants as word
use Rattle.rscript.specs.SoFar.{SoFar, with_line}
use Rattle.rscript.proofs.facts.Fine.{IsNext, AllNext, placed_at}
use Rattle.rscript.proofs.facts.Said.{says}

-- a record needs the resources only after they are declared
needs : (s : SoFar) (a b : List (List ℕ)) (w : ScriptWord) (v : Values (fields_of w)) → (3 ≤ (with_line s (line_by w v)).last → a ≡ b) → AgreeOnAll (names_of a) (names_of b) (fields_of w)
needs s a b word.Version v r = (tt, (tt, tt))
needs s a b word.Resource v r = (tt, (tt, tt))
needs s a b word.Group v r = (tt, (r (omega arith), tt))
needs s a b word.Task v r = (tt, (tt, tt))
needs s a b (word.Begin Read) v r = (tt, (r (omega arith), (tt, tt)))
needs s a b (word.Begin Write) v r = (tt, (r (omega arith), (tt, tt)))
needs s a b (word.Begin Mixed) v r = (tt, (r (omega arith), (r (omega arith), (tt, tt))))
needs s a b (word.Begin Upgrade) v r = (tt, (r (omega arith), (tt, (tt, tt))))
needs s a b (word.Begin Nested) v r = (tt, (r (omega arith), (r (omega arith), (r (omega arith), (tt, tt)))))
needs s a b word.Show v r = (tt, (r (omega arith), tt))
needs s a b word.Add v r = (tt, (r (omega arith), (tt, tt)))
needs s a b word.Take v r = (tt, (r (omega arith), (tt, tt)))
needs s a b word.Put v r = (tt, (r (omega arith), (tt, tt)))
needs s a b word.Ask v r = (tt, (r (omega arith), tt))
needs s a b word.Rise v r = (tt, tt)
needs s a b word.Finish v r = (tt, tt)
needs s a b word.End v r = (tt, tt)

-- so it says the same line by both
pub means_same : (s : SoFar) (a b : List (List ℕ)) (row : Row) (line : Line) → (3 ≤ (with_line s line).last → a ≡ b) → meaning (names_of a) row ≡ Some line → meaning (names_of b) row ≡ Some line
unfolding meaning
means_same s a b row line r h =
    let told = says (names_of a) row line h in
    let agree = needs s a b told.of told.values (λ e. r (subst (λ (l : Line). 3 ≤ (with_line s l).last) told.tells e)) in
    ap (meant_as (names_of b) row) told.is ∙ ap (option_map (line_by told.of)) (sym (read_same (names_of a) (names_of b) (fields_of told.of) row agree) ∙ told.reads) ∙ ap (λ (l : Line). Some l) told.tells

-- after the resources no line declares one
resources_stay : (s : SoFar) (line : Line) → 3 ≤ s.last → IsNext s line → ((with_line s line).resources ≡ s.resources) × (3 ≤ (with_line s line).last)
resources_stay s Opens far next = absurd (let at = placed_at s word.Version next.placed in omega (arith, at.1, far))
resources_stay s (HasResource name) far next = absurd (let at = placed_at s word.Resource next.placed in omega (arith, at.1, far))
resources_stay s (HasGroup group) far next = (refl, omega arith)
resources_stay s (HasTask name) far next = (refl, omega arith)
resources_stay s (Does done) far next = (refl, omega arith)
resources_stay s Ends far next = (refl, omega arith)

pub resources_kept : (s : SoFar) (lines : List Line) → 3 ≤ s.last → AllNext s lines → (fold with_line s lines).resources ≡ s.resources
resources_kept s [] far next = refl
resources_kept s (line ∷ lines) far next = let one = resources_stay s line far next.0 in resources_kept (with_line s line) lines one.1 next.1 ∙ one.0

-- a line after the resources declares no resource
pub resources_same : (s : SoFar) (line : Line) → 3 ≤ (with_line s line).last → (with_line s line).resources ≡ s.resources
resources_same s (HasResource name) far = absurd (omega (arith, far))
resources_same s Opens far = refl
resources_same s (HasGroup group) far = refl
resources_same s (HasTask name) far = refl
resources_same s (Does done) far = refl
resources_same s Ends far = refl

-- so it is read by the resources that are there in the end
pub final_resources : (s : SoFar) (line : Line) (lines : List Line) → AllNext (with_line s line) lines → 3 ≤ (with_line s line).last → s.resources ≡ (fold with_line (with_line s line) lines).resources
final_resources s line lines next far = sym (resources_kept (with_line s line) lines far next ∙ resources_same s line far)
