-- The lines that declare resources and groups.
use Rattle.std.proofs.Common.{◌≡◌, ℕ, ◌≤◌, true, false, List, [], ◌∷◌, ◌++◌, map, length, None, refl, sym, subst, arith, append_assoc, true≢false}
use Rattle.std.proofs.lemmas.List.{append-nil}
use Rattle.rset.specs.Names.{is_table}
use Rattle.rset.specs.Sets.{Set}
use Rattle.rset.specs.declared.TheConstants.{RESOURCES}
use Rattle.rtrace_form.specs.Heads.{is_nil, are_read_groups}
use Rattle.rtrace_form.proofs.facts.Tables.{table-front, groups-front}
use Rattle.rtrace_form.proofs.back.Runs.{last_place, last_again}
use Rattle.rscript.specs.Lines.{Opens, HasResource, HasGroup}
use Rattle.rscript.specs.declared.word.ScriptWord.TheVariants as word
use Rattle.rscript.specs.Scripts.{AreWithin}
use Rattle.rscript.specs.SoFar.{SoFar, nothing_yet}
use Rattle.rscript.proofs.facts.Fine.{stands_there}
use Rattle.rscript.proofs.back.Runs.{Runs, runs_none, runs_on, saying}

resources_run : (p : ℕ) (before after : List (List ℕ)) → 1 ≤ p → p ≤ 2 → is_table RESOURCES (before ++ after) ≡ true
    → Runs (saying p before [] [] [] None) (map HasResource after) (saying (last_place p 2 after) (before ++ after) [] [] [] None)
resources_run p before [] low high table =
    subst (λ (rs : List (List ℕ)). Runs (saying p before [] [] [] None) [] (saying p rs [] [] [] None)) (sym (append-nil before)) (runs_none (saying p before [] [] [] None))
resources_run p before (name ∷ after) low high table =
    let s = saying p before [] [] [] None in
    let placed = stands_there s word.Resource low high refl in
    let same : (before ++ name ∷ []) ++ after ≡ before ++ name ∷ after = append_assoc before (name ∷ []) after in
    let rest = resources_run 2 (before ++ name ∷ []) after (omega arith) (omega arith) (subst (λ (rs : List (List ℕ)). is_table RESOURCES rs ≡ true) (sym same) table) in
    runs_on s (saying 2 (before ++ name ∷ []) [] [] [] None) (saying 2 (before ++ name ∷ after) [] [] [] None) (HasResource name) (map HasResource after)
    (record { placed = placed; resources = refl; task = refl; fine = table-front RESOURCES before after name table }) refl
    (subst (λ (t : SoFar). Runs (saying 2 (before ++ name ∷ []) [] [] [] None) (map HasResource after) t) (λ i. saying (last_again 2 after i) (same i) [] [] [] None) rest)

groups_run : (p : ℕ) (rs : List (List ℕ)) (before after : List Set) → 2 ≤ p → p ≤ 3 → are_read_groups (before ++ after) ≡ true → AreWithin (length rs) after
    → Runs (saying p rs before [] [] None) (map HasGroup after) (saying (last_place p 3 after) rs (before ++ after) [] [] None)
groups_run p rs before [] low high groups within =
    subst (λ (gs : List Set). Runs (saying p rs before [] [] None) [] (saying p rs gs [] [] None)) (sym (append-nil before)) (runs_none (saying p rs before [] [] None))
groups_run p rs before (group ∷ after) low high groups within =
    let s = saying p rs before [] [] None in
    let good = groups-front before after group groups in
    let placed = stands_there s word.Group low high refl in
    let same : (before ++ group ∷ []) ++ after ≡ before ++ group ∷ after = append_assoc before (group ∷ []) after in
    let rest = groups_run 3 rs (before ++ group ∷ []) after (omega arith) (omega arith) (subst (λ (gs : List Set). are_read_groups gs ≡ true) (sym same) groups) within.1 in
    runs_on s (saying 3 rs (before ++ group ∷ []) [] [] None) (saying 3 rs (before ++ group ∷ after) [] [] None) (HasGroup group) (map HasGroup after)
    (record { placed = placed; resources = refl; task = refl; fine = (good.1, good.0, within.0) }) refl
    (subst (λ (t : SoFar). Runs (saying 3 rs (before ++ group ∷ []) [] [] None) (map HasGroup after) t) (λ i. saying (last_again 3 after i) rs (same i) [] [] None) rest)

pub open_run : Runs nothing_yet (Opens ∷ []) (saying 1 [] [] [] [] None)
open_run =
    runs_on nothing_yet (saying 1 [] [] [] [] None) (saying 1 [] [] [] [] None) Opens []
    (record { placed = refl; resources = refl; task = refl; fine = tt }) refl (runs_none (saying 1 [] [] [] [] None))

pub some_place : {X : Type 0} (p own : ℕ) (xs : List X) → is_nil xs ≡ false → last_place p own xs ≡ own
some_place p own [] some = absurd (true≢false some)
some_place p own (x ∷ xs) some = refl

pub declared_run : (rs : List (List ℕ)) → is_table RESOURCES rs ≡ true → is_nil rs ≡ false → Runs (saying 1 [] [] [] [] None) (map HasResource rs) (saying 2 rs [] [] [] None)
declared_run rs table some =
    subst (λ p. Runs (saying 1 [] [] [] [] None) (map HasResource rs) (saying p rs [] [] [] None)) (some_place 1 2 rs some) (resources_run 1 [] rs (omega arith) (omega arith) table)

pub grouped_run : (rs : List (List ℕ)) (gs : List Set) → are_read_groups gs ≡ true → AreWithin (length rs) gs
    → Runs (saying 2 rs [] [] [] None) (map HasGroup gs) (saying (last_place 2 3 gs) rs gs [] [] None)
grouped_run rs gs groups within = groups_run 2 rs [] gs (omega arith) (omega arith) groups within

-- the place after the groups, if there are any
pub groups_place : (gs : List Set) → (1 ≤ last_place 2 3 gs) × (last_place 2 3 gs ≤ 4)
groups_place [] = (omega arith, omega arith)
groups_place (g ∷ gs) = (omega arith, omega arith)
