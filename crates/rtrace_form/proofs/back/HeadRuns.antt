-- The lines of a head.
use Rattle.std.proofs.Common.{◌≡◌, ℕ, ◌≤◌, Bool, true, false, List, [], ◌∷◌, ◌++◌, map, Option, Some, None, refl, sym, subst, arith, append_assoc, true≢false}
use Rattle.std.specs.Prelude.{option_to_list}
use Rattle.std.proofs.lemmas.List.{append-nil}
use Rattle.rset.specs.Names.{is_table}
use Rattle.rset.specs.Sets.{Set}
use Rattle.rset.specs.declared.TheConstants.{RESOURCES, SEATS}
use Rattle.rtrace_form.specs.Heads.{is_nil, are_read_groups}
use Rattle.rtrace_form.specs.Lines.{Opens, HasResource, HasGroup, HasTask, HasCap}
use Rattle.rtrace_form.specs.Reports.{declared_lines}
use Rattle.rtrace_form.specs.SoFar.{SoFar, nothing_yet}
use Rattle.rtrace_form.proofs.facts.Tables.{table-front, groups-front}
use Rattle.rtrace_form.proofs.back.Runs.{Runs, runs_none, runs_on, runs_both, last_place, last_again, heading}
use Rattle.rtrace_form.proofs.back.FineLines.{plain_fine}

module _ (whole : Bool) where
  resources_run : (p : ℕ) (before after : List (List ℕ)) → 1 ≤ p → p ≤ 2 → is_table RESOURCES (before ++ after) ≡ true
      → Runs whole (heading p before [] [] None) (map HasResource after) (heading (last_place p 2 after) (before ++ after) [] [] None)
  resources_run p before [] low high table =
      subst (λ (rs : List (List ℕ)). Runs whole (heading p before [] [] None) [] (heading p rs [] [] None)) (sym (append-nil before)) (runs_none whole (heading p before [] [] None))
  resources_run p before (name ∷ after) low high table =
      let s = heading p before [] [] None in
      let fine = plain_fine whole s (HasResource name) refl refl low high refl (table-front RESOURCES before after name table) refl refl refl in
      let same : (before ++ name ∷ []) ++ after ≡ before ++ name ∷ after = append_assoc before (name ∷ []) after in
      let rest = resources_run 2 (before ++ name ∷ []) after (omega arith) (omega arith) (subst (λ (rs : List (List ℕ)). is_table RESOURCES rs ≡ true) (sym same) table) in
      runs_on whole s (heading 2 (before ++ name ∷ []) [] [] None) (heading 2 (before ++ name ∷ after) [] [] None) (HasResource name) (map HasResource after)
      (record { room = refl; fine = fine; comes = λ _. tt }) refl
      (subst (λ (t : SoFar). Runs whole (heading 2 (before ++ name ∷ []) [] [] None) (map HasResource after) t) (λ i. heading (last_again 2 after i) (same i) [] [] None) rest)

  groups_run : (p : ℕ) (rs : List (List ℕ)) (before after : List Set) → 2 ≤ p → p ≤ 3 → are_read_groups (before ++ after) ≡ true
      → Runs whole (heading p rs before [] None) (map HasGroup after) (heading (last_place p 3 after) rs (before ++ after) [] None)
  groups_run p rs before [] low high groups =
      subst (λ (gs : List Set). Runs whole (heading p rs before [] None) [] (heading p rs gs [] None)) (sym (append-nil before)) (runs_none whole (heading p rs before [] None))
  groups_run p rs before (group ∷ after) low high groups =
      let s = heading p rs before [] None in
      let good = groups-front before after group groups in
      let fine = plain_fine whole s (HasGroup group) refl refl low high refl good.0 refl refl refl in
      let same : (before ++ group ∷ []) ++ after ≡ before ++ group ∷ after = append_assoc before (group ∷ []) after in
      let rest = groups_run 3 rs (before ++ group ∷ []) after (omega arith) (omega arith) (subst (λ (gs : List Set). are_read_groups gs ≡ true) (sym same) groups) in
      runs_on whole s (heading 3 rs (before ++ group ∷ []) [] None) (heading 3 rs (before ++ group ∷ after) [] None) (HasGroup group) (map HasGroup after)
      (record { room = good.1; fine = fine; comes = λ _. tt }) refl
      (subst (λ (t : SoFar). Runs whole (heading 3 rs (before ++ group ∷ []) [] None) (map HasGroup after) t) (λ i. heading (last_again 3 after i) rs (same i) [] None) rest)

  tasks_run : (p : ℕ) (rs : List (List ℕ)) (gs : List Set) (before after : List (List ℕ)) → 2 ≤ p → p ≤ 4 → is_table SEATS (before ++ after) ≡ true
      → Runs whole (heading p rs gs before None) (map HasTask after) (heading (last_place p 4 after) rs gs (before ++ after) None)
  tasks_run p rs gs before [] low high table =
      subst (λ (ts : List (List ℕ)). Runs whole (heading p rs gs before None) [] (heading p rs gs ts None)) (sym (append-nil before)) (runs_none whole (heading p rs gs before None))
  tasks_run p rs gs before (name ∷ after) low high table =
      let s = heading p rs gs before None in
      let fine = plain_fine whole s (HasTask name) refl refl low high refl (table-front SEATS before after name table) refl refl refl in
      let same : (before ++ name ∷ []) ++ after ≡ before ++ name ∷ after = append_assoc before (name ∷ []) after in
      let rest = tasks_run 4 rs gs (before ++ name ∷ []) after (omega arith) (omega arith) (subst (λ (ts : List (List ℕ)). is_table SEATS ts ≡ true) (sym same) table) in
      runs_on whole s (heading 4 rs gs (before ++ name ∷ []) None) (heading 4 rs gs (before ++ name ∷ after) None) (HasTask name) (map HasTask after)
      (record { room = refl; fine = fine; comes = λ _. tt }) refl
      (subst (λ (t : SoFar). Runs whole (heading 4 rs gs (before ++ name ∷ []) None) (map HasTask after) t) (λ i. heading (last_again 4 after i) rs gs (same i) None) rest)

  cap_run : (rs : List (List ℕ)) (gs : List Set) (ts : List (List ℕ)) (told : Option ℕ)
      → Runs whole (heading 4 rs gs ts None) (map HasCap (option_to_list told)) (heading (last_place 4 5 (option_to_list told)) rs gs ts told)
  cap_run rs gs ts None = runs_none whole (heading 4 rs gs ts None)
  cap_run rs gs ts (Some n) =
      let s = heading 4 rs gs ts None in
      let fine = plain_fine whole s (HasCap n) refl refl (omega arith) (omega arith) refl refl refl refl refl in
      runs_on whole s (heading 5 rs gs ts (Some n)) (heading 5 rs gs ts (Some n)) (HasCap n) [] (record { room = refl; fine = fine; comes = λ _. tt }) refl (runs_none whole (heading 5 rs gs ts (Some n)))

  open_run : Runs whole nothing_yet (Opens ∷ []) (heading 1 [] [] [] None)
  open_run =
      let fine = plain_fine whole nothing_yet Opens refl refl (omega arith) (omega arith) refl refl refl refl refl in
      runs_on whole nothing_yet (heading 1 [] [] [] None) (heading 1 [] [] [] None) Opens [] (record { room = refl; fine = fine; comes = λ _. tt }) refl (runs_none whole (heading 1 [] [] [] None))

  some_place : {X : Type 0} (p own : ℕ) (xs : List X) → is_nil xs ≡ false → last_place p own xs ≡ own
  some_place p own [] some = absurd (true≢false some)
  some_place p own (x ∷ xs) some = refl

  groups_place : (gs : List Set) → (2 ≤ last_place 2 3 gs) × (last_place 2 3 gs ≤ 3)
  groups_place [] = (omega arith, omega arith)
  groups_place (g ∷ gs) = (omega arith, omega arith)

  pub cap_place : (told : Option ℕ) → (4 ≤ last_place 4 5 (option_to_list told)) × (last_place 4 5 (option_to_list told) ≤ 7)
  cap_place None = (omega arith, omega arith)
  cap_place (Some n) = (omega arith, omega arith)

  -- the lines of a head lead to after it
  pub head_run : (rs : List (List ℕ)) (gs : List Set) (ts : List (List ℕ)) (told : Option ℕ)
      → is_table RESOURCES rs ≡ true → are_read_groups gs ≡ true → is_table SEATS ts ≡ true → is_nil rs ≡ false → is_nil ts ≡ false
      → Runs whole nothing_yet (declared_lines rs gs ts told) (heading (last_place 4 5 (option_to_list told)) rs gs ts told)
  head_run rs gs ts told resources groups tasks some_resource some_task =
      let a : Runs whole (heading 1 [] [] [] None) (map HasResource rs) (heading 2 rs [] [] None) =
      subst (λ p. Runs whole (heading 1 [] [] [] None) (map HasResource rs) (heading p rs [] [] None)) (some_place 1 2 rs some_resource) (resources_run 1 [] rs (omega arith) (omega arith) resources) in
      let b = groups_run 2 rs [] gs (omega arith) (omega arith) groups in
      let at = groups_place gs in
      let high : last_place 2 3 gs ≤ 4 = omega (arith, at.1) in
      let c : Runs whole (heading (last_place 2 3 gs) rs gs [] None) (map HasTask ts) (heading 4 rs gs ts None) =
      subst (λ p. Runs whole (heading (last_place 2 3 gs) rs gs [] None) (map HasTask ts) (heading p rs gs ts None)) (some_place (last_place 2 3 gs) 4 ts some_task)
      (tasks_run (last_place 2 3 gs) rs gs [] ts at.0 high tasks) in
      let d = cap_run rs gs ts told in
      let end = heading (last_place 4 5 (option_to_list told)) rs gs ts told in
      let cd = runs_both whole (heading (last_place 2 3 gs) rs gs [] None) (heading 4 rs gs ts None) end (map HasTask ts) (map HasCap (option_to_list told)) c d in
      let bcd = runs_both whole (heading 2 rs [] [] None) (heading (last_place 2 3 gs) rs gs [] None) end (map HasGroup gs) (map HasTask ts ++ map HasCap (option_to_list told)) b cd in
      let abcd = runs_both whole (heading 1 [] [] [] None) (heading 2 rs [] [] None) end (map HasResource rs) (map HasGroup gs ++ (map HasTask ts ++ map HasCap (option_to_list told))) a bcd in
      runs_both whole nothing_yet (heading 1 [] [] [] None) end (Opens ∷ []) (map HasResource rs ++ (map HasGroup gs ++ (map HasTask ts ++ map HasCap (option_to_list told)))) open_run abcd
