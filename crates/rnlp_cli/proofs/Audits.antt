-- What is written about an audited report, as it is made.
use Rattle.std.proofs.Common.{◌≡◌, ℕ, List, [], ◌∷◌, ◌++◌, codes, decimal, sym, ap, ◌∙◌, append_assoc}
use Rattle.std.proofs.lemmas.List.{append-nil}
use Rattle.rnlp_cli.specs.Outputs.{audit_text}

two_fields : (first second rest : List ℕ) → ((first ++ (44 ∷ (second ++ []))) ++ (10 ∷ [])) ++ rest ≡ ((first ++ (44 ∷ [])) ++ second) ++ (10 ∷ rest)
two_fields first second rest =
    ap (λ (t : List ℕ). ((first ++ (44 ∷ t)) ++ (10 ∷ [])) ++ rest) (append-nil second)
    ∙ append_assoc (first ++ (44 ∷ second)) (10 ∷ []) rest
    ∙ ap (λ (t : List ℕ). t ++ (10 ∷ rest)) (sym (append_assoc first (44 ∷ []) second))

pub audit_is : (events waits : ℕ) → audit_text events waits ≡ (((codes "audit," ++ decimal events) ++ (44 ∷ [])) ++ decimal waits) ++ codes "\nend\n"
audit_is events waits = ap (λ (t : List ℕ). codes "audit," ++ t) (two_fields (decimal events) (decimal waits) (codes "end\n"))
