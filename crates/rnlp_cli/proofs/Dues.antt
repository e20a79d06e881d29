-- The line of a ledger, as it is made.
use Rattle.std.proofs.Common.{◌≡◌, ℕ, List, [], ◌∷◌, ◌++◌, codes, decimal, sym, ap, ◌∙◌, append_assoc}
use Rattle.rvalue.specs.declared.ledger.Ledger.{Ledger}
use Rattle.rtrace_form.specs.Fields.{Names}
use Rattle.rtrace_form.specs.Lines.{Leaves}
use Rattle.rtrace_form.specs.SetFields.{name_at}
use Rattle.rtrace_form.specs.Texts.{behind_comma}
use Rattle.rtrace_write.proofs.Rows.{leaves_is}
use Rattle.rtrace_write.specs.Told.{told_line}

-- the line of a ledger, made piece by piece
pub ledger_line : (names : Names) (place : ℕ) (ledger : Ledger) (start name named first second whole : List ℕ)
    → start ≡ codes "ledger," → name ≡ name_at names.resources place → named ≡ start ++ name
    → first ≡ named ++ behind_comma (decimal ledger.balance) → second ≡ first ++ behind_comma (decimal ledger.edits) → whole ≡ second ++ 10 ∷ []
    → whole ≡ told_line names (Leaves place ledger)
ledger_line names place ledger start name named first second whole start_is name_is named_is first_is second_is whole_is =
    let text = name_at names.resources place in
    let balance = behind_comma (decimal ledger.balance) in
    let edits = behind_comma (decimal ledger.edits) in
    let pieces : whole ≡ (((codes "ledger," ++ text) ++ balance) ++ edits) ++ 10 ∷ [] =
    whole_is ∙ ap (λ t. t ++ 10 ∷ []) (second_is ∙ ap (λ t. t ++ edits) (first_is ∙ ap (λ t. t ++ balance) (named_is ∙ (λ i. start_is i ++ name_is i)))) in
    pieces
    ∙ append_assoc ((codes "ledger," ++ text) ++ balance) edits (10 ∷ [])
    ∙ append_assoc (codes "ledger," ++ text) balance (edits ++ 10 ∷ [])
    ∙ append_assoc (codes "ledger,") text (balance ++ (edits ++ 10 ∷ []))
    ∙ sym (leaves_is names place ledger)
