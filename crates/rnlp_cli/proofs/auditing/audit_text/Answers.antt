use Rattle.std.proofs.Common.{◌≡◌, [], ◌∷◌, ◌++◌, codes, decimal, sym, ap, ◌∙◌}
use Rattle.rnlp_cli.proofs.Audits.{audit_is}
use Rattle.rnlp_cli.proofs.auditing.audit_text.Goals as goal

pub returns : goal.returns
returns c =
    let events : c.extend_from_slice.new.self.items ≡ codes "audit," ++ decimal c.args.counts.events =
    c.in_ok-extend_from_slice.ensures.items ∙ (λ i. c.in_ok-text.ensures.items i ++ (c.as_bytes.ensures.value ∙ c.format.ensures.text) i) in
    let comma : c.push.new.self.items ≡ (codes "audit," ++ decimal c.args.counts.events) ++ 44 ∷ [] = c.in_ok-push.ensures.items ∙ ap (λ t. t ++ 44 ∷ []) events in
    let waits : c.extend_from_slice-2.new.self.items ≡ ((codes "audit," ++ decimal c.args.counts.events) ++ 44 ∷ []) ++ decimal c.args.counts.waits =
    c.in_ok-extend_from_slice-2.ensures.items ∙ (λ i. comma i ++ (c.as_bytes-2.ensures.value ∙ c.format-2.ensures.text) i) in
    c.in_ok-extend_from_slice-3.ensures.items ∙ ap (λ t. t ++ codes "\nend\n") waits ∙ sym (audit_is c.args.counts.events c.args.counts.waits)
