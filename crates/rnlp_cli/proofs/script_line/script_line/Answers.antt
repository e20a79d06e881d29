use Rattle.std.proofs.Common.{◌≡◌, [], ◌∷◌, ◌++◌, codes, decimal, sym, ap, ◌∙◌}
use Rattle.rscript.specs.Codes.{code_number}
use Rattle.rnlp_cli.proofs.Lines.{line_is}
use Rattle.rnlp_cli.proofs.script_line.script_line.Goals as goal

pub returns : goal.returns
returns c =
    let line : c.extend_from_slice.new.self.items ≡ codes "error," ++ decimal c.args.line =
    c.in_ok-extend_from_slice.ensures.items ∙ (λ i. c.in_ok-text.ensures.items i ++ (c.as_bytes.ensures.value ∙ c.format.ensures.text) i) in
    let comma : c.push.new.self.items ≡ (codes "error," ++ decimal c.args.line) ++ 44 ∷ [] = c.in_ok-push.ensures.items ∙ ap (λ t. t ++ 44 ∷ []) line in
    let code : c.extend_from_slice-2.new.self.items ≡ ((codes "error," ++ decimal c.args.line) ++ 44 ∷ []) ++ decimal (code_number c.args.code) =
    c.in_ok-extend_from_slice-2.ensures.items ∙ (λ i. comma i ++ (c.as_bytes-2.ensures.value ∙ (c.format-2.ensures.text ∙ ap decimal c.number.ensures)) i) in
    c.in_ok-push-2.ensures.items ∙ ap (λ t. t ++ 10 ∷ []) code ∙ sym (line_is c.args.line c.args.code)
