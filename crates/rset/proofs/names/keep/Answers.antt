use Rattle.std.proofs.Common.{cond, [], ◌∷◌, ◌++◌, ap, ◌∙◌}
use Rattle.rset.specs.Names.{knows}
use Rattle.rset.specs.Kept.{names_of}
use Rattle.rset.proofs.KeptLemmas.{kept_knows, kept_push}
use Rattle.rset.proofs.names.keep.Goals as goal

pub returns-clause-ok : goal.returns-clause-ok
returns-clause-ok c =
    let keys = c.args.names.now.keys in
    let owned = c.in_ok-owned.owned in
    let same = c.in_ok-owned.ensures.items in
    let absent = kept_knows keys owned.items ∙ ap (knows (names_of keys)) same ∙ c.requires in
    ap names_of c.in_ok-insert.ensures.keys
    ∙ ap (λ b. names_of (cond b keys (keys ++ owned ∷ []))) absent
    ∙ kept_push keys owned
    ∙ ap (λ n. names_of keys ++ n ∷ []) same
