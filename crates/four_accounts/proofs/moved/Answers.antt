use Rattle.std.proofs.Common.{rules, ◌≡◌, ◌+◌, length, replicate, refl, sym, ap, subst, ◌∙◌}
use Rattle.std.specs.Arc.{arc_value}
use Rattle.rnlp_lock.specs.Laws.{HoldsOf}
use Rattle.rnlp_lock.proofs.Conserving.{holds_of_list}
use Rattle.four_accounts.specs.Accounts.{HaveTogether}
use Rattle.four_accounts.specs.declared.account.Account.{Account}
use Rattle.four_accounts.proofs.Opened.{have_together}
use Rattle.four_accounts.proofs.moved.Goals as goal

pub of-requires : goal.of-requires
of-requires g c =
    let account : Account = record { balance = 1000 } in
    let items : c.in_ok-accounts.accounts.items ≡ replicate 4 account = search rules in
    record { law = subst (HoldsOf (HaveTogether 4000)) (sym items) (holds_of_list (HaveTogether 4000) (replicate 4 account) account refl) }

pub returns : goal.returns
returns g c =
    let four : length c.close-accounts.result.1.items ≡ 4 = search rules in
    let balance = λ (account : Account). account.balance in
    (λ i. (c.from.ensures ∙ ap balance c.deref.ensures) i + (c.from-2.ensures ∙ ap balance c.deref-2.ensures) i + (c.from-3.ensures ∙ ap balance c.deref-3.ensures) i + (c.from-4.ensures ∙ ap balance c.deref-4.ensures) i)
    ∙ have_together arc_value 4000 c.close-accounts.result.1.items c.close-accounts.ensures.law four c.index.result.now c.index-2.result.now c.index-3.result.now c.index-4.result.now c.index.ensures c.index-2.ensures c.index-3.ensures c.index-4.ensures
