use Rattle.std.proofs.Common.{rules, ◌≡◌, ◌+◌, Fits, w64, length, replicate, refl, sym, subst, ◌∙◌}
use Rattle.std.specs.Arc.{arc_value}
use Rattle.rnlp_lock.specs.Laws.{HoldsOf}
use Rattle.rnlp_lock.proofs.Conserving.{holds_of_list}
use Rattle.two_accounts.specs.Accounts.{HaveTogether}
use Rattle.two_accounts.specs.declared.account.Account.{Account}
use Rattle.two_accounts.proofs.Opened.{have_together}
use Rattle.two_accounts.proofs.moved.Goals as goal

pub of-requires : goal.of-requires
of-requires g c =
    let account : Account = record { balance = 1000 } in
    let items : c.in_ok-accounts.accounts.items ≡ replicate 2 account = search rules in
    record { law = subst (HoldsOf (HaveTogether 2000)) (sym items) (holds_of_list (HaveTogether 2000) (replicate 2 account) account refl) }

pub overflow_add-result : goal.overflow_add-result
overflow_add-result g c =
    let two : length c.close-accounts.result.1.items ≡ 2 = search rules in
    let sum = have_together arc_value 2000 c.close-accounts.result.1.items c.close-accounts.ensures.law c.index.result.now c.index-2.result.now two c.index.ensures c.index-2.ensures in
    subst (Fits w64) (sym ((λ i. (c.deref.ensures i).balance + (c.deref-2.ensures i).balance) ∙ sum)) (search rules)

pub returns : goal.returns
returns g c =
    let two : length c.close-accounts.result.1.items ≡ 2 = search rules in
    (λ i. (c.deref.ensures i).balance + (c.deref-2.ensures i).balance)
    ∙ have_together arc_value 2000 c.close-accounts.result.1.items c.close-accounts.ensures.law c.index.result.now c.index-2.result.now two c.index.ensures c.index-2.ensures
