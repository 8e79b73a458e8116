use Rattle.std.proofs.Common.{◌≡◌, ◌≤◌, ◌<◌, ◌+◌, ℕ, List, [], ◌∷◌, ◌++◌, length, map, flat_map, refl, sym, ap, subst, ◌∙◌, append_assoc, append-nil}
use Rattle.std.specs.Prelude.{drop}
use Rattle.std.proofs.lemmas.List.{drop_more, drop_all, length-map}
use Rattle.spec_deal.specs.declared.transaction.Transaction.{Transaction}
use Rattle.spec_tool.specs.Keyed.Listed.{Listed}
use Rattle.spec_deal.specs.Transactions.{transaction}
use Rattle.bitml_deal.specs.Endorsed.{endorsed_part}
use Rattle.bitml_deal.proofs.EndorsedLemmas.{one_more}
use Rattle.bitml_deal.proofs.endorse.put_all_endorsed.Goals as goal

pub loop-transaction-init : goal.loop-transaction-init
loop-transaction-init c = λ hash keys advert ls e. refl

pub loop-transaction-preserved : goal.loop-transaction-preserved
loop-transaction-preserved c = λ hash keys advert ls e.
    let i = c.loop-transaction.transaction-index in
    let out = c.loop-transaction.out.items in
    let part : Listed → List ℕ = endorsed_part hash keys advert c.args.party.now in
    let here : drop i c.args.transactions.now ≡ c.transaction-item.result ∷ drop (i + 1) c.args.transactions.now =
    drop_more c.args.transactions.now i c.transaction-item.result c.loop-transaction-test.true
    ∙ ap (λ (x : Transaction). x ∷ drop (i + 1) c.args.transactions.now) (sym c.transaction-item.is) in
    let all : length c.args.transactions.now ≡ length ls = ap length e ∙ length-map ls (transaction hash keys advert) in
    let m = one_more (transaction hash keys advert) ls i c.transaction-item.result
    (subst (λ (n : ℕ). i < n) all c.loop-transaction-test.true)
    (subst (λ (ts : List Transaction). drop i ts ≡ c.transaction-item.result ∷ drop (i + 1) ts) e here) in
    ap (λ text. text ++ flat_map part (drop (i + 1) ls)) (c.in_ok-put_endorsed.ensures hash keys advert m.0 m.2)
    ∙ append_assoc out (part m.0) (flat_map part (drop (i + 1) ls))
    ∙ ap (λ (rest : List Listed). out ++ flat_map part rest) (sym m.1)
    ∙ c.loop-transaction.invariant hash keys advert ls e

pub returns : goal.returns
returns c = λ hash keys advert ls e.
    let i = c.loop-transaction.transaction-index in
    let out = c.loop-transaction.out.items in
    let part : Listed → List ℕ = endorsed_part hash keys advert c.args.party.now in
    let all : length ls ≡ length c.args.transactions.now = sym (ap length e ∙ length-map ls (transaction hash keys advert)) in
    let none : drop i ls ≡ [] = drop_all i ls (subst (λ (n : ℕ). n ≤ i) (sym all) c.loop-transaction-test.false) in
    sym (ap (λ (rest : List Listed). out ++ flat_map part rest) none ∙ append-nil out) ∙ c.loop-transaction.invariant hash keys advert ls e
