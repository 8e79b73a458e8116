use Rattle.std.proofs.Common.{rules, not, [], ◌∷◌, subst}
use Rattle.std.proofs.lemmas.List.Sorted.{answers_always}
use Rattle.std.specs.List.Sorted.{IsSearchInRange}
use Rattle.spec_data.specs.Lists.{has_number}
use Rattle.spec_calculus.specs.declared.parts.Deposit.{Deposit}
use Rattle.bm_calculus.proofs.Gone.{stays_without}
use Rattle.bm_calculus.proofs.Search.{searched, seen}
use Rattle.bm_calculus.proofs.deposits.edits.place.Goals as goal

pub returns-in-Some : goal.returns-in-Some
returns-in-Some c =
    let s = seen (λ (x : Deposit). x.number) c.args.number (λ x. not (has_number x.number (c.args.number ∷ []))) _ c.in-Some.place
    (stays_without c.args.number) c.requires.ascending c.in-Some.ensures in
    record { found = s.0; absent = tt; within = s.1; taken = s.2; kept = tt }

-- the closure gives the number of a deposit
pub returns : goal.returns
returns c =
    let facts = c.binary_search_by_key.ensures in
    let in_range = subst (IsSearchInRange c.binary_search_by_key.result) c.args.deposits.now.ok.0 facts.bound in
    let by_key = facts.position (λ (x : Deposit). x.number) (answers_always _ _ _ (λ f a r g called. search rules)) in
    searched (λ (x : Deposit). x.number) c.args.number (λ x. not (has_number x.number (c.args.number ∷ []))) _ _
    (stays_without c.args.number) c.requires.ascending in_range by_key
