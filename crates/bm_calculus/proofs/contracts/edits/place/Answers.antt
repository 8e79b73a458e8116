use Rattle.std.proofs.Common.{rules, not, ◌==◌, refl}
use Rattle.std.proofs.lemmas.List.Sorted.{answers_always}
use Rattle.spec_calculus.specs.declared.parts.ActiveContract.{ActiveContract}
use Rattle.bm_calculus.proofs.Search.{searched}
use Rattle.bm_calculus.proofs.contracts.edits.place.Goals as goal

-- the closure gives the number of an active contract
pub returns : goal.returns
returns c =
    let facts = c.binary_search_by_key.ensures in
    let by_key = facts.position (λ (x : ActiveContract). x.number) (answers_always _ _ _ (λ f a r g called. search rules)) in
    searched (λ (x : ActiveContract). x.number) c.args.number (λ x. not (x.number == c.args.number)) _ _
    (λ x. refl) c.requires.ascending facts.bound by_key
