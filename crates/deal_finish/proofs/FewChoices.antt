-- A choice that stands in a checked contract has few branches.
use Rattle.std.proofs.Common.{◌≡◌, ◌<◌, ◌^◌, List, length, Option, Some, None, refl}
use Rattle.std.specs.Prelude.{IfSome, option_map}
use Rattle.spec_terms.specs.Advert.{Advert}
use Rattle.spec_terms.specs.Faults.{IsWellFormed}
use Rattle.spec_terms.specs.Paths.{contract_under}
use Rattle.spec_terms.specs.declared.path.PathStep.{PathStep}
use Rattle.bm_syntax.specs.View.{contract}
use Rattle.bm_syntax.specs.declared.term.Contract.{Contract}
use Rattle.bm_offers.proofs.FewBranches.{few_branches}

pub few_there : {X : Type 0} (seen : X → Contract) (a : Advert) (q : List PathStep) (o : Option X) → IsWellFormed a
    → option_map (λ x. contract (seen x)) o ≡ contract_under a.root q → IfSome o (λ x. length (seen x).branches.items < 2 ^ 32)
few_there seen a q None well h = tt
few_there seen a q (Some x) well h = few_branches a q (seen x) (seen x).branches.items refl well h
