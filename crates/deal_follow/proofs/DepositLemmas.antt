-- The deposits of a deal, by the places that it has for them.
use Rattle.std.proofs.Common.{◌≡◌, ℕ, ◌+◌, List, [], ◌∷◌, refl, ap}
use Rattle.spec_terms.specs.Precondition.{Holding}
use Rattle.spec_compiler.specs.Keyed.Instance.{Instance}
use Rattle.spec_chain.specs.declared.output.Output.{Output}
use Rattle.spec_chain.specs.Outputs.{deposits_from}
use Rattle.deal_follow.specs.Deposits.{deposit_by, deposits_by}

pub same_deposits : (s : Instance) (n : ℕ) (ds : List (List ℕ × Holding)) → deposits_by s.bound n ds ≡ deposits_from s n ds
same_deposits s n [] = refl
same_deposits s n (d ∷ ds) = ap (λ (os : List Output). deposit_by s.bound n (d.0) (d.1).value ∷ os) (same_deposits s (n + 1) ds)
