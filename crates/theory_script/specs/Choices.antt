-- What is claimed of the branch that a witness chooses.
use Rattle.std.specs.Prelude.{◌≡◌, ℕ, ◌<◌, List, drop, reverse}
use Rattle.spec_bitcoin.specs.Verdict.{items_of}
use Rattle.spec_compiler.specs.Witness.{witness_of, chosen_by}

-- a witness made for branch i of n chooses it
abbrev pub WitnessChooses : Type 0
WitnessChooses =
    (n i : ℕ) (signatures strings : List (List ℕ)) (script : List ℕ) → i < n → chosen_by n (witness_of signatures strings i n script) ≡ i

-- the stack by which a witness chooses is the one on which its script runs
abbrev pub ChoosesByItems : Type 0
ChoosesByItems = (witness : List (List ℕ)) → drop 1 (reverse witness) ≡ reverse (items_of witness)
