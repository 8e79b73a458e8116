-- What inputs spend of these outputs.
use Rattle.std.specs.Prelude.{ℕ, List, [], ◌∷◌, map}
use Rattle.std.specs.List.{flat_map}
use Rattle.std.specs.Option.{option_map_or}
use Rattle.spec_bitcoin.specs.declared.tx.TxIn.{TxIn}
use Rattle.spec_chain.specs.declared.output.Output.{Output}
use Rattle.spec_chain.specs.Following.{deposit_name}
use Rattle.spec_chain.specs.Outputs.{output_there}

-- the number of the output that the first input spends
abbrev pub first_number : List Output → List TxIn → ℕ
first_number live [] = 0
first_number live (i ∷ is) = option_map_or (λ (o : Output). o.number) (output_there live i.prev) 0

-- the deposits that the inputs spend
abbrev pub names_spent : List Output → List TxIn → List (List ℕ)
names_spent live inputs = flat_map (λ place. deposit_name (output_there live place)) (map (λ (i : TxIn). i.prev) inputs)
