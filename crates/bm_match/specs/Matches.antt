-- What a transaction is to the contracts of a run that are compiled.
use Rattle.std.specs.Prelude.{◌≡◌, ℕ, ◌+◌, List, [], ◌∷◌, Bool, true, false, if◌then◌else◌}
use Rattle.std.specs.Prelude.{Option, Some, None, option_map, slice_get}
use Rattle.std.specs.Option.{option_and_then}
use Rattle.spec_terms.specs.Term.{Contract}
use Rattle.spec_terms.specs.Advert.{Advert}
use Rattle.spec_terms.specs.Paths.{contract_under}
use Rattle.spec_terms.specs.declared.path.PathStep.{PathStep}
use Rattle.spec_nodes.specs.Nodes.{Node, nodes_of}
use Rattle.spec_nodes.specs.Numbers.{choice_number_at}
use Rattle.spec_bitcoin.specs.declared.tx.Tx.{Tx}
use Rattle.spec_compiler.specs.Instance.{Instance}
use Rattle.spec_compiler.specs.Transactions.{tx_of, initial_unsigned}
use Rattle.spec_compiler.specs.Witness.{chosen_by}
use Rattle.spec_run.specs.Setup.{Setup, contract_at}
use Rattle.spec_run.specs.World.{ContractPosition, World}
use Rattle.spec_run.specs.Compiled.{compiled_instance}
use Rattle.spec_run.specs.Ledger.{Kind, Begins, Takes, Moves, same_bare, first_witness, count_of}
use Rattle.bm_compile.specs.Numbered.{Numbered, numbered}
use Rattle.bm_match.specs.declared.found.Match.{Match}
use Rattle.bm_match.specs.declared.found.Match.TheVariants.{Init, Branch, Move}
use Rattle.bm_match.specs.declared.found.Active.{Active}

-- ---- one contract

-- what it is to the contract of this number, by whether it is the initial transaction, and by the output that it takes and the branch
abbrev pub matched : ℕ → Bool → Option (ℕ × ℕ) → Match
matched contract true taken = Init contract
matched contract false (Some p) = Branch contract p.0 p.1
matched contract false None = Move

-- the branch that its first input's witness chooses at a position
abbrev pub chosen_at : Contract → List PathStep → Tx → ℕ
chosen_at root position tx = chosen_by (count_of (contract_under root position)) (first_witness tx.inputs)

-- what it is to the contract of this number that is compiled so, where its first input spends this output of the contract, which
-- stands at this position
abbrev pub match_in : ℕ → (List ℕ → List ℕ) → Instance → Option (ℕ × List PathStep) → Tx → Match
match_in contract hash s active tx =
    matched contract (same_bare tx (tx_of (initial_unsigned hash s)))
    (option_map {U = ℕ × ℕ} (λ a. (a.0, chosen_at s.advert.root a.1 tx)) active)

-- ---- all contracts of a run

-- what the contracts from number k on are compiled to, where they are
abbrev pub compiled_from : Setup → World → ℕ → List Advert → List (Option Numbered)
compiled_from s w k [] = []
compiled_from s w k (advert ∷ adverts) = option_map (numbered s.hash) (compiled_instance s w k) ∷ compiled_from s w (k + 1) adverts

abbrev pub all_compiled : Setup → World → List (Option Numbered)
all_compiled s w = compiled_from s w 0 s.contracts

-- whether it is the initial transaction of what is compiled so
abbrev pub begins : Tx → Option Numbered → Bool
begins tx None = false
begins tx (Some compiled) = same_bare tx compiled.init.tx

-- the first from number k on whose initial transaction it is
abbrev pub first_begun : Tx → ℕ → List (Option Numbered) → Option ℕ
first_begun tx k [] = None
first_begun tx k (c ∷ cs) = if begins tx c then Some k else first_begun tx (k + 1) cs

-- the nodes of the contract of this number, where it is compiled
abbrev pub nodes_at : List (Option Numbered) → ℕ → Option (List Node)
nodes_at compiled contract =
    option_map (λ (n : Numbered). n.nodes) (option_and_then (λ (o : Option Numbered). o) (slice_get compiled contract))

-- a kind of the definitions
abbrev pub seen_kind : Kind → Match
seen_kind (Begins contract) = Init contract
seen_kind (Takes held output branch) = Branch held.contract output branch
seen_kind Moves = Move

-- the number of the choice of what is held, in its contract
abbrev pub choice_in : Option Advert → List PathStep → Option ℕ
choice_in None position = None
choice_in (Some advert) position = choice_number_at (nodes_of advert.root) position

-- the contract output is the one that is held, of a contract that is compiled: by its contract, its number and the node of its choice
pub record IsHeld (s : Setup) (w : World) (held : ContractPosition) (number : ℕ) (active : Active) : Type 0 where
  pub contract : active.contract ≡ held.contract
  pub output : active.output ≡ number
  pub node : choice_in (contract_at s held.contract) held.position ≡ Some active.node
  pub instance : Instance
  pub compiled : compiled_instance s w held.contract ≡ Some instance

-- both or neither are there
abbrev pub IsActive : Setup → World → Option ContractPosition → ℕ → Option Active → Type 0
IsActive s w None number None = Unit {0}
IsActive s w (Some held) number (Some active) = IsHeld s w held number active
IsActive s w None number (Some active) = ⊥
IsActive s w (Some held) number None = ⊥
