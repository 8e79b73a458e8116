-- The commands of the program for deals, and the files that they read: those on a deal alone, its plan as JSON, and those on its chain.
use Rattle.std.specs.Prelude.{ℕ, List, [], ◌∷◌, if◌then◌else◌, Option, Some, None, codes}
use Rattle.std.specs.Option.{option_map}
use Rattle.std.specs.Str.{bytes_eq}
use Rattle.spec_tool.specs.Commands.{contract_file}
use Rattle.spec_tool.specs.Reads.{Asked}
use Rattle.spec_deal.specs.Commands.{DealCommand, deal_command_of, deal_files, deal_file, signature_file, secrets_file}
use Rattle.spec_chain.specs.Sizes.{most_chain_bytes}

-- files are named by their bytes
pub data ChainCommand : Type 0 where
  -- one that needs no chain
  on_deal : DealCommand → ChainCommand
  -- prints its plan for people and their wallets
  show : (contract : List ℕ) → (deal : List ℕ) → ChainCommand
  -- prints where a deal stands
  state : (contract : List ℕ) → (deal : List ℕ) → (chain : List ℕ) → (signatures : List ℕ) → ChainCommand
  -- prints it with secrets that the chain doesn't show
  state_with : (contract : List ℕ) → (deal : List ℕ) → (chain : List ℕ) → (signatures : List ℕ) → (secrets : List ℕ) → ChainCommand

abbrev pub show_words : List (List ℕ) → Option ChainCommand
show_words (contract ∷ deal ∷ []) = Some (show contract deal)
show_words _ = None

abbrev pub state_words : List (List ℕ) → Option ChainCommand
state_words (contract ∷ deal ∷ chain ∷ signatures ∷ []) = Some (state contract deal chain signatures)
state_words (contract ∷ deal ∷ chain ∷ signatures ∷ secrets ∷ []) = Some (state_with contract deal chain signatures secrets)
state_words _ = None

-- the command that the words are, if they are one
abbrev pub chain_command_of : List (List ℕ) → Option ChainCommand
chain_command_of [] = None
chain_command_of (word ∷ words) =
    if bytes_eq word (codes "state") then state_words words
    else if bytes_eq word (codes "show") then show_words words
    else option_map on_deal (deal_command_of (word ∷ words))

-- ---- files

abbrev pub chain_file : List ℕ → Asked
chain_file name = (name, most_chain_bytes)

-- The files that a command reads, each with the most bytes that it may have, in the order of the words.
abbrev pub chain_files : ChainCommand → List Asked
chain_files (on_deal command) = deal_files command
chain_files (show contract deal) = contract_file contract ∷ deal_file deal ∷ []
chain_files (state contract deal chain signatures) =
    contract_file contract ∷ deal_file deal ∷ chain_file chain ∷ signature_file signatures ∷ []
chain_files (state_with contract deal chain signatures secrets) =
    contract_file contract ∷ deal_file deal ∷ chain_file chain ∷ signature_file signatures ∷ secrets_file secrets ∷ []
