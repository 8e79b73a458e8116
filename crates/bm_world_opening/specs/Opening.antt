-- The opening of a run, as code has it.
use Rattle.std.specs.Prelude.{◌≡◌, ℕ, List, [], ◌∷◌, map, Option, None}
use Rattle.std.specs.List.{AllByRecursion}
use Rattle.spec_terms.specs.Advert.{Advert}
use Rattle.spec_terms.specs.Faults.{IsWellFormed}
use Rattle.spec_bitcoin.specs.declared.tx.TxOut.{TxOut}
use Rattle.spec_bitcoin.specs.Keys.{pay_to}
use Rattle.spec_compiler.specs.Transactions.{party_script}
use Rattle.spec_run.specs.declared.header.Header.{Header}
use Rattle.spec_run.specs.Setup.{Setup}
use Rattle.spec_run.specs.Event.{opening_world}
use Rattle.bm_compile.specs.Numbered.{Numbered}
use Rattle.bm_match.specs.Matches.{all_compiled}
use Rattle.bm_world_coins.specs.Coined.{Coined}
use Rattle.bm_world_board.specs.declared.board.Board.{Board}
use Rattle.bm_world_board.specs.declared.accounts.Account.{Account}
use Rattle.bm_world_board.specs.Accounts.{account_of}
use Rattle.bm_world_board.specs.Secrets.{secret_strings}
use Rattle.bm_world_board.specs.Prepares.{setup_of, world_of}

-- a run's setup
abbrev pub setup_with : (List ℕ → List ℕ) → Header → List Advert → Setup
setup_with hash header contracts = record { hash = hash; header = header; contracts = contracts }

-- the output of a deposit
abbrev pub opening_output : (List ℕ → List ℕ) → List ℕ × ℕ → TxOut
opening_output hash d = record { value = d.1; script = pay_to (hash (party_script hash (d.0))) }

-- the coins before any event
abbrev pub opening_coins : Setup → Coined
opening_coins s = record { tip = 0; outputs = (opening_world s).outputs }

-- for each of the contracts that it isn't compiled
abbrev pub none_compiled : List Advert → List (Option Numbered)
none_compiled [] = []
none_compiled (contract ∷ contracts) = None ∷ none_compiled contracts

-- the accounts and the coins before any event
pub record IsOpenedWith (s : Setup) (accounts : List Account) (coins : Coined) : Type 0 where
  pub accounts_are : accounts ≡ map (account_of s.hash) s.header.parties
  pub coins_are : coins ≡ opening_coins s

-- the board before any event
pub record IsOpened (s : Setup) (b : Board) : Type 0 where
  pub setup : setup_of s.hash b ≡ s
  pub world : world_of b (opening_world s).hashed ≡ opening_world s
  pub accounts : b.accounts ≡ map (account_of s.hash) s.header.parties
  pub known : b.known ≡ secret_strings s.header.secrets
  pub compiled : b.compiled ≡ all_compiled s (opening_world s)
  pub well_formed : AllByRecursion IsWellFormed b.contracts
