-- What the contract of a deal is compiled with: the keys and scripts of wallets that were given, the places of its deposits, the hashes
-- of its secrets.
use Rattle.std.specs.Prelude.{ℕ, List, [], ◌∷◌, replicate, Bool, false, not, ◌&&◌, length, ◌==◌, if◌then◌else◌}
use Rattle.spec_terms.specs.Advert.{Advert}
use Rattle.spec_bitcoin.specs.declared.label.Label.{Label}
use Rattle.spec_bitcoin.specs.Keys.{key_bytes}
use Rattle.spec_compiler.specs.Keyed.OwnScripts.{OwnScripts}
use Rattle.spec_compiler.specs.Keyed.Keys.{Keys, by_plan, given}
use Rattle.spec_compiler.specs.Keyed.Instance.{Instance}
use Rattle.spec_deal.specs.declared.deal.Deal.{Deal}
use Rattle.spec_deal.specs.Needed.{deal_contract, same_label}

-- what stands for the key of a label that a contract doesn't need; no wallet has it
abbrev pub no_key : List ℕ
no_key = replicate key_bytes 0

-- the key of a label, by a list of labels with their keys
abbrev pub key_at : List (Label × List ℕ) → Label → List ℕ
key_at [] label = no_key
key_at (p ∷ ps) label = if same_label (p.0) label then p.1 else key_at ps label

-- the output scripts of wallets: those of the deposits that they bring, and those where participants are paid
abbrev pub own_scripts : Deal → OwnScripts
own_scripts deal = record { deposits = deal.wallets; payees = deal.payees }

-- the keys of a deal, with the scripts of wallets
abbrev pub deal_keys : Deal → Keys
deal_keys deal = given (key_at deal.keys) (own_scripts deal)

-- whether some deposit or payout has a script of a wallet's
abbrev pub has_own_scripts : Keys → Bool
has_own_scripts by_plan = false
has_own_scripts (given keys own) = not (length own.deposits == 0 && length own.payees == 0)

-- what its contract is compiled with
abbrev pub deal_instance : Advert → Deal → Instance
deal_instance advert deal =
    record { contract = deal_contract; advert = advert; bound = deal.deposits; hashes = deal.hashes }
