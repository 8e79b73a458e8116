-- Inputs that spend deposits of wallets, which sign and finish them by themselves. All other inputs are signed by keys of the deal.
use Rattle.std.specs.Prelude.{ℕ, zero, suc, List, [], ◌∷◌, ◌++◌, drop, Bool, true, slice_get, Option, Some, None, codes}
use Rattle.std.specs.Option.{option_map}
use Rattle.spec_terms.specs.Term as term
use Rattle.spec_terms.specs.Advert.{Advert}
use Rattle.spec_terms.specs.Core.{core, puts_of}
use Rattle.spec_terms.specs.Paths.{at}
use Rattle.spec_terms.specs.Precondition.{persistent, names_of}
use Rattle.spec_bitcoin.specs.declared.label.Label.{Label}
use Rattle.spec_bitcoin.specs.declared.tx.TxOut.{TxOut}
use Rattle.spec_bitcoin.specs.Keys.{label_text}
use Rattle.spec_compiler.specs.Keyed.OwnScripts.{pays_to_key_hash}
use Rattle.spec_compiler.specs.Keyed.Keys.{Keys, key_in, own_script}
use Rattle.spec_compiler.specs.declared.unsigned.Spent.{Spent}
use Rattle.spec_compiler.specs.Keyed.Transactions.{pays}
use Rattle.spec_text.specs.Words.{◌>>=◌}
use Rattle.spec_tool.specs.declared.which.Which.{Which}
use Rattle.spec_tool.specs.declared.which.Which.TheVariants as names
use Rattle.spec_deal.specs.declared.transaction.Wallet.{Wallet}
use Rattle.spec_deal.specs.Setting.{no_key}

-- ---- which input

abbrev pub puts_at : Option term.Guarded → List (List ℕ)
puts_at None = []
puts_at (Some b) = puts_of (core b)

-- the deposit that input k of a transaction of this name spends; the first input of a branch spends its position
abbrev pub input_deposit : Advert → Which → ℕ → Option (List ℕ)
input_deposit advert names.Init k = slice_get (names_of (persistent advert.pre)) k
input_deposit advert (names.At path) zero = None
input_deposit advert (names.At path) (suc k) = slice_get (puts_at (at advert.root path)) k

-- the wallet that brings the deposit of this name, if one does
abbrev pub wallet_of : Keys → List ℕ → Option Wallet
wallet_of keys name = option_map (λ script. record { deposit = name; script = script }) (own_script keys name)

-- the wallet that signs input k
abbrev pub input_wallet : Keys → Advert → Which → ℕ → Option Wallet
input_wallet keys advert which k = input_deposit advert which k >>= wallet_of keys

-- ---- what it spends

-- the output that an input spends: the wallet's, or that of its script
abbrev pub spent_output : (List ℕ → List ℕ) → Option Wallet → Spent → TxOut
spent_output hash None spent = pays hash spent.script spent.value
spent_output hash (Some w) spent = record { value = spent.value; script = w.script }

-- whether it is known what its signature signs: of wallets' scripts that of a key's hash alone is known to ask for a signature of the digest
abbrev pub has_digest : Option Wallet → Bool
has_digest None = true
has_digest (Some w) = pays_to_key_hash w.script

-- ---- who signs

abbrev pub wallet_text : List ℕ → List ℕ
wallet_text name = codes "W:" ++ name

-- the name of whose signature it is: the label of a key, or a wallet by its deposit
abbrev pub signer_text : Option Wallet → Label → List ℕ
signer_text None label = label_text label
signer_text (Some w) label = wallet_text w.deposit

-- the key that a signature is by; what a wallet signs is by none of the deal
abbrev pub signer_key : (List ℕ → List ℕ) → Keys → Option Wallet → Label → List ℕ
signer_key hash keys None label = key_in hash keys label
signer_key hash keys (Some w) label = no_key

-- ---- items of a witness

abbrev pub first_item : List (List ℕ) → List ℕ
first_item [] = []
first_item (item ∷ items) = item

abbrev pub second_item : List (List ℕ) → List ℕ
second_item items = first_item (drop 1 items)
