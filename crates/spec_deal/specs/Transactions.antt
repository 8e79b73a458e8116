-- The transactions of a deal, each with what its inputs spend, the digests to be signed, and who signs by which key.
use Rattle.std.specs.Prelude.{ℕ, ◌+◌, List, [], ◌∷◌, ◌++◌, map, replicate, Bool, ◌&&◌, ◌==◌, if◌then◌else◌, Option}
use Rattle.std.specs.List.{flat_map}
use Rattle.std.specs.Str.{bytes_eq}
use Rattle.spec_terms.specs.Advert.{Advert}
use Rattle.spec_bitcoin.specs.declared.label.Label.{Label}
use Rattle.spec_bitcoin.specs.Digests.{txid}
use Rattle.spec_bitcoin.specs.Spelling.{stripped}
use Rattle.spec_compiler.specs.Keyed.Keys.{Keys}
use Rattle.spec_compiler.specs.Keyed.Instance.{Instance}
use Rattle.spec_compiler.specs.declared.unsigned.Spent.{Spent}
use Rattle.spec_compiler.specs.Keyed.Transactions.{tx_of, digest_of_spent}
use Rattle.spec_tool.specs.declared.which.Which.{Which}
use Rattle.spec_tool.specs.Keyed.Listed.{Listed, listed}
use Rattle.spec_deal.specs.declared.signed.Signed.{Signed}
use Rattle.spec_deal.specs.declared.transaction.Signer.{Signer}
use Rattle.spec_deal.specs.declared.transaction.Input.{Input}
use Rattle.spec_deal.specs.declared.transaction.Transaction.{Transaction}
use Rattle.spec_deal.specs.declared.transaction.Wallet.{Wallet}
use Rattle.spec_deal.specs.Slots.{verb_of}
use Rattle.spec_deal.specs.Wallets.{input_wallet, spent_output, has_digest, signer_key}

-- who signs an input of a transaction of this name by the key of a label, or by a wallet
abbrev pub signer : (List ℕ → List ℕ) → Keys → Advert → Which → Option Wallet → Label → Signer
signer hash keys advert which wallet label =
    record { label = label; key = signer_key hash keys wallet label; verb = verb_of advert which label }

-- what stands for the digest of an input that has none
abbrev pub no_digest : List ℕ
no_digest = replicate 32 0

abbrev pub input_digest : (List ℕ → List ℕ) → Listed → Option Wallet → Spent → List ℕ
input_digest hash l wallet spent = if has_digest wallet then digest_of_spent hash (tx_of l.pending) spent else no_digest

-- an input that spends this and that these labels' keys, or the wallet, sign
abbrev pub input_with : (List ℕ → List ℕ) → Keys → Advert → Listed → Option Wallet → Spent → List Label → Input
input_with hash keys advert l wallet spent labels = record {
  spent = spent;
  output = spent_output hash wallet spent;
  digest = input_digest hash l wallet spent;
  signers = map (signer hash keys advert l.which wallet) labels;
  wallet = wallet;
}

-- input k
abbrev pub input : (List ℕ → List ℕ) → Keys → Advert → Listed → ℕ → Spent → List Label → Input
input hash keys advert l k spent labels = input_with hash keys advert l (input_wallet keys advert l.which k) spent labels

-- the inputs from number k on, by what they spend and who signs each
abbrev pub inputs : (List ℕ → List ℕ) → Keys → Advert → Listed → ℕ → List Spent → List (List Label) → List Input
inputs hash keys advert l k [] signers = []
inputs hash keys advert l k (spent ∷ spends) [] = input hash keys advert l k spent [] ∷ inputs hash keys advert l (k + 1) spends []
inputs hash keys advert l k (spent ∷ spends) (labels ∷ signers) =
    input hash keys advert l k spent labels ∷ inputs hash keys advert l (k + 1) spends signers

abbrev pub transaction : (List ℕ → List ℕ) → Keys → Advert → Listed → Transaction
transaction hash keys advert l = record {
  which = l.which;
  tx = tx_of l.pending;
  txid = txid hash (tx_of l.pending);
  bytes = stripped (tx_of l.pending);
  inputs = inputs hash keys advert l 0 l.pending.spends l.signers;
}

-- the initial transaction, and then those of the paths in the order of the text
abbrev pub transactions : (List ℕ → List ℕ) → Keys → Instance → List Transaction
transactions hash keys s = map (transaction hash keys s.advert) (listed hash keys s)

-- ---- where signatures are needed

-- of an input of the transaction with these bytes, by this key
pub record Spot : Type 0 where
  pub tx : List ℕ
  pub input : ℕ
  pub key : List ℕ

-- and of this digest. Two paths may have one transaction, and need a signature by one key of it.
pub record Required : Type 0 where
  pub spot : Spot
  pub digest : List ℕ

-- of input k
abbrev pub input_required : List ℕ → ℕ → Input → List Required
input_required tx k i =
    map (λ (s : Signer). record { spot = record { tx = tx; input = k; key = s.key }; digest = i.digest }) i.signers

-- of the inputs from number k on
abbrev pub inputs_required : List ℕ → ℕ → List Input → List Required
inputs_required tx k [] = []
inputs_required tx k (i ∷ is) = input_required tx k i ++ inputs_required tx (k + 1) is

abbrev pub transaction_required : Transaction → List Required
transaction_required t = inputs_required t.bytes 0 t.inputs

-- of all transactions, in order
abbrev pub all_required : List Transaction → List Required
all_required ts = flat_map transaction_required ts

-- whether a signature is there
abbrev pub is_at : Spot → Signed → Bool
is_at spot g = bytes_eq g.tx spot.tx && (g.input == spot.input && bytes_eq g.key spot.key)
