-- What is made of each compiled transaction: its inputs with who signs them.
use Rattle.std.specs.Prelude.{ℕ, zero, suc, ◌+◌, List, [], ◌∷◌, map, Bool, false, if◌then◌else◌, Option, Some, None, is_some, slice_get}
use Rattle.std.specs.List.{find, list_any, list_all}
use Rattle.std.specs.Option.{option_map_or}
use Rattle.std.specs.Str.{bytes_eq}
use Rattle.spec_data.specs.Lists.{look_up}
use Rattle.spec_terms.specs.Term as term
use Rattle.spec_terms.specs.Advert.{Advert}
use Rattle.spec_terms.specs.Core.{core, puts_of}
use Rattle.spec_terms.specs.Paths.{at}
use Rattle.spec_terms.specs.Precondition.{persistent, volatile, names_of}
use Rattle.spec_terms.specs.declared.pre.Pre.{Pre}
use Rattle.spec_terms.specs.declared.path.PathStep.{PathStep}
use Rattle.spec_bitcoin.specs.declared.label.Label.{Label}
use Rattle.spec_bitcoin.specs.declared.label.Label.TheVariants as labels
use Rattle.spec_bitcoin.specs.declared.tx.OutPoint.{OutPoint}
use Rattle.spec_bitcoin.specs.Spelling.{stripped}
use Rattle.spec_compiler.specs.declared.unsigned.Spent.{Spent}
use Rattle.spec_text.specs.Words.{◌>>=◌}
use Rattle.spec_tool.specs.declared.which.Which.{Which}
use Rattle.spec_tool.specs.declared.which.Which.TheVariants as names
use Rattle.spec_tool.specs.Keyed.Listed.{initial_signers, branch_signers}
use Rattle.bm_compile.specs.declared.detailed.Detailed.{Detailed}
use Rattle.bm_compile.specs.declared.detailed.Details.{Details}
use Rattle.spec_deal.specs.declared.finish.Verb.{Verb}
use Rattle.spec_deal.specs.declared.finish.Verb.TheVariants as verbs
use Rattle.spec_deal.specs.declared.transaction.Signer.{Signer}
use Rattle.spec_deal.specs.declared.transaction.Input.{Input}
use Rattle.spec_deal.specs.declared.transaction.Transaction.{Transaction}
use Rattle.spec_deal.specs.declared.transaction.Wallet.{Wallet}
use Rattle.spec_deal.specs.Needed.{deal_contract}
use Rattle.spec_deal.specs.Setting.{key_at, no_key}
use Rattle.spec_deal.specs.Slots.{branch_verb}
use Rattle.spec_deal.specs.Transactions.{no_digest}
use Rattle.spec_deal.specs.Wallets.{puts_at, wallet_of, spent_output, has_digest}
use Rattle.deal_compile.specs.Keyed.{Held, keys_of}

-- ---- who signs

-- what the signature by a label's key is for, by the branch that the transaction takes
abbrev pub verb_by : Which → Option term.Guarded → Label → Verb
verb_by names.Init b label = verbs.Init
verb_by (names.At path) b (labels.Deposit party) = verbs.Endorse
verb_by (names.At path) b (labels.Branch contract place party) = branch_verb b party

-- the key that a signature is by; what a wallet signs is by none of the deal
abbrev pub key_by : Held → Option Wallet → Label → List ℕ
key_by held None label = key_at held.keys label
key_by held (Some w) label = no_key

abbrev pub signer_by : Held → Which → Option term.Guarded → Option Wallet → Label → Signer
signer_by held which b wallet label = record { label = label; key = key_by held wallet label; verb = verb_by which b label }

-- the labels whose keys sign the inputs of a branch's transaction, input by input; none without a branch
abbrev pub labels_by : Advert → List PathStep → Option term.Guarded → List (List Label)
labels_by advert path None = []
labels_by advert path (Some b) = branch_signers deal_contract advert path b

-- whether each deposit that a branch puts is one of the precondition's
abbrev pub has_known_puts : List Pre → term.Guarded → Bool
has_known_puts pre b = list_all (λ name. is_some (look_up name (volatile pre))) (puts_of (core b))

-- ---- inputs

-- the deposit that input k of a transaction of this name spends, by the names of those that the transaction spends
abbrev pub deposit_by : Which → List (List ℕ) → ℕ → Option (List ℕ)
deposit_by names.Init deposits k = slice_get deposits k
deposit_by (names.At path) deposits zero = None
deposit_by (names.At path) deposits (suc k) = slice_get deposits k

-- the wallet that signs input k
abbrev pub wallet_by : Held → Which → List (List ℕ) → ℕ → Option Wallet
wallet_by held which deposits k = deposit_by which deposits k >>= wallet_of (keys_of held)

abbrev pub digest_by : Option Wallet → List ℕ → List ℕ
digest_by wallet digest = if has_digest wallet then digest else no_digest

abbrev pub input_by : (List ℕ → List ℕ) → Held → Which → Option term.Guarded → Option Wallet → Spent → List ℕ → List Label → Input
input_by hash held which b wallet spent digest labels = record {
  spent = spent;
  output = spent_output hash wallet spent;
  digest = digest_by wallet digest;
  signers = map (signer_by held which b wallet) labels;
  wallet = wallet;
}

-- the labels of the first input, and those of the others
abbrev pub first_labels : List (List Label) → List Label
first_labels [] = []
first_labels (labels ∷ others) = labels

abbrev pub other_labels : List (List Label) → List (List Label)
other_labels [] = []
other_labels (labels ∷ others) = others

-- the inputs from number k on, which spend these, as far as there are digests
abbrev pub inputs_by : (List ℕ → List ℕ) → Held → Which → Option term.Guarded → List (List ℕ) → ℕ → List Spent → List (List ℕ)
    → List (List Label) → List Input
inputs_by hash held which b deposits k [] digests labels = []
inputs_by hash held which b deposits k (spent ∷ spends) [] labels = []
inputs_by hash held which b deposits k (spent ∷ spends) (digest ∷ digests) labels =
    input_by hash held which b (wallet_by held which deposits k) spent digest (first_labels labels)
    ∷ inputs_by hash held which b deposits (k + 1) spends digests (other_labels labels)

-- ---- transactions

-- by its name, the branch that it takes, the deposits that it spends, and the labels whose keys sign its inputs
abbrev pub transaction_by : (List ℕ → List ℕ) → Held → Which → Option term.Guarded → List (List ℕ) → List (List Label) → Detailed
    → Transaction
transaction_by hash held which b deposits labels d = record {
  which = which;
  tx = d.prepared.tx;
  txid = d.prepared.txid;
  bytes = stripped d.prepared.tx;
  inputs = inputs_by hash held which b deposits 0 d.pending.spends d.prepared.digests labels;
}

-- the initial one
abbrev pub initial_transaction : (List ℕ → List ℕ) → Held → Advert → Detailed → Transaction
initial_transaction hash held advert d =
    transaction_by hash held names.Init None (names_of (persistent advert.pre)) (initial_signers advert) d

-- of a path, by the branch there
abbrev pub transaction_at : (List ℕ → List ℕ) → Held → Advert → List PathStep → Option term.Guarded → Detailed → Transaction
transaction_at hash held advert path b d =
    transaction_by hash held (names.At path) b (puts_at b) (labels_by advert path b) d

abbrev pub path_transaction : (List ℕ → List ℕ) → Held → Advert → List PathStep × Detailed → Transaction
path_transaction hash held advert p = transaction_at hash held advert (p.0) (at advert.root (p.0)) (p.1)

-- the initial one, and then those of the paths
abbrev pub transactions_by : (List ℕ → List ℕ) → Held → Advert → Details → List Transaction
transactions_by hash held advert d =
    initial_transaction hash held advert d.init ∷ map (path_transaction hash held advert) d.paths

-- ---- deposits that the deal makes itself

-- whether one of these transactions has an output at this place
abbrev pub is_made_by : List Transaction → OutPoint → Bool
is_made_by transactions place = list_any (λ t. bytes_eq t.txid place.txid) transactions

-- the first of these deposits that they make
abbrev pub first_made : List (List ℕ × OutPoint) → List Transaction → Option (List ℕ)
first_made [] transactions = None
first_made (p ∷ ps) transactions = if is_made_by transactions (p.1) then Some (p.0) else first_made ps transactions

-- ---- participants who are paid by the deal itself

-- whether a participant is paid at one of these output scripts, by a list of where participants are paid
abbrev pub is_paid_at : List (List ℕ) → List (List ℕ × List ℕ) → List ℕ → Bool
is_paid_at outputs payees party =
    option_map_or (λ script. list_any (λ output. bytes_eq output script) outputs) (look_up party payees) false

-- the first that is
abbrev pub first_paid : List (List ℕ) → List (List ℕ × List ℕ) → List (List ℕ) → Option (List ℕ)
first_paid outputs payees parties = find (is_paid_at outputs payees) parties
