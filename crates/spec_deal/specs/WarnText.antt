-- What `warn` prints: what nodes wouldn't relay, by the standard rules of Bitcoin Core 0.21 to 28.
use Rattle.std.specs.Prelude.{ℕ, ◌+◌, ◌-◌, ◌*◌, ◌/◌, List, [], ◌∷◌, ◌++◌, length, map, replicate, Bool, nat_lt, if◌then◌else◌, Option, Some, None, codes}
use Rattle.std.specs.Fmt.{decimal}
use Rattle.std.specs.List.{flat_map}
use Rattle.std.specs.Option.{option_map_or}
use Rattle.spec_terms.specs.Advert.{Advert}
use Rattle.spec_terms.specs.Parties.{participants}
use Rattle.spec_terms.specs.Precondition.{secrets, names_of}
use Rattle.spec_terms.specs.declared.path.PathStep.{PathStep}
use Rattle.spec_bitcoin.specs.declared.tx.TxOut.{TxOut}
use Rattle.spec_bitcoin.specs.Keys.{key_bytes, path_text}
use Rattle.spec_compiler.specs.Keyed.OwnScripts.{pays_to_key_hash}
use Rattle.spec_compiler.specs.Keyed.Keys.{Keys}
use Rattle.spec_compiler.specs.Keyed.Instance.{Instance}
use Rattle.spec_compiler.specs.declared.unsigned.Spent.{Spent}
use Rattle.spec_compiler.specs.Keyed.Transactions.{tx_of}
use Rattle.spec_compiler.specs.Keyed.Compilation.{scripts}
use Rattle.spec_compiler.specs.Witness.{witness_of}
use Rattle.spec_run.specs.Firing.{with_witnesses}
use Rattle.spec_tool.specs.declared.which.Which.{Which}
use Rattle.spec_tool.specs.declared.which.Which.TheVariants as names
use Rattle.spec_tool.specs.Keyed.Listed.{Listed, listed, which_text}
use Rattle.spec_tool.specs.Weights.{weight_of, last_branch, choices_at, reveal_count}
use Rattle.spec_address.specs.Address.{is_witness_output}
use Rattle.spec_deal.specs.declared.entry.Shown.{Shown}
use Rattle.spec_deal.specs.declared.transaction.Wallet.{Wallet}
use Rattle.spec_deal.specs.DealText.{line_of}
use Rattle.spec_deal.specs.Payable.{has_taproot_form}
use Rattle.spec_deal.specs.SecretFile.{string_for}
use Rattle.spec_deal.specs.Wallets.{input_wallet}

-- ---- dust

-- what it costs to make and to spend an output, at 3 satoshi a byte
abbrev pub least_value : List ℕ → ℕ
least_value script = 3 * (9 + length script + (if is_witness_output script then 67 else 148))

-- ---- sizes of transactions

-- the greatest usual signature, and the greatest item that is relayed
abbrev pub full_signature : List ℕ
full_signature = replicate 72 0

abbrev pub most_relayed_item : ℕ
most_relayed_item = 80

-- what a wallet shows; of its own script nothing is known
abbrev pub full_items : List ℕ → List (List ℕ)
full_items script =
    if pays_to_key_hash script then full_signature ∷ replicate key_bytes 0 ∷ []
    else if has_taproot_form script then replicate 64 0 ∷ []
    else []

-- the witness of an input that spends a deposit
abbrev pub full_witness : Option Wallet → Spent → List (List ℕ)
full_witness None spent = full_signature ∷ spent.script ∷ []
full_witness (Some w) spent = full_items w.script

-- of the inputs from number k on, each of which spends a deposit
abbrev pub full_deposits : Keys → Advert → Listed → ℕ → List Spent → List (List (List ℕ))
full_deposits keys advert l k [] = []
full_deposits keys advert l k (spent ∷ spends) =
    full_witness (input_wallet keys advert l.which k) spent ∷ full_deposits keys advert l (k + 1) spends

-- of the branch at a path, and of the deposits that it puts
abbrev pub full_branch : Keys → Advert → Listed → List PathStep → List Spent → List (List (List ℕ))
full_branch keys advert l path [] = []
full_branch keys advert l path (spent ∷ spends) =
    witness_of (replicate (length (participants advert)) full_signature)
    (replicate (reveal_count advert path) (replicate most_relayed_item 0)) (last_branch path) (choices_at advert path) spent.script
    ∷ full_deposits keys advert l 1 spends

abbrev pub full_witnesses : Keys → Advert → Listed → Which → List (List (List ℕ))
full_witnesses keys advert l names.Init = full_deposits keys advert l 0 l.pending.spends
full_witnesses keys advert l (names.At path) = full_branch keys advert l path l.pending.spends

-- the virtual size (BIP 141) of a transaction with these witnesses
abbrev pub full_size : Keys → Advert → Listed → ℕ
full_size keys advert l =
    (weight_of (with_witnesses (tx_of l.pending) (full_witnesses keys advert l l.which)) + 3) / 4

-- ---- fees

abbrev pub spent_value : List Spent → ℕ
spent_value [] = 0
spent_value (spent ∷ spends) = spent.value + spent_value spends

abbrev pub paid_value : List TxOut → ℕ
paid_value [] = 0
paid_value (output ∷ outputs) = output.value + paid_value outputs

abbrev pub fee_of : Listed → ℕ
fee_of l = spent_value l.pending.spends - paid_value l.pending.outputs

-- ---- lines

abbrev pub if_warned : Bool → List (List ℕ) → List (List ℕ)
if_warned warned words = if warned then line_of (codes "warn" ∷ words) ∷ [] else []

abbrev pub most_relayed_script : ℕ
most_relayed_script = 3600

-- a position with a long script
abbrev pub script_warnings : List PathStep × List ℕ → List (List ℕ)
script_warnings p =
    if_warned (nat_lt most_relayed_script (length (p.1)))
    (codes "script" ∷ path_text (p.0) ∷ decimal (length (p.1)) ∷ decimal most_relayed_script ∷ [])

-- the outputs from number k on whose values are small
abbrev pub dust_warnings : Which → ℕ → List TxOut → List (List ℕ)
dust_warnings which k [] = []
dust_warnings which k (output ∷ outputs) =
    if_warned (nat_lt output.value (least_value output.script))
    (codes "dust" ∷ which_text which ∷ decimal k ∷ decimal output.value ∷ decimal (least_value output.script) ∷ [])
    ++ dust_warnings which (k + 1) outputs

-- a transaction that pays less than 1 satoshi for each virtual byte
abbrev pub fee_warnings : Keys → Advert → Listed → List (List ℕ)
fee_warnings keys advert l =
    if_warned (nat_lt (fee_of l) (full_size keys advert l))
    (codes "fee" ∷ which_text l.which ∷ decimal (fee_of l) ∷ decimal (full_size keys advert l) ∷ [])

abbrev pub transaction_warnings : Keys → Advert → Listed → List (List ℕ)
transaction_warnings keys advert l = dust_warnings l.which 0 l.pending.outputs ++ fee_warnings keys advert l

-- a secret that is too long for a witness
abbrev pub secret_warnings : List Shown → List ℕ → List (List ℕ)
secret_warnings strings name =
    option_map_or
    (λ bytes.
    if_warned (nat_lt most_relayed_item (length bytes))
    (codes "secret" ∷ name ∷ decimal (length bytes) ∷ decimal most_relayed_item ∷ []))
    (string_for strings name) []

-- of the positions, the transactions and the secrets, in order
abbrev pub warnings : (List ℕ → List ℕ) → Keys → Instance → List Shown → List (List ℕ)
warnings hash keys s strings =
    flat_map script_warnings (scripts hash keys s)
    ++ (flat_map (transaction_warnings keys s.advert) (listed hash keys s)
    ++ flat_map (secret_warnings strings) (names_of (secrets s.advert.pre)))

-- the lines, and how many they are
abbrev pub warn_text : (List ℕ → List ℕ) → Keys → Instance → List Shown → List ℕ
warn_text hash keys s strings =
    flat_map (λ line. line) (warnings hash keys s strings)
    ++ line_of (codes "warnings" ∷ decimal (length (warnings hash keys s strings)) ∷ [])
