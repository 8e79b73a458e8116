-- Worked chains of a deal with deposits of wallets, each by computation alone.
use Rattle.std.proofs.Common.{◌≡◌, ℕ, List, [], ◌∷◌, ◌++◌, refl}
use Rattle.std.specs.Prelude.{codes, Some, None}
use Rattle.std.specs.Fmt.{digits}
use Rattle.spec_bitcoin.specs.Keys.{label_text}
use Rattle.spec_bitcoin.specs.Meaning.{script_meaning}
use Rattle.spec_bitcoin.specs.Numbers.{item_of_number, signed_bytes, number_of_item}
use Rattle.spec_bitcoin.specs.Reading.{many, wide_at, compact_at, string_at, input_at, inputs_at, output_at, outputs_at, witness_at}
use Rattle.spec_bitcoin.specs.Reading.{witnesses_at, plain_at, marked_at, transaction_at, all_at}
use Rattle.spec_bitcoin.specs.Scripts.{ops_of}
use Rattle.spec_bitcoin.specs.Spelling.{stripped, compact, marked}
use Rattle.spec_bitcoin.specs.Digests.{txid, places_list, sequences_list, outputs_list, preimage}
use Rattle.spec_compiler.specs.Keyed.Instance.{position_script}
use Rattle.spec_compiler.specs.Keyed.Transactions.{tx_of}
use Rattle.spec_tool.specs.declared.which.Which.TheVariants as names
use Rattle.spec_tool.specs.Keyed.Listed.{Listed, listed_at}
use Rattle.spec_deal.specs.declared.signed.Signed.{Signed}
use Rattle.spec_deal.specs.Finished.{finished}
use Rattle.spec_deal.specs.SecretFile.{shows, read_behind}
use Rattle.spec_deal.specs.Slots.{slots}
use Rattle.spec_deal.proofs.FileVectors.{line, weigh, put}
use Rattle.spec_deal.proofs.SignatureVectors.{setting}
use Rattle.spec_deal.proofs.WalletVectors.{keys, sign}
use Rattle.spec_chain.specs.Chain.{stands, refused, collided, follow_chain}
use Rattle.spec_chain.specs.RefusedText.{chain_refused_line}
use Rattle.spec_chain.specs.StateText.{txid_text, state_text}
use Rattle.spec_chain.proofs.DealVectors.{line_of_tx}

-- what is printed of a chain with these signatures
abbrev told : List Signed → List ℕ → List ℕ
told given text = elim (follow_chain weigh keys (setting put) text) [
  | stands course tip ↦ state_text weigh keys (setting put) course tip given []
  | refused fault ↦ chain_refused_line fault
  | collided earlier later ↦ codes "collided"
]

abbrev all_signed : List Signed
all_signed = sign (slots weigh keys (setting put))

-- what is made of the initial transaction
abbrev of_init : (Listed → List ℕ) → List ℕ
of_init made = elim (listed_at weigh keys (setting put) names.Init) [ None ↦ [] | Some l ↦ made l ]

abbrev sent : List ℕ
sent = of_init (λ l. line_of_tx (finished weigh keys (setting put) all_signed [] l))

abbrev bare : List ℕ
bare = of_init (λ l. line_of_tx (tx_of l.pending))

abbrev shown_txid : List ℕ
shown_txid = of_init (λ l. txid_text (txid weigh (tx_of l.pending)))

pub nothing_signed : told [] (line (codes "height 1") [])
    ≡
    line (codes "height 1") (
    line (codes "cannot init") (
    line (codes "needs signature init 0 W:x init") (
    line (codes "needs signature init 1 W:y init") (
    line (codes "needs signature r.0 0 B:0:r.0:A endorse") (
    line (codes "needs signature r.0 0 B:0:r.0:B endorse") (
    line (codes "needs signature r.0 1 W:z endorse") (
    line (codes "needs signature r.0.0 0 B:0:r.0.0:A endorse") (
    line (codes "needs signature r.0.0 0 B:0:r.0.0:B endorse") (
    line (codes "needs signature r.1 0 B:0:r.1:A endorse") (
    line (codes "needs signature r.1 0 B:0:r.1:B endorse") (
    line (codes "waits A") (
    line (codes "waits B") []))))))))))))
unfolding digits label_text stripped marked compact position_script item_of_number signed_bytes number_of_item many wide_at compact_at
    string_at input_at inputs_at output_at outputs_at witness_at witnesses_at plain_at marked_at transaction_at all_at script_meaning ops_of
    places_list sequences_list outputs_list preimage
nothing_signed = refl

pub may_begin : told all_signed (line (codes "height 1") [])
    ≡
    line (codes "height 1") (
    line (codes "can init") (
    line (codes "unverified init 0 W:x init") (
    line (codes "unverified init 1 W:y init") (
    line (codes "unverified r.0 1 W:z endorse") []))))
unfolding digits label_text stripped marked compact position_script item_of_number signed_bytes number_of_item many wide_at compact_at
    string_at input_at inputs_at output_at outputs_at witness_at witnesses_at plain_at marked_at transaction_at all_at script_meaning ops_of
    places_list sequences_list outputs_list preimage
may_begin = refl

-- whatever stands in the witnesses of wallets is taken
pub begun : told all_signed (line (codes "height 2") (line sent []))
    ≡
    line (codes "confirmed init 2") (
    line (codes "step authinit 0 A x") (
    line (codes "step authinit 0 B y") (
    line (codes "step init 0 -> #3") (
    line (codes "live #3 r " ++ (shown_txid ++ codes " 0 69000")) (
    line (codes "height 2") (
    line (codes "can r.0") (
    line (codes "unverified r.0 1 W:z endorse") (
    line (codes "cannot r.1") (
    line (codes "needs height 700100") [])))))))))
unfolding digits label_text stripped marked compact position_script item_of_number signed_bytes number_of_item many wide_at compact_at
    string_at input_at inputs_at output_at outputs_at witness_at witnesses_at plain_at marked_at transaction_at all_at script_meaning ops_of
    places_list sequences_list outputs_list preimage
begun = refl

pub no_witness : told all_signed (line (codes "height 2") (line bare []))
    ≡
    line (codes "chain refused line 2 witness 0") []
unfolding digits label_text stripped marked compact position_script item_of_number signed_bytes number_of_item many wide_at compact_at
    string_at input_at inputs_at output_at outputs_at witness_at witnesses_at plain_at marked_at transaction_at all_at script_meaning ops_of
    places_list sequences_list outputs_list preimage
no_witness = refl

-- such a text is a file of secrets
pub read_over : read_behind weigh (setting put) [] (line (codes "can init") (line (codes "unverified r.0 1 W:z endorse") [])) ≡ shows []
read_over = refl
