-- Worked files of signatures, each by computation alone: signatures of the least numbers, with the keys of no wallet.
use Rattle.std.proofs.Common.{◌≡◌, ℕ, List, [], ◌∷◌, ◌++◌, refl}
use Rattle.std.specs.Prelude.{codes, true, Some, None, Ok, Err}
use Rattle.std.specs.Fmt.{digits}
use Rattle.std.specs.Str.{bytes_eq}
use Rattle.spec_bitcoin.specs.declared.label.Label.TheVariants as labels
use Rattle.spec_bitcoin.specs.Keys.{label_text}
use Rattle.spec_bitcoin.specs.Numbers.{item_of_number, signed_bytes}
use Rattle.spec_bitcoin.specs.Spelling.{stripped, compact}
use Rattle.spec_bitcoin.specs.Reading.{many, wide_at, compact_at, string_at, input_at, inputs_at, output_at, outputs_at, witness_at}
use Rattle.spec_bitcoin.specs.Reading.{witnesses_at, plain_at, marked_at, transaction_at, all_at}
use Rattle.spec_compiler.specs.Keyed.Keys.{key_in}
use Rattle.spec_compiler.specs.Keyed.Instance.{position_script}
use Rattle.spec_compiler.specs.Keyed.Transactions.{party_script}
use Rattle.spec_tool.specs.declared.psbt.PsbtInput.{PsbtInput}
use Rattle.spec_tool.specs.declared.which.Which.TheVariants as names
use Rattle.spec_tool.specs.Base64.{base64_text, base64_bytes}
use Rattle.spec_tool.specs.Psbt.{Psbt}
use Rattle.spec_tool.specs.PsbtBytes.{psbt_of, psbt_bytes, records_at, maps_at}
use Rattle.spec_tool.specs.PsbtText.{psbt_line}
use Rattle.spec_tool.specs.Keyed.Listed.{listed_at}
use Rattle.spec_deal.specs.DealText.{unsigned_psbt}
use Rattle.spec_deal.specs.RefusedText.{signatures_refused_line}
use Rattle.spec_deal.specs.SignatureFile.{read_signatures}
use Rattle.spec_deal.specs.Verifier.{Verifier, accepting}
use Rattle.spec_deal.proofs.FileVectors.{refusing, line, weigh, twin, A}
use Rattle.spec_deal.proofs.SignatureVectors.{keys, setting, told}

-- a signature of R and S 1, and one of S 2
abbrev signature : List ℕ
signature = 48 ∷ 6 ∷ 2 ∷ 1 ∷ 1 ∷ 2 ∷ 1 ∷ 1 ∷ 1 ∷ []

abbrev other_signature : List ℕ
other_signature = 48 ∷ 6 ∷ 2 ∷ 1 ∷ 1 ∷ 2 ∷ 1 ∷ 2 ∷ 1 ∷ []

-- the key and the script of A's deposits
abbrev own_key : List ℕ
own_key = key_in weigh keys (labels.Deposit A)

abbrev own_script : List ℕ
own_script = party_script weigh keys A

abbrev first_changed : (PsbtInput → PsbtInput) → List PsbtInput → List PsbtInput
first_changed change [] = []
first_changed change (input ∷ inputs) = change input ∷ inputs

abbrev changed : (PsbtInput → PsbtInput) → Psbt → Psbt
changed change p = record p { inputs = first_changed change p.inputs }

-- the initial transaction, with its first input changed
abbrev init_with : (PsbtInput → PsbtInput) → List ℕ
init_with change = elim (listed_at weigh keys (setting twin) names.Init) [
  | None ↦ []
  | Some l ↦ psbt_line (changed change (unsigned_psbt weigh keys twin l))
]

-- with a signature by this key
abbrev signed_by : List ℕ → List ℕ → List ℕ
signed_by key bytes = init_with (λ input. record input { partial = (key, bytes) ∷ [] })

-- what is missing behind a file, or why it is refused
abbrev answered_by : Verifier → List ℕ → List ℕ
answered_by v text = elim (read_signatures v weigh keys (setting twin) text) [
  | Ok given ↦ told twin given
  | Err fault ↦ signatures_refused_line fault
]

abbrev answered : List ℕ → List ℕ
answered text = answered_by accepting text

-- finds no signature good but the first of those above
abbrev choosing : Verifier
choosing = record { is_point = λ key. true; is_signature = λ key digest bytes. bytes_eq bytes signature }

pub signed : answered (signed_by own_key signature)
    ≡
    line (codes "missing init 1 D:B init") (
    line (codes "missing r.0 0 B:0:r.0:A authorise") (
    line (codes "missing r.0 0 B:0:r.0:B endorse") (
    line (codes "missing r.1 0 B:0:r.1:A endorse") (
    line (codes "missing r.1 0 B:0:r.1:B authorise") (
    line (codes "init not endorsed r.0 B") ([]))))))
unfolding digits label_text stripped compact position_script item_of_number signed_bytes base64_bytes
    base64_text psbt_of psbt_bytes records_at maps_at many wide_at compact_at string_at input_at inputs_at output_at
    outputs_at witness_at witnesses_at plain_at marked_at transaction_at all_at
signed = refl

pub finished_by_a_wallet : answered (init_with (λ input. record input { witness = Some (signature ∷ own_script ∷ []) }))
    ≡
    line (codes "missing init 1 D:B init") (
    line (codes "missing r.0 0 B:0:r.0:A authorise") (
    line (codes "missing r.0 0 B:0:r.0:B endorse") (
    line (codes "missing r.1 0 B:0:r.1:A endorse") (
    line (codes "missing r.1 0 B:0:r.1:B authorise") (
    line (codes "init not endorsed r.0 B") ([]))))))
unfolding digits label_text stripped compact position_script item_of_number signed_bytes base64_bytes
    base64_text psbt_of psbt_bytes records_at maps_at many wide_at compact_at string_at input_at inputs_at output_at
    outputs_at witness_at witnesses_at plain_at marked_at transaction_at all_at
finished_by_a_wallet = refl

pub twice_the_same : answered (signed_by own_key signature ++ signed_by own_key signature)
    ≡
    line (codes "missing init 1 D:B init") (
    line (codes "missing r.0 0 B:0:r.0:A authorise") (
    line (codes "missing r.0 0 B:0:r.0:B endorse") (
    line (codes "missing r.1 0 B:0:r.1:A endorse") (
    line (codes "missing r.1 0 B:0:r.1:B authorise") (
    line (codes "init not endorsed r.0 B") ([]))))))
unfolding digits label_text stripped compact position_script item_of_number signed_bytes base64_bytes
    base64_text psbt_of psbt_bytes records_at maps_at many wide_at compact_at string_at input_at inputs_at output_at
    outputs_at witness_at witnesses_at plain_at marked_at transaction_at all_at
twice_the_same = refl

pub another_behind_it : answered (signed_by own_key signature ++ 10 ∷ signed_by own_key other_signature)
    ≡
    line (codes "signatures refused line 3 conflict 0") ([])
unfolding digits label_text stripped compact position_script item_of_number signed_bytes base64_bytes
    base64_text psbt_of psbt_bytes records_at maps_at many wide_at compact_at string_at input_at inputs_at output_at
    outputs_at witness_at witnesses_at plain_at marked_at transaction_at all_at
another_behind_it = refl

pub foreign_key : answered (signed_by (2 ∷ weigh []) signature)
    ≡
    line (codes "signatures refused line 1 key 0") ([])
unfolding digits label_text stripped compact position_script item_of_number signed_bytes base64_bytes
    base64_text psbt_of psbt_bytes records_at maps_at many wide_at compact_at string_at input_at inputs_at output_at
    outputs_at witness_at witnesses_at plain_at marked_at transaction_at all_at
foreign_key = refl

pub wrong_shape : answered (signed_by own_key (48 ∷ signature))
    ≡
    line (codes "signatures refused line 1 signature 0") ([])
unfolding digits label_text stripped compact position_script item_of_number signed_bytes base64_bytes
    base64_text psbt_of psbt_bytes records_at maps_at many wide_at compact_at string_at input_at inputs_at output_at
    outputs_at witness_at witnesses_at plain_at marked_at transaction_at all_at
wrong_shape = refl

pub no_script_behind_it : answered (init_with (λ input. record input { witness = Some (signature ∷ []) }))
    ≡
    line (codes "signatures refused line 1 witness 0") ([])
unfolding digits label_text stripped compact position_script item_of_number signed_bytes base64_bytes
    base64_text psbt_of psbt_bytes records_at maps_at many wide_at compact_at string_at input_at inputs_at output_at
    outputs_at witness_at witnesses_at plain_at marked_at transaction_at all_at
no_script_behind_it = refl

pub one_byte_more_of_script : answered (init_with (λ input. record input { script = Some (own_script ++ 0 ∷ []) }))
    ≡
    line (codes "signatures refused line 1 script 0") ([])
unfolding digits label_text stripped compact position_script item_of_number signed_bytes base64_bytes
    base64_text psbt_of psbt_bytes records_at maps_at many wide_at compact_at string_at input_at inputs_at output_at
    outputs_at witness_at witnesses_at plain_at marked_at transaction_at all_at
one_byte_more_of_script = refl

pub other_value : answered (init_with (λ input. record input { spent = Some (record { value = 60001; script = [] }) }))
    ≡
    line (codes "signatures refused line 1 spent 0") ([])
unfolding digits label_text stripped compact position_script item_of_number signed_bytes base64_bytes
    base64_text psbt_of psbt_bytes records_at maps_at many wide_at compact_at string_at input_at inputs_at output_at
    outputs_at witness_at witnesses_at plain_at marked_at transaction_at all_at
other_value = refl

-- ---- signatures that don't verify

pub not_verified : answered_by refusing (signed_by own_key signature)
    ≡
    line (codes "signatures refused line 1 invalid 0") ([])
unfolding digits label_text stripped compact position_script item_of_number signed_bytes base64_bytes
    base64_text psbt_of psbt_bytes records_at maps_at many wide_at compact_at string_at input_at inputs_at output_at
    outputs_at witness_at witnesses_at plain_at marked_at transaction_at all_at
not_verified = refl

pub not_verified_in_a_final_witness : answered_by refusing (init_with (λ input. record input { witness = Some (signature ∷ own_script ∷ []) }))
    ≡
    line (codes "signatures refused line 1 invalid 0") ([])
unfolding digits label_text stripped compact position_script item_of_number signed_bytes base64_bytes
    base64_text psbt_of psbt_bytes records_at maps_at many wide_at compact_at string_at input_at inputs_at output_at
    outputs_at witness_at witnesses_at plain_at marked_at transaction_at all_at
not_verified_in_a_final_witness = refl

pub not_verified_before_conflict : answered_by choosing (signed_by own_key signature ++ 10 ∷ signed_by own_key other_signature)
    ≡
    line (codes "signatures refused line 3 invalid 0") ([])
unfolding digits label_text stripped compact position_script item_of_number signed_bytes base64_bytes
    base64_text psbt_of psbt_bytes records_at maps_at many wide_at compact_at string_at input_at inputs_at output_at
    outputs_at witness_at witnesses_at plain_at marked_at transaction_at all_at
not_verified_before_conflict = refl

pub shape_before_not_verified : answered_by refusing (signed_by own_key [])
    ≡
    line (codes "signatures refused line 1 signature 0") ([])
unfolding digits label_text stripped compact position_script item_of_number signed_bytes base64_bytes
    base64_text psbt_of psbt_bytes records_at maps_at many wide_at compact_at string_at input_at inputs_at output_at
    outputs_at witness_at witnesses_at plain_at marked_at transaction_at all_at
shape_before_not_verified = refl
