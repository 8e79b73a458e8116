-- Worked files of signatures with witnesses of wallets, each by computation alone: what is taken, and why a line is bad.
use Rattle.std.proofs.Common.{◌≡◌, ℕ, List, [], ◌∷◌, ◌++◌, refl}
use Rattle.std.specs.Prelude.{codes, replicate, Some, None, Ok, Err}
use Rattle.std.specs.Fmt.{digits}
use Rattle.spec_bitcoin.specs.Keys.{label_text}
use Rattle.spec_bitcoin.specs.Numbers.{item_of_number, signed_bytes}
use Rattle.spec_bitcoin.specs.Spelling.{stripped, compact}
use Rattle.spec_bitcoin.specs.Reading.{many, wide_at, compact_at, string_at, input_at, inputs_at, output_at, outputs_at, witness_at}
use Rattle.spec_bitcoin.specs.Reading.{witnesses_at, plain_at, marked_at, transaction_at, all_at}
use Rattle.spec_compiler.specs.Keyed.Keys.{Keys, given}
use Rattle.spec_compiler.specs.Keyed.Instance.{position_script}
use Rattle.spec_tool.specs.declared.psbt.PsbtInput.{PsbtInput}
use Rattle.spec_tool.specs.declared.which.Which.TheVariants as names
use Rattle.spec_tool.specs.Base64.{base64_text, base64_bytes}
use Rattle.spec_tool.specs.Psbt.{Psbt}
use Rattle.spec_tool.specs.PsbtBytes.{psbt_of, psbt_bytes, records_at, maps_at}
use Rattle.spec_tool.specs.PsbtText.{psbt_line}
use Rattle.spec_tool.specs.Keyed.Listed.{listed_at}
use Rattle.spec_deal.specs.declared.signed.Signed.{Signed}
use Rattle.spec_deal.specs.DealText.{unsigned_psbt}
use Rattle.spec_deal.specs.RefusedText.{signatures_refused_line}
use Rattle.spec_deal.specs.SignatureFile.{read_signatures}
use Rattle.spec_deal.specs.Verifier.{Verifier, accepting}
use Rattle.spec_deal.proofs.FileVectors.{refusing, line, weigh, twin, x}
use Rattle.spec_deal.proofs.SignatureVectors.{setting}
use Rattle.spec_deal.proofs.WalletVectors.{taproot_script, script_hash_script, key_hash_script}

-- x has this script, and y its owner's key
abbrev keys_with : List ℕ → Keys
keys_with script = given (λ label. 2 ∷ weigh (label_text label)) (record { deposits = (x, script) ∷ []; payees = [] })

-- signatures of R and S 1, and of S 2
abbrev signature : List ℕ
signature = 48 ∷ 6 ∷ 2 ∷ 1 ∷ 1 ∷ 2 ∷ 1 ∷ 1 ∷ 1 ∷ []

abbrev other_signature : List ℕ
other_signature = 48 ∷ 6 ∷ 2 ∷ 1 ∷ 1 ∷ 2 ∷ 1 ∷ 2 ∷ 1 ∷ []

-- of another hash type
abbrev anyone_can_pay : List ℕ
anyone_can_pay = 48 ∷ 6 ∷ 2 ∷ 1 ∷ 1 ∷ 2 ∷ 1 ∷ 1 ∷ 129 ∷ []

abbrev key : List ℕ
key = 2 ∷ replicate 32 4

abbrev first_changed : (PsbtInput → PsbtInput) → List PsbtInput → List PsbtInput
first_changed change [] = []
first_changed change (input ∷ inputs) = change input ∷ inputs

abbrev changed : (PsbtInput → PsbtInput) → Psbt → Psbt
changed change p = record p { inputs = first_changed change p.inputs }

-- the initial transaction, with its first input changed
abbrev init_with : List ℕ → (PsbtInput → PsbtInput) → List ℕ
init_with script change = elim (listed_at weigh (keys_with script) (setting twin) names.Init) [
  | None ↦ []
  | Some l ↦ psbt_line (changed change (unsigned_psbt weigh (keys_with script) twin l))
]

-- with this final witness
abbrev finished_by : List ℕ → List (List ℕ) → List ℕ
finished_by script items = init_with script (λ input. record input { witness = Some items })

-- the witnesses that a file gives
abbrev witnesses_of : List Signed → List (List (List ℕ))
witnesses_of [] = []
witnesses_of (g ∷ more) = g.witness ∷ witnesses_of more

-- what is taken of a file, or why it is refused
abbrev taken_by : Verifier → List ℕ → List ℕ → List (List (List ℕ))
taken_by v script text = elim (read_signatures v weigh (keys_with script) (setting twin) text) [
  | Ok signed ↦ witnesses_of signed
  | Err fault ↦ (signatures_refused_line fault ∷ []) ∷ []
]

-- of a file of this witness alone
abbrev taken : List ℕ → List (List ℕ) → List (List (List ℕ))
taken script items = taken_by accepting script (finished_by script items)

-- why a file is refused
abbrev refused : List ℕ → List (List (List ℕ))
refused reason = (line (codes "signatures refused line " ++ reason) [] ∷ []) ∷ []

pub good : taken key_hash_script (signature ∷ key ∷ []) ≡ (signature ∷ key ∷ []) ∷ []
unfolding digits label_text stripped compact position_script item_of_number signed_bytes base64_bytes
    base64_text psbt_of psbt_bytes records_at maps_at many wide_at compact_at string_at input_at inputs_at output_at
    outputs_at witness_at witnesses_at plain_at marked_at transaction_at all_at
good = refl

pub one_item : taken key_hash_script (signature ∷ []) ≡ refused (codes "1 witness 0")
unfolding digits label_text stripped compact position_script item_of_number signed_bytes base64_bytes
    base64_text psbt_of psbt_bytes records_at maps_at many wide_at compact_at string_at input_at inputs_at output_at
    outputs_at witness_at witnesses_at plain_at marked_at transaction_at all_at
one_item = refl

pub no_item : taken key_hash_script [] ≡ refused (codes "1 witness 0")
unfolding digits label_text stripped compact position_script item_of_number signed_bytes base64_bytes
    base64_text psbt_of psbt_bytes records_at maps_at many wide_at compact_at string_at input_at inputs_at output_at
    outputs_at witness_at witnesses_at plain_at marked_at transaction_at all_at
no_item = refl

pub no_key : taken key_hash_script (signature ∷ (4 ∷ replicate 32 4) ∷ []) ≡ refused (codes "1 witness 0")
unfolding digits label_text stripped compact position_script item_of_number signed_bytes base64_bytes
    base64_text psbt_of psbt_bytes records_at maps_at many wide_at compact_at string_at input_at inputs_at output_at
    outputs_at witness_at witnesses_at plain_at marked_at transaction_at all_at
no_key = refl

pub another_hash_type : taken key_hash_script (anyone_can_pay ∷ key ∷ []) ≡ refused (codes "1 signature 0")
unfolding digits label_text stripped compact position_script item_of_number signed_bytes base64_bytes
    base64_text psbt_of psbt_bytes records_at maps_at many wide_at compact_at string_at input_at inputs_at output_at
    outputs_at witness_at witnesses_at plain_at marked_at transaction_at all_at
another_hash_type = refl

pub not_verified : taken_by refusing key_hash_script (finished_by key_hash_script (signature ∷ key ∷ [])) ≡ refused (codes "1 invalid 0")
unfolding digits label_text stripped compact position_script item_of_number signed_bytes base64_bytes
    base64_text psbt_of psbt_bytes records_at maps_at many wide_at compact_at string_at input_at inputs_at output_at
    outputs_at witness_at witnesses_at plain_at marked_at transaction_at all_at
not_verified = refl

pub another_value :
    taken_by accepting key_hash_script (init_with key_hash_script (λ input. record input {
      spent = Some (record { value = 60001; script = key_hash_script });
      witness = Some (signature ∷ []);
    })) ≡ refused (codes "1 spent 0")
unfolding digits label_text stripped compact position_script item_of_number signed_bytes base64_bytes
    base64_text psbt_of psbt_bytes records_at maps_at many wide_at compact_at string_at input_at inputs_at output_at
    outputs_at witness_at witnesses_at plain_at marked_at transaction_at all_at
another_value = refl

-- partial signatures and scripts of a wallet give nothing
pub partial_signature :
    taken_by accepting key_hash_script (init_with key_hash_script (λ input. record input {
      partial = (key, signature) ∷ [];
      script = Some (1 ∷ 2 ∷ []);
    })) ≡ []
unfolding digits label_text stripped compact position_script item_of_number signed_bytes base64_bytes
    base64_text psbt_of psbt_bytes records_at maps_at many wide_at compact_at string_at input_at inputs_at output_at
    outputs_at witness_at witnesses_at plain_at marked_at transaction_at all_at
partial_signature = refl

-- the same again is taken once, and without another look at it
pub same_again :
    taken_by accepting key_hash_script
    (finished_by key_hash_script (signature ∷ key ∷ []) ++ finished_by key_hash_script (signature ∷ key ∷ []))
    ≡ (signature ∷ key ∷ []) ∷ []
unfolding digits label_text stripped compact position_script item_of_number signed_bytes base64_bytes
    base64_text psbt_of psbt_bytes records_at maps_at many wide_at compact_at string_at input_at inputs_at output_at
    outputs_at witness_at witnesses_at plain_at marked_at transaction_at all_at
same_again = refl

pub another_witness :
    taken_by accepting key_hash_script
    (finished_by key_hash_script (signature ∷ key ∷ []) ++ (10 ∷ finished_by key_hash_script (other_signature ∷ key ∷ [])))
    ≡ refused (codes "3 conflict 0")
unfolding digits label_text stripped compact position_script item_of_number signed_bytes base64_bytes
    base64_text psbt_of psbt_bytes records_at maps_at many wide_at compact_at string_at input_at inputs_at output_at
    outputs_at witness_at witnesses_at plain_at marked_at transaction_at all_at
another_witness = refl

pub taproot_by_default : taken taproot_script (replicate 64 0 ∷ []) ≡ (replicate 64 0 ∷ []) ∷ []
unfolding digits label_text stripped compact position_script item_of_number signed_bytes base64_bytes
    base64_text psbt_of psbt_bytes records_at maps_at many wide_at compact_at string_at input_at inputs_at output_at
    outputs_at witness_at witnesses_at plain_at marked_at transaction_at all_at
taproot_by_default = refl

pub taproot_of_all : taken taproot_script ((replicate 64 0 ++ 1 ∷ []) ∷ []) ≡ ((replicate 64 0 ++ 1 ∷ []) ∷ []) ∷ []
unfolding digits label_text stripped compact position_script item_of_number signed_bytes base64_bytes
    base64_text psbt_of psbt_bytes records_at maps_at many wide_at compact_at string_at input_at inputs_at output_at
    outputs_at witness_at witnesses_at plain_at marked_at transaction_at all_at
taproot_of_all = refl

pub taproot_of_another_type : taken taproot_script ((replicate 64 0 ++ 2 ∷ []) ∷ []) ≡ refused (codes "1 witness 0")
unfolding digits label_text stripped compact position_script item_of_number signed_bytes base64_bytes
    base64_text psbt_of psbt_bytes records_at maps_at many wide_at compact_at string_at input_at inputs_at output_at
    outputs_at witness_at witnesses_at plain_at marked_at transaction_at all_at
taproot_of_another_type = refl

pub taproot_of_nothing : taken taproot_script [] ≡ refused (codes "1 witness 0")
unfolding digits label_text stripped compact position_script item_of_number signed_bytes base64_bytes
    base64_text psbt_of psbt_bytes records_at maps_at many wide_at compact_at string_at input_at inputs_at output_at
    outputs_at witness_at witnesses_at plain_at marked_at transaction_at all_at
taproot_of_nothing = refl

pub taproot_script_path : taken taproot_script ((1 ∷ []) ∷ (2 ∷ []) ∷ []) ≡ ((1 ∷ []) ∷ (2 ∷ []) ∷ []) ∷ []
unfolding digits label_text stripped compact position_script item_of_number signed_bytes base64_bytes
    base64_text psbt_of psbt_bytes records_at maps_at many wide_at compact_at string_at input_at inputs_at output_at
    outputs_at witness_at witnesses_at plain_at marked_at transaction_at all_at
taproot_script_path = refl

-- a script's own items are not looked at
pub any_items : taken_by refusing script_hash_script (finished_by script_hash_script ([] ∷ (1 ∷ []) ∷ [])) ≡ ([] ∷ (1 ∷ []) ∷ []) ∷ []
unfolding digits label_text stripped compact position_script item_of_number signed_bytes base64_bytes
    base64_text psbt_of psbt_bytes records_at maps_at many wide_at compact_at string_at input_at inputs_at output_at
    outputs_at witness_at witnesses_at plain_at marked_at transaction_at all_at
any_items = refl

pub no_items : taken script_hash_script [] ≡ refused (codes "1 witness 0")
unfolding digits label_text stripped compact position_script item_of_number signed_bytes base64_bytes
    base64_text psbt_of psbt_bytes records_at maps_at many wide_at compact_at string_at input_at inputs_at output_at
    outputs_at witness_at witnesses_at plain_at marked_at transaction_at all_at
no_items = refl
