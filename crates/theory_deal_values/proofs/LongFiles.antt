-- Files of a byte more than is read: what is printed of them, without going through their bytes.
use Rattle.std.proofs.Common.{◌≡◌, ℕ, List, [], ◌∷◌, Bool, false, Some, refl, ap, ◌∙◌, cond}
use Rattle.std.specs.Prelude.{codes, nat_le, replicate}
use Rattle.std.proofs.lemmas.List.{length-replicate}
use Rattle.std.specs.Fmt.{digits}
use Rattle.spec_terms.specs.Readable.{is_name}
use Rattle.spec_bitcoin.specs.Keys.{label_text}
use Rattle.spec_bitcoin.specs.Digests.{places_list, sequences_list, outputs_list, preimage}
use Rattle.spec_bitcoin.specs.Spelling.{stripped, marked, compact}
use Rattle.spec_bitcoin.specs.Reading.{many, wide_at, compact_at, string_at, input_at, inputs_at, output_at, outputs_at, witness_at}
use Rattle.spec_bitcoin.specs.Reading.{witnesses_at, plain_at, marked_at, transaction_at, all_at}
use Rattle.spec_bitcoin.specs.Meaning.{script_meaning}
use Rattle.spec_bitcoin.specs.Numbers.{number_of_item, signed_bytes, item_of_number}
use Rattle.spec_bitcoin.specs.Scripts.{ops_of}
use Rattle.spec_compiler.specs.Keyed.Instance.{position_script}
use Rattle.spec_text.specs.Lexis.{word_prefix, number_prefix, symbol_prefix}
use Rattle.spec_text.specs.ReadAdvert.{read_answer, advert_of_all, advert_at, entries_at, entry_at, head_at, deposit_at, secret_at, fee_at}
use Rattle.spec_text.specs.ReadContract.{withdraw_at, condition_at, reveals_at, puts_at, put_reveals_at, headed_at, one_branch_at}
use Rattle.spec_text.specs.ReadContract.{branches_at, choice_with, parts_at, auth_at, after_at, put_at, reveal_at, split_at, branch_at}
use Rattle.spec_text.specs.ReadTest.{constant_at, length_at, formula_at, comparison_at, test_at}
use Rattle.spec_text.specs.Reading.{names_from}
use Rattle.spec_tool.specs.Base64.{base64_text, base64_bytes}
use Rattle.spec_tool.specs.PsbtBytes.{psbt_of, psbt_bytes, records_at, maps_at}
use Rattle.spec_tool.specs.PsbtText.{psbt_text}
use Rattle.spec_curve.specs.Field.{plus, minus, times, power, inverse, root}
use Rattle.spec_curve.specs.Point.{double, add, multiple}
use Rattle.spec_curve.specs.Key.{square_at, of_sign, point_at, point}
use Rattle.spec_curve.specs.Verify.{has_first, sum_of, verifies}
use Rattle.spec_curve.specs.Signature.{is_signature}
use Rattle.spec_tool.specs.Reads.{got, too_long, within, onto_reads}
use Rattle.spec_tool.specs.declared.which.Which.TheVariants as names
use Rattle.spec_terms.specs.declared.path.PathStep.TheVariants.{Branch as To}
use Rattle.spec_deal.specs.Commands as deals
use Rattle.spec_deal.specs.Sizes.{most_deal_bytes, most_signature_bytes, most_secrets_bytes}
use Rattle.spec_deal.specs.Verifier.{secp256k1}
use Rattle.spec_chain.specs.Answers.{chain_answer}
use Rattle.spec_chain.specs.Commands.{on_deal, state}
use Rattle.spec_chain.specs.Sizes.{most_chain_bytes}
use Rattle.theory_values.specs.Replies.{sha_of}
use Rattle.theory_deal_values.specs.RefusedChains as chains
use Rattle.theory_deal_values.specs.RefusedDealFiles as deal_files
use Rattle.theory_deal_values.specs.RefusedSecretFiles as secret_files
use Rattle.theory_deal_values.specs.RefusedSignatureFiles as signature_files
use Rattle.theory_deal_values.specs.SmallDeals.{one_bitml, one_deal, one_hashes, secret_bitml, secret_deal, secret_hashes, bet_bitml, bet_deal, bet_hashes}

-- a read of so many line feeds
long_read : (limit n : ℕ) → nat_le n limit ≡ false → within limit (Some (replicate n 10)) ≡ too_long
long_read limit n more =
    ap (λ (k : ℕ). cond (nat_le k limit) (got (replicate n 10)) too_long) (length-replicate n 10)
    ∙ ap (λ (b : Bool). cond b (got (replicate n 10)) too_long) more

of_deal_file : (file : List ℕ) → within most_deal_bytes (Some file) ≡ too_long
    → deal_files.Refuses one_hashes one_bitml file (codes "deal refused size")
unfolding is_name word_prefix number_prefix symbol_prefix read_answer advert_of_all advert_at entries_at entry_at head_at
    deposit_at secret_at fee_at choice_with branches_at branch_at parts_at auth_at after_at put_at reveal_at split_at
    reveals_at puts_at put_reveals_at headed_at one_branch_at condition_at names_from test_at comparison_at formula_at
    constant_at length_at withdraw_at digits label_text stripped marked compact places_list sequences_list
    outputs_list preimage position_script many wide_at compact_at string_at input_at inputs_at output_at outputs_at
    witness_at witnesses_at plain_at marked_at transaction_at all_at script_meaning ops_of number_of_item signed_bytes
    item_of_number base64_text base64_bytes psbt_bytes psbt_text psbt_of records_at maps_at point point_at square_at of_sign
    root power times plus minus inverse double add multiple has_first sum_of verifies is_signature
of_deal_file file long = λ i.
    chain_answer secp256k1 (sha_of one_hashes) (Some (on_deal (deals.plan (codes "contract") (codes "deal"))))
    (got one_bitml ∷ onto_reads (long i) [])

of_signature_file : (file : List ℕ) → within most_signature_bytes (Some file) ≡ too_long
    → signature_files.Refuses file (codes "signatures refused size")
unfolding is_name word_prefix number_prefix symbol_prefix read_answer advert_of_all advert_at entries_at entry_at head_at
    deposit_at secret_at fee_at choice_with branches_at branch_at parts_at auth_at after_at put_at reveal_at split_at
    reveals_at puts_at put_reveals_at headed_at one_branch_at condition_at names_from test_at comparison_at formula_at
    constant_at length_at withdraw_at digits label_text stripped marked compact places_list sequences_list
    outputs_list preimage position_script many wide_at compact_at string_at input_at inputs_at output_at outputs_at
    witness_at witnesses_at plain_at marked_at transaction_at all_at script_meaning ops_of number_of_item signed_bytes
    item_of_number base64_text base64_bytes psbt_bytes psbt_text psbt_of records_at maps_at point point_at square_at of_sign
    root power times plus minus inverse double add multiple has_first sum_of verifies is_signature
of_signature_file file long = λ i.
    chain_answer secp256k1 (sha_of one_hashes)
    (Some (on_deal (deals.missing (codes "contract") (codes "deal") (codes "signatures"))))
    (got one_bitml ∷ got one_deal ∷ onto_reads (long i) [])

of_secret_file : (file : List ℕ) → within most_secrets_bytes (Some file) ≡ too_long
    → secret_files.Refuses file (codes "secrets refused size")
unfolding is_name word_prefix number_prefix symbol_prefix read_answer advert_of_all advert_at entries_at entry_at head_at
    deposit_at secret_at fee_at choice_with branches_at branch_at parts_at auth_at after_at put_at reveal_at split_at
    reveals_at puts_at put_reveals_at headed_at one_branch_at condition_at names_from test_at comparison_at formula_at
    constant_at length_at withdraw_at digits label_text stripped marked compact places_list sequences_list
    outputs_list preimage position_script many wide_at compact_at string_at input_at inputs_at output_at outputs_at
    witness_at witnesses_at plain_at marked_at transaction_at all_at script_meaning ops_of number_of_item signed_bytes
    item_of_number base64_text base64_bytes psbt_bytes psbt_text psbt_of records_at maps_at point point_at square_at of_sign
    root power times plus minus inverse double add multiple has_first sum_of verifies is_signature
of_secret_file file long = λ i.
    chain_answer secp256k1 (sha_of secret_hashes)
    (Some (on_deal (deals.finish_with (codes "contract") (codes "deal") (names.At (To 0 ∷ [])) (codes "signatures") (codes "secrets"))))
    (got secret_bitml ∷ got secret_deal ∷ got [] ∷ onto_reads (long i) [])

of_chain_file : (file : List ℕ) → within most_chain_bytes (Some file) ≡ too_long
    → chains.Refuses file (codes "chain refused size")
unfolding is_name word_prefix number_prefix symbol_prefix read_answer advert_of_all advert_at entries_at entry_at head_at
    deposit_at secret_at fee_at choice_with branches_at branch_at parts_at auth_at after_at put_at reveal_at split_at
    reveals_at puts_at put_reveals_at headed_at one_branch_at condition_at names_from test_at comparison_at formula_at
    constant_at length_at withdraw_at digits label_text stripped marked compact places_list sequences_list
    outputs_list preimage position_script many wide_at compact_at string_at input_at inputs_at output_at outputs_at
    witness_at witnesses_at plain_at marked_at transaction_at all_at script_meaning ops_of number_of_item signed_bytes
    item_of_number base64_text base64_bytes psbt_bytes psbt_text psbt_of records_at maps_at point point_at square_at of_sign
    root power times plus minus inverse double add multiple has_first sum_of verifies is_signature
of_chain_file file long = λ i.
    chain_answer secp256k1 (sha_of bet_hashes)
    (Some (state (codes "contract") (codes "deal") (codes "chain") (codes "signatures")))
    (got bet_bitml ∷ got bet_deal ∷ onto_reads (long i) (got [] ∷ []))

pub long_deal_file : deal_files.Refuses one_hashes one_bitml (replicate 8388609 10) (codes "deal refused size")
long_deal_file = of_deal_file (replicate 8388609 10) (long_read most_deal_bytes 8388609 refl)

pub long_signature_file : signature_files.Refuses (replicate 8388609 10) (codes "signatures refused size")
long_signature_file = of_signature_file (replicate 8388609 10) (long_read most_signature_bytes 8388609 refl)

pub long_secret_file : secret_files.Refuses (replicate 1048577 10) (codes "secrets refused size")
long_secret_file = of_secret_file (replicate 1048577 10) (long_read most_secrets_bytes 1048577 refl)

pub long_chain_file : chains.Refuses (replicate 8388609 10) (codes "chain refused size")
long_chain_file = of_chain_file (replicate 8388609 10) (long_read most_chain_bytes 8388609 refl)
