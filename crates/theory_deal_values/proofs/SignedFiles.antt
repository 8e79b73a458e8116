-- Answers that ask whether signatures verify: worked out by the list of those that do.
use Rattle.std.proofs.Common.{ℕ, List, [], ◌∷◌, Bool, refl}
use Rattle.std.specs.Fmt.{digits}
use Rattle.spec_terms.specs.Readable.{is_name}
use Rattle.spec_bitcoin.specs.Keys.{label_text}
use Rattle.spec_bitcoin.specs.Digests.{places_list, sequences_list, outputs_list, preimage}
use Rattle.spec_bitcoin.specs.Spelling.{stripped, marked, compact}
use Rattle.spec_bitcoin.specs.Reading.{many, wide_at, compact_at, string_at, input_at, inputs_at, output_at, outputs_at, witness_at}
use Rattle.spec_bitcoin.specs.Reading.{witnesses_at, plain_at, marked_at, transaction_at, all_at}
use Rattle.spec_bitcoin.specs.Meaning.{script_meaning}
use Rattle.spec_bitcoin.specs.Numbers.{number_of_item, signed_bytes, item_of_number}
use Rattle.spec_bitcoin.specs.Scripts.{ops_of}
use Rattle.spec_compiler.specs.Keyed.Instance.{position_script}
use Rattle.spec_text.specs.Lexis.{word_prefix, number_prefix, symbol_prefix}
use Rattle.spec_text.specs.ReadAdvert.{read_answer, advert_of_all, advert_at, entries_at, entry_at, head_at, deposit_at, secret_at, fee_at}
use Rattle.spec_text.specs.ReadContract.{withdraw_at, condition_at, reveals_at, puts_at, put_reveals_at, headed_at, one_branch_at}
use Rattle.spec_text.specs.ReadContract.{branches_at, choice_with, parts_at, auth_at, after_at, put_at, reveal_at, split_at, branch_at}
use Rattle.spec_text.specs.ReadTest.{constant_at, length_at, formula_at, comparison_at, test_at}
use Rattle.spec_text.specs.Reading.{names_from}
use Rattle.spec_tool.specs.Base64.{base64_text, base64_bytes}
use Rattle.spec_tool.specs.PsbtBytes.{psbt_of, psbt_bytes, records_at, maps_at}
use Rattle.spec_tool.specs.PsbtText.{psbt_text}
use Rattle.spec_curve.specs.Key.{square_at, of_sign, point_at, point}
use Rattle.spec_curve.specs.Field.{plus, minus, times, power, root}
use Rattle.std.specs.Prelude.{codes}
use Rattle.spec_curve.specs.Key.{is_key}
use Rattle.spec_deal.specs.Verifier.{Verifier, secp256k1}
use Rattle.theory_deal_values.specs.RefusedCalls.{SmallestDealIsFinished, FinishesBy, LacksSecretBy, IsTooLongBy}
use Rattle.theory_deal_values.specs.RefusedCalls as calls
use Rattle.theory_deal_values.specs.RefusedSignatureFiles as files
use Rattle.theory_deal_values.specs.RefusedSignatureFiles.{two_by_one_key, swapped_signature}
use Rattle.theory_deal_values.specs.SmallDeals.{one_bitml, one_deal, one_init, one_branch, one_hashes, bet_bitml, bet_deal, bet_hashes}
use Rattle.theory_deal_values.proofs.KnownSignatures.{by_curve, init_of_one, init_of_one_is, branch_of_one, branch_of_one_is, swapped, swapped_is}
use Rattle.theory_deal_values.proofs.KnownSignatures.{bet_of_b, bet_of_b_is, bet_of_a, bet_of_a_is, bet_again, bet_again_is, long_of_b, long_of_b_is, long_of_a, long_of_a_is}

-- what finds points by the curve and signatures by this
abbrev judge : (List ℕ → List ℕ → List ℕ → Bool) → Verifier
judge verifies = record { is_point = is_key; is_signature = verifies }

pub finished : SmallestDealIsFinished
unfolding is_name word_prefix number_prefix symbol_prefix read_answer advert_of_all advert_at entries_at entry_at head_at
    deposit_at secret_at fee_at choice_with branches_at branch_at parts_at auth_at after_at put_at reveal_at split_at
    reveals_at puts_at put_reveals_at headed_at one_branch_at condition_at names_from test_at comparison_at formula_at
    constant_at length_at withdraw_at digits label_text stripped marked compact places_list sequences_list
    outputs_list preimage position_script many wide_at compact_at string_at input_at inputs_at output_at outputs_at
    witness_at witnesses_at plain_at marked_at transaction_at all_at script_meaning ops_of number_of_item signed_bytes
    item_of_number base64_text base64_bytes psbt_bytes psbt_text psbt_of records_at maps_at point point_at square_at of_sign
    root power times plus minus
finished = by_curve (λ f. FinishesBy (judge f)) (init_of_one ∷ branch_of_one ∷ []) (init_of_one_is, (branch_of_one_is, tt)) refl

pub not_endorsed : calls.RefusesBy secp256k1 (codes "init") one_init (codes "refused endorsement r.0 A")
unfolding is_name word_prefix number_prefix symbol_prefix read_answer advert_of_all advert_at entries_at entry_at head_at
    deposit_at secret_at fee_at choice_with branches_at branch_at parts_at auth_at after_at put_at reveal_at split_at
    reveals_at puts_at put_reveals_at headed_at one_branch_at condition_at names_from test_at comparison_at formula_at
    constant_at length_at withdraw_at digits label_text stripped marked compact places_list sequences_list
    outputs_list preimage position_script many wide_at compact_at string_at input_at inputs_at output_at outputs_at
    witness_at witnesses_at plain_at marked_at transaction_at all_at script_meaning ops_of number_of_item signed_bytes
    item_of_number base64_text base64_bytes psbt_bytes psbt_text psbt_of records_at maps_at point point_at square_at of_sign
    root power times plus minus
not_endorsed = by_curve (λ f. calls.RefusesBy (judge f) (codes "init") one_init (codes "refused endorsement r.0 A")) (init_of_one ∷ []) (init_of_one_is, tt) refl

pub not_signed : calls.RefusesBy secp256k1 (codes "init") one_branch (codes "refused signature 0 D:A")
unfolding is_name word_prefix number_prefix symbol_prefix read_answer advert_of_all advert_at entries_at entry_at head_at
    deposit_at secret_at fee_at choice_with branches_at branch_at parts_at auth_at after_at put_at reveal_at split_at
    reveals_at puts_at put_reveals_at headed_at one_branch_at condition_at names_from test_at comparison_at formula_at
    constant_at length_at withdraw_at digits label_text stripped marked compact places_list sequences_list
    outputs_list preimage position_script many wide_at compact_at string_at input_at inputs_at output_at outputs_at
    witness_at witnesses_at plain_at marked_at transaction_at all_at script_meaning ops_of number_of_item signed_bytes
    item_of_number base64_text base64_bytes psbt_bytes psbt_text psbt_of records_at maps_at point point_at square_at of_sign
    root power times plus minus
not_signed = by_curve (λ f. calls.RefusesBy (judge f) (codes "init") one_branch (codes "refused signature 0 D:A")) (branch_of_one ∷ []) (branch_of_one_is, tt) refl

pub no_secret : LacksSecretBy secp256k1
unfolding is_name word_prefix number_prefix symbol_prefix read_answer advert_of_all advert_at entries_at entry_at head_at
    deposit_at secret_at fee_at choice_with branches_at branch_at parts_at auth_at after_at put_at reveal_at split_at
    reveals_at puts_at put_reveals_at headed_at one_branch_at condition_at names_from test_at comparison_at formula_at
    constant_at length_at withdraw_at digits label_text stripped marked compact places_list sequences_list
    outputs_list preimage position_script many wide_at compact_at string_at input_at inputs_at output_at outputs_at
    witness_at witnesses_at plain_at marked_at transaction_at all_at script_meaning ops_of number_of_item signed_bytes
    item_of_number base64_text base64_bytes psbt_bytes psbt_text psbt_of records_at maps_at point point_at square_at of_sign
    root power times plus minus
no_secret = by_curve (λ f. LacksSecretBy (judge f)) (bet_of_b ∷ bet_of_a ∷ []) (bet_of_b_is, (bet_of_a_is, tt)) refl

pub false_predicate : IsTooLongBy secp256k1
unfolding is_name word_prefix number_prefix symbol_prefix read_answer advert_of_all advert_at entries_at entry_at head_at
    deposit_at secret_at fee_at choice_with branches_at branch_at parts_at auth_at after_at put_at reveal_at split_at
    reveals_at puts_at put_reveals_at headed_at one_branch_at condition_at names_from test_at comparison_at formula_at
    constant_at length_at withdraw_at digits label_text stripped marked compact places_list sequences_list
    outputs_list preimage position_script many wide_at compact_at string_at input_at inputs_at output_at outputs_at
    witness_at witnesses_at plain_at marked_at transaction_at all_at script_meaning ops_of number_of_item signed_bytes
    item_of_number base64_text base64_bytes psbt_bytes psbt_text psbt_of records_at maps_at point point_at square_at of_sign
    root power times plus minus
false_predicate = by_curve (λ f. IsTooLongBy (judge f)) (long_of_b ∷ long_of_a ∷ []) (long_of_b_is, (long_of_a_is, tt)) refl

pub invalid : files.RefusesBy secp256k1 one_hashes one_bitml one_deal swapped_signature (codes "signatures refused line 1 invalid 0")
unfolding is_name word_prefix number_prefix symbol_prefix read_answer advert_of_all advert_at entries_at entry_at head_at
    deposit_at secret_at fee_at choice_with branches_at branch_at parts_at auth_at after_at put_at reveal_at split_at
    reveals_at puts_at put_reveals_at headed_at one_branch_at condition_at names_from test_at comparison_at formula_at
    constant_at length_at withdraw_at digits label_text stripped marked compact places_list sequences_list
    outputs_list preimage position_script many wide_at compact_at string_at input_at inputs_at output_at outputs_at
    witness_at witnesses_at plain_at marked_at transaction_at all_at script_meaning ops_of number_of_item signed_bytes
    item_of_number base64_text base64_bytes psbt_bytes psbt_text psbt_of records_at maps_at point point_at square_at of_sign
    root power times plus minus
invalid = by_curve (λ f. files.RefusesBy (judge f) one_hashes one_bitml one_deal swapped_signature (codes "signatures refused line 1 invalid 0")) (swapped ∷ []) (swapped_is, tt) refl

pub conflict : files.RefusesBy secp256k1 bet_hashes bet_bitml bet_deal two_by_one_key (codes "signatures refused line 2 conflict 0")
unfolding is_name word_prefix number_prefix symbol_prefix read_answer advert_of_all advert_at entries_at entry_at head_at
    deposit_at secret_at fee_at choice_with branches_at branch_at parts_at auth_at after_at put_at reveal_at split_at
    reveals_at puts_at put_reveals_at headed_at one_branch_at condition_at names_from test_at comparison_at formula_at
    constant_at length_at withdraw_at digits label_text stripped marked compact places_list sequences_list
    outputs_list preimage position_script many wide_at compact_at string_at input_at inputs_at output_at outputs_at
    witness_at witnesses_at plain_at marked_at transaction_at all_at script_meaning ops_of number_of_item signed_bytes
    item_of_number base64_text base64_bytes psbt_bytes psbt_text psbt_of records_at maps_at point point_at square_at of_sign
    root power times plus minus
conflict = by_curve (λ f. files.RefusesBy (judge f) bet_hashes bet_bitml bet_deal two_by_one_key (codes "signatures refused line 2 conflict 0")) (bet_of_b ∷ bet_again ∷ []) (bet_of_b_is, (bet_again_is, tt)) refl
