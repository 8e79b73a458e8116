-- Strategies whose rules name paths, contracts and parties: what each rule does.
use Rattle.std.proofs.Common.{◌≡◌, ℕ, List, [], ◌∷◌, refl}
use Rattle.std.specs.Prelude.{codes}
use Rattle.std.specs.Fmt.{digits}
use Rattle.spec_terms.specs.Readable.{is_name}
use Rattle.spec_bitcoin.specs.Keys.{label_text}
use Rattle.spec_bitcoin.specs.Digests.{places_list, sequences_list, outputs_list, preimage}
use Rattle.spec_bitcoin.specs.Spelling.{stripped, marked, compact}
use Rattle.spec_bitcoin.specs.Reading.{many, wide_at, compact_at, string_at, input_at, inputs_at, output_at, outputs_at, witness_at}
use Rattle.spec_bitcoin.specs.Reading.{witnesses_at, plain_at, marked_at, transaction_at, all_at}
use Rattle.spec_bitcoin.specs.Meaning.{script_meaning}
use Rattle.spec_bitcoin.specs.Numbers.{number_of_item, signed_bytes, item_of_number}
use Rattle.spec_bitcoin.specs.Scripts.{ops_of}
use Rattle.spec_compiler.specs.Keyed.Instance.{position_script}
use Rattle.spec_text.specs.Lexis.{word_prefix, number_prefix, symbol_prefix}
use Rattle.spec_text.specs.ReadAdvert.{read_answer, advert_of_all, advert_at, entries_at, entry_at, head_at, deposit_at, secret_at, fee_at}
use Rattle.spec_text.specs.ReadContract.{withdraw_at, condition_at, reveals_at, puts_at, put_reveals_at, headed_at, one_branch_at}
use Rattle.spec_text.specs.ReadContract.{branches_at, choice_with, parts_at, auth_at, after_at, put_at, reveal_at, split_at, branch_at}
use Rattle.spec_text.specs.ReadTest.{constant_at, length_at, formula_at, comparison_at, test_at}
use Rattle.spec_text.specs.Reading.{names_from}
use Rattle.spec_tool.specs.Commands.{prints}
use Rattle.spec_tool.specs.Turns.{rounds}
use Rattle.spec_tool.specs.AutoText.{auto_answer}
use Rattle.theory_values.specs.Replies.{lines, replies, small_hash}

abbrev begun_run : List ℕ
begun_run =
    lines (
    codes "party A" ∷
    codes "party B" ∷
    codes "honest A" ∷
    codes "honest B" ∷
    codes "deposit A 10" ∷
    codes "deposit B 0" ∷
    codes "--" ∷
    codes "advertise 0 x=#0 y=#1" ∷
    codes "commit 0 A" ∷
    codes "commit 0 B" ∷
    codes "endorse 0 A" ∷
    codes "endorse 0 B" ∷
    codes "init 0 A" ∷
    codes "init 0 B" ∷
    codes "fire init 0" ∷
    [])

abbrev branches_bitml : List ℕ
branches_bitml =
    codes "{A:! 10 @ x | B:! 0 @ y} (A : withdraw A + B : split [6 -> withdraw A, 4 -> (withdraw B + A : withdraw A)])"

-- rules that ask for branches other than the first, one of them of a part
abbrev chosen_strategy : List ℕ
chosen_strategy =
    lines (
    codes "A fire 0 r.1/1.1" ∷
    codes "A authorise 0 r.1/1.1" ∷
    codes "B authorise 0 r.1" ∷
    codes "B fire 0 r.1" ∷
    codes "A fire 0 r.1/0.0" ∷
    codes "A fire 0 r.0" ∷
    [])

abbrev strategy_takes_chosen_branches_text : List ℕ
strategy_takes_chosen_branches_text =
    lines (
    codes "party A" ∷
    codes "party B" ∷
    codes "honest A" ∷
    codes "honest B" ∷
    codes "deposit A 10" ∷
    codes "deposit B 0" ∷
    codes "--" ∷
    codes "advertise 0 x=#0 y=#1" ∷
    codes "commit 0 A" ∷
    codes "commit 0 B" ∷
    codes "endorse 0 A" ∷
    codes "endorse 0 B" ∷
    codes "init 0 A" ∷
    codes "init 0 B" ∷
    codes "fire init 0" ∷
    codes "authorise B #2 1" ∷
    codes "fire #2 1" ∷
    codes "fire #3 0" ∷
    codes "authorise A #4 1" ∷
    codes "fire #4 1" ∷
    [])

strategy_takes_chosen_branches :
    replies small_hash (codes "auto" ∷ codes "begun.run" ∷ codes "branches.bitml" ∷ codes "chosen.strategy" ∷ [])
    ((codes "begun.run", begun_run) ∷ (codes "branches.bitml", branches_bitml) ∷ (codes "chosen.strategy", chosen_strategy) ∷ [])
    ≡ prints 0 strategy_takes_chosen_branches_text
unfolding is_name word_prefix number_prefix symbol_prefix read_answer advert_of_all advert_at entries_at entry_at head_at deposit_at
    secret_at fee_at choice_with branches_at branch_at parts_at auth_at after_at put_at reveal_at split_at reveals_at puts_at
    put_reveals_at headed_at one_branch_at condition_at names_from test_at comparison_at formula_at constant_at length_at withdraw_at
    digits label_text stripped marked compact places_list sequences_list outputs_list preimage position_script many wide_at compact_at
    string_at input_at inputs_at output_at outputs_at witness_at witnesses_at plain_at marked_at transaction_at all_at script_meaning
    ops_of number_of_item signed_bytes item_of_number rounds auto_answer
strategy_takes_chosen_branches = refl

-- a strategy is of the first contract alone
abbrev other_contract_strategy : List ℕ
other_contract_strategy =
    lines (
    codes "A commit 1" ∷
    [])

strategy_of_another_contract :
    replies small_hash (codes "auto" ∷ codes "begun.run" ∷ codes "branches.bitml" ∷ codes "other_contract.strategy" ∷ [])
    ((codes "begun.run", begun_run) ∷ (codes "branches.bitml", branches_bitml)
    ∷ (codes "other_contract.strategy", other_contract_strategy) ∷ [])
    ≡ prints 11 (lines (codes "strategy refused line 1" ∷ []))
unfolding is_name word_prefix number_prefix symbol_prefix read_answer advert_of_all advert_at entries_at entry_at head_at deposit_at
    secret_at fee_at choice_with branches_at branch_at parts_at auth_at after_at put_at reveal_at split_at reveals_at puts_at
    put_reveals_at headed_at one_branch_at condition_at names_from test_at comparison_at formula_at constant_at length_at withdraw_at
    digits label_text stripped marked compact places_list sequences_list outputs_list preimage position_script many wide_at compact_at
    string_at input_at inputs_at output_at outputs_at witness_at witnesses_at plain_at marked_at transaction_at all_at script_meaning
    ops_of number_of_item signed_bytes item_of_number rounds auto_answer
strategy_of_another_contract = refl

-- consent alone, which nobody makes use of
abbrev consent_strategy : List ℕ
consent_strategy =
    lines (
    codes "A authorise 0 r.0" ∷
    [])

abbrev strategy_consents_text : List ℕ
strategy_consents_text =
    lines (
    codes "party A" ∷
    codes "party B" ∷
    codes "honest A" ∷
    codes "honest B" ∷
    codes "deposit A 10" ∷
    codes "deposit B 0" ∷
    codes "--" ∷
    codes "advertise 0 x=#0 y=#1" ∷
    codes "commit 0 A" ∷
    codes "commit 0 B" ∷
    codes "endorse 0 A" ∷
    codes "endorse 0 B" ∷
    codes "init 0 A" ∷
    codes "init 0 B" ∷
    codes "fire init 0" ∷
    codes "authorise A #2 0" ∷
    [])

strategy_consents :
    replies small_hash (codes "auto" ∷ codes "begun.run" ∷ codes "branches.bitml" ∷ codes "consent.strategy" ∷ [])
    ((codes "begun.run", begun_run) ∷ (codes "branches.bitml", branches_bitml) ∷ (codes "consent.strategy", consent_strategy) ∷ [])
    ≡ prints 0 strategy_consents_text
unfolding is_name word_prefix number_prefix symbol_prefix read_answer advert_of_all advert_at entries_at entry_at head_at deposit_at
    secret_at fee_at choice_with branches_at branch_at parts_at auth_at after_at put_at reveal_at split_at reveals_at puts_at
    put_reveals_at headed_at one_branch_at condition_at names_from test_at comparison_at formula_at constant_at length_at withdraw_at
    digits label_text stripped marked compact places_list sequences_list outputs_list preimage position_script many wide_at compact_at
    string_at input_at inputs_at output_at outputs_at witness_at witnesses_at plain_at marked_at transaction_at all_at script_meaning
    ops_of number_of_item signed_bytes item_of_number rounds auto_answer
strategy_consents = refl
