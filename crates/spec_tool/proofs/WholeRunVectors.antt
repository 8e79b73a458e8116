-- A test vector: a strategy plays a whole run.
use Rattle.spec_terms.specs.Readable.{is_name}
use Rattle.std.proofs.Common.{◌≡◌, ℕ, List, [], ◌∷◌, refl}
use Rattle.std.specs.Prelude.{codes}
use Rattle.std.specs.Fmt.{digits}
use Rattle.spec_bitcoin.specs.Keys.{label_text}
use Rattle.spec_bitcoin.specs.Digests.{places_list, sequences_list, outputs_list, preimage}
use Rattle.spec_bitcoin.specs.Spelling.{stripped, marked, compact}
use Rattle.spec_bitcoin.specs.Reading.{many, wide_at, compact_at, string_at, input_at, inputs_at, output_at, outputs_at, witness_at}
use Rattle.spec_bitcoin.specs.Reading.{witnesses_at, plain_at, marked_at, transaction_at, all_at}
use Rattle.spec_bitcoin.specs.Meaning.{script_meaning}
use Rattle.spec_bitcoin.specs.Numbers.{number_of_item, signed_bytes, item_of_number}
use Rattle.spec_bitcoin.specs.Scripts.{ops_of}
use Rattle.spec_compiler.specs.Keyed.Instance.{position_script}
use Rattle.spec_text.specs.Lexis.{word_prefix, number_prefix, symbol_prefix}
use Rattle.spec_text.specs.ReadAdvert.{read_answer as read_contract, advert_of_all, advert_at, entries_at, entry_at, head_at, deposit_at}
use Rattle.spec_text.specs.ReadAdvert.{secret_at, fee_at}
use Rattle.spec_text.specs.ReadContract.{withdraw_at, condition_at, reveals_at, puts_at, put_reveals_at, headed_at, one_branch_at}
use Rattle.spec_text.specs.ReadContract.{branches_at, choice_with, parts_at, auth_at, after_at, put_at, reveal_at, split_at, branch_at}
use Rattle.spec_text.specs.ReadTest.{constant_at, length_at, formula_at, comparison_at, test_at}
use Rattle.spec_text.specs.Reading.{names_from}
use Rattle.spec_tool.specs.Reads.{got}
use Rattle.spec_tool.specs.Answers.{answer}
use Rattle.spec_tool.specs.Turns.{rounds}
use Rattle.spec_tool.specs.AutoText.{auto_answer}
use Rattle.spec_tool.specs.Commands.{auto, prints}
use Rattle.spec_tool.proofs.CommandVectors.{line}
use Rattle.spec_tool.proofs.HashVectors.{small_hash}
use Rattle.spec_tool.proofs.StrategyVectors.{commitment, advertised_run}

-- rules for all that is to be done
abbrev pub all_rules : List ℕ
all_rules =
    line (codes "A commit 0") (
    line (codes "B commit 0") (
    line (codes "A endorse 0") (
    line (codes "B endorse 0") (
    line (codes "A init 0") (
    line (codes "B init 0") (
    line (codes "A fire 0 init") (
    line (codes "A reveal 0 a") (
    line (codes "A fire 0 r.0") (
    line (codes "A fire 0 r.0.0") (
    []))))))))))

-- the run that they lead to
abbrev pub whole_run : List ℕ
whole_run =
    line (codes "party A") (
    line (codes "party B") (
    line (codes "honest A") (
    line (codes "honest B") (
    line (codes "secret A a 00112233445566778899aabbccddeeff") (
    line (codes "deposit A 100000000") (
    line (codes "deposit B 0") (
    line (codes "--") (
    line (codes "advertise 0 x=#0 y=#1") (
    line (codes "commit 0 A") (
    line (codes "commit 0 B") (
    line (codes "endorse 0 A") (
    line (codes "endorse 0 B") (
    line (codes "init 0 A") (
    line (codes "init 0 B") (
    line (codes "fire init 0") (
    line (codes "reveal 0 A a") (
    line (codes "fire #2 0") (
    line (codes "fire #3 0") (
    [])))))))))))))))))))

pub rules_play_the_run : answer small_hash (auto (codes "r") (codes "c") (codes "s"))
    (got advertised_run ∷ got commitment ∷ got all_rules ∷ []) ≡ prints 0 whole_run
unfolding is_name word_prefix number_prefix symbol_prefix read_contract advert_of_all advert_at entries_at entry_at head_at deposit_at secret_at
    fee_at choice_with branches_at branch_at parts_at auth_at after_at put_at reveal_at split_at reveals_at puts_at put_reveals_at
    headed_at one_branch_at condition_at names_from test_at comparison_at formula_at constant_at length_at withdraw_at digits label_text
    stripped marked compact places_list sequences_list outputs_list preimage position_script many wide_at compact_at string_at input_at
    inputs_at output_at outputs_at witness_at witnesses_at plain_at marked_at transaction_at all_at script_meaning ops_of number_of_item
    signed_bytes item_of_number rounds auto_answer
rules_play_the_run = refl
