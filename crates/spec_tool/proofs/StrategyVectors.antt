-- Test vectors of strategies: refused ones, one without rules, and one that goes on with a run.
use Rattle.spec_terms.specs.Readable.{is_name}
use Rattle.std.proofs.Common.{◌≡◌, ℕ, List, [], ◌∷◌, refl}
use Rattle.std.specs.Prelude.{codes}
use Rattle.std.specs.Fmt.{digits}
use Rattle.spec_bitcoin.specs.Keys.{label_text}
use Rattle.spec_bitcoin.specs.Digests.{places_list, sequences_list, outputs_list, preimage}
use Rattle.spec_bitcoin.specs.Spelling.{stripped, marked, compact}
use Rattle.spec_compiler.specs.Keyed.Instance.{position_script}
use Rattle.spec_text.specs.Lexis.{word_prefix, number_prefix, symbol_prefix}
use Rattle.spec_text.specs.ReadAdvert.{read_answer as read_contract, advert_of_all, advert_at, entries_at, entry_at, head_at, deposit_at}
use Rattle.spec_text.specs.ReadAdvert.{secret_at, fee_at}
use Rattle.spec_text.specs.ReadContract.{withdraw_at, condition_at, reveals_at, puts_at, put_reveals_at, headed_at, one_branch_at}
use Rattle.spec_text.specs.ReadContract.{branches_at, choice_with, parts_at, auth_at, after_at, put_at, reveal_at, split_at, branch_at}
use Rattle.spec_text.specs.ReadTest.{constant_at, length_at, formula_at, comparison_at, test_at}
use Rattle.spec_text.specs.Reading.{names_from}
use Rattle.spec_tool.specs.Turns.{rounds}
use Rattle.spec_tool.specs.AutoText.{auto_answer}
use Rattle.spec_tool.specs.Reads.{got, too_long}
use Rattle.spec_tool.specs.Commands.{auto, prints}
use Rattle.spec_tool.specs.Answers.{answer}
use Rattle.spec_tool.proofs.CommandVectors.{line, same}

-- a timed commitment
abbrev pub commitment : List ℕ
commitment =
    line (codes "{A:! 100000000 @ x | B:! 0 @ y | A: secret a} (reveal a . withdraw A + after 1000 : withdraw B)") (
    [])

-- a run without events
abbrev pub deposits_run : List ℕ
deposits_run =
    line (codes "party A") (
    line (codes "honest A") (
    line (codes "deposit A 100") (
    line (codes "--") (
    []))))

-- a run whose contract is advertised
abbrev pub advertised_run : List ℕ
advertised_run =
    line (codes "party A") (
    line (codes "party B") (
    line (codes "honest A") (
    line (codes "honest B") (
    line (codes "secret A a 00112233445566778899aabbccddeeff") (
    line (codes "deposit A 100000000") (
    line (codes "deposit B 0") (
    line (codes "--") (
    line (codes "advertise 0 x=#0 y=#1") (
    [])))))))))

pub no_rules : answer same (auto (codes "r") (codes "c") (codes "s")) (got deposits_run ∷ got commitment ∷ got [] ∷ [])
    ≡ prints 0 deposits_run
unfolding is_name word_prefix number_prefix symbol_prefix read_contract advert_of_all advert_at entries_at entry_at head_at deposit_at secret_at
    fee_at choice_with branches_at branch_at parts_at auth_at after_at put_at reveal_at split_at reveals_at puts_at put_reveals_at
    headed_at one_branch_at condition_at names_from test_at comparison_at formula_at constant_at length_at withdraw_at digits label_text
    stripped marked compact places_list sequences_list outputs_list preimage position_script rounds auto_answer
no_rules = refl

pub undeclared_party : answer same (auto (codes "r") (codes "c") (codes "s"))
    (got advertised_run ∷ got commitment ∷ got (codes "C init 0") ∷ []) ≡ prints 11 (line (codes "strategy refused line 1") [])
unfolding is_name word_prefix number_prefix symbol_prefix read_contract advert_of_all advert_at entries_at entry_at head_at deposit_at secret_at
    fee_at choice_with branches_at branch_at parts_at auth_at after_at put_at reveal_at split_at reveals_at puts_at put_reveals_at
    headed_at one_branch_at condition_at names_from test_at comparison_at formula_at constant_at length_at withdraw_at digits label_text
    stripped marked compact places_list sequences_list outputs_list preimage position_script rounds auto_answer
undeclared_party = refl

pub strategy_too_long : answer same (auto (codes "r") (codes "c") (codes "s")) (got advertised_run ∷ got commitment ∷ too_long ∷ [])
    ≡ prints 11 (line (codes "strategy refused limit Size") [])
unfolding is_name word_prefix number_prefix symbol_prefix read_contract advert_of_all advert_at entries_at entry_at head_at deposit_at secret_at
    fee_at choice_with branches_at branch_at parts_at auth_at after_at put_at reveal_at split_at reveals_at puts_at put_reveals_at
    headed_at one_branch_at condition_at names_from test_at comparison_at formula_at constant_at length_at withdraw_at digits label_text
    stripped marked compact places_list sequences_list outputs_list preimage position_script rounds auto_answer
strategy_too_long = refl
