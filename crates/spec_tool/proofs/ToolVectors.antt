-- Test vectors of which words are commands, which files they read, and the order of refusals.
use Rattle.spec_terms.specs.Readable.{is_name}
use Rattle.std.proofs.Common.{◌≡◌, [], ◌∷◌, false, refl, Some, None, replicate}
use Rattle.std.specs.Prelude.{codes}
use Rattle.std.specs.Fmt.{digits}
use Rattle.spec_bitcoin.specs.Reading.{string_at}
use Rattle.spec_text.specs.Lexis.{word_prefix, number_prefix, symbol_prefix}
use Rattle.spec_text.specs.ReadAdvert.{read_answer as read_contract, advert_of_all, advert_at, entries_at, entry_at, head_at, deposit_at}
use Rattle.spec_text.specs.ReadAdvert.{secret_at, fee_at}
use Rattle.spec_text.specs.ReadContract.{withdraw_at, condition_at, reveals_at, puts_at, put_reveals_at, headed_at, one_branch_at}
use Rattle.spec_text.specs.ReadContract.{branches_at, choice_with, parts_at, auth_at, after_at, put_at, reveal_at, split_at, branch_at}
use Rattle.spec_text.specs.ReadTest.{constant_at, length_at, formula_at, comparison_at, test_at}
use Rattle.spec_text.specs.Reading.{names_from}
use Rattle.spec_terms.specs.declared.path.PathStep.TheVariants.{Branch as To, Part as Into}
use Rattle.spec_tool.specs.declared.which.Which.TheVariants as names
use Rattle.spec_tool.specs.Reads.{got, too_long, failed, names_asked}
use Rattle.spec_tool.specs.Commands.{command_of, play, psbt_of, psbt_shown, psbt_joined, audit, auto, files_of, prints}
use Rattle.spec_tool.specs.Base64.{base64_bytes}
use Rattle.spec_tool.specs.PsbtBytes.{psbt_of as decode, records_at}
use Rattle.spec_tool.specs.Answers.{answer, tool_answer, ended}
use Rattle.spec_tool.proofs.CommandVectors.{line, same}

-- ---- words

pub path_as_a_word : command_of (codes "psbt" ∷ codes "r" ∷ codes "c" ∷ codes "r.0/12" ∷ [])
    ≡ Some (psbt_of (codes "r") (codes "c") (names.At (To 0 ∷ Into 12 ∷ [])))
path_as_a_word = refl

pub initial_as_a_word : command_of (codes "psbt" ∷ codes "r" ∷ codes "c" ∷ codes "init" ∷ [])
    ≡ Some (psbt_of (codes "r") (codes "c") names.Init)
initial_as_a_word = refl

pub no_path_as_a_word : command_of (codes "psbt" ∷ codes "r" ∷ codes "c" ∷ codes "r.00" ∷ []) ≡ None
no_path_as_a_word = refl

pub two_files : command_of (codes "psbt" ∷ codes "a" ∷ codes "b" ∷ []) ≡ Some (psbt_joined (codes "a") (codes "b"))
two_files = refl

pub audit_without_a_file : command_of (codes "audit" ∷ codes "r" ∷ codes "c" ∷ []) ≡ None
audit_without_a_file = refl

pub seventeen_contracts : command_of (codes "play" ∷ codes "r" ∷ replicate 17 (codes "c")) ≡ None
seventeen_contracts = refl

pub sixteen_contracts : command_of (codes "play" ∷ codes "r" ∷ replicate 16 (codes "c"))
    ≡ Some (play (codes "r") (replicate 16 (codes "c")))
sixteen_contracts = refl

-- ---- files

pub files_of_a_strategy : files_of (auto (codes "r") (codes "c") (codes "s")) ≡ (codes "r", 8388608) ∷ (codes "c", 1048576)
    ∷ (codes "s", 1048576) ∷ []
files_of_a_strategy = refl

pub one_name_twice : files_of (play (codes "r") (codes "c" ∷ codes "c" ∷ [])) ≡ (codes "r", 8388608) ∷ (codes "c", 1048576)
    ∷ (codes "c", 1048576) ∷ []
one_name_twice = refl

pub nothing_behind_a_failure : names_asked (files_of (play (codes "r") (codes "c" ∷ codes "d" ∷ []))) (got [] ∷ failed ∷ []) ≡ codes "r"
    ∷ codes "c" ∷ []
nothing_behind_a_failure = refl

-- ---- the order of refusals

pub usage_is_said : tool_answer same None [] ≡ prints 2 (line (codes "usage") [])
usage_is_said = refl

-- a bad run file says nothing where a later read failed
pub failed_read : answer same (play (codes "r") (codes "c" ∷ [])) (got (codes "-") ∷ failed ∷ []) ≡ prints 3 []
failed_read = refl

-- nothing is written then, and so no write fails
pub nothing_to_write : ended (prints 3 []) false ≡ 3
nothing_to_write = refl

pub write_that_failed : ended (prints 0 (codes "a")) false ≡ 4
write_that_failed = refl

-- a run file that is too long, before contracts that are too long
pub run_too_long : answer same (play (codes "r") (codes "c" ∷ [])) (too_long ∷ too_long ∷ [])
    ≡ prints 6 (line (codes "run refused limit Size line 0") [])
unfolding digits
run_too_long = refl

-- contracts in their order, each for its own cause
pub second_contract_too_long : answer same (play (codes "r") (codes "c" ∷ codes "d" ∷ []))
    (got (codes "--") ∷ got (codes "{A:! 1 @ x} withdraw A") ∷ too_long ∷ [])
    ≡ prints 1 (line (codes "contract 1 refused limit Text 1048576") [])
unfolding is_name word_prefix number_prefix symbol_prefix read_contract advert_of_all advert_at entries_at entry_at head_at deposit_at secret_at
    fee_at choice_with branches_at branch_at parts_at auth_at after_at put_at reveal_at split_at reveals_at puts_at put_reveals_at
    headed_at one_branch_at condition_at names_from test_at comparison_at formula_at constant_at length_at withdraw_at digits
second_contract_too_long = refl

-- a contract before an audit's file
pub contract_before_the_file : answer same (audit (codes "r") (codes "c") (codes "f")) (got (codes "--") ∷ too_long ∷ too_long ∷ [])
    ≡ prints 1 (line (codes "contract 0 refused limit Text 1048576") [])
unfolding digits
contract_before_the_file = refl

pub audit_too_long : answer same (audit (codes "r") (codes "c") (codes "f"))
    (got (codes "--") ∷ got (codes "{A:! 1 @ x} withdraw A") ∷ too_long ∷ []) ≡ prints 10 (line (codes "audit refused") [])
unfolding is_name word_prefix number_prefix symbol_prefix read_contract advert_of_all advert_at entries_at entry_at head_at deposit_at secret_at
    fee_at choice_with branches_at branch_at parts_at auth_at after_at put_at reveal_at split_at reveals_at puts_at put_reveals_at
    headed_at one_branch_at condition_at names_from test_at comparison_at formula_at constant_at length_at withdraw_at digits
audit_too_long = refl

-- ---- files with partially signed transactions

pub psbt_without_its_form : answer same (psbt_shown (codes "f")) (got (codes "cHNidP8=") ∷ [])
    ≡ prints 9 (line (codes "psbt refused 0 form") [])
unfolding base64_bytes decode records_at string_at digits
psbt_without_its_form = refl

pub empty_file : answer same (psbt_shown (codes "f")) (got [] ∷ []) ≡ prints 9 (line (codes "psbt refused 0 form") [])
unfolding base64_bytes decode records_at string_at digits
empty_file = refl

pub no_base64 : answer same (psbt_joined (codes "f") (codes "g")) (got [] ∷ got (codes "a") ∷ [])
    ≡ prints 9 (line (codes "psbt refused 0 form") [])
unfolding base64_bytes decode records_at string_at digits
no_base64 = refl

pub second_too_long : answer same (psbt_shown (codes "f")) (too_long ∷ []) ≡ prints 9 (line (codes "psbt refused 0 size") [])
unfolding digits
second_too_long = refl
