-- Test vectors of audits: a compiled transaction of two branches, and one that the ledger accepts.
use Rattle.spec_terms.specs.Readable.{is_name}
use Rattle.std.proofs.Common.{◌≡◌, ℕ, List, [], ◌∷◌, Option, Some, None, Ok, Err, refl}
use Rattle.std.specs.Prelude.{codes, take}
use Rattle.std.specs.Option.{option_map_or, option_and_then}
use Rattle.std.specs.Fmt.{digits}
use Rattle.spec_bitcoin.specs.Keys.{label_text}
use Rattle.spec_bitcoin.specs.Digests.{places_list, sequences_list, outputs_list, preimage}
use Rattle.spec_bitcoin.specs.Spelling.{stripped, marked, compact}
use Rattle.spec_bitcoin.specs.Reading.{many, wide_at, compact_at, string_at, input_at, inputs_at, output_at, outputs_at, witness_at}
use Rattle.spec_bitcoin.specs.Reading.{witnesses_at, plain_at, marked_at, transaction_at, all_at}
use Rattle.spec_bitcoin.specs.Meaning.{script_meaning}
use Rattle.spec_bitcoin.specs.Numbers.{number_of_item, signed_bytes, item_of_number}
use Rattle.spec_bitcoin.specs.Scripts.{ops_of}
use Rattle.spec_compiler.specs.Keyed.Instance.{position_script}
use Rattle.spec_text.specs.Lexis.{word_prefix, number_prefix, symbol_prefix}
use Rattle.spec_text.specs.ReadAdvert.{read_answer as read_contract, advert_of_all, advert_at, entries_at, entry_at, head_at, deposit_at}
use Rattle.spec_text.specs.ReadAdvert.{secret_at, fee_at}
use Rattle.spec_text.specs.ReadContract.{withdraw_at, condition_at, reveals_at, puts_at, put_reveals_at, headed_at, one_branch_at}
use Rattle.spec_text.specs.ReadContract.{branches_at, choice_with, parts_at, auth_at, after_at, put_at, reveal_at, split_at, branch_at}
use Rattle.spec_text.specs.ReadTest.{constant_at, length_at, formula_at, comparison_at, test_at}
use Rattle.spec_text.specs.Reading.{names_from}
use Rattle.spec_tool.specs.Reads.{got}
use Rattle.spec_tool.specs.Answers.{answer}
use Rattle.spec_tool.specs.AuditText.{audit_answer}
use Rattle.spec_tool.specs.Commands.{audit, setup_of, Printed, prints}
use Rattle.spec_tool.proofs.CommandVectors.{line}
use Rattle.spec_tool.proofs.HashVectors.{small_hash}
use Rattle.spec_tool.proofs.AuditVectors.{siblings, endorsed_run}
use Rattle.spec_tool.proofs.StrategyVectors.{commitment}
use Rattle.spec_terms.specs.Advert.{Advert}
use Rattle.spec_terms.specs.declared.path.PathStep.{PathStep}
use Rattle.spec_terms.specs.declared.path.PathStep.TheVariants.{Branch as To}
use Rattle.spec_bitcoin.specs.declared.tx.Tx.{Tx}
use Rattle.spec_bitcoin.specs.Spelling.{spelling}
use Rattle.spec_compiler.specs.Transactions.{tx_of}
use Rattle.spec_compiler.specs.ByPath.{unsigned_at}
use Rattle.spec_run.specs.declared.event.Run.{Run}
use Rattle.spec_run.specs.Setup.{Setup}
use Rattle.spec_run.specs.World.{World, live_position_at}
use Rattle.spec_run.specs.Compiled.{compiled_instance}
use Rattle.spec_run.specs.Translation.{last_world}
use Rattle.spec_run.specs.Firing.{taking_of_position}
use Rattle.spec_data.specs.Digits.{hex_text}
use Rattle.spec_text.specs.Refusals.{Judged, contract_of, run_of}

-- what is had of a run and its contract, and of the world after it
abbrev pub after_run : (Setup → World → List ℕ) → Judged Run → Judged Advert → List ℕ
after_run f (Err why) contract = why
after_run f (Ok run) (Err why) = why
after_run f (Ok run) (Ok advert) = f (setup_of small_hash run (advert ∷ [])) (last_world (setup_of small_hash run (advert ∷ [])) run.events)

abbrev pub shown : Option Tx → List ℕ
shown tx = option_map_or (λ t. hex_text (spelling t)) tx []

-- the transaction of a path, without its witnesses
abbrev pub path_shown : List PathStep → Setup → World → List ℕ
path_shown path s w =
    shown (option_and_then (λ instance. option_map_or (λ d. Some (tx_of d)) (unsigned_at s.hash instance path) None) (compiled_instance s w 0))

-- the transaction that takes branch 0 of output 2, with its witness
abbrev pub taking_shown : Setup → World → List ℕ
taking_shown s w = shown (taking_of_position s w (live_position_at w 2) 0)

-- what is found of the transaction of the first of two branches that pay alike
abbrev pub sibling_findings : List ℕ
sibling_findings =
    line (codes "line 1 path r.0 r.1 now refused MissingInput 0") (
    line (codes "absent init") (
    line (codes "missing init 0 D:A") (
    line (codes "missing init 1 D:B") (
    line (codes "missing r.0 0 B:0:r.0:A") (
    line (codes "missing r.0 0 B:0:r.0:B") (
    line (codes "missing r.1 0 B:0:r.1:B") (
    [])))))))

pub two_paths : answer small_hash (audit (codes "r") (codes "c") (codes "f"))
    (got endorsed_run ∷ got siblings ∷ got (after_run (path_shown (To 0 ∷ [])) (run_of endorsed_run) (contract_of siblings)) ∷ [])
    ≡ prints 0 sibling_findings
unfolding is_name word_prefix number_prefix symbol_prefix read_contract advert_of_all advert_at entries_at entry_at head_at deposit_at secret_at
    fee_at choice_with branches_at branch_at parts_at auth_at after_at put_at reveal_at split_at reveals_at puts_at put_reveals_at
    headed_at one_branch_at condition_at names_from test_at comparison_at formula_at constant_at length_at withdraw_at digits label_text
    stripped marked compact places_list sequences_list outputs_list preimage position_script many wide_at compact_at string_at input_at
    inputs_at output_at outputs_at witness_at witnesses_at plain_at marked_at transaction_at all_at script_meaning ops_of number_of_item
    signed_bytes item_of_number audit_answer
two_paths = refl

-- a run up to the reveal of a secret
abbrev pub revealed_run : List ℕ
revealed_run =
    line (codes "party A") (
    line (codes "party B") (
    line (codes "honest A") (
    line (codes "secret A a 00112233445566778899aabbccddeeff") (
    line (codes "deposit A 100000000") (
    line (codes "deposit B 0") (
    line (codes "--") (
    line (codes "advertise 0 x=#0 y=#1") (
    line (codes "commit 0 A") (
    line (codes "commit 0 B") (
    line (codes "endorse 0 A") (
    line (codes "endorse 0 B") (
    line (codes "init 0 A") (
    line (codes "init 0 B") (
    line (codes "fire init 0") (
    line (codes "reveal 0 A a") (
    []))))))))))))))))

-- the first line that is printed
abbrev pub accepted_line : List ℕ
accepted_line = line (codes "line 1 path r.0 now branch #2 0") []

abbrev pub beginning : Printed → List ℕ
beginning printed = take 32 printed.text

-- the transaction as a file
abbrev pub taking_file : List ℕ
taking_file = after_run taking_shown (run_of revealed_run) (contract_of commitment)

pub accepted_now :
    beginning (answer small_hash (audit (codes "r") (codes "c") (codes "f")) (got revealed_run ∷ got commitment ∷ got taking_file ∷ []))
    ≡ accepted_line
unfolding is_name word_prefix number_prefix symbol_prefix read_contract advert_of_all advert_at entries_at entry_at head_at deposit_at secret_at
    fee_at choice_with branches_at branch_at parts_at auth_at after_at put_at reveal_at split_at reveals_at puts_at put_reveals_at
    headed_at one_branch_at condition_at names_from test_at comparison_at formula_at constant_at length_at withdraw_at digits label_text
    stripped marked compact places_list sequences_list outputs_list preimage position_script many wide_at compact_at string_at input_at
    inputs_at output_at outputs_at witness_at witnesses_at plain_at marked_at transaction_at all_at script_meaning ops_of number_of_item
    signed_bytes item_of_number audit_answer
accepted_now = refl
