-- A test vector of an audit: lines that are no transactions, and what is absent and missing.
use Rattle.spec_terms.specs.Readable.{is_name}
use Rattle.std.proofs.Common.{◌≡◌, ℕ, List, [], ◌∷◌, refl}
use Rattle.std.specs.Prelude.{codes}
use Rattle.std.specs.Fmt.{digits}
use Rattle.spec_bitcoin.specs.Keys.{label_text}
use Rattle.spec_bitcoin.specs.Digests.{places_list, sequences_list, outputs_list, preimage}
use Rattle.spec_bitcoin.specs.Spelling.{stripped, marked, compact}
use Rattle.spec_bitcoin.specs.Reading.{many, wide_at, compact_at, string_at, input_at, inputs_at, output_at, outputs_at, witness_at}
use Rattle.spec_bitcoin.specs.Reading.{witnesses_at, plain_at, marked_at, transaction_at, all_at}
use Rattle.spec_compiler.specs.Keyed.Instance.{position_script}
use Rattle.spec_text.specs.Lexis.{word_prefix, number_prefix, symbol_prefix}
use Rattle.spec_text.specs.ReadAdvert.{read_answer as read_contract, advert_of_all, advert_at, entries_at, entry_at, head_at, deposit_at}
use Rattle.spec_text.specs.ReadAdvert.{secret_at, fee_at}
use Rattle.spec_text.specs.ReadContract.{withdraw_at, condition_at, reveals_at, puts_at, put_reveals_at, headed_at, one_branch_at}
use Rattle.spec_text.specs.ReadContract.{branches_at, choice_with, parts_at, auth_at, after_at, put_at, reveal_at, split_at, branch_at}
use Rattle.spec_text.specs.ReadTest.{constant_at, length_at, formula_at, comparison_at, test_at}
use Rattle.spec_text.specs.Reading.{names_from}
use Rattle.spec_tool.specs.Reads.{got}
use Rattle.spec_tool.specs.Answers.{answer}
use Rattle.spec_tool.specs.AuditText.{audit_answer}
use Rattle.spec_tool.specs.Commands.{audit, prints}
use Rattle.spec_tool.proofs.CommandVectors.{line}
use Rattle.spec_tool.proofs.HashVectors.{small_hash}

-- two branches that pay alike
abbrev pub siblings : List ℕ
siblings =
    line (codes "{A:! 10 @ x | B:! 0 @ y} (A : withdraw B + B : withdraw B)") (
    [])

-- a run in which one party has endorsed
abbrev pub endorsed_run : List ℕ
endorsed_run =
    line (codes "party A") (
    line (codes "party B") (
    line (codes "honest A") (
    line (codes "deposit A 10") (
    line (codes "deposit B 0") (
    line (codes "--") (
    line (codes "advertise 0 x=#0 y=#1") (
    line (codes "commit 0 A") (
    line (codes "commit 0 B") (
    line (codes "endorse 0 A") (
    []))))))))))

-- lines that are no transactions
abbrev pub no_transactions : List ℕ
no_transactions =
    line (codes "zz") (
    line (codes "02000000") (
    []))

-- what is found
abbrev pub findings : List ℕ
findings =
    line (codes "line 1 nothex") (
    line (codes "line 2 bad 4") (
    line (codes "absent init") (
    line (codes "absent r.0") (
    line (codes "absent r.1") (
    line (codes "missing init 0 D:A") (
    line (codes "missing init 1 D:B") (
    line (codes "missing r.0 0 B:0:r.0:A") (
    line (codes "missing r.0 0 B:0:r.0:B") (
    line (codes "missing r.1 0 B:0:r.1:B") (
    []))))))))))

pub audit_of_no_transactions : answer small_hash (audit (codes "r") (codes "c") (codes "f"))
    (got endorsed_run ∷ got siblings ∷ got no_transactions ∷ []) ≡ prints 0 findings
unfolding is_name word_prefix number_prefix symbol_prefix read_contract advert_of_all advert_at entries_at entry_at head_at deposit_at secret_at
    fee_at choice_with branches_at branch_at parts_at auth_at after_at put_at reveal_at split_at reveals_at puts_at put_reveals_at
    headed_at one_branch_at condition_at names_from test_at comparison_at formula_at constant_at length_at withdraw_at digits label_text
    stripped marked compact places_list sequences_list outputs_list preimage position_script many wide_at compact_at string_at input_at
    inputs_at output_at outputs_at witness_at witnesses_at plain_at marked_at transaction_at all_at audit_answer
audit_of_no_transactions = refl
