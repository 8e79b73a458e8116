-- Test vectors of what is missing: each reason with what would meet it.
use Rattle.spec_terms.specs.Readable.{is_name}
use Rattle.std.proofs.Common.{◌≡◌, [], ◌∷◌, refl, Some, None}
use Rattle.std.specs.Prelude.{codes}
use Rattle.std.specs.Fmt.{digits}
use Rattle.spec_bitcoin.specs.Keys.{label_text}
use Rattle.spec_bitcoin.specs.Digests.{places_list, sequences_list, outputs_list, preimage}
use Rattle.spec_bitcoin.specs.Spelling.{stripped, marked, compact}
use Rattle.spec_bitcoin.specs.Meaning.{script_meaning}
use Rattle.spec_bitcoin.specs.Numbers.{number_of_item, signed_bytes, item_of_number}
use Rattle.spec_bitcoin.specs.Scripts.{ops_of}
use Rattle.spec_compiler.specs.Keyed.Instance.{position_script}
use Rattle.spec_text.specs.Lexis.{word_prefix, number_prefix, symbol_prefix}
use Rattle.spec_text.specs.ReadAdvert.{read_answer as read_contract, advert_of_all, advert_at, entries_at, entry_at, head_at, deposit_at}
use Rattle.spec_text.specs.ReadAdvert.{secret_at, fee_at}
use Rattle.spec_text.specs.ReadContract.{withdraw_at, condition_at, reveals_at, puts_at, put_reveals_at, headed_at, one_branch_at}
use Rattle.spec_text.specs.ReadContract.{branches_at, choice_with, parts_at, auth_at, after_at, put_at, reveal_at, split_at, branch_at}
use Rattle.spec_text.specs.ReadTest.{constant_at, length_at, formula_at, comparison_at, test_at}
use Rattle.spec_text.specs.Reading.{names_from}
use Rattle.spec_text.specs.Played.{play_text}
use Rattle.spec_tool.specs.Reads.{got, failed, too_long}
use Rattle.spec_tool.specs.Commands.{prints, usage}
use Rattle.spec_tool.proofs.HashVectors.{small_hash}
use Rattle.spec_next.specs.declared.requirement.Requirement.TheVariants as requirements
use Rattle.spec_next.specs.Together.{requirements_text}
use Rattle.spec_next.specs.declared.form.Form.TheVariants as forms
use Rattle.spec_next.specs.Forms.{next_text}
use Rattle.spec_next.specs.Foreseen.{next_printed}
use Rattle.spec_next.specs.FirstLines.{begin_text}
use Rattle.spec_next.specs.NextAnswer.{begins, continues, next_answer}
use Rattle.spec_next.proofs.RunVectors.{lines, commitment_header, escrow, escrow_advertised, escrow_endorsed, escrow_started, escrow_poor}
use Rattle.spec_next.proofs.RunVectors.{commitment, commitment_short, escrow_gone, escrow_of_none, guessing, lone, lone_run}
use Rattle.spec_next.proofs.RunVectors.{long_secret, long_secret_revealed, putting, putting_gone, foreign_secret, foreign_advertised}

-- ---- before a contract begins

-- honest parties wait for an endorsement
pub escrow_needs_endorsement : next_answer small_hash (Some (continues forms.Lines None (codes "r") (codes "c" ∷ []))) (got escrow_endorsed ∷ got escrow ∷ [])
    ≡ prints 0 (lines (
    codes "height 0" ∷
    codes "contract 0" ∷
    codes "can endorse 0 B" ∷
    codes "cannot init 0 A NotEndorsed r.0 B" ∷
    codes "cannot init 0 B NotEndorsed r.0 B" ∷
    codes "needs B endorses 0" ∷
    codes "waits B" ∷
    []))
unfolding is_name word_prefix number_prefix symbol_prefix read_contract advert_of_all advert_at entries_at entry_at head_at deposit_at
    secret_at
    fee_at choice_with branches_at branch_at parts_at auth_at after_at put_at reveal_at split_at reveals_at puts_at put_reveals_at
    headed_at one_branch_at condition_at names_from test_at comparison_at formula_at constant_at length_at withdraw_at digits label_text
    stripped marked compact places_list sequences_list outputs_list preimage position_script script_meaning ops_of number_of_item
    signed_bytes item_of_number play_text next_text next_printed begin_text
escrow_needs_endorsement = refl

-- what all lack is one line
pub all_are_to_commit : next_answer small_hash (Some (continues forms.Lines None (codes "r") (codes "c" ∷ []))) (got escrow_advertised ∷ got escrow ∷ [])
    ≡ prints 0 (lines (
    codes "height 0" ∷
    codes "contract 0" ∷
    codes "can commit 0 A" ∷
    codes "can commit 0 B" ∷
    codes "cannot endorse 0 A NotAllCommitted" ∷
    codes "cannot endorse 0 B NotAllCommitted" ∷
    codes "needs A B commit 0" ∷
    codes "waits A" ∷
    codes "waits B" ∷
    []))
unfolding is_name word_prefix number_prefix symbol_prefix read_contract advert_of_all advert_at entries_at entry_at head_at deposit_at
    secret_at
    fee_at choice_with branches_at branch_at parts_at auth_at after_at put_at reveal_at split_at reveals_at puts_at put_reveals_at
    headed_at one_branch_at condition_at names_from test_at comparison_at formula_at constant_at length_at withdraw_at digits label_text
    stripped marked compact places_list sequences_list outputs_list preimage position_script script_meaning ops_of number_of_item
    signed_bytes item_of_number play_text next_text next_printed begin_text
all_are_to_commit = refl

-- of one party it is the line of one, and others stand apart
pub one_and_others : requirements_text
    (requirements.Start (codes "B") 1 ∷ requirements.Start (codes "B") 1 ∷ requirements.Authorisation (codes "A") 3 0
    ∷ requirements.Deposit (codes "x") ∷ requirements.Authorisation (codes "C") 3 0 ∷ requirements.Authorisation (codes "A") 3 1 ∷ [])
    ≡ lines (
    codes "needs B inits 1" ∷
    codes "needs A C authorise #3 0" ∷
    codes "needs deposit x" ∷
    codes "needs A authorises #3 1" ∷
    [])
unfolding digits
one_and_others = refl

-- the beginning waits for a signature
pub escrow_needs_signature : next_answer small_hash (Some (continues forms.Lines None (codes "r") (codes "c" ∷ []))) (got escrow_started ∷ got escrow ∷ [])
    ≡ prints 0 (lines (
    codes "height 0" ∷
    codes "contract 0" ∷
    codes "can init 0 B" ∷
    codes "cannot fire init 0 ScriptFalse 1" ∷
    codes "needs B inits 0" ∷
    codes "waits B" ∷
    []))
unfolding is_name word_prefix number_prefix symbol_prefix read_contract advert_of_all advert_at entries_at entry_at head_at deposit_at
    secret_at
    fee_at choice_with branches_at branch_at parts_at auth_at after_at put_at reveal_at split_at reveals_at puts_at put_reveals_at
    headed_at one_branch_at condition_at names_from test_at comparison_at formula_at constant_at length_at withdraw_at digits label_text
    stripped marked compact places_list sequences_list outputs_list preimage position_script script_meaning ops_of number_of_item
    signed_bytes item_of_number play_text next_text next_printed begin_text
escrow_needs_signature = refl

-- no deposit fits a name
pub no_deposit_fits : next_answer small_hash (Some (continues forms.Lines None (codes "r") (codes "c" ∷ []))) (got escrow_poor ∷ got escrow ∷ [])
    ≡ prints 0 (lines (
    codes "height 0" ∷
    codes "contract 0" ∷
    codes "cannot advertise 0 x=#0 WrongNames" ∷
    codes "needs deposit y" ∷
    []))
unfolding is_name word_prefix number_prefix symbol_prefix read_contract advert_of_all advert_at entries_at entry_at head_at deposit_at
    secret_at
    fee_at choice_with branches_at branch_at parts_at auth_at after_at put_at reveal_at split_at reveals_at puts_at put_reveals_at
    headed_at one_branch_at condition_at names_from test_at comparison_at formula_at constant_at length_at withdraw_at digits label_text
    stripped marked compact places_list sequences_list outputs_list preimage position_script script_meaning ops_of number_of_item
    signed_bytes item_of_number play_text next_text next_printed begin_text
no_deposit_fits = refl

-- a deposit that was bound has gone, so the contract never begins
pub deposit_is_gone : next_answer small_hash (Some (continues forms.Lines None (codes "r") (codes "c" ∷ []))) (got escrow_gone ∷ got escrow ∷ [])
    ≡ prints 0 (lines (
    codes "height 0" ∷
    codes "contract 0" ∷
    codes "cannot fire init 0 NotCompiled" ∷
    codes "never: deposit x gone" ∷
    []))
unfolding is_name word_prefix number_prefix symbol_prefix read_contract advert_of_all advert_at entries_at entry_at head_at deposit_at
    secret_at
    fee_at choice_with branches_at branch_at parts_at auth_at after_at put_at reveal_at split_at reveals_at puts_at put_reveals_at
    headed_at one_branch_at condition_at names_from test_at comparison_at formula_at constant_at length_at withdraw_at digits label_text
    stripped marked compact places_list sequences_list outputs_list preimage position_script script_meaning ops_of number_of_item
    signed_bytes item_of_number play_text next_text next_printed begin_text
deposit_is_gone = refl

-- nor does one of which nobody is honest
pub nobody_is_honest : next_answer small_hash (Some (continues forms.Lines None (codes "r") (codes "c" ∷ []))) (got escrow_of_none ∷ got escrow ∷ [])
    ≡ prints 0 (lines (
    codes "height 0" ∷
    codes "contract 0" ∷
    codes "cannot advertise 0 x=#0 y=#1 NoHonest" ∷
    codes "never: nobody honest" ∷
    []))
unfolding is_name word_prefix number_prefix symbol_prefix read_contract advert_of_all advert_at entries_at entry_at head_at deposit_at
    secret_at
    fee_at choice_with branches_at branch_at parts_at auth_at after_at put_at reveal_at split_at reveals_at puts_at put_reveals_at
    headed_at one_branch_at condition_at names_from test_at comparison_at formula_at constant_at length_at withdraw_at digits label_text
    stripped marked compact places_list sequences_list outputs_list preimage position_script script_meaning ops_of number_of_item
    signed_bytes item_of_number play_text next_text next_printed begin_text
nobody_is_honest = refl

-- nor one to which an honest party can't commit
pub secret_is_short : next_answer small_hash (Some (continues forms.Lines None (codes "r") (codes "c" ∷ []))) (got commitment_short ∷ got commitment ∷ [])
    ≡ prints 0 (lines (
    codes "height 0" ∷
    codes "contract 0" ∷
    codes "cannot commit 0 A BadSecretLength a" ∷
    codes "never: secret a not of 16 to 520 bytes" ∷
    []))
unfolding is_name word_prefix number_prefix symbol_prefix read_contract advert_of_all advert_at entries_at entry_at head_at deposit_at
    secret_at
    fee_at choice_with branches_at branch_at parts_at auth_at after_at put_at reveal_at split_at reveals_at puts_at put_reveals_at
    headed_at one_branch_at condition_at names_from test_at comparison_at formula_at constant_at length_at withdraw_at digits label_text
    stripped marked compact places_list sequences_list outputs_list preimage position_script script_meaning ops_of number_of_item
    signed_bytes item_of_number play_text next_text next_printed begin_text
secret_is_short = refl

-- another party is told what holds it up
pub another_holds_it_up : next_answer small_hash (Some (continues forms.Lines (Some (codes "B")) (codes "r") (codes "c" ∷ [])))
    (got commitment_short ∷ got commitment ∷ [])
    ≡ prints 0 (lines (
    codes "height 0" ∷
    codes "contract 0" ∷
    codes "cannot commit 0 A BadSecretLength a" ∷
    codes "never: secret a not of 16 to 520 bytes" ∷
    []))
unfolding is_name word_prefix number_prefix symbol_prefix read_contract advert_of_all advert_at entries_at entry_at head_at deposit_at
    secret_at
    fee_at choice_with branches_at branch_at parts_at auth_at after_at put_at reveal_at split_at reveals_at puts_at put_reveals_at
    headed_at one_branch_at condition_at names_from test_at comparison_at formula_at constant_at length_at withdraw_at digits label_text
    stripped marked compact places_list sequences_list outputs_list preimage position_script script_meaning ops_of number_of_item
    signed_bytes item_of_number play_text next_text next_printed begin_text
another_holds_it_up = refl

-- a party that isn't honest adds its digests itself
pub digest_is_outstanding : next_answer small_hash (Some (continues forms.Lines None (codes "r") (codes "c" ∷ [])))
    (got foreign_advertised ∷ got foreign_secret ∷ [])
    ≡ prints 0 (lines (
    codes "height 0" ∷
    codes "contract 0" ∷
    codes "can commit 0 A" ∷
    codes "cannot commit 0 B WrongNames" ∷
    codes "needs digest b of B by commit 0 B" ∷
    codes "waits A" ∷
    codes "waits B" ∷
    []))
unfolding is_name word_prefix number_prefix symbol_prefix read_contract advert_of_all advert_at entries_at entry_at head_at deposit_at
    secret_at
    fee_at choice_with branches_at branch_at parts_at auth_at after_at put_at reveal_at split_at reveals_at puts_at put_reveals_at
    headed_at one_branch_at condition_at names_from test_at comparison_at formula_at constant_at length_at withdraw_at digits label_text
    stripped marked compact places_list sequences_list outputs_list preimage position_script script_meaning ops_of number_of_item
    signed_bytes item_of_number play_text next_text next_printed begin_text
digest_is_outstanding = refl

-- ---- once it has begun

-- the revealed length makes the predicate false
pub predicate_is_false : next_answer small_hash (Some (continues forms.Lines None (codes "r") (codes "c" ∷ [])))
    (got long_secret_revealed ∷ got long_secret ∷ [])
    ≡ prints 0 (lines (
    codes "height 0" ∷
    codes "contract 0" ∷
    codes "cannot fire #1 0 ScriptFalse 0" ∷
    codes "path r.0 to r.0 5" ∷
    codes "never: predicate false" ∷
    codes "can fire #1 1" ∷
    codes "path r.1 pays A 5" ∷
    []))
unfolding is_name word_prefix number_prefix symbol_prefix read_contract advert_of_all advert_at entries_at entry_at head_at deposit_at
    secret_at
    fee_at choice_with branches_at branch_at parts_at auth_at after_at put_at reveal_at split_at reveals_at puts_at put_reveals_at
    headed_at one_branch_at condition_at names_from test_at comparison_at formula_at constant_at length_at withdraw_at digits label_text
    stripped marked compact places_list sequences_list outputs_list preimage position_script script_meaning ops_of number_of_item
    signed_bytes item_of_number play_text next_text next_printed begin_text
predicate_is_false = refl

-- the deposit that is put in has gone
pub put_is_gone : next_answer small_hash (Some (continues forms.Lines None (codes "r") (codes "c" ∷ []))) (got putting_gone ∷ got putting ∷ [])
    ≡ prints 0 (lines (
    codes "height 0" ∷
    codes "contract 0" ∷
    codes "cannot fire #2 0 MissingInput 1" ∷
    codes "path r.0 to r.0 5" ∷
    codes "never: put z gone" ∷
    codes "can fire #2 1" ∷
    codes "path r.1 pays A 5" ∷
    []))
unfolding is_name word_prefix number_prefix symbol_prefix read_contract advert_of_all advert_at entries_at entry_at head_at deposit_at
    secret_at
    fee_at choice_with branches_at branch_at parts_at auth_at after_at put_at reveal_at split_at reveals_at puts_at put_reveals_at
    headed_at one_branch_at condition_at names_from test_at comparison_at formula_at constant_at length_at withdraw_at digits label_text
    stripped marked compact places_list sequences_list outputs_list preimage position_script script_meaning ops_of number_of_item
    signed_bytes item_of_number play_text next_text next_printed begin_text
put_is_gone = refl

-- ---- refusals

pub words_refused : next_answer small_hash None [] ≡ usage
words_refused = refl

pub read_failed : next_answer small_hash (Some (continues forms.Lines None (codes "r") (codes "c" ∷ []))) (got commitment_header ∷ failed ∷ []) ≡ prints 3 []
read_failed = refl

pub contract_too_long : next_answer small_hash (Some (begins (codes "c"))) (too_long ∷ [])
    ≡ prints 1 (lines (codes "contract 0 refused limit Text 1048576" ∷ []))
unfolding is_name word_prefix number_prefix symbol_prefix read_contract advert_of_all advert_at entries_at entry_at head_at deposit_at
    secret_at
    fee_at choice_with branches_at branch_at parts_at auth_at after_at put_at reveal_at split_at reveals_at puts_at put_reveals_at
    headed_at one_branch_at condition_at names_from test_at comparison_at formula_at constant_at length_at withdraw_at digits label_text
    stripped marked compact places_list sequences_list outputs_list preimage position_script script_meaning ops_of number_of_item
    signed_bytes item_of_number play_text next_text next_printed begin_text
contract_too_long = refl

pub run_too_long : next_answer small_hash (Some (continues forms.Lines None (codes "r") (codes "c" ∷ []))) (too_long ∷ got escrow ∷ [])
    ≡ prints 6 (lines (codes "run refused limit Size line 0" ∷ []))
unfolding is_name word_prefix number_prefix symbol_prefix read_contract advert_of_all advert_at entries_at entry_at head_at deposit_at
    secret_at
    fee_at choice_with branches_at branch_at parts_at auth_at after_at put_at reveal_at split_at reveals_at puts_at put_reveals_at
    headed_at one_branch_at condition_at names_from test_at comparison_at formula_at constant_at length_at withdraw_at digits label_text
    stripped marked compact places_list sequences_list outputs_list preimage position_script script_meaning ops_of number_of_item
    signed_bytes item_of_number play_text next_text next_printed begin_text
run_too_long = refl

-- a halted run has its last line alone
pub guessed_run : next_answer small_hash (Some (continues forms.Lines None (codes "r") (codes "c" ∷ []))) (got guessing ∷ got commitment ∷ [])
    ≡ prints 7 (lines (codes "guessed A a" ∷ []))
unfolding is_name word_prefix number_prefix symbol_prefix read_contract advert_of_all advert_at entries_at entry_at head_at deposit_at
    secret_at
    fee_at choice_with branches_at branch_at parts_at auth_at after_at put_at reveal_at split_at reveals_at puts_at put_reveals_at
    headed_at one_branch_at condition_at names_from test_at comparison_at formula_at constant_at length_at withdraw_at digits label_text
    stripped marked compact places_list sequences_list outputs_list preimage position_script script_meaning ops_of number_of_item
    signed_bytes item_of_number play_text next_text next_printed begin_text
guessed_run = refl

-- ---- several contracts

-- the first has begun with the only deposit, and the second finds none
pub two_contracts : next_answer small_hash (Some (continues forms.Lines None (codes "r") (codes "c" ∷ codes "d" ∷ [])))
    (got lone_run ∷ got lone ∷ got lone ∷ [])
    ≡ prints 0 (lines (
    codes "height 0" ∷
    codes "contract 0" ∷
    codes "can fire #1 0" ∷
    codes "path r.0 pays A 5" ∷
    codes "contract 1" ∷
    codes "cannot advertise 1 WrongNames" ∷
    codes "needs deposit x" ∷
    []))
unfolding is_name word_prefix number_prefix symbol_prefix read_contract advert_of_all advert_at entries_at entry_at head_at deposit_at
    secret_at
    fee_at choice_with branches_at branch_at parts_at auth_at after_at put_at reveal_at split_at reveals_at puts_at put_reveals_at
    headed_at one_branch_at condition_at names_from test_at comparison_at formula_at constant_at length_at withdraw_at digits label_text
    stripped marked compact places_list sequences_list outputs_list preimage position_script script_meaning ops_of number_of_item
    signed_bytes item_of_number play_text next_text next_printed begin_text
two_contracts = refl
