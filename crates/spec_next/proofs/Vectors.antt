-- Test vectors of what comes next in a run, at each stage of a contract.
use Rattle.spec_terms.specs.Readable.{is_name}
use Rattle.std.proofs.Common.{◌≡◌, ℕ, List, [], ◌∷◌, refl, ap, Some, None, replicate}
use Rattle.std.specs.Prelude.{codes, true, false, not}
use Rattle.std.specs.Fmt.{digits}
use Rattle.spec_bitcoin.specs.Keys.{Pair, label_text}
use Rattle.spec_bitcoin.specs.Digests.{places_list, sequences_list, outputs_list, preimage}
use Rattle.spec_bitcoin.specs.Spelling.{stripped, marked, compact}
use Rattle.spec_bitcoin.specs.Meaning.{script_meaning}
use Rattle.spec_bitcoin.specs.Numbers.{number_of_item, signed_bytes, item_of_number}
use Rattle.spec_bitcoin.specs.Scripts.{ops_of}
use Rattle.spec_compiler.specs.Keyed.Instance.{position_script}
use Rattle.spec_run.specs.Setup.{Setup, held_secret}
use Rattle.spec_run.specs.World.{World}
use Rattle.spec_run.specs.declared.event.Event.TheVariants as events
use Rattle.spec_text.specs.Lexis.{word_prefix, number_prefix, symbol_prefix}
use Rattle.spec_text.specs.ReadAdvert.{read_answer as read_contract, advert_of_all, advert_at, entries_at, entry_at, head_at, deposit_at}
use Rattle.spec_text.specs.ReadAdvert.{secret_at, fee_at}
use Rattle.spec_text.specs.ReadContract.{withdraw_at, condition_at, reveals_at, puts_at, put_reveals_at, headed_at, one_branch_at}
use Rattle.spec_text.specs.ReadContract.{branches_at, choice_with, parts_at, auth_at, after_at, put_at, reveal_at, split_at, branch_at}
use Rattle.spec_text.specs.ReadTest.{constant_at, length_at, formula_at, comparison_at, test_at}
use Rattle.spec_text.specs.Reading.{names_from}
use Rattle.spec_text.specs.Played.{play_text}
use Rattle.spec_tool.specs.Reads.{got}
use Rattle.spec_tool.specs.Commands.{prints}
use Rattle.spec_tool.proofs.HashVectors.{small_hash}
use Rattle.spec_next.specs.declared.form.Form.TheVariants as forms
use Rattle.spec_next.specs.Forms.{next_text}
use Rattle.spec_next.specs.Foreseen.{next_printed}
use Rattle.spec_next.specs.FirstLines.{begin_text}
use Rattle.spec_next.specs.Hands.{are_in_book}
use Rattle.spec_next.specs.Prospects.{is_string_posted, is_ahead}
use Rattle.spec_next.specs.NextAnswer.{begins, continues, next_words, next_answer}
use Rattle.spec_next.proofs.RunVectors.{lines, commitment, commitment_header, commitment_opened, commitment_over, escrow, escrow_opened}
use Rattle.spec_next.proofs.RunVectors.{putting, putting_opened, splitting, splitting_opened}

-- ---- words

pub no_words : next_words [] ≡ None
no_words = refl

pub one_word : next_words (codes "c" ∷ []) ≡ Some (begins (codes "c"))
one_word = refl

pub sixteen_contracts : next_words (codes "r" ∷ replicate 16 (codes "c")) ≡ Some (continues forms.Lines None (codes "r") (replicate 16 (codes "c")))
sixteen_contracts = refl

pub seventeen_contracts : next_words (codes "r" ∷ replicate 17 (codes "c")) ≡ None
seventeen_contracts = refl

pub words_for_one : next_words (codes "--for" ∷ codes "A" ∷ codes "r" ∷ codes "c" ∷ [])
    ≡ Some (continues forms.Lines (Some (codes "A")) (codes "r") (codes "c" ∷ []))
words_for_one = refl

pub words_for_one_without_contract : next_words (codes "--for" ∷ codes "A" ∷ codes "r" ∷ []) ≡ None
words_for_one_without_contract = refl

pub words_for_json : next_words (codes "--json" ∷ codes "r" ∷ codes "c" ∷ [])
    ≡ Some (continues forms.Json None (codes "r") (codes "c" ∷ []))
words_for_json = refl

pub words_for_json_of_one : next_words (codes "--json" ∷ codes "--for" ∷ codes "A" ∷ codes "r" ∷ codes "c" ∷ [])
    ≡ Some (continues forms.Json (Some (codes "A")) (codes "r") (codes "c" ∷ []))
words_for_json_of_one = refl

pub words_for_json_without_contract : next_words (codes "--json" ∷ codes "r" ∷ []) ≡ None
words_for_json_without_contract = refl

-- ---- the first lines

pub first_lines_of_commitment : next_answer small_hash (Some (begins (codes "c"))) (got commitment ∷ [])
    ≡ prints 0 (lines (
    codes "party A" ∷
    codes "party B" ∷
    codes "honest A" ∷
    codes "honest B" ∷
    codes "secret A a HEX" ∷
    codes "deposit A 100000000" ∷
    codes "deposit B 0" ∷
    codes "--" ∷
    codes "advertise 0 x=#0 y=#1" ∷
    codes "commit 0 A" ∷
    codes "commit 0 B" ∷
    codes "endorse 0 A" ∷
    codes "endorse 0 B" ∷
    codes "init 0 A" ∷
    codes "init 0 B" ∷
    codes "fire init 0" ∷
    []))
unfolding is_name word_prefix number_prefix symbol_prefix read_contract advert_of_all advert_at entries_at entry_at head_at deposit_at
    secret_at
    fee_at choice_with branches_at branch_at parts_at auth_at after_at put_at reveal_at split_at reveals_at puts_at put_reveals_at
    headed_at one_branch_at condition_at names_from test_at comparison_at formula_at constant_at length_at withdraw_at digits label_text
    stripped marked compact places_list sequences_list outputs_list preimage position_script script_meaning ops_of number_of_item
    signed_bytes item_of_number play_text next_text next_printed begin_text
first_lines_of_commitment = refl

-- ---- what comes next

-- before any event
pub before_all : next_answer small_hash (Some (continues forms.Lines None (codes "r") (codes "c" ∷ []))) (got commitment_header ∷ got commitment ∷ [])
    ≡ prints 0 (lines (
    codes "height 0" ∷
    codes "contract 0" ∷
    codes "can advertise 0 x=#0 y=#1" ∷
    codes "cannot commit 0 A NotAdvertised" ∷
    codes "cannot commit 0 B NotAdvertised" ∷
    codes "needs advertise 0" ∷
    []))
unfolding is_name word_prefix number_prefix symbol_prefix read_contract advert_of_all advert_at entries_at entry_at head_at deposit_at
    secret_at
    fee_at choice_with branches_at branch_at parts_at auth_at after_at put_at reveal_at split_at reveals_at puts_at put_reveals_at
    headed_at one_branch_at condition_at names_from test_at comparison_at formula_at constant_at length_at withdraw_at digits label_text
    stripped marked compact places_list sequences_list outputs_list preimage position_script script_meaning ops_of number_of_item
    signed_bytes item_of_number play_text next_text next_printed begin_text
before_all = refl

-- once the commitment has begun
pub once_opened : next_answer small_hash (Some (continues forms.Lines None (codes "r") (codes "c" ∷ []))) (got commitment_opened ∷ got commitment ∷ [])
    ≡ prints 0 (lines (
    codes "height 0" ∷
    codes "contract 0" ∷
    codes "can reveal 0 A a" ∷
    codes "cannot fire #2 0 SecretUnknown a" ∷
    codes "path r.0 to r.0 100000000" ∷
    codes "needs secret a of A by reveal 0 A a" ∷
    codes "cannot fire #2 1 NotFinal" ∷
    codes "path r.1 pays B 100000000" ∷
    codes "needs height 1000 by mine 1000" ∷
    codes "waits A" ∷
    []))
unfolding is_name word_prefix number_prefix symbol_prefix read_contract advert_of_all advert_at entries_at entry_at head_at deposit_at
    secret_at
    fee_at choice_with branches_at branch_at parts_at auth_at after_at put_at reveal_at split_at reveals_at puts_at put_reveals_at
    headed_at one_branch_at condition_at names_from test_at comparison_at formula_at constant_at length_at withdraw_at digits label_text
    stripped marked compact places_list sequences_list outputs_list preimage position_script script_meaning ops_of number_of_item
    signed_bytes item_of_number play_text next_text next_printed begin_text
once_opened = refl

-- an escrow waits for its parties
pub escrow_waits : next_answer small_hash (Some (continues forms.Lines None (codes "r") (codes "c" ∷ []))) (got escrow_opened ∷ got escrow ∷ [])
    ≡ prints 0 (lines (
    codes "height 0" ∷
    codes "contract 0" ∷
    codes "can authorise A #2 0" ∷
    codes "cannot fire #2 0 ScriptFalse 0" ∷
    codes "path r.0 pays B 5" ∷
    codes "needs A authorises #2 0" ∷
    codes "can authorise B #2 1" ∷
    codes "cannot fire #2 1 NotFinal" ∷
    codes "path r.1 pays A 5" ∷
    codes "needs height 7 by mine 7" ∷
    codes "needs B authorises #2 1" ∷
    codes "waits A" ∷
    codes "waits B" ∷
    []))
unfolding is_name word_prefix number_prefix symbol_prefix read_contract advert_of_all advert_at entries_at entry_at head_at deposit_at
    secret_at
    fee_at choice_with branches_at branch_at parts_at auth_at after_at put_at reveal_at split_at reveals_at puts_at put_reveals_at
    headed_at one_branch_at condition_at names_from test_at comparison_at formula_at constant_at length_at withdraw_at digits label_text
    stripped marked compact places_list sequences_list outputs_list preimage position_script script_meaning ops_of number_of_item
    signed_bytes item_of_number play_text next_text next_printed begin_text
escrow_waits = refl

-- for one party its own events, and those that anybody can bring
pub escrow_for_one : next_answer small_hash (Some (continues forms.Lines (Some (codes "A")) (codes "r") (codes "c" ∷ [])))
    (got escrow_opened ∷ got escrow ∷ [])
    ≡ prints 0 (lines (
    codes "height 0" ∷
    codes "contract 0" ∷
    codes "can authorise A #2 0" ∷
    codes "cannot fire #2 0 ScriptFalse 0" ∷
    codes "path r.0 pays B 5" ∷
    codes "needs A authorises #2 0" ∷
    codes "cannot fire #2 1 NotFinal" ∷
    codes "path r.1 pays A 5" ∷
    codes "needs height 7 by mine 7" ∷
    codes "needs B authorises #2 1" ∷
    codes "waits A" ∷
    []))
unfolding is_name word_prefix number_prefix symbol_prefix read_contract advert_of_all advert_at entries_at entry_at head_at deposit_at
    secret_at
    fee_at choice_with branches_at branch_at parts_at auth_at after_at put_at reveal_at split_at reveals_at puts_at put_reveals_at
    headed_at one_branch_at condition_at names_from test_at comparison_at formula_at constant_at length_at withdraw_at digits label_text
    stripped marked compact places_list sequences_list outputs_list preimage position_script script_meaning ops_of number_of_item
    signed_bytes item_of_number play_text next_text next_printed begin_text
escrow_for_one = refl

-- nothing of a contract in which it takes no part
pub escrow_for_nobody : next_answer small_hash (Some (continues forms.Lines (Some (codes "C")) (codes "r") (codes "c" ∷ [])))
    (got escrow_opened ∷ got escrow ∷ [])
    ≡ prints 0 (lines (
    codes "height 0" ∷
    []))
unfolding is_name word_prefix number_prefix symbol_prefix read_contract advert_of_all advert_at entries_at entry_at head_at deposit_at
    secret_at
    fee_at choice_with branches_at branch_at parts_at auth_at after_at put_at reveal_at split_at reveals_at puts_at put_reveals_at
    headed_at one_branch_at condition_at names_from test_at comparison_at formula_at constant_at length_at withdraw_at digits label_text
    stripped marked compact places_list sequences_list outputs_list preimage position_script script_meaning ops_of number_of_item
    signed_bytes item_of_number play_text next_text next_printed begin_text
escrow_for_nobody = refl

-- nothing of a contract whose money is gone: its secret isn't asked for
pub over : next_answer small_hash (Some (continues forms.Lines None (codes "r") (codes "c" ∷ [])))
    (got commitment_over ∷ got commitment ∷ [])
    ≡ prints 0 (lines (
    codes "height 1000" ∷
    codes "contract 0" ∷
    []))
unfolding is_name word_prefix number_prefix symbol_prefix read_contract advert_of_all advert_at entries_at entry_at head_at deposit_at
    secret_at
    fee_at choice_with branches_at branch_at parts_at auth_at after_at put_at reveal_at split_at reveals_at puts_at put_reveals_at
    headed_at one_branch_at condition_at names_from test_at comparison_at formula_at constant_at length_at withdraw_at digits label_text
    stripped marked compact places_list sequences_list outputs_list preimage position_script script_meaning ops_of number_of_item
    signed_bytes item_of_number play_text next_text next_printed begin_text
over = refl

-- a split leads to each of its parts
pub parts_go_on : next_answer small_hash (Some (continues forms.Lines None (codes "r") (codes "c" ∷ [])))
    (got splitting_opened ∷ got splitting ∷ [])
    ≡ prints 0 (lines (
    codes "height 0" ∷
    codes "contract 0" ∷
    codes "can fire #2 0" ∷
    codes "path r.0 to r.0/0 9 to r.0/1 9" ∷
    []))
unfolding is_name word_prefix number_prefix symbol_prefix read_contract advert_of_all advert_at entries_at entry_at head_at deposit_at
    secret_at
    fee_at choice_with branches_at branch_at parts_at auth_at after_at put_at reveal_at split_at reveals_at puts_at put_reveals_at
    headed_at one_branch_at condition_at names_from test_at comparison_at formula_at constant_at length_at withdraw_at digits label_text
    stripped marked compact places_list sequences_list outputs_list preimage position_script script_meaning ops_of number_of_item
    signed_bytes item_of_number play_text next_text next_printed begin_text
parts_go_on = refl

-- a put adds what its deposits hold
pub put_adds : next_answer small_hash (Some (continues forms.Lines None (codes "r") (codes "c" ∷ [])))
    (got putting_opened ∷ got putting ∷ [])
    ≡ prints 0 (lines (
    codes "height 0" ∷
    codes "contract 0" ∷
    codes "can fire #2 0" ∷
    codes "path r.0 to r.0 7" ∷
    codes "can fire #2 1" ∷
    codes "path r.1 pays A 5" ∷
    []))
unfolding is_name word_prefix number_prefix symbol_prefix read_contract advert_of_all advert_at entries_at entry_at head_at deposit_at
    secret_at
    fee_at choice_with branches_at branch_at parts_at auth_at after_at put_at reveal_at split_at reveals_at puts_at put_reveals_at
    headed_at one_branch_at condition_at names_from test_at comparison_at formula_at constant_at length_at withdraw_at digits label_text
    stripped marked compact places_list sequences_list outputs_list preimage position_script script_meaning ops_of number_of_item
    signed_bytes item_of_number play_text next_text next_printed begin_text
put_adds = refl

-- ---- signatures by hand

-- where there is nothing to sign nothing is signed by hand
pub nothing_in_hand : (book : List Pair) → are_in_book book [] ≡ false
nothing_in_hand book = refl

-- all pairs that an event would sign are asked for
pub one_of_two : are_in_book ((1 ∷ [], 2 ∷ []) ∷ []) ((1 ∷ [], 2 ∷ []) ∷ (1 ∷ [], 3 ∷ []) ∷ []) ≡ false
one_of_two = refl

pub both_of_two : are_in_book ((1 ∷ [], 3 ∷ []) ∷ (1 ∷ [], 2 ∷ []) ∷ []) ((1 ∷ [], 2 ∷ []) ∷ (1 ∷ [], 3 ∷ []) ∷ []) ≡ true
both_of_two = refl

-- ---- secrets

-- a secret that the header lacks is absent, whatever strings were posted
pub absent_secret_is_ahead : (s : Setup) (w : World) (k : ℕ) (party name : List ℕ) → held_secret s party name ≡ None
    → is_ahead s w (events.Reveal k party name) ≡ true
absent_secret_is_ahead s w k party name absent = ap (λ secret. not (is_string_posted secret w)) absent
