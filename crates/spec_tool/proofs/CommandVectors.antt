-- Test vectors of what the commands print.
use Rattle.std.proofs.Common.{◌≡◌, ℕ, ◌%◌, List, [], ◌∷◌, ◌++◌, refl, Some, None, replicate, sum}
use Rattle.std.specs.Prelude.{codes}
use Rattle.std.specs.Fmt.{digits}
use Rattle.spec_bitcoin.specs.Keys.{label_text}
use Rattle.spec_bitcoin.specs.Spelling.{stripped, compact}
use Rattle.spec_text.specs.Lexis.{word_prefix, number_prefix, symbol_prefix}
use Rattle.spec_text.specs.ReadAdvert.{read_answer, advert_of_all, advert_at, entries_at, entry_at, head_at, deposit_at, secret_at, fee_at}
use Rattle.spec_text.specs.ReadContract.{withdraw_at, condition_at, reveals_at, puts_at, put_reveals_at, headed_at, one_branch_at, branches_at, choice_with, parts_at, auth_at, after_at, put_at, reveal_at, split_at, branch_at}
use Rattle.spec_text.specs.ReadTest.{constant_at, length_at, formula_at, comparison_at, test_at}
use Rattle.spec_text.specs.Reading.{names_from}
use Rattle.spec_text.specs.Played.{play_text}
use Rattle.spec_tool.specs.Commands.{command_of, make, prints, check_answer, play_answer}
use Rattle.spec_terms.specs.Readable.{is_name}

-- a line feed
abbrev pub line : List ℕ → List ℕ → List ℕ
line text more = text ++ 10 ∷ more

-- ---- words

pub no_words : command_of [] ≡ None
no_words = refl

pub play_alone : command_of (codes "play" ∷ []) ≡ None
play_alone = refl

pub size_too_great : command_of (codes "make" ∷ codes "7" ∷ codes "31" ∷ []) ≡ None
size_too_great = refl

pub size_just_right : command_of (codes "make" ∷ codes "7" ∷ codes "30" ∷ []) ≡ Some (make 7 30)
size_just_right = refl

-- ---- check

pub split_is_accepted : check_answer (codes "{A:! 10 @ x} fee 1 split [5 -> withdraw A, 3 -> withdraw A]") ≡ prints 0 (line (codes "contract 0 accepted") (line (codes "{A:! 10 @ x} fee 1 split [5 -> withdraw A, 3 -> withdraw A]") []))
unfolding word_prefix number_prefix symbol_prefix read_answer advert_of_all advert_at entries_at entry_at head_at deposit_at secret_at
    fee_at choice_with branches_at branch_at parts_at auth_at after_at put_at reveal_at split_at reveals_at puts_at put_reveals_at headed_at
    one_branch_at condition_at names_from test_at comparison_at formula_at constant_at length_at withdraw_at digits is_name
split_is_accepted = refl

pub split_takes_too_much : check_answer (codes "{A:! 10 @ x} fee 1 split [5 -> withdraw A, 4 -> withdraw A]") ≡ prints 1 (line (codes "contract 0 refused fault 7 SplitSum r.0") [])
unfolding word_prefix number_prefix symbol_prefix read_answer advert_of_all advert_at entries_at entry_at head_at deposit_at secret_at
    fee_at choice_with branches_at branch_at parts_at auth_at after_at put_at reveal_at split_at reveals_at puts_at put_reveals_at headed_at
    one_branch_at condition_at names_from test_at comparison_at formula_at constant_at length_at withdraw_at digits is_name
split_takes_too_much = refl

pub fee_above_all : check_answer (codes "{A:! 10 @ x} fee 11 withdraw A") ≡ prints 1 (line (codes "contract 0 refused fault 8 FeeShort r") [])
unfolding word_prefix number_prefix symbol_prefix read_answer advert_of_all advert_at entries_at entry_at head_at deposit_at secret_at
    fee_at choice_with branches_at branch_at parts_at auth_at after_at put_at reveal_at split_at reveals_at puts_at put_reveals_at headed_at
    one_branch_at condition_at names_from test_at comparison_at formula_at constant_at length_at withdraw_at digits is_name
fee_above_all = refl

pub fee_above_the_balance : check_answer (codes "{A:! 10 @ x} fee 6 withdraw A") ≡ prints 1 (line (codes "contract 0 refused fault 8 FeeShort r.0") [])
unfolding word_prefix number_prefix symbol_prefix read_answer advert_of_all advert_at entries_at entry_at head_at deposit_at secret_at
    fee_at choice_with branches_at branch_at parts_at auth_at after_at put_at reveal_at split_at reveals_at puts_at put_reveals_at headed_at
    one_branch_at condition_at names_from test_at comparison_at formula_at constant_at length_at withdraw_at digits is_name
fee_above_the_balance = refl

pub name_repeated : check_answer (codes "{A:! 1 @ x | A: secret x} withdraw A") ≡ prints 1 (line (codes "contract 0 refused fault 1 NameRepeated pre 1") [])
unfolding word_prefix number_prefix symbol_prefix read_answer advert_of_all advert_at entries_at entry_at head_at deposit_at secret_at
    fee_at choice_with branches_at branch_at parts_at auth_at after_at put_at reveal_at split_at reveals_at puts_at put_reveals_at headed_at
    one_branch_at condition_at names_from test_at comparison_at formula_at constant_at length_at withdraw_at digits is_name
name_repeated = refl

pub no_deposit_of_a_participant : check_answer (codes "{A:! 1 @ x} withdraw B") ≡ prints 1 (line (codes "contract 0 refused fault 6 NoPersistent B") [])
unfolding word_prefix number_prefix symbol_prefix read_answer advert_of_all advert_at entries_at entry_at head_at deposit_at secret_at
    fee_at choice_with branches_at branch_at parts_at auth_at after_at put_at reveal_at split_at reveals_at puts_at put_reveals_at headed_at
    one_branch_at condition_at names_from test_at comparison_at formula_at constant_at length_at withdraw_at digits is_name
no_deposit_of_a_participant = refl

-- ---- play

-- a hash for test vectors, which has no collisions
abbrev pub same : List ℕ → List ℕ
same message = message

pub run_without_events : play_answer same (line (codes "party A") (line (codes "honest A") (line (codes "deposit A 100") (codes "--")))) [] ≡ prints 0 (line (codes "start #0 A 100") (line (codes "end") (line (codes "tip 0") (line (codes "live #0 100") (line (codes "time 0") (line (codes "deposit #0 A 100") []))))))
unfolding play_text digits label_text stripped compact is_name
run_without_events = refl

-- the sum of the bytes, and zeros
abbrev pub sum_hash : List ℕ → List ℕ
sum_hash message = sum message % 256 ∷ replicate 31 0

pub labels_that_collide : play_answer sum_hash (line (codes "party AB") (line (codes "party BA") (codes "--"))) [] ≡ prints 8 (line (codes "collided 443a4142 443a4241") [])
unfolding play_text digits label_text stripped compact is_name
labels_that_collide = refl

pub contract_refused_behind_the_run : play_answer same (codes "--") (codes "{" ∷ []) ≡ prints 1 (line (codes "contract 0 refused syntax 1") [])
unfolding word_prefix number_prefix symbol_prefix read_answer advert_of_all advert_at entries_at entry_at head_at deposit_at secret_at
    fee_at choice_with branches_at branch_at parts_at auth_at after_at put_at reveal_at split_at reveals_at puts_at put_reveals_at headed_at
    one_branch_at condition_at names_from test_at comparison_at formula_at constant_at length_at withdraw_at digits is_name
contract_refused_behind_the_run = refl

pub run_refused_first : play_answer same (codes "-") (codes "{" ∷ []) ≡ prints 6 (line (codes "run refused line 1") [])
unfolding digits
run_refused_first = refl
