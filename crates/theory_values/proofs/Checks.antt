-- Contracts that are checked: taken and written again, or refused for the first cause.
use Rattle.std.proofs.Common.{◌≡◌, ℕ, List, [], ◌∷◌, ◌++◌, map, refl}
use Rattle.std.specs.Prelude.{codes}
use Rattle.std.specs.Fmt.{digits}
use Rattle.spec_terms.specs.Readable.{is_name}
use Rattle.spec_text.specs.Lexis.{word_prefix, number_prefix, symbol_prefix}
use Rattle.spec_text.specs.ReadAdvert.{read_answer, advert_of_all, advert_at, entries_at, entry_at, head_at, deposit_at, secret_at, fee_at}
use Rattle.spec_text.specs.ReadContract.{withdraw_at, condition_at, reveals_at, puts_at, put_reveals_at, headed_at, one_branch_at}
use Rattle.spec_text.specs.ReadContract.{branches_at, choice_with, parts_at, auth_at, after_at, put_at, reveal_at, split_at, branch_at}
use Rattle.spec_text.specs.ReadTest.{constant_at, length_at, formula_at, comparison_at, test_at}
use Rattle.spec_text.specs.Reading.{names_from}
use Rattle.spec_tool.specs.Commands.{Printed, prints}
use Rattle.theory_values.specs.Replies.{lines, replies, small_hash}

-- a contract, and what is said of it
abbrev Row : Type 0
Row = List ℕ × List ℕ

abbrev checked : Row → Printed
checked row = replies small_hash (codes "check" ∷ codes "c" ∷ []) ((codes "c", row.0) ∷ [])

abbrev taken : Row → Printed
taken row = prints 0 (lines (codes "contract 0 accepted" ∷ row.1 ∷ []))

abbrev refused : Row → Printed
refused row = prints 1 (lines ((codes "contract 0 refused " ++ row.1) ∷ []))

-- what is taken is written in one way
abbrev accepted_first_rows : List Row
accepted_first_rows = (
  codes "{A:! 100 @ x} split [60 -> withdraw A, 40 -> withdraw A]",
  codes "{A:! 100 @ x} split [60 -> withdraw A, 40 -> withdraw A]",
) ∷ (
  codes "{A:! 100 @ x} split [100 -> withdraw A, 0 -> withdraw A]",
  codes "{A:! 100 @ x} split [100 -> withdraw A, 0 -> withdraw A]",
) ∷ (
  codes "{A:! 1 @ x | A: secret a} reveal a if (2147483127 + |a|) = 0 . withdraw A",
  codes "{A:! 1 @ x | A: secret a} reveal a if (2147483127 + |a|) = 0 . withdraw A",
) ∷ (
  (codes "{A:! 3 @ x | B:! 3 @ y | A: secret a | B: secret b} split [2 -> (reveal b if |b| < 2 . withdraw B + after 10" ++
      codes "00 : withdraw A), 2 -> (reveal a . withdraw A + after 1000 : withdraw B), 2 -> (reveal a, b if |a| = |b| . w" ++
      codes "ithdraw A + reveal a, b if not |a| = |b| . withdraw B)]"),
  (codes "{A:! 3 @ x | B:! 3 @ y | A: secret a | B: secret b} split [2 -> (reveal b if |b| < 2 . withdraw B + after 10" ++
      codes "00 : withdraw A), 2 -> (reveal a . withdraw A + after 1000 : withdraw B), 2 -> (reveal a, b if |a| = |b| . w" ++
      codes "ithdraw A + reveal a, b if not |a| = |b| . withdraw B)]"),
) ∷
    []

accepted_first : map checked accepted_first_rows ≡ map taken accepted_first_rows
unfolding is_name word_prefix number_prefix symbol_prefix read_answer advert_of_all advert_at entries_at entry_at head_at deposit_at
    secret_at fee_at choice_with branches_at branch_at parts_at auth_at after_at put_at reveal_at split_at reveals_at puts_at
    put_reveals_at headed_at one_branch_at condition_at names_from test_at comparison_at formula_at constant_at length_at withdraw_at
    digits
accepted_first = refl

-- what is taken is written in one way
abbrev accepted_second_rows : List Row
accepted_second_rows = (
  codes "{A:! 10 @ x} fee 1 split [5 -> withdraw A, 3 -> withdraw A]",
  codes "{A:! 10 @ x} fee 1 split [5 -> withdraw A, 3 -> withdraw A]",
) ∷ (
  codes "{A:! 10 @ x} fee 5 withdraw A",
  codes "{A:! 10 @ x} fee 5 withdraw A",
) ∷ (
  codes "{A:! 10 @ x} fee 0 withdraw A",
  codes "{A:! 10 @ x} withdraw A",
) ∷ (
  (codes "{A:!10@x|B:!1@y|A:?5@z|A:secret a}fee 1(put z&reveal a if[true and not(|a|+1)<3].split[6->withdraw A,7->with" ++
      codes "draw B]+after 9:B:withdraw B)"),
  (codes "{A:! 10 @ x | B:! 1 @ y | A:? 5 @ z | A: secret a} fee 1 (put z & reveal a if [true and not (|a| + 1) < 3] ." ++
      codes " split [6 -> withdraw A, 7 -> withdraw B] + after 9 : B : withdraw B)"),
) ∷
    []

accepted_second : map checked accepted_second_rows ≡ map taken accepted_second_rows
unfolding is_name word_prefix number_prefix symbol_prefix read_answer advert_of_all advert_at entries_at entry_at head_at deposit_at
    secret_at fee_at choice_with branches_at branch_at parts_at auth_at after_at put_at reveal_at split_at reveals_at puts_at
    put_reveals_at headed_at one_branch_at condition_at names_from test_at comparison_at formula_at constant_at length_at withdraw_at
    digits
accepted_second = refl

-- a byte that begins no token
abbrev refused_at_bytes_rows : List Row
refused_at_bytes_rows = (
  codes "{A$",
  codes "byte 2",
) ∷ (
  codes "{A:! 1 @ x} } split [1 -> withdraw A; 2]",
  codes "byte 36",
) ∷
    []

refused_at_bytes : map checked refused_at_bytes_rows ≡ map refused refused_at_bytes_rows
unfolding is_name word_prefix number_prefix symbol_prefix read_answer advert_of_all advert_at entries_at entry_at head_at deposit_at
    secret_at fee_at choice_with branches_at branch_at parts_at auth_at after_at put_at reveal_at split_at reveals_at puts_at
    put_reveals_at headed_at one_branch_at condition_at names_from test_at comparison_at formula_at constant_at length_at withdraw_at
    digits
refused_at_bytes = refl

-- a token that no contract has there
abbrev refused_at_tokens_first_rows : List Row
refused_at_tokens_first_rows = (
  [],
  codes "syntax 0",
) ∷ (
  codes "{}",
  codes "syntax 1",
) ∷ (
  codes "{put:! 1 @ x} withdraw A",
  codes "syntax 1",
) ∷ (
  codes "{A a23456789012345678901234567890123",
  codes "syntax 3",
) ∷
    []

refused_at_tokens_first : map checked refused_at_tokens_first_rows ≡ map refused refused_at_tokens_first_rows
unfolding is_name word_prefix number_prefix symbol_prefix read_answer advert_of_all advert_at entries_at entry_at head_at deposit_at
    secret_at fee_at choice_with branches_at branch_at parts_at auth_at after_at put_at reveal_at split_at reveals_at puts_at
    put_reveals_at headed_at one_branch_at condition_at names_from test_at comparison_at formula_at constant_at length_at withdraw_at
    digits
refused_at_tokens_first = refl

-- a token that no contract has there
abbrev refused_at_tokens_second_rows : List Row
refused_at_tokens_second_rows = (
  codes "{A:! 007 @ x} withdraw A",
  codes "syntax 6",
) ∷ (
  codes "{A:! 1 @ 18446744073709551616",
  codes "syntax 9",
) ∷ (
  codes "{A: secret} withdraw A",
  codes "syntax 10",
) ∷ (
  codes "{A:! 1 @ x | } withdraw A",
  codes "syntax 13",
) ∷
    []

refused_at_tokens_second : map checked refused_at_tokens_second_rows ≡ map refused refused_at_tokens_second_rows
unfolding is_name word_prefix number_prefix symbol_prefix read_answer advert_of_all advert_at entries_at entry_at head_at deposit_at
    secret_at fee_at choice_with branches_at branch_at parts_at auth_at after_at put_at reveal_at split_at reveals_at puts_at
    put_reveals_at headed_at one_branch_at condition_at names_from test_at comparison_at formula_at constant_at length_at withdraw_at
    digits
refused_at_tokens_second = refl

-- a token that no contract has there
abbrev refused_at_tokens_third_rows : List Row
refused_at_tokens_third_rows = (
  codes "{A:! 1 @ x} fee withdraw A",
  codes "syntax 16",
) ∷ (
  codes "{A:! 1 @ x} (withdraw A",
  codes "syntax 23",
) ∷ (
  codes "{A:! 1 @ x} withdraw A B",
  codes "syntax 23",
) ∷ (
  codes "{A:! 1 @ x} split [1 -> withdraw A}",
  codes "syntax 34",
) ∷
    []

refused_at_tokens_third : map checked refused_at_tokens_third_rows ≡ map refused refused_at_tokens_third_rows
unfolding is_name word_prefix number_prefix symbol_prefix read_answer advert_of_all advert_at entries_at entry_at head_at deposit_at
    secret_at fee_at choice_with branches_at branch_at parts_at auth_at after_at put_at reveal_at split_at reveals_at puts_at
    put_reveals_at headed_at one_branch_at condition_at names_from test_at comparison_at formula_at constant_at length_at withdraw_at
    digits
refused_at_tokens_third = refl

-- the first fault, and where
abbrev refused_for_faults_first_rows : List Row
refused_for_faults_first_rows = (
  codes "{A:! 1 @ x | A: secret x} withdraw A",
  codes "fault 1 NameRepeated pre 1",
) ∷ (
  codes "{A:! 1 @ x} put x . withdraw A",
  codes "fault 2 UnknownDeposit r.0",
) ∷ (
  codes "{A:! 1 @ x} reveal a . withdraw A",
  codes "fault 3 UnknownSecret r.0",
) ∷ (
  codes "{A:! 1 @ x | A: secret a} (withdraw A + reveal a, a . withdraw A)",
  codes "fault 4 PrefixRepeated r.1",
) ∷
    []

refused_for_faults_first : map checked refused_for_faults_first_rows ≡ map refused refused_for_faults_first_rows
unfolding is_name word_prefix number_prefix symbol_prefix read_answer advert_of_all advert_at entries_at entry_at head_at deposit_at
    secret_at fee_at choice_with branches_at branch_at parts_at auth_at after_at put_at reveal_at split_at reveals_at puts_at
    put_reveals_at headed_at one_branch_at condition_at names_from test_at comparison_at formula_at constant_at length_at withdraw_at
    digits
refused_for_faults_first = refl

-- the first fault, and where
abbrev refused_for_faults_second_rows : List Row
refused_for_faults_second_rows = (
  codes "{A:! 1 @ x | A: secret a | A: secret b} reveal a if |b| = 0 . withdraw A",
  codes "fault 5 PredicateSecret r.0",
) ∷ (
  codes "{A:! 1 @ x} withdraw B",
  codes "fault 6 NoPersistent B",
) ∷ (
  codes "{A:! 100 @ x} split [60 -> withdraw A, 39 -> withdraw A]",
  codes "fault 7 SplitSum r.0",
) ∷ (
  codes "{A:! 10 @ x} fee 1 split [5 -> withdraw A, 4 -> withdraw A]",
  codes "fault 7 SplitSum r.0",
) ∷
    []

refused_for_faults_second : map checked refused_for_faults_second_rows ≡ map refused refused_for_faults_second_rows
unfolding is_name word_prefix number_prefix symbol_prefix read_answer advert_of_all advert_at entries_at entry_at head_at deposit_at
    secret_at fee_at choice_with branches_at branch_at parts_at auth_at after_at put_at reveal_at split_at reveals_at puts_at
    put_reveals_at headed_at one_branch_at condition_at names_from test_at comparison_at formula_at constant_at length_at withdraw_at
    digits
refused_for_faults_second = refl

-- the first fault, and where
abbrev refused_for_faults_third_rows : List Row
refused_for_faults_third_rows = (
  codes "{A:! 10 @ x} fee 11 withdraw A",
  codes "fault 8 FeeShort r",
) ∷ (
  codes "{A:! 10 @ x} fee 6 withdraw A",
  codes "fault 8 FeeShort r.0",
) ∷
    []

refused_for_faults_third : map checked refused_for_faults_third_rows ≡ map refused refused_for_faults_third_rows
unfolding is_name word_prefix number_prefix symbol_prefix read_answer advert_of_all advert_at entries_at entry_at head_at deposit_at
    secret_at fee_at choice_with branches_at branch_at parts_at auth_at after_at put_at reveal_at split_at reveals_at puts_at
    put_reveals_at headed_at one_branch_at condition_at names_from test_at comparison_at formula_at constant_at length_at withdraw_at
    digits
refused_for_faults_third = refl

-- the first limit, and where
abbrev refused_for_limits_first_rows : List Row
refused_for_limits_first_rows = (
  codes "{A:! 2100000000000000 @ x | A:! 1 @ y} withdraw A",
  codes "limit Balance r",
) ∷ (
  codes "{A:! 1 @ x | A: secret a} reveal a if (2147483128 + |a|) = 0 . withdraw A",
  codes "limit Expression r.0",
) ∷ (
  codes "{a23456789012345678901234567890123:! 1 @ x} withdraw A",
  codes "limit Name 1",
) ∷ (
  codes "{A:! 1 @ x | A: secret a} reveal a if (2147483648 + |a|) = 0 . withdraw A",
  codes "limit Number 39",
) ∷
    []

refused_for_limits_first : map checked refused_for_limits_first_rows ≡ map refused refused_for_limits_first_rows
unfolding is_name word_prefix number_prefix symbol_prefix read_answer advert_of_all advert_at entries_at entry_at head_at deposit_at
    secret_at fee_at choice_with branches_at branch_at parts_at auth_at after_at put_at reveal_at split_at reveals_at puts_at
    put_reveals_at headed_at one_branch_at condition_at names_from test_at comparison_at formula_at constant_at length_at withdraw_at
    digits
refused_for_limits_first = refl

-- the first limit, and where
abbrev refused_for_limits_second_rows : List Row
refused_for_limits_second_rows = (
  codes "{A:! 2100000000000001 @ x} withdraw A",
  codes "limit Number 5",
) ∷ (
  codes "{A:! 1 @ x} fee 18446744073709551616 withdraw A",
  codes "limit Number 16",
) ∷ (
  codes "{A:! 1 @ x} after 500000000 : withdraw A",
  codes "limit Number 18",
) ∷
    []

refused_for_limits_second : map checked refused_for_limits_second_rows ≡ map refused refused_for_limits_second_rows
unfolding is_name word_prefix number_prefix symbol_prefix read_answer advert_of_all advert_at entries_at entry_at head_at deposit_at
    secret_at fee_at choice_with branches_at branch_at parts_at auth_at after_at put_at reveal_at split_at reveals_at puts_at
    put_reveals_at headed_at one_branch_at condition_at names_from test_at comparison_at formula_at constant_at length_at withdraw_at
    digits
refused_for_limits_second = refl
