-- Test vectors of the definitions, each small enough to compute.
use Rattle.std.proofs.Common.{◌≡◌, ℕ, zero, suc, List, [], ◌∷◌, refl, Option, Some, None, Ok, Err}
use Rattle.std.specs.Prelude.{codes, Result}
use Rattle.std.specs.Fmt.{decimal, digits}
use Rattle.spec_data.specs.Digits.{read_decimal, read_hex, hex_text}
use Rattle.spec_text.specs.Lexis.{tokens_of, word_prefix, number_prefix, symbol_prefix}
use Rattle.spec_terms.specs.Advert.{Advert}
use Rattle.spec_terms.specs.declared.limit.Limit.TheVariants as limits
use Rattle.spec_text.specs.ReadAdvert.{read_answer, advert_of_all, advert_at, entries_at, entry_at, head_at, deposit_at, secret_at, fee_at}
use Rattle.spec_text.specs.ReadContract.{withdraw_at, condition_at, reveals_at, puts_at, put_reveals_at, headed_at, one_branch_at, branches_at, choice_with, parts_at, auth_at, after_at, put_at, reveal_at, split_at, branch_at}
use Rattle.spec_text.specs.ReadTest.{constant_at, length_at, formula_at, comparison_at, test_at}
use Rattle.spec_terms.specs.Readable.{most_depth, most_branches}
use Rattle.spec_text.specs.Reading.{names_from, Reads}
use Rattle.spec_text.specs.Canonical.{advert_text}
use Rattle.spec_text.specs.declared.lexeme.Lexeme.{Lexeme}
use Rattle.spec_text.specs.declared.lexeme.Lexeme.TheVariants.{Keyword as keyword, Symbol as symbol, Name as name}
use Rattle.spec_text.specs.declared.stop.Stop.{Stop}
use Rattle.spec_text.specs.declared.stop.Stop.TheVariants as stops
use Rattle.spec_text.specs.declared.stop.TextFault.{TextFault}
use Rattle.spec_text.specs.declared.stop.TextFault.TheVariants as faults
use Rattle.spec_text.specs.declared.token.Kind.TheVariants as kind
use Rattle.spec_text.specs.declared.token.Keyword.TheVariants as word
use Rattle.spec_text.specs.declared.token.Symbol.TheVariants as mark

-- ---- numbers and bytes

pub zero_is_plain : read_decimal (codes "0") ≡ Some 0
zero_is_plain = refl

pub no_leading_zero : read_decimal (codes "007") ≡ None
no_leading_zero = refl

pub greatest_number : read_decimal (codes "18446744073709551615") ≡ Some 18446744073709551615
greatest_number = refl

pub too_great_number : read_decimal (codes "18446744073709551616") ≡ None
too_great_number = refl

pub number_text : decimal 2100000000000000 ≡ codes "2100000000000000"
unfolding digits
number_text = refl

pub either_case : read_hex (codes "0aF9") ≡ Some (10 ∷ 249 ∷ [])
either_case = refl

pub odd_digits : read_hex (codes "0aF") ≡ None
odd_digits = refl

pub no_digits : read_hex [] ≡ None
no_digits = refl

pub bytes_text : hex_text (10 ∷ 249 ∷ []) ≡ codes "0af9"
bytes_text = refl

-- ---- tokens

pub dollar_begins_no_token : tokens_of (codes "{A$") ≡ Err 2
unfolding word_prefix number_prefix symbol_prefix
dollar_begins_no_token = refl

pub small_tokens : tokens_of (codes "(a -> 7)") ≡ Ok (record { kind = kind.Symbol mark.LeftParen; start = 0; end = 1 } ∷ record { kind = kind.Name; start = 1; end = 2 } ∷ record { kind = kind.Symbol mark.Arrow; start = 3; end = 5 } ∷ record { kind = kind.Number 7; start = 6; end = 7 } ∷ record { kind = kind.Symbol mark.RightParen; start = 7; end = 8 } ∷ [])
unfolding word_prefix number_prefix symbol_prefix
small_tokens = refl

-- ---- places

pub place_in_nothing : read_answer [] ≡ Err (faults.Syntax 0)
unfolding word_prefix number_prefix symbol_prefix read_answer advert_of_all advert_at entries_at entry_at head_at
place_in_nothing = refl

pub place_of_a_missing_entry : read_answer (codes "{}") ≡ Err (faults.Syntax 1)
unfolding word_prefix number_prefix symbol_prefix read_answer advert_of_all advert_at entries_at entry_at head_at
place_of_a_missing_entry = refl

pub place_of_a_bad_byte : read_answer (codes "{A$") ≡ Err (faults.BadByte 2)
unfolding word_prefix number_prefix symbol_prefix read_answer advert_of_all advert_at entries_at entry_at head_at
place_of_a_bad_byte = refl

pub place_of_a_keyword : read_answer (codes "{put:! 1 @ x} withdraw A") ≡ Err (faults.Syntax 1)
unfolding word_prefix number_prefix symbol_prefix read_answer advert_of_all advert_at entries_at entry_at head_at
place_of_a_keyword = refl

pub place_of_a_missing_bracket : read_answer (codes "{A:! 1 @ x} (withdraw A") ≡ Err (faults.Syntax 23)
unfolding word_prefix number_prefix symbol_prefix read_answer advert_of_all advert_at entries_at entry_at head_at deposit_at fee_at
    choice_with branches_at branch_at withdraw_at
place_of_a_missing_bracket = refl

-- ---- canonical text

-- the text of what was read
abbrev pub printed : Result Advert TextFault → List ℕ
printed (Ok advert) = advert_text advert
printed (Err fault) = []

abbrev pub split_text : List ℕ
split_text = codes "{A:! 100 @ x} split [60 -> withdraw A, 40 -> withdraw A]"

pub split_is_written_as_it_was : printed (read_answer split_text) ≡ split_text
unfolding word_prefix number_prefix symbol_prefix read_answer advert_of_all advert_at entries_at entry_at head_at deposit_at secret_at
    fee_at choice_with branches_at branch_at parts_at auth_at after_at put_at reveal_at split_at reveals_at puts_at put_reveals_at headed_at
    one_branch_at condition_at names_from test_at comparison_at formula_at constant_at length_at withdraw_at digits
split_is_written_as_it_was = refl

abbrev pub fee_text : List ℕ
fee_text = codes "{A:! 10 @ x} fee 5 withdraw A"

pub fee_is_written_as_it_was : printed (read_answer fee_text) ≡ fee_text
unfolding word_prefix number_prefix symbol_prefix read_answer advert_of_all advert_at entries_at entry_at head_at deposit_at secret_at
    fee_at choice_with branches_at branch_at parts_at auth_at after_at put_at reveal_at split_at reveals_at puts_at put_reveals_at headed_at
    one_branch_at condition_at names_from test_at comparison_at formula_at constant_at length_at withdraw_at digits
fee_is_written_as_it_was = refl

pub no_fee_is_left_out : printed (read_answer (codes "{A:! 10 @ x} fee 0 withdraw A")) ≡ codes "{A:! 10 @ x} withdraw A"
unfolding word_prefix number_prefix symbol_prefix read_answer advert_of_all advert_at entries_at entry_at head_at deposit_at secret_at
    fee_at choice_with branches_at branch_at parts_at auth_at after_at put_at reveal_at split_at reveals_at puts_at put_reveals_at headed_at
    one_branch_at condition_at names_from test_at comparison_at formula_at constant_at length_at withdraw_at digits
no_fee_is_left_out = refl

abbrev pub condition_text : List ℕ
condition_text = codes "{A:! 1 @ x | A: secret a} (reveal a if |a| < 2 . withdraw A + after 9 : B : withdraw A)"

pub condition_is_written_as_it_was : printed (read_answer condition_text) ≡ condition_text
unfolding word_prefix number_prefix symbol_prefix read_answer advert_of_all advert_at entries_at entry_at head_at deposit_at secret_at
    fee_at choice_with branches_at branch_at parts_at auth_at after_at put_at reveal_at split_at reveals_at puts_at put_reveals_at headed_at
    one_branch_at condition_at names_from test_at comparison_at formula_at constant_at length_at withdraw_at digits
condition_is_written_as_it_was = refl

-- ---- limits

-- a constant of 2^31, at its place
pub constant_above_the_limit : read_answer (codes "{A:! 1 @ x | A: secret a} reveal a if (2147483648 + |a|) = 0 . withdraw A") ≡ Err (faults.Limit limits.Number 39)
unfolding word_prefix number_prefix symbol_prefix read_answer advert_of_all advert_at entries_at entry_at head_at deposit_at secret_at
    fee_at choice_with branches_at branch_at parts_at auth_at after_at put_at reveal_at split_at reveals_at puts_at put_reveals_at headed_at
    one_branch_at condition_at names_from test_at comparison_at formula_at constant_at length_at withdraw_at
constant_above_the_limit = refl

-- so many times a name and a colon, and then a withdrawal
abbrev pub guarded : ℕ → List Lexeme
guarded zero = keyword word.Withdraw ∷ name (codes "A") ∷ []
guarded (suc n) = name (codes "A") ∷ symbol mark.Colon ∷ guarded n

-- how many tokens are left where reading of a contract stops
abbrev pub stopped : {A : Type 0} → Reads A → Option Stop
stopped (Ok x) = None
stopped (Err stop) = Some stop

-- the 64th guarded term may be the last
pub deepest : stopped (choice_with (branch_at most_depth) most_depth most_branches (guarded 63)) ≡ None
unfolding word_prefix number_prefix symbol_prefix read_answer advert_of_all advert_at entries_at entry_at head_at deposit_at secret_at
    fee_at choice_with branches_at branch_at parts_at auth_at after_at put_at reveal_at split_at reveals_at puts_at put_reveals_at headed_at
    one_branch_at condition_at names_from test_at comparison_at formula_at constant_at length_at withdraw_at
deepest = refl

pub too_deep : stopped (choice_with (branch_at most_depth) most_depth most_branches (guarded 64)) ≡ Some (stops.Limit limits.Depth 2)
unfolding word_prefix number_prefix symbol_prefix read_answer advert_of_all advert_at entries_at entry_at head_at deposit_at secret_at
    fee_at choice_with branches_at branch_at parts_at auth_at after_at put_at reveal_at split_at reveals_at puts_at put_reveals_at headed_at
    one_branch_at condition_at names_from test_at comparison_at formula_at constant_at length_at withdraw_at
too_deep = refl

-- so many withdrawals in brackets
abbrev pub withdrawals : ℕ → List Lexeme
withdrawals zero = keyword word.Withdraw ∷ name (codes "A") ∷ symbol mark.RightParen ∷ []
withdrawals (suc n) = keyword word.Withdraw ∷ name (codes "A") ∷ symbol mark.Plus ∷ withdrawals n

pub widest : stopped (choice_with (branch_at most_depth) most_depth most_branches (symbol mark.LeftParen ∷ withdrawals 31)) ≡ None
unfolding word_prefix number_prefix symbol_prefix read_answer advert_of_all advert_at entries_at entry_at head_at deposit_at secret_at
    fee_at choice_with branches_at branch_at parts_at auth_at after_at put_at reveal_at split_at reveals_at puts_at put_reveals_at headed_at
    one_branch_at condition_at names_from test_at comparison_at formula_at constant_at length_at withdraw_at
widest = refl

pub too_wide : stopped (choice_with (branch_at most_depth) most_depth most_branches (symbol mark.LeftParen ∷ withdrawals 32))
    ≡ Some (stops.Limit limits.Choice 3)
unfolding word_prefix number_prefix symbol_prefix read_answer advert_of_all advert_at entries_at entry_at head_at deposit_at secret_at
    fee_at choice_with branches_at branch_at parts_at auth_at after_at put_at reveal_at split_at reveals_at puts_at put_reveals_at headed_at
    one_branch_at condition_at names_from test_at comparison_at formula_at constant_at length_at withdraw_at
too_wide = refl

-- so many secrets
abbrev pub secret_entries : ℕ → List Lexeme
secret_entries zero = symbol mark.RightBrace ∷ []
secret_entries (suc n) = symbol mark.Bar ∷ name (codes "A") ∷ symbol mark.Colon ∷ keyword word.Secret ∷ name (codes "a") ∷ secret_entries n

pub too_many_secrets : stopped (entries_at 64 (32, 32) (name (codes "A") ∷ symbol mark.Colon ∷ keyword word.Secret ∷ name (codes "a") ∷ secret_entries 32)) ≡ Some (stops.Limit limits.Secrets 5)
unfolding word_prefix number_prefix symbol_prefix read_answer advert_of_all advert_at entries_at entry_at head_at deposit_at secret_at
    fee_at choice_with branches_at branch_at parts_at auth_at after_at put_at reveal_at split_at reveals_at puts_at put_reveals_at headed_at
    one_branch_at condition_at names_from test_at comparison_at formula_at constant_at length_at withdraw_at
too_many_secrets = refl
