-- Worked chain files, each by computation alone: what they say, and why they are refused. The transaction is one that a node takes.
use Rattle.std.proofs.Common.{◌≡◌, ℕ, List, [], ◌∷◌, ◌++◌, refl}
use Rattle.std.specs.Prelude.{codes, take, Option, Some, None}
use Rattle.std.specs.Fmt.{digits, decimal}
use Rattle.spec_bitcoin.specs.Reading.{many, wide_at, compact_at, string_at, input_at, inputs_at, output_at, outputs_at, witness_at}
use Rattle.spec_bitcoin.specs.Reading.{witnesses_at, plain_at, marked_at, transaction_at, all_at}
use Rattle.spec_chain.specs.declared.fault.ChainFault.{ChainFault}
use Rattle.spec_chain.specs.declared.reading.Confirmed.{Confirmed}
use Rattle.spec_chain.specs.declared.reading.Reading.{Reading}
use Rattle.spec_chain.specs.ChainFile.{read_chain}
use Rattle.spec_chain.specs.RefusedText.{chain_refused_line}

-- the digits of an initial transaction with its witnesses
abbrev initial_digits : List ℕ
initial_digits =
    codes "02000000000102917670b4de2f27b435f71f3a2f5870b577f7d2d0be234daaf98f27291acad1c70000000000feffffff"
    ++ (codes "e2aa7291ea5f6a6f9753a3330b83d343e738dc1e74003df2f3ced8b322ae8f6b0100000000feffffff01d8d001000000"
    ++ (codes "0000220020a114f10ad2c413065c2c4e33e4b231445bf2b0016c13b170e13efce8dfa6adc00247304402205bbfb3bd00"
    ++ (codes "eb7908b5295a6c26675dd5b7a522e79be87188cb6cf9726c42d85a02204850b4e20b2e85d03a219413a3355c11330370"
    ++ (codes "8a4a98ca8d6efcf802a232289701232103913ffe7036ec1cefec5d4589d0c2e8e7b6a300c97e0a106cd9624f149bcda7"
    ++ (codes "f5ac02483045022100fc56c85bc511c5ac596b54b75ada48ccc2b4a299113f671b9c75ecec6a02368b02204d8478e9a0"
    ++ (codes "278a38960d60f5fcb517895fef77de1d074063e976706a78fc34ed01232103ba15c3d41f9a0004b4f0e9f93716dc85ab"
    ++ (codes "600a158e90d0639f364ab04c766f21ac00000000")))))))

-- a line of a text
abbrev line : List ℕ → List ℕ → List ℕ
line text more = text ++ 10 ∷ more

abbrev tx_line : List ℕ → List ℕ
tx_line digits = codes "tx " ++ digits

-- `confirmed line height` of each, and the tip
abbrev confirmed_text : List Confirmed → ℕ → List ℕ
confirmed_text [] tip = codes "tip " ++ decimal tip
confirmed_text (c ∷ cs) tip =
    line (codes "confirmed " ++ (decimal c.line ++ (codes " " ++ decimal c.height))) (confirmed_text cs tip)

abbrev told_by : Option ChainFault → Reading → List ℕ
told_by None r = confirmed_text r.confirmed r.tip
told_by (Some fault) r = chain_refused_line fault

-- what a text says, or why it is refused
abbrev told : List ℕ → List ℕ
told text = told_by (read_chain text).fault (read_chain text)

pub empty_file : told ([])
    ≡ codes "tip 0"
unfolding digits many wide_at compact_at string_at input_at inputs_at output_at outputs_at witness_at witnesses_at plain_at marked_at
    transaction_at all_at
empty_file = refl

pub no_word_of_a_chain : told (line (codes "Height 5") [])
    ≡ line (codes "chain refused line 1 form") []
unfolding digits many wide_at compact_at string_at input_at inputs_at output_at outputs_at witness_at witnesses_at plain_at marked_at
    transaction_at all_at
no_word_of_a_chain = refl

pub a_word_too_many : told (line (codes "height 5 6") [])
    ≡ line (codes "chain refused line 1 form") []
unfolding digits many wide_at compact_at string_at input_at inputs_at output_at outputs_at witness_at witnesses_at plain_at marked_at
    transaction_at all_at
a_word_too_many = refl

pub a_word_too_few : told (line (codes "height 5") (line ([]) (line (codes "tx") [])))
    ≡ line (codes "chain refused line 3 form") []
unfolding digits many wide_at compact_at string_at input_at inputs_at output_at outputs_at witness_at witnesses_at plain_at marked_at
    transaction_at all_at
a_word_too_few = refl

pub height_with_a_zero_in_prefix : told (line (codes "height 05") [])
    ≡ line (codes "chain refused line 1 height") []
unfolding digits many wide_at compact_at string_at input_at inputs_at output_at outputs_at witness_at witnesses_at plain_at marked_at
    transaction_at all_at
height_with_a_zero_in_prefix = refl

pub height_that_is_a_time : told (line (codes "height 500000000") [])
    ≡ line (codes "chain refused line 1 height") []
unfolding digits many wide_at compact_at string_at input_at inputs_at output_at outputs_at witness_at witnesses_at plain_at marked_at
    transaction_at all_at
height_that_is_a_time = refl

pub greatest_height : told (line (codes "height 499999999") [])
    ≡ codes "tip 499999999"
unfolding digits many wide_at compact_at string_at input_at inputs_at output_at outputs_at witness_at witnesses_at plain_at marked_at
    transaction_at all_at
greatest_height = refl

pub height_that_falls : told (line (codes "height 699000") (line (codes "height 698999") []))
    ≡ line (codes "chain refused line 2 height") []
unfolding digits many wide_at compact_at string_at input_at inputs_at output_at outputs_at witness_at witnesses_at plain_at marked_at
    transaction_at all_at
height_that_falls = refl

pub same_height_again : told (line (codes "height 699000") (line (codes "height 699000") []))
    ≡ codes "tip 699000"
unfolding digits many wide_at compact_at string_at input_at inputs_at output_at outputs_at witness_at witnesses_at plain_at marked_at
    transaction_at all_at
same_height_again = refl

pub transaction_below_no_height : told (line (tx_line initial_digits) [])
    ≡ line (codes "chain refused line 1 height") []
unfolding digits many wide_at compact_at string_at input_at inputs_at output_at outputs_at witness_at witnesses_at plain_at marked_at
    transaction_at all_at
transaction_below_no_height = refl

pub transaction_at_height_0 : told (line (codes "height 0") (line (codes "tx 00") []))
    ≡ line (codes "chain refused line 2 height") []
unfolding digits many wide_at compact_at string_at input_at inputs_at output_at outputs_at witness_at witnesses_at plain_at marked_at
    transaction_at all_at
transaction_at_height_0 = refl

pub no_hexadecimal : told (line (codes "height 5") (line (codes "tx 0g") []))
    ≡ line (codes "chain refused line 2 tx") []
unfolding digits many wide_at compact_at string_at input_at inputs_at output_at outputs_at witness_at witnesses_at plain_at marked_at
    transaction_at all_at
no_hexadecimal = refl

pub begun : told (line (codes "height 699000") (line (tx_line initial_digits) (line (codes "height 699100") [])))
    ≡ line (codes "confirmed 2 699000") (codes "tip 699100")
unfolding digits many wide_at compact_at string_at input_at inputs_at output_at outputs_at witness_at witnesses_at plain_at marked_at
    transaction_at all_at
begun = refl

pub a_byte_less : told (line (codes "height 699000") (line (tx_line (take 710 initial_digits)) []))
    ≡ line (codes "chain refused line 2 tx") []
unfolding digits many wide_at compact_at string_at input_at inputs_at output_at outputs_at witness_at witnesses_at plain_at marked_at
    transaction_at all_at
a_byte_less = refl

pub a_byte_more : told (line (codes "height 699000") (line (tx_line (initial_digits ++ codes "00")) []))
    ≡ line (codes "chain refused line 2 tx") []
unfolding digits many wide_at compact_at string_at input_at inputs_at output_at outputs_at witness_at witnesses_at plain_at marked_at
    transaction_at all_at
a_byte_more = refl

pub blanks_and_empty_lines : told
    (codes "  " ++ 10 ∷ (codes "height " ++ 9 ∷ (codes "699000 " ++ 13 ∷ 10 ∷ (tx_line initial_digits ++ 13 ∷ 10 ∷ 10 ∷ codes "height 699100"))))
    ≡ line (codes "confirmed 3 699000") (codes "tip 699100")
unfolding digits many wide_at compact_at string_at input_at inputs_at output_at outputs_at witness_at witnesses_at plain_at marked_at
    transaction_at all_at
blanks_and_empty_lines = refl
