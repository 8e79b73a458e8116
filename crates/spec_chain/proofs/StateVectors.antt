-- Worked chains of a bet, each by computation alone: where it stands, and what may come.
use Rattle.std.proofs.Common.{◌≡◌, ℕ, List, [], ◌∷◌, ◌++◌, refl}
use Rattle.std.specs.Prelude.{codes, replicate}
use Rattle.std.specs.Fmt.{digits}
use Rattle.spec_bitcoin.specs.Keys.{label_text}
use Rattle.spec_bitcoin.specs.Meaning.{script_meaning}
use Rattle.spec_bitcoin.specs.Numbers.{item_of_number, signed_bytes, number_of_item}
use Rattle.spec_bitcoin.specs.Reading.{many, wide_at, compact_at, string_at, input_at, inputs_at, output_at, outputs_at, witness_at}
use Rattle.spec_bitcoin.specs.Reading.{witnesses_at, plain_at, marked_at, transaction_at, all_at}
use Rattle.spec_bitcoin.specs.Scripts.{ops_of}
use Rattle.spec_bitcoin.specs.Spelling.{stripped, compact, marked}
use Rattle.spec_bitcoin.specs.Verdict.{items_of}
use Rattle.spec_bitcoin.specs.declared.tx.OutPoint.{OutPoint}
use Rattle.spec_bitcoin.specs.declared.tx.TxIn.{TxIn}
use Rattle.spec_bitcoin.specs.Digests.{places_list, sequences_list, outputs_list, preimage}
use Rattle.spec_terms.specs.declared.path.PathStep.TheVariants.{Branch as To}
use Rattle.spec_compiler.specs.Keyed.Instance.{position_script}
use Rattle.spec_tool.specs.declared.which.Which.{Which}
use Rattle.spec_tool.specs.declared.which.Which.TheVariants as names
use Rattle.spec_compiler.specs.Keyed.Transactions.{party_script, root_standing}
use Rattle.spec_deal.proofs.FileVectors.{line, weigh, bet, A, a}
use Rattle.spec_deal.proofs.SignatureVectors.{keys}
use Rattle.spec_chain.proofs.DealVectors.{Vectors, string, deal, all_signed, all_but, unsigned, sent, sent_with, bare, shown_txid, stranger, line_of_tx, told, sent_but}

-- the secret has length 2
abbrev pub a_bet : Vectors
a_bet = record { advert = bet; strings = string a (codes "00112233445566778899aabbccddeeff0102") ∷ [] }

-- the secret has length 3
abbrev long_bet : Vectors
long_bet = record { advert = bet; strings = string a (codes "00112233445566778899aabbccddeeff010203") ∷ [] }

abbrev reveal : Which
reveal = names.At (To 0 ∷ [])

abbrev late : Which
late = names.At (To 1 ∷ [])

abbrev paid : Which
paid = names.At (To 0 ∷ (To 0 ∷ []))

-- where the deposit of this number lies
abbrev deposit_place : ℕ → OutPoint
deposit_place n = record { txid = replicate 32 7; vout = n }

-- where the contract begins
abbrev root_place : OutPoint
root_place = (root_standing weigh keys (deal a_bet)).output.outpoint

pub may_begin : told a_bet all_signed [] (line (codes "height 101") [])
    ≡
    line (codes "height 101") (
    line (codes "can init") [])
unfolding digits label_text stripped marked compact position_script item_of_number signed_bytes number_of_item many wide_at compact_at
    string_at input_at inputs_at output_at outputs_at witness_at witnesses_at plain_at marked_at transaction_at all_at script_meaning ops_of
    places_list sequences_list outputs_list preimage
may_begin = refl

pub begun : told a_bet (all_but (codes "r.1") (codes "B:0:r.1:B")) []
    (line (codes "height 699000") (line (sent a_bet names.Init) (line (codes "height 699100") [])))
    ≡
    line (codes "confirmed init 699000") (
    line (codes "step authinit 0 A x") (
    line (codes "step authinit 0 B y") (
    line (codes "step init 0 -> #2") (
    line (codes "live #2 r " ++ (shown_txid a_bet names.Init ++ codes " 0 119000")) (
    line (codes "height 699100") (
    line (codes "cannot r.0") (
    line (codes "needs secret a of A") (
    line (codes "cannot r.1") (
    line (codes "needs height 700000") (
    line (codes "needs signature r.1 0 B:0:r.1:B authorise") (
    line (codes "waits A") (
    line (codes "waits B") []))))))))))))
unfolding digits label_text stripped marked compact position_script item_of_number signed_bytes number_of_item many wide_at compact_at
    string_at input_at inputs_at output_at outputs_at witness_at witnesses_at plain_at marked_at transaction_at all_at script_meaning ops_of
    places_list sequences_list outputs_list preimage
begun = refl

pub lock_before : told a_bet all_signed [] (line (codes "height 699000") (line (sent a_bet names.Init) (line (codes "height 699999") [])))
    ≡
    line (codes "confirmed init 699000") (
    line (codes "step authinit 0 A x") (
    line (codes "step authinit 0 B y") (
    line (codes "step init 0 -> #2") (
    line (codes "live #2 r " ++ (shown_txid a_bet names.Init ++ codes " 0 119000")) (
    line (codes "height 699999") (
    line (codes "cannot r.0") (
    line (codes "needs secret a of A") (
    line (codes "cannot r.1") (
    line (codes "needs height 700000") (
    line (codes "waits A") []))))))))))
unfolding digits label_text stripped marked compact position_script item_of_number signed_bytes number_of_item many wide_at compact_at
    string_at input_at inputs_at output_at outputs_at witness_at witnesses_at plain_at marked_at transaction_at all_at script_meaning ops_of
    places_list sequences_list outputs_list preimage
lock_before = refl

pub lock_reached : told a_bet all_signed a_bet.strings (line (codes "height 699000") (line (sent a_bet names.Init) (line (codes "height 700000") [])))
    ≡
    line (codes "confirmed init 699000") (
    line (codes "step authinit 0 A x") (
    line (codes "step authinit 0 B y") (
    line (codes "step init 0 -> #2") (
    line (codes "live #2 r " ++ (shown_txid a_bet names.Init ++ codes " 0 119000")) (
    line (codes "secret a 00112233445566778899aabbccddeeff0102") (
    line (codes "height 700000") (
    line (codes "can r.0") (
    line (codes "can r.1") []))))))))
unfolding digits label_text stripped marked compact position_script item_of_number signed_bytes number_of_item many wide_at compact_at
    string_at input_at inputs_at output_at outputs_at witness_at witnesses_at plain_at marked_at transaction_at all_at script_meaning ops_of
    places_list sequences_list outputs_list preimage
lock_reached = refl

pub shown : told a_bet all_signed []
    (line (codes "height 699000") (line (sent a_bet names.Init) (line (codes "height 699200") (line (sent a_bet reveal) (line (codes "height 699201") [])))))
    ≡
    line (codes "confirmed init 699000") (
    line (codes "step authinit 0 A x") (
    line (codes "step authinit 0 B y") (
    line (codes "step init 0 -> #2") (
    line (codes "confirmed r.0 699200") (
    line (codes "step reveal 0 A a") (
    line (codes "step putreveal #2 0 -> #3") (
    line (codes "live #3 r.0 " ++ (shown_txid a_bet reveal ++ codes " 0 118000")) (
    line (codes "secret a 00112233445566778899aabbccddeeff0102") (
    line (codes "height 699201") (
    line (codes "can r.0.0") []))))))))))
unfolding digits label_text stripped marked compact position_script item_of_number signed_bytes number_of_item many wide_at compact_at
    string_at input_at inputs_at output_at outputs_at witness_at witnesses_at plain_at marked_at transaction_at all_at script_meaning ops_of
    places_list sequences_list outputs_list preimage
shown = refl

pub paid_late : told a_bet all_signed []
    (line (codes "height 699000") (line (sent a_bet names.Init) (line (codes "height 700001") (line (sent a_bet late) []))))
    ≡
    line (codes "confirmed init 699000") (
    line (codes "step authinit 0 A x") (
    line (codes "step authinit 0 B y") (
    line (codes "step init 0 -> #2") (
    line (codes "confirmed r.1 700001") (
    line (codes "step authbranch B #2 1") (
    line (codes "step withdraw #2 1 -> #3") (
    line (codes "paid #3 B " ++ (shown_txid a_bet late ++ codes " 0 118000")) (
    line (codes "height 700001") []))))))))
unfolding digits label_text stripped marked compact position_script item_of_number signed_bytes number_of_item many wide_at compact_at
    string_at input_at inputs_at output_at outputs_at witness_at witnesses_at plain_at marked_at transaction_at all_at script_meaning ops_of
    places_list sequences_list outputs_list preimage
paid_late = refl

-- ---- refused chains

pub begun_twice : told a_bet unsigned [] (line (codes "height 699000") (line (sent a_bet names.Init) (line (sent a_bet names.Init) [])))
    ≡
    line (codes "chain refused line 3 input 0") []
unfolding digits label_text stripped marked compact position_script item_of_number signed_bytes number_of_item many wide_at compact_at
    string_at input_at inputs_at output_at outputs_at witness_at witnesses_at plain_at marked_at transaction_at all_at script_meaning ops_of
    places_list sequences_list outputs_list preimage
begun_twice = refl

pub position_that_is_not_made : told a_bet unsigned []
    (line (codes "height 699000") (line (sent a_bet names.Init) (line (codes "height 699001") (line (sent a_bet paid) []))))
    ≡
    line (codes "chain refused line 4 input 0") []
unfolding digits label_text stripped marked compact position_script item_of_number signed_bytes number_of_item many wide_at compact_at
    string_at input_at inputs_at output_at outputs_at witness_at witnesses_at plain_at marked_at transaction_at all_at script_meaning ops_of
    places_list sequences_list outputs_list preimage
position_that_is_not_made = refl

pub deposit_that_is_gone : told a_bet unsigned []
    (line (codes "height 699000") (line (line_of_tx (stranger (deposit_place 1) [])) (line (sent a_bet names.Init) [])))
    ≡
    line (codes "chain refused line 3 input 1") []
unfolding digits label_text stripped marked compact position_script item_of_number signed_bytes number_of_item many wide_at compact_at
    string_at input_at inputs_at output_at outputs_at witness_at witnesses_at plain_at marked_at transaction_at all_at script_meaning ops_of
    places_list sequences_list outputs_list preimage
deposit_that_is_gone = refl

pub position_spent_otherwise : told a_bet unsigned []
    (line (codes "height 699000") (line (sent a_bet names.Init) (line (line_of_tx (stranger root_place [])) [])))
    ≡
    line (codes "chain refused line 3 foreign 0") []
unfolding digits label_text stripped marked compact position_script item_of_number signed_bytes number_of_item many wide_at compact_at
    string_at input_at inputs_at output_at outputs_at witness_at witnesses_at plain_at marked_at transaction_at all_at script_meaning ops_of
    places_list sequences_list outputs_list preimage
position_spent_otherwise = refl

pub lock_not_below : told a_bet unsigned []
    (line (codes "height 699000") (line (sent a_bet names.Init) (line (codes "height 700000") (line (sent a_bet late) []))))
    ≡
    line (codes "chain refused line 4 lock") []
unfolding digits label_text stripped marked compact position_script item_of_number signed_bytes number_of_item many wide_at compact_at
    string_at input_at inputs_at output_at outputs_at witness_at witnesses_at plain_at marked_at transaction_at all_at script_meaning ops_of
    places_list sequences_list outputs_list preimage
lock_not_below = refl

pub no_witness : told a_bet unsigned [] (line (codes "height 699000") (line (bare a_bet names.Init) []))
    ≡
    line (codes "chain refused line 2 witness 0") []
unfolding digits label_text stripped marked compact position_script item_of_number signed_bytes number_of_item many wide_at compact_at
    string_at input_at inputs_at output_at outputs_at witness_at witnesses_at plain_at marked_at transaction_at all_at script_meaning ops_of
    places_list sequences_list outputs_list preimage
no_witness = refl

pub another_string : told a_bet unsigned [] (line (codes "height 699000")
    (line (sent a_bet names.Init) (line (sent_with (string a (codes "00112233445566778899aabbccddeeff0103") ∷ []) a_bet reveal) [])))
    ≡
    line (codes "chain refused line 3 witness 0") []
unfolding digits label_text stripped marked compact position_script item_of_number signed_bytes number_of_item many wide_at compact_at
    string_at input_at inputs_at output_at outputs_at witness_at witnesses_at plain_at marked_at transaction_at all_at script_meaning ops_of
    places_list sequences_list outputs_list preimage
another_string = refl

pub string_of_length_3 : told long_bet unsigned [] (line (codes "height 699000") (line (sent long_bet names.Init) (line (sent long_bet reveal) [])))
    ≡
    line (codes "chain refused line 3 witness 0") []
unfolding digits label_text stripped marked compact position_script item_of_number signed_bytes number_of_item many wide_at compact_at
    string_at input_at inputs_at output_at outputs_at witness_at witnesses_at plain_at marked_at transaction_at all_at script_meaning ops_of
    places_list sequences_list outputs_list preimage
string_of_length_3 = refl

-- the second of two witnesses changed
abbrev second_changed : (List (List ℕ) → List (List ℕ)) → List TxIn → List TxIn
second_changed change [] = []
second_changed change (i ∷ []) = i ∷ []
second_changed change (i ∷ (j ∷ is)) = i ∷ record j { witness = change j.witness } ∷ is

abbrev first_changed : (List (List ℕ) → List (List ℕ)) → List TxIn → List TxIn
first_changed change [] = []
first_changed change (i ∷ is) = record i { witness = change i.witness } ∷ is

abbrev long_first : List (List ℕ) → List (List ℕ)
long_first [] = []
long_first (x ∷ xs) = replicate 521 0 ∷ xs

pub an_item_more : told a_bet unsigned [] (line (codes "height 699000") (line (sent_but (second_changed (λ items. (7 ∷ []) ∷ items)) a_bet names.Init) []))
    ≡
    line (codes "chain refused line 2 witness 1") []
unfolding digits label_text stripped marked compact position_script item_of_number signed_bytes number_of_item many wide_at compact_at
    string_at input_at inputs_at output_at outputs_at witness_at witnesses_at plain_at marked_at transaction_at all_at script_meaning ops_of
    places_list sequences_list outputs_list preimage
an_item_more = refl

pub another_script : told a_bet unsigned []
    (line (codes "height 699000") (line (sent_but (second_changed (λ items. items_of items ++ party_script weigh keys A ∷ [])) a_bet names.Init) []))
    ≡
    line (codes "chain refused line 2 witness 1") []
unfolding digits label_text stripped marked compact position_script item_of_number signed_bytes number_of_item many wide_at compact_at
    string_at input_at inputs_at output_at outputs_at witness_at witnesses_at plain_at marked_at transaction_at all_at script_meaning ops_of
    places_list sequences_list outputs_list preimage
another_script = refl

pub an_item_of_521_bytes : told a_bet unsigned []
    (line (codes "height 699000") (line (sent a_bet names.Init) (line (sent_but (first_changed long_first) a_bet reveal) [])))
    ≡
    line (codes "chain refused line 3 witness 0") []
unfolding digits label_text stripped marked compact position_script item_of_number signed_bytes number_of_item many wide_at compact_at
    string_at input_at inputs_at output_at outputs_at witness_at witnesses_at plain_at marked_at transaction_at all_at script_meaning ops_of
    places_list sequences_list outputs_list preimage
an_item_of_521_bytes = refl

-- ---- an endorsement that is missing

pub one_endorsement_short : told a_bet (all_but (codes "r.0.0") (codes "B:0:r.0.0:B")) [] (line (codes "height 699000") [])
    ≡
    line (codes "height 699000") (
    line (codes "cannot init") (
    line (codes "needs signature r.0.0 0 B:0:r.0.0:B endorse") (
    line (codes "waits B") [])))
unfolding digits label_text stripped marked compact position_script item_of_number signed_bytes number_of_item many wide_at compact_at
    string_at input_at inputs_at output_at outputs_at witness_at witnesses_at plain_at marked_at transaction_at all_at script_meaning ops_of
    places_list sequences_list outputs_list preimage
one_endorsement_short = refl
