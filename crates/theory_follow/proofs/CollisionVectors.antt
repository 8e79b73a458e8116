-- Worked chains whose strings collide, each by computation alone, by a hash that has collisions.
use Rattle.std.proofs.Common.{◌≡◌, ℕ, List, [], ◌∷◌, ◌++◌, refl}
use Rattle.std.specs.Prelude.{codes, replicate}
use Rattle.std.specs.Fmt.{digits}
use Rattle.spec_data.specs.Digits.{hex_text}
use Rattle.spec_bitcoin.specs.declared.tx.OutPoint.{OutPoint}
use Rattle.spec_bitcoin.specs.Keys.{label_text}
use Rattle.spec_bitcoin.specs.Meaning.{script_meaning}
use Rattle.spec_bitcoin.specs.Numbers.{item_of_number, signed_bytes, number_of_item}
use Rattle.spec_bitcoin.specs.Reading.{many, wide_at, compact_at, string_at, input_at, inputs_at, output_at, outputs_at, witness_at}
use Rattle.spec_bitcoin.specs.Reading.{witnesses_at, plain_at, marked_at, transaction_at, all_at}
use Rattle.spec_bitcoin.specs.Scripts.{ops_of}
use Rattle.spec_bitcoin.specs.Spelling.{stripped, compact, marked}
use Rattle.spec_bitcoin.specs.Digests.{places_list, sequences_list, outputs_list, preimage}
use Rattle.spec_compiler.specs.Keyed.Instance.{position_script}
use Rattle.spec_compiler.specs.Keyed.Transactions.{root_standing}
use Rattle.spec_tool.specs.declared.which.Which.TheVariants as names
use Rattle.spec_deal.proofs.FileVectors.{line, weigh}
use Rattle.spec_deal.proofs.SignatureVectors.{keys}
use Rattle.spec_chain.specs.Chain.{stands, refused, collided, follow_chain}
use Rattle.spec_chain.specs.RefusedText.{chain_refused_line}
use Rattle.spec_chain.proofs.DealVectors.{Vectors, deal, sent, stranger, line_of_tx}
use Rattle.spec_chain.proofs.StateVectors.{a_bet}

-- where the deposit of this number lies
abbrev deposit_place : ℕ → OutPoint
deposit_place n = record { txid = replicate 32 7; vout = n }

-- where the contract begins
abbrev root_place : OutPoint
root_place = (root_standing weigh keys (deal a_bet)).output.outpoint

-- two strings with one hash
abbrev one : List ℕ
one = 1 ∷ (0 ∷ [])

abbrev two : List ℕ
two = 0 ∷ (31 ∷ [])

they_have_one_hash : weigh one ≡ weigh two
they_have_one_hash = refl

-- a chain stands, or why it is refused, or the two strings that collide
abbrev comes : Vectors → List ℕ → List ℕ
comes w text = elim (follow_chain weigh keys (deal w) text) [
  | stands course tip ↦ codes "stands"
  | refused fault ↦ chain_refused_line fault
  | collided earlier later ↦ hex_text earlier ++ (codes " " ++ hex_text later)
]

-- the line of a stranger's transaction that spends deposit place 9 with these items
abbrev shown : List (List ℕ) → List ℕ
shown items = line_of_tx (stranger (deposit_place 9) items)

in_one_transaction : comes a_bet (line (codes "height 1") (line (shown (one ∷ (two ∷ []))) [])) ≡ codes "0100 001f"
unfolding digits label_text stripped marked compact position_script item_of_number signed_bytes number_of_item many wide_at compact_at
    string_at input_at inputs_at output_at outputs_at witness_at witnesses_at plain_at marked_at transaction_at all_at script_meaning ops_of
    places_list sequences_list outputs_list preimage
in_one_transaction = refl

-- the earlier one first
in_two_transactions : comes a_bet (line (codes "height 1") (line (shown (two ∷ [])) (line (line_of_tx (stranger (deposit_place 8) (one ∷ []))) [])))
    ≡ codes "001f 0100"
unfolding digits label_text stripped marked compact position_script item_of_number signed_bytes number_of_item many wide_at compact_at
    string_at input_at inputs_at output_at outputs_at witness_at witnesses_at plain_at marked_at transaction_at all_at script_meaning ops_of
    places_list sequences_list outputs_list preimage
in_two_transactions = refl

-- a string doesn't collide with itself
one_string_twice : comes a_bet (line (codes "height 1") (line (shown (one ∷ (one ∷ []))) [])) ≡ codes "stands"
unfolding digits label_text stripped marked compact position_script item_of_number signed_bytes number_of_item many wide_at compact_at
    string_at input_at inputs_at output_at outputs_at witness_at witnesses_at plain_at marked_at transaction_at all_at script_meaning ops_of
    places_list sequences_list outputs_list preimage
one_string_twice = refl

-- strings collide before it is asked what is spent
before_a_bad_input : comes a_bet (line (codes "height 1") (line (sent a_bet names.Init) (line (line_of_tx (stranger root_place (one ∷ (two ∷ [])))) [])))
    ≡ codes "0100 001f"
unfolding digits label_text stripped marked compact position_script item_of_number signed_bytes number_of_item many wide_at compact_at
    string_at input_at inputs_at output_at outputs_at witness_at witnesses_at plain_at marked_at transaction_at all_at script_meaning ops_of
    places_list sequences_list outputs_list preimage
before_a_bad_input = refl

bad_input_alone : comes a_bet (line (codes "height 1") (line (sent a_bet names.Init) (line (line_of_tx (stranger root_place (one ∷ []))) [])))
    ≡ line (codes "chain refused line 3 foreign 0") []
unfolding digits label_text stripped marked compact position_script item_of_number signed_bytes number_of_item many wide_at compact_at
    string_at input_at inputs_at output_at outputs_at witness_at witnesses_at plain_at marked_at transaction_at all_at script_meaning ops_of
    places_list sequences_list outputs_list preimage
bad_input_alone = refl

-- a bad line refuses the file only if no strings before it collide
before_a_bad_line : comes a_bet (line (codes "height 1") (line (shown (one ∷ (two ∷ []))) (line (codes "Height 2") []))) ≡ codes "0100 001f"
unfolding digits label_text stripped marked compact position_script item_of_number signed_bytes number_of_item many wide_at compact_at
    string_at input_at inputs_at output_at outputs_at witness_at witnesses_at plain_at marked_at transaction_at all_at script_meaning ops_of
    places_list sequences_list outputs_list preimage
before_a_bad_line = refl

behind_a_bad_line : comes a_bet (line (codes "height 1") (line (codes "Height 2") (line (shown (one ∷ (two ∷ []))) [])))
    ≡ line (codes "chain refused line 2 form") []
unfolding digits label_text stripped marked compact position_script item_of_number signed_bytes number_of_item many wide_at compact_at
    string_at input_at inputs_at output_at outputs_at witness_at witnesses_at plain_at marked_at transaction_at all_at script_meaning ops_of
    places_list sequences_list outputs_list preimage
behind_a_bad_line = refl
