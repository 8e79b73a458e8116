-- Worked chains of other contracts and with other transactions, each by computation alone; and states that are read as files of secrets.
use Rattle.std.proofs.Common.{◌≡◌, ℕ, List, [], ◌∷◌, ◌++◌, refl}
use Rattle.std.specs.Prelude.{codes, map, replicate}
use Rattle.std.specs.Fmt.{digits}
use Rattle.spec_bitcoin.specs.Keys.{label_text}
use Rattle.spec_bitcoin.specs.Meaning.{script_meaning}
use Rattle.spec_bitcoin.specs.Numbers.{item_of_number, signed_bytes, number_of_item}
use Rattle.spec_bitcoin.specs.Reading.{many, wide_at, compact_at, string_at, input_at, inputs_at, output_at, outputs_at, witness_at}
use Rattle.spec_bitcoin.specs.Reading.{witnesses_at, plain_at, marked_at, transaction_at, all_at}
use Rattle.spec_bitcoin.specs.Scripts.{ops_of}
use Rattle.spec_bitcoin.specs.Spelling.{stripped, compact, marked}
use Rattle.spec_bitcoin.specs.Digests.{txid, places_list, sequences_list, outputs_list, preimage}
use Rattle.spec_bitcoin.specs.declared.tx.OutPoint.{OutPoint}
use Rattle.spec_bitcoin.specs.declared.tx.Tx.{Tx}
use Rattle.spec_terms.specs.Term.{always, after, put_reveal, withdraw, split, no_branch, branch, part, no_part}
use Rattle.spec_terms.specs.declared.path.PathStep.TheVariants.{Branch as To, Part as Into}
use Rattle.spec_compiler.specs.Keyed.Instance.{position_script}
use Rattle.spec_tool.specs.declared.which.Which.{Which}
use Rattle.spec_tool.specs.declared.which.Which.TheVariants as names
use Rattle.spec_tool.specs.Keyed.Listed.{Listed, path_signers}
use Rattle.spec_deal.specs.declared.entry.Shown.{Shown}
use Rattle.spec_deal.specs.Finished.{finished}
use Rattle.spec_deal.specs.RefusedText.{secrets_refused_line}
use Rattle.spec_deal.specs.SecretFile.{shows, refused, collided, read_behind}
use Rattle.spec_deal.proofs.FileVectors.{line, weigh, bet, twin, put, pair, A, B, a, z}
use Rattle.spec_deal.proofs.SignatureVectors.{keys}
use Rattle.spec_chain.specs.StateText.{txid_text}
use Rattle.spec_chain.proofs.DealVectors.{Vectors, string, deal, all_signed, unsigned, of_listed, sent, shown_txid, stranger, line_of_tx, told, stranger_of}
use Rattle.spec_chain.proofs.StateVectors.{a_bet}

abbrev first : Which
first = names.At (To 0 ∷ [])

abbrev second : Which
second = names.At (To 1 ∷ [])

-- where the deposit of this number lies
abbrev deposit_place : ℕ → OutPoint
deposit_place n = record { txid = replicate 32 7; vout = n }

abbrev stranger_line : ℕ → List (List ℕ) → List ℕ
stranger_line n items = line_of_tx (stranger (deposit_place n) items)

-- a stranger's txid as wallets show it
abbrev stranger_txid : ℕ → List (List ℕ) → List ℕ
stranger_txid n items = txid_text (txid weigh (stranger (deposit_place n) items))

abbrev a_twin : Vectors
a_twin = record { advert = twin; strings = [] }

abbrev a_put : Vectors
a_put = record { advert = put; strings = [] }

-- both secrets have length 1
abbrev a_pair : Vectors
a_pair = record {
  advert = pair;
  strings = string a (codes "05213f2fdc28f94395b6b582aef26a1294") ∷ string (codes "b") (codes "8db373a68a9a9970f1aac10b16595ced63") ∷ [];
}

-- both parts may put the third deposit
abbrev a_split : Vectors
a_split = record {
  advert = record {
    pre = put.pre;
    fee = 1000;
    root =
        branch (split (
        part 30000 (branch (put_reveal (z ∷ []) [] always (branch (withdraw A) no_branch)) no_branch) (
        part 38000
        (branch (put_reveal (z ∷ []) [] always (branch (withdraw B) no_branch)) (branch (after 5 (withdraw A)) no_branch)) no_part)))
        no_branch;
  };
  strings = [];
}

abbrev put_in : Which
put_in = names.At (To 0 ∷ (Into 0 ∷ (To 0 ∷ [])))

pub second_of_two_paths : told a_twin all_signed []
    (line (codes "height 1") (line (sent a_twin names.Init) (line (codes "height 2") (line (sent a_twin second) []))))
    ≡
    line (codes "confirmed init 1") (
    line (codes "step authinit 0 A x") (
    line (codes "step authinit 0 B y") (
    line (codes "step init 0 -> #2") (
    line (codes "confirmed r.1 2") (
    line (codes "step authbranch B #2 1") (
    line (codes "step withdraw #2 1 -> #3") (
    line (codes "paid #3 B " ++ (shown_txid a_twin second ++ codes " 0 78000")) (
    line (codes "height 2") []))))))))
unfolding digits label_text stripped marked compact position_script item_of_number signed_bytes number_of_item many wide_at compact_at
    string_at input_at inputs_at output_at outputs_at witness_at witnesses_at plain_at marked_at transaction_at all_at script_meaning ops_of
    places_list sequences_list outputs_list preimage
second_of_two_paths = refl

pub deposit_gone : told a_put all_signed []
    (line (codes "height 699000") (line (sent a_put names.Init) (line (codes "height 699001") (line (stranger_line 2 []) (line (codes "height 699002") [])))))
    ≡
    line (codes "confirmed init 699000") (
    line (codes "step authinit 0 A x") (
    line (codes "step authinit 0 B y") (
    line (codes "step init 0 -> #3") (
    line (codes "confirmed " ++ (stranger_txid 2 [] ++ codes " 699001")) (
    line (codes "gone z") (
    line (codes "live #3 r " ++ (shown_txid a_put names.Init ++ codes " 0 69000")) (
    line (codes "height 699002") (
    line (codes "cannot r.0") (
    line (codes "needs deposit z") (
    line (codes "never: deposit gone") (
    line (codes "cannot r.1") (
    line (codes "needs height 700100") []))))))))))))
unfolding digits label_text stripped marked compact position_script item_of_number signed_bytes number_of_item many wide_at compact_at
    string_at input_at inputs_at output_at outputs_at witness_at witnesses_at plain_at marked_at transaction_at all_at script_meaning ops_of
    places_list sequences_list outputs_list preimage
deposit_gone = refl

pub false_and_gone : told a_pair unsigned a_pair.strings
    (line (codes "height 1") (line (sent a_pair names.Init) (line (stranger_line 2 []) (line (codes "height 2") []))))
    ≡
    line (codes "confirmed init 1") (
    line (codes "step authinit 0 A x") (
    line (codes "step authinit 0 B y") (
    line (codes "step init 0 -> #3") (
    line (codes "confirmed " ++ (stranger_txid 2 [] ++ codes " 1")) (
    line (codes "gone z") (
    line (codes "live #3 r " ++ (shown_txid a_pair names.Init ++ codes " 0 69000")) (
    line (codes "secret a 05213f2fdc28f94395b6b582aef26a1294") (
    line (codes "secret b 8db373a68a9a9970f1aac10b16595ced63") (
    line (codes "height 2") (
    line (codes "cannot r.0") (
    line (codes "needs signature r.0 0 B:0:r.0:A endorse") (
    line (codes "needs signature r.0 0 B:0:r.0:B authorise") (
    line (codes "needs signature r.0 1 D:B endorse") (
    line (codes "needs deposit z") (
    line (codes "never: deposit gone") (
    line (codes "never: predicate false") (
    line (codes "cannot r.1") (
    line (codes "needs height 700100") (
    line (codes "needs signature r.1 0 B:0:r.1:A endorse") (
    line (codes "needs signature r.1 0 B:0:r.1:B endorse") (
    line (codes "waits A") (
    line (codes "waits B") []))))))))))))))))))))))
unfolding digits label_text stripped marked compact position_script item_of_number signed_bytes number_of_item many wide_at compact_at
    string_at input_at inputs_at output_at outputs_at witness_at witnesses_at plain_at marked_at transaction_at all_at script_meaning ops_of
    places_list sequences_list outputs_list preimage
false_and_gone = refl

pub put_by_another_part : told a_split all_signed []
    (line (codes "height 1") (line (sent a_split names.Init) (line (sent a_split first) (line (codes "height 2") (line (sent a_split put_in) [])))))
    ≡
    line (codes "confirmed init 1") (
    line (codes "step authinit 0 A x") (
    line (codes "step authinit 0 B y") (
    line (codes "step init 0 -> #3") (
    line (codes "confirmed r.0 1") (
    line (codes "step split #3 0 -> #4 #5") (
    line (codes "confirmed r.0/0.0 2") (
    line (codes "step putreveal #4 0 -> #6") (
    line (codes "live #5 r.0/1 " ++ (shown_txid a_split first ++ codes " 1 38000")) (
    line (codes "live #6 r.0/0.0 " ++ (shown_txid a_split put_in ++ codes " 0 59000")) (
    line (codes "height 2") (
    line (codes "cannot r.0/1.0") (
    line (codes "needs deposit z") (
    line (codes "never: deposit gone") (
    line (codes "cannot r.0/1.1") (
    line (codes "needs height 5") (
    line (codes "can r.0/0.0.0") []))))))))))))))))
unfolding digits label_text stripped marked compact position_script item_of_number signed_bytes number_of_item many wide_at compact_at
    string_at input_at inputs_at output_at outputs_at witness_at witnesses_at plain_at marked_at transaction_at all_at script_meaning ops_of
    places_list sequences_list outputs_list preimage
put_by_another_part = refl

-- the items of a witness that shows the secret of the bet
abbrev showing : List (List ℕ)
showing = (7 ∷ []) ∷ map (λ (x : Shown). x.bytes) a_bet.strings

pub shown_elsewhere : told a_bet all_signed [] (line (codes "height 698000") (line (stranger_line 0 showing) (line (codes "height 699000") [])))
    ≡
    line (codes "confirmed " ++ (stranger_txid 0 showing ++ codes " 698000")) (
    line (codes "step reveal 0 A a") (
    line (codes "gone x") (
    line (codes "secret a 00112233445566778899aabbccddeeff0102") (
    line (codes "height 699000") (
    line (codes "cannot init") (
    line (codes "needs deposit x") (
    line (codes "never: deposit gone") [])))))))
unfolding digits label_text stripped marked compact position_script item_of_number signed_bytes number_of_item many wide_at compact_at
    string_at input_at inputs_at output_at outputs_at witness_at witnesses_at plain_at marked_at transaction_at all_at script_meaning ops_of
    places_list sequences_list outputs_list preimage
shown_elsewhere = refl

-- the late branch's transaction with a witness of the first branch, whose signatures are empty
abbrev crossed : List ℕ
crossed =
    of_listed (λ (l : Listed). line_of_tx (finished weigh keys (deal a_bet) [] a_bet.strings
    (record l { which = first; signers = path_signers (deal a_bet) (To 0 ∷ []) }))) a_bet second

pub branch_of_another_transaction : told a_bet unsigned []
    (line (codes "height 699000") (line (sent a_bet names.Init) (line (codes "height 700001") (line (crossed) []))))
    ≡
    line (codes "chain refused line 4 branch") []
unfolding digits label_text stripped marked compact position_script item_of_number signed_bytes number_of_item many wide_at compact_at
    string_at input_at inputs_at output_at outputs_at witness_at witnesses_at plain_at marked_at transaction_at all_at script_meaning ops_of
    places_list sequences_list outputs_list preimage
branch_of_another_transaction = refl

-- a secret of 15 bytes, whose hash the deal has
abbrev short_bet : Vectors
short_bet = record { advert = bet; strings = string a (codes "00112233445566778899aabbccddee") ∷ [] }

abbrev showing_less : List (List ℕ)
showing_less = map (λ (x : Shown). x.bytes) short_bet.strings

pub short_string : told short_bet unsigned [] (line (codes "height 698000") (line (stranger_line 1 showing_less) (line (codes "height 699000") [])))
    ≡
    line (codes "confirmed " ++ (stranger_txid 1 showing_less ++ codes " 698000")) (
    line (codes "gone y") (
    line (codes "height 699000") (
    line (codes "cannot init") (
    line (codes "needs signature init 0 D:A init") (
    line (codes "needs signature init 1 D:B init") (
    line (codes "needs signature r.0 0 B:0:r.0:A endorse") (
    line (codes "needs signature r.0 0 B:0:r.0:B endorse") (
    line (codes "needs signature r.0.0 0 B:0:r.0.0:A endorse") (
    line (codes "needs signature r.0.0 0 B:0:r.0.0:B endorse") (
    line (codes "needs signature r.1 0 B:0:r.1:A endorse") (
    line (codes "needs deposit y") (
    line (codes "never: deposit gone") []))))))))))))
unfolding digits label_text stripped marked compact position_script item_of_number signed_bytes number_of_item many wide_at compact_at
    string_at input_at inputs_at output_at outputs_at witness_at witnesses_at plain_at marked_at transaction_at all_at script_meaning ops_of
    places_list sequences_list outputs_list preimage
short_string = refl

-- a stranger's transaction that spends the second deposit and then the first
abbrev both_taken : Tx
both_taken = stranger_of (deposit_place 1 ∷ deposit_place 0 ∷ []) []

pub nobody_signed : told a_put unsigned [] (line (codes "height 698000") (line (line_of_tx both_taken) (line (codes "height 699000") [])))
    ≡
    line (codes "confirmed " ++ (txid_text (txid weigh both_taken) ++ codes " 698000")) (
    line (codes "gone y") (
    line (codes "gone x") (
    line (codes "height 699000") (
    line (codes "cannot init") (
    line (codes "needs signature init 0 D:A init") (
    line (codes "needs signature init 1 D:B init") (
    line (codes "needs signature r.0 0 B:0:r.0:A endorse") (
    line (codes "needs signature r.0 0 B:0:r.0:B endorse") (
    line (codes "needs signature r.0 1 D:B endorse") (
    line (codes "needs signature r.0.0 0 B:0:r.0.0:A endorse") (
    line (codes "needs signature r.0.0 0 B:0:r.0.0:B endorse") (
    line (codes "needs signature r.1 0 B:0:r.1:A endorse") (
    line (codes "needs signature r.1 0 B:0:r.1:B endorse") (
    line (codes "needs deposit x") (
    line (codes "needs deposit y") (
    line (codes "never: deposit gone") []))))))))))))))))
unfolding digits label_text stripped marked compact position_script item_of_number signed_bytes number_of_item many wide_at compact_at
    string_at input_at inputs_at output_at outputs_at witness_at witnesses_at plain_at marked_at transaction_at all_at script_meaning ops_of
    places_list sequences_list outputs_list preimage
nobody_signed = refl

pub one_of_two_secrets : told a_pair all_signed (string (codes "b") (codes "8db373a68a9a9970f1aac10b16595ced63") ∷ [])
    (line (codes "height 1") (line (sent a_pair names.Init) (line (codes "height 2") [])))
    ≡
    line (codes "confirmed init 1") (
    line (codes "step authinit 0 A x") (
    line (codes "step authinit 0 B y") (
    line (codes "step init 0 -> #3") (
    line (codes "live #3 r " ++ (shown_txid a_pair names.Init ++ codes " 0 69000")) (
    line (codes "secret b 8db373a68a9a9970f1aac10b16595ced63") (
    line (codes "height 2") (
    line (codes "cannot r.0") (
    line (codes "needs secret a of A") (
    line (codes "cannot r.1") (
    line (codes "needs height 700100") (
    line (codes "waits A") [])))))))))))
unfolding digits label_text stripped marked compact position_script item_of_number signed_bytes number_of_item many wide_at compact_at
    string_at input_at inputs_at output_at outputs_at witness_at witnesses_at plain_at marked_at transaction_at all_at script_meaning ops_of
    places_list sequences_list outputs_list preimage
one_of_two_secrets = refl

-- ---- states as files of secrets

abbrev string_names : List Shown → List ℕ
string_names [] = []
string_names (x ∷ xs) = line x.name (string_names xs)

-- the strings that a text gives to the bet's secrets, or why it is refused
abbrev read_again : List ℕ → List ℕ
read_again text = elim (read_behind weigh (deal a_bet) [] text) [
  | shows strings ↦ string_names strings
  | refused fault ↦ secrets_refused_line fault
  | collided earlier later ↦ codes "collided"
]

pub state_read_again : read_again
    (line (codes "confirmed init 699000") (line (codes "step authinit 0 A x") (line (codes "gone x") (line (codes "live #3 r.0 00 0 118000")
    (line (codes "paid #4 A 00 0 1") (line (codes "secret a 00112233445566778899aabbccddeeff0102") (line (codes "height 699201") (line (codes "can r.0.0")
    (line (codes "cannot r.1") (line (codes "needs secret a of A") (line (codes "never: deposit gone") (line (codes "waits A") []))))))))))))
    ≡ line a []
state_read_again = refl

pub other_words_refused : read_again (line (codes "step") (line (codes "height ..") (line (codes "secrets a 00") [])))
    ≡ line (codes "secrets refused line 3 form") []
unfolding digits
other_words_refused = refl
