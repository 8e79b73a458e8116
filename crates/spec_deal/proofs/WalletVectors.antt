-- Test vectors of deals with deposits of wallets, each by computation alone: their lines, and what is needed, missing, held and finished.
use Rattle.std.proofs.Common.{◌≡◌, ℕ, List, [], ◌∷◌, ◌++◌, refl}
use Rattle.std.specs.Prelude.{codes, map, filter, replicate, ◌==◌, false, is_some, Option, Some, None, Ok, Err}
use Rattle.std.specs.Fmt.{digits}
use Rattle.spec_data.specs.Digits.{hex_text}
use Rattle.spec_terms.specs.declared.path.PathStep.TheVariants.{Branch as To}
use Rattle.spec_bitcoin.specs.declared.tx.TxOut.{TxOut}
use Rattle.spec_bitcoin.specs.Keys.{label_text}
use Rattle.spec_bitcoin.specs.Numbers.{item_of_number, signed_bytes}
use Rattle.spec_bitcoin.specs.Spelling.{stripped, compact}
use Rattle.spec_compiler.specs.Keyed.OwnScripts.{key_hash_code}
use Rattle.spec_compiler.specs.Keyed.Keys.{Keys, given}
use Rattle.spec_compiler.specs.Keyed.Instance.{position_script}
use Rattle.spec_compiler.specs.Keyed.Transactions.{tx_of, digest_of_spent}
use Rattle.spec_tool.specs.declared.psbt.PsbtInput.{PsbtInput}
use Rattle.spec_tool.specs.declared.which.Which.{Which}
use Rattle.spec_tool.specs.declared.which.Which.TheVariants as names
use Rattle.spec_tool.specs.Keyed.Listed.{Listed, listed_at}
use Rattle.spec_address.specs.Address.{address, read_address}
use Rattle.spec_address.specs.Checksum.{check_values, next_state}
use Rattle.spec_address.specs.Groups.{group_at, byte_at}
use Rattle.spec_deal.specs.declared.signed.Signed.{Signed}
use Rattle.spec_deal.specs.DealFile.{read_deal}
use Rattle.spec_deal.specs.DealText.{missing_text, held_text, unsigned_psbt, input_lines, lines_text}
use Rattle.spec_deal.specs.Finished.{finish_refusal, witnesses}
use Rattle.spec_deal.specs.Given.{endorsements}
use Rattle.spec_deal.specs.Slots.{Slot, slots, slot_bytes, slot_key}
use Rattle.spec_deal.specs.Verifier.{accepting}
use Rattle.spec_deal.proofs.FileVectors.{line, file, refusal, weigh, bet, put, x, y, z}
use Rattle.spec_deal.proofs.FileVectors.{line_1, line_2, line_3, line_4, line_5, line_6, line_7, line_8, line_9, line_10, line_11}
use Rattle.spec_deal.proofs.PayeeVectors.{network, pay, funded}
use Rattle.spec_deal.proofs.SignatureVectors.{setting, refusal_line}

-- ---- deal files

-- with these words behind the lines of the deposits x and y, and without the key of A's deposits
abbrev lines : List ℕ → List ℕ → List (List ℕ)
lines own_x own_y =
    network ∷ pay ∷ line_2 ∷ line_3 ∷ line_4 ∷ line_5 ∷ line_6 ∷ line_7 ∷ line_8 ∷ (line_9 ++ own_x) ∷ (line_10 ++ own_y) ∷ line_11 ∷ []

abbrev refused : List (List ℕ) → List ℕ
refused words = refusal (read_deal accepting bet (file words))

abbrev own : List ℕ
own = codes " bcrt1q4qt5w9hzzvfl9lhx544krg0wpwwgg4dc58fzht"

pub wallet_is_taken : refused (lines own []) ≡ []
unfolding digits label_text address read_address check_values next_state group_at byte_at
wallet_is_taken = refl

-- the same script for both
pub one_script_for_two : refused (lines own own) ≡ []
unfolding digits label_text address read_address check_values next_state group_at byte_at
one_script_for_two = refl

pub deposit_with_a_word_more : refused (lines (own ++ codes " 00") []) ≡ line (codes "deal refused line 10 form") []
unfolding digits label_text address read_address check_values next_state group_at byte_at
deposit_with_a_word_more = refl

pub older_script : refused (lines (codes " 76a914a8174716e21313f2fee6a56b61a1ee0b9c8455b888ac") [])
    ≡ line (codes "deal refused line 10 value") []
unfolding digits label_text address read_address check_values next_state group_at byte_at
older_script = refl

pub output_number_too_great :
    refused (network ∷ (codes "deposit x c7d1ca1a29278ff9aa4d23bed0d2f777b570582f3a1ff735b4272fdeb4707691 4294967296" ++ own) ∷ [])
    ≡ line (codes "deal refused line 2 value") []
unfolding digits label_text address read_address check_values next_state group_at byte_at
output_number_too_great = refl

pub deposit_again : refused (lines own [] ++ line_9 ∷ []) ≡ line (codes "deal refused line 13 repeated 10") []
unfolding digits label_text address read_address check_values next_state group_at byte_at
deposit_again = refl

pub one_place_for_two :
    refused (network ∷ (line_9 ++ own)
    ∷ (codes "deposit y c7d1ca1a29278ff9aa4d23bed0d2f777b570582f3a1ff735b4272fdeb4707691 0" ++ own) ∷ [])
    ≡ line (codes "deal refused line 3 shared 2") []
unfolding digits label_text address read_address check_values next_state group_at byte_at
one_place_for_two = refl

-- the key of a deposit without a script is needed
pub key_of_a_deposit : refused (lines [] []) ≡ line (codes "deal refused missing key D:A") []
unfolding digits label_text address read_address check_values next_state group_at byte_at
key_of_a_deposit = refl

-- and that of whom a branch pays
pub key_of_a_payee : refused (network ∷ line_2 ∷ line_3 ∷ line_4 ∷ line_5 ∷ line_6 ∷ line_7 ∷ line_8 ∷ (line_9 ++ own) ∷ line_10 ∷ line_11 ∷ [])
    ≡ line (codes "deal refused missing key D:A") []
unfolding digits label_text address read_address check_values next_state group_at byte_at
key_of_a_payee = refl

pub fund_of_a_wallet : funded (network ∷ pay ∷ line_2 ∷ (line_9 ++ own) ∷ [])
    ≡
    line (codes "deposit x c7d1ca1a29278ff9aa4d23bed0d2f777b570582f3a1ff735b4272fdeb4707691 0 100000"
    ++ codes " 0014a8174716e21313f2fee6a56b61a1ee0b9c8455b8 bcrt1q4qt5w9hzzvfl9lhx544krg0wpwwgg4dc58fzht") (
    line (codes "deposit y .. .. 20000 0020697c1a1f642d9dc9f320298a15a6c24c3cf1f2c6931ab893fc4f3a1c721f3d5f"
    ++ codes " bcrt1qd97p58my9kwunueq9x9ptfkzfs70rukxjvdt3ylufuapcusl840s4e0fck") (
    line (codes "pay A 0014519ac751ed0d475eccd4ad428234b7c6e6bafaf0 bcrt1q2xdvw50dp4r4anx544pgyd9hcmnt47hsr3twje") (
    line (codes "pay B 0020697c1a1f642d9dc9f320298a15a6c24c3cf1f2c6931ab893fc4f3a1c721f3d5f"
    ++ codes " bcrt1qd97p58my9kwunueq9x9ptfkzfs70rukxjvdt3ylufuapcusl840s4e0fck") [])))
unfolding digits label_text address read_address check_values next_state group_at byte_at
fund_of_a_wallet = refl

-- ---- a put with three wallets

abbrev pub taproot_script : List ℕ
taproot_script = 0x51 ∷ 32 ∷ replicate 32 9

abbrev pub script_hash_script : List ℕ
script_hash_script = 0 ∷ 32 ∷ replicate 32 8

abbrev pub key_hash_script : List ℕ
key_hash_script = 0 ∷ 20 ∷ replicate 20 7

-- x is for a Taproot key, y for a script's hash, z for a key's
abbrev pub keys : Keys
keys =
    given (λ label. 2 ∷ weigh (label_text label))
    (record { deposits = (x, taproot_script) ∷ (y, script_hash_script) ∷ (z, key_hash_script) ∷ []; payees = [] })

abbrev pub items : List (List ℕ)
items = (1 ∷ 2 ∷ []) ∷ (4 ∷ []) ∷ [] ∷ (3 ∷ []) ∷ []

-- a signature or a witness for each
abbrev pub sign : List Slot → List Signed
sign required =
    map
    (λ slot.
    record { tx = slot_bytes slot; input = slot.input; key = slot_key weigh keys slot; signature = 5 ∷ 6 ∷ []; witness = items })
    required

abbrev all_slots : List Slot
all_slots = slots weigh keys (setting put)

abbrev endorsed : List Signed
endorsed = sign (endorsements weigh keys (setting put))

-- what is printed where these signatures are given
abbrev told : List Signed → List ℕ
told signed = missing_text weigh keys (setting put) signed

pub nothing_signed : told []
    ≡
    line (codes "missing init 0 W:x init") (
    line (codes "missing init 1 W:y init") (
    line (codes "missing r.0 0 B:0:r.0:A endorse") (
    line (codes "missing r.0 0 B:0:r.0:B endorse") (
    line (codes "missing r.0 1 W:z endorse") (
    line (codes "missing r.0.0 0 B:0:r.0.0:A endorse") (
    line (codes "missing r.0.0 0 B:0:r.0.0:B endorse") (
    line (codes "missing r.1 0 B:0:r.1:A endorse") (
    line (codes "missing r.1 0 B:0:r.1:B endorse") (
    line (codes "init not endorsed r.0 A") [])))))))))
unfolding digits label_text stripped compact position_script item_of_number signed_bytes
nothing_signed = refl

pub all_endorsed : told endorsed
    ≡
    line (codes "missing init 0 W:x init") (
    line (codes "missing init 1 W:y init") (
    line (codes "unverified r.0 1 W:z endorse") (
    line (codes "init may be signed once the unverified are checked") [])))
unfolding digits label_text stripped compact position_script item_of_number signed_bytes
all_endorsed = refl

-- a witness of init isn't listed
pub all_signed : told (sign all_slots)
    ≡
    line (codes "unverified r.0 1 W:z endorse") (
    line (codes "init may be signed once the unverified are checked") [])
unfolding digits label_text stripped compact position_script item_of_number signed_bytes
all_signed = refl

pub wallet_not_endorsed : told (sign (filter (λ slot. slot.input == 0) (endorsements weigh keys (setting put))))
    ≡
    line (codes "missing init 0 W:x init") (
    line (codes "missing init 1 W:y init") (
    line (codes "missing r.0 1 W:z endorse") (
    line (codes "init not endorsed r.0 B") [])))
unfolding digits label_text stripped compact position_script item_of_number signed_bytes
wallet_not_endorsed = refl

-- ---- one of its transactions

abbrev of_transaction : {T : Type 0} → T → (Listed → T) → Which → T
of_transaction none made which = elim (listed_at weigh keys (setting put) which) [
  | None ↦ none
  | Some l ↦ made l
]

abbrev putting : Which
putting = names.At (To 0 ∷ [])

-- the digest of the put deposit, by the script of a key's hash
abbrev put_digest : List ℕ
put_digest =
    of_transaction [] (λ l. hex_text (digest_of_spent weigh (tx_of l.pending)
    (record { outpoint = record { txid = replicate 32 7; vout = 2 }; script = key_hash_code (replicate 20 7); value = 30000 }))) putting

pub held_by_wallets : held_text weigh keys (setting put) (sign (filter (λ slot. is_some slot.wallet) all_slots))
    ≡
    line (codes "witness init 0 W:x init 0102 04 - 03") (
    line (codes "witness init 1 W:y init 0102 04 - 03") (
    line (codes "held r.0 1 W:z endorse 04 " ++ (put_digest ++ codes " 0102")) []))
unfolding digits label_text stripped compact position_script item_of_number signed_bytes
held_by_wallets = refl

-- the inputs of a transaction in a plan
abbrev planned : Which → List ℕ
planned which = of_transaction [] (λ l. lines_text (input_lines weigh keys put l 0 l.pending.spends l.signers)) which

-- no digest of a Taproot key or a script's hash is shown
pub planned_init : planned names.Init
    ≡
    line (codes "sign init 0 W:x init") (
    line (codes "sign init 1 W:y init") [])
unfolding digits label_text stripped compact position_script item_of_number signed_bytes
planned_init = refl

pub for_signers : of_transaction [] (λ l. (unsigned_psbt weigh keys put l).inputs) names.Init
    ≡
    record {
      spent = Some (record { value = 50000; script = taproot_script });
      partial = [];
      all = false;
      script = None;
      witness = None;
    }
    ∷ record {
      spent = Some (record { value = 20000; script = script_hash_script });
      partial = [];
      all = false;
      script = None;
      witness = None;
    }
    ∷ []
unfolding digits label_text stripped compact position_script item_of_number signed_bytes
for_signers = refl

-- why one isn't finished with these signatures
abbrev unfinished : List Signed → Which → List ℕ
unfinished signed which = of_transaction [] (λ l. refusal_line (finish_refusal weigh keys (setting put) signed [] l)) which

pub init_before_wallets : unfinished endorsed names.Init ≡ line (codes "refused signature 0 W:x") []
unfolding digits label_text stripped compact position_script item_of_number signed_bytes
init_before_wallets = refl

pub init_before_the_endorsement_of_a_wallet : unfinished (sign (filter (λ slot. slot.input == 0) all_slots)) names.Init
    ≡ line (codes "refused endorsement r.0 B") []
unfolding digits label_text stripped compact position_script item_of_number signed_bytes
init_before_the_endorsement_of_a_wallet = refl

pub put_before_its_wallet : unfinished (sign (filter (λ slot. slot.input == 0) all_slots)) putting ≡ line (codes "refused signature 1 W:z") []
unfolding digits label_text stripped compact position_script item_of_number signed_bytes
put_before_its_wallet = refl

pub finished_init : unfinished (sign all_slots) names.Init ≡ []
unfolding digits label_text stripped compact position_script item_of_number signed_bytes
finished_init = refl

-- each item as it was given
pub witnesses_of_init : of_transaction [] (λ l. witnesses weigh keys (setting put) (sign all_slots) [] l l.which) names.Init
    ≡ items ∷ items ∷ []
unfolding digits label_text stripped compact position_script item_of_number signed_bytes
witnesses_of_init = refl
