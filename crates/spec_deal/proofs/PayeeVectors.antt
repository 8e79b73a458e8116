-- Test vectors of deals that pay to addresses, each by computation alone: files with a network and payees, what they use, and what is
-- printed of it. Where a hash is needed it is one that knows the SHA-256 digests of the few scripts that are asked for.
use Rattle.std.proofs.Common.{◌≡◌, ℕ, List, [], ◌∷◌, ◌++◌, refl}
use Rattle.std.specs.Prelude.{codes, replicate, map, not, Bool, true, false, if◌then◌else◌, Option, Some, None, Ok, Err}
use Rattle.std.specs.Fmt.{digits}
use Rattle.std.specs.Str.{bytes_eq}
use Rattle.spec_data.specs.Digits.{read_hex}
use Rattle.spec_terms.specs.Advert.{Advert}
use Rattle.spec_terms.specs.Precondition.{deposits}
use Rattle.spec_terms.specs.Term.{withdraw, no_branch, branch}
use Rattle.spec_terms.specs.declared.pre.Pre.TheVariants.{Persistent}
use Rattle.spec_bitcoin.specs.Keys.{label_text, deposit_script}
use Rattle.spec_bitcoin.specs.Numbers.{item_of_number, signed_bytes}
use Rattle.spec_bitcoin.specs.Spelling.{stripped, compact}
use Rattle.spec_compiler.specs.Keyed.Instance.{position_script}
use Rattle.spec_address.specs.Address.{address, read_address}
use Rattle.spec_address.specs.Checksum.{check_values, next_state}
use Rattle.spec_address.specs.Groups.{group_at, byte_at}
use Rattle.spec_deal.specs.declared.deal.Deal.{Deal}
use Rattle.spec_deal.specs.Answers.{circular}
use Rattle.spec_deal.specs.DealFile.{read_deal, read_part}
use Rattle.spec_deal.specs.DealText.{deposit_line, payee_lines, lines_text}
use Rattle.spec_deal.specs.Finished.{bytes_or_none}
use Rattle.spec_deal.specs.FundText.{fund_text, fund_strings}
use Rattle.spec_deal.specs.Payable.{is_payable}
use Rattle.spec_deal.specs.RefusedText.{deal_refused_line}
use Rattle.spec_deal.specs.Setting.{deal_keys, deal_instance}
use Rattle.spec_deal.specs.Verifier.{Verifier, accepting}
use Rattle.spec_deal.proofs.FileVectors.{line, file, refusal, or_no_deal, A, B, x, bet}
use Rattle.spec_deal.proofs.FileVectors.{line_1, line_2, line_3, line_4, line_5, line_6, line_7, line_8, line_9, line_10, line_11}

-- the bytes of hexadecimal digits
abbrev pub bytes : List ℕ → List ℕ
bytes word = bytes_or_none (read_hex word)

-- finds no point in these bytes
abbrev no_point : List ℕ → Verifier
no_point key = record { is_point = λ k. not (bytes_eq k key); is_signature = λ k digest signature. true }

-- ---- files

abbrev pub network : List ℕ
network = codes "network bcrt"

abbrev pub pay : List ℕ
pay = codes "pay A bcrt1q2xdvw50dp4r4anx544pgyd9hcmnt47hsr3twje"

-- the lines of the keys, deposits and hashes of bet
abbrev others : List (List ℕ)
others = line_1 ∷ line_2 ∷ line_3 ∷ line_4 ∷ line_5 ∷ line_6 ∷ line_7 ∷ line_8 ∷ line_9 ∷ line_10 ∷ line_11 ∷ []

-- why the file of these lines, and then the others, is refused
abbrev refused : List (List ℕ) → List ℕ
refused lines = refusal (read_deal accepting bet (file (lines ++ others)))

-- why one that pays A there is refused
abbrev refused_payee : List ℕ → List ℕ
refused_payee word = refused (network ∷ (codes "pay A " ++ word) ∷ [])

-- the deal of these lines and the others
abbrev deal : List (List ℕ) → Deal
deal lines = or_no_deal (read_deal accepting bet (file (lines ++ others)))

pub is_taken : refused (network ∷ pay ∷ []) ≡ []
unfolding digits label_text address read_address check_values next_state group_at byte_at
is_taken = refl

pub network_with_a_word_more : refused (codes "network bcrt 1" ∷ pay ∷ []) ≡ line (codes "deal refused line 1 form") []
unfolding digits label_text address read_address check_values next_state group_at byte_at
network_with_a_word_more = refl

pub payee_with_a_word_more : refused (network ∷ (pay ++ codes " 00") ∷ []) ≡ line (codes "deal refused line 2 form") []
unfolding digits label_text address read_address check_values next_state group_at byte_at
payee_with_a_word_more = refl

pub no_participant : refused (network ∷ codes "pay C bcrt1q2xdvw50dp4r4anx544pgyd9hcmnt47hsr3twje" ∷ [])
    ≡ line (codes "deal refused line 2 foreign") []
unfolding digits label_text address read_address check_values next_state group_at byte_at
no_participant = refl

pub network_in_capitals : refused (codes "network BCRT" ∷ pay ∷ []) ≡ line (codes "deal refused line 1 value") []
unfolding digits label_text address read_address check_values next_state group_at byte_at
network_in_capitals = refl

pub network_too_long : refused ((codes "network " ++ replicate 19 98) ∷ pay ∷ []) ≡ line (codes "deal refused line 1 value") []
unfolding digits label_text address read_address check_values next_state group_at byte_at
network_too_long = refl

pub address_of_no_network : refused (pay ∷ []) ≡ line (codes "deal refused line 1 value") []
unfolding digits label_text address read_address check_values next_state group_at byte_at
address_of_no_network = refl

pub address_of_another_network : refused_payee (codes "bc1q2xdvw50dp4r4anx544pgyd9hcmnt47hst7fs7r")
    ≡ line (codes "deal refused line 2 value") []
unfolding digits label_text address read_address check_values next_state group_at byte_at
address_of_another_network = refl

pub bad_checksum : refused_payee (codes "bcrt1q2xdvw50dp4r4anx544pgyd9hcmnt47hsr3twjq") ≡ line (codes "deal refused line 2 value") []
unfolding digits label_text address read_address check_values next_state group_at byte_at
bad_checksum = refl

pub mixed_case : refused_payee (codes "bcrt1q2xdvw50dp4r4anx544pgyd9hcmnt47hsr3twjE") ≡ line (codes "deal refused line 2 value") []
unfolding digits label_text address read_address check_values next_state group_at byte_at
mixed_case = refl

pub unknown_version : refused_payee (codes "bcrt1zqqqqqqqqqqqqqqqqqqqqqqqqqqqqqqqqqqqqqqqqqqqqqqqqqqqqnv9lj9")
    ≡ line (codes "deal refused line 2 value") []
unfolding digits label_text address read_address check_values next_state group_at byte_at
unknown_version = refl

pub taproot_of_no_point :
    refusal (read_deal (no_point (2 ∷ bytes (codes "0000000000000000000000000000000000000000000000000000000000000005"))) bet
    (file (network ∷ codes "pay A bcrt1pqqqqqqqqqqqqqqqqqqqqqqqqqqqqqqqqqqqqqqqqqqqqqqqqqqzssr24l3" ∷ [])))
    ≡ line (codes "deal refused line 2 value") []
unfolding digits label_text address read_address check_values next_state group_at byte_at
taproot_of_no_point = refl

pub script_of_no_kind : refused_payee (codes "6a0100") ≡ line (codes "deal refused line 2 value") []
unfolding digits label_text address read_address check_values next_state group_at byte_at
script_of_no_kind = refl

pub base58_address : refused_payee (codes "mipcBbFg9gMiCh81Kj8tqqdgoZub1ZJRfn") ≡ line (codes "deal refused line 2 value") []
unfolding digits label_text address read_address check_values next_state group_at byte_at
base58_address = refl

pub network_again : refusal (read_deal accepting bet (file (network ∷ pay ∷ others ++ codes "network tb" ∷ [])))
    ≡ line (codes "deal refused line 14 repeated 1") []
unfolding digits label_text address read_address check_values next_state group_at byte_at
network_again = refl

pub payee_again :
    refusal (read_deal accepting bet (file (network ∷ pay ∷ others
    ++ codes "pay A 5120d735ae343fa4c19337ba672e79ccd66d47843528adccd7966d7fd7197d7a1c77" ∷ [])))
    ≡ line (codes "deal refused line 14 repeated 2") []
unfolding digits label_text address read_address check_values next_state group_at byte_at
payee_again = refl

-- two participants may be paid at one script
pub one_script_for_two : refused (network ∷ pay ∷ codes "pay B bcrt1q2xdvw50dp4r4anx544pgyd9hcmnt47hsr3twje" ∷ []) ≡ []
unfolding digits label_text address read_address check_values next_state group_at byte_at
one_script_for_two = refl

-- an address may stand before its network
pub order_is_free : or_no_deal (read_deal accepting bet (file (others ++ pay ∷ network ∷ []))) ≡ deal (network ∷ pay ∷ [])
unfolding digits label_text address read_address check_values next_state group_at byte_at
order_is_free = refl

pub capitals_are_free : deal (network ∷ codes "pay A BCRT1Q2XDVW50DP4R4ANX544PGYD9HCMNT47HSR3TWJE" ∷ []) ≡ deal (network ∷ pay ∷ [])
unfolding digits label_text address read_address check_values next_state group_at byte_at
capitals_are_free = refl

pub hexadecimal_digits : deal (network ∷ codes "pay A 0014519AC751ed0d475eccd4ad428234b7c6e6bafaf0" ∷ []) ≡ deal (network ∷ pay ∷ [])
unfolding digits label_text address read_address check_values next_state group_at byte_at
hexadecimal_digits = refl

-- ---- scripts

abbrev payable : List ℕ → Bool
payable word = is_payable accepting (bytes word)

pub older_key_hash : payable (codes "76a914519ac751ed0d475eccd4ad428234b7c6e6bafaf088ac") ≡ true
older_key_hash = refl

pub older_script_hash : payable (codes "a914da1745e9b549bd0bfa1a569971c77eba30cd5a4b87") ≡ true
older_script_hash = refl

pub taproot : payable (codes "5120d735ae343fa4c19337ba672e79ccd66d47843528adccd7966d7fd7197d7a1c77") ≡ true
taproot = refl

pub script_hash : payable (codes "0020a114f10ad2c413065c2c4e33e4b231445bf2b0016c13b170e13efce8dfa6adc0") ≡ true
script_hash = refl

pub key_hash_a_byte_short : payable (codes "0014519ac751ed0d475eccd4ad428234b7c6e6bafa") ≡ false
key_hash_a_byte_short = refl

pub other_last_operation : payable (codes "76a914519ac751ed0d475eccd4ad428234b7c6e6bafaf088ad") ≡ false
other_last_operation = refl

-- ---- what is needed

abbrev payee_alone : List (List ℕ)
payee_alone = codes "network bc" ∷ codes "pay A bc1pej54emr4fka7mn6d2j849u000mfg2uc4hqfalvspjr2jxs5jdjaqdpsf7k" ∷ line_3 ∷ []

-- A pays all back to itself
abbrev one : Advert
one = record { pre = Persistent A 100000 x ∷ []; fee = 1000; root = branch (withdraw A) no_branch }

-- a deposit uses the key of its owner
pub key_of_a_deposit : refusal (read_deal accepting one (file (payee_alone ++ line_9 ∷ [])))
    ≡ line (codes "deal refused missing key D:A") []
unfolding digits label_text address read_address check_values next_state group_at byte_at
key_of_a_deposit = refl

-- A pays B, who has no deposit
abbrev gift : Advert
gift = record { pre = Persistent A 100000 x ∷ []; fee = 1000; root = branch (withdraw B) no_branch }

abbrev gift_file : List (List ℕ)
gift_file = line_1 ∷ line_3 ∷ line_4 ∷ line_9 ∷ []

-- a withdraw uses the key of whom it pays, unless it is paid elsewhere
pub key_of_a_payee : refusal (read_deal accepting gift (file gift_file)) ≡ line (codes "deal refused missing key D:B") []
unfolding digits label_text address read_address check_values next_state group_at byte_at
key_of_a_payee = refl

pub payee_without_a_key :
    refusal (read_deal accepting gift (file (gift_file ++ codes "pay B 0014519ac751ed0d475eccd4ad428234b7c6e6bafaf0" ∷ []))) ≡ []
unfolding digits label_text address read_address check_values next_state group_at byte_at
payee_without_a_key = refl

-- ---- what is circular

-- as if each script and each transaction had the digest of the first position of bet
abbrev root_digest : List ℕ → List ℕ
root_digest message = bytes (codes "a114f10ad2c413065c2c4e33e4b231445bf2b0016c13b170e13efce8dfa6adc0")

abbrev circular_in : Deal → Option (List ℕ)
circular_in d = circular root_digest (deal_keys d) (deal_instance bet d)

pub paid_at_a_position :
    circular_in (deal (codes "pay A 0020a114f10ad2c413065c2c4e33e4b231445bf2b0016c13b170e13efce8dfa6adc0" ∷ [])) ≡ Some A
unfolding digits label_text address read_address check_values next_state group_at byte_at stripped compact position_script item_of_number
    signed_bytes
paid_at_a_position = refl

pub paid_elsewhere : circular_in (deal (network ∷ pay ∷ [])) ≡ None
unfolding digits label_text address read_address check_values next_state group_at byte_at stripped compact position_script item_of_number
    signed_bytes
paid_elsewhere = refl

-- ---- where to pay

abbrev key_a : List ℕ
key_a = bytes (codes "03913ffe7036ec1cefec5d4589d0c2e8e7b6a300c97e0a106cd9624f149bcda7f5")

abbrev key_b : List ℕ
key_b = bytes (codes "03ba15c3d41f9a0004b4f0e9f93716dc85ab600a158e90d0639f364ab04c766f21")

-- the digests of the scripts of both keys, by SHA-256
abbrev pub digest_of_script : List ℕ → List ℕ
digest_of_script script =
    if bytes_eq script (deposit_script key_a)
    then bytes (codes "38c9f519e5fd595b443171894b9bbe98234079299289665bb3d6d1d010fcfdb9")
    else if bytes_eq script (deposit_script key_b)
    then bytes (codes "697c1a1f642d9dc9f320298a15a6c24c3cf1f2c6931ab893fc4f3a1c721f3d5f")
    else []

abbrev pub funded : List (List ℕ) → List ℕ
funded lines = elim (read_part accepting bet (file lines)) [
  | Ok entries ↦ fund_text digest_of_script bet entries
  | Err fault ↦ deal_refused_line fault
]

abbrev hashed : List (List ℕ) → List (List ℕ)
hashed lines = elim (read_part accepting bet (file lines)) [ Ok entries ↦ fund_strings bet entries | Err fault ↦ [] ]

pub fund_of_nothing : funded []
    ≡
    line (codes "deposit x .. .. 100000 ..") (
    line (codes "deposit y .. .. 20000 ..") (
    line (codes "pay A ..") (
    line (codes "pay B ..") [])))
unfolding digits label_text address read_address check_values next_state group_at byte_at
fund_of_nothing = refl

pub fund_of_keys : funded (network ∷ line_1 ∷ line_2 ∷ [])
    ≡
    line (codes "deposit x .. .. 100000 002038c9f519e5fd595b443171894b9bbe98234079299289665bb3d6d1d010fcfdb9"
    ++ codes " bcrt1q8ryl2x09l4v4k3p3wxy5hxa7nq35q7ffj2ykvkan6mgaqy8ulkus8s3sen") (
    line (codes "deposit y .. .. 20000 0020697c1a1f642d9dc9f320298a15a6c24c3cf1f2c6931ab893fc4f3a1c721f3d5f"
    ++ codes " bcrt1qd97p58my9kwunueq9x9ptfkzfs70rukxjvdt3ylufuapcusl840s4e0fck") (
    line (codes "pay A 002038c9f519e5fd595b443171894b9bbe98234079299289665bb3d6d1d010fcfdb9"
    ++ codes " bcrt1q8ryl2x09l4v4k3p3wxy5hxa7nq35q7ffj2ykvkan6mgaqy8ulkus8s3sen") (
    line (codes "pay B 0020697c1a1f642d9dc9f320298a15a6c24c3cf1f2c6931ab893fc4f3a1c721f3d5f"
    ++ codes " bcrt1qd97p58my9kwunueq9x9ptfkzfs70rukxjvdt3ylufuapcusl840s4e0fck") [])))
unfolding digits label_text address read_address check_values next_state group_at byte_at
fund_of_keys = refl

pub fund_of_a_place_and_a_payee : funded (network ∷ pay ∷ line_2 ∷ line_9 ∷ [])
    ≡
    line (codes "deposit x c7d1ca1a29278ff9aa4d23bed0d2f777b570582f3a1ff735b4272fdeb4707691 0 100000 ..") (
    line (codes "deposit y .. .. 20000 0020697c1a1f642d9dc9f320298a15a6c24c3cf1f2c6931ab893fc4f3a1c721f3d5f"
    ++ codes " bcrt1qd97p58my9kwunueq9x9ptfkzfs70rukxjvdt3ylufuapcusl840s4e0fck") (
    line (codes "pay A 0014519ac751ed0d475eccd4ad428234b7c6e6bafaf0 bcrt1q2xdvw50dp4r4anx544pgyd9hcmnt47hsr3twje") (
    line (codes "pay B 0020697c1a1f642d9dc9f320298a15a6c24c3cf1f2c6931ab893fc4f3a1c721f3d5f"
    ++ codes " bcrt1qd97p58my9kwunueq9x9ptfkzfs70rukxjvdt3ylufuapcusl840s4e0fck") [])))
unfolding digits label_text address read_address check_values next_state group_at byte_at
fund_of_a_place_and_a_payee = refl

pub hashed_for_fund : hashed (network ∷ pay ∷ line_2 ∷ line_9 ∷ []) ≡ deposit_script key_b ∷ []
unfolding digits label_text address read_address check_values next_state group_at byte_at
hashed_for_fund = refl

pub fund_of_a_bad_line : funded (network ∷ codes "key D:A .." ∷ []) ≡ line (codes "deal refused line 2 value") []
unfolding digits label_text address read_address check_values next_state group_at byte_at
fund_of_a_bad_line = refl

-- ---- plans

-- the lines of deposits and payees in the plan of a deal
abbrev told : Advert → Deal → List ℕ
told advert d =
    lines_text (map (deposit_line digest_of_script d.network (deal_keys d) (deal_instance advert d)) (deposits advert.pre)
    ++ payee_lines digest_of_script d.network (deal_keys d) (deal_instance advert d))

pub plain_deal : told bet (deal [])
    ≡
    line (codes "deposit x c7d1ca1a29278ff9aa4d23bed0d2f777b570582f3a1ff735b4272fdeb4707691 0 100000 "
    ++ codes "002038c9f519e5fd595b443171894b9bbe98234079299289665bb3d6d1d010fcfdb9") (
    line (codes "deposit y 6b8fae22b3d8cef3f23d00741edc38e743d3830b33a353976f6a5fea9172aae2 1 20000 "
    ++ codes "0020697c1a1f642d9dc9f320298a15a6c24c3cf1f2c6931ab893fc4f3a1c721f3d5f") [])
unfolding digits label_text address read_address check_values next_state group_at byte_at
plain_deal = refl

pub deal_of_a_network : told bet (deal (network ∷ []))
    ≡
    line (codes "deposit x c7d1ca1a29278ff9aa4d23bed0d2f777b570582f3a1ff735b4272fdeb4707691 0 100000 "
    ++ codes "002038c9f519e5fd595b443171894b9bbe98234079299289665bb3d6d1d010fcfdb9 "
    ++ codes "bcrt1q8ryl2x09l4v4k3p3wxy5hxa7nq35q7ffj2ykvkan6mgaqy8ulkus8s3sen") (
    line (codes "deposit y 6b8fae22b3d8cef3f23d00741edc38e743d3830b33a353976f6a5fea9172aae2 1 20000 "
    ++ codes "0020697c1a1f642d9dc9f320298a15a6c24c3cf1f2c6931ab893fc4f3a1c721f3d5f "
    ++ codes "bcrt1qd97p58my9kwunueq9x9ptfkzfs70rukxjvdt3ylufuapcusl840s4e0fck") (
    line (codes "pay A 002038c9f519e5fd595b443171894b9bbe98234079299289665bb3d6d1d010fcfdb9"
    ++ codes " bcrt1q8ryl2x09l4v4k3p3wxy5hxa7nq35q7ffj2ykvkan6mgaqy8ulkus8s3sen") (
    line (codes "pay B 0020697c1a1f642d9dc9f320298a15a6c24c3cf1f2c6931ab893fc4f3a1c721f3d5f"
    ++ codes " bcrt1qd97p58my9kwunueq9x9ptfkzfs70rukxjvdt3ylufuapcusl840s4e0fck") [])))
unfolding digits label_text address read_address check_values next_state group_at byte_at
deal_of_a_network = refl

-- a script without an address is shown alone
pub payee_without_an_address : told one (or_no_deal (read_deal accepting one (file (codes "network tb"
    ∷ codes "pay A 76a914519ac751ed0d475eccd4ad428234b7c6e6bafaf088ac" ∷ line_1 ∷ line_3 ∷ line_9 ∷ []))))
    ≡
    line (codes "deposit x c7d1ca1a29278ff9aa4d23bed0d2f777b570582f3a1ff735b4272fdeb4707691 0 100000 "
    ++ codes "002038c9f519e5fd595b443171894b9bbe98234079299289665bb3d6d1d010fcfdb9 "
    ++ codes "tb1q8ryl2x09l4v4k3p3wxy5hxa7nq35q7ffj2ykvkan6mgaqy8ulkus2fmkvf") (
    line (codes "pay A 76a914519ac751ed0d475eccd4ad428234b7c6e6bafaf088ac") [])
unfolding digits label_text address read_address check_values next_state group_at byte_at
payee_without_an_address = refl

-- no branch pays B
pub paid_by_a_branch : told one (or_no_deal (read_deal accepting one (file (payee_alone ++ line_1 ∷ line_9 ∷ []))))
    ≡
    line (codes "deposit x c7d1ca1a29278ff9aa4d23bed0d2f777b570582f3a1ff735b4272fdeb4707691 0 100000 "
    ++ codes "002038c9f519e5fd595b443171894b9bbe98234079299289665bb3d6d1d010fcfdb9 "
    ++ codes "bc1q8ryl2x09l4v4k3p3wxy5hxa7nq35q7ffj2ykvkan6mgaqy8ulkusapdekx") (
    line (codes "pay A 5120cca95cec754dbbedcf4d548f52f1ef7ed2857315b813dfb20190d52342926cba"
    ++ codes " bc1pej54emr4fka7mn6d2j849u000mfg2uc4hqfalvspjr2jxs5jdjaqdpsf7k") [])
unfolding digits label_text address read_address check_values next_state group_at byte_at
paid_by_a_branch = refl
