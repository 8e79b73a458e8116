-- Test vectors of deals, each by computation alone: what is needed, what deal files give, and why they are refused.
use Rattle.std.proofs.Common.{◌≡◌, ℕ, List, [], ◌∷◌, ◌++◌, refl}
use Rattle.std.specs.List.{flat_map}
use Rattle.std.specs.Prelude.{codes, replicate, fold, false, not, ◌+◌, ◌*◌, ◌/◌, ◌%◌, None, Result, Ok, Err}
use Rattle.std.specs.Fmt.{digits}
use Rattle.std.specs.Str.{bytes_eq}
use Rattle.spec_data.specs.Digits.{read_hex}
use Rattle.spec_terms.specs.Advert.{Advert}
use Rattle.spec_terms.specs.Term.{constant, length_of, less, always, auth, after, put_reveal, withdraw, no_branch, branch}
use Rattle.spec_terms.specs.declared.pre.Pre.TheVariants.{Persistent, Volatile, Secret}
use Rattle.spec_bitcoin.specs.Keys.{label_text}
use Rattle.spec_deal.specs.declared.deal.Deal.{Deal}
use Rattle.spec_deal.specs.declared.fault.DealFault.{DealFault}
use Rattle.spec_deal.specs.DealFile.{read_deal}
use Rattle.spec_deal.specs.DealText.{keys_text}
use Rattle.spec_deal.specs.Finished.{bytes_or_none}
use Rattle.spec_deal.specs.Verifier.{Verifier, accepting}
use Rattle.spec_deal.specs.RefusedText.{deal_refused_line}

-- finds a point in all bytes but one key, and no signature good
abbrev pub refusing : Verifier
refusing = record {
  is_point = λ key. not (bytes_eq key (bytes_or_none (read_hex (codes "03ba15c3d41f9a0004b4f0e9f93716dc85ab600a158e90d0639f364ab04c766f21"))));
  is_signature = λ key digest signature. false;
}

-- a line feed
abbrev pub line : List ℕ → List ℕ → List ℕ
line text more = text ++ 10 ∷ more

-- 32 bytes, the first two of which are the number
abbrev in_bytes : ℕ → List ℕ
in_bytes h = h / 256 ∷ h % 256 ∷ replicate 30 0

-- 32 bytes that tell most short messages apart
abbrev pub weigh : List ℕ → List ℕ
weigh message = in_bytes (fold (λ h b. (31 * h + b) % 65521) 7 message)

abbrev pub A : List ℕ
A = codes "A"

abbrev pub B : List ℕ
B = codes "B"

abbrev pub a : List ℕ
a = codes "a"

abbrev pub x : List ℕ
x = codes "x"

abbrev pub y : List ℕ
y = codes "y"

abbrev pub z : List ℕ
z = codes "z"

-- ---- four contracts

-- A takes all with a secret of length 0 to 2, or B takes it after height 700000
abbrev pub bet : Advert
bet = record {
  pre = Persistent A 100000 x ∷ Persistent B 20000 y ∷ Secret A a ∷ [];
  fee = 1000;
  root =
      branch (put_reveal [] (a ∷ []) (less (length_of a) (constant 3)) (branch (withdraw A) no_branch))
      (branch (after 700000 (auth B (withdraw B))) no_branch);
}

-- two branches whose transactions are the same
abbrev pub twin : Advert
twin = record {
  pre = Persistent A 60000 x ∷ Persistent B 20000 y ∷ [];
  fee = 1000;
  root = branch (auth A (withdraw B)) (branch (auth B (withdraw B)) no_branch);
}

-- B's third deposit is put in
abbrev pub put : Advert
put = record {
  pre = Persistent A 50000 x ∷ Persistent B 20000 y ∷ Volatile B 30000 z ∷ [];
  fee = 1000;
  root =
      branch (put_reveal (z ∷ []) [] always (branch (withdraw A) no_branch))
      (branch (after 700100 (withdraw A)) no_branch);
}

-- B is asked for a branch that puts B's deposit and reveals two secrets
abbrev pub pair : Advert
pair = record {
  pre =
      Persistent A 50000 x ∷ Persistent B 20000 y ∷ Volatile B 30000 z ∷ Secret A a ∷ Secret B (codes "b") ∷ [];
  fee = 1000;
  root =
      branch (auth B (put_reveal (z ∷ []) (codes "b" ∷ a ∷ []) (less (length_of (codes "b")) (length_of a))
      (branch (withdraw A) no_branch)))
      (branch (after 700100 (withdraw A)) no_branch);
}

-- ---- what is needed

pub keys_of_bet : keys_text bet ≡
    line (codes "key D:A ..") (
    line (codes "key D:B ..") (
    line (codes "key B:0:r.0:A ..") (
    line (codes "key B:0:r.0:B ..") (
    line (codes "key B:0:r.0.0:A ..") (
    line (codes "key B:0:r.0.0:B ..") (
    line (codes "key B:0:r.1:A ..") (
    line (codes "key B:0:r.1:B ..") (
    line (codes "deposit x .. ..") (
    line (codes "deposit y .. ..") (
    line (codes "hash a ..") ([])))))))))))
unfolding digits label_text
keys_of_bet = refl

pub keys_of_put : keys_text put ≡
    line (codes "key D:A ..") (
    line (codes "key D:B ..") (
    line (codes "key B:0:r.0:A ..") (
    line (codes "key B:0:r.0:B ..") (
    line (codes "key B:0:r.0.0:A ..") (
    line (codes "key B:0:r.0.0:B ..") (
    line (codes "key B:0:r.1:A ..") (
    line (codes "key B:0:r.1:B ..") (
    line (codes "deposit x .. ..") (
    line (codes "deposit y .. ..") (
    line (codes "deposit z .. ..") ([])))))))))))
unfolding digits label_text
keys_of_put = refl

-- ---- deal files

-- the lines of a deal file, from the first on
abbrev pub line_1 : List ℕ
line_1 = codes "key D:A 03913ffe7036ec1cefec5d4589d0c2e8e7b6a300c97e0a106cd9624f149bcda7f5"

abbrev pub line_2 : List ℕ
line_2 = codes "key D:B 03ba15c3d41f9a0004b4f0e9f93716dc85ab600a158e90d0639f364ab04c766f21"

abbrev pub line_3 : List ℕ
line_3 = codes "key B:0:r.0:A 03880380f4fe91faca6db3387f5c981c02fee0dbae9278e8dcf2e0769b15457907"

abbrev pub line_4 : List ℕ
line_4 = codes "key B:0:r.0:B 023c24fce1010225fd96c5407ef8f06e3a5bae1e6b8f3449ef2085634b3e148b29"

abbrev pub line_5 : List ℕ
line_5 = codes "key B:0:r.0.0:A 033d1647343f4a9acee04accaa2494f71c403de0c463951a641ba91da0f7950e8a"

abbrev pub line_6 : List ℕ
line_6 = codes "key B:0:r.0.0:B 0230588467e4001454ec1e1fc960ea058ef5ca3976b3ecfe152dfc29fc01d2ede2"

abbrev pub line_7 : List ℕ
line_7 = codes "key B:0:r.1:A 02f318d2ff23218b2bf4bcd80ee4b79558dab1a20505f57f125d38b4a8344b9eed"

abbrev pub line_8 : List ℕ
line_8 = codes "key B:0:r.1:B 028f194e849e01cc64b26090c5d47bffdbdb3904023c817a98729cd6b4a481e57d"

abbrev pub line_9 : List ℕ
line_9 = codes "deposit x c7d1ca1a29278ff9aa4d23bed0d2f777b570582f3a1ff735b4272fdeb4707691 0"

abbrev pub line_10 : List ℕ
line_10 = codes "deposit y 6b8fae22b3d8cef3f23d00741edc38e743d3830b33a353976f6a5fea9172aae2 1"

abbrev pub line_11 : List ℕ
line_11 = codes "hash a 12e53d027fec5936fb9e8d7ce7f98252d9b85e5633e2386fd3d59a1f2c1a2703"

abbrev pub file : List (List ℕ) → List ℕ
file [] = []
file (l ∷ ls) = line l (file ls)

abbrev pub bet_file : List ℕ
bet_file = file (line_1 ∷ line_2 ∷ line_3 ∷ line_4 ∷ line_5 ∷ line_6 ∷ line_7 ∷ line_8 ∷ line_9 ∷ line_10 ∷ line_11 ∷ [])

abbrev pub no_deal : Deal
no_deal = record { keys = []; deposits = []; hashes = []; network = None; wallets = []; payees = [] }

abbrev pub or_no_deal : Result Deal DealFault → Deal
or_no_deal (Ok deal) = deal
or_no_deal (Err fault) = no_deal

-- the deal of bet
abbrev pub bet_deal : Deal
bet_deal = or_no_deal (read_deal accepting bet bet_file)

abbrev pub refusal : Result Deal DealFault → List ℕ
refusal (Ok deal) = []
refusal (Err fault) = deal_refused_line fault

pub template_is_refused :
    refusal (read_deal accepting bet (file (codes "key D:A .." ∷ codes "key D:B .." ∷ codes "key B:0:r.0:A .." ∷ codes "key B:0:r.0:B .."
    ∷ codes "key B:0:r.0.0:A .." ∷ codes "key B:0:r.0.0:B .." ∷ codes "key B:0:r.1:A .." ∷ codes "key B:0:r.1:B .."
    ∷ codes "deposit x .. .." ∷ codes "deposit y .. .." ∷ codes "hash a .." ∷ [])))
    ≡ line (codes "deal refused line 1 value") ([])
unfolding digits label_text
template_is_refused = refl

pub one_word_more_is_refused :
    refusal (read_deal accepting bet (file (line_1 ∷ line_2
    ∷ codes "key B:0:r.0:A 03880380f4fe91faca6db3387f5c981c02fee0dbae9278e8dcf2e0769b15457907 00" ∷ line_4 ∷ line_5 ∷ line_6
    ∷ line_7 ∷ line_8 ∷ line_9 ∷ line_10 ∷ line_11 ∷ [])))
    ≡ line (codes "deal refused line 3 form") ([])
unfolding digits label_text
one_word_more_is_refused = refl

pub no_kind_is_refused :
    refusal (read_deal accepting bet (file (codes "Key D:A 03913ffe7036ec1cefec5d4589d0c2e8e7b6a300c97e0a106cd9624f149bcda7f5" ∷ line_2
    ∷ line_3 ∷ line_4 ∷ line_5 ∷ line_6 ∷ line_7 ∷ line_8 ∷ line_9 ∷ line_10 ∷ line_11 ∷ [])))
    ≡ line (codes "deal refused line 1 form") ([])
unfolding digits label_text
no_kind_is_refused = refl

pub other_contract_is_refused :
    refusal (read_deal accepting bet (file (line_1 ∷ line_2
    ∷ codes "key B:1:r.0:A 03880380f4fe91faca6db3387f5c981c02fee0dbae9278e8dcf2e0769b15457907" ∷ line_4 ∷ line_5 ∷ line_6
    ∷ line_7 ∷ line_8 ∷ line_9 ∷ line_10 ∷ line_11 ∷ [])))
    ≡ line (codes "deal refused line 3 foreign") ([])
unfolding digits label_text
other_contract_is_refused = refl

pub foreign_before_value_is_refused :
    refusal (read_deal accepting bet (file (line_1 ∷ line_2 ∷ codes "key B:0:r.9:A .." ∷ line_4 ∷ line_5 ∷ line_6 ∷ line_7 ∷ line_8
    ∷ line_9 ∷ line_10 ∷ line_11 ∷ [])))
    ≡ line (codes "deal refused line 3 foreign") ([])
unfolding digits label_text
foreign_before_value_is_refused = refl

pub no_compressed_key_is_refused :
    refusal (read_deal accepting bet (file (codes "key D:A 04913ffe7036ec1cefec5d4589d0c2e8e7b6a300c97e0a106cd9624f149bcda7f5" ∷ line_2
    ∷ line_3 ∷ line_4 ∷ line_5 ∷ line_6 ∷ line_7 ∷ line_8 ∷ line_9 ∷ line_10 ∷ line_11 ∷ [])))
    ≡ line (codes "deal refused line 1 value") ([])
unfolding digits label_text
no_compressed_key_is_refused = refl

pub key_too_short_is_refused :
    refusal (read_deal accepting bet (file (line_1 ∷ line_2 ∷ line_3
    ∷ codes "key B:0:r.0:B 023c24fce1010225fd96c5407ef8f06e3a5bae1e6b8f3449ef2085634b3e148b" ∷ line_5 ∷ line_6 ∷ line_7 ∷ line_8
    ∷ line_9 ∷ line_10 ∷ line_11 ∷ [])))
    ≡ line (codes "deal refused line 4 value") ([])
unfolding digits label_text
key_too_short_is_refused = refl

pub no_point_is_refused : refusal (read_deal refusing bet bet_file) ≡ line (codes "deal refused line 2 value") ([])
unfolding digits label_text
no_point_is_refused = refl

pub output_number_too_great_is_refused :
    refusal (read_deal accepting bet (file (line_1 ∷ line_2 ∷ line_3 ∷ line_4 ∷ line_5 ∷ line_6 ∷ line_7 ∷ line_8 ∷ line_9
    ∷ codes "deposit y 6b8fae22b3d8cef3f23d00741edc38e743d3830b33a353976f6a5fea9172aae2 4294967296" ∷ line_11 ∷ [])))
    ≡ line (codes "deal refused line 10 value") ([])
unfolding digits label_text
output_number_too_great_is_refused = refl

pub repeated_is_refused :
    refusal (read_deal accepting bet (file (line_1 ∷ line_2 ∷ line_3 ∷ line_4 ∷ line_5 ∷ line_6 ∷ line_7 ∷ line_8 ∷ line_9 ∷ line_10
    ∷ line_11 ∷ line_2 ∷ [])))
    ≡ line (codes "deal refused line 12 repeated 2") ([])
unfolding digits label_text
repeated_is_refused = refl

pub shared_key_is_refused :
    refusal (read_deal accepting bet (file (line_1 ∷ line_2 ∷ line_3 ∷ line_4 ∷ line_5
    ∷ codes "key B:0:r.0.0:B 03BA15C3D41F9A0004B4F0E9F93716DC85AB600A158E90D0639F364AB04C766F21" ∷ line_7 ∷ line_8 ∷ line_9
    ∷ line_10 ∷ line_11 ∷ [])))
    ≡ line (codes "deal refused line 6 shared 2") ([])
unfolding digits label_text
shared_key_is_refused = refl

pub shared_place_is_refused :
    refusal (read_deal accepting bet (file (line_1 ∷ line_2 ∷ line_3 ∷ line_4 ∷ line_5 ∷ line_6 ∷ line_7 ∷ line_8 ∷ line_9
    ∷ codes "deposit y c7d1ca1a29278ff9aa4d23bed0d2f777b570582f3a1ff735b4272fdeb4707691 0" ∷ line_11 ∷ [])))
    ≡ line (codes "deal refused line 10 shared 9") ([])
unfolding digits label_text
shared_place_is_refused = refl

pub no_key_given_is_refused :
    refusal (read_deal accepting bet (file (line_1 ∷ line_2 ∷ line_3 ∷ line_4 ∷ line_6 ∷ line_7 ∷ line_8 ∷ line_9 ∷ line_10 ∷ line_11
    ∷ [])))
    ≡ line (codes "deal refused missing key B:0:r.0.0:A") ([])
unfolding digits label_text
no_key_given_is_refused = refl

pub no_deposit_given_is_refused :
    refusal (read_deal accepting bet (file (line_1 ∷ line_2 ∷ line_3 ∷ line_4 ∷ line_5 ∷ line_6 ∷ line_7 ∷ line_8 ∷ line_9 ∷ [])))
    ≡ line (codes "deal refused missing deposit y") ([])
unfolding digits label_text
no_deposit_given_is_refused = refl

pub no_hash_given_is_refused :
    refusal (read_deal accepting bet (file (line_1 ∷ line_2 ∷ line_3 ∷ line_4 ∷ line_5 ∷ line_6 ∷ line_7 ∷ line_8 ∷ line_9 ∷ line_10
    ∷ [])))
    ≡ line (codes "deal refused missing hash a") ([])
unfolding digits label_text
no_hash_given_is_refused = refl

pub nothing_given_is_refused : refusal (read_deal accepting bet (file ([])))
    ≡ line (codes "deal refused missing key D:A") ([])
unfolding digits label_text
nothing_given_is_refused = refl

-- in the reverse order, with tabs, carriage returns, empty lines, and a key in upper case
abbrev pub turned : List ℕ
turned =
    flat_map {X = List ℕ} (λ part. part)
    ((10 ∷ []) ∷ codes " " ∷ (9 ∷ []) ∷ (10 ∷ [])
    ∷ codes "hash a 12e53d027fec5936fb9e8d7ce7f98252d9b85e5633e2386fd3d59a1f2c1a2703" ∷ (13 ∷ []) ∷ (10 ∷ []) ∷ (9 ∷ [])
    ∷ codes "deposit " ∷ (9 ∷ []) ∷ codes "y " ∷ (9 ∷ [])
    ∷ codes "6b8fae22b3d8cef3f23d00741edc38e743d3830b33a353976f6a5fea9172aae2 " ∷ (9 ∷ []) ∷ codes "1 " ∷ (13 ∷ [])
    ∷ (10 ∷ []) ∷ codes "deposit x c7d1ca1a29278ff9aa4d23bed0d2f777b570582f3a1ff735b4272fdeb4707691 0" ∷ (13 ∷ [])
    ∷ (10 ∷ []) ∷ (9 ∷ []) ∷ codes "key " ∷ (9 ∷ []) ∷ codes "B:0:r.1:B " ∷ (9 ∷ [])
    ∷ codes "028f194e849e01cc64b26090c5d47bffdbdb3904023c817a98729cd6b4a481e57d " ∷ (13 ∷ []) ∷ (10 ∷ [])
    ∷ codes "key B:0:r.1:A 02f318d2ff23218b2bf4bcd80ee4b79558dab1a20505f57f125d38b4a8344b9eed" ∷ (13 ∷ []) ∷ (10 ∷ [])
    ∷ (9 ∷ []) ∷ codes "key " ∷ (9 ∷ []) ∷ codes "B:0:r.0.0:B " ∷ (9 ∷ [])
    ∷ codes "0230588467e4001454ec1e1fc960ea058ef5ca3976b3ecfe152dfc29fc01d2ede2 " ∷ (13 ∷ []) ∷ (10 ∷ [])
    ∷ codes "key B:0:r.0.0:A 033d1647343f4a9acee04accaa2494f71c403de0c463951a641ba91da0f7950e8a" ∷ (13 ∷ []) ∷ (10 ∷ [])
    ∷ (9 ∷ []) ∷ codes "key " ∷ (9 ∷ []) ∷ codes "B:0:r.0:B " ∷ (9 ∷ [])
    ∷ codes "023c24fce1010225fd96c5407ef8f06e3a5bae1e6b8f3449ef2085634b3e148b29 " ∷ (13 ∷ []) ∷ (10 ∷ [])
    ∷ codes "key B:0:r.0:A 03880380f4fe91faca6db3387f5c981c02fee0dbae9278e8dcf2e0769b15457907" ∷ (13 ∷ []) ∷ (10 ∷ [])
    ∷ (9 ∷ []) ∷ codes "key " ∷ (9 ∷ []) ∷ codes "D:B " ∷ (9 ∷ [])
    ∷ codes "03ba15c3d41f9a0004b4f0e9f93716dc85ab600a158e90d0639f364ab04c766f21 " ∷ (13 ∷ []) ∷ (10 ∷ [])
    ∷ codes "key D:A 03913FFE7036EC1CEFEC5D4589D0C2E8E7B6A300C97E0A106CD9624F149BCDA7F5" ∷ [])

pub order_and_layout_are_free : read_deal accepting bet turned ≡ read_deal accepting bet bet_file
unfolding digits label_text
order_and_layout_are_free = refl
