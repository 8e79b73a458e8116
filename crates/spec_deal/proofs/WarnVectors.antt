-- Worked warnings, each by computation alone: sizes are those of any keys and of any hash of 32 bytes.
use Rattle.std.proofs.Common.{◌≡◌, ℕ, List, [], ◌∷◌, ◌++◌, refl}
use Rattle.std.specs.Prelude.{codes, map, replicate}
use Rattle.std.specs.Fmt.{digits, decimal}
use Rattle.std.specs.List.{flat_map}
use Rattle.spec_terms.specs.Advert.{Advert}
use Rattle.spec_terms.specs.Term.{auth, withdraw, split, no_branch, branch, no_part, part}
use Rattle.spec_terms.specs.declared.pre.Pre.{Pre}
use Rattle.spec_terms.specs.declared.pre.Pre.TheVariants.{Persistent}
use Rattle.spec_bitcoin.specs.Keys.{label_text}
use Rattle.spec_bitcoin.specs.Numbers.{item_of_number, signed_bytes}
use Rattle.spec_bitcoin.specs.Spelling.{stripped, marked, compact}
use Rattle.spec_compiler.specs.Keyed.Keys.{Keys, given}
use Rattle.spec_compiler.specs.Keyed.Instance.{position_script}
use Rattle.spec_compiler.specs.Keyed.Compilation.{scripts}
use Rattle.spec_deal.specs.declared.entry.Shown.{Shown}
use Rattle.spec_deal.specs.WarnText.{warn_text, script_warnings}
use Rattle.spec_deal.proofs.FileVectors.{line, weigh, bet, A, B, a, x, y}
use Rattle.spec_deal.proofs.SignatureVectors.{setting}
use Rattle.spec_deal.proofs.WalletVectors.{taproot_script, script_hash_script, key_hash_script}

-- x has this script, and A is paid at a key's hash
abbrev keys_with : List ℕ → Keys
keys_with script =
    given (λ label. 2 ∷ weigh (label_text label)) (record { deposits = (x, script) ∷ []; payees = (A, key_hash_script) ∷ [] })

abbrev warned : List ℕ → Advert → List Shown → List ℕ
warned script advert strings = warn_text weigh (keys_with script) (setting advert) strings

pub no_warning : warned key_hash_script bet [] ≡ line (codes "warnings 0") []
unfolding digits label_text stripped marked compact position_script item_of_number signed_bytes
no_warning = refl

abbrev poor : Advert
poor = record {
  pre = Persistent A 300 x ∷ Persistent B 0 y ∷ [];
  fee = 0;
  root =
      branch (auth A (withdraw B))
      (branch (split (part 293 (branch (withdraw A) no_branch) (part 7 (branch (withdraw B) no_branch) no_part))) no_branch);
}

pub dust_and_no_fee : warned script_hash_script poor []
    ≡
    line (codes "warn dust init 0 300 330") (
    line (codes "warn fee init 0 164") (
    line (codes "warn dust r.0 0 300 330") (
    line (codes "warn fee r.0 0 168") (
    line (codes "warn dust r.1 0 293 330") (
    line (codes "warn dust r.1 1 7 330") (
    line (codes "warn fee r.1 0 211") (
    line (codes "warn dust r.1/0.0 0 293 294") (
    line (codes "warn fee r.1/0.0 0 137") (
    line (codes "warn dust r.1/1.0 0 7 330") (
    line (codes "warn fee r.1/1.0 0 149") (
    line (codes "warnings 11") [])))))))))))
unfolding digits label_text stripped marked compact position_script item_of_number signed_bytes
dust_and_no_fee = refl

-- A pays so much back to itself
abbrev back : ℕ → ℕ → Advert
back value fee = record { pre = Persistent A value x ∷ []; fee = fee; root = branch (withdraw A) no_branch }

-- a payout of exactly the least value is no dust
pub least_value_paid : warned taproot_script (back 294 0) []
    ≡
    line (codes "warn dust init 0 294 330") (
    line (codes "warn fee init 0 111") (
    line (codes "warn fee r.0 0 110") (
    line (codes "warnings 3") [])))
unfolding digits label_text stripped marked compact position_script item_of_number signed_bytes
least_value_paid = refl

-- a fee of exactly the size is enough
pub least_fee_paid : warned taproot_script (back 1000 110) []
    ≡
    line (codes "warn fee init 110 111") (
    line (codes "warnings 1") [])
unfolding digits label_text stripped marked compact position_script item_of_number signed_bytes
least_fee_paid = refl

-- the secret of bet, with so many bytes
abbrev secret_of : ℕ → List Shown
secret_of n = record { line = 1; name = a; bytes = replicate n 3 } ∷ []

pub long_secret : warned key_hash_script bet (secret_of 81)
    ≡
    line (codes "warn secret a 81 80") (
    line (codes "warnings 1") [])
unfolding digits label_text stripped marked compact position_script item_of_number signed_bytes
long_secret = refl

pub longest_secret : warned key_hash_script bet (secret_of 80) ≡ line (codes "warnings 0") []
unfolding digits label_text stripped marked compact position_script item_of_number signed_bytes
longest_secret = refl

-- ---- scripts

-- the deposit of a participant of this number
abbrev stake : ℕ → Pre
stake n = Persistent (80 ∷ decimal n) 100000 (120 ∷ decimal n)

abbrev stakes : List ℕ → List Pre
stakes numbers = map stake numbers

-- seven withdraws by sixteen participants
abbrev crowd : Advert
crowd = record {
  pre = stakes (0 ∷ 1 ∷ 2 ∷ 3 ∷ 4 ∷ 5 ∷ 6 ∷ 7 ∷ 8 ∷ 9 ∷ 10 ∷ 11 ∷ 12 ∷ 13 ∷ 14 ∷ 15 ∷ []);
  fee = 9000;
  root =
      branch (withdraw (codes "P0")) (branch (withdraw (codes "P0")) (branch (withdraw (codes "P0")) (branch (withdraw (codes "P0"))
      (branch (withdraw (codes "P0")) (branch (withdraw (codes "P0")) (branch (withdraw (codes "P0")) no_branch))))));
}

pub long_script : flat_map script_warnings (scripts weigh (keys_with key_hash_script) (setting crowd)) ≡ line (codes "warn script r 3938 3600") [] ∷ []
unfolding digits label_text stripped marked compact position_script item_of_number signed_bytes
long_script = refl
