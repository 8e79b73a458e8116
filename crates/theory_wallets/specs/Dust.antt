-- What is claimed of the warnings on values: an output is dust where it is worth less than 3 satoshi for each byte of making and of spending
-- it, and a fee is low where it is less than 1 satoshi for each virtual byte.
use Rattle.std.specs.Prelude.{◌≡◌, ◌↔◌, ℕ, ◌+◌, ◌*◌, ◌/◌, ◌<◌, List, [], ◌∷◌, length, Bool, true, false, Some, slice_get, codes}
use Rattle.std.specs.Fmt.{decimal}
use Rattle.std.specs.List.{Contains}
use Rattle.spec_terms.specs.Advert.{Advert}
use Rattle.spec_bitcoin.specs.Spelling.{input_bytes, output_bytes}
use Rattle.spec_bitcoin.specs.declared.tx.TxIn.{TxIn}
use Rattle.spec_bitcoin.specs.declared.tx.TxOut.{TxOut}
use Rattle.spec_compiler.specs.Keyed.Keys.{Keys}
use Rattle.spec_tool.specs.Keyed.Listed.{Listed, which_text}
use Rattle.spec_tool.specs.declared.which.Which.{Which}
use Rattle.spec_address.specs.Address.{is_witness_output}
use Rattle.spec_deal.specs.DealText.{line_of}
use Rattle.spec_deal.specs.WarnText.{least_value, dust_warnings, fee_warnings, full_size, spent_value, paid_value}

-- ---- what an output costs

-- a signature, a key and their lengths, and the length of all of it; a witness counts a quarter
abbrev pub signing_bytes : Bool → ℕ
signing_bytes true = 107 / 4
signing_bytes false = 107

-- the input that spends an output, without what opens it
pub record IsInput (input : TxIn) : Type 0 where
  pub id : length input.prev.txid ≡ 32
  pub bare : input.script_sig ≡ []

-- 3 satoshi for each byte of the output and of an input that spends it
abbrev pub LeastIsCost : Type 0
LeastIsCost = (output : TxOut) (input : TxIn) → length output.script < 253 → IsInput input
    → least_value output.script
    ≡ 3 * (length (output_bytes output) + (length (input_bytes input) + signing_bytes (is_witness_output output.script)))

-- ---- lines

-- the line is of an output that is worth less
pub record IsDustLine (which : Which) (outputs : List TxOut) (line : List ℕ) : Type 0 where
  pub k : ℕ
  pub output : TxOut
  pub stands : slice_get outputs k ≡ Some output
  pub poor : output.value < least_value output.script
  pub text : line
      ≡ line_of
      (codes "warn" ∷ codes "dust" ∷ which_text which ∷ decimal k ∷ decimal output.value ∷ decimal (least_value output.script) ∷ [])

abbrev pub DustIsWarned : Type 0
DustIsWarned = (which : Which) (outputs : List TxOut) (line : List ℕ)
    → Contains (dust_warnings which 0 outputs) line ↔ IsDustLine which outputs line

-- where a transaction spends what it pays and this fee
abbrev pub FeesAreWarned : Type 0
FeesAreWarned = (keys : Keys) (advert : Advert) (l : Listed) (fee : ℕ) (line : List ℕ)
    → spent_value l.pending.spends ≡ paid_value l.pending.outputs + fee
    → Contains (fee_warnings keys advert l) line
    ↔ ((fee < full_size keys advert l)
    × (line ≡ line_of (codes "warn" ∷ codes "fee" ∷ which_text l.which ∷ decimal fee ∷ decimal (full_size keys advert l) ∷ [])))

pub record WarnsOfValues : Type 0 where
  pub cost : LeastIsCost
  pub dust : DustIsWarned
  pub fees : FeesAreWarned
