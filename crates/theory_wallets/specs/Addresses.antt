-- What is claimed of the addresses that are shown of a deal: each is read back as the script beside it, and each that a deal file gives is
-- shown again.
use Rattle.std.specs.Prelude.{◌≡◌, ◌⊎◌, ℕ, List, [], ◌∷◌, true, Option, Some}
use Rattle.std.specs.Str.{str_to_ascii_lowercase}
use Rattle.serde_json.specs.Data.{null}
use Rattle.spec_data.specs.Digits.{hex_text, hex_bytes, read_hex}
use Rattle.spec_data.specs.Hashes.{IsBytes}
use Rattle.spec_address.specs.Address.{is_hrp, is_witness_output, read_address}
use Rattle.spec_json.specs.Values.{text_value}
use Rattle.spec_deal.specs.DealFile.{spelled_script}
use Rattle.spec_deal.specs.DealText.{script_words}
use Rattle.spec_deal.specs.FundText.{output_words}
use Rattle.spec_show.specs.ShownDeal.{address_data}

-- a network is named, in which the word is read as this script
pub record ReadsAs (network : Option (List ℕ)) (word script : List ℕ) : Type 0 where
  pub hrp : List ℕ
  pub named : network ≡ Some hrp
  pub read : read_address hrp word ≡ Some script

-- how an output script is shown
pub record IsShown (network : Option (List ℕ)) (script : List ℕ) : Type 0 where
  -- first by digits, from which it is read
  pub digits : (first : List ℕ) (more : List (List ℕ)) → script_words network script ≡ first ∷ more
      → (first ≡ hex_text script) × (IsBytes script → hex_bytes first ≡ Some script)
  -- behind them stands nothing, or an address that is read as it
  pub address : (first : List ℕ) (more : List (List ℕ)) → script_words network script ≡ first ∷ more
      → (more ≡ []) ⊎ ((text : List ℕ) × (more ≡ text ∷ []) × ReadsAs network text script)
  -- there is one of each witness output, where a network is named
  pub each : (hrp : List ℕ) → network ≡ Some hrp → is_hrp hrp ≡ true → is_witness_output script ≡ true
      → (text : List ℕ) × (script_words network script ≡ hex_text script ∷ text ∷ [])
  -- and so it is in JSON
  pub member : (address_data network script ≡ null)
      ⊎ ((text : List ℕ) × (address_data network script ≡ text_value text) × ReadsAs network text script)

abbrev pub ScriptsAreShown : Type 0
ScriptsAreShown = (network : Option (List ℕ)) (script : List ℕ) → IsShown network script

-- what a file gives so far is shown in the same way, and an address is only of that
pub record FundsAreShown : Type 0 where
  pub known : (network : Option (List ℕ)) (script : List ℕ) → output_words network (Some script) ≡ script_words network script
  pub read : (network given : Option (List ℕ)) (first text : List ℕ) → output_words network given ≡ first ∷ text ∷ []
      → (script : List ℕ) × (given ≡ Some script) × (first ≡ hex_text script) × ReadsAs network text script

-- what a deal file spells is digits, or an address that is shown again in small letters
abbrev pub GivenAreShown : Type 0
GivenAreShown = (hrp word script : List ℕ) → is_hrp hrp ≡ true → spelled_script (Some hrp) word ≡ Some script
    → (read_hex word ≡ Some script) ⊎ (script_words (Some hrp) script ≡ hex_text script ∷ str_to_ascii_lowercase word ∷ [])

pub record AddressesOfDeals : Type 0 where
  pub shown : ScriptsAreShown
  pub funds : FundsAreShown
  pub given : GivenAreShown
