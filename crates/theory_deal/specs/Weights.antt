-- What is claimed of the weights (BIP 141) of finished transactions: none is heavy whose wallets are those of keys.
use Rattle.std.specs.Prelude.{◌≡◌, ◌≤◌, ℕ, List, [], ◌∷◌, length, true, Some, Ok, ◌⊎◌}
use Rattle.std.specs.List.{Contains}
use Rattle.spec_data.specs.Hashes.{HashesBytes}
use Rattle.spec_terms.specs.Advert.{Advert}
use Rattle.spec_terms.specs.Faults.{IsWellFormed}
use Rattle.spec_compiler.specs.Keyed.OwnScripts.{pays_to_key_hash}
use Rattle.spec_tool.specs.declared.which.Which.{Which}
use Rattle.spec_tool.specs.Keyed.Listed.{Listed, listed_at}
use Rattle.spec_tool.specs.Weights.{weight_of}
use Rattle.spec_deal.specs.declared.deal.Deal.{Deal}
use Rattle.spec_deal.specs.declared.entry.Shown.{Shown}
use Rattle.spec_deal.specs.declared.signed.Signed.{Signed}
use Rattle.spec_deal.specs.DealFile.{read_deal}
use Rattle.spec_deal.specs.Finished.{finished}
use Rattle.spec_deal.specs.Payable.{has_taproot_form}
use Rattle.spec_deal.specs.Setting.{deal_keys, deal_instance}
use Rattle.spec_deal.specs.SignatureFile.{has_witness_form, has_strict_signature, read_signatures}
use Rattle.spec_deal.specs.Verifier.{Verifier}
use Rattle.theory_deal.specs.Files.{is_witness}
use Rattle.theory_deal.specs.Whole.{AreRead}

abbrev pub most_weight : ℕ
most_weight = 50000

-- a signature and a key, or a Taproot signature alone
abbrev pub IsUsual : List (List ℕ) → Type 0
IsUsual items =
    ((signature : List ℕ) × (key : List ℕ) × (items ≡ signature ∷ key ∷ []) × (length signature ≤ 73) × (length key ≤ 33))
    ⊎ ((signature : List ℕ) × (items ≡ signature ∷ []) × (length signature ≤ 65))

-- each witness of a wallet's is such a one
abbrev pub AreUsual : List Signed → Type 0
AreUsual given = (g : Signed) → Contains given g → is_witness g ≡ true → IsUsual g.witness

pub record AreLight : Type 0 where
  -- what is taken as the witness of an output to a key's hash is usual, and so is one item for an output to a Taproot key
  pub kinds : (v : Verifier) (script : List ℕ) (items : List (List ℕ)) → has_witness_form v script items ≡ true
      → has_strict_signature script items ≡ true
      → (pays_to_key_hash script ≡ true) ⊎ ((has_taproot_form script ≡ true) × (length items ≡ 1)) → IsUsual items
  -- with such witnesses no finished transaction weighs more than this, of every well-formed contract and all files that are taken
  pub little : (v : Verifier) (hash : List ℕ → List ℕ) (advert : Advert) (deal_text : List ℕ) (deal : Deal) (file : List ℕ)
      (given : List Signed) (strings : List Shown) (which : Which) (l : Listed)
      → HashesBytes hash → IsWellFormed advert → read_deal v advert deal_text ≡ Ok deal
      → read_signatures v hash (deal_keys deal) (deal_instance advert deal) file ≡ Ok given
      → AreRead hash (deal_keys deal) (deal_instance advert deal) strings
      → listed_at hash (deal_keys deal) (deal_instance advert deal) which ≡ Some l → AreUsual given
      → weight_of (finished hash (deal_keys deal) (deal_instance advert deal) given strings l) ≤ most_weight
