-- What is claimed of the bytes that are hashed for a transaction: they tell it, but for its witnesses; of the formats of BIP 144
-- and BIP 143.
use Rattle.std.specs.Prelude.{◌≡◌, ℕ, ◌<◌, ◌^◌, List, [], length, map}
use Rattle.std.specs.List.{AllByRecursion}
use Rattle.spec_bitcoin.specs.declared.tx.TxIn.{TxIn}
use Rattle.spec_bitcoin.specs.declared.tx.Tx.{Tx}
use Rattle.spec_bitcoin.specs.Spelling.{stripped, IsString, IsPlace, IsInput, IsOutput, IsTransaction}
use Rattle.spec_bitcoin.specs.Digests.{double, places_list, sequences_list, outputs_list, preimage}

-- ---- the bytes of the txid

-- an input without its witness
abbrev pub bare_input : TxIn → TxIn
bare_input i = record i { witness = [] }

-- a transaction without its witnesses
abbrev pub bare : Tx → Tx
bare tx = record tx { inputs = map bare_input tx.inputs }

-- transactions with the same bytes but for marker and witnesses are the same but for witnesses
abbrev pub StrippedOnce : Type 0
StrippedOnce = (a b : Tx) → IsTransaction a → IsTransaction b → stripped a ≡ stripped b → bare a ≡ bare b

-- the bytes of a transaction without inputs are those of no transaction with inputs
abbrev pub InputlessApart : Type 0
InputlessApart = (a b : Tx) → a.inputs ≡ [] → IsTransaction b → stripped a ≡ stripped b → ⊥

-- ---- the bytes of the digest

-- what is signed has numbers within their widths
pub record IsSigned (tx : Tx) (input : TxIn) (script : List ℕ) (value : ℕ) : Type 0 where
  pub version : tx.version < 2 ^ 32
  pub prev : IsPlace input.prev
  pub scripted : IsString script
  pub worth : value < 2 ^ 64
  pub sequence : input.sequence < 2 ^ 32
  pub lock : tx.lock < 2 ^ 32

-- the parts of what is signed are the same
pub record IsSameSigned (hash : List ℕ → List ℕ) (a b : Tx) (i j : TxIn) (s t : List ℕ) (v w : ℕ) : Type 0 where
  pub version : a.version ≡ b.version
  pub places : double hash (places_list a) ≡ double hash (places_list b)
  pub sequences : double hash (sequences_list a) ≡ double hash (sequences_list b)
  pub prev : i.prev ≡ j.prev
  pub script : s ≡ t
  pub value : v ≡ w
  pub sequence : i.sequence ≡ j.sequence
  pub outputs : double hash (outputs_list a) ≡ double hash (outputs_list b)
  pub lock : a.lock ≡ b.lock

-- one preimage signs one thing, where digests have 32 bytes
abbrev pub PreimageOnce : Type 0
PreimageOnce = (hash : List ℕ → List ℕ) (a b : Tx) (i j : TxIn) (s t : List ℕ) (v w : ℕ) → ((message : List ℕ) → length (hash message) ≡ 32)
    → IsSigned a i s v → IsSigned b j t w → preimage hash a i s v ≡ preimage hash b j t w → IsSameSigned hash a b i j s t v w

-- the list of places tells the places
abbrev pub PlacesOnce : Type 0
PlacesOnce =
    (a b : Tx) → AllByRecursion IsInput a.inputs → AllByRecursion IsInput b.inputs → places_list a
    ≡ places_list b → map (λ i. i.prev) a.inputs ≡ map (λ i. i.prev) b.inputs

-- the list of outputs tells the outputs
abbrev pub OutputsOnce : Type 0
OutputsOnce =
    (a b : Tx) → AllByRecursion IsOutput a.outputs → AllByRecursion IsOutput b.outputs → outputs_list a ≡ outputs_list b → a.outputs
    ≡ b.outputs
