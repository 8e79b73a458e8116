-- Which label a text is of.
use Rattle.std.specs.Prelude.{◌≡◌, ℕ, ◌<◌, ◌≤◌, ◌^◌, List, ◌∷◌, ◌++◌, length}
use Rattle.std.specs.Fmt.{decimal}
use Rattle.spec_bitcoin.specs.declared.label.Label.{Label}
use Rattle.spec_bitcoin.specs.declared.label.Label.TheVariants.{Deposit, Branch}
use Rattle.spec_bitcoin.specs.Keys.{label_text, IsLabel}

-- a party of a label: any 1 to 32 bytes
pub record IsParty (party : List ℕ) : Type 0 where
  pub some : 0 < length party
  pub few : length party ≤ 32

abbrev pub party_of : Label → List ℕ
party_of (Deposit party) = party
party_of (Branch contract path party) = party

-- the text is that of this label
pub record IsTextOf (text : List ℕ) (label : Label) : Type 0 where
  pub fits : IsLabel label
  pub named : IsParty (party_of label)
  pub same : text ≡ label_text label

-- no label has this text
abbrev pub NoLabel : List ℕ → Type 0
NoLabel text = (label : Label) → IsTextOf text label → ⊥

-- the text doesn't begin with this byte and a colon
abbrev pub NoKind : ℕ → List ℕ → Type 0
NoKind kind text = (rest : List ℕ) → text ≡ kind ∷ (58 ∷ rest) → ⊥

-- ---- behind the two first bytes of a branch's label

-- the text is the number of a contract, a colon, r, and then anything
pub record IsContractAt (text : List ℕ) (contract : ℕ) (rest : List ℕ) : Type 0 where
  pub fits : contract < 2 ^ 32
  pub same : text ≡ decimal contract ++ (58 ∷ (114 ∷ rest))

abbrev pub NoContractAt : List ℕ → Type 0
NoContractAt text = (contract : ℕ) (rest : List ℕ) → IsContractAt text contract rest → ⊥
