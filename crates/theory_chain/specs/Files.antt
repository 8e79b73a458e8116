-- What is claimed of chain files: one is taken exactly where its lines spell a chain, and refused exactly at its first line that spells
-- nothing of one, by the reason that holds there.
use Rattle.std.specs.Prelude.{◌≡◌, ℕ, ◌+◌, ◌<◌, ◌≤◌, List, [], ◌∷◌, length, ◌⊎◌, ◌↔◌, Some, None, codes}
use Rattle.std.specs.Fmt.{decimal}
use Rattle.spec_data.specs.Digits.{read_hex}
use Rattle.spec_data.specs.Ranges.{last_height}
use Rattle.spec_bitcoin.specs.declared.tx.Tx.{Tx}
use Rattle.spec_bitcoin.specs.Spelling.{Spells}
use Rattle.spec_text.specs.Lines.{lines_of, words_of}
use Rattle.spec_chain.specs.declared.fault.ChainReason.{ChainReason}
use Rattle.spec_chain.specs.declared.fault.ChainReason.TheVariants as reasons
use Rattle.spec_chain.specs.declared.fault.ChainFault.TheVariants as faults
use Rattle.spec_chain.specs.declared.reading.Confirmed.{Confirmed}
use Rattle.spec_chain.specs.ChainFile.{read_chain}
use Rattle.spec_chain.specs.Sizes.{most_chain_bytes}

-- ---- lines of a chain

-- the words give a height that isn't below this one
pub record GivesHeight (height : ℕ) (words : List (List ℕ)) (next : ℕ) : Type 0 where
  pub said : words ≡ codes "height" ∷ decimal next ∷ []
  pub within : next ≤ last_height
  pub rises : height ≤ next

-- the words give a transaction of a block of this height
pub record GivesTx (height : ℕ) (words : List (List ℕ)) (tx : Tx) : Type 0 where
  pub word : List ℕ
  pub bytes : List ℕ
  pub said : words ≡ codes "tx" ∷ word ∷ []
  pub digits : read_hex word ≡ Some bytes
  pub spelled : Spells bytes tx
  pub begun : 0 < height

-- the lines from number n on spell these transactions, and end at this tip
abbrev pub AreLines : ℕ → ℕ → List (List ℕ) → List Confirmed → ℕ → Type 0
AreLines n height [] confirmed tip = (confirmed ≡ []) × (tip ≡ height)
AreLines n height (line ∷ lines) confirmed tip =
    ((words_of line ≡ []) × AreLines (n + 1) height lines confirmed tip)
    ⊎ (((next : ℕ) × GivesHeight height (words_of line) next × AreLines (n + 1) next lines confirmed tip)
    ⊎ ((tx : Tx) × (more : List Confirmed) × GivesTx height (words_of line) tx
    × (confirmed ≡ record { line = n; height = height; tx = tx } ∷ more) × AreLines (n + 1) height lines more tip))

-- ---- other lines

-- there are words, but not the two of a height or of a transaction
pub record IsNoLine (words : List (List ℕ)) : Type 0 where
  pub some : words ≡ [] → ⊥
  pub no_height : (value : List ℕ) → words ≡ codes "height" ∷ value ∷ [] → ⊥
  pub no_tx : (value : List ℕ) → words ≡ codes "tx" ∷ value ∷ [] → ⊥

-- the words are bad by this reason, behind this height
abbrev pub IsBad : ℕ → List (List ℕ) → ChainReason → Type 0
IsBad height words reasons.Form = IsNoLine words
IsBad height words reasons.Height =
    ((value : List ℕ) × (words ≡ codes "height" ∷ value ∷ [])
    × ((next : ℕ) → value ≡ decimal next → next ≤ last_height → height ≤ next → ⊥))
    ⊎ ((value : List ℕ) × (words ≡ codes "tx" ∷ value ∷ []) × (height ≡ 0))
IsBad height words reasons.Tx =
    (value : List ℕ) × (words ≡ codes "tx" ∷ value ∷ []) × (0 < height)
    × ((bytes : List ℕ) (tx : Tx) → read_hex value ≡ Some bytes → Spells bytes tx → ⊥)
IsBad height words (reasons.Input k) = ⊥
IsBad height words (reasons.Foreign k) = ⊥
IsBad height words reasons.Lock = ⊥
IsBad height words (reasons.Witness k) = ⊥
IsBad height words reasons.Branch = ⊥

-- of the lines from number n on, each before number m is one of a chain, and that of number m is bad by this reason
abbrev pub IsRefusedAt : ℕ → ℕ → List (List ℕ) → ℕ → ChainReason → Type 0
IsRefusedAt n height [] m reason = ⊥
IsRefusedAt n height (line ∷ lines) m reason =
    ((n ≡ m) × IsBad height (words_of line) reason)
    ⊎ (((words_of line ≡ []) × IsRefusedAt (n + 1) height lines m reason)
    ⊎ (((next : ℕ) × GivesHeight height (words_of line) next × IsRefusedAt (n + 1) next lines m reason)
    ⊎ ((tx : Tx) × GivesTx height (words_of line) tx × IsRefusedAt (n + 1) height lines m reason)))

-- ---- what is claimed

abbrev pub ChainsAreSpelled : Type 0
ChainsAreSpelled = (text : List ℕ) (confirmed : List Confirmed) (tip : ℕ)
    → (read_chain text ≡ record { confirmed = confirmed; tip = tip; fault = None })
    ↔ ((length text ≤ most_chain_bytes) × AreLines 1 0 (lines_of text) confirmed tip)

abbrev pub ChainsAreRefused : Type 0
ChainsAreRefused = (text : List ℕ) (n : ℕ) (reason : ChainReason) → ((read_chain text).fault ≡ Some (faults.Line n reason))
    ↔ ((length text ≤ most_chain_bytes) × IsRefusedAt 1 0 (lines_of text) n reason)
