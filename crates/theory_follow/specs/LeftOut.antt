-- What is claimed of chains with and without transactions that have nothing to do with the deal, however many and wherever: where one stands
-- the other does, no strings collide that didn't, and the text is the same.
use Rattle.std.specs.Prelude.{◌≡◌, ℕ, List, [], ◌∷◌, ◌++◌, ◌⊎◌, None}
use Rattle.std.specs.List.{flat_map}
use Rattle.spec_bitcoin.specs.declared.tx.Tx.{Tx}
use Rattle.spec_compiler.specs.Keyed.Keys.{Keys}
use Rattle.spec_compiler.specs.Keyed.Instance.{Instance}
use Rattle.spec_deal.specs.declared.entry.Shown.{Shown}
use Rattle.spec_deal.specs.declared.signed.Signed.{Signed}
use Rattle.spec_deal.specs.declared.transaction.Transaction.{Transaction}
use Rattle.spec_deal.specs.Hashed.{deal_strings}
use Rattle.spec_deal.specs.Transactions.{transactions}
use Rattle.spec_chain.specs.declared.reading.Confirmed.{Confirmed}
use Rattle.spec_chain.specs.Chain.{Course, stands, transaction_strings, gone_on, follow_chain, opening_course}
use Rattle.spec_chain.specs.ChainFile.{read_chain}
use Rattle.spec_chain.specs.StateText.{state_text}
use Rattle.theory_world.specs.KeptApart.{NoCollision}
use Rattle.theory_chain.specs.Aside.{IsAside, in_block, in_blocks}

-- the first transactions are those of these blocks, and between them others, each of which has nothing to do with the deal where it stands
abbrev pub HasAsides : (List ℕ → List ℕ) → Instance → List Transaction → Course → List Confirmed → List (ℕ × Tx) → Type 0
HasAsides hash s ts course [] blocks = blocks ≡ []
HasAsides hash s ts course (c ∷ cs) blocks =
    (IsAside hash s ts course.state c.tx × HasAsides hash s ts (gone_on hash s ts course c) cs blocks)
    ⊎ ((more : List (ℕ × Tx)) × (blocks ≡ in_block c ∷ more) × HasAsides hash s ts (gone_on hash s ts course c) cs more)

-- what is hashed of a deal and the transactions of a chain file
abbrev pub chain_strings : (List ℕ → List ℕ) → Keys → Instance → List ℕ → List (List ℕ)
chain_strings hash keys s text =
    deal_strings hash keys s ++ flat_map (λ (c : Confirmed). transaction_strings hash c.tx) (read_chain text).confirmed

-- the chain stands, at its own tip, and what is printed is what is printed of another
pub record StandsAlike (hash : List ℕ → List ℕ) (keys : Keys) (s : Instance) (text : List ℕ) (other : Course) : Type 0 where
  pub course : Course
  pub followed : follow_chain hash keys s text ≡ stands course (read_chain text).tip
  pub same : (height : ℕ) (given : List Signed) (strings : List Shown)
      → state_text hash keys s course height given strings ≡ state_text hash keys s other height given strings

-- the longer file has the transactions of the text, and such others
pub record WithAsides (hash : List ℕ → List ℕ) (keys : Keys) (s : Instance) (text longer : List ℕ) : Type 0 where
  -- where the text stands so does the longer one, if no two strings that are hashed then have one hash
  pub added : (course : Course) (tip : ℕ) → follow_chain hash keys s text ≡ stands course tip → (read_chain longer).fault ≡ None
      → NoCollision hash (chain_strings hash keys s longer) → StandsAlike hash keys s longer course
  -- and where the longer one stands so does the text, whatever is hashed
  pub left_out : (course : Course) (tip : ℕ) → follow_chain hash keys s longer ≡ stands course tip → (read_chain text).fault ≡ None
      → StandsAlike hash keys s text course

abbrev pub AsidesLeftOut : Type 0
AsidesLeftOut =
    (hash : List ℕ → List ℕ) (keys : Keys) (s : Instance) (text longer : List ℕ)
    → HasAsides hash s (transactions hash keys s) (opening_course hash keys s) (read_chain longer).confirmed
    (in_blocks (read_chain text).confirmed)
    → WithAsides hash keys s text longer
