-- What is claimed of chain files, line by line: a file comes to what its lines come to, each by its words and behind those before it. So it
-- is refused at its first bad line, which is none of a chain or has a transaction that is bad where it stands, by the first reason that holds.
use Rattle.std.specs.Prelude.{◌≡◌, ℕ, ◌+◌, ◌<◌, ◌≤◌, List, [], ◌∷◌, length, ◌⊎◌, ◌↔◌, Some, None}
use Rattle.spec_data.specs.Messages.{collision}
use Rattle.spec_bitcoin.specs.declared.tx.Tx.{Tx}
use Rattle.spec_compiler.specs.Keyed.Keys.{Keys}
use Rattle.spec_compiler.specs.Keyed.Instance.{Instance}
use Rattle.spec_text.specs.Lines.{lines_of, words_of}
use Rattle.spec_deal.specs.declared.transaction.Transaction.{Transaction}
use Rattle.spec_deal.specs.Transactions.{transactions}
use Rattle.spec_chain.specs.declared.fault.ChainReason.{ChainReason}
use Rattle.spec_chain.specs.declared.fault.ChainFault.TheVariants as faults
use Rattle.spec_chain.specs.declared.reading.Confirmed.{Confirmed}
use Rattle.spec_chain.specs.Chain.{Course, Followed, stands, refused, collided, transaction_strings, gone_on, follow_chain, opening_course}
use Rattle.spec_chain.specs.Following.{State}
use Rattle.spec_chain.specs.Sizes.{most_chain_bytes}
use Rattle.theory_chain.specs.Files.{GivesHeight, GivesTx, IsBad}
use Rattle.theory_chain.specs.Reasons.{IsReason, IsFirstReason}

-- ---- a line with a transaction

abbrev pub on_line : ℕ → ℕ → Tx → Confirmed
on_line n height tx = record { line = n; height = height; tx = tx }

-- the words give a transaction, of whose strings none collides with another or with one that was hashed
pub record GivesNew (hash : List ℕ → List ℕ) (course : Course) (height : ℕ) (words : List (List ℕ)) (tx : Tx) : Type 0 where
  pub gives : GivesTx height words tx
  pub calm : collision hash course.messages (transaction_strings hash tx) ≡ None

-- the words give a transaction whose strings collide; of the first two that do, these are the earlier and the later
pub record GivesCollision (hash : List ℕ → List ℕ) (course : Course) (height : ℕ) (words : List (List ℕ)) (earlier later : List ℕ)
    : Type 0 where
  pub tx : Tx
  pub gives : GivesTx height words tx
  pub pair : collision hash course.messages (transaction_strings hash tx) ≡ Some (earlier, later)

-- no reason holds of the transaction where the deal stands so
abbrev pub IsFine : (List ℕ → List ℕ) → Instance → List Transaction → State → ℕ → Tx → Type 0
IsFine hash s ts state height tx = (reason : ChainReason) → IsReason hash s ts state height tx reason → ⊥

-- ---- all lines

-- the lines from number n on come to this, behind a course and the height last given
abbrev pub LinesCome : (List ℕ → List ℕ) → Instance → List Transaction → ℕ → ℕ → Course → List (List ℕ) → Followed → Type 0
LinesCome hash s ts n height course [] followed = followed ≡ stands course height
LinesCome hash s ts n height course (line ∷ lines) followed =
    ((words_of line ≡ []) × LinesCome hash s ts (n + 1) height course lines followed)
    ⊎ (((next : ℕ) × GivesHeight height (words_of line) next × LinesCome hash s ts (n + 1) next course lines followed)
    ⊎ (((tx : Tx) × GivesNew hash course height (words_of line) tx × IsFine hash s ts course.state height tx
    × LinesCome hash s ts (n + 1) height (gone_on hash s ts course (on_line n height tx)) lines followed)
    ⊎ (((tx : Tx) × (reason : ChainReason) × GivesNew hash course height (words_of line) tx
    × IsFirstReason hash s ts course.state height tx reason × (followed ≡ refused (faults.Line n reason)))
    ⊎ (((earlier : List ℕ) × (later : List ℕ) × GivesCollision hash course height (words_of line) earlier later
    × (followed ≡ collided earlier later))
    ⊎ ((reason : ChainReason) × IsBad height (words_of line) reason × (followed ≡ refused (faults.Line n reason)))))))

-- a text comes to this: one that isn't too long to what its lines come to, behind the deal that no transaction has touched
abbrev pub ChainIs : (List ℕ → List ℕ) → Keys → Instance → List ℕ → Followed → Type 0
ChainIs hash keys s text followed =
    ((most_chain_bytes < length text) × (followed ≡ refused faults.Size))
    ⊎ ((length text ≤ most_chain_bytes)
    × LinesCome hash s (transactions hash keys s) 1 0 (opening_course hash keys s) (lines_of text) followed)

-- ---- what is claimed

abbrev pub ChainsCome : Type 0
ChainsCome = (hash : List ℕ → List ℕ) (keys : Keys) (s : Instance) (text : List ℕ) (followed : Followed)
    → (follow_chain hash keys s text ≡ followed) ↔ ChainIs hash keys s text followed
