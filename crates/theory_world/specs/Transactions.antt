-- What is known of a transaction: its numbers are within their widths, and its lists are among the messages.
use Rattle.std.specs.Prelude.{◌≡◌, ℕ, ◌<◌, ◌^◌, List, [], ◌∷◌, length, true}
use Rattle.std.specs.List.{flat_map, AllByRecursion}
use Rattle.spec_data.specs.Lists.{is_among}
use Rattle.spec_bitcoin.specs.declared.tx.TxIn.{TxIn}
use Rattle.spec_bitcoin.specs.declared.tx.Tx.{Tx}
use Rattle.spec_bitcoin.specs.Spelling.{output_bytes, IsOutput}
use Rattle.spec_bitcoin.specs.Digests.{places_list, sequences_list, outputs_list}
use Rattle.theory_bitcoin.specs.Places.{AllPlaces}

-- where no script is given
abbrev pub NoScripts : List TxIn → Type 0
NoScripts [] = Unit {0}
NoScripts (i ∷ is) = (i.script_sig ≡ []) × NoScripts is

-- each input's sequence number fits its width
abbrev pub AllSequences : List TxIn → Type 0
AllSequences [] = Unit {0}
AllSequences (i ∷ is) = (i.sequence < 2 ^ 32) × AllSequences is

-- the numbers are within their widths, however many inputs there are, and the outputs aren't long
pub record IsNumbered (tx : Tx) : Type 0 where
  pub version : tx.version < 2 ^ 32
  pub places : AllPlaces tx.inputs
  pub sequences : AllSequences tx.inputs
  pub outputs : AllByRecursion IsOutput tx.outputs
  pub size : length (flat_map output_bytes tx.outputs) < 2 ^ 32
  pub lock : tx.lock < 2 ^ 32

-- the three lists of a transaction, and their hashes, are among the messages
pub record HeardLists (hash : List ℕ → List ℕ) (hs : List (List ℕ)) (tx : Tx) : Type 0 where
  pub places : is_among (places_list tx) hs ≡ true
  pub places_hash : is_among (hash (places_list tx)) hs ≡ true
  pub sequences : is_among (sequences_list tx) hs ≡ true
  pub sequences_hash : is_among (hash (sequences_list tx)) hs ≡ true
  pub outputs : is_among (outputs_list tx) hs ≡ true
  pub outputs_hash : is_among (hash (outputs_list tx)) hs ≡ true
