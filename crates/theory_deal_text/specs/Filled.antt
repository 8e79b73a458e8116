-- The text of `keys` with its blanks filled in, and the deal that it then gives.
use Rattle.std.specs.Prelude.{◌≡◌, ℕ, ◌≤◌, List, [], ◌∷◌, ◌++◌, length, map, reverse, Bool, true, not, ◌&&◌, if◌then◌else◌, None, Ok}
use Rattle.std.specs.Fmt.{decimal}
use Rattle.std.specs.List.{flat_map, list_any, AllByRecursion}
use Rattle.spec_data.specs.Digits.{hex_text}
use Rattle.spec_data.specs.Hashes.{IsBytes}
use Rattle.spec_terms.specs.Advert.{Advert}
use Rattle.spec_terms.specs.Faults.{IsWellFormed}
use Rattle.spec_terms.specs.Precondition.{names_of}
use Rattle.spec_bitcoin.specs.declared.label.Label.{Label}
use Rattle.spec_bitcoin.specs.declared.tx.OutPoint.{OutPoint}
use Rattle.spec_bitcoin.specs.Spelling.{IsPlace}
use Rattle.spec_text.specs.Lines.{words_of, lines_of}
use Rattle.spec_deal.specs.declared.deal.Deal.{Deal}
use Rattle.spec_deal.specs.declared.entry.Value.{Value}
use Rattle.spec_deal.specs.declared.entry.Value.TheVariants.{Key as key, Place as place, Wallet as wallet, Hash as hash}
use Rattle.spec_deal.specs.declared.entry.Value.TheVariants.{Network as hrp, Script as script}
use Rattle.spec_deal.specs.DealFile.{same_value, is_key, read_deal}
use Rattle.spec_deal.specs.DealText.{line_of, keys_text}
use Rattle.spec_deal.specs.Needed.{needed_labels, needed_deposits, needed_secrets}
use Rattle.spec_deal.specs.Sizes.{most_deal_bytes}
use Rattle.spec_deal.specs.Verifier.{Verifier}
use Rattle.theory_play_text.specs.Lines.{Words}
use Rattle.theory_deal_text.specs.Keys.{is_blank}

-- ---- filling in

-- the words with their first blanks replaced by these values
abbrev pub filled_words : Words → Words → Words
filled_words values [] = []
filled_words [] (word ∷ words) = word ∷ words
filled_words (value ∷ values) (word ∷ words) =
    if is_blank word then value ∷ filled_words values words else word ∷ filled_words (value ∷ values) words

-- line by line, each with its own values
abbrev pub filled_lines : List Words → List Words → List Words
filled_lines fillings [] = []
filled_lines [] (line ∷ lines) = line ∷ lines
filled_lines (values ∷ fillings) (line ∷ lines) = filled_words values line ∷ filled_lines fillings lines

-- the text with the blanks of its lines filled in
abbrev pub filled : List Words → List ℕ → List ℕ
filled fillings text = flat_map line_of (filled_lines fillings (map words_of (lines_of text)))

-- ---- what is given

-- a key for each label, a place for each deposit, a hash for each secret
pub record Given : Type 0 where
  pub keys : List (Label × List ℕ)
  pub places : List (List ℕ × OutPoint)
  pub hashes : List (List ℕ × List ℕ)

abbrev pub digits_word : List ℕ → Words
digits_word bytes = hex_text bytes ∷ []

-- a txid is shown with its bytes reversed
abbrev pub place_words : OutPoint → Words
place_words outpoint = hex_text (reverse outpoint.txid) ∷ decimal outpoint.vout ∷ []

-- the words for the blanks of each line, in the order of the lines
abbrev pub fillings : Given → List Words
fillings g =
    map (λ p. digits_word (p.1)) g.keys ++ (map (λ p. place_words (p.1)) g.places ++ map (λ p. digits_word (p.1)) g.hashes)

-- the values that they spell
abbrev pub given_values : Given → List Value
given_values g = map (λ p. key (p.1)) g.keys ++ (map (λ p. place (p.1)) g.places ++ map (λ p. hash (p.1)) g.hashes)

-- ---- what is asked of it

-- a key that is a point, a place that a transaction can name, a digest
abbrev pub IsValue : Verifier → Value → Type 0
IsValue v (key bytes) = IsBytes bytes × (is_key v bytes ≡ true)
IsValue v (place outpoint) = IsPlace outpoint
IsValue v (hash bytes) = IsBytes bytes × (length bytes ≡ 32)
IsValue v (wallet outpoint own) = ⊥
IsValue v (hrp part) = ⊥
IsValue v (script bytes) = ⊥

-- no value is given twice
abbrev pub are_apart : List Value → Bool
are_apart [] = true
are_apart (x ∷ xs) = not (list_any (same_value x) xs) && are_apart xs

-- there is one of each that the contract needs, in order; each is of its kind; none is another's, too
pub record Fits (v : Verifier) (advert : Advert) (g : Given) : Type 0 where
  pub labels : map (λ p. p.0) g.keys ≡ needed_labels advert
  pub deposits : names_of g.places ≡ needed_deposits advert
  pub secrets : names_of g.hashes ≡ needed_secrets advert
  pub each : AllByRecursion (IsValue v) (given_values g)
  pub apart : are_apart (given_values g) ≡ true

-- the deal that they give: no wallet brings a deposit, and each party is paid at its key
abbrev pub given_deal : Given → Deal
given_deal g = record { keys = g.keys; deposits = g.places; hashes = g.hashes; network = None; wallets = []; payees = [] }

-- ---- what is claimed

-- the text of `keys` with its blanks filled in is a deal file that is taken, and gives what was filled in, unless it is too long
abbrev pub FilledKeysAreTaken : Type 0
FilledKeysAreTaken = (v : Verifier) (advert : Advert) (g : Given) → IsWellFormed advert → Fits v advert g
    → length (filled (fillings g) (keys_text advert)) ≤ most_deal_bytes
    → read_deal v advert (filled (fillings g) (keys_text advert)) ≡ Ok (given_deal g)
