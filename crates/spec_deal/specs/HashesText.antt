-- What `hashes` prints: the lines of a deal file that give the hashes of secrets.
use Rattle.std.specs.Prelude.{ℕ, List, [], ◌∷◌, if◌then◌else◌, Option, Some, None, codes}
use Rattle.std.specs.List.{flat_map}
use Rattle.std.specs.Option.{option_map_or}
use Rattle.std.specs.Str.{bytes_eq}
use Rattle.spec_data.specs.Digits.{hex_text, read_hex}
use Rattle.spec_terms.specs.Advert.{Advert}
use Rattle.spec_compiler.specs.Keyed.Instance.{Instance}
use Rattle.spec_text.specs.Lines.{lines_of, words_of}
use Rattle.spec_deal.specs.declared.entry.Shown.{Shown}
use Rattle.spec_deal.specs.DealText.{line_of}
use Rattle.spec_deal.specs.Needed.{deal_contract}
use Rattle.spec_deal.specs.SecretFile.{SecretsRead, read_behind}

-- the hash that a line of a secret offers
abbrev pub offered_by : (List ℕ → List ℕ) → List (List ℕ) → List (List ℕ × List ℕ)
offered_by hash (word ∷ name ∷ hex ∷ []) =
    if bytes_eq word (codes "secret") then option_map_or (λ bytes. (name, hash bytes) ∷ []) (read_hex hex) [] else []
offered_by hash _ = []

abbrev pub offered : (List ℕ → List ℕ) → List ℕ → List (List ℕ × List ℕ)
offered hash text = flat_map (λ line. offered_by hash (words_of line)) (lines_of text)

-- a deal that has the hashes of the strings of a file
abbrev pub offering : (List ℕ → List ℕ) → Advert → List ℕ → Instance
offering hash advert text = record { contract = deal_contract; advert = advert; bound = []; hashes = offered hash text }

-- the strings of a file, whatever their hashes are
abbrev pub read_offered : (List ℕ → List ℕ) → Advert → List ℕ → SecretsRead
read_offered hash advert text = read_behind hash (offering hash advert text) [] text

abbrev pub hash_line : (List ℕ → List ℕ) → Shown → List ℕ
hash_line hash shown = line_of (codes "hash" ∷ shown.name ∷ hex_text (hash shown.bytes) ∷ [])

-- in the order of the lines
abbrev pub hashes_text : (List ℕ → List ℕ) → List Shown → List ℕ
hashes_text hash strings = flat_map (hash_line hash) strings
