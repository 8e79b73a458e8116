-- What is claimed of files of secrets: a file comes to what its lines come to, each by its words and behind those before it; so it is
-- refused at its first bad line, by the first reason that holds there.
use Rattle.std.specs.Prelude.{◌≡◌, ℕ, ◌+◌, ◌<◌, ◌≤◌, List, [], ◌∷◌, ◌++◌, length, ◌⊎◌, ◌↔◌, true, false, Some, codes}
use Rattle.spec_data.specs.Digits.{read_hex}
use Rattle.spec_data.specs.Lists.{is_among}
use Rattle.spec_data.specs.Messages.{noted, noted_all}
use Rattle.spec_data.specs.Ranges.{least_secret_bytes, most_item_bytes}
use Rattle.spec_compiler.specs.Keyed.Keys.{Keys}
use Rattle.spec_compiler.specs.Keyed.Instance.{Instance}
use Rattle.spec_compiler.specs.Scripts.{digest_of}
use Rattle.spec_text.specs.Lines.{lines_of, words_of}
use Rattle.spec_deal.specs.declared.entry.Shown.{Shown}
use Rattle.spec_deal.specs.declared.fault.SecretReason.{SecretReason}
use Rattle.spec_deal.specs.declared.fault.SecretReason.TheVariants as reasons
use Rattle.spec_deal.specs.declared.fault.SecretFault.TheVariants as faults
use Rattle.spec_deal.specs.Sizes.{most_secrets_bytes}
use Rattle.spec_deal.specs.Needed.{needed_secrets}
use Rattle.spec_deal.specs.Hashed.{deal_strings}
use Rattle.spec_deal.specs.SecretFile.{state_words, SecretsRead, shows, refused, collided, read_behind, read_secrets}
use Rattle.theory_deal.specs.FirstOf.{NoneIs, IsFirst}

-- ---- a line that gives a string

-- the words name a secret of the contract and spell bytes
pub record NamesSecret (s : Instance) (words : List (List ℕ)) (name bytes : List ℕ) : Type 0 where
  pub word : List ℕ
  pub said : words ≡ codes "secret" ∷ name ∷ word ∷ []
  pub needed : is_among name (needed_secrets s.advert) ≡ true
  pub digits : read_hex word ≡ Some bytes

-- it is of this secret
abbrev pub IsOfSecret : List ℕ → Shown → Type 0
IsOfSecret name shown = shown.name ≡ name

-- and none of these gave that secret a string
pub record IsFresh (s : Instance) (taken : List Shown) (words : List (List ℕ)) (name bytes : List ℕ) : Type 0 where
  pub named : NamesSecret s words name bytes
  pub fresh : NoneIs (IsOfSecret name) taken

abbrev pub IsLong : List ℕ → Type 0
IsLong bytes = (least_secret_bytes ≤ length bytes) × (length bytes ≤ most_item_bytes)

-- and it has as many bytes as a secret
pub record IsHashed (s : Instance) (taken : List Shown) (words : List (List ℕ)) (name bytes : List ℕ) : Type 0 where
  pub fresh : IsFresh s taken words name bytes
  pub long : IsLong bytes

-- another string with the same digest
abbrev pub IsOther : (List ℕ → List ℕ) → List ℕ → List ℕ → Type 0
IsOther hash bytes earlier = (hash earlier ≡ hash bytes) × (earlier ≡ bytes → ⊥)

-- and no other string that was hashed has its digest
pub record IsAlone (hash : List ℕ → List ℕ) (s : Instance) (messages : List (List ℕ)) (taken : List Shown) (words : List (List ℕ))
    (name bytes : List ℕ) : Type 0 where
  pub hashed : IsHashed s taken words name bytes
  pub alone : NoneIs (IsOther hash bytes) messages

-- and that is the digest that the deal has for the secret: the words give the string
pub record GivesString (hash : List ℕ → List ℕ) (s : Instance) (messages : List (List ℕ)) (taken : List Shown) (words : List (List ℕ))
    (name bytes : List ℕ) : Type 0 where
  pub alone : IsAlone hash s messages taken words name bytes
  pub fits : hash bytes ≡ digest_of s.hashes name

-- ---- other lines

-- the first word begins a line, other than that of a secret, of a text that says where a deal stands
abbrev pub IsOfState : List (List ℕ) → Type 0
IsOfState [] = ⊥
IsOfState (word ∷ words) = is_among word state_words ≡ true

-- the words say nothing of secrets: there are none, or they are of such a line
abbrev pub SaysNothing : List (List ℕ) → Type 0
SaysNothing words = (words ≡ []) ⊎ IsOfState words

-- there are words, but neither those of such a line nor those of a secret
pub record IsNoSecret (words : List (List ℕ)) : Type 0 where
  pub some : words ≡ [] → ⊥
  pub no_state : IsOfState words → ⊥
  pub other : (name word : List ℕ) → words ≡ codes "secret" ∷ name ∷ word ∷ [] → ⊥

-- the words are bad by this reason, and by none before it
abbrev pub IsBadSecret : (List ℕ → List ℕ) → Instance → List (List ℕ) → List Shown → List (List ℕ) → SecretReason → Type 0
IsBadSecret hash s messages taken words reasons.Form = IsNoSecret words
IsBadSecret hash s messages taken words reasons.Foreign =
    (name : List ℕ) × (word : List ℕ) × (words ≡ codes "secret" ∷ name ∷ word ∷ [])
    × (is_among name (needed_secrets s.advert) ≡ false)
IsBadSecret hash s messages taken words reasons.Value =
    (name : List ℕ) × (word : List ℕ) × (words ≡ codes "secret" ∷ name ∷ word ∷ [])
    × (is_among name (needed_secrets s.advert) ≡ true) × ((bytes : List ℕ) → read_hex word ≡ Some bytes → ⊥)
IsBadSecret hash s messages taken words (reasons.Repeated k) =
    (name : List ℕ) × (bytes : List ℕ) × (earlier : Shown) × NamesSecret s words name bytes
    × IsFirst (IsOfSecret name) taken earlier × (earlier.line ≡ k)
IsBadSecret hash s messages taken words reasons.Length =
    (name : List ℕ) × (bytes : List ℕ) × IsFresh s taken words name bytes × (IsLong bytes → ⊥)
IsBadSecret hash s messages taken words reasons.Hash =
    (name : List ℕ) × (bytes : List ℕ) × IsAlone hash s messages taken words name bytes
    × (hash bytes ≡ digest_of s.hashes name → ⊥)

-- the later string, which the words spell, and the earlier one, the first that was hashed, are different with one digest
abbrev pub IsCollision : (List ℕ → List ℕ) → Instance → List (List ℕ) → List Shown → List (List ℕ) → List ℕ → List ℕ → Type 0
IsCollision hash s messages taken words earlier later =
    (name : List ℕ) × IsHashed s taken words name later × IsFirst (IsOther hash later) messages earlier

-- ---- all lines

abbrev pub shown_in : ℕ → List ℕ → List ℕ → Shown
shown_in n name bytes = record { line = n; name = name; bytes = bytes }

-- the lines from number n on come to this, behind the strings that were hashed and those that lines gave
abbrev pub SecretsCome : (List ℕ → List ℕ) → Instance → List (List ℕ) → List Shown → ℕ → List (List ℕ) → SecretsRead → Type 0
SecretsCome hash s messages taken n [] read = read ≡ shows taken
SecretsCome hash s messages taken n (line ∷ lines) read =
    (SaysNothing (words_of line) × SecretsCome hash s messages taken (n + 1) lines read)
    ⊎ (((name : List ℕ) × (bytes : List ℕ) × GivesString hash s messages taken (words_of line) name bytes
    × SecretsCome hash s (noted messages bytes) (taken ++ shown_in n name bytes ∷ []) (n + 1) lines read)
    ⊎ (((reason : SecretReason) × IsBadSecret hash s messages taken (words_of line) reason
    × (read ≡ refused (faults.Line n reason)))
    ⊎ ((earlier : List ℕ) × (later : List ℕ) × IsCollision hash s messages taken (words_of line) earlier later
    × (read ≡ collided earlier later))))

-- a text comes to this: one that isn't too long to what its lines come to, behind the strings that were hashed
abbrev pub SecretsAre : (List ℕ → List ℕ) → Instance → List (List ℕ) → List ℕ → SecretsRead → Type 0
SecretsAre hash s messages text read =
    ((most_secrets_bytes < length text) × (read ≡ refused faults.Size))
    ⊎ ((length text ≤ most_secrets_bytes) × SecretsCome hash s messages [] 1 (lines_of text) read)

-- ---- what is claimed

-- of every text, whatever strings were hashed before it: `finish` reads it behind those of the compiled deal, `state` behind those of the
-- chain
pub record SecretFilesAreRead : Type 0 where
  pub behind : (hash : List ℕ → List ℕ) (s : Instance) (messages : List (List ℕ)) (text : List ℕ) (read : SecretsRead)
      → (read_behind hash s messages text ≡ read) ↔ SecretsAre hash s messages text read
  pub first : (hash : List ℕ → List ℕ) (keys : Keys) (s : Instance) (text : List ℕ) (read : SecretsRead)
      → (read_secrets hash keys s text ≡ read) ↔ SecretsAre hash s (noted_all [] (deal_strings hash keys s)) text read
