-- Files of secrets: the strings that the lines of a text give to the secrets of a contract; or why a file is refused, or which strings
-- collide.
use Rattle.std.specs.Prelude.{ℕ, ◌+◌, List, [], ◌∷◌, ◌++◌, length, Bool, true, false, ◌&&◌, nat_le, nat_lt, if◌then◌else◌}
use Rattle.std.specs.Prelude.{Option, Some, None, codes}
use Rattle.std.specs.List.{find}
use Rattle.std.specs.Option.{option_map}
use Rattle.std.specs.Str.{bytes_eq}
use Rattle.spec_data.specs.Digits.{read_hex}
use Rattle.spec_data.specs.Lists.{is_among}
use Rattle.spec_data.specs.Messages.{noted, noted_all, collision_with}
use Rattle.spec_data.specs.Ranges.{least_secret_bytes, most_item_bytes}
use Rattle.spec_compiler.specs.Keyed.Keys.{Keys}
use Rattle.spec_compiler.specs.Keyed.Instance.{Instance}
use Rattle.spec_compiler.specs.Scripts.{digest_of}
use Rattle.spec_text.specs.Lines.{lines_of, words_of}
use Rattle.spec_deal.specs.declared.entry.Shown.{Shown}
use Rattle.spec_deal.specs.declared.fault.SecretReason.{SecretReason}
use Rattle.spec_deal.specs.declared.fault.SecretReason.TheVariants as reasons
use Rattle.spec_deal.specs.declared.fault.SecretFault.{SecretFault}
use Rattle.spec_deal.specs.declared.fault.SecretFault.TheVariants as faults
use Rattle.spec_deal.specs.Sizes.{most_secrets_bytes}
use Rattle.spec_deal.specs.Needed.{needed_secrets}
use Rattle.spec_deal.specs.Hashed.{deal_strings}

-- ---- lines

-- what a line says
pub data Line : Type 0 where
  empty : Line
  bad : SecretReason → Line
  -- its string and an earlier one that was hashed have one digest
  collides : (earlier : List ℕ) → (later : List ℕ) → Line
  gives : Shown → Line

-- the string has the digest that the deal has for the secret
abbrev pub if_fits : Bool → Shown → Line
if_fits true shown = gives shown
if_fits false shown = bad reasons.Hash

-- a string is hashed once it is known to have as many bytes as a secret
abbrev pub hashed_line : (List ℕ → List ℕ) → Instance → Shown → Option (List ℕ × List ℕ) → Line
hashed_line hash s shown (Some pair) = collides (pair.0) (pair.1)
hashed_line hash s shown None = if_fits (bytes_eq (hash shown.bytes) (digest_of s.hashes shown.name)) shown

abbrev pub has_length : List ℕ → Bool
has_length bytes = nat_le least_secret_bytes (length bytes) && nat_le (length bytes) most_item_bytes

abbrev pub if_new : (List ℕ → List ℕ) → Instance → List (List ℕ) → Shown → Option Shown → Line
if_new hash s messages shown (Some earlier) = bad (reasons.Repeated earlier.line)
if_new hash s messages shown None =
    if has_length shown.bytes then hashed_line hash s shown (collision_with hash messages shown.bytes) else bad reasons.Length

abbrev pub with_bytes : (List ℕ → List ℕ) → Instance → List (List ℕ) → List Shown → ℕ → List ℕ → Option (List ℕ) → Line
with_bytes hash s messages taken n name None = bad reasons.Value
with_bytes hash s messages taken n name (Some bytes) =
    if_new hash s messages (record { line = n; name = name; bytes = bytes }) (find (λ (x : Shown). bytes_eq x.name name) taken)

abbrev pub named_line : (List ℕ → List ℕ) → Instance → List (List ℕ) → List Shown → ℕ → List ℕ → List ℕ → Line
named_line hash s messages taken n name word =
    if is_among name (needed_secrets s.advert) then with_bytes hash s messages taken n name (read_hex word) else bad reasons.Foreign

-- what these words of line n give, behind these strings and the messages that were hashed
abbrev pub secret_line : (List ℕ → List ℕ) → Instance → List (List ℕ) → List Shown → ℕ → List (List ℕ) → Line
secret_line hash s messages taken n (word ∷ name ∷ hex ∷ []) =
    if bytes_eq word (codes "secret") then named_line hash s messages taken n name hex else bad reasons.Form
secret_line hash s messages taken n _ = bad reasons.Form

-- the first words of the lines, other than those of secrets, of a text that says where a deal stands
abbrev pub state_words : List (List ℕ)
state_words =
    codes "confirmed" ∷ codes "step" ∷ codes "gone" ∷ codes "live" ∷ codes "paid" ∷ codes "height" ∷ codes "can" ∷ codes "cannot"
    ∷ codes "needs" ∷ codes "never:" ∷ codes "waits" ∷ codes "unverified" ∷ []

-- what the words of line n say; those lines are read over
abbrev pub line_says : (List ℕ → List ℕ) → Instance → List (List ℕ) → List Shown → ℕ → List (List ℕ) → Line
line_says hash s messages taken n [] = empty
line_says hash s messages taken n (word ∷ words) =
    if is_among word state_words then empty else secret_line hash s messages taken n (word ∷ words)

-- ---- a file

-- what a file of secrets comes to
pub data SecretsRead : Type 0 where
  shows : (strings : List Shown) → SecretsRead
  refused : (fault : SecretFault) → SecretsRead
  collided : (earlier : List ℕ) → (later : List ℕ) → SecretsRead

-- the lines from number n on
abbrev pub read_lines : (List ℕ → List ℕ) → Instance → List (List ℕ) → List Shown → ℕ → List (List ℕ) → SecretsRead
read_lines hash s messages taken n [] = shows taken
read_lines hash s messages taken n (line ∷ lines) = elim (line_says hash s messages taken n (words_of line)) [
  | empty ↦ read_lines hash s messages taken (n + 1) lines
  | bad reason ↦ refused (faults.Line n reason)
  | collides earlier later ↦ collided earlier later
  | gives shown ↦ read_lines hash s (noted messages shown.bytes) (taken ++ shown ∷ []) (n + 1) lines
]

-- the strings that a file gives, behind the messages that were hashed
abbrev pub read_behind : (List ℕ → List ℕ) → Instance → List (List ℕ) → List ℕ → SecretsRead
read_behind hash s messages text =
    if nat_lt most_secrets_bytes (length text) then refused faults.Size else read_lines hash s messages [] 1 (lines_of text)

-- the same, behind those that were hashed to compile the deal
abbrev pub read_secrets : (List ℕ → List ℕ) → Keys → Instance → List ℕ → SecretsRead
read_secrets hash keys s text = read_behind hash s (noted_all [] (deal_strings hash keys s)) text

-- the string of a secret, where it is given
abbrev pub string_for : List Shown → List ℕ → Option (List ℕ)
string_for strings name = option_map (λ (x : Shown). x.bytes) (find (λ (x : Shown). bytes_eq x.name name) strings)
