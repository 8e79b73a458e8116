-- Deal files: the deal that the lines of a text give to a contract, or why it is refused. A file may lack lines as long as nothing is to be
-- compiled.
use Rattle.std.specs.Prelude.{ℕ, ◌+◌, List, [], ◌∷◌, ◌++◌, length, map, reverse, replicate, Bool, true, false, not, ◌&&◌, ◌||◌, ◌==◌, nat_lt}
use Rattle.std.specs.Prelude.{if◌then◌else◌, Option, Some, None, Result, Ok, Err, codes}
use Rattle.std.specs.List.{find, flat_map, list_any}
use Rattle.std.specs.Option.{option_map}
use Rattle.std.specs.Str.{bytes_eq}
use Rattle.spec_data.specs.Digits.{read_hex}
use Rattle.spec_data.specs.Lists.{or_else}
use Rattle.spec_terms.specs.Advert.{Advert}
use Rattle.spec_terms.specs.Parties.{participants}
use Rattle.spec_bitcoin.specs.declared.label.Label.{Label}
use Rattle.spec_bitcoin.specs.declared.label.Label.TheVariants as labels
use Rattle.spec_bitcoin.specs.declared.tx.OutPoint.{OutPoint}
use Rattle.spec_bitcoin.specs.Keys.{label_text, key_bytes}
use Rattle.spec_bitcoin.specs.Live.{same_outpoint}
use Rattle.spec_compiler.specs.Keyed.Keys.{Keys}
use Rattle.spec_text.specs.Lines.{lines_of, words_of}
use Rattle.spec_text.specs.Words.{◌>>=◌, given, small, one_of, digest}
use Rattle.spec_address.specs.Address.{is_hrp, read_address}
use Rattle.spec_deal.specs.declared.deal.Deal.{Deal}
use Rattle.spec_deal.specs.declared.deal.Needed.{Needed}
use Rattle.spec_deal.specs.declared.deal.Needed.TheVariants as needs
use Rattle.spec_deal.specs.declared.entry.Value.{Value}
use Rattle.spec_deal.specs.declared.entry.Value.TheVariants.{Key as key, Place as place, Wallet as wallet, Hash as hash}
use Rattle.spec_deal.specs.declared.entry.Value.TheVariants.{Network as hrp, Script as script}
use Rattle.spec_deal.specs.declared.entry.Entry.{Entry}
use Rattle.spec_deal.specs.declared.fault.DealReason.{DealReason}
use Rattle.spec_deal.specs.declared.fault.DealReason.TheVariants as reasons
use Rattle.spec_deal.specs.declared.fault.DealFault.{DealFault}
use Rattle.spec_deal.specs.declared.fault.DealFault.TheVariants as faults
use Rattle.spec_deal.specs.Sizes.{most_deal_bytes}
use Rattle.spec_deal.specs.Needed.{needed, needed_labels, needed_deposits, needed_secrets, same_needed}
use Rattle.spec_deal.specs.Payable.{is_payable, pays_to_wallet}
use Rattle.spec_deal.specs.Setting.{no_key, deal_keys}
use Rattle.spec_deal.specs.Used.{uses_key}
use Rattle.spec_deal.specs.Verifier.{Verifier}

-- ---- what a line gives

-- whether one value may not be given twice; many may be paid at one script, and many outputs may have it
abbrev pub same_value : Value → Value → Bool
same_value (key a) (key b) = bytes_eq a b
same_value (place a) (place b) = same_outpoint a b
same_value (place a) (wallet b other) = same_outpoint a b
same_value (wallet a own) (place b) = same_outpoint a b
same_value (wallet a own) (wallet b other) = same_outpoint a b
same_value (hash a) (hash b) = bytes_eq a b
same_value _ _ = false

-- ---- words

-- the form of a compressed public key: 33 bytes, the first 02 or 03
abbrev pub is_compressed : List ℕ → Bool
is_compressed [] = false
is_compressed (b ∷ bytes) = (b == 2 || b == 3) && (length (b ∷ bytes) == key_bytes)

-- a key has that form and spells a point
abbrev pub is_key : Verifier → List ℕ → Bool
is_key v bytes = is_compressed bytes && v.is_point bytes

abbrev pub key_of_word : Verifier → List ℕ → Option Value
key_of_word v word = read_hex word >>= λ bytes. given (is_key v bytes) (key bytes)

-- a txid as wallets show it, with its bytes reversed, and the number of an output
abbrev pub outpoint_of_words : List ℕ → List ℕ → Option OutPoint
outpoint_of_words txid vout = do
  bytes ← digest txid
  number ← small vout
  Some (record { txid = reverse bytes; vout = number })

abbrev pub place_of_words : List ℕ → List ℕ → Option Value
place_of_words txid vout = option_map place (outpoint_of_words txid vout)

abbrev pub hash_of_word : List ℕ → Option Value
hash_of_word word = option_map hash (digest word)

abbrev pub network_of_word : List ℕ → Option Value
network_of_word word = given (is_hrp word) (hrp word)

-- the script that a word spells: in hexadecimal digits, or as an address of this network
abbrev pub spelled_script : Option (List ℕ) → List ℕ → Option (List ℕ)
spelled_script network word = or_else (read_hex word) (network >>= λ part. read_address part word)

-- the place of an output that a wallet may bring, and its script
abbrev pub wallet_of_words : Verifier → Option (List ℕ) → List ℕ → List ℕ → List ℕ → Option Value
wallet_of_words v network txid vout word = do
  outpoint ← outpoint_of_words txid vout
  bytes ← spelled_script network word
  given (pays_to_wallet v bytes) (wallet outpoint bytes)

-- a script where a participant may be paid
abbrev pub payee_of_word : Verifier → Option (List ℕ) → List ℕ → Option Value
payee_of_word v network word = spelled_script network word >>= λ bytes. given (is_payable v bytes) (script bytes)

-- the label that the contract needs and whose text the word is
abbrev pub label_of_word : Advert → List ℕ → Option Label
label_of_word advert word = find (λ label. bytes_eq (label_text label) word) (needed_labels advert)

-- ---- lines

-- what a line says
pub data Line : Type 0 where
  empty : Line
  bad : DealReason → Line
  gives : Entry → Line

abbrev pub given_once : Option Entry → Option Entry → Entry → Line
given_once (Some earlier) other e = bad (reasons.Repeated earlier.line)
given_once None (Some other) e = bad (reasons.Shared other.line)
given_once None None e = gives e

-- it gives something that no line has given, to what no line has given anything
abbrev pub if_new : List Entry → Entry → Line
if_new entries e =
    given_once (find (λ x. same_needed x.needed e.needed) entries) (find (λ x. same_value x.value e.value) entries) e

abbrev pub with_value : List Entry → ℕ → Needed → Option Value → Line
with_value entries n what None = bad reasons.Value
with_value entries n what (Some value) = if_new entries (record { line = n; needed = what; value = value })

abbrev pub with_needed : List Entry → ℕ → Option Needed → Option Value → Line
with_needed entries n None value = bad reasons.Foreign
with_needed entries n (Some what) value = with_value entries n what value

abbrev pub key_line : Verifier → Advert → List Entry → ℕ → List (List ℕ) → Line
key_line v advert entries n (word ∷ value ∷ []) =
    with_needed entries n (option_map needs.Key (label_of_word advert word)) (key_of_word v value)
key_line v advert entries n _ = bad reasons.Form

-- a deposit, by a file of this network; a fourth word behind it is the script of a wallet's
abbrev pub deposit_line : Verifier → Option (List ℕ) → Advert → List Entry → ℕ → List (List ℕ) → Line
deposit_line v network advert entries n (word ∷ txid ∷ vout ∷ []) =
    with_needed entries n (option_map needs.Deposit (one_of (needed_deposits advert) word)) (place_of_words txid vout)
deposit_line v network advert entries n (word ∷ txid ∷ vout ∷ own ∷ []) =
    with_needed entries n (option_map needs.Deposit (one_of (needed_deposits advert) word)) (wallet_of_words v network txid vout own)
deposit_line v network advert entries n _ = bad reasons.Form

abbrev pub hash_line : Advert → List Entry → ℕ → List (List ℕ) → Line
hash_line advert entries n (word ∷ value ∷ []) =
    with_needed entries n (option_map needs.Hash (one_of (needed_secrets advert) word)) (hash_of_word value)
hash_line advert entries n _ = bad reasons.Form

-- no contract needs a network
abbrev pub network_line : List Entry → ℕ → List (List ℕ) → Line
network_line entries n (word ∷ []) = with_value entries n needs.Network (network_of_word word)
network_line entries n _ = bad reasons.Form

-- where a participant is paid, by a file of this network
abbrev pub payee_line : Verifier → Option (List ℕ) → Advert → List Entry → ℕ → List (List ℕ) → Line
payee_line v network advert entries n (word ∷ value ∷ []) =
    with_needed entries n (option_map needs.Payee (one_of (participants advert) word)) (payee_of_word v network value)
payee_line v network advert entries n _ = bad reasons.Form

-- what the words of line n of a file of this network say behind these entries
abbrev pub line_says : Verifier → Option (List ℕ) → Advert → List Entry → ℕ → List (List ℕ) → Line
line_says v network advert entries n [] = empty
line_says v network advert entries n (word ∷ words) =
    if bytes_eq word (codes "key") then key_line v advert entries n words
    else if bytes_eq word (codes "deposit") then deposit_line v network advert entries n words
    else if bytes_eq word (codes "hash") then hash_line advert entries n words
    else if bytes_eq word (codes "network") then network_line entries n words
    else if bytes_eq word (codes "pay") then payee_line v network advert entries n words
    else bad reasons.Form

-- the entries of the lines from number n on, behind those that came before; or the first bad line
abbrev pub read_entries : Verifier → Option (List ℕ) → Advert → List Entry → ℕ → List (List ℕ) → Result (List Entry) DealFault
read_entries v network advert entries n [] = Ok entries
read_entries v network advert entries n (line ∷ lines) = elim (line_says v network advert entries n (words_of line)) [
  | empty ↦ read_entries v network advert entries (n + 1) lines
  | bad reason ↦ Err (faults.Line n reason)
  | gives e ↦ read_entries v network advert (entries ++ e ∷ []) (n + 1) lines
]

-- ---- the network of a file

-- the network that the words of a line name
abbrev pub named_network : List (List ℕ) → Option (List ℕ)
named_network (word ∷ part ∷ []) = given (bytes_eq word (codes "network") && is_hrp part) part
named_network _ = None

-- that of the first line that names one: addresses may stand before it
abbrev pub file_network : List (List ℕ) → Option (List ℕ)
file_network [] = None
file_network (line ∷ lines) = or_else (named_network (words_of line)) (file_network lines)

-- ---- the deal

-- what stands for a place and a hash that no line gives; a whole deal has none of them
abbrev pub no_hash : List ℕ
no_hash = replicate 32 0

abbrev pub no_place : OutPoint
no_place = record { txid = replicate 32 0; vout = 0 }

-- what the entries give to what is needed
abbrev pub value_for : List Entry → Needed → Option Value
value_for entries what = option_map (λ e. e.value) (find (λ e. same_needed e.needed what) entries)

abbrev pub key_or_none : Option Value → List ℕ
key_or_none None = no_key
key_or_none (Some (key bytes)) = bytes
key_or_none (Some _) = no_key

abbrev pub place_or_none : Option Value → OutPoint
place_or_none None = no_place
place_or_none (Some (place outpoint)) = outpoint
place_or_none (Some (wallet outpoint own)) = outpoint
place_or_none (Some _) = no_place

abbrev pub hash_or_none : Option Value → List ℕ
hash_or_none None = no_hash
hash_or_none (Some (hash bytes)) = bytes
hash_or_none (Some _) = no_hash

-- the network that a line gave
abbrev pub network_given : Option Value → Option (List ℕ)
network_given None = None
network_given (Some (hrp part)) = Some part
network_given (Some _) = None

-- the script that a line gave
abbrev pub script_given : Option Value → Option (List ℕ)
script_given None = None
script_given (Some (script bytes)) = Some bytes
script_given (Some _) = None

-- the script of a wallet's deposit
abbrev pub wallet_given : Option Value → Option (List ℕ)
wallet_given None = None
wallet_given (Some (wallet outpoint own)) = Some own
wallet_given (Some _) = None

-- a deposit with its wallet's script, or a participant with the script where it is paid, if a line gave one
abbrev pub with_script : List ℕ → Option (List ℕ) → List (List ℕ × List ℕ)
with_script name None = []
with_script name (Some bytes) = (name, bytes) ∷ []

-- a label with its key, if a line gave one
abbrev pub with_key : Label → Option Value → List (Label × List ℕ)
with_key label None = []
with_key label (Some value) = (label, key_or_none (Some value)) ∷ []

-- the deal of these entries, in the order in which the contract needs them
abbrev pub deal_of : Advert → List Entry → Deal
deal_of advert entries = record {
  keys = flat_map (λ label. with_key label (value_for entries (needs.Key label))) (needed_labels advert);
  deposits = map (λ name. (name, place_or_none (value_for entries (needs.Deposit name)))) (needed_deposits advert);
  hashes = map (λ name. (name, hash_or_none (value_for entries (needs.Hash name)))) (needed_secrets advert);
  network = network_given (value_for entries needs.Network);
  wallets = flat_map (λ name. with_script name (wallet_given (value_for entries (needs.Deposit name)))) (needed_deposits advert);
  payees = flat_map (λ party. with_script party (script_given (value_for entries (needs.Payee party)))) (participants advert);
}

-- the keys of these entries, with the scripts of wallets
abbrev pub entry_keys : Advert → List Entry → Keys
entry_keys advert entries = deal_keys (deal_of advert entries)

abbrev pub is_given : List Entry → Needed → Bool
is_given entries what = list_any (λ e. same_needed e.needed what) entries

-- whether a deal with these keys uses it: the key of a party's deposits may stand nowhere
abbrev pub is_used : Keys → Advert → Needed → Bool
is_used keys advert (needs.Key (labels.Deposit party)) = uses_key keys advert party
is_used keys advert _ = true

-- whether it is used, and no line gives it
abbrev pub is_missing : Advert → List Entry → Needed → Bool
is_missing advert entries what = not (is_given entries what) && is_used (entry_keys advert entries) advert what

-- the first that the contract needs and that is missing
abbrev pub first_missing : Advert → List Entry → Option Needed
first_missing advert entries = find (is_missing advert entries) (needed advert)

abbrev pub whole_deal : Advert → List Entry → Option Needed → Result Deal DealFault
whole_deal advert entries None = Ok (deal_of advert entries)
whole_deal advert entries (Some what) = Err (faults.Missing what)

abbrev pub deal_judged : Advert → Result (List Entry) DealFault → Result Deal DealFault
deal_judged advert (Err fault) = Err fault
deal_judged advert (Ok entries) = whole_deal advert entries (first_missing advert entries)

-- what the lines of a text give
abbrev pub read_lines : Verifier → Advert → List (List ℕ) → Result (List Entry) DealFault
read_lines v advert lines = read_entries v (file_network lines) advert [] 1 lines

-- the deal that a text gives to a contract, or why it is refused before anything is compiled
abbrev pub read_deal : Verifier → Advert → List ℕ → Result Deal DealFault
read_deal v advert text =
    if nat_lt most_deal_bytes (length text) then Err faults.Size else deal_judged advert (read_lines v advert (lines_of text))

-- the same of a text that may lack lines: what its lines give
abbrev pub read_part : Verifier → Advert → List ℕ → Result (List Entry) DealFault
read_part v advert text = if nat_lt most_deal_bytes (length text) then Err faults.Size else read_lines v advert (lines_of text)
