-- What is claimed of deal files: a file comes to what its lines come to, each by its words and behind those before it, and to the first
-- that the contract needs, that the deal uses and that no line gives; so it is refused at its first bad line, by the first reason that
-- holds there. Addresses are of the network of the first line that names one.
use Rattle.std.specs.Prelude.{◌≡◌, ℕ, ◌+◌, ◌<◌, ◌≤◌, ◌^◌, List, [], ◌∷◌, ◌++◌, length, reverse, ◌⊎◌, ◌↔◌, true, Option, Some, None}
use Rattle.std.specs.Prelude.{Result, Ok, Err, codes}
use Rattle.std.specs.Fmt.{decimal}
use Rattle.spec_data.specs.Digits.{read_hex}
use Rattle.spec_data.specs.Lists.{is_among}
use Rattle.spec_terms.specs.Advert.{Advert}
use Rattle.spec_terms.specs.Parties.{participants}
use Rattle.spec_bitcoin.specs.declared.label.Label.{Label}
use Rattle.spec_bitcoin.specs.declared.tx.OutPoint.{OutPoint}
use Rattle.spec_bitcoin.specs.Keys.{label_text}
use Rattle.spec_text.specs.Lines.{lines_of, words_of}
use Rattle.spec_address.specs.Address.{is_hrp, read_address}
use Rattle.spec_deal.specs.declared.deal.Deal.{Deal}
use Rattle.spec_deal.specs.declared.deal.Needed.{Needed}
use Rattle.spec_deal.specs.declared.deal.Needed.TheVariants as needs
use Rattle.spec_deal.specs.declared.entry.Value.{Value}
use Rattle.spec_deal.specs.declared.entry.Value.TheVariants.{Key as key, Place as place, Wallet as wallet, Hash as hash}
use Rattle.spec_deal.specs.declared.entry.Value.TheVariants.{Network as hrp, Script as script}
use Rattle.spec_deal.specs.declared.entry.Entry.{Entry}
use Rattle.spec_deal.specs.declared.fault.DealReason.{DealReason}
use Rattle.spec_deal.specs.declared.fault.DealReason.TheVariants as reasons
use Rattle.spec_deal.specs.declared.fault.DealFault.{DealFault}
use Rattle.spec_deal.specs.declared.fault.DealFault.TheVariants as faults
use Rattle.spec_deal.specs.Sizes.{most_deal_bytes}
use Rattle.spec_deal.specs.Needed.{needed, needed_labels, needed_deposits, needed_secrets}
use Rattle.spec_deal.specs.Payable.{is_payable, pays_to_wallet}
use Rattle.spec_deal.specs.DealFile.{entry_keys, is_used, read_deal, read_part}
use Rattle.spec_deal.specs.Verifier.{Verifier}
use Rattle.theory_deal.specs.FirstOf.{NoneIs, IsFirst}

-- ---- words

-- a word names the first label that is needed and has this text
abbrev pub HasText : List ℕ → Label → Type 0
HasText name label = label_text label ≡ name

abbrev pub NamesKey : Advert → List ℕ → Needed → Type 0
NamesKey advert name what = (label : Label) × IsFirst (HasText name) (needed_labels advert) label × (what ≡ needs.Key label)

abbrev pub NamesDeposit : Advert → List ℕ → Needed → Type 0
NamesDeposit advert name what = (is_among name (needed_deposits advert) ≡ true) × (what ≡ needs.Deposit name)

abbrev pub NamesHash : Advert → List ℕ → Needed → Type 0
NamesHash advert name what = (is_among name (needed_secrets advert) ≡ true) × (what ≡ needs.Hash name)

-- no contract needs a network
abbrev pub NamesNetwork : Needed → Type 0
NamesNetwork what = what ≡ needs.Network

abbrev pub NamesPayee : Advert → List ℕ → Needed → Type 0
NamesPayee advert name what = (is_among name (participants advert) ≡ true) × (what ≡ needs.Payee name)

-- 33 bytes, the first of them 2 or 3
abbrev pub IsCompressed : List ℕ → Type 0
IsCompressed bytes = (rest : List ℕ) × ((bytes ≡ 2 ∷ rest) ⊎ (bytes ≡ 3 ∷ rest)) × (length rest ≡ 32)

-- a word spells a key that is a point
abbrev pub SpellsKey : Verifier → List ℕ → Value → Type 0
SpellsKey v word value =
    (bytes : List ℕ) × (read_hex word ≡ Some bytes) × IsCompressed bytes × (v.is_point bytes ≡ true) × (value ≡ key bytes)

-- a word spells 32 bytes
abbrev pub SpellsDigest : List ℕ → List ℕ → Type 0
SpellsDigest word bytes = (read_hex word ≡ Some bytes) × (length bytes ≡ 32)

-- a word is a number in 32 bits
abbrev pub SpellsNumber : List ℕ → ℕ → Type 0
SpellsNumber word number = (word ≡ decimal number) × (number < 2 ^ 32)

-- two words spell a place: a txid with its bytes reversed, and the number of an output
abbrev pub SpellsOutpoint : List ℕ → List ℕ → OutPoint → Type 0
SpellsOutpoint txid vout outpoint =
    (bytes : List ℕ) × (number : ℕ) × SpellsDigest txid bytes × SpellsNumber vout number
    × (outpoint ≡ record { txid = reverse bytes; vout = number })

abbrev pub SpellsPlace : List ℕ → List ℕ → Value → Type 0
SpellsPlace txid vout value = (outpoint : OutPoint) × SpellsOutpoint txid vout outpoint × (value ≡ place outpoint)

abbrev pub SpellsHash : List ℕ → Value → Type 0
SpellsHash word value = (bytes : List ℕ) × SpellsDigest word bytes × (value ≡ hash bytes)

abbrev pub SpellsNetwork : List ℕ → Value → Type 0
SpellsNetwork word value = (is_hrp word ≡ true) × (value ≡ hrp word)

-- a word spells a script: by hexadecimal digits, or else as an address of the network
abbrev pub SpellsScript : Option (List ℕ) → List ℕ → List ℕ → Type 0
SpellsScript network word bytes =
    (read_hex word ≡ Some bytes)
    ⊎ ((read_hex word ≡ None) × ((part : List ℕ) × (network ≡ Some part) × (read_address part word ≡ Some bytes)))

-- the place of an output that a wallet may bring, and its script
abbrev pub SpellsWallet : Verifier → Option (List ℕ) → List ℕ → List ℕ → List ℕ → Value → Type 0
SpellsWallet v network txid vout word value =
    (outpoint : OutPoint) × (bytes : List ℕ) × SpellsOutpoint txid vout outpoint × SpellsScript network word bytes
    × (pays_to_wallet v bytes ≡ true) × (value ≡ wallet outpoint bytes)

-- a script where a participant may be paid
abbrev pub SpellsPayee : Verifier → Option (List ℕ) → List ℕ → Value → Type 0
SpellsPayee v network word value =
    (bytes : List ℕ) × SpellsScript network word bytes × (is_payable v bytes ≡ true) × (value ≡ script bytes)

-- ---- lines before this one

-- labels are the same where their texts are
abbrev pub IsSame : Needed → Needed → Type 0
IsSame (needs.Key a) (needs.Key b) = label_text a ≡ label_text b
IsSame (needs.Deposit a) (needs.Deposit b) = a ≡ b
IsSame (needs.Hash a) (needs.Hash b) = a ≡ b
IsSame needs.Network needs.Network = Unit {0}
IsSame (needs.Payee a) (needs.Payee b) = a ≡ b
IsSame _ _ = ⊥

abbrev pub GivesTo : Needed → Entry → Type 0
GivesTo what entry = IsSame entry.needed what

-- values that may not be given twice: keys, hashes and places, whatever script lies there
abbrev pub IsShared : Value → Value → Type 0
IsShared (key a) (key b) = a ≡ b
IsShared (place a) (place b) = a ≡ b
IsShared (place a) (wallet b other) = a ≡ b
IsShared (wallet a own) (place b) = a ≡ b
IsShared (wallet a own) (wallet b other) = a ≡ b
IsShared (hash a) (hash b) = a ≡ b
IsShared _ _ = ⊥

abbrev pub GivesValue : Value → Entry → Type 0
GivesValue value entry = IsShared entry.value value

-- ---- a line

-- words that name what passes one test and spell a value that passes the other give this, which no line has given, to what none gave any
abbrev pub GivesNew : (Needed → Type 0) → (Value → Type 0) → List Entry → Needed → Value → Type 0
GivesNew Names Spells entries what value =
    Names what × Spells value × NoneIs (GivesTo what) entries × NoneIs (GivesValue value) entries

-- such words are bad by this reason, and by none before it
abbrev pub GivesBad : (Needed → Type 0) → (Value → Type 0) → List Entry → DealReason → Type 0
GivesBad Names Spells entries reasons.Form = ⊥
GivesBad Names Spells entries reasons.Foreign = (what : Needed) → Names what → ⊥
GivesBad Names Spells entries reasons.Value = (what : Needed) × Names what × ((value : Value) → Spells value → ⊥)
GivesBad Names Spells entries (reasons.Repeated k) =
    (what : Needed) × (value : Value) × (earlier : Entry) × Names what × Spells value × IsFirst (GivesTo what) entries earlier
    × (earlier.line ≡ k)
GivesBad Names Spells entries (reasons.Shared k) =
    (what : Needed) × (value : Value) × (other : Entry) × Names what × Spells value × NoneIs (GivesTo what) entries
    × IsFirst (GivesValue value) entries other × (other.line ≡ k)

-- the words are those of a key, a deposit without a script or with one, a hash, a network or a payee, and what they name and spell is so
abbrev pub AsLine : Verifier → Option (List ℕ) → Advert → List (List ℕ) → ((Needed → Type 0) → (Value → Type 0) → Type 0) → Type 0
AsLine v network advert words IsSo =
    ((name : List ℕ) × (word : List ℕ) × (words ≡ codes "key" ∷ name ∷ word ∷ []) × IsSo (NamesKey advert name) (SpellsKey v word))
    ⊎ (((name : List ℕ) × (txid : List ℕ) × (vout : List ℕ) × (words ≡ codes "deposit" ∷ name ∷ txid ∷ vout ∷ [])
    × IsSo (NamesDeposit advert name) (SpellsPlace txid vout))
    ⊎ (((name : List ℕ) × (txid : List ℕ) × (vout : List ℕ) × (word : List ℕ)
    × (words ≡ codes "deposit" ∷ name ∷ txid ∷ vout ∷ word ∷ []) × IsSo (NamesDeposit advert name) (SpellsWallet v network txid vout word))
    ⊎ (((name : List ℕ) × (word : List ℕ) × (words ≡ codes "hash" ∷ name ∷ word ∷ []) × IsSo (NamesHash advert name) (SpellsHash word))
    ⊎ (((word : List ℕ) × (words ≡ codes "network" ∷ word ∷ []) × IsSo NamesNetwork (SpellsNetwork word))
    ⊎ ((name : List ℕ) × (word : List ℕ) × (words ≡ codes "pay" ∷ name ∷ word ∷ [])
    × IsSo (NamesPayee advert name) (SpellsPayee v network word))))))

-- the words of a file of this network give this value to what is needed
abbrev pub GivesEntry : Verifier → Option (List ℕ) → Advert → List Entry → List (List ℕ) → Needed → Value → Type 0
GivesEntry v network advert entries words what value =
    AsLine v network advert words (λ Names Spells. GivesNew Names Spells entries what value)

-- there are words, but none of these kinds and numbers
pub record IsNoEntry (words : List (List ℕ)) : Type 0 where
  pub some : words ≡ [] → ⊥
  pub no_key : (name word : List ℕ) → words ≡ codes "key" ∷ name ∷ word ∷ [] → ⊥
  pub no_deposit : (name txid vout : List ℕ) → words ≡ codes "deposit" ∷ name ∷ txid ∷ vout ∷ [] → ⊥
  pub no_wallet : (name txid vout word : List ℕ) → words ≡ codes "deposit" ∷ name ∷ txid ∷ vout ∷ word ∷ [] → ⊥
  pub no_hash : (name word : List ℕ) → words ≡ codes "hash" ∷ name ∷ word ∷ [] → ⊥
  pub no_network : (word : List ℕ) → words ≡ codes "network" ∷ word ∷ [] → ⊥
  pub no_payee : (name word : List ℕ) → words ≡ codes "pay" ∷ name ∷ word ∷ [] → ⊥

-- the words are bad by this reason, and by none before it
abbrev pub IsBadEntry : Verifier → Option (List ℕ) → Advert → List Entry → List (List ℕ) → DealReason → Type 0
IsBadEntry v network advert entries words reason =
    ((reason ≡ reasons.Form) × IsNoEntry words)
    ⊎ AsLine v network advert words (λ Names Spells. GivesBad Names Spells entries reason)

-- ---- all lines

abbrev pub entry_in : ℕ → Needed → Value → Entry
entry_in n what value = record { line = n; needed = what; value = value }

-- the lines from number n on of a file of this network come to this, behind what lines gave before
abbrev pub EntriesCome : Verifier → Option (List ℕ) → Advert → List Entry → ℕ → List (List ℕ) → Result (List Entry) DealFault → Type 0
EntriesCome v network advert entries n [] read = read ≡ Ok entries
EntriesCome v network advert entries n (line ∷ lines) read =
    ((words_of line ≡ []) × EntriesCome v network advert entries (n + 1) lines read)
    ⊎ (((what : Needed) × (value : Value) × GivesEntry v network advert entries (words_of line) what value
    × EntriesCome v network advert (entries ++ entry_in n what value ∷ []) (n + 1) lines read)
    ⊎ ((reason : DealReason) × IsBadEntry v network advert entries (words_of line) reason × (read ≡ Err (faults.Line n reason))))

-- a line names this network
pub record SaysNetwork (part line : List ℕ) : Type 0 where
  pub said : words_of line ≡ codes "network" ∷ part ∷ []
  pub good : is_hrp part ≡ true

abbrev pub NamesOne : List ℕ → Type 0
NamesOne line = (part : List ℕ) × SaysNetwork part line

-- the network of a file is that of the first line that names one, wherever it stands
abbrev pub IsFileNetwork : List (List ℕ) → Option (List ℕ) → Type 0
IsFileNetwork lines None = NoneIs NamesOne lines
IsFileNetwork lines (Some part) = (line : List ℕ) × IsFirst NamesOne lines line × SaysNetwork part line

-- ---- the deal

-- what the lines give to this is this value
abbrev pub IsGiven : List Entry → Needed → Value → Type 0
IsGiven entries what value = (entry : Entry) × IsFirst (GivesTo what) entries entry × (entry.value ≡ value)

-- no line gives it, and a deal of these lines uses it
pub record IsMissing (advert : Advert) (entries : List Entry) (what : Needed) : Type 0 where
  pub none : NoneIs (GivesTo what) entries
  pub used : is_used (entry_keys advert entries) advert what ≡ true

-- a deposit lies there, with or without a script of its wallet's
abbrev pub IsPlaced : List Entry → List ℕ → OutPoint → Type 0
IsPlaced entries name outpoint =
    IsGiven entries (needs.Deposit name) (place outpoint)
    ⊎ ((own : List ℕ) × IsGiven entries (needs.Deposit name) (wallet outpoint own))

abbrev pub IsBrought : List Entry → List ℕ → List ℕ → Type 0
IsBrought entries name own = (outpoint : OutPoint) × IsGiven entries (needs.Deposit name) (wallet outpoint own)

-- the pairs are these things in order, each with what it stands to
abbrev pub ArePairs : {X Y : Type 0} → (X → Y → Type 0) → List X → List (X × Y) → Type 0
ArePairs R [] pairs = pairs ≡ []
ArePairs {X} {Y} R (x ∷ xs) pairs =
    (y : Y) × (rest : List (X × Y)) × (pairs ≡ (x, y) ∷ rest) × R x y × ArePairs R xs rest

-- the same of those of them that stand to anything
abbrev pub AreSome : {X Y : Type 0} → (X → Y → Type 0) → List X → List (X × Y) → Type 0
AreSome R [] pairs = pairs ≡ []
AreSome {X} {Y} R (x ∷ xs) pairs =
    ((y : Y) × (rest : List (X × Y)) × (pairs ≡ (x, y) ∷ rest) × R x y × AreSome R xs rest)
    ⊎ (((y : Y) → R x y → ⊥) × AreSome R xs pairs)

-- the network is the one that a line gave
abbrev pub IsOfNetwork : List Entry → Option (List ℕ) → Type 0
IsOfNetwork entries None = (part : List ℕ) → IsGiven entries needs.Network (hrp part) → ⊥
IsOfNetwork entries (Some part) = IsGiven entries needs.Network (hrp part)

-- all that a deal uses of what the contract needs is given, and it has what is given in the order in which the contract needs it
pub record IsWhole (advert : Advert) (entries : List Entry) (deal : Deal) : Type 0 where
  pub none : NoneIs (IsMissing advert entries) (needed advert)
  pub keys : AreSome (λ label bytes. IsGiven entries (needs.Key label) (key bytes)) (needed_labels advert) deal.keys
  pub deposits : ArePairs (IsPlaced entries) (needed_deposits advert) deal.deposits
  pub wallets : AreSome (IsBrought entries) (needed_deposits advert) deal.wallets
  pub hashes : ArePairs (λ name bytes. IsGiven entries (needs.Hash name) (hash bytes)) (needed_secrets advert) deal.hashes
  pub network : IsOfNetwork entries deal.network
  pub payees : AreSome (λ party bytes. IsGiven entries (needs.Payee party) (script bytes)) (participants advert) deal.payees

-- where no line is bad, these entries come to a deal, or to the first thing that is missing
abbrev pub DealOf : Advert → List Entry → Result Deal DealFault → Type 0
DealOf advert entries read =
    ((deal : Deal) × IsWhole advert entries deal × (read ≡ Ok deal))
    ⊎ ((what : Needed) × IsFirst (IsMissing advert entries) (needed advert) what × (read ≡ Err (faults.Missing what)))

-- the lines of a text that isn't too long come to this
abbrev pub PartIs : Verifier → Advert → List ℕ → Result (List Entry) DealFault → Type 0
PartIs v advert text read =
    ((most_deal_bytes < length text) × (read ≡ Err faults.Size))
    ⊎ ((length text ≤ most_deal_bytes)
    × ((network : Option (List ℕ)) × IsFileNetwork (lines_of text) network × EntriesCome v network advert [] 1 (lines_of text) read))

-- a text comes to this
abbrev pub DealIs : Verifier → Advert → List ℕ → Result Deal DealFault → Type 0
DealIs v advert text read =
    ((fault : DealFault) × PartIs v advert text (Err fault) × (read ≡ Err fault))
    ⊎ ((entries : List Entry) × PartIs v advert text (Ok entries) × DealOf advert entries read)

-- ---- what is claimed

abbrev pub DealFilesAreRead : Type 0
DealFilesAreRead = (v : Verifier) (advert : Advert) (text : List ℕ) (read : Result Deal DealFault)
    → (read_deal v advert text ≡ read) ↔ DealIs v advert text read

-- and of a file that may lack lines
abbrev pub PartsAreRead : Type 0
PartsAreRead = (v : Verifier) (advert : Advert) (text : List ℕ) (read : Result (List Entry) DealFault)
    → (read_part v advert text ≡ read) ↔ PartIs v advert text read
