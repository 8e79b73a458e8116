-- What one line of a run file or of a strategy file spells, by its words: the form of each line, with numbers, outputs, paths and labels as
-- they are written.
use Rattle.std.specs.Prelude.{◌≡◌, ℕ, ◌+◌, ◌*◌, ◌^◌, ◌≤◌, ◌<◌, List, [], ◌∷◌, ◌++◌, ◌⊎◌, ◌↔◌, length, flat_map, map, true, codes}
use Rattle.std.specs.Prelude.{Some, None}
use Rattle.std.specs.Fmt.{decimal}
use Rattle.std.specs.List.{Contains, AllByRecursion, AllZip, sum_by}
use Rattle.spec_data.specs.Ranges.{max_money, most_parties, most_header_deposits, most_header_secrets}
use Rattle.spec_terms.specs.Readable.{is_name}
use Rattle.spec_bitcoin.specs.Keys.{IsLabel, IsStep, label_text, path_text}
use Rattle.spec_bitcoin.specs.declared.label.Label.{Label}
use Rattle.spec_bitcoin.specs.declared.label.Label.TheVariants.{Deposit, Branch}
use Rattle.spec_run.specs.declared.event.Event.{Event}
use Rattle.spec_run.specs.declared.event.Event.TheVariants as events
use Rattle.spec_run.specs.declared.header.Header.{Header}
use Rattle.spec_run.specs.declared.header.HeldSecret.{HeldSecret}
use Rattle.spec_text.specs.declared.run_fault.RunLimit.{RunLimit}
use Rattle.spec_text.specs.declared.run_fault.RunLimit.TheVariants as limits
use Rattle.spec_text.specs.EventLines.{event_of}
use Rattle.spec_text.specs.RunFile.{Line, bad, over, empty, rule, says, header_words}
use Rattle.spec_text.specs.RunText.{output_text}
use Rattle.spec_tool.specs.declared.rule.Act.{Act}
use Rattle.spec_tool.specs.declared.rule.Act.TheVariants as acts
use Rattle.spec_tool.specs.declared.rule.Rule.{Rule}
use Rattle.spec_tool.specs.Strategy.{rule_of}

-- ---- words

-- a number of a contract, an output, a branch or blocks
abbrev pub IsSmall : ℕ → Type 0
IsSmall n = n < 2 ^ 32

-- an amount
abbrev pub IsAmount : ℕ → Type 0
IsAmount v = v < 2 ^ 64

abbrev pub IsName : List ℕ → Type 0
IsName word = is_name word ≡ true

-- a hexadecimal digit of this value: 0 to 9, a to f or A to F
abbrev pub IsHexDigit : ℕ → ℕ → Type 0
IsHexDigit c v = ((v < 10) × (c ≡ 48 + v)) ⊎ ((10 ≤ v) × (v < 16) × ((c ≡ 87 + v) ⊎ (c ≡ 55 + v)))

-- two digits for each byte
abbrev pub AreHex : List ℕ → List ℕ → Type 0
AreHex [] bytes = bytes ≡ []
AreHex (c ∷ []) bytes = ⊥
AreHex (c ∷ d ∷ cs) bytes =
    (high : ℕ) × (low : ℕ) × (rest : List ℕ) × (bytes ≡ (high * 16 + low) ∷ rest) × IsHexDigit c high × IsHexDigit d low × AreHex cs rest

-- a word for bytes, of which there are some
abbrev pub SpellsBytes : List ℕ → List ℕ → Type 0
SpellsBytes word bytes = AreHex word bytes × (word ≡ [] → ⊥)

abbrev pub SpellsDigest : List ℕ → List ℕ → Type 0
SpellsDigest word bytes = SpellsBytes word bytes × (length bytes ≡ 32)

-- `x=#n`
abbrev pub SpellsBinding : List ℕ → List ℕ × ℕ → Type 0
SpellsBinding word b = (word ≡ b.0 ++ (codes "=" ++ output_text b.1)) × IsName b.0 × IsSmall b.1

-- `a=HEX64`
abbrev pub SpellsNamedDigest : List ℕ → List ℕ × List ℕ → Type 0
SpellsNamedDigest word d = (hex : List ℕ) × (word ≡ d.0 ++ (codes "=" ++ hex)) × IsName d.0 × SpellsDigest hex d.1

-- a label's party is a name
abbrev pub HasName : Label → Type 0
HasName (Deposit party) = IsName party
HasName (Branch contract path party) = IsName party

-- ---- events

-- a party with an amount, as two words
abbrev pub share_words : List ℕ × ℕ → List (List ℕ)
share_words share = share.0 ∷ decimal share.1 ∷ []

abbrev pub IsShare : List (List ℕ) → List ℕ × ℕ → Type 0
IsShare parties share = Contains parties share.0 × IsAmount share.1

-- the words of a line that spell an event, for those who are declared
abbrev pub SpellsEvent : List (List ℕ) → List (List ℕ) → Event → Type 0
SpellsEvent parties words (events.Advertise k bindings) =
    (bound : List (List ℕ)) × (words ≡ codes "advertise" ∷ decimal k ∷ bound) × IsSmall k × AllZip SpellsBinding bound bindings
SpellsEvent parties words (events.Commit k a digests) =
    (given : List (List ℕ)) × (words ≡ codes "commit" ∷ decimal k ∷ a ∷ given) × IsSmall k × Contains parties a
    × AllZip SpellsNamedDigest given digests
SpellsEvent parties words (events.Endorse k a) =
    (words ≡ codes "endorse" ∷ decimal k ∷ a ∷ []) × IsSmall k × Contains parties a
SpellsEvent parties words (events.Init k a) =
    (words ≡ codes "init" ∷ decimal k ∷ a ∷ []) × IsSmall k × Contains parties a
SpellsEvent parties words (events.Authorise a n i) =
    (words ≡ codes "authorise" ∷ a ∷ output_text n ∷ decimal i ∷ []) × Contains parties a × IsSmall n × IsSmall i
SpellsEvent parties words (events.Reveal k a s) =
    (words ≡ codes "reveal" ∷ decimal k ∷ a ∷ s ∷ []) × IsSmall k × Contains parties a × IsName s
SpellsEvent parties words (events.Post bytes) =
    (hex : List ℕ) × (words ≡ codes "post" ∷ hex ∷ []) × SpellsBytes hex bytes
SpellsEvent parties words (events.Sign b l digest) =
    (hex : List ℕ) × (words ≡ codes "sign" ∷ b ∷ label_text l ∷ hex ∷ []) × Contains parties b × IsLabel l × HasName l
    × SpellsDigest hex digest
SpellsEvent parties words (events.Give a inputs outputs) =
    (words ≡ codes "give" ∷ a ∷ (map output_text inputs ++ codes "->" ∷ flat_map share_words outputs)) × Contains parties a
    × (inputs ≡ [] → ⊥) × AllByRecursion IsSmall inputs × (outputs ≡ [] → ⊥) × AllByRecursion (IsShare parties) outputs
SpellsEvent parties words (events.Append bytes) =
    (hex : List ℕ) × (words ≡ codes "append" ∷ hex ∷ []) × SpellsBytes hex bytes
SpellsEvent parties words (events.FireInit k) = (words ≡ codes "fire" ∷ codes "init" ∷ decimal k ∷ []) × IsSmall k
SpellsEvent parties words (events.Fire n i) = (words ≡ codes "fire" ∷ output_text n ∷ decimal i ∷ []) × IsSmall n × IsSmall i
SpellsEvent parties words (events.Mine n) = (words ≡ codes "mine" ∷ decimal n ∷ []) × IsSmall n × (1 ≤ n)

-- they spell none
abbrev pub SpellsNoEvent : List (List ℕ) → List (List ℕ) → Type 0
SpellsNoEvent parties words = (e : Event) → SpellsEvent parties words e → ⊥

-- ---- headers

-- a line of a header declares a party, calls one honest, or gives a secret or a deposit
pub data Part : Type 0 where
  party : (name : List ℕ) → Part
  honest : (name : List ℕ) → Part
  secret : (held : HeldSecret) → Part
  deposit : (owner : List ℕ) → (value : ℕ) → Part

-- two secrets differ in their bytes, and in owner or name
pub record Differs (other held : HeldSecret) : Type 0 where
  pub bytes : other.bytes ≡ held.bytes → ⊥
  pub named : other.party ≡ held.party → other.name ≡ held.name → ⊥

-- the words spell the part, which may stand behind this header but for how many of its kind there are: a party with a new name; one
-- that is declared and isn't honest yet; a secret of an honest party, that differs from all others; a deposit of a declared party, which with
-- all others is no more than all money
abbrev pub SpellsPart : Header → List (List ℕ) → Part → Type 0
SpellsPart h words (party a) = (words ≡ codes "party" ∷ a ∷ []) × IsName a × (Contains h.parties a → ⊥)
SpellsPart h words (honest a) = (words ≡ codes "honest" ∷ a ∷ []) × Contains h.parties a × (Contains h.honest a → ⊥)
SpellsPart h words (secret s) =
    (hex : List ℕ) × (words ≡ codes "secret" ∷ s.party ∷ s.name ∷ hex ∷ []) × Contains h.honest s.party × IsName s.name
    × SpellsBytes hex s.bytes × ((other : HeldSecret) → Contains h.secrets other → Differs other s)
SpellsPart h words (deposit a v) =
    (words ≡ codes "deposit" ∷ a ∷ decimal v ∷ []) × Contains h.parties a × IsAmount v
    × (sum_by (λ d. d.1) h.deposits + v ≤ max_money)

-- the header with it
abbrev pub with_part : Header → Part → Header
with_part h (party a) = record h { parties = h.parties ++ a ∷ [] }
with_part h (honest a) = record h { honest = h.honest ++ a ∷ [] }
with_part h (secret s) = record h { secrets = h.secrets ++ s ∷ [] }
with_part h (deposit a v) = record h { deposits = h.deposits ++ (a, v) ∷ [] }

-- there are as many of its kind as there may be, and this is their limit; of honest ones there are never too many
abbrev pub IsFull : Header → Part → RunLimit → Type 0
IsFull h (party a) limit = (limit ≡ limits.Parties) × (most_parties ≤ length h.parties)
IsFull h (honest a) limit = ⊥
IsFull h (secret s) limit = (limit ≡ limits.Secrets) × (most_header_secrets ≤ length h.secrets)
IsFull h (deposit a v) limit = (limit ≡ limits.Deposits) × (most_header_deposits ≤ length h.deposits)

-- what the words of a line say behind this header
abbrev pub SaysOfHeader : Header → List (List ℕ) → Line Header → Type 0
-- they aren't empty, nor the line that ends the header, and spell no part
SaysOfHeader h words bad = (words ≡ [] → ⊥) × (words ≡ codes "--" ∷ [] → ⊥) × ((part : Part) → SpellsPart h words part → ⊥)
-- a part too many
SaysOfHeader h words (over limit) = (part : Part) × SpellsPart h words part × IsFull h part limit
SaysOfHeader h words empty = words ≡ []
SaysOfHeader h words rule = words ≡ codes "--" ∷ []
-- a part that goes to the header
SaysOfHeader h words (says next) =
    (part : Part) × SpellsPart h words part × ((limit : RunLimit) → IsFull h part limit → ⊥) × (next ≡ with_part h part)

-- ---- rules of a strategy

-- the verb of an act, and what stands behind the contract's number, which is 0
abbrev pub SpellsAct : List ℕ → List (List ℕ) → Act → Type 0
SpellsAct verb words acts.Commit = (verb ≡ codes "commit") × (words ≡ [])
SpellsAct verb words acts.Endorse = (verb ≡ codes "endorse") × (words ≡ [])
SpellsAct verb words acts.Init = (verb ≡ codes "init") × (words ≡ [])
SpellsAct verb words (acts.Authorise p) = (verb ≡ codes "authorise") × (words ≡ path_text p ∷ []) × AllByRecursion IsStep p
SpellsAct verb words (acts.Reveal s) = (verb ≡ codes "reveal") × (words ≡ s ∷ []) × IsName s
SpellsAct verb words acts.FireInit = (verb ≡ codes "fire") × (words ≡ codes "init" ∷ [])
SpellsAct verb words (acts.Fire p) = (verb ≡ codes "fire") × (words ≡ path_text p ∷ []) × AllByRecursion IsStep p

-- the words of a line that spell a rule of an honest party
abbrev pub SpellsRule : Header → List (List ℕ) → Rule → Type 0
SpellsRule h words r =
    (verb : List ℕ) × (more : List (List ℕ)) × (words ≡ r.party ∷ verb ∷ codes "0" ∷ more) × Contains h.honest r.party
    × SpellsAct verb more r.act

abbrev pub SpellsNoRule : Header → List (List ℕ) → Type 0
SpellsNoRule h words = (r : Rule) → SpellsRule h words r → ⊥

-- ---- what is claimed

-- the words of a line are read as what they spell, and as nothing else
pub record LinesAreSpelled : Type 0 where
  pub event : (parties words : List (List ℕ)) (e : Event) → (event_of parties words ≡ Some e) ↔ SpellsEvent parties words e
  pub no_event : (parties words : List (List ℕ)) → (event_of parties words ≡ None) ↔ SpellsNoEvent parties words
  pub header : (h : Header) (words : List (List ℕ)) (said : Line Header) → (header_words h words ≡ said) ↔ SaysOfHeader h words said
  pub rule : (h : Header) (words : List (List ℕ)) (r : Rule) → (rule_of h words ≡ Some r) ↔ SpellsRule h words r
  pub no_rule : (h : Header) (words : List (List ℕ)) → (rule_of h words ≡ None) ↔ SpellsNoRule h words
