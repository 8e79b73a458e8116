-- The events that the lines of a run file spell.
use Rattle.std.specs.Prelude.{ℕ, List, [], ◌∷◌, Bool, true, false, ◌&&◌, if◌then◌else◌, nat_le, Option, Some, None, codes}
use Rattle.std.specs.Str.{bytes_eq}
pub use Rattle.spec_terms.specs.Readable.{is_some_list}
use Rattle.spec_run.specs.declared.event.Event.{Event}
use Rattle.spec_run.specs.declared.event.Event.TheVariants as events
use Rattle.spec_data.specs.Digits.{read_hex, onto}
use Rattle.spec_text.specs.Words.{◌>>=◌, given, small, amount, output, a_name, one_of, digest, named, all_of, label}

-- the words of a line behind its first, for those who are declared
abbrev pub LineReader : Type 0
LineReader = List (List ℕ) → List (List ℕ) → Option Event

-- `advertise K x=#n ..`
abbrev pub advertise : LineReader
advertise parties (contract ∷ bindings) = do
  k ← small contract
  bs ← all_of (named output) bindings
  Some (events.Advertise k bs)
advertise parties [] = None

-- `commit K A` or `commit K A b=HEX64 ..`
abbrev pub commit : LineReader
commit parties (contract ∷ party ∷ digests) = do
  k ← small contract
  a ← one_of parties party
  ds ← all_of (named digest) digests
  Some (events.Commit k a ds)
commit parties _ = None

-- a contract and a party
abbrev pub contract_and_party : (ℕ → List ℕ → Event) → LineReader
contract_and_party event parties (contract ∷ party ∷ []) = do
  k ← small contract
  a ← one_of parties party
  Some (event k a)
contract_and_party event parties _ = None

-- `authorise A #n i`
abbrev pub authorise : LineReader
authorise parties (party ∷ number ∷ branch ∷ []) = do
  a ← one_of parties party
  n ← output number
  i ← small branch
  Some (events.Authorise a n i)
authorise parties _ = None

-- `reveal K A a`
abbrev pub reveal : LineReader
reveal parties (contract ∷ party ∷ secret ∷ []) = do
  k ← small contract
  a ← one_of parties party
  s ← a_name secret
  Some (events.Reveal k a s)
reveal parties _ = None

-- bytes in hexadecimal
abbrev pub bytes_event : (List ℕ → Event) → LineReader
bytes_event event parties (word ∷ []) = read_hex word >>= λ bytes. Some (event bytes)
bytes_event event parties _ = None

-- `sign B LABEL HEX64`; the party in the label needn't be declared
abbrev pub sign : LineReader
sign parties (party ∷ text ∷ word ∷ []) = do
  b ← one_of parties party
  l ← label text
  d ← digest word
  Some (events.Sign b l d)
sign parties _ = None

-- the words before `->` and those behind it
abbrev pub before_arrow : Bool → List ℕ → List (List ℕ) → Option (List (List ℕ) × List (List ℕ)) → Option (List (List ℕ) × List (List ℕ))
before_arrow true word words later = Some ([], words)
before_arrow false word words None = None
before_arrow false word words (Some p) = Some (word ∷ p.0, p.1)

abbrev pub at_arrow : List (List ℕ) → Option (List (List ℕ) × List (List ℕ))
at_arrow [] = None
at_arrow (word ∷ words) = before_arrow (bytes_eq word (codes "->")) word words (at_arrow words)

-- parties with amounts
abbrev pub shares : List (List ℕ) → List (List ℕ) → Option (List (List ℕ × ℕ))
shares parties [] = Some []
shares parties (party ∷ []) = None
shares parties (party ∷ value ∷ words) = onto (one_of parties party >>= λ a. amount value >>= λ v. Some (a, v)) (shares parties words)

-- `give A #n .. -> B v ..`, with an input and an output
abbrev pub give : LineReader
give parties (party ∷ words) = do
  a ← one_of parties party
  p ← at_arrow words
  inputs ← all_of output (p.0)
  outputs ← shares parties (p.1)
  given (is_some_list inputs && is_some_list outputs) (events.Give a inputs outputs)
give parties [] = None

-- `fire init K` or `fire #n i`
abbrev pub fire : LineReader
fire parties (word ∷ number ∷ []) =
    if bytes_eq word (codes "init") then (small number >>= λ k. Some (events.FireInit k))
    else (output word >>= λ n. small number >>= λ i. Some (events.Fire n i))
fire parties _ = None

-- `mine n`, with a block
abbrev pub mine : LineReader
mine parties (number ∷ []) = small number >>= λ n. given (nat_le 1 n) (events.Mine n)
mine parties _ = None

-- the event of a line by its first word
abbrev pub event_by : List ℕ → LineReader
event_by word parties words =
    if bytes_eq word (codes "advertise") then advertise parties words
    else if bytes_eq word (codes "commit") then commit parties words
    else if bytes_eq word (codes "endorse") then contract_and_party events.Endorse parties words
    else if bytes_eq word (codes "init") then contract_and_party events.Init parties words
    else if bytes_eq word (codes "authorise") then authorise parties words
    else if bytes_eq word (codes "reveal") then reveal parties words
    else if bytes_eq word (codes "post") then bytes_event events.Post parties words
    else if bytes_eq word (codes "sign") then sign parties words
    else if bytes_eq word (codes "give") then give parties words
    else if bytes_eq word (codes "append") then bytes_event events.Append parties words
    else if bytes_eq word (codes "fire") then fire parties words
    else if bytes_eq word (codes "mine") then mine parties words
    else None

-- the event that the words of a line spell, for those who are declared
abbrev pub event_of : LineReader
event_of parties [] = None
event_of parties (word ∷ words) = event_by word parties words
