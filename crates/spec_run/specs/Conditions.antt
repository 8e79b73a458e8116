-- The headers, contracts and events that a run may have.
use Rattle.std.specs.Prelude.{◌≡◌, ℕ, ◌≤◌, List, [], ◌∷◌, map, length, sum_by, Bool, true, not, ◌&&◌}
use Rattle.std.specs.List.{list_all, list_any, AllByRecursion}
use Rattle.std.specs.Str.{bytes_eq}
use Rattle.spec_data.specs.Lists.{is_among, are_different}
use Rattle.spec_terms.specs.Faults.{IsWellFormed}
pub use Rattle.spec_terms.specs.Faults.{are_among as are_all_among}
pub use Rattle.spec_data.specs.Hashes.{HashesBytes}
use Rattle.spec_bitcoin.specs.Spelling.{IsBytes}
use Rattle.spec_data.specs.Ranges.{max_money, most_contracts, most_parties, most_header_deposits, most_header_secrets, most_piece_bytes}
use Rattle.spec_data.specs.Ranges.{most_gift_outputs}
use Rattle.spec_bitcoin.specs.Keys.{IsLabel}
use Rattle.spec_run.specs.declared.header.Header.{Header}
use Rattle.spec_run.specs.declared.header.HeldSecret.{HeldSecret}
use Rattle.spec_run.specs.declared.event.Event.{Event}
use Rattle.spec_run.specs.declared.event.Event.TheVariants as events
use Rattle.spec_run.specs.Setup.{Setup, is_declared}

-- ---- the header

-- the names of a party's secrets among these
abbrev pub are_held_apart : List HeldSecret → Bool
are_held_apart [] = true
are_held_apart (x ∷ xs) = not (list_any (λ y. bytes_eq y.party x.party && bytes_eq y.name x.name) xs) && are_held_apart xs

-- a header as a run file can have it
pub record IsHeader (header : Header) : Type 0 where
  -- the parties are different, and the honest ones are some of them
  pub parties : are_different header.parties ≡ true
  pub honest : are_different header.honest ≡ true
  pub honest_declared : are_all_among header.honest header.parties ≡ true
  -- each secret is of an honest party; one party's have different names, and all have different bytes
  pub owners : list_all (λ x. is_among x.party header.honest) header.secrets ≡ true
  pub names : are_held_apart header.secrets ≡ true
  pub bytes : are_different (map (λ x. x.bytes) header.secrets) ≡ true
  -- each deposit is a declared party's, and all together aren't more than the most there is
  pub depositors : list_all (λ d. is_among (d.0) header.parties) header.deposits ≡ true
  pub money : sum_by (λ d. d.1) header.deposits ≤ max_money
  -- there are no more lines of a kind than a run file may have
  pub few_parties : length header.parties ≤ most_parties
  pub few_secrets : length header.secrets ≤ most_header_secrets
  pub few_deposits : length header.deposits ≤ most_header_deposits

-- ---- what never changes

pub record IsSetup (s : Setup) : Type 0 where
  pub hash : HashesBytes s.hash
  pub header : IsHeader s.header
  -- so many contracts at most, each without a fault and within the limits
  pub few_contracts : length s.contracts ≤ most_contracts
  pub contracts : AllByRecursion IsWellFormed s.contracts

-- ---- events

-- a string that an event may post or append
pub record IsPiece (piece : List ℕ) : Type 0 where
  pub bytes : IsBytes piece
  pub size : length piece ≤ most_piece_bytes

-- a digest as it is written on a line
pub record IsDigest (digest : List ℕ) : Type 0 where
  pub bytes : IsBytes digest
  pub size : length digest ≡ 32

-- what a gift asks of its line
pub record IsGift (s : Setup) (party : List ℕ) (inputs : List ℕ) (outputs : List (List ℕ × ℕ)) : Type 0 where
  pub giver : is_declared s party ≡ true
  pub takers : list_all (λ o. is_declared s (o.0)) outputs ≡ true
  pub some_input : 1 ≤ length inputs
  pub some_output : 1 ≤ length outputs
  pub few_outputs : length outputs ≤ most_gift_outputs

-- an event as a run file can have it
abbrev pub IsEvent : Setup → Event → Type 0
IsEvent s (events.Advertise contract bindings) = Unit {0}
IsEvent s (events.Commit contract party digests) = (is_declared s party ≡ true) × AllByRecursion (λ d. IsDigest (d.1)) digests
IsEvent s (events.Endorse contract party) = is_declared s party ≡ true
IsEvent s (events.Init contract party) = is_declared s party ≡ true
IsEvent s (events.Authorise party output branch) = is_declared s party ≡ true
IsEvent s (events.Reveal contract party secret) = is_declared s party ≡ true
IsEvent s (events.Post bytes) = IsPiece bytes
IsEvent s (events.Sign party label digest) = (is_declared s party ≡ true) × IsLabel label
IsEvent s (events.Give party inputs outputs) = IsGift s party inputs outputs
IsEvent s (events.Append bytes) = IsPiece bytes
IsEvent s (events.FireInit contract) = Unit {0}
IsEvent s (events.Fire output branch) = Unit {0}
IsEvent s (events.Mine blocks) = 1 ≤ blocks
