-- What is claimed of every world that a run comes to: messages, signatures, places, commitments, money.
use Rattle.std.specs.Prelude.{◌≡◌, ℕ, ◌+◌, ◌≤◌, List, [], ◌++◌, Bool, true, false, ◌&&◌, ◌==◌}
use Rattle.std.specs.Prelude.{Option, Some, None, option_map, slice_get, take}
use Rattle.std.specs.List.{list_any, flat_map, AllByRecursion}
use Rattle.spec_data.specs.Lists.{is_among, are_different}
use Rattle.spec_data.specs.Ranges.{max_money}
use Rattle.spec_terms.specs.Paths.{path_eq}
use Rattle.spec_terms.specs.declared.path.PathStep.{PathStep}
use Rattle.spec_bitcoin.specs.declared.label.Label.{Label}
use Rattle.spec_bitcoin.specs.Keys.{IsLabel, label_text, key_of, has_signed}
use Rattle.spec_bitcoin.specs.declared.tx.TxOut.{TxOut}
use Rattle.spec_compiler.specs.Instance.{Instance}
use Rattle.spec_compiler.specs.Transactions.{pays}
use Rattle.spec_compiler.specs.ByPath.{position_at}
use Rattle.spec_run.specs.declared.event.Event.{Event}
use Rattle.spec_run.specs.Setup.{Setup, is_honest}
use Rattle.spec_run.specs.Conditions.{are_all_among}
use Rattle.spec_data.specs.Messages.{noted_all}
use Rattle.spec_run.specs.World.{ContractPosition, Output, Promise, World, output_at}
use Rattle.spec_run.specs.Compiled.{compiled_instance}
use Rattle.spec_run.specs.Agreement.{is_outpoint, compiled_outpoint}
use Rattle.spec_run.specs.Signing.{label_party}
use Rattle.spec_run.specs.Committing.{secrets_at, own_digests, used_digests}
use Rattle.spec_run.specs.Ledger.{tx_out}
use Rattle.spec_run.specs.Values.{live_value}
use Rattle.spec_run.specs.Event.{opening_strings, played}
use Rattle.spec_run.specs.Translation.{Turn, course, last_world}
use Rattle.spec_run.specs.Statements.{IsRun}
use Rattle.theory_run.specs.OwnSignatures.{own_pairs_in}

-- ---- what a run hashes and posts

-- the strings that a run hashes: those of its opening, then those of its events, up to the first halt
abbrev pub hashed_in : Setup → List Event → List (List ℕ)
hashed_in s es = opening_strings s ++ flat_map (λ p. p.pending.hashes) (played s es).passed

-- the strings that a run posts
abbrev pub posted_in : Setup → List Event → List (List ℕ)
posted_in s es = flat_map (λ p. p.pending.posts) (played s es).passed

-- each string that was hashed is noted once, in turn, and no two have one digest; what was posted is among them
pub record HasMessages (s : Setup) (es : List Event) (w : World) : Type 0 where
  pub noted : w.hashed ≡ noted_all [] (hashed_in s es)
  pub different : (a b : List ℕ) → is_among a w.hashed ≡ true → is_among b w.hashed ≡ true → s.hash a ≡ s.hash b → a ≡ b
  pub posted : w.posted ≡ posted_in s es
  pub heard : are_all_among w.posted w.hashed ≡ true

-- ---- who has signed

-- a label whose text was hashed has this key
pub record IsHeardKey (s : Setup) (w : World) (key : List ℕ) : Type 0 where
  pub label : Label
  pub fine : IsLabel label
  pub heard : is_among (label_text label) w.hashed ≡ true
  pub is : key_of s.hash label ≡ key

-- under the key of a label that was hashed stand exactly the pairs that the label's party itself has signed, and under no other key a pair
pub record HasSignatures (s : Setup) (es : List Event) (w : World) : Type 0 where
  pub own : (label : Label) (digest : List ℕ) → IsLabel label → is_among (label_text label) w.hashed ≡ true
      → has_signed w.book (key_of s.hash label) digest ≡ has_signed (own_pairs_in s (label_party label) es) (key_of s.hash label) digest
  pub labelled : (key digest : List ℕ) → has_signed w.book key digest ≡ true → IsHeardKey s w key

-- ---- where outputs lie

-- whether it is this position of the contract
abbrev pub is_position_of : ℕ → List PathStep → Option ContractPosition → Bool
is_position_of contract position None = false
is_position_of contract position (Some held) = (held.contract == contract) && path_eq held.position position

-- whether it is a position of the contract
abbrev pub is_of_contract : ℕ → Option ContractPosition → Bool
is_of_contract contract None = false
is_of_contract contract (Some held) = held.contract == contract

-- the output that a position is compiled to, where the contract is compiled
abbrev pub compiled_output : Setup → Option Instance → List PathStep → Option TxOut
compiled_output s None position = None
compiled_output s (Some instance) position =
    option_map (λ p. pays s.hash p.0.output.script p.0.output.value) (position_at s.hash instance position)

-- outputs, spent ones included, are told by their places. One holds a position exactly where it lies at the place that the position
-- is compiled to; so before all participants of a contract have committed, none holds one of its positions
pub record HasPlaces (s : Setup) (w : World) : Type 0 where
  pub different : (m n : ℕ) (o p : Output) → output_at w m ≡ Some o → output_at w n ≡ Some p → o.outpoint ≡ p.outpoint → m ≡ n
  pub held : (contract : ℕ) (position : List PathStep) (n : ℕ) (o : Output) → output_at w n ≡ Some o
      → is_position_of contract position o.holds ≡ is_outpoint o.outpoint (compiled_outpoint s (compiled_instance s w contract) position)
  -- and then it has the value and the script that the position is compiled to
  pub same : (contract : ℕ) (position : List PathStep) (n : ℕ) (o : Output) → output_at w n ≡ Some o
      → is_position_of contract position o.holds ≡ true → compiled_output s (compiled_instance s w contract) position ≡ Some (tx_out o)
  pub none : (contract : ℕ) → compiled_instance s w contract ≡ None
      → list_any (λ (o : Output). is_of_contract contract o.holds) w.outputs ≡ false

-- ---- what is committed

-- an honest party commits the digests of its own secrets
abbrev pub IsOfOwnSecrets : Setup → Promise → Type 0
IsOfOwnSecrets s p = is_honest s p.party ≡ true → p.digests ≡ own_digests s p.party (secrets_at s p.contract p.party)

-- no digest is committed twice, and honest parties commit those of their own secrets
pub record HasCommitments (s : Setup) (w : World) : Type 0 where
  pub different : are_different (used_digests w.promises) ≡ true
  pub own : AllByRecursion (IsOfOwnSecrets s) w.promises

-- ---- all of it

pub record IsWorldOfRun (s : Setup) (es : List Event) (w : World) : Type 0 where
  pub messages : HasMessages s es w
  pub signatures : HasSignatures s es w
  pub places : HasPlaces s w
  pub commitments : HasCommitments s w
  -- the live outputs are worth no more than the most there is
  pub money : live_value w ≤ max_money

-- a run's last world is one
abbrev pub WorldsOfRuns : Type 0
WorldsOfRuns = (s : Setup) (es : List Event) → IsRun s es → IsWorldOfRun s es (last_world s es)

-- and so is the world that each of its turns left, of the run up to there
abbrev pub WorldsOfTurns : Type 0
WorldsOfTurns = (s : Setup) (es : List Event) → IsRun s es → (n : ℕ) (t : Turn) → slice_get (course s es).turns n ≡ Some t
    → IsWorldOfRun s (take (n + 1) es) t.world
