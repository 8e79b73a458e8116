-- The opening of a run.
use Rattle.std.proofs.Common.{◌≡◌, ℕ, List, [], ◌++◌, subst, append_assoc}
use Rattle.spec_bitcoin.specs.Digests.{txid_strings, opening_transaction}
use Rattle.spec_run.specs.declared.header.Header.{Header}
use Rattle.spec_run.specs.Setup.{Setup}
use Rattle.spec_run.specs.Event.{opening_outputs, opening_strings}
use Rattle.bm_hash.specs.declared.messages.TrailError.{TrailError}
use Rattle.bm_hash.specs.Trails.{Hashed, Stops}
use Rattle.bm_hash.proofs.HashesLemmas.{Stops-first}
use Rattle.bm_world_board.specs.Accounts.{opening_labels, opening_scripts}
use Rattle.bm_hash.proofs.Chains.{hashed_then, stops_then}
use Rattle.bm_world_opening.specs.Opening.{setup_with}

-- ---- what is hashed

abbrev opening_of : (List ℕ → List ℕ) → Header → Setup
opening_of hash header = setup_with hash header []

-- the strings of the accounts
abbrev account_strings : (List ℕ → List ℕ) → Header → List (List ℕ)
account_strings hash header = opening_labels header.parties ++ opening_scripts hash header.parties

-- those of the opening transaction
abbrev coin_strings : Header → (List ℕ → List ℕ) → List (List ℕ)
coin_strings header hash = txid_strings hash (opening_transaction (opening_outputs (opening_of hash header)))

joined : (hash : List ℕ → List ℕ) (header : Header) → account_strings hash header ++ coin_strings header hash ≡ opening_strings (opening_of hash header)
joined hash header = append_assoc (opening_labels header.parties) (opening_scripts hash header.parties) (coin_strings header hash)

pub stops_accounts : (hash : List ℕ → List ℕ) (header : Header) (old new : List (List ℕ)) (e : TrailError) → Stops hash old new (account_strings hash header) e
    → Stops hash old new (opening_strings (opening_of hash header)) e
stops_accounts hash header old new e h =
    subst (λ xs. Stops hash old new xs e) (joined hash header) (Stops-first hash old new (account_strings hash header) (coin_strings header hash) e h)

pub stops_coins : {H : Type 0} (digest : H → List ℕ → List ℕ) (first here : H) (header : Header) (old mid new : List (List ℕ)) (e : TrailError) → here ≡ first
    → Hashed (digest first) old mid (account_strings (digest first) header) → Stops (digest here) mid new (coin_strings header (digest here)) e
    → Stops (digest first) old new (opening_strings (opening_of (digest first) header)) e
stops_coins digest first here header old mid new e same a b =
    subst (λ xs. Stops (digest first) old new xs e) (joined (digest first) header)
    (stops_then digest first here old mid new (account_strings (digest first) header) (coin_strings header) e same a b)

pub hashed_coins : {H : Type 0} (digest : H → List ℕ → List ℕ) (first here : H) (header : Header) (old mid new : List (List ℕ)) → here ≡ first
    → Hashed (digest first) old mid (account_strings (digest first) header) → Hashed (digest here) mid new (coin_strings header (digest here))
    → Hashed (digest first) old new (opening_strings (opening_of (digest first) header))
hashed_coins digest first here header old mid new same a b =
    subst (λ xs. Hashed (digest first) old new xs) (joined (digest first) header)
    (hashed_then digest first here old mid new (account_strings (digest first) header) (coin_strings header) same a b)
