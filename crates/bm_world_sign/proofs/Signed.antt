-- The pairs that code signs for a contract are those of the definitions.
use Rattle.std.proofs.Common.{◌≡◌, ℕ, List, [], ◌∷◌, Bool, true, false, cond, Option, Some, None, refl, sym, ap, ◌∙◌, subst}
use Rattle.std.specs.Prelude.{MatchOption, option_to_list}
use Rattle.std.specs.Option.{option_map, option_and_then}
use Rattle.std.specs.Str.{bytes_eq}
use Rattle.spec_terms.specs.Advert.{Advert}
use Rattle.spec_terms.specs.Precondition.{Holding, persistent, owners_of}
use Rattle.spec_terms.specs.declared.path.PathStep.{PathStep}
use Rattle.spec_bitcoin.specs.Keys.{Pair}
use Rattle.spec_compiler.specs.declared.prepared.Prepared.{Prepared}
use Rattle.spec_compiler.specs.Instance.{Instance, deposit_key}
use Rattle.spec_compiler.specs.Transactions.{prepared, branch_unsigned}
use Rattle.spec_compiler.specs.ByPath.{PathEnd, at_position, at_branch, as_unsigned, end_at, prepared_at}
use Rattle.spec_compiler.specs.Endorsements.{needed}
use Rattle.spec_run.specs.Setup.{Setup}
use Rattle.spec_run.specs.World.{World}
use Rattle.spec_run.specs.Signing.{pairs_of_party, endorsing_pairs, pairs_of_deposits, initial_pairs, missing_need}
use Rattle.spec_run.specs.Signing.{first_digest, prepared_if_compiled}
use Rattle.theory_script.proofs.Listing.Stands.{some_same}
use Rattle.bm_compile.specs.Numbered.{Numbered, numbered}
use Rattle.bm_honest.specs.declared.gate.Gate.{Gate}
use Rattle.bm_honest.specs.Gates.{Tells}
use Rattle.bm_world_sign.specs.Instances.{Shows}
use Rattle.bm_world_sign.specs.Starting.{pairs_by_key, gate_reason, missed_reason}
use Rattle.bm_world_sign.specs.Authorising.{first_pair}

-- ---- a pair as a list

pub as_listed : (o : Option Pair) (pairs : List Pair) → MatchOption o (pairs ≡ []) (λ x. pairs ≡ x ∷ []) → pairs ≡ option_to_list o
as_listed None pairs h = h
as_listed (Some x) pairs h = h

-- ---- a contract that is shown

module _ (s : Setup) (k : ℕ) where
  pub endorsed_shown : (party : List ℕ) (o : Option Instance) (advert : Advert) (compiled : Numbered) (pairs : List Pair)
      → Shows s.hash k o (Some (advert, compiled))
      → ((st : Instance) → compiled ≡ numbered s.hash st → st.contract ≡ k → st.advert ≡ advert
      → pairs ≡ pairs_of_party party (needed s.hash st))
      → pairs ≡ endorsing_pairs s party o
  endorsed_shown party None advert compiled pairs h f = absurd h
  endorsed_shown party (Some st) advert compiled pairs h f = f st h.compilation h.number h.text

  -- the gate tells the endorsement that is missing
  pub missed_shown : (w : World) (o : Option Instance) (advert : Advert) (compiled : Numbered) (gate : Gate)
      → Shows s.hash k o (Some (advert, compiled))
      → ((st : Instance) → compiled ≡ numbered s.hash st → st.contract ≡ k → st.advert ≡ advert → Tells s.hash st w.book gate)
      → gate_reason gate ≡ missed_reason (missing_need s w o)
  missed_shown w None advert compiled gate h f = absurd h
  missed_shown w (Some st) advert compiled gate h f = ap gate_reason ((f st h.compilation h.number h.text).first)

  by_owners : (party : List ℕ) (ds : List (List ℕ × Holding)) (digests : List (List ℕ))
      → pairs_by_key (deposit_key s.hash party) party (owners_of ds) digests ≡ pairs_of_deposits s party ds digests
  by_owners party [] digests = refl
  by_owners party (d ∷ ds) [] = refl
  by_owners party (d ∷ ds) (digest ∷ digests) = by_test (bytes_eq ((d.1).owner) party) (by_owners party ds digests)
    where
      by_test : (b : Bool) → pairs_by_key (deposit_key s.hash party) party (owners_of ds) digests ≡ pairs_of_deposits s party ds digests
          → cond b ((deposit_key s.hash party, digest) ∷ pairs_by_key (deposit_key s.hash party) party (owners_of ds) digests)
          (pairs_by_key (deposit_key s.hash party) party (owners_of ds) digests)
          ≡ cond b ((deposit_key s.hash party, digest) ∷ pairs_of_deposits s party ds digests) (pairs_of_deposits s party ds digests)
      by_test true e = ap (λ ps. (deposit_key s.hash party, digest) ∷ ps) e
      by_test false e = e

  pub initial_shown : (party : List ℕ) (o : Option Instance) (advert : Advert) (compiled : Numbered)
      → Shows s.hash k o (Some (advert, compiled))
      → pairs_by_key (deposit_key s.hash party) party (owners_of (persistent advert.pre)) compiled.init.digests
      ≡ initial_pairs s party o
  initial_shown party None advert compiled h = absurd h
  initial_shown party (Some st) advert compiled h =
      ap (λ (a : Advert). pairs_by_key (deposit_key s.hash party) party (owners_of (persistent a.pre)) compiled.init.digests) (sym h.text)
      ∙ ap (λ (n : Numbered). pairs_by_key (deposit_key s.hash party) party (owners_of (persistent st.advert.pre)) n.init.digests)
      h.compilation
      ∙ by_owners party (persistent st.advert.pre) (numbered s.hash st).init.digests

-- ---- the transaction of a path

-- it is that of what the contract is compiled with
pub found_there : (s : Setup) (o : Option Instance) (compiled : Numbered) (path : List PathStep) (made : Option Prepared)
    → Some compiled ≡ option_map (numbered s.hash) o
    → ((hash : List ℕ → List ℕ) (st : Instance) → compiled ≡ numbered hash st → made ≡ prepared_at hash st path)
    → made ≡ prepared_if_compiled s o path
found_there s None compiled path made e f = cc
found_there s (Some st) compiled path made e f = f s.hash st (some_same e)

pub none_there : (s : Setup) (o : Option Instance) (path : List PathStep) → None ≡ option_map (numbered s.hash) o
    → None ≡ prepared_if_compiled s o path
none_there s None path e = refl
none_there s (Some st) path e = cc

has_digest : (hash : List ℕ → List ℕ) (st : Instance) (path : List PathStep) (made : Prepared) (key : List ℕ)
    → prepared_at hash st path ≡ Some made → first_pair key made.digests ≡ (key, first_digest made) ∷ []
has_digest hash st path made key h = by_end (end_at hash st path) h
  where
    by_end : (o : Option PathEnd) → option_map (prepared hash) (option_and_then (as_unsigned hash st) o) ≡ Some made
        → first_pair key made.digests ≡ (key, first_digest made) ∷ []
    by_end None e = cc
    by_end (Some (at_position here contract)) e = cc
    by_end (Some (at_branch here i b)) e =
        let z : prepared hash (branch_unsigned hash st here i b) ≡ made = some_same e in
        subst (λ (m : Prepared). first_pair key m.digests ≡ (key, first_digest m) ∷ []) z refl

-- it has an input, and so a first digest
pub first_there : (s : Setup) (o : Option Instance) (path : List PathStep) (made : Prepared) (key : List ℕ)
    → Some made ≡ prepared_if_compiled s o path → first_pair key made.digests ≡ (key, first_digest made) ∷ []
first_there s None path made key h = cc
first_there s (Some st) path made key h = has_digest s.hash st path made key (sym h)
