-- The transaction of a branch with its witnesses, by what is found of the branch.
use Rattle.std.specs.Prelude.{◌≡◌, ℕ, List, ◌∷◌, map, Some, slice_get}
use Rattle.spec_terms.specs.Advert.{Advert}
use Rattle.spec_terms.specs.Core.{core, puts_of, reveals_of}
use Rattle.spec_terms.specs.Term as term
use Rattle.spec_terms.specs.Parties.{participants}
use Rattle.spec_terms.specs.declared.path.PathStep.{PathStep}
use Rattle.spec_bitcoin.specs.declared.tx.Tx.{Tx}
use Rattle.spec_compiler.specs.declared.prepared.Prepared.{Prepared}
use Rattle.spec_compiler.specs.Witness.{witness_of}
use Rattle.spec_run.specs.Setup.{Setup, bytes_or_none}
use Rattle.spec_run.specs.World.{World, digests_at, live_position_at}
use Rattle.spec_run.specs.Ledger.{position_path, position_branch}
use Rattle.spec_run.specs.Signing.{first_digest}
use Rattle.spec_run.specs.Firing.{with_witnesses, other_digests}
use Rattle.bm_syntax.specs.View.{guarded}
use Rattle.bm_world_board.specs.declared.board.Board.{Board}
use Rattle.bm_world_board.specs.Compiling.{compiled_at}
use Rattle.bm_world_fire.specs.declared.taking.Taking.{Taking}
use Rattle.bm_world_fire.specs.Filled.{deposits_items, owner_in, signed_by}
use Rattle.bm_world_fire.specs.Shown.{shown_by}

-- the posted strings of the secrets that a branch reveals
abbrev pub shown_for : Setup → List (List ℕ) → List (List ℕ × List ℕ) → term.Guarded → List (List ℕ)
shown_for s posted hashes b = map (λ name. bytes_or_none (shown_by s posted hashes name)) (reveals_of (core b))

-- the witnesses of the position's output and of the deposits that the branch puts
abbrev pub witnesses_with : Setup → List (List ℕ) → ℕ → Advert → List (List ℕ × List ℕ) → List PathStep → ℕ → ℕ → term.Guarded
    → Prepared → List ℕ → List (List (List ℕ))
witnesses_with s posted contract advert hashes path branch branches b made script =
    witness_of (map (signed_by s.hash contract path (first_digest made)) (participants advert)) (shown_for s posted hashes b)
    branch branches script
    ∷ deposits_items s.hash (map (owner_in advert.pre) (puts_of (core b))) (other_digests made.digests)

-- the transaction with them
abbrev pub taking_with : Setup → List (List ℕ) → ℕ → Advert → List (List ℕ × List ℕ) → List PathStep → ℕ → ℕ → term.Guarded → Prepared
    → List ℕ → Tx
taking_with s posted contract advert hashes path branch branches b made script =
    with_witnesses made.tx (witnesses_with s posted contract advert hashes path branch branches b made script)

-- ---- a branch that is to be taken

-- what is known of it is what the board has of its contract
pub record IsTaking (b : Board) (t : Taking) : Type 0 where
  pub path : t.path ≡ position_path t.held.now t.number
  pub checked : slice_get b.contracts t.held.now.contract ≡ Some t.checked.now
  pub compiled : compiled_at b.compiled t.held.now.contract ≡ Some t.compiled.now
  pub hashes : t.hashes ≡ digests_at b.exchange.promises t.held.now.contract

-- a live output holds its position, which has the branch
pub record IsOpen (s : Setup) (w : World) (t : Taking) : Type 0 where
  pub output : ℕ
  pub live : live_position_at w output ≡ Some t.held.now
  pub branch : position_branch s t.held.now t.number ≡ Some (guarded t.branch.now)
