use Rattle.std.proofs.Common.{◌≡◌, ℕ, List, drop}
use Rattle.spec_run.specs.Committing.{badly_long}
use Rattle.bm_world_board.specs.Prepares.{setup_of}
use Rattle.bm_world_commit.proofs.secrets.badly_long.Given as goal

abbrev pub invariant-loop-name : goal.invariant-loop-name
invariant-loop-name l =
    (hash : List ℕ → List ℕ) → badly_long (setup_of hash l.board) l.party (drop l.name-index l.required) ≡ badly_long (setup_of hash l.board) l.party l.required
