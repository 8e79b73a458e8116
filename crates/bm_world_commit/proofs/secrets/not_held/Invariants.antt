use Rattle.std.proofs.Common.{◌≡◌, ℕ, List, drop}
use Rattle.spec_run.specs.Committing.{not_held}
use Rattle.bm_world_board.specs.Prepares.{setup_of}
use Rattle.bm_world_commit.proofs.secrets.not_held.Given as goal

abbrev pub invariant-loop-name : goal.invariant-loop-name
invariant-loop-name l =
    (hash : List ℕ → List ℕ) → not_held (setup_of hash l.board) l.party (drop l.name-index l.required) ≡ not_held (setup_of hash l.board) l.party l.required
