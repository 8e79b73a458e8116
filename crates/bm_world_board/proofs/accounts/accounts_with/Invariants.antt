use Rattle.std.proofs.Common.{◌≡◌, ◌++◌, map, take, drop}
use Rattle.bm_hash.specs.Trails.{Hashed}
use Rattle.bm_world_board.specs.Accounts.{account_with, script_string}
use Rattle.bm_world_board.proofs.accounts.accounts_with.Given as goal

abbrev pub invariant-loop-one : goal.invariant-loop-one
invariant-loop-one g l =
    let hash = g.H.Hash32.digest_of l.fn.trail.hasher in
    record {
      hasher : l.trail.hasher ≡ l.fn.trail.hasher;
      accounts : l.accounts ++ map (account_with hash) (drop l.one-index l.named) ≡ map (account_with hash) l.named;
      trail : Hashed hash l.fn.trail.messages l.trail.messages (map script_string (take l.one-index l.named));
    }
