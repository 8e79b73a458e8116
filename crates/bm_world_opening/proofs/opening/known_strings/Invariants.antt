use Rattle.std.proofs.Common.{◌≡◌, take}
use Rattle.bm_world_board.specs.Secrets.{secret_strings}
use Rattle.bm_world_opening.proofs.opening.known_strings.Given as goal

abbrev pub invariant-loop-held : goal.invariant-loop-held
invariant-loop-held l = l.known ≡ secret_strings (take l.held-index l.secrets)
