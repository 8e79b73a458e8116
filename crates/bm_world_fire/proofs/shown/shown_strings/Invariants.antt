use Rattle.std.proofs.Common.{◌≡◌, ◌++◌, ℕ, List, drop, map}
use Rattle.spec_run.specs.Setup.{bytes_or_none}
use Rattle.bm_world_board.specs.Prepares.{setup_of}
use Rattle.bm_world_fire.specs.Shown.{shown_by}
use Rattle.bm_world_fire.proofs.shown.shown_strings.Given as goal

abbrev pub invariant-loop-name : goal.invariant-loop-name
invariant-loop-name g l =
    let s = setup_of (g.H.Hash32.digest_of l.trail.hasher) l.board in
    l.strings ++ map (λ (name : List ℕ). bytes_or_none (shown_by s l.board.exchange.posted l.hashes name)) (drop l.name-index l.names)
    ≡ map (λ (name : List ℕ). bytes_or_none (shown_by s l.board.exchange.posted l.hashes name)) l.names
