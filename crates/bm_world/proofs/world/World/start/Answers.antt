use Rattle.std.proofs.Common.{◌≡◌, []}
use Rattle.spec_run.specs.Event.{opening_strings}
use Rattle.bm_hash.specs.Trails.{Hashed, Stops}
use Rattle.bm_world_opening.specs.Opening.{setup_with, IsOpened}
use Rattle.bm_world.proofs.Opened.{opened_world, opened_is, unopened_by}
use Rattle.bm_world.proofs.Played.{shown_by}
use Rattle.bm_world.proofs.world.World.start.Goals as goal

pub invariant_of-result : goal.invariant_of-result
invariant_of-result g c =
    let same : c.open_board.new.trail.hasher ≡ c.args.hash = rw c.new-trail.ensures at c.in-Ok.ensures.trail.0 in
    let opened : IsOpened (setup_with (g.H.Hash32.digest_of c.args.hash) c.args.header.now c.args.contracts.items) c.in-Ok.board =
    rw c.new-trail.ensures at c.in-Ok.ensures.board in
    let hashed : Hashed (g.H.Hash32.digest_of c.args.hash) [] c.open_board.new.trail.messages
    (opening_strings (setup_with (g.H.Hash32.digest_of c.args.hash) c.args.header.now c.args.contracts.items)) =
    rw c.new-trail.ensures at c.in-Ok.ensures.trail.1 in
    opened_world g.H.Hash32.digest_of c.args.hash c.open_board.new.trail.hasher c.args.header.now c.args.contracts.items c.in-Ok.board
    c.open_board.new.trail.messages same opened hashed
    c.new.result c.new.ensures (record { size = g.met.H.Hash32.sized c.args.hash; bytes = g.met.H.Hash32.bytes c.args.hash })
    c.requires.header c.requires.few

pub returns-in-Ok-clause-opens : goal.returns-in-Ok-clause-opens
returns-in-Ok-clause-opens g c =
    let same : c.open_board.new.trail.hasher ≡ c.args.hash = rw c.new-trail.ensures at c.in-Ok.ensures.trail.0 in
    let opened : IsOpened (setup_with (g.H.Hash32.digest_of c.args.hash) c.args.header.now c.args.contracts.items) c.in-Ok.board =
    rw c.new-trail.ensures at c.in-Ok.ensures.board in
    let hashed : Hashed (g.H.Hash32.digest_of c.args.hash) [] c.open_board.new.trail.messages
    (opening_strings (setup_with (g.H.Hash32.digest_of c.args.hash) c.args.header.now c.args.contracts.items)) =
    rw c.new-trail.ensures at c.in-Ok.ensures.trail.1 in
    opened_is g.H.Hash32.digest_of c.args.hash c.open_board.new.trail.hasher c.args.header.now c.args.contracts.items c.in-Ok.board
    c.open_board.new.trail.messages same opened hashed c.new.result c.new.ensures

pub returns-in-Err-clause-unopened : goal.returns-in-Err-clause-unopened
returns-in-Err-clause-unopened g c =
    let same : c.open_board.new.trail.hasher ≡ c.args.hash = rw c.new-trail.ensures at c.in-Err.ensures.trail.0 in
    let stops : Stops (g.H.Hash32.digest_of c.args.hash) [] c.open_board.new.trail.messages
    (opening_strings (setup_with (g.H.Hash32.digest_of c.args.hash) c.args.header.now c.args.contracts.items)) c.in-Err.error =
    rw c.new-trail.ensures at c.in-Err.ensures.trail.2 in
    unopened_by g.H.Hash32.digest_of c.args.hash c.args.header.now c.args.contracts.items c.open_board.new.trail.messages
    c.in-Err.error c.trail_halt.result stops
    (shown_by g.H.Hash32.digest_of c.args.hash c.open_board.new.trail.hasher c.open_board.new.trail.messages c.in-Err.error
    c.trail_halt.result same c.trail_halt.ensures.memory c.trail_halt.ensures.collided c.trail_halt.ensures.unguessed)
