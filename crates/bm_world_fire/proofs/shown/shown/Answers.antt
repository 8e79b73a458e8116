use Rattle.std.proofs.Common.{◌≡◌, Some, None, sym, ap, ◌∙◌}
use Rattle.std.specs.Prelude.{option_map}
use Rattle.std.specs.Option.{option_and_then, option_copied}
use Rattle.spec_data.specs.Lists.{look_up}
use Rattle.bm_hash.specs.Messages.{message_of}
use Rattle.bm_world_board.specs.Prepares.{setup_of}
use Rattle.bm_world_fire.specs.Shown.{if_shown}
use Rattle.bm_world_fire.proofs.Known.{shown_none, shown_some}
use Rattle.bm_world_fire.proofs.shown.shown.Goals as goal

pub returns-in_default : goal.returns-in_default
returns-in_default g c =
    let s = setup_of (g.H.Hash32.digest_of c.args.trail.now.hasher) c.args.board.now in
    shown_none s (g.met.H.Hash32.sized c.args.trail.now.hasher) c.args.board.now.exchange.posted c.args.hashes.now c.args.name.now
    (sym c.digest_of.ensures ∙ ap (option_map (λ d. d.now)) c.in_default.is)

pub returns-in_default-message : goal.returns-in_default-message
returns-in_default-message g c =
    let s = setup_of (g.H.Hash32.digest_of c.args.trail.now.hasher) c.args.board.now in
    let posted = c.args.board.now.exchange.posted in
    let messages = c.args.trail.now.messages in
    let looked : look_up c.args.name.now c.args.hashes.now ≡ Some c.in-Some.digest.now = sym c.digest_of.ensures ∙ ap (option_map (λ d. d.now)) c.in-Some.is in
    let none : message_of s.hash messages c.in-Some.digest.now ≡ None = sym c.message.ensures ∙ ap option_copied c.in_default-message.is in
    sym (shown_some s messages posted c.requires.playable.clear c.requires.playable.posted.hashed
    c.args.hashes.now c.args.name.now c.in-Some.digest.now looked ∙ ap (option_and_then (if_shown posted)) none)

pub returns : goal.returns
returns g c =
    let s = setup_of (g.H.Hash32.digest_of c.args.trail.now.hasher) c.args.board.now in
    let posted = c.args.board.now.exchange.posted in
    let messages = c.args.trail.now.messages in
    let looked : look_up c.args.name.now c.args.hashes.now ≡ Some c.in-Some.digest.now = sym c.digest_of.ensures ∙ ap (option_map (λ d. d.now)) c.in-Some.is in
    let some : message_of s.hash messages c.in-Some.digest.now ≡ Some c.in-Some-message.string.now =
    sym c.message.ensures ∙ ap option_copied c.in-Some-message.is in
    c.if_shown.ensures ∙ sym (shown_some s messages posted c.requires.playable.clear c.requires.playable.posted.hashed
    c.args.hashes.now c.args.name.now c.in-Some.digest.now looked ∙ ap (option_and_then (if_shown posted)) some)
