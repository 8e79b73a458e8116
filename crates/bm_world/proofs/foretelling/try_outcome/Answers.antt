use Rattle.std.proofs.Common.{◌≡◌, Some, None, sym, ap, ◌∙◌}
use Rattle.std.specs.List.{find}
use Rattle.std.specs.Option.{option_copied}
use Rattle.spec_run.specs.Pending.{is_guessed}
use Rattle.std.proofs.lemmas.Result.{err_from_is_err_and}
use Rattle.bm_world_board.specs.declared.board.Board.{Board}
use Rattle.bm_world_board.specs.Prepares.{setup_of, world_of}
use Rattle.bm_world_board.specs.Secrets.{secret_strings}
use Rattle.bm_hash.proofs.HashesLemmas.{stops_late}
use Rattle.bm_world.proofs.Foretold.{foretells_guess, foretells_outcome}
use Rattle.bm_world.proofs.foretelling.try_outcome.Goals as goal

pub first_guessed-requires : goal.first_guessed-requires
first_guessed-requires g c = record {
  known = rw c.as_slice.ensures (ap (λ (b : Board). b.known) c.pending.ensures.board.rest ∙ c.requires.playable.known
      ∙ sym (ap (λ (b : Board). secret_strings b.header.secrets) c.pending.ensures.board.rest));
}

pub returns-in_err-guessed-clause-stops : goal.returns-in_err-guessed-clause-stops
returns-in_err-guessed-clause-stops g c =
    let hash = g.H.Hash32.digest_of c.args.trail.now.hasher in
    let p = err_from_is_err_and c.from_residual-in_err-guessed.result c.from_residual-in_err-guessed.ensures.1 in
    rw (p.1, p.2) (stops_late hash c.args.trail.now.messages c.pending.new.trail.messages _ c.in_ok-answer.ensures.ok.hashed)

pub returns-in-Some-clause-foretells : goal.returns-in-Some-clause-foretells
returns-in-Some-clause-foretells g c =
    let hash = g.H.Hash32.digest_of c.args.trail.now.hasher in
    let x = c.in_ok-answer.answer.0 in
    let found : find (is_guessed c.args.board.now.exchange.posted x.posts x.allowed) c.args.board.now.header.secrets
    ≡ Some c.in-Some.field-0.now =
    sym (ap (λ (b : Board). find (is_guessed b.exchange.posted c.in_ok-answer.answer.0.posts c.in_ok-answer.answer.0.allowed)
    b.header.secrets) c.pending.ensures.board.rest)
    ∙ sym (rw (c.as_slice.ensures, c.as_slice-2.ensures, c.value.ensures, c.value-2.ensures) at c.in_ok-guessed.ensures.found) ∙ ap option_copied c.in-Some.is in
    foretells_guess (setup_of hash c.args.board.now) (world_of c.args.board.now c.args.trail.now.messages) _ c.pending.new.trail.messages
    c.args.event.now x c.requires.playable.clear c.in_ok-answer.ensures.ok c.in-Some.field-0.now found

pub returns-in-None-clause-foretells : goal.returns-in-None-clause-foretells
returns-in-None-clause-foretells g c =
    let hash = g.H.Hash32.digest_of c.args.trail.now.hasher in
    let x = c.in_ok-answer.answer.0 in
    let none : find (is_guessed c.args.board.now.exchange.posted x.posts x.allowed) c.args.board.now.header.secrets ≡ None =
    sym (ap (λ (b : Board). find (is_guessed b.exchange.posted c.in_ok-answer.answer.0.posts c.in_ok-answer.answer.0.allowed)
    b.header.secrets) c.pending.ensures.board.rest)
    ∙ sym (rw (c.as_slice.ensures, c.as_slice-2.ensures, c.value.ensures, c.value-2.ensures) at c.in_ok-guessed.ensures.found) ∙ ap option_copied c.in-None.is in
    rw (c.into_outcome.ensures, c.into_value.ensures)
    (foretells_outcome (setup_of hash c.args.board.now) (world_of c.args.board.now c.args.trail.now.messages) _ c.pending.new.trail.messages
    c.args.event.now x c.requires.playable.clear c.in_ok-answer.ensures.ok none)
