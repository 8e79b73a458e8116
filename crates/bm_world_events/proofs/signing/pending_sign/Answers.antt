use Rattle.std.proofs.Common.{[], ◌∷◌, subst, sym, ap, ◌∙◌}
use Rattle.std.proofs.lemmas.Result.{err_from_is_err_and}
use Rattle.spec_bitcoin.specs.Keys.{label_text}
use Rattle.spec_run.specs.Pending.{done}
use Rattle.bm_world_board.specs.Prepares.{world_of, IsReady, Prepares}
use Rattle.bm_world_board.proofs.Refusals.{prepares_refused, prepares_passed, stops_passed}
use Rattle.bm_world_events.proofs.signing.pending_sign.Goals as goal

pub returns-in-Some-clause-ok : goal.returns-in-Some-clause-ok
returns-in-Some-clause-ok g c =
    let hash = g.H.Hash32.digest_of c.args.trail.now.hasher in
    prepares_refused hash (world_of c.args.board.now c.args.trail.now.messages) _ _ c.in-Some.reason _ _ (sym (c.sign_refusal.ensures hash) ∙ c.in-Some.is) c.refused.ensures.same c.refused.ensures.change c.requires.clear

pub returns-in_err-sign_digest-clause-err : goal.returns-in_err-sign_digest-clause-err
returns-in_err-sign_digest-clause-err g c =
    let hash = g.H.Hash32.digest_of c.args.trail.now.hasher in
    let p = err_from_is_err_and c.from_residual.result c.from_residual.ensures.1 in
    rw (p.1, p.2) (stops_passed hash (world_of c.args.board.now c.args.trail.now.messages) _ _ _ [] _ _
    (sym (c.sign_refusal.ensures hash) ∙ c.in_default.is) c.in_err-sign_digest.ensures.trail.2)

pub returns-clause-ok : goal.returns-clause-ok
returns-clause-ok g c =
    let hash = g.H.Hash32.digest_of c.args.trail.now.hasher in
    let w = world_of c.args.board.now c.args.trail.now.messages in
    prepares_passed hash _ w _ _ _ [] _ c.done.result (sym (c.sign_refusal.ensures hash) ∙ c.in_default.is) (record {
      same = c.done.ensures.same _ _ ∙ ap (λ book. done (record w { book = book }) (label_text c.args.label.now ∷ [])) c.in_ok-sign_digest.ensures.signed;
      hashed = c.in_ok-sign_digest.ensures.trail.1;
      ready = subst (IsReady hash _) (sym c.done.ensures.change) tt;
    })
