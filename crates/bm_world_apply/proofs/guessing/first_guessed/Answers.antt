use Rattle.std.proofs.Common.{sym, ◌∙◌}
use Rattle.bm_world_apply.proofs.Unguessed.{none_known}
use Rattle.bm_world_apply.proofs.guessing.first_guessed.Goals as goal

pub returns-then-not-has_known-clause-found : goal.returns-then-not-has_known-clause-found
returns-then-not-has_known-clause-found c =
    sym (none_known c.args.known.now c.args.exchange.now.posted c.args.posts.now c.args.allowed.now
    (sym c.has_known.ensures ∙ c.if-not-has_known.true) c.args.secrets.now c.requires.known)
