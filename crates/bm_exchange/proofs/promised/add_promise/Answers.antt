use Rattle.std.proofs.Common.{[], ◌∷◌, map}
use Rattle.std.proofs.lemmas.List.{append-nil}
use Rattle.theory_world.proofs.Once.{used-append}
use Rattle.bm_exchange.proofs.promised.add_promise.Goals as goal

pub returns-clause-used : goal.returns-clause-used
returns-clause-used c =
    rw (
      c.in_default.ensures.ok,
      used-append c.args.promises.now (c.args.promised ∷ []),
      append-nil (map (λ d. d.1) c.args.promised.digests),
      ← c.requires.used,
    )
    (rw c.digests.ensures at c.in_ok-add_all_digests.ensures.ok)
