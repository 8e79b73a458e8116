use Rattle.std.proofs.Common.{◌∙◌}
use Rattle.bm_honest.proofs.Unmet.{all_paths, tells}
use Rattle.bm_honest.proofs.gate.may.Goals as goal

pub returns-clause-listed : goal.returns-clause-listed
returns-clause-listed g c = rw (← c.paths.ensures, ← c.keys.ensures) c.in_ok-gate.ensures

pub returns-clause-tells : goal.returns-clause-tells
returns-clause-tells g c =
    λ s. tells (g.H.Hash32.digest_of c.args.hash.now) s c.args.book.now c.args.contract c.args.checked.now c.args.compiled.now c.in_ok-gate.gate
    c.missing_is_first.ensures
    (λ planned. returns-clause-listed g c
    ∙ all_paths (g.H.Hash32.digest_of c.args.hash.now) c.args.book.now c.args.contract c.args.checked.now c.args.compiled.now.paths _ planned)
