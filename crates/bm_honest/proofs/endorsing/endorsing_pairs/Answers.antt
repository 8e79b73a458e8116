use Rattle.std.proofs.Common.{◌∙◌}
use Rattle.bm_honest.proofs.Endorsed.{paths_pairs, endorses}
use Rattle.bm_honest.proofs.endorsing.endorsing_pairs.Goals as goal

pub returns-clause-listed : goal.returns-clause-listed
returns-clause-listed g c = rw (← c.paths.ensures, ← c.keys.ensures) c.in_ok-pairs.ensures

pub returns-clause-defined : goal.returns-clause-defined
returns-clause-defined g c = λ s.
    endorses (g.H.Hash32.digest_of c.args.hash.now) s c.args.contract c.args.checked.now c.args.party.now c.args.compiled.now c.in_ok-pairs.pairs.items
    (λ planned. returns-clause-listed g c
    ∙ paths_pairs (g.H.Hash32.digest_of c.args.hash.now) c.args.contract c.args.checked.now c.args.party.now c.args.compiled.now.paths _ planned)
