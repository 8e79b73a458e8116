use Rattle.std.proofs.Common.{[], ◌∷◌, subst}
use Rattle.bm_hash.specs.Trails.{Stops}
use Rattle.deal_secrets.proofs.Hashing.{hashed_one, stopped_one}
use Rattle.deal_secrets.proofs.lines.hash_of.Goals as goal

pub returns-in-Ok-clause-hashed : goal.returns-in-Ok-clause-hashed
returns-in-Ok-clause-hashed g c =
    let h = hashed_one (g.H.Hash32.digest_of c.args.trail.now.hasher) c.args.trail.now.messages c.hash.new.self.messages c.args.bytes.now
    c.requires c.in-Ok.ensures.trail.1 in
    (c.in-Ok.ensures.digest, h.0, h.1, h.2)

pub returns-in-Err-Collided-clause-hashed : goal.returns-in-Err-Collided-clause-hashed
returns-in-Err-Collided-clause-hashed g c =
    let hash = g.H.Hash32.digest_of c.args.trail.now.hasher in
    stopped_one hash c.args.trail.now.messages c.hash.new.self.messages c.args.bytes.now c.requires
    (subst (λ e. Stops hash c.args.trail.now.messages c.hash.new.self.messages (c.args.bytes.now ∷ []) e) c.in-Err-Collided.field-0-is
    c.in-Err-Collided.ensures.trail.2)
