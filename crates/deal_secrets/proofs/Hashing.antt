-- A message that is hashed: whether it collides with one before it.
use Rattle.std.proofs.Common.{◌≡◌, List, [], ◌∷◌, Option, Some, None, refl, sym, subst, ◌∙◌}
use Rattle.std.specs.Prelude.{IsSome}
use Rattle.std.specs.Option.{option_or}
use Rattle.spec_data.specs.Messages.{noted, noted_all, collision_with}
use Rattle.bm_hash.specs.Messages.{Message, evidence_of}
use Rattle.bm_hash.specs.Trails.{Hashed, Stops}
use Rattle.bm_hash.specs.declared.messages.TrailError.TheVariants.{Collided}
use Rattle.bm_hash.proofs.Collisions.{hashed_adds, stopped_shows}

or_none : (o : Option (Message × Message)) → option_or o None ≡ o
or_none None = refl
or_none (Some p) = refl

pub hashed_one : (hash : Message → Message) (old new : List Message) (m : Message) → evidence_of hash old ≡ None
    → Hashed hash old new (m ∷ []) → (collision_with hash old m ≡ None) × (new ≡ noted old m) × (evidence_of hash new ≡ None)
hashed_one hash old new m clear h =
    let r = hashed_adds hash old new (m ∷ []) clear h in
    (sym (or_none (collision_with hash old m)) ∙ r.1, r.0, h.clear)

pub stopped_one : (hash : Message → Message) (old new : List Message) (m : Message) → evidence_of hash old ≡ None
    → Stops hash old new (m ∷ []) Collided → (evidence_of hash new ≡ collision_with hash old m) × IsSome (collision_with hash old m)
stopped_one hash old new m clear h =
    let r = stopped_shows hash old new (m ∷ []) clear h in
    (r.0 ∙ or_none (collision_with hash old m), subst (λ o. IsSome o) (or_none (collision_with hash old m)) r.1)

-- what was hashed of an empty trail
pub hashed_first : (hash : Message → Message) (new xs : List Message) → Hashed hash [] new xs → new ≡ noted_all [] xs
hashed_first hash new xs h = (hashed_adds hash [] new xs refl h).0
