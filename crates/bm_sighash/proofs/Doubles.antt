-- Calls that hash two messages each, one after another.
use Rattle.std.proofs.Common.{List, [], ◌∷◌}
use Rattle.bm_hash.specs.declared.messages.TrailError.{TrailError}
use Rattle.bm_hash.specs.Messages.{Message}
use Rattle.bm_hash.specs.Trails.{Hashed, Stops}
use Rattle.bm_hash.proofs.HashesLemmas.{Hashed-then, Stops-then, Stops-first}

pub hashed_two : (hash : Message → Message) (old mid new ys : List Message) (x y : Message) → Hashed hash old mid (x ∷ (y ∷ []))
    → Hashed hash mid new ys → Hashed hash old new (x ∷ (y ∷ ys))
hashed_two hash old mid new ys x y a b = Hashed-then hash old mid new (x ∷ (y ∷ [])) ys a b

pub stops_in_two : (hash : Message → Message) (old new ys : List Message) (x y : Message) (e : TrailError)
    → Stops hash old new (x ∷ (y ∷ [])) e → Stops hash old new (x ∷ (y ∷ ys)) e
stops_in_two hash old new ys x y e s = Stops-first hash old new (x ∷ (y ∷ [])) ys e s

pub stops_after_two : (hash : Message → Message) (old mid new ys : List Message) (x y : Message) (e : TrailError)
    → Hashed hash old mid (x ∷ (y ∷ [])) → Stops hash mid new ys e → Stops hash old new (x ∷ (y ∷ ys)) e
stops_after_two hash old mid new ys x y e a s = Stops-then hash old mid new (x ∷ (y ∷ [])) ys e a s

pub ruleset doubling = (stops_in_two, stops_after_two, hashed_two)
