-- A trail that hashes several messages in turn: which of them collision, said without the trail.
use Rattle.std.proofs.Common.{◌≡◌, List, [], ◌∷◌, ◌++◌, true, false, not, ◌&&◌, cond, Some, None, refl, sym, ap, subst, ◌∙◌}
use Rattle.std.specs.Prelude.{IsSome}
use Rattle.std.specs.Option.{option_map, option_or}
use Rattle.std.specs.List.{find}
use Rattle.std.specs.Str.{bytes_eq}
use Rattle.std.proofs.lemmas.Slice.Eq.{bytes_eq-Decides}
use Rattle.spec_data.specs.Lists.{is_among}
use Rattle.spec_data.specs.Messages as messages
use Rattle.spec_data.specs.Messages.{collision_with, collision}
use Rattle.bm_hash.specs.Messages.{Message, evidence_of, noted, noted_all}
use Rattle.bm_hash.specs.declared.messages.TrailError.TheVariants.{Collided}
use Rattle.bm_hash.specs.Trails.{Hashed, Stops}
use Rattle.bm_hash.proofs.Evidence.{find_among, noted_among, apart, evidence_push, both_true, both_none}
use Rattle.bm_hash.proofs.HashesLemmas.{noted_all_after}

abbrev pair_with : Message → Message → Message × Message
pair_with m e = (e, m)

-- a message that is there already makes no collision
pub collision_of_noted : (hash : Message → Message) (ms : List Message) (m : Message) → evidence_of hash ms ≡ None → is_among m ms ≡ true
    → collision_with hash ms m ≡ None
collision_of_noted hash ms m clear there =
    elim (find (λ e. bytes_eq (hash e) (hash m) && not (bytes_eq e m)) ms) as
    (λ o. find (λ e. bytes_eq (hash e) (hash m) && not (bytes_eq e m)) ms ≡ o → option_map (pair_with m) o ≡ None) [
      | None ↦ λ found. refl
      | Some e ↦ λ found.
          let at = find_among _ ms e found in
          let parts = both_true _ _ at.1 in
          let same = apart hash [] ms e m clear at.0 (noted_among ms m there) ((bytes_eq-Decides (hash e) (hash m)).0 parts.0) in
          let holds = (bytes_eq-Decides e m).1 same in
          cc
    ] refl

noted-clear : (hash : Message → Message) (ms : List Message) (m : Message) → evidence_of hash ms ≡ None → noted hash ms m ≡ messages.noted ms m
noted-clear hash ms m clear = rw clear refl

-- one message: the evidence is the collision that it makes
pub evidence_of-noted : (hash : Message → Message) (ms : List Message) (m : Message) → evidence_of hash ms ≡ None
    → evidence_of hash (noted hash ms m) ≡ collision_with hash ms m
evidence_of-noted hash ms m clear =
    ap (evidence_of hash) (noted-clear hash ms m clear)
    ∙ elim (is_among m ms) as (λ b. is_among m ms ≡ b → evidence_of hash (cond b ms (ms ++ m ∷ [])) ≡ collision_with hash ms m) [
      | true ↦ λ t. clear ∙ sym (collision_of_noted hash ms m clear t)
      | false ↦ λ t. evidence_push hash [] ms m ∙ rw clear refl
    ] refl

still_clear : (hash : Message → Message) (ms : List Message) (m : Message) → evidence_of hash ms ≡ None → collision_with hash ms m ≡ None
    → evidence_of hash (messages.noted ms m) ≡ None
still_clear hash ms m clear none = ap (evidence_of hash) (sym (noted-clear hash ms m clear)) ∙ evidence_of-noted hash ms m clear ∙ none

-- the evidence is the first collision that the messages make
pub evidence_of-noted_all : (hash : Message → Message) (ms xs : List Message) → evidence_of hash ms ≡ None
    → evidence_of hash (noted_all hash ms xs) ≡ collision hash ms xs
evidence_of-noted_all hash ms [] clear = clear
evidence_of-noted_all hash ms (x ∷ xs) clear =
    elim (collision_with hash ms x) as (λ o. collision_with hash ms x ≡ o
    → evidence_of hash (noted_all hash (noted hash ms x) xs) ≡ option_or o (collision hash (messages.noted ms x) xs)) [
      | None ↦ λ none. ap (λ l. evidence_of hash (noted_all hash l xs)) (noted-clear hash ms x clear)
          ∙ evidence_of-noted_all hash (messages.noted ms x) xs (still_clear hash ms x clear none)
      | Some p ↦ λ some.
          let found : evidence_of hash (noted hash ms x) ≡ Some p = evidence_of-noted hash ms x clear ∙ some in
          ap (evidence_of hash) (noted_all_after hash (noted hash ms x) xs (rw found refl)) ∙ found
    ] refl

-- where nothing collides, all the messages are on the trail
pub noted_all-clear : (hash : Message → Message) (ms xs : List Message) → evidence_of hash ms ≡ None → collision hash ms xs ≡ None
    → noted_all hash ms xs ≡ messages.noted_all ms xs
noted_all-clear hash ms [] clear none = refl
noted_all-clear hash ms (x ∷ xs) clear none =
    let parts = both_none (collision_with hash ms x) (collision hash (messages.noted ms x) xs) none in
    ap (λ l. noted_all hash l xs) (noted-clear hash ms x clear) ∙ noted_all-clear hash (messages.noted ms x) xs (still_clear hash ms x clear parts.0) parts.1

-- ---- the same of calls along a trail that was clear

-- a call that hashed all these messages added them, and none collided
pub hashed_adds : (hash : Message → Message) (old new xs : List Message) → evidence_of hash old ≡ None → Hashed hash old new xs
    → (new ≡ messages.noted_all old xs) × (collision hash old xs ≡ None)
hashed_adds hash old new xs clear hashed =
    let none : collision hash old xs ≡ None = sym (evidence_of-noted_all hash old xs clear) ∙ ap (evidence_of hash) (sym hashed.all) ∙ hashed.clear in
    (hashed.all ∙ noted_all-clear hash old xs clear none, none)

-- the evidence after a call that stopped at a collision is the first collision of these messages
pub stopped_shows : (hash : Message → Message) (old new xs : List Message) → evidence_of hash old ≡ None → Stops hash old new xs Collided
    → (evidence_of hash new ≡ collision hash old xs) × IsSome (collision hash old xs)
stopped_shows hash old new xs clear stops =
    let stopped = stops.collided refl in
    let shows : evidence_of hash new ≡ collision hash old xs = ap (evidence_of hash) stopped.0 ∙ evidence_of-noted_all hash old xs clear in
    (shows, subst (λ o. IsSome o) shows stopped.1)
