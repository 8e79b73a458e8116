-- Calls that hash several lists of messages, one after another.
use Rattle.std.proofs.Common.{◌≡◌, List, ◌++◌, subst, ℕ, ◌<◌, length, take, get_or}
use Rattle.std.specs.List.{flat_map}
use Rattle.bm_hash.specs.declared.messages.TrailError.{TrailError}
use Rattle.bm_hash.specs.declared.messages.TrailError.TheVariants.{Memory}
use Rattle.bm_hash.specs.Messages.{Message}
use Rattle.bm_hash.specs.Trails.{Hashed, Stops}
use Rattle.bm_hash.proofs.HashesLemmas.{Hashed-then, Stops-then, Stops-first, stops_at_of, stops_short_of}

-- ---- three lists, one after another

module _ (hash : Message → Message) (xs ys zs : List Message) where
  pub stops_in_first : (old new : List Message) (e : TrailError) → Stops hash old new xs e → Stops hash old new ((xs ++ ys) ++ zs) e
  stops_in_first old new e s = Stops-first hash old new (xs ++ ys) zs e (Stops-first hash old new xs ys e s)

  pub stops_in_second : (old mid new : List Message) (e : TrailError) → Hashed hash old mid xs → Stops hash mid new ys e
      → Stops hash old new ((xs ++ ys) ++ zs) e
  stops_in_second old mid new e a s = Stops-first hash old new (xs ++ ys) zs e (Stops-then hash old mid new xs ys e a s)

  pub stops_in_third : (old mid late new : List Message) (e : TrailError) → Hashed hash old mid xs → Hashed hash mid late ys
      → Stops hash late new zs e → Stops hash old new ((xs ++ ys) ++ zs) e
  stops_in_third old mid late new e a b s = Stops-then hash old late new (xs ++ ys) zs e (Hashed-then hash old mid late xs ys a b) s

  pub hashed_three : (old mid late new : List Message) → Hashed hash old mid xs → Hashed hash mid late ys → Hashed hash late new zs
      → Hashed hash old new ((xs ++ ys) ++ zs)
  hashed_three old mid late new a b c = Hashed-then hash old late new (xs ++ ys) zs (Hashed-then hash old mid late xs ys a b) c

-- ---- a list with strings for each element, which is read as another that is the same

pub stops_at_element : {X : Type 0} (f : X → List Message) (hash : Message → Message) (old mid new : List Message) (xs all : List X) (i : ℕ)
    (x : X) (e : TrailError) → xs ≡ all → i < length xs → x ≡ get_or xs i x → Hashed hash old mid (flat_map f (take i xs))
    → Stops hash mid new (f x) e → Stops hash old new (flat_map f all) e
stops_at_element f hash old mid new xs all i x e same lt at a s =
    subst (λ l. Stops hash old new (flat_map f l) e) same (stops_at_of f hash old mid new xs i x e lt at a s)

pub stops_between : {X : Type 0} (f : X → List Message) (hash : Message → Message) (old new : List Message) (xs all : List X) (i : ℕ) → xs
    ≡ all → Hashed hash old new (flat_map f (take i xs)) → Stops hash old new (flat_map f all) Memory
stops_between f hash old new xs all i same a = subst (λ l. Stops hash old new (flat_map f l) Memory) same (stops_short_of f hash old new xs i a)
