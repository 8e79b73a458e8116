-- Calls that hash several lists of messages, one after another, each by the hasher that it found.
use Rattle.std.proofs.Common.{◌≡◌, ℕ, ◌+◌, ◌<◌, List, [], ◌∷◌, ◌++◌, ◌∙◌, append_assoc, map, drop, length, take, get_or, refl, sym, ap, subst}
use Rattle.std.specs.List.{flat_map}
use Rattle.std.proofs.lemmas.List.{drop_more}
use Rattle.bm_hash.specs.declared.messages.TrailError.{TrailError}
use Rattle.bm_hash.specs.Messages.{Message}
use Rattle.bm_hash.specs.Trails.{Hashed, Stops}
use Rattle.bm_hash.proofs.HashesLemmas.{hashed_more_of, stops_at_of, Hashed-then, Stops-then, Stops-first}

-- ---- a loop with strings for each element

pub hashed_step : {H X : Type 0}
    (f : (Message → Message) → X → List Message) (digest : H → Message → Message) (first here : H) (old mid new : List Message)
    (xs : List X) (i : ℕ) (x : X)
    → here ≡ first → i < length xs → x ≡ get_or xs i x → Hashed (digest first) old mid (flat_map (f (digest first)) (take i xs))
    → Hashed (digest here) mid new (f (digest here) x)
    → Hashed (digest first) old new (flat_map (f (digest first)) (take (i + 1) xs))
hashed_step f digest first here old mid new xs i x same lt at a b =
    hashed_more_of (f (digest first)) (digest first) old mid new xs i x lt at a (rw same at b)

pub stops_step : {H X : Type 0}
    (f : (Message → Message) → X → List Message) (digest : H → Message → Message) (first here : H) (old mid new : List Message)
    (xs : List X) (i : ℕ) (x : X) (e : TrailError)
    → here ≡ first → i < length xs → x ≡ get_or xs i x → Hashed (digest first) old mid (flat_map (f (digest first)) (take i xs))
    → Stops (digest here) mid new (f (digest here) x) e
    → Stops (digest first) old new (flat_map (f (digest first)) xs) e
stops_step f digest first here old mid new xs i x e same lt at a s =
    stops_at_of (f (digest first)) (digest first) old mid new xs i x e lt at a (rw same at s)

-- what a step makes of an element
pub mapped_step : {X Y : Type 0} (f : X → Y) (xs : List X) (i : ℕ) (x : X) (y : Y) (now new all : List Y) → i < length xs
    → x ≡ get_or xs i x → y ≡ f x
    → new ≡ now ++ y ∷ [] → now ++ map f (drop i xs) ≡ all → new ++ map f (drop (i + 1) xs) ≡ all
mapped_step f xs i x y now new all lt at made pushed so =
    let cut : drop i xs ≡ x ∷ drop (i + 1) xs = drop_more xs i x lt ∙ ap (λ z. z ∷ drop (i + 1) xs) (sym at) in
    rw (pushed, made) (append_assoc now (f x ∷ []) (map f (drop (i + 1) xs)) ∙ rw cut at so)

-- ---- a loop with one string for each element

map-singles : {X Y : Type 0} (f : X → Y) (xs : List X) → flat_map (λ x. f x ∷ []) xs ≡ map f xs
map-singles f [] = refl
map-singles f (x ∷ xs) = ap (λ l. f x ∷ l) (map-singles f xs)

pub hashed_each : {H X : Type 0}
    (f : X → Message) (digest : H → Message → Message) (first here : H) (old mid new : List Message)
    (xs : List X) (i : ℕ) (x : X)
    → here ≡ first → i < length xs → x ≡ get_or xs i x → Hashed (digest first) old mid (map f (take i xs))
    → Hashed (digest here) mid new (f x ∷ [])
    → Hashed (digest first) old new (map f (take (i + 1) xs))
hashed_each f digest first here old mid new xs i x same lt at a b =
    let before = subst (λ l. Hashed (digest first) old mid l) (sym (map-singles f (take i xs))) a in
    subst (λ l. Hashed (digest first) old new l) (map-singles f (take (i + 1) xs))
    (hashed_step (λ h y. f y ∷ []) digest first here old mid new xs i x same lt at before b)

pub stops_each : {H X : Type 0}
    (f : X → Message) (digest : H → Message → Message) (first here : H) (old mid new : List Message)
    (xs : List X) (i : ℕ) (x : X) (e : TrailError)
    → here ≡ first → i < length xs → x ≡ get_or xs i x → Hashed (digest first) old mid (map f (take i xs))
    → Stops (digest here) mid new (f x ∷ []) e
    → Stops (digest first) old new (map f xs) e
stops_each f digest first here old mid new xs i x e same lt at a s =
    let before = subst (λ l. Hashed (digest first) old mid l) (sym (map-singles f (take i xs))) a in
    subst (λ l. Stops (digest first) old new l e) (map-singles f xs)
    (stops_step (λ h y. f y ∷ []) digest first here old mid new xs i x e same lt at before s)

-- ---- one call after another

pub hashed_then : {H : Type 0}
    (digest : H → Message → Message) (first here : H) (old mid new xs : List Message)
    (ys : (Message → Message) → List Message)
    → here ≡ first → Hashed (digest first) old mid xs → Hashed (digest here) mid new (ys (digest here))
    → Hashed (digest first) old new (xs ++ ys (digest first))
hashed_then digest first here old mid new xs ys same a b = Hashed-then (digest first) old mid new xs (ys (digest first)) a (rw same at b)

pub stops_then : {H : Type 0}
    (digest : H → Message → Message) (first here : H) (old mid new xs : List Message)
    (ys : (Message → Message) → List Message) (e : TrailError)
    → here ≡ first → Hashed (digest first) old mid xs → Stops (digest here) mid new (ys (digest here)) e
    → Stops (digest first) old new (xs ++ ys (digest first)) e
stops_then digest first here old mid new xs ys e same a s = Stops-then (digest first) old mid new xs (ys (digest first)) e a (rw same at s)

-- ---- two calls that hash two lists each

module _ {H : Type 0} (digest : H → Message → Message) (first : H) (xs ys : List Message) where
  pub hashed_four : (here : H) (old mid new : List Message) (zs : (Message → Message) → List Message) → here ≡ first
      → Hashed (digest first) old mid (xs ++ ys) → Hashed (digest here) mid new (zs (digest here))
      → Hashed (digest first) old new (xs ++ (ys ++ zs (digest first)))
  hashed_four here old mid new zs same a b =
      subst (λ l. Hashed (digest first) old new l) (append_assoc xs ys (zs (digest first)))
      (hashed_then digest first here old mid new (xs ++ ys) zs same a b)

  pub stops_behind : (here : H) (old mid new : List Message) (zs : (Message → Message) → List Message) (e : TrailError) → here ≡ first
      → Hashed (digest first) old mid (xs ++ ys) → Stops (digest here) mid new (zs (digest here)) e
      → Stops (digest first) old new (xs ++ (ys ++ zs (digest first))) e
  stops_behind here old mid new zs e same a s =
      subst (λ l. Stops (digest first) old new l e) (append_assoc xs ys (zs (digest first)))
      (stops_then digest first here old mid new (xs ++ ys) zs e same a s)

  pub stops_before : (old new zs : List Message) (e : TrailError) → Stops (digest first) old new (xs ++ ys) e
      → Stops (digest first) old new (xs ++ (ys ++ zs)) e
  stops_before old new zs e s =
      subst (λ l. Stops (digest first) old new l e) (append_assoc xs ys zs)
      (Stops-first (digest first) old new (xs ++ ys) zs e s)
