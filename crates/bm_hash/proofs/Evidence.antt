-- Where two messages of a list have one digest.
use Rattle.std.proofs.Common.{◌≡◌, ℕ, zero, suc, ◌+◌, ◌<◌, ◌⊎◌, inl, inr, ⊎_elim, List, [], ◌∷◌, ◌++◌, length, Bool, true, false, not, ◌&&◌, ◌||◌, cond, Option, Some, None, refl, sym, ap, ◌∙◌, ◌≢◌, subst, arith, append_assoc, append-nil, get_or}
use Rattle.std.specs.Prelude.{IsSome, IfSome, IfNone, slice_get}
use denote.Ref.{Bor}
use Rattle.std.specs.Option.{option_map, option_or, option_and_then}
use Rattle.std.specs.List.{find, Contains}
use Rattle.std.specs.Str.{bytes_eq}
use Rattle.std.proofs.lemmas.Slice.Eq.{bytes_eq-Decides}
use Rattle.std.proofs.lemmas.Bool.{false≢true}
use Rattle.std.proofs.lemmas.Option.{slice_get-get_or}
use Rattle.bm_hash.specs.Trails.{HaveApartDigests, IsCollision}
use Rattle.spec_data.specs.Lists.{is_among}
use Rattle.spec_data.specs.Messages.{collision_with}
use Rattle.bm_hash.specs.Messages.{Message, message_of, evidence_after, evidence_of, noted, place_of}

-- m stands in the list
abbrev pub Among : List Message → Message → Type 0
Among [] m = ⊥
Among (x ∷ xs) m = (x ≡ m) ⊎ Among xs m

pub among_left : (xs ys : List Message) (m : Message) → Among xs m → Among (xs ++ ys) m
among_left [] ys m h = absurd h
among_left (x ∷ xs) ys m h = ⊎_elim inl (λ t. inr (among_left xs ys m t)) h

pub among_push : (xs : List Message) (m : Message) → Among (xs ++ m ∷ []) m
among_push [] m = inl refl
among_push (x ∷ xs) m = inr (among_push xs m)

pub among_contains : (xs : List Message) (m : Message) → Contains xs m → Among xs m
among_contains [] m (k, lt, e) = absurd (omega arith)
among_contains (x ∷ xs) m (zero, lt, e) = inl e
among_contains (x ∷ xs) m (suc k, lt, e) = inr (among_contains xs m (k, omega arith, e))

pub find_among : (p : Message → Bool) (xs : List Message) (e : Message) → find p xs ≡ Some e → Among xs e × (p e ≡ true)
find_among p [] e h = cc
find_among p (x ∷ xs) e h =
    elim (p x) as (λ b. p x ≡ b → cond b (Some x) (find p xs) ≡ Some e → Among (x ∷ xs) e × (p e ≡ true)) [
      | true ↦ λ t s. let same : x ≡ e = cc in (inl same, ap p (sym same) ∙ t)
      | false ↦ λ t s. let r = find_among p xs e s in (inr r.0, r.1)
    ] refl h

pub none_at : (p : Message → Bool) (xs : List Message) (e : Message) → find p xs ≡ None → Among xs e → p e ≡ false
none_at p [] e h a = absurd a
none_at p (x ∷ xs) e h a =
    elim (p x) as (λ b. p x ≡ b → cond b (Some x) (find p xs) ≡ None → p e ≡ false) [
      | true ↦ λ t s. cc
      | false ↦ λ t s. ⊎_elim (λ same. ap p (sym same) ∙ t) (none_at p xs e s) a
    ] refl h

map_none : {A B : Type 0} (f : A → B) (o : Option A) → option_map f o ≡ None → o ≡ None
map_none f None h = refl
map_none f (Some x) h = cc

not_false : (b : Bool) → not b ≡ false → b ≡ true
not_false true h = refl
not_false false h = cc

collision_none : (hash : Message → Message) (before : List Message) (m e : Message) → collision_with hash before m ≡ None → Among before e
    → hash e ≡ hash m → e ≡ m
collision_none hash before m e h a same =
    let test : Message → Bool = λ x. bytes_eq (hash x) (hash m) && not (bytes_eq x m) in
    let none = map_none (λ x. (x, m)) (find test before) h in
    let at = none_at test before e none a in
    let digests : bytes_eq (hash e) (hash m) ≡ true = (bytes_eq-Decides (hash e) (hash m)).1 same in
    let rest : not (bytes_eq e m) ≡ false = rw digests at at in
    (bytes_eq-Decides e m).0 (not_false (bytes_eq e m) rest)

option_or_none : (o : Option (Message × Message)) → option_or o None ≡ o
option_or_none None = refl
option_or_none (Some x) = refl

option_or_assoc : (o p q : Option (Message × Message)) → option_or o (option_or p q) ≡ option_or (option_or o p) q
option_or_assoc None p q = refl
option_or_assoc (Some x) p q = refl

-- one more message
pub evidence_push : (hash : Message → Message) (before ms : List Message) (m : Message) → evidence_after hash before (ms ++ m ∷ [])
    ≡ option_or (evidence_after hash before ms) (collision_with hash (before ++ ms) m)
evidence_push hash before [] m = option_or_none (collision_with hash before m) ∙ ap (λ l. collision_with hash l m) (sym (append-nil before))
evidence_push hash before (x ∷ xs) m =
    ap (option_or (collision_with hash before x))
    (evidence_push hash (before ++ x ∷ []) xs m
    ∙ ap (λ l. option_or (evidence_after hash (before ++ x ∷ []) xs) (collision_with hash l m)) (append_assoc before (x ∷ []) xs))
    ∙ option_or_assoc (collision_with hash before x) (evidence_after hash (before ++ x ∷ []) xs) (collision_with hash (before ++ x ∷ xs) m)

pub both_none : (o p : Option (Message × Message)) → option_or o p ≡ None → (o ≡ None) × (p ≡ None)
both_none None p h = (refl, h)
both_none (Some x) p h = cc

-- where there is no collision, a message and one before it with its digest are the same
cross : (hash : Message → Message) (before ms : List Message) (a b : Message) → evidence_after hash before ms ≡ None → Among ms a
    → Among before b → hash b ≡ hash a → b ≡ a
cross hash before [] a b h am bm e = absurd am
cross hash before (m ∷ ms) a b h am bm e =
    let parts = both_none _ _ h in
    ⊎_elim
    (λ same. collision_none hash before m b parts.0 bm (e ∙ ap hash (sym same)) ∙ same)
    (λ t. cross hash (before ++ m ∷ []) ms a b parts.1 t (among_left before (m ∷ []) b bm) e)
    am

pub apart : (hash : Message → Message) (before ms : List Message) (a b : Message) → evidence_after hash before ms ≡ None → Among ms a
    → Among ms b → hash a ≡ hash b → a ≡ b
apart hash before [] a b h am bm e = absurd am
apart hash before (m ∷ ms) a b h am bm e =
    let parts = both_none _ _ h in
    ⊎_elim
    (λ is_a. ⊎_elim
    (λ is_b. sym is_a ∙ is_b)
    (λ later. cross hash (before ++ m ∷ []) ms b a parts.1 later (subst (Among (before ++ m ∷ [])) is_a (among_push before m)) e)
    bm)
    (λ later_a. ⊎_elim
    (λ is_b. sym (cross hash (before ++ m ∷ []) ms a b parts.1 later_a (subst (Among (before ++ m ∷ [])) is_b (among_push before m)) (sym e)))
    (λ later_b. apart hash (before ++ m ∷ []) ms a b parts.1 later_a later_b e)
    bm)
    am

-- ---- a message that is hashed

pub noted_among : (ms : List Message) (m : Message) → is_among m ms ≡ true → Among ms m
noted_among [] m h = cc
noted_among (x ∷ xs) m h =
    elim (bytes_eq x m) as (λ b. bytes_eq x m ≡ b → b || is_among m xs ≡ true → Among (x ∷ xs) m) [
      | true ↦ λ t s. inl ((bytes_eq-Decides x m).0 t)
      | false ↦ λ t s. inr (noted_among xs m s)
    ] refl h

pub among_noted : (ms : List Message) (m : Message) → Among ms m → is_among m ms ≡ true
among_noted [] m h = absurd h
among_noted (x ∷ xs) m h =
    elim (bytes_eq x m) as (λ b. bytes_eq x m ≡ b → b || is_among m xs ≡ true) [
      | true ↦ λ t. refl
      | false ↦ λ t. ⊎_elim (λ same. let holds = (bytes_eq-Decides x m).1 same in cc) (among_noted xs m) h
    ] refl

unnoted : (ms : List Message) (m : Message) → (Among ms m → ⊥) → is_among m ms ≡ false
unnoted ms m absent = elim (is_among m ms) as (λ b. is_among m ms ≡ b → b ≡ false) [ true ↦ λ t. absurd (absent (noted_among ms m t)) | false ↦ λ t. refl ] refl

-- a message with m's digest is the first with it
message_at : (hash : Message → Message) (ms : List Message) (m : Message) → message_of hash ms (hash m) ≡ None → Among ms m → ⊥
message_at hash ms m h a = let fails = none_at (λ x. bytes_eq (hash x) (hash m)) ms m h a in let holds = (bytes_eq-Decides (hash m) (hash m)).1 refl in cc

-- a stronger test fails where this one does, and finds the same where it passes there
find_and : (p q : Message → Bool) (xs : List Message) (e : Message) → find p xs ≡ Some e → q e ≡ true → find (λ x. p x && q x) xs ≡ Some e
find_and p q [] e h t = cc
find_and p q (x ∷ xs) e h t =
    elim (p x) as (λ b. p x ≡ b → cond b (Some x) (find p xs) ≡ Some e → cond (b && q x) (Some x) (find (λ x. p x && q x) xs) ≡ Some e) [
      | true ↦ λ u s. let same : x ≡ e = cc in let also : q x ≡ true = ap q same ∙ t in rw also s
      | false ↦ λ u s. find_and p q xs e s t
    ] refl h

find_and_none : (p q : Message → Bool) (xs : List Message) → find p xs ≡ None → find (λ x. p x && q x) xs ≡ None
find_and_none p q [] h = refl
find_and_none p q (x ∷ xs) h =
    elim (p x) as (λ b. cond b (Some x) (find p xs) ≡ None → cond (b && q x) (Some x) (find (λ x. p x && q x) xs) ≡ None) [
      | true ↦ λ s. cc
      | false ↦ λ s. find_and_none p q xs s
    ] h

-- the message is new, with a new digest
pub hash_fresh : (hash : Message → Message) (ms : List Message) (m : Message) → evidence_of hash ms ≡ None → message_of hash ms (hash m)
    ≡ None → (noted hash ms m ≡ ms ++ m ∷ []) × (evidence_of hash (ms ++ m ∷ []) ≡ None)
hash_fresh hash ms m h none =
    let new : is_among m ms ≡ false = unnoted ms m (message_at hash ms m none) in
    let apart : find (λ x. bytes_eq (hash x) (hash m) && not (bytes_eq x m)) ms ≡ None =
    find_and_none (λ x. bytes_eq (hash x) (hash m)) (λ x. not (bytes_eq x m)) ms none in
    (rw (h, new) refl, evidence_push hash [] ms m ∙ rw (h, apart) refl)

-- the message is there
pub hash_known : (hash : Message → Message) (ms : List Message) (m : Message) → evidence_of hash ms ≡ None → message_of hash ms (hash m)
    ≡ Some m → noted hash ms m ≡ ms
hash_known hash ms m h found =
    let there : is_among m ms ≡ true = among_noted ms m (find_among (λ x. bytes_eq (hash x) (hash m)) ms m found).0 in
    rw (h, there) refl

-- another message has its digest
pub hash_collision : (hash : Message → Message) (ms : List Message) (m e : Message) → evidence_of hash ms ≡ None
    → message_of hash ms (hash m) ≡ Some e → bytes_eq e m ≡ false → (noted hash ms m ≡ ms ++ m ∷ []) × (evidence_of hash (ms ++ m ∷ []) ≡ Some (e, m))
hash_collision hash ms m e h found other =
    let at = find_among (λ x. bytes_eq (hash x) (hash m)) ms e found in
    let digests : hash e ≡ hash m = (bytes_eq-Decides (hash e) (hash m)).0 at.1 in
    let new : is_among m ms ≡ false =
    unnoted ms m (λ there. let same = apart hash [] ms e m h at.0 there digests in let holds = (bytes_eq-Decides e m).1 same in cc) in
    let it : find (λ x. bytes_eq (hash x) (hash m) && not (bytes_eq x m)) ms ≡ Some e =
    find_and (λ x. bytes_eq (hash x) (hash m)) (λ x. not (bytes_eq x m)) ms e found (ap not other) in
    (rw (h, new) refl, evidence_push hash [] ms m ∙ rw (h, it) refl)

-- nothing is added after a collision
pub hash_after : (hash : Message → Message) (ms : List Message) (m : Message) → IsSome (evidence_of hash ms) → noted hash ms m ≡ ms
hash_after hash ms m h = rw h refl

-- ---- places

option_map_some : (o : Option ℕ) (n : ℕ) (b : Bool) → option_map (λ k. k + 1) (option_or o (cond b (Some n) None))
    ≡ option_or (option_map (λ k. k + 1) o) (cond b (Some (suc n)) None)
option_map_some None n true = let e : n + 1 ≡ suc n = omega arith in ap Some e
option_map_some None n false = refl
option_map_some (Some k) n b = refl

pub place_push : (hash : Message → Message) (ms : List Message) (m d : Message) → place_of hash (ms ++ m ∷ []) d
    ≡ option_or (place_of hash ms d) (cond (bytes_eq (hash m) d) (Some (length ms)) None)
place_push hash [] m d = refl
place_push hash (x ∷ xs) m d =
    elim (bytes_eq (hash x) d) as (λ b. cond b (Some 0) (option_map (λ k. k + 1) (place_of hash (xs ++ m ∷ []) d))
    ≡ option_or (cond b (Some 0) (option_map (λ k. k + 1) (place_of hash xs d))) (cond (bytes_eq (hash m) d) (Some (suc (length xs))) None)) [
      | true ↦ refl
      | false ↦ ap (option_map (λ k. k + 1)) (place_push hash xs m d) ∙ option_map_some (place_of hash xs d) (length xs) (bytes_eq (hash m) d)
    ]

get_next : (x : Message) (xs : List Message) (o : Option ℕ) → option_and_then (slice_get (x ∷ xs)) (option_map (λ k. k + 1) o)
    ≡ option_and_then (slice_get xs) o
get_next x xs None = refl
get_next x xs (Some k) = let e : k + 1 ≡ suc k = omega arith in ap (slice_get (x ∷ xs)) e

within_next : (o : Option ℕ) (n k : ℕ) → ((j : ℕ) → o ≡ Some j → j < n) → option_map (λ j. j + 1) o ≡ Some k → k < suc n
within_next None n k h e = cc
within_next (Some j) n k h e = let lt = h j refl in let same : j + 1 ≡ k = cc in omega arith

pub place_within : (hash : Message → Message) (ms : List Message) (d : Message) (k : ℕ) → place_of hash ms d ≡ Some k → k < length ms
place_within hash [] d k h = cc
place_within hash (x ∷ xs) d k h =
    elim (bytes_eq (hash x) d) as (λ b. cond b (Some 0) (option_map (λ j. j + 1) (place_of hash xs d)) ≡ Some k → k < suc (length xs)) [
      | true ↦ λ s. let same : 0 ≡ k = cc in omega arith
      | false ↦ λ s. within_next (place_of hash xs d) (length xs) k (place_within hash xs d) s
    ] h

-- the message at its place
pub get_place : (hash : Message → Message) (ms : List Message) (d : Message) → option_and_then (slice_get ms) (place_of hash ms d) ≡ message_of hash ms d
get_place hash [] d = refl
get_place hash (x ∷ xs) d =
    elim (bytes_eq (hash x) d) as (λ b. option_and_then (slice_get (x ∷ xs)) (cond b (Some 0) (option_map (λ k. k + 1) (place_of hash xs d)))
    ≡ cond b (Some x) (message_of hash xs d)) [
      | true ↦ refl
      | false ↦ get_next x xs (place_of hash xs d) ∙ get_place hash xs d
    ]

-- the place of a message with the digest is within the list, and the first such message stands there
pub place_at : (hash : Message → Message) (ms : List Message) (d : Message) (k : ℕ) → place_of hash ms d ≡ Some k → (k < length ms)
    × (message_of hash ms d ≡ Some (get_or ms k []))
place_at hash ms d k h =
    let found : slice_get ms k ≡ message_of hash ms d = ap (option_and_then (slice_get ms)) (sym h) ∙ get_place hash ms d in
    let lt = place_within hash ms d k h in
    (lt, sym found ∙ slice_get-get_or ms k [] lt)

pub contains_among : (xs : List Message) (m : Message) → Among xs m → Contains xs m
contains_among [] m h = absurd h
contains_among (x ∷ xs) m h = ⊎_elim (λ e. (0, omega arith, e)) (λ t. let r = contains_among xs m t in (suc r.0, (let lt = r.1 in omega arith), r.2)) h

pub have_apart : (hash : Message → Message) (ms : List Message) → evidence_of hash ms ≡ None → HaveApartDigests hash ms
have_apart hash ms h a b in_a in_b e = apart hash [] ms a b h (among_contains ms a in_a) (among_contains ms b in_b) e

first_of : (o p : Option (Message × Message)) (x : Message × Message) → option_or o p ≡ Some x → (o ≡ Some x) ⊎ (p ≡ Some x)
first_of None p x h = inr h
first_of (Some y) p x h = inl h

map_some : {A B : Type 0} (f : A → B) (o : Option A) (y : B) → option_map f o ≡ Some y → (x : A) × (o ≡ Some x) × (f x ≡ y)
map_some f None y h = cc
map_some f (Some x) y h = (x, refl, cc)

pub both_true : (a b : Bool) → a && not b ≡ true → (a ≡ true) × (b ≡ false)
both_true true true h = cc
both_true true false h = (refl, refl)
both_true false b h = cc

-- what an evidence shows
shown : (hash : Message → Message) (before ms : List Message) (a b : Message) → evidence_after hash before ms ≡ Some (a, b)
    → Among (before ++ ms) a × Among ms b × (a ≢ b) × (hash a ≡ hash b)
shown hash before [] a b h = cc
shown hash before (m ∷ ms) a b h = ⊎_elim
    (λ here.
    let f = map_some (λ e. (e, m)) _ (a, b) here in
    let t = find_among (λ x. bytes_eq (hash x) (hash m) && not (bytes_eq x m)) before f.0 f.1 in
    let is_a = ap (λ (q : Message × Message). q.0) f.2 in
    let is_b = ap (λ (q : Message × Message). q.1) f.2 in
    let p = both_true _ _ t.1 in (
      among_left before (m ∷ ms) a (subst (Among before) is_a t.0),
      inl is_b,
      λ same. let holds = (bytes_eq-Decides f.0 m).1 (is_a ∙ same ∙ sym is_b) in false≢true (sym p.1 ∙ holds),
      sym (ap hash is_a) ∙ (bytes_eq-Decides (hash f.0) (hash m)).0 p.0 ∙ ap hash is_b,
    ))
    (λ later.
    let r = shown hash (before ++ m ∷ []) ms a b later in
    (subst (λ l. Among l a) (append_assoc before (m ∷ []) ms) r.0, inr r.1, r.2, r.3))
    (first_of _ _ _ h)

pub shown_collision : (hash : Message → Message) (ms : List Message) (p : Message × Message) → evidence_of hash ms ≡ Some p → IsCollision hash ms p.0 p.1
shown_collision hash ms p h = let s = shown hash [] ms p.0 p.1 h in record {
  has_earlier = contains_among ms p.0 s.0;
  has_later = contains_among ms p.1 s.1;
  different = s.2;
  same_digest = s.3;
}

-- what the answer of `evidence` says
pub evidence_shows : (hash : Message → Message) (ms : List Message) (r : Option (Bor Message × Bor Message))
    → option_map (λ p. (p.0.now, p.1.now)) r ≡ evidence_of hash ms → IfSome r (λ p. IsCollision hash ms p.0.now p.1.now)
evidence_shows hash ms None h = tt
evidence_shows hash ms (Some p) h = shown_collision hash ms (p.0.now, p.1.now) (sym h)

pub no_evidence_shows : (hash : Message → Message) (ms : List Message) (r : Option (Bor Message × Bor Message))
    → option_map (λ p. (p.0.now, p.1.now)) r ≡ evidence_of hash ms → IfNone r (HaveApartDigests hash ms)
no_evidence_shows hash ms None h = have_apart hash ms (sym h)
no_evidence_shows hash ms (Some p) h = tt
