-- The stacks that meet a position, by their three groups.
use Rattle.std.proofs.Common.{◌≡◌, ℕ, zero, suc, ◌+◌, List, [], ◌∷◌, ◌++◌, length, map, Bool, true, false, Option, Some, None, refl, sym, ap, ◌∙◌, subst, arith}
use Rattle.std.specs.Prelude.{if◌then◌else◌, nat_lt, ◌&&◌, slice_get, replicate}
use Rattle.std.specs.Option.{option_map}
use Rattle.std.proofs.lemmas.Bool.{and_parts, and_from}
use Rattle.spec_bitcoin.specs.Effects.{Item, truth}
use Rattle.spec_terms.specs.Term.{Pred, always}
use Rattle.spec_terms.specs.Value.{holds}
use Rattle.spec_compiler.specs.Scripts.{Demands}
use Rattle.spec_compiler.specs.Witness.{selection}
use Rattle.spec_compiler.specs.Statements.{are_valid, is_secret, are_secrets, lengths_of, secret_lengths}
use Rattle.theory_script.proofs.Scripts.Demanded.{Unlocks}
use Rattle.theory_script.proofs.Scripts.Branches.{is_fitting, taken, all_signed, opens, meets}
use Rattle.theory_script.proofs.Scripts.Positions.{branch_meets, position_meets}

pub valid_is : (valid : Item → Item → Bool) (keys m : List Item) → all_signed valid keys m ≡ are_valid valid m keys
valid_is valid [] [] = refl
valid_is valid [] (x ∷ m) = refl
valid_is valid (key ∷ keys) [] = refl
valid_is valid (key ∷ keys) (x ∷ m) = ap (λ b. valid x key && b) (valid_is valid keys m)

-- secrets that fit are taken
taken_all : (hash : Item → Item) (digests secrets rest : List Item) → are_secrets hash secrets digests ≡ true
    → taken hash digests (secrets ++ rest) ≡ Some (map length secrets, rest)
taken_all hash [] [] rest h = refl
taken_all hash [] (x ∷ secrets) rest h = cc
taken_all hash (digest ∷ digests) [] rest h = cc
taken_all hash (digest ∷ digests) (x ∷ secrets) rest h =
    let p = and_parts (is_secret hash x digest) (are_secrets hash secrets digests) h in
    rw (p.0, taken_all hash digests secrets rest p.1)

-- and what is taken are secrets that fit
record AreTaken (hash : Item → Item) (digests m : List Item) (counts : List ℕ) (rest : List Item) : Type 0 where
  secrets : List Item
  parts : m ≡ secrets ++ rest
  fits : are_secrets hash secrets digests ≡ true
  are_counts : counts ≡ map length secrets

abbrev IfTaken : (Item → Item) → List Item → List Item → Option (List ℕ × List Item) → Type 0
IfTaken hash digests m None = Unit {0}
IfTaken hash digests m (Some p) = AreTaken hash digests m p.0 p.1

taken_one : (hash : Item → Item) (digest x : Item) (digests m : List Item) (b : Bool) (o : Option (List ℕ × List Item))
    → is_fitting hash digest x ≡ b → IfTaken hash digests m o
    → IfTaken hash (digest ∷ digests) (x ∷ m) (if b then option_map (λ (p : List ℕ × List Item). (length x ∷ p.0, p.1)) o else None)
taken_one hash digest x digests m true None h t = tt
taken_one hash digest x digests m true (Some p) h t =
    record {
      secrets = x ∷ t.secrets;
      parts = ap (λ xs. x ∷ xs) t.parts;
      fits = and_from (is_secret hash x digest) _ h
          t.fits;
      are_counts = ap (λ ns. length x ∷ ns) t.are_counts;
    }
taken_one hash digest x digests m false o h t = tt

if_taken : (hash : Item → Item) (digests m : List Item) → IfTaken hash digests m (taken hash digests m)
if_taken hash [] m = record { secrets = []; parts = refl; fits = refl; are_counts = refl }
if_taken hash (digest ∷ digests) [] = tt
if_taken hash (digest ∷ digests) (x ∷ m) = taken_one hash digest x digests m (is_fitting hash digest x) (taken hash digests m) refl (if_taken hash digests m)

-- ---- one branch

record UnlocksBranch (hash : Item → Item)
    (valid : Item → Item → Bool) (names : List (List ℕ)) (digests : List Item) (test : Pred) (keys m : List Item) : Type 0 where
  secrets : List Item
  signatures : List Item
  is_stack : m ≡ secrets ++ signatures
  fits : are_secrets hash secrets digests ≡ true
  predicate : holds (secret_lengths names secrets) test ≡ true
  signed : are_valid valid signatures keys ≡ true

opened : (hash : Item → Item) (valid : Item → Item → Bool) (names : List (List ℕ)) (digests : List Item) (test : Pred) (keys m : List Item)
    (o : Option (List ℕ × List Item)) → IfTaken hash digests m o → opens valid names test keys o ≡ true → UnlocksBranch hash valid names digests test keys m
opened hash valid names digests test keys m None t h = absurd (grind arith)
opened hash valid names digests test keys m (Some p) t h =
    let q = and_parts (holds (lengths_of names p.0) test) (all_signed valid keys p.1) h in
    record {
      secrets = t.secrets;
      signatures = p.1;
      is_stack = t.parts;
      fits = t.fits;
      predicate = subst (λ (ns : List ℕ). holds (lengths_of names ns) test ≡ true) t.are_counts q.0;
      signed = sym (valid_is valid keys p.1) ∙ q.1;
    }

branch_unlocked : (hash : Item → Item) (valid : Item → Item → Bool) (names : List (List ℕ)) (digests : List Item) (test : Pred)
    (keys m : List Item) → (length digests ≡ 0 → test ≡ always) → meets hash valid names digests test keys m ≡ true
    → UnlocksBranch hash valid names digests test keys m
branch_unlocked hash valid names [] test keys m none h =
    record {
      secrets = [];
      signatures = m;
      is_stack = refl;
      fits = refl;
      predicate = ap (λ (t : Pred). holds (secret_lengths names []) t)
          (none refl);
      signed = sym (valid_is valid keys m) ∙ h;
    }
branch_unlocked hash valid names (digest ∷ digests) test keys m none h =
    opened hash valid names (digest ∷ digests) test keys m (taken hash (digest ∷ digests) m) (if_taken hash (digest ∷ digests) m) h

branch_unlocks : (hash : Item → Item) (valid : Item → Item → Bool) (names : List (List ℕ)) (digests : List Item) (test : Pred)
    (keys secrets signatures : List Item) → are_secrets hash secrets digests ≡ true → holds (secret_lengths names secrets) test ≡ true
    → are_valid valid signatures keys ≡ true → meets hash valid names digests test keys (secrets ++ signatures) ≡ true
branch_unlocks hash valid names [] test keys [] signatures f p s = valid_is valid keys signatures ∙ s
branch_unlocks hash valid names [] test keys (x ∷ secrets) signatures f p s = cc
branch_unlocks hash valid names (digest ∷ digests) test keys secrets signatures f p s =
    rw (taken_all hash (digest ∷ digests) secrets signatures f)
    (and_from (holds (secret_lengths names secrets) test) (all_signed valid keys signatures) p (valid_is valid keys signatures ∙ s))

-- ---- a position

pub next_selection : (i n : ℕ) → selection (suc i) (suc n) ≡ false ∷ selection i n
next_selection i n = by_last (nat_lt (i + 1) n) (nat_lt (suc i + 1) (suc n)) (grind arith)
  where
    by_last : (a b : Bool) → b ≡ a → (if b then replicate (suc i) false ++ true ∷ [] else replicate (suc i) false) ≡ false
        ∷ (if a then replicate i false ++ true ∷ [] else replicate i false)
    by_last true true h = refl
    by_last true false h = cc
    by_last false true h = cc
    by_last false false h = refl

abbrev pub AllPlain : List Demands → Type 0
AllPlain [] = Unit {0}
AllPlain (b ∷ branches) = (length b.digests ≡ 0 → b.test ≡ always) × AllPlain branches

module _ (hash : Item → Item) (valid : Item → Item → Bool) where
  unlocks_first : (b : Demands) (branches : List Demands) (selectors m : List Item)
      → UnlocksBranch hash valid b.names b.digests b.test b.keys m → map truth selectors ≡ selection 0 (length (b ∷ branches))
      → Unlocks hash valid (b ∷ branches) (selectors ++ m)
  unlocks_first b branches selectors m u s =
      record {
        i = 0;
        b = b;
        selectors = selectors;
        secrets = u.secrets;
        signatures = u.signatures;
        is_branch = refl;
        is_stack = ap
            (λ xs. selectors ++ xs) u.is_stack;
        selects = s;
        fits = u.fits;
        predicate = u.predicate;
        signed = u.signed;
      }

  unlocks_next : (b : Demands) (branches : List Demands) (x : Item) (m : List Item) → truth x ≡ false → Unlocks hash valid branches m
      → Unlocks hash valid (b ∷ branches) (x ∷ m)
  unlocks_next b branches x m t u =
      record {
        i = suc u.i;
        b = u.b;
        selectors = x
            ∷ u.selectors;
        secrets = u.secrets;
        signatures = u.signatures;
        is_branch = u.is_branch;
        is_stack = ap (λ xs. x ∷ xs)
            u.is_stack;
        selects = (λ i. t i ∷ u.selects i)
            ∙ sym (next_selection u.i (length branches));
        fits = u.fits;
        predicate = u.predicate;
        signed = u.signed;
      }

  pub met_unlocks : (branches : List Demands) (m : List Item) → AllPlain branches → position_meets hash valid branches m ≡ true → Unlocks hash valid branches m
  met_unlocks [] m plain h = absurd (grind arith)
  met_unlocks (b ∷ []) m plain h = unlocks_first b [] [] m (branch_unlocked hash valid b.names b.digests b.test b.keys m plain.0 h) refl
  met_unlocks (b ∷ (next ∷ branches)) [] plain h = absurd (grind arith)
  met_unlocks (b ∷ (next ∷ branches)) (x ∷ m) plain h =
      by_truth (truth x) refl h (λ k. met_unlocks (next ∷ branches) m plain.1 k)
    where
      by_truth : (t : Bool) → truth x ≡ t → (if t then branch_meets hash valid b m else position_meets hash valid (next ∷ branches) m)
          ≡ true → (position_meets hash valid (next ∷ branches) m ≡ true → Unlocks hash valid (next ∷ branches) m)
          → Unlocks hash valid (b ∷ (next ∷ branches)) (x ∷ m)
      by_truth true e h ih =
          unlocks_first b (next ∷ branches) (x ∷ []) m (branch_unlocked hash valid b.names b.digests b.test b.keys m plain.0 h)
          (let y : nat_lt (0 + 1) (length (b ∷ (next ∷ branches))) ≡ true = grind arith in rw (y, e))
      by_truth false e h ih = unlocks_next b (next ∷ branches) x m e (ih h)

  same_branch : (b c : Demands) (m : List Item) → Some b ≡ Some c → branch_meets hash valid c m ≡ true → branch_meets hash valid b m ≡ true
  same_branch b c m e h = let f : c ≡ b = cc in rw f at h

  met : (branches : List Demands) (i : ℕ) (c : Demands) (selectors m : List Item) → slice_get branches i ≡ Some c → map truth selectors
      ≡ selection i (length branches) → branch_meets hash valid c m ≡ true → position_meets hash valid branches (selectors ++ m) ≡ true
  met [] i c selectors m at s h = cc
  met (b ∷ []) zero c [] m at s h = same_branch b c m at h
  met (b ∷ []) zero c (x ∷ selectors) m at s h = cc
  met (b ∷ []) (suc i) c selectors m at s h = cc
  met (b ∷ (next ∷ branches)) zero c selectors m at s h =
      let y : nat_lt (0 + 1) (length (b ∷ (next ∷ branches))) ≡ true = grind arith in
      by_first selectors (rw y at s)
    where
      by_first : (xs : List Item) → map truth xs ≡ true ∷ [] → position_meets hash valid (b ∷ (next ∷ branches)) (xs ++ m) ≡ true
      by_first [] e = cc
      by_first (x ∷ (y ∷ xs)) e = cc
      by_first (x ∷ []) e = let t : truth x ≡ true = cc in rw t (same_branch b c m at h)
  met (b ∷ (next ∷ branches)) (suc i) c selectors m at s h =
      by_next selectors (s ∙ next_selection i (length (next ∷ branches))) (λ xs e. met (next ∷ branches) i c xs m at e h)
    where
      by_next : (xs : List Item) → map truth xs ≡ false ∷ selection i (length (next ∷ branches))
          → ((ys : List Item) → map truth ys ≡ selection i (length (next ∷ branches))
          → position_meets hash valid (next ∷ branches) (ys ++ m) ≡ true) → position_meets hash valid (b ∷ (next ∷ branches)) (xs ++ m) ≡ true
      by_next [] e ih = cc
      by_next (x ∷ xs) e ih = let t : truth x ≡ false = cc in let r : map truth xs ≡ selection i (length (next ∷ branches)) = cc in rw t (ih xs r)

  pub unlocks_met : (branches : List Demands) (m : List Item) → Unlocks hash valid branches m → position_meets hash valid branches m ≡ true
  unlocks_met branches m u =
      rw (u.is_stack) (met branches u.i u.b u.selectors (u.secrets ++ u.signatures) u.is_branch u.selects
      (branch_unlocks hash valid u.b.names u.b.digests u.b.test u.b.keys u.secrets u.signatures u.fits u.predicate u.signed))
