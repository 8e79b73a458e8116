-- The transaction of a name is among those that a contract has.
use Rattle.std.proofs.Common.{◌≡◌, ℕ, List, [], ◌∷◌, map, Bool, true, false, Option, Some, None, refl, sym, ap, subst, ◌∙◌, inl, inr}
use Rattle.std.specs.Prelude.{if◌then◌else◌}
use Rattle.std.specs.Option.{option_map}
use Rattle.spec_terms.specs.Paths.{path_eq}
use Rattle.spec_terms.specs.PathSameness.{path_eq-Decides}
use Rattle.spec_terms.specs.declared.path.PathStep.{PathStep}
use Rattle.spec_compiler.specs.Keyed.Keys.{Keys}
use Rattle.spec_compiler.specs.Keyed.Instance.{Instance}
use Rattle.spec_compiler.specs.declared.prepared.Prepared.{Prepared}
use Rattle.spec_compiler.specs.declared.unsigned.Unsigned.{Unsigned}
use Rattle.spec_compiler.specs.Keyed.Transactions.{prepared}
use Rattle.spec_compiler.specs.Keyed.Compilation.{path_transactions}
use Rattle.spec_compiler.specs.Keyed.ByPath.{unsigned_at}
use Rattle.spec_tool.specs.declared.which.Which.{Which}
use Rattle.spec_tool.specs.declared.which.Which.TheVariants as names
use Rattle.spec_tool.specs.Keyed.Listed.{Listed, path_listed, listed, listed_at}
use Rattle.theory_calculus.specs.Members.{Is_in}
use Rattle.theory_script.specs.Keyed.Listed.{at_path}
use Rattle.theory_script.proofs.Keyed.Transactions.{AreRight, transactions_right, paths_are_listed}

-- ---- lists by path

-- the first entry of a path is right
right_at : {V : Type 0} (f : List PathStep → Option V) (path : List PathStep) (es : List (List PathStep × V)) (v : V) → AreRight f es
    → at_path path es ≡ Some v → f path ≡ Some v
right_at f path [] v right here = cc
right_at f path (e ∷ es) v right here = by_test (path_eq e.0 path) refl here (right_at f path es v right.1)
  where
    by_test : (b : Bool) → path_eq e.0 path ≡ b → (if b then Some (e.1) else at_path path es) ≡ Some v
        → (at_path path es ≡ Some v → f path ≡ Some v) → f path ≡ Some v
    by_test true same k later = sym (ap f ((path_eq-Decides e.0 path).0 same)) ∙ (right.0 ∙ k)
    by_test false same k later = later k

pub none_mapped : {A B : Type 0} (f : A → B) (o : Option A) → option_map f o ≡ None → o ≡ None
none_mapped f None e = refl
none_mapped f (Some a) e = cc

module _ (hash : List ℕ → List ℕ) (keys : Keys) (s : Instance) where
  at_prepared : (path : List PathStep) (es : List (List PathStep × Unsigned))
      → at_path path (map {B = List PathStep × Prepared} (λ e. (e.0, prepared hash e.1)) es) ≡ option_map (prepared hash) (at_path path es)
  at_prepared path [] = refl
  at_prepared path (e ∷ es) = by_test (path_eq e.0 path) (at_prepared path es)
    where
      by_test : (b : Bool)
          → at_path path (map {B = List PathStep × Prepared} (λ e. (e.0, prepared hash e.1)) es)
          ≡ option_map (prepared hash) (at_path path es)
          → (if b then Some (prepared hash e.1) else at_path path (map {B = List PathStep × Prepared} (λ e. (e.0, prepared hash e.1)) es))
          ≡ option_map (prepared hash) (if b then Some (e.1) else at_path path es)
      by_test true h = refl
      by_test false h = h

  -- the list has for each path its transaction
  pub listed_path : (path : List PathStep) → at_path path (path_transactions hash keys s) ≡ unsigned_at hash keys s path
  listed_path path = by_entry (at_path path (path_transactions hash keys s)) refl
    where
      by_entry : (o : Option Unsigned) → at_path path (path_transactions hash keys s) ≡ o → o ≡ unsigned_at hash keys s path
      by_entry (Some d) e =
          sym (right_at (unsigned_at hash keys s) path (path_transactions hash keys s) d (transactions_right hash keys s) e)
      by_entry None e =
          sym (none_mapped (prepared hash) (unsigned_at hash keys s path)
          (sym (paths_are_listed hash keys s path) ∙ (at_prepared path (path_transactions hash keys s) ∙ ap (option_map (prepared hash)) e)))

  some_same : {A : Type 0} {a b : A} → Some a ≡ Some b → a ≡ b
  some_same e = cc

  -- ---- among all

  in_paths : (path : List PathStep) (es : List (List PathStep × Unsigned)) (d : Unsigned) → at_path path es ≡ Some d
      → Is_in (path_listed s path d) (map (λ p. path_listed s (p.0) (p.1)) es)
  in_paths path [] d h = cc
  in_paths path (e ∷ es) d h = by_test (path_eq e.0 path) refl h (in_paths path es d)
    where
      by_test : (b : Bool) → path_eq e.0 path ≡ b → (if b then Some (e.1) else at_path path es) ≡ Some d
          → (at_path path es ≡ Some d → Is_in (path_listed s path d) (map (λ p. path_listed s (p.0) (p.1)) es))
          → Is_in (path_listed s path d) (path_listed s (e.0) (e.1) ∷ map (λ p. path_listed s (p.0) (p.1)) es)
      by_test true same k later =
          inl (λ i. path_listed s (sym ((path_eq-Decides e.0 path).0 same) i) (sym (some_same k) i))
      by_test false same k later = inr (later k)

  pub listed_in : (which : Which) (l : Listed) → listed_at hash keys s which ≡ Some l → Is_in l (listed hash keys s)
  listed_in names.Init l e = inl (sym (some_same e))
  listed_in (names.At path) l e = by_entry (unsigned_at hash keys s path) refl e
    where
      by_entry : (o : Option Unsigned) → unsigned_at hash keys s path ≡ o → option_map (path_listed s path) o ≡ Some l
          → Is_in l (listed hash keys s)
      by_entry None h k = cc
      by_entry (Some d) h k =
          inr (subst (λ (x : Listed). Is_in x (map (λ p. path_listed s (p.0) (p.1)) (path_transactions hash keys s))) (some_same k)
          (in_paths path (path_transactions hash keys s) d (listed_path path ∙ h)))
