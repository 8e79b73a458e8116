-- The list of a contract's compiled transactions has each name that there is, with its transaction.
use Rattle.std.proofs.Common.{◌≡◌, ℕ, List, [], ◌∷◌, map, Bool, true, false, Option, Some, None, refl, sym, ap, ◌∙◌, subst, inl, inr}
use Rattle.std.specs.Prelude.{if◌then◌else◌}
use Rattle.std.specs.Option.{option_map}
use Rattle.spec_terms.specs.Paths.{path_eq}
use Rattle.spec_terms.specs.PathSameness.{path_eq-Decides}
use Rattle.spec_terms.specs.declared.path.PathStep.{PathStep}
use Rattle.spec_compiler.specs.Instance.{Instance}
use Rattle.spec_compiler.specs.declared.unsigned.Unsigned.{Unsigned}
use Rattle.spec_compiler.specs.declared.prepared.Prepared.{Prepared}
use Rattle.spec_compiler.specs.Transactions.{prepared}
use Rattle.spec_compiler.specs.Compilation.{path_transactions}
use Rattle.spec_compiler.specs.ByPath.{unsigned_at}
use Rattle.spec_run.specs.Setup.{Setup}
use Rattle.spec_run.specs.World.{World}
use Rattle.spec_run.specs.Compiled.{compiled_instance}
use Rattle.spec_tool.specs.declared.which.Which.{Which}
use Rattle.spec_tool.specs.declared.which.Which.TheVariants as names
use Rattle.spec_tool.specs.Listed.{Listed, initial_listed, path_listed, listed, listed_at, same_which}
use Rattle.spec_tool.specs.Audit.{listed_by, listed_in}
use Rattle.theory_calculus.specs.Members.{Is_in}
use Rattle.theory_script.specs.Listed.{at_path}
use Rattle.theory_script.proofs.Listing.Stands.{some_same}
use Rattle.theory_script.proofs.Listing.Transactions.{AreRight, transactions_right, paths_are_listed}
use Rattle.theory_world.proofs.Contracts.Endorsed.{in_map}
use Rattle.theory_run.proofs.Accepted.Unmade.{in_images}
use Rattle.theory_audit.specs.Audited.{IsCompiled}

-- ---- names

pub which-true : (a b : Which) → same_which a b ≡ true → a ≡ b
which-true names.Init names.Init h = refl
which-true names.Init (names.At path) h = cc
which-true (names.At path) names.Init h = cc
which-true (names.At path) (names.At other) h = ap names.At ((path_eq-Decides path other).0 h)

pub which_refl : (a : Which) → same_which a a ≡ true
which_refl names.Init = refl
which_refl (names.At path) = (path_eq-Decides path path).1 refl

-- ---- the list by path

-- what stands for a path stands in the list
entry_there : (hash : List ℕ → List ℕ) (path : List PathStep) (es : List (List PathStep × Unsigned)) (v : Prepared)
    → at_path path (map {B = List PathStep × Prepared} (λ e. (e.0, prepared hash e.1)) es) ≡ Some v
    → (d : Unsigned) × Is_in {A = List PathStep × Unsigned} (path, d) es
entry_there hash path [] v h = cc
entry_there hash path (e ∷ es) v h = by_test (path_eq e.0 path) refl h (entry_there hash path es v)
  where
    by_test : (b : Bool) → path_eq e.0 path ≡ b
        → (if b then Some (prepared hash e.1) else at_path path
        (map {B = List PathStep × Prepared} (λ e'. (e'.0, prepared hash e'.1)) es)) ≡ Some v
        → (at_path path (map {B = List PathStep × Prepared} (λ e'. (e'.0, prepared hash e'.1)) es) ≡ Some v
        → (d : Unsigned) × Is_in {A = List PathStep × Unsigned} (path, d) es)
        → (d : Unsigned) × Is_in {A = List PathStep × Unsigned} (path, d) (e ∷ es)
    by_test true is k later = (e.1, inl (λ i. (sym ((path_eq-Decides e.0 path).0 is) i, e.1)))
    by_test false is k later = let r = later k in (r.0, inr r.1)

-- what stands in the list is right
entry_right : (f : List PathStep → Option Unsigned) (es : List (List PathStep × Unsigned)) (e : List PathStep × Unsigned) → AreRight f es
    → Is_in e es → f e.0 ≡ Some (e.1)
entry_right f [] e h i = absurd i
entry_right f (x ∷ es) e h (inl q) = subst (λ (y : List PathStep × Unsigned). f y.0 ≡ Some (y.1)) (sym q) h.0
entry_right f (x ∷ es) e h (inr i) = entry_right f es e h.1 i

module _ (hash : List ℕ → List ℕ) (instance : Instance) where
  abbrev entries : List (List PathStep × Unsigned)
  entries = path_transactions hash instance

  path_there : (path : List PathStep) (d : Unsigned) → unsigned_at hash instance path ≡ Some d
      → Is_in {A = List PathStep × Unsigned} (path, d) entries
  path_there path d h =
      let v = prepared hash d in
      let e = entry_there hash path entries v (paths_are_listed hash instance path ∙ ap (option_map (prepared hash)) h) in
      let same : e.0 ≡ d = some_same
      (sym (entry_right (unsigned_at hash instance) entries (path, e.0) (transactions_right hash instance) e.1) ∙ h) in
      subst (λ x. Is_in {A = List PathStep × Unsigned} (path, x) entries) same e.1

  abbrev listed_entry : List PathStep × Unsigned → Listed
  listed_entry p = path_listed instance (p.0) (p.1)

  -- the one of a name
  path_listed_there : (path : List PathStep) (o : Option Unsigned) (l : Listed) → unsigned_at hash instance path ≡ o
      → option_map (path_listed instance path) o ≡ Some l → Is_in l (listed hash instance) × (l.which ≡ names.At path)
  path_listed_there path None l e h = cc
  path_listed_there path (Some d) l e h =
      let q : path_listed instance path d ≡ l = some_same h in (
        inr (subst (λ x. Is_in x (map listed_entry entries)) q (in_images listed_entry entries (path, d) (path_there path d e))),
        ap (λ (x : Listed). x.which) (sym q),
      )

  pub named_there : (which : Which) (l : Listed) → listed_at hash instance which ≡ Some l
      → Is_in l (listed hash instance) × (l.which ≡ which)
  named_there names.Init l h = let q : initial_listed hash instance ≡ l = some_same h in (inl (sym q), ap (λ (x : Listed). x.which) (sym q))
  named_there (names.At path) l h = path_listed_there path (unsigned_at hash instance path) l refl h

  -- and each of the list is the one of its name
  pub there_named : (l : Listed) → Is_in l (listed hash instance) → listed_at hash instance l.which ≡ Some l
  there_named l (inl q) = subst (λ x. listed_at hash instance x.which ≡ Some x) (sym q) refl
  there_named l (inr i) =
      let m = in_map listed_entry entries l i in
      let e = entry_right (unsigned_at hash instance) entries m.0 (transactions_right hash instance) m.1 in
      subst (λ x. listed_at hash instance x.which ≡ Some x) (sym m.2) (ap (option_map (path_listed instance (m.0.0))) e)

-- ---- in a world

pub compiled_there : (s : Setup) (w : World) (k : ℕ) (which : Which) (l : Listed) → IsCompiled s w k which l
    → Is_in l (listed_in s w k) × (l.which ≡ which)
compiled_there s w k which l c =
    let h = named_there s.hash c.instance which l c.named in
    (subst (λ o. Is_in l (listed_by s o)) (sym c.compiled) h.0, h.1)

there_compiled_by : (s : Setup) (w : World) (k : ℕ) (l : Listed) (o : Option Instance) → compiled_instance s w k ≡ o
    → Is_in l (listed_by s o) → IsCompiled s w k l.which l
there_compiled_by s w k l None e i = absurd i
there_compiled_by s w k l (Some instance) e i = record { instance = instance; compiled = e; named = there_named s.hash instance l i }

pub there_compiled : (s : Setup) (w : World) (k : ℕ) (l : Listed) → Is_in l (listed_in s w k) → IsCompiled s w k l.which l
there_compiled s w k l i = there_compiled_by s w k l (compiled_instance s w k) refl i
