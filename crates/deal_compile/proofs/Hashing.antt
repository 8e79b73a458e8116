-- A script that is found has the hash that is kept with it.
use Rattle.std.proofs.Common.{◌≡◌, ℕ, List, [], ◌∷◌, ◌++◌, Bool, true, false, Option, Some, None, Result, Ok, Err, OnOk, refl, ap, ◌∙◌}
use Rattle.std.specs.List.{find}
use Rattle.std.specs.Prelude.{if◌then◌else◌}
use Rattle.std.specs.Str.{bytes_eq}
use Rattle.std.proofs.lemmas.Bool.{and_parts, and_from}
use Rattle.std.proofs.lemmas.List.Folds.{list_all-append}
use Rattle.std.proofs.lemmas.Slice.Eq.{bytes_eq-Decides}
use Rattle.deal_compile.specs.declared.programs.Program.{Program}
use Rattle.deal_compile.specs.Programs.{are_hashed}

module _ (hash : List ℕ → List ℕ) where
  -- the hash that was found, or else this one
  abbrev pub hash_or : Option Program → List ℕ → List ℕ
  hash_or None other = other
  hash_or (Some p) other = p.hash

  by_test : (t : Bool) (p : Program) (rest : Option Program) (script : List ℕ) → bytes_eq p.script script ≡ t → bytes_eq p.hash (hash p.script) ≡ true
      → hash_or rest (hash script) ≡ hash script → hash_or (if t then Some p else rest) (hash script) ≡ hash script
  by_test true p rest script same own other = (bytes_eq-Decides p.hash (hash p.script)).0 own ∙ ap hash ((bytes_eq-Decides p.script script).0 same)
  by_test false p rest script same own other = other

  pub found_hash : (ps : List Program) (script : List ℕ) → are_hashed hash ps ≡ true
      → hash_or (find (λ p. bytes_eq p.script script) ps) (hash script) ≡ hash script
  found_hash [] script h = refl
  found_hash (p ∷ ps) script h =
      let parts = and_parts (bytes_eq p.hash (hash p.script)) (are_hashed hash ps) h in
      by_test (bytes_eq p.script script) p (find (λ p. bytes_eq p.script script) ps) script refl parts.0 (found_hash ps script parts.1)

  pub hashed_push : (ps more : List Program) (p : Program) → are_hashed hash ps ≡ true → more ≡ ps ++ p ∷ [] → p.hash ≡ hash p.script
      → are_hashed hash more ≡ true
  hashed_push ps more p all grown own =
      ap (are_hashed hash) grown ∙ list_all-append (λ (p : Program). bytes_eq p.hash (hash p.script)) ps (p ∷ [])
      ∙ and_from (are_hashed hash ps) (are_hashed hash (p ∷ [])) all
      (and_from (bytes_eq p.hash (hash p.script)) true ((bytes_eq-Decides p.hash (hash p.script)).1 own) refl)

  pub hashed_push_ok : {U E : Type 0} (r : Result U E) (ps more : List Program) (p : Program) → are_hashed hash ps ≡ true → p.hash ≡ hash p.script
      → OnOk r (more ≡ ps ++ p ∷ []) → OnOk r (are_hashed hash more ≡ true)
  hashed_push_ok (Ok done) ps more p all own grown = hashed_push ps more p all grown own
  hashed_push_ok (Err e) ps more p all own grown = grown
