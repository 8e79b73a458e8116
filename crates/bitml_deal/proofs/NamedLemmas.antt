-- The transaction of a name is the one that is defined.
use Rattle.std.proofs.Common.{◌≡◌, ℕ, List, [], ◌∷◌, map, Bool, true, false, Option, Some, None, refl, sym, ap, ◌∙◌, cond}
use Rattle.std.specs.Prelude.{if◌then◌else◌}
use Rattle.std.specs.List.{find}
use Rattle.std.specs.Option.{option_map}
use Rattle.spec_terms.specs.Paths.{path_eq}
use Rattle.spec_terms.specs.PathSameness.{path_eq-Decides}
use Rattle.spec_terms.specs.declared.path.PathStep.{PathStep}
use Rattle.spec_compiler.specs.Keyed.Keys.{Keys}
use Rattle.spec_compiler.specs.Keyed.Instance.{Instance}
use Rattle.spec_compiler.specs.declared.unsigned.Unsigned.{Unsigned}
use Rattle.spec_compiler.specs.Keyed.Compilation.{path_transactions}
use Rattle.spec_compiler.specs.Keyed.ByPath.{unsigned_at}
use Rattle.spec_tool.specs.declared.which.Which.{Which}
use Rattle.spec_tool.specs.declared.which.Which.TheVariants as names
use Rattle.spec_tool.specs.Commands.{Printed}
use Rattle.spec_tool.specs.Keyed.Listed.{Listed, path_listed, listed_at}
use Rattle.spec_deal.specs.declared.transaction.Transaction.{Transaction}
use Rattle.spec_deal.specs.Answers.{no_path, of_transaction, if_there}
use Rattle.spec_deal.specs.Transactions.{transaction, transactions}
use Rattle.theory_script.specs.Keyed.Listed.{at_path}
use Rattle.theory_deal.proofs.ByName.{none_mapped, listed_path}
use Rattle.bitml_deal.specs.Named.{is_named, named}

-- ---- lists by path

mapped_twice : {A B C : Type 0} (f : B → C) (g : A → B) (o : Option A) → option_map f (option_map g o) ≡ option_map (λ a. f (g a)) o
mapped_twice f g None = refl
mapped_twice f g (Some a) = refl

module _ (hash : List ℕ → List ℕ) (keys : Keys) (s : Instance) where
  -- ---- by name

  abbrev of_path : List PathStep → Unsigned → Transaction
  of_path path d = transaction hash keys s.advert (path_listed s path d)

  find_path : (path : List PathStep) (es : List (List PathStep × Unsigned))
      → find (is_named (names.At path)) (map (transaction hash keys s.advert) (map (λ p. path_listed s (p.0) (p.1)) es))
      ≡ option_map (of_path path) (at_path path es)
  find_path path [] = refl
  find_path path (e ∷ es) = by_test (path_eq e.0 path) refl (find_path path es)
    where
      by_test : (b : Bool) → path_eq e.0 path ≡ b
          → find (is_named (names.At path)) (map (transaction hash keys s.advert) (map (λ p. path_listed s (p.0) (p.1)) es))
          ≡ option_map (of_path path) (at_path path es)
          → cond b (Some (of_path e.0 e.1))
          (find (is_named (names.At path)) (map (transaction hash keys s.advert) (map (λ p. path_listed s (p.0) (p.1)) es)))
          ≡ option_map (of_path path) (if b then Some (e.1) else at_path path es)
      by_test true same h = ap (λ p. Some (of_path p e.1)) ((path_eq-Decides e.0 path).0 same)
      by_test false same h = h

  pub named_is : (which : Which)
      → named which (transactions hash keys s) ≡ option_map (transaction hash keys s.advert) (listed_at hash keys s which)
  named_is names.Init = refl
  named_is (names.At path) =
      find_path path (path_transactions hash keys s) ∙ ap (option_map (of_path path)) (listed_path hash keys s path)
      ∙ sym (mapped_twice (transaction hash keys s.advert) (path_listed s path) (unsigned_at hash keys s path))

  -- ---- what is answered

  -- the transaction that was found
  pub record There (which : Which) (t : Transaction) : Type 0 where
    pub l : Listed
    pub there : listed_at hash keys s which ≡ Some l
    pub again : listed_at hash keys s l.which ≡ Some l
    pub made : t ≡ transaction hash keys s.advert l

  some_same : {A : Type 0} {a b : A} → Some a ≡ Some b → a ≡ b
  some_same e = cc

  which_mapped : (path : List PathStep) (o : Option Unsigned) (l : Listed) → option_map (path_listed s path) o ≡ Some l
      → l.which ≡ names.At path
  which_mapped path None l e = cc
  which_mapped path (Some d) l e = ap (λ (x : Listed). x.which) (sym (some_same e))

  which_is : (which : Which) (l : Listed) → listed_at hash keys s which ≡ Some l → l.which ≡ which
  which_is names.Init l e = ap (λ (x : Listed). x.which) (sym (some_same e))
  which_is (names.At path) l e = which_mapped path (unsigned_at hash keys s path) l e

  pub found_there : (which : Which) (ts : List Transaction) (t : Transaction) → ts ≡ transactions hash keys s → Some t ≡ named which ts
      → There which t
  found_there which ts t same e =
      by_listed (listed_at hash keys s which) refl (e ∙ (ap (named which) same ∙ named_is which))
    where
      by_listed : (o : Option Listed) → listed_at hash keys s which ≡ o → Some t ≡ option_map (transaction hash keys s.advert) o
          → There which t
      by_listed None h k = cc
      by_listed (Some l) h k = record {
        l = l;
        there = h;
        again = ap (listed_at hash keys s) (which_is which l h) ∙ h;
        made = some_same k;
      }

  pub not_there : (which : Which) (ts : List Transaction) → ts ≡ transactions hash keys s → None ≡ named which ts
      → (answer : Keys → Instance → Listed → Printed) → of_transaction hash which answer keys s ≡ no_path which
  not_there which ts same e answer =
      ap (if_there (answer keys s) which)
      (none_mapped (transaction hash keys s.advert) (listed_at hash keys s which) (sym (e ∙ (ap (named which) same ∙ named_is which))))

  pub of_there : (which : Which) (t : Transaction) (x : There which t) (answer : Keys → Instance → Listed → Printed)
      → of_transaction hash which answer keys s ≡ answer keys s x.l
  of_there which t x answer = ap (if_there (answer keys s) which) x.there
