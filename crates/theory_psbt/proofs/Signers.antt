-- A contract's transaction has signers for each of its inputs, whatever the keys are.
use Rattle.std.proofs.Common.{◌≡◌, ℕ, suc, List, [], ◌∷◌, length, map, Option, Some, None, refl, sym, ap, subst, ◌∙◌}
use Rattle.std.specs.Prelude.{option_map, option_and_then}
use Rattle.std.specs.Option.{option_map_or}
use Rattle.spec_terms.specs.Core.{core, puts_of}
use Rattle.spec_terms.specs.Paths as paths
use Rattle.spec_terms.specs.Paths.{Subterm, as_branch, subterm_from}
use Rattle.spec_terms.specs.Precondition.{persistent}
use Rattle.spec_terms.specs.declared.path.PathStep.{PathStep}
use Rattle.spec_compiler.specs.Keyed.Keys.{Keys}
use Rattle.spec_compiler.specs.Keyed.Instance.{Instance}
use Rattle.spec_compiler.specs.Keyed.ByPath as by_path
use Rattle.spec_compiler.specs.Keyed.ByPath.{PathEnd, end_at, as_unsigned}
use Rattle.spec_compiler.specs.Keyed.Transactions.{branch_unsigned}
use Rattle.spec_tool.specs.declared.which.Which.TheVariants as names
use Rattle.spec_tool.specs.Keyed.Listed.{Listed, path_listed, path_signers, branch_signers}
use Rattle.theory_script.proofs.Keyed.Stands.{some_same, IfAgrees, agrees_at}
use Rattle.theory_psbt.specs.Keyed.Listed.{SignersForEach}

-- two maps of one list are as long
as_long : {X Y Z : Type 0} (f : X → Y) (g : X → Z) (xs : List X) → length (map f xs) ≡ length (map g xs)
as_long f g [] = refl
as_long f g (x ∷ xs) = ap suc (as_long f g xs)

abbrev HasSigners : Listed → Type 0
HasSigners l = length l.signers ≡ length l.pending.spends

module _ (hash : List ℕ → List ℕ) (keys : Keys) (instance : Instance) (path : List PathStep) where
  by_ends : (o : Option PathEnd) (q : Option Subterm) → subterm_from (paths.position instance.advert.root) path ≡ q
      → IfAgrees hash keys instance path o q → (l : Listed)
      → option_map (path_listed instance path) (option_and_then (as_unsigned hash keys instance) o) ≡ Some l → HasSigners l
  by_ends None q is agrees l e = cc
  by_ends (Some (by_path.at_position here choice)) q is agrees l e = cc
  by_ends (Some (by_path.at_branch here i d)) None is agrees l e = absurd agrees
  by_ends (Some (by_path.at_branch here i d)) (Some (paths.position c)) is agrees l e = absurd agrees
  by_ends (Some (by_path.at_branch here i d)) (Some (paths.at_branch b)) is agrees l e =
      let there : path_signers instance path ≡ branch_signers instance.contract instance.advert path b =
      ap (λ (x : Option Subterm). option_map_or (branch_signers instance.contract instance.advert path)
      (option_and_then as_branch x) []) is in
      let one : HasSigners (path_listed instance path (branch_unsigned hash keys instance here i d)) =
      ap (length {A = List _}) (there ∙ ap (branch_signers instance.contract instance.advert path) (sym agrees.1))
      ∙ ap suc (as_long _ _ (puts_of (core d))) in
      subst HasSigners (some_same e) one

pub signers_for_each : SignersForEach
signers_for_each hash keys instance names.Init l e =
    subst HasSigners (some_same e) (as_long _ _ (persistent instance.advert.pre))
signers_for_each hash keys instance (names.At path) l e =
    by_ends hash keys instance path (end_at hash keys instance path) (subterm_from (paths.position instance.advert.root) path) refl
    (agrees_at hash keys instance path) l e
