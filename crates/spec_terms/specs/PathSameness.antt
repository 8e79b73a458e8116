-- That the tests for same steps and same paths decide equality.
use Rattle.std.specs.Prelude.{◌≡◌, List, refl}
use Rattle.std.specs.Bool.{Decides}
use Rattle.std.proofs.Common.{ap}
use Rattle.std.proofs.lemmas.Bool.Decides.{Decides-eqb}
use Rattle.std.proofs.lemmas.Slice.Eq.{slice_eq-Decides}
use Rattle.spec_terms.specs.Paths.{step_eq, path_eq}
use Rattle.spec_terms.specs.declared.path.PathStep.{PathStep}
use Rattle.spec_terms.specs.declared.path.PathStep.TheVariants.{Branch as To, Part as Into}

pub step_eq-Decides : (a b : PathStep) → Decides (step_eq a b) (a ≡ b)
step_eq-Decides (To i) (To j) = let d = Decides-eqb i j in (λ h. ap To (d.0 h), λ e. d.1 (cc))
step_eq-Decides (Into i) (Into j) = let d = Decides-eqb i j in (λ h. ap Into (d.0 h), λ e. d.1 (cc))
step_eq-Decides (To i) (Into j) = (λ h. cc, λ e. cc)
step_eq-Decides (Into i) (To j) = (λ h. cc, λ e. cc)

pub path_eq-Decides : (a b : List PathStep) → Decides (path_eq a b) (a ≡ b)
path_eq-Decides a b = slice_eq-Decides step_eq-Decides a b (path_eq a b) refl
