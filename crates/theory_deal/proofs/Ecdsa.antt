-- The program's verifier finds good exactly what ECDSA over secp256k1 does.
use Rattle.std.proofs.Common.{◌≡◌, ℕ, List, true, false, Option, Some, None, refl, sym, ap, ◌∙◌}
use Rattle.std.specs.Prelude.{is_some}
use Rattle.spec_curve.specs.Key.{number_of, point}
use Rattle.spec_curve.specs.Point.{Point}
use Rattle.spec_curve.specs.Signature.{Numbers, numbers_of, sign, is_signature}
use Rattle.theory_deal.specs.Ecdsa.{SignsUnder, IsEcdsa}

as_some : (o : Option Point) → elim o [ Some q ↦ true | None ↦ false ] ≡ is_some o
as_some None = refl
as_some (Some q) = refl

good_signs : (key digest signature : List ℕ) (o : Option Point) (n : Option Numbers) → point key ≡ o → numbers_of signature ≡ n
    → sign o (number_of digest) n ≡ true → SignsUnder key digest signature
good_signs key digest signature (Some q) (Some m) e f h = record { q = q; m = m; is_point = e; is_spelled = f; is_good = h }
good_signs key digest signature (Some q) None e f h = cc
good_signs key digest signature None n e f h = cc

pub is_ecdsa : IsEcdsa
unfolding is_signature
is_ecdsa = record {
  points = λ key. (λ h. sym (as_some (point key)) ∙ h, λ h. as_some (point key) ∙ h);
  signatures = λ key digest signature. (
    λ h. good_signs key digest signature (point key) (numbers_of signature) refl refl h,
    λ x.
        ap (λ (o : Option Point). sign o (number_of digest) (numbers_of signature)) x.is_point
        ∙ (ap (λ (n : Option Numbers). sign (Some x.q) (number_of digest) n) x.is_spelled ∙ x.is_good),
  );
}
