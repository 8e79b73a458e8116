-- The line that refuses a file of secrets is the defined one.
use Rattle.std.proofs.Common.{◌≡◌, ℕ, List, ◌++◌, refl, sym, ap, append_assoc}
use Rattle.std.specs.Prelude.{codes}
use Rattle.std.specs.Fmt.{decimal}
use Rattle.spec_text.specs.RunText.{newline}
use Rattle.spec_deal.specs.declared.fault.SecretReason.TheVariants as reasons
use Rattle.spec_deal.specs.declared.fault.SecretFault.{SecretFault}
use Rattle.spec_deal.specs.declared.fault.SecretFault.TheVariants as faults
use Rattle.spec_deal.specs.RefusedText.{secrets_refused_line}
use Rattle.deal_secrets.specs.Refusals.{refused_line}

-- `line` and its number before a reason
at_number : (n : ℕ) (reason : List ℕ)
    → codes "line " ++ (decimal n ++ (codes " " ++ (reason ++ newline))) ≡ (codes "line " ++ (decimal n ++ (codes " " ++ reason))) ++ newline
at_number n reason = ap (λ (x : List ℕ). codes "line " ++ x) (sym (append_assoc (decimal n) (codes " " ++ reason) newline))

pub line_is : (fault : SecretFault) → refused_line fault ≡ secrets_refused_line fault
line_is faults.Size = refl
line_is (faults.Line n reasons.Form) = ap (λ (x : List ℕ). codes "secrets refused " ++ x) (sym (at_number n (codes "form")))
line_is (faults.Line n reasons.Foreign) = ap (λ (x : List ℕ). codes "secrets refused " ++ x) (sym (at_number n (codes "foreign")))
line_is (faults.Line n reasons.Value) = ap (λ (x : List ℕ). codes "secrets refused " ++ x) (sym (at_number n (codes "value")))
line_is (faults.Line n (reasons.Repeated m)) =
    ap (λ (x : List ℕ). codes "secrets refused " ++ x)
    (sym (at_number n (codes "repeated " ++ decimal m)))
line_is (faults.Line n reasons.Length) = ap (λ (x : List ℕ). codes "secrets refused " ++ x) (sym (at_number n (codes "length")))
line_is (faults.Line n reasons.Hash) = ap (λ (x : List ℕ). codes "secrets refused " ++ x) (sym (at_number n (codes "hash")))
