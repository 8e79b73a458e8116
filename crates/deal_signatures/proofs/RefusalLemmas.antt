-- The line that refuses a file of signatures, put together word by word.
use Rattle.std.proofs.Common.{◌≡◌, ℕ, List, ◌++◌, refl, ap, ◌∙◌, append_assoc}
use Rattle.std.specs.Prelude.{codes, OnOk, Result, Ok, Err}
use Rattle.std.specs.Fmt.{decimal}
use Rattle.spec_text.specs.RunText.{newline}
use Rattle.spec_deal.specs.declared.fault.SignatureReason.{SignatureReason}
use Rattle.spec_deal.specs.declared.fault.SignatureReason.TheVariants as reasons
use Rattle.spec_deal.specs.declared.fault.SignatureFault.{SignatureFault}
use Rattle.spec_deal.specs.declared.fault.SignatureFault.TheVariants as faults
use Rattle.spec_deal.specs.RefusedText.{signatures_refused_line}
use Rattle.deal_signatures.specs.Refusals.{at_input, refused_text}

-- three texts one behind another
pub three : {T E : Type 0} (r : Result T E) (out old x y a b c : List ℕ) → OnOk r (out ≡ y ++ c) → y ≡ x ++ b → x ≡ old ++ a
    → OnOk r (out ≡ old ++ (a ++ (b ++ c)))
three (Ok t) out old x y a b c h e f =
    h ∙ (ap (λ z. z ++ c) (e ∙ (ap (λ z. z ++ b) f ∙ append_assoc old a b))
    ∙ (append_assoc old (a ++ b) c ∙ ap (λ z. old ++ z) (append_assoc a b c)))
three (Err error) out old x y a b c h e f = tt

ends : (n : ℕ) (reason : List ℕ)
    → codes "signatures refused " ++ ((codes "line " ++ (decimal n ++ (codes " " ++ reason))) ++ newline)
    ≡ codes "signatures refused line " ++ (decimal n ++ (codes " " ++ (reason ++ newline)))
ends n reason = ap (λ text. codes "signatures refused line " ++ text) (append_assoc (decimal n) (codes " " ++ reason) newline)

by_reason : (n : ℕ) (reason : SignatureReason) → refused_text (faults.Line n reason) ≡ signatures_refused_line (faults.Line n reason)
by_reason n reasons.Base64 = ends n (codes "base64")
by_reason n reasons.Form = ends n (codes "form")
by_reason n reasons.Foreign = ends n (codes "foreign")
by_reason n (reasons.Spent k) = ends n (at_input (codes "spent") k)
by_reason n (reasons.Script k) = ends n (at_input (codes "script") k)
by_reason n (reasons.Witness k) = ends n (at_input (codes "witness") k)
by_reason n (reasons.Key k) = ends n (at_input (codes "key") k)
by_reason n (reasons.Signature k) = ends n (at_input (codes "signature") k)
by_reason n (reasons.Invalid k) = ends n (at_input (codes "invalid") k)
by_reason n (reasons.Conflict k) = ends n (at_input (codes "conflict") k)

pub line_is : (fault : SignatureFault) → refused_text fault ≡ signatures_refused_line fault
line_is faults.Size = refl
line_is (faults.Line n reason) = by_reason n reason
