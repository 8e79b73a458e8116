-- The line that refuses a chain file, put together word by word.
use Rattle.std.proofs.Common.{◌≡◌, ℕ, List, ◌++◌, refl, ap, ◌∙◌, append_assoc}
use Rattle.std.specs.Prelude.{codes, OnOk, Result, Ok, Err}
use Rattle.std.specs.Fmt.{decimal}
use Rattle.spec_text.specs.RunText.{newline}
use Rattle.spec_chain.specs.declared.fault.ChainReason.{ChainReason}
use Rattle.spec_chain.specs.declared.fault.ChainReason.TheVariants as reasons
use Rattle.spec_chain.specs.declared.fault.ChainFault.{ChainFault}
use Rattle.spec_chain.specs.declared.fault.ChainFault.TheVariants as faults
use Rattle.spec_chain.specs.RefusedText.{chain_refused_line}
use Rattle.deal_chain.specs.Refusals.{at_input, refused_text}

-- three texts one behind another
pub three : {T E : Type 0} (r : Result T E) (out old x y a b c : List ℕ) → OnOk r (out ≡ y ++ c) → y ≡ x ++ b → x ≡ old ++ a
    → OnOk r (out ≡ old ++ (a ++ (b ++ c)))
three (Ok t) out old x y a b c h e f =
    h ∙ (ap (λ z. z ++ c) (e ∙ (ap (λ z. z ++ b) f ∙ append_assoc old a b))
    ∙ (append_assoc old (a ++ b) c ∙ ap (λ z. old ++ z) (append_assoc a b c)))
three (Err error) out old x y a b c h e f = tt

ends : (n : ℕ) (reason : List ℕ)
    → codes "chain refused " ++ ((codes "line " ++ (decimal n ++ (codes " " ++ reason))) ++ newline)
    ≡ codes "chain refused line " ++ (decimal n ++ (codes " " ++ (reason ++ newline)))
ends n reason = ap (λ text. codes "chain refused line " ++ text) (append_assoc (decimal n) (codes " " ++ reason) newline)

by_reason : (n : ℕ) (reason : ChainReason) → refused_text (faults.Line n reason) ≡ chain_refused_line (faults.Line n reason)
by_reason n reasons.Form = ends n (codes "form")
by_reason n reasons.Height = ends n (codes "height")
by_reason n reasons.Tx = ends n (codes "tx")
by_reason n (reasons.Input k) = ends n (at_input (codes "input") k)
by_reason n (reasons.Foreign k) = ends n (at_input (codes "foreign") k)
by_reason n reasons.Lock = ends n (codes "lock")
by_reason n (reasons.Witness k) = ends n (at_input (codes "witness") k)
by_reason n reasons.Branch = ends n (codes "branch")

pub line_is : (fault : ChainFault) → refused_text fault ≡ chain_refused_line fault
line_is faults.Size = refl
line_is (faults.Line n reason) = by_reason n reason
