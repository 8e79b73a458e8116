-- The line of what is missing, as it is put together.
use Rattle.std.proofs.Common.{◌≡◌, List, ℕ, [], ◌∷◌, ◌++◌, refl, sym, ap, ◌∙◌, append_assoc}
use Rattle.std.specs.Prelude.{codes}
use Rattle.std.specs.Fmt.{decimal}
use Rattle.spec_bitcoin.specs.Keys.{label_text}
use Rattle.spec_text.specs.RunText.{newline}
use Rattle.spec_tool.specs.Keyed.Listed.{which_text}
use Rattle.spec_deal.specs.DealText.{verb_text, line_of}
use Rattle.spec_deal.specs.Wallets.{wallet_text}
use Rattle.spec_chain.specs.declared.requirement.Requirement.{Requirement}
use Rattle.spec_chain.specs.declared.requirement.Requirement.TheVariants as requirements
use Rattle.spec_chain.specs.StateText.{requirement_line}
use Rattle.deal_state.specs.declared.signatures.Unverified.{Unverified}
use Rattle.deal_state.specs.Lines.{requirement_text, unverified_text}

abbrev space : List ℕ
space = codes " "

-- two words, then two more and the end of the line
four_words : (which input label verb : List ℕ) → ((which ++ (space ++ (input ++ space))) ++ (label ++ (space ++ verb))) ++ newline
    ≡ which ++ (space ++ (input ++ (space ++ (label ++ (space ++ (verb ++ newline))))))
four_words which input label verb =
    append_assoc (which ++ (space ++ (input ++ space))) (label ++ (space ++ verb)) newline
    ∙ (append_assoc which (space ++ (input ++ space)) ((label ++ (space ++ verb)) ++ newline)
    ∙ (ap (λ x. which ++ (space ++ x)) (append_assoc input space ((label ++ (space ++ verb)) ++ newline))
    ∙ ap (λ x. which ++ (space ++ (input ++ (space ++ x)))) (append_assoc label (space ++ verb) newline)))

pub requirement_is : (r : Requirement) → requirement_text r ++ newline ≡ requirement_line r
requirement_is (requirements.Height height) = refl
requirement_is (requirements.Signature which input label verb) =
    ap (λ x. codes "needs signature " ++ x) (four_words (which_text which) (decimal input) (label_text label) (verb_text verb))
requirement_is (requirements.Wallet which input deposit owner verb) =
    ap (λ x. codes "needs signature " ++ x) (four_words (which_text which) (decimal input) (wallet_text deposit) (verb_text verb))
requirement_is (requirements.Deposit name) = refl
requirement_is (requirements.Secret name party) =
    ap (λ x. codes "needs secret " ++ x) (append_assoc name (codes " of " ++ party) newline)
requirement_is requirements.DepositGone = refl
requirement_is requirements.PredicateFalse = refl

-- the line of a witness
pub unverified_is : (u : Unverified) → unverified_text u
    ≡ line_of (codes "unverified" ∷ which_text u.which ∷ decimal u.input ∷ wallet_text u.deposit ∷ verb_text u.verb ∷ [])
unverified_is u =
    ap
    (λ x. codes "unverified " ++ x)
    (sym (append_assoc (which_text u.which ++ (space ++ (decimal u.input ++ space))) (wallet_text u.deposit ++ (space ++ verb_text u.verb)) newline)
    ∙ four_words (which_text u.which) (decimal u.input) (wallet_text u.deposit) (verb_text u.verb))
