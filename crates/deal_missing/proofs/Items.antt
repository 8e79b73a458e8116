-- The items of a witness as the end of a line.
use Rattle.std.proofs.Common.{◌≡◌, ℕ, List, [], ◌∷◌, ◌++◌, map, refl, sym, ap, ◌∙◌, append_assoc}
use Rattle.std.specs.Prelude.{codes}
use Rattle.std.specs.Fmt.{decimal}
use Rattle.spec_text.specs.RunText.{newline}
use Rattle.spec_tool.specs.Keyed.Listed.{which_text}
use Rattle.spec_deal.specs.DealText.{line_of, item_word, verb_text}
use Rattle.spec_deal.specs.Wallets.{signer_text}
use Rattle.deal_missing.specs.Required.{Required, items_line, items_text, required_text}

behind : (word : List ℕ) (items : List (List ℕ)) → line_of (word ∷ map item_word items) ≡ word ++ (items_text items ++ newline)
behind word [] = refl
behind word (item ∷ items) =
    ap (λ (text : List ℕ). word ++ (codes " " ++ text))
    (behind (item_word item) items ∙ sym (append_assoc (item_word item) (items_text items) newline))

-- four words with a space between each two, and a text behind them
four : (a b c d more : List ℕ)
    → a ++ (codes " " ++ (b ++ (codes " " ++ (c ++ (codes " " ++ (d ++ more))))))
    ≡ (a ++ (codes " " ++ (b ++ (codes " " ++ (c ++ (codes " " ++ d)))))) ++ more
four a b c d more =
    sym
    (append_assoc a (codes " " ++ (b ++ (codes " " ++ (c ++ (codes " " ++ d))))) more
    ∙ ap (λ (text : List ℕ). a ++ (codes " " ++ text))
    (append_assoc b (codes " " ++ (c ++ (codes " " ++ d))) more
    ∙ ap (λ (text : List ℕ). b ++ (codes " " ++ text)) (append_assoc c (codes " " ++ d) more)))

pub items_line_is : (w : Required) (items : List (List ℕ))
    → items_line w items ≡ codes "witness " ++ (required_text w ++ (items_text items ++ newline))
items_line_is w items =
    let which = which_text w.which in
    let number = decimal w.input in
    let signer = signer_text w.wallet w.signer.label in
    let verb = verb_text w.signer.verb in
    ap (λ (text : List ℕ). codes "witness " ++ (which ++ (codes " " ++ (number ++ (codes " " ++ (signer ++ (codes " " ++ text)))))))
    (behind verb items)
    ∙ ap (λ (text : List ℕ). codes "witness " ++ text) (four which number signer verb (items_text items ++ newline))
