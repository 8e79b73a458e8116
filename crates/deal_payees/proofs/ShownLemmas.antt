-- An output as it is shown is the words of its script.
use Rattle.std.proofs.Common.{◌≡◌, ℕ, List, [], ◌∷◌, ◌++◌, Option, Some, None, sym, ap, append_assoc, append-nil}
use Rattle.std.specs.Option.{option_map_or}
use Rattle.spec_data.specs.Digits.{hex_text}
use Rattle.spec_address.specs.Address.{address}
use Rattle.spec_deal.specs.DealText.{line_of, script_words}
use Rattle.deal_payees.specs.Shown.{behind_space, output_text}

with_address : (word : List ℕ) (found : Option (List ℕ))
    → line_of (word ∷ option_map_or (λ text. text ∷ []) found []) ≡ (word ++ behind_space found) ++ 10 ∷ []
with_address word None = ap (λ (w : List ℕ). w ++ 10 ∷ []) (sym (append-nil word))
with_address word (Some text) = sym (append_assoc word (32 ∷ text) (10 ∷ []))

pub output_line : (network : Option (List ℕ)) (script : List ℕ) → line_of (script_words network script) ≡ output_text network script ++ 10 ∷ []
output_line None script = with_address (hex_text script) None
output_line (Some hrp) script = with_address (hex_text script) (address hrp script)
