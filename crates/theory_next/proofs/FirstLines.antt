-- Filled in, the first lines of a run are the text of the run that begins the contract.
use Rattle.std.proofs.Common.{◌≡◌, ℕ, List, [], ◌∷◌, ◌++◌, map, refl, sym, ap, ◌∙◌, append_assoc}
use Rattle.std.specs.Prelude.{flat_map, codes}
use Rattle.spec_data.specs.Digits.{hex_text}
use Rattle.spec_terms.specs.Parties.{participants}
use Rattle.spec_terms.specs.Precondition.{deposits, secrets}
use Rattle.spec_text.specs.RunText.{newline, event_text, party_text, honest_text, secret_text, deposit_text}
use Rattle.spec_next.specs.FirstLines.{held, owned, first_events, secret_line, secret_lines, begin_text}
use Rattle.theory_next.specs.FirstLines.{FirstLinesAreARun}

secrets_filled : (xs : List (List ℕ × List ℕ)) (strings : List (List ℕ))
    → secret_lines xs (map hex_text strings) ≡ flat_map secret_text (held xs strings)
secrets_filled [] strings = refl
secrets_filled (x ∷ xs) [] = refl
secrets_filled (x ∷ xs) (bytes ∷ strings) = ap (λ t. secret_line x (hex_text bytes) ++ t) (secrets_filled xs strings)

-- five parts and what stands behind them
behind : (a b c d e f : List ℕ) → a ++ (b ++ (c ++ (d ++ (e ++ f)))) ≡ (a ++ (b ++ (c ++ (d ++ e)))) ++ f
behind a b c d e f =
    sym (append_assoc a (b ++ (c ++ (d ++ e))) f
    ∙ ap (λ t. a ++ t) (append_assoc b (c ++ (d ++ e)) f ∙ ap (λ t. b ++ t) (append_assoc c (d ++ e) f
    ∙ ap (λ t. c ++ t) (append_assoc d e f))))

pub first_lines_are_a_run : FirstLinesAreARun
unfolding begin_text
first_lines_are_a_run = record {
  printed = λ advert. refl;
  filled = λ advert strings.
      ap (λ t. flat_map party_text (participants advert) ++ (flat_map honest_text (participants advert) ++ (t
      ++ (flat_map deposit_text (owned (deposits advert.pre)) ++ ((codes "--" ++ newline) ++ flat_map
      (λ e. event_text e ++ newline) (first_events advert))))))
      (secrets_filled (secrets advert.pre) strings)
      ∙ behind (flat_map party_text (participants advert)) (flat_map honest_text (participants advert))
      (flat_map secret_text (held (secrets advert.pre) strings)) (flat_map deposit_text (owned (deposits advert.pre)))
      (codes "--" ++ newline)
      (flat_map (λ e. event_text e ++ newline) (first_events advert));
}
