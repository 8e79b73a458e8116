-- What a branch makes is read from its line.
use Rattle.std.proofs.Common.{◌≡◌, ℕ, List, [], ◌∷◌, ◌++◌, Option, Some, refl, ap, ◌∙◌, append_assoc, append-nil}
use Rattle.std.specs.Prelude.{flat_map, codes}
use Rattle.std.specs.Fmt.{decimal}
use Rattle.std.specs.List.{AllByRecursion}
use Rattle.spec_bitcoin.specs.Keys.{path_text}
use Rattle.spec_text.specs.Words.{◌>>=◌, path}
use Rattle.spec_next.specs.declared.lead.Lead.{Lead}
use Rattle.spec_next.specs.declared.lead.Made.{Made}
use Rattle.spec_next.specs.declared.lead.Made.TheVariants as makes
use Rattle.spec_next.specs.OutlookText.{made_text}
use Rattle.theory_text.proofs.Lines.PathsBack.{path_back}
use Rattle.theory_text.proofs.Options.{some}
use Rattle.theory_play_text.specs.Lines.{Words}
use Rattle.theory_play_text.proofs.LineWords.{ArePlain, known_word, line_of}
use Rattle.theory_play_text.proofs.Paths.{path_plain}
use Rattle.theory_play_text.proofs.WordsBack.{number_back, number_plain, name_back, name_plain}
use Rattle.theory_next_text.specs.Lines.{NextLine, all_made_said, leads_said}
use Rattle.theory_next_text.specs.Lines as line
use Rattle.theory_next_text.specs.Sayable.{IsMade}

abbrev pub made_words : Made → Words
made_words (makes.Paid party value) = codes "pays" ∷ party ∷ decimal value ∷ []
made_words (makes.Led position value) = codes "to" ∷ path_text position ∷ decimal value ∷ []

abbrev pub all_made_words : List Made → Words
all_made_words ms = flat_map made_words ms

pub made_line : (word : List ℕ) (ms : List Made) → word ++ flat_map made_text ms ≡ line_of (word ∷ all_made_words ms)
made_line word [] = append-nil word
made_line word (makes.Paid party value ∷ ms) =
    ap (λ (rest : List ℕ). word ++ (codes " pays " ++ rest))
    (append_assoc party (32 ∷ decimal value) (flat_map made_text ms)
    ∙ ap (λ (rest : List ℕ). party ++ (32 ∷ rest)) (made_line (decimal value) ms))
made_line word (makes.Led position value ∷ ms) =
    ap (λ (rest : List ℕ). word ++ (codes " to " ++ rest))
    (append_assoc (path_text position) (32 ∷ decimal value) (flat_map made_text ms)
    ∙ ap (λ (rest : List ℕ). path_text position ++ (32 ∷ rest)) (made_line (decimal value) ms))

pub made_plain : (ms : List Made) → AllByRecursion IsMade ms → ArePlain (all_made_words ms)
made_plain [] h = tt
made_plain (makes.Paid party value ∷ ms) h =
    (known_word (codes "pays") refl, (name_plain party (h.0).0, (number_plain value (h.0).1, made_plain ms h.1)))
made_plain (makes.Led position value ∷ ms) h =
    (known_word (codes "to") refl, (path_plain position (h.0).0, (number_plain value (h.0).1, made_plain ms h.1)))

made_back : (ms : List Made) → AllByRecursion IsMade ms → all_made_said (all_made_words ms) ≡ some ms
made_back [] h = refl
made_back (makes.Paid party value ∷ ms) h = rw (name_back party (h.0).0, number_back value (h.0).1, made_back ms h.1) refl
made_back (makes.Led position value ∷ ms) h = rw (path_back position (h.0).0, number_back value (h.0).1, made_back ms h.1) refl

abbrev a_line : NextLine → Option NextLine
a_line l = Some l

pub leads_back : (l : Lead) → AllByRecursion IsMade l.made → path (path_text l.path) ≡ some l.path
    → leads_said (path_text l.path ∷ all_made_words l.made) ≡ a_line (line.leads l)
leads_back l h back =
    ap (λ o. o >>= λ q. all_made_said (all_made_words l.made) >>= λ ms. a_line (line.leads (record { path = q; made = ms }))) back
    ∙ ap (λ o. o >>= λ ms. a_line (line.leads (record { path = l.path; made = ms }))) (made_back l.made h)
