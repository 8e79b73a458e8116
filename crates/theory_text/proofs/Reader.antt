-- The reader of contract text answers by the grammar.
use Rattle.std.proofs.Common.{◌≡◌, ℕ, List, Result, Ok, Err, true, refl, ap, ◌∙◌}
use Rattle.spec_terms.specs.Advert.{Advert}
use Rattle.spec_terms.specs.Readable.{is_readable}
use Rattle.spec_text.specs.declared.stop.Stop.{Stop}
use Rattle.spec_text.specs.declared.stop.TextFault.{TextFault}
use Rattle.spec_text.specs.declared.stop.TextFault.TheVariants as faults
use Rattle.spec_text.specs.declared.token.Token.{Token}
use Rattle.spec_text.specs.Lexis.{Tokens, tokens_of}
use Rattle.spec_text.specs.Lexeme.{lexemes}
use Rattle.spec_text.specs.ReadAdvert.{advert_of_all, fault_of, answer_of, answer_from, read_answer}
use Rattle.spec_text.specs.Statements.{IsSpelledBy, ReaderTheorem}
use Rattle.theory_text.proofs.Within.Adverts.{read_is_readable}
use Rattle.theory_text.proofs.Told.StopPlaces.{syntax_is, limit_is, found_is}
use Rattle.theory_text.proofs.Again.Adverts.{all_again}

abbrev answer : Advert → Result Advert TextFault
answer advert = Ok advert

answer_is : (a b : Advert) → answer a ≡ answer b → a ≡ b
answer_is a b h = cc

no_answer : (f : TextFault) (a : Advert) → Err f ≡ answer a → ⊥
no_answer f a h = absurd cc

-- what is answered was read
answered : (text : List ℕ) (tokens : List Token) (r : Result Advert Stop) (advert : Advert) → advert_of_all (lexemes text tokens) ≡ r
    → answer_of text tokens r ≡ answer advert → advert_of_all (lexemes text tokens) ≡ Ok advert
answered text tokens (Ok a) advert is h = is ∙ ap (λ (z : Advert). Ok z) (answer_is a advert h)
answered text tokens (Err stop) advert is h = absurd (no_answer (fault_of text tokens stop) advert h)

found_in : (text : List ℕ) (cut : Tokens) (advert : Advert) → tokens_of text ≡ cut → answer_from text cut ≡ answer advert → IsSpelledBy text advert
found_in text (Ok tokens) advert is h = record {
  tokens = tokens;
  cut = is;
  spelled = found_is (lexemes text tokens) advert (answered text tokens (advert_of_all (lexemes text tokens)) advert refl h);
}
found_in text (Err place) advert is h = absurd (no_answer (faults.BadByte place) advert h)

found : (text : List ℕ) (advert : Advert) → read_answer text ≡ Ok advert → IsSpelledBy text advert
unfolding read_answer
found text advert h = found_in text (tokens_of text) advert refl h

only : (text : List ℕ) (advert : Advert) → IsSpelledBy text advert → is_readable advert ≡ true → read_answer text ≡ Ok advert
unfolding read_answer
only text advert s h = ap (answer_from text) s.cut ∙ ap (answer_of text s.tokens) (all_again (lexemes text s.tokens) advert s.spelled h)

-- the reader's theorem
pub reader_is : ReaderTheorem
reader_is = record { found = found; fits = read_is_readable; only = only; syntax = syntax_is; limit = limit_is }
