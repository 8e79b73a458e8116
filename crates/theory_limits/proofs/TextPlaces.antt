-- The answers to texts, with places in bytes.
use Rattle.std.proofs.Common.{◌≡◌, ℕ, ◌-◌, ◌≤◌, List, length, Result, Ok, Err, refl, ap, sym, ◌∙◌, arith}
use Rattle.spec_terms.specs.Advert.{Advert}
use Rattle.spec_terms.specs.declared.limit.Limit.{Limit}
use Rattle.spec_text.specs.declared.stop.Stop.{Stop}
use Rattle.spec_text.specs.declared.stop.Stop.TheVariants as stops
use Rattle.spec_text.specs.declared.stop.TextFault.{TextFault}
use Rattle.spec_text.specs.declared.stop.TextFault.TheVariants as faults
use Rattle.spec_text.specs.declared.token.Token.{Token}
use Rattle.spec_text.specs.Lexis.{Tokens, tokens_of}
use Rattle.spec_text.specs.Lexeme.{lexemes}
use Rattle.spec_text.specs.ReadAdvert.{advert_of_all, place_of, fault_of, answer_of, answer_from, read_answer}
use Rattle.theory_limits.specs.Statements.{IsMarkedText, IsEndedText, TextLimitsTheorem}
use Rattle.theory_limits.proofs.Verdicts.{limits_are, left_within}

abbrev failing : TextFault → Result Advert TextFault
failing f = Err f

abbrev stopped : Stop → Result Advert Stop
stopped e = Err e

failing_is : (e f : TextFault) → failing e ≡ failing f → e ≡ f
failing_is e f h = cc

found_fails : (a : Advert) (f : TextFault) → Ok a ≡ failing f → ⊥
found_fails a f h = absurd cc

limit_is : (v w : Limit) (m n : ℕ) → faults.Limit v m ≡ faults.Limit w n → (v ≡ w) × (m ≡ n)
limit_is v w m n h = (cc, cc)

syntax_is : (m n : ℕ) → faults.Syntax m ≡ faults.Syntax n → m ≡ n
syntax_is m n h = cc

syntax_limit : (m n : ℕ) (w : Limit) → faults.Syntax m ≡ faults.Limit w n → ⊥
syntax_limit m n w h = absurd cc

bad_limit : (m n : ℕ) (w : Limit) → faults.BadByte m ≡ faults.Limit w n → ⊥
bad_limit m n w h = absurd cc

bad_syntax : (m n : ℕ) → faults.BadByte m ≡ faults.Syntax n → ⊥
bad_syntax m n h = absurd cc

-- ---- limits

limit_by : (text : List ℕ) (tokens : List Token) (w : Limit) (place : ℕ) (r : Result Advert Stop) → tokens_of text ≡ Ok tokens
    → advert_of_all (lexemes text tokens) ≡ r
    → answer_of text tokens r ≡ failing (faults.Limit w place) → IsMarkedText text w place
limit_by text tokens w place (Ok a) cut is h = absurd (found_fails a (faults.Limit w place) h)
limit_by text tokens w place (Err (stops.Syntax left)) cut is h =
    absurd (syntax_limit (place_of text tokens left) place w
    (failing_is (fault_of text tokens (stops.Syntax left)) (faults.Limit w place) h))
limit_by text tokens w place (Err (stops.Limit v left)) cut is h =
    let e = limit_is v w (place_of text tokens left) place
    (failing_is (fault_of text tokens (stops.Limit v left)) (faults.Limit w place) h) in
    record {
      tokens = tokens;
      cut = cut;
      left = left;
      first = (limits_are.limit (lexemes text tokens) w left (is ∙ ap (λ (z : Limit). stopped (stops.Limit z left)) e.0)).0;
      place_is = sym e.1;
    }

limit_from : (text : List ℕ) (cut : Tokens) (w : Limit) (place : ℕ) → tokens_of text ≡ cut
    → answer_from text cut ≡ failing (faults.Limit w place) → IsMarkedText text w place
limit_from text (Err byte) w place is h = absurd (bad_limit byte place w (failing_is (faults.BadByte byte) (faults.Limit w place) h))
limit_from text (Ok tokens) w place is h = limit_by text tokens w place (advert_of_all (lexemes text tokens)) is refl h

limit_text : (text : List ℕ) (w : Limit) (place : ℕ) → read_answer text ≡ Err (faults.Limit w place) → IsMarkedText text w place
unfolding read_answer
limit_text text w place h = limit_from text (tokens_of text) w place refl h

limit_only_text : (text : List ℕ) (w : Limit) (place : ℕ) → IsMarkedText text w place → read_answer text ≡ Err (faults.Limit w place)
unfolding read_answer
limit_only_text text w place m =
    ap (answer_from text) m.cut ∙ ap (answer_of text m.tokens) (limits_are.limit_only (lexemes text m.tokens) w m.left m.first)
    ∙ ap (λ (n : ℕ). failing (faults.Limit w n)) (sym m.place_is)

-- ---- syntax errors

twice : (n left : ℕ) → left ≤ n → left ≡ n - (n - left)
twice n left h = omega arith

syntax_by : (text : List ℕ) (tokens : List Token) (place : ℕ) (r : Result Advert Stop) → tokens_of text ≡ Ok tokens
    → advert_of_all (lexemes text tokens) ≡ r
    → answer_of text tokens r ≡ failing (faults.Syntax place) → IsEndedText text place
syntax_by text tokens place (Ok a) cut is h = absurd (found_fails a (faults.Syntax place) h)
syntax_by text tokens place (Err (stops.Limit w left)) cut is h =
    absurd (syntax_limit place (place_of text tokens left) w
    (sym (failing_is (fault_of text tokens (stops.Limit w left)) (faults.Syntax place) h)))
syntax_by text tokens place (Err (stops.Syntax left)) cut is h =
    let t = lexemes text tokens in
    let e = syntax_is (place_of text tokens left) place (failing_is (fault_of text tokens (stops.Syntax left)) (faults.Syntax place) h) in
    let s = limits_are.syntax t left is in
    record {
      tokens = tokens;
      cut = cut;
      number = length t - left;
      ends = s.0;
      unmarked = s.1;
      place_is = sym e ∙ ap (place_of text tokens) (twice (length t) left (left_within t left is));
    }

syntax_from : (text : List ℕ) (cut : Tokens) (place : ℕ) → tokens_of text ≡ cut → answer_from text cut ≡ failing (faults.Syntax place)
    → IsEndedText text place
syntax_from text (Err byte) place is h = absurd (bad_syntax byte place (failing_is (faults.BadByte byte) (faults.Syntax place) h))
syntax_from text (Ok tokens) place is h = syntax_by text tokens place (advert_of_all (lexemes text tokens)) is refl h

syntax_text : (text : List ℕ) (place : ℕ) → read_answer text ≡ Err (faults.Syntax place) → IsEndedText text place
unfolding read_answer
syntax_text text place h = syntax_from text (tokens_of text) place refl h

syntax_only_text : (text : List ℕ) (place : ℕ) → IsEndedText text place → read_answer text ≡ Err (faults.Syntax place)
unfolding read_answer
syntax_only_text text place s =
    ap (answer_from text) s.cut ∙ ap (answer_of text s.tokens) (limits_are.syntax_only (lexemes text s.tokens) s.number s.ends s.unmarked)
    ∙ ap (λ (n : ℕ). failing (faults.Syntax n)) (sym s.place_is)

-- the reader answers texts with bytes
pub texts_are : TextLimitsTheorem
texts_are = record { limit = limit_text; limit_only = limit_only_text; syntax = syntax_text; syntax_only = syntax_only_text }
