-- A spelled text has no mark exactly where its advert is within the limits.
use Rattle.std.proofs.Common.{◌≡◌, ℕ, List, [], true, Result, Ok, Err, refl, ap, sym, ◌∙◌}
use Rattle.spec_terms.specs.Advert.{Advert}
use Rattle.spec_terms.specs.Readable.{is_readable}
use Rattle.spec_text.specs.declared.stop.Stop.{Stop}
use Rattle.spec_text.specs.declared.stop.TextFault.{TextFault}
use Rattle.spec_text.specs.declared.token.Token.{Token}
use Rattle.spec_text.specs.Lexeme.{lexemes}
use Rattle.spec_text.specs.ReadAdvert.{advert_of_all, fault_of, answer_of, answer_from, read_answer}
use Rattle.spec_text.specs.Statements.{IsSpelledBy}
use Rattle.theory_text.proofs.Reader.{reader_is}
use Rattle.theory_limits.specs.Marks.{marks}
use Rattle.theory_limits.specs.Statements.{FittingTheorem}
use Rattle.theory_limits.proofs.Verdicts.{limits_are}

within : (text : List ℕ) (advert : Advert) (s : IsSpelledBy text advert) → marks (lexemes text s.tokens) ≡ [] → is_readable advert ≡ true
unfolding read_answer
within text advert s m =
    let is : advert_of_all (lexemes text s.tokens) ≡ Ok advert = limits_are.read_only (lexemes text s.tokens) advert s.spelled m in
    reader_is.fits text advert (ap (answer_from text) s.cut ∙ ap (answer_of text s.tokens) is)

abbrev answer : Advert → Result Advert TextFault
answer a = Ok a

fails : (f : TextFault) (a : Advert) → Err f ≡ answer a → ⊥
fails f a h = absurd cc

unmarked : (text : List ℕ) (tokens : List Token) (advert : Advert) (r : Result Advert Stop) → advert_of_all (lexemes text tokens) ≡ r
    → answer_of text tokens r ≡ answer advert → marks (lexemes text tokens) ≡ []
unmarked text tokens advert (Ok a) is h = (limits_are.read (lexemes text tokens) a is).1
unmarked text tokens advert (Err e) is h = absurd (fails (fault_of text tokens e) advert h)

within_only : (text : List ℕ) (advert : Advert) (s : IsSpelledBy text advert) → is_readable advert ≡ true
    → marks (lexemes text s.tokens) ≡ []
unfolding read_answer
within_only text advert s h =
    unmarked text s.tokens advert (advert_of_all (lexemes text s.tokens)) refl
    (sym (ap (answer_from text) s.cut) ∙ reader_is.only text advert s h)

-- no mark, and within the limits
pub fitting_is : FittingTheorem
fitting_is = record { within = within; within_only = within_only }
