-- What is read before the point of a put or reveal is within the limits of the reader.
use Rattle.std.proofs.Common.{◌≡◌, ℕ, Bool, true, false, List, refl}
use Rattle.std.specs.Prelude.{◌&&◌, ◌||◌}
use Rattle.std.specs.List.{list_all}
use Rattle.spec_terms.specs.Term.{Pred}
use Rattle.spec_terms.specs.Readable.{is_name, most_depth, is_readable_test, is_always, is_some_list, is_whole_prefix}
use Rattle.spec_text.specs.declared.token.Keyword.TheVariants as word
use Rattle.spec_text.specs.declared.token.Symbol.TheVariants as mark
use Rattle.spec_text.specs.declared.lexeme.Lexeme.{Lexeme}
use Rattle.spec_text.specs.Reading.{a_symbol, a_keyword}
use Rattle.spec_text.specs.ReadContract.{ends_put, ends_reveal, Heading, condition_at, reveals_at, put_reveals_at, puts_at}
use Rattle.theory_text.proofs.ListFacts.{and_is, or_yes}
use Rattle.theory_text.proofs.Within.LexemeNames.{HaveNames}
use Rattle.theory_text.proofs.Within.ReadWithin.{le_yes, Within, within_then, Any, mark_within, AreNames, names_within}
use Rattle.theory_text.proofs.Within.Tests.{TestWithin, test_within}

abbrev pub IsReadableTest : Pred → Type 0
IsReadableTest p = is_readable_test p ≡ true

-- what stands before the point, where a put or a reveal is there
pub record HeadingWithin (h : Heading) : Type 0 where
  pub whole : is_whole_prefix h.0 h.1 h.2 ≡ true
  pub puts : list_all is_name h.0 ≡ true
  pub reveals : list_all is_name h.1 ≡ true
  pub test : is_readable_test h.2 ≡ true

condition_within : (t : Bool) (ts : List Lexeme) → HaveNames ts → Within IsReadableTest (condition_at t ts)
unfolding condition_at
condition_within false ts h = (refl, h)
condition_within true ts h =
    within_then (TestWithin most_depth) IsReadableTest _ _ (test_within most_depth ts h) (λ p us g k.
    within_then Any IsReadableTest _ _ (mark_within (a_symbol mark.Dot) us k) (λ o vs y l.
    (and_is _ _ (le_yes _ _ g.depth) g.readable, l)))

revealed : (a b : Bool) → b ≡ true → (a || b) ≡ true
revealed true b h = refl
revealed false b h = h

pub reveals_within : (puts : List (List ℕ)) (ts : List Lexeme) → list_all is_name puts ≡ true → HaveNames ts → Within HeadingWithin (reveals_at puts ts)
unfolding reveals_at
reveals_within puts ts are h =
    within_then (AreNames true) HeadingWithin _ _ (names_within ends_reveal true ts h) (λ a us n k.
    within_then IsReadableTest HeadingWithin _ _ (condition_within (a.1) us k) (λ p vs r l.
    (record { whole = revealed (is_some_list puts && is_always p) (is_some_list a.0) (n.some refl); puts = are; reveals = n.all; test = r }, l)))

put_reveals_within : (t : Bool) (puts : List (List ℕ)) (ts : List Lexeme) → is_some_list puts ≡ true → list_all is_name puts ≡ true
    → HaveNames ts → Within HeadingWithin (put_reveals_at t puts ts)
unfolding put_reveals_at
put_reveals_within false puts ts some are h = (record { whole = or_yes _ false (and_is _ _ some refl); puts = are; reveals = refl; test = refl }, h)
put_reveals_within true puts ts some are h =
    within_then Any HeadingWithin _ _ (mark_within (a_keyword word.Reveal) ts h) (λ w us y k. reveals_within puts us are k)

pub puts_within : (ts : List Lexeme) → HaveNames ts → Within HeadingWithin (puts_at ts)
unfolding puts_at
puts_within ts h =
    within_then (AreNames true) HeadingWithin _ _ (names_within ends_put true ts h) (λ x us n k. put_reveals_within (x.1) (x.0) us (n.some refl) n.all k)
