-- The walk without limits ends where the grammar does.
use Rattle.std.proofs.Common.{◌≡◌, ℕ, suc, ◌+◌, ◌-◌, ◌<◌, ◌≤◌, List, [], ◌∷◌, ◌++◌, length, take, refl, ap, sym, subst, ◌∙◌, append_assoc, arith}
use Rattle.std.proofs.lemmas.List.{length-append, take_at}
use Rattle.std.proofs.Math.Seq.{take-append-add}
use Rattle.std.specs.Prelude.{Option, Some, None}
use Rattle.spec_text.specs.declared.token.Keyword.TheVariants as word
use Rattle.spec_text.specs.declared.token.Symbol.{Symbol}
use Rattle.spec_text.specs.declared.token.Symbol.TheVariants as mark
use Rattle.spec_text.specs.declared.token.Keyword.{Keyword}
use Rattle.spec_text.specs.declared.lexeme.Lexeme.{Lexeme}
use Rattle.spec_text.specs.declared.lexeme.Lexeme.TheVariants.{Keyword as keyword, Symbol as symbol, Name as name, Number as number}
use Rattle.spec_text.specs.Grammar.{Spells, StandFor, Begins}
use Rattle.spec_text.specs.Statements.{IsSyntaxAt}
use Rattle.spec_text.specs.Reading.{symbol_number, keyword_number}
use Rattle.theory_text.proofs.Told.PlainTexts.{stand_themselves}
use Rattle.theory_limits.specs.Awaited.{Awaited, this_symbol, this_word, a_name, a_number, operator, relation, formula, test, behind_put, behind_reveal, wrapped, branch, behind_branch, contract, part, behind_part, entry, entry_kind, behind_entry, fee_or_contract, an_advert, Next, next}
use Rattle.theory_limits.specs.Marks.{end_here, end_from, grammar_end}
use Rattle.theory_limits.specs.Statements.{MeansAdvert, GrammarTheorem}
use Rattle.theory_limits.proofs.Plain.{stand_end}
use Rattle.theory_limits.proofs.SpelledAdverts.{spelled_advert}
use Rattle.theory_limits.proofs.Texts.{add, Text, Texts, divided, Begun}
use Rattle.theory_limits.proofs.BegunTests.{number_same}
use Rattle.theory_limits.proofs.BegunAdverts.{begun, advert_by}

-- ---- what comes spells

abbrev an_end : ℕ → Option ℕ
an_end n = Some n

abbrev no_end : Option ℕ
no_end = None

some_end : (n : ℕ) → an_end n ≡ no_end → ⊥
some_end n h = absurd cc

-- tokens stand for a text of these parts
record Meant (as' : List Awaited) (t : List Lexeme) : Type 0 where
  meant : List Lexeme
  stand : StandFor t meant
  texts : Texts as' meant

meant_by : (a : Awaited) (as' : List Awaited) (c : Lexeme) (t : List Lexeme) (n : Next) (left : ℕ) → Begun (Text a) c n
    → ((new : List Awaited) → end_from (new ++ as') t ≡ None → Meant (new ++ as') t)
    → end_here n left (λ new. end_from (new ++ as') t) ≡ None → Meant (a ∷ as') (c ∷ t)
meant_by a as' c t None left b h e = absurd (some_end left e)
meant_by a as' c t (Some new) left b h e =
    let m = h new e in
    let d = divided new as' m.meant m.texts in
    let r = b d.first d.prefix in
    record {
      meant = r.0 ∷ m.meant;
      stand = (r.1, m.stand);
      texts =
          record { first = r.0 ∷ d.first; second = d.second; parts = add r.0 d.parts; prefix = r.2; back = d.back };
    }

meant_is : (as' : List Awaited) (t : List Lexeme) → end_from as' t ≡ None → Meant as' t
meant_is [] [] e = record { meant = []; stand = tt; texts = refl }
meant_is (a ∷ as') [] e = absurd (some_end 0 e)
meant_is [] (c ∷ t) e = absurd (some_end (suc (length t)) e)
meant_is (a ∷ as') (c ∷ t) e = meant_by a as' c t (next a c) (suc (length t)) (begun a c) (λ new k. meant_is (new ++ as') t k) e

whole : (t : List Lexeme) → grammar_end t ≡ None → MeansAdvert t
whole t e =
    let m = meant_is an_advert t e in
    let a = advert_by m.meant m.texts in
    record { meant = m.meant; stand = m.stand; advert = a.0; spelled = a.1 }

whole_only : (t : List Lexeme) → MeansAdvert t → grammar_end t ≡ None
whole_only t m = stand_end an_advert t m.meant m.stand ∙ spelled_advert m.meant m.advert m.spelled

-- ---- each part has a text

-- tokens with which these parts all come
record Fills (as' : List Awaited) : Type 0 where
  text : List Lexeme
  all : end_from as' text ≡ None

symbol_end : (s : Symbol) (as' : List Awaited) (u : List Lexeme) → end_from (this_symbol s ∷ as') (symbol s ∷ u) ≡ end_from as' u
symbol_end s as' u = rw (number_same (symbol_number s)) refl

word_end : (k : Keyword) (as' : List Awaited) (u : List Lexeme) → end_from (this_word k ∷ as') (keyword k ∷ u) ≡ end_from as' u
word_end k as' u = rw (number_same (keyword_number k)) refl

filled : (a : Awaited) (as' : List Awaited) → Fills as' → Fills (a ∷ as')
filled (this_symbol s) as' f = record { text = symbol s ∷ f.text; all = symbol_end s as' f.text ∙ f.all }
filled (this_word k) as' f = record { text = keyword k ∷ f.text; all = word_end k as' f.text ∙ f.all }
filled a_name as' f = record { text = name [] ∷ f.text; all = f.all }
filled (a_number most) as' f = record { text = number 0 ∷ f.text; all = f.all }
filled operator as' f = record { text = symbol mark.Plus ∷ f.text; all = f.all }
filled relation as' f = record { text = symbol mark.Equal ∷ f.text; all = f.all }
filled (formula d) as' f = record { text = number 0 ∷ f.text; all = f.all }
filled (test d) as' f = record { text = keyword word.True ∷ f.text; all = f.all }
filled behind_put as' f = record { text = symbol mark.Dot ∷ f.text; all = f.all }
filled behind_reveal as' f = record { text = symbol mark.Dot ∷ f.text; all = f.all }
filled (wrapped d) as' f = record { text = keyword word.Withdraw ∷ name [] ∷ f.text; all = f.all }
filled (branch d k) as' f = record { text = keyword word.Withdraw ∷ name [] ∷ f.text; all = f.all }
filled (behind_branch d k) as' f = record { text = symbol mark.RightParen ∷ f.text; all = f.all }
filled (contract d) as' f = record { text = keyword word.Withdraw ∷ name [] ∷ f.text; all = f.all }
filled (part d k) as' f =
    record { text = number 0 ∷ symbol mark.Arrow ∷ keyword word.Withdraw ∷ name [] ∷ symbol mark.RightBracket ∷ f.text; all = f.all }
filled (behind_part d k) as' f = record { text = symbol mark.RightBracket ∷ f.text; all = f.all }
filled (entry ds ss) as' f =
    record { text = name [] ∷ symbol mark.Colon ∷ keyword word.Secret ∷ name [] ∷ symbol mark.RightBrace ∷ f.text; all = f.all }
filled (entry_kind ds ss) as' f = record { text = keyword word.Secret ∷ name [] ∷ symbol mark.RightBrace ∷ f.text; all = f.all }
filled (behind_entry ds ss) as' f = record { text = symbol mark.RightBrace ∷ f.text; all = f.all }
filled fee_or_contract as' f = record { text = keyword word.Withdraw ∷ name [] ∷ f.text; all = f.all }

fills : (as' : List Awaited) → Fills as'
fills [] = record { text = []; all = refl }
fills (a ∷ as') = filled a as' (fills as')

-- ---- where the walk ends

-- the walk comes to these tokens with these parts awaited, and the first of them can't come
record Halts (as' : List Awaited) (t : List Lexeme) (left : ℕ) : Type 0 where
  prefix : List Lexeme
  rest : List Lexeme
  awaited : List Awaited
  parts : t ≡ prefix ++ rest
  left_is : length rest ≡ left
  goes : (u : List Lexeme) → end_from as' (prefix ++ u) ≡ end_from awaited u
  stops : (c : Lexeme) (after u : List Lexeme) → rest ≡ c ∷ after → end_from awaited (c ∷ u) ≡ Some (suc (length u))

end_is : (m n : ℕ) → an_end m ≡ an_end n → m ≡ n
end_is m n h = cc

at_none : (a : Awaited) (as' : List Awaited) (c : Lexeme) (n : Next) (u : List Lexeme) → next a c ≡ n → n ≡ None
    → end_from (a ∷ as') (c ∷ u) ≡ an_end (suc (length u))
at_none a as' c n u e f = ap (λ (z : Next). end_here z (suc (length u)) (λ new. end_from (new ++ as') u)) (e ∙ f)

halts_by : (a : Awaited) (as' : List Awaited) (c : Lexeme) (t : List Lexeme) (left : ℕ) (n : Next) → next a c ≡ n
    → ((new : List Awaited) → end_from (new ++ as') t ≡ an_end left → Halts (new ++ as') t left)
    → end_here n (suc (length t)) (λ new. end_from (new ++ as') t) ≡ an_end left → Halts (a ∷ as') (c ∷ t) left
halts_by a as' c t left None e h k = record {
  prefix = [];
  rest = c ∷ t;
  awaited = a ∷ as';
  parts = refl;
  left_is = end_is (suc (length t)) left k;
  goes = λ u. refl;
  stops =
      λ d after u m. let same : c ≡ d = cc in subst (λ (z : Lexeme). end_from (a ∷ as') (z ∷ u) ≡ an_end (suc (length u))) same
      (at_none a as' c None u e refl);
}
halts_by a as' c t left (Some new) e h k =
    let r = h new k in
    record {
      prefix = c ∷ r.prefix;
      rest = r.rest;
      awaited = r.awaited;
      parts = add c r.parts;
      left_is = r.left_is;
      goes = λ u. ap (λ (z : Next). end_here z (suc (length (r.prefix ++ u))) (λ new. end_from (new ++ as') (r.prefix ++ u))) e ∙ r.goes u;
      stops = r.stops;
    }

halts_is : (as' : List Awaited) (t : List Lexeme) (left : ℕ) → end_from as' t ≡ an_end left → Halts as' t left
halts_is [] [] left e = absurd (some_end left (sym e))
halts_is (a ∷ as') [] left e =
    record {
      prefix = [];
      rest = [];
      awaited = a ∷ as';
      parts = refl;
      left_is = end_is 0 left e;
      goes = λ u. refl;
      stops = λ c after u m. absurd cc;
    }
halts_is [] (c ∷ t) left e =
    record {
      prefix = [];
      rest = c ∷ t;
      awaited = [];
      parts = refl;
      left_is = end_is (suc (length t)) left e;
      goes = λ u. refl;
      stops = λ d after u m. refl;
    }
halts_is (a ∷ as') (c ∷ t) left e = halts_by a as' c t left (next a c) refl (λ new k. halts_is (new ++ as') t left k) e

-- ---- what stands before begins an advert

stand_apart : (t u m : List Lexeme) → StandFor (t ++ u) m → (v : List Lexeme) × (w : List Lexeme) × StandFor t v × (m ≡ v ++ w)
stand_apart [] u m st = ([], m, tt, refl)
stand_apart (c ∷ t) u [] st = absurd st
stand_apart (c ∷ t) u (d ∷ m) st = let r = stand_apart t u m st.1 in (d ∷ r.0, r.1, (st.0, r.2), add d r.3)

stand_more : (t m more : List Lexeme) → StandFor t m → StandFor (t ++ more) (m ++ more)
stand_more [] [] more st = stand_themselves more
stand_more [] (d ∷ m) more st = absurd st
stand_more (c ∷ t) [] more st = absurd st
stand_more (c ∷ t) (d ∷ m) more st = (st.0, stand_more t m more st.1)

begins_is : (t u : List Lexeme) → grammar_end (t ++ u) ≡ None → Begins t
begins_is t u e =
    let m = whole (t ++ u) e in
    let r = stand_apart t u m.meant m.stand in
    record {
      meant = r.0;
      stand = r.2;
      more = r.1;
      advert = m.advert;
      spelled = subst (λ (z : List Lexeme). Spells z m.advert) r.3 m.spelled;
    }

-- what begins an advert comes, with what follows
begins_comes : (t : List Lexeme) → Begins t → (more : List Lexeme) × (grammar_end (t ++ more) ≡ None)
begins_comes t b = (
  b.more,
  stand_end an_advert (t ++ b.more) (b.meant ++ b.more) (stand_more t b.meant b.more b.stand)
      ∙ spelled_advert (b.meant ++ b.more) b.advert b.spelled,
)

-- no prefix begins an advert that goes past the next token
not_past : (t prefix rest : List Lexeme) (awaited : List Awaited) (q : ℕ) → t ≡ prefix ++ rest
    → ((u : List Lexeme) → end_from an_advert (prefix ++ u) ≡ end_from awaited u)
    → ((c : Lexeme) (after u : List Lexeme) → rest ≡ c ∷ after → end_from awaited (c ∷ u) ≡ an_end (suc (length u))) → length prefix < q
    → q ≤ length t → Begins (take q t) → ⊥
not_past t prefix [] awaited q parts goes stops lt le b = let len : length t ≡ length prefix + 0 = ap length parts
    ∙ length-append prefix [] in absurd (omega arith)
not_past t prefix (c ∷ after) awaited q parts goes stops lt le b =
    let k : ℕ = q - suc (length prefix) in
    let n : q ≡ length prefix + suc k = omega arith in
    let prefixes : take q t ≡ prefix ++ c ∷ take k after =
    ap (take q) parts ∙ ap (λ (m : ℕ). take m (prefix ++ c ∷ after)) n ∙ take-append-add prefix (c ∷ after) (suc k) in
    let m = begins_comes (take q t) b in
    let text : take q t ++ m.0 ≡ prefix ++ c ∷ (take k after ++ m.0) =
    ap (λ (z : List Lexeme). z ++ m.0) prefixes ∙ append_assoc prefix (c ∷ take k after) m.0 in
    some_end (suc (length (take k after ++ m.0)))
    (sym (stops c after (take k after ++ m.0) refl) ∙ sym (goes (c ∷ (take k after ++ m.0))) ∙ sym (ap grammar_end text) ∙ m.1)

ends_at : (t : List Lexeme) (left : ℕ) → grammar_end t ≡ an_end left → Halts an_advert t left → IsSyntaxAt t (length t - left)
ends_at t left e h =
    let len : length t ≡ length h.prefix + length h.rest = ap length h.parts ∙ length-append h.prefix h.rest in
    let place : length t - left ≡ length h.prefix = omega (arith, h.left_is) in
    let prefixes : take (length h.prefix) t ≡ h.prefix = ap (take (length h.prefix)) h.parts ∙ take_at h.prefix h.rest (length h.prefix) refl in
    let u = fills h.awaited in
    let prefix : Begins h.prefix = begins_is h.prefix u.text (h.goes u.text ∙ u.all) in
    rw place (record {
      within = omega arith;
      begins = subst Begins (sym prefixes) prefix;
      longest = λ q lt le b. not_past t h.prefix h.rest h.awaited q h.parts h.goes h.stops lt le b;
      none = λ advert s. some_end left (sym e ∙ spelled_advert t advert s);
    })

ends : (t : List Lexeme) (left : ℕ) → grammar_end t ≡ Some left → IsSyntaxAt t (length t - left)
ends t left e = ends_at t left e (halts_is an_advert t left e)

-- the walk without limits goes as the grammar does
pub grammar_is : GrammarTheorem
grammar_is = record { whole = whole; whole_only = whole_only; ends = ends }
