-- What the readers of what stands before the point of a put or reveal tell.
use Rattle.std.proofs.Common.{◌≡◌, ℕ, inl, inr, Bool, true, false, List, [], ◌∷◌, ◌++◌, refl, sym, ap, subst, ◌∙◌, append_assoc}
use Rattle.std.proofs.lemmas.List.{append-nil}
use Rattle.spec_terms.specs.Term.{Pred, always}
use Rattle.spec_terms.specs.Readable.{most_depth}
use Rattle.spec_terms.specs.declared.limit.Limit.{Limit}
use Rattle.spec_text.specs.declared.token.Keyword.TheVariants as word
use Rattle.spec_text.specs.declared.token.Symbol.TheVariants as mark
use Rattle.spec_text.specs.declared.lexeme.Lexeme.{Lexeme}
use Rattle.spec_text.specs.declared.lexeme.Lexeme.TheVariants.{Keyword as keyword, Symbol as symbol}
use Rattle.spec_text.specs.Grammar.{names, SpellsTest, SpellsCondition, SpellsReveals, SpellsHeading}
use Rattle.spec_text.specs.Reading.{taken, above}
use Rattle.spec_text.specs.ReadContract.{ends_put, ends_reveal, Heading, condition_at, reveals_at, put_reveals_at, puts_at}
use Rattle.theory_bitcoin.proofs.Languages.{Nothing, Seq}
use Rattle.theory_text.proofs.Told.Tells.{Exact, Clear, pure, seq}
use Rattle.theory_text.proofs.Told.Sees.{As, token, clear_as, marks, is_mark, that, the_symbol, the_keyword}
use Rattle.theory_text.proofs.Told.Clears.{Clear_to, clear_to, clear_of, clear_pure, clear_seq}
use Rattle.theory_text.proofs.Told.Formulas.{head_is, tail_is}
use Rattle.theory_text.proofs.Told.Predicates.{test_clear, a_test}
use Rattle.theory_text.proofs.Told.NameLists.{Ends, Listed, Names, names_clear, names_exact}

-- ---- what ends names

abbrev pub put_token : Bool → Lexeme
put_token true = symbol mark.Ampersand
put_token false = symbol mark.Dot

put_takes : (c : Lexeme) (o : Bool) → ends_put c ≡ taken o → c ≡ put_token o
put_takes (symbol mark.Ampersand) true h = refl
put_takes (symbol mark.Dot) false h = refl
put_takes c o h = absurd cc

put_back : (o : Bool) → ends_put (put_token o) ≡ taken o
put_back true = refl
put_back false = refl

put_low : (c : Lexeme) (w : Limit) → ends_put c ≡ above w → ⊥
put_low (symbol mark.Ampersand) w h = absurd cc
put_low (symbol mark.Dot) w h = absurd cc
put_low c w h = absurd cc

put_mark : (o : Bool) → is_mark (put_token o) ≡ true
put_mark true = refl
put_mark false = refl

put_apart : (o : Bool) → put_token o ≡ symbol mark.Comma → ⊥
put_apart true h = absurd cc
put_apart false h = absurd cc

end_of_put : Ends put_token ends_put
end_of_put = record {
  sees = marks true put_takes put_back put_low
      put_mark;
  fair = record { names = λ b h. refl; numbers = λ n h. refl };
  low = put_low;
  apart = put_apart;
}

abbrev pub reveal_token : Bool → Lexeme
reveal_token true = keyword word.If
reveal_token false = symbol mark.Dot

reveal_takes : (c : Lexeme) (o : Bool) → ends_reveal c ≡ taken o → c ≡ reveal_token o
reveal_takes (keyword word.If) true h = refl
reveal_takes (symbol mark.Dot) false h = refl
reveal_takes c o h = absurd cc

reveal_back : (o : Bool) → ends_reveal (reveal_token o) ≡ taken o
reveal_back true = refl
reveal_back false = refl

reveal_low : (c : Lexeme) (w : Limit) → ends_reveal c ≡ above w → ⊥
reveal_low (keyword word.If) w h = absurd cc
reveal_low (symbol mark.Dot) w h = absurd cc
reveal_low c w h = absurd cc

reveal_mark : (o : Bool) → is_mark (reveal_token o) ≡ true
reveal_mark true = refl
reveal_mark false = refl

reveal_apart : (o : Bool) → reveal_token o ≡ symbol mark.Comma → ⊥
reveal_apart true h = absurd cc
reveal_apart false h = absurd cc

end_of_reveal : Ends reveal_token ends_reveal
end_of_reveal = record {
  sees = marks true reveal_takes reveal_back reveal_low
      reveal_mark;
  fair = record { names = λ b h. refl; numbers = λ n h. refl };
  low = reveal_low;
  apart = reveal_apart;
}

-- ---- the readers

-- behind the token that ends the names of a reveal
abbrev pub Condition : Bool → List Lexeme → Pred → Type 0
Condition false = Nothing always
Condition true = Seq SpellsTest (λ p. Seq (As (that (symbol mark.Dot))) (λ u. Nothing p))

a_condition : (b : Bool) → Exact (Condition b) (condition_at b)
unfolding condition_at
a_condition false = pure always
a_condition true = seq test_clear (a_test most_depth) (λ p t l. seq (clear_as (the_symbol mark.Dot refl)) (token (the_symbol mark.Dot refl)) (λ u m q. pure p))

condition_clear : (n : ℕ) (b : Bool) → Clear_to n (Condition b)
condition_clear n false = clear_pure always
condition_clear n true = clear_seq (clear_to test_clear) (λ p. clear_seq (clear_to (clear_as (the_symbol mark.Dot refl))) (λ u. clear_pure p))

-- behind `reveal`, where these deposits are put
abbrev pub Reveals : List (List ℕ) → List Lexeme → Heading → Type 0
Reveals puts = Seq (Names reveal_token) (λ v. Seq (Condition (v.1)) (λ p. Nothing (puts, v.0, p)))

pub a_reveal : (puts : List (List ℕ)) → Exact (Reveals puts) (reveals_at puts)
unfolding reveals_at
a_reveal puts = seq (names_clear end_of_reveal) (names_exact end_of_reveal)
    (λ v t l. seq (clear_of (λ n. condition_clear n (v.1))) (a_condition (v.1)) (λ p u m. pure (puts, v.0, p)))

reveals_clear_to : (n : ℕ) (puts : List (List ℕ)) → Clear_to n (Reveals puts)
reveals_clear_to n puts = clear_seq (clear_to (names_clear end_of_reveal)) (λ v. clear_seq (condition_clear n (v.1)) (λ p. clear_pure (puts, v.0, p)))

pub reveals_clear : (puts : List (List ℕ)) → Clear (Reveals puts)
reveals_clear puts = clear_of (λ n. reveals_clear_to n puts)

-- behind the token that ends the names of a put
abbrev pub PutReveals : Bool → List (List ℕ) → List Lexeme → Heading → Type 0
PutReveals false puts = Nothing (puts, [], always)
PutReveals true puts = Seq (As (that (keyword word.Reveal))) (λ u. Reveals puts)

a_put_reveal : (b : Bool) (puts : List (List ℕ)) → Exact (PutReveals b puts) (put_reveals_at b puts)
unfolding put_reveals_at
a_put_reveal false puts = pure (puts, [], always)
a_put_reveal true puts = seq (clear_as (the_keyword word.Reveal refl)) (token (the_keyword word.Reveal refl)) (λ u t l. a_reveal puts)

put_reveals_clear : (n : ℕ) (b : Bool) (puts : List (List ℕ)) → Clear_to n (PutReveals b puts)
put_reveals_clear n false puts = clear_pure (puts, [], always)
put_reveals_clear n true puts = clear_seq (clear_to (clear_as (the_keyword word.Reveal refl))) (λ u. reveals_clear_to n puts)

-- behind `put`
abbrev pub Puts : List Lexeme → Heading → Type 0
Puts = Seq (Names put_token) (λ v. PutReveals (v.1) (v.0))

pub a_put : Exact Puts puts_at
unfolding puts_at
a_put = seq (names_clear end_of_put) (names_exact end_of_put) (λ v t l. a_put_reveal (v.1) (v.0))

pub puts_clear : Clear Puts
puts_clear = clear_of (λ n. clear_seq (clear_to (names_clear end_of_put)) (λ v. put_reveals_clear n (v.1) (v.0)))

-- ---- from the grammar

condition_of : (tp : List Lexeme) (p : Pred) → SpellsCondition tp p → (b : Bool) × (t : List Lexeme)
    × (tp ++ symbol mark.Dot ∷ [] ≡ reveal_token b ∷ t) × Condition b t p
condition_of tp p (inl w) = (false, [], ap (λ (u : List Lexeme). u ++ symbol mark.Dot ∷ []) w.0, record { empty = refl; same = sym w.1 })
condition_of tp p (inr w) = (
  true,
  w.0 ++ symbol mark.Dot ∷ [],
  ap (λ (u : List Lexeme). u ++ symbol mark.Dot ∷ []) w.1,
  record {
    first = w.0;
    second = symbol mark.Dot ∷ [];
    value = p;
    parts = refl;
    prefix = w.2;
    back = record {
      first = symbol mark.Dot ∷ [];
      second = [];
      value = tt;
      parts = refl;
      prefix = record { single = refl };
      back = record {
        empty = refl;
        same = refl;
      };
    };
  },
)

reveals_of : (puts : List (List ℕ)) (a : List ℕ) (as' : List (List ℕ)) (tp : List Lexeme) (p : Pred) → SpellsCondition tp p
    → Reveals puts ((names a as' ++ tp) ++ symbol mark.Dot ∷ []) (puts, a ∷ as', p)
reveals_of puts a as' tp p l =
    let c = condition_of tp p l in
    record {
      first = names a as' ++ reveal_token c.0 ∷ [];
      second = c.1;
      value = (a ∷ as', c.0);
      parts = append_assoc (names a as') tp (symbol mark.Dot ∷ []) ∙ ap (λ (u : List Lexeme). names a as' ++ u) c.2
          ∙ sym (append_assoc (names a as') (reveal_token c.0 ∷ []) c.1);
      prefix = refl;
      back = record { first = c.1; second = []; value = p; parts = sym (append-nil c.1); prefix = c.3; back = record { empty = refl; same = refl } };
    }

pub reveal_from : (th : List Lexeme) (puts reveals : List (List ℕ)) (test : Pred)
    → SpellsHeading (keyword word.Reveal ∷ th) puts reveals test → Reveals [] (th ++ symbol mark.Dot ∷ []) (puts, reveals, test)
reveal_from th [] [] p l = absurd l
reveal_from th (x ∷ xs) [] p l = let k = l.0 in absurd cc
reveal_from th [] (a ∷ as') p l =
    let is : th ≡ names a as' ++ l.0 = tail_is (keyword word.Reveal) (keyword word.Reveal) th _ l.1 in
    subst (λ (u : List Lexeme). Reveals [] (u ++ symbol mark.Dot ∷ []) ([], a ∷ as', p)) (sym is) (reveals_of [] a as' l.0 p l.2)
reveal_from th (x ∷ xs) (a ∷ as') p l = let k = l.1 in absurd cc

pub put_from : (th : List Lexeme) (puts reveals : List (List ℕ)) (test : Pred) → SpellsHeading (keyword word.Put ∷ th) puts reveals test
    → Puts (th ++ symbol mark.Dot ∷ []) (puts, reveals, test)
put_from th [] [] p l = absurd l
put_from th (x ∷ xs) [] p l =
    let is : th ≡ names x xs = tail_is (keyword word.Put) (keyword word.Put) th _ l.0 in
    record {
      first = names x xs ++ symbol mark.Dot ∷ [];
      second = [];
      value = (x ∷ xs, false);
      parts = ap (λ (u : List Lexeme). u ++ symbol mark.Dot ∷ []) is ∙ sym (append-nil (names x xs ++ symbol mark.Dot ∷ []));
      prefix = refl;
      back = record { empty = refl; same = λ i. (x ∷ xs, [], sym l.1 i) };
    }
put_from th [] (a ∷ as') p l = let k = l.1 in absurd cc
put_from th (x ∷ xs) (a ∷ as') p l =
    let is : th ≡ names x xs ++ symbol mark.Ampersand ∷ l.0 = tail_is (keyword word.Put) (keyword word.Put) th _ l.1 in
    let r = l.2 in
    let text : l.0 ++ symbol mark.Dot ∷ [] ≡ keyword word.Reveal ∷ ((names a as' ++ r.0) ++ symbol mark.Dot ∷ []) =
    ap (λ (u : List Lexeme). u ++ symbol mark.Dot ∷ []) r.1 in
    record {
      first = names x xs ++ symbol mark.Ampersand ∷ [];
      second = l.0 ++ symbol mark.Dot ∷ [];
      value = (x ∷ xs, true);
      parts = ap (λ (u : List Lexeme). u ++ symbol mark.Dot ∷ []) is
          ∙ append_assoc (names x xs) (symbol mark.Ampersand ∷ l.0) (symbol mark.Dot ∷ [])
          ∙ sym (append_assoc (names x xs) (symbol mark.Ampersand ∷ []) (l.0 ++ symbol mark.Dot ∷ []));
      prefix = refl;
      back = record {
        first = keyword word.Reveal ∷ [];
        second = (names a as' ++ r.0) ++ symbol mark.Dot
            ∷ [];
        value = tt;
        parts = text;
        prefix = record { single = refl };
        back = reveals_of (x ∷ xs) a as' r.0 p r.2;
      };
    }

-- ---- to the grammar

-- behind this token stands the rest of a heading and its point
abbrev pub HeadedBy : Lexeme → List Lexeme → Heading → Type 0
HeadedBy c t h = (th : List Lexeme) × (c ∷ t ≡ th ++ symbol mark.Dot ∷ []) × SpellsHeading th (h.0) (h.1) (h.2)

condition_to : (b : Bool) (t : List Lexeme) (p : Pred) → Condition b t p → (tp : List Lexeme)
    × (reveal_token b ∷ t ≡ tp ++ symbol mark.Dot ∷ []) × SpellsCondition tp p
condition_to false t p s = ([], ap (λ (u : List Lexeme). symbol mark.Dot ∷ u) s.empty, inl (refl, sym s.same))
condition_to true t p s =
    let is : t ≡ s.first ++ symbol mark.Dot ∷ [] = s.parts ∙ rw (s.back.parts, s.back.prefix.single, s.back.back.empty) refl in (
      keyword word.If ∷ s.first,
      ap (λ (u : List Lexeme). keyword word.If ∷ u) is,
      inr
          (s.first, refl, subst (λ (z : Pred). SpellsTest s.first z) s.back.back.same s.prefix),
    )

-- names that are revealed, of which there is one, and the condition
abbrev SomeReveals : List Lexeme → List (List ℕ) → Pred → Type 0
SomeReveals t [] p = ⊥
SomeReveals t (a ∷ as') p = SpellsReveals t a as' p

revealed : (t first second : List Lexeme) (xs : List (List ℕ)) (e : Bool) (p : Pred) → t ≡ first ++ second → Listed reveal_token first xs e
    → Condition e second p → (th : List Lexeme) × (keyword word.Reveal ∷ t ≡ th ++ symbol mark.Dot ∷ []) × SomeReveals th xs p
revealed t first second [] e p is l k = absurd l
revealed t first second (a ∷ as') e p is l k =
    let c = condition_to e second p k in
    let one : t ≡ (names a as' ++ reveal_token e ∷ []) ++ second = is ∙ ap (λ (u : List Lexeme). u ++ second) l in
    let two : t ≡ (names a as' ++ c.0) ++ symbol mark.Dot ∷ [] =
    one ∙ append_assoc (names a as') (reveal_token e ∷ []) second
    ∙ ap (λ (u : List Lexeme). names a as' ++ u) c.1 ∙ sym (append_assoc (names a as') c.0 (symbol mark.Dot ∷ [])) in
    (keyword word.Reveal ∷ (names a as' ++ c.0), ap (λ (u : List Lexeme). keyword word.Reveal ∷ u) two, (c.0, refl, c.2))

reveals_to : (puts : List (List ℕ)) (t : List Lexeme) (h : Heading) → Reveals puts t h → (puts ≡ h.0) × (th : List Lexeme)
    × (keyword word.Reveal ∷ t ≡ th ++ symbol mark.Dot ∷ []) × SomeReveals th (h.1) (h.2)
reveals_to puts t h s =
    let is : t ≡ s.first ++ s.back.first = s.parts ∙ rw (s.back.parts, s.back.back.empty, append-nil s.back.first) refl in
    let r = revealed t s.first s.back.first s.value.0 s.value.1 s.back.value is s.prefix s.back.prefix in
    let same = s.back.back.same in
    (ap (λ (z : Heading). z.0) same, r.0, r.1, subst (λ (z : Heading). SomeReveals r.0 (z.1) (z.2)) same r.2)

only_reveals : (th : List Lexeme) (reveals : List (List ℕ)) (p : Pred) → SomeReveals th reveals p → SpellsHeading th [] reveals p
only_reveals th [] p l = l
only_reveals th (a ∷ as') p l = l

pub reveal_to : (t : List Lexeme) (h : Heading) → Reveals [] t h → HeadedBy (keyword word.Reveal) t h
reveal_to t h s =
    let r = reveals_to [] t h s in
    (r.1, r.2, subst (λ (z : List (List ℕ)). SpellsHeading r.1 z (h.1) (h.2)) r.0 (only_reveals r.1 (h.1) (h.2) r.3))

put_and_reveals : (t first second th : List Lexeme) (x : List ℕ) (xs reveals : List (List ℕ)) (p : Pred) → t
    ≡ (names x xs ++ symbol mark.Ampersand ∷ []) ++ second → second ≡ th ++ symbol mark.Dot ∷ [] → SomeReveals th reveals p
    → HeadedBy (keyword word.Put) t (x ∷ xs, reveals, p)
put_and_reveals t first second th x xs [] p is is2 l = absurd l
put_and_reveals t first second th x xs (a ∷ as') p is is2 l =
    let one : t ≡ (names x xs ++ symbol mark.Ampersand ∷ th) ++ symbol mark.Dot ∷ [] =
    is ∙ append_assoc (names x xs) (symbol mark.Ampersand ∷ []) second ∙ ap (λ (u : List Lexeme). names x xs ++ symbol mark.Ampersand ∷ u) is2
    ∙ sym (append_assoc (names x xs) (symbol mark.Ampersand ∷ th) (symbol mark.Dot ∷ [])) in
    (keyword word.Put ∷ (names x xs ++ symbol mark.Ampersand ∷ th), ap (λ (u : List Lexeme). keyword word.Put ∷ u) one, (th, refl, l))

put_at_end : (t first second : List Lexeme) (xs : List (List ℕ)) (e : Bool) (h : Heading) → t ≡ first ++ second
    → Listed put_token first xs e → PutReveals e xs second h → HeadedBy (keyword word.Put) t h
put_at_end t first second [] e h is l k = absurd l
put_at_end t first second (x ∷ xs) false h is l k =
    let one : t ≡ names x xs ++ symbol mark.Dot ∷ [] = is ∙ rw (l, k.empty, append-nil (names x xs ++ symbol mark.Dot ∷ [])) refl in
    subst (HeadedBy (keyword word.Put) t) k.same ((keyword word.Put ∷ names x xs, ap (λ (u : List Lexeme). keyword word.Put ∷ u) one, (refl, refl)))
put_at_end t first second (x ∷ xs) true h is l k =
    let r = reveals_to (x ∷ xs) k.second h k.back in
    let one : t ≡ (names x xs ++ symbol mark.Ampersand ∷ []) ++ second = is ∙ ap (λ (u : List Lexeme). u ++ second) l in
    let two : second ≡ r.1 ++ symbol mark.Dot ∷ [] = k.parts ∙ ap (λ (u : List Lexeme). u ++ k.second) k.prefix.single ∙ r.2 in
    subst (λ (z : List (List ℕ)). HeadedBy (keyword word.Put) t (z, h.1, h.2)) r.0 (put_and_reveals t first second r.1 x xs (h.1) (h.2) one two r.3)

pub put_to : (t : List Lexeme) (h : Heading) → Puts t h → HeadedBy (keyword word.Put) t h
put_to t h s = put_at_end t s.first s.second s.value.0 s.value.1 h s.parts s.prefix s.back

-- ---- the first token

-- the token begins a put or a reveal
abbrev pub begins_heading : Lexeme → Bool
begins_heading (keyword word.Put) = true
begins_heading (keyword word.Reveal) = true
begins_heading _ = false

pub heading_nothing : (puts reveals : List (List ℕ)) (test : Pred) → SpellsHeading [] puts reveals test → ⊥
heading_nothing [] [] p l = l
heading_nothing (x ∷ xs) [] p l = let k = l.0 in absurd cc
heading_nothing [] (a ∷ as') p l = let k = l.1 in absurd cc
heading_nothing (x ∷ xs) (a ∷ as') p l = let k = l.1 in absurd cc

pub heading_first : (c : Lexeme) (t : List Lexeme) (puts reveals : List (List ℕ)) (test : Pred) → SpellsHeading (c ∷ t) puts reveals test
    → begins_heading c ≡ true
heading_first c t [] [] p l = absurd l
heading_first c t (x ∷ xs) [] p l = ap begins_heading (head_is c (keyword word.Put) t _ l.0)
heading_first c t [] (a ∷ as') p l = ap begins_heading (head_is c (keyword word.Reveal) t _ l.1)
heading_first c t (x ∷ xs) (a ∷ as') p l = ap begins_heading (head_is c (keyword word.Put) t _ l.1)

-- a heading and what follows it: the heading begins with the first token
pub headed : (c : Lexeme) (t th tn : List Lexeme) (puts reveals : List (List ℕ)) (test : Pred) → c ∷ t ≡ th ++ symbol mark.Dot ∷ tn
    → SpellsHeading th puts reveals test → (u : List Lexeme) × (t ≡ u ++ symbol mark.Dot ∷ tn) × SpellsHeading (c ∷ u) puts reveals test
    × (begins_heading c ≡ true)
headed c t [] tn puts reveals p is l = absurd (heading_nothing puts reveals p l)
headed c t (x ∷ th) tn puts reveals p is l =
    let same : x ≡ c = sym (head_is c x t _ is) in
    let l' : SpellsHeading (c ∷ th) puts reveals p = subst (λ (z : Lexeme). SpellsHeading (z ∷ th) puts reveals p) same l in
    (th, tail_is c x t _ is, l', heading_first c th puts reveals p l')

pub headed_nothing : (th tn : List Lexeme) (puts reveals : List (List ℕ)) (test : Pred) → [] ≡ th ++ symbol mark.Dot ∷ tn → ⊥
headed_nothing [] tn puts reveals p is = absurd cc
headed_nothing (x ∷ th) tn puts reveals p is = absurd cc
