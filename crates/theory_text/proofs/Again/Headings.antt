-- Headings that are within the limits are read, whatever follows.
use Rattle.std.proofs.Common.{◌≡◌, ℕ, Bool, true, false, List, [], ◌∷◌, ◌++◌, Some, Ok, refl, sym, ap, subst, ◌∙◌, append_assoc}
use Rattle.std.proofs.lemmas.List.{append-nil}
use Rattle.spec_terms.specs.Term.{Pred}
use Rattle.spec_terms.specs.Readable.{is_readable_test}
use Rattle.spec_text.specs.declared.token.Keyword.TheVariants as word
use Rattle.spec_text.specs.declared.token.Symbol.TheVariants as mark
use Rattle.spec_text.specs.declared.lexeme.Lexeme.{Lexeme}
use Rattle.spec_text.specs.declared.lexeme.Lexeme.TheVariants.{Keyword as keyword, Symbol as symbol, Name as name}
use Rattle.spec_text.specs.Grammar.{more_names}
use Rattle.spec_text.specs.Reading.{Seen, taken, comma_or, names_from}
use Rattle.spec_text.specs.ReadContract.{ends_put, ends_reveal, Heading, condition_at, reveals_at, put_reveals_at, puts_at}
use Rattle.theory_text.proofs.Told.NameLists.{Listed}
use Rattle.theory_text.proofs.Told.Headings.{put_token, reveal_token, Condition, Reveals, PutReveals, Puts}
use Rattle.theory_text.proofs.Again.Tests.{test_again}

-- ---- names

name_again : {E : Type 0} (tok : E → Lexeme) (ends : Lexeme → Seen E) (x : List ℕ) (xs : List (List ℕ)) (e : E) (t rest : List Lexeme)
    → names_from ends false t ≡ Ok ((xs, e), rest) → names_from ends true (name x ∷ t) ≡ Ok ((x ∷ xs, e), rest)
unfolding names_from
name_again tok ends x xs e t rest h = rw h refl

comma_again : {E : Type 0} (ends : Lexeme → Seen E) (t : List Lexeme) → names_from ends false (symbol mark.Comma ∷ t) ≡ names_from ends true t
unfolding names_from
comma_again ends t = refl

end_again : {E : Type 0} (ends : Lexeme → Seen E) (c : Lexeme) (e : E) (rest : List Lexeme) → comma_or ends c ≡ taken (Some e)
    → names_from ends false (c ∷ rest) ≡ Ok (([], e), rest)
unfolding names_from
end_again ends c e rest h = rw h refl

later_again : {E : Type 0} (tok : E → Lexeme) (ends : Lexeme → Seen E) → ((e : E) → comma_or ends (tok e) ≡ taken (Some e))
    → (xs : List (List ℕ)) (e : E) (rest : List Lexeme) → names_from ends false ((more_names xs ++ tok e ∷ []) ++ rest) ≡ Ok ((xs, e), rest)
later_again tok ends back [] e rest = end_again ends (tok e) e rest (back e)
later_again tok ends back (x ∷ xs) e rest =
    comma_again ends (name x ∷ ((more_names xs ++ tok e ∷ []) ++ rest))
    ∙ name_again tok ends x xs e ((more_names xs ++ tok e ∷ []) ++ rest) rest (later_again tok ends back xs e rest)

names_again : {E : Type 0} (tok : E → Lexeme) (ends : Lexeme → Seen E) → ((e : E) → comma_or ends (tok e) ≡ taken (Some e))
    → (t : List Lexeme) (xs : List (List ℕ)) (e : E) (rest : List Lexeme) → Listed tok t xs e → names_from ends true (t ++ rest) ≡ Ok ((xs, e), rest)
names_again tok ends back t [] e rest l = absurd l
names_again tok ends back t (x ∷ xs) e rest l =
    ap (λ (u : List Lexeme). names_from ends true (u ++ rest)) l
    ∙ name_again tok ends x xs e ((more_names xs ++ tok e ∷ []) ++ rest) rest (later_again tok ends back xs e rest)

put_ends : (o : Bool) → comma_or ends_put (put_token o) ≡ taken (Some o)
put_ends true = refl
put_ends false = refl

reveal_ends : (o : Bool) → comma_or ends_reveal (reveal_token o) ≡ taken (Some o)
reveal_ends true = refl
reveal_ends false = refl

-- ---- conditions and headings

condition_again : (b : Bool) (t rest : List Lexeme) (p : Pred) → Condition b t p → is_readable_test p ≡ true → condition_at b (t ++ rest) ≡ Ok (p, rest)
unfolding condition_at
condition_again false t rest p s h = rw (s.empty, s.same) refl
condition_again true t rest p s h =
    let text : t ++ rest ≡ s.first ++ symbol mark.Dot ∷ rest =
    rw (s.parts, s.back.parts, s.back.prefix.single, s.back.back.empty) (append_assoc s.first (symbol mark.Dot ∷ []) rest) in
    let h' : is_readable_test s.value ≡ true = subst (λ (z : Pred). is_readable_test z ≡ true) (sym s.back.back.same) h in
    let one = test_again s.value s.first (symbol mark.Dot ∷ rest) s.prefix h' in
    rw (text, one, s.back.back.same) refl

pub reveals_again : (puts : List (List ℕ)) (t rest : List Lexeme) (h : Heading) → Reveals puts t h → is_readable_test (h.2) ≡ true
    → reveals_at puts (t ++ rest) ≡ Ok (h, rest)
unfolding reveals_at
reveals_again puts t rest h s k =
    let text : t ++ rest ≡ s.first ++ (s.back.first ++ rest) =
    rw (s.parts, s.back.parts, s.back.back.empty, append-nil s.back.first) (append_assoc s.first s.back.first rest) in
    let k' : is_readable_test s.back.value ≡ true = subst (λ (z : Heading). is_readable_test (z.2) ≡ true) (sym s.back.back.same) k in
    let one = names_again reveal_token ends_reveal reveal_ends s.first s.value.0 s.value.1 (s.back.first ++ rest) s.prefix in
    let two = condition_again s.value.1 s.back.first rest s.back.value s.back.prefix k' in
    rw (text, one, two, s.back.back.same) refl

put_reveals_again : (b : Bool) (puts : List (List ℕ)) (t rest : List Lexeme) (h : Heading) → PutReveals b puts t h → is_readable_test (h.2)
    ≡ true → put_reveals_at b puts (t ++ rest) ≡ Ok (h, rest)
unfolding put_reveals_at
put_reveals_again false puts t rest h s k = rw (s.empty, s.same) refl
put_reveals_again true puts t rest h s k =
    let text : t ++ rest ≡ keyword word.Reveal ∷ (s.second ++ rest) = rw (s.parts, s.prefix.single) refl in
    rw text (reveals_again puts s.second rest h s.back k)

pub puts_again : (t rest : List Lexeme) (h : Heading) → Puts t h → is_readable_test (h.2) ≡ true → puts_at (t ++ rest) ≡ Ok (h, rest)
unfolding puts_at
puts_again t rest h s k =
    let text : t ++ rest ≡ s.first ++ (s.second ++ rest) = rw s.parts (append_assoc s.first s.second rest) in
    let one = names_again put_token ends_put put_ends s.first s.value.0 s.value.1 (s.second ++ rest) s.prefix in
    rw (text, one) (put_reveals_again s.value.1 s.value.0 s.second rest h s.back k)
