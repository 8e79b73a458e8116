-- What the reader of names behind commas tells, by the tokens that end the names.
use Rattle.std.proofs.Common.{◌≡◌, ℕ, true, false, List, [], ◌∷◌, ◌++◌, Option, Some, None, Result, Ok, refl, sym, ap, subst, ◌∙◌}
use Rattle.spec_terms.specs.declared.limit.Limit.{Limit}
use Rattle.spec_text.specs.declared.stop.Stop.{Stop}
use Rattle.spec_text.specs.declared.token.Symbol.TheVariants as mark
use Rattle.spec_text.specs.declared.lexeme.Lexeme.{Lexeme}
use Rattle.spec_text.specs.declared.lexeme.Lexeme.TheVariants.{Symbol as symbol, Name as name, LongName as long_name, HugeNumber as huge_number}
use Rattle.spec_text.specs.Grammar.{more_names, StandsFor}
use Rattle.spec_text.specs.Reading.{◌>>=◌, Seen, taken, wrong, above, take_seen, a_name, ending, comma_or, names_from}
use Rattle.theory_bitcoin.proofs.Languages.{Some_text}
use Rattle.theory_text.proofs.Told.Tells.{Tells, Exact, Clear, Behind, behind, moved, carried}
use Rattle.theory_text.proofs.Told.FirstToken.{Fair, Begun, ended, wrong_first, exceeded_first, stands_itself}
use Rattle.theory_text.proofs.Told.Sees.{Sees, name_takes}
use Rattle.theory_text.proofs.Told.Formulas.{head_is, tail_is}

-- what ends names
pub record Ends {E : Type 0} (tok : E → Lexeme) (ends : Lexeme → Seen E) : Type 0 where
  pub sees : Sees tok ends
  pub fair : Fair ends
  pub low : (c : Lexeme) (w : Limit) → ends c ≡ above w → ⊥
  pub apart : (e : E) → tok e ≡ symbol mark.Comma → ⊥

-- further names and what ends them
abbrev Later : {E : Type 0} → (E → Lexeme) → List Lexeme → List (List ℕ) × E → Type 0
Later tok t v = t ≡ more_names (v.0) ++ tok (v.1) ∷ []

abbrev pub Listed : {E : Type 0} → (E → Lexeme) → List Lexeme → List (List ℕ) → E → Type 0
Listed tok t [] e = ⊥
Listed tok t (x ∷ xs) e = t ≡ name x ∷ (more_names xs ++ tok e ∷ [])

-- names and what ends them
abbrev pub Names : {E : Type 0} → (E → Lexeme) → List Lexeme → List (List ℕ) × E → Type 0
Names tok t v = Listed tok t (v.0) (v.1)

-- ---- where names end

later_apart : {E : Type 0} (tok : E → Lexeme) (ends : Lexeme → Seen E) → Ends tok ends
    → (xs ys : List (List ℕ)) (e f : E) (x y : List Lexeme) → (more_names xs ++ tok e ∷ []) ++ x ≡ (more_names ys ++ tok f ∷ []) ++ y
    → ((xs ≡ ys) × (e ≡ f)) × (x ≡ y)
later_apart tok ends en [] [] e f x y h = ((refl, en.sees.one e f (head_is (tok e) (tok f) x y h)), tail_is (tok e) (tok f) x y h)
later_apart tok ends en [] (b ∷ ys) e f x y h = absurd (en.apart e (head_is (tok e) (symbol mark.Comma) _ _ h))
later_apart tok ends en (a ∷ xs) [] e f x y h = absurd (en.apart f (sym (head_is (symbol mark.Comma) (tok f) _ _ h)))
later_apart tok ends en (a ∷ xs) (b ∷ ys) e f x y h =
    let names : a ≡ b = cc in
    let rest : (more_names xs ++ tok e ∷ []) ++ x ≡ (more_names ys ++ tok f ∷ []) ++ y = cc in
    let r = later_apart tok ends en xs ys e f x y rest in
    let same = r.0.0 in
    ((cc, r.0.1), r.1)

names_apart : {E : Type 0} (tok : E → Lexeme) (ends : Lexeme → Seen E) → Ends tok ends
    → (t x u y : List Lexeme) (xs ys : List (List ℕ)) (e f : E) → Listed tok t xs e → Listed tok u ys f → t ++ x ≡ u ++ y → ((xs ≡ ys) × (e ≡ f)) × (x ≡ y)
names_apart tok ends en t x u y [] ys e f l m h = absurd l
names_apart tok ends en t x u y (a ∷ xs) [] e f l m h = absurd m
names_apart tok ends en t x u y (a ∷ xs) (b ∷ ys) e f l m h =
    let whole : (name a ∷ (more_names xs ++ tok e ∷ [])) ++ x ≡ (name b ∷ (more_names ys ++ tok f ∷ [])) ++ y =
    ap (λ (z : List Lexeme). z ++ x) (sym l) ∙ h ∙ ap (λ (z : List Lexeme). z ++ y) m in
    let names : a ≡ b = cc in
    let rest : (more_names xs ++ tok e ∷ []) ++ x ≡ (more_names ys ++ tok f ∷ []) ++ y = cc in
    let r = later_apart tok ends en xs ys e f x y rest in
    let same = r.0.0 in
    ((cc, r.0.1), r.1)

pub names_clear : {E : Type 0} {tok : E → Lexeme} {ends : Lexeme → Seen E} → Ends tok ends → Clear (Names tok)
names_clear {tok = tok} {ends = ends} en = record {
  apart = λ t x u y v w l m h. let r = names_apart tok ends en t x u y v.0 w.0 v.1 w.1 l m h in (λ i. (r.0.0 i, r.0.1 i), r.1);
}

-- ---- the first token

ending_wrong : {E : Type 0} (s : Seen E) → ending s ≡ wrong → s ≡ wrong
ending_wrong (taken e) h = absurd cc
ending_wrong wrong h = refl
ending_wrong (above w) h = absurd cc

ending_low : {E : Type 0} (s : Seen E) (w : Limit) → ending s ≡ above w → s ≡ above w
ending_low (taken e) w h = absurd cc
ending_low wrong w h = absurd cc
ending_low (above v) w h = cc

ending_none : {E : Type 0} (s : Seen E) → ending s ≡ taken None → ⊥
ending_none (taken e) h = absurd cc
ending_none wrong h = absurd cc
ending_none (above w) h = absurd cc

abbrev some_of : {E : Type 0} → E → Seen (Option E)
some_of e = taken (Some e)

some_is : {E : Type 0} (a b : E) → some_of a ≡ some_of b → a ≡ b
some_is a b h = cc

ending_some : {E : Type 0} (s : Seen E) (e : E) → ending s ≡ taken (Some e) → s ≡ taken e
ending_some (taken f) e h = ap (λ (z : _). taken z) (some_is f e h)
ending_some wrong e h = absurd cc
ending_some (above w) e h = absurd cc

comma_wrong : {E : Type 0} (ends : Lexeme → Seen E) (c : Lexeme) → comma_or ends c ≡ wrong → ends c ≡ wrong
comma_wrong ends (symbol mark.Comma) h = absurd cc
comma_wrong ends c h = ending_wrong (ends c) h

comma_low : {E : Type 0} (ends : Lexeme → Seen E) (c : Lexeme) (w : Limit) → comma_or ends c ≡ above w → ends c ≡ above w
comma_low ends (symbol mark.Comma) w h = absurd cc
comma_low ends c w h = ending_low (ends c) w h

comma_none : {E : Type 0} (ends : Lexeme → Seen E) (c : Lexeme) → comma_or ends c ≡ taken None → c ≡ symbol mark.Comma
comma_none ends (symbol mark.Comma) h = refl
comma_none ends c h = absurd (ending_none (ends c) h)

none_some : {E : Type 0} (e : E) → taken None ≡ some_of e → ⊥
none_some e h = absurd cc

comma_some : {E : Type 0} (ends : Lexeme → Seen E) (c : Lexeme) (e : E) → comma_or ends c ≡ taken (Some e) → ends c ≡ taken e
comma_some ends (symbol mark.Comma) e h = absurd (none_some e h)
comma_some ends c e h = ending_some (ends c) e h

-- ---- further names

some_later : {E : Type 0} (tok : E → Lexeme) → E → Some_text (Later tok)
some_later tok e = record { text = tok e ∷ []; value = ([], e); spelled = refl }

later_nothing : {E : Type 0} (tok : E → Lexeme) (xs : List (List ℕ)) (e : E) → [] ≡ more_names xs ++ tok e ∷ [] → ⊥
later_nothing tok [] e h = absurd cc
later_nothing tok (x ∷ xs) e h = absurd cc

later_first : {E : Type 0} (tok : E → Lexeme) (ends : Lexeme → Seen E) → Ends tok ends
    → (d : Lexeme) (t : List Lexeme) (xs : List (List ℕ)) (e : E) → d ∷ t ≡ more_names xs ++ tok e ∷ [] → comma_or ends d ≡ wrong → ⊥
later_first tok ends en d t [] e l h =
    let is : d ≡ tok e = head_is d (tok e) t [] l in
    en.sees.refuses d e (comma_wrong ends d h) (subst (λ (z : Lexeme). StandsFor d z) is (stands_itself d))
later_first tok ends en d t (x ∷ xs) e l h =
    let k : comma_or ends (symbol mark.Comma) ≡ wrong = subst (λ (z : Lexeme). comma_or ends z ≡ wrong) (head_is d (symbol mark.Comma) t _ l) h in
    absurd cc

later_begins : {E : Type 0} (tok : E → Lexeme) (ends : Lexeme → Seen E) → Ends tok ends → (c : Lexeme) (o : Option E) → comma_or ends c
    ≡ taken o → Some_text (Behind c (Later tok))
later_begins tok ends en c None h = record {
  text = name [] ∷ tok en.sees.some ∷ [];
  value = ([] ∷ [], en.sees.some);
  spelled = ap (λ (z : Lexeme). z ∷ name [] ∷ tok en.sees.some ∷ []) (comma_none ends c h);
}
later_begins tok ends en c (Some e) h = record { text = []; value = ([], e); spelled = ap (λ (z : Lexeme). z ∷ []) (en.sees.takes c e (comma_some ends c e h)) }

fair_comma : {E : Type 0} (ends : Lexeme → Seen E) → Fair ends → Fair (comma_or ends)
fair_comma ends fair = record {
  names = λ b h. ap ending (fair.names b (ending_wrong (ends long_name) h));
  numbers = λ n h. ap ending (fair.numbers n (ending_wrong (ends huge_number) h));
}

later_begun : {E : Type 0} (tok : E → Lexeme) (ends : Lexeme → Seen E) → Ends tok ends → Begun (comma_or ends) (Later tok)
later_begun tok ends en = record {
  nothing = λ v l. later_nothing tok v.0 v.1 l;
  first = λ d t v l h. later_first tok ends en d t v.0 v.1 l h;
  fair = fair_comma ends en.fair;
  some = some_later tok en.sees.some;
  begins = later_begins tok ends en;
  exceeds = λ c w h. absurd (en.low c w (comma_low ends c w h));
}

-- ---- names

some_names : {E : Type 0} (tok : E → Lexeme) → E → Some_text (Names tok)
some_names tok e = record { text = name [] ∷ tok e ∷ []; value = ([] ∷ [], e); spelled = refl }

listed_nothing : {E : Type 0} (tok : E → Lexeme) (xs : List (List ℕ)) (e : E) → Listed tok [] xs e → ⊥
listed_nothing tok [] e l = l
listed_nothing tok (x ∷ xs) e l = absurd cc

listed_first : {E : Type 0} (tok : E → Lexeme) (d : Lexeme) (t : List Lexeme) (xs : List (List ℕ)) (e : E) → Listed tok (d ∷ t) xs e → a_name d ≡ wrong → ⊥
listed_first tok d t [] e l h = l
listed_first tok d t (x ∷ xs) e l h = let k : a_name (name x) ≡ wrong = subst (λ (z : Lexeme). a_name z ≡ wrong) (head_is d (name x) t _ l) h in absurd cc

some_behind_name : {E : Type 0} (tok : E → Lexeme) → E → (bytes : List ℕ) → Some_text (Behind (name bytes) (Names tok))
some_behind_name tok e bytes = record { text = tok e ∷ []; value = (bytes ∷ [], e); spelled = refl }

names_begins : {E : Type 0} (tok : E → Lexeme) → E → (c : Lexeme) (x : List ℕ) → a_name c ≡ taken x → Some_text (Behind c (Names tok))
names_begins tok e (name bytes) x h = some_behind_name tok e bytes
names_begins tok e c x h = absurd cc

names_exceeds : {E : Type 0} (tok : E → Lexeme) → E → (c : Lexeme) (w : Limit) → a_name c ≡ above w → (d : Lexeme) × StandsFor c d
    × Some_text (Behind d (Names tok))
names_exceeds tok e long_name w h = (name [], tt, some_behind_name tok e [])
names_exceeds tok e c w h = absurd cc

names_begun : {E : Type 0} (tok : E → Lexeme) → E → Begun a_name (Names tok)
names_begun tok e = record {
  nothing = λ v l. listed_nothing tok v.0 v.1 l;
  first = λ d t v l h. listed_first tok d t v.0 v.1 l h;
  fair = record { names = λ b h. absurd cc; numbers = λ n h. refl };
  some = some_names tok e;
  begins = names_begins tok e;
  exceeds = names_exceeds tok e;
}

-- ---- the reader

name_from : {E : Type 0} (tok : E → Lexeme) (x : List ℕ) (t : List Lexeme) (xs : List (List ℕ)) (e : E) → Listed tok (name x ∷ t) xs e
    → (a : List (List ℕ) × E) × Later tok t a
name_from tok x t [] e l = absurd l
name_from tok x t (y ∷ xs) e l = ((xs, e), tail_is (name x) (name y) t _ l)

name_step : {E : Type 0} (tok : E → Lexeme) (x : List ℕ) (ts : List Lexeme) (r : Result ((List (List ℕ) × E) × List Lexeme) Stop)
    → Tells (Later tok) ts r → Tells (Names tok) (name x ∷ ts) (r >>= λ z. Ok ((x ∷ z.0.0, z.0.1), z.1))
name_step {E} tok x ts r h = behind (name x) (Names tok) ts (r >>= λ z. Ok ((x ∷ z.0.0, z.0.1), z.1)) (record {
  told = carried (λ (v : List (List ℕ) × E). (x ∷ v.0, v.1)) (Later tok) (Behind (name x) (Names tok)) ts (λ t v l. ap (λ (u : List Lexeme). name x ∷ u) l)
      (λ prefix rest parts c d after further v at stands l. name_from tok x (prefix ++ d ∷ further) v.0 v.1 l) r h.told;
})

names_at : {E : Type 0} (tok : E → Lexeme) (ends : Lexeme → Seen E) → Ends tok ends → (c : Lexeme) (ts : List Lexeme)
    → Tells (Later tok) ts (names_from ends false ts) → (s : Seen (List ℕ)) → a_name c ≡ s
    → Tells (Names tok) (c ∷ ts) (take_seen s ts >>= λ x. names_from ends false ts >>= λ r. Ok ((x.0 ∷ r.0.0, r.0.1), r.1))
names_at tok ends en c ts h (taken x) is =
    subst (λ (z : Lexeme). Tells (Names tok) (z ∷ ts) (names_from ends false ts >>= λ r. Ok ((x ∷ r.0.0, r.0.1), r.1)))
    (sym (name_takes c x is)) (name_step tok x ts (names_from ends false ts) h)
names_at tok ends en c ts h wrong is = wrong_first a_name (Names tok) (names_begun tok en.sees.some) c ts is
names_at tok ends en c ts h (above w) is = let k = names_exceeds tok en.sees.some c w is in exceeded_first (Names tok) c k.0 ts w k.1 k.2

later_from : {E : Type 0} (tok : E → Lexeme) (ends : Lexeme → Seen E) → Ends tok ends → (t : List Lexeme) (xs : List (List ℕ)) (e : E)
    → symbol mark.Comma ∷ t ≡ more_names xs ++ tok e ∷ [] → Listed tok t xs e
later_from tok ends en t [] e l = absurd (en.apart e (sym (head_is (symbol mark.Comma) (tok e) t [] l)))
later_from tok ends en t (x ∷ xs) e l = tail_is (symbol mark.Comma) (symbol mark.Comma) t _ l

later_to : {E : Type 0} (tok : E → Lexeme) (t : List Lexeme) (xs : List (List ℕ)) (e : E) → Listed tok t xs e → symbol mark.Comma ∷ t
    ≡ more_names xs ++ tok e ∷ []
later_to tok t [] e l = absurd l
later_to tok t (x ∷ xs) e l = ap (λ (u : List Lexeme). symbol mark.Comma ∷ u) l

later_at : {E : Type 0} (tok : E → Lexeme) (ends : Lexeme → Seen E) → Ends tok ends → (c : Lexeme) (ts : List Lexeme)
    → Tells (Names tok) ts (names_from ends true ts) → (s : Seen (Option E)) → comma_or ends c ≡ s
    → Tells (Later tok) (c ∷ ts) (take_seen s ts >>= λ o. elim (o.0) [ None ↦ names_from ends true ts | Some e ↦ Ok (([], e), ts) ])
later_at tok ends en c ts h (taken None) is =
    subst (λ (z : Lexeme). Tells (Later tok) (z ∷ ts) (names_from ends true ts)) (sym (comma_none ends c is))
    (behind (symbol mark.Comma) (Later tok) ts (names_from ends true ts) (record {
      told = moved (Names tok) (Behind (symbol mark.Comma) (Later tok)) ts (λ t v l. later_to tok t v.0 v.1 l)
          (λ t v l. later_from tok ends en t v.0 v.1 l) (names_from ends true ts) h.told;
    }))
later_at tok ends en c ts h (taken (Some e)) is =
    record { told = record { text = c ∷ []; parts = refl; spelled = ap (λ (z : Lexeme). z ∷ []) (en.sees.takes c e (comma_some ends c e is)) } }
later_at tok ends en c ts h wrong is = wrong_first (comma_or ends) (Later tok) (later_begun tok ends en) c ts is
later_at tok ends en c ts h (above w) is = absurd (en.low c w (comma_low ends c w is))

names_tell : {E : Type 0} (tok : E → Lexeme) (ends : Lexeme → Seen E) → Ends tok ends → (ts : List Lexeme)
    → Tells (Names tok) ts (names_from ends true ts) × Tells (Later tok) ts (names_from ends false ts)
unfolding names_from
names_tell tok ends en [] = (ended a_name (Names tok) (names_begun tok en.sees.some), ended (comma_or ends) (Later tok) (later_begun tok ends en))
names_tell tok ends en (c ∷ ts) =
    let h = names_tell tok ends en ts in
    (names_at tok ends en c ts h.1 (a_name c) refl, later_at tok ends en c ts h.0 (comma_or ends c) refl)

-- names are read exactly
pub names_exact : {E : Type 0} {tok : E → Lexeme} {ends : Lexeme → Seen E} → Ends tok ends → Exact (Names tok) (names_from ends true)
names_exact {tok = tok} {ends = ends} en = record { some = some_names tok en.sees.some; tells = λ ts. (names_tell tok ends en ts).0 }
