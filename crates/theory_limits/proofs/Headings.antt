-- The walk over what stands before the point of a put or reveal.
use Rattle.std.proofs.Common.{◌≡◌, ℕ, suc, Bool, true, false, List, [], ◌∷◌, ◌++◌, length, Option, Some, None, Ok, Err, refl, ◌∙◌}
use Rattle.spec_terms.specs.Term.{always}
use Rattle.spec_text.specs.declared.stop.Stop.TheVariants as stops
use Rattle.spec_text.specs.declared.token.Keyword.TheVariants as word
use Rattle.spec_text.specs.declared.token.Symbol.TheVariants as mark
use Rattle.spec_text.specs.declared.lexeme.Lexeme.{Lexeme}
use Rattle.spec_text.specs.declared.lexeme.Lexeme.TheVariants.{Keyword as keyword, Symbol as symbol, Name as name, LongName as long_name}
use Rattle.spec_text.specs.Reading.{Reads, ◌>>=◌, Seen, taken, wrong, above, take_seen, comma_or, names_from}
use Rattle.spec_text.specs.ReadContract.{ends_put, ends_reveal, Heading, condition_at, reveals_at, put_reveals_at, puts_at}
use Rattle.theory_limits.specs.Awaited.{Awaited, this_symbol, this_word, test, behind_put, behind_reveal}
use Rattle.theory_limits.specs.Awaited.{a_name as some_name}
use Rattle.theory_limits.proofs.Judged.{Judgement, judged, followed, Walks, walks_none, walks_seq}
use Rattle.theory_limits.proofs.Tokens.{walks_symbol, walks_word}
use Rattle.theory_limits.proofs.Formulas.{walks_test}

-- ---- names behind commas

-- the answer to what follows names, by what ended them
abbrev ended : (Bool → List Awaited) → List Awaited → ℕ → Reads (List (List ℕ) × Bool) → Judgement
ended rest more before (Ok x) = judged (rest (x.0.1) ++ more) before (x.1)
ended rest more before (Err e) = Err e

-- the answer to what follows a name, by how the next token was seen
abbrev seen_behind : Awaited → (Bool → List Awaited) → List Awaited → ℕ → Seen (Option Bool) → List Lexeme → Judgement
seen_behind behind rest more before (taken None) ts = judged (some_name ∷ behind ∷ more) before ts
seen_behind behind rest more before (taken (Some e)) ts = judged (rest e ++ more) before ts
seen_behind behind rest more before wrong ts = Err (stops.Syntax (suc (length ts)))
seen_behind behind rest more before (above w) ts = Err (stops.Limit w (suc (length ts)))

-- what is awaited behind a name takes the tokens that end names
record Ends (behind : Awaited) (rest : Bool → List Awaited) (ends : Lexeme → Seen Bool) : Type 0 where
  at : (more : List Awaited) (before : ℕ) (t : Lexeme) (ts : List Lexeme)
      → judged (behind ∷ more) before (t ∷ ts) ≡ seen_behind behind rest more before (comma_or ends t) ts

abbrev waiting : Awaited → Bool → List Awaited → List Awaited
waiting behind true more = some_name ∷ behind ∷ more
waiting behind false more = behind ∷ more

one_more : (rest : Bool → List Awaited) (more : List Awaited) (before : ℕ) (x : List ℕ) (r : Reads (List (List ℕ) × Bool))
    → ended rest more before r ≡ ended rest more before (r >>= λ r. Ok ((x ∷ r.0.0, r.0.1), r.1))
one_more rest more before x (Ok y) = refl
one_more rest more before x (Err e) = refl

behind_by : (behind : Awaited) (rest : Bool → List Awaited) (ends : Lexeme → Seen Bool) (more : List Awaited) (before : ℕ)
    (ts : List Lexeme) → judged (some_name ∷ behind ∷ more) before ts ≡ ended rest more before (names_from ends true ts)
    → (s : Seen (Option Bool))
    → seen_behind behind rest more before s ts ≡ ended rest more before
    (take_seen s ts >>= λ o. elim (o.0) [ None ↦ names_from ends true ts | Some e ↦ Ok (([], e), ts) ])
behind_by behind rest ends more before ts h (taken None) = h
behind_by behind rest ends more before ts h (taken (Some e)) = refl
behind_by behind rest ends more before ts h wrong = refl
behind_by behind rest ends more before ts h (above w) = refl

names_go : (behind : Awaited) (rest : Bool → List Awaited) (ends : Lexeme → Seen Bool) → Ends behind rest ends
    → (awaited : Bool) (more : List Awaited) (before : ℕ) (ts : List Lexeme)
    → judged (waiting behind awaited more) before ts ≡ ended rest more before (names_from ends awaited ts)
unfolding names_from
names_go behind rest ends e true more before [] = refl
names_go behind rest ends e false more before [] = refl
names_go behind rest ends e true more before (name x ∷ ts) = names_go behind rest ends e false more before ts
    ∙ one_more rest more before x (names_from ends false ts)
names_go behind rest ends e true more before (long_name ∷ ts) = refl
names_go behind rest ends e true more before (t ∷ ts) = refl
names_go behind rest ends e false more before (t ∷ ts) = e.at more before t ts
    ∙ behind_by behind rest ends more before ts (names_go behind rest ends e true more before ts) (comma_or ends t)

-- ---- reveals

abbrev behind_names : Bool → List Awaited
behind_names true = test 1 ∷ this_symbol mark.Dot ∷ []
behind_names false = []

reveal_ends : (more : List Awaited) (before : ℕ) (t : Lexeme) (ts : List Lexeme)
    → judged (behind_reveal ∷ more) before (t ∷ ts) ≡ seen_behind behind_reveal behind_names more before (comma_or ends_reveal t) ts
reveal_ends more before (symbol mark.Comma) ts = refl
reveal_ends more before (symbol mark.Dot) ts = refl
reveal_ends more before (keyword word.If) ts = refl
reveal_ends more before t ts = refl

ends_reveals : Ends behind_reveal behind_names ends_reveal
ends_reveals = record { at = reveal_ends }

condition_walks : (b : Bool) → Walks (behind_names b) (condition_at b)
unfolding condition_at
condition_walks true = walks_seq walks_test (λ p. walks_seq (walks_symbol mark.Dot) (λ o. walks_none p))
condition_walks false = walks_none always

reveals_end : (puts names : List (List ℕ)) (e : Bool) (more : List Awaited) (before : ℕ) (ts : List Lexeme)
    → judged (behind_names e ++ more) before ts ≡ followed {A = Heading} (condition_at e ts >>= λ p. Ok ((puts, names, p.0), p.1))
    (judged more before)
reveals_end puts names true more before ts =
    (walks_seq (condition_walks true) (λ p. walks_none {A = Heading} (puts, names, p))).goes more before ts
reveals_end puts names false more before ts =
    (walks_seq (condition_walks false) (λ p. walks_none {A = Heading} (puts, names, p))).goes more before ts

reveals_by : (puts : List (List ℕ)) (more : List Awaited) (before : ℕ) (r : Reads (List (List ℕ) × Bool))
    → ended behind_names more before r ≡ followed {A = Heading}
    (r >>= λ a. condition_at (a.0.1) (a.1) >>= λ p. Ok ((puts, a.0.0, p.0), p.1)) (judged more before)
reveals_by puts more before (Ok x) = reveals_end puts (x.0.0) (x.0.1) more before (x.1)
reveals_by puts more before (Err e) = refl

reveals_go : (puts : List (List ℕ)) (more : List Awaited) (before : ℕ) (ts : List Lexeme)
    → judged (some_name ∷ behind_reveal ∷ more) before ts ≡ followed (reveals_at puts ts) (judged more before)
unfolding reveals_at
reveals_go puts more before ts = names_go behind_reveal behind_names ends_reveal ends_reveals true more before ts
    ∙ reveals_by puts more before (names_from ends_reveal true ts)

pub walks_reveals : (puts : List (List ℕ)) → Walks (some_name ∷ behind_reveal ∷ []) (reveals_at puts)
walks_reveals puts = record { goes = reveals_go puts }

-- ---- puts

abbrev behind_puts : Bool → List Awaited
behind_puts true = this_word word.Reveal ∷ some_name ∷ behind_reveal ∷ []
behind_puts false = []

put_ends : (more : List Awaited) (before : ℕ) (t : Lexeme) (ts : List Lexeme)
    → judged (behind_put ∷ more) before (t ∷ ts) ≡ seen_behind behind_put behind_puts more before (comma_or ends_put t) ts
put_ends more before (symbol mark.Comma) ts = refl
put_ends more before (symbol mark.Dot) ts = refl
put_ends more before (symbol mark.Ampersand) ts = refl
put_ends more before t ts = refl

ends_puts : Ends behind_put behind_puts ends_put
ends_puts = record { at = put_ends }

put_reveals_walk : (b : Bool) (puts : List (List ℕ)) → Walks (behind_puts b) (put_reveals_at b puts)
unfolding put_reveals_at
put_reveals_walk true puts = walks_seq (walks_word word.Reveal) (λ w. walks_reveals puts)
put_reveals_walk false puts = walks_none (puts, [], always)

puts_by : (more : List Awaited) (before : ℕ) (r : Reads (List (List ℕ) × Bool))
    → ended behind_puts more before r ≡ followed (r >>= λ x. put_reveals_at (x.0.1) (x.0.0) (x.1)) (judged more before)
puts_by more before (Ok x) = (put_reveals_walk (x.0.1) (x.0.0)).goes more before (x.1)
puts_by more before (Err e) = refl

puts_go : (more : List Awaited) (before : ℕ) (ts : List Lexeme)
    → judged (some_name ∷ behind_put ∷ more) before ts ≡ followed (puts_at ts) (judged more before)
unfolding puts_at
puts_go more before ts = names_go behind_put behind_puts ends_put ends_puts true more before ts
    ∙ puts_by more before (names_from ends_put true ts)

pub walks_puts : Walks (some_name ∷ behind_put ∷ []) puts_at
walks_puts = record { goes = puts_go }
