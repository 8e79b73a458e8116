-- The grammar of contract text, on what whole lists of tokens say.
use Rattle.std.specs.Prelude.{◌≡◌, ℕ, List, [], ◌∷◌, ◌++◌, ◌⊎◌}
use Rattle.spec_terms.specs.Term.{Expr, constant, length_of, plus, minus, Pred, always, both, negation, equal, less, Guarded, auth, after}
use Rattle.spec_terms.specs.Term.{put_reveal, withdraw, split, Contract, no_branch, branch, Parts, no_part, part}
use Rattle.spec_terms.specs.Advert.{Advert}
use Rattle.spec_terms.specs.declared.pre.Pre.{Pre}
use Rattle.spec_terms.specs.declared.pre.Pre.TheVariants.{Persistent, Volatile, Secret}
use Rattle.spec_text.specs.declared.lexeme.Lexeme.{Lexeme}
use Rattle.spec_text.specs.declared.lexeme.Lexeme.TheVariants.{Keyword as keyword, Symbol as symbol, Name as name, Number as number}
use Rattle.spec_text.specs.declared.lexeme.Lexeme.TheVariants.{LongName as long_name, HugeNumber as huge_number}
use Rattle.spec_text.specs.declared.token.Keyword.TheVariants as word
use Rattle.spec_text.specs.declared.token.Symbol.TheVariants as mark

-- ---- expressions and predicates

-- the tokens that spell an expression
abbrev pub SpellsFormula : List Lexeme → Expr → Type 0
SpellsFormula t (constant n) = t ≡ number n ∷ []
SpellsFormula t (length_of secret) = t ≡ symbol mark.Bar ∷ name secret ∷ symbol mark.Bar ∷ []
SpellsFormula t (plus e f) =
    (te : List Lexeme) × (tf : List Lexeme) × (t ≡ symbol mark.LeftParen ∷ (te ++ symbol mark.Plus ∷ (tf ++ symbol mark.RightParen ∷ [])))
    × SpellsFormula te e × SpellsFormula tf f
SpellsFormula t (minus e f) =
    (te : List Lexeme) × (tf : List Lexeme) × (t ≡ symbol mark.LeftParen ∷ (te ++ symbol mark.Minus ∷ (tf ++ symbol mark.RightParen ∷ [])))
    × SpellsFormula te e × SpellsFormula tf f

-- the tokens that spell a predicate
abbrev pub SpellsTest : List Lexeme → Pred → Type 0
SpellsTest t always = t ≡ keyword word.True ∷ []
SpellsTest t (negation p) = (tp : List Lexeme) × (t ≡ keyword word.Not ∷ tp) × SpellsTest tp p
SpellsTest t (both p q) =
    (tp : List Lexeme) × (tq : List Lexeme)
    × (t ≡ symbol mark.LeftBracket ∷ (tp ++ keyword word.And ∷ (tq ++ symbol mark.RightBracket ∷ [])))
    × SpellsTest tp p × SpellsTest tq q
SpellsTest t (equal e f) =
    (te : List Lexeme) × (tf : List Lexeme) × (t ≡ te ++ symbol mark.Equal ∷ tf) × SpellsFormula te e × SpellsFormula tf f
SpellsTest t (less e f) =
    (te : List Lexeme) × (tf : List Lexeme) × (t ≡ te ++ symbol mark.Less ∷ tf) × SpellsFormula te e × SpellsFormula tf f

-- ---- what stands before the point of a put or reveal

-- further names
abbrev pub more_names : List (List ℕ) → List Lexeme
more_names [] = []
more_names (x ∷ xs) = symbol mark.Comma ∷ name x ∷ more_names xs

-- names, the first of which is handed in alone
abbrev pub names : List ℕ → List (List ℕ) → List Lexeme
names x xs = name x ∷ more_names xs

-- a condition; a missing one is the predicate `true`
abbrev pub SpellsCondition : List Lexeme → Pred → Type 0
SpellsCondition t p = ((t ≡ []) × (p ≡ always)) ⊎ ((tp : List Lexeme) × (t ≡ keyword word.If ∷ tp) × SpellsTest tp p)

-- names that are revealed, and the condition
abbrev pub SpellsReveals : List Lexeme → List ℕ → List (List ℕ) → Pred → Type 0
SpellsReveals t a as' p = (tp : List Lexeme) × (t ≡ keyword word.Reveal ∷ (names a as' ++ tp)) × SpellsCondition tp p

-- a put, a reveal, or a put with a reveal; a put alone has the predicate `true`
abbrev pub SpellsHeading : List Lexeme → List (List ℕ) → List (List ℕ) → Pred → Type 0
SpellsHeading t [] [] p = ⊥
SpellsHeading t (x ∷ xs) [] p = (t ≡ keyword word.Put ∷ names x xs) × (p ≡ always)
SpellsHeading t [] (a ∷ as') p = SpellsReveals t a as' p
SpellsHeading t (x ∷ xs) (a ∷ as') p =
    (tr : List Lexeme) × (t ≡ keyword word.Put ∷ (names x xs ++ symbol mark.Ampersand ∷ tr)) × SpellsReveals tr a as' p

-- ---- contracts

abbrev mutual
  -- the tokens that spell a guarded term
  pub SpellsBranch : List Lexeme → Guarded → Type 0
  SpellsBranch t (auth party body) = (tb : List Lexeme) × (t ≡ name party ∷ symbol mark.Colon ∷ tb) × SpellsBranch tb body
  SpellsBranch t (after height body) =
      (tb : List Lexeme) × (t ≡ keyword word.After ∷ number height ∷ symbol mark.Colon ∷ tb) × SpellsBranch tb body
  SpellsBranch t (put_reveal puts reveals test next) =
      (th : List Lexeme) × (tn : List Lexeme) × (t ≡ th ++ symbol mark.Dot ∷ tn) × SpellsHeading th puts reveals test × SpellsChoice tn next
  SpellsBranch t (withdraw party) = t ≡ keyword word.Withdraw ∷ name party ∷ []
  SpellsBranch t (split parts) =
      (tp : List Lexeme) × (t ≡ keyword word.Split ∷ symbol mark.LeftBracket ∷ (tp ++ symbol mark.RightBracket ∷ [])) × SpellsParts tp parts

  -- the tokens that spell a contract: one guarded term, or some in brackets
  pub SpellsChoice : List Lexeme → Contract → Type 0
  SpellsChoice t no_branch = ⊥
  SpellsChoice t (branch b bs) =
      (SpellsBranch t b × (bs ≡ no_branch)) ⊎ ((tb : List Lexeme) × (tm : List Lexeme)
      × (t ≡ symbol mark.LeftParen ∷ (tb ++ (tm ++ symbol mark.RightParen ∷ []))) × SpellsBranch tb b × SpellsMore tm bs)

  -- further branches, each behind a plus
  pub SpellsMore : List Lexeme → Contract → Type 0
  SpellsMore t no_branch = t ≡ []
  SpellsMore t (branch b bs) =
      (tb : List Lexeme) × (tm : List Lexeme) × (t ≡ symbol mark.Plus ∷ (tb ++ tm)) × SpellsBranch tb b × SpellsMore tm bs

  -- the parts of a split, of which there is one
  pub SpellsParts : List Lexeme → Parts → Type 0
  SpellsParts t no_part = ⊥
  SpellsParts t (part value next ps) =
      (tn : List Lexeme) × (tm : List Lexeme) × (t ≡ number value ∷ symbol mark.Arrow ∷ (tn ++ tm))
      × SpellsChoice tn next × SpellsMoreParts tm ps

  -- further parts, each behind a comma
  pub SpellsMoreParts : List Lexeme → Parts → Type 0
  SpellsMoreParts t no_part = t ≡ []
  SpellsMoreParts t (part value next ps) =
      (tn : List Lexeme) × (tm : List Lexeme) × (t ≡ symbol mark.Comma ∷ number value ∷ symbol mark.Arrow ∷ (tn ++ tm))
      × SpellsChoice tn next × SpellsMoreParts tm ps

-- ---- adverts

-- an entry of a precondition
abbrev pub entry : Pre → List Lexeme
entry (Persistent party value deposit) =
    name party ∷ symbol mark.Colon ∷ symbol mark.Bang ∷ number value ∷ symbol mark.At ∷ name deposit ∷ []
entry (Volatile party value deposit) =
    name party ∷ symbol mark.Colon ∷ symbol mark.Question ∷ number value ∷ symbol mark.At ∷ name deposit ∷ []
entry (Secret party secret) = name party ∷ symbol mark.Colon ∷ keyword word.Secret ∷ name secret ∷ []

-- further entries, each behind a bar
abbrev pub more_entries : List Pre → List Lexeme
more_entries [] = []
more_entries (p ∷ ps) = symbol mark.Bar ∷ (entry p ++ more_entries ps)

-- a precondition, which has an entry
abbrev pub SpellsPre : List Lexeme → List Pre → Type 0
SpellsPre t [] = ⊥
SpellsPre t (p ∷ ps) = t ≡ symbol mark.LeftBrace ∷ (entry p ++ (more_entries ps ++ symbol mark.RightBrace ∷ []))

-- a fee; a missing one is 0
abbrev pub SpellsFee : List Lexeme → ℕ → Type 0
SpellsFee t fee = ((t ≡ []) × (fee ≡ 0)) ⊎ (t ≡ keyword word.Fee ∷ number fee ∷ [])

-- the tokens that spell an advert
pub record Spells (t : List Lexeme) (advert : Advert) : Type 0 where
  pub pre_part : List Lexeme
  pub fee_part : List Lexeme
  pub root_part : List Lexeme
  pub parts : t ≡ pre_part ++ (fee_part ++ root_part)
  pub pre : SpellsPre pre_part advert.pre
  pub fee : SpellsFee fee_part advert.fee
  pub root : SpellsChoice root_part advert.root

-- ---- what begins an advert

-- a long name stands for any name and a huge number for any number; every other token for itself
abbrev pub StandsFor : Lexeme → Lexeme → Type 0
StandsFor long_name (name bytes) = Unit {0}
StandsFor huge_number (number n) = Unit {0}
StandsFor t u = t ≡ u

-- the same token by token
abbrev pub StandFor : List Lexeme → List Lexeme → Type 0
StandFor [] [] = Unit {0}
StandFor [] (u ∷ us) = ⊥
StandFor (t ∷ ts) [] = ⊥
StandFor (t ∷ ts) (u ∷ us) = StandsFor t u × StandFor ts us

-- some advert begins with these tokens
pub record Begins (t : List Lexeme) : Type 0 where
  pub meant : List Lexeme
  pub stand : StandFor t meant
  pub more : List Lexeme
  pub advert : Advert
  pub spelled : Spells (meant ++ more) advert
