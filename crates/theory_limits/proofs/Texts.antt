-- What spells the parts that are awaited.
use Rattle.std.proofs.Common.{◌≡◌, ℕ, List, [], ◌∷◌, ◌++◌, refl, ap, sym, ◌∙◌, append_assoc, ◌⊎◌}
use Rattle.std.specs.Prelude.{Some, None}
use Rattle.spec_terms.specs.Term.{Pred, Contract}
use Rattle.spec_terms.specs.declared.pre.Pre.{Pre}
use Rattle.spec_text.specs.declared.token.Symbol.TheVariants as mark
use Rattle.spec_text.specs.declared.lexeme.Lexeme.{Lexeme}
use Rattle.spec_text.specs.declared.lexeme.Lexeme.TheVariants.{Keyword as keyword, Symbol as symbol, Name as name, Number as number}
use Rattle.spec_text.specs.Grammar.{SpellsFormula, SpellsTest, more_names, SpellsCondition, SpellsReveals, SpellsBranch, SpellsChoice, SpellsMore, SpellsParts, SpellsMoreParts, entry, more_entries, SpellsFee, StandsFor}
use Rattle.theory_limits.specs.Awaited.{entry as an_entry}
use Rattle.theory_limits.specs.Awaited.{Awaited, this_symbol, this_word, a_name, a_number, operator, relation, formula, test, behind_put, behind_reveal, wrapped, branch, behind_branch, contract, part, behind_part, entry_kind, behind_entry, fee_or_contract, Next}

-- a token before both
pub add : {t u : List Lexeme} (c : Lexeme) → t ≡ u → c ∷ t ≡ c ∷ u
add c e = ap (λ (z : List Lexeme). c ∷ z) e

-- ---- texts of parts

-- a text that stands for something
pub record Has {A : Type 0} (L : List Lexeme → A → Type 0) (t : List Lexeme) : Type 0 where
  pub value : A
  pub spelled : L t value

-- the same up to and with a token
pub record Closed {A : Type 0} (c : Lexeme) (L : List Lexeme → A → Type 0) (t : List Lexeme) : Type 0 where
  pub text : List Lexeme
  pub value : A
  pub parts : t ≡ text ++ c ∷ []
  pub spelled : L text value

-- further names, and a reveal behind `&`
pub record With_reveal (xs : List (List ℕ)) (t : List Lexeme) : Type 0 where
  pub reveal : List Lexeme
  pub first : List ℕ
  pub others : List (List ℕ)
  pub condition : Pred
  pub parts : t ≡ more_names xs ++ symbol mark.Ampersand ∷ reveal
  pub spelled : SpellsReveals reveal first others condition

-- what follows a name that is put
pub record PutText (t : List Lexeme) : Type 0 where
  pub text : List Lexeme
  pub parts : t ≡ text ++ symbol mark.Dot ∷ []
  pub names : List (List ℕ)
  pub kind : (text ≡ more_names names) ⊎ With_reveal names text

-- what follows a name that is revealed
pub record RevealText (t : List Lexeme) : Type 0 where
  pub text : List Lexeme
  pub parts : t ≡ text ++ symbol mark.Dot ∷ []
  pub names : List (List ℕ)
  pub test : List Lexeme
  pub condition : Pred
  pub named : text ≡ more_names names ++ test
  pub spelled : SpellsCondition test condition

-- what follows the party and colon of an entry
pub record EntryText (t : List Lexeme) : Type 0 where
  pub own : List Lexeme
  pub others : List Pre
  pub parts : t ≡ own ++ (more_entries others ++ symbol mark.RightBrace ∷ [])
  pub entry_of : (party : List ℕ) → (p : Pre) × (entry p ≡ name party ∷ symbol mark.Colon ∷ own)

-- an entry and those behind it, up to the brace that closes
pub record EntriesText (t : List Lexeme) : Type 0 where
  pub first : Pre
  pub others : List Pre
  pub parts : t ≡ entry first ++ (more_entries others ++ symbol mark.RightBrace ∷ [])

-- a fee, if there is one, and a contract
pub record FeeText (t : List Lexeme) : Type 0 where
  pub fee_part : List Lexeme
  pub root_part : List Lexeme
  pub fee : ℕ
  pub root : Contract
  pub parts : t ≡ fee_part ++ root_part
  pub fee_spelled : SpellsFee fee_part fee
  pub root_spelled : SpellsChoice root_part root

-- what spells a part
abbrev pub Text : Awaited → List Lexeme → Type 0
Text (this_symbol s) t = t ≡ symbol s ∷ []
Text (this_word k) t = t ≡ keyword k ∷ []
Text a_name t = (x : List ℕ) × (t ≡ name x ∷ [])
Text (a_number most) t = (n : ℕ) × (t ≡ number n ∷ [])
Text operator t = (t ≡ symbol mark.Plus ∷ []) ⊎ (t ≡ symbol mark.Minus ∷ [])
Text relation t = (t ≡ symbol mark.Equal ∷ []) ⊎ (t ≡ symbol mark.Less ∷ [])
Text (formula d) t = Has SpellsFormula t
Text (test d) t = Has SpellsTest t
Text behind_put t = PutText t
Text behind_reveal t = RevealText t
Text (wrapped d) t = Has SpellsBranch t
Text (branch d k) t = Has SpellsBranch t
Text (behind_branch d k) t = Closed (symbol mark.RightParen) SpellsMore t
Text (contract d) t = Has SpellsChoice t
Text (part d k) t = Closed (symbol mark.RightBracket) SpellsParts t
Text (behind_part d k) t = Closed (symbol mark.RightBracket) SpellsMoreParts t
Text (an_entry ds ss) t = EntriesText t
Text (entry_kind ds ss) t = EntryText t
Text (behind_entry ds ss) t = (ps : List Pre) × (t ≡ more_entries ps ++ symbol mark.RightBrace ∷ [])
Text fee_or_contract t = FeeText t

-- ---- texts in a row

pub record Joined (L M : List Lexeme → Type 0) (t : List Lexeme) : Type 0 where
  pub first : List Lexeme
  pub second : List Lexeme
  pub parts : t ≡ first ++ second
  pub prefix : L first
  pub back : M second

-- what spells parts one after the other
abbrev pub Texts : List Awaited → List Lexeme → Type 0
Texts [] t = t ≡ []
Texts (a ∷ as') t = Joined (Text a) (Texts as') t

pub divided : (as' bs : List Awaited) (t : List Lexeme) → Texts (as' ++ bs) t → Joined (Texts as') (Texts bs) t
divided [] bs t h = record { first = []; second = t; parts = refl; prefix = refl; back = h }
divided (a ∷ as') bs t h =
    let r = divided as' bs h.second h.back in
    record {
      first = h.first ++ r.first;
      second = r.second;
      parts = h.parts ∙ ap (λ (z : List Lexeme). h.first ++ z) r.parts ∙ sym (append_assoc h.first r.first r.second);
      prefix = record { first = h.first; second = r.first; parts = refl; prefix = h.prefix; back = r.prefix };
      back = r.back;
    }

-- ---- with the first token

-- Behind a token that lets these parts be awaited, what spells them spells a text together with what the token stands for.
abbrev pub Begun : (List Lexeme → Type 0) → Lexeme → Next → Type 0
Begun L c None = Unit {0}
Begun L c (Some new) = (t : List Lexeme) → Texts new t → (d : Lexeme) × StandsFor c d × L (d ∷ t)

pub begun_as : (L M : List Lexeme → Type 0) → ((t : List Lexeme) → L t → M t) → (c : Lexeme) (n : Next) → Begun L c n → Begun M c n
begun_as L M to c None h = tt
begun_as L M to c (Some new) h = λ t ts. let r = h t ts in (r.0, r.1, to (r.0 ∷ t) r.2)
