-- What spells an advert has no token that stands for another.
use Rattle.std.proofs.Common.{◌≡◌, ℕ, inl, inr, Bool, true, false, List, [], ◌∷◌, ◌++◌, refl, sym, subst}
use Rattle.spec_terms.specs.Term.{Expr, constant, length_of, plus, minus, Pred, always, both, negation, equal, less, Guarded, auth, after, put_reveal, withdraw, split, Contract, no_branch, branch, Parts, no_part, part}
use Rattle.spec_terms.specs.Advert.{Advert}
use Rattle.spec_terms.specs.declared.pre.Pre.{Pre}
use Rattle.spec_terms.specs.declared.pre.Pre.TheVariants.{Persistent, Volatile, Secret}
use Rattle.spec_text.specs.declared.lexeme.Lexeme.{Lexeme}
use Rattle.spec_text.specs.declared.lexeme.Lexeme.TheVariants.{Name as name, Number as number, LongName as long_name, HugeNumber as huge_number}
use Rattle.spec_text.specs.Grammar.{SpellsFormula, SpellsTest, more_names, SpellsCondition, SpellsReveals, SpellsHeading, SpellsBranch, SpellsChoice, SpellsMore, SpellsParts, SpellsMoreParts, entry, more_entries, SpellsPre, SpellsFee, Spells, StandsFor, StandFor}
use Rattle.theory_text.proofs.Told.FirstToken.{stands_itself}

-- the token stands for itself alone
abbrev is_plain : Lexeme → Bool
is_plain long_name = false
is_plain huge_number = false
is_plain _ = true

abbrev pub Plain : List Lexeme → Type 0
Plain [] = Unit {0}
Plain (c ∷ t) = (is_plain c ≡ true) × Plain t

plain_join : (t u : List Lexeme) → Plain t → Plain u → Plain (t ++ u)
plain_join [] u p q = q
plain_join (c ∷ t) u p q = (p.0, plain_join t u p.1 q)

pub plain_prefix : (t u : List Lexeme) → Plain (t ++ u) → Plain t
plain_prefix [] u p = tt
plain_prefix (c ∷ t) u p = (p.0, plain_prefix t u p.1)

plain_by : (t u : List Lexeme) → t ≡ u → Plain u → Plain t
plain_by t u e p = subst Plain (sym e) p

-- ---- expressions and predicates

plain_formula : (a : Expr) (t : List Lexeme) → SpellsFormula t a → Plain t
plain_formula (constant n) t l = plain_by t _ l (refl, tt)
plain_formula (length_of x) t l = plain_by t _ l (refl, (refl, (refl, tt)))
plain_formula (plus e f) t l = plain_by t _ l.2 (refl, plain_join l.0 _ (plain_formula e l.0 l.3) (refl, plain_join l.1 _ (plain_formula f l.1 l.4) (refl, tt)))
plain_formula (minus e f) t l =
    plain_by t _ l.2 (refl, plain_join l.0 _ (plain_formula e l.0 l.3) (refl, plain_join l.1 _ (plain_formula f l.1 l.4) (refl, tt)))

plain_test : (p : Pred) (t : List Lexeme) → SpellsTest t p → Plain t
plain_test always t l = plain_by t _ l (refl, tt)
plain_test (both p q) t l = plain_by t _ l.2 (refl, plain_join l.0 _ (plain_test p l.0 l.3) (refl, plain_join l.1 _ (plain_test q l.1 l.4) (refl, tt)))
plain_test (negation p) t l = plain_by t _ l.1 (refl, plain_test p l.0 l.2)
plain_test (equal e f) t l = plain_by t _ l.2 (plain_join l.0 _ (plain_formula e l.0 l.3) (refl, plain_formula f l.1 l.4))
plain_test (less e f) t l = plain_by t _ l.2 (plain_join l.0 _ (plain_formula e l.0 l.3) (refl, plain_formula f l.1 l.4))

-- ---- headings

plain_names : (xs : List (List ℕ)) → Plain (more_names xs)
plain_names [] = tt
plain_names (x ∷ xs) = (refl, (refl, plain_names xs))

plain_condition : (t : List Lexeme) (p : Pred) → SpellsCondition t p → Plain t
plain_condition t p (inl w) = plain_by t _ w.0 tt
plain_condition t p (inr w) = plain_by t _ w.1 (refl, plain_test p w.0 w.2)

plain_reveals : (t : List Lexeme) (a : List ℕ) (as' : List (List ℕ)) (p : Pred) → SpellsReveals t a as' p → Plain t
plain_reveals t a as' p l = plain_by t _ l.1 (refl, (refl, plain_join (more_names as') l.0 (plain_names as') (plain_condition l.0 p l.2)))

plain_heading : (t : List Lexeme) (puts reveals : List (List ℕ)) (p : Pred) → SpellsHeading t puts reveals p → Plain t
plain_heading t [] [] p l = absurd l
plain_heading t (x ∷ xs) [] p l = plain_by t _ l.0 (refl, (refl, plain_names xs))
plain_heading t [] (a ∷ as') p l = plain_reveals t a as' p l
plain_heading t (x ∷ xs) (a ∷ as') p l = plain_by t _ l.1 (refl, (refl, plain_join (more_names xs) _ (plain_names xs) (refl, plain_reveals l.0 a as' p l.2)))

-- ---- contracts

mutual
  plain_branch : (g : Guarded) (t : List Lexeme) → SpellsBranch t g → Plain t
  plain_branch (auth party body) t l = plain_by t _ l.1 (refl, (refl, plain_branch body l.0 l.2))
  plain_branch (after height body) t l = plain_by t _ l.1 (refl, (refl, (refl, plain_branch body l.0 l.2)))
  plain_branch (put_reveal puts reveals test next) t l =
      plain_by t _ l.2 (plain_join l.0 _ (plain_heading l.0 puts reveals test l.3) (refl, plain_choice next l.1 l.4))
  plain_branch (withdraw party) t l = plain_by t _ l (refl, (refl, tt))
  plain_branch (split parts) t l = plain_by t _ l.1 (refl, (refl, plain_join l.0 _ (plain_parts parts l.0 l.2) (refl, tt)))

  plain_choice : (c : Contract) (t : List Lexeme) → SpellsChoice t c → Plain t
  plain_choice no_branch t l = absurd l
  plain_choice (branch g bs) t (inl w) = plain_branch g t w.0
  plain_choice (branch g bs) t (inr w) =
      plain_by t _ w.2 (refl, plain_join w.0 _ (plain_branch g w.0 w.3) (plain_join w.1 _ (plain_more bs w.1 w.4) (refl, tt)))

  plain_more : (c : Contract) (t : List Lexeme) → SpellsMore t c → Plain t
  plain_more no_branch t l = plain_by t _ l tt
  plain_more (branch g bs) t l = plain_by t _ l.2 (refl, plain_join l.0 _ (plain_branch g l.0 l.3) (plain_more bs l.1 l.4))

  plain_parts : (ps : Parts) (t : List Lexeme) → SpellsParts t ps → Plain t
  plain_parts no_part t l = absurd l
  plain_parts (part v c ps) t l = plain_by t _ l.2 (refl, (refl, plain_join l.0 _ (plain_choice c l.0 l.3) (plain_more_parts ps l.1 l.4)))

  plain_more_parts : (ps : Parts) (t : List Lexeme) → SpellsMoreParts t ps → Plain t
  plain_more_parts no_part t l = plain_by t _ l tt
  plain_more_parts (part v c ps) t l = plain_by t _ l.2 (refl, (refl, (refl, plain_join l.0 _ (plain_choice c l.0 l.3) (plain_more_parts ps l.1 l.4))))

-- ---- adverts

plain_entry : (p : Pre) → Plain (entry p)
plain_entry (Persistent party v x) = (refl, (refl, (refl, (refl, (refl, (refl, tt))))))
plain_entry (Volatile party v x) = (refl, (refl, (refl, (refl, (refl, (refl, tt))))))
plain_entry (Secret party x) = (refl, (refl, (refl, (refl, tt))))

plain_entries : (ps : List Pre) → Plain (more_entries ps)
plain_entries [] = tt
plain_entries (p ∷ ps) = (refl, plain_join (entry p) _ (plain_entry p) (plain_entries ps))

plain_pre : (t : List Lexeme) (ps : List Pre) → SpellsPre t ps → Plain t
plain_pre t [] l = absurd l
plain_pre t (p ∷ ps) l = plain_by t _ l (refl, plain_join (entry p) _ (plain_entry p) (plain_join (more_entries ps) _ (plain_entries ps) (refl, tt)))

plain_fee : (t : List Lexeme) (fee : ℕ) → SpellsFee t fee → Plain t
plain_fee t fee (inl w) = plain_by t _ w.0 tt
plain_fee t fee (inr w) = plain_by t _ w (refl, (refl, tt))

pub plain_advert : (t : List Lexeme) (advert : Advert) → Spells t advert → Plain t
plain_advert t advert s = plain_by t _ s.parts
    (plain_join s.pre_part _ (plain_pre s.pre_part advert.pre s.pre)
    (plain_join s.fee_part s.root_part (plain_fee s.fee_part advert.fee s.fee) (plain_choice advert.root s.root_part s.root)))

-- ---- what plain tokens stand for

plain_stands : (c d : Lexeme) → is_plain c ≡ true → StandsFor c d → c ≡ d
plain_stands long_name (name bytes) h st = absurd cc
plain_stands huge_number (number n) h st = absurd cc
plain_stands c d h st = st

-- what stands for a plain front and one token more begins with that prefix
pub stands_prefix : (prefix : List Lexeme) (c : Lexeme) (within m : List Lexeme) → Plain prefix → StandFor (prefix ++ c ∷ within) m
    → (d : Lexeme) × (rest : List Lexeme) × StandsFor c d × (m ≡ prefix ++ d ∷ rest)
stands_prefix [] c within [] p st = absurd st
stands_prefix [] c within (d ∷ rest) p st = (d, rest, st.0, refl)
stands_prefix (x ∷ prefix) c within [] p st = absurd st
stands_prefix (x ∷ prefix) c within (y ∷ m) p st =
    let r = stands_prefix prefix c within m p.1 st.1 in
    let same : x ≡ y = plain_stands x y p.0 st.0 in
    (r.0, r.1, r.2, λ i. sym same i ∷ r.3 i)

pub stand_themselves : (t : List Lexeme) → StandFor t t
stand_themselves [] = tt
stand_themselves (c ∷ t) = (stands_itself c, stand_themselves t)

pub stand_and_one : (t : List Lexeme) (c d : Lexeme) → StandsFor c d → StandFor (t ++ c ∷ []) (t ++ d ∷ [])
stand_and_one [] c d st = (st, tt)
stand_and_one (x ∷ t) c d st = (stands_itself x, stand_and_one t c d st)
