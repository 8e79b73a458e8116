-- The texts of branches, of choices and of parts, with the brackets that end them, and their first tokens.
use Rattle.std.proofs.Common.{◌≡◌, ℕ, inl, Bool, true, false, List, [], ◌∷◌, ◌++◌, refl, ap, ◌∙◌}
use Rattle.spec_terms.specs.Term.{Guarded, auth, after, put_reveal, withdraw, split, Contract, no_branch, branch, Parts, no_part, part, always}
use Rattle.spec_terms.specs.declared.limit.Limit.{Limit}
use Rattle.spec_text.specs.declared.token.Keyword.TheVariants as word
use Rattle.spec_text.specs.declared.token.Symbol.TheVariants as mark
use Rattle.spec_text.specs.declared.lexeme.Lexeme.{Lexeme}
use Rattle.spec_text.specs.declared.lexeme.Lexeme.TheVariants.{Keyword as keyword, Symbol as symbol, Name as name, Number as number, LongName as long_name, HugeNumber as huge_number}
use Rattle.spec_text.specs.Grammar.{SpellsBranch, SpellsChoice, SpellsMore, SpellsParts, StandsFor}
use Rattle.spec_text.specs.Reading.{taken, wrong, above, small_number}
use Rattle.spec_text.specs.ReadContract.{begins_branch, a_value}
use Rattle.theory_bitcoin.proofs.Languages.{Some_text}
use Rattle.spec_data.specs.Ranges.{max_money}
use Rattle.std.specs.Prelude.{nat_le}
use Rattle.spec_terms.specs.Readable.{count_of, count_under, count_of_parts}
use Rattle.theory_text.proofs.Told.Tells.{Behind}
use Rattle.theory_text.proofs.Told.FirstToken.{Begun}
use Rattle.theory_text.proofs.Told.CountedTexts.{Counted}
use Rattle.theory_text.proofs.Told.Formulas.{not_wrong}
use Rattle.theory_text.proofs.Told.Headings.{begins_heading, headed, headed_nothing}

-- ---- texts

-- branches and the bracket that closes
abbrev pub Branches : List Lexeme → Contract → Type 0
Branches t no_branch = ⊥
Branches t (branch g bs) = (tb : List Lexeme) × (tm : List Lexeme) × (t ≡ tb ++ (tm ++ symbol mark.RightParen ∷ [])) × SpellsBranch tb g × SpellsMore tm bs

-- parts and the bracket that closes
abbrev pub ClosedParts : List Lexeme → Parts → Type 0
ClosedParts t ps = (tp : List Lexeme) × (t ≡ tp ++ symbol mark.RightBracket ∷ []) × SpellsParts tp ps

abbrev pub BranchText : ℕ → List Lexeme → Guarded × ℕ → Type 0
BranchText = Counted count_under SpellsBranch

abbrev pub ChoiceText : ℕ → List Lexeme → Contract × ℕ → Type 0
ChoiceText = Counted count_of SpellsChoice

abbrev pub BranchesText : ℕ → List Lexeme → Contract × ℕ → Type 0
BranchesText = Counted count_of Branches

abbrev pub PartsText : ℕ → List Lexeme → Parts × ℕ → Type 0
PartsText = Counted count_of_parts ClosedParts

-- ---- branches

pub branch_nothing : (g : Guarded) → SpellsBranch [] g → ⊥
branch_nothing (auth party body) l = let k = l.1 in absurd cc
branch_nothing (after height body) l = let k = l.1 in absurd cc
branch_nothing (put_reveal puts reveals test next) l = headed_nothing l.0 l.1 puts reveals test l.2
branch_nothing (withdraw party) l = absurd cc
branch_nothing (split parts) l = let k = l.1 in absurd cc

heading_right : (c : Lexeme) → begins_heading c ≡ true → begins_branch c ≡ wrong → ⊥
heading_right (keyword word.Put) h k = absurd cc
heading_right (keyword word.Reveal) h k = absurd cc
heading_right c h k = absurd cc

pub branch_first : (c : Lexeme) (t : List Lexeme) (g : Guarded) → SpellsBranch (c ∷ t) g → begins_branch c ≡ wrong → ⊥
branch_first c t (auth party body) l h = let k = not_wrong begins_branch c (name party) t _ l.1 h in absurd cc
branch_first c t (after height body) l h = let k = not_wrong begins_branch c (keyword word.After) t _ l.1 h in absurd cc
branch_first c t (put_reveal puts reveals test next) l h = heading_right c (headed c t l.0 l.1 puts reveals test l.2 l.3).3 h
branch_first c t (withdraw party) l h = let k = not_wrong begins_branch c (keyword word.Withdraw) t _ l h in absurd cc
branch_first c t (split parts) l h = let k = not_wrong begins_branch c (keyword word.Split) t _ l.1 h in absurd cc

-- a short text of a branch
abbrev pub short : List Lexeme
short = keyword word.Withdraw ∷ name [] ∷ []

abbrev pub short_branch : Guarded
short_branch = withdraw []

pub some_branch : Some_text SpellsBranch
some_branch = record { text = short; value = short_branch; spelled = refl }

pub some_choice : Some_text SpellsChoice
some_choice = record { text = short; value = branch short_branch no_branch; spelled = inl (refl, refl) }

after_name : (party : List ℕ) → Some_text (Behind (name party) SpellsBranch)
after_name party = record { text = symbol mark.Colon ∷ short; value = auth party short_branch; spelled = (short, refl, refl) }

branch_begins : (c : Lexeme) (v : Unit {0}) → begins_branch c ≡ taken v → Some_text (Behind c SpellsBranch)
branch_begins (name party) v h = after_name party
branch_begins (keyword word.After) v h = record { text = number 0 ∷ symbol mark.Colon ∷ short; value = after 0 short_branch; spelled = (short, refl, refl) }
branch_begins (keyword word.Put) v h = record {
  text = name [] ∷ symbol mark.Dot ∷ short;
  value = put_reveal ([] ∷ []) [] always (branch short_branch no_branch);
  spelled = (keyword word.Put ∷ name [] ∷ [], short, refl, (refl, refl), inl (refl, refl));
}
branch_begins (keyword word.Reveal) v h = record {
  text = name [] ∷ symbol mark.Dot ∷ short;
  value = put_reveal [] ([] ∷ []) always (branch short_branch no_branch);
  spelled = (keyword word.Reveal ∷ name [] ∷ [], short, refl, ([], refl, inl (refl, refl)), inl (refl, refl));
}
branch_begins (keyword word.Withdraw) v h = record { text = name [] ∷ []; value = short_branch; spelled = refl }
branch_begins (keyword word.Split) v h = record {
  text = symbol mark.LeftBracket ∷ number 0 ∷ symbol mark.Arrow ∷ keyword word.Withdraw ∷ name [] ∷ symbol mark.RightBracket ∷ [];
  value = split (part 0 (branch short_branch no_branch) no_part);
  spelled = (number 0 ∷ symbol mark.Arrow ∷ short, refl, (short, [], refl, inl (refl, refl), refl));
}
branch_begins c v h = absurd cc

branch_exceeds : (c : Lexeme) (w : Limit) → begins_branch c ≡ above w → (d : Lexeme) × StandsFor c d × Some_text (Behind d SpellsBranch)
branch_exceeds long_name w h = (name [], tt, after_name [])
branch_exceeds (keyword word.After) w h = absurd cc
branch_exceeds (keyword word.Put) w h = absurd cc
branch_exceeds (keyword word.Reveal) w h = absurd cc
branch_exceeds (keyword word.Withdraw) w h = absurd cc
branch_exceeds (keyword word.Split) w h = absurd cc
branch_exceeds c w h = absurd cc

pub branch_begun : Begun begins_branch SpellsBranch
branch_begun = record {
  nothing = branch_nothing;
  first = branch_first;
  fair = record { names = λ b h. absurd cc; numbers = λ n h. refl };
  some = some_branch;
  begins = branch_begins;
  exceeds = branch_exceeds;
}

-- ---- branches with the bracket that closes

branches_short : (tb tm : List Lexeme) (g : Guarded) → [] ≡ tb ++ (tm ++ symbol mark.RightParen ∷ []) → SpellsBranch tb g → ⊥
branches_short [] tm g is l = branch_nothing g l
branches_short (x ∷ tb) tm g is l = absurd cc

branches_start : (d : Lexeme) (t tb tm : List Lexeme) (g : Guarded) → d ∷ t ≡ tb ++ (tm ++ symbol mark.RightParen ∷ []) → SpellsBranch tb g
    → begins_branch d ≡ wrong → ⊥
branches_start d t [] tm g is l h = branch_nothing g l
branches_start d t (x ∷ tb) tm g is l h = branch_first x tb g l (not_wrong begins_branch d x t _ is h)

pub branches_nothing : (c : Contract) → Branches [] c → ⊥
branches_nothing no_branch l = l
branches_nothing (branch g bs) l = branches_short l.0 l.1 g l.2 l.3

branches_first : (d : Lexeme) (t : List Lexeme) (c : Contract) → Branches (d ∷ t) c → begins_branch d ≡ wrong → ⊥
branches_first d t no_branch l h = l
branches_first d t (branch g bs) l h = branches_start d t l.0 l.1 g l.2 l.3 h

branches_behind : (c : Lexeme) → Some_text (Behind c SpellsBranch) → Some_text (Behind c Branches)
branches_behind c s =
    record { text = s.text ++ symbol mark.RightParen ∷ []; value = branch s.value no_branch; spelled = (c ∷ s.text, [], refl, s.spelled, refl) }

pub branches_begun : Begun begins_branch Branches
branches_begun = record {
  nothing = branches_nothing;
  first = branches_first;
  fair = branch_begun.fair;
  some = record { text = short ++ symbol mark.RightParen ∷ []; value = branch short_branch no_branch; spelled = (short, [], refl, refl, refl) };
  begins = λ c v h. branches_behind c (branch_begins c v h);
  exceeds = λ c w h. let x = branch_exceeds c w h in (x.0, x.1, branches_behind x.0 x.2);
}

-- ---- parts with the bracket that closes

parts_value : (t u : List Lexeme) (ps : Parts) → t ≡ u ++ symbol mark.RightBracket ∷ [] → SpellsParts u ps → (n : ℕ) × (rest : List Lexeme)
    × (t ≡ number n ∷ rest)
parts_value t u no_part is l = absurd l
parts_value t u (part v c ps) is l =
    (v, symbol mark.Arrow ∷ ((l.0 ++ l.1) ++ symbol mark.RightBracket ∷ []), is ∙ ap (λ (z : List Lexeme). z ++ symbol mark.RightBracket ∷ []) l.2)

small_right : (n : ℕ) (b : Bool) → small_number n b ≡ wrong → ⊥
small_right n true h = absurd cc
small_right n false h = absurd cc

no_number : (n : ℕ) → a_value (number n) ≡ wrong → ⊥
no_number n h = small_right n (nat_le n max_money) h

pub parts_nothing : (ps : Parts) → ClosedParts [] ps → ⊥
parts_nothing ps l = let k = parts_value [] l.0 ps l.1 l.2 in let e = k.2 in absurd cc

parts_first : (d : Lexeme) (t : List Lexeme) (ps : Parts) → ClosedParts (d ∷ t) ps → a_value d ≡ wrong → ⊥
parts_first d t ps l h = let k = parts_value (d ∷ t) l.0 ps l.1 l.2 in no_number k.0 (not_wrong a_value d (number k.0) t k.1 k.2 h)

some_parts : (n : ℕ) → Some_text (Behind (number n) ClosedParts)
some_parts n = record {
  text = symbol mark.Arrow ∷ keyword word.Withdraw ∷ name [] ∷ symbol mark.RightBracket ∷ [];
  value = part n (branch short_branch no_branch) no_part;
  spelled = (number n ∷ symbol mark.Arrow ∷ short, refl, (short, [], refl, inl (refl, refl), refl));
}

parts_begins : (c : Lexeme) (v : ℕ) → a_value c ≡ taken v → Some_text (Behind c ClosedParts)
parts_begins (number n) v h = some_parts n
parts_begins c v h = absurd cc

parts_exceeds : (c : Lexeme) (w : Limit) → a_value c ≡ above w → (d : Lexeme) × StandsFor c d × Some_text (Behind d ClosedParts)
parts_exceeds (number n) w h = (number n, refl, some_parts n)
parts_exceeds huge_number w h = (number 0, tt, some_parts 0)
parts_exceeds c w h = absurd cc

pub parts_begun : Begun a_value ClosedParts
parts_begun = record {
  nothing = parts_nothing;
  first = parts_first;
  fair = record { names = λ b h. refl; numbers = λ n h. absurd cc };
  some = record { text = number 0 ∷ (some_parts 0).text; value = (some_parts 0).value; spelled = (some_parts 0).spelled };
  begins = parts_begins;
  exceeds = parts_exceeds;
}
