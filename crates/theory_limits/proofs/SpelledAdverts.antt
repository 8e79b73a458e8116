-- The walk goes through what spells a contract or an advert.
use Rattle.std.proofs.Common.{◌≡◌, ℕ, suc, List, [], ◌∷◌, ◌++◌, None, refl, ap, sym, ◌∙◌, append_assoc, inl, inr}
use Rattle.std.proofs.lemmas.List.{append-nil}
use Rattle.spec_terms.specs.Term.{Pred, Guarded, auth, after, put_reveal, withdraw, split, Contract, no_branch, branch, Parts, no_part, part}
use Rattle.spec_terms.specs.Advert.{Advert}
use Rattle.spec_terms.specs.declared.pre.Pre.{Pre}
use Rattle.spec_terms.specs.declared.pre.Pre.TheVariants.{Persistent, Volatile, Secret}
use Rattle.spec_text.specs.declared.token.Keyword.TheVariants as word
use Rattle.spec_text.specs.declared.token.Symbol.TheVariants as mark
use Rattle.spec_text.specs.declared.lexeme.Lexeme.{Lexeme}
use Rattle.spec_text.specs.declared.lexeme.Lexeme.TheVariants.{Keyword as keyword, Symbol as symbol}
use Rattle.spec_text.specs.Grammar.{SpellsHeading, SpellsBranch, SpellsChoice, SpellsMore, SpellsParts, SpellsMoreParts, entry, more_entries, SpellsPre, SpellsFee, Spells}
use Rattle.theory_text.proofs.Told.BranchTexts.{branch_nothing, branch_first}
use Rattle.theory_text.proofs.Told.BranchEnds.{choice_nothing}
use Rattle.theory_text.proofs.Told.AdvertReaders.{fee_contract}
use Rattle.theory_limits.specs.Awaited.{Awaited, wrapped, behind_branch, contract, behind_part, behind_entry, fee_or_contract, an_advert}
use Rattle.theory_limits.specs.Awaited.{branch as a_branch, part as a_part, entry as an_entry}
use Rattle.theory_limits.specs.Marks.{end_from, grammar_end}
use Rattle.theory_limits.proofs.SpelledTests.{Goes, spelled_reveals, spelled_puts, spelled_both}

-- ---- headings

heading_goes : (d : ℕ) (t : List Lexeme) (puts reveals : List (List ℕ)) (p : Pred) → SpellsHeading t puts reveals p
    → (more : List Awaited) (rest : List Lexeme) → Goes (wrapped d ∷ more) (t ++ symbol mark.Dot ∷ rest) (contract (suc d) ∷ more) rest
heading_goes d t [] [] p l more rest = absurd l
heading_goes d t (x ∷ xs) [] p l more rest = ap (λ (z : List Lexeme). end_from (wrapped d ∷ more) (z ++ symbol mark.Dot ∷ rest)) l.0
    ∙ spelled_puts x xs (contract (suc d) ∷ more) rest
heading_goes d t [] (a ∷ as') p l more rest = ap (λ (z : List Lexeme). end_from (wrapped d ∷ more) (z ++ symbol mark.Dot ∷ rest)) l.1
    ∙ spelled_reveals a as' p l.0 l.2 (contract (suc d) ∷ more) rest
heading_goes d t (x ∷ xs) (a ∷ as') p l more rest = ap (λ (z : List Lexeme). end_from (wrapped d ∷ more) (z ++ symbol mark.Dot ∷ rest)) l.1
    ∙ spelled_both x xs a as' p l.0 l.2 (contract (suc d) ∷ more) rest

-- ---- contracts

-- a branch goes as a guarded term behind a name
as_wrapped : (d k : ℕ) (more : List Awaited) (ts : List Lexeme) → Goes (a_branch d k ∷ more) ts (wrapped d ∷ more) ts
as_wrapped d k more [] = refl
as_wrapped d k more (t ∷ ts) = refl

-- so does a contract of one branch
bare_goes : (g : Guarded) (d : ℕ) (t : List Lexeme) → SpellsBranch t g → (more : List Awaited) (rest : List Lexeme)
    → Goes (contract d ∷ more) (t ++ rest) (wrapped d ∷ more) (t ++ rest)
bare_goes g d [] l more rest = absurd (branch_nothing g l)
bare_goes g d (symbol mark.LeftParen ∷ t) l more rest = absurd (branch_first (symbol mark.LeftParen) t g l refl)
bare_goes g d (c ∷ t) l more rest = refl

mutual
  pub spelled_branch : (g : Guarded) (d : ℕ) (t : List Lexeme) → SpellsBranch t g → (more : List Awaited) (rest : List Lexeme)
      → Goes (wrapped d ∷ more) (t ++ rest) more rest
  spelled_branch (auth party body) d t l more rest = ap (λ (z : List Lexeme). end_from (wrapped d ∷ more) (z ++ rest)) l.1
      ∙ spelled_branch body (suc d) l.0 l.2 more rest
  spelled_branch (after height body) d t l more rest = ap (λ (z : List Lexeme). end_from (wrapped d ∷ more) (z ++ rest)) l.1
      ∙ spelled_branch body (suc d) l.0 l.2 more rest
  spelled_branch (put_reveal puts reveals test next) d t l more rest =
      ap (λ (z : List Lexeme). end_from (wrapped d ∷ more) (z ++ rest)) l.2 ∙ ap (end_from (wrapped d ∷ more))
      (append_assoc l.0 (symbol mark.Dot ∷ l.1) rest)
      ∙ heading_goes d l.0 puts reveals test l.3 more (l.1 ++ rest) ∙ spelled_choice next (suc d) l.1 l.4 more rest
  spelled_branch (withdraw party) d t l more rest = rw l refl
  spelled_branch (split parts) d t l more rest =
      ap (λ (z : List Lexeme). end_from (wrapped d ∷ more) (z ++ rest)) l.1 ∙ ap (end_from (a_part (suc d) 1 ∷ more))
      (append_assoc l.0 (symbol mark.RightBracket ∷ []) rest) ∙ spelled_parts parts (suc d) 1 l.0 l.2 more rest

  pub spelled_choice : (c : Contract) (d : ℕ) (t : List Lexeme) → SpellsChoice t c → (more : List Awaited) (rest : List Lexeme)
      → Goes (contract d ∷ more) (t ++ rest) more rest
  spelled_choice no_branch d t l more rest = absurd l
  spelled_choice (branch g bs) d t (inl w) more rest = bare_goes g d t w.0 more rest ∙ spelled_branch g d t w.0 more rest
  spelled_choice (branch g bs) d t (inr w) more rest =
      ap (λ (z : List Lexeme). end_from (contract d ∷ more) (z ++ rest)) w.2
      ∙ ap (end_from (a_branch d 1 ∷ behind_branch d 1 ∷ more))
      (append_assoc w.0 (w.1 ++ symbol mark.RightParen ∷ []) rest ∙ ap (λ (z : List Lexeme). w.0 ++ z)
      (append_assoc w.1 (symbol mark.RightParen ∷ []) rest))
      ∙ as_wrapped d 1 (behind_branch d 1 ∷ more) (w.0 ++ (w.1 ++ symbol mark.RightParen ∷ rest))
      ∙ spelled_branch g d w.0 w.3 (behind_branch d 1 ∷ more) (w.1 ++ symbol mark.RightParen ∷ rest)
      ∙ spelled_more bs d 1 w.1 w.4 more rest

  spelled_more : (bs : Contract) (d k : ℕ) (t : List Lexeme) → SpellsMore t bs → (more : List Awaited) (rest : List Lexeme)
      → Goes (behind_branch d k ∷ more) (t ++ symbol mark.RightParen ∷ rest) more rest
  spelled_more no_branch d k t l more rest = rw l refl
  spelled_more (branch g bs) d k t l more rest =
      ap (λ (z : List Lexeme). end_from (behind_branch d k ∷ more) (z ++ symbol mark.RightParen ∷ rest)) l.2
      ∙ ap (end_from (a_branch d (suc k) ∷ behind_branch d (suc k) ∷ more)) (append_assoc l.0 l.1 (symbol mark.RightParen ∷ rest))
      ∙ as_wrapped d (suc k) (behind_branch d (suc k) ∷ more) (l.0 ++ (l.1 ++ symbol mark.RightParen ∷ rest))
      ∙ spelled_branch g d l.0 l.3 (behind_branch d (suc k) ∷ more) (l.1 ++ symbol mark.RightParen ∷ rest)
      ∙ spelled_more bs d (suc k) l.1 l.4 more rest

  spelled_parts : (ps : Parts) (d k : ℕ) (t : List Lexeme) → SpellsParts t ps → (more : List Awaited) (rest : List Lexeme)
      → Goes (a_part d k ∷ more) (t ++ symbol mark.RightBracket ∷ rest) more rest
  spelled_parts no_part d k t l more rest = absurd l
  spelled_parts (part v c ps) d k t l more rest =
      ap (λ (z : List Lexeme). end_from (a_part d k ∷ more) (z ++ symbol mark.RightBracket ∷ rest)) l.2
      ∙ ap (end_from (contract d ∷ behind_part d k ∷ more)) (append_assoc l.0 l.1 (symbol mark.RightBracket ∷ rest))
      ∙ spelled_choice c d l.0 l.3 (behind_part d k ∷ more) (l.1 ++ symbol mark.RightBracket ∷ rest)
      ∙ spelled_more_parts ps d k l.1 l.4 more rest

  spelled_more_parts : (ps : Parts) (d k : ℕ) (t : List Lexeme) → SpellsMoreParts t ps → (more : List Awaited) (rest : List Lexeme)
      → Goes (behind_part d k ∷ more) (t ++ symbol mark.RightBracket ∷ rest) more rest
  spelled_more_parts no_part d k t l more rest = rw l refl
  spelled_more_parts (part v c ps) d k t l more rest =
      ap (λ (z : List Lexeme). end_from (behind_part d k ∷ more) (z ++ symbol mark.RightBracket ∷ rest)) l.2
      ∙ ap (end_from (contract d ∷ behind_part d (suc k) ∷ more)) (append_assoc l.0 l.1 (symbol mark.RightBracket ∷ rest))
      ∙ spelled_choice c d l.0 l.3 (behind_part d (suc k) ∷ more) (l.1 ++ symbol mark.RightBracket ∷ rest)
      ∙ spelled_more_parts ps d (suc k) l.1 l.4 more rest

-- ---- preconditions

entry_goes : (p : Pre) (ds ss : ℕ) (more : List Awaited) (rest : List Lexeme)
    → (es : ℕ) × (us : ℕ) × Goes (an_entry ds ss ∷ more) (entry p ++ rest) (behind_entry es us ∷ more) rest
entry_goes (Persistent party value deposit) ds ss more rest = (suc ds, ss, refl)
entry_goes (Volatile party value deposit) ds ss more rest = (suc ds, ss, refl)
entry_goes (Secret party secret) ds ss more rest = (ds, suc ss, refl)

more_entries_go : (ps : List Pre) (ds ss : ℕ) (more : List Awaited) (rest : List Lexeme)
    → Goes (behind_entry ds ss ∷ more) (more_entries ps ++ symbol mark.RightBrace ∷ rest) more rest
more_entries_go [] ds ss more rest = refl
more_entries_go (p ∷ ps) ds ss more rest =
    let w = entry_goes p ds ss more (more_entries ps ++ symbol mark.RightBrace ∷ rest) in
    ap (end_from (an_entry ds ss ∷ more)) (append_assoc (entry p) (more_entries ps) (symbol mark.RightBrace ∷ rest)) ∙ w.2
    ∙ more_entries_go ps w.0 w.1 more rest

-- an entry and those behind it
entries_go : (p : Pre) (ps : List Pre) (ds ss : ℕ) (more : List Awaited) (rest : List Lexeme)
    → Goes (an_entry ds ss ∷ more) (entry p ++ (more_entries ps ++ symbol mark.RightBrace ∷ rest)) more rest
entries_go p ps ds ss more rest =
    let w = entry_goes p ds ss more (more_entries ps ++ symbol mark.RightBrace ∷ rest) in
    w.2 ∙ more_entries_go ps w.0 w.1 more rest

spelled_pre : (pre : List Pre) (t : List Lexeme) → SpellsPre t pre → (rest : List Lexeme)
    → Goes an_advert (t ++ rest) (fee_or_contract ∷ []) rest
spelled_pre [] t l rest = absurd l
spelled_pre (p ∷ ps) t l rest =
    ap (λ (z : List Lexeme). end_from an_advert (z ++ rest)) l
    ∙ ap (end_from (an_entry 0 0 ∷ fee_or_contract ∷ []))
    (append_assoc (entry p) (more_entries ps ++ symbol mark.RightBrace ∷ []) rest ∙ ap (λ (z : List Lexeme). entry p ++ z)
    (append_assoc (more_entries ps) (symbol mark.RightBrace ∷ []) rest))
    ∙ entries_go p ps 0 0 (fee_or_contract ∷ []) rest

-- ---- adverts

no_fee_goes : (c : Contract) (t : List Lexeme) → SpellsChoice t c → Goes (fee_or_contract ∷ []) t (contract 1 ∷ []) t
no_fee_goes c [] l = absurd (choice_nothing c l)
no_fee_goes c (keyword word.Fee ∷ t) l = absurd (fee_contract t c l)
no_fee_goes c (x ∷ t) l = refl

root_goes : (c : Contract) (t : List Lexeme) → SpellsChoice t c → end_from (contract 1 ∷ []) t ≡ None
root_goes c t l = ap (end_from (contract 1 ∷ [])) (sym (append-nil t)) ∙ spelled_choice c 1 t l [] []

fee_root_goes : (fee : ℕ) (c : Contract) (tf t : List Lexeme) → SpellsFee tf fee → SpellsChoice t c
    → end_from (fee_or_contract ∷ []) (tf ++ t) ≡ None
fee_root_goes fee c tf t (inl w) l = ap (λ (z : List Lexeme). end_from (fee_or_contract ∷ []) (z ++ t)) w.0 ∙ no_fee_goes c t l
    ∙ root_goes c t l
fee_root_goes fee c tf t (inr w) l = ap (λ (z : List Lexeme). end_from (fee_or_contract ∷ []) (z ++ t)) w ∙ root_goes c t l

-- the walk goes through what spells an advert
pub spelled_advert : (t : List Lexeme) (advert : Advert) → Spells t advert → grammar_end t ≡ None
spelled_advert t advert s =
    ap (end_from an_advert) s.parts ∙ spelled_pre advert.pre s.pre_part s.pre (s.fee_part ++ s.root_part)
    ∙ fee_root_goes advert.fee advert.root s.fee_part s.root_part s.fee s.root
