-- The quantities of the marks of contracts and adverts.
use Rattle.std.proofs.Common.{◌≡◌, ℕ, suc, ◌+◌, Bool, true, false, List, [], ◌∷◌, ◌++◌, refl, ap, sym, subst, ◌∙◌, append_assoc, arith, inl, inr}
use Rattle.std.proofs.lemmas.List.{append-nil}
use Rattle.std.specs.Prelude.{Some}
use Rattle.spec_data.specs.Ranges.{max_money, last_height}
use Rattle.spec_terms.specs.Term.{Pred, Guarded, auth, after, put_reveal, withdraw, split, Contract, no_branch, branch, Parts, no_part, part}
use Rattle.spec_terms.specs.Readable.{most_depth, most_parts, most_deposits, most_secrets, count_of, count_under, count_of_parts}
use Rattle.spec_terms.specs.declared.pre.Pre.{Pre}
use Rattle.spec_terms.specs.declared.pre.Pre.TheVariants.{Persistent, Volatile, Secret}
use Rattle.spec_terms.specs.declared.limit.Limit.{Limit}
use Rattle.spec_terms.specs.declared.limit.Limit.TheVariants as limits
use Rattle.spec_text.specs.declared.token.Keyword.TheVariants as word
use Rattle.spec_text.specs.declared.token.Symbol.TheVariants as mark
use Rattle.spec_text.specs.declared.lexeme.Lexeme.{Lexeme}
use Rattle.spec_text.specs.declared.lexeme.Lexeme.TheVariants.{Keyword as keyword, Symbol as symbol, Name as name, Number as number}
use Rattle.spec_text.specs.Grammar.{names, SpellsHeading, SpellsBranch, SpellsChoice, SpellsMore, SpellsParts, SpellsMoreParts, entry, more_entries, SpellsPre, SpellsFee}
use Rattle.theory_text.proofs.Told.BranchEnds.{choice_nothing}
use Rattle.theory_text.proofs.Told.AdvertReaders.{fee_contract}
use Rattle.theory_limits.specs.Awaited.{Awaited, this_symbol, a_name, a_number, behind_put, behind_reveal, wrapped, behind_branch, contract, behind_part, behind_entry, fee_or_contract, an_advert, next_branch}
use Rattle.theory_limits.specs.Awaited.{branch as a_branch, part as a_part, entry as an_entry}
use Rattle.theory_limits.specs.Marks.{over, long, over_counts}
use Rattle.theory_limits.specs.Statements.{TreeTheorem}
use Rattle.theory_limits.specs.Trees.{over_pred, over_under, over_branches, over_parts, over_entries}
use Rattle.theory_limits.proofs.Listed.{listed_here, listed, listed_is, three, listed_reveals, listed_puts, listed_both}

-- ---- the first token of a guarded term

-- tokens with which guarded terms begin, among others
abbrev is_opener : Lexeme → Bool
is_opener (name x) = true
is_opener (keyword k) = true
is_opener c = false

short_of : (c : Lexeme) → is_opener c ≡ true → long c ≡ []
short_of (name x) h = refl
short_of (keyword k) h = refl
short_of c h = absurd cc

-- what spells a guarded term, by its first token
record Opened (d : ℕ) (g : Guarded) (t : List Lexeme) : Type 0 where
  first : Lexeme
  later : List Lexeme
  new : List Awaited
  text : t ≡ first ∷ later
  opener : is_opener first ≡ true
  opens : next_branch d first ≡ Some new
  lists : (more : List Awaited) (before : ℕ) (rest : List Lexeme)
      → listed (new ++ more) before (later ++ rest) ≡ over_under d before g ++ listed more (before + count_under g) rest

opened_here : (d : ℕ) (g : Guarded) (t : List Lexeme) (o : Opened d g t) (ws : List Limit) (more : List Awaited) (before : ℕ)
    (rest : List Lexeme)
    → listed_here (next_branch d o.first) (long o.first ++ ws) (λ new. listed (new ++ more) before (o.later ++ rest)) ≡ ws ++
    (over_under d before g ++ listed more (before + count_under g) rest)
opened_here d g t o ws more before rest =
    (λ i. listed_here (o.opens i) (short_of o.first o.opener i ++ ws) (λ new. listed (new ++ more) before (o.later ++ rest)))
    ∙ ap (λ (z : List Limit). ws ++ z) (o.lists more before rest)

wrapped_lists : (d : ℕ) (g : Guarded) (t : List Lexeme) → Opened d g t → (more : List Awaited) (before : ℕ) (rest : List Lexeme)
    → listed (wrapped d ∷ more) before (t ++ rest) ≡ over limits.Depth most_depth d ++
    (over_under d before g ++ listed more (before + count_under g) rest)
wrapped_lists d g t o more before rest =
    ap (λ (z : List Lexeme). listed (wrapped d ∷ more) before (z ++ rest)) o.text ∙ opened_here d g t o
    (over limits.Depth most_depth d) more before rest

branch_lists : (d k : ℕ) (g : Guarded) (t : List Lexeme) → Opened d g t → (more : List Awaited) (before : ℕ) (rest : List Lexeme)
    → listed (a_branch d k ∷ more) before (t ++ rest) ≡ over_counts d k before ++
    (over_under d (suc before) g ++ listed more (suc before + count_under g) rest)
branch_lists d k g t o more before rest =
    ap (λ (z : List Lexeme). listed (a_branch d k ∷ more) before (z ++ rest)) o.text ∙ opened_here d g t o (over_counts d k before) more
    (suc before) rest

bare_lists : (d : ℕ) (c : Lexeme) (more : List Awaited) (before : ℕ) (ts : List Lexeme) → is_opener c ≡ true
    → listed (contract d ∷ more) before (c ∷ ts) ≡ listed (a_branch d 1 ∷ more) before (c ∷ ts)
bare_lists d (name x) more before ts h = refl
bare_lists d (keyword k) more before ts h = refl
bare_lists d c more before ts h = absurd cc

contract_lists : (d : ℕ) (g : Guarded) (t : List Lexeme) → Opened d g t → (more : List Awaited) (before : ℕ) (rest : List Lexeme)
    → listed (contract d ∷ more) before (t ++ rest) ≡ over_counts d 1 before ++
    (over_under d (suc before) g ++ listed more (suc before + count_under g) rest)
contract_lists d g t o more before rest =
    ap (λ (z : List Lexeme). listed (contract d ∷ more) before (z ++ rest)) o.text ∙ bare_lists d o.first more before
    (o.later ++ rest) o.opener
    ∙ opened_here d g t o (over_counts d 1 before) more (suc before) rest

-- ---- headings

-- what a heading adds
abbrev HeadingLists : ℕ → List Lexeme → Pred → Type 0
HeadingLists d t p =
    (c : Lexeme) × (u : List Lexeme) × (new : List Awaited) × (t ≡ c ∷ u) × (is_opener c ≡ true) × (next_branch d c ≡ Some
    (new ++ contract (suc d) ∷ []))
    × ((more : List Awaited) (before : ℕ) (rest : List Lexeme) → listed (new ++ more) before (u ++ symbol mark.Dot ∷ rest)
    ≡ over_pred 1 p ++ listed more before rest)

heading_lists : (d : ℕ) (t : List Lexeme) (puts reveals : List (List ℕ)) (p : Pred) → SpellsHeading t puts reveals p → HeadingLists d t p
heading_lists d t [] [] p l = absurd l
heading_lists d t (x ∷ xs) [] p l = (
  keyword word.Put,
  names x xs,
  a_name ∷ behind_put ∷ [],
  l.0,
  refl,
  refl,
  λ more before rest. listed_puts x xs more before rest
      ∙ rw l.1 refl,
)
heading_lists d t [] (a ∷ as') p l = (
  keyword word.Reveal,
  names a as' ++ l.0,
  a_name ∷ behind_reveal ∷ [],
  l.1,
  refl,
  refl,
  λ more before rest. listed_reveals a as' p l.0 l.2 more before rest,
)
heading_lists d t (x ∷ xs) (a ∷ as') p l = (
  keyword word.Put,
  names x xs ++ symbol mark.Ampersand ∷ l.0,
  a_name ∷ behind_put ∷ [],
  l.1,
  refl,
  refl,
  λ more before rest. listed_both x xs a as' p l.0 l.2 more before rest,
)

-- ---- contracts

-- the number of branches after a branch and others
after_branch : (before under others : ℕ) → (suc before + under) + others ≡ before + ((under + 1) + others)
after_branch before under others = omega arith

after_none : (before : ℕ) → before ≡ before + 0
after_none before = omega arith

after_part : (before one others : ℕ) → (before + one) + others ≡ before + (one + others)
after_part before one others = omega arith

-- a branch and those behind it
joined : (d before k : ℕ) (g : Guarded) (bs : Contract) (more : List Awaited) (rest : List Lexeme)
    → over_counts d k before ++
    (over_under d (suc before) g ++
    (over_branches d (suc before + count_under g) (suc k) bs ++ listed more ((suc before + count_under g) + count_of bs) rest))
    ≡ over_branches d before k (branch g bs) ++ listed more (before + count_of (branch g bs)) rest
joined d before k g bs more rest =
    three (over_counts d k before) (over_under d (suc before) g) (over_branches d (suc before + count_under g) (suc k) bs)
    (listed more ((suc before + count_under g) + count_of bs) rest)
    ∙ ap (λ (n : ℕ). over_branches d before k (branch g bs) ++ listed more n rest) (after_branch before (count_under g) (count_of bs))

abbrev BranchesList : ℕ → ℕ → Contract → List Awaited → List Lexeme → List Awaited → List Lexeme → Type 0
BranchesList d k c as' t more rest =
    (before : ℕ) → listed as' before t ≡ over_branches d before k c ++ listed more (before + count_of c) rest

mutual
  opened : (g : Guarded) (d : ℕ) (t : List Lexeme) → SpellsBranch t g → Opened d g t
  opened (auth party body) d t l = record {
    first = name party;
    later = symbol mark.Colon ∷ l.0;
    new = this_symbol mark.Colon ∷ wrapped (suc d) ∷ [];
    text = l.1;
    opener = refl;
    opens = refl;
    lists = λ more before rest. wrapped_lists (suc d) body l.0 (opened body (suc d) l.0 l.2) more before rest
        ∙ sym (append_assoc (over limits.Depth most_depth (suc d)) (over_under (suc d) before body)
        (listed more (before + count_under body) rest));
  }
  opened (after height body) d t l = record {
    first = keyword word.After;
    later = number height ∷ symbol mark.Colon ∷ l.0;
    new = a_number last_height ∷ this_symbol mark.Colon ∷ wrapped (suc d) ∷ [];
    text = l.1;
    opener = refl;
    opens = refl;
    lists =
        λ more before rest. ap (λ (z : List Limit). over limits.Number last_height height ++ z)
        (wrapped_lists (suc d) body l.0 (opened body (suc d) l.0 l.2) more before rest)
        ∙ three (over limits.Number last_height height) (over limits.Depth most_depth (suc d)) (over_under (suc d) before body)
        (listed more (before + count_under body) rest);
  }
  opened (put_reveal puts reveals test next) d t l =
      let h = heading_lists d l.0 puts reveals test l.3 in
      record {
        first = h.0;
        later = h.1 ++ symbol mark.Dot ∷ l.1;
        new = h.2 ++ contract (suc d) ∷ [];
        text = l.2 ∙ ap (λ (z : List Lexeme). z ++ symbol mark.Dot ∷ l.1) h.3;
        opener = h.4;
        opens = h.5;
        lists = λ more before rest.
            ap (λ (z : List Awaited). listed z before ((h.1 ++ symbol mark.Dot ∷ l.1) ++ rest))
            (append_assoc h.2 (contract (suc d) ∷ []) more)
            ∙ ap (listed (h.2 ++ contract (suc d) ∷ more) before) (append_assoc h.1 (symbol mark.Dot ∷ l.1) rest)
            ∙ h.6 (contract (suc d) ∷ more) before (l.1 ++ rest)
            ∙ ap (λ (z : List Limit). over_pred 1 test ++ z) (choice_lists next (suc d) l.1 l.4 more rest before)
            ∙ sym (append_assoc (over_pred 1 test) (over_branches (suc d) before 1 next) (listed more (before + count_of next) rest));
      }
  opened (withdraw party) d t l = record {
    first = keyword word.Withdraw;
    later = name party ∷ [];
    new = a_name ∷ [];
    text = l;
    opener = refl;
    opens = refl;
    lists = λ more before rest. ap (λ (n : ℕ). listed more n rest) (after_none before);
  }
  opened (split parts) d t l = record {
    first = keyword word.Split;
    later = symbol mark.LeftBracket ∷ (l.0 ++ symbol mark.RightBracket ∷ []);
    new = this_symbol mark.LeftBracket ∷ a_part (suc d) 1 ∷ [];
    text = l.1;
    opener = refl;
    opens = refl;
    lists = λ more before rest. ap (listed (a_part (suc d) 1 ∷ more) before) (append_assoc l.0 (symbol mark.RightBracket ∷ []) rest)
        ∙ parts_lists parts (suc d) 1 l.0 l.2 more rest before;
  }

  choice_lists : (c : Contract) (d : ℕ) (t : List Lexeme) → SpellsChoice t c → (more : List Awaited) (rest : List Lexeme)
      → BranchesList d 1 c (contract d ∷ more) (t ++ rest) more rest
  choice_lists no_branch d t l more rest before = absurd l
  choice_lists (branch g bs) d t (inl w) more rest before =
      let one = contract_lists d g t (opened g d t w.0) more before rest in
      let none : listed more (suc before + count_under g) rest ≡ listed more ((suc before + count_under g) + 0) rest =
      ap (λ (n : ℕ). listed more n rest) (after_none (suc before + count_under g)) in
      let all = one ∙ ap (λ (z : List Limit). over_counts d 1 before ++ (over_under d (suc before) g ++ z)) none
      ∙ joined d before 1 g no_branch more rest in
      subst (λ (z : Contract). listed (contract d ∷ more) before (t ++ rest) ≡ over_branches d before 1 (branch g z) ++ listed more
      (before + count_of (branch g z)) rest) (sym w.1) all
  choice_lists (branch g bs) d t (inr w) more rest before =
      let tail = w.1 ++ symbol mark.RightParen ∷ rest in
      let text : (w.0 ++ (w.1 ++ symbol mark.RightParen ∷ [])) ++ rest ≡ w.0 ++ tail =
      append_assoc w.0 (w.1 ++ symbol mark.RightParen ∷ []) rest
      ∙ ap (λ (z : List Lexeme). w.0 ++ z) (append_assoc w.1 (symbol mark.RightParen ∷ []) rest) in
      ap (λ (z : List Lexeme). listed (contract d ∷ more) before (z ++ rest)) w.2 ∙ ap
      (listed (a_branch d 1 ∷ behind_branch d 1 ∷ more) before) text
      ∙ branch_lists d 1 g w.0 (opened g d w.0 w.3) (behind_branch d 1 ∷ more) before tail
      ∙ ap (λ (z : List Limit). over_counts d 1 before ++ (over_under d (suc before) g ++ z))
      (more_lists bs d 1 w.1 w.4 more rest (suc before + count_under g))
      ∙ joined d before 1 g bs more rest

  more_lists : (bs : Contract) (d k : ℕ) (t : List Lexeme) → SpellsMore t bs → (more : List Awaited) (rest : List Lexeme)
      → BranchesList d (suc k) bs (behind_branch d k ∷ more) (t ++ symbol mark.RightParen ∷ rest) more rest
  more_lists no_branch d k t l more rest before =
      ap (λ (z : List Lexeme). listed (behind_branch d k ∷ more) before (z ++ symbol mark.RightParen ∷ rest)) l ∙ ap
      (λ (n : ℕ). listed more n rest) (after_none before)
  more_lists (branch g bs) d k t l more rest before =
      let tail = l.1 ++ symbol mark.RightParen ∷ rest in
      ap (λ (z : List Lexeme). listed (behind_branch d k ∷ more) before (z ++ symbol mark.RightParen ∷ rest)) l.2
      ∙ ap (listed (a_branch d (suc k) ∷ behind_branch d (suc k) ∷ more) before) (append_assoc l.0 l.1 (symbol mark.RightParen ∷ rest))
      ∙ branch_lists d (suc k) g l.0 (opened g d l.0 l.3) (behind_branch d (suc k) ∷ more) before tail
      ∙ ap (λ (z : List Limit). over_counts d (suc k) before ++ (over_under d (suc before) g ++ z))
      (more_lists bs d (suc k) l.1 l.4 more rest (suc before + count_under g))
      ∙ joined d before (suc k) g bs more rest

  parts_lists : (ps : Parts) (d k : ℕ) (t : List Lexeme) → SpellsParts t ps → (more : List Awaited) (rest : List Lexeme) (before : ℕ)
      → listed (a_part d k ∷ more) before (t ++ symbol mark.RightBracket ∷ rest) ≡ over_parts d before k ps ++ listed more
      (before + count_of_parts ps) rest
  parts_lists no_part d k t l more rest before = absurd l
  parts_lists (part v c ps) d k t l more rest before =
      let own = over limits.Number max_money v ++ over limits.Split most_parts k in
      ap (λ (z : List Lexeme). listed (a_part d k ∷ more) before (z ++ symbol mark.RightBracket ∷ rest)) l.2
      ∙ ap (λ (z : List Lexeme). own ++ listed (contract d ∷ behind_part d k ∷ more) before z)
      (append_assoc l.0 l.1 (symbol mark.RightBracket ∷ rest))
      ∙ ap (λ (z : List Limit). own ++ z) (choice_lists c d l.0 l.3 (behind_part d k ∷ more) (l.1 ++ symbol mark.RightBracket ∷ rest) before
      ∙ ap (λ (z : List Limit). over_branches d before 1 c ++ z) (more_parts_lists ps d k l.1 l.4 more rest (before + count_of c)))
      ∙ three own (over_branches d before 1 c) (over_parts d (before + count_of c) (suc k) ps)
      (listed more ((before + count_of c) + count_of_parts ps) rest)
      ∙ ap (λ (n : ℕ). over_parts d before k (part v c ps) ++ listed more n rest) (after_part before (count_of c) (count_of_parts ps))

  more_parts_lists : (ps : Parts) (d k : ℕ) (t : List Lexeme) → SpellsMoreParts t ps
      → (more : List Awaited) (rest : List Lexeme) (before : ℕ)
      → listed (behind_part d k ∷ more) before (t ++ symbol mark.RightBracket ∷ rest) ≡ over_parts d before (suc k) ps ++ listed more
      (before + count_of_parts ps) rest
  more_parts_lists no_part d k t l more rest before =
      ap (λ (z : List Lexeme). listed (behind_part d k ∷ more) before (z ++ symbol mark.RightBracket ∷ rest)) l ∙ ap
      (λ (n : ℕ). listed more n rest) (after_none before)
  more_parts_lists (part v c ps) d k t l more rest before =
      let own = over limits.Number max_money v ++ over limits.Split most_parts (suc k) in
      ap (λ (z : List Lexeme). listed (behind_part d k ∷ more) before (z ++ symbol mark.RightBracket ∷ rest)) l.2
      ∙ ap (λ (z : List Lexeme). own ++ listed (contract d ∷ behind_part d (suc k) ∷ more) before z)
      (append_assoc l.0 l.1 (symbol mark.RightBracket ∷ rest))
      ∙ ap (λ (z : List Limit). own ++ z)
      (choice_lists c d l.0 l.3 (behind_part d (suc k) ∷ more) (l.1 ++ symbol mark.RightBracket ∷ rest) before
      ∙ ap (λ (z : List Limit). over_branches d before 1 c ++ z) (more_parts_lists ps d (suc k) l.1 l.4 more rest (before + count_of c)))
      ∙ three own (over_branches d before 1 c) (over_parts d (before + count_of c) (suc (suc k)) ps)
      (listed more ((before + count_of c) + count_of_parts ps) rest)
      ∙ ap (λ (n : ℕ). over_parts d before (suc k) (part v c ps) ++ listed more n rest) (after_part before (count_of c) (count_of_parts ps))

-- ---- preconditions

abbrev EntriesList : ℕ → ℕ → List Pre → Type 0
EntriesList ds ss ps =
    (more : List Awaited) (before : ℕ) (rest : List Lexeme)
    → listed (behind_entry ds ss ∷ more) before (more_entries ps ++ symbol mark.RightBrace ∷ rest)
    ≡ over_entries ds ss ps ++ listed more before rest

-- an entry and those behind it
entry_lists : (p : Pre) (ps : List Pre) (ds ss : ℕ) → ((es us : ℕ) → EntriesList es us ps)
    → (more : List Awaited) (before : ℕ) (rest : List Lexeme)
    → listed (an_entry ds ss ∷ more) before (entry p ++ (more_entries ps ++ symbol mark.RightBrace ∷ rest)) ≡ over_entries ds ss
    (p ∷ ps) ++ listed more before rest
entry_lists (Persistent party v x) ps ds ss h more before rest =
    ap (λ (z : List Limit). over limits.Deposits most_deposits (suc ds) ++ (over limits.Number max_money v ++ z))
    (h (suc ds) ss more before rest)
    ∙ three (over limits.Deposits most_deposits (suc ds)) (over limits.Number max_money v) (over_entries (suc ds) ss ps)
    (listed more before rest)
entry_lists (Volatile party v x) ps ds ss h more before rest =
    ap (λ (z : List Limit). over limits.Deposits most_deposits (suc ds) ++ (over limits.Number max_money v ++ z))
    (h (suc ds) ss more before rest)
    ∙ three (over limits.Deposits most_deposits (suc ds)) (over limits.Number max_money v) (over_entries (suc ds) ss ps)
    (listed more before rest)
entry_lists (Secret party x) ps ds ss h more before rest =
    ap (λ (z : List Limit). over limits.Secrets most_secrets (suc ss) ++ z) (h ds (suc ss) more before rest)
    ∙ sym (append_assoc (over limits.Secrets most_secrets (suc ss)) (over_entries ds (suc ss) ps) (listed more before rest))

entries_list : (ps : List Pre) (ds ss : ℕ) → EntriesList ds ss ps
entries_list [] ds ss more before rest = refl
entries_list (p ∷ ps) ds ss more before rest =
    ap (listed (an_entry ds ss ∷ more) before) (append_assoc (entry p) (more_entries ps) (symbol mark.RightBrace ∷ rest))
    ∙ entry_lists p ps ds ss (λ es us. entries_list ps es us) more before rest

pre_lists : (pre : List Pre) (t : List Lexeme) → SpellsPre t pre → (rest : List Lexeme)
    → listed an_advert 0 (t ++ rest) ≡ over_entries 0 0 pre ++ listed (fee_or_contract ∷ []) 0 rest
pre_lists [] t l rest = absurd l
pre_lists (p ∷ ps) t l rest =
    ap (λ (z : List Lexeme). listed an_advert 0 (z ++ rest)) l
    ∙ ap (listed (an_entry 0 0 ∷ fee_or_contract ∷ []) 0)
    (append_assoc (entry p) (more_entries ps ++ symbol mark.RightBrace ∷ []) rest ∙ ap (λ (z : List Lexeme). entry p ++ z)
    (append_assoc (more_entries ps) (symbol mark.RightBrace ∷ []) rest))
    ∙ entry_lists p ps 0 0 (λ es us. entries_list ps es us) (fee_or_contract ∷ []) 0 rest

-- ---- adverts

no_fee_lists : (c : Contract) (t : List Lexeme) → SpellsChoice t c → listed (fee_or_contract ∷ []) 0 t ≡ listed (contract 1 ∷ []) 0 t
no_fee_lists c [] l = absurd (choice_nothing c l)
no_fee_lists c (keyword word.Fee ∷ t) l = absurd (fee_contract t c l)
no_fee_lists c (x ∷ t) l = refl

root_lists : (c : Contract) (t : List Lexeme) → SpellsChoice t c → listed (contract 1 ∷ []) 0 t ≡ over_branches 1 0 1 c
root_lists c t l = ap (listed (contract 1 ∷ []) 0) (sym (append-nil t)) ∙ choice_lists c 1 t l [] [] 0 ∙ append-nil (over_branches 1 0 1 c)

fee_lists : (fee : ℕ) (c : Contract) (tf t : List Lexeme) → SpellsFee tf fee → SpellsChoice t c
    → listed (fee_or_contract ∷ []) 0 (tf ++ t) ≡ over limits.Number max_money fee ++ over_branches 1 0 1 c
fee_lists fee c tf t (inl w) l = rw (w.0, w.1) (no_fee_lists c t l ∙ root_lists c t l)
fee_lists fee c tf t (inr w) l = ap (λ (z : List Lexeme). listed (fee_or_contract ∷ []) 0 (z ++ t)) w
    ∙ ap (λ (z : List Limit). over limits.Number max_money fee ++ z) (root_lists c t l)

-- the marks of a spelled text are those of its tree
pub trees_are : TreeTheorem
trees_are t advert s =
    listed_is an_advert 0 t ∙ ap (listed an_advert 0) s.parts ∙ pre_lists advert.pre s.pre_part s.pre (s.fee_part ++ s.root_part)
    ∙ ap (λ (z : List Limit). over_entries 0 0 advert.pre ++ z) (fee_lists advert.fee advert.root s.fee_part s.root_part s.fee s.root)
