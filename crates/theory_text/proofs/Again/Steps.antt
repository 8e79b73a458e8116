-- One step of the readers of contracts, where what they call reads.
use Rattle.std.proofs.Common.{◌≡◌, ℕ, suc, ◌-◌, ◌≤◌, true, false, List, [], ◌∷◌, ◌++◌, Option, None, Result, Ok, refl, sym, ap, ◌∙◌, append_assoc, arith}
use Rattle.std.proofs.Common.{inl, inr}
use Rattle.std.specs.Prelude.{◌==◌, nat_le}
use Rattle.std.proofs.lemmas.Bool.Decides.{eqb_tells}
use Rattle.spec_data.specs.Ranges.{max_money, last_height}
use Rattle.spec_terms.specs.Term.{Pred, Guarded, auth, after, put_reveal, withdraw, split, Contract, no_branch, branch, Parts, no_part, part}
use Rattle.spec_terms.specs.Readable.{most_choices, most_parts, is_readable_test, count_of_parts}
use Rattle.spec_terms.specs.declared.limit.Limit.{Limit}
use Rattle.spec_text.specs.declared.stop.Stop.{Stop}
use Rattle.spec_text.specs.declared.token.Keyword.TheVariants as word
use Rattle.spec_text.specs.declared.token.Symbol.TheVariants as mark
use Rattle.spec_text.specs.declared.lexeme.Lexeme.{Lexeme}
use Rattle.spec_text.specs.declared.lexeme.Lexeme.TheVariants.{Keyword as keyword, Symbol as symbol, Name as name, Number as number}
use Rattle.spec_text.specs.Grammar.{SpellsHeading, SpellsBranch, SpellsParts, SpellsMoreParts}
use Rattle.spec_text.specs.ReadContract.{Heading, reveals_at, puts_at, branch_limit, BranchReader, ChoiceReader, allowed_branch, branches_at, one_branch_at, choice_with, parts_at, auth_at, after_at, headed_at, put_at, reveal_at, withdraw_at, split_at, branch_at}
use Rattle.theory_text.proofs.Told.Headings.{heading_nothing, heading_first, put_from, reveal_from}
use Rattle.theory_text.proofs.Told.BranchTexts.{branch_nothing, branch_first}
use Rattle.theory_text.proofs.Again.Headings.{reveals_again, puts_again}

abbrev pub read_as : {A : Type 0} → A → List Lexeme → Result (A × List Lexeme) Stop
read_as x ts = Ok (x, ts)

-- ---- branches

pub auth_step : (d b : ℕ) (party : List ℕ) (t : List Lexeme) (g : Guarded) (n : ℕ) (rest : List Lexeme) → branch_at d b t
    ≡ Ok ((g, n), rest) → branch_at (suc d) b (name party ∷ symbol mark.Colon ∷ t) ≡ Ok ((auth party g, n), rest)
unfolding branch_at auth_at
auth_step d b party t g n rest h = rw h refl

pub after_step : (d b height : ℕ) (t : List Lexeme) (g : Guarded) (n : ℕ) (rest : List Lexeme) → nat_le height last_height ≡ true
    → branch_at d b t ≡ Ok ((g, n), rest) → branch_at (suc d) b (keyword word.After ∷ number height ∷ symbol mark.Colon ∷ t) ≡ Ok ((after height g, n), rest)
unfolding branch_at after_at
after_step d b height t g n rest k h = rw (k, h) refl

pub withdraw_step : (d b : ℕ) (party : List ℕ) (rest : List Lexeme) → branch_at (suc d) b (keyword word.Withdraw ∷ name party ∷ rest)
    ≡ Ok ((withdraw party, b), rest)
unfolding branch_at withdraw_at
withdraw_step d b party rest = refl

pub split_step : (d b : ℕ) (t : List Lexeme) (ps : Parts) (n : ℕ) (rest : List Lexeme)
    → parts_at (choice_with (branch_at d) d) most_parts b t ≡ Ok ((ps, n), rest)
    → branch_at (suc d) b (keyword word.Split ∷ symbol mark.LeftBracket ∷ t) ≡ Ok ((split ps, n), rest)
unfolding branch_at split_at
split_step d b t ps n rest h = rw h refl

put_step : (d b : ℕ) (t tn : List Lexeme) (k : Heading) (c : Contract) (n : ℕ) (rest : List Lexeme) → puts_at t ≡ Ok (k, tn)
    → choice_with (branch_at d) d b tn ≡ Ok ((c, n), rest) → branch_at (suc d) b (keyword word.Put ∷ t) ≡ Ok ((put_reveal (k.0) (k.1) (k.2) c, n), rest)
unfolding branch_at put_at headed_at
put_step d b t tn k c n rest p h = rw (p, h) refl

reveal_step : (d b : ℕ) (t tn : List Lexeme) (k : Heading) (c : Contract) (n : ℕ) (rest : List Lexeme) → reveals_at [] t ≡ Ok (k, tn)
    → choice_with (branch_at d) d b tn ≡ Ok ((c, n), rest) → branch_at (suc d) b (keyword word.Reveal ∷ t) ≡ Ok ((put_reveal (k.0) (k.1) (k.2) c, n), rest)
unfolding branch_at reveal_at headed_at
reveal_step d b t tn k c n rest p h = rw (p, h) refl

-- a heading and the contract behind its point
pub headed_step : (d b : ℕ) (th tn : List Lexeme) (puts reveals : List (List ℕ)) (test : Pred) (c : Contract) (n : ℕ) (rest : List Lexeme)
    → SpellsHeading th puts reveals test → is_readable_test test ≡ true → choice_with (branch_at d) d b tn ≡ Ok ((c, n), rest)
    → branch_at (suc d) b (th ++ symbol mark.Dot ∷ tn) ≡ Ok ((put_reveal puts reveals test c, n), rest)
headed_step d b [] tn puts reveals test c n rest l k h = absurd (heading_nothing puts reveals test l)
headed_step d b (keyword word.Put ∷ u) tn puts reveals test c n rest l k h =
    let text : u ++ symbol mark.Dot ∷ tn ≡ (u ++ symbol mark.Dot ∷ []) ++ tn = sym (append_assoc u (symbol mark.Dot ∷ []) tn) in
    let one : puts_at (u ++ symbol mark.Dot ∷ tn) ≡ Ok ((puts, reveals, test), tn) =
    ap puts_at text ∙ puts_again (u ++ symbol mark.Dot ∷ []) tn (puts, reveals, test) (put_from u puts reveals test l) k in
    put_step d b (u ++ symbol mark.Dot ∷ tn) tn (puts, reveals, test) c n rest one h
headed_step d b (keyword word.Reveal ∷ u) tn puts reveals test c n rest l k h =
    let text : u ++ symbol mark.Dot ∷ tn ≡ (u ++ symbol mark.Dot ∷ []) ++ tn = sym (append_assoc u (symbol mark.Dot ∷ []) tn) in
    let one : reveals_at [] (u ++ symbol mark.Dot ∷ tn) ≡ Ok ((puts, reveals, test), tn) =
    ap (reveals_at []) text ∙ reveals_again [] (u ++ symbol mark.Dot ∷ []) tn (puts, reveals, test) (reveal_from u puts reveals test l) k in
    reveal_step d b (u ++ symbol mark.Dot ∷ tn) tn (puts, reveals, test) c n rest one h
headed_step d b (x ∷ u) tn puts reveals test c n rest l k h = let e = heading_first x u puts reveals test l in absurd cc

-- ---- choices

pub not_zero : (n : ℕ) → 1 ≤ n → (n == 0) ≡ false
not_zero n h = elim (eqb_tells n 0) [ inl w ↦ absurd (omega (arith, w.1)) | inr w ↦ w.0 ]

pub no_limit : (d b k : ℕ) → 1 ≤ d → 1 ≤ b → 1 ≤ k → branch_limit d b k ≡ None
no_limit d b k p q r = rw (not_zero d p, not_zero b q, not_zero k r) refl

pub one_step : (read : BranchReader) (d b : ℕ) (t : List Lexeme) (g : Guarded) (n : ℕ) (rest : List Lexeme) → branch_limit d b most_choices
    ≡ None → read (b - 1) t ≡ Ok ((g, n), rest) → one_branch_at read d b t ≡ Ok ((branch g no_branch, n), rest)
unfolding one_branch_at
one_step read d b t g n rest k h =
    let one : allowed_branch read (branch_limit d b most_choices) b t ≡ Ok ((g, n), rest) = ap (λ (o : Option Limit). allowed_branch read o b t) k ∙ h in
    rw one refl

pub last_step : (read : BranchReader) (d k b : ℕ) (t : List Lexeme) (g : Guarded) (n : ℕ) (rest : List Lexeme) → branch_limit d b (suc k)
    ≡ None → read (b - 1) t ≡ Ok ((g, n), symbol mark.RightParen ∷ rest) → branches_at read d (suc k) b t ≡ Ok ((branch g no_branch, n), rest)
unfolding branches_at
last_step read d k b t g n rest m h =
    let one : allowed_branch read (branch_limit d b (suc k)) b t ≡ Ok ((g, n), symbol mark.RightParen ∷ rest) =
    ap (λ (o : Option Limit). allowed_branch read o b t) m ∙ h in
    rw one refl

pub plus_step : (read : BranchReader) (d k b : ℕ) (t u : List Lexeme) (g : Guarded) (n : ℕ) (bs : Contract) (m : ℕ) (rest : List Lexeme)
    → branch_limit d b (suc k) ≡ None → read (b - 1) t ≡ Ok ((g, n), symbol mark.Plus ∷ u) → branches_at read d k n u ≡ Ok ((bs, m), rest)
    → branches_at read d (suc k) b t ≡ Ok ((branch g bs, m), rest)
unfolding branches_at
plus_step read d k b t u g n bs m rest z h more =
    let one : allowed_branch read (branch_limit d b (suc k)) b t ≡ Ok ((g, n), symbol mark.Plus ∷ u) =
    ap (λ (o : Option Limit). allowed_branch read o b t) z ∙ h in
    rw (one, more) refl

pub open_step : (read : BranchReader) (d b : ℕ) (t : List Lexeme) → choice_with read d b (symbol mark.LeftParen ∷ t) ≡ branches_at read d most_choices b t
unfolding choice_with
open_step read d b t = refl

pub bare_step : (read : BranchReader) (d b : ℕ) (t rest : List Lexeme) (g : Guarded) → SpellsBranch t g → choice_with read d b (t ++ rest)
    ≡ one_branch_at read d b (t ++ rest)
unfolding choice_with
bare_step read d b [] rest g l = absurd (branch_nothing g l)
bare_step read d b (symbol mark.LeftParen ∷ t) rest g l = absurd (branch_first (symbol mark.LeftParen) t g l refl)
bare_step read d b (c ∷ t) rest g l = refl

-- ---- parts

last_part : (read : ChoiceReader) (k b v : ℕ) (t : List Lexeme) (c : Contract) (n : ℕ) (rest : List Lexeme) → nat_le v max_money ≡ true
    → read b t ≡ Ok ((c, n), symbol mark.RightBracket ∷ rest) → parts_at read (suc k) b (number v ∷ symbol mark.Arrow ∷ t) ≡ Ok ((part v c no_part, n), rest)
unfolding parts_at
last_part read k b v t c n rest m h = rw (m, h) refl

comma_part : (read : ChoiceReader) (k b v : ℕ) (t u : List Lexeme) (c : Contract) (n : ℕ) (ps : Parts) (m : ℕ) (rest : List Lexeme)
    → nat_le v max_money ≡ true → read b t ≡ Ok ((c, n), symbol mark.Comma ∷ u) → parts_at read k n u ≡ Ok ((ps, m), rest)
    → parts_at read (suc k) b (number v ∷ symbol mark.Arrow ∷ t) ≡ Ok ((part v c ps, m), rest)
unfolding parts_at
comma_part read k b v t u c n ps m rest z h more = rw (z, h, more) refl

-- a part and those behind it, where these are read
pub part_step : (ps : Parts) (read : ChoiceReader) (k b v : ℕ) (t tm : List Lexeme) (c : Contract) (n : ℕ) (rest : List Lexeme)
    → nat_le v max_money ≡ true → SpellsMoreParts tm ps → read b t ≡ Ok ((c, n), tm ++ symbol mark.RightBracket ∷ rest)
    → ((u : List Lexeme) → SpellsParts u ps → parts_at read k n (u ++ symbol mark.RightBracket ∷ rest)
    ≡ Ok ((ps, n - count_of_parts ps), rest)) → parts_at read (suc k) b (number v ∷ symbol mark.Arrow ∷ t) ≡ Ok ((part v c ps, n - count_of_parts ps), rest)
part_step no_part read k b v t tm c n rest z l h more =
    let one : read b t ≡ Ok ((c, n), symbol mark.RightBracket ∷ rest) = h ∙ ap (λ (u : List Lexeme). read_as (c, n) (u ++ symbol mark.RightBracket ∷ rest)) l in
    let none : n ≡ n - 0 = omega arith in
    last_part read k b v t c n rest z one ∙ ap (λ (m : ℕ). read_as (part v c no_part, m) rest) none
part_step (part w e ps) read k b v t tm c n rest z l h more =
    let one : read b t ≡ Ok ((c, n), symbol mark.Comma ∷ ((number w ∷ symbol mark.Arrow ∷ (l.0 ++ l.1)) ++ symbol mark.RightBracket ∷ rest)) =
    h ∙ ap (λ (x : List Lexeme). read_as (c, n) (x ++ symbol mark.RightBracket ∷ rest)) l.2 in
    comma_part read k b v t ((number w ∷ symbol mark.Arrow ∷ (l.0 ++ l.1)) ++ symbol mark.RightBracket ∷ rest) c n (part w e ps)
    (n - count_of_parts (part w e ps)) rest z one
    (more (number w ∷ symbol mark.Arrow ∷ (l.0 ++ l.1)) (l.0, l.1, refl, l.3, l.4))
