-- Contracts that are within the limits are read, whatever follows.
use Rattle.std.proofs.Common.{◌≡◌, ℕ, zero, suc, ◌+◌, ◌-◌, ◌≤◌, inl, inr, true, List, [], ◌∷◌, ◌++◌, length, Ok, sym, ap, ◌∙◌, append_assoc, arith}
use Rattle.std.specs.Prelude.{◌&&◌, nat_le, max}
use Rattle.std.proofs.Math.Nat.{le-max_left, le-max_right}
use Rattle.std.proofs.lemmas.Bool.{leb-true}
use Rattle.spec_data.specs.Ranges.{max_money, last_height}
use Rattle.spec_terms.specs.Term.{Guarded, auth, after, put_reveal, withdraw, split, Contract, no_branch, branch, branches, Parts, no_part, part, parts_list}
use Rattle.spec_terms.specs.Readable.{most_choices, most_parts, is_readable_test, is_some_list, is_readable_count, is_readable_split, are_readable, is_readable_branch, are_readable_parts, depth_of, depth_of_choice, depth_of_parts, count_of, count_under, count_of_parts}
use Rattle.spec_text.specs.declared.token.Keyword.TheVariants as word
use Rattle.spec_text.specs.declared.token.Symbol.TheVariants as mark
use Rattle.spec_text.specs.declared.lexeme.Lexeme.{Lexeme}
use Rattle.spec_text.specs.declared.lexeme.Lexeme.TheVariants.{Keyword as keyword, Symbol as symbol, Number as number}
use Rattle.spec_text.specs.Grammar.{SpellsBranch, SpellsChoice, SpellsMore, SpellsParts}
use Rattle.spec_text.specs.ReadContract.{choice_with, branches_at, parts_at, branch_at}
use Rattle.theory_text.proofs.ListFacts.{and_left, and_right}
use Rattle.theory_text.proofs.Again.Steps.{read_as, auth_step, after_step, withdraw_step, split_step, headed_step, no_limit, one_step, last_step, plus_step, open_step, bare_step, part_step}

some_depth : (g : Guarded) → 1 ≤ depth_of g
some_depth (auth party body) = omega arith
some_depth (after height body) = omega arith
some_depth (put_reveal puts reveals test next) = omega arith
some_depth (withdraw party) = omega arith
some_depth (split parts) = omega arith

left_max : (a b d : ℕ) → max a b ≤ d → a ≤ d
left_max a b d h = let p = le-max_left a b in omega (arith, p)

right_max : (a b d : ℕ) → max a b ≤ d → b ≤ d
right_max a b d h = let p = le-max_right a b in omega (arith, p)

-- what the text of a branch is read as
abbrev ReadsBranch : ℕ → Guarded → List Lexeme → Type 0
ReadsBranch d g t = (b : ℕ) (rest : List Lexeme) → count_under g ≤ b → branch_at d b (t ++ rest) ≡ Ok ((g, b - count_under g), rest)

mutual
  branch_again : (g : Guarded) (d b : ℕ) (t rest : List Lexeme) → SpellsBranch t g → is_readable_branch g ≡ true → depth_of g ≤ d
      → count_under g ≤ b → branch_at d b (t ++ rest) ≡ Ok ((g, b - count_under g), rest)
  branch_again g zero b t rest l h le lb = let k = some_depth g in absurd (omega (arith, k))
  branch_again (auth party body) (suc d) b t rest l h le lb =
      let one = branch_again body d b l.0 rest l.2 (and_right _ _ h) (omega arith) lb in
      ap (λ (u : List Lexeme). branch_at (suc d) b (u ++ rest)) l.1 ∙ auth_step d b party (l.0 ++ rest) body (b - count_under body) rest one
  branch_again (after height body) (suc d) b t rest l h le lb =
      let one = branch_again body d b l.0 rest l.2 (and_right (nat_le height last_height) _ h) (omega arith) lb in
      ap (λ (u : List Lexeme). branch_at (suc d) b (u ++ rest)) l.1
      ∙ after_step d b height (l.0 ++ rest) body (b - count_under body) rest (and_left (nat_le height last_height) _ h) one
  branch_again (put_reveal puts reveals test next) (suc d) b t rest l h le lb =
      let deep : depth_of_choice next ≤ d = omega arith in
      let second : (is_readable_test test && (is_readable_count next && are_readable next)) ≡ true = and_right _ _ h in
      let third : (is_readable_count next && are_readable next) ≡ true = and_right (is_readable_test test) _ second in
      let text : t ++ rest ≡ l.0 ++ symbol mark.Dot ∷ (l.1 ++ rest) = ap (λ (u : List Lexeme). u ++ rest) l.2 ∙ append_assoc l.0 (symbol mark.Dot ∷ l.1) rest in
      let one = choice_again next d b l.1 rest l.4 (and_left (is_readable_count next) _ third) (and_right (is_readable_count next) _ third) deep lb in
      ap (branch_at (suc d) b) text ∙ headed_step d b l.0 (l.1 ++ rest) puts reveals test next (b - count_of next) rest l.3
      (and_left (is_readable_test test) _ second) one
  branch_again (withdraw party) (suc d) b t rest l h le lb =
      let none : b ≡ b - 0 = omega arith in
      ap (λ (u : List Lexeme). branch_at (suc d) b (u ++ rest)) l ∙ withdraw_step d b party rest ∙ ap (λ (m : ℕ). read_as (withdraw party, m) rest) none
  branch_again (split parts) (suc d) b t rest l h le lb =
      let counted : nat_le (length (parts_list parts)) most_parts ≡ true =
      and_right (is_some_list (parts_list parts)) _ (and_left (is_readable_split parts) _ h) in
      let text : t ++ rest ≡ keyword word.Split ∷ symbol mark.LeftBracket ∷ (l.0 ++ symbol mark.RightBracket ∷ rest) =
      ap (λ (u : List Lexeme). u ++ rest) l.1
      ∙ ap (λ (u : List Lexeme). keyword word.Split ∷ symbol mark.LeftBracket ∷ u) (append_assoc l.0 (symbol mark.RightBracket ∷ []) rest) in
      let one = parts_again parts d most_parts b l.0 rest l.2 (and_right (is_readable_split parts) _ h) (omega arith) lb (leb-true _ _ counted) in
      ap (branch_at (suc d) b) text ∙ split_step d b (l.0 ++ symbol mark.RightBracket ∷ rest) parts (b - count_of_parts parts) rest one

  choice_again : (c : Contract) (d b : ℕ) (t rest : List Lexeme) → SpellsChoice t c → is_readable_count c ≡ true → are_readable c ≡ true
      → depth_of_choice c ≤ d → count_of c ≤ b → choice_with (branch_at d) d b (t ++ rest) ≡ Ok ((c, b - count_of c), rest)
  choice_again no_branch d b t rest l k h le lb = absurd l
  choice_again (branch g bs) d b t rest (inl w) k h le lb =
      let deep = left_max (depth_of g) (depth_of_choice bs) d le in
      let some = some_depth g in
      let one = branch_again g d (b - 1) t rest w.0 (and_left (is_readable_branch g) _ h) deep (omega arith) in
      let none : count_of bs ≡ 0 = ap count_of w.1 in
      let same : (b - 1) - count_under g ≡ b - (count_under g + 1 + count_of bs) = omega (arith, none) in
      bare_step (branch_at d) d b t rest g w.0
      ∙ one_step (branch_at d) d b (t ++ rest) g ((b - 1) - count_under g) rest
      (no_limit d b most_choices (omega (arith, deep, some)) (omega arith) (omega arith)) one ∙ (λ i. read_as (branch g (sym w.1 i), same i) rest)
  choice_again (branch g bs) d b t rest (inr w) k h le lb =
      let deep = left_max (depth_of g) (depth_of_choice bs) d le in
      let some = some_depth g in
      let counted : nat_le (suc (length (branches bs))) most_choices ≡ true = k in
      let text : t ++ rest ≡ symbol mark.LeftParen ∷ (w.0 ++ (w.1 ++ symbol mark.RightParen ∷ rest)) =
      ap (λ (u : List Lexeme). u ++ rest) w.2
      ∙ ap (λ (u : List Lexeme). symbol mark.LeftParen ∷ u) (append_assoc w.0 (w.1 ++ symbol mark.RightParen ∷ []) rest
      ∙ ap (λ (u : List Lexeme). w.0 ++ u) (append_assoc w.1 (symbol mark.RightParen ∷ []) rest)) in
      ap (choice_with (branch_at d) d b) text ∙ open_step (branch_at d) d b (w.0 ++ (w.1 ++ symbol mark.RightParen ∷ rest))
      ∙ more_again bs d most_choices b w.0 w.1 rest g (λ c r lc. branch_again g d c w.0 r w.3 (and_left (is_readable_branch g) _ h) deep lc)
      (omega (arith, deep, some)) w.4 (and_right (is_readable_branch g) _ h) (right_max (depth_of g) (depth_of_choice bs) d le) lb (leb-true _ _ counted)

  more_again : (bs : Contract) (d k b : ℕ) (tb tm rest : List Lexeme) (g : Guarded) → ReadsBranch d g tb → 1 ≤ d → SpellsMore tm bs
      → are_readable bs ≡ true → depth_of_choice bs ≤ d → count_under g + 1 + count_of bs ≤ b → suc (length (branches bs)) ≤ k
      → branches_at (branch_at d) d k b (tb ++ (tm ++ symbol mark.RightParen ∷ rest)) ≡ Ok ((branch g bs, b - (count_under g + 1 + count_of bs)), rest)
  more_again bs d zero b tb tm rest g hg ld l h le lb lk = absurd (omega arith)
  more_again no_branch d (suc k) b tb tm rest g hg ld l h le lb lk =
      let text : tb ++ (tm ++ symbol mark.RightParen ∷ rest) ≡ tb ++ symbol mark.RightParen ∷ rest =
      ap (λ (u : List Lexeme). tb ++ (u ++ symbol mark.RightParen ∷ rest)) l in
      let one = hg (b - 1) (symbol mark.RightParen ∷ rest) (omega arith) in
      let same : (b - 1) - count_under g ≡ b - (count_under g + 1 + 0) = omega arith in
      ap (branches_at (branch_at d) d (suc k) b) text
      ∙ last_step (branch_at d) d k b (tb ++ symbol mark.RightParen ∷ rest) g ((b - 1) - count_under g) rest
      (no_limit d b (suc k) ld (omega arith) (omega arith)) one ∙ ap (λ (m : ℕ). read_as (branch g no_branch, m) rest) same
  more_again (branch e bs) d (suc k) b tb tm rest g hg ld l h le lb lk =
      let u : List Lexeme = l.0 ++ (l.1 ++ symbol mark.RightParen ∷ rest) in
      let text : tb ++ (tm ++ symbol mark.RightParen ∷ rest) ≡ tb ++ symbol mark.Plus ∷ u =
      ap (λ (z : List Lexeme). tb ++ (z ++ symbol mark.RightParen ∷ rest)) l.2
      ∙ ap (λ (z : List Lexeme). tb ++ symbol mark.Plus ∷ z) (append_assoc l.0 l.1 (symbol mark.RightParen ∷ rest)) in
      let one = hg (b - 1) (symbol mark.Plus ∷ u) (omega arith) in
      let deep = left_max (depth_of e) (depth_of_choice bs) d le in
      let n = (b - 1) - count_under g in
      let more = more_again bs d k n l.0 l.1 rest e (λ c r lc. branch_again e d c l.0 r l.3 (and_left (is_readable_branch e) _ h) deep lc) ld l.4
      (and_right (is_readable_branch e) _ h) (right_max (depth_of e) (depth_of_choice bs) d le) (omega arith) (omega arith) in
      let same : n - (count_under e + 1 + count_of bs) ≡ b - (count_under g + 1 + (count_under e + 1 + count_of bs)) = omega arith in
      ap (branches_at (branch_at d) d (suc k) b) text
      ∙ plus_step (branch_at d) d k b (tb ++ symbol mark.Plus ∷ u) u g n (branch e bs) (n - (count_under e + 1 + count_of bs)) rest
      (no_limit d b (suc k) ld (omega arith) (omega arith)) one more
      ∙ ap (λ (m : ℕ). read_as (branch g (branch e bs), m) rest) same

  parts_again : (ps : Parts) (d k b : ℕ) (t rest : List Lexeme) → SpellsParts t ps → are_readable_parts ps ≡ true → depth_of_parts ps ≤ d
      → count_of_parts ps ≤ b → length (parts_list ps) ≤ k
      → parts_at (choice_with (branch_at d) d) k b (t ++ symbol mark.RightBracket ∷ rest) ≡ Ok ((ps, b - count_of_parts ps), rest)
  parts_again no_part d k b t rest l h le lb lk = absurd l
  parts_again (part v c ps) d zero b t rest l h le lb lk = absurd (omega arith)
  parts_again (part v c ps) d (suc k) b t rest l h le lb lk =
      let first : (nat_le v max_money && (is_readable_count c && are_readable c)) ≡ true = and_left _ _ h in
      let second : (is_readable_count c && are_readable c) ≡ true = and_right (nat_le v max_money) _ first in
      let text : t ++ symbol mark.RightBracket ∷ rest ≡ number v ∷ symbol mark.Arrow ∷ (l.0 ++ (l.1 ++ symbol mark.RightBracket ∷ rest)) =
      ap (λ (u : List Lexeme). u ++ symbol mark.RightBracket ∷ rest) l.2
      ∙ ap (λ (u : List Lexeme). number v ∷ symbol mark.Arrow ∷ u) (append_assoc l.0 l.1 (symbol mark.RightBracket ∷ rest)) in
      let one = choice_again c d b l.0 (l.1 ++ symbol mark.RightBracket ∷ rest) l.3 (and_left (is_readable_count c) _ second)
      (and_right (is_readable_count c) _ second) (left_max (depth_of_choice c) (depth_of_parts ps) d le) (omega arith) in
      let n = b - count_of c in
      let same : n - count_of_parts ps ≡ b - (count_of c + count_of_parts ps) = omega arith in
      ap (parts_at (choice_with (branch_at d) d) (suc k) b) text
      ∙ part_step ps (choice_with (branch_at d) d) k b v (l.0 ++ (l.1 ++ symbol mark.RightBracket ∷ rest)) l.1 c n rest
      (and_left (nat_le v max_money) _ first) l.4 one
      (λ u m. parts_again ps d k n u rest m (and_right _ _ h) (right_max (depth_of_choice c) (depth_of_parts ps) d le) (omega arith) (omega arith))
      ∙ ap (λ (m : ℕ). read_as (part v c ps, m) rest) same

-- a contract that is within the limits is read, whatever follows
pub contract_again : (c : Contract) (d b : ℕ) (t rest : List Lexeme) → SpellsChoice t c → is_readable_count c ≡ true → are_readable c ≡ true
    → depth_of_choice c ≤ d → count_of c ≤ b → choice_with (branch_at d) d b (t ++ rest) ≡ Ok ((c, b - count_of c), rest)
contract_again = choice_again
