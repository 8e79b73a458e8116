-- What the readers of contracts tell.
use Rattle.std.proofs.Common.{◌≡◌, ℕ, zero, suc, ◌-◌, Bool, true, false, cond, List, [], ◌∷◌, Option, Some, None, Ok, refl, sym, subst}
use Rattle.std.specs.Prelude.{◌==◌}
use Rattle.spec_terms.specs.Term.{Guarded, auth, after, put_reveal, withdraw, split, Contract, no_branch, branch, Parts, no_part, part}
use Rattle.spec_terms.specs.Readable.{most_choices, most_parts, count_of, count_under, count_of_parts}
use Rattle.spec_terms.specs.declared.limit.Limit.{Limit}
use Rattle.spec_terms.specs.declared.limit.Limit.TheVariants as limits
use Rattle.spec_data.specs.Ranges.{max_money, last_height}
use Rattle.spec_text.specs.declared.token.Keyword.TheVariants as word
use Rattle.spec_text.specs.declared.token.Symbol.TheVariants as mark
use Rattle.spec_text.specs.declared.lexeme.Lexeme.{Lexeme}
use Rattle.spec_text.specs.declared.lexeme.Lexeme.TheVariants.{Keyword as keyword, Symbol as symbol, Name as name, Number as number, LongName as long_name, HugeNumber as huge_number}
use Rattle.spec_text.specs.Grammar.{SpellsBranch, SpellsChoice, StandsFor}
use Rattle.spec_text.specs.Reading.{Reads, ◌>>=◌}
use Rattle.spec_text.specs.ReadContract.{Heading, begins_branch, branch_limit, BranchReader, ChoiceReader, allowed_branch, branches_at, one_branch_at, choice_with, a_value, parts_at, auth_at, after_at, headed_at, put_at, reveal_at, withdraw_at, split_at, branch_at}
use Rattle.theory_bitcoin.proofs.Languages.{Some_text}
use Rattle.theory_text.proofs.Told.Tells.{Tells, Exact, pure, seq, transfer, Behind, behind}
use Rattle.theory_text.proofs.Told.FirstToken.{Begun, ended, ended_told, wrong_first, exceeded_first, stops_first, narrow}
use Rattle.theory_text.proofs.Told.Sees.{token, clear_as, the_symbol, the_name, the_number}
use Rattle.theory_text.proofs.Told.CountedTexts.{counted_some, counted_begun}
use Rattle.theory_text.proofs.Told.Headings.{a_put, a_reveal, puts_clear, reveals_clear}
use Rattle.theory_text.proofs.Told.BranchTexts.{Branches, ClosedParts, BranchText, ChoiceText, BranchesText, PartsText, some_branch, some_choice, branch_begun, branches_begun, parts_begun, short, short_branch}
use Rattle.theory_text.proofs.Told.BranchChains.{auth_to, auth_from, after_to, after_from, Headed, puts_to, puts_from, reveals_to, reveals_from, withdraw_to, withdraw_from, split_to, split_from}
use Rattle.theory_text.proofs.Told.ChoiceChains.{BranchesRest, branches_to, branches_from, OneSeq, one_to, one_from, opens, opened_to, opened_from, PartsRest, parts_to, parts_from}
use Rattle.theory_text.proofs.Told.BranchEnds.{the_plus, the_comma, choice_nothing, branch_clear, choice_clear, branches_clear, parts_clear}

-- whether readers are exact, however many branches may come
abbrev ExactBranches : BranchReader → Type 0
ExactBranches read = (b : ℕ) → Exact (BranchText b) (read b)

abbrev ExactChoices : ChoiceReader → Type 0
ExactChoices read = (b : ℕ) → Exact (ChoiceText b) (read b)

-- ---- choices

branch_begun_at : (b : ℕ) → Begun begins_branch (BranchText b)
branch_begun_at b = counted_begun count_under SpellsBranch b branch_begun

an_allowed : (read : BranchReader) → ExactBranches read → (w : Option Limit) (b : ℕ) → Exact (BranchText (b - 1)) (allowed_branch read w b)
an_allowed read h (Some w) b =
    record {
      some = counted_some count_under SpellsBranch (b - 1) some_branch;
      tells = λ ts. stops_first begins_branch (BranchText (b - 1))
          (branch_begun_at (b - 1)) w ts;
    }
an_allowed read h None b = h (b - 1)

-- where no branch of a choice may come
full : (p q : Bool) → (w : Limit) × (cond p (Some limits.Depth) (cond q (Some limits.Branches) (Some limits.Choice)) ≡ Some w)
full true q = (limits.Depth, refl)
full false true = (limits.Branches, refl)
full false false = (limits.Choice, refl)

branches_stop : (read : BranchReader) (d b : ℕ) (ts : List Lexeme) → Tells (BranchesText b) ts (branches_at read d 0 b ts)
unfolding branches_at
branches_stop read d b ts =
    let w = full (d == 0) (b == 0) in
    subst (λ (o : Option Limit). Tells (BranchesText b) ts
    (allowed_branch read o b ts >>= λ g. Ok ((branch (g.0.0) no_branch, g.0.1), g.1))) (sym w.1)
    (stops_first begins_branch (BranchesText b) (counted_begun count_of Branches b branches_begun) w.0 ts)

abbrev rest_at : BranchReader → ℕ → ℕ → Guarded × ℕ → Bool → List Lexeme → Reads (Contract × ℕ)
rest_at read d k g o ts = elim o [
  | true ↦ branches_at read d k (g.1) ts >>= λ r. Ok ((branch (g.0) (r.0.0), r.0.1), r.1)
  | false ↦ Ok ((branch (g.0) no_branch, g.1), ts)
]

a_rest : (read : BranchReader) (d k : ℕ) (g : Guarded × ℕ) → Exact (BranchesText (g.1)) (branches_at read d k (g.1)) → (o : Bool)
    → Exact (BranchesRest g o) (rest_at read d k g o)
a_rest read d k g h true = seq (branches_clear (g.1)) h (λ r t l. pure (branch (g.0) (r.0), r.1))
a_rest read d k g h false = pure (branch (g.0) no_branch, g.1)

some_branches : (b : ℕ) → Some_text (BranchesText b)
some_branches b = counted_some count_of Branches b branches_begun.some

branches_exact : (read : BranchReader) → ExactBranches read → (d k b : ℕ) → Exact (BranchesText b) (branches_at read d k b)
unfolding branches_at
branches_exact read h d zero b = record { some = some_branches b; tells = branches_stop read d b }
branches_exact read h d (suc k) b = transfer (BranchesText b) (branches_to b) (branches_from b)
    (seq (branch_clear (b - 1)) (an_allowed read h (branch_limit d b (suc k)) b) (λ g t l.
    seq (clear_as the_plus) (token the_plus) (λ o u m.
    a_rest read d k g (branches_exact read h d k (g.1)) o)))

one_exact : (read : BranchReader) → ExactBranches read → (d b : ℕ) → Exact (OneSeq b) (one_branch_at read d b)
unfolding one_branch_at
one_exact read h d b = seq (branch_clear (b - 1)) (an_allowed read h (branch_limit d b most_choices) b) (λ g t l. pure (branch (g.0) no_branch, g.1))

not_open : (c d : Lexeme) → opens c ≡ false → StandsFor c d → opens d ≡ false
not_open long_name (name bytes) h st = refl
not_open huge_number (number n) h st = refl
not_open c d h st = subst (λ (z : Lexeme). opens z ≡ false) st h

choice_told : (read : BranchReader) → ExactBranches read → (d b : ℕ) (ts : List Lexeme) → Tells (ChoiceText b) ts (choice_with read d b ts)
unfolding choice_with
choice_told read h d b [] = record { told = ended_told (ChoiceText b) (λ v l. choice_nothing (v.0) (l.0)) (counted_some count_of SpellsChoice b some_choice) }
choice_told read h d b (symbol mark.LeftParen ∷ ts) =
    behind (symbol mark.LeftParen) (ChoiceText b) ts (branches_at read d most_choices b ts)
    ((transfer (Behind (symbol mark.LeftParen) (ChoiceText b)) (opened_to b) (opened_from b) (branches_exact read h d most_choices b)).tells ts)
choice_told read h d b (c ∷ ts) =
    narrow (OneSeq b) (ChoiceText b) opens c ts (λ e st. not_open c e refl st) (one_to b) (λ e t v k l. one_from b e t v k l)
    (one_branch_at read d b (c ∷ ts)) ((one_exact read h d b).tells (c ∷ ts))

-- contracts are read exactly, if branches are
pub choice_exact : (read : BranchReader) → ExactBranches read → (d : ℕ) → ExactChoices (choice_with read d)
choice_exact read h d b = record { some = counted_some count_of SpellsChoice b some_choice; tells = choice_told read h d b }

-- ---- parts

abbrev parts_rest_at : ChoiceReader → ℕ → ℕ → Contract × ℕ → Bool → List Lexeme → Reads (Parts × ℕ)
parts_rest_at read k v c o ts = elim o [
  | true ↦ parts_at read k (c.1) ts >>= λ r. Ok ((part v (c.0) (r.0.0), r.0.1), r.1)
  | false ↦ Ok ((part v (c.0) no_part, c.1), ts)
]

a_parts_rest : (read : ChoiceReader) (k v : ℕ) (c : Contract × ℕ) → Exact (PartsText (c.1)) (parts_at read k (c.1)) → (o : Bool)
    → Exact (PartsRest v c o) (parts_rest_at read k v c o)
a_parts_rest read k v c h true = seq (parts_clear (c.1)) h (λ r t l. pure (part v (c.0) (r.0), r.1))
a_parts_rest read k v c h false = pure (part v (c.0) no_part, c.1)

parts_begun_at : (b : ℕ) → Begun a_value (PartsText b)
parts_begun_at b = counted_begun count_of_parts ClosedParts b parts_begun

parts_exact : (read : ChoiceReader) → ExactChoices read → (k b : ℕ) → Exact (PartsText b) (parts_at read k b)
unfolding parts_at
parts_exact read h zero b = record { some = (parts_begun_at b).some; tells = λ ts. stops_first a_value (PartsText b) (parts_begun_at b) limits.Split ts }
parts_exact read h (suc k) b = transfer (PartsText b) (parts_to b) (parts_from b)
    (seq (clear_as (the_number max_money)) (token (the_number max_money)) (λ v t l.
    seq (clear_as (the_symbol mark.Arrow refl)) (token (the_symbol mark.Arrow refl)) (λ a u m.
    seq (choice_clear b) (h b) (λ c w q.
    seq (clear_as the_comma) (token the_comma) (λ o x y.
    a_parts_rest read k v c (parts_exact read h k (c.1)) o)))))

-- ---- branches

auth_exact : (read : BranchReader) → ExactBranches read → (party : List ℕ) (b : ℕ) → Exact (Behind (name party) (BranchText b)) (auth_at read party b)
unfolding auth_at
auth_exact read h party b = transfer (Behind (name party) (BranchText b)) (auth_to party b) (auth_from party b)
    (seq (clear_as (the_symbol mark.Colon refl)) (token (the_symbol mark.Colon refl)) (λ c t l.
    seq (branch_clear b) (h b) (λ g u m.
    pure (auth party (g.0), g.1))))

after_exact : (read : BranchReader) → ExactBranches read → (b : ℕ) → Exact (Behind (keyword word.After) (BranchText b)) (after_at read b)
unfolding after_at
after_exact read h b = transfer (Behind (keyword word.After) (BranchText b)) (after_to b) (after_from b)
    (seq (clear_as (the_number last_height)) (token (the_number last_height)) (λ k t l.
    seq (clear_as (the_symbol mark.Colon refl)) (token (the_symbol mark.Colon refl)) (λ c u m.
    seq (branch_clear b) (h b) (λ g w q.
    pure (after k (g.0), g.1)))))

headed_exact : (read : ChoiceReader) → ExactChoices read → (k : Heading) (b : ℕ) → Exact (Headed b k) (headed_at read k b)
unfolding headed_at
headed_exact read h k b = seq (choice_clear b) (h b) (λ c t l. pure (put_reveal (k.0) (k.1) (k.2) (c.0), c.1))

put_exact : (read : ChoiceReader) → ExactChoices read → (b : ℕ) → Exact (Behind (keyword word.Put) (BranchText b)) (put_at read b)
unfolding put_at
put_exact read h b = transfer (Behind (keyword word.Put) (BranchText b)) (puts_to b) (puts_from b) (seq puts_clear a_put (λ k t l. headed_exact read h k b))

reveal_exact : (read : ChoiceReader) → ExactChoices read → (b : ℕ) → Exact (Behind (keyword word.Reveal) (BranchText b)) (reveal_at read b)
unfolding reveal_at
reveal_exact read h b = transfer (Behind (keyword word.Reveal) (BranchText b)) (reveals_to b) (reveals_from b)
    (seq (reveals_clear []) (a_reveal []) (λ k t l. headed_exact read h k b))

withdraw_exact : (b : ℕ) → Exact (Behind (keyword word.Withdraw) (BranchText b)) (withdraw_at b)
unfolding withdraw_at
withdraw_exact b = transfer (Behind (keyword word.Withdraw) (BranchText b)) (withdraw_to b) (withdraw_from b)
    (seq (clear_as the_name) (token the_name) (λ x t l. pure (withdraw x, b)))

split_exact : (read : ChoiceReader) → ExactChoices read → (b : ℕ) → Exact (Behind (keyword word.Split) (BranchText b)) (split_at read b)
unfolding split_at
split_exact read h b = transfer (Behind (keyword word.Split) (BranchText b)) (split_to b) (split_from b)
    (seq (clear_as (the_symbol mark.LeftBracket refl)) (token (the_symbol mark.LeftBracket refl)) (λ o t l.
    seq (parts_clear b) (parts_exact read h most_parts b) (λ p u m.
    pure (split (p.0), p.1))))

after_some : (party : List ℕ) (b : ℕ) → Some_text (Behind (name party) (BranchText b))
after_some party b = record { text = symbol mark.Colon ∷ short; value = (auth party short_branch, b - 0); spelled = ((short, refl, refl), refl) }

branch_step : (d : ℕ) → ExactBranches (branch_at d) → (b : ℕ) (ts : List Lexeme) → Tells (BranchText b) ts (branch_at (suc d) b ts)
unfolding branch_at
branch_step d h b [] = ended begins_branch (BranchText b) (branch_begun_at b)
branch_step d h b (name party ∷ ts) = behind (name party) (BranchText b) ts (auth_at (branch_at d) party b ts) ((auth_exact (branch_at d) h party b).tells ts)
branch_step d h b (long_name ∷ ts) = exceeded_first (BranchText b) long_name (name []) ts limits.Name tt (after_some [] b)
branch_step d h b (keyword word.After ∷ ts) =
    behind (keyword word.After) (BranchText b) ts (after_at (branch_at d) b ts) ((after_exact (branch_at d) h b).tells ts)
branch_step d h b (keyword word.Put ∷ ts) =
    behind (keyword word.Put) (BranchText b) ts (put_at (choice_with (branch_at d) d) b ts)
    ((put_exact (choice_with (branch_at d) d) (choice_exact (branch_at d) h d) b).tells ts)
branch_step d h b (keyword word.Reveal ∷ ts) =
    behind (keyword word.Reveal) (BranchText b) ts (reveal_at (choice_with (branch_at d) d) b ts)
    ((reveal_exact (choice_with (branch_at d) d) (choice_exact (branch_at d) h d) b).tells ts)
branch_step d h b (keyword word.Withdraw ∷ ts) = behind (keyword word.Withdraw) (BranchText b) ts (withdraw_at b ts) ((withdraw_exact b).tells ts)
branch_step d h b (keyword word.Split ∷ ts) =
    behind (keyword word.Split) (BranchText b) ts (split_at (choice_with (branch_at d) d) b ts)
    ((split_exact (choice_with (branch_at d) d) (choice_exact (branch_at d) h d) b).tells ts)
branch_step d h b (c ∷ ts) = wrong_first begins_branch (BranchText b) (branch_begun_at b) c ts refl

branch_zero : (b : ℕ) (ts : List Lexeme) → Tells (BranchText b) ts (branch_at 0 b ts)
unfolding branch_at
branch_zero b [] = ended begins_branch (BranchText b) (branch_begun_at b)
branch_zero b (c ∷ ts) = stops_first begins_branch (BranchText b) (branch_begun_at b) limits.Depth (c ∷ ts)

-- branches are read exactly
pub branch_exact : (d : ℕ) → ExactBranches (branch_at d)
branch_exact zero b = record { some = counted_some count_under SpellsBranch b some_branch; tells = branch_zero b }
branch_exact (suc d) b = record { some = counted_some count_under SpellsBranch b some_branch; tells = branch_step d (branch_exact d) b }
