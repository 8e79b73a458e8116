-- The walk over contracts.
use Rattle.std.proofs.Common.{◌≡◌, ℕ, zero, suc, ◌+◌, inl, inr, ◌⊎◌, Bool, true, false, List, [], ◌∷◌, Ok, Err, refl, arith}
use Rattle.std.specs.Prelude.{nat_le}
use Rattle.spec_data.specs.Ranges.{max_money, last_height}
use Rattle.spec_terms.specs.Term.{Guarded, auth, after, put_reveal, withdraw, split, Contract, no_branch, branch, Parts, no_part, part}
use Rattle.spec_terms.specs.Readable.{most_depth, most_branches, most_choices, most_parts}
use Rattle.spec_terms.specs.declared.limit.Limit.TheVariants as limits
use Rattle.spec_text.specs.declared.token.Keyword.TheVariants as word
use Rattle.spec_text.specs.declared.token.Symbol.TheVariants as mark
use Rattle.spec_text.specs.declared.lexeme.Lexeme.{Lexeme}
use Rattle.spec_text.specs.declared.lexeme.Lexeme.TheVariants.{Keyword as keyword, Symbol as symbol, Name as name, Number as number}
use Rattle.spec_text.specs.Reading.{Reads, ◌>>=◌, token_by, too_many}
use Rattle.spec_text.specs.ReadContract.{Heading, begins_branch, ChoiceReader, goes_on, branches_at, one_branch_at, choice_with, a_value, parts_go_on, parts_at, auth_at, after_at, headed_at, put_at, reveal_at, withdraw_at, split_at, branch_at}
use Rattle.theory_limits.specs.Awaited.{Awaited, this_symbol, wrapped, behind_branch, contract, behind_part, behind_put, behind_reveal}
use Rattle.theory_limits.specs.Awaited.{a_name as some_name, a_number as some_number, branch as a_branch, part as a_part}
use Rattle.theory_limits.proofs.Judged.{judged, followed, Counts, Walks_on, Leaves, on_none, on_seq, then_on, left_on}
use Rattle.theory_limits.proofs.Tokens.{walks_symbol, walks_name, walks_number}
use Rattle.theory_limits.proofs.Formulas.{within, above}
use Rattle.theory_limits.proofs.Headings.{walks_reveals, walks_puts}
use Rattle.theory_limits.proofs.Counts.{Over, Under, counted, over_stops, WalksBranch, walks_allowed}

-- ---- choices

-- what the reader does behind a branch in brackets
abbrev behind_at : ℕ → ℕ → Guarded → ℕ → List Lexeme → Reads (Contract × ℕ)
behind_at k i g b ts = token_by goes_on ts >>= λ o. elim (o.0) [
  | true ↦ branches_at (branch_at k) k i b (o.1) >>= λ r. Ok ((branch g (r.0.0), r.0.1), r.1)
  | false ↦ Ok ((branch g no_branch, b), o.1)
]

abbrev WalksBranches : ℕ → ℕ → ℕ → ℕ → Type 0
WalksBranches d k j i = Walks_on (a_branch d j ∷ behind_branch d j ∷ []) (branches_at (branch_at k) k i)

behind_goes : (d k j i : ℕ) (g : Guarded) → WalksBranches d k (suc j) i → (more : List Awaited) (before b : ℕ) (ts : List Lexeme)
    → before + b ≡ most_branches → Counts (judged (behind_branch d j ∷ more) before ts) more (behind_at k i g b ts)
behind_goes d k j i g w more before b [] h = refl
behind_goes d k j i g w more before b (symbol mark.Plus ∷ ts) h = (on_seq w (λ r. on_none (branch g r))).goes more before b ts h
behind_goes d k j i g w more before b (symbol mark.RightParen ∷ ts) h = (before, h, refl)
behind_goes d k j i g w more before b (t ∷ ts) h = refl

walks_behind : (d k j i : ℕ) (g : Guarded) → WalksBranches d k (suc j) i → Walks_on (behind_branch d j ∷ []) (behind_at k i g)
walks_behind d k j i g w = record { goes = behind_goes d k j i g w }

last_by : (d k before b j : ℕ) (more : List Awaited) (ts : List Lexeme) → Over d k before b j 0 ⊎ Under d k before b j 0
    → Counts (judged (a_branch d j ∷ behind_branch d j ∷ more) before ts) more (branches_at (branch_at k) k 0 b ts)
unfolding branches_at
last_by d k before b j more ts (inl o) = rw o.reader (over_stops d j before o.first o.others (behind_branch d j ∷ more) ts o.counts)
last_by d k before b j more ts (inr u) = let n = u.choice in absurd (omega arith)

walks_branches : (d k i j : ℕ) → WalksBranch d k → d + k ≡ suc most_depth → j + i ≡ suc most_choices → WalksBranches d k j i
unfolding branches_at
walks_branches d k zero j w p r = record { goes = λ more before b ts q. last_by d k before b j more ts (counted d k before b j 0 p q r) }
walks_branches d k (suc i) j w p r =
    on_seq (walks_allowed d k j (suc i) w p r) (λ g. walks_behind d k j i g (walks_branches d k i (suc j) w p (omega arith)))

walks_one : (d k : ℕ) → WalksBranch d k → d + k ≡ suc most_depth → Walks_on (a_branch d 1 ∷ []) (one_branch_at (branch_at k) k)
unfolding one_branch_at
walks_one d k w p = on_seq (walks_allowed d k 1 most_choices w p refl) (λ g. on_none (branch g no_branch))

choice_goes : (d k : ℕ) → WalksBranch d k → d + k ≡ suc most_depth → (more : List Awaited) (before b : ℕ) (ts : List Lexeme)
    → before + b ≡ most_branches → Counts (judged (contract d ∷ more) before ts) more (choice_with (branch_at k) k b ts)
unfolding choice_with
choice_goes d k w p more before b [] h = refl
choice_goes d k w p more before b (symbol mark.LeftParen ∷ ts) h = (walks_branches d k most_choices 1 w p refl).goes more before b ts h
choice_goes d k w p more before b (t ∷ ts) h = (walks_one d k w p).goes more before b (t ∷ ts) h

abbrev pub WalksContract : ℕ → ℕ → Type 0
WalksContract d k = Walks_on (contract d ∷ []) (choice_with (branch_at k) k)

pub walks_choice : (d k : ℕ) → WalksBranch d k → d + k ≡ suc most_depth → WalksContract d k
walks_choice d k w p = record { goes = choice_goes d k w p }

-- ---- splits

-- what the reader does behind the contract of a part
abbrev part_behind_at : ChoiceReader → ℕ → ℕ → Contract → ℕ → List Lexeme → Reads (Parts × ℕ)
part_behind_at read i v c b ts = token_by parts_go_on ts >>= λ o. elim (o.0) [
  | true ↦ parts_at read i b (o.1) >>= λ r. Ok ((part v c (r.0.0), r.0.1), r.1)
  | false ↦ Ok ((part v c no_part, b), o.1)
]

abbrev WalksParts : ℕ → ℕ → ℕ → ℕ → Type 0
WalksParts d k j i = Walks_on (a_part d j ∷ []) (parts_at (choice_with (branch_at k) k) i)

part_behind_goes : (d k j i v : ℕ) (c : Contract) → WalksParts d k (suc j) i → (more : List Awaited) (before b : ℕ) (ts : List Lexeme)
    → before + b ≡ most_branches
    → Counts (judged (behind_part d j ∷ more) before ts) more (part_behind_at (choice_with (branch_at k) k) i v c b ts)
part_behind_goes d k j i v c w more before b [] h = refl
part_behind_goes d k j i v c w more before b (symbol mark.Comma ∷ ts) h = (on_seq w (λ r. on_none (part v c r))).goes more before b ts h
part_behind_goes d k j i v c w more before b (symbol mark.RightBracket ∷ ts) h = (before, h, refl)
part_behind_goes d k j i v c w more before b (t ∷ ts) h = refl

walks_part_behind : (d k j i v : ℕ) (c : Contract) → WalksParts d k (suc j) i
    → Walks_on (behind_part d j ∷ []) (part_behind_at (choice_with (branch_at k) k) i v c)
walks_part_behind d k j i v c w = record { goes = part_behind_goes d k j i v c w }

value_by : (d j n : ℕ) (more : List Awaited) (before : ℕ) (ts : List Lexeme) (x : Bool) → nat_le n max_money ≡ x
    → nat_le j most_parts ≡ true
    → judged (a_part d j ∷ more) before (number n ∷ ts) ≡ followed (token_by a_value (number n ∷ ts))
    (judged (this_symbol mark.Arrow ∷ contract d ∷ behind_part d j ∷ more) before)
value_by d j n more before ts true e le = rw (e, le) refl
value_by d j n more before ts false e le = rw e refl

value_goes : (d j : ℕ) → nat_le j most_parts ≡ true → (more : List Awaited) (before : ℕ) (ts : List Lexeme)
    → judged (a_part d j ∷ more) before ts ≡ followed (token_by a_value ts)
    (judged (this_symbol mark.Arrow ∷ contract d ∷ behind_part d j ∷ more) before)
value_goes d j le more before [] = refl
value_goes d j le more before (number n ∷ ts) = value_by d j n more before ts (nat_le n max_money) refl le
value_goes d j le more before (t ∷ ts) = refl

-- the value of a part
value_leaves : (d j : ℕ) → nat_le j most_parts ≡ true
    → Leaves (a_part d j ∷ []) (token_by a_value) (this_symbol mark.Arrow ∷ contract d ∷ behind_part d j ∷ [])
value_leaves d j le = record { goes = value_goes d j le }

deep_value : (d j n : ℕ) (more : List Awaited) (before : ℕ) (ts : List Lexeme) (x : Bool) → nat_le n max_money ≡ x
    → nat_le j most_parts ≡ false → judged (a_part d j ∷ more) before (number n ∷ ts) ≡ Err (too_many limits.Split a_value (number n ∷ ts))
deep_value d j n more before ts true e le = rw (e, le) refl
deep_value d j n more before ts false e le = rw e refl

last_part : (d j : ℕ) (more : List Awaited) (before : ℕ) (ts : List Lexeme) → nat_le j most_parts ≡ false
    → judged (a_part d j ∷ more) before ts ≡ Err (too_many limits.Split a_value ts)
last_part d j more before [] le = refl
last_part d j more before (number n ∷ ts) le = deep_value d j n more before ts (nat_le n max_money) refl le
last_part d j more before (t ∷ ts) le = refl

walks_parts : (d k i j : ℕ) → WalksContract d k → j + i ≡ suc most_parts → WalksParts d k j i
unfolding parts_at
walks_parts d k zero j w r = record { goes = λ more before b ts q. last_part d j more before ts (above j most_parts (omega arith)) }
walks_parts d k (suc i) j w r =
    left_on (value_leaves d j (within j most_parts (omega arith)))
    (λ v. then_on (walks_symbol mark.Arrow)
    (λ a. on_seq w (λ c. walks_part_behind d k j i v c (walks_parts d k i (suc j) w (omega arith)))))

-- ---- guarded terms

walks_auth : (d k : ℕ) (party : List ℕ) → WalksBranch d k → Walks_on (this_symbol mark.Colon ∷ wrapped d ∷ []) (auth_at (branch_at k) party)
unfolding auth_at
walks_auth d k party w = then_on (walks_symbol mark.Colon) (λ c. on_seq w (λ g. on_none (auth party g)))

walks_after : (d k : ℕ) → WalksBranch d k
    → Walks_on (some_number last_height ∷ this_symbol mark.Colon ∷ wrapped d ∷ []) (after_at (branch_at k))
unfolding after_at
walks_after d k w = then_on (walks_number last_height) (λ h. then_on (walks_symbol mark.Colon) (λ c. on_seq w (λ g. on_none (after h g))))

walks_headed : (d k : ℕ) (h : Heading) → WalksContract d k → Walks_on (contract d ∷ []) (headed_at (choice_with (branch_at k) k) h)
unfolding headed_at
walks_headed d k h w = on_seq w (λ c. on_none (put_reveal (h.0) (h.1) (h.2) c))

walks_put : (d k : ℕ) → WalksContract d k → Walks_on (some_name ∷ behind_put ∷ contract d ∷ []) (put_at (choice_with (branch_at k) k))
unfolding put_at
walks_put d k w = then_on walks_puts (λ h. walks_headed d k h w)

walks_reveal : (d k : ℕ) → WalksContract d k
    → Walks_on (some_name ∷ behind_reveal ∷ contract d ∷ []) (reveal_at (choice_with (branch_at k) k))
unfolding reveal_at
walks_reveal d k w = then_on (walks_reveals []) (λ h. walks_headed d k h w)

walks_withdraw : Walks_on (some_name ∷ []) withdraw_at
unfolding withdraw_at
walks_withdraw = then_on walks_name (λ x. on_none (withdraw x))

walks_split : (d k : ℕ) → WalksContract d k
    → Walks_on (this_symbol mark.LeftBracket ∷ a_part d 1 ∷ []) (split_at (choice_with (branch_at k) k))
unfolding split_at
walks_split d k w = then_on (walks_symbol mark.LeftBracket) (λ o. on_seq (walks_parts d k most_parts 1 w refl) (λ p. on_none (split p)))

deep_branch : (d : ℕ) → nat_le d most_depth ≡ false → (more : List Awaited) (before : ℕ) (ts : List Lexeme)
    → judged (wrapped d ∷ more) before ts ≡ Err (too_many limits.Depth begins_branch ts)
deep_branch d le more before [] = refl
deep_branch d le more before (name x ∷ ts) = rw le refl
deep_branch d le more before (keyword word.After ∷ ts) = rw le refl
deep_branch d le more before (keyword word.Put ∷ ts) = rw le refl
deep_branch d le more before (keyword word.Reveal ∷ ts) = rw le refl
deep_branch d le more before (keyword word.Withdraw ∷ ts) = rw le refl
deep_branch d le more before (keyword word.Split ∷ ts) = rw le refl
deep_branch d le more before (t ∷ ts) = refl

deep_goes : (d : ℕ) → nat_le d most_depth ≡ false → (more : List Awaited) (before b : ℕ) (ts : List Lexeme)
    → Counts (judged (wrapped d ∷ more) before ts) more (branch_at 0 b ts)
unfolding branch_at
deep_goes d le more before b [] = refl
deep_goes d le more before b (t ∷ ts) = deep_branch d le more before (t ∷ ts)

branch_goes : (d k : ℕ) → WalksBranch (suc d) k → WalksContract (suc d) k → nat_le d most_depth ≡ true
    → (more : List Awaited) (before b : ℕ) (ts : List Lexeme) → before + b ≡ most_branches
    → Counts (judged (wrapped d ∷ more) before ts) more (branch_at (suc k) b ts)
unfolding branch_at
branch_goes d k w c le more before b [] h = refl
branch_goes d k w c le more before b (name party ∷ ts) h = rw le ((walks_auth (suc d) k party w).goes more before b ts h)
branch_goes d k w c le more before b (keyword word.After ∷ ts) h = rw le ((walks_after (suc d) k w).goes more before b ts h)
branch_goes d k w c le more before b (keyword word.Put ∷ ts) h = rw le ((walks_put (suc d) k c).goes more before b ts h)
branch_goes d k w c le more before b (keyword word.Reveal ∷ ts) h = rw le ((walks_reveal (suc d) k c).goes more before b ts h)
branch_goes d k w c le more before b (keyword word.Withdraw ∷ ts) h = rw le (walks_withdraw.goes more before b ts h)
branch_goes d k w c le more before b (keyword word.Split ∷ ts) h = rw le ((walks_split (suc d) k c).goes more before b ts h)
branch_goes d k w c le more before b (t ∷ ts) h = refl

pub walks_branch : (k d : ℕ) → d + k ≡ suc most_depth → WalksBranch d k
walks_branch zero d p = record { goes = λ more before b ts h. deep_goes d (above d most_depth (omega arith)) more before b ts }
walks_branch (suc k) d p =
    let one : WalksBranch (suc d) k = walks_branch k (suc d) (omega arith) in
    record { goes = branch_goes d k one (walks_choice (suc d) k one (omega arith)) (within d most_depth (omega arith)) }

-- the contract of an advert
pub walks_root : WalksContract 1 most_depth
walks_root = walks_choice 1 most_depth (walks_branch most_depth 1 refl) refl
