-- Reading of contracts, by cases on the next token.
use Rattle.std.specs.Prelude.{ℕ, zero, suc, ◌-◌, List, [], ◌∷◌, length, Bool, true, false, if◌then◌else◌, ◌==◌, Option, Some, None, Ok, Err}
use Rattle.spec_terms.specs.Term.{Pred, always, Guarded, auth, after, put_reveal, withdraw, split, Contract, no_branch, branch, Parts}
use Rattle.spec_terms.specs.Term.{no_part, part}
use Rattle.spec_terms.specs.declared.limit.Limit.{Limit}
use Rattle.spec_terms.specs.declared.limit.Limit.TheVariants as limits
use Rattle.spec_text.specs.declared.stop.Stop.TheVariants as stops
use Rattle.spec_text.specs.declared.token.Keyword.TheVariants as word
use Rattle.spec_text.specs.declared.token.Symbol.TheVariants as mark
use Rattle.spec_text.specs.declared.lexeme.Lexeme.{Lexeme}
use Rattle.spec_text.specs.declared.lexeme.Lexeme.TheVariants.{Keyword as keyword, Symbol as symbol, Name as name, LongName as long_name}
use Rattle.spec_data.specs.Ranges.{max_money, last_height}
use Rattle.spec_terms.specs.Readable.{most_depth, most_choices, most_parts}
use Rattle.spec_text.specs.Reading.{Reads, ◌>>=◌, Seen, taken, wrong, above, token_by, too_many, a_symbol, a_keyword, a_name, a_number}
use Rattle.spec_text.specs.Reading.{names_from}
use Rattle.spec_text.specs.ReadTest.{test_at, begun}

-- ---- what stands before the point of a put or reveal

-- the names of a put end with `&`, which is true, or with the point
abbrev pub ends_put : Lexeme → Seen Bool
ends_put (symbol mark.Ampersand) = taken true
ends_put (symbol mark.Dot) = taken false
ends_put _ = wrong

-- the names of a reveal end with `if`, which is true, or with the point
abbrev pub ends_reveal : Lexeme → Seen Bool
ends_reveal (keyword word.If) = taken true
ends_reveal (symbol mark.Dot) = taken false
ends_reveal _ = wrong

-- what stands before the point: the deposits that are put, the secrets that are revealed, and the condition
abbrev pub Heading : Type 0
Heading = List (List ℕ) × List (List ℕ) × Pred

-- a condition and the point, or nothing behind the point
unfoldable pub condition_at : Bool → List Lexeme → Reads Pred
condition_at false ts = Ok (always, ts)
condition_at true ts = do
  p ← test_at most_depth ts
  o ← token_by (a_symbol mark.Dot) (p.1)
  Ok (p.0, o.1)

-- behind `reveal`, up to the point, where these deposits are put
unfoldable pub reveals_at : List (List ℕ) → List Lexeme → Reads Heading
reveals_at puts ts = do
  a ← names_from ends_reveal true ts
  p ← condition_at (a.0.1) (a.1)
  Ok ((puts, a.0.0, p.0), p.1)

-- a reveal up to its point behind a put, or nothing behind the point
unfoldable pub put_reveals_at : Bool → List (List ℕ) → List Lexeme → Reads Heading
put_reveals_at false puts ts = Ok ((puts, [], always), ts)
put_reveals_at true puts ts = do
  w ← token_by (a_keyword word.Reveal) ts
  reveals_at puts (w.1)

-- behind `put`, up to the point
unfoldable pub puts_at : List Lexeme → Reads Heading
puts_at ts = do
  x ← names_from ends_put true ts
  put_reveals_at (x.0.1) (x.0.0) (x.1)

-- ---- where a branch may begin

-- a token with which a branch begins
abbrev pub begins_branch : Lexeme → Seen (Unit {0})
begins_branch (name bytes) = taken tt
begins_branch long_name = above limits.Name
begins_branch (keyword word.After) = taken tt
begins_branch (keyword word.Put) = taken tt
begins_branch (keyword word.Reveal) = taken tt
begins_branch (keyword word.Withdraw) = taken tt
begins_branch (keyword word.Split) = taken tt
begins_branch _ = wrong

-- the limit that a branch here is above, by how many guarded terms, branches of the contract and branches
-- of this choice may still come
abbrev pub branch_limit : ℕ → ℕ → ℕ → Option Limit
branch_limit d b k =
    if d == 0 then Some limits.Depth
    else if b == 0 then Some limits.Branches
    else if k == 0 then Some limits.Choice
    else None

-- ---- contracts

-- a reader of branches, by how many further ones the contract may have; it answers how many it may still have
abbrev pub BranchReader : Type 0
BranchReader = ℕ → List Lexeme → Reads (Guarded × ℕ)

-- the same of contracts and of parts
abbrev pub ChoiceReader : Type 0
ChoiceReader = ℕ → List Lexeme → Reads (Contract × ℕ)

-- a branch of a choice, where one may come
abbrev pub allowed_branch : BranchReader → Option Limit → BranchReader
allowed_branch read (Some w) b ts = Err (too_many w begins_branch ts)
allowed_branch read None b ts = read (b - 1) ts

-- a plus is true, a bracket that closes is false
abbrev pub goes_on : Lexeme → Seen Bool
goes_on (symbol mark.Plus) = taken true
goes_on (symbol mark.RightParen) = taken false
goes_on _ = wrong

-- Branches up to the bracket that closes, guarded terms d deep, of which at most so many may come. Where none
-- may, reading stops at the first token.
unfoldable pub branches_at : BranchReader → ℕ → ℕ → ChoiceReader
branches_at read d zero b ts = do
  g ← allowed_branch read (branch_limit d b 0) b ts
  Ok ((branch (g.0.0) no_branch, g.0.1), g.1)
branches_at read d (suc k) b ts = do
  g ← allowed_branch read (branch_limit d b (suc k)) b ts
  o ← token_by goes_on (g.1)
  elim (o.0) [
    | true ↦ branches_at read d k (g.0.1) (o.1) >>= λ r. Ok ((branch (g.0.0) (r.0.0), r.0.1), r.1)
    | false ↦ Ok ((branch (g.0.0) no_branch, g.0.1), o.1)
  ]

-- one branch
unfoldable pub one_branch_at : BranchReader → ℕ → ChoiceReader
one_branch_at read d b ts = do
  g ← allowed_branch read (branch_limit d b most_choices) b ts
  Ok ((branch (g.0.0) no_branch, g.0.1), g.1)

-- a contract: branches in brackets, or one branch
unfoldable pub choice_with : BranchReader → ℕ → ChoiceReader
choice_with read d b [] = Err (stops.Syntax 0)
choice_with read d b (symbol mark.LeftParen ∷ ts) = branches_at read d most_choices b ts
choice_with read d b (t ∷ ts) = one_branch_at read d b (t ∷ ts)

-- the value of a part
abbrev pub a_value : Lexeme → Seen ℕ
a_value t = a_number max_money t

-- a comma is true, a bracket that closes is false
abbrev pub parts_go_on : Lexeme → Seen Bool
parts_go_on (symbol mark.Comma) = taken true
parts_go_on (symbol mark.RightBracket) = taken false
parts_go_on _ = wrong

-- parts up to the bracket that closes, of which at most so many may come
unfoldable pub parts_at : ChoiceReader → ℕ → ℕ → List Lexeme → Reads (Parts × ℕ)
parts_at read zero b ts = Err (too_many limits.Split a_value ts)
parts_at read (suc k) b ts = do
  v ← token_by a_value ts
  a ← token_by (a_symbol mark.Arrow) (v.1)
  c ← read b (a.1)
  o ← token_by parts_go_on (c.1)
  elim (o.0) [
    | true ↦ parts_at read k (c.0.1) (o.1) >>= λ r. Ok ((part (v.0) (c.0.0) (r.0.0), r.0.1), r.1)
    | false ↦ Ok ((part (v.0) (c.0.0) no_part, c.0.1), o.1)
  ]

-- a guarded term behind a name and a colon
unfoldable pub auth_at : BranchReader → List ℕ → BranchReader
auth_at read party b ts = do
  c ← token_by (a_symbol mark.Colon) ts
  g ← read b (c.1)
  Ok ((auth party (g.0.0), g.0.1), g.1)

-- a guarded term behind a height and a colon
unfoldable pub after_at : BranchReader → BranchReader
after_at read b ts = do
  h ← token_by (a_number last_height) ts
  c ← token_by (a_symbol mark.Colon) (h.1)
  g ← read b (c.1)
  Ok ((after (h.0) (g.0.0), g.0.1), g.1)

-- the contract behind the point
unfoldable pub headed_at : ChoiceReader → Heading → BranchReader
headed_at read h b ts = do
  c ← read b ts
  Ok ((put_reveal (h.0) (h.1) (h.2) (c.0.0), c.0.1), c.1)

-- what follows `put`
unfoldable pub put_at : ChoiceReader → BranchReader
put_at read b ts = do
  h ← puts_at ts
  headed_at read (h.0) b (h.1)

-- what follows `reveal`
unfoldable pub reveal_at : ChoiceReader → BranchReader
reveal_at read b ts = do
  h ← reveals_at [] ts
  headed_at read (h.0) b (h.1)

-- what follows `withdraw`
unfoldable pub withdraw_at : BranchReader
withdraw_at b ts = do
  x ← token_by a_name ts
  Ok ((withdraw (x.0), b), x.1)

-- what follows `split`
unfoldable pub split_at : ChoiceReader → BranchReader
split_at read b ts = do
  o ← token_by (a_symbol mark.LeftBracket) ts
  p ← parts_at read most_parts b (o.1)
  Ok ((split (p.0.0), p.0.1), p.1)

-- a guarded term of at most so many guarded terms on one way
unfoldable pub branch_at : ℕ → BranchReader
branch_at d b [] = Err (stops.Syntax 0)
branch_at zero b (t ∷ ts) = Err (too_many limits.Depth begins_branch (t ∷ ts))
branch_at (suc d) b (name party ∷ ts) = auth_at (branch_at d) party b ts
branch_at (suc d) b (long_name ∷ ts) = Err (stops.Limit limits.Name (suc (length ts)))
branch_at (suc d) b (keyword word.After ∷ ts) = after_at (branch_at d) b ts
branch_at (suc d) b (keyword word.Put ∷ ts) = put_at (choice_with (branch_at d) d) b ts
branch_at (suc d) b (keyword word.Reveal ∷ ts) = reveal_at (choice_with (branch_at d) d) b ts
branch_at (suc d) b (keyword word.Withdraw ∷ ts) = withdraw_at b ts
branch_at (suc d) b (keyword word.Split ∷ ts) = split_at (choice_with (branch_at d) d) b ts
branch_at (suc d) b (t ∷ ts) = Err (stops.Syntax (suc (length ts)))
