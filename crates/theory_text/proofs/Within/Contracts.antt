-- The contracts that are read are within the limits of the reader.
use Rattle.std.proofs.Common.{◌≡◌, ℕ, zero, suc, ◌+◌, ◌-◌, ◌≤◌, ◌<◌, Bool, true, false, List, [], ◌∷◌, length, Option, Some, None, Ok, refl, arith}
use Rattle.std.specs.Prelude.{◌==◌, if◌then◌else◌}
use Rattle.std.proofs.lemmas.Bool.Decides.{nat_tests}
use Rattle.spec_data.specs.Ranges.{max_money, last_height}
use Rattle.spec_terms.specs.Term.{Guarded, Contract, no_branch, branch, branches, Parts, no_part, part, parts_list}
use Rattle.spec_terms.specs.Readable.{is_some_list, is_readable_count, most_choices, most_parts, are_readable, is_readable_branch, are_readable_parts, depth_of, depth_of_choice, depth_of_parts, count_of, count_under, count_of_parts}
use Rattle.spec_terms.specs.declared.limit.Limit.{Limit}
use Rattle.spec_terms.specs.declared.limit.Limit.TheVariants as limits
use Rattle.spec_text.specs.declared.token.Keyword.TheVariants as word
use Rattle.spec_text.specs.declared.token.Symbol.TheVariants as mark
use Rattle.spec_text.specs.declared.lexeme.Lexeme.{Lexeme}
use Rattle.spec_text.specs.declared.lexeme.Lexeme.TheVariants.{Keyword as keyword, Symbol as symbol, Name as name, LongName as long_name}
use Rattle.spec_text.specs.Reading.{◌>>=◌, a_symbol}
use Rattle.spec_text.specs.ReadContract.{branch_limit, BranchReader, ChoiceReader, allowed_branch, goes_on, branches_at, one_branch_at, choice_with, parts_go_on, parts_at, auth_at, after_at, Heading, headed_at, put_at, reveal_at, withdraw_at, split_at, branch_at}
use Rattle.theory_text.proofs.ListFacts.{and_is}
use Rattle.theory_text.proofs.Within.LexemeNames.{HaveNames}
use Rattle.theory_text.proofs.Within.ReadWithin.{le_yes, Within, within_then, within_weak, Any, mark_within, IsName, name_within, IsAtMost, number_within}
use Rattle.theory_text.proofs.Within.Headings.{HeadingWithin, reveals_within, puts_within}

-- ---- what is read

-- a guarded term of at most so many on one way, of which so many branches come out of those that may come
pub record BranchWithin (d b : ℕ) (r : Guarded × ℕ) : Type 0 where
  pub depth : depth_of r.0 ≤ d
  pub readable : is_readable_branch r.0 ≡ true
  pub count : count_under r.0 + r.1 ≤ b

-- a contract of at least one and at most so many branches
pub record ChoiceWithin (d k b : ℕ) (r : Contract × ℕ) : Type 0 where
  pub depth : depth_of_choice r.0 ≤ d
  pub readable : are_readable r.0 ≡ true
  pub count : count_of r.0 + r.1 ≤ b
  pub some : is_some_list (branches r.0) ≡ true
  pub few : length (branches r.0) ≤ k

-- parts, at least one and at most so many
record PartsWithin (d k b : ℕ) (r : Parts × ℕ) : Type 0 where
  depth : depth_of_parts r.0 ≤ d
  readable : are_readable_parts r.0 ≡ true
  count : count_of_parts r.0 + r.1 ≤ b
  some : is_some_list (parts_list r.0) ≡ true
  few : length (parts_list r.0) ≤ k

abbrev BranchesAre : BranchReader → ℕ → Type 0
BranchesAre read d = (b : ℕ) (ts : List Lexeme) → HaveNames ts → Within (BranchWithin d b) (read b ts)

abbrev ChoicesAre : ChoiceReader → ℕ → Type 0
ChoicesAre read d = (b : ℕ) (ts : List Lexeme) → HaveNames ts → Within (ChoiceWithin d most_choices b) (read b ts)

pub count_is : (c : Contract) → is_some_list (branches c) ≡ true → length (branches c) ≤ most_choices → is_readable_count c ≡ true
count_is c some few = and_is _ _ some (le_yes _ _ few)

-- ---- where a branch may begin

-- a branch of a choice, which counts among those that may come
record AllowedWithin (d b k : ℕ) (r : Guarded × ℕ) : Type 0 where
  depth : depth_of r.0 ≤ d
  readable : is_readable_branch r.0 ≡ true
  count : (count_under r.0 + 1) + r.1 ≤ b
  room : 0 < k

record Room (b k : ℕ) : Type 0 where
  branches' : 0 < b
  choices : 0 < k

abbrev no_limit : Option Limit
no_limit = None

none_over : (d b k : ℕ) (t u v : Bool) → (b == 0) ≡ u → (k == 0) ≡ v
    → (if t then Some limits.Depth else if u then Some limits.Branches else if v then Some limits.Choice else None) ≡ no_limit → Room b k
none_over d b k true u v eu ev h = absurd cc
none_over d b k false true v eu ev h = absurd cc
none_over d b k false false true eu ev h = absurd cc
none_over d b k false false false eu ev h = record { branches' = grind (arith, nat_tests); choices = grind (arith, nat_tests) }

allowed_within : (read : BranchReader) (d b k : ℕ) (ts : List Lexeme) (w : Option Limit) → branch_limit d b k ≡ w → BranchesAre read d
    → HaveNames ts → Within (AllowedWithin d b k) (allowed_branch read w b ts)
allowed_within read d b k ts (Some w) e are h = tt
allowed_within read d b k ts None e are h =
    let room = none_over d b k (d == 0) (b == 0) (k == 0) refl refl e in
    within_weak (BranchWithin d (b - 1)) (AllowedWithin d b k) _
    (λ r is. record { depth = is.depth; readable = is.readable; count = omega (arith, is.count, room.branches'); room = room.choices }) (are (b - 1) ts h)

-- ---- branches

last_branch : (d b k : ℕ) (r : Guarded × ℕ) → AllowedWithin d b k r → ChoiceWithin d k b (branch (r.0) no_branch, r.1)
last_branch d b k r is = record {
  depth = omega (arith, is.depth);
  readable = and_is _ _ is.readable refl;
  count = omega
      (arith, is.count);
  some = refl;
  few = omega (arith, is.room);
}

more_branches : (d b k : ℕ) (r : Guarded × ℕ) (s : Contract × ℕ) → AllowedWithin d b (suc k) r → ChoiceWithin d k r.1 s
    → ChoiceWithin d (suc k) b (branch (r.0) (s.0), s.1)
more_branches d b k r s is more =
    record {
      depth = omega (arith, is.depth, more.depth);
      readable = and_is _ _ is.readable more.readable;
      count = omega
          (arith, is.count, more.count);
      some = refl;
      few = omega (arith, more.few);
    }

behind_branch : (read : BranchReader) (d k b : ℕ) (r : Guarded × ℕ) (ts : List Lexeme) (t : Bool) → AllowedWithin d b (suc k) r
    → HaveNames ts → Within (ChoiceWithin d k r.1) (branches_at read d k r.1 ts)
    → Within (ChoiceWithin d (suc k) b) (elim t [
      | true ↦ branches_at read d k (r.1) ts >>= λ s. Ok ((branch (r.0) (s.0.0), s.0.1), s.1)
      | false ↦ Ok ((branch (r.0) no_branch, r.1), ts)
    ])
behind_branch read d k b r ts true is h more =
    within_then (ChoiceWithin d k r.1) (ChoiceWithin d (suc k) b) _ _ more (λ s us so l. (more_branches d b k r s is so, l))
behind_branch read d k b r ts false is h more = (last_branch d b (suc k) r is, h)

branches_within : (read : BranchReader) (d k b : ℕ) (ts : List Lexeme) → BranchesAre read d → HaveNames ts
    → Within (ChoiceWithin d k b) (branches_at read d k b ts)
unfolding branches_at
branches_within read d zero b ts are h =
    within_then (AllowedWithin d b 0) (ChoiceWithin d 0 b) _ _ (allowed_within read d b 0 ts (branch_limit d b 0) refl are h)
    (λ r us is k. absurd (omega (arith, is.room)))
branches_within read d (suc k) b ts are h =
    within_then (AllowedWithin d b (suc k)) (ChoiceWithin d (suc k) b) _ _
    (allowed_within read d b (suc k) ts (branch_limit d b (suc k)) refl are h) (λ r us is l.
    within_then Any (ChoiceWithin d (suc k) b) _ _ (mark_within goes_on us l) (λ t vs y m.
    behind_branch read d k b r vs t is m (branches_within read d k (r.1) vs are m)))

one_branch_within : (read : BranchReader) (d b : ℕ) (ts : List Lexeme) → BranchesAre read d → HaveNames ts
    → Within (ChoiceWithin d most_choices b) (one_branch_at read d b ts)
unfolding one_branch_at
one_branch_within read d b ts are h =
    within_then (AllowedWithin d b most_choices) (ChoiceWithin d most_choices b) _ _
    (allowed_within read d b most_choices ts (branch_limit d b most_choices) refl are h) (λ r us is l.
    (last_branch d b most_choices r is, l))

pub choice_within : (read : BranchReader) (d b : ℕ) (ts : List Lexeme) → BranchesAre read d → HaveNames ts
    → Within (ChoiceWithin d most_choices b) (choice_with read d b ts)
unfolding choice_with
choice_within read d b [] are h = tt
choice_within read d b (symbol mark.LeftParen ∷ ts) are h = branches_within read d most_choices b ts are h.1
choice_within read d b (t ∷ ts) are h = one_branch_within read d b (t ∷ ts) are h

-- ---- parts

last_part : (d k b v : ℕ) (c : Contract × ℕ) → IsAtMost max_money v → ChoiceWithin d most_choices b c → PartsWithin d (suc k) b (part v (c.0) no_part, c.1)
last_part d k b v c small is =
    record {
      depth = omega (arith, is.depth);
      readable = and_is _ _
          (and_is _ _ small (and_is _ _ (count_is c.0 is.some is.few) is.readable)) refl;
      count = omega (arith, is.count);
      some = refl;
      few = omega arith;
    }

more_parts : (d k b v : ℕ) (c : Contract × ℕ) (r : Parts × ℕ) → IsAtMost max_money v → ChoiceWithin d most_choices b c
    → PartsWithin d k c.1 r → PartsWithin d (suc k) b (part v (c.0) (r.0), r.1)
more_parts d k b v c r small is more =
    record {
      depth = omega (arith, is.depth, more.depth);
      readable = and_is _ _
          (and_is _ _ small (and_is _ _ (count_is c.0 is.some is.few) is.readable)) more.readable;
      count = omega
          (arith, is.count, more.count);
      some = refl;
      few = omega (arith, more.few);
    }

behind_part : (read : ChoiceReader) (d k b v : ℕ) (c : Contract × ℕ) (ts : List Lexeme) (t : Bool) → IsAtMost max_money v
    → ChoiceWithin d most_choices b c → HaveNames ts → Within (PartsWithin d k c.1) (parts_at read k c.1 ts)
    → Within (PartsWithin d (suc k) b) (elim t [
      | true ↦ parts_at read k (c.1) ts >>= λ r. Ok ((part v (c.0) (r.0.0), r.0.1), r.1)
      | false ↦ Ok ((part v (c.0) no_part, c.1), ts)
    ])
behind_part read d k b v c ts true small is h more =
    within_then (PartsWithin d k c.1) (PartsWithin d (suc k) b) _ _ more (λ r us so l. (more_parts d k b v c r small is so, l))
behind_part read d k b v c ts false small is h more = (last_part d k b v c small is, h)

parts_within : (read : ChoiceReader) (d k b : ℕ) (ts : List Lexeme) → ChoicesAre read d → HaveNames ts → Within (PartsWithin d k b) (parts_at read k b ts)
unfolding parts_at
parts_within read d zero b ts are h = tt
parts_within read d (suc k) b ts are h =
    within_then (IsAtMost max_money) (PartsWithin d (suc k) b) _ _ (number_within max_money ts h) (λ v us small l.
    within_then Any (PartsWithin d (suc k) b) _ _ (mark_within (a_symbol mark.Arrow) us l) (λ a vs y m.
    within_then (ChoiceWithin d most_choices b) (PartsWithin d (suc k) b) _ _ (are b vs m) (λ c ws is n.
    within_then Any (PartsWithin d (suc k) b) _ _ (mark_within parts_go_on ws n) (λ t xs z o.
    behind_part read d k b v c xs t small is o (parts_within read d k (c.1) xs are o)))))

-- ---- guarded terms

auth_within : (read : BranchReader) (party : List ℕ) (d b : ℕ) (ts : List Lexeme) → IsName party → BranchesAre read d → HaveNames ts
    → Within (BranchWithin (suc d) b) (auth_at read party b ts)
unfolding auth_at
auth_within read party d b ts is are h =
    within_then Any (BranchWithin (suc d) b) _ _ (mark_within (a_symbol mark.Colon) ts h) (λ c us y k.
    within_then (BranchWithin d b) (BranchWithin (suc d) b) _ _ (are b us k) (λ g vs so l.
    (record { depth = omega (arith, so.depth); readable = and_is _ _ is so.readable; count = so.count }, l)))

after_within : (read : BranchReader) (d b : ℕ) (ts : List Lexeme) → BranchesAre read d → HaveNames ts → Within (BranchWithin (suc d) b) (after_at read b ts)
unfolding after_at
after_within read d b ts are h =
    within_then (IsAtMost last_height) (BranchWithin (suc d) b) _ _ (number_within last_height ts h) (λ n us small k.
    within_then Any (BranchWithin (suc d) b) _ _ (mark_within (a_symbol mark.Colon) us k) (λ c vs y l.
    within_then (BranchWithin d b) (BranchWithin (suc d) b) _ _ (are b vs l) (λ g ws so m.
    (record { depth = omega (arith, so.depth); readable = and_is _ _ small so.readable; count = so.count }, m))))

headed_within : (read : ChoiceReader) (heading : Heading) (d b : ℕ) (ts : List Lexeme) → HeadingWithin heading → ChoicesAre read d
    → HaveNames ts → Within (BranchWithin (suc d) b) (headed_at read heading b ts)
unfolding headed_at
headed_within read heading d b ts is are h =
    within_then (ChoiceWithin d most_choices b) (BranchWithin (suc d) b) _ _ (are b ts h) (λ c us so k. (
      record {
        depth = omega (arith, so.depth);
        readable = and_is _ _ (and_is _ _ is.whole (and_is _ _ is.puts is.reveals)) (and_is _ _ is.test (and_is _ _ (count_is c.0 so.some so.few) so.readable));
        count = so.count;
      },
      k,
    ))

put_within : (read : ChoiceReader) (d b : ℕ) (ts : List Lexeme) → ChoicesAre read d → HaveNames ts → Within (BranchWithin (suc d) b) (put_at read b ts)
unfolding put_at
put_within read d b ts are h =
    within_then HeadingWithin (BranchWithin (suc d) b) _ _ (puts_within ts h) (λ heading us is k. headed_within read heading d b us is are k)

reveal_within : (read : ChoiceReader) (d b : ℕ) (ts : List Lexeme) → ChoicesAre read d → HaveNames ts → Within (BranchWithin (suc d) b) (reveal_at read b ts)
unfolding reveal_at
reveal_within read d b ts are h =
    within_then HeadingWithin (BranchWithin (suc d) b) _ _ (reveals_within [] ts refl h) (λ heading us is k. headed_within read heading d b us is are k)

withdraw_within : (d b : ℕ) (ts : List Lexeme) → HaveNames ts → Within (BranchWithin (suc d) b) (withdraw_at b ts)
unfolding withdraw_at
withdraw_within d b ts h =
    within_then IsName (BranchWithin (suc d) b) _ _ (name_within ts h) (λ x us is k.
    (record { depth = omega arith; readable = is; count = omega arith }, k))

split_within : (read : ChoiceReader) (d b : ℕ) (ts : List Lexeme) → ChoicesAre read d → HaveNames ts → Within (BranchWithin (suc d) b) (split_at read b ts)
unfolding split_at
split_within read d b ts are h =
    within_then Any (BranchWithin (suc d) b) _ _ (mark_within (a_symbol mark.LeftBracket) ts h) (λ o us y k.
    within_then (PartsWithin d most_parts b) (BranchWithin (suc d) b) _ _ (parts_within read d most_parts b us are k) (λ p vs so l.
    (record { depth = omega (arith, so.depth); readable = and_is _ _ (and_is _ _ so.some (le_yes _ _ so.few)) so.readable; count = so.count }, l)))

pub branch_within : (d b : ℕ) (ts : List Lexeme) → HaveNames ts → Within (BranchWithin d b) (branch_at d b ts)
unfolding branch_at
branch_within d b [] h = tt
branch_within zero b (t ∷ ts) h = tt
branch_within (suc d) b (name party ∷ ts) h = auth_within (branch_at d) party d b ts h.0 (branch_within d) h.1
branch_within (suc d) b (long_name ∷ ts) h = tt
branch_within (suc d) b (keyword word.After ∷ ts) h = after_within (branch_at d) d b ts (branch_within d) h.1
branch_within (suc d) b (keyword word.Put ∷ ts) h =
    put_within (choice_with (branch_at d) d) d b ts (λ c us k. choice_within (branch_at d) d c us (branch_within d) k) h.1
branch_within (suc d) b (keyword word.Reveal ∷ ts) h =
    reveal_within (choice_with (branch_at d) d) d b ts (λ c us k. choice_within (branch_at d) d c us (branch_within d) k) h.1
branch_within (suc d) b (keyword word.Withdraw ∷ ts) h = withdraw_within d b ts h.1
branch_within (suc d) b (keyword word.Split ∷ ts) h =
    split_within (choice_with (branch_at d) d) d b ts (λ c us k. choice_within (branch_at d) d c us (branch_within d) k) h.1
branch_within (suc d) b (t ∷ ts) h = tt
