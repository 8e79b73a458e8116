-- Words that are a command.
use Rattle.std.proofs.Common.{◌≡◌, ◌≤◌, ℕ, List, [], ◌∷◌, length, Bool, true, false, ◌&&◌, nat_le, Option, Some, None, Result, Ok, Err, refl, sym, subst, option_map, arith}
use Rattle.std.specs.Prelude.{codes, if◌then◌else◌, IfOk}
use Rattle.std.specs.Str.{bytes_eq}
use Rattle.spec_data.specs.Digits.{read_decimal}
use Rattle.spec_data.specs.Ranges.{most_contracts}
use Rattle.spec_text.specs.Words.{◌>>=◌, given}
use Rattle.spec_tool.specs.declared.which.Which.{Which}
use Rattle.spec_tool.specs.Commands.{Command, check, play, plan, make, psbt_of, psbt_shown, psbt_joined, weigh, audit, auto, most_size, command_of, which_of}
use Rattle.spec_tool.specs.Commands.{check_words, play_words, plan_words, make_words, psbt_words, weigh_words, audit_words, auto_words}
use Rattle.tool_shell.specs.Answered.{IfCall}
use Rattle.tool_command.specs.Seen.{HasFew}
use Rattle.bitml_tool.specs.Served.{seen, IsServed}
use Rattle.bitml_tool.specs.declared.tool.ToolCall.{ToolCall}

if_served : (b : Bool) (x y : Option Command) → IsServed x → IsServed y → IsServed (if b then x else y)
if_served true x y hx hy = hx
if_served false x y hx hy = hy

given_served : (b : Bool) (c : Command) → (b ≡ true → IsServed (Some c)) → IsServed (given b c)
given_served true c h = h refl
given_served false c h = tt

check_served : (words : List (List ℕ)) → IsServed (check_words words)
check_served [] = tt
check_served (a ∷ []) = tt
check_served (a ∷ b ∷ words) = tt

few_contracts : (contracts : List (List ℕ)) → nat_le (length contracts) most_contracts ≡ true → length contracts ≤ most_contracts
few_contracts contracts e = grind arith

play_served : (words : List (List ℕ)) → IsServed (play_words words)
play_served [] = tt
play_served (a ∷ words) = given_served _ _ (few_contracts words)

plan_served : (words : List (List ℕ)) → IsServed (plan_words words)
plan_served [] = tt
plan_served (a ∷ []) = tt
plan_served (a ∷ b ∷ []) = tt
plan_served (a ∷ b ∷ c ∷ words) = tt

weigh_served : (words : List (List ℕ)) → IsServed (weigh_words words)
weigh_served [] = tt
weigh_served (a ∷ []) = tt
weigh_served (a ∷ b ∷ []) = tt
weigh_served (a ∷ b ∷ c ∷ words) = tt

bind_served : {X : Type 0} (o : Option X) (f : X → Option Command) → ((x : X) → IsServed (f x)) → IsServed (o >>= f)
bind_served None f h = tt
bind_served (Some x) f h = h x

few_stages : (size : ℕ) → (nat_le 1 size && nat_le size most_size) ≡ true → size ≤ most_size
few_stages size e = grind arith

made_served : (number size : ℕ) → IsServed (given (nat_le 1 size && nat_le size most_size) (make number size))
made_served number size = given_served _ _ (few_stages size)

make_served : (words : List (List ℕ)) → IsServed (make_words words)
make_served [] = tt
make_served (a ∷ []) = tt
make_served (a ∷ b ∷ []) = bind_served (read_decimal a) _ (λ n. bind_served (read_decimal b) _ (λ s. made_served n s))
make_served (a ∷ b ∷ c ∷ words) = tt

psbt_served : (words : List (List ℕ)) → IsServed (psbt_words words)
psbt_served [] = tt
psbt_served (a ∷ []) = tt
psbt_served (a ∷ b ∷ []) = tt
psbt_served (a ∷ b ∷ c ∷ []) = bind_served (which_of c) _ (λ which. tt)
psbt_served (a ∷ b ∷ c ∷ d ∷ words) = tt

audit_served : (words : List (List ℕ)) → IsServed (audit_words words)
audit_served [] = tt
audit_served (a ∷ []) = tt
audit_served (a ∷ b ∷ []) = tt
audit_served (a ∷ b ∷ c ∷ []) = tt
audit_served (a ∷ b ∷ c ∷ d ∷ words) = tt

auto_served : (words : List (List ℕ)) → IsServed (auto_words words)
auto_served [] = tt
auto_served (a ∷ []) = tt
auto_served (a ∷ b ∷ []) = tt
auto_served (a ∷ b ∷ c ∷ []) = tt
auto_served (a ∷ b ∷ c ∷ d ∷ words) = tt

module _ (checks plays plans makes psbts weighs audits autos : Bool) (words : List (List ℕ)) where
  -- by the first word: which of the commands' it is
  chosen_served : IsServed (
      if checks then check_words words
      else if plays then play_words words
      else if plans then plan_words words
      else if makes then make_words words
      else if psbts then psbt_words words
      else if weighs then weigh_words words
      else if audits then audit_words words
      else if autos then auto_words words
      else None)
  chosen_served =
      if_served checks _ _ (check_served words)
      (if_served plays _ _ (play_served words)
      (if_served plans _ _ (plan_served words)
      (if_served makes _ _ (make_served words)
      (if_served psbts _ _ (psbt_served words)
      (if_served weighs _ _ (weigh_served words)
      (if_served audits _ _ (audit_served words)
      (if_served autos _ _ (auto_served words) tt)))))))

pub served : (words : List (List ℕ)) → IsServed (command_of words)
served [] = tt
served (word ∷ words) =
    chosen_served (bytes_eq word (codes "check")) (bytes_eq word (codes "play")) (bytes_eq word (codes "plan")) (bytes_eq word (codes "make"))
    (bytes_eq word (codes "psbt")) (bytes_eq word (codes "weigh")) (bytes_eq word (codes "audit")) (bytes_eq word (codes "auto")) words

-- few contracts are given
pub few_of : (o : Option Command) → IsServed o → HasFew o
few_of None h = tt
few_of (Some (check contract)) h = tt
few_of (Some (play run contracts)) h = h
few_of (Some (plan run contract)) h = tt
few_of (Some (make number size)) h = tt
few_of (Some (psbt_of run contract which)) h = tt
few_of (Some (psbt_shown file)) h = tt
few_of (Some (psbt_joined first second)) h = tt
few_of (Some (weigh run contract)) h = tt
few_of (Some (audit run contract file)) h = tt
few_of (Some (auto run contract strategy)) h = tt

-- what the code has of the words
pub served_call : {E : Type 0} (words : List (List ℕ)) (parsed : Result (Option ToolCall) E)
    → IfOk parsed (λ call. option_map seen call ≡ command_of words) → IfCall (λ call. IsServed (Some (seen call))) parsed
served_call words (Err error) h = tt
served_call words (Ok None) h = tt
served_call words (Ok (Some call)) h = subst IsServed (sym h) (served words)
