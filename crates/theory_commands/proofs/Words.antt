-- The sizes that words give to `make` are those that it takes.
use Rattle.std.proofs.Common.{◌≡◌, ℕ, ◌≤◌, Bool, true, false, List, [], ◌∷◌, length, Option, Some, None, refl, subst, arith}
use Rattle.std.specs.Prelude.{◌&&◌, if◌then◌else◌, nat_le, codes}
use Rattle.std.specs.Str.{bytes_eq}
use Rattle.std.proofs.lemmas.Bool.Decides.{nat_tests}
use Rattle.spec_data.specs.Digits.{read_decimal}
use Rattle.spec_data.specs.Ranges.{most_contracts}
use Rattle.spec_text.specs.Words.{◌>>=◌, given}
use Rattle.spec_tool.specs.declared.which.Which.{Which}
use Rattle.spec_tool.specs.Commands.{Command, check, play, plan, make, psbt_of, psbt_shown, psbt_joined, weigh, audit, auto, most_size}
use Rattle.spec_tool.specs.Commands.{check_words, play_words, plan_words, make_words, which_of, psbt_words, weigh_words, audit_words}
use Rattle.spec_tool.specs.Commands.{auto_words, command_of}
use Rattle.theory_commands.specs.Commands.{GeneratedSizesAreTaken}

-- the command is no `make`, or one of a size that it takes
abbrev IsSized : Option Command → Type 0
IsSized None = Unit {0}
IsSized (Some (check contract)) = Unit {0}
IsSized (Some (play run contracts)) = Unit {0}
IsSized (Some (plan run contract)) = Unit {0}
IsSized (Some (make number size)) = size ≤ most_size
IsSized (Some (psbt_of run contract which)) = Unit {0}
IsSized (Some (psbt_shown file)) = Unit {0}
IsSized (Some (psbt_joined first second)) = Unit {0}
IsSized (Some (weigh run contract)) = Unit {0}
IsSized (Some (audit run contract file)) = Unit {0}
IsSized (Some (auto run contract strategy)) = Unit {0}

either : (b : Bool) (x y : Option Command) → IsSized x → IsSized y → IsSized (if b then x else y)
either true x y f g = f
either false x y f g = g

check_sized : (words : List (List ℕ)) → IsSized (check_words words)
check_sized [] = tt
check_sized (a ∷ []) = tt
check_sized (a ∷ b ∷ words) = tt

given_play : (b : Bool) (run : List ℕ) (contracts : List (List ℕ)) → IsSized (given b (play run contracts))
given_play true run contracts = tt
given_play false run contracts = tt

play_sized : (words : List (List ℕ)) → IsSized (play_words words)
play_sized [] = tt
play_sized (run ∷ contracts) = given_play (nat_le (length contracts) most_contracts) run contracts

plan_sized : (words : List (List ℕ)) → IsSized (plan_words words)
plan_sized [] = tt
plan_sized (a ∷ []) = tt
plan_sized (a ∷ b ∷ []) = tt
plan_sized (a ∷ b ∷ c ∷ words) = tt

weigh_sized : (words : List (List ℕ)) → IsSized (weigh_words words)
weigh_sized [] = tt
weigh_sized (a ∷ []) = tt
weigh_sized (a ∷ b ∷ []) = tt
weigh_sized (a ∷ b ∷ c ∷ words) = tt

audit_sized : (words : List (List ℕ)) → IsSized (audit_words words)
audit_sized [] = tt
audit_sized (a ∷ []) = tt
audit_sized (a ∷ b ∷ []) = tt
audit_sized (a ∷ b ∷ c ∷ []) = tt
audit_sized (a ∷ b ∷ c ∷ d ∷ words) = tt

auto_sized : (words : List (List ℕ)) → IsSized (auto_words words)
auto_sized [] = tt
auto_sized (a ∷ []) = tt
auto_sized (a ∷ b ∷ []) = tt
auto_sized (a ∷ b ∷ c ∷ []) = tt
auto_sized (a ∷ b ∷ c ∷ d ∷ words) = tt

which_sized : (run contract : List ℕ) (o : Option Which) → IsSized (o >>= λ which. Some (psbt_of run contract which))
which_sized run contract None = tt
which_sized run contract (Some which) = tt

psbt_sized : (words : List (List ℕ)) → IsSized (psbt_words words)
psbt_sized [] = tt
psbt_sized (a ∷ []) = tt
psbt_sized (a ∷ b ∷ []) = tt
psbt_sized (a ∷ b ∷ c ∷ []) = which_sized a b (which_of c)
psbt_sized (a ∷ b ∷ c ∷ d ∷ words) = tt

given_make : (b : Bool) (n s : ℕ) → (b ≡ true → s ≤ most_size) → IsSized (given b (make n s))
given_make true n s f = f refl
given_make false n s f = tt

few_is : (s : ℕ) → (nat_le 1 s && nat_le s most_size) ≡ true → s ≤ most_size
few_is s e = let few : nat_le s most_size ≡ true = and_last (nat_le 1 s) (nat_le s most_size) e in grind (arith, nat_tests, few)
  where
    and_last : (a b : Bool) → (a && b) ≡ true → b ≡ true
    and_last true b h = h
    and_last false b h = cc

size_sized : (n : ℕ) (o : Option ℕ) → IsSized (o >>= λ s. given (nat_le 1 s && nat_le s most_size) (make n s))
size_sized n None = tt
size_sized n (Some s) = given_make (nat_le 1 s && nat_le s most_size) n s (few_is s)

number_sized : (p : Option ℕ) (o : Option ℕ)
    → IsSized (p >>= λ n. o >>= λ s. given (nat_le 1 s && nat_le s most_size) (make n s))
number_sized None o = tt
number_sized (Some n) o = size_sized n o

make_sized : (words : List (List ℕ)) → IsSized (make_words words)
make_sized [] = tt
make_sized (a ∷ []) = tt
make_sized (number ∷ size ∷ []) = number_sized (read_decimal number) (read_decimal size)
make_sized (a ∷ b ∷ c ∷ words) = tt

sized : (words : List (List ℕ)) → IsSized (command_of words)
sized [] = tt
sized (word ∷ words) =
    either (bytes_eq word (codes "check")) _ _ (check_sized words)
    (either (bytes_eq word (codes "play")) _ _ (play_sized words)
    (either (bytes_eq word (codes "plan")) _ _ (plan_sized words)
    (either (bytes_eq word (codes "make")) _ _ (make_sized words)
    (either (bytes_eq word (codes "psbt")) _ _ (psbt_sized words)
    (either (bytes_eq word (codes "weigh")) _ _ (weigh_sized words)
    (either (bytes_eq word (codes "audit")) _ _ (audit_sized words)
    (either (bytes_eq word (codes "auto")) _ _ (auto_sized words) tt)))))))

pub sizes_taken : GeneratedSizesAreTaken
sizes_taken words number size e = subst IsSized e (sized words)
