-- What is claimed of numbers as items of Bitcoin's script: each in range is read back, and its item is the only shortest one.
use Rattle.std.specs.Prelude.{◌≡◌, ℕ, ◌+◌, ◌%◌, ◌≤◌, List, [], ◌∷◌, length, Bool, true, not, ◌||◌, nat_le, ◌==◌, if◌then◌else◌, Some, ℤ}
use Rattle.std.specs.Prelude.{pos, negsuc}
use Rattle.spec_bitcoin.specs.Numbers.{number_of_item, item_of_number}
use Rattle.spec_bitcoin.specs.Spelling.{IsBytes}

-- how far a number is from 0
abbrev pub size_of_number : ℤ → ℕ
size_of_number (pos n) = n
size_of_number (negsuc n) = n + 1

-- the last byte says more than a sign, or the byte before it has no room for the sign
abbrev pub ends_shortest : ℕ → List ℕ → Bool
ends_shortest before [] = true
ends_shortest before (b ∷ rest) = if length rest == 0 then not (b % 128 == 0) || nat_le 128 before else ends_shortest b rest

-- whether no byte of an item can be left out, as Bitcoin's policy asks of numbers
abbrev pub is_shortest : List ℕ → Bool
is_shortest item = ends_shortest 0 item

-- an operand's number is read back from its item, which is a shortest one
pub record IsReadBack (z : ℤ) : Type 0 where
  pub again : number_of_item (item_of_number z) ≡ Some z
  pub shortest : is_shortest (item_of_number z) ≡ true

-- of every number that four bytes can hold
abbrev pub NumbersAreReadBack : Type 0
NumbersAreReadBack = (z : ℤ) → size_of_number z ≤ 2147483647 → IsReadBack z

-- what an item of this number is next to the number's own item
pub record IsItemOf (item : List ℕ) (z : ℤ) : Type 0 where
  -- it is no shorter
  pub least : length (item_of_number z) ≤ length item
  -- a shortest one is the same
  pub same : is_shortest item ≡ true → item_of_number z ≡ item

-- of every item that is an operand
abbrev pub ItemsAreShortest : Type 0
ItemsAreShortest = (item : List ℕ) (z : ℤ) → IsBytes item → number_of_item item ≡ Some z → IsItemOf item z
