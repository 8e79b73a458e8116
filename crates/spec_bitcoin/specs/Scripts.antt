-- The bytes of a script as operations, read and written, as Bitcoin's script has them.
use Rattle.std.specs.Prelude.{ℕ, zero, suc, ◌+◌, ◌*◌, ◌/◌, ◌%◌, List, [], ◌∷◌, ◌++◌, length, drop, slice_range, nat_le, nat_lt, ◌==◌, ◌&&◌}
use Rattle.std.specs.Prelude.{Bool, if◌then◌else◌, Option, Some, None, is_some, ℤ, pos, negsuc}
use Rattle.std.specs.Option.{option_map, option_and_then}
use Rattle.spec_data.specs.Ranges.{most_item_bytes}
use Rattle.spec_bitcoin.specs.declared.script.Op.{Op}
use Rattle.spec_bitcoin.specs.declared.script.Op.TheVariants.{Push, Code}
use Rattle.spec_bitcoin.specs.Opcodes.{opcode_of}
use Rattle.spec_bitcoin.specs.Numbers.{item_of_number}

-- ---- reading

-- a number of one byte, at the front of the bytes
abbrev pub one_byte : List ℕ → Option ℕ
one_byte [] = None
one_byte (a ∷ rest) = Some a

-- a number of two bytes, the lowest first
abbrev pub two_bytes : List ℕ → Option ℕ
two_bytes [] = None
two_bytes (a ∷ []) = None
two_bytes (a ∷ b ∷ rest) = Some (a + 256 * b)

-- a number of four bytes, the lowest first
abbrev pub four_bytes : List ℕ → Option ℕ
four_bytes [] = None
four_bytes (a ∷ []) = None
four_bytes (a ∷ b ∷ []) = None
four_bytes (a ∷ b ∷ c ∷ []) = None
four_bytes (a ∷ b ∷ c ∷ d ∷ rest) = Some (a + 256 * (b + 256 * (c + 256 * d)))

-- the lengths of the head of a push and of what it pushes, by the first byte and those after it
abbrev pub head_of : ℕ → List ℕ → Option (ℕ × ℕ)
head_of b rest =
    if nat_le b 75 then Some (1, b) else (
    if b == 76 then option_map (λ (n : ℕ). (2, n)) (one_byte rest) else (
    if b == 77 then option_map (λ (n : ℕ). (3, n)) (two_bytes rest) else option_map (λ (n : ℕ). (5, n)) (four_bytes rest)))

-- the push that the bytes begin with, and what follows it
abbrev pub cut_push : List ℕ → Option (ℕ × ℕ) → Option (Op × List ℕ)
cut_push bytes None = None
cut_push bytes (Some p) =
    if nat_le (p.0 + p.1) (length bytes) then Some (Push (slice_range bytes p.0 (p.0 + p.1)), drop (p.0 + p.1) bytes) else None

-- the operation that the bytes begin with, and what follows it
abbrev pub first_op : List ℕ → Option (Op × List ℕ)
first_op [] = None
first_op (b ∷ rest) =
    if nat_le b 78 then cut_push (b ∷ rest) (head_of b rest) else (if is_some (opcode_of b) then Some (Code b, rest) else None)

-- the operations that the bytes spell, of which there are at most so many
unfoldable pub ops_of : ℕ → List ℕ → Option (List Op)
ops_of k [] = Some []
ops_of zero (b ∷ rest) = None
ops_of (suc k) (b ∷ rest) =
    option_and_then (λ (p : Op × List ℕ). option_map (λ (ops : List Op). p.0 ∷ ops) (ops_of k p.1)) (first_op (b ∷ rest))

-- the operations of a script; none where a push is cut off or another byte stands in the place of an opcode
abbrev pub script_ops : List ℕ → Option (List Op)
script_ops bytes = ops_of (length bytes) bytes

-- ---- writing

-- an operation by its shortest push, or its byte
abbrev pub encode_op : Op → List ℕ
encode_op (Code c) = c ∷ []
encode_op (Push item) =
    if nat_le (length item) 75 then length item ∷ item else (
    if nat_le (length item) 255 then 76 ∷ (length item ∷ item) else
    77 ∷ ((length item % 256) ∷ ((length item / 256) ∷ item)))

-- the bytes of a script
abbrev pub encode : List Op → List ℕ
encode [] = []
encode (op ∷ ops) = encode_op op ++ encode ops

-- a push of no more bytes than an item, or an opcode of the profile
abbrev pub is_written : Op → Bool
is_written (Push item) = nat_le (length item) most_item_bytes
is_written (Code c) = nat_lt 78 c && is_some (opcode_of c)

-- 1 where the operation counts against the limit, else 0
abbrev pub counted_op : Op → ℕ
counted_op (Push item) = 0
counted_op (Code c) = if nat_lt 0x60 c then 1 else 0

-- how many operations count against the limit
abbrev pub counted : List Op → ℕ
counted [] = 0
counted (op ∷ ops) = counted_op op + counted ops

-- the shortest push of a number
abbrev pub push_number : ℤ → Op
push_number (pos n) = if n == 0 then Push [] else (if nat_le n 16 then Code (80 + n) else Push (item_of_number (pos n)))
push_number (negsuc n) = if n == 0 then Code 0x4f else Push (item_of_number (negsuc n))
