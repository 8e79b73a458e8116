-- Test vectors of the definitions, each by computation alone.
use Rattle.std.proofs.Common.{◌≡◌, ℕ, ◌+◌, ◌*◌, ◌%◌, List, [], ◌∷◌, ◌++◌, length, map, refl}
use Rattle.std.specs.Prelude.{codes, fold, replicate, drop, Option, None, Some, pos, false}
use Rattle.spec_terms.specs.Term.{always, auth, after, put_reveal, withdraw, split, Contract, no_branch, branch, no_part, part}
use Rattle.spec_terms.specs.declared.path.PathStep.{PathStep}
use Rattle.spec_terms.specs.declared.path.PathStep.TheVariants.{Branch as To, Part as Into}
use Rattle.spec_terms.specs.declared.pre.Pre.{Pre}
use Rattle.spec_terms.specs.declared.pre.Pre.TheVariants.{Persistent, Secret}
use Rattle.spec_bitcoin.specs.declared.tx.Tx.{Tx}
use Rattle.spec_bitcoin.specs.Keys.{key_of}
use Rattle.spec_bitcoin.specs.Numbers.{number_of_item, item_of_number, signed_bytes}
use Rattle.spec_bitcoin.specs.Scripts.{counted, encode, push_number}
use Rattle.spec_bitcoin.specs.Effects.{Stacks}
use Rattle.spec_bitcoin.specs.Meaning.{outcome}
use Rattle.spec_bitcoin.specs.Opcodes.{op_1, op_16, op_if, op_else, op_endif, op_drop}
use Rattle.spec_bitcoin.specs.declared.script.Op.TheVariants.{Push, Code}
use Rattle.spec_compiler.specs.Scripts.{branch_ops, choice_ops, reveal_ops, push_521, demands, output_ops}
use Rattle.spec_compiler.specs.Keyed.Instance as keyed
use Rattle.spec_compiler.specs.Instance.{Instance, branch_label, branch_keys, position_demands, position_script}
use Rattle.spec_compiler.specs.Witness.{witness_of, chosen_by}
use Rattle.spec_compiler.specs.declared.unsigned.Unsigned.{Unsigned}
use Rattle.spec_compiler.specs.Transactions.{tx_of, initial_unsigned}
use Rattle.spec_compiler.specs.Compilation.{path_transactions, compilation}
use Rattle.spec_compiler.specs.ByPath.{unsigned_at}
use Rattle.spec_compiler.specs.Hashed.{compiled_strings}
use Rattle.spec_compiler.specs.Endorsements.{needs}

-- 32 bytes that tell most short messages apart
abbrev weigh : List ℕ → List ℕ
weigh message = fold (λ h b. (31 * h + b) % 65521) 7 message ∷ replicate 31 0

abbrev A : List ℕ
A = codes "A"

abbrev B : List ℕ
B = codes "B"

-- the deposits lie in the outputs of a transaction of zeros
abbrev instance : List Pre → Contract → Instance
instance pre root = record {
  contract = 0;
  advert = record { pre = pre; fee = 0; root = root };
  bound = (codes "x", record { txid = replicate 32 0; vout = 0 }) ∷ (codes "y", record { txid = replicate 32 0; vout = 1 }) ∷ [];
  hashes = (codes "a", replicate 32 1) ∷ [];
}

-- ---- a contract that reveals one secret

abbrev told : Contract
told = branch (put_reveal [] (codes "a" ∷ []) always (branch (withdraw A) no_branch)) no_branch

abbrev tells : Instance
tells = instance (Persistent A 1 (codes "x") ∷ Secret A (codes "a") ∷ []) told

tells_bytes : length (position_script weigh tells [] told) ≡ 83
unfolding keyed.position_script item_of_number signed_bytes
tells_bytes = refl

tells_operations : counted (output_ops (position_demands weigh tells [] told)) ≡ 11
unfolding item_of_number signed_bytes
tells_operations = refl

-- ---- the same with a second party and a way out

abbrev timed : Contract
timed = branch (put_reveal [] (codes "a" ∷ []) always (branch (withdraw A) no_branch)) (branch (after 1000 (withdraw B)) no_branch)

abbrev times : Instance
times = instance (Persistent A 100000000 (codes "x") ∷ Persistent B 0 (codes "y") ∷ Secret A (codes "a") ∷ []) timed

timed_bytes : length (position_script weigh times [] timed) ≡ 191
unfolding keyed.position_script item_of_number signed_bytes
timed_bytes = refl

timed_operations : counted (output_ops (position_demands weigh times [] timed)) ≡ 17
unfolding item_of_number signed_bytes
timed_operations = refl

-- ---- two branches that do the same on the word of one party each

abbrev either : Contract
either = branch (auth A (withdraw B)) (branch (auth B (withdraw B)) no_branch)

abbrev eithers : Instance
eithers = instance (Persistent A 10 (codes "x") ∷ Persistent B 0 (codes "y") ∷ []) either

-- whether all transactions are the same
abbrev are_same : List Tx → Type 0
are_same [] = Unit {0}
are_same (t ∷ []) = Unit {0}
are_same (t ∷ (u ∷ ts)) = (t ≡ u) × are_same (u ∷ ts)

either_same : are_same (map (λ p. tx_of p.1) (path_transactions weigh eithers))
either_same = (refl, tt)

-- but each is signed by keys of its own
either_keys : branch_keys weigh eithers (To 0 ∷ []) ++ branch_keys weigh eithers (To 1 ∷ [])
    ≡ map (key_of weigh) (branch_label 0 (To 0 ∷ []) A ∷ (branch_label 0 (To 0 ∷ []) B ∷ (branch_label 0 (To 1 ∷ []) A ∷ (branch_label 0 (To 1 ∷ []) B ∷ []))))
either_keys = refl

-- ---- witnesses

witness_second : drop 2 (witness_of ((9 ∷ []) ∷ []) ((8 ∷ []) ∷ []) 1 3 (7 ∷ [])) ≡ (1 ∷ []) ∷ ([] ∷ ((7 ∷ []) ∷ []))
witness_second = refl

chosen_second : chosen_by 3 (witness_of ((9 ∷ []) ∷ []) ((8 ∷ []) ∷ []) 1 3 (7 ∷ [])) ≡ 1
chosen_second = refl

chosen_last : chosen_by 3 (witness_of ((9 ∷ []) ∷ []) ((8 ∷ []) ∷ []) 2 3 (7 ∷ [])) ≡ 2
chosen_last = refl

-- fewer items than selectors
chosen_short : chosen_by 3 ([] ∷ ((7 ∷ []) ∷ [])) ≡ 2
chosen_short = refl

-- nothing to reveal, always true, one key
signed_alone : branch_ops (demands [] always ((3 ∷ []) ∷ []) []) ≡ Push (3 ∷ []) ∷ (Code 0xac ∷ [])
signed_alone = refl

-- ---- reveals

-- the number 521 is pushed by its shortest push
shortest_521 : push_number (pos 521) ≡ push_521
unfolding item_of_number signed_bytes
shortest_521 = refl

-- SIZE DUP 16 521 WITHIN VERIFY TOALTSTACK SHA256 and EQUALVERIFY with the digest between them
reveal_bytes :
    encode (reveal_ops (replicate 32 7))
    ≡ 0x82 ∷ 0x76 ∷ 0x60 ∷ 2 ∷ 9 ∷ 2 ∷ 0xa5 ∷ 0x69 ∷ 0x6b ∷ 0xa8 ∷ 32 ∷ (replicate 32 7 ++ 0x88 ∷ [])
reveal_bytes = refl

-- what the reveal of a secret of so many bytes leaves on both stacks
abbrev revealed : ℕ → Option Stacks
revealed count = outcome (λ x. 7 ∷ []) (λ s k. false) (reveal_ops (7 ∷ [])) (replicate count 1 ∷ [])

-- a secret has 16 to 520 bytes, and its byte count goes aside
revealed_15 : revealed 15 ≡ None
unfolding item_of_number signed_bytes number_of_item
revealed_15 = refl

revealed_16 : revealed 16 ≡ Some (record { main = []; alt = (16 ∷ []) ∷ [] })
unfolding item_of_number signed_bytes number_of_item
revealed_16 = refl

revealed_520 : revealed 520 ≡ Some (record { main = []; alt = (8 ∷ 2 ∷ []) ∷ [] })
unfolding item_of_number signed_bytes number_of_item
revealed_520 = refl

revealed_521 : revealed 521 ≡ None
unfolding item_of_number signed_bytes number_of_item
revealed_521 = refl

-- another digest
revealed_other : outcome (λ x. 7 ∷ []) (λ s k. false) (reveal_ops (8 ∷ [])) (replicate 16 1 ∷ []) ≡ None
unfolding item_of_number signed_bytes number_of_item
revealed_other = refl

-- three branches, one block in another's second section
three_branches :
    choice_ops ((op_1 ∷ []) ∷ (op_16 ∷ []) ∷ (op_drop ∷ []) ∷ [])
    ≡ op_if ∷ op_1 ∷ op_else ∷ op_if ∷ op_16 ∷ op_else ∷ op_drop ∷ op_endif ∷ op_endif ∷ []
three_branches = refl

-- ---- fees

-- {A:! 10 @ x} fee 1 split [5 -> withdraw A, 3 -> withdraw A]
abbrev divided : Contract
divided = branch (split (part 5 (branch (withdraw A) no_branch) (part 3 (branch (withdraw A) no_branch) no_part))) no_branch

abbrev divides : Instance
divides = record (instance (Persistent A 10 (codes "x") ∷ []) divided) { advert = record { pre = Persistent A 10 (codes "x") ∷ []; fee = 1; root = divided } }

abbrev values : Unsigned → List ℕ
values d = map (λ o. o.value) d.outputs

first_value : values (initial_unsigned weigh divides) ≡ 9 ∷ []
first_value = refl

later_values : map {B = List PathStep × List ℕ} (λ p. (p.0, values p.1)) (path_transactions weigh divides) ≡ (To 0 ∷ [], 5 ∷ (3 ∷ []))
    ∷ ((To 0 ∷ (Into 0 ∷ (To 0 ∷ [])), 4 ∷ []) ∷ ((To 0 ∷ (Into 1 ∷ (To 0 ∷ [])), 2 ∷ []) ∷ []))
later_values = refl

-- each transaction is also found by its path
found : map (λ p. unsigned_at weigh divides p.0) (path_transactions weigh divides) ≡ map (λ p. Some p.1) (path_transactions weigh divides)
found = refl

-- ---- what is waited for

-- for the split and for each withdrawal A's signature
needed : map (λ n. n.path) (needs weigh 0 divides.advert (compilation weigh divides).paths) ≡ (To 0 ∷ [])
    ∷ ((To 0 ∷ (Into 0 ∷ (To 0 ∷ []))) ∷ ((To 0 ∷ (Into 1 ∷ (To 0 ∷ []))) ∷ []))
needed = refl

-- each branch waits for the party that it doesn't ask
needed_others : map (λ n. n.party) (needs weigh 0 eithers.advert (compilation weigh eithers).paths) ≡ B ∷ (A ∷ [])
needed_others = refl

-- two labels for each of two paths, one script, and for each of three transactions eight strings and two for each input
hashed : length (compiled_strings weigh eithers) ≡ 4 + (1 + ((8 + 4) + ((8 + 2) + (8 + 2))))
hashed = refl
