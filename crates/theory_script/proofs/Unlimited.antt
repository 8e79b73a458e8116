-- The limit on items isn't met where there are few items and few operations.
use Rattle.std.proofs.Common.{◌≡◌, ℕ, ◌+◌, ◌≤◌, List, [], ◌∷◌, length, Bool, true, false, Option, Some, None, refl, ap, ◌∙◌, arith}
use Rattle.std.specs.Prelude.{if◌then◌else◌, nat_le, not}
use Rattle.std.specs.Option.{option_and_then}
use Rattle.spec_bitcoin.specs.declared.script.Op.{Op}
use Rattle.spec_bitcoin.specs.declared.opcode.Kind.{Kind}
use Rattle.spec_bitcoin.specs.declared.opcode.Kind.TheVariants.{Begins, Cuts, Ends, Runs}
use Rattle.spec_bitcoin.specs.Effects.{Item, Stacks, truth}
use Rattle.spec_bitcoin.specs.Meaning.{pop_condition, run, run_sections, outcome}
use Rattle.spec_bitcoin.specs.Trees.{Items, End, Plain, Block, Sections, NoMore, Section, Open, Outside, Inside, Unmatched}
use Rattle.spec_bitcoin.specs.Trees.{put_at_head, put_kind, kind_of, read, outside}
use Rattle.theory_script.specs.Limits.{free_act, free_choose, free_items, free_sections, free_outcome}
use Rattle.theory_script.proofs.Scripts.Limits.{Holds, act_holds, act_is, step_in}

-- ---- how many operations a tree has

abbrev mutual
  ops_in : Items → ℕ
  ops_in End = 0
  ops_in (Plain op rest) = 1 + ops_in rest
  ops_in (Block negated sections rest) = ops_in_sections sections + ops_in rest

  ops_in_sections : Sections → ℕ
  ops_in_sections NoMore = 0
  ops_in_sections (Section items others) = ops_in items + ops_in_sections others

abbrev ops_open : Open → ℕ
ops_open (Outside items) = ops_in items
ops_open (Inside items others outer) = ops_in items + ops_in_sections others + ops_open outer
ops_open Unmatched = 0

prefix_count : (op : Op) (o : Open) → ops_open (put_at_head (Plain op) o) ≤ ops_open o + 1
prefix_count op (Outside items) = omega arith
prefix_count op (Inside items others outer) = omega arith
prefix_count op Unmatched = omega arith

block_count : (negated : Bool) (sections : Sections) (o : Open)
    → ops_open (put_at_head (Block negated sections) o) ≤ ops_in_sections sections + ops_open o
block_count negated sections (Outside items) = omega arith
block_count negated sections (Inside items others outer) = omega arith
block_count negated sections Unmatched = omega arith

kind_count : (k : Kind) (op : Op) (o : Open) → ops_open (put_kind k op o) ≤ ops_open o + 1
kind_count Runs op o = prefix_count op o
kind_count (Begins negated) op (Outside items) = omega arith
kind_count (Begins negated) op (Inside items others outer) =
    let c = block_count negated (Section items others) outer in
    omega (arith, c)
kind_count (Begins negated) op Unmatched = omega arith
kind_count Cuts op (Outside items) = omega arith
kind_count Cuts op (Inside items others outer) = omega arith
kind_count Cuts op Unmatched = omega arith
kind_count Ends op o = omega arith

read_count : (ops : List Op) → ops_open (read ops) ≤ length ops
read_count [] = omega arith
read_count (op ∷ ops) =
    let a = kind_count (kind_of op) op (read ops) in
    let b = read_count ops in
    omega (arith, a, b)

-- ---- what is on the stacks

abbrev size : Stacks → ℕ
size s = length s.main + length s.alt

bind_holds : (o : Option Stacks) (f : Stacks → Option Stacks) (n m : ℕ) → Holds n o → ((t : Stacks) → size t ≤ n → Holds m (f t))
    → Holds m (option_and_then f o)
bind_holds None f n m h k = tt
bind_holds (Some t) f n m h k = k t h

bind_same : (o p : Option Stacks) (f g : Stacks → Option Stacks) (n : ℕ) → o ≡ p → Holds n p
    → ((t : Stacks) → size t ≤ n → f t ≡ g t)
    → option_and_then f o ≡ option_and_then g p
bind_same o None f g n e h k = ap (option_and_then f) e
bind_same o (Some t) f g n e h k = ap (option_and_then f) e ∙ k t h

more : (o : Option Stacks) (n m : ℕ) → n ≤ m → Holds n o → Holds m o
more None n m le h = tt
more (Some t) n m le h = omega (arith, le, h)

module _ (hash : Item → Item) (valid : Item → Item → Bool) where
  -- a block, by its sections
  block_holds : (negated : Bool) (sections : Sections) (n : ℕ) (m alt : List Item) → length m + length alt ≤ n
      → ((even : Bool) (t : Stacks) → size t ≤ n → Holds (n + ops_in_sections sections) (free_sections hash valid sections even t))
      → Holds (n + ops_in_sections sections)
      (option_and_then (λ (p : Bool × Stacks). free_sections hash valid sections p.0 p.1)
      (free_choose negated (record { main = m; alt = alt })))
  block_holds negated sections n [] alt le ih = tt
  block_holds negated sections n (x ∷ m) alt le ih =
      ih (if negated then not (truth x) else truth x) (record { main = m; alt = alt }) (omega (arith, le))

  mutual
    items_hold : (items : Items) (n : ℕ) (s : Stacks) → size s ≤ n → Holds (n + ops_in items) (free_items hash valid items s)
    items_hold End n s le = omega (arith, le)
    items_hold (Plain op rest) n s le =
        bind_holds (free_act hash valid op s) (free_items hash valid rest) (size s + 1) (n + (1 + ops_in rest)) (act_holds hash valid op s)
        (λ t l. more (free_items hash valid rest t) (n + 1 + ops_in rest) (n + (1 + ops_in rest)) (omega arith)
        (items_hold rest (n + 1) t (omega (arith, l, le))))
    items_hold (Block negated sections rest) n s le =
        bind_holds
        (option_and_then (λ (p : Bool × Stacks). free_sections hash valid sections p.0 p.1) (free_choose negated s)) (free_items hash valid rest)
        (n + ops_in_sections sections) (n + (ops_in_sections sections + ops_in rest))
        (block_holds negated sections n s.main s.alt le (λ even t l. sections_hold sections even n t l))
        (λ t l. more (free_items hash valid rest t) (n + ops_in_sections sections + ops_in rest)
        (n + (ops_in_sections sections + ops_in rest)) (omega arith) (items_hold rest (n + ops_in_sections sections) t l))

    sections_hold : (sections : Sections) (even : Bool) (n : ℕ) (s : Stacks) → size s ≤ n
        → Holds (n + ops_in_sections sections) (free_sections hash valid sections even s)
    sections_hold NoMore even n s le = omega (arith, le)
    sections_hold (Section items others) true n s le =
        bind_holds (free_items hash valid items s) (free_sections hash valid others false) (n + ops_in items)
        (n + (ops_in items + ops_in_sections others)) (items_hold items n s le)
        (λ t l. more (free_sections hash valid others false t) (n + ops_in items + ops_in_sections others)
        (n + (ops_in items + ops_in_sections others)) (omega arith) (sections_hold others false (n + ops_in items) t l))
    sections_hold (Section items others) false n s le =
        more (free_sections hash valid others true s) (n + ops_in_sections others) (n + (ops_in items + ops_in_sections others))
        (omega arith) (sections_hold others true n s le)

  block_same : (negated : Bool) (sections : Sections) (m alt : List Item) → length m + length alt + ops_in_sections sections ≤ 1000
      → ((even : Bool) (t : Stacks) → size t ≤ length m + length alt
      → run_sections hash valid sections even t ≡ free_sections hash valid sections even t)
      → option_and_then (λ (p : Bool × Stacks). run_sections hash valid sections p.0 p.1) (pop_condition negated (record { main = m; alt = alt }))
      ≡ option_and_then (λ (p : Bool × Stacks). free_sections hash valid sections p.0 p.1)
      (free_choose negated (record { main = m; alt = alt }))
  block_same negated sections [] alt le ih = refl
  block_same negated sections (x ∷ m) alt le ih =
      let few : nat_le (length m + length alt) 1000 ≡ true = grind (arith, le) in
      rw few (ih (if negated then not (truth x) else truth x) (record { main = m; alt = alt }) (omega arith))

  mutual
    items_same : (items : Items) (s : Stacks) → size s + ops_in items ≤ 1000 → run hash valid items s ≡ free_items hash valid items s
    items_same End s le = refl
    items_same (Plain op rest) s le =
        ap (option_and_then (run hash valid rest)) (act_is hash valid op s)
        ∙ step_in (free_act hash valid op s) (run hash valid rest) (free_items hash valid rest) (size s + 1) (omega (arith, le))
        (act_holds hash valid op s)
        (λ t l. items_same rest t (omega (arith, l, le)))
    items_same (Block negated sections rest) s le =
        bind_same _ (option_and_then (λ (p : Bool × Stacks). free_sections hash valid sections p.0 p.1) (free_choose negated s))
        (run hash valid rest) (free_items hash valid rest)
        (size s + ops_in_sections sections)
        (block_same negated sections s.main s.alt (omega (arith, le))
        (λ even t l. sections_same sections even t (omega (arith, l, le))))
        (block_holds negated sections (size s) s.main s.alt (omega arith) (λ even t l. sections_hold sections even (size s) t l))
        (λ t l. items_same rest t (omega (arith, l, le)))

    sections_same : (sections : Sections) (even : Bool) (s : Stacks) → size s + ops_in_sections sections ≤ 1000
        → run_sections hash valid sections even s ≡ free_sections hash valid sections even s
    sections_same NoMore even s le = refl
    sections_same (Section items others) true s le =
        bind_same (run hash valid items s) (free_items hash valid items s) (run_sections hash valid others false)
        (free_sections hash valid others false) (size s + ops_in items)
        (items_same items s (omega (arith, le))) (items_hold items (size s) s (omega arith))
        (λ t l. sections_same others false t (omega (arith, l, le)))
    sections_same (Section items others) false s le = sections_same others true s (omega (arith, le))

  pub limit_unmet : (ops : List Op) (stack : List Item) → length stack + length ops ≤ 1000
      → outcome hash valid ops stack ≡ free_outcome hash valid ops stack
  limit_unmet ops stack le = by_tree (read ops) (read_count ops)
    where
      by_tree : (o : Open) → ops_open o ≤ length ops
          → option_and_then (λ (items : Items). run hash valid items (record { main = stack; alt = [] })) (outside o)
          ≡ option_and_then (λ (items : Items). free_items hash valid items (record { main = stack; alt = [] })) (outside o)
      by_tree (Outside items) c = items_same items (record { main = stack; alt = [] }) (omega (arith, c, le))
      by_tree (Inside items others outer) c = refl
      by_tree Unmatched c = refl
