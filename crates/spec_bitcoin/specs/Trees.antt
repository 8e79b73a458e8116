-- The operations of a script as a tree of blocks, as Bitcoin's script reads them: a block is an IF or NOTIF with its sections, cut
-- at each ELSE of that block.
use Rattle.std.specs.Prelude.{List, [], ◌∷◌, Bool, true, false, Option, Some, None}
use Rattle.spec_bitcoin.specs.declared.script.Op.{Op}
use Rattle.spec_bitcoin.specs.declared.script.Op.TheVariants.{Push, Code}
use Rattle.spec_bitcoin.specs.declared.opcode.Opcode.{Opcode}
use Rattle.spec_bitcoin.specs.declared.opcode.Opcode.TheVariants.{If, NotIf, Else, EndIf}
use Rattle.spec_bitcoin.specs.declared.opcode.Kind.{Kind}
use Rattle.spec_bitcoin.specs.declared.opcode.Kind.TheVariants.{Begins, Cuts, Ends, Runs}
use Rattle.spec_bitcoin.specs.Opcodes.{opcode_of}

mutual
  -- operations and blocks in order
  pub data Items : Type 0 where
    End : Items
    Plain : (op : Op) → (rest : Items) → Items
    Block : (negated : Bool) → (sections : Sections) → (rest : Items) → Items

  -- the sections of a block, cut at each ELSE
  pub data Sections : Type 0 where
    NoMore : Sections
    Section : (items : Items) → (others : Sections) → Sections

-- what the operations from some place on say: of each block that is open there the section from that place on and the sections
-- after it, innermost block first, and then what stands outside of blocks
pub data Open : Type 0 where
  Outside : (items : Items) → Open
  Inside : (items : Items) → (others : Sections) → (outer : Open) → Open
  Unmatched : Open

-- with an operation or a block before it, which `before` puts in front of the operations and blocks after it
abbrev pub put_at_head : (Items → Items) → Open → Open
put_at_head before (Outside items) = Outside (before items)
put_at_head before (Inside items others outer) = Inside (before items) others outer
put_at_head before Unmatched = Unmatched

-- with an IF or NOTIF before it, which begins the innermost block
abbrev pub put_if : Bool → Open → Open
put_if negated (Outside items) = Unmatched
put_if negated (Inside items others outer) = put_at_head (Block negated (Section items others)) outer
put_if negated Unmatched = Unmatched

-- with an ELSE before it, which cuts the innermost block
abbrev pub put_else : Open → Open
put_else (Outside items) = Unmatched
put_else (Inside items others outer) = Inside End (Section items others) outer
put_else Unmatched = Unmatched

-- with an ENDIF before it, which ends a further block
abbrev pub put_endif : Open → Open
put_endif outer = Inside End NoMore outer

-- what an opcode is to the tree
abbrev pub kind_of_code : Option Opcode → Kind
kind_of_code (Some If) = Begins false
kind_of_code (Some NotIf) = Begins true
kind_of_code (Some Else) = Cuts
kind_of_code (Some EndIf) = Ends
kind_of_code _ = Runs

-- what an operation is to the tree
abbrev pub kind_of : Op → Kind
kind_of (Push item) = Runs
kind_of (Code c) = kind_of_code (opcode_of c)

-- with an operation of this kind before it
abbrev pub put_kind : Kind → Op → Open → Open
put_kind (Begins negated) op = put_if negated
put_kind Cuts op = put_else
put_kind Ends op = put_endif
put_kind Runs op = put_at_head (Plain op)

-- with an operation before it
abbrev pub put_op : Op → Open → Open
put_op op = put_kind (kind_of op) op

-- the operations, read from the last to the first
abbrev pub read : List Op → Open
read [] = Outside End
read (op ∷ ops) = put_op op (read ops)

-- what stands outside of blocks, where no block is open
abbrev pub outside : Open → Option Items
outside (Outside items) = Some items
outside (Inside items others outer) = None
outside Unmatched = None

-- the tree of the operations, where IF, ELSE and ENDIF match
abbrev pub tree_of : List Op → Option Items
tree_of ops = outside (read ops)
