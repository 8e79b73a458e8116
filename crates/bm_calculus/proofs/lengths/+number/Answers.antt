use Rattle.std.proofs.Common.{arith}
use Rattle.std.proofs.lemmas.Int.{ints}
use Rattle.bm_syntax.proofs.Views.{formula-Plus, formula-Minus}
use Rattle.bm_calculus.proofs.lengths.+number.Goals as goal

pub overflow_add-result : goal.overflow_add-result
overflow_add-result t c =
    let small =
    rw (c.in-Plus.is, formula-Plus c.in-Plus.a c.in-Plus.b, ← c.deref.ensures, ← c.deref-in-Plus.ensures)
    at c.requires.bounded in
    omega (arith, ints, small)

pub overflow_sub-result : goal.overflow_sub-result
overflow_sub-result t c =
    let small =
    rw (c.in-Minus.is, formula-Minus c.in-Minus.a c.in-Minus.b, ← c.deref-in-Minus.ensures, ← c.deref-in-Minus-2.ensures)
    at c.requires.bounded in
    omega (arith, ints, small)

pub returns-in-Plus-clause-exact : goal.returns-in-Plus-clause-exact
returns-in-Plus-clause-exact t c =
    let small =
    rw (c.in-Plus.is, formula-Plus c.in-Plus.a c.in-Plus.b, ← c.deref.ensures, ← c.deref-in-Plus.ensures)
    at c.requires.bounded in
    rw (
      c.in-Plus.is,
      formula-Plus c.in-Plus.a c.in-Plus.b,
      ← c.deref.ensures,
      ← c.deref-in-Plus.ensures,
      ← c.number.ensures.exact,
      ← c.number-in-Plus.ensures.exact,
    )
    (omega (arith, ints, small))

pub returns-in-Plus-clause-low : goal.returns-in-Plus-clause-low
returns-in-Plus-clause-low t c =
    let small =
    rw (c.in-Plus.is, formula-Plus c.in-Plus.a c.in-Plus.b, ← c.deref.ensures, ← c.deref-in-Plus.ensures)
    at c.requires.bounded in
    rw (c.in-Plus.is, formula-Plus c.in-Plus.a c.in-Plus.b, ← c.deref.ensures, ← c.deref-in-Plus.ensures)
    (omega (arith, ints, small))

pub returns-in-Plus-clause-high : goal.returns-in-Plus-clause-high
returns-in-Plus-clause-high t c =
    let small =
    rw (c.in-Plus.is, formula-Plus c.in-Plus.a c.in-Plus.b, ← c.deref.ensures, ← c.deref-in-Plus.ensures)
    at c.requires.bounded in
    rw (c.in-Plus.is, formula-Plus c.in-Plus.a c.in-Plus.b, ← c.deref.ensures, ← c.deref-in-Plus.ensures)
    (omega (arith, ints, small))

pub returns-in-Minus-clause-exact : goal.returns-in-Minus-clause-exact
returns-in-Minus-clause-exact t c =
    let small =
    rw (c.in-Minus.is, formula-Minus c.in-Minus.a c.in-Minus.b, ← c.deref-in-Minus.ensures, ← c.deref-in-Minus-2.ensures)
    at c.requires.bounded in
    rw (
      c.in-Minus.is,
      formula-Minus c.in-Minus.a c.in-Minus.b,
      ← c.deref-in-Minus.ensures,
      ← c.deref-in-Minus-2.ensures,
      ← c.number-in-Minus.ensures.exact,
      ← c.number-in-Minus-2.ensures.exact,
    )
    (omega (arith, ints, small))

pub returns-in-Minus-clause-low : goal.returns-in-Minus-clause-low
returns-in-Minus-clause-low t c =
    let small =
    rw (c.in-Minus.is, formula-Minus c.in-Minus.a c.in-Minus.b, ← c.deref-in-Minus.ensures, ← c.deref-in-Minus-2.ensures)
    at c.requires.bounded in
    rw (c.in-Minus.is, formula-Minus c.in-Minus.a c.in-Minus.b, ← c.deref-in-Minus.ensures, ← c.deref-in-Minus-2.ensures)
    (omega (arith, ints, small))

pub returns-in-Minus-clause-high : goal.returns-in-Minus-clause-high
returns-in-Minus-clause-high t c =
    let small =
    rw (c.in-Minus.is, formula-Minus c.in-Minus.a c.in-Minus.b, ← c.deref-in-Minus.ensures, ← c.deref-in-Minus-2.ensures)
    at c.requires.bounded in
    rw (c.in-Minus.is, formula-Minus c.in-Minus.a c.in-Minus.b, ← c.deref-in-Minus.ensures, ← c.deref-in-Minus-2.ensures)
    (omega (arith, ints, small))
