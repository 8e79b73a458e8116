-- Multiples of the base point.
use Rattle.std.specs.Prelude.{◌≡◌, ◌-◌}
use Rattle.spec_curve.specs.Field.{group_order}
use Rattle.spec_curve.specs.Point.{infinity, at, add, multiple, base}

pub record MultiplesOfBase : Type 0 where
  pub two : multiple 256 2 base ≡ at 0xc6047f9441ed7d6d3045406e95c07cd85c778e4b8cef3ca7abac09b95c709ee5
      0x1ae168fea63dc339a3c58419466ceaeef7f632653266d0e1236431a950cfe52a
  pub three : multiple 256 3 base ≡ at 0xf9308a019258c31049344f85f89d5229b531c845836f99b08601f113bce036f9
      0x388f7b0f632de8140fe337e62a37f3566500a99934c2231b6cb9fd7584b8e672
  -- the opposite of the base point
  pub last : multiple 256 (group_order - 1) base
      ≡ at 0x79be667ef9dcbbac55a06295ce870b07029bfcdb2dce28d959f2815b16f81798 0xb7c52588d95c3b9aa25b0403f1eef75702e84bb7597aabe663b82f6f04ef2777
  pub all : multiple 256 group_order base ≡ infinity
  pub equal : add base base ≡ at 0xc6047f9441ed7d6d3045406e95c07cd85c778e4b8cef3ca7abac09b95c709ee5
      0x1ae168fea63dc339a3c58419466ceaeef7f632653266d0e1236431a950cfe52a
  pub opposite : add base (at 0x79be667ef9dcbbac55a06295ce870b07029bfcdb2dce28d959f2815b16f81798
      0xb7c52588d95c3b9aa25b0403f1eef75702e84bb7597aabe663b82f6f04ef2777) ≡ infinity
