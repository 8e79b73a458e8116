-- The bytes of operations one after the other.
use Rattle.std.proofs.Common.{◌≡◌, List, [], ◌∷◌, ◌++◌, refl, sym, ap, ◌∙◌, append_assoc}
use Rattle.spec_bitcoin.specs.declared.script.Op.{Op}
use Rattle.spec_bitcoin.specs.Scripts.{encode_op, encode}

pub encode-append : (xs ys : List Op) → encode (xs ++ ys) ≡ encode xs ++ encode ys
encode-append [] ys = refl
encode-append (op ∷ xs) ys =
    ap (λ bs. encode_op op ++ bs) (encode-append xs ys) ∙ sym (append_assoc (encode_op op) (encode xs) (encode ys))
