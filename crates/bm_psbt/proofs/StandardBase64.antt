-- The standard engine writes and reads as defined.
use Rattle.std.proofs.Common.{◌≡◌, ℕ, ◌/◌, ◌%◌, ◌*◌, ◌+◌, List, [], ◌∷◌, ◌++◌, length, Option, Some, None, refl, sym, ap, ◌∙◌, arith}
use Rattle.std.specs.Prelude.{◌↔◌, true, replicate, Result, Ok, Err}
use Rattle.spec_data.specs.Hashes.{IsBytes}
use Rattle.base64.specs.Rfc4648.{encode_symbols, padding_len, encode}
use Rattle.base64.specs.Engines.{standard}
use Rattle.base64.specs.GeneralPurpose.{encode_of, decode_of}
use Rattle.base64.specs.declared.decode.DecodeError.{DecodeError}
use Rattle.spec_tool.specs.Base64.{symbols, padding, symbol_of, base64_text, base64_bytes}
use Rattle.theory_psbt.proofs.Base64Symbols.{some}
use Rattle.theory_psbt.proofs.Base64ReadBack.{text_reads}
use Rattle.theory_psbt.proofs.Base64OnlyWritten.{bytes_only}

-- ---- writing

text_is : (bytes : List ℕ) → encode symbols padding true bytes ≡ base64_text bytes
unfolding encode_symbols base64_text
text_is [] = refl
text_is (a ∷ []) = refl
text_is (a ∷ b ∷ []) = refl
text_is (a ∷ b ∷ c ∷ rest) =
    let group = λ (text : List ℕ). symbol_of (a / 4) ∷ symbol_of (a % 4 * 16 + b / 16) ∷ symbol_of (b % 16 * 4 + c / 64) ∷ symbol_of (c % 64) ∷ text in
    let e : padding_len (length (a ∷ b ∷ c ∷ rest)) ≡ padding_len (length rest) = omega arith in
    ap (λ (n : ℕ). group (encode_symbols symbols rest ++ replicate n padding)) e ∙ ap group (text_is rest)

pub text_of_standard : (bytes : List ℕ) → encode_of standard bytes ≡ base64_text bytes
text_of_standard bytes = text_is bytes

-- ---- reading

pub standard_reads : (text bytes : List ℕ) → text ≡ encode_of standard bytes → IsBytes bytes → base64_bytes text ≡ Some bytes
standard_reads text bytes e h = ap base64_bytes (e ∙ text_of_standard bytes) ∙ text_reads bytes h

none_is : (o : Option (List ℕ)) → ((bytes : List ℕ) → o ≡ some bytes → ⊥) → o ≡ None
none_is None h = refl
none_is (Some bytes) h = absurd (h bytes refl)

not_both : (r : Result (List ℕ) DecodeError) (bytes : List ℕ) (e : DecodeError) → r ≡ Ok bytes → r ≡ Err e → ⊥
not_both r bytes e a b = absurd cc

pub standard_refuses : (text : List ℕ) (e : DecodeError)
    → ((bytes : List ℕ) → IsBytes bytes → (decode_of standard text ≡ Ok bytes) ↔ (text ≡ encode_of standard bytes))
    → decode_of standard text ≡ Err e → base64_bytes text ≡ None
standard_refuses text e exactly fails = none_is (base64_bytes text) (λ bytes h.
    let is = bytes_only text bytes h in
    let text_is_of : text ≡ encode_of standard bytes = is.same ∙ sym (text_of_standard bytes) in
    not_both (decode_of standard text) bytes e ((exactly bytes is.each).1 text_is_of) fails)
