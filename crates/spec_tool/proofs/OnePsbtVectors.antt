-- Test vectors of partially signed transactions: their text, what they say, and two of them combined.
use Rattle.std.proofs.Common.{◌≡◌, refl, Some, None}
use Rattle.std.specs.Prelude.{codes}
use Rattle.spec_tool.specs.Base64.{base64_text, base64_bytes}

-- ---- base64: the examples of RFC 4648, section 10

pub text_of_none : base64_text (codes "") ≡ codes ""
unfolding base64_text
text_of_none = refl

pub bytes_of_none : base64_bytes (codes "") ≡ Some (codes "")
unfolding base64_bytes
bytes_of_none = refl

pub text_of_one : base64_text (codes "f") ≡ codes "Zg=="
unfolding base64_text
text_of_one = refl

pub bytes_of_one : base64_bytes (codes "Zg==") ≡ Some (codes "f")
unfolding base64_bytes
bytes_of_one = refl

pub text_of_two : base64_text (codes "fo") ≡ codes "Zm8="
unfolding base64_text
text_of_two = refl

pub bytes_of_two : base64_bytes (codes "Zm8=") ≡ Some (codes "fo")
unfolding base64_bytes
bytes_of_two = refl

pub text_of_three : base64_text (codes "foo") ≡ codes "Zm9v"
unfolding base64_text
text_of_three = refl

pub bytes_of_three : base64_bytes (codes "Zm9v") ≡ Some (codes "foo")
unfolding base64_bytes
bytes_of_three = refl

pub text_of_four : base64_text (codes "foob") ≡ codes "Zm9vYg=="
unfolding base64_text
text_of_four = refl

pub bytes_of_four : base64_bytes (codes "Zm9vYg==") ≡ Some (codes "foob")
unfolding base64_bytes
bytes_of_four = refl

pub text_of_five : base64_text (codes "fooba") ≡ codes "Zm9vYmE="
unfolding base64_text
text_of_five = refl

pub bytes_of_five : base64_bytes (codes "Zm9vYmE=") ≡ Some (codes "fooba")
unfolding base64_bytes
bytes_of_five = refl

pub text_of_six : base64_text (codes "foobar") ≡ codes "Zm9vYmFy"
unfolding base64_text
text_of_six = refl

pub bytes_of_six : base64_bytes (codes "Zm9vYmFy") ≡ Some (codes "foobar")
unfolding base64_bytes
bytes_of_six = refl

pub bits_left_over : base64_bytes (codes "Zh==") ≡ None
unfolding base64_bytes
bits_left_over = refl

pub padding_inside : base64_bytes (codes "Zg==Zg==") ≡ None
unfolding base64_bytes
padding_inside = refl

pub no_padding : base64_bytes (codes "Zg") ≡ None
unfolding base64_bytes
no_padding = refl

pub padding_alone : base64_bytes (codes "====") ≡ None
unfolding base64_bytes
padding_alone = refl

pub three_paddings : base64_bytes (codes "Z===") ≡ None
unfolding base64_bytes
three_paddings = refl

pub a_blank : base64_bytes (codes "Zm 9") ≡ None
unfolding base64_bytes
a_blank = refl
