-- Test vectors of partially signed transactions: files of them are decoded, and two of them combined.
use Rattle.std.proofs.Common.{◌≡◌, ℕ, List, [], ◌∷◌, ◌++◌, Some, Ok, Err, refl}
use Rattle.std.specs.Prelude.{codes}
use Rattle.std.specs.Fmt.{digits}
use Rattle.spec_bitcoin.specs.Spelling.{stripped, compact}
use Rattle.spec_bitcoin.specs.Reading.{many, wide_at, compact_at, string_at, input_at, inputs_at, output_at, outputs_at, witness_at}
use Rattle.spec_bitcoin.specs.Reading.{witnesses_at, plain_at, marked_at, transaction_at, all_at}
use Rattle.spec_tool.specs.Base64.{base64_text, base64_bytes}
use Rattle.spec_tool.specs.PsbtBytes.{psbt_of, psbt_bytes, records_at, maps_at}
use Rattle.spec_text.specs.Refusals.{Judged}
use Rattle.spec_tool.specs.Psbt.{Psbt}
use Rattle.spec_tool.specs.PsbtText.{psbt_in, psbt_line}
use Rattle.spec_tool.specs.Reads.{got}
use Rattle.spec_tool.specs.Commands.{psbt_shown, psbt_joined, prints}
use Rattle.spec_tool.specs.Answers.{answer}
use Rattle.spec_tool.proofs.CommandVectors.{line, same}

-- the initial transaction of `{A:! 10 @ x} withdraw A`, signed
abbrev pub signed_file : List ℕ
signed_file =
    codes "cHNidP8BAF4CAAAAAUvUeTgBNa8u5cxrXIp+KepvtYEyFPQZAns95ZQGYCB0AAAAAAD+////AQoAAAAAAAAAIgAgd4n0jft8Y/Ky" ++ (
    codes "cXvmgf7GAN22nACu/VOlhyJhaRLLG0kAAAAAAAEBKwoAAAAAAAAAIgAgi1nX6cHE+24WT77w00EHGPEq4TnMOPGT4qCxj483zi0i" ++ (
    codes "AgJyKfR1KuG6S3We92lS8MjfQNGjlqTHk2N1144OIPn5U0ICcin0dSrhukt1nvdpUvDI30DRo5akx5NjddeODiD5+VN5jqiDiyox" ++ (
    codes "XOPEC/ml29KVx/QECMClsVDBh2ltyaV9xgEBAwQBAAAAAQUjIQJyKfR1KuG6S3We92lS8MjfQNGjlqTHk2N1144OIPn5U6wAAA==")))

-- the same without the signature
abbrev pub unsigned_file : List ℕ
unsigned_file =
    codes "cHNidP8BAF4CAAAAAUvUeTgBNa8u5cxrXIp+KepvtYEyFPQZAns95ZQGYCB0AAAAAAD+////AQoAAAAAAAAAIgAgd4n0jft8Y/Ky" ++ (
    codes "cXvmgf7GAN22nACu/VOlhyJhaRLLG0kAAAAAAAEBKwoAAAAAAAAAIgAgi1nX6cHE+24WT77w00EHGPEq4TnMOPGT4qCxj483zi0B" ++ (
    codes "AwQBAAAAAQUjIQJyKfR1KuG6S3We92lS8MjfQNGjlqTHk2N1144OIPn5U6wAAA=="))

-- the transaction of its only branch
abbrev pub other_file : List ℕ
other_file =
    codes "cHNidP8BAF4CAAAAAZoxycWH+XshXzr6PldYvPXCXweovGy71Vf9jb6lDIMeAAAAAAD+////AQoAAAAAAAAAIgAgi1nX6cHE+24W" ++ (
    codes "T77w00EHGPEq4TnMOPGT4qCxj483zi0AAAAAAAEBKwoAAAAAAAAAIgAgd4n0jft8Y/KycXvmgf7GAN22nACu/VOlhyJhaRLLG0ki" ++ (
    codes "AgLDBI64pj7UHqe5/VX7B6h3NuYfQZDGYD5IvUaVF4n9uEICwwSOuKY+1B6nuf1V+weodzbmH0GQxmA+SL1GlReJ/bhqqb9u2ZW1" ++ (
    codes "ORD8iQinOAxHpKcBlWkJ/PvetvFPWtDmdgEBAwQBAAAAAQUjIQLDBI64pj7UHqe5/VX7B6h3NuYfQZDGYD5IvUaVF4n9uKwAAA==")))

-- the line of what a file holds
abbrev pub line_of : Judged Psbt → List ℕ
line_of (Err why) = why
line_of (Ok p) = psbt_line p

abbrev pub written : List ℕ → List ℕ
written file = line_of (psbt_in (Some file))

-- both together say what the signed one says
pub signature_joined : answer same (psbt_joined (codes "f") (codes "g")) (got signed_file ∷ got unsigned_file ∷ [])
    ≡ answer same (psbt_shown (codes "f")) (got signed_file ∷ [])
unfolding stripped compact many wide_at compact_at string_at input_at inputs_at output_at outputs_at witness_at witnesses_at plain_at
    marked_at transaction_at all_at base64_text base64_bytes psbt_of psbt_bytes records_at maps_at digits
signature_joined = refl

-- what is read of it is written again
pub written_again : written signed_file ≡ line signed_file []
unfolding stripped compact many wide_at compact_at string_at input_at inputs_at output_at outputs_at witness_at witnesses_at plain_at
    marked_at transaction_at all_at base64_text base64_bytes psbt_of psbt_bytes records_at maps_at digits
written_again = refl

pub others_are_refused : answer same (psbt_joined (codes "f") (codes "g")) (got signed_file ∷ got other_file ∷ [])
    ≡ prints 9 (line (codes "psbt refused other") [])
unfolding stripped compact many wide_at compact_at string_at input_at inputs_at output_at outputs_at witness_at witnesses_at plain_at
    marked_at transaction_at all_at base64_text base64_bytes psbt_of psbt_bytes records_at maps_at digits
others_are_refused = refl
