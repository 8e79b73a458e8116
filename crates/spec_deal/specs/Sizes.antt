-- The greatest sizes of the files of a deal.
use Rattle.std.specs.Prelude.{ℕ}

-- bytes of a deal file
abbrev pub most_deal_bytes : ℕ
most_deal_bytes = 8388608

-- bytes of a file of signatures
abbrev pub most_signature_bytes : ℕ
most_signature_bytes = 8388608

-- bytes of a file of secrets
abbrev pub most_secrets_bytes : ℕ
most_secrets_bytes = 1048576
