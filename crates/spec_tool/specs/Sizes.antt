-- The greatest sizes of the files of the further commands.
use Rattle.std.specs.Prelude.{ℕ}

-- bytes of a file with a partially signed transaction
abbrev pub most_psbt_bytes : ℕ
most_psbt_bytes = 8388608

-- bytes of a file with transactions to audit
abbrev pub most_audit_bytes : ℕ
most_audit_bytes = 8388608

-- bytes of a strategy file
abbrev pub most_strategy_bytes : ℕ
most_strategy_bytes = 1048576

-- rules of a strategy
abbrev pub most_rules : ℕ
most_rules = 256

-- the bytes that the line of a rule's event may have, with its end
abbrev pub rule_line_bytes : ℕ
rule_line_bytes = 128
