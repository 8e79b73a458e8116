-- Transactions that signers can be given.
use Rattle.std.specs.Prelude.{length, Bool, ◌&&◌, ◌==◌}
use Rattle.spec_tool.specs.Psbt.{is_unsigned}
use Rattle.spec_deal.specs.declared.transaction.Transaction.{Transaction}

-- it has inputs, none with a script or a witness, and of each of them all is known
abbrev pub is_signable : Transaction → Bool
is_signable t = is_unsigned t.tx && (length t.inputs == length t.tx.inputs)
