-- The partially signed transactions that `psbt` prints, read from its text, and what they are of a deal's transactions.
use Rattle.std.specs.Prelude.{ℕ, List, [], Bool, not, is_some, if◌then◌else◌, map, Option, Some, None}
use Rattle.std.specs.List.{find}
use Rattle.spec_text.specs.Lines.{lines_of}
use Rattle.spec_text.specs.Words.{◌>>=◌, all_of}
use Rattle.spec_tool.specs.declared.psbt.PsbtInput.{PsbtInput}
use Rattle.spec_tool.specs.declared.which.Which.{Which}
use Rattle.spec_tool.specs.Base64.{base64_bytes}
use Rattle.spec_tool.specs.Keyed.Listed.{same_which}
use Rattle.spec_tool.specs.Psbt.{Psbt}
use Rattle.spec_tool.specs.PsbtBytes.{psbt_of}
use Rattle.spec_deal.specs.declared.transaction.Input.{Input}
use Rattle.spec_deal.specs.declared.transaction.Transaction.{Transaction}

-- ---- reading

-- the one that a line is, by Base64 (RFC 4648) and by its maps (BIP 174)
abbrev pub psbt_said : List ℕ → Option Psbt
psbt_said line = base64_bytes line >>= psbt_of

-- those that the lines of a text are, in order
abbrev pub psbts_of : List ℕ → Option (List Psbt)
psbts_of text = all_of psbt_said (lines_of text)

-- ---- what is given to signers

-- an input with the output that it spends and without signatures; a key of the deal is told its script and to sign all, a wallet nothing
abbrev pub shown_input : Input → PsbtInput
shown_input i = record {
  spent = Some i.output;
  partial = [];
  all = not (is_some i.wallet);
  script = if is_some i.wallet then None else Some i.spent.script;
  witness = None;
}

abbrev pub shown_psbt : Transaction → Psbt
shown_psbt t = record { tx = t.tx; inputs = map shown_input t.inputs }

-- the transaction of this name
abbrev pub is_named : Which → Transaction → Bool
is_named which t = same_which t.which which

abbrev pub named : Which → List Transaction → Option Transaction
named which ts = find (is_named which) ts
