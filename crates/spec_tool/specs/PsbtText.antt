-- What the commands on partially signed transactions print.
use Rattle.std.specs.Prelude.{ℕ, ◌+◌, List, [], ◌∷◌, ◌++◌, Bool, true, false, ◌==◌, if◌then◌else◌}
use Rattle.std.specs.Prelude.{Option, Some, None, is_some, Result, Ok, Err, codes}
use Rattle.std.specs.Fmt.{decimal}
use Rattle.std.specs.List.{flat_map}
use Rattle.std.specs.Option.{option_map_or}
use Rattle.spec_terms.specs.Advert.{Advert}
use Rattle.spec_terms.specs.Paths.{at}
use Rattle.spec_bitcoin.specs.declared.label.Label.{Label}
use Rattle.spec_bitcoin.specs.declared.tx.TxOut.{TxOut}
use Rattle.spec_bitcoin.specs.Keys.{Pair, key_of, signature_of, has_signed}
use Rattle.spec_bitcoin.specs.Spelling.{stripped}
use Rattle.spec_compiler.specs.Instance.{Instance}
use Rattle.spec_compiler.specs.declared.unsigned.Spent.{Spent}
use Rattle.spec_compiler.specs.declared.unsigned.Unsigned.{Unsigned}
use Rattle.spec_compiler.specs.Transactions.{tx_of, digest_of_spent, pays}
use Rattle.spec_run.specs.declared.event.Event.{Event}
use Rattle.spec_run.specs.Setup.{Setup, contract_at}
use Rattle.spec_run.specs.World.{World}
use Rattle.spec_run.specs.Compiled.{compiled_instance}
use Rattle.spec_run.specs.Translation.{last_world}
use Rattle.spec_data.specs.Digits.{hex_text}
use Rattle.spec_text.specs.RunText.{newline}
use Rattle.spec_text.specs.Refusals.{Judged}
use Rattle.spec_tool.specs.declared.psbt.PsbtInput.{PsbtInput}
use Rattle.spec_tool.specs.declared.which.Which.{Which}
use Rattle.spec_tool.specs.declared.which.Which.TheVariants as names
use Rattle.spec_tool.specs.Reads.{Text}
use Rattle.spec_tool.specs.Commands.{Printed, prints}
use Rattle.spec_tool.specs.Base64.{base64_text, base64_bytes}
use Rattle.spec_tool.specs.Listed.{Listed, listed_at, which_text}
use Rattle.spec_tool.specs.Psbt.{Psbt, Pairing, insert_signature}
use Rattle.spec_tool.specs.PsbtBytes.{psbt_of, psbt_bytes, Discord, other_tx, conflict, combined}

-- ---- of a compiled transaction

-- the signatures of a digest by those of these keys whose pairs the book has, in ascending order of the keys
abbrev pub signatures_there : (List ℕ → List ℕ) → List Pair → List Label → List ℕ → List Pairing
signatures_there hash book [] digest = []
signatures_there hash book (label ∷ rest) digest =
    if has_signed book (key_of hash label) digest
    then insert_signature (key_of hash label, signature_of (key_of hash label) digest) (signatures_there hash book rest digest)
    else signatures_there hash book rest digest

-- an input that spends this and is to be signed by these, with the signatures that are there
abbrev pub signed_input : (List ℕ → List ℕ) → List Pair → Unsigned → Spent → List Label → PsbtInput
signed_input hash book pending spent signers = record {
  spent = Some (pays hash spent.script spent.value);
  partial = signatures_there hash book signers (digest_of_spent hash (tx_of pending) spent);
  all = true;
  script = Some spent.script;
  witness = None;
}

abbrev pub signed_inputs : (List ℕ → List ℕ) → List Pair → Unsigned → List Spent → List (List Label) → List PsbtInput
signed_inputs hash book pending [] signers = []
signed_inputs hash book pending (spent ∷ rest) [] = []
signed_inputs hash book pending (spent ∷ rest) (labels ∷ others) = signed_input hash book pending spent labels
    ∷ signed_inputs hash book pending rest others

-- a compiled transaction with the signatures that the book has for it
abbrev pub listed_psbt : (List ℕ → List ℕ) → List Pair → Listed → Psbt
listed_psbt hash book l = record { tx = tx_of l.pending; inputs = signed_inputs hash book l.pending l.pending.spends l.signers }

-- ---- base64

-- the bytes as base64, as one line
abbrev pub psbt_line : Psbt → List ℕ
psbt_line p = base64_text (psbt_bytes p) ++ newline

-- ---- one of a contract's transactions

-- whether the contract has the transaction: it has the initial one, and one for each of its paths
abbrev pub has_transaction : Option Advert → Which → Bool
has_transaction advert names.Init = true
has_transaction None (names.At path) = false
has_transaction (Some advert) (names.At path) = is_some (at advert.root path)

abbrev pub no_path_line : Which → List ℕ
no_path_line which = codes "contract 0 no path " ++ (which_text which ++ newline)

abbrev pub not_compiled_line : List ℕ
not_compiled_line = codes "contract 0 not compiled" ++ newline

abbrev pub setting_psbt : (List ℕ → List ℕ) → List Pair → Which → Option Instance → List ℕ
setting_psbt hash book which None = not_compiled_line
setting_psbt hash book which (Some instance) =
    option_map_or (λ l. psbt_line (listed_psbt hash book l)) (listed_at hash instance which) (no_path_line which)

-- a path that the contract doesn't have comes before a contract that isn't compiled
abbrev pub which_psbt : Setup → World → Which → List ℕ
which_psbt s w which =
    if has_transaction (contract_at s 0) which then setting_psbt s.hash w.book which (compiled_instance s w 0) else no_path_line which

-- what `psbt RUN CONTRACT WHICH` prints of a run that isn't halted
unfoldable pub psbt_text : Which → Setup → List Event → List ℕ
psbt_text which s es = which_psbt s (last_world s es) which

-- ---- what one of them says

-- hexadecimal digits, or `-` for no byte
abbrev pub shown_bytes : List ℕ → List ℕ
shown_bytes [] = codes "-"
shown_bytes (b ∷ bytes) = hex_text (b ∷ bytes)

-- `input k` and what is said of it
abbrev pub input_line : ℕ → List ℕ → List ℕ
input_line k said = codes "input " ++ (decimal k ++ (codes " " ++ (said ++ newline)))

abbrev pub spent_said : Option TxOut → List ℕ
spent_said None = codes "spent none"
spent_said (Some output) = codes "spent " ++ (decimal output.value ++ (codes " " ++ shown_bytes output.script))

abbrev pub signature_line : ℕ → Pairing → List ℕ
signature_line k p = input_line k (codes "signature " ++ (hex_text (p.0) ++ (codes " " ++ shown_bytes (p.1))))

abbrev pub all_line : ℕ → Bool → List ℕ
all_line k true = input_line k (codes "all")
all_line k false = []

abbrev pub script_line : ℕ → Option (List ℕ) → List ℕ
script_line k None = []
script_line k (Some script) = input_line k (codes "script " ++ shown_bytes script)

abbrev pub witness_line : ℕ → Option (List (List ℕ)) → List ℕ
witness_line k None = []
witness_line k (Some items) = input_line k (codes "witness" ++ flat_map (λ item. codes " " ++ shown_bytes item) items)

abbrev pub input_lines : ℕ → PsbtInput → List ℕ
input_lines k input =
    input_line k (spent_said input.spent)
    ++ (flat_map (signature_line k) input.partial
    ++ (all_line k input.all
    ++ (script_line k input.script
    ++ witness_line k input.witness)))

-- of each input from number k on
abbrev pub inputs_lines : ℕ → List PsbtInput → List ℕ
inputs_lines k [] = []
inputs_lines k (input ∷ inputs) = input_lines k input ++ inputs_lines (k + 1) inputs

-- what `psbt FILE` prints
abbrev pub shown_text : Psbt → List ℕ
shown_text p = codes "tx " ++ (hex_text (stripped p.tx) ++ (newline ++ inputs_lines 0 p.inputs))

-- ---- files

-- the text without a line feed at its end
abbrev pub without_feed : List ℕ → List ℕ
without_feed [] = []
without_feed (b ∷ []) = if b == 10 then [] else b ∷ []
without_feed (b ∷ (c ∷ bytes)) = b ∷ without_feed (c ∷ bytes)

abbrev pub formed : Option Psbt → Judged Psbt
formed None = Err (codes "form")
formed (Some p) = Ok p

abbrev pub decoded : Option (List ℕ) → Judged Psbt
decoded None = Err (codes "base64")
decoded (Some bytes) = formed (psbt_of bytes)

-- what a file holds, or why it is refused
abbrev pub psbt_in : Text → Judged Psbt
psbt_in None = Err (codes "size")
psbt_in (Some text) = decoded (base64_bytes (without_feed text))

-- `psbt refused` and why
abbrev pub psbt_refused : List ℕ → Printed
psbt_refused why = prints 9 (codes "psbt refused " ++ (why ++ newline))

-- the file of this number is refused
abbrev pub file_refused : ℕ → List ℕ → Printed
file_refused n why = psbt_refused (decimal n ++ (codes " " ++ why))

abbrev pub shown_judged : Judged Psbt → Printed
shown_judged (Err why) = file_refused 0 why
shown_judged (Ok p) = prints 0 (shown_text p)

-- what `psbt FILE` answers
abbrev pub shown_answer : Text → Printed
shown_answer text = shown_judged (psbt_in text)

abbrev pub discord_text : Discord → List ℕ
discord_text other_tx = codes "other"
discord_text (conflict k) = codes "conflict " ++ decimal k

-- what both say together
abbrev pub combined_answer : Result Psbt Discord → Printed
combined_answer (Err why) = psbt_refused (discord_text why)
combined_answer (Ok p) = prints 0 (shown_text p)

-- the first file's refusal comes first
abbrev pub joined_judged : Judged Psbt → Judged Psbt → Printed
joined_judged (Err why) second = file_refused 0 why
joined_judged (Ok first) (Err why) = file_refused 1 why
joined_judged (Ok first) (Ok second) = combined_answer (combined first second)

-- what `psbt FILE FILE` answers
abbrev pub joined_answer : Text → Text → Printed
joined_answer first second = joined_judged (psbt_in first) (psbt_in second)
