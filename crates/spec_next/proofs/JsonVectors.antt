-- Test vectors of what comes next as JSON.
use Rattle.spec_terms.specs.Readable.{is_name}
use Rattle.std.proofs.Common.{◌≡◌, [], ◌∷◌, refl, Some, None}
use Rattle.std.specs.Prelude.{codes, ◌++◌, true}
use Rattle.std.specs.Str.Lossy.{utf8_lossy, utf8_valid_len}
use Rattle.std.specs.Str.{is_utf8, chars}
use Rattle.json.specs.Print.{escape_byte}
use Rattle.serde_json.specs.Written.{compact_text}
use Rattle.spec_json.specs.Values.{text_value}
use Rattle.spec_terms.specs.declared.path.PathStep.TheVariants.{Branch as To, Part as Into}
use Rattle.spec_bitcoin.specs.declared.verdict.Refusal.TheVariants as refusals
use Rattle.spec_run.specs.declared.event.Event.TheVariants as events
use Rattle.spec_run.specs.declared.outcome.Reason.TheVariants as reason
use Rattle.spec_next.specs.declared.lead.Made.TheVariants as makes
use Rattle.spec_next.specs.declared.outlook.Ruling.TheVariants as rulings
use Rattle.std.specs.Fmt.{digits}
use Rattle.spec_bitcoin.specs.Keys.{label_text}
use Rattle.spec_bitcoin.specs.Digests.{places_list, sequences_list, outputs_list, preimage}
use Rattle.spec_bitcoin.specs.Spelling.{stripped, marked, compact}
use Rattle.spec_bitcoin.specs.Meaning.{script_meaning}
use Rattle.spec_bitcoin.specs.Numbers.{number_of_item, signed_bytes, item_of_number}
use Rattle.spec_bitcoin.specs.Scripts.{ops_of}
use Rattle.spec_compiler.specs.Keyed.Instance.{position_script}
use Rattle.spec_text.specs.Lexis.{word_prefix, number_prefix, symbol_prefix}
use Rattle.spec_text.specs.ReadAdvert.{read_answer as read_contract, advert_of_all, advert_at, entries_at, entry_at, head_at, deposit_at}
use Rattle.spec_text.specs.ReadAdvert.{secret_at, fee_at}
use Rattle.spec_text.specs.ReadContract.{withdraw_at, condition_at, reveals_at, puts_at, put_reveals_at, headed_at, one_branch_at}
use Rattle.spec_text.specs.ReadContract.{branches_at, choice_with, parts_at, auth_at, after_at, put_at, reveal_at, split_at, branch_at}
use Rattle.spec_text.specs.ReadTest.{constant_at, length_at, formula_at, comparison_at, test_at}
use Rattle.spec_text.specs.Reading.{names_from}
use Rattle.spec_text.specs.Played.{play_text}
use Rattle.spec_tool.specs.Reads.{got}
use Rattle.spec_tool.specs.Commands.{prints}
use Rattle.spec_tool.proofs.HashVectors.{small_hash}
use Rattle.spec_next.specs.declared.requirement.Requirement.TheVariants as requirements
use Rattle.spec_next.specs.declared.form.Form.TheVariants as forms
use Rattle.spec_next.specs.Forms.{next_text}
use Rattle.spec_next.specs.Foreseen.{next_printed}
use Rattle.spec_next.specs.NextAnswer.{continues, next_answer}
use Rattle.spec_next.specs.JsonForm.{told_event}
use Rattle.spec_next.proofs.RunVectors.{escrow, escrow_poor, lone, lone_run}

-- ---- parts

-- a text is escaped
pub text_is_escaped : compact_text (text_value (codes "ab\"c")) ≡ codes "\"ab\\\"c\""
unfolding utf8_lossy utf8_valid_len is_utf8 chars escape_byte digits lib.Utf8.encode
text_is_escaped = refl

-- an authorisation that never comes, of a branch that makes two contracts
pub never_authorised : compact_text
    (told_event 2 (events.Authorise (codes "A") 7 1) (rulings.Cannot (reason.Ledger refusals.NotFinal)) true
    (requirements.Posted (codes "B") (codes "a") ∷ requirements.NobodyHonest ∷ [])
    (Some (record { path = To 1 ∷ []; made = makes.Led (To 1 ∷ Into 0 ∷ []) 3 ∷ makes.Led (To 1 ∷ Into 1 ∷ []) 4 ∷ [] })))
    ≡ codes "{\"contract\":2,\"kind\":\"authorise\",\"line\":\"authorise A #7 1\",\"makes\":[{\"path\":\"r.1/0\",\"value\":3},{\"path\":\"r.1/1\""
    ++ (codes ",\"value\":4}],\"missing\":[{\"line\":\"needs secret a of B by post\",\"party\":\"B\"},{\"line\":\"never: nobody honest\",\"par"
    ++ (codes "ty\":null}],\"output\":7,\"party\":\"A\",\"path\":\"r.1\",\"reason\":\"NotFinal\",\"status\":\"never\"}"))
unfolding utf8_lossy utf8_valid_len is_utf8 chars escape_byte digits lib.Utf8.encode
never_authorised = refl

-- ---- runs

-- a deposit of one party, and nobody who could give what is missing
pub deposit_is_missing : next_answer small_hash (Some (continues forms.Json None (codes "r") (codes "c" ∷ []))) (got escrow_poor ∷ got escrow ∷ [])
    ≡ prints 0 (codes "{\"events\":[{\"contract\":0,\"kind\":\"advertise\",\"line\":\"advertise 0 x=#0\",\"makes\":[],\"missing\":[{\"line\":\"needs dep"
    ++ (codes "osit y\",\"party\":null}],\"output\":null,\"party\":null,\"path\":null,\"reason\":\"WrongNames\",\"status\":\"later\"}],\"height"
    ++ (codes "\":0,\"outputs\":[{\"number\":0,\"party\":\"A\",\"value\":3}],\"waits\":[{\"contract\":0,\"parties\":[]}]}" ++ 10 ∷ [])))
unfolding is_name word_prefix number_prefix symbol_prefix read_contract advert_of_all advert_at entries_at entry_at head_at deposit_at
    secret_at
    fee_at choice_with branches_at branch_at parts_at auth_at after_at put_at reveal_at split_at reveals_at puts_at put_reveals_at
    headed_at one_branch_at condition_at names_from test_at comparison_at formula_at constant_at length_at withdraw_at digits label_text
    stripped marked compact places_list sequences_list outputs_list preimage position_script script_meaning ops_of number_of_item
    signed_bytes item_of_number play_text next_text next_printed
    escape_byte utf8_lossy utf8_valid_len is_utf8 chars lib.Utf8.encode
deposit_is_missing = refl

-- a branch that can be taken, and a contract that finds no deposit
pub branch_can_be_taken : next_answer small_hash (Some (continues forms.Json None (codes "r") (codes "c" ∷ codes "d" ∷ [])))
    (got lone_run ∷ got lone ∷ got lone ∷ [])
    ≡ prints 0 (codes "{\"events\":[{\"contract\":0,\"kind\":\"fire\",\"line\":\"fire #1 0\",\"makes\":[{\"party\":\"A\",\"value\":5}],\"missing\":[],\"outp"
    ++ (codes "ut\":1,\"party\":null,\"path\":\"r.0\",\"reason\":null,\"status\":\"now\"},{\"contract\":1,\"kind\":\"advertise\",\"line\":\"adverti"
    ++ (codes "se 1\",\"makes\":[],\"missing\":[{\"line\":\"needs deposit x\",\"party\":null}],\"output\":null,\"party\":null,\"path\":null,\"r"
    ++ (codes "eason\":\"WrongNames\",\"status\":\"later\"}],\"height\":0,\"outputs\":[{\"contract\":0,\"number\":1,\"path\":\"r\",\"value\":5}],\""
    ++ (codes "waits\":[{\"contract\":0,\"parties\":[]},{\"contract\":1,\"parties\":[]}]}" ++ 10 ∷ [])))))
unfolding is_name word_prefix number_prefix symbol_prefix read_contract advert_of_all advert_at entries_at entry_at head_at deposit_at
    secret_at
    fee_at choice_with branches_at branch_at parts_at auth_at after_at put_at reveal_at split_at reveals_at puts_at put_reveals_at
    headed_at one_branch_at condition_at names_from test_at comparison_at formula_at constant_at length_at withdraw_at digits label_text
    stripped marked compact places_list sequences_list outputs_list preimage position_script script_meaning ops_of number_of_item
    signed_bytes item_of_number play_text next_text next_printed
    escape_byte utf8_lossy utf8_valid_len is_utf8 chars lib.Utf8.encode
branch_can_be_taken = refl
