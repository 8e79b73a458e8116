-- Test vectors of signatures that are there and missing, each by computation alone: with the keys of no wallet, and a hash that is
-- quick to compute.
use Rattle.std.proofs.Common.{◌≡◌, ℕ, List, [], ◌∷◌, ◌++◌, refl}
use Rattle.std.specs.Prelude.{codes, map, filter, replicate, Bool, not, ◌&&◌, ◌==◌, Option, Some, None, Ok, Err}
use Rattle.std.specs.Fmt.{digits}
use Rattle.std.specs.Str.{bytes_eq}
use Rattle.spec_terms.specs.Advert.{Advert}
use Rattle.spec_bitcoin.specs.Keys.{label_text}
use Rattle.spec_bitcoin.specs.Numbers.{item_of_number, signed_bytes}
use Rattle.spec_bitcoin.specs.Spelling.{stripped, compact}
use Rattle.spec_compiler.specs.Keyed.OwnScripts.{no_scripts}
use Rattle.spec_compiler.specs.Keyed.Keys.{Keys, given}
use Rattle.spec_compiler.specs.Keyed.Instance.{Instance, position_script}
use Rattle.spec_tool.specs.declared.which.Which.TheVariants as names
use Rattle.spec_bitcoin.specs.Reading.{many, wide_at, compact_at, string_at, input_at, inputs_at, output_at, outputs_at, witness_at}
use Rattle.spec_bitcoin.specs.Reading.{witnesses_at, plain_at, marked_at, transaction_at, all_at}
use Rattle.spec_tool.specs.Base64.{base64_text, base64_bytes}
use Rattle.spec_tool.specs.PsbtBytes.{psbt_of, psbt_bytes, records_at, maps_at}
use Rattle.spec_tool.specs.PsbtText.{psbt_line}
use Rattle.spec_tool.specs.Keyed.Listed.{which_text, listed_at}
use Rattle.spec_deal.specs.declared.signed.Signed.{Signed}
use Rattle.spec_deal.specs.declared.finish.FinishRefusal.{FinishRefusal}
use Rattle.spec_deal.specs.DealText.{missing_text, unsigned_psbt}
use Rattle.spec_deal.specs.Finished.{finish_refusal}
use Rattle.spec_deal.specs.Given.{endorsements}
use Rattle.spec_deal.specs.declared.entry.Shown.{Shown}
use Rattle.spec_terms.specs.declared.path.PathStep.TheVariants.{Branch as To}
use Rattle.spec_deal.specs.RefusedText.{finish_refused_line, signatures_refused_line}
use Rattle.spec_deal.specs.SignatureFile.{read_signatures}
use Rattle.spec_deal.specs.Verifier.{accepting}
use Rattle.spec_deal.specs.Slots.{Slot, slots, slot_bytes, slot_key}
use Rattle.spec_deal.proofs.FileVectors.{line, weigh, bet, twin, put, pair, a, x, y, z}

-- each label has another key
abbrev pub keys : Keys
keys = given (λ label. 2 ∷ weigh (label_text label)) no_scripts

abbrev pub setting : Advert → Instance
setting advert = record {
  contract = 0;
  advert = advert;
  bound =
      (x, record { txid = replicate 32 7; vout = 0 }) ∷ (y, record { txid = replicate 32 7; vout = 1 })
      ∷ (z, record { txid = replicate 32 7; vout = 2 }) ∷ [];
  hashes = (a, replicate 32 1) ∷ (codes "b", replicate 32 2) ∷ [];
}

-- what is printed where these signatures are given
abbrev pub told : Advert → List Signed → List ℕ
told advert signed = missing_text weigh keys (setting advert) signed

-- a signature for each
abbrev pub sign : List Slot → List Signed
sign required =
    map (λ slot. record { tx = slot_bytes slot; input = slot.input; key = slot_key weigh keys slot; signature = replicate 16 5; witness = [] }) required

-- whether it is by the key of this label, for the transaction of this name
abbrev pub is_this : List ℕ → List ℕ → Slot → Bool
is_this which label slot = bytes_eq (which_text slot.which) which && bytes_eq (label_text slot.label) label

-- that signature
abbrev pub by : Advert → List ℕ → List ℕ → List Signed
by advert which label = sign (filter (is_this which label) (slots weigh keys (setting advert)))

abbrev pub endorsed : Advert → List Signed
endorsed advert = sign (endorsements weigh keys (setting advert))

-- ---- missing

pub nothing_signed : told bet []
    ≡
    line (codes "missing init 0 D:A init") (
    line (codes "missing init 1 D:B init") (
    line (codes "missing r.0 0 B:0:r.0:A endorse") (
    line (codes "missing r.0 0 B:0:r.0:B endorse") (
    line (codes "missing r.0.0 0 B:0:r.0.0:A endorse") (
    line (codes "missing r.0.0 0 B:0:r.0.0:B endorse") (
    line (codes "missing r.1 0 B:0:r.1:A endorse") (
    line (codes "missing r.1 0 B:0:r.1:B authorise") (
    line (codes "init not endorsed r.0 A") ([])))))))))
unfolding digits label_text stripped compact position_script item_of_number signed_bytes
nothing_signed = refl

pub all_endorsed : told bet (endorsed bet)
    ≡
    line (codes "missing init 0 D:A init") (
    line (codes "missing init 1 D:B init") (
    line (codes "missing r.1 0 B:0:r.1:B authorise") (
    line (codes "init may be signed") ([]))))
unfolding digits label_text stripped compact position_script item_of_number signed_bytes
all_endorsed = refl

pub one_endorsement_short : told bet
    (sign (filter (λ slot. not (is_this (codes "r.0.0") (codes "B:0:r.0.0:B") slot)) (endorsements weigh keys (setting bet))))
    ≡
    line (codes "missing init 0 D:A init") (
    line (codes "missing init 1 D:B init") (
    line (codes "missing r.0.0 0 B:0:r.0.0:B endorse") (
    line (codes "missing r.1 0 B:0:r.1:B authorise") (
    line (codes "init not endorsed r.0.0 B") ([])))))
unfolding digits label_text stripped compact position_script item_of_number signed_bytes
one_endorsement_short = refl

pub one_transaction_for_two_paths : told twin (by twin (codes "r.0") (codes "B:0:r.0:B") ++ by twin (codes "r.1") (codes "B:0:r.1:A"))
    ≡
    line (codes "missing init 0 D:A init") (
    line (codes "missing init 1 D:B init") (
    line (codes "missing r.0 0 B:0:r.0:A authorise") (
    line (codes "missing r.1 0 B:0:r.1:B authorise") (
    line (codes "init may be signed") ([])))))
unfolding digits label_text stripped compact position_script item_of_number signed_bytes
one_transaction_for_two_paths = refl

pub endorsed_for_one_path_alone : told twin (by twin (codes "r.0") (codes "B:0:r.0:B"))
    ≡
    line (codes "missing init 0 D:A init") (
    line (codes "missing init 1 D:B init") (
    line (codes "missing r.0 0 B:0:r.0:A authorise") (
    line (codes "missing r.1 0 B:0:r.1:A endorse") (
    line (codes "missing r.1 0 B:0:r.1:B authorise") (
    line (codes "init not endorsed r.1 A") ([]))))))
unfolding digits label_text stripped compact position_script item_of_number signed_bytes
endorsed_for_one_path_alone = refl

pub put_not_endorsed : told put (sign (filter (λ slot. slot.input == 0) (endorsements weigh keys (setting put))))
    ≡
    line (codes "missing init 0 D:A init") (
    line (codes "missing init 1 D:B init") (
    line (codes "missing r.0 1 D:B endorse") (
    line (codes "init not endorsed r.0 B") ([]))))
unfolding digits label_text stripped compact position_script item_of_number signed_bytes
put_not_endorsed = refl

pub put_not_signed : told put []
    ≡
    line (codes "missing init 0 D:A init") (
    line (codes "missing init 1 D:B init") (
    line (codes "missing r.0 0 B:0:r.0:A endorse") (
    line (codes "missing r.0 0 B:0:r.0:B endorse") (
    line (codes "missing r.0 1 D:B endorse") (
    line (codes "missing r.0.0 0 B:0:r.0.0:A endorse") (
    line (codes "missing r.0.0 0 B:0:r.0.0:B endorse") (
    line (codes "missing r.1 0 B:0:r.1:A endorse") (
    line (codes "missing r.1 0 B:0:r.1:B endorse") (
    line (codes "init not endorsed r.0 A") ([]))))))))))
unfolding digits label_text stripped compact position_script item_of_number signed_bytes
put_not_signed = refl

pub asked_owner_of_a_put : told pair []
    ≡
    line (codes "missing init 0 D:A init") (
    line (codes "missing init 1 D:B init") (
    line (codes "missing r.0 0 B:0:r.0:A endorse") (
    line (codes "missing r.0 0 B:0:r.0:B authorise") (
    line (codes "missing r.0 1 D:B endorse") (
    line (codes "missing r.0.0 0 B:0:r.0.0:A endorse") (
    line (codes "missing r.0.0 0 B:0:r.0.0:B endorse") (
    line (codes "missing r.1 0 B:0:r.1:A endorse") (
    line (codes "missing r.1 0 B:0:r.1:B endorse") (
    line (codes "init not endorsed r.0 A") ([]))))))))))
unfolding digits label_text stripped compact position_script item_of_number signed_bytes
asked_owner_of_a_put = refl

-- ---- finish

abbrev pub refusal_line : Option FinishRefusal → List ℕ
refusal_line None = []
refusal_line (Some refusal) = finish_refused_line refusal

-- why the initial transaction of bet isn't finished
abbrev pub init_refusal : List Signed → List ℕ
init_refusal signed = elim (listed_at weigh keys (setting bet) names.Init) [
  | None ↦ []
  | Some l ↦ refusal_line (finish_refusal weigh keys (setting bet) signed [] l)
]

-- why the transaction of its first branch isn't finished, with all signatures and these strings
abbrev pub reveal_refusal : List Shown → List ℕ
reveal_refusal strings = elim (listed_at weigh keys (setting bet) (names.At (To 0 ∷ []))) [
  | None ↦ []
  | Some l ↦ refusal_line (finish_refusal weigh keys (setting bet) (sign (slots weigh keys (setting bet))) strings l)
]

-- a secret of so many bytes
abbrev pub secret_of : ℕ → List Shown
secret_of n = record { line = 1; name = a; bytes = replicate n 3 } ∷ []

pub no_secret : reveal_refusal []
    ≡
    line (codes "refused secret a") ([])
unfolding digits label_text stripped compact position_script item_of_number signed_bytes
no_secret = refl

pub predicate_false : reveal_refusal (secret_of 19)
    ≡
    line (codes "refused predicate") ([])
unfolding digits label_text stripped compact position_script item_of_number signed_bytes
predicate_false = refl

pub predicate_true : reveal_refusal (secret_of 18)
    ≡
    []
unfolding digits label_text stripped compact position_script item_of_number signed_bytes
predicate_true = refl

pub init_before_endorsements : init_refusal (by bet (codes "init") (codes "D:A") ++ by bet (codes "init") (codes "D:B"))
    ≡
    line (codes "refused endorsement r.0 A") ([])
unfolding digits label_text stripped compact position_script item_of_number signed_bytes
init_before_endorsements = refl

pub init_before_the_other : init_refusal (endorsed bet ++ by bet (codes "init") (codes "D:A"))
    ≡
    line (codes "refused signature 1 D:B") ([])
unfolding digits label_text stripped compact position_script item_of_number signed_bytes
init_before_the_other = refl

-- ---- files

-- why a file of signatures of bet is refused
abbrev pub file_refusal : List ℕ → List ℕ
file_refusal text = elim (read_signatures accepting weigh keys (setting bet) text) [
  | Ok signed ↦ []
  | Err fault ↦ signatures_refused_line fault
]

pub two_words_on_a_line : file_refusal (line [] (line (codes "cHNidP8= cHNidP8=") []))
    ≡
    line (codes "signatures refused line 2 base64") ([])
unfolding digits label_text stripped compact position_script item_of_number signed_bytes base64_bytes
two_words_on_a_line = refl

pub cut_short : file_refusal (codes "cHNidP8")
    ≡
    line (codes "signatures refused line 1 base64") ([])
unfolding digits label_text stripped compact position_script item_of_number signed_bytes base64_bytes
cut_short = refl

pub empty_file : read_signatures accepting weigh keys (setting bet) []
    ≡
    Ok []
unfolding digits label_text stripped compact position_script item_of_number signed_bytes base64_bytes
empty_file = refl

-- a transaction for signers gives nothing, and is refused by another deal
abbrev pub one_line : Advert → List ℕ
one_line advert = elim (listed_at weigh keys (setting advert) names.Init) [
  | None ↦ []
  | Some l ↦ psbt_line (unsigned_psbt weigh keys advert l)
]

pub prefix_alone : file_refusal (codes "cHNidP8=")
    ≡
    line (codes "signatures refused line 1 form") ([])
unfolding digits label_text stripped compact position_script item_of_number signed_bytes base64_bytes
    base64_text psbt_of psbt_bytes records_at maps_at many wide_at compact_at string_at input_at inputs_at output_at
    outputs_at witness_at witnesses_at plain_at marked_at transaction_at all_at
prefix_alone = refl

pub nothing_in_it : read_signatures accepting weigh keys (setting twin) (one_line twin)
    ≡
    Ok []
unfolding digits label_text stripped compact position_script item_of_number signed_bytes base64_bytes
    base64_text psbt_of psbt_bytes records_at maps_at many wide_at compact_at string_at input_at inputs_at output_at
    outputs_at witness_at witnesses_at plain_at marked_at transaction_at all_at
nothing_in_it = refl

pub of_another_deal : file_refusal (one_line twin)
    ≡
    line (codes "signatures refused line 1 foreign") ([])
unfolding digits label_text stripped compact position_script item_of_number signed_bytes base64_bytes
    base64_text psbt_of psbt_bytes records_at maps_at many wide_at compact_at string_at input_at inputs_at output_at
    outputs_at witness_at witnesses_at plain_at marked_at transaction_at all_at
of_another_deal = refl
