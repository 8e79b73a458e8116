-- A file is taken for the partially signed transaction that the bytes of its base64 spell, and is refused where there is none.
use Rattle.std.proofs.Common.{◌≡◌, ℕ, List, Option, Some, None, Ok, Err, refl, sym, ap, subst, ◌∙◌}
use Rattle.std.specs.Prelude.{◌↔◌, codes}
use Rattle.spec_bitcoin.specs.Spelling.{IsBytes}
use Rattle.spec_text.specs.Refusals.{Judged}
use Rattle.spec_tool.specs.Base64.{base64_bytes}
use Rattle.spec_tool.specs.Psbt.{Psbt, Spells}
use Rattle.spec_tool.specs.PsbtBytes.{psbt_of}
use Rattle.spec_tool.specs.PsbtText.{without_feed, formed, decoded, psbt_in}
use Rattle.spec_tool.specs.Reads.{Text}
use Rattle.theory_text.proofs.Options.{none_some}
use Rattle.theory_psbt.proofs.Reading.{spelled_is_read, read_is_spelled}
use Rattle.theory_psbt.proofs.Base64ReadBack.{text_reads}
use Rattle.theory_psbt.proofs.Base64OnlyWritten.{bytes_only}
use Rattle.theory_commands.specs.PsbtFiles.{IsCoded, IsPsbtFile, HoldsPsbt, PsbtRefusal, too_long, uncoded, unspelled, IsRefusedPsbt}
use Rattle.theory_commands.specs.PsbtFiles.{psbt_refusal_text, PsbtFilesAreRead}

abbrev judged_ok : Psbt → Judged Psbt
judged_ok p = Ok p

abbrev judged_err : List ℕ → Judged Psbt
judged_err why = Err why

-- what is read of a text is what it is the base64 of
coded_read : (text bytes : List ℕ) → IsCoded text bytes → base64_bytes (without_feed text) ≡ Some bytes
coded_read text bytes c = ap base64_bytes c.same ∙ text_reads bytes c.each

coded_is : (text bytes : List ℕ) → base64_bytes (without_feed text) ≡ Some bytes → IsCoded text bytes
coded_is text bytes e =
    let is = bytes_only (without_feed text) bytes e in
    record { each = is.each; same = is.same }

-- ---- what is found of a text

abbrev Found : List ℕ → Judged Psbt → Type 0
Found text (Ok p) = IsPsbtFile text p
Found text (Err why) = (r : PsbtRefusal) × IsRefusedPsbt (Some text) r × (why ≡ psbt_refusal_text r)

module _ (text : List ℕ) where
  by_form : (bytes : List ℕ) → IsCoded text bytes → (o : Option Psbt) → psbt_of bytes ≡ o → Found text (formed o)
  by_form bytes c None e = (unspelled, (bytes, c, λ p s. none_some p (sym e ∙ spelled_is_read bytes p s)), refl)
  by_form bytes c (Some p) e = record { bytes = bytes; coded = c; spelled = read_is_spelled bytes p c.each e }

  by_code : (o : Option (List ℕ)) → base64_bytes (without_feed text) ≡ o → Found text (decoded o)
  by_code None e = (uncoded, (λ bytes c. none_some bytes (sym e ∙ coded_read text bytes c)), refl)
  by_code (Some bytes) e = by_form bytes (coded_is text bytes e) (psbt_of bytes) refl

  found : Found text (psbt_in (Some text))
  found = by_code (base64_bytes (without_feed text)) refl

  -- ---- and what is found is answered

  taken_is : (p : Psbt) → IsPsbtFile text p → psbt_in (Some text) ≡ judged_ok p
  taken_is p f = ap decoded (coded_read text f.bytes f.coded) ∙ ap formed (spelled_is_read f.bytes p f.spelled)

  -- of one reason alone
  no_code : (o : Option (List ℕ)) → base64_bytes (without_feed text) ≡ o → ((bytes : List ℕ) → IsCoded text bytes → ⊥)
      → decoded o ≡ judged_err (codes "base64")
  no_code None e h = refl
  no_code (Some bytes) e h = absurd (h bytes (coded_is text bytes e))

  no_form : (bytes : List ℕ) → IsBytes bytes → (o : Option Psbt) → psbt_of bytes ≡ o → ((p : Psbt) → Spells bytes p → ⊥)
      → formed o ≡ judged_err (codes "form")
  no_form bytes each None e h = refl
  no_form bytes each (Some p) e h = absurd (h p (read_is_spelled bytes p each e))

  refused_is : (r : PsbtRefusal) → IsRefusedPsbt (Some text) r → psbt_in (Some text) ≡ judged_err (psbt_refusal_text r)
  refused_is too_long h = absurd h
  refused_is uncoded h = no_code (base64_bytes (without_feed text)) refl h
  refused_is unspelled h =
      ap decoded (coded_read text (h.0) (h.1)) ∙ no_form (h.0) (h.1.each) (psbt_of (h.0)) refl (h.2)

-- ---- files

read_file : (text : Text) (p : Psbt) → (psbt_in text ≡ Ok p) ↔ HoldsPsbt text p
read_file None p = (λ e. absurd (cc), λ f. absurd f)
read_file (Some text) p = (λ e. subst (Found text) e (found text), λ f. taken_is text p f)

refused_none : (r : PsbtRefusal) → IsRefusedPsbt None r → codes "size" ≡ psbt_refusal_text r
refused_none too_long h = refl
refused_none uncoded h = absurd h
refused_none unspelled h = absurd h

refused_file : (text : Text) (why : List ℕ)
    → (psbt_in text ≡ Err why) ↔ ((r : PsbtRefusal) × IsRefusedPsbt text r × (why ≡ psbt_refusal_text r))
refused_file None why = (
  λ e. (too_long, tt, let same : codes "size" ≡ why = cc in sym same),
  λ f. ap judged_err (refused_none (f.0) (f.1) ∙ sym (f.2)),
)
refused_file (Some text) why = (
  λ e. subst (Found text) e (found text),
  λ f. refused_is text (f.0) (f.1) ∙ ap judged_err (sym (f.2)),
)

pub psbt_files_read : PsbtFilesAreRead
psbt_files_read = record { read = read_file; refused = refused_file }
