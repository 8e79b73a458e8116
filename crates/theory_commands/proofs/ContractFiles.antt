-- A file is taken for the contract that it spells within all limits and without fault, and is refused for what comes first.
use Rattle.std.proofs.Common.{◌≡◌, ℕ, ◌≤◌, Bool, true, false, List, length, Option, Some}
use Rattle.std.proofs.Common.{None, Ok, Err, refl, sym, ap, subst, ◌∙◌, arith}
use Rattle.std.specs.Prelude.{◌↔◌, if◌then◌else◌, nat_lt, Result}
use Rattle.std.proofs.lemmas.Bool.{ltb-false, ltb-true, true_from_ne_false, false_from_ne_true}
use Rattle.spec_terms.specs.Advert.{Advert}
use Rattle.spec_terms.specs.Faults.{first_fault, first_limit}
use Rattle.spec_terms.specs.declared.limit.Limit.{Limit}
use Rattle.spec_terms.specs.declared.place.Place.{Place}
use Rattle.spec_text.specs.declared.stop.Stop.{Stop}
use Rattle.spec_text.specs.declared.stop.Stop.TheVariants as stops
use Rattle.spec_text.specs.declared.stop.TextFault.{TextFault}
use Rattle.spec_text.specs.declared.stop.TextFault.TheVariants as faults
use Rattle.spec_text.specs.declared.token.Token.{Token}
use Rattle.spec_text.specs.Lexis.{Tokens, tokens_of}
use Rattle.spec_text.specs.Lexeme.{lexemes}
use Rattle.spec_text.specs.Limits.{most_text_bytes}
use Rattle.spec_text.specs.ReadAdvert.{advert_of_all, answer_of, answer_from, read_answer}
use Rattle.spec_text.specs.Refusals.{Judged, too_long_text, judged_limit, judged_fault, judged_answer, contract_of}
use Rattle.spec_tool.specs.Answers.{contract_in}
use Rattle.spec_tool.specs.Reads.{Text}
use Rattle.theory_text.proofs.Reader.{reader_is}
use Rattle.theory_limits.proofs.TextPlaces.{texts_are}
use Rattle.theory_commands.specs.ContractFiles.{IsReadable, IsContract, HoldsContract, Refusal, too_long, bad_byte, ended, marked, fault}
use Rattle.theory_commands.specs.ContractFiles.{exceeded, IsRefusedText, IsRefusedContract, refusal_text, ContractsAreRead}

abbrev Answer : Type 0
Answer = Result Advert TextFault

abbrev an_advert : Advert → Answer
an_advert advert = Ok advert

abbrev a_fault : TextFault → Answer
a_fault f = Err f

abbrev judged_ok : Advert → Judged Advert
judged_ok advert = Ok advert

abbrev judged_err : List ℕ → Judged Advert
judged_err why = Err why

-- ---- bytes with which no token begins

no_byte : (text : List ℕ) (tokens : List Token) (p : ℕ) (x : Result Advert Stop) → answer_of text tokens x ≡ a_fault (faults.BadByte p) → ⊥
no_byte text tokens p (Ok advert) e = cc
no_byte text tokens p (Err (stops.Syntax left)) e = cc
no_byte text tokens p (Err (stops.Limit w left)) e = cc

byte_from : (text : List ℕ) (p : ℕ) (x : Tokens) → answer_from text x ≡ a_fault (faults.BadByte p) → x ≡ Err p
byte_from text p (Err place) e = let same : place ≡ p = cc in ap (λ (q : ℕ). Err q) same
byte_from text p (Ok tokens) e = absurd (no_byte text tokens p (advert_of_all (lexemes text tokens)) e)

byte_is : (text : List ℕ) (p : ℕ) → read_answer text ≡ a_fault (faults.BadByte p) → tokens_of text ≡ Err p
unfolding read_answer
byte_is text p e = byte_from text p (tokens_of text) e

byte_only : (text : List ℕ) (p : ℕ) → tokens_of text ≡ Err p → read_answer text ≡ a_fault (faults.BadByte p)
unfolding read_answer
byte_only text p e = ap (answer_from text) e

-- ---- what is found of a text

abbrev Found : List ℕ → Judged Advert → Type 0
Found text (Ok advert) = IsContract text advert
Found text (Err why) = (r : Refusal) × IsRefusedText text r × (why ≡ refusal_text r)

module _ (text : List ℕ) where
  by_limit : (advert : Advert) → IsReadable text advert → first_fault advert ≡ None → (o : Option (Limit × Place)) → first_limit advert ≡ o
      → Found text (judged_limit advert o)
  by_limit advert read faultless None e = record { read = read; faultless = faultless; limited = e }
  by_limit advert read faultless (Some p) e = (
    exceeded (p.0) (p.1),
    record { advert = advert; read = read; claimed = record { faultless = faultless; first = e } },
    refl,
  )

  by_fault : (advert : Advert) → IsReadable text advert → (o : Option (ℕ × Place)) → first_fault advert ≡ o
      → Found text (judged_fault advert o)
  by_fault advert read None e = by_limit advert read e (first_limit advert) refl
  by_fault advert read (Some p) e = (fault (p.0) (p.1), record { advert = advert; read = read; claimed = e }, refl)

  by_answer : (x : Answer) → length text ≤ most_text_bytes → read_answer text ≡ x → Found text (judged_answer x)
  by_answer (Err (faults.BadByte p)) few e = (bad_byte p, (few, byte_is text p e), refl)
  by_answer (Err (faults.Syntax p)) few e = (ended p, (few, texts_are.syntax text p e), refl)
  by_answer (Err (faults.Limit w p)) few e = (marked w p, (few, texts_are.limit text w p e), refl)
  by_answer (Ok advert) few e =
      by_fault advert (record { few = few; spelled = reader_is.found text advert e; readable = reader_is.fits text advert e })
      (first_fault advert) refl

  by_size : (b : Bool) → nat_lt most_text_bytes (length text) ≡ b
      → Found text (if b then Err too_long_text else judged_answer (read_answer text))
  by_size true e = (too_long, ltb-true most_text_bytes (length text) e, refl)
  by_size false e = by_answer (read_answer text) (ltb-false most_text_bytes (length text) e) refl

  found : Found text (contract_of text)
  found = by_size (nat_lt most_text_bytes (length text)) refl

  -- ---- and what is found is answered

  small_is : length text ≤ most_text_bytes → contract_of text ≡ judged_answer (read_answer text)
  small_is few =
      ap (λ (b : Bool). if b then Err too_long_text else judged_answer (read_answer text))
      (false_from_ne_true (nat_lt most_text_bytes (length text)) (λ k. omega (arith, ltb-true _ _ k, few)))

  readable_is : (advert : Advert) → IsReadable text advert → contract_of text ≡ judged_fault advert (first_fault advert)
  readable_is advert r = small_is r.few ∙ ap judged_answer (reader_is.only text advert r.spelled r.readable)

  taken_is : (advert : Advert) → IsContract text advert → contract_of text ≡ judged_ok advert
  taken_is advert c =
      readable_is advert c.read ∙ ap (judged_fault advert) c.faultless ∙ ap (judged_limit advert) c.limited

  refused_is : (r : Refusal) → IsRefusedText text r → contract_of text ≡ judged_err (refusal_text r)
  refused_is too_long long =
      ap (λ (b : Bool). if b then Err too_long_text else judged_answer (read_answer text))
      (true_from_ne_false (nat_lt most_text_bytes (length text)) (λ k. omega (arith, ltb-false _ _ k, long)))
  refused_is (bad_byte p) h = small_is h.0 ∙ ap judged_answer (byte_only text p h.1)
  refused_is (ended p) h = small_is h.0 ∙ ap judged_answer (texts_are.syntax_only text p h.1)
  refused_is (marked w p) h = small_is h.0 ∙ ap judged_answer (texts_are.limit_only text w p h.1)
  refused_is (fault n p) h = readable_is h.advert h.read ∙ ap (judged_fault h.advert) h.claimed
  refused_is (exceeded w p) h =
      readable_is h.advert h.read ∙ ap (judged_fault h.advert) h.claimed.faultless ∙ ap (judged_limit h.advert) h.claimed.first

-- ---- files

read_file : (text : Text) (advert : Advert) → (contract_in text ≡ Ok advert) ↔ HoldsContract text advert
read_file None advert = (λ e. absurd (cc), λ f. absurd f)
read_file (Some text) advert = (λ e. subst (Found text) e (found text), λ f. taken_is text advert f)

refused_none : (r : Refusal) → IsRefusedContract None r → too_long_text ≡ refusal_text r
refused_none too_long h = refl
refused_none (bad_byte p) h = absurd h
refused_none (ended p) h = absurd h
refused_none (marked w p) h = absurd h
refused_none (fault n p) h = absurd h
refused_none (exceeded w p) h = absurd h

refused_file : (text : Text) (why : List ℕ)
    → (contract_in text ≡ Err why) ↔ ((r : Refusal) × IsRefusedContract text r × (why ≡ refusal_text r))
refused_file None why = (
  λ e. (too_long, tt, let same : too_long_text ≡ why = cc in sym same),
  λ f. ap judged_err (refused_none (f.0) (f.1) ∙ sym (f.2)),
)
refused_file (Some text) why = (
  λ e. subst (Found text) e (found text),
  λ f. refused_is text (f.0) (f.1) ∙ ap judged_err (sym (f.2)),
)

pub contracts_read : ContractsAreRead
contracts_read = record { read = read_file; refused = refused_file }
