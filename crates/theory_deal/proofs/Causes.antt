-- Each status of the program for deals comes by its cause.
use Rattle.std.proofs.Common.{◌≡◌, ℕ, ◌↔◌, true, List, [], ◌∷◌, Option, Some, None, refl, subst, arith, ◌∙◌}
use Rattle.std.specs.Prelude.{Result, Ok, Err, is_err, is_some, ◌==◌, ◌&&◌, ◌||◌, if◌then◌else◌}
use Rattle.std.specs.Option.{is_none}
use Rattle.std.proofs.Common.{sym}
use Rattle.std.specs.Prelude.{Bool, false}
use Rattle.std.proofs.lemmas.Bool.{false≢true, or_right}
use Rattle.spec_data.specs.Lists.{has_number}
use Rattle.spec_data.specs.Messages.{collision}
use Rattle.spec_terms.specs.Advert.{Advert}
use Rattle.spec_compiler.specs.Keyed.Keys.{Keys}
use Rattle.spec_compiler.specs.Keyed.Instance.{Instance}
use Rattle.spec_text.specs.Refusals.{Judged}
use Rattle.spec_tool.specs.declared.which.Which.{Which}
use Rattle.spec_tool.specs.Answers.{contract_in}
use Rattle.spec_tool.specs.Commands.{Printed, prints}
use Rattle.spec_tool.specs.PsbtText.{psbt_line}
use Rattle.spec_deal.specs.DealText.{keys_text, plan_text, psbts_text, unsigned_psbt, missing_text, held_text}
use Rattle.spec_tool.specs.Keyed.Listed.{Listed, listed_at}
use Rattle.spec_tool.specs.Reads.{Read, Text, text_at, texts_read}
use Rattle.spec_deal.specs.declared.deal.Deal.{Deal}
use Rattle.spec_deal.specs.declared.signed.Signed.{Signed}
use Rattle.spec_deal.specs.declared.fault.DealFault.{DealFault}
use Rattle.spec_deal.specs.declared.fault.SignatureFault.{SignatureFault}
use Rattle.spec_deal.specs.declared.finish.FinishRefusal.{FinishRefusal}
use Rattle.spec_deal.specs.Answers.{with_advert, circular, unless_circular, unless_collided, with_deal, deal_in, of_deal, if_there}
use Rattle.spec_deal.specs.Answers.{with_shown_deal, of_shown_deal, part_in, fund_answer, of_secrets, offered_in, hashes_answer}
use Rattle.spec_deal.specs.Answers.{ready_answer, ready_with_answer, of_transaction, of_signatures, with_signatures, signatures_in}
use Rattle.spec_deal.specs.Answers.{with_secrets, secrets_in, unless_refused, finished_answer}
use Rattle.spec_deal.specs.Answers.{finish_answer, finish_with_answer, deal_text_answer, deal_read_answer, deal_answer}
use Rattle.spec_deal.specs.Commands as commands
use Rattle.spec_deal.specs.Commands.{DealCommand}
use Rattle.spec_deal.specs.Finished.{finished, finish_refusal}
use Rattle.spec_bitcoin.specs.Spelling.{spelling}
use Rattle.spec_deal.specs.Hashed.{deal_strings}
use Rattle.spec_deal.specs.FundText.{fund_strings, fund_text}
use Rattle.spec_deal.specs.HashesText.{hashes_text}
use Rattle.spec_deal.specs.ReadyText.{is_ready, ready_text, endorse_text}
use Rattle.spec_deal.specs.WarnText.{warn_text}
use Rattle.spec_deal.specs.declared.entry.Entry.{Entry}
use Rattle.spec_deal.specs.declared.entry.Shown.{Shown}
use Rattle.spec_deal.specs.SecretFile.{SecretsRead, shows, refused, collided}
use Rattle.spec_deal.specs.Setting.{deal_keys, deal_instance}
use Rattle.spec_deal.specs.Verifier.{Verifier}
use Rattle.theory_deal.proofs.InOrder.{in_order}
use Rattle.theory_deal.specs.Causes.{deal_statuses, reads_deal, reads_part, is_refused, is_deal_refused, is_part_refused, DealCausesTheorem}

-- what is answered of a deal that is taken: no status but these
abbrev after_deal : List ℕ
after_deal = 0 ∷ 8 ∷ 14 ∷ 15 ∷ 16 ∷ []

abbrev IsLater : Printed → Type 0
IsLater printed = has_number printed.status after_deal ≡ true

-- an answer that begins with the deal
record OfDeal (printed : Printed) (is_bad : Bool) : Type 0 where
  thirteen : (printed.status ≡ 13) ↔ (is_bad ≡ true)
  any : has_number printed.status (13 ∷ after_deal) ≡ true

taken_deal : (printed : Printed) → IsLater printed → OfDeal printed false
taken_deal printed h = record {
  thirteen = (
    λ e. absurd (false≢true (subst (λ (n : ℕ). has_number n after_deal ≡ true) e h)),
    λ e. absurd (false≢true e),
  );
  any = or_right (13 == printed.status) (has_number printed.status after_deal) h;
}

abbrev IsAny : Printed → Type 0
IsAny printed = has_number printed.status deal_statuses ≡ true

-- ---- answers

signatures_later : (answer : List Signed → Printed) (r : Result (List Signed) SignatureFault) → ((given : List Signed)
    → IsLater (answer given))
    → IsLater (with_signatures answer r)
signatures_later answer (Ok given) h = h given
signatures_later answer (Err fault) h = refl

secrets_later : (answer : List Shown → Printed) (r : SecretsRead) → ((strings : List Shown) → IsLater (answer strings))
    → IsLater (with_secrets answer r)
secrets_later answer (shows strings) h = h strings
secrets_later answer (refused fault) h = refl
secrets_later answer (collided first second) h = refl

refusal_later : (o : Option FinishRefusal) (bytes : List ℕ) → IsLater (unless_refused o bytes)
refusal_later None bytes = refl
refusal_later (Some refusal) bytes = refl

there_later : (answer : Listed → Printed) (which : Which) (o : Option Listed) → ((l : Listed) → IsLater (answer l))
    → IsLater (if_there answer which o)
there_later answer which None h = refl
there_later answer which (Some l) h = h l

by_circular : (c : Option (List ℕ × List ℕ)) (o : Option (List ℕ)) (printed : Printed) → IsLater printed
    → OfDeal (unless_collided c (unless_circular o printed)) (is_none c && is_some o)
by_circular (Some pair) o printed h = taken_deal (unless_collided (Some pair) (unless_circular o printed)) refl
by_circular None None printed h = taken_deal printed h
by_circular None (Some name) printed h = record { thirteen = (λ e. refl, λ e. refl); any = refl }

module _ (v : Verifier) (hash : List ℕ → List ℕ) where
  deal_later : (answer : Keys → Instance → Printed) (advert : Advert) (r : Result Deal DealFault)
      → ((keys : Keys) (s : Instance) → IsLater (answer keys s)) → OfDeal (with_deal hash answer advert r) (is_refused hash advert r)
  deal_later answer advert (Err fault) h = record { thirteen = (λ e. refl, λ e. refl); any = refl }
  deal_later answer advert (Ok deal) h =
      let keys = deal_keys deal in
      let s = deal_instance advert deal in
      by_circular (collision hash [] (deal_strings hash keys s)) (circular hash keys s) (answer keys s) (h keys s)

  finished_later : (keys : Keys) (s : Instance) (l : Listed) (given : List Signed) (strings : List Shown)
      → IsLater (finished_answer hash keys s l given strings)
  finished_later keys s l given strings =
      refusal_later (finish_refusal hash keys s given strings l) (spelling (finished hash keys s given strings l))

  finish_later : (text : Text) (keys : Keys) (s : Instance) (l : Listed) → IsLater (finish_answer v hash text keys s l)
  finish_later text keys s l = signatures_later (λ given. finished_answer hash keys s l given []) (signatures_in v hash keys s text)
      (λ given. finished_later keys s l given [])

  finish_with_later : (text secrets : Text) (keys : Keys) (s : Instance) (l : Listed)
      → IsLater (finish_with_answer v hash text secrets keys s l)
  finish_with_later text secrets keys s l =
      signatures_later
      (λ given. with_secrets (λ strings. finished_answer hash keys s l given strings) (secrets_in hash keys s secrets))
      (signatures_in v hash keys s text)
      (λ given.
      secrets_later (λ strings. finished_answer hash keys s l given strings) (secrets_in hash keys s secrets)
      (λ strings. finished_later keys s l given strings))

  -- ---- the contract

  -- an answer that begins with the contract
  record Begins (printed : Printed) (r : Judged Advert) (is_bad : Bool) : Type 0 where
    one : (printed.status ≡ 1) ↔ (is_err r ≡ true)
    thirteen : (printed.status ≡ 13) ↔ (is_bad ≡ true)
    any : IsAny printed

  begins : (answer : Advert → Printed) (bad : Advert → Bool) (r : Judged Advert) (is_bad : Bool)
      → ((advert : Advert) → OfDeal (answer advert) (bad advert)) → is_bad ≡ elim r [ Ok advert ↦ bad advert | Err why ↦ false ]
      → Begins (with_advert answer r) r is_bad
  begins answer bad (Err why) is_bad h e = record {
    one = (λ x. refl, λ x. refl);
    thirteen = (λ x. absurd (omega (arith, x)), λ x. absurd (false≢true (sym e ∙ x)));
    any = refl;
  }
  begins answer bad (Ok advert) is_bad h e = record {
    one = (
      λ x. absurd (false≢true (subst (λ (n : ℕ). has_number n (13 ∷ after_deal) ≡ true) x (h advert).any)),
      λ x. absurd (false≢true x),
    );
    thirteen = (λ x. e ∙ (h advert).thirteen.0 x, λ x. (h advert).thirteen.1 (sym e ∙ x));
    any = or_right (1 == (answer advert).status) (has_number (answer advert).status (13 ∷ after_deal)) (h advert).any;
  }

  same_refusal : (r : Judged Advert) (text : Text)
      → is_deal_refused v hash r text ≡ elim r [ Ok advert ↦ is_refused hash advert (deal_in v advert text) | Err why ↦ false ]
  same_refusal (Ok advert) text = refl
  same_refusal (Err why) text = refl

  none_refused : (r : Judged Advert) → false ≡ elim r [ Ok advert ↦ false | Err why ↦ false ]
  none_refused (Ok advert) = refl
  none_refused (Err why) = refl

  of_deal_begins : (answer : Keys → Instance → Printed) (texts : List Text) → ((keys : Keys) (s : Instance) → IsLater (answer keys s))
      → Begins (of_deal v hash answer texts) (contract_in (text_at texts 0))
      (is_deal_refused v hash (contract_in (text_at texts 0)) (text_at texts 1))
  of_deal_begins answer texts h =
      begins (λ advert. with_deal hash answer advert (deal_in v advert (text_at texts 1)))
      (λ advert. is_refused hash advert (deal_in v advert (text_at texts 1)))
      (contract_in (text_at texts 0)) (is_deal_refused v hash (contract_in (text_at texts 0)) (text_at texts 1))
      (λ advert. deal_later answer advert (deal_in v advert (text_at texts 1)) h)
      (same_refusal (contract_in (text_at texts 0)) (text_at texts 1))

  -- the same of a command that shows addresses
  shown_later : (answer : Option (List ℕ) → Keys → Instance → Printed) (advert : Advert) (r : Result Deal DealFault)
      → ((network : Option (List ℕ)) (keys : Keys) (s : Instance) → IsLater (answer network keys s))
      → OfDeal (with_shown_deal hash answer advert r) (is_refused hash advert r)
  shown_later answer advert (Err fault) h = record { thirteen = (λ e. refl, λ e. refl); any = refl }
  shown_later answer advert (Ok deal) h = deal_later (answer deal.network) advert (Ok deal) (h deal.network)

  of_shown_begins : (answer : Option (List ℕ) → Keys → Instance → Printed) (texts : List Text)
      → ((network : Option (List ℕ)) (keys : Keys) (s : Instance) → IsLater (answer network keys s))
      → Begins (of_shown_deal v hash answer texts) (contract_in (text_at texts 0))
      (is_deal_refused v hash (contract_in (text_at texts 0)) (text_at texts 1))
  of_shown_begins answer texts h =
      begins (λ advert. with_shown_deal hash answer advert (deal_in v advert (text_at texts 1)))
      (λ advert. is_refused hash advert (deal_in v advert (text_at texts 1)))
      (contract_in (text_at texts 0)) (is_deal_refused v hash (contract_in (text_at texts 0)) (text_at texts 1))
      (λ advert. shown_later answer advert (deal_in v advert (text_at texts 1)) h)
      (same_refusal (contract_in (text_at texts 0)) (text_at texts 1))

  -- a deal file that may lack lines
  part_later : (advert : Advert) (r : Result (List Entry) DealFault) → OfDeal (fund_answer hash advert r) (is_err r)
  part_later advert (Err fault) = record { thirteen = (λ e. refl, λ e. refl); any = refl }
  part_later advert (Ok entries) = by_collision (collision hash [] (fund_strings advert entries))
    where
      by_collision : (o : Option (List ℕ × List ℕ)) → OfDeal (unless_collided o (prints 0 (fund_text hash advert entries))) false
      by_collision None = taken_deal (prints 0 (fund_text hash advert entries)) refl
      by_collision (Some pair) = taken_deal (unless_collided (Some pair) (prints 0 (fund_text hash advert entries))) refl

  same_part : (r : Judged Advert) (text : Text)
      → is_part_refused v r text ≡ elim r [ Ok advert ↦ is_err (part_in v advert text) | Err why ↦ false ]
  same_part (Ok advert) text = refl
  same_part (Err why) text = refl

  ready_later : (keys : Keys) (s : Instance) (given : List Signed) (strings : List Shown) → IsLater (ready_answer hash keys s given strings)
  ready_later keys s given strings = by_test (is_ready hash keys s given)
    where
      by_test : (b : Bool) → IsLater (prints (if b then 0 else 16) (ready_text hash keys s given strings))
      by_test true = refl
      by_test false = refl

  -- of one that reads a whole deal, nothing is asked of a part
  whole : {printed : Printed} {r : Judged Advert} (b : Bool) → Begins printed r b → Begins printed r (b || false)
  whole {printed} {r} b h = subst (Begins printed r) (sym (or_none b)) h
    where
      or_none : (x : Bool) → (x || false) ≡ x
      or_none true = refl
      or_none false = refl

  text_begins : (command : DealCommand) (texts : List Text)
      → Begins (deal_text_answer v hash command texts) (contract_in (text_at texts 0))
      (reads_deal command && is_deal_refused v hash (contract_in (text_at texts 0)) (text_at texts 1)
      || reads_part command && is_part_refused v (contract_in (text_at texts 0)) (text_at texts 1))
  text_begins (commands.keys contract) texts =
      begins (λ advert. prints 0 (keys_text advert)) (λ advert. false) (contract_in (text_at texts 0)) false
      (λ advert. taken_deal (prints 0 (keys_text advert)) refl) (none_refused (contract_in (text_at texts 0)))
  text_begins (commands.plan contract deal) texts =
      whole _ (of_shown_begins (λ network keys s. prints 0 (plan_text hash network keys s)) texts (λ network keys s. refl))
  text_begins (commands.psbts contract deal) texts =
      whole _ (of_deal_begins (λ keys s. prints 0 (psbts_text hash keys s)) texts (λ keys s. refl))
  text_begins (commands.psbt contract deal which) texts =
      let one : Keys → Instance → Listed → Printed = λ keys s l. prints 0 (psbt_line (unsigned_psbt hash keys s.advert l)) in
      whole _ (of_deal_begins (of_transaction hash which one) texts
      (λ keys s. there_later (one keys s) which (listed_at hash keys s which) (λ l. refl)))
  text_begins (commands.missing contract deal signatures) texts =
      let one : Keys → Instance → List Signed → Printed = λ keys s given. prints 0 (missing_text hash keys s given) in
      whole _ (of_deal_begins (of_signatures v hash one (text_at texts 2)) texts
      (λ keys s. signatures_later (one keys s) (signatures_in v hash keys s (text_at texts 2)) (λ given. refl)))
  text_begins (commands.held contract deal signatures) texts =
      let one : Keys → Instance → List Signed → Printed = λ keys s given. prints 0 (held_text hash keys s given) in
      whole _ (of_deal_begins (of_signatures v hash one (text_at texts 2)) texts
      (λ keys s. signatures_later (one keys s) (signatures_in v hash keys s (text_at texts 2)) (λ given. refl)))
  text_begins (commands.finish contract deal which signatures) texts =
      let one = finish_answer v hash (text_at texts 2) in
      whole _ (of_deal_begins (of_transaction hash which one) texts
      (λ keys s. there_later (one keys s) which (listed_at hash keys s which) (finish_later (text_at texts 2) keys s)))
  text_begins (commands.finish_with contract deal which signatures secrets) texts =
      let one = finish_with_answer v hash (text_at texts 2) (text_at texts 3) in
      whole _ (of_deal_begins (of_transaction hash which one) texts
      (λ keys s. there_later (one keys s) which (listed_at hash keys s which) (finish_with_later (text_at texts 2)
      (text_at texts 3) keys s)))
  text_begins (commands.fund contract deal) texts =
      begins (λ advert. fund_answer hash advert (part_in v advert (text_at texts 1))) (λ advert. is_err (part_in v advert (text_at texts 1)))
      (contract_in (text_at texts 0)) (is_part_refused v (contract_in (text_at texts 0)) (text_at texts 1))
      (λ advert. part_later advert (part_in v advert (text_at texts 1))) (same_part (contract_in (text_at texts 0)) (text_at texts 1))
  text_begins (commands.warn contract deal) texts =
      whole _ (of_deal_begins (λ keys s. prints 0 (warn_text hash keys s [])) texts (λ keys s. refl))
  text_begins (commands.warn_with contract deal secrets) texts =
      let one : Keys → Instance → List Shown → Printed = λ keys s strings. prints 0 (warn_text hash keys s strings) in
      whole _ (of_deal_begins (of_secrets hash one (text_at texts 2)) texts
      (λ keys s. secrets_later (one keys s) (secrets_in hash keys s (text_at texts 2)) (λ strings. refl)))
  text_begins (commands.ready contract deal signatures) texts =
      let one : Keys → Instance → List Signed → Printed = λ keys s given. ready_answer hash keys s given [] in
      whole _ (of_deal_begins (of_signatures v hash one (text_at texts 2)) texts
      (λ keys s.
      signatures_later (one keys s) (signatures_in v hash keys s (text_at texts 2)) (λ given. ready_later keys s given [])))
  text_begins (commands.ready_with contract deal signatures secrets) texts =
      whole _ (of_deal_begins (ready_with_answer v hash (text_at texts 2) (text_at texts 3)) texts
      (λ keys s.
      signatures_later
      (λ given. with_secrets (λ strings. ready_answer hash keys s given strings) (secrets_in hash keys s (text_at texts 3)))
      (signatures_in v hash keys s (text_at texts 2))
      (λ given.
      secrets_later (λ strings. ready_answer hash keys s given strings) (secrets_in hash keys s (text_at texts 3))
      (λ strings. ready_later keys s given strings))))
  text_begins (commands.endorse contract deal party) texts =
      whole _ (of_deal_begins (λ keys s. prints 0 (endorse_text hash keys s party)) texts (λ keys s. refl))
  text_begins (commands.hashes contract secrets) texts =
      begins (hashes_answer hash (text_at texts 1)) (λ advert. false) (contract_in (text_at texts 0)) false
      (λ advert.
      taken_deal (hashes_answer hash (text_at texts 1) advert)
      (secrets_later (λ strings. prints 0 (hashes_text hash strings)) (offered_in hash advert (text_at texts 1)) (λ strings. refl)))
      (none_refused (contract_in (text_at texts 0)))

  -- ---- reads and words

  unread_by : (command : DealCommand) (o : Option (List Text)) → ((deal_read_answer v hash command o).status ≡ 3) ↔ (o ≡ None)
  unread_by command None = (λ e. refl, λ e. refl)
  unread_by command (Some texts) = (
    λ e. absurd (false≢true (subst (λ (n : ℕ). has_number n deal_statuses ≡ true) e (text_begins command texts).any)),
    λ e. cc,
  )

  no_usage : (command : DealCommand) (o : Option (List Text)) → (deal_read_answer v hash command o).status ≡ 2 → ⊥
  no_usage command None e = absurd (omega (arith, e))
  no_usage command (Some texts) e =
      false≢true (subst (λ (n : ℕ). has_number n deal_statuses ≡ true) e (text_begins command texts).any)

by_command : (v : Verifier) (hash : List ℕ → List ℕ) (command : Option DealCommand) (reads : List Read)
    → ((deal_answer v hash command reads).status ≡ 2) ↔ (command ≡ None)
by_command v hash None reads = (λ e. refl, λ e. refl)
by_command v hash (Some command) reads = (λ e. absurd (no_usage v hash command (texts_read reads) e), λ e. cc)

pub deal_causes : DealCausesTheorem
deal_causes = record {
  usage = λ v hash command reads. by_command v hash command reads;
  unread = λ v hash command reads. unread_by v hash command (texts_read reads);
  contract_refused = λ v hash command texts. (text_begins v hash command texts).one;
  deal_refused = λ v hash command texts. (text_begins v hash command texts).thirteen;
  in_order = in_order;
  others = λ v hash command texts. (text_begins v hash command texts).any;
}
