-- The line of an outcome is read as that outcome.
use Rattle.std.proofs.Common.{◌≡◌, ℕ, true, false, List, [], ◌∷◌, ◌++◌, map, Option, Some, refl, ap, ◌∙◌}
use Rattle.std.specs.Prelude.{codes}
use Rattle.std.specs.Fmt.{decimal}
use Rattle.std.specs.List.{AllByRecursion}
use Rattle.std.specs.Str.{bytes_eq}
use Rattle.spec_data.specs.Lists.{look_up}
use Rattle.spec_bitcoin.specs.declared.verdict.Refusal.{Refusal}
use Rattle.spec_bitcoin.specs.declared.verdict.Refusal.TheVariants as refusal
use Rattle.spec_bitcoin.specs.Keys.{path_text}
use Rattle.spec_run.specs.declared.outcome.Outcome.{Outcome}
use Rattle.spec_run.specs.declared.outcome.Outcome.TheVariants.{Accepted}
use Rattle.spec_run.specs.declared.outcome.Reason.{Reason}
use Rattle.spec_run.specs.declared.outcome.Reason.TheVariants as reason
use Rattle.spec_text.specs.Words.{◌>>=◌, all_of}
use Rattle.spec_text.specs.RunText.{output_text, outputs_text}
use Rattle.spec_text.specs.OutcomeText.{refusal_text, reason_text, with_name, with_number, accepted_text}
use Rattle.theory_text.proofs.Lines.PathsBack.{path_back}
use Rattle.theory_text.proofs.Options.{some}
use Rattle.theory_play_text.specs.Lines.{a_party}
use Rattle.theory_play_text.specs.Lines.{Words, number, an_output, pairs_of, cut_at, one_number}
use Rattle.theory_play_text.specs.Lines.{plain_reasons, named_reasons, numbered_reasons, reason_of, accepted_of}
use Rattle.theory_play_text.specs.Printable.{IsWide, IsNamed, IsReason}
use Rattle.theory_play_text.proofs.LineWords.{ArePlain, known_word, is_plain_word, line_of, pair_words, then_line, pairs_then}
use Rattle.theory_play_text.proofs.LineWords.{plain_append, plain_map, plain_pairs}
use Rattle.theory_play_text.proofs.Paths.{path_plain}
use Rattle.theory_play_text.proofs.WordsBack.{number_back, number_plain, number_begins, output_back, output_plain, no_number}
use Rattle.theory_play_text.proofs.WordsBack.{party_back, party_plain, name_plain, name_begins, all_back, pairs_back, NoneIs, cut_back}

-- ---- reasons

-- the words of a text, from which the value is read
pub record IsRead {A : Type 0} (read : Words → Option A) (text : List ℕ) (x : A) : Type 0 where
  pub word : List ℕ
  pub words : Words
  pub are : text ≡ line_of (word ∷ words)
  pub plain : ArePlain (word ∷ words)
  pub back : read (word ∷ words) ≡ some x

plain_reason : (r : Reason) (word : List ℕ) → reason_text r ≡ word → is_plain_word word ≡ true → look_up word plain_reasons ≡ some r
    → IsRead reason_of (reason_text r) r
plain_reason r word is plain back = record { word = word; words = []; are = is; plain = (known_word word plain, tt); back = back }

abbrev some_make : {A : Type 0} → (A → Reason) → Option (A → Reason)
some_make make = Some make

named_reason : (make : List ℕ → Reason) (word name : List ℕ) → reason_text (make name) ≡ with_name word name → is_plain_word word ≡ true
    → look_up word named_reasons ≡ some_make make → IsNamed name → IsRead reason_of (reason_text (make name)) (make name)
named_reason make word name is plain found h = record {
  word = word;
  words = name ∷ [];
  are = is;
  plain = (known_word word plain, (name_plain name h, tt));
  back = rw (name_begins name h, found, h) refl;
}

numbered_reason : (make : ℕ → Reason) (word : List ℕ) (n : ℕ) → reason_text (make n) ≡ with_number word n → is_plain_word word ≡ true
    → look_up word numbered_reasons ≡ some_make make → IsWide n → IsRead reason_of (reason_text (make n)) (make n)
numbered_reason make word n is plain found h = record {
  word = word;
  words = decimal n ∷ [];
  are = is;
  plain = (known_word word plain, (number_plain n h, tt));
  back = rw (number_begins n h, found, number_back n h) refl;
}

refusal_read : (r : Refusal) → IsReason (reason.Ledger r) → IsRead reason_of (refusal_text r) (reason.Ledger r)
refusal_read refusal.NoInput h = plain_reason _ (codes "NoInput") refl refl refl
refusal_read refusal.NoOutput h = plain_reason _ (codes "NoOutput") refl refl refl
refusal_read refusal.InputRepeated h = plain_reason _ (codes "InputRepeated") refl refl refl
refusal_read (refusal.MissingInput n) h =
    numbered_reason (λ n. reason.Ledger (refusal.MissingInput n)) (codes "MissingInput") n refl refl refl h
refusal_read refusal.ValueLimit h = plain_reason _ (codes "ValueLimit") refl refl refl
refusal_read refusal.InsufficientIn h = plain_reason _ (codes "InsufficientIn") refl refl refl
refusal_read refusal.NotFinal h = plain_reason _ (codes "NotFinal") refl refl refl
refusal_read (refusal.ScriptSigNotEmpty n) h =
    numbered_reason (λ n. reason.Ledger (refusal.ScriptSigNotEmpty n)) (codes "ScriptSigNotEmpty") n refl refl refl h
refusal_read (refusal.NotWitnessScript n) h =
    numbered_reason (λ n. reason.Ledger (refusal.NotWitnessScript n)) (codes "NotWitnessScript") n refl refl refl h
refusal_read (refusal.ScriptMismatch n) h =
    numbered_reason (λ n. reason.Ledger (refusal.ScriptMismatch n)) (codes "ScriptMismatch") n refl refl refl h
refusal_read (refusal.ItemTooLong n) h =
    numbered_reason (λ n. reason.Ledger (refusal.ItemTooLong n)) (codes "ItemTooLong") n refl refl refl h
refusal_read (refusal.ScriptFalse n) h =
    numbered_reason (λ n. reason.Ledger (refusal.ScriptFalse n)) (codes "ScriptFalse") n refl refl refl h

pub reason_read : (r : Reason) → IsReason r → IsRead reason_of (reason_text r) r
reason_read reason.NoContract h = plain_reason _ (codes "NoContract") refl refl refl
reason_read reason.AdvertFull h = plain_reason _ (codes "AdvertFull") refl refl refl
reason_read reason.WrongNames h = plain_reason _ (codes "WrongNames") refl refl refl
reason_read (reason.DepositRepeated x) h = named_reason (λ x. reason.DepositRepeated x) (codes "DepositRepeated") x refl refl refl h
reason_read (reason.NotLive x) h = named_reason (λ x. reason.NotLive x) (codes "NotLive") x refl refl refl h
reason_read (reason.WrongDeposit x) h = named_reason (λ x. reason.WrongDeposit x) (codes "WrongDeposit") x refl refl refl h
reason_read reason.NoHonest h = plain_reason _ (codes "NoHonest") refl refl refl
reason_read reason.NotAdvertised h = plain_reason _ (codes "NotAdvertised") refl refl refl
reason_read reason.NotParticipant h = plain_reason _ (codes "NotParticipant") refl refl refl
reason_read reason.AlreadyCommitted h = plain_reason _ (codes "AlreadyCommitted") refl refl refl
reason_read (reason.NoSecret a) h = named_reason (λ a. reason.NoSecret a) (codes "NoSecret") a refl refl refl h
reason_read (reason.BadSecretLength a) h = named_reason (λ a. reason.BadSecretLength a) (codes "BadSecretLength") a refl refl refl h
reason_read (reason.HashRepeated a) h = named_reason (λ a. reason.HashRepeated a) (codes "HashRepeated") a refl refl refl h
reason_read reason.NotAllCommitted h = plain_reason _ (codes "NotAllCommitted") refl refl refl
reason_read (reason.NotEndorsed place party) h = record {
  word = codes "NotEndorsed";
  words = path_text place ∷ party ∷ [];
  are = refl;
  plain = (known_word (codes "NotEndorsed") refl, (path_plain place h.0, (party_plain party h.1, tt)));
  back = ap (λ o. o >>= λ q. a_party party >>= λ a. some (reason.NotEndorsed q a)) (path_back place h.0)
      ∙ ap (λ o. o >>= λ a. some (reason.NotEndorsed place a)) (party_back party h.1);
}
reason_read reason.NotActive h = plain_reason _ (codes "NotActive") refl refl refl
reason_read reason.NoBranch h = plain_reason _ (codes "NoBranch") refl refl refl
reason_read reason.NotAsked h = plain_reason _ (codes "NotAsked") refl refl refl
reason_read reason.NotHonest h = plain_reason _ (codes "NotHonest") refl refl refl
reason_read reason.NotCommitted h = plain_reason _ (codes "NotCommitted") refl refl refl
reason_read reason.NotBegun h = plain_reason _ (codes "NotBegun") refl refl refl
reason_read reason.AlreadyRevealed h = plain_reason _ (codes "AlreadyRevealed") refl refl refl
reason_read reason.Honest h = plain_reason _ (codes "Honest") refl refl refl
reason_read reason.NotOwner h = plain_reason _ (codes "NotOwner") refl refl refl
reason_read (reason.NotLiveOutput n) h = numbered_reason (λ n. reason.NotLiveOutput n) (codes "NotLive") n refl refl refl h
reason_read (reason.NotOwnerOutput n) h = numbered_reason (λ n. reason.NotOwnerOutput n) (codes "NotOwner") n refl refl refl h
reason_read (reason.BadTx n) h = numbered_reason (λ n. reason.BadTx n) (codes "BadTx") n refl refl refl h
reason_read reason.NotCompiled h = plain_reason _ (codes "NotCompiled") refl refl refl
reason_read (reason.SecretUnknown a) h = named_reason (λ a. reason.SecretUnknown a) (codes "SecretUnknown") a refl refl refl h
reason_read reason.TimeLimit h = plain_reason _ (codes "TimeLimit") refl refl refl
reason_read (reason.Ledger r) h = refusal_read r h

-- ---- what the ledger accepted

pub outputs_none : (mark : List ℕ) → ((n : ℕ) → bytes_eq (output_text n) mark ≡ false) → (ns : List ℕ) → NoneIs mark (map output_text ns)
outputs_none mark f [] = tt
outputs_none mark f (n ∷ ns) = (f n, outputs_none mark f ns)

abbrev IsMade : ℕ × ℕ → Type 0
IsMade m = IsWide (m.0) × IsWide (m.1)

made_none : (ms : List (ℕ × ℕ)) → AllByRecursion IsMade ms → NoneIs (codes "lock") (pair_words output_text decimal ms)
made_none [] h = tt
made_none (m ∷ ms) h = (refl, (no_number (decimal m.1) (codes "lock") (m.1) (number_back (m.1) (h.0).1) refl, made_none ms h.1))

abbrev lock_words : ℕ → Words
lock_words lock = codes "lock" ∷ decimal lock ∷ []

abbrev made_words : List (ℕ × ℕ) → ℕ → Words
made_words made lock = pair_words output_text decimal made ++ lock_words lock

-- the words behind `accepted`
abbrev spent_words : List ℕ → List (ℕ × ℕ) → ℕ → Words
spent_words spent made lock = map output_text spent ++ codes "makes" ∷ made_words made lock

accepted_are : (spent : List ℕ) (made : List (ℕ × ℕ)) (lock : ℕ)
    → accepted_text spent made lock ≡ line_of (codes "accepted" ∷ codes "spends" ∷ spent_words spent made lock)
accepted_are spent made lock =
    ap (λ (r : List ℕ). codes "accepted spends" ++ (outputs_text spent ++ (32 ∷ r)))
    (pairs_then output_text decimal (codes "makes") made (codes "lock") (decimal lock ∷ []))
    ∙ ap (λ (r : List ℕ). codes "accepted " ++ r) (then_line output_text (codes "spends") spent (codes "makes") (made_words made lock))

abbrev an_outcome : Outcome → Option Outcome
an_outcome o = Some o

accepted_back : (spent : List ℕ) (made : List (ℕ × ℕ)) (lock : ℕ) → AllByRecursion IsWide spent → AllByRecursion IsMade made → IsWide lock
    → accepted_of (codes "spends" ∷ spent_words spent made lock) ≡ an_outcome (Accepted spent made lock)
accepted_back spent made lock h k l =
    ap (λ o. o >>= λ p. all_of an_output (p.0) >>= λ ss. cut_at (codes "lock") (p.1) >>= λ q. pairs_of an_output number (q.0) >>= λ ms.
    one_number (q.1) >>= λ n. an_outcome (Accepted ss ms n))
    (cut_back (codes "makes") (map output_text spent) (made_words made lock) refl (outputs_none (codes "makes") (λ n. refl) spent))
    ∙ (ap (λ o. o >>= λ ss. cut_at (codes "lock") (made_words made lock) >>= λ q. pairs_of an_output number (q.0) >>= λ ms.
    one_number (q.1) >>= λ n. an_outcome (Accepted ss ms n))
    (all_back IsWide an_output output_text output_back spent h)
    ∙ (ap (λ o. o >>= λ q. pairs_of an_output number (q.0) >>= λ ms. one_number (q.1) >>= λ n. an_outcome (Accepted spent ms n))
    (cut_back (codes "lock") (pair_words output_text decimal made) (decimal lock ∷ []) refl (made_none made k))
    ∙ (ap (λ o. o >>= λ ms. one_number (decimal lock ∷ []) >>= λ n. an_outcome (Accepted spent ms n))
    (pairs_back IsMade an_output number output_text decimal (λ m i. output_back (m.0) i.0) (λ m i. number_back (m.1) i.1) made k)
    ∙ ap (λ o. o >>= λ n. an_outcome (Accepted spent made n)) (number_back lock l))))

pub accepted_read : (spent : List ℕ) (made : List (ℕ × ℕ)) (lock : ℕ) → AllByRecursion IsWide spent → AllByRecursion IsMade made
    → IsWide lock
    → IsRead accepted_of (line_of (codes "spends" ∷ spent_words spent made lock)) (Accepted spent made lock)
accepted_read spent made lock h k l = record {
  word = codes "spends";
  words = spent_words spent made lock;
  are = refl;
  plain = (
    known_word (codes "spends") refl,
    plain_append (map output_text spent) _ (plain_map IsWide output_text output_plain spent h) (
      known_word (codes "makes") refl,
      plain_append (pair_words output_text decimal made) _
          (plain_pairs IsMade output_text decimal (λ m i. (output_plain (m.0) i.0, number_plain (m.1) i.1)) made k)
          (known_word (codes "lock") refl, (number_plain lock l, tt)),
    ),
  );
  back = accepted_back spent made lock h k l;
}

pub accepted_is : (spent : List ℕ) (made : List (ℕ × ℕ)) (lock : ℕ)
    → accepted_text spent made lock ≡ codes "accepted " ++ line_of (codes "spends" ∷ spent_words spent made lock)
accepted_is spent made lock = accepted_are spent made lock
