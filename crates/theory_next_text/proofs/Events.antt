-- The words of an event that may come next are cut from those behind them, and read as the event.
use Rattle.std.proofs.Common.{◌≡◌, ℕ, Bool, true, false, List, [], ◌∷◌, ◌++◌, map, Option, Some, refl, sym, ap, subst, ◌∙◌}
use Rattle.std.specs.Prelude.{◌==◌, ◌||◌, codes}
use Rattle.std.specs.Fmt.{decimal}
use Rattle.spec_bitcoin.specs.declared.verdict.Refusal.{Refusal}
use Rattle.spec_bitcoin.specs.declared.verdict.Refusal.TheVariants as refusal
use Rattle.spec_run.specs.declared.event.Event.{Event}
use Rattle.spec_run.specs.declared.event.Event.TheVariants as events
use Rattle.spec_run.specs.declared.outcome.Reason.{Reason}
use Rattle.spec_run.specs.declared.outcome.Reason.TheVariants as reason
use Rattle.spec_text.specs.EventLines.{event_of}
use Rattle.spec_text.specs.Lines.{parts_of, words_of}
use Rattle.spec_text.specs.OutcomeText.{refusal_text, reason_text}
use Rattle.spec_text.specs.RunText.{output_text, event_text}
use Rattle.theory_text.proofs.Lines.Separated.{parts_joined}
use Rattle.theory_play_text.specs.Lines.{Words, an_output, reason_of}
use Rattle.theory_play_text.specs.Printable.{IsWide, IsNamed, IsSpelledEvent}
use Rattle.theory_play_text.proofs.LineWords.{is_blank, ArePlain, known_word, line_of, cut_line, all_line, plain_map}
use Rattle.theory_play_text.proofs.Reasons.{IsRead}
use Rattle.theory_play_text.proofs.WordsBack.{number_plain, output_plain, name_plain, named_text, named_plain}
use Rattle.theory_next_text.specs.Lines.{has_sign, bindings_first, event_first, event_in}
use Rattle.theory_next_text.specs.Sayable.{IsNext}

abbrev Cut : Type 0
Cut = Words × Words

abbrev a_cut : Words → Words → Option Cut
a_cut before behind = Some (before, behind)

-- an event by its words, behind which a word stands that binds nothing
pub record EventWords (e : Event) : Type 0 where
  pub word : List ℕ
  pub words : Words
  pub are : event_text e ≡ line_of (word ∷ words)
  pub plain : ArePlain (word ∷ words)
  pub cut : (next : List ℕ) (more : Words) → has_sign next ≡ false
      → event_first (word ∷ (words ++ next ∷ more)) ≡ a_cut (word ∷ words) (next ∷ more)

-- ---- bindings

abbrev binding : List ℕ × ℕ → List ℕ
binding b = named_text an_output output_text b

or_true : (t : Bool) → (t || true) ≡ true
or_true true = refl
or_true false = refl

signed : (name text : List ℕ) → has_sign (name ++ 61 ∷ text) ≡ true
signed [] text = refl
signed (b ∷ bytes) text = rw (signed bytes text) (or_true (b == 61))

bindings_cut : (bs : List (List ℕ × ℕ)) (next : List ℕ) (more : Words) → has_sign next ≡ false
    → bindings_first (map binding bs ++ next ∷ more) ≡ (map binding bs, next ∷ more)
bindings_cut [] next more h = rw h refl
bindings_cut (b ∷ bs) next more h = rw (signed (b.0) (output_text b.1), bindings_cut bs next more h) refl

advertise_words : (k : ℕ) (bs : List (List ℕ × ℕ)) → IsNext (events.Advertise k bs) → EventWords (events.Advertise k bs)
advertise_words k bs h = record {
  word = codes "advertise";
  words = decimal k ∷ map binding bs;
  are = ap (λ (rest : List ℕ). codes "advertise " ++ rest) (all_line binding (decimal k) bs);
  plain = (
    known_word (codes "advertise") refl,
    (
      number_plain k h.0,
      plain_map (λ (b : List ℕ × ℕ). IsNamed (b.0) × IsWide (b.1)) binding
          (λ b i. named_plain an_output output_text b i.0 (output_plain (b.1) i.1)) bs h.1,
    ),
  );
  cut = λ next more i.
      ap (λ (c : Cut). a_cut (codes "advertise" ∷ decimal k ∷ c.0) (c.1)) (bindings_cut bs next more i);
}

-- ---- all

two_words : (e : Event) (word : List ℕ) (k : ℕ) (party : List ℕ) → event_text e ≡ line_of (word ∷ decimal k ∷ party ∷ [])
    → ArePlain (word ∷ []) → IsWide k → IsNamed party
    → ((next : List ℕ) (more : Words) → event_first (word ∷ decimal k ∷ party ∷ next ∷ more)
    ≡ a_cut (word ∷ decimal k ∷ party ∷ []) (next ∷ more))
    → EventWords e
two_words e word k party are plain h i cut = record {
  word = word;
  words = decimal k ∷ party ∷ [];
  are = are;
  plain = (plain.0, (number_plain k h, (name_plain party i, tt)));
  cut = λ next more s. cut next more;
}

pub words_of_event : (e : Event) → IsNext e → EventWords e
words_of_event (events.Advertise k bs) h = advertise_words k bs h
words_of_event (events.Commit k a []) h =
    two_words _ (codes "commit") k a (by_end a) (known_word (codes "commit") refl, tt) h.0 h.1 (λ next more. refl)
  where
    nothing_behind : (xs : List ℕ) → xs ++ [] ≡ xs
    nothing_behind [] = refl
    nothing_behind (x ∷ xs) = ap (λ (ys : List ℕ). x ∷ ys) (nothing_behind xs)

    by_end : (b : List ℕ) → event_text (events.Commit k b []) ≡ line_of (codes "commit" ∷ decimal k ∷ b ∷ [])
    by_end b = ap (λ (rest : List ℕ). codes "commit " ++ rest) (nothing_behind (decimal k ++ (32 ∷ b)))
words_of_event (events.Commit k a (d ∷ ds)) h = absurd (let e = h.2 in cc)
words_of_event (events.Endorse k a) h =
    two_words _ (codes "endorse") k a refl (known_word (codes "endorse") refl, tt) h.0 h.1 (λ next more. refl)
words_of_event (events.Init k a) h =
    two_words _ (codes "init") k a refl (known_word (codes "init") refl, tt) h.0 h.1 (λ next more. refl)
words_of_event (events.Authorise a n i) h = record {
  word = codes "authorise";
  words = a ∷ output_text n ∷ decimal i ∷ [];
  are = refl;
  plain = (known_word (codes "authorise") refl, (name_plain a h.0, (output_plain n h.1, (number_plain i h.2, tt))));
  cut = λ next more s. refl;
}
words_of_event (events.Reveal k a x) h = record {
  word = codes "reveal";
  words = decimal k ∷ a ∷ x ∷ [];
  are = ap (λ (rest : List ℕ). codes "reveal " ++ rest) (by_space (decimal k));
  plain = (known_word (codes "reveal") refl, (number_plain k h.0, (name_plain a h.1, (name_plain x h.2, tt))));
  cut = λ next more s. refl;
}
  where
    by_space : (first : List ℕ) → (first ++ (32 ∷ a)) ++ (32 ∷ x) ≡ first ++ (32 ∷ (a ++ (32 ∷ x)))
    by_space [] = refl
    by_space (b ∷ bytes) = ap (λ (ys : List ℕ). b ∷ ys) (by_space bytes)
words_of_event (events.Post bytes) h = absurd h
words_of_event (events.Sign a l d) h = absurd h
words_of_event (events.Give a inputs outputs) h = absurd h
words_of_event (events.Append bytes) h = absurd h
words_of_event (events.FireInit k) h = record {
  word = codes "fire";
  words = codes "init" ∷ decimal k ∷ [];
  are = refl;
  plain = (known_word (codes "fire") refl, (known_word (codes "init") refl, (number_plain k h, tt)));
  cut = λ next more s. refl;
}
words_of_event (events.Fire n i) h = record {
  word = codes "fire";
  words = output_text n ∷ decimal i ∷ [];
  are = refl;
  plain = (known_word (codes "fire") refl, (output_plain n h.0, (number_plain i h.1, tt)));
  cut = λ next more s. refl;
}
words_of_event (events.Mine n) h = absurd h

abbrev an_event : Event → Option Event
an_event e = Some e

-- they are read as it
pub event_read : (parties : List (List ℕ)) (e : Event) (w : EventWords e) → IsSpelledEvent parties e
    → event_in parties (w.word ∷ w.words) ≡ an_event e
event_read parties e w s =
    let parts : w.word ∷ w.words ≡ parts_of is_blank (event_text e) =
    sym (ap (parts_of is_blank) w.are ∙ cut_line w.word w.words w.plain) in
    ap (event_in parties) parts
    ∙ (ap (λ (t : List ℕ). event_of parties (words_of t)) (parts_joined 32 (event_text e)) ∙ s.read)

-- ---- a reason binds nothing

abbrev first_word : Words → List ℕ
first_word [] = []
first_word (word ∷ words) = word

abbrev Unsigned : List ℕ → Type 0
Unsigned text = has_sign (first_word (parts_of is_blank text)) ≡ false

refusal_unsigned : (r : Refusal) → Unsigned (refusal_text r)
refusal_unsigned refusal.NoInput = refl
refusal_unsigned refusal.NoOutput = refl
refusal_unsigned refusal.InputRepeated = refl
refusal_unsigned (refusal.MissingInput n) = refl
refusal_unsigned refusal.ValueLimit = refl
refusal_unsigned refusal.InsufficientIn = refl
refusal_unsigned refusal.NotFinal = refl
refusal_unsigned (refusal.ScriptSigNotEmpty n) = refl
refusal_unsigned (refusal.NotWitnessScript n) = refl
refusal_unsigned (refusal.ScriptMismatch n) = refl
refusal_unsigned (refusal.ItemTooLong n) = refl
refusal_unsigned (refusal.ScriptFalse n) = refl

reason_unsigned : (r : Reason) → Unsigned (reason_text r)
reason_unsigned reason.NoContract = refl
reason_unsigned reason.AdvertFull = refl
reason_unsigned reason.WrongNames = refl
reason_unsigned (reason.DepositRepeated x) = refl
reason_unsigned (reason.NotLive x) = refl
reason_unsigned (reason.WrongDeposit x) = refl
reason_unsigned reason.NoHonest = refl
reason_unsigned reason.NotAdvertised = refl
reason_unsigned reason.NotParticipant = refl
reason_unsigned reason.AlreadyCommitted = refl
reason_unsigned (reason.NoSecret a) = refl
reason_unsigned (reason.BadSecretLength a) = refl
reason_unsigned (reason.HashRepeated a) = refl
reason_unsigned reason.NotAllCommitted = refl
reason_unsigned (reason.NotEndorsed place party) = refl
reason_unsigned reason.NotActive = refl
reason_unsigned reason.NoBranch = refl
reason_unsigned reason.NotAsked = refl
reason_unsigned reason.NotHonest = refl
reason_unsigned reason.NotCommitted = refl
reason_unsigned reason.NotBegun = refl
reason_unsigned reason.AlreadyRevealed = refl
reason_unsigned reason.Honest = refl
reason_unsigned reason.NotOwner = refl
reason_unsigned (reason.NotLiveOutput n) = refl
reason_unsigned (reason.NotOwnerOutput n) = refl
reason_unsigned (reason.BadTx n) = refl
reason_unsigned reason.NotCompiled = refl
reason_unsigned (reason.SecretUnknown a) = refl
reason_unsigned reason.TimeLimit = refl
reason_unsigned (reason.Ledger r) = refusal_unsigned r

pub word_unsigned : (r : Reason) (i : IsRead reason_of (reason_text r) r) → has_sign i.word ≡ false
word_unsigned r i =
    subst (λ (ws : Words). has_sign (first_word ws) ≡ false)
    (ap (parts_of is_blank) i.are ∙ cut_line i.word i.words i.plain) (reason_unsigned r)
