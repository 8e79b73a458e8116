-- The events of the generated run are read from their canonical lines.
use Rattle.std.proofs.Common.{◌≡◌, ℕ, ◌+◌, ◌<◌, ◌≤◌, ◌^◌, true, List, [], ◌∷◌, ◌++◌, length, Some, refl, sym, ap, arith, append_assoc}
use Rattle.std.specs.Prelude.{codes, nat_le}
use Rattle.std.specs.Fmt.{decimal, digits}
use Rattle.std.specs.List.{list_all, AllByRecursion}
use Rattle.std.proofs.lemmas.Fmt.{length-decimal-le}
use Rattle.std.proofs.lemmas.List.{append-nil, length-append}
use Rattle.spec_terms.specs.Readable.{is_name}
use Rattle.spec_run.specs.declared.event.Event.{Event}
use Rattle.spec_run.specs.declared.event.Event.TheVariants as events
use Rattle.spec_text.specs.EventLines.{event_of}
use Rattle.spec_text.specs.RunText.{event_text}
use Rattle.spec_text.specs.Generator.{party_a, party_b, secret_name, first_events}
use Rattle.theory_text.proofs.Lines.Decimals.{small_back, amount_back}
use Rattle.theory_text.proofs.Lines.LineBytes.{LineWord, name_line, decimal_line}
use Rattle.theory_text.proofs.Lines.Separated.{spaced}
use Rattle.theory_text.proofs.Printed.Tests.{le_is}
use Rattle.theory_generator.proofs.Names.{secret_named, secret_short}
use Rattle.theory_generator.proofs.NumberWords.{is_line_word, all_line_words, line_word, output_word}
use Rattle.theory_generator.proofs.Participants.{both_parties}

-- the words of the canonical line of an event, from which it is read
pub record IsSpelled (e : Event) : Type 0 where
  pub words : List (List ℕ)
  pub text : event_text e ≡ spaced words
  pub all : AllByRecursion LineWord words
  pub read : event_of both_parties words ≡ Some e
  pub short : length (spaced words) ≤ 100

-- ---- the events up to the beginning of the contract

-- a line without variables
fixed : (e : Event) (words : List (List ℕ)) → event_text e ≡ spaced words → list_all is_line_word words ≡ true
    → event_of both_parties words ≡ Some e → nat_le (length (spaced words)) 100 ≡ true → IsSpelled e
fixed e words text all read short = record {
  words = words;
  text = text;
  all = all_line_words words all;
  read = read;
  short = le_is (length (spaced words)) 100 short;
}

abbrev advertise_words : List (List ℕ)
advertise_words = codes "advertise" ∷ codes "0" ∷ codes "x=#0" ∷ codes "y=#1" ∷ []

advertised : IsSpelled (events.Advertise 0 ((codes "x", 0) ∷ (codes "y", 1) ∷ []))
unfolding is_name digits
advertised = fixed (events.Advertise 0 ((codes "x", 0) ∷ (codes "y", 1) ∷ [])) advertise_words refl refl refl refl

commit_a : IsSpelled (events.Commit 0 party_a [])
unfolding digits
commit_a = fixed (events.Commit 0 party_a []) (codes "commit" ∷ codes "0" ∷ codes "A" ∷ []) refl refl refl refl

commit_b : IsSpelled (events.Commit 0 party_b [])
unfolding digits
commit_b = fixed (events.Commit 0 party_b []) (codes "commit" ∷ codes "0" ∷ codes "B" ∷ []) refl refl refl refl

endorse_a : IsSpelled (events.Endorse 0 party_a)
unfolding digits
endorse_a = fixed (events.Endorse 0 party_a) (codes "endorse" ∷ codes "0" ∷ codes "A" ∷ []) refl refl refl refl

endorse_b : IsSpelled (events.Endorse 0 party_b)
unfolding digits
endorse_b = fixed (events.Endorse 0 party_b) (codes "endorse" ∷ codes "0" ∷ codes "B" ∷ []) refl refl refl refl

init_a : IsSpelled (events.Init 0 party_a)
unfolding digits
init_a = fixed (events.Init 0 party_a) (codes "init" ∷ codes "0" ∷ codes "A" ∷ []) refl refl refl refl

init_b : IsSpelled (events.Init 0 party_b)
unfolding digits
init_b = fixed (events.Init 0 party_b) (codes "init" ∷ codes "0" ∷ codes "B" ∷ []) refl refl refl refl

fire_init : IsSpelled (events.FireInit 0)
unfolding digits
fire_init = fixed (events.FireInit 0) (codes "fire" ∷ codes "init" ∷ codes "0" ∷ []) refl refl refl refl

-- ---- the events of the stages

zero_text : decimal 0 ≡ codes "0"
unfolding digits
zero_text = refl

pub reveal_spelled : (j : ℕ) → j < 1000 → IsSpelled (events.Reveal 0 party_a (secret_name j))
reveal_spelled j h =
    let name = secret_name j in
    let named = secret_named j h in
    record {
      words = codes "reveal" ∷ codes "0" ∷ codes "A" ∷ name ∷ [];
      text = rw zero_text (ap (λ (xs : List ℕ). codes "reveal 0 A " ++ xs) (sym (append-nil name)));
      all = (line_word _ refl, (line_word _ refl, (line_word _ refl, (name_line name named, tt))));
      read = rw named refl;
      short = omega (arith, length-append name [], secret_short j h);
    }

ten_digits : (n : ℕ) → n < 2 ^ 32 → length (decimal n) ≤ 10
ten_digits n h = length-decimal-le 10 n (omega arith) (omega arith) (omega arith)

pub fire_spelled : (n : ℕ) → n < 2 ^ 32 → IsSpelled (events.Fire n 0)
fire_spelled n h = record {
  words = codes "fire" ∷ (35 ∷ decimal n) ∷ codes "0" ∷ [];
  text = rw zero_text refl;
  all = (line_word _ refl, (output_word n (omega arith), (line_word _ refl, tt)));
  read = rw (small_back n h) refl;
  short = omega (arith, length-append (decimal n) (codes " 0"), ten_digits n h);
}

-- a gift's line
abbrev give_line : List ℕ → List ℕ → List ℕ → List ℕ
give_line n d w = codes "give B " ++ ((35 ∷ n) ++ (codes " -> B " ++ (d ++ (codes " B " ++ (w ++ [])))))

give_text : (n d w : List ℕ)
    → codes "give B" ++ (((32 ∷ 35 ∷ n) ++ []) ++ (codes " ->" ++ ((codes " B " ++ d) ++ ((codes " B " ++ w) ++ [])))) ≡ give_line n d w
give_text n d w = rw (append-nil n) (simp (append_assoc, append-nil) refl)

give-length : (n d w : List ℕ) → length (give_line n d w) ≡ length n + length d + length w + 17
give-length n d w =
    omega (
      arith,
      length-append n (codes " -> B " ++ (d ++ (codes " B " ++ (w ++ [])))),
      length-append d (codes " B " ++ (w ++ [])),
      length-append w [],
    )

abbrev give_words : List ℕ → List ℕ → List ℕ → List (List ℕ)
give_words n d w = codes "give" ∷ codes "B" ∷ (35 ∷ n) ∷ codes "->" ∷ codes "B" ∷ d ∷ codes "B" ∷ w ∷ []

words_stand : (n d w : List ℕ) → LineWord (35 ∷ n) → LineWord d → LineWord w → AllByRecursion LineWord (give_words n d w)
words_stand n d w p q r =
    let b = line_word (codes "B") refl in
    (line_word _ refl, (b, (p, (line_word _ refl, (b, (q, (b, (r, tt))))))))

pub give_spelled : (n d w : ℕ) → n < 2 ^ 32 → d ≤ 1000000000 → w ≤ 1000000000
    → IsSpelled (events.Give party_b (n ∷ []) ((party_b, d) ∷ (party_b, w) ∷ []))
give_spelled n d w h hd hw = record {
  words = give_words (decimal n) (decimal d) (decimal w);
  text = give_text (decimal n) (decimal d) (decimal w);
  all = words_stand _ _ _ (output_word n (omega arith)) (decimal_line d (omega arith)) (decimal_line w (omega arith));
  read = rw (small_back n h, amount_back d (omega arith), amount_back w (omega arith)) refl;
  short = omega (
    arith,
    give-length (decimal n) (decimal d) (decimal w),
    ten_digits n h,
    ten_digits d (omega arith),
    ten_digits w (omega arith),
  );
}

-- all of these
abbrev pub AllSpelled : List Event → Type 0
AllSpelled es = AllByRecursion IsSpelled es

pub first_spelled : AllSpelled first_events
first_spelled = (advertised, (commit_a, (commit_b, (endorse_a, (endorse_b, (init_a, (init_b, (fire_init, tt))))))))
