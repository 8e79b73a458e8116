-- Lines of a word and a number are read as these numbers.
use Rattle.std.proofs.Common.{◌≡◌, ℕ, ◌<◌, ◌^◌, Bool, true, not, List, [], ◌∷◌, ◌++◌, map, Option, Some, refl, sym, ap, ◌∙◌, append-nil, append_assoc, arith}
use Rattle.std.specs.Prelude.{◌&&◌, codes}
use Rattle.std.specs.Fmt.{decimal}
use Rattle.std.specs.List.{list_all}
use Rattle.std.proofs.lemmas.Bool.{and_parts}
use Rattle.spec_text.specs.Lines.{is_space, lines_of, words_of}
use Rattle.spec_text.specs.PlanText.{count_line}
use Rattle.spec_text.specs.RunText.{newline}
use Rattle.theory_text.proofs.Lines.Decimals.{amount_back}
use Rattle.theory_text.proofs.Lines.LineBytes.{ends_line, lined, lines_again, spaced_ends, LineWord, decimal_line}
use Rattle.theory_text.proofs.Lines.Separated.{Lacks, spaced, spaced_words}
use Rattle.theory_play_text.proofs.LineWords.{lacks_where}
use Rattle.theory_commands.specs.Shown.Counts.{Numbers, AreBelow, numbers_of, said_numbers}

-- a word that is known
abbrev is_known : List ℕ → Bool
is_known word = list_all (λ x. not (is_space x)) word && list_all (λ x. not (ends_line x)) word

known : (b : ℕ) (bytes : List ℕ) → is_known (b ∷ bytes) ≡ true → LineWord (b ∷ bytes)
known b bytes h =
    let p = and_parts (list_all (λ x. not (is_space x)) (b ∷ bytes)) (list_all (λ x. not (ends_line x)) (b ∷ bytes)) h in
    record {
      is = record { some = omega arith; lacks = lacks_where is_space (b ∷ bytes) p.0 };
      ends = lacks_where ends_line (b ∷ bytes) p.1;
    }

-- a line of a word and a number
abbrev line : List ℕ → ℕ → List ℕ
line word n = spaced (word ∷ decimal n ∷ [])

module _ (word : List ℕ) (is : LineWord word) (n : ℕ) (below : n < 2 ^ 64) where
  line_text : count_line word n ≡ line word n ++ newline
  line_text =
      ap (λ (d : List ℕ). word ++ (32 ∷ (d ++ newline))) (sym (append-nil (decimal n)))
      ∙ sym (append_assoc word (32 ∷ (decimal n ++ [])) newline)

  line_words : words_of (line word n) ≡ word ∷ decimal n ∷ []
  line_words = spaced_words (word ∷ decimal n ∷ []) (is.is, ((decimal_line n below).is, tt))

  line_ends : Lacks ends_line (line word n)
  line_ends = spaced_ends (word ∷ decimal n ∷ []) (is.ends, ((decimal_line n below).ends, tt))

module _ (n : Numbers) (h : AreBelow n) where
  events : LineWord (codes "events")
  events = known 101 _ refl

  steps : LineWord (codes "steps")
  steps = known 115 _ refl

  deposits : LineWord (codes "deposits")
  deposits = known 100 _ refl

  contracts : LineWord (codes "contracts")
  contracts = known 99 _ refl

  value : LineWord (codes "value")
  value = known 118 _ refl

  all_lines : List (List ℕ)
  all_lines =
      line (codes "events") n.events ∷ line (codes "steps") n.steps ∷ line (codes "deposits") n.deposits
      ∷ line (codes "contracts") n.contracts ∷ line (codes "value") n.value ∷ []

  -- the lines one behind another
  numbers_text : List ℕ
  numbers_text =
      count_line (codes "events") n.events
      ++ (count_line (codes "steps") n.steps
      ++ (count_line (codes "deposits") n.deposits
      ++ (count_line (codes "contracts") n.contracts
      ++ count_line (codes "value") n.value)))

  text_is : numbers_text ≡ lined all_lines
  unfolding numbers_text all_lines
  text_is =
      let a = line_text (codes "events") events n.events h.events in
      let b = line_text (codes "steps") steps n.steps h.steps in
      let c = line_text (codes "deposits") deposits n.deposits h.deposits in
      let d = line_text (codes "contracts") contracts n.contracts h.contracts in
      let e = line_text (codes "value") value n.value h.value ∙ sym (append-nil (line (codes "value") n.value ++ newline)) in
      λ i. a i ++ (b i ++ (c i ++ (d i ++ e i)))

  lines_are : lines_of (lined all_lines) ≡ all_lines
  unfolding all_lines
  lines_are = lines_again all_lines (
    line_ends (codes "events") events n.events h.events,
    (
      line_ends (codes "steps") steps n.steps h.steps,
      (
        line_ends (codes "deposits") deposits n.deposits h.deposits,
        (line_ends (codes "contracts") contracts n.contracts h.contracts, (line_ends (codes "value") value n.value h.value, tt)),
      ),
    ),
  )

  abbrev some : Numbers → Option Numbers
  some x = Some x

  words_read : numbers_of (map words_of all_lines) ≡ some n
  unfolding all_lines
  words_read =
      rw (
        line_words (codes "events") events n.events h.events,
        line_words (codes "steps") steps n.steps h.steps,
        line_words (codes "deposits") deposits n.deposits h.deposits,
        line_words (codes "contracts") contracts n.contracts h.contracts,
        line_words (codes "value") value n.value h.value,
        amount_back n.events h.events,
        amount_back n.steps h.steps,
        amount_back n.deposits h.deposits,
        amount_back n.contracts h.contracts,
        amount_back n.value h.value,
      ) refl

  pub numbers_read : said_numbers (count_line (codes "events") n.events
      ++ (count_line (codes "steps") n.steps
      ++ (count_line (codes "deposits") n.deposits
      ++ (count_line (codes "contracts") n.contracts
      ++ count_line (codes "value") n.value)))) ≡ some n
  unfolding numbers_text
  numbers_read =
      ap said_numbers text_is ∙ (ap (λ (ls : List (List ℕ)). numbers_of (map words_of ls)) lines_are ∙ words_read)
