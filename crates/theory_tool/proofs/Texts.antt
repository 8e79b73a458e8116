-- Commands answer to the texts of the files that are there.
use Rattle.std.proofs.Common.{◌≡◌, ℕ, ◌+◌, Bool, true, false, List, [], ◌∷◌, length, map, Option, Some, None, Err}
use Rattle.std.proofs.Common.{refl, ap, sym, ◌∙◌, arith}
use Rattle.std.specs.Prelude.{if◌then◌else◌, nat_le, nat_lt}
use Rattle.std.proofs.lemmas.Bool.{leb-false, ltb-false, true_from_ne_false}
use Rattle.spec_data.specs.Digits.{onto}
use Rattle.spec_data.specs.Lists.{look_up}
use Rattle.spec_terms.specs.Advert.{Advert}
use Rattle.spec_run.specs.declared.event.Event.{Event}
use Rattle.spec_run.specs.declared.event.Run.{Run}
use Rattle.spec_run.specs.Setup.{Setup}
use Rattle.spec_text.specs.Limits.{most_text_bytes, most_run_bytes}
use Rattle.spec_text.specs.ReadAdvert.{read_answer as read_contract}
use Rattle.spec_text.specs.RunFile.{read_run}
use Rattle.spec_text.specs.Refusals.{Judged, contract_of, run_of, too_long_text, judged_answer, judged_run}
use Rattle.theory_text.proofs.Options.{some, some_is, none_some, onto_is}
use Rattle.spec_tool.specs.Reads.{Read, got, too_long, failed, Text, within, onto_reads, reads_in, text_read, texts_read}
use Rattle.spec_tool.specs.Commands.{Command, Printed, JudgedAll, onto_judged, check, play, plan, psbt_of, weigh, files_of, contract_file}
use Rattle.spec_tool.specs.Commands.{check_judged, contracts_from, both_judged, run_answer}
use Rattle.spec_tool.specs.Answers.{contract_in, run_in, contracts_in, too_long_run, read_answer, answer, if_whole}
use Rattle.spec_tool.specs.Answers.{printed_of}
use Rattle.spec_text.specs.Played.{play_text}
use Rattle.spec_text.specs.PlanText.{plan_text}
use Rattle.spec_tool.specs.PsbtText.{psbt_text}
use Rattle.spec_tool.specs.WeighText.{weigh_text}
use Rattle.spec_tool.specs.Reading.{Files, texts_there, TextsTheorem}
use Rattle.theory_tool.specs.Texts.{bounded}

-- ---- the text of a file

text_picked : (b : Bool) (text : List ℕ) → text_read (if b then got text else too_long) ≡ some (if b then Some text else None)
text_picked true text = refl
text_picked false text = refl

text_within : (limit : ℕ) (text : List ℕ) → text_read (within limit (Some text)) ≡ some (bounded limit text)
text_within limit text = text_picked (nat_le (length text) limit) text

pub text_there : (there : Files) (limit : ℕ) (name text : List ℕ) → look_up name there ≡ Some text
    → text_read (within limit (look_up name there)) ≡ some (bounded limit text)
text_there there limit name text h = ap (λ (o : Option (List ℕ)). text_read (within limit o)) h ∙ text_within limit text

-- ---- the texts of several

onto_some : (a : Option Text) (b : Option (List Text)) (t : Text) (ts : List Text) → a ≡ some t → b ≡ some ts → onto a b ≡ some (t ∷ ts)
onto_some a b t ts h k = ap (λ (x : Option Text). onto x b) h ∙ ap (λ (y : Option (List Text)). onto (some t) y) k

pub texts_onto : (r : Read) (rest : List Read) (t : Text) (ts : List Text) → text_read r ≡ some t → texts_read rest ≡ some ts
    → texts_read (onto_reads r rest) ≡ some (t ∷ ts)
texts_onto (got bytes) rest t ts h k = onto_some (text_read (got bytes)) (texts_read rest) t ts h k
texts_onto too_long rest t ts h k = onto_some (text_read too_long) (texts_read rest) t ts h k
texts_onto failed rest t ts h k = absurd (none_some t h)

pub contract_texts : (there : Files) (n : ℕ) (names texts : List (List ℕ)) → texts_there there names ≡ some texts
    → texts_read (reads_in there None n (map contract_file names)) ≡ some (map (bounded most_text_bytes) texts)
contract_texts there n [] texts h = ap (λ (ts : List (List ℕ)). some (map (bounded most_text_bytes) ts)) (some_is [] texts h)
contract_texts there n (name ∷ names) texts h =
    let o = onto_is (look_up name there) (texts_there there names) texts h in
    texts_onto (within most_text_bytes (look_up name there)) (reads_in there None (n + 1) (map contract_file names))
    (bounded most_text_bytes o.first) (map (bounded most_text_bytes) o.others)
    (text_there there most_text_bytes name o.first o.is) (contract_texts there (n + 1) names o.others o.are)
    ∙ ap (λ (ts : List (List ℕ)). some (map (bounded most_text_bytes) ts)) (sym o.all)

-- ---- what is refused for its length

pub not_within : (n m : ℕ) → nat_le n m ≡ false → nat_lt m n ≡ true
not_within n m h = true_from_ne_false (nat_lt m n) (λ k. omega (arith, leb-false n m h, ltb-false m n k))

contract_picked : (text : List ℕ) (b : Bool) → nat_le (length text) most_text_bytes ≡ b → contract_in (if b then Some text else None)
    ≡ contract_of text
contract_picked text true h = refl
contract_picked text false h =
    sym (ap (λ (c : Bool). if c then Err too_long_text else judged_answer (read_contract text))
    (not_within (length text) most_text_bytes h))

contract_bounded : (text : List ℕ) → contract_in (bounded most_text_bytes text) ≡ contract_of text
contract_bounded text = contract_picked text (nat_le (length text) most_text_bytes) refl

run_picked : (text : List ℕ) (b : Bool) → nat_le (length text) most_run_bytes ≡ b → run_in (if b then Some text else None) ≡ run_of text
run_picked text true h = refl
run_picked text false h =
    sym (ap (λ (c : Bool). if c then Err too_long_run else judged_run (read_run text)) (not_within (length text) most_run_bytes h))

run_bounded : (text : List ℕ) → run_in (bounded most_run_bytes text) ≡ run_of text
run_bounded text = run_picked text (nat_le (length text) most_run_bytes) refl

contracts_bounded : (k : ℕ) (texts : List (List ℕ)) → contracts_in k (map (bounded most_text_bytes) texts) ≡ contracts_from k texts
contracts_bounded k [] = refl
contracts_bounded k (text ∷ texts) =
    ap (λ (j : Judged Advert). onto_judged k j (contracts_in (k + 1) (map (bounded most_text_bytes) texts))) (contract_bounded text)
    ∙ ap (λ (all : JudgedAll). onto_judged k (contract_of text) all) (contracts_bounded (k + 1) texts)

-- ---- commands

-- what is answered of a run and its contracts
pub both_bounded : (of : Setup → List Event → Printed) (hash : List ℕ → List ℕ) (run_text : List ℕ) (texts : List (List ℕ))
    → both_judged of hash (run_in (bounded most_run_bytes run_text)) (contracts_in 0 (map (bounded most_text_bytes) texts))
    ≡ both_judged of hash (run_of run_text) (contracts_from 0 texts)
both_bounded of hash run_text texts =
    ap (λ (j : Judged Run). both_judged of hash j (contracts_in 0 (map (bounded most_text_bytes) texts))) (run_bounded run_text)
    ∙ ap (λ (all : JudgedAll). both_judged of hash (run_of run_text) all) (contracts_bounded 0 texts)

-- the texts of a run and its contracts
run_texts : (there : Files) (run run_text : List ℕ) (contracts texts : List (List ℕ)) → look_up run there ≡ some run_text
    → texts_there there contracts ≡ some texts
    → texts_read (onto_reads (within most_run_bytes (look_up run there)) (reads_in there None 1 (map contract_file contracts)))
    ≡ some (bounded most_run_bytes run_text ∷ map (bounded most_text_bytes) texts)
run_texts there run run_text contracts texts h k =
    texts_onto (within most_run_bytes (look_up run there)) (reads_in there None 1 (map contract_file contracts))
    (bounded most_run_bytes run_text) (map (bounded most_text_bytes) texts)
    (text_there there most_run_bytes run run_text h) (contract_texts there 1 contracts texts k)

pub one_there : (there : Files) (name text : List ℕ) → look_up name there ≡ some text → texts_there there (name ∷ []) ≡ some (text ∷ [])
one_there there name text h = ap (λ (o : Option (List ℕ)). onto o (Some [])) h

-- what a command answers to its texts
pub by_texts : (hash : List ℕ → List ℕ) (command : Command) (reads : List Read) (texts : List Text) → texts_read reads ≡ some texts
    → answer hash command reads ≡ read_answer hash command (Some texts)
by_texts hash command reads texts h = ap (λ (o : Option (List Text)). read_answer hash command o) h

pub texts_are_answered : TextsTheorem
texts_are_answered = record {
  check_text = λ hash there contract text h.
      by_texts hash (check contract) (reads_in there None 0 (files_of (check contract))) (bounded most_text_bytes text ∷ [])
      (contract_texts there 0 (contract ∷ []) (text ∷ []) (one_there there contract text h))
      ∙ ap check_judged (contract_bounded text);
  play_texts = λ hash there run run_text contracts texts h k.
      by_texts hash (play run contracts) (reads_in there None 0 (files_of (play run contracts)))
      (bounded most_run_bytes run_text ∷ map (bounded most_text_bytes) texts) (run_texts there run run_text contracts texts h k)
      ∙ both_bounded (run_answer play_text) hash run_text texts;
  plan_texts = λ hash there run run_text contract text h k.
      by_texts hash (plan run contract) (reads_in there None 0 (files_of (plan run contract)))
      (bounded most_run_bytes run_text ∷ (bounded most_text_bytes text ∷ []))
      (run_texts there run run_text (contract ∷ []) (text ∷ []) h (one_there there contract text k))
      ∙ both_bounded (run_answer plan_text) hash run_text (text ∷ []);
  psbt_texts = λ hash there which run run_text contract text h k.
      by_texts hash (psbt_of run contract which) (reads_in there None 0 (files_of (psbt_of run contract which)))
      (bounded most_run_bytes run_text ∷ (bounded most_text_bytes text ∷ []))
      (run_texts there run run_text (contract ∷ []) (text ∷ []) h (one_there there contract text k))
      ∙ both_bounded (if_whole (printed_of (psbt_text which))) hash run_text (text ∷ []);
  weigh_texts = λ hash there run run_text contract text h k.
      by_texts hash (weigh run contract) (reads_in there None 0 (files_of (weigh run contract)))
      (bounded most_run_bytes run_text ∷ (bounded most_text_bytes text ∷ []))
      (run_texts there run run_text (contract ∷ []) (text ∷ []) h (one_there there contract text k))
      ∙ both_bounded (if_whole (printed_of weigh_text)) hash run_text (text ∷ []);
}
