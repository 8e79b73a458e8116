-- The text that a command answers to files that are taken is read as what it shows of them.
use Rattle.std.proofs.Common.{◌≡◌, ℕ, List, [], ◌∷◌, ◌++◌, map, Bool, true, false, Option, Some, None, Ok, refl, sym, ap, subst, ◌∙◌, cond, append-nil}
use Rattle.std.specs.Prelude.{flat_map}
use Rattle.std.specs.List.{find, AllByRecursion}
use Rattle.std.specs.Option.{option_map}
use Rattle.spec_data.specs.Hashes.{HashesBytes}
use Rattle.spec_terms.specs.Advert.{Advert}
use Rattle.spec_terms.specs.Faults.{IsWellFormed}
use Rattle.spec_terms.specs.Paths.{path_eq}
use Rattle.spec_terms.specs.PathSameness.{path_eq-Decides}
use Rattle.spec_terms.specs.Precondition.{Holding, deposits}
use Rattle.spec_terms.specs.declared.path.PathStep.{PathStep}
use Rattle.spec_compiler.specs.declared.unsigned.Unsigned.{Unsigned}
use Rattle.spec_compiler.specs.Keyed.Keys.{Keys}
use Rattle.spec_compiler.specs.Keyed.Instance.{Instance}
use Rattle.spec_compiler.specs.Keyed.Compilation.{path_transactions}
use Rattle.spec_tool.specs.declared.which.Which.{Which}
use Rattle.spec_tool.specs.declared.which.Which.TheVariants as names
use Rattle.spec_tool.specs.Answers.{contract_in}
use Rattle.spec_tool.specs.Commands.{Printed, prints}
use Rattle.spec_tool.specs.Keyed.Listed.{Listed, path_listed, listed, listed_at}
use Rattle.spec_tool.specs.Psbt.{Psbt}
use Rattle.spec_tool.specs.PsbtText.{psbt_line}
use Rattle.spec_tool.specs.Reads.{Text, text_at}
use Rattle.spec_deal.specs.declared.deal.Deal.{Deal}
use Rattle.spec_deal.specs.declared.signed.Signed.{Signed}
use Rattle.spec_deal.specs.declared.transaction.Transaction.{Transaction}
use Rattle.spec_deal.specs.Answers.{circular, with_advert, with_deal, with_shown_deal, unless_collided, unless_circular, of_deal, of_shown_deal}
use Rattle.spec_deal.specs.Answers.{deal_in, if_there, of_transaction, with_signatures, of_signatures, signatures_in, deal_text_answer}
use Rattle.spec_deal.specs.Commands as commands
use Rattle.spec_deal.specs.DealFile.{read_deal}
use Rattle.spec_deal.specs.DealText.{keys_text, plan_text, unsigned_psbt, psbts_text, missing_text, held_text}
use Rattle.spec_deal.specs.Needed.{needed}
use Rattle.spec_deal.specs.Setting.{deal_keys, deal_instance}
use Rattle.spec_deal.specs.Transactions.{transaction, transactions}
use Rattle.spec_deal.specs.Verifier.{Verifier}
use Rattle.theory_script.specs.Keyed.Listed.{at_path}
use Rattle.theory_deal.specs.ForSigners.{IsTaken}
use Rattle.theory_deal.proofs.ByName.{listed_path}
use Rattle.theory_deal.proofs.WellFormed.{well_formed}
use Rattle.theory_deal.proofs.Widths.DealBytes.{deal_widths}
use Rattle.theory_plan_text.proofs.AnyLines.{text_back}
use Rattle.theory_deal_text.specs.Keys.{needed_of}
use Rattle.theory_deal_text.specs.Plan.{shown_plan}
use Rattle.theory_deal_text.specs.PlanLines.{plan_said, plan_of}
use Rattle.theory_deal_text.specs.Psbts.{psbts_of, shown_psbt, is_named, named}
use Rattle.theory_deal_text.specs.SignatureLines.{missing_said, missing_of, held_said, held_of}
use Rattle.theory_deal_text.specs.Signatures.{shown_missing, shown_held}
use Rattle.theory_deal_text.specs.Statements.{transactions_of, DealTextsAreRead}
use Rattle.theory_deal_text.proofs.Fine.{all_askable, IsLaid, plan_fine, missing_fine, held_fine}
use Rattle.theory_deal_text.proofs.KeysRead.{keys_back}
use Rattle.theory_deal_text.proofs.PlanRead as plan_lines
use Rattle.theory_deal_text.proofs.PlanTexts.{HasSigners, plan_written}
use Rattle.theory_deal_text.proofs.Printable.{IsPrintable, IsPlaced, printable_at, listed_printable, deposits_placed, network_named}
use Rattle.theory_deal_text.proofs.PsbtBytes.{IsWritable, psbts_back}
use Rattle.theory_deal_text.proofs.PsbtTexts.{psbt_is, writable}
use Rattle.theory_deal_text.proofs.SignatureRead.{missing_written, IsMissing, missing_plain, missing_back, held_written, IsHeld, held_plain, held_back}
use Rattle.theory_deal_text.proofs.SignatureTexts.{missing_written_all, held_written_all}

some_same : {X : Type 0} {x y : X} → Some x ≡ Some y → x ≡ y
some_same e = cc

-- ---- files that are taken

contract_well : (t : Text) (advert : Advert) → contract_in t ≡ Ok advert → IsWellFormed advert
contract_well None advert e = cc
contract_well (Some text) advert e = well_formed text advert e

deal_text : (v : Verifier) (t : Text) (advert : Advert) (deal : Deal) → deal_in v advert t ≡ Ok deal
    → (text : List ℕ) × (read_deal v advert text ≡ Ok deal)
deal_text v None advert deal e = cc
deal_text v (Some text) advert deal e = (text, e)

-- ---- lists

each_signed : (keys : Keys) (advert : Advert) (ls : List Listed) → AllByRecursion (IsPrintable keys advert) ls → AllByRecursion HasSigners ls
each_signed keys advert [] h = tt
each_signed keys advert (l ∷ ls) h = (h.0.each_input, each_signed keys advert ls h.1)

-- the transaction that is found by its name is the contract's
module _ (hash : List ℕ → List ℕ) (keys : Keys) (s : Instance) where
  abbrev made : Listed → Transaction
  made l = transaction hash keys s.advert l

  record IsFound (which : Which) (t : Transaction) : Type 0 where
    l : Listed
    there : listed_at hash keys s which ≡ Some l
    is : t ≡ made l

  record IsAt (path : List PathStep) (es : List (List PathStep × Unsigned)) (t : Transaction) : Type 0 where
    d : Unsigned
    there : at_path path es ≡ Some d
    is : t ≡ made (path_listed s path d)

  at_path_found : (path : List PathStep) (es : List (List PathStep × Unsigned)) (t : Transaction)
      → find (is_named (names.At path)) (map made (map (λ p. path_listed s (p.0) (p.1)) es)) ≡ Some t → IsAt path es t
  at_path_found path [] t h = cc
  at_path_found path (e ∷ es) t h = by_test (path_eq e.0 path) refl h (at_path_found path es t)
    where
      by_test : (b : Bool) → path_eq e.0 path ≡ b
          → cond b (Some (made (path_listed s (e.0) (e.1))))
          (find (is_named (names.At path)) (map made (map (λ p. path_listed s (p.0) (p.1)) es))) ≡ Some t
          → (find (is_named (names.At path)) (map made (map (λ p. path_listed s (p.0) (p.1)) es)) ≡ Some t → IsAt path es t)
          → IsAt path (e ∷ es) t
      by_test true same k later = record {
        d = e.1;
        there = ap (λ (b : Bool). cond b (Some (e.1)) (at_path path es)) same;
        is = sym (some_same k) ∙ ap (λ (q : List PathStep). made (path_listed s q (e.1))) ((path_eq-Decides e.0 path).0 same);
      }
      by_test false same k later =
          let r = later k in
          record { d = r.d; there = ap (λ (b : Bool). cond b (Some (e.1)) (at_path path es)) same ∙ r.there; is = r.is }

  name_found : (which : Which) (t : Transaction) → named which (transactions hash keys s) ≡ Some t → IsFound which t
  name_found names.Init t h = record { l = _; there = refl; is = sym (some_same h) }
  name_found (names.At path) t h =
      let r = at_path_found path (path_transactions hash keys s) t h in
      record {
        l = path_listed s path r.d;
        there = ap (option_map (path_listed s path)) (sym (listed_path hash keys s path) ∙ r.there);
        is = r.is;
      }

-- ---- a deal that is taken

module _ (v : Verifier) (hash : List ℕ → List ℕ) (bytes : HashesBytes hash) (texts : List Text) (advert : Advert) (deal : Deal)
    (taken : IsTaken v hash texts advert deal) where
  abbrev keys : Keys
  keys = deal_keys deal

  abbrev s : Instance
  s = deal_instance advert deal

  -- what is answered of it
  compiled : (answer : Keys → Instance → Printed)
      → with_deal hash answer advert (Ok deal) ≡ answer (deal_keys deal) (deal_instance advert deal)
  compiled answer =
      let then = answer (deal_keys deal) (deal_instance advert deal) in
      let unless = unless_circular (circular hash (deal_keys deal) (deal_instance advert deal)) then in
      ap (λ o. unless_collided o unless) taken.apart ∙ ap (λ o. unless_circular o then) taken.unmade

  answered : (answer : Keys → Instance → Printed) → of_deal v hash answer texts ≡ answer (deal_keys deal) (deal_instance advert deal)
  answered answer =
      ap (with_advert (λ a. with_deal hash answer a (deal_in v a (text_at texts 1)))) taken.contract
      ∙ (ap (with_deal hash answer advert) taken.file ∙ compiled answer)

  shown_answered : (answer : Option (List ℕ) → Keys → Instance → Printed)
      → of_shown_deal v hash answer texts ≡ answer deal.network (deal_keys deal) (deal_instance advert deal)
  shown_answered answer =
      ap (with_advert (λ a. with_shown_deal hash answer a (deal_in v a (text_at texts 1)))) taken.contract
      ∙ (ap (with_shown_deal hash answer advert) taken.file ∙ compiled (answer deal.network))

  well : IsWellFormed advert
  well = contract_well (text_at texts 0) advert taken.contract

  file : (text : List ℕ) × (read_deal v advert text ≡ Ok deal)
  file = deal_text v (text_at texts 1) advert deal taken.file

  printable : AllByRecursion (IsPrintable (deal_keys deal) advert) (listed hash (deal_keys deal) (deal_instance advert deal))
  printable = listed_printable v hash bytes advert well (file).0 deal (file).1

  -- ---- plan

  laid : (ds : List (List ℕ × Holding)) → AllByRecursion (IsPlaced v hash bytes advert well (file).0 deal (file).1) ds
      → AllByRecursion (IsLaid hash deal.network (network_named v advert (file).0 deal (file).1) keys s well) ds
  laid [] h = tt
  laid (d ∷ ds) h = (record { name = h.0.name; vout = h.0.vout; value = h.0.value }, laid ds h.1)

  pub plan_back : (contract deal_file : List ℕ)
      → plan_of (deal_text_answer v hash (commands.plan contract deal_file) texts).text
      ≡ Some (shown_plan hash deal.network (deal_keys deal) (deal_instance advert deal))
  plan_back contract deal_file =
      let network = deal.network in
      let hrp = network_named v advert (file).0 deal (file).1 in
      let placed = deposits_placed v hash bytes advert well (file).0 deal (file).1 in
      ap (λ (p : Printed). plan_of p.text) (shown_answered (λ n k t. prints 0 (plan_text hash n k t)))
      ∙ (ap plan_of (plan_written hash network keys s (each_signed keys advert (listed hash keys s) printable))
      ∙ text_back plan_lines.written plan_said plan_lines.IsSaid plan_lines.words_plain plan_lines.words_back (shown_plan hash network keys s)
      (plan_fine hash network hrp keys s well (laid (deposits advert.pre) placed) printable))

  -- ---- psbt

  one_writable : (l : Listed) → IsPrintable (deal_keys deal) advert l → IsWritable (shown_psbt (transaction hash (deal_keys deal) advert l))
  one_writable l h =
      let widths = deal_widths v hash advert (file).0 deal (file).1 in
      subst IsWritable (psbt_is hash keys advert l)
      (writable hash bytes keys widths.wallets advert l h.tx h.spends h.values h.short h.few_spends h.few_outputs)

  all_writable : (ls : List Listed) → AllByRecursion (IsPrintable (deal_keys deal) advert) ls
      → AllByRecursion IsWritable (map shown_psbt (map (transaction hash (deal_keys deal) advert) ls))
  all_writable [] h = tt
  all_writable (l ∷ ls) h = (one_writable l h.0, all_writable ls h.1)

  psbts_are : (ls : List Listed)
      → flat_map (λ l. psbt_line (unsigned_psbt hash (deal_keys deal) advert l)) ls
      ≡ flat_map psbt_line (map shown_psbt (map (transaction hash (deal_keys deal) advert) ls))
  psbts_are [] = refl
  psbts_are (l ∷ ls) = λ i. psbt_line (psbt_is hash keys advert l i) ++ psbts_are ls i

  pub psbts_read : (contract deal_file : List ℕ)
      → psbts_of (deal_text_answer v hash (commands.psbts contract deal_file) texts).text
      ≡ Some (map shown_psbt (transactions_of hash advert deal))
  psbts_read contract deal_file =
      ap (λ (p : Printed). psbts_of p.text) (answered (λ k t. prints 0 (psbts_text hash k t)))
      ∙ (ap psbts_of (psbts_are (listed hash keys s))
      ∙ psbts_back (map shown_psbt (transactions_of hash advert deal)) (all_writable (listed hash keys s) printable))

  pub psbt_read : (contract deal_file : List ℕ) (which : Which) (t : Transaction) → named which (transactions_of hash advert deal) ≡ Some t
      → psbts_of (deal_text_answer v hash (commands.psbt contract deal_file which) texts).text ≡ Some (shown_psbt t ∷ [])
  psbt_read contract deal_file which t there =
      let r = name_found hash keys s which t there in
      let one = one_writable r.l (printable_at v hash bytes advert well (file).0 deal (file).1 which r.l r.there) in
      let back = psbts_back (shown_psbt (transaction hash keys advert r.l) ∷ []) (one, tt) in
      ap (λ (p : Printed). psbts_of p.text)
      (answered (of_transaction hash which (λ k t l. prints 0 (psbt_line (unsigned_psbt hash k t.advert l))))
      ∙ ap (if_there (λ l. prints 0 (psbt_line (unsigned_psbt hash keys advert l))) which) r.there)
      ∙ (ap (λ (p : Psbt). psbts_of (psbt_line p)) (psbt_is hash keys advert r.l)
      ∙ (ap psbts_of (sym (append-nil (psbt_line (shown_psbt (transaction hash keys advert r.l)))))
      ∙ (back ∙ ap (λ (x : Transaction). Some (shown_psbt x ∷ [])) (sym r.is))))

  -- ---- signatures

  module _ (given : List Signed)
      (signed : signatures_in v hash (deal_keys deal) (deal_instance advert deal) (text_at texts 2) ≡ Ok given) where
    of_given : (answer : Keys → Instance → List Signed → Printed)
        → of_deal v hash (of_signatures v hash answer (text_at texts 2)) texts ≡ answer (deal_keys deal) (deal_instance advert deal) given
    of_given answer =
        answered (of_signatures v hash answer (text_at texts 2))
        ∙ ap (with_signatures (answer (deal_keys deal) (deal_instance advert deal))) signed

    pub missing_read : (contract deal_file signatures : List ℕ)
        → missing_of (deal_text_answer v hash (commands.missing contract deal_file signatures) texts).text
        ≡ Some (shown_missing given (transactions_of hash advert deal))
    missing_read contract deal_file signatures =
        let ts = transactions_of hash advert deal in
        ap (λ (p : Printed). missing_of p.text) (of_given (λ k t g. prints 0 (missing_text hash k t g)))
        ∙ (ap missing_of (missing_written_all hash keys given s)
        ∙ text_back missing_written missing_said IsMissing missing_plain missing_back (shown_missing given ts)
        (missing_fine given _ (all_askable hash keys advert (listed hash keys s) printable)))

    pub held_read : (contract deal_file signatures : List ℕ)
        → held_of (deal_text_answer v hash (commands.held contract deal_file signatures) texts).text
        ≡ Some (shown_held given (transactions_of hash advert deal))
    held_read contract deal_file signatures =
        let ts = transactions_of hash advert deal in
        ap (λ (p : Printed). held_of p.text) (of_given (λ k t g. prints 0 (held_text hash k t g)))
        ∙ (ap held_of (held_written_all hash keys given s)
        ∙ text_back held_written held_said IsHeld held_plain held_back (shown_held given ts)
        (held_fine given _ (all_askable hash keys advert (listed hash keys s) printable)))

-- ---- all commands

keys_read : (v : Verifier) (hash : List ℕ → List ℕ) (contract : List ℕ) (texts : List Text) (advert : Advert)
    → contract_in (text_at texts 0) ≡ Ok advert
    → needed_of (deal_text_answer v hash (commands.keys contract) texts).text ≡ Some (needed advert)
keys_read v hash contract texts advert there =
    ap (λ j. needed_of (with_advert (λ a. prints 0 (keys_text a)) j).text) there
    ∙ keys_back advert (contract_well (text_at texts 0) advert there)

pub deal_texts : DealTextsAreRead
deal_texts v hash bytes (commands.keys contract) texts = λ advert there. keys_read v hash contract texts advert there
deal_texts v hash bytes (commands.plan contract deal_file) texts =
    λ advert deal taken. plan_back v hash bytes texts advert deal taken contract deal_file
deal_texts v hash bytes (commands.psbts contract deal_file) texts =
    λ advert deal taken. psbts_read v hash bytes texts advert deal taken contract deal_file
deal_texts v hash bytes (commands.psbt contract deal_file which) texts =
    λ advert deal t taken there. psbt_read v hash bytes texts advert deal taken contract deal_file which t there
deal_texts v hash bytes (commands.missing contract deal_file signatures) texts =
    λ advert deal given h. missing_read v hash bytes texts advert deal h.taken given h.signed contract deal_file signatures
deal_texts v hash bytes (commands.held contract deal_file signatures) texts =
    λ advert deal given h. held_read v hash bytes texts advert deal h.taken given h.signed contract deal_file signatures
deal_texts v hash bytes (commands.finish contract deal_file which signatures) texts = tt
deal_texts v hash bytes (commands.finish_with contract deal_file which signatures secrets) texts = tt
deal_texts v hash bytes (commands.fund contract deal_file) texts = tt
deal_texts v hash bytes (commands.warn contract deal_file) texts = tt
deal_texts v hash bytes (commands.warn_with contract deal_file secrets) texts = tt
deal_texts v hash bytes (commands.ready contract deal_file signatures) texts = tt
deal_texts v hash bytes (commands.ready_with contract deal_file signatures secrets) texts = tt
deal_texts v hash bytes (commands.endorse contract deal_file party) texts = tt
deal_texts v hash bytes (commands.hashes contract secrets) texts = tt
