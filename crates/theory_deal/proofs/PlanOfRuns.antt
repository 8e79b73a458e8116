-- The lines that a deal's plan has in common with plans of runs are the text of what the contract is compiled to.
use Rattle.std.proofs.Common.{◌≡◌, ℕ, ◌+◌, List, [], ◌∷◌, ◌++◌, length, map, Bool, true, false, Option, refl, sym, ap, ◌∙◌, append_assoc, cond}
use Rattle.std.specs.Prelude.{codes, reverse}
use Rattle.std.specs.Fmt.{decimal}
use Rattle.std.specs.List.{flat_map}
use Rattle.std.specs.Option.{option_map}
use Rattle.std.proofs.lemmas.List.Elements.{filter-append}
use Rattle.std.proofs.lemmas.Grind.{flat_map-append}
use Rattle.spec_data.specs.Digits.{hex_text}
use Rattle.spec_terms.specs.Precondition.{Holding, deposits}
use Rattle.spec_terms.specs.declared.path.PathStep.{PathStep}
use Rattle.spec_bitcoin.specs.declared.label.Label.{Label}
use Rattle.spec_bitcoin.specs.Digests.{txid}
use Rattle.spec_bitcoin.specs.Spelling.{stripped}
use Rattle.spec_compiler.specs.Keyed.Keys.{Keys, by_plan}
use Rattle.spec_compiler.specs.Keyed.Instance.{Instance}
use Rattle.spec_compiler.specs.declared.unsigned.Spent.{Spent}
use Rattle.spec_compiler.specs.declared.unsigned.Unsigned.{Unsigned}
use Rattle.spec_compiler.specs.Keyed.Transactions.{prepared, tx_of, digest_of_spent}
use Rattle.spec_compiler.specs.Keyed.Compilation.{path_transactions, scripts, compilation}
use Rattle.spec_compiler.specs.Keyed.ByPath.{unsigned_at}
use Rattle.spec_compiler.specs.Keyed.Statements.{AreKeyDeposits}
use Rattle.spec_text.specs.PlanText as text
use Rattle.spec_text.specs.PlanText.{script_line, prepared_lines, path_lines, compiled_text}
use Rattle.spec_tool.specs.declared.which.Which.TheVariants as names
use Rattle.spec_tool.specs.Keyed.Listed.{Listed, initial_listed, path_listed, which_text}
use Rattle.spec_deal.specs.DealText.{PlanLine, plan_lines, lines_text, of_runs, deposit_line, payee_line, is_plain, payee_lines, sign_line}
use Rattle.spec_deal.specs.DealText.{digest_line, digest_lines, input_lines, listed_lines}
use Rattle.spec_deal.specs.declared.transaction.Wallet.{Wallet}
use Rattle.spec_deal.specs.Used.{paid_parties}
use Rattle.spec_deal.specs.Wallets.{input_wallet}
use Rattle.spec_deal.specs.Slots.{Slot, input_slots}
use Rattle.theory_script.proofs.Keyed.Transactions.{AreRight, transactions_right}
use Rattle.theory_psbt.proofs.Signers.{signers_for_each}
use Rattle.theory_deal.proofs.OfKeys.{no_wallet}
use Rattle.theory_deal.specs.Plan.{shared_lines, PlanOfRuns}

abbrev shown : List PlanLine → List ℕ
shown lines = lines_text (shared_lines lines)

shown_append : (xs ys : List PlanLine) → shown (xs ++ ys) ≡ shown xs ++ shown ys
shown_append xs ys =
    ap lines_text (filter-append (λ (line : PlanLine). line.of_runs) xs ys)
    ∙ flat_map-append (λ (line : PlanLine). line.text) (shared_lines xs) (shared_lines ys)

-- three words of a line, before what follows it
words_before : (a b c rest : List ℕ)
    → (a ++ (32 ∷ (b ++ (32 ∷ (c ++ 10 ∷ []))))) ++ rest ≡ a ++ (32 ∷ (b ++ (32 ∷ (c ++ 10 ∷ rest))))
words_before a b c rest =
    append_assoc a (32 ∷ (b ++ (32 ∷ (c ++ 10 ∷ [])))) rest
    ∙ ap (λ (x : List ℕ). a ++ 32 ∷ x)
    (append_assoc b (32 ∷ (c ++ 10 ∷ [])) rest ∙ ap (λ (x : List ℕ). b ++ 32 ∷ x) (append_assoc c (10 ∷ []) rest))

module _ (hash : List ℕ → List ℕ) (network : Option (List ℕ)) (keys : Keys) (s : Instance) where
  signs_hidden : (slots : List Slot) (rest : List PlanLine) → shown (map sign_line slots ++ rest) ≡ shown rest
  signs_hidden [] rest = refl
  signs_hidden (slot ∷ slots) rest = signs_hidden slots rest

  deposits_hidden : (ds : List (List ℕ × Holding)) (rest : List PlanLine) → shown (map (deposit_line hash network keys s) ds ++ rest) ≡ shown rest
  deposits_hidden [] rest = refl
  deposits_hidden (d ∷ ds) rest = deposits_hidden ds rest

  payees_hidden : (parties : List (List ℕ)) (rest : List PlanLine) → shown (map (payee_line hash network keys) parties ++ rest) ≡ shown rest
  payees_hidden [] rest = refl
  payees_hidden (party ∷ parties) rest = payees_hidden parties rest

  all_payees_hidden : (rest : List PlanLine) → shown (payee_lines hash network keys s ++ rest) ≡ shown rest
  all_payees_hidden rest = by_test (is_plain network keys)
    where
      by_test : (b : Bool) → shown (cond b [] (map (payee_line hash network keys) (paid_parties s.advert)) ++ rest) ≡ shown rest
      by_test true = refl
      by_test false = payees_hidden (paid_parties s.advert) rest

  scripts_shown : (ps : List (List PathStep × List ℕ)) (rest : List PlanLine)
      → shown (map (λ p. of_runs (script_line p)) ps ++ rest) ≡ flat_map script_line ps ++ shown rest
  scripts_shown [] rest = refl
  scripts_shown (p ∷ ps) rest =
      ap (λ (x : List ℕ). script_line p ++ x) (scripts_shown ps rest) ∙ sym (append_assoc (script_line p)
      (flat_map script_line ps) (shown rest))

  -- the digest of an input of no wallet's
  digest_shown : AreKeyDeposits keys → (l : Listed) (k : ℕ) (spent : Spent) (rest : List PlanLine)
      → shown (digest_lines hash l k (input_wallet keys s.advert l.which k) spent ++ rest)
      ≡ (digest_line hash l k spent).text ++ shown rest
  digest_shown of_keys l k spent rest =
      ap (λ (o : Option Wallet). shown (digest_lines hash l k o spent ++ rest)) (no_wallet keys of_keys s.advert l.which k)

  inputs_shown : AreKeyDeposits keys → (l : Listed) (k : ℕ) (spends : List Spent) (signers : List (List Label)) → length signers ≡ length spends
      → shown (input_lines hash keys s.advert l k spends signers)
      ≡ text.digest_lines (which_text l.which) k (map (digest_of_spent hash (tx_of l.pending)) spends)
  inputs_shown of_keys l k [] signers h = refl
  inputs_shown of_keys l k (spent ∷ spends) [] h = cc
  inputs_shown of_keys l k (spent ∷ spends) (labels ∷ signers) h =
      let digest = digest_of_spent hash (tx_of l.pending) spent in
      let signs = map sign_line (input_slots keys s.advert l k spent labels) in
      let later = input_lines hash keys s.advert l (k + 1) spends signers in
      let n : length signers ≡ length spends = cc in
      ap shown (append_assoc (digest_lines hash l k (input_wallet keys s.advert l.which k) spent) signs later)
      ∙ digest_shown of_keys l k spent (signs ++ later)
      ∙ ap (λ (x : List ℕ). 100 ∷ 105 ∷ 103 ∷ 101 ∷ 115 ∷ 116 ∷ 32 ∷ x)
      (words_before (which_text l.which) (decimal k) (hex_text digest) (shown (signs ++ later))
      ∙ ap
      (λ (x : List ℕ). which_text l.which ++ (32 ∷ (decimal k ++ (32 ∷ (hex_text digest ++ 10 ∷ x)))))
      (signs_hidden (input_slots keys s.advert l k spent labels) later ∙ inputs_shown of_keys l (k + 1) spends signers n))

  listed_shown : AreKeyDeposits keys → (l : Listed) (rest : List PlanLine) → length l.signers ≡ length l.pending.spends
      → shown (listed_lines hash keys s.advert l ++ rest) ≡ prepared_lines (which_text l.which) (prepared hash l.pending) ++ shown rest
  listed_shown of_keys l rest h =
      let id = hex_text (reverse (txid hash (tx_of l.pending))) in
      let bytes = hex_text (stripped (tx_of l.pending)) in
      shown_append (listed_lines hash keys s.advert l) rest
      ∙ ap
      (λ (x : List ℕ). x ++ shown rest)
      (ap (λ (x : List ℕ). 116 ∷ 120 ∷ 32 ∷ x)
      (words_before (which_text l.which) id bytes (shown (input_lines hash keys s.advert l 0 l.pending.spends l.signers))
      ∙ ap
      (λ (x : List ℕ). which_text l.which ++ (32 ∷ (id ++ (32 ∷ (bytes ++ 10 ∷ x)))))
      (inputs_shown of_keys l 0 l.pending.spends l.signers h)))

  paths_shown : AreKeyDeposits keys → (es : List (List PathStep × Unsigned)) → AreRight (unsigned_at hash keys s) es
      → shown (flat_map (listed_lines hash keys s.advert) (map (λ p. path_listed s (p.0) (p.1)) es))
      ≡ flat_map path_lines (map (λ p. (p.0, prepared hash p.1)) es)
  paths_shown of_keys [] right = refl
  paths_shown of_keys (e ∷ es) right =
      let many : length (path_listed s (e.0) (e.1)).signers ≡ length (e.1).spends =
      signers_for_each hash keys s (names.At (e.0)) (path_listed s (e.0) (e.1)) (ap (option_map (path_listed s (e.0))) right.0) in
      listed_shown of_keys (path_listed s (e.0) (e.1)) (flat_map (listed_lines hash keys s.advert) (map (λ p. path_listed s (p.0) (p.1)) es)) many
      ∙ ap (λ (x : List ℕ). path_lines (e.0, prepared hash (e.1)) ++ x) (paths_shown of_keys es right.1)

  plan_shown : AreKeyDeposits keys → shown (plan_lines hash network keys s) ≡ compiled_text (compilation hash keys s)
  plan_shown of_keys =
      let first = initial_listed hash keys s in
      let others = flat_map (listed_lines hash keys s.advert) (map (λ p. path_listed s (p.0) (p.1)) (path_transactions hash keys s)) in
      let later = listed_lines hash keys s.advert first ++ others in
      ap
      (λ (x : List ℕ). (codes "contract 0 compiled" ++ 10 ∷ []) ++ x)
      (scripts_shown (scripts hash keys s) (map (deposit_line hash network keys s) (deposits s.advert.pre) ++
      (payee_lines hash network keys s ++ later))
      ∙ ap
      (λ (x : List ℕ). flat_map script_line (scripts hash keys s) ++ x)
      (deposits_hidden (deposits s.advert.pre) (payee_lines hash network keys s ++ later)
      ∙ all_payees_hidden later
      ∙ listed_shown of_keys first others (signers_for_each hash keys s names.Init first refl)
      ∙ ap
      (λ (x : List ℕ). prepared_lines (codes "init") (compilation hash keys s).init ++ x)
      (paths_shown of_keys (path_transactions hash keys s) (transactions_right hash keys s))))

pub plan_of_runs : PlanOfRuns
plan_of_runs hash network keys s = record {
  at_any_keys = plan_shown hash network keys s;
  at_the_plan = plan_shown hash network by_plan s (λ name. refl);
}
