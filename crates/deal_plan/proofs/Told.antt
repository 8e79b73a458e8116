-- The lines that are written of a deal are its plan.
use Rattle.std.proofs.Common.{◌≡◌, ℕ, ◌+◌, List, [], ◌∷◌, ◌++◌, length, map, Bool, true, false, Option, Some, None, refl, sym, ap, ◌∙◌, append_assoc}
use Rattle.std.specs.Prelude.{codes, reverse, if◌then◌else◌}
use Rattle.std.specs.Fmt.{decimal}
use Rattle.std.specs.List.{flat_map}
use Rattle.std.specs.Option.{option_map, option_map_or}
use Rattle.std.proofs.lemmas.Grind.{flat_map-append}
use Rattle.spec_data.specs.Digits.{hex_text}
use Rattle.spec_data.specs.Lists.{look_up}
use Rattle.spec_terms.specs.Advert.{Advert}
use Rattle.spec_terms.specs.Precondition.{Holding, deposits}
use Rattle.spec_terms.specs.declared.path.PathStep.{PathStep}
use Rattle.spec_bitcoin.specs.declared.label.Label.{Label}
use Rattle.spec_bitcoin.specs.Keys.{pay_to}
use Rattle.spec_compiler.specs.Keyed.Keys.{Keys}
use Rattle.spec_compiler.specs.Keyed.OwnScripts.{code_of}
use Rattle.spec_compiler.specs.Keyed.Instance.{Instance}
use Rattle.spec_compiler.specs.Keyed.ByPath.{unsigned_at}
use Rattle.spec_compiler.specs.Keyed.Transactions.{outpoint_or_none, deposit, payee_script, tx_of, digest_of_spent}
use Rattle.spec_compiler.specs.Keyed.Compilation.{path_transactions, scripts}
use Rattle.spec_compiler.specs.declared.unsigned.Spent.{Spent}
use Rattle.spec_compiler.specs.declared.unsigned.Unsigned.{Unsigned}
use Rattle.spec_text.specs.PlanText.{script_line}
use Rattle.spec_tool.specs.declared.which.Which.TheVariants as names
use Rattle.spec_tool.specs.Keyed.Listed.{Listed, initial_listed, path_listed, which_text}
use Rattle.theory_script.proofs.Keyed.Transactions.{AreRight, transactions_right}
use Rattle.theory_psbt.proofs.Signers.{signers_for_each}
use Rattle.spec_deal.specs.declared.deal.Deal.{Deal}
use Rattle.spec_deal.specs.DealText.{PlanLine, lines_text, of_runs, deposit_line, payee_line, payee_lines, is_plain, sign_line, digest_line, digest_lines}
use Rattle.spec_deal.specs.DealText.{line_of, script_words, input_lines, tx_line, listed_lines, plan_text}
use Rattle.spec_deal.specs.Setting.{deal_keys, deal_instance}
use Rattle.spec_deal.specs.Slots.{input_slots}
use Rattle.spec_deal.specs.Transactions.{signer, no_digest, input_digest, input, inputs, transaction, transactions}
use Rattle.spec_deal.specs.Used.{paid_parties}
use Rattle.spec_deal.specs.Wallets.{input_wallet, wallet_of, spent_output, has_digest}
use Rattle.deal_payees.specs.Shown.{output_text}
use Rattle.deal_payees.proofs.ShownLemmas.{output_line}
use Rattle.deal_plan.specs.Parts.{sign_text, digest_text, input_text, inputs_text, transaction_text, output_by, key_script, deposit_text}
use Rattle.deal_plan.specs.Parts.{payee_text, payees_text, plan_by}

lines_append : (xs ys : List PlanLine) → lines_text (xs ++ ys) ≡ lines_text xs ++ lines_text ys
lines_append xs ys = flat_map-append (λ (line : PlanLine). line.text) xs ys

-- the first words of a deposit's line, before what follows them
words_before : (a b c rest : List ℕ)
    → (codes "deposit " ++ (a ++ (32 ∷ (b ++ (32 ∷ (c ++ 32 ∷ [])))))) ++ rest ≡ codes "deposit " ++ (a ++ (32 ∷ (b ++ (32 ∷ (c ++ 32 ∷ rest)))))
words_before a b c rest =
    ap (λ (x : List ℕ). codes "deposit " ++ x)
    (append_assoc a (32 ∷ (b ++ (32 ∷ (c ++ 32 ∷ [])))) rest
    ∙ ap (λ (x : List ℕ). a ++ 32 ∷ x)
    (append_assoc b (32 ∷ (c ++ 32 ∷ [])) rest ∙ ap (λ (x : List ℕ). b ++ 32 ∷ x) (append_assoc c (32 ∷ []) rest)))

scripts_told : (ps : List (List PathStep × List ℕ)) (rest : List PlanLine)
    → lines_text (map (λ p. of_runs (script_line p)) ps ++ rest) ≡ flat_map script_line ps ++ lines_text rest
scripts_told [] rest = refl
scripts_told (p ∷ ps) rest =
    ap (λ (x : List ℕ). script_line p ++ x) (scripts_told ps rest)
    ∙ sym (append_assoc (script_line p) (flat_map script_line ps) (lines_text rest))

module _ (hash : List ℕ → List ℕ) (advert : Advert) (deal : Deal) where
  abbrev keys : Keys
  keys = deal_keys deal

  abbrev s : Instance
  s = deal_instance advert deal

  -- the output of a deposit: by its wallet's script, if it has one
  spent_told : (d : List ℕ × Holding) (own : Option (List ℕ)) (spent : Spent) → spent.script ≡ option_map_or code_of own (key_script deal (d.1).owner)
      → (spent_output hash (option_map (λ script. record { deposit = d.0; script = script }) own) spent).script
      ≡ output_by hash own (key_script deal (d.1).owner)
  spent_told d None spent is = ap (λ script. pay_to (hash script)) is
  spent_told d (Some script) spent is = refl

  deposit_told : (d : List ℕ × Holding) → (deposit_line hash deal.network keys s d).text ≡ deposit_text hash deal d
  deposit_told d =
      let place = outpoint_or_none (look_up (d.0) deal.deposits) in
      let own = look_up (d.0) deal.wallets in
      let script = output_by hash own (key_script deal (d.1).owner) in
      let shown : line_of (script_words deal.network (spent_output hash (wallet_of keys (d.0)) (deposit hash keys s (d.0) (d.1))).script)
      ≡ output_text deal.network script ++ 10 ∷ [] =
      ap (λ script. line_of (script_words deal.network script)) (spent_told d own (deposit hash keys s (d.0) (d.1)) refl)
      ∙ output_line deal.network script in
      ap
      (λ (x : List ℕ). codes "deposit " ++ (d.0 ++ (32 ∷ (hex_text (reverse place.txid) ++ (32 ∷ (decimal place.vout
      ++ 32 ∷ (decimal (d.1).value ++ 32 ∷ x)))))))
      shown
      ∙ sym (words_before (d.0) (hex_text (reverse place.txid)) (decimal place.vout)
      (decimal (d.1).value ++ (32 ∷ (output_text deal.network script ++ 10 ∷ []))))

  deposits_told : (ds : List (List ℕ × Holding)) (rest : List PlanLine)
      → lines_text (map (deposit_line hash deal.network keys s) ds ++ rest) ≡ flat_map (deposit_text hash deal) ds ++ lines_text rest
  deposits_told [] rest = refl
  deposits_told (d ∷ ds) rest =
      (λ j. deposit_told d j ++ deposits_told ds rest j)
      ∙ sym (append_assoc (deposit_text hash deal d) (flat_map (deposit_text hash deal) ds) (lines_text rest))

  payee_told : (party : List ℕ) → (payee_line hash deal.network keys party).text ≡ payee_text hash deal party
  payee_told party =
      ap (λ (x : List ℕ). codes "pay " ++ (party ++ 32 ∷ x)) (output_line deal.network (payee_script hash keys party))

  each_payee_told : (parties : List (List ℕ)) (rest : List PlanLine)
      → lines_text (map (payee_line hash deal.network keys) parties ++ rest) ≡ flat_map (payee_text hash deal) parties ++ lines_text rest
  each_payee_told [] rest = refl
  each_payee_told (party ∷ parties) rest =
      (λ j. payee_told party j ++ each_payee_told parties rest j)
      ∙ sym (append_assoc (payee_text hash deal party) (flat_map (payee_text hash deal) parties) (lines_text rest))

  payees_by : (plain : Bool) (rest : List PlanLine)
      → lines_text ((if plain then [] else map (payee_line hash deal.network keys) (paid_parties advert)) ++ rest)
      ≡ (if plain then [] else flat_map (payee_text hash deal) (paid_parties advert)) ++ lines_text rest
  payees_by true rest = refl
  payees_by false rest = each_payee_told (paid_parties advert) rest

  payees_told : (rest : List PlanLine) → lines_text (payee_lines hash deal.network keys s ++ rest) ≡ payees_text hash deal advert ++ lines_text rest
  payees_told rest = payees_by (is_plain deal.network keys) rest

  signs_told : (l : Listed) (k : ℕ) (spent : Spent) (labels : List Label) (rest : List PlanLine)
      → lines_text (map sign_line (input_slots keys advert l k spent labels) ++ rest)
      ≡ flat_map (sign_text l.which k (input_wallet keys advert l.which k)) (map (signer hash keys advert l.which (input_wallet keys advert l.which k)) labels)
      ++ lines_text rest
  signs_told l k spent [] rest = refl
  signs_told l k spent (label ∷ labels) rest =
      let wallet = input_wallet keys advert l.which k in
      let one = sign_text l.which k wallet (signer hash keys advert l.which wallet label) in
      ap (λ (x : List ℕ). one ++ x) (signs_told l k spent labels rest)
      ∙ sym (append_assoc one (flat_map (sign_text l.which k wallet) (map (signer hash keys advert l.which wallet) labels)) (lines_text rest))

  digest_by_test : (l : Listed) (k : ℕ) (spent : Spent) (known : Bool) (rest : List PlanLine)
      → lines_text ((if known then digest_line hash l k spent ∷ [] else []) ++ rest)
      ≡ (if known then line_of (codes "digest" ∷ which_text l.which ∷ decimal k
      ∷ hex_text (if known then digest_of_spent hash (tx_of l.pending) spent else no_digest) ∷ []) else []) ++ lines_text rest
  digest_by_test l k spent true rest = refl
  digest_by_test l k spent false rest = refl

  input_told : (l : Listed) (k : ℕ) (spent : Spent) (labels : List Label) (rest : List PlanLine)
      → lines_text ((digest_lines hash l k (input_wallet keys advert l.which k) spent ++ map sign_line (input_slots keys advert l k spent labels)) ++ rest)
      ≡ input_text l.which k (input hash keys advert l k spent labels) ++ lines_text rest
  input_told l k spent labels rest =
      let wallet = input_wallet keys advert l.which k in
      let digest = digest_text l.which k wallet (input_digest hash l wallet spent) in
      let signs = flat_map (sign_text l.which k wallet) (map (signer hash keys advert l.which wallet) labels) in
      ap lines_text (append_assoc (digest_lines hash l k wallet spent) (map sign_line (input_slots keys advert l k spent labels)) rest)
      ∙ digest_by_test l k spent (has_digest wallet) (map sign_line (input_slots keys advert l k spent labels) ++ rest)
      ∙ ap (λ (x : List ℕ). digest ++ x) (signs_told l k spent labels rest)
      ∙ sym (append_assoc digest signs (lines_text rest))

  inputs_told : (l : Listed) (k : ℕ) (spends : List Spent) (signers : List (List Label)) → length signers ≡ length spends
      → lines_text (input_lines hash keys advert l k spends signers) ≡ inputs_text l.which k (inputs hash keys advert l k spends signers)
  inputs_told l k [] signers h = refl
  inputs_told l k (spent ∷ spends) [] h = cc
  inputs_told l k (spent ∷ spends) (labels ∷ signers) h =
      let n : length signers ≡ length spends = cc in
      input_told l k spent labels (input_lines hash keys advert l (k + 1) spends signers)
      ∙ ap (λ (x : List ℕ). input_text l.which k (input hash keys advert l k spent labels) ++ x) (inputs_told l (k + 1) spends signers n)

  listed_told : (l : Listed) (rest : List PlanLine) → length l.signers ≡ length l.pending.spends
      → lines_text (listed_lines hash keys advert l ++ rest) ≡ transaction_text (transaction hash keys advert l) ++ lines_text rest
  listed_told l rest h =
      lines_append (listed_lines hash keys advert l) rest
      ∙ ap (λ (x : List ℕ). ((tx_line hash l).text ++ x) ++ lines_text rest) (inputs_told l 0 l.pending.spends l.signers h)

  paths_told : (es : List (List PathStep × Unsigned)) → AreRight (unsigned_at hash keys s) es
      → lines_text (flat_map (listed_lines hash keys advert) (map (λ p. path_listed s (p.0) (p.1)) es))
      ≡ flat_map transaction_text (map (transaction hash keys advert) (map (λ p. path_listed s (p.0) (p.1)) es))
  paths_told [] right = refl
  paths_told (e ∷ es) right =
      let l = path_listed s (e.0) (e.1) in
      let many : length l.signers ≡ length l.pending.spends = signers_for_each hash keys s (names.At (e.0)) l (ap (option_map (path_listed s (e.0))) right.0) in
      listed_told l (flat_map (listed_lines hash keys advert) (map (λ p. path_listed s (p.0) (p.1)) es)) many
      ∙ ap (λ (x : List ℕ). transaction_text (transaction hash keys advert l) ++ x) (paths_told es right.1)

  pub plan_told : plan_by hash deal advert (scripts hash keys s) (transactions hash keys s) ≡ plan_text hash deal.network keys s
  plan_told =
      let first = initial_listed hash keys s in
      let paths = path_transactions hash keys s in
      let others = flat_map (listed_lines hash keys advert) (map (λ p. path_listed s (p.0) (p.1)) paths) in
      let made = listed_lines hash keys advert first ++ others in
      let paid = payee_lines hash deal.network keys s ++ made in
      sym (ap (λ (x : List ℕ). (codes "contract 0 compiled" ++ 10 ∷ []) ++ x)
      (scripts_told (scripts hash keys s) (map (deposit_line hash deal.network keys s) (deposits advert.pre) ++ paid)
      ∙ ap (λ (x : List ℕ). flat_map script_line (scripts hash keys s) ++ x)
      (deposits_told (deposits advert.pre) paid
      ∙ ap (λ (x : List ℕ). flat_map (deposit_text hash deal) (deposits advert.pre) ++ x)
      (payees_told made
      ∙ ap (λ (x : List ℕ). payees_text hash deal advert ++ x)
      (listed_told first others (signers_for_each hash keys s names.Init first refl)
      ∙ ap (λ (x : List ℕ). transaction_text (transaction hash keys advert first) ++ x) (paths_told paths (transactions_right hash keys s)))))))
