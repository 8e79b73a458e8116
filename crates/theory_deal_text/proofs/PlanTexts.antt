-- The text of a deal's plan is that of the lines that it shows.
use Rattle.std.proofs.Common.{◌≡◌, ℕ, ◌+◌, List, [], ◌∷◌, ◌++◌, length, map, Bool, true, false, Option, Some, None}
use Rattle.std.proofs.Common.{refl, sym, ap, ◌∙◌, cond, arith}
use Rattle.std.specs.Prelude.{flat_map, reverse, codes}
use Rattle.std.specs.Fmt.{decimal}
use Rattle.std.specs.List.{AllByRecursion}
use Rattle.std.specs.Option.{option_map, option_map_or}
use Rattle.std.proofs.lemmas.Grind.{flat_map-append}
use Rattle.spec_data.specs.Digits.{hex_text}
use Rattle.spec_terms.specs.Advert.{Advert}
use Rattle.spec_terms.specs.Precondition.{Holding, deposits}
use Rattle.spec_terms.specs.declared.path.PathStep.{PathStep}
use Rattle.spec_bitcoin.specs.declared.label.Label.{Label}
use Rattle.spec_bitcoin.specs.Keys.{path_text}
use Rattle.spec_bitcoin.specs.Spelling.{stripped}
use Rattle.spec_compiler.specs.Keyed.Compilation.{scripts}
use Rattle.spec_compiler.specs.Keyed.Instance.{Instance}
use Rattle.spec_compiler.specs.Keyed.Keys.{Keys, own_script}
use Rattle.spec_compiler.specs.Keyed.OwnScripts.{code_of}
use Rattle.spec_compiler.specs.Keyed.Transactions.{tx_of, digest_of_spent, party_script, payee_script, deposit}
use Rattle.spec_compiler.specs.declared.unsigned.Spent.{Spent}
use Rattle.spec_text.specs.PlanText.{script_line}
use Rattle.spec_text.specs.RunText.{newline}
use Rattle.spec_text.specs.Words.{◌>>=◌}
use Rattle.spec_tool.specs.Keyed.Listed.{Listed, listed, which_text}
use Rattle.spec_address.specs.Address.{address}
use Rattle.spec_deal.specs.declared.transaction.Wallet.{Wallet}
use Rattle.spec_deal.specs.DealText as print
use Rattle.spec_deal.specs.DealText.{address_words, script_words, spent_words, deposit_line, payee_line, is_plain, payee_lines, verb_text}
use Rattle.spec_deal.specs.DealText.{sign_line, digest_line, digest_lines, input_lines, listed_lines, plan_lines, lines_text, plan_text}
use Rattle.spec_deal.specs.Slots.{input_slot, input_slots, verb_of}
use Rattle.spec_deal.specs.Transactions.{no_digest, signer, input, inputs, transaction, transactions}
use Rattle.spec_deal.specs.Used.{paid_parties}
use Rattle.spec_deal.specs.Wallets.{wallet_of, input_wallet, spent_output, has_digest, signer_text}
use Rattle.theory_play_text.specs.Lines.{Words}
use Rattle.theory_plan_text.proofs.AnyLines.{line_text, text_of, text_append, two_words}
use Rattle.theory_deal_text.specs.Asked.{shown_signer}
use Rattle.theory_deal_text.specs.Plan.{shown_script, key_output, shown_deposit, shown_payee, shown_payees, shown_digest, shown_signing}
use Rattle.theory_deal_text.specs.Plan.{shown_inputs, shown_transaction, shown_plan}
use Rattle.theory_deal_text.specs.PlanLines.{PlanLine}
use Rattle.theory_deal_text.specs.PlanLines as line
use Rattle.theory_deal_text.proofs.PlanRead.{address_word, script_and, written}
use Rattle.theory_deal_text.proofs.Words.{line_is, signer_word}

-- ---- texts of lines

-- printed lines are the text of lines that are said
abbrev Writes : List print.PlanLine → List PlanLine → Type 0
Writes xs ls = lines_text xs ≡ text_of written ls

-- one line is
abbrev Writes_one : print.PlanLine → PlanLine → Type 0
Writes_one x l = x.text ≡ line_text written l ++ newline

first : (x : print.PlanLine) (l : PlanLine) (xs : List print.PlanLine) (ls : List PlanLine) → Writes_one x l → Writes xs ls
    → Writes (x ∷ xs) (l ∷ ls)
first x l xs ls h k = λ i. h i ++ k i

join : (xs ys : List print.PlanLine) (ls ms : List PlanLine) → Writes xs ls → Writes ys ms → Writes (xs ++ ys) (ls ++ ms)
join xs ys ls ms h k =
    flat_map-append (λ (x : print.PlanLine). x.text) xs ys ∙ ((λ i. h i ++ k i) ∙ sym (text_append written ls ms))

each : {A : Type 0} (f : A → print.PlanLine) (g : A → PlanLine) → ((a : A) → Writes_one (f a) (g a)) → (as' : List A)
    → Writes (map f as') (map g as')
each f g h [] = refl
each f g h (a ∷ as') = first (f a) (g a) (map f as') (map g as') (h a) (each f g h as')

-- ---- scripts, deposits and payees

script_written : (x : List PathStep × List ℕ) → script_line x ≡ line_text written (line.script (x.0) (x.1)) ++ newline
script_written x = ap (λ (r : List ℕ). codes "script " ++ r) (two_words (path_text x.0) (hex_text x.1) newline)

addressed : (network : Option (List ℕ)) (script : List ℕ)
    → address_words network script ≡ address_word (network >>= λ hrp. address hrp script)
addressed None script = refl
addressed (Some hrp) script = by_address (address hrp script)
  where
    by_address : (o : Option (List ℕ)) → option_map_or (λ text. text ∷ []) o [] ≡ address_word o
    by_address None = refl
    by_address (Some text) = refl

scripted : (network : Option (List ℕ)) (script : List ℕ) → script_words network script ≡ script_and (shown_script network script)
scripted network script = ap (λ (words : Words). hex_text script ∷ words) (addressed network script)

module _ (hash : List ℕ → List ℕ) (network : Option (List ℕ)) (keys : Keys) (s : Instance) where
  -- the output of a deposit
  deposit_output : (name : List ℕ) (h : Holding)
      → (spent_output hash (wallet_of keys name) (deposit hash keys s name h)).script
      ≡ option_map_or (λ own. own) (own_script keys name) (key_output hash keys h.owner)
  deposit_output name h = by_script (own_script keys name)
    where
      spent : Option (List ℕ) → Spent
      spent o = record {
        outpoint = (deposit hash keys s name h).outpoint;
        script = option_map_or code_of o (party_script hash keys h.owner);
        value = h.value;
      }

      wallet_with : List ℕ → Wallet
      wallet_with script = record { deposit = name; script = script }

      by_script : (o : Option (List ℕ))
          → (spent_output hash (option_map wallet_with o) (spent o)).script ≡ option_map_or (λ own. own) o (key_output hash keys h.owner)
      by_script None = refl
      by_script (Some own) = refl

  deposit_written : (d : List ℕ × Holding) → Writes_one (deposit_line hash network keys s d) (line.deposit (shown_deposit hash network keys s d))
  deposit_written d =
      let x = shown_deposit hash network keys s d in
      ap (λ (words : Words). print.line_of
      (codes "deposit" ∷ d.0 ∷ hex_text (reverse x.place.txid) ∷ decimal x.place.vout ∷ decimal x.value ∷ words))
      (ap (script_words network) (deposit_output (d.0) (d.1)) ∙ scripted network x.script.bytes)
      ∙ line_is (codes "deposit") (d.0 ∷ hex_text (reverse x.place.txid) ∷ decimal x.place.vout ∷ decimal x.value ∷ script_and x.script)

  payee_written : (party : List ℕ) → Writes_one (payee_line hash network keys party) (shown_payee hash network keys party)
  payee_written party =
      let script = payee_script hash keys party in
      ap (λ (words : Words). print.line_of (codes "pay" ∷ party ∷ words)) (scripted network script)
      ∙ line_is (codes "pay") (party ∷ script_and (shown_script network script))

  payees_written : Writes (payee_lines hash network keys s) (shown_payees hash network keys s)
  payees_written = by_test (is_plain network keys)
    where
      by_test : (b : Bool)
          → Writes (cond b [] (map (payee_line hash network keys) (paid_parties s.advert)))
          (cond b [] (map (shown_payee hash network keys) (paid_parties s.advert)))
      by_test true = refl
      by_test false = each (payee_line hash network keys) (shown_payee hash network keys) payee_written (paid_parties s.advert)

-- ---- transactions

pub signer_shown : (wallet : Option Wallet) (label : Label) → signer_text wallet label ≡ signer_word (shown_signer wallet label)
signer_shown None label = refl
signer_shown (Some w) label = refl

module _ (hash : List ℕ → List ℕ) (keys : Keys) (advert : Advert) (l : Listed) where
  digest_written : (k : ℕ) (spent : Spent) (wallet : Option Wallet)
      → Writes (digest_lines hash l k wallet spent)
      (cond (has_digest wallet)
      (line.digest l.which k (cond (has_digest wallet) (digest_of_spent hash (tx_of l.pending) spent) no_digest) ∷ []) [])
  digest_written k spent wallet = by_test (has_digest wallet)
    where
      d : List ℕ
      d = digest_of_spent hash (tx_of l.pending) spent

      by_test : (b : Bool) → Writes (cond b (digest_line hash l k spent ∷ []) []) (cond b (line.digest l.which k (cond b d no_digest) ∷ []) [])
      by_test true =
          first (digest_line hash l k spent) (line.digest l.which k d) [] []
          (line_is (codes "digest") (which_text l.which ∷ decimal k ∷ hex_text d ∷ [])) refl
      by_test false = refl

  sign_written : (k : ℕ) (spent : Spent) (all labels : List Label)
      → Writes (map sign_line (input_slots keys advert l k spent labels))
      (map (shown_signing l.which k (input hash keys advert l k spent all)) (map (signer hash keys advert l.which (input_wallet keys advert l.which k)) labels))
  sign_written k spent all [] = refl
  sign_written k spent all (label ∷ labels) =
      let wallet = input_wallet keys advert l.which k in
      let verb = verb_text (verb_of advert l.which label) in
      first (sign_line (input_slot keys advert l k spent label))
      (shown_signing l.which k (input hash keys advert l k spent all) (signer hash keys advert l.which wallet label))
      (map sign_line (input_slots keys advert l k spent labels))
      (map (shown_signing l.which k (input hash keys advert l k spent all)) (map (signer hash keys advert l.which wallet) labels))
      (ap (λ (who : List ℕ). print.line_of (codes "sign" ∷ which_text l.which ∷ decimal k ∷ who ∷ verb ∷ [])) (signer_shown wallet label)
      ∙ line_is (codes "sign") (which_text l.which ∷ decimal k ∷ signer_word (shown_signer wallet label) ∷ verb ∷ []))
      (sign_written k spent all labels)

  inputs_written : (k : ℕ) (spends : List Spent) (signers : List (List Label)) → length signers ≡ length spends
      → Writes (input_lines hash keys advert l k spends signers) (shown_inputs l.which k (inputs hash keys advert l k spends signers))
  inputs_written k [] signers e = refl
  inputs_written k (spent ∷ spends) [] e = absurd (omega (arith, e))
  inputs_written k (spent ∷ spends) (labels ∷ signers) e =
      let wallet = input_wallet keys advert l.which k in
      let i = input hash keys advert l k spent labels in
      join (digest_lines hash l k wallet spent ++ map sign_line (input_slots keys advert l k spent labels))
      (input_lines hash keys advert l (k + 1) spends signers) (shown_digest l.which k i ++ map (shown_signing l.which k i) i.signers)
      (shown_inputs l.which (k + 1) (inputs hash keys advert l (k + 1) spends signers))
      (join (digest_lines hash l k wallet spent) (map sign_line (input_slots keys advert l k spent labels)) (shown_digest l.which k i)
      (map (shown_signing l.which k i) i.signers) (digest_written k spent wallet) (sign_written k spent labels labels))
      (inputs_written (k + 1) spends signers (omega (arith, e)))

  listed_written : length l.signers ≡ length l.pending.spends
      → Writes (listed_lines hash keys advert l) (shown_transaction (transaction hash keys advert l))
  listed_written e =
      let t = transaction hash keys advert l in
      first (print.tx_line hash l) (line.transaction t.which t.txid t.tx) (input_lines hash keys advert l 0 l.pending.spends l.signers)
      (shown_inputs l.which 0 t.inputs)
      (line_is (codes "tx") (which_text l.which ∷ hex_text (reverse t.txid) ∷ hex_text (stripped t.tx) ∷ []))
      (inputs_written 0 l.pending.spends l.signers e)

-- there is a list of signers for each input
abbrev pub HasSigners : Listed → Type 0
HasSigners l = length l.signers ≡ length l.pending.spends

all_written : (hash : List ℕ → List ℕ) (keys : Keys) (advert : Advert) (ls : List Listed) → AllByRecursion HasSigners ls
    → Writes (flat_map (listed_lines hash keys advert) ls) (flat_map shown_transaction (map (transaction hash keys advert) ls))
all_written hash keys advert [] h = refl
all_written hash keys advert (l ∷ ls) h =
    join (listed_lines hash keys advert l) (flat_map (listed_lines hash keys advert) ls) (shown_transaction (transaction hash keys advert l))
    (flat_map shown_transaction (map (transaction hash keys advert) ls)) (listed_written hash keys advert l h.0)
    (all_written hash keys advert ls h.1)

-- ---- the plan

pub plan_written : (hash : List ℕ → List ℕ) (network : Option (List ℕ)) (keys : Keys) (s : Instance)
    → AllByRecursion HasSigners (listed hash keys s) → plan_text hash network keys s ≡ text_of written (shown_plan hash network keys s)
plan_written hash network keys s h =
    let scripts_printed = map (λ p. print.of_runs (script_line p)) (scripts hash keys s) in
    let scripts_said = map (λ p. line.script (p.0) (p.1)) (scripts hash keys s) in
    let deposits_printed = map (deposit_line hash network keys s) (deposits s.advert.pre) in
    let deposits_said = map (λ d. line.deposit (shown_deposit hash network keys s d)) (deposits s.advert.pre) in
    let txs_printed = flat_map (listed_lines hash keys s.advert) (listed hash keys s) in
    let txs_said = flat_map shown_transaction (transactions hash keys s) in
    first (print.of_runs (codes "contract 0 compiled" ++ newline)) line.compiled
    (scripts_printed ++ (deposits_printed ++ (payee_lines hash network keys s ++ txs_printed)))
    (scripts_said ++ (deposits_said ++ (shown_payees hash network keys s ++ txs_said))) refl
    (join scripts_printed (deposits_printed ++ (payee_lines hash network keys s ++ txs_printed)) scripts_said
    (deposits_said ++ (shown_payees hash network keys s ++ txs_said))
    (each (λ p. print.of_runs (script_line p)) (λ p. line.script (p.0) (p.1)) script_written (scripts hash keys s))
    (join deposits_printed (payee_lines hash network keys s ++ txs_printed) deposits_said (shown_payees hash network keys s ++ txs_said)
    (each (deposit_line hash network keys s) (λ d. line.deposit (shown_deposit hash network keys s d)) (deposit_written hash network keys s)
    (deposits s.advert.pre))
    (join (payee_lines hash network keys s) txs_printed (shown_payees hash network keys s) txs_said (payees_written hash network keys s)
    (all_written hash keys s.advert (listed hash keys s) h))))
