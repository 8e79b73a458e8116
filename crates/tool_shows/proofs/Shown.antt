-- What is shown of a run, by its records, its steps and its ledger.
use Rattle.std.proofs.Common.{◌≡◌, ℕ, suc, ◌+◌, ◌<◌, Bool, true, false, cond, List, [], ◌∷◌, ◌++◌, length, drop, get_or, map, refl, sym, ap, ◌∙◌, append_assoc, add-one, zero, append-nil, Option, Some, None}
use Rattle.std.specs.Prelude.{slice_get, option_map}
use Rattle.spec_bitcoin.specs.declared.tx.TxOut.{TxOut}
use Rattle.std.proofs.Math.Seq.{drop-cons}
use Rattle.spec_bitcoin.specs.Live.{Entry as Live}
use Rattle.spec_calculus.specs.declared.step.Step.{Step}
use Rattle.spec_run.specs.declared.outcome.Record.{Record}
use Rattle.spec_run.specs.World.{World, Output}
use Rattle.spec_run.specs.Ledger as ledger
use Rattle.spec_run.specs.Ledger.{chain_of}
use Rattle.spec_run.specs.Translation.{Turn, record_in}
use Rattle.spec_text.specs.declared.entry.Entry.{Entry}
use Rattle.spec_text.specs.Played as shown
use Rattle.spec_text.specs.Played.{entry_of, live_outputs}
use Rattle.bm_report.specs.Entries.{entry_by, entries_by}
use Rattle.tool_shows.specs.Live.{number_and_value}

-- ---- entries

-- one entry more
pub next_entry : (prefix : List Entry) (n : ℕ) (rs : List Record) (ss : List (List Step)) (r : Record) (s : List Step) (all : List Entry)
    → n < length rs → n < length ss → prefix ++ entries_by (drop n rs) (drop n ss) ≡ all
    → (prefix ++ entry_by (get_or rs n r) (get_or ss n s) ∷ []) ++ entries_by (drop (n + 1) rs) (drop (n + 1) ss) ≡ all
next_entry prefix n rs ss r s all less few h =
    append_assoc prefix (entry_by (get_or rs n r) (get_or ss n s) ∷ []) (entries_by (drop (n + 1) rs) (drop (n + 1) ss))
    ∙ ap (λ m. prefix ++ entry_by (get_or rs n r) (get_or ss n s) ∷ entries_by (drop m rs) (drop m ss)) (add-one n)
    ∙ ap (λ xs. prefix ++ entries_by xs (get_or ss n s ∷ drop (suc n) ss)) (sym (drop-cons rs n r less))
    ∙ ap (λ xs. prefix ++ entries_by (drop n rs) xs) (sym (drop-cons ss n s few))
    ∙ h

-- an entry for each turn
pub entries_of_turns : (ts : List Turn) → entries_by (map record_in ts) (map (λ (t : Turn). t.steps) ts) ≡ map entry_of ts
entries_of_turns [] = refl
entries_of_turns (t ∷ ts) = ap (λ (es : List Entry). entry_of t ∷ es) (entries_of_turns ts)

-- ---- live outputs

shown_live : (b : Bool) (n : ℕ) (e : Live) (v : ℕ) (live : List Live) (rest : List (ℕ × ℕ)) → number_and_value e ≡ (n, v) → map number_and_value live ≡ rest
    → map number_and_value (cond b (e ∷ live) live) ≡ shown.onto_live b n v rest
shown_live true n e v live rest same h = λ i. same i ∷ h i
shown_live false n e v live rest same h = h

live_is : (n : ℕ) (os : List Output) → map number_and_value (ledger.live_from n os) ≡ shown.live_from n os
live_is n [] = refl
live_is n (o ∷ os) =
    shown_live o.live n (o.outpoint, (n, ledger.tx_out o)) o.value (ledger.live_from (n + 1) os) (shown.live_from (n + 1) os) refl (live_is (n + 1) os)

-- the live outputs of a world's ledger are those that are shown
pub live_of_chain : (w : World) → map number_and_value (chain_of w).live ≡ live_outputs w
live_of_chain w = live_is 0 w.outputs

-- ---- live outputs, one by one

no_more : (n : ℕ) (xs : List Live) → option_map (λ (e : Live). e.1) (slice_get xs n) ≡ None → map number_and_value (drop n xs) ≡ []
no_more zero [] e = refl
no_more (suc n) [] e = refl
no_more zero (x ∷ xs) e = absurd (cc)
no_more (suc n) (x ∷ xs) e = no_more n xs e

abbrev some_pair : ℕ × TxOut → Option (ℕ × TxOut)
some_pair p = Some p

some_is : (p q : ℕ × TxOut) → some_pair p ≡ some_pair q → p ≡ q
some_is p q e = cc

one_live : (n : ℕ) (xs : List Live) (p : ℕ × TxOut) → option_map (λ (e : Live). e.1) (slice_get xs n) ≡ Some p
    → map number_and_value (drop n xs) ≡ (p.0, (p.1).value) ∷ map number_and_value (drop (suc n) xs)
one_live zero [] p e = absurd (cc)
one_live (suc n) [] p e = absurd (cc)
one_live zero (x ∷ xs) p e = ap (λ (q : ℕ × TxOut). (q.0, (q.1).value) ∷ map number_and_value xs) (some_is (x.1) p e)
one_live (suc n) (x ∷ xs) p e = one_live n xs p e

-- one more
pub next_live : (prefix : List (ℕ × ℕ)) (xs : List Live) (k n : ℕ) (p : ℕ × TxOut) (all : List (ℕ × ℕ)) → k ≡ length prefix → n ≡ length prefix + 1
    → Some p ≡ option_map (λ (e : Live). e.1) (slice_get xs k) → prefix ++ map number_and_value (drop (length prefix) xs) ≡ all
    → (prefix ++ (p.0, (p.1).value) ∷ []) ++ map number_and_value (drop n xs) ≡ all
next_live prefix xs k n p all here next e h =
    append_assoc prefix ((p.0, (p.1).value) ∷ []) (map number_and_value (drop n xs))
    ∙ ap (λ m. prefix ++ (p.0, (p.1).value) ∷ map number_and_value (drop m xs)) (next ∙ add-one (length prefix))
    ∙ ap (λ ls. prefix ++ ls) (sym (one_live (length prefix) xs p (ap (λ m. option_map (λ (e : Live). e.1) (slice_get xs m)) (sym here) ∙ sym e)))
    ∙ h

-- no more
pub last_live : (prefix : List (ℕ × ℕ)) (xs : List Live) (k : ℕ) (all : List (ℕ × ℕ)) → k ≡ length prefix
    → None ≡ option_map (λ (e : Live). e.1) (slice_get xs k) → prefix ++ map number_and_value (drop (length prefix) xs) ≡ all → prefix ≡ all
last_live prefix xs k all here e h =
    sym (append-nil prefix)
    ∙ ap (λ ls. prefix ++ ls) (sym (no_more (length prefix) xs (ap (λ m. option_map (λ (e : Live). e.1) (slice_get xs m)) (sym here) ∙ sym e)))
    ∙ h
