-- What the verdict says of each input of an accepted transaction, and what is hashed of it.
use Rattle.std.proofs.Common.{◌≡◌, ℕ, ◌+◌, List, [], ◌∷◌, ◌++◌, length, map, true, false, not, Option, Some, None, refl, sym, ap, ◌∙◌, subst, arith}
use Rattle.std.specs.Prelude.{◌==◌, ◌&&◌, slice_get, is_some}
use Rattle.std.specs.List.{list_all, list_any, flat_map}
use Rattle.std.specs.Option.{option_and_then, option_map_or}
use Rattle.std.specs.Str.{bytes_eq}
use Rattle.std.proofs.lemmas.Bool.{and_parts, and_from, or_parts, eqb-true, not-false, not_from_false}
use Rattle.std.proofs.lemmas.Bool.Decides.{nat_tests}
use Rattle.std.proofs.lemmas.List.Concat.{flat_map-cons}
use Rattle.spec_data.specs.Lists.{is_among, are_distinct, first_reason}
use Rattle.spec_data.proofs.ListLemmas.{no_reason-none_true, or_else-none}
use Rattle.spec_bitcoin.specs.declared.tx.TxIn.{TxIn}
use Rattle.spec_bitcoin.specs.declared.tx.TxOut.{TxOut}
use Rattle.spec_bitcoin.specs.declared.tx.Tx.{Tx}
use Rattle.spec_bitcoin.specs.Spelling.{is_filled, stripped}
use Rattle.spec_bitcoin.specs.Digests.{txid_strings, shared_strings, preimage, digest}
use Rattle.spec_bitcoin.specs.Keys.{is_valid, pay_to}
use Rattle.spec_bitcoin.specs.Live.{Entry, at_place}
use Rattle.spec_bitcoin.specs.Meaning.{script_meaning}
use Rattle.spec_bitcoin.specs.Verdict.{first_missing, whole_row, pays_to_script, program_of, script_of, items_of, is_long, input_row, input_refusal, inputs_refusal, spent_number, is_not_final, input_strings}
use Rattle.spec_compiler.specs.Statements.{is_short}
use Rattle.spec_run.specs.Setup.{Setup}
use Rattle.spec_run.specs.World.{Output, World}
use Rattle.spec_run.specs.Ledger.{live_from, tx_out, strings_of}
use Rattle.theory_calculus.proofs.Names.{bytes-true}
use Rattle.theory_world.proofs.Same.{place-true}
use Rattle.theory_world.proofs.Ledger.Found.{found, none_missing}
use Rattle.theory_world.proofs.Ledger.Worth.{IsAccepted, IsBalanced, balanced}
use Rattle.theory_world.proofs.Hashed.{among_left, among_right, among_head, among_tail}

-- ---- one input

-- the input spends this output, whose script is true
pub record IsSpent (s : Setup) (w : World) (tx : Tx) (n : ℕ) (i : TxIn) : Type 0 where
  pub output : Output
  pub there : slice_get w.outputs n ≡ Some output
  pub live : output.live ≡ true
  pub outpoint : i.prev ≡ output.outpoint
  pub no_script : i.script_sig ≡ []
  pub filled : is_filled i.witness ≡ true
  pub pays : output.script ≡ pay_to (s.hash (script_of i.witness))
  pub short : list_all is_short (items_of i.witness) ≡ true
  pub runs : script_meaning s.hash (is_valid w.book (digest s.hash tx i (script_of i.witness) output.value)) (script_of i.witness) (items_of i.witness) ≡ true
  -- the entry of the ledger that it was found by
  pub entry : at_place (live_from 0 w.outputs) i.prev ≡ Some (n, tx_out output)

script_pays : (script h : List ℕ) → pays_to_script script ≡ true → bytes_eq h (program_of script) ≡ true → script ≡ pay_to h
script_pays [] h p e = cc
script_pays (a ∷ []) h p e = cc
script_pays (a ∷ b ∷ program) h p e =
    let q = and_parts (a == 0) ((b == 32) && (length program == 32)) p in
    let r = and_parts (b == 32) (length program == 32) q.1 in
    let x = eqb-true a 0 q.0 in
    let y = eqb-true b 32 r.0 in
    let z = bytes-true h program e in
    let u = sym z in λ i. x i ∷ y i ∷ u i

shorts : (items : List (List ℕ)) → list_any is_long items ≡ false → list_all is_short items ≡ true
shorts [] h = refl
shorts (x ∷ items) h =
    let p = or_parts (is_long x) (list_any is_long items) h in
    let e : is_short x ≡ true = (let f = p.0 in grind (arith, nat_tests)) in
    and_from _ _ e (shorts items p.1)

module _ (s : Setup) (w : World) (tx : Tx) where
  abbrev live : List Entry
  live = live_from 0 w.outputs

  one_spent : (k : ℕ) (i : TxIn) (q : ℕ × TxOut) → at_place live i.prev ≡ Some q → first_reason (input_row s.hash w.book tx k i q.1) ≡ None
      → IsSpent s w tx (q.0) i
  one_spent k i q e h =
      let f = found w.outputs i.prev 0 q e in
      let row = no_reason-none_true (input_row s.hash w.book tx k i q.1) h in
      let n : q.0 ≡ f.number = (let c = f.counted in omega (arith, c)) in
      let sig = not-false _ row.0 in
      let pf = and_parts (pays_to_script q.1.script) (is_filled i.witness) (not-false _ row.1.0) in
      let o = f.output in
      let sc : q.1.script ≡ o.script = ap (λ (x : TxOut). x.script) f.same in
      let va : q.1.value ≡ o.value = ap (λ (x : TxOut). x.value) f.same in
      record {
        output = o;
        there = ap (slice_get w.outputs) n ∙ f.there;
        live = f.live;
        outpoint = place-true i.prev o.outpoint f.here;
        no_script = empty i.script_sig sig;
        filled = pf.1;
        pays = sym sc ∙ script_pays q.1.script (s.hash (script_of i.witness)) pf.0 (not-false _ row.1.1.0);
        short = shorts (items_of i.witness) row.1.1.1.0;
        runs = subst (λ v. script_meaning s.hash (is_valid w.book (digest s.hash tx i (script_of i.witness) v)) (script_of i.witness)
            (items_of i.witness) ≡ true) va (not-false _ row.1.1.1.1.0);
        entry = e ∙ (λ j. Some (q.0, f.same j));
      }
    where
      empty : (xs : List ℕ) → (length xs == 0) ≡ true → xs ≡ []
      empty [] x = refl
      empty (y ∷ ys) x = absurd (let z = eqb-true (length (y ∷ ys)) 0 x in omega (arith, z))

  -- the inputs spend the outputs of these numbers, one by one
  abbrev pub AllSpent : List ℕ → List TxIn → Type 0
  AllSpent [] [] = Unit {0}
  AllSpent (n ∷ ns) (i ∷ is) = IsSpent s w tx n i × AllSpent ns is
  AllSpent [] (i ∷ is) = ⊥
  AllSpent (n ∷ ns) [] = ⊥

  all_spent : (k : ℕ) (is : List TxIn) → list_all (λ i. is_some (at_place live i.prev)) is ≡ true
      → inputs_refusal s.hash w.book live tx k is ≡ None → AllSpent (map (spent_number live) is) is
  all_spent k [] h r = tt
  all_spent k (i ∷ is) h r =
      let p = and_parts (is_some (at_place live i.prev)) (list_all (λ j. is_some (at_place live j.prev)) is) h in
      let q = or_else-none (input_refusal s.hash w.book live tx k i) (inputs_refusal s.hash w.book live tx (k + 1) is) r in
      (by_entry (at_place live i.prev) refl p.0 q.0, all_spent (k + 1) is p.1 q.1)
    where
      by_entry : (o : Option (ℕ × TxOut)) → at_place live i.prev ≡ o → is_some o ≡ true
          → option_and_then (λ p. first_reason (input_row s.hash w.book tx k i p.1)) o ≡ None
          → IsSpent s w tx (option_map_or (λ p. p.0) o 0) i
      by_entry None e x y = cc
      by_entry (Some v) e x y = one_spent k i v e y

-- what is known of an accepted transaction
pub record Accepting (s : Setup) (w : World) (tx : Tx) (spent : List ℕ) : Type 0 where
  pub spends : AllSpent s w tx spent tx.inputs
  pub distinct : are_distinct spent ≡ true
  pub some : not (length tx.inputs == 0) ≡ true
  pub makes : not (length tx.outputs == 0) ≡ true
  pub final : is_not_final w.tip tx ≡ false
  pub balance : IsBalanced w tx spent

pub accepting : (s : Setup) (w : World) (tx : Tx) (spent : List ℕ) → IsAccepted s w tx spent → Accepting s w tx spent
accepting s w tx spent a =
    let lv = live_from 0 w.outputs in
    let two = or_else-none (first_reason (whole_row w.tip lv tx)) (inputs_refusal s.hash w.book lv tx 0 tx.inputs) a.none in
    let row = no_reason-none_true (whole_row w.tip lv tx) two.0 in
    let there = none_missing w.outputs 0 tx.inputs (is_none (first_missing lv tx.inputs) row.1.1.1.0) in
    let b = balanced s w tx spent a in
    record {
      spends = subst (λ ns. AllSpent s w tx ns tx.inputs) (sym a.numbers) (all_spent s w tx 0 tx.inputs there two.1);
      distinct = b.distinct;
      some = not_from_false _ row.0;
      makes = not_from_false _ row.1.0;
      final = row.1.1.1.1.1.1.0;
      balance = b;
    }
  where
    is_none : (r : Option ℕ) → is_some r ≡ false → r ≡ None
    is_none None h = refl
    is_none (Some n) h = cc

-- ---- what is hashed of it

-- every string of a transaction is among these
pub record HeardAll (s : Setup) (w : World) (hs : List (List ℕ)) (tx : Tx) : Type 0 where
  pub heard : (t : List ℕ) → is_among t (strings_of s w tx) ≡ true → is_among t hs ≡ true

module _ (s : Setup) (w : World) (hs : List (List ℕ)) (tx : Tx) (h : HeardAll s w hs tx) where
  abbrev inner : List (List ℕ)
  inner = flat_map (input_strings s.hash (live_from 0 w.outputs) tx) tx.inputs

  pub heard_bytes : is_among (stripped tx) hs ≡ true
  heard_bytes = h.heard (stripped tx) (among_left (stripped tx) (txid_strings s.hash tx ++ shared_strings s.hash tx) inner
      (among_left (stripped tx) (txid_strings s.hash tx) (shared_strings s.hash tx) (among_head (stripped tx) (s.hash (stripped tx) ∷ []))))

  pub heard_bytes_hash : is_among (s.hash (stripped tx)) hs ≡ true
  heard_bytes_hash = h.heard (s.hash (stripped tx))
      (among_left (s.hash (stripped tx)) (txid_strings s.hash tx ++ shared_strings s.hash tx) inner
      (among_left (s.hash (stripped tx)) (txid_strings s.hash tx) (shared_strings s.hash tx)
      (among_tail (s.hash (stripped tx)) (stripped tx) (s.hash (stripped tx) ∷ []) (among_head (s.hash (stripped tx)) []))))

  pub heard_shared : (t : List ℕ) → is_among t (shared_strings s.hash tx) ≡ true → is_among t hs ≡ true
  heard_shared t i =
      h.heard t (among_left t (txid_strings s.hash tx ++ shared_strings s.hash tx) inner (among_right t (txid_strings s.hash tx) (shared_strings s.hash tx) i))

  -- the script of an input, what it signs, and the hash of that
  pub record HeardInput (i : TxIn) (value : ℕ) : Type 0 where
    pub script : is_among (script_of i.witness) hs ≡ true
    pub signed : is_among (preimage s.hash tx i (script_of i.witness) value) hs ≡ true
    pub signed_hash : is_among (s.hash (preimage s.hash tx i (script_of i.witness) value)) hs ≡ true

  pub heard_input : (i : TxIn) (n : ℕ) → ((t : List ℕ) → is_among t (input_strings s.hash (live_from 0 w.outputs) tx i) ≡ true
      → is_among t inner ≡ true) → (sp : IsSpent s w tx n i) → HeardInput i sp.output.value
  heard_input i n sub sp =
      let script = script_of i.witness in
      let m = preimage s.hash tx i script sp.output.value in
      let strings : List (List ℕ) = script ∷ m ∷ s.hash m ∷ [] in
      let e : input_strings s.hash (live_from 0 w.outputs) tx i ≡ strings = rw (sp.filled, sp.entry) refl in
      let up : (t : List ℕ) → is_among t strings ≡ true → is_among t hs ≡ true =
      λ t k. h.heard t
      (among_right t (txid_strings s.hash tx ++ shared_strings s.hash tx) inner (sub t (subst (λ ts. is_among t ts ≡ true) (sym e) k))) in
      record {
        script = up script (among_head script (m ∷ s.hash m ∷ []));
        signed = up m (among_tail m script (m ∷ s.hash m ∷ []) (among_head m (s.hash m ∷ [])));
        signed_hash = up (s.hash m) (among_tail (s.hash m) script (m ∷ s.hash m ∷ []) (among_tail (s.hash m) m (s.hash m ∷ []) (among_head (s.hash m) [])));
      }

-- the strings of a later input are among those of all
pub later_strings : (f : TxIn → List (List ℕ)) (i : TxIn) (is : List TxIn) (t : List ℕ) → is_among t (flat_map f is) ≡ true
    → is_among t (flat_map f (i ∷ is)) ≡ true
later_strings f i is t h = subst (λ ts. is_among t ts ≡ true) (sym (flat_map-cons f i is)) (among_right t (f i) (flat_map f is) h)

pub first_strings : (f : TxIn → List (List ℕ)) (i : TxIn) (is : List TxIn) (t : List ℕ) → is_among t (f i) ≡ true → is_among t (flat_map f (i ∷ is)) ≡ true
first_strings f i is t h = subst (λ ts. is_among t ts ≡ true) (sym (flat_map-cons f i is)) (among_left t (f i) (flat_map f is) h)
