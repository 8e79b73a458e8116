-- No output lies at a position of a contract that is compiled just now: an honest party hasn't signed for its initial transaction.
use Rattle.std.proofs.Common.{◌≡◌, ℕ, zero, suc, ◌<◌, ◌≤◌, List, [], ◌∷◌, length, map, true, Option, Some, None, refl, sym, ap, ◌∙◌, subst, arith, length-append, inl, inr}
use Rattle.std.specs.Prelude.{◌⊎◌, slice_get}
use Rattle.spec_data.specs.Lists.{is_among}
use Rattle.spec_terms.specs.Term.{Contract}
use Rattle.spec_terms.specs.Precondition.{Holding, persistent}
use Rattle.spec_terms.specs.declared.path.PathStep.{PathStep}
use Rattle.spec_terms.specs.declared.path.PathStep.TheVariants.{Branch as To, Part as Into}
use Rattle.spec_bitcoin.specs.declared.tx.OutPoint.{OutPoint}
use Rattle.spec_bitcoin.specs.declared.tx.TxIn.{TxIn}
use Rattle.spec_bitcoin.specs.declared.tx.Tx.{Tx}
use Rattle.spec_bitcoin.specs.Spelling.{stripped, IsPlace}
use Rattle.spec_bitcoin.specs.Digests.{txid, digest, opening_transaction}
use Rattle.spec_calculus.specs.Configuration.{Configuration}
use Rattle.spec_compiler.specs.Instance.{Instance, people}
use Rattle.spec_compiler.specs.Hashed.{compiled_strings}
use Rattle.spec_compiler.specs.declared.unsigned.Spent.{Spent}
use Rattle.spec_compiler.specs.declared.unsigned.Unsigned.{Unsigned}
use Rattle.spec_compiler.specs.Transactions.{Standing, input_of, tx_of, deposit, persistent_deposits, branch_unsigned, initial_unsigned, party_script}
use Rattle.spec_compiler.specs.ByPath.{position_at}
use Rattle.spec_run.specs.Setup.{Setup, is_declared, is_honest}
use Rattle.spec_run.specs.World.{Output, World}
use Rattle.spec_run.specs.Owners.{paid_to}
use Rattle.spec_run.specs.Compiled.{compiled_instance}
use Rattle.spec_run.specs.Conditions.{HashesBytes}
use Rattle.spec_run.specs.Event.{opening_outputs}
use Rattle.theory_bitcoin.specs.Apart.{bare_input, bare}
use Rattle.theory_calculus.specs.Members.{Is_in}
use Rattle.theory_calculus.proofs.Members.{in_some}
use Rattle.theory_world.specs.KeptApart.{NoCollision}
use Rattle.theory_world.specs.Transactions.{IsNumbered, HeardLists}
use Rattle.theory_world.proofs.Ledger.Preimages.{double-apart}
use Rattle.theory_world.proofs.Ledger.Bare.{stripped-apart, inputless_apart}
use Rattle.theory_world.proofs.Contracts.Endorsed.{in_map}
use Rattle.theory_world.proofs.Contracts.Made.{MadeBy, by_initial, by_branch, ByBranch, made_by}
use Rattle.theory_world.proofs.Contracts.Mentions.{HasDeposit, has_deposit}
use Rattle.theory_run.specs.KeptBook.{KeptBook, DepositCause, HeardDigest, AllFinal, SpentFor, From, opening_id}
use Rattle.theory_run.proofs.Accepted.Spending.{TransactionsFit, Checked, HeardUnsigned, initial_heard, branch_heard, unsigned_bytes, unsigned_bytes_hash, unsigned_no_scripts, Cause, gift_cause, put_cause, start_cause, cause_of}
use Rattle.theory_run.proofs.Accepted.Accept.{bare_in, spent_for_in}
use Rattle.theory_run.proofs.Facts.OnePosition.{one_initial}

pub in_images : {A B : Type 0} (f : A → B) (xs : List A) (x : A) → Is_in x xs → Is_in (f x) (map f xs)
in_images f [] x h = absurd h
in_images f (y ∷ xs) x (inl e) = inl (ap f e)
in_images f (y ∷ xs) x (inr i) = inr (in_images f xs x i)

-- ---- sequences

-- no input of a gift has the sequence of a contract's transaction
not_final : (spends : List Spent) (xs ys : List TxIn) → map bare_input xs ≡ map bare_input (map input_of spends) → map (λ i. i.sequence) xs
    ≡ map (λ i. i.sequence) ys → AllFinal ys → (x : TxIn) → Is_in x xs → ⊥
not_final spends [] ys e f h x i = absurd i
not_final [] (x ∷ xs) ys e f h y i = cc
not_final (z ∷ spends) (x ∷ xs) [] e f h y i = cc
not_final (z ∷ spends) (x ∷ xs) (y ∷ ys) e f h w i =
    let a : bare_input x ≡ bare_input (input_of z) = cc in
    let b : x.sequence ≡ y.sequence = cc in
    let c : x.sequence ≡ 0xfffffffe = ap (λ (t : TxIn). t.sequence) a in
    let d = h.0 in
    omega (arith, b, c, d)

-- the output that a persistent deposit of a contract is bound to
pub record Lies (s : Setup) (w : World) (st : Instance) (d : List ℕ × Holding) : Type 0 where
  pub number : ℕ
  pub output : Output
  pub there : slice_get w.outputs number ≡ Some output
  pub outpoint : (deposit s.hash st (d.0) (d.1)).outpoint ≡ output.outpoint
  pub script : output.script ≡ paid_to s (d.1).owner
  pub free : output.holds ≡ None
  pub declared : is_declared s (d.1).owner ≡ true

-- a contract that is compiled in the second world and isn't in the first, where all contracts of the first stay compiled
module _ (s : Setup) (size : HashesBytes s.hash) (few_contracts : length s.contracts ≤ 16) (g : Configuration) (w : World)
    (kept : KeptBook s g w) (fit : TransactionsFit s w) (check : Checked s w)
    (next : World) (clear : NoCollision s.hash next.hashed)
    (sub : (t : List ℕ) → is_among t w.hashed ≡ true → is_among t next.hashed ≡ true) (next_fit : TransactionsFit s next) (next_check : Checked s next)
    (heard : (j : ℕ) (su : Instance) → compiled_instance s next j ≡ Some su → (t : List ℕ) → is_among t (compiled_strings s.hash su) ≡ true
    → is_among t next.hashed ≡ true)
    (stays : (j : ℕ) (su : Instance) → compiled_instance s w j ≡ Some su → compiled_instance s next j ≡ Some su)
    (k : ℕ) (st : Instance) (now : compiled_instance s next k ≡ Some st) (before : (su : Instance) → compiled_instance s w k ≡ Some su → ⊥)
    (lies : (d : List ℕ × Holding) → Is_in d (persistent st.advert.pre) → Lies s w st d)
    (a : List ℕ) (part : is_among a (people st) ≡ true) (honest : is_honest s a ≡ true) where
  -- an output of a transaction of this one's id was made by an accepted one that is the same but for witnesses
  by_id : (d : Unsigned) (x : Spent) → Is_in x d.spends → IsNumbered (tx_of d) → HeardUnsigned s.hash next.hashed d → (n : ℕ) (o : Output)
      → slice_get w.outputs n ≡ Some o → o.outpoint.txid ≡ txid s.hash (tx_of d) → ((id : List ℕ) (f : From s w id) → bare f.tx ≡ bare (tx_of d) → ⊥) → ⊥
  by_id d x i fd hd n o there e go = by_origin (kept.origin n o there)
    where
      by_origin : (o.outpoint.txid ≡ opening_id s) ⊎ From s w o.outpoint.txid → ⊥
      by_origin (inl f) =
          let op = opening_transaction (opening_outputs s) in
          let m = double-apart s.hash next.hashed clear (stripped op) (stripped (tx_of d)) (sub _ kept.opened.0)
          (sub _ kept.opened.1) (unsigned_bytes s.hash next.hashed d hd) (unsigned_bytes_hash s.hash next.hashed d hd) (sym f ∙ e) in
          inputless_apart op (tx_of d) refl (in_some (input_of x) (tx_of d).inputs (in_images input_of d.spends x i)) m
      by_origin (inr f) =
          let m = double-apart s.hash next.hashed clear (stripped f.tx) (stripped (tx_of d)) (sub _ f.first)
          (sub _ f.second) (unsigned_bytes s.hash next.hashed d hd) (unsigned_bytes_hash s.hash next.hashed d hd) (sym f.is ∙ e) in
          go o.outpoint.txid f (stripped-apart f.tx (tx_of d) f.no_scripts (unsigned_no_scripts d.spends) f.fits fd m)

  -- ---- the root

  dep : HasDeposit st.advert a
  dep = has_deposit st.advert a (next_check.checked k st now) part

  persists : Is_in (deposit s.hash st dep.name dep.holding) (persistent_deposits s.hash st)
  persists = in_images (λ (e : List ℕ × Holding). deposit s.hash st (e.0) (e.1)) (persistent st.advert.pre) (dep.name, dep.holding) dep.there

  -- what the accepted transaction spent where the unsigned one spends this
  module _ (id : List ℕ) (f : From s w id) (d : Unsigned) (same : bare f.tx ≡ bare (tx_of d)) where
    record SpentThere (x : Spent) : Type 0 where
      pub input : TxIn
      pub among : Is_in input f.tx.inputs
      pub prev : input.prev ≡ x.outpoint
      pub spent : SpentFor s w f.tx input

    spent_there : (x : Spent) → Is_in x d.spends → SpentThere x
    spent_there x i =
        let r = bare_in (map input_of d.spends) f.tx.inputs (input_of x) (ap (λ (y : Tx). y.inputs) (sym same)) (in_images input_of d.spends x i) in
        record { input = r.0; among = r.1; prev = r.2; spent = spent_for_in s w f.tx f.tx.inputs r.0 f.spent r.1 }

  -- no initial transaction was accepted
  not_begun : (id : List ℕ) (f : From s w id) → bare f.tx ≡ bare (tx_of (initial_unsigned s.hash st)) → ⊥
  not_begun id f same = by_cause (cause_of s size g w kept fit check next.hashed clear sub f.tx f.fits f.no_scripts lists a dig sp.input
      (party_script s.hash a) so.output.value placed digest_heard refl cause)
    where
      bound : Lies s w st (dep.name, dep.holding)
      bound = lies (dep.name, dep.holding) dep.there

      sp : SpentThere id f (initial_unsigned s.hash st) same (deposit s.hash st dep.name dep.holding)
      sp = spent_there id f (initial_unsigned s.hash st) same (deposit s.hash st dep.name dep.holding) persists

      so : SpentFor s w f.tx sp.input
      so = sp.spent

      -- it is the honest party's deposit
      number : so.number ≡ bound.number
      number = kept.apart so.number bound.number so.output bound.output so.there bound.there (sym so.outpoint ∙ sp.prev ∙ bound.outpoint)

      output : so.output ≡ bound.output
      output = let e : (let x : Option Output = Some so.output in x) ≡ Some bound.output = sym so.there ∙ ap (slice_get w.outputs) number ∙ bound.there in cc

      script : so.output.script ≡ paid_to s a
      script = ap (λ (x : Output). x.script) output ∙ bound.script ∙ ap (paid_to s) dep.owner

      declared : is_declared s a ≡ true
      declared = subst (λ x. is_declared s x ≡ true) dep.owner bound.declared

      dig : List ℕ
      dig = digest s.hash f.tx sp.input (party_script s.hash a) so.output.value

      cause : DepositCause s g w a (digest s.hash f.tx sp.input (party_script s.hash a) so.output.value)
      cause = kept.deposit_pairs a _ declared honest (so.signed a declared script)

      placed : IsPlace sp.input.prev
      placed = subst IsPlace (sym so.outpoint) (kept.placed_fine so.number so.output so.there)

      digest_heard : HeardDigest s next.hashed f.tx sp.input (party_script s.hash a) so.output.value
      digest_heard = let h = so.heard a declared script in record { first = sub _ h.first; second = sub _ h.second }

      lists : HeardLists s.hash next.hashed f.tx
      lists =
          let h = f.lists in
          record {
            places = sub _ h.places;
            places_hash = sub _ h.places_hash;
            sequences = sub _ h.sequences;
            sequences_hash = sub _ h.sequences_hash;
            outputs = sub _ h.outputs;
            outputs_hash = sub _ h.outputs_hash;
          }

      by_cause : Cause s size g w kept fit check next.hashed clear sub f.tx f.fits f.no_scripts lists a → ⊥
      by_cause (gift_cause d h q) =
          not_final (persistent_deposits s.hash st) f.tx.inputs h.tx.inputs (ap (λ (y : Tx). y.inputs) same) q.sequences h.final sp.input sp.among
      -- a put spends what holds a position first, a bound deposit holds none
      by_cause (put_cause p) =
          let r = bare_in (map input_of (branch_unsigned s.hash p.instance p.here p.index p.branch).spends)
          (map input_of (persistent_deposits s.hash st)) (input_of p.here.output) (ap (λ (y : Tx). y.inputs) (sym p.is ∙ same)) (inl refl) in
          let x = in_map input_of (persistent_deposits s.hash st) r.0 r.1 in
          let y = in_map (λ (e : List ℕ × Holding). deposit s.hash st (e.0) (e.1)) (persistent st.advert.pre) x.0 x.1 in
          let l = lies y.0 y.1 in
          let at : l.output.outpoint ≡ p.here.output.outpoint =
          sym l.outpoint ∙ ap (λ (t : Spent). t.outpoint) (sym y.2) ∙ ap (λ (t : TxIn). t.prev) (sym x.2) ∙ r.2 in
          let h = kept.placed p.contract p.instance p.position p.here p.choice l.number l.output p.compiled p.stands l.there at in
          let no_one = l.free in
          cc
      -- another contract's initial transaction is another one
      by_cause (start_cause t) =
          let e = one_initial s size few_contracts next next_check next.hashed clear heard k t.contract st t.instance now
          (stays t.contract t.instance t.compiled) (sym same ∙ t.is) in
          before t.instance (subst (λ j. compiled_instance s w j ≡ Some t.instance) (sym e) t.compiled)

  -- ---- all positions

  unmade_below : (m : ℕ) (q : List PathStep) (here : Standing) (choice : Contract) (n : ℕ) (o : Output) → length q < m
      → position_at s.hash st q ≡ Some (here, choice) → slice_get w.outputs n ≡ Some o → o.outpoint ≡ here.output.outpoint → ⊥
  unmade_below zero q here choice n o l e there p = absurd (omega (arith, l))
  unmade_below (suc m) q here choice n o l e there p = by_made (made_by s.hash st q here choice e) (unmade_below m)
    where
      -- the position above is nearer to the root
      nearer : (bb : ByBranch s.hash st q here choice) → length bb.is_branch.position < m
      nearer bb =
          let path = ap length bb.is_branch.path_is ∙ length-append bb.is_branch.position (To bb.index ∷ []) in
          elim bb.shape [
            | inl x ↦ (let e = ap length x.5 in omega (arith, l, path, e))
            | inr x ↦ (let e = ap length x.4 ∙ length-append bb.path (Into bb.number ∷ []) in omega (arith, l, path, e))
          ]

      by_made : MadeBy s.hash st q here choice
          → ((q' : List PathStep) (here' : Standing) (choice' : Contract) (n' : ℕ) (o' : Output) → length q' < m → position_at s.hash st q'
          ≡ Some (here', choice') → slice_get w.outputs n' ≡ Some o' → o'.outpoint ≡ here'.output.outpoint → ⊥) → ⊥
      by_made (by_initial root at) ih =
          by_id (initial_unsigned s.hash st) (deposit s.hash st dep.name dep.holding) persists (next_fit.initial k st now)
          (initial_heard s.hash st next.hashed (heard k st now)) n o there
          (ap (λ (y : OutPoint). y.txid) p ∙ ap (λ (y : Standing). y.output.outpoint.txid) at) not_begun
      by_made (by_branch bb) ih =
          let ib = bb.is_branch in
          let d = branch_unsigned s.hash st bb.from_here bb.index bb.branch in
          by_id d bb.from_here.output (inl refl) (next_fit.branch k st ib.position bb.from_here ib.choice bb.index bb.branch now ib.stands
          ib.there) (branch_heard s.hash st next.hashed (heard k st now) ib.position bb.from_here ib.choice bb.index bb.branch ib.stands ib.there)
          n o there (ap (λ (y : OutPoint). y.txid) (p ∙ bb.outpoint)) (λ id f same.
          let sp = spent_there id f d same bb.from_here.output (inl refl) in
          ih ib.position bb.from_here ib.choice sp.spent.number sp.spent.output (nearer bb) ib.stands sp.spent.there (sym sp.spent.outpoint ∙ sp.prev))

  pub unmade : (q : List PathStep) (here : Standing) (choice : Contract) (n : ℕ) (o : Output) → position_at s.hash st q
      ≡ Some (here, choice) → slice_get w.outputs n ≡ Some o → o.outpoint ≡ here.output.outpoint → ⊥
  unmade q here choice n o e there p = unmade_below (suc (length q)) q here choice n o (omega arith) e there p
