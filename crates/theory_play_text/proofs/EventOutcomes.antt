-- What each event of a run comes to may be printed.
use Rattle.std.proofs.Common.{◌≡◌, ℕ, suc, ◌≤◌, ◌^◌, List, [], ◌∷◌, ◌++◌, map, length, Option, Some}
use Rattle.std.proofs.Common.{None, Result, Ok, Err}
use Rattle.std.proofs.Common.{refl, sym, ap, subst, ◌∙◌, arith}
use Rattle.std.specs.Prelude.{slice_get, option_map, nat_le, ◌&&◌}
use Rattle.std.specs.List.{list_all}
use Rattle.std.proofs.lemmas.Bool.{and_parts}
use Rattle.std.proofs.lemmas.Bool.Decides.{nat_tests}
use Rattle.spec_data.specs.Lists.{look_up, first_reason, are_different}
use Rattle.spec_data.specs.Ranges.{max_money}
use Rattle.spec_terms.specs.Advert.{Advert}
use Rattle.spec_terms.specs.Term as term
use Rattle.spec_terms.specs.Term.{branches}
use Rattle.spec_terms.specs.Core.{core, puts_of, reveals_of}
use Rattle.spec_terms.specs.Faults.{IsWellFormed}
use Rattle.spec_terms.specs.Paths.{at}
use Rattle.spec_terms.specs.Precondition.{deposits, volatile, persistent, secrets, names_of}
use Rattle.spec_terms.specs.Readable.{is_readable_pre, is_readable_entry, is_readable_contract, is_some_list, most_deposits, most_secrets}
use Rattle.spec_terms.specs.declared.pre.Pre.{Pre}
use Rattle.spec_terms.specs.declared.pre.Pre.TheVariants.{Persistent, Volatile, Secret}
use Rattle.spec_terms.specs.declared.path.PathStep.TheVariants.{Branch as To}
use Rattle.spec_bitcoin.specs.declared.tx.TxIn.{TxIn}
use Rattle.spec_bitcoin.specs.declared.tx.Tx.{Tx}
use Rattle.spec_bitcoin.specs.Reading.{transaction_of}
use Rattle.spec_calculus.specs.Configuration.{Configuration}
use Rattle.spec_compiler.specs.Instance.{Instance}
use Rattle.spec_compiler.specs.Transactions.{input_of, prepared, deposit, holding_or_none}
use Rattle.spec_compiler.specs.Transactions.{branch_unsigned, initial_unsigned}
use Rattle.spec_compiler.specs.ByPath.{prepared_at}
use Rattle.spec_run.specs.declared.event.Event.{Event}
use Rattle.spec_run.specs.declared.event.Event.TheVariants as events
use Rattle.spec_run.specs.Setup.{Setup, contract_at}
use Rattle.spec_run.specs.World.{ContractPosition, World, live_position_at}
use Rattle.spec_run.specs.Compiled.{compiled_instance}
use Rattle.spec_run.specs.Conditions.{IsSetup, IsPiece, IsEvent}
use Rattle.spec_run.specs.Ledger.{contract_in, position_path, position_branch, branch_in, reaches}
use Rattle.spec_run.specs.Advertising.{advertise_row}
use Rattle.spec_run.specs.Committing.{commit_row, digest_row, committed_strings}
use Rattle.spec_run.specs.Signing.{with_pairs, endorse_row, init_row, authorise_row, sign_row, prepared_if_compiled}
use Rattle.spec_run.specs.Revealing.{reveal_row}
use Rattle.spec_run.specs.Giving.{given_output, unsigned_gift, signed_input, given_pairs, gift, give_row}
use Rattle.spec_run.specs.Firing.{witnessed, initial_by, initial_witnesses, initial_transaction, taking_of_parts, taking_witnesses}
use Rattle.spec_run.specs.Firing.{taking_transaction}
use Rattle.spec_run.specs.Firing.{taking_of_position, reaches_if, fire_init_row, fire_row}
use Rattle.spec_run.specs.Event.{append_read, mine_row, pending}
use Rattle.theory_bitcoin.proofs.Top.{fault_is_first}
use Rattle.theory_calculus.proofs.Faultless.{no_fault}
use Rattle.theory_script.proofs.Checked.{core_fact, puts_known}
use Rattle.theory_world.specs.Transactions.{IsNumbered}
use Rattle.theory_world.proofs.Tests.{length_map}
use Rattle.theory_world.proofs.Ledger.Preimages.{numbered_few}
use Rattle.theory_world.proofs.Contracts.Checking.{compiled_checked}
use Rattle.theory_world.proofs.Contracts.Standing.{term_choice, term_branches, unsigned_of_branch}
use Rattle.theory_run.specs.KeptRuns.{KeptRun}
use Rattle.theory_run.specs.KeptBook.{HeldFine}
use Rattle.theory_run.proofs.Sizes.{piece_bounds}
use Rattle.theory_run.proofs.Accepted.Spending.{TransactionsFit}
use Rattle.theory_run.proofs.Facts.Bookkeeping.{checks, fits}
use Rattle.theory_run.proofs.Widths.Putting.{no_more}
use Rattle.theory_run.proofs.Events.Quiet.{IsActive, active, held_contract}
use Rattle.theory_run.proofs.Events.Fired.{piece_numbered, started_numbered, taken_numbered}
use Rattle.theory_play_text.specs.Printable.{IsReason, IsOutcome}
use Rattle.theory_play_text.proofs.LedgerAnswers.{first_has, IsHanded, judged_shown}
use Rattle.theory_play_text.proofs.ReadEvents.{IsReadEvent}
use Rattle.theory_play_text.proofs.Refusals.{unless_shown, advertise_shown, commit_shown, digest_shown, init_shown, give_shown, reveal_shown}
use Rattle.theory_play_text.proofs.Refusals.{fire_shown}

-- ---- how many inputs there are

witnessed_length : (is : List TxIn) (ws : List (List (List ℕ))) → length (witnessed is ws) ≡ length is
witnessed_length [] ws = refl
witnessed_length (i ∷ is) [] = refl
witnessed_length (i ∷ is) (w ∷ ws) = ap suc (witnessed_length is ws)

fewer_persistent : (pre : List Pre) → length (persistent pre) ≤ length (deposits pre)
fewer_persistent [] = omega arith
fewer_persistent (Persistent party value name ∷ pre) = let r = fewer_persistent pre in omega (arith, r)
fewer_persistent (Volatile party value name ∷ pre) = let r = fewer_persistent pre in omega (arith, r)
fewer_persistent (Secret party name ∷ pre) = fewer_persistent pre

fewer_volatile : (pre : List Pre) → length (names_of (volatile pre)) ≤ length (deposits pre)
fewer_volatile [] = omega arith
fewer_volatile (Persistent party value name ∷ pre) = let r = fewer_volatile pre in omega (arith, r)
fewer_volatile (Volatile party value name ∷ pre) = let r = fewer_volatile pre in omega (arith, r)
fewer_volatile (Secret party name ∷ pre) = fewer_volatile pre

few_deposits : (a : Advert) → IsWellFormed a → length (deposits a.pre) ≤ 32
few_deposits a h =
    let r = (and_parts (is_readable_pre a.pre) (nat_le a.fee max_money && is_readable_contract a.root) h.readable).0 in
    let p = (and_parts (is_some_list a.pre && list_all is_readable_entry a.pre)
    (nat_le (length (deposits a.pre)) most_deposits && nat_le (length (secrets a.pre)) most_secrets) r).1 in
    let q = (and_parts (nat_le (length (deposits a.pre)) most_deposits) (nat_le (length (secrets a.pre)) most_secrets) p).0 in
    grind (arith, nat_tests, q)

-- a transaction that a piece spells
piece_handed : (bytes : List ℕ) → IsPiece bytes → (tx : Tx) → transaction_of bytes ≡ Ok tx → IsHanded tx
piece_handed bytes piece tx h =
    let b = piece_bounds bytes piece tx h in
    let l = (piece_numbered bytes piece tx h).lock in
    record { inputs = omega (arith, b.0); outputs = omega (arith, b.1); lock = omega (arith, l) }

module _ (s : Setup) (is : IsSetup s) (z : List (List ℕ)) (g : Configuration) (w : World) (kept : KeptRun s z g w)
    (few : length w.outputs ≤ 2 ^ 40) where
  abbrev fit : TransactionsFit s w
  fit = fits s is g w kept.books

  numbered_handed : (tx : Tx) → IsNumbered tx → length tx.inputs ≤ 2 ^ 40 → IsHanded tx
  numbered_handed tx n h =
      let o = numbered_few tx n in
      let l = n.lock in
      record { inputs = h; outputs = omega (arith, o); lock = omega (arith, l) }

  gift_handed : (a : List ℕ) (inputs : List ℕ) (outputs : List (List ℕ × ℕ)) → length inputs ≤ 2 ^ 32 → length outputs ≤ 262144
      → IsHanded (gift s w a inputs outputs)
  gift_handed a inputs outputs h k =
      let i = length_map (signed_input s w a (unsigned_gift s w inputs outputs)) inputs in
      let o = length_map (given_output s) outputs in
      record { inputs = omega (arith, i, h); outputs = omega (arith, o, k); lock = omega arith }

  started_inputs : (contract : ℕ) (o : Option Instance) → compiled_instance s w contract ≡ o → (tx : Tx) → initial_by s o ≡ Some tx
      → length tx.inputs ≤ 2 ^ 40
  started_inputs contract None c tx q = cc
  started_inputs contract (Some st) c tx q =
      let same : initial_transaction s st ≡ tx = cc in
      let d = initial_unsigned s.hash st in
      let a = witnessed_length (map input_of d.spends) (initial_witnesses s st (prepared s.hash d)) in
      let b = length_map input_of d.spends in
      let e = length_map (λ x. deposit s.hash st (x.0) (x.1)) (persistent st.advert.pre) in
      let f = fewer_persistent st.advert.pre in
      let l = few_deposits st.advert (compiled_checked s is w contract st c) in
      let short : length (initial_transaction s st).inputs ≤ 2 ^ 40 = omega (arith, a, b, e, f, l) in
      subst (λ (x : Tx). length x.inputs ≤ 2 ^ 40) same short

  taken_inputs : (n j : ℕ) (tx : Tx) → taking_of_position s w (live_position_at w n) j ≡ Some tx → length tx.inputs ≤ 2 ^ 40
  taken_inputs n j tx h = by_held (live_position_at w n) refl h
    where
      by_held : (o : Option ContractPosition) → live_position_at w n ≡ o → taking_of_position s w o j ≡ Some tx → length tx.inputs ≤ 2 ^ 40
      by_held None e q = cc
      by_held (Some held) e q = by_branch (position_branch s held j) refl q
        where
          act : IsActive w n held
          act = active w n held e

          hf : HeldFine s w act.output held
          hf = kept.books.book.held n act.output held act.there act.holds

          compiled : compiled_instance s w held.contract ≡ Some hf.instance
          compiled = hf.compiled

          chosen : contract_in (contract_at s held.contract) held.position ≡ Some hf.choice
          chosen = ap (λ o. contract_in o held.position) (held_contract s w held act.output hf)
              ∙ term_choice s.hash hf.instance held.position hf.here hf.choice hf.stands

          by_branch : (o : Option term.Guarded) → position_branch s held j ≡ o
              → taking_of_parts s w held j (compiled_instance s w held.contract) (contract_in (contract_at s held.contract) held.position)
              (position_branch s held j) (prepared_if_compiled s (compiled_instance s w held.contract) (position_path held j)) ≡ Some tx
              → length tx.inputs ≤ 2 ^ 40
          by_branch None b x =
              let y = sym (λ i. taking_of_parts s w held j (compiled i) (chosen i) (b i)
              (prepared_if_compiled s (compiled i) (position_path held j))) ∙ x in
              cc
          by_branch (Some c) b x =
              let text : at hf.instance.advert.root (held.position ++ To j ∷ []) ≡ Some c = ap (λ o. branch_in o (position_path held j))
              (sym (held_contract s w held act.output hf)) ∙ b in
              let there : slice_get (branches hf.choice) j ≡ Some c = sym
              (term_branches s.hash hf.instance held.position hf.here hf.choice j hf.stands) ∙ text in
              let d = branch_unsigned s.hash hf.instance hf.here j c in
              let made : prepared_at s.hash hf.instance (position_path held j) ≡ Some (prepared s.hash d) = ap
              (option_map (prepared s.hash)) (unsigned_of_branch s.hash hf.instance held.position hf.here hf.choice j c hf.stands there) in
              let y : (let o : Option Tx = Some (taking_transaction s w hf.instance held j hf.choice c (prepared s.hash d)) in
              o) ≡ Some tx =
              sym (λ i. taking_of_parts s w held j (compiled i) (chosen i) (b i)
              ((ap (λ o. prepared_if_compiled s o (position_path held j)) compiled ∙ made) i)) ∙ x in
              let same : taking_transaction s w hf.instance held j hf.choice c (prepared s.hash d) ≡ tx = cc in
              let well = compiled_checked s is w held.contract hf.instance compiled in
              let ch = term_choice s.hash hf.instance held.position hf.here hf.choice hf.stands in
              let f = no_fault hf.instance.advert well in
              let known = puts_known hf.instance.advert well held.position hf.choice ch j c there in
              let once = (and_parts (are_different (puts_of (core c))) (are_different (reveals_of (core c)))
              (core_fact (λ y. are_different (puts_of y) && are_different
              (reveals_of y)) hf.instance.advert held.position hf.choice j c f.1.1.1.0 ch there)).0 in
              let m = no_more (puts_of (core c)) (names_of (volatile hf.instance.advert.pre)) once known in
              let v = fewer_volatile hf.instance.advert.pre in
              let l = few_deposits hf.instance.advert well in
              let p = length_map (λ name. deposit s.hash hf.instance name
              (holding_or_none (look_up name (volatile hf.instance.advert.pre)))) (puts_of (core c)) in
              let a = witnessed_length (map input_of d.spends) (taking_witnesses s w hf.instance held j hf.choice c (prepared s.hash d)) in
              let r = length_map input_of d.spends in
              let short : length (taking_transaction s w hf.instance held j hf.choice c (prepared s.hash d)).inputs ≤ 2 ^ 40 =
              omega (arith, a, r, p, m, v, l) in
              subst (λ (t : Tx). length t.inputs ≤ 2 ^ 40) same short

  reached : (tx : Tx) → IsHanded tx → IsOutcome (reaches s w w tx).outcome
  reached tx h = judged_shown s w w few tx h

  reached_if : (o : Option Tx) → ((tx : Tx) → o ≡ Some tx → IsHanded tx) → IsOutcome (reaches_if s w o).outcome
  reached_if None f = tt
  reached_if (Some tx) f = reached tx (f tx refl)

  read_shown : (bytes : List ℕ) → IsPiece bytes → (r : Result Tx ℕ) → transaction_of bytes ≡ r → IsOutcome (append_read s w r).outcome
  read_shown bytes piece (Ok tx) e = reached tx (piece_handed bytes piece tx e)
  read_shown bytes piece (Err place) e =
      let p = (fault_is_first bytes place piece.bytes e).within in
      let l = piece.size in
      omega (arith, p, l)

  started : (contract : ℕ) (tx : Tx) → initial_by s (compiled_instance s w contract) ≡ Some tx → IsHanded tx
  started contract tx e =
      numbered_handed tx
      (started_numbered s is.hash is.few_contracts z g w kept.books.book fit (checks s is g w kept.books) kept.books.clear contract tx e)
      (started_inputs contract (compiled_instance s w contract) refl tx e)

  taken : (n j : ℕ) (tx : Tx) → taking_of_position s w (live_position_at w n) j ≡ Some tx → IsHanded tx
  taken n j tx e =
      numbered_handed tx
      (taken_numbered s is.hash is.few_contracts z g w kept.books.book fit (checks s is g w kept.books) kept.books.clear n j tx e)
      (taken_inputs n j tx e)

  -- what the event comes to
  pub pending_shown : (e : Event) → IsEvent s e → IsReadEvent e → IsOutcome (pending s w e).outcome
  pending_shown (events.Advertise k bs) h r =
      unless_shown w (first_reason (advertise_row s w k bs)) [] _ (advertise_shown s is w k bs r) tt
  pending_shown (events.Commit k a ds) h r =
      unless_shown w (first_reason (commit_row s w k a ds)) [] _ (commit_shown s is w k a ds)
      (unless_shown w (first_reason (digest_row s w k a ds)) (committed_strings s k a) _ (digest_shown s is w k a ds r) tt)
  pending_shown (events.Endorse k a) h r =
      unless_shown w (first_reason (endorse_row s w k a)) [] _
      (first_has IsReason (endorse_row s w k a) (λ x. tt, (λ x. tt, (λ x. tt, tt)))) tt
  pending_shown (events.Init k a) h r = unless_shown w (first_reason (init_row s w k a)) [] _ (init_shown s is w k a) tt
  pending_shown (events.Authorise a n i) h r =
      unless_shown w (first_reason (authorise_row s w a n i)) [] _
      (first_has IsReason (authorise_row s w a n i) (λ x. tt, (λ x. tt, (λ x. tt, tt)))) tt
  pending_shown (events.Reveal k a x) h r = unless_shown w (first_reason (reveal_row s w k a x)) [] _ (reveal_shown s is w k a x r) tt
  pending_shown (events.Post bytes) h r = tt
  pending_shown (events.Sign a l d) h r =
      unless_shown w (first_reason (sign_row s a l)) [] _ (first_has IsReason (sign_row s a l) (λ x. tt, (λ x. tt, tt))) tt
  pending_shown (events.Give a inputs outputs) h r =
      let pairs = given_pairs s w a inputs outputs in
      unless_shown w (first_reason (give_row s w a inputs outputs)) [] _ (give_shown s is w a inputs outputs r.0)
      (judged_shown s w (with_pairs w pairs) few (gift s w a inputs outputs) (gift_handed a inputs outputs r.1 h.few_outputs))
  pending_shown (events.Append bytes) h r = read_shown bytes h (transaction_of bytes) refl
  pending_shown (events.FireInit k) h r =
      unless_shown w (first_reason (fire_init_row s w k)) [] _ (first_has IsReason (fire_init_row s w k) (λ x. tt, (λ x. tt, tt)))
      (reached_if (initial_by s (compiled_instance s w k)) (started k))
  pending_shown (events.Fire n i) h r =
      unless_shown w (first_reason (fire_row s w n i)) [] _ (fire_shown s is w n i)
      (reached_if (taking_of_position s w (live_position_at w n) i) (taken n i))
  pending_shown (events.Mine n) h r =
      unless_shown w (first_reason (mine_row w n)) [] _ (first_has IsReason (mine_row w n) (λ x. tt, tt)) tt
