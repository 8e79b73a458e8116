-- What is kept after an event that hands a transaction to the ledger, but for a gift: raw transactions, initial transactions and branches.
use Rattle.std.proofs.Common.{◌≡◌, ℕ, ◌≤◌, List, [], ◌∷◌, ◌++◌, length, Option, Some, None, Result, Ok, Err, refl, sym, ap, ◌∙◌, subst, arith}
use Rattle.std.specs.Prelude.{slice_get, option_map}
use Rattle.spec_data.specs.Lists.{first_reason}
use Rattle.spec_terms.specs.Term as term
use Rattle.spec_terms.specs.Term.{branches}
use Rattle.spec_terms.specs.Paths.{at}
use Rattle.spec_terms.specs.declared.path.PathStep.TheVariants.{Branch as To}
use Rattle.spec_bitcoin.specs.declared.tx.Tx.{Tx}
use Rattle.spec_bitcoin.specs.declared.verdict.Verdict.{Verdict}
use Rattle.spec_bitcoin.specs.declared.verdict.Verdict.TheVariants as verdicts
use Rattle.spec_bitcoin.specs.Reading.{transaction_of}
use Rattle.spec_calculus.specs.Configuration.{Configuration}
use Rattle.spec_calculus.specs.Steps.{after_steps}
use Rattle.spec_compiler.specs.Instance.{Instance}
use Rattle.spec_compiler.specs.Transactions.{tx_of, prepared, branch_unsigned, initial_unsigned}
use Rattle.spec_compiler.specs.ByPath.{prepared_at}
use Rattle.spec_run.specs.declared.event.Event.{Event}
use Rattle.spec_run.specs.declared.outcome.Reason.TheVariants as reason
use Rattle.spec_run.specs.Setup.{Setup, contract_at}
use Rattle.spec_run.specs.World.{ContractPosition, World, live_position_at}
use Rattle.spec_run.specs.Compiled.{compiled_instance}
use Rattle.spec_run.specs.Conditions.{HashesBytes, IsPiece}
use Rattle.spec_run.specs.Pending.{applied}
use Rattle.spec_run.specs.Ledger.{verdict_in, strings_of, accepted, judged, reaches, contract_in, position_path, position_branch, branch_in}
use Rattle.spec_run.specs.Firing.{initial_by, initial_witnesses, initial_transaction, taking_of_parts, taking_witnesses, taking_transaction, taking_of_position, reaches_if, fire_init_row, fire_init_pending, fire_row, fire_pending}
use Rattle.spec_run.specs.Signing.{prepared_if_compiled}
use Rattle.spec_run.specs.Event.{append_read}
use Rattle.spec_run.specs.Steps.{steps_of}
use Rattle.theory_bitcoin.proofs.Top.{read_is_spelled}
use Rattle.theory_world.specs.KeptApart.{NoCollision}
use Rattle.theory_world.specs.Transactions.{IsNumbered}
use Rattle.theory_world.proofs.Ledger.Preimages.{numbered}
use Rattle.theory_world.proofs.Ledger.Bare.{bare_numbered}
use Rattle.theory_world.proofs.Ledger.Acceptable.{with-bare}
use Rattle.theory_world.proofs.Contracts.Standing.{term_choice, term_branches, unsigned_of_branch}
use Rattle.theory_world.proofs.Ledger.Worth.{accepted_by}
use Rattle.theory_run.specs.KeptBook.{KeptBook, HeldFine}
use Rattle.theory_run.proofs.Accepted.Spending.{TransactionsFit, Checked}
use Rattle.theory_run.proofs.Accepted.Reached.{reached_kept}
use Rattle.theory_run.proofs.Sizes.{outputs_short}
use Rattle.theory_world.proofs.Staying.{inits_stay, asked_stay}
use Rattle.theory_run.proofs.Events.Quiet.{IsActive, active, held_contract, KeptAfter, refused_after, unless_after}

-- a transaction that a piece spells
pub piece_numbered : (bytes : List ℕ) → IsPiece bytes → (tx : Tx) → transaction_of bytes ≡ Ok tx → IsNumbered tx
piece_numbered bytes piece tx h =
    let sp = read_is_spelled bytes tx piece.bytes h in
    let a = outputs_short tx in
    let b = ap length sp.same in
    let c = piece.size in
    numbered tx sp.fits (omega (arith, a, b, c))

-- ---- events

module _ (s : Setup) (size : HashesBytes s.hash) (few_contracts : length s.contracts ≤ 16) (strings : List (List ℕ)) (g : Configuration)
    (w : World) (kept : KeptBook s g w) (fit : TransactionsFit s w) (check : Checked s w) (clear : NoCollision s.hash w.hashed) where
  -- whatever the ledger says of a transaction without new signatures
  pub reaches_after : (e : Event) (tx : Tx) → IsNumbered tx → KeptAfter s size few_contracts strings g w kept check clear e (reaches s w w tx)
  reaches_after e tx fine = by_verdict (verdict_in s w tx) refl
    where
      by_verdict : (v : Verdict) → verdict_in s w tx ≡ v → KeptAfter s size few_contracts strings g w kept check clear e (judged s w w tx v)
      by_verdict (verdicts.Refused r) h = refused_after s size few_contracts strings g w kept check clear e (strings_of s w tx) (reason.Ledger r)
      by_verdict (verdicts.Accepted spent made) h = λ apart.
          let xs = steps_of s strings g w (applied w (accepted s w tx spent)) e (accepted s w tx spent) in
          reached_kept s size few_contracts g (after_steps g xs) w kept fit check (inits_stay xs g) (asked_stay xs g) tx fine spent
          (accepted_by s w tx spent made h) clear apart

  pub reaches_if_after : (e : Event) (o : Option Tx) → ((tx : Tx) → o ≡ Some tx → IsNumbered tx)
      → KeptAfter s size few_contracts strings g w kept check clear e (reaches_if s w o)
  reaches_if_after e None fine = refused_after s size few_contracts strings g w kept check clear e [] reason.NotCompiled
  reaches_if_after e (Some tx) fine = reaches_after e tx (fine tx refl)

  -- a raw transaction
  pub append_after : (e : Event) (bytes : List ℕ) → IsPiece bytes
      → KeptAfter s size few_contracts strings g w kept check clear e (append_read s w (transaction_of bytes))
  append_after e bytes piece = by_read (transaction_of bytes) refl
    where
      by_read : (r : Result Tx ℕ) → transaction_of bytes ≡ r → KeptAfter s size few_contracts strings g w kept check clear e (append_read s w r)
      by_read (Ok tx) h = reaches_after e tx (piece_numbered bytes piece tx h)
      by_read (Err place) h = refused_after s size few_contracts strings g w kept check clear e [] (reason.BadTx place)

  -- an initial transaction
  pub started_numbered : (contract : ℕ) (tx : Tx) → initial_by s (compiled_instance s w contract) ≡ Some tx → IsNumbered tx
  started_numbered contract tx h = by_compiled (compiled_instance s w contract) refl h
    where
      by_compiled : (o : Option Instance) → compiled_instance s w contract ≡ o → initial_by s o ≡ Some tx → IsNumbered tx
      by_compiled None c q = cc
      by_compiled (Some st) c q =
          let z : initial_transaction s st ≡ tx = cc in
          subst IsNumbered z (bare_numbered (initial_transaction s st) (tx_of (initial_unsigned s.hash st))
          (with-bare (tx_of (initial_unsigned s.hash st)) (initial_witnesses s st (prepared s.hash (initial_unsigned s.hash st))))
          (fit.initial contract st c))

  pub fire_init_after : (e : Event) (contract : ℕ) → KeptAfter s size few_contracts strings g w kept check clear e (fire_init_pending s w contract)
  fire_init_after e contract =
      unless_after s size few_contracts strings g w kept check clear e (first_reason (fire_init_row s w contract)) []
      (reaches_if s w (initial_by s (compiled_instance s w contract)))
      (λ r. reaches_if_after e (initial_by s (compiled_instance s w contract)) (started_numbered contract))

  -- the transaction of a branch
  pub taken_numbered : (n j : ℕ) (tx : Tx) → taking_of_position s w (live_position_at w n) j ≡ Some tx → IsNumbered tx
  taken_numbered n j tx h = by_held (live_position_at w n) refl h
    where
      by_held : (o : Option ContractPosition) → live_position_at w n ≡ o → taking_of_position s w o j ≡ Some tx → IsNumbered tx
      by_held None e q = cc
      by_held (Some held) e q = by_branch (position_branch s held j) refl q
        where
          act : IsActive w n held
          act = active w n held e

          hf : HeldFine s w act.output held
          hf = kept.held n act.output held act.there act.holds

          st : Instance
          st = hf.instance

          compiled : compiled_instance s w held.contract ≡ Some hf.instance
          compiled = hf.compiled

          chosen : contract_in (contract_at s held.contract) held.position ≡ Some hf.choice
          chosen = ap (λ o. contract_in o held.position) (held_contract s w held act.output hf)
              ∙ term_choice s.hash hf.instance held.position hf.here hf.choice hf.stands

          by_branch : (o : Option term.Guarded) → position_branch s held j ≡ o
              → taking_of_parts s w held j (compiled_instance s w held.contract) (contract_in (contract_at s held.contract) held.position)
              (position_branch s held j) (prepared_if_compiled s (compiled_instance s w held.contract) (position_path held j)) ≡ Some tx → IsNumbered tx
          by_branch None b x =
              let y = sym (λ i. taking_of_parts s w held j (compiled i) (chosen i) (b i) (prepared_if_compiled s (compiled i) (position_path held j))) ∙ x in
              cc
          by_branch (Some c) b x =
              let text : at hf.instance.advert.root (held.position ++ To j ∷ []) ≡ Some c =
              ap (λ o. branch_in o (position_path held j)) (sym (held_contract s w held act.output hf)) ∙ b in
              let there : slice_get (branches hf.choice) j ≡ Some c =
              sym (term_branches s.hash hf.instance held.position hf.here hf.choice j hf.stands) ∙ text in
              let d = branch_unsigned s.hash hf.instance hf.here j c in
              let made : prepared_at s.hash hf.instance (position_path held j) ≡ Some (prepared s.hash d) =
              ap (option_map (prepared s.hash)) (unsigned_of_branch s.hash hf.instance held.position hf.here hf.choice j c hf.stands there) in
              let y : (let o : Option Tx = Some (taking_transaction s w hf.instance held j hf.choice c (prepared s.hash d)) in o) ≡ Some tx =
              sym (λ i. taking_of_parts s w held j (compiled i)
              (chosen i) (b i) ((ap (λ o. prepared_if_compiled s o (position_path held j)) compiled ∙ made) i)) ∙ x in
              let z : taking_transaction s w hf.instance held j hf.choice c (prepared s.hash d) ≡ tx = cc in
              subst IsNumbered z (bare_numbered (taking_transaction s w hf.instance held j hf.choice c (prepared s.hash d)) (tx_of d)
              (with-bare (tx_of d) (taking_witnesses s w hf.instance held j hf.choice c (prepared s.hash d)))
              (fit.branch held.contract hf.instance held.position hf.here hf.choice j c hf.compiled hf.stands there))

  pub fire_after : (e : Event) (n j : ℕ) → KeptAfter s size few_contracts strings g w kept check clear e (fire_pending s w n j)
  fire_after e n j = unless_after s size few_contracts strings g w kept check clear e (first_reason (fire_row s w n j)) []
      (reaches_if s w (taking_of_position s w (live_position_at w n) j))
      (λ r. reaches_if_after e (taking_of_position s w (live_position_at w n) j) (taken_numbered n j))
