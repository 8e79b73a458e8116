-- Without witnesses a finished transaction has the bytes of the plan's.
use Rattle.std.proofs.Common.{◌≡◌, ℕ, suc, List, [], ◌∷◌, ◌++◌, length, refl, ap, ◌∙◌}
use Rattle.std.specs.List.{flat_map}
use Rattle.spec_bitcoin.specs.declared.tx.TxIn.{TxIn}
use Rattle.spec_bitcoin.specs.declared.tx.Tx.{Tx}
use Rattle.spec_bitcoin.specs.Spelling.{word, compact, input_bytes, outputs_bytes, inputs_bytes, stripped}
use Rattle.spec_compiler.specs.Keyed.Transactions.{tx_of}
use Rattle.spec_run.specs.Firing.{witnessed, with_witnesses}
use Rattle.spec_deal.specs.Finished.{witnesses}
use Rattle.theory_deal.specs.Finished.{FinishedIsPlanned}

as_many : (is : List TxIn) (ws : List (List (List ℕ))) → length (witnessed is ws) ≡ length is
as_many [] ws = refl
as_many (i ∷ is) [] = refl
as_many (i ∷ is) (w ∷ ws) = ap suc (as_many is ws)

same_inputs : (is : List TxIn) (ws : List (List (List ℕ))) → flat_map input_bytes (witnessed is ws) ≡ flat_map input_bytes is
same_inputs [] ws = refl
same_inputs (i ∷ is) [] = refl
same_inputs (i ∷ is) (w ∷ ws) = ap (λ (x : List ℕ). input_bytes i ++ x) (same_inputs is ws)

same_stripped : (tx : Tx) (ws : List (List (List ℕ))) → stripped (with_witnesses tx ws) ≡ stripped tx
unfolding stripped
same_stripped tx ws =
    let same : inputs_bytes (witnessed tx.inputs ws) ≡ inputs_bytes tx.inputs =
    ap (λ (n : ℕ). compact n ++ flat_map input_bytes (witnessed tx.inputs ws)) (as_many tx.inputs ws)
    ∙ ap (λ (x : List ℕ). compact (length tx.inputs) ++ x) (same_inputs tx.inputs ws) in
    ap (λ (x : List ℕ). word tx.version ++ x ++ outputs_bytes tx.outputs ++ word tx.lock) same

pub finished_is_planned : FinishedIsPlanned
finished_is_planned hash keys s given strings l = same_stripped (tx_of l.pending) (witnesses hash keys s given strings l l.which)
