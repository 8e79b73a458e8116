-- The last record of a run.
use Rattle.std.proofs.Common.{◌≡◌, ℕ, ◌-◌, List, [], ◌∷◌, ◌++◌, length, Option, ap, ◌∙◌, arith, length-append, slice_index_or, slice_set}
use Rattle.std.proofs.Math.Seq.{get_or-append_seam, set-append_seam}
use Rattle.spec_bitcoin.specs.declared.tx.Tx.{Tx}
use Rattle.spec_run.specs.declared.outcome.Record.{Record}

-- the place of the last of some records
last_place : (prefix : List Record) (r : Record) (items : List Record) (n : ℕ) → items ≡ prefix ++ r ∷ [] → n ≡ length items → n - 1 ≡ length prefix
last_place prefix r items n split long =
    let all : n ≡ length (prefix ++ r ∷ []) = long ∙ ap length split in
    omega (arith, all, length-append prefix (r ∷ []))

-- the last record with another transaction
pub with_last : (prefix : List Record) (r cell : Record) (items : List Record) (n : ℕ) (tx : Option Tx) → items ≡ prefix ++ r ∷ [] → n ≡ length items
    → cell ≡ slice_index_or items (n - 1) cell → slice_set items (n - 1) (record cell { tx = tx }) ≡ prefix ++ record r { tx = tx } ∷ []
with_last prefix r cell items n tx split long at =
    let place = last_place prefix r items n split long in
    let found : cell ≡ r = at ∙ ap (λ k. slice_index_or items k cell) place ∙ ap (λ l. slice_index_or l (length prefix) cell) split ∙ get_or-append_seam prefix r [] cell in
    ap (λ k. slice_set items k (record cell { tx = tx })) place
    ∙ ap (λ l. slice_set l (length prefix) (record cell { tx = tx })) split
    ∙ ap (λ (c : Record). slice_set (prefix ++ r ∷ []) (length prefix) (record c { tx = tx })) found
    ∙ set-append_seam prefix r [] (record r { tx = tx })
