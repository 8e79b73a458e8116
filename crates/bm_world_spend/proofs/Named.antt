-- The outputs are there that a gift spends.
use Rattle.std.proofs.Common.{◌≡◌, ℕ, List, [], ◌∷◌, true, None, refl, ap, inl, inr}
use Rattle.std.specs.Prelude.{is_some}
use Rattle.std.specs.List.{All, AllByRecursion}
use Rattle.std.proofs.lemmas.List.Elements.{All-from_recursion}
use Rattle.spec_data.specs.Lists.{NoneTrue, first_reason}
use Rattle.spec_data.proofs.ListLemmas.{no_reason-none_true}
use Rattle.spec_run.specs.Setup.{Setup}
use Rattle.spec_run.specs.World.{World}
use Rattle.spec_run.specs.Giving.{give_row}
use Rattle.theory_calculus.specs.Members.{Is_in}
use Rattle.theory_run.proofs.Events.Given.{IsGiven, is_given}
use Rattle.bm_world_spend.specs.Gifts.{has_output}

each_there : (w : World) (inputs : List ℕ) → ((n : ℕ) → Is_in n inputs → IsGiven w n)
    → AllByRecursion (λ n. has_output w.outputs n ≡ true) inputs
each_there w [] h = tt
each_there w (n ∷ ns) h = (ap is_some (h n (inl refl)).there, each_there w ns (λ m i. h m (inr i)))

-- the outputs are there that a gift spends
pub outputs_there : (s : Setup) (w : World) (party : List ℕ) (inputs : List ℕ) (outputs : List (List ℕ × ℕ))
    → first_reason (give_row s w party inputs outputs) ≡ None → All (λ n. has_output w.outputs n ≡ true) inputs
outputs_there s w party inputs outputs passed =
    let row : NoneTrue (give_row s w party inputs outputs) = no_reason-none_true (give_row s w party inputs outputs) passed in
    All-from_recursion (λ n. has_output w.outputs n ≡ true) inputs (each_there w inputs (is_given w inputs row.0))
