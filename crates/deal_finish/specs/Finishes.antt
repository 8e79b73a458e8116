-- What the code that finishes transactions answers, against what is to be answered.
use Rattle.std.specs.Prelude.{◌≡◌, ℕ, List, Option, Some, None, Result, Ok, Err}
use Rattle.spec_deal.specs.declared.finish.FinishRefusal.{FinishRefusal}
use Rattle.deal_finish.specs.declared.error.FinishError.{FinishError}
use Rattle.deal_finish.specs.declared.error.FinishError.TheVariants as finishes

-- the code refuses for this, unless memory ran out
abbrev pub Refuses : FinishError → Option FinishRefusal → Type 0
Refuses (finishes.Refused refusal) why = why ≡ Some refusal
Refuses finishes.Memory why = Unit {0}

-- nothing is refused, or the code says why
abbrev pub Allows : {U : Type 0} → Result U FinishError → Option FinishRefusal → Type 0
Allows (Ok done) why = why ≡ None
Allows (Err e) why = Refuses e why

-- what a function returned, seen by view, is the transaction where nothing is missing, else the code says the first that is
abbrev pub Finishes : {X : Type 0} → (X → List ℕ) → Result X FinishError → Option FinishRefusal → List ℕ → Type 0
Finishes view (Ok x) why spelled = (why ≡ None) × (view x ≡ spelled)
Finishes view (Err e) why spelled = Refuses e why
