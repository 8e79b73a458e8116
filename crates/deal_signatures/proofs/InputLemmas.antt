-- Whether a signature is taken; signatures of two lists one after another.
use Rattle.std.proofs.Common.{◌≡◌, ℕ, List, [], ◌∷◌, ◌++◌, Bool, true, false, not, refl, sym, ap, ◌∙◌}
use Rattle.std.specs.Prelude.{Result, Ok, Err, if◌then◌else◌}
use Rattle.std.specs.List.{find}
use Rattle.spec_tool.specs.Psbt.{Pairing}
use Rattle.spec_deal.specs.declared.signed.Signed.{Signed}
use Rattle.spec_deal.specs.declared.fault.SignatureReason.TheVariants as reasons
use Rattle.spec_deal.specs.Shape.{is_strict}
use Rattle.spec_deal.specs.Transactions.{Required}
use Rattle.spec_deal.specs.Verifier.{Verifier}
use Rattle.spec_deal.specs.SignatureFile.{Taken, same_place, is_required, is_verified, taken_once, take_signature, take_signatures}
use Rattle.spec_deal.specs.SignatureFile.{spent_fits, script_fits, witness_fits, final_signature, take_key_input}
use Rattle.spec_deal.specs.declared.transaction.Input.{Input}
use Rattle.spec_tool.specs.declared.psbt.PsbtInput.{PsbtInput}
use Rattle.deal_signatures.specs.declared.error.LineError.{LineError}
use Rattle.deal_signatures.specs.declared.error.LineError.TheVariants as lines
use Rattle.deal_signatures.specs.Gives.{Stops, Takes}

-- ---- one signature

module _ (v : Verifier) (required : List Required) (given : List Signed) (g : Signed) where
  -- by whether it is needed and has the shape
  abbrev by_tests : Bool → Bool → Taken
  by_tests a b =
      if not a then Err (reasons.Key g.input)
      else if not b then Err (reasons.Signature g.input)
      else taken_once (is_verified v required g) given g (find (λ earlier. same_place earlier g) given)

  -- it isn't needed
  pub unwanted : (a : Bool) → a ≡ is_required required g → a ≡ false
      → take_signature v required given g ≡ Err (reasons.Key g.input)
  unwanted a e h = ap (λ t. by_tests t (is_strict g.signature)) (sym e ∙ h)

  -- it hasn't the shape
  pub shapeless : (a b : Bool) → a ≡ is_required required g → a ≡ true → b ≡ is_strict g.signature → b ≡ false
      → take_signature v required given g ≡ Err (reasons.Signature g.input)
  shapeless a b e h f k = λ i. by_tests ((sym e ∙ h) i) ((sym f ∙ k) i)

  -- it is taken, unless it was given earlier
  pub taken : (a b : Bool) → a ≡ is_required required g → a ≡ true → b ≡ is_strict g.signature → b ≡ true
      → taken_once (is_verified v required g) given g (find (λ earlier. same_place earlier g) given) ≡ take_signature v required given g
  taken a b e h f k = λ i. by_tests (sym (sym e ∙ h) i) (sym (sym f ∙ k) i)

-- ---- signatures of two lists

-- what is taken, and then more
abbrev pub and_then : Taken → (List Signed → Taken) → Taken
and_then (Ok given) more = more given
and_then (Err reason) more = Err reason

pub take_both : (v : Verifier) (required : List Required) (tx : List ℕ) (k : ℕ) (given : List Signed) (ps qs : List Pairing)
    → take_signatures v required tx k given (ps ++ qs)
    ≡ and_then (take_signatures v required tx k given ps) (λ more. take_signatures v required tx k more qs)
take_both v required tx k given [] qs = refl
take_both v required tx k given (p ∷ ps) qs =
    by_taken (take_signature v required given (record { tx = tx; input = k; key = p.0; signature = p.1; witness = [] }))
    (λ more. take_both v required tx k more ps qs)
  where
    by_taken : (r : Taken)
        → ((more : List Signed) → take_signatures v required tx k more (ps ++ qs)
        ≡ and_then (take_signatures v required tx k more ps) (λ given. take_signatures v required tx k given qs))
        → elim r [ Ok more ↦ take_signatures v required tx k more (ps ++ qs) | Err reason ↦ Err reason ]
        ≡ and_then (elim r [ Ok more ↦ take_signatures v required tx k more ps | Err reason ↦ Err reason ])
        (λ given. take_signatures v required tx k given qs)
    by_taken (Ok more) go = go more
    by_taken (Err reason) go = refl

module _ (v : Verifier) (required : List Required) (tx : List ℕ) (k : ℕ) (old : List Signed) (ps qs : List Pairing) where
  -- those of the second list behind those of the first
  pub taken_behind : {U : Type 0} (mid new : List Signed) (r : Result U LineError) → take_signatures v required tx k old ps ≡ Ok mid
      → Takes mid new r (take_signatures v required tx k mid qs) → Takes old new r (take_signatures v required tx k old (ps ++ qs))
  taken_behind mid new (Ok done) e h =
      take_both v required tx k old ps qs ∙ (ap (λ t. and_then t (λ more. take_signatures v required tx k more qs)) e ∙ h)
  taken_behind mid new (Err (lines.Bad reason)) e h =
      take_both v required tx k old ps qs ∙ (ap (λ t. and_then t (λ more. take_signatures v required tx k more qs)) e ∙ h)
  taken_behind mid new (Err lines.Memory) e h = tt

  -- one of the first isn't taken
  pub stopped_before : (error : LineError) → Stops error (take_signatures v required tx k old ps)
      → Stops error (take_signatures v required tx k old (ps ++ qs))
  stopped_before (lines.Bad reason) h =
      take_both v required tx k old ps qs ∙ ap (λ t. and_then t (λ more. take_signatures v required tx k more qs)) h
  stopped_before lines.Memory h = tt

-- ---- an input

-- by whether what its records say is so
abbrev by_records : Verifier → List Required → List ℕ → ℕ → List Signed → List Pairing → Bool → Bool → Bool → List Pairing → Taken
by_records v required tx k given partial spent script witness final =
    if not spent then Err (reasons.Spent k)
    else if not script then Err (reasons.Script k)
    else if not witness then Err (reasons.Witness k)
    else take_signatures v required tx k given (partial ++ final)

-- all of it is
pub fitting : (v : Verifier) (required : List Required) (tx : List ℕ) (k : ℕ) (given : List Signed) (i : Input) (said : PsbtInput) (script : List ℕ)
    (a b : Bool) (final : List Pairing) → script ≡ i.spent.script
    → a ≡ spent_fits i.output said.spent → a ≡ true → b ≡ script_fits script said.script → b ≡ true
    → witness_fits script said.witness ≡ true → final_signature script said.witness ≡ final
    → take_signatures v required tx k given (said.partial ++ final) ≡ take_key_input v required tx k given i said
fitting v required tx k given i said script a b final same e h f j fits is =
    let f' : script_fits i.spent.script said.script ≡ true = ap (λ t. script_fits t said.script) (sym same) ∙ (sym f ∙ j) in
    let fits' : witness_fits i.spent.script said.witness ≡ true = ap (λ t. witness_fits t said.witness) (sym same) ∙ fits in
    let is' : final_signature i.spent.script said.witness ≡ final = ap (λ t. final_signature t said.witness) (sym same) ∙ is in
    λ n. by_records v required tx k given said.partial (sym (sym e ∙ h) n) (sym f' n) (sym fits' n) (sym is' n)
