-- Whose an output is that pays a declared party.
use Rattle.std.proofs.Common.{◌≡◌, ℕ, List, [], ◌∷◌, ◌++◌, Bool, true, false, refl, sym, ap, subst, inl, inr}
use Rattle.std.specs.Prelude.{if◌then◌else◌}
use Rattle.std.specs.Str.{bytes_eq}
use Rattle.std.proofs.lemmas.Bool.{or_cases, or_left, or_right, both_ways}
use Rattle.std.proofs.lemmas.List.{append_cancel_right}
use Rattle.spec_data.specs.Lists.{is_among}
use Rattle.spec_bitcoin.specs.declared.label.Label.{Label}
use Rattle.spec_bitcoin.specs.declared.label.Label.TheVariants as labels
use Rattle.spec_calculus.specs.declared.step.Owner.TheVariants.{Party}
use Rattle.spec_calculus.specs.Configuration.{Configuration}
use Rattle.spec_compiler.specs.Instance.{deposit_key}
use Rattle.spec_compiler.specs.Transactions.{party_script}
use Rattle.spec_run.specs.Setup.{Setup, is_declared}
use Rattle.spec_run.specs.World.{World}
use Rattle.spec_run.specs.Owners.{paid_to, owner_among, owner_by}
use Rattle.theory_bitcoin.proofs.Labels.{one_label}
use Rattle.theory_calculus.proofs.Names.{bytes-true, bytes_refl}
use Rattle.theory_world.specs.KeptApart.{NoCollision}
use Rattle.theory_world.proofs.Book.{key-apart}
use Rattle.theory_run.specs.KeptBook.{KeptBook}

module _ (s : Setup) (g : Configuration) (w : World) (kept : KeptBook s g w)
    (hs : List (List ℕ)) (clear : NoCollision s.hash hs) (sub : (t : List ℕ) → is_among t w.hashed ≡ true → is_among t hs ≡ true) where
  abbrev party_in : Label → List ℕ
  party_in (labels.Deposit party) = party
  party_in (labels.Branch contract path party) = party

  -- declared parties whose deposits pay alike are one
  pub paid_same : (p q : List ℕ) → is_declared s p ≡ true → is_declared s q ≡ true → paid_to s p ≡ paid_to s q → p ≡ q
  paid_same p q dp dq e =
      let h : s.hash (party_script s.hash p) ≡ s.hash (party_script s.hash q) = cc in
      let x : party_script s.hash p ≡ party_script s.hash q =
      clear.one (party_script s.hash p) (party_script s.hash q) (sub _ (kept.programs p dp)) (sub _ (kept.programs q dq)) h in
      let y : deposit_key s.hash p ++ 172 ∷ [] ≡ deposit_key s.hash q ++ 172 ∷ [] = cc in
      let k = append_cancel_right (deposit_key s.hash p) (deposit_key s.hash q) (172 ∷ []) y in
      let t = key-apart s.hash hs (labels.Deposit p) (labels.Deposit q) clear (sub _ (kept.labelled p dp)) (sub _ (kept.labelled q dq)) k in
      ap party_in (one_label (labels.Deposit p) (labels.Deposit q) tt tt t)

  owner_found : (ps : List (List ℕ)) (p : List ℕ) → ((q : List ℕ) → is_among q ps ≡ true → is_declared s q ≡ true) → is_declared s p ≡ true
      → is_among p ps ≡ true → owner_among s ps (paid_to s p) ≡ Party p
  owner_found [] p all decl h = cc
  owner_found (q ∷ ps) p all decl h = by_test (bytes_eq (paid_to s q) (paid_to s p)) refl (owner_found ps p (λ r i. all r (or_right (bytes_eq q r) _ i)) decl)
    where
      by_test : (b : Bool) → bytes_eq (paid_to s q) (paid_to s p) ≡ b → (is_among p ps ≡ true → owner_among s ps (paid_to s p) ≡ Party p)
          → (if b then Party q else owner_among s ps (paid_to s p)) ≡ Party p
      by_test true e ih = ap Party (paid_same q p (all q (or_left _ _ (bytes_refl q))) decl (bytes-true (paid_to s q) (paid_to s p) e))
      by_test false e ih = elim (or_cases (bytes_eq q p) (is_among p ps) h) [
        | inl a ↦ absurd (both_ways _ e (subst (λ r. bytes_eq (paid_to s r) (paid_to s p) ≡ true) (sym (bytes-true q p a)) (bytes_refl (paid_to s p))))
        | inr b ↦ ih b
      ]

  pub owner_paid : (p : List ℕ) → is_declared s p ≡ true → owner_by s (paid_to s p) ≡ Party p
  owner_paid p decl = owner_found s.header.parties p (λ q h. h) decl decl
