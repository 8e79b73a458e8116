-- Where an honest party has signed an initial transaction, all endorsements were there.
use Rattle.std.proofs.Common.{◌≡◌, ℕ, List, [], ◌∷◌, ◌++◌, Bool, true, false, Option, Some, None, refl, sym, ◌∙◌, subst, inl, inr}
use Rattle.std.specs.Prelude.{◌==◌, ◌&&◌, is_some, if◌then◌else◌}
use Rattle.std.specs.List.{list_any}
use Rattle.std.specs.Str.{bytes_eq}
use Rattle.std.proofs.lemmas.Bool.{and_parts, or_cases, not-false, eqb-true}
use Rattle.spec_data.specs.Lists.{first_reason}
use Rattle.spec_data.proofs.ListLemmas.{no_reason-none_true}
use Rattle.spec_compiler.specs.Instance.{Instance}
use Rattle.spec_compiler.specs.Endorsements.{Need, is_endorsed}
use Rattle.spec_run.specs.declared.event.Event.{Event}
use Rattle.spec_run.specs.declared.event.Event.TheVariants as events
use Rattle.spec_run.specs.declared.outcome.Reason.{Reason}
use Rattle.spec_run.specs.declared.outcome.Record.{Record}
use Rattle.spec_run.specs.Setup.{Setup, is_honest}
use Rattle.spec_run.specs.World.{World}
use Rattle.spec_run.specs.Compiled.{compiled_instance}
use Rattle.spec_run.specs.Pending.{done, unless, applied}
use Rattle.spec_run.specs.Signing.{with_pairs, initial_pairs, missing_need, init_row, init_pending}
use Rattle.spec_run.specs.Event.{pending, record_of}
use Rattle.spec_run.specs.Values.{is_done}
use Rattle.spec_run.specs.HonestDeposits.{is_init, was_done}
use Rattle.theory_calculus.proofs.Names.{bytes-true}
use Rattle.theory_world.proofs.Tests.{any-append}
use Rattle.theory_offers.proofs.Unmet.{endorsed_from}
use Rattle.theory_offers.proofs.Basis.Opening.{endorsed_later}
use Rattle.theory_run.proofs.Facts.Growing.{Grows}

-- a contract that is compiled, with all its endorsements
pub record IsReady (s : Setup) (w : World) (k : ℕ) : Type 0 where
  pub instance : Instance
  pub compiled : compiled_instance s w k ≡ Some instance
  pub endorsed : is_endorsed s.hash instance w.book ≡ true

-- an honest party starts what is endorsed
pub record KeptStarts (s : Setup) (before : List Record) (w : World) : Type 0 where
  pub started : (k : ℕ) (a : List ℕ) → is_honest s a ≡ true → was_done (is_init k a) before ≡ true → IsReady s w k

pub opening_starts : (s : Setup) (w : World) → KeptStarts s [] w
opening_starts s w = record { started = λ k a h d. cc }

pub ready_later : (s : Setup) (w next : World) → Grows s w next → (k : ℕ) → IsReady s w k → IsReady s next k
ready_later s w next grows k r =
    record {
      instance = r.instance;
      compiled = grows.compiled k r.instance r.compiled;
      endorsed = endorsed_later s.hash r.instance w.book
          next.book grows.book r.endorsed;
    }

-- what an honest party's start has seen
ready_now : (s : Setup) (w : World) (k : ℕ) (a : List ℕ) → is_honest s a ≡ true → is_done (init_pending s w k a).outcome ≡ true → IsReady s w k
ready_now s w k a honest d = by_reason (first_reason (init_row s w k a)) refl d
  where
    none_missed : (b : Bool) (o : Option Need) → b ≡ true → is_some (if b then o else None) ≡ false → o ≡ None
    none_missed true None e h = refl
    none_missed true (Some n) e h = cc
    none_missed false o e h = cc

    by_compiled : (o : Option Instance) → compiled_instance s w k ≡ o → is_some o ≡ true → missing_need s w o ≡ None → IsReady s w k
    by_compiled None c h m = cc
    by_compiled (Some st) c h m = record { instance = st; compiled = c; endorsed = endorsed_from s w st m }

    by_reason : (r : Option Reason) → first_reason (init_row s w k a) ≡ r
        → is_done (unless r w [] (done (with_pairs w (initial_pairs s a (compiled_instance s w k))) [])).outcome ≡ true → IsReady s w k
    by_reason (Some r) e h = cc
    by_reason None e h =
        let row = no_reason-none_true (init_row s w k a) e in
        by_compiled (compiled_instance s w k) refl (not-false _ row.1.1.0)
        (none_missed (is_honest s a) (missing_need s w (compiled_instance s w k)) honest row.1.1.1.0)

module _ (s : Setup) (before : List Record) (w : World) (kept : KeptStarts s before w) where
  pub starts_after : (e : Event) → Grows s w (applied w (pending s w e)) → KeptStarts s (before ++ record_of e (pending s w e) ∷ []) (applied w (pending s w e))
  starts_after e grows = record {
    started = λ k a honest h.
        let test = λ (r : Record). is_done r.outcome && is_init k a r.event in
        elim (or_cases (list_any test before) (list_any test (record_of e (pending s w e) ∷ []))
        (sym (any-append test before (record_of e (pending s w e) ∷ [])) ∙ h)) [
          | inl x ↦ ready_later s w (applied w (pending s w e)) grows k (kept.started k a honest x)
          | inr y ↦ elim (or_cases (is_done (pending s w e).outcome && is_init k a e) false y) [
            | inl u ↦ (let p = and_parts (is_done (pending s w e).outcome) (is_init k a e) u in
                ready_later s w (applied w (pending s w e)) grows k (new k a honest e p.0 p.1))
            | inr v ↦ cc
          ]
        ];
  }
    where
      new : (k : ℕ) (a : List ℕ) → is_honest s a ≡ true → (e : Event) → is_done (pending s w e).outcome ≡ true → is_init k a e ≡ true → IsReady s w k
      new k a honest (events.Init j b) d i =
          let p = and_parts (j == k) (bytes_eq b a) i in
          let r = ready_now s w j b (subst (λ x. is_honest s x ≡ true) (sym (bytes-true b a p.1)) honest) d in
          subst (λ n. IsReady s w n) (eqb-true j k p.0) r
      new k a honest (events.Advertise j bs) d i = cc
      new k a honest (events.Commit j b ds) d i = cc
      new k a honest (events.Endorse j b) d i = cc
      new k a honest (events.Authorise b n m) d i = cc
      new k a honest (events.Reveal j b n) d i = cc
      new k a honest (events.Post string) d i = cc
      new k a honest (events.Sign b label digest) d i = cc
      new k a honest (events.Give b inputs outputs) d i = cc
      new k a honest (events.Append bytes) d i = cc
      new k a honest (events.FireInit j) d i = cc
      new k a honest (events.Fire n m) d i = cc
      new k a honest (events.Mine blocks) d i = cc
