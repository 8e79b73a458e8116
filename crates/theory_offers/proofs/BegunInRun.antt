-- Each contract that has begun in a run was endorsed before, and still is.
use Rattle.std.proofs.Common.{◌≡◌, ℕ, List, [], ◌∷◌, Bool, true, refl, ap, ◌∙◌, inl, inr}
use Rattle.std.specs.Prelude.{◌||◌, ◌==◌}
use Rattle.std.specs.List.{list_all}
use Rattle.std.proofs.lemmas.Bool.{and_from, or_left, or_right, eq-eqb}
use Rattle.spec_data.specs.Lists.{has_number}
use Rattle.spec_calculus.specs.Configuration.{Configuration}
use Rattle.spec_run.specs.declared.outcome.Record.{Record}
use Rattle.spec_run.specs.Setup.{Setup}
use Rattle.spec_run.specs.World.{World}
use Rattle.spec_run.specs.Conditions.{IsSetup}
use Rattle.spec_run.specs.Pending.{applied}
use Rattle.spec_run.specs.Event.{pending, opening_world}
use Rattle.spec_run.specs.Translation.{opening_configuration, last_world}
use Rattle.theory_run.proofs.Following.{Keeps, run_posts, holds_throughout, kept_at_end}
use Rattle.theory_run.proofs.Facts.Growing.{Grows, grows}
use Rattle.theory_offers.specs.Begun.{is_endorsed_so, is_endorsed_at, starts_endorsed, EndorsedBeforeStart}
use Rattle.theory_offers.proofs.Endorsing.{IsReady, ready_later}
use Rattle.theory_offers.proofs.Beginning.{BeginsReady, begun_after_event}
use Rattle.theory_offers.proofs.WholeRun.{KeptAll, all_after, opening_all}

-- each contract that has begun is compiled and endorsed
pub record KeptBegun (s : Setup) (z : List (List ℕ)) (before : List Record) (g : Configuration) (w : World) : Type 0 where
  pub all : KeptAll s z before g w
  pub ready : (k : ℕ) → has_number k w.begun ≡ true → IsReady s w k

is_ready : (s : Setup) (w : World) (k : ℕ) → IsReady s w k → is_endorsed_at s w k ≡ true
is_ready s w k r = ap (is_endorsed_so s w) r.compiled ∙ r.endorsed

keeps_begun : (s : Setup) → IsSetup s → (z : List (List ℕ)) → Keeps s (starts_endorsed s) (KeptBegun s z) z
keeps_begun s setup z = record {
  step = λ before g w e k is calm unguessed begins.
      let books = k.all.honest.run.books in
      let next = applied w (pending s w e) in
      let new : BeginsReady s w (pending s w e).world =
      begun_after_event s setup z before g w books k.all.honest.leave k.all.starts k.all.more e is calm in
      let later : Grows s w next = grows s g w books.book e in
      let before_it : (c : ℕ) → has_number c next.begun ≡ true → (has_number c w.begun || is_endorsed_at s w c) ≡ true =
      λ c h. elim (new c h) [
        | inl x ↦ or_left _ _ x
        | inr r ↦ or_right (has_number c w.begun) _ (is_ready s w c r)
      ] in
      let after_it : (c : ℕ) → has_number c next.begun ≡ true → IsReady s next c = λ c h. elim (new c h) [
        | inl x ↦ ready_later s w next later c (k.ready c x)
        | inr r ↦ ready_later s w next later c r
      ] in (
        before_it,
        record { all = all_after s setup z before g w k.all e is calm unguessed begins; ready = after_it },
      );
}

every_begun : (f : ℕ → Bool) (ns : List ℕ) → ((n : ℕ) → has_number n ns ≡ true → f n ≡ true) → list_all f ns ≡ true
every_begun f [] h = refl
every_begun f (n ∷ ns) h = and_from _ _ (h n (or_left _ _ (eq-eqb n n refl))) (every_begun f ns (λ m i. h m (or_right (n == m) _ i)))

pub endorsed_before_start : EndorsedBeforeStart
endorsed_before_start s es run =
    let z = run_posts s es in
    let w = last_world s es in
    let first : KeptBegun s z [] (opening_configuration s) (opening_world s) = record { all = opening_all s es run z; ready = λ k h. cc } in
    let last = (kept_at_end s (starts_endorsed s) (KeptBegun s z) es (keeps_begun s run.setup z) run.events first).holds in
    record {
      before = holds_throughout s (starts_endorsed s) (KeptBegun s z) es (keeps_begun s run.setup z) run.events first;
      after = every_begun (is_endorsed_at s w) w.begun (λ k h. is_ready s w k (last.ready k h));
    }
