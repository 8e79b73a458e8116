-- Each world of a run is followed by its last one.
use Rattle.std.proofs.Common.{◌≡◌, ℕ, zero, suc, ◌≤◌, List, [], ◌∷◌, ◌++◌, length, Some, None, refl, sym, ap, ◌∙◌, subst, arith, append_assoc, append-nil}
use Rattle.spec_calculus.specs.Configuration.{Configuration}
use Rattle.spec_run.specs.declared.event.Event.{Event}
use Rattle.spec_run.specs.declared.outcome.Record.{Record}
use Rattle.spec_run.specs.Setup.{Setup}
use Rattle.spec_run.specs.World.{Output, World}
use Rattle.spec_run.specs.Pending.{applied}
use Rattle.spec_run.specs.Event.{Passed, pending}
use Rattle.spec_run.specs.Translation.{turn_of, turns_from, world_after, record_in}
use Rattle.spec_run.specs.Statements.{HoldsFrom}
use Rattle.theory_world.proofs.Later.{Lasts}
use Rattle.theory_run.specs.KeptRuns.{KeptRun}
use Rattle.theory_run.proofs.Facts.Growing.{Grows, grows}
use Rattle.bm_translate.specs.Moments.{IsLater}
use Rattle.bm_translate.proofs.Left.{left, promises_by, adverts_by}
use Rattle.bm_translate_course.specs.Courses.{here}

-- ---- outputs

tail_lasts : (o p : Output) (os ps : List Output) → Lasts (o ∷ os) (p ∷ ps) → Lasts os ps
tail_lasts o p os ps l = record { last = λ n x h. l.last (suc n) x h }

fewer : (os ps : List Output) → Lasts os ps → length os ≤ length ps
fewer [] ps l = omega arith
fewer (o ∷ os) [] l = let r = l.last zero o refl in let e : None ≡ Some r.0 = r.1 in cc
fewer (o ∷ os) (p ∷ ps) l = let h = fewer os ps (tail_lasts o p os ps l) in omega (arith, h)

-- ---- one event

module _ (s : Setup) where
  pub later_refl : (w : World) → IsLater s w w
  later_refl w = record {
    compiled = λ k st h. h;
    outputs = omega arith;
    advertised = ([], sym (append-nil w.advertised));
    promises = ([], sym (append-nil w.promises));
    posted = ([], sym (append-nil w.posted));
  }

  pub later_trans : (u v w : World) → IsLater s u v → IsLater s v w → IsLater s u w
  later_trans u v w a b = record {
    compiled = λ k st h. b.compiled k st (a.compiled k st h);
    outputs = (let x = a.outputs in let y = b.outputs in omega (arith, x, y));
    advertised = (
      a.advertised.0 ++ b.advertised.0,
      b.advertised.1 ∙ ap (λ xs. xs ++ b.advertised.0) a.advertised.1
          ∙ append_assoc u.advertised a.advertised.0 b.advertised.0,
    );
    promises = (a.promises.0 ++ b.promises.0, b.promises.1 ∙ ap (λ xs. xs ++ b.promises.0) a.promises.1 ∙ append_assoc u.promises a.promises.0 b.promises.0);
    posted = (a.posted.0 ++ b.posted.0, b.posted.1 ∙ ap (λ xs. xs ++ b.posted.0) a.posted.1 ∙ append_assoc u.posted a.posted.0 b.posted.0);
  }

  later_event : (z : List (List ℕ)) (g : Configuration) (w : World) (e : Event) → KeptRun s z g w → IsLater s w (applied w (pending s w e))
  later_event z g w e kept =
      let next = applied w (pending s w e) in
      let more : Grows s w (applied w (pending s w e)) = grows s g w kept.books.book e in
      let l = left s w e in
      record {
        compiled = more.compiled;
        outputs = fewer w.outputs next.outputs more.outputs;
        advertised = (adverts_by s e (pending s w e).outcome, l.advertised);
        promises = (promises_by s e (pending s w e).outcome, l.promises);
        posted = ((pending s w e).posts, refl);
      }

  -- ---- all events that are left

  pub later_end : (z : List (List ℕ)) (ps : List Passed) (before : List Record) (g : Configuration) (w : World)
      → HoldsFrom (here s z) before g w (turns_from s z g w ps) → IsLater s w (world_after w ps)
  later_end z [] before g w h = later_refl w
  later_end z (p ∷ ps) before g w h =
      let t = turn_of s z g w p in
      let one : IsLater s w p.world = subst (IsLater s w) (sym h.0.left) (later_event z g w p.event h.0.kept) in
      later_trans w p.world (world_after p.world ps) one (later_end z ps (before ++ record_in t ∷ []) t.configuration p.world h.1)
