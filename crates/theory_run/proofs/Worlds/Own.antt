-- The pairs under the keys of a party's labels are those that the party itself has signed in the run.
use Rattle.std.proofs.Common.{◌≡◌, ℕ, List, [], ◌∷◌, ◌++◌, map, true, sym, ap, ◌∙◌}
use Rattle.std.specs.Prelude.{◌||◌}
use Rattle.std.proofs.Math.Bool.{or-false, or_assoc}
use Rattle.spec_data.specs.Lists.{is_among}
use Rattle.spec_bitcoin.specs.declared.label.Label.{Label}
use Rattle.spec_bitcoin.specs.Keys.{IsLabel, key_of, label_text, has_signed}
use Rattle.spec_calculus.specs.Configuration.{Configuration}
use Rattle.spec_run.specs.declared.event.Event.{Event}
use Rattle.spec_run.specs.declared.outcome.Record.{Record}
use Rattle.spec_run.specs.Setup.{Setup}
use Rattle.spec_run.specs.World.{World}
use Rattle.spec_run.specs.Conditions.{IsSetup}
use Rattle.spec_run.specs.Signing.{label_party}
use Rattle.spec_run.specs.Event.{pending, opening_world}
use Rattle.spec_run.specs.Translation.{Turn, record_in, opening_configuration, course, last_or, last_world}
use Rattle.spec_run.specs.Statements.{Claim, IsRun, HoldsFrom}
use Rattle.theory_run.specs.OwnSignatures.{own_pairs, own_pairs_from, own_pairs_in}
use Rattle.theory_world.specs.KeptApart.{NoCollision}
use Rattle.theory_world.proofs.Hashed.{all_more}
use Rattle.theory_world.proofs.Book.{signed-append}
use Rattle.theory_run.proofs.Following.{Keeps, run_posts, holds_throughout}
use Rattle.theory_run.proofs.Facts.Bookkeeping.{checks}
use Rattle.theory_run.proofs.Simulated.{run_after, opening_run, kept_run}
use Rattle.theory_run.proofs.Worlds.OwnSigned.{signed_step}

-- an event leaves the messages there, and the pairs under a party's key that it adds are those that the party signs
pub record SignsOwn (s : Setup) (w : World) (t : Turn) : Type 0 where
  pub more : (m : List ℕ) → is_among m w.hashed ≡ true → is_among m t.world.hashed ≡ true
  pub own : (hs : List (List ℕ)) → NoCollision s.hash hs → ((m : List ℕ) → is_among m t.world.hashed ≡ true → is_among m hs ≡ true)
      → (l : Label) → IsLabel l → is_among (label_text l) hs ≡ true → (x : List ℕ)
      → has_signed t.world.book (key_of s.hash l) x
      ≡ (has_signed w.book (key_of s.hash l) x || has_signed (own_pairs s (label_party l) w t.event t.outcome) (key_of s.hash l) x)

abbrev signs_own : Setup → Claim
signs_own s before g w t = SignsOwn s w t

keeps_own : (s : Setup) → IsSetup s → (z : List (List ℕ)) → Keeps s (signs_own s) (kept_run s z) z
keeps_own s setup z = record {
  step = λ before g w e k is calm unguessed begins. (
    record {
      more = λ m h. all_more w.hashed (pending s w e).hashes m h;
      own = λ hs clear sub l fine heard x.
          let books = k.books in
          signed_step s setup.hash setup.few_contracts g w books.book (checks s setup g w books) books.clear books.labels
          hs (λ m h. sub m (all_more w.hashed (pending s w e).hashes m h)) clear e is sub l fine heard x;
    },
    run_after s setup z g w k e is calm unguessed begins,
  );
}

-- ---- the turns of a run

abbrev end : World → List Turn → World
end w ts = last_or w (map (λ t. t.world) ts)

module _ (s : Setup) where
  more_at_end : (ts : List Turn) (before : List Record) (g : Configuration) (w : World) → HoldsFrom (signs_own s) before g w ts
      → (m : List ℕ) → is_among m w.hashed ≡ true → is_among m (end w ts).hashed ≡ true
  more_at_end [] before g w h m i = i
  more_at_end (t ∷ ts) before g w h m i = more_at_end ts (before ++ record_in t ∷ []) t.configuration t.world h.1 m (h.0.more m i)

  module _ (hs : List (List ℕ)) (clear : NoCollision s.hash hs) (l : Label) (fine : IsLabel l) (heard : is_among (label_text l) hs ≡ true)
      (x : List ℕ) where
    signed_from : (ts : List Turn) (before : List Record) (g : Configuration) (w : World) → HoldsFrom (signs_own s) before g w ts
        → ((m : List ℕ) → is_among m (end w ts).hashed ≡ true → is_among m hs ≡ true)
        → has_signed (end w ts).book (key_of s.hash l) x
        ≡ (has_signed w.book (key_of s.hash l) x || has_signed (own_pairs_from s (label_party l) w ts) (key_of s.hash l) x)
    signed_from [] before g w h sub = sym (or-false (has_signed w.book (key_of s.hash l) x))
    signed_from (t ∷ ts) before g w h sub =
        let key = key_of s.hash l in
        let party = label_party l in
        let first = own_pairs s party w t.event t.outcome in
        let rest = own_pairs_from s party t.world ts in
        let later = before ++ record_in t ∷ [] in
        signed_from ts later t.configuration t.world h.1 sub
        ∙ ap (λ b. b || has_signed rest key x)
        (h.0.own hs clear (λ m i. sub m (more_at_end ts later t.configuration t.world h.1 m i)) l fine heard x)
        ∙ or_assoc (has_signed w.book key x) (has_signed first key x) (has_signed rest key x)
        ∙ ap (λ b. has_signed w.book key x || b) (sym (signed-append first rest key x))

-- under the key of a label that was hashed stand exactly the pairs that the label's party has signed
pub own_signatures : (s : Setup) (es : List Event) → IsRun s es → NoCollision s.hash (last_world s es).hashed
    → (l : Label) (x : List ℕ) → IsLabel l → is_among (label_text l) (last_world s es).hashed ≡ true
    → has_signed (last_world s es).book (key_of s.hash l) x ≡ has_signed (own_pairs_in s (label_party l) es) (key_of s.hash l) x
own_signatures s es run clear l x fine heard =
    let z = run_posts s es in
    let all = holds_throughout s (signs_own s) (kept_run s z) es (keeps_own s run.setup z) run.events (opening_run s es run z) in
    signed_from s (last_world s es).hashed clear l fine heard x (course s es).turns []
    (opening_configuration s) (opening_world s) all (λ m i. i)
