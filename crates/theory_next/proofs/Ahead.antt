-- Which candidates are shown as ahead of a contract.
use Rattle.std.proofs.Common.{◌≡◌, ℕ, List, Bool, true, false, Option, Some, None, refl, sym, ap, ◌∙◌, subst}
use Rattle.std.specs.Prelude.{◌↔◌, not}
use Rattle.std.specs.List.{Contains, filter}
use Rattle.spec_calculus.specs.Configuration.{Configuration}
use Rattle.spec_run.specs.declared.event.Event.{Event}
use Rattle.spec_run.specs.declared.event.Event.TheVariants as events
use Rattle.spec_run.specs.Setup.{Setup, held_secret}
use Rattle.spec_run.specs.World.{World}
use Rattle.spec_next.specs.declared.outlook.Ruling.{Ruling}
use Rattle.spec_next.specs.declared.outlook.Ruling.TheVariants as rulings
use Rattle.spec_next.specs.declared.outlook.Prospect.{Prospect}
use Rattle.spec_next.specs.Prospects.{ruling, is_string_posted, is_ahead, is_shown, is_refused, prospect, prospects_of}
use Rattle.theory_calculus.specs.Members.{Is_in}
use Rattle.theory_calculus.proofs.Members.{in_filter, filter_has, in_from_contains, contains_from_in}
use Rattle.theory_next.specs.Ahead.{IsPosted, IsBehind, IsAhead}
use Rattle.theory_next.proofs.Exact.{from_map, in_map}

apart : (b : Bool) → b ≡ true → b ≡ false → ⊥
apart true e h = cc
apart false e h = cc

was_true : (b : Bool) → not b ≡ false → b ≡ true
was_true true h = refl
was_true false h = cc

-- ---- what is shown

module _ (s : Setup) (w : World) where
  is_behind : (e : Event) → is_ahead s w e ≡ false → IsBehind s w e
  is_behind (events.Advertise k bindings) h = was_true _ h
  is_behind (events.Commit k party digests) h = was_true _ h
  is_behind (events.Endorse k party) h = was_true _ h
  is_behind (events.Init k party) h = was_true _ h
  is_behind (events.FireInit k) h = was_true _ h
  is_behind (events.Reveal k party secret) h = by_string (held_secret s party secret) refl (was_true _ h)
    where
      by_string : (o : Option (List ℕ)) → held_secret s party secret ≡ o → is_string_posted o w ≡ true → IsPosted s w party secret
      by_string None e h = cc
      by_string (Some bytes) e h = record { string = bytes; held = e; posted = h }
  is_behind (events.Authorise party n i) h = cc
  is_behind (events.Fire n i) h = cc
  is_behind (events.Post bytes) h = tt
  is_behind (events.Sign party label digest) h = tt
  is_behind (events.Give party inputs outputs) h = tt
  is_behind (events.Append bytes) h = tt
  is_behind (events.Mine blocks) h = tt

  isnt_ahead : (e : Event) → IsBehind s w e → is_ahead s w e ≡ false
  isnt_ahead (events.Advertise k bindings) h = ap not h
  isnt_ahead (events.Commit k party digests) h = ap not h
  isnt_ahead (events.Endorse k party) h = ap not h
  isnt_ahead (events.Init k party) h = ap not h
  isnt_ahead (events.FireInit k) h = ap not h
  isnt_ahead (events.Reveal k party secret) h = ap (λ o. not (is_string_posted o w)) h.held ∙ ap not h.posted
  isnt_ahead (events.Authorise party n i) h = absurd h
  isnt_ahead (events.Fire n i) h = absurd h
  isnt_ahead (events.Post bytes) h = refl
  isnt_ahead (events.Sign party label digest) h = refl
  isnt_ahead (events.Give party inputs outputs) h = refl
  isnt_ahead (events.Append bytes) h = refl
  isnt_ahead (events.Mine blocks) h = refl

  not_both : (e : Event) (r : Ruling) → is_shown s w e r ≡ true → is_refused r ≡ true → IsBehind s w e → ⊥
  not_both e rulings.Can h r b = cc
  not_both e (rulings.Cannot reason) h r b = apart (is_ahead s w e) h (isnt_ahead e b)
  not_both e rulings.Halts h r b = cc

  stays : (e : Event) (r : Ruling) → (is_refused r ≡ true → IsBehind s w e → ⊥) → is_shown s w e r ≡ true
  stays e rulings.Can h = refl
  stays e (rulings.Cannot reason) h = by_test (is_ahead s w e) refl
    where
      by_test : (b : Bool) → is_ahead s w e ≡ b → is_ahead s w e ≡ true
      by_test true q = q
      by_test false q = absurd (h refl (is_behind e q))
  stays e rulings.Halts h = refl

pub ahead_exactly : (s : Setup) (g : Configuration) (w : World) (es : List Event) (p : Prospect)
    → Contains (prospects_of s g w es) p ↔ IsAhead s g w es p
ahead_exactly s g w es p = (forth, back)
  where
    shown : Event → Bool
    shown e = is_shown s w e (ruling s w e)

    forth : Contains (prospects_of s g w es) p → IsAhead s g w es p
    forth h =
        let m = from_map (prospect s g w) (filter shown es) p (in_from_contains (prospects_of s g w es) p h) in
        let f = in_filter shown es m.0 m.1 in
        record {
          event = m.0;
          there = contains_from_in es m.0 f.0;
          comes_to = m.2;
          ahead = not_both s w m.0 (ruling s w m.0) f.1;
        }

    back : IsAhead s g w es p → Contains (prospects_of s g w es) p
    back h =
        let kept = filter_has shown es h.event (in_from_contains es h.event h.there) (stays s w h.event (ruling s w h.event) h.ahead) in
        contains_from_in (prospects_of s g w es) p
        (subst (λ (q : Prospect). Is_in q (prospects_of s g w es)) (sym h.comes_to) (in_map (prospect s g w) (filter shown es) h.event kept))
