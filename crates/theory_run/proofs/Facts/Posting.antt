-- Strings that are posted, and what of secrets lasts where none are.
use Rattle.std.proofs.Common.{◌≡◌, ℕ, List, [], ◌∷◌, ◌++◌, map, Bool, true, false, not, cond, Option, Some, None, refl, sym, ap, ◌∙◌, subst, arith, append-nil, inl, inr}
use Rattle.std.specs.Prelude.{◌&&◌, ◌||◌, is_some, if◌then◌else◌}
use Rattle.std.specs.List.{find}
use Rattle.std.specs.Str.{bytes_eq}
use Rattle.std.proofs.lemmas.Bool.{and_parts, and_from, or_left, false_from_ne_true, both_ways}
use Rattle.spec_data.specs.Lists.{is_among}
use Rattle.spec_calculus.specs.declared.parts.Revealed.{Revealed}
use Rattle.spec_calculus.specs.Configuration.{Configuration}
use Rattle.spec_calculus.specs.Steps.{after_steps, Legal}
use Rattle.spec_run.specs.declared.header.HeldSecret.{HeldSecret}
use Rattle.spec_run.specs.Setup.{Setup, is_honest, held_among, held_secret}
use Rattle.spec_data.specs.Messages.{noted_all, collision}
use Rattle.spec_run.specs.World.{World}
use Rattle.spec_run.specs.Pending.{is_allowed, is_guessed, guess}
use Rattle.spec_run.specs.Committing.{is_secret_long, used_digests}
use Rattle.spec_run.specs.Revealing.{fits}
use Rattle.spec_run.specs.Secrets.{all_secrets, digest_at, is_shown, shown, newly_shown}
use Rattle.spec_run.specs.Steps.{reveals}
use Rattle.theory_calculus.proofs.Names.{bytes-true, bytes_refl, among-append}
use Rattle.theory_world.proofs.Tests.{any-append}
use Rattle.theory_world.specs.KeptApart.{NoCollision}
use Rattle.theory_world.proofs.Hashed.{no_collision, among_split, all_more, all_new, any_then, any_found, find_any}
use Rattle.theory_run.specs.KeptSecrets.{has_secret, KeptSecrets, is_own, committed_by}
use Rattle.theory_run.proofs.Facts.Secrets.{different_secrets, after-reveals}
use Rattle.theory_run.proofs.Facts.KeptSecrets.{Begins, reveals_legal, reveals_agree}

-- ---- an honest party's committed digest is that of its own secret

pub record IsOwn (s : Setup) (hs : List (List ℕ)) (o d : Option (List ℕ)) : Type 0 where
  pub secret : List ℕ
  pub own : o ≡ Some secret
  pub digest : d ≡ Some (s.hash secret)
  pub long : is_secret_long secret ≡ true
  pub heard : is_among secret hs ≡ true

pub is_own-some : (s : Setup) (hs : List (List ℕ)) (o d : Option (List ℕ)) → is_own s hs o d ≡ true → is_some d ≡ true → IsOwn s hs o d
is_own-some s hs o None h k = cc
is_own-some s hs None (Some d) h k = cc
is_own-some s hs (Some t) (Some d) h k =
    let p = and_parts (bytes_eq (s.hash t) d && is_secret_long t) (is_among t hs) h in
    let q = and_parts (bytes_eq (s.hash t) d) (is_secret_long t) p.0 in
    record { secret = t; own = refl; digest = ap Some (sym (bytes-true (s.hash t) d q.0)); long = q.1; heard = p.1 }

pub is_own-more : (s : Setup) (hs ts : List (List ℕ)) (o d : Option (List ℕ)) → is_own s hs o d ≡ true → is_own s (noted_all hs ts) o d ≡ true
is_own-more s hs ts o None h = refl
is_own-more s hs ts None (Some d) h = h
is_own-more s hs ts (Some t) (Some d) h =
    let p = and_parts (bytes_eq (s.hash t) d && is_secret_long t) (is_among t hs) h in
    and_from _ _ p.0 (all_more hs ts t p.1)

pub shown-is_some : (s : Setup) (posted : List (List ℕ)) (d : Option (List ℕ)) → is_shown s posted d ≡ true → is_some d ≡ true
shown-is_some s posted None h = h
shown-is_some s posted (Some d) h = refl

module _ (s : Setup) (t : List ℕ) (long : is_secret_long t ≡ true) where
  -- a string that fits the secret's digest is the secret
  pub posted_own : (hs posted : List (List ℕ)) → NoCollision s.hash hs → ((u : List ℕ) → is_among u posted ≡ true → is_among u hs ≡ true)
      → is_among t hs ≡ true → is_shown s posted (Some (s.hash t)) ≡ true → is_among t posted ≡ true
  posted_own hs posted clear heard th sh = any_then (fits s (s.hash t)) (λ u. bytes_eq u t) posted (λ u i f.
      let g = and_parts (is_secret_long u) (bytes_eq (s.hash u) (s.hash t)) f in
      let one = clear.one u t (heard u i) th (bytes-true (s.hash u) (s.hash t) g.1) in
      rw one (bytes_refl t)) (any_found (fits s (s.hash t)) posted sh)

  -- where the secret is posted, it is shown
  pub own_shows : (posted : List (List ℕ)) → is_among t posted ≡ true → is_shown s posted (Some (s.hash t)) ≡ true
  own_shows posted h =
      find_any (fits s (s.hash t)) posted (any_then (λ u. bytes_eq u t) (fits s (s.hash t)) posted
      (λ u i f. let e = bytes-true u t f in subst (λ v. fits s (s.hash t) v ≡ true) (sym e) (and_from _ _ long (bytes_refl (s.hash t)))) h)

-- ---- guesses

-- whether the event may post the party's secret
abbrev pub allows : Option (List ℕ × List ℕ) → List ℕ → List ℕ → Bool
allows None a n = false
allows (Some p) a n = bytes_eq (p.0) a && bytes_eq (p.1) n

-- what is posted and isn't a guess
own_tested : (posted posts : List (List ℕ)) (al : Option (List ℕ × List ℕ)) (hs : List HeldSecret) (a n t : List ℕ)
    → find (is_guessed posted posts al) hs ≡ None → held_among a n hs ≡ Some t
    → is_among t posts ≡ true → is_among t posted ≡ false → allows al a n ≡ true
own_tested posted posts al [] a n t h k i j = cc
own_tested posted posts al (x ∷ xs) a n t h k i j = by_test (is_guessed posted posts al x) refl h (own_tested posted posts al xs a n t)
  where
    here : (o : Option (List ℕ × List ℕ)) → (is_among x.bytes posts && not (is_among x.bytes posted) && not (is_allowed o x)) ≡ false
        → x.bytes ≡ t → x.party ≡ a → x.name ≡ n → allows o a n ≡ true
    here None f e ea en =
        let y : is_among x.bytes posts ≡ true = rw e i in
        let v : is_among x.bytes posted ≡ false = rw e j in absurd (both_ways _ f (rw (y, v) refl))
    here (Some p) f e ea en =
        let y : is_among x.bytes posts ≡ true = rw e i in
        let v : is_among x.bytes posted ≡ false = rw e j in
        let u : (bytes_eq (p.0) x.party && bytes_eq (p.1) x.name) ≡ true = (let r = rw (y, v) at f in grind arith) in
        subst (λ m. (bytes_eq (p.0) a && bytes_eq (p.1) m) ≡ true) en (subst (λ b. (bytes_eq (p.0) b && bytes_eq (p.1) x.name) ≡ true) ea u)

    by_held : (b : Bool) → (bytes_eq x.party a && bytes_eq x.name n) ≡ b → is_guessed posted posts al x ≡ false
        → (if b then Some x.bytes else held_among a n xs) ≡ Some t
        → (held_among a n xs ≡ Some t → allows al a n ≡ true) → allows al a n ≡ true
    by_held true e f q ih =
        let w = and_parts (bytes_eq x.party a) (bytes_eq x.name n) e in
        let z : x.bytes ≡ t = cc in
        here al f z (bytes-true x.party a w.0) (bytes-true x.name n w.1)
    by_held false e f q ih = ih q

    by_test : (b : Bool) → is_guessed posted posts al x ≡ b → cond b (Some x) (find (is_guessed posted posts al) xs) ≡ None
        → (find (is_guessed posted posts al) xs ≡ None → held_among a n xs ≡ Some t → is_among t posts ≡ true → is_among t posted ≡ false
        → allows al a n ≡ true) → allows al a n ≡ true
    by_test true e f ih = cc
    by_test false e f ih = by_held (bytes_eq x.party a && bytes_eq x.name n) refl e k (λ q. ih f q i j)

pub not_guessed : (s : Setup) (posted posts : List (List ℕ)) (al : Option (List ℕ × List ℕ)) (a n t : List ℕ) → guess s posted posts al
    ≡ None → held_secret s a n ≡ Some t → is_among t posts ≡ true → is_among t posted ≡ false → allows al a n ≡ true
not_guessed s posted posts al a n t g o h k = own_tested posted posts al s.header.secrets a n t g o h k

-- ---- what lasts

-- who reveals an honest party's secret
pub record IsRevealer (s : Setup) (w : World) (al : Option (List ℕ × List ℕ)) (x : Revealed) : Type 0 where
  pub secret : List ℕ
  pub own : held_secret s x.party x.secret ≡ Some secret
  pub allowed : allows al x.party x.secret ≡ true
  pub digest : digest_at w.promises x ≡ Some (s.hash secret)

pub revealed_by : (s : Setup) (z : List (List ℕ)) (g : Configuration) (w next : World) (hs ps : List (List ℕ))
    (al : Option (List ℕ × List ℕ)) → KeptSecrets s z g w
    → next.promises ≡ w.promises → next.posted ≡ w.posted ++ ps → next.hashed ≡ noted_all w.hashed hs → collision s.hash w.hashed hs ≡ None
    → guess s w.posted ps al ≡ None → ((t : List ℕ) → is_among t ps ≡ true → is_among t hs ≡ true)
    → (x : Revealed) → shown s next x ≡ true → shown s w x ≡ false → is_honest s x.party ≡ true → IsRevealer s w al x
revealed_by s z g w next hs ps al k ec ep eh clear unguessed heard x sh hid honest =
    let clear' : NoCollision s.hash next.hashed = rw eh (no_collision s.hash w.hashed hs k.clear clear) in
    let heard' : (t : List ℕ) → is_among t next.posted ≡ true → is_among t next.hashed ≡ true = λ t h.
    rw eh (elim (among_split t w.posted ps (rw ep at h)) [ inl a ↦ all_more w.hashed hs t (k.heard t a) | inr b ↦ all_new w.hashed hs t (heard t b) ]) in
    let shows : is_shown s next.posted (digest_at w.promises x) ≡ true = rw ec at sh in
    let o = is_own-some s w.hashed (held_secret s x.party x.secret)
    (digest_at w.promises x) (k.own x honest) (shown-is_some s next.posted (digest_at w.promises x) shows) in
    let e = o.digest in
    let t = o.secret in
    let th : is_among t next.hashed ≡ true = rw eh (all_more w.hashed hs t o.heard) in
    let there = posted_own s t o.long next.hashed next.posted clear' heard' th (rw e at shows) in
    let both : (is_among t w.posted || is_among t ps) ≡ true = sym (among-append t w.posted ps) ∙ ap (is_among t) (sym ep) ∙ there in
    let old : is_among t w.posted ≡ false = false_from_ne_true (is_among t w.posted) (λ q. both_ways _ (rw e at hid) (own_shows s t o.long w.posted q)) in
    record { secret = t; own = o.own; allowed = not_guessed s w.posted ps al x.party x.secret t unguessed o.own (rw old at both) old; digest = e }

module _ (s : Setup) (z : List (List ℕ)) (apart : different_secrets (all_secrets s) ≡ true) where
  -- strings are hashed and posted, and the secrets that they show are revealed
  pub record Posted (g : Configuration) (w next : World) (al : Option (List ℕ × List ℕ)) : Type 0 where
    pub legal : Legal g (reveals s w next)
    pub kept : KeptSecrets s z (after_steps g (reveals s w next)) next
    pub revealer : (x : Revealed) → shown s next x ≡ true → shown s w x ≡ false → is_honest s x.party ≡ true → IsRevealer s w al x

  pub posted : (g : Configuration) (w next : World) (hs ps : List (List ℕ)) (al : Option (List ℕ × List ℕ)) → KeptSecrets s z g w
      → next.promises ≡ w.promises → next.posted ≡ w.posted ++ ps → next.hashed ≡ noted_all w.hashed hs
      → collision s.hash w.hashed hs ≡ None
      → guess s w.posted ps al ≡ None
      → Begins z next.posted
      → ((t : List ℕ) → is_among t ps ≡ true → is_among t hs ≡ true)
      → ((a n t : List ℕ) → allows al a n ≡ true → held_secret s a n ≡ Some t → is_among (s.hash t) (used_digests w.promises) ≡ true)
      → Posted g w next al
  posted g w next hs ps al k ec ep eh clear unguessed within heard permitted =
      let lengths : g.committed ≡ map (committed_by s z) next.promises = rw ec k.lengths in
      let own : (x : Revealed) → is_honest s x.party ≡ true → is_own s next.hashed (held_secret s x.party x.secret) (digest_at next.promises x) ≡ true =
      λ x h. rw (ec, eh) (is_own-more s w.hashed hs (held_secret s x.party x.secret) (digest_at w.promises x) (k.own x h)) in
      let known : (x : Revealed) → is_some (digest_at next.promises x) ≡ true → has_secret x (all_secrets s) ≡ true = λ x h. k.known x (rw ec at h) in
      let grows : (x : Revealed) → shown s w x ≡ true → shown s next x ≡ true = λ x h. rw (ec, ep) (shown-post (digest_at w.promises x) w.posted h) in
      let clear' : NoCollision s.hash next.hashed = rw eh (no_collision s.hash w.hashed hs k.clear clear) in
      let heard' : (t : List ℕ) → is_among t next.posted ≡ true → is_among t next.hashed ≡ true = λ t h.
      rw eh (elim (among_split t w.posted ps (rw ep at h)) [ inl a ↦ all_more w.hashed hs t (k.heard t a) | inr b ↦ all_new w.hashed hs t (heard t b) ]) in
      record {
        legal = reveals_legal s z g w next k.revealed lengths own known within grows apart;
        kept = rw (after-reveals (newly_shown s w next) g) (record {
          lengths = lengths;
          revealed = reveals_agree s z g w next k.revealed lengths own known within grows apart;
          known = known;
          own = own;
          clear = clear';
          heard = heard';
          once = rw ec k.once;
          early = λ a n t o h. rw ec (by_time a n t o (is_among t w.posted) refl (sym (among-append t w.posted ps) ∙ ap (is_among t) (sym ep) ∙ h));
          full = λ x p i. rw ec (k.full x (rw ec at p) i);
        });
        revealer = revealed_by s z g w next hs ps al k ec ep eh clear unguessed heard;
      }
    where
      by_time : (a n t : List ℕ) → held_secret s a n ≡ Some t → (b : Bool) → is_among t w.posted ≡ b
          → (is_among t w.posted || is_among t ps) ≡ true → is_among (s.hash t) (used_digests w.promises) ≡ true
      by_time a n t o true e h = k.early a n t o e
      by_time a n t o false e h = permitted a n t (not_guessed s w.posted ps al a n t unguessed o (rw e at h) e) o

      shown-post : (d : Option (List ℕ)) (ts : List (List ℕ)) → is_shown s ts d ≡ true → is_shown s (ts ++ ps) d ≡ true
      shown-post None ts h = cc
      shown-post (Some d) ts h = find_any (fits s d) (ts ++ ps) (any-append (fits s d) ts ps ∙ or_left _ _ (any_found (fits s d) ts h))

  -- a part of the configuration that secrets don't read
  pub carried : (g g' : Configuration) (w : World) → KeptSecrets s z g w → g'.committed ≡ g.committed → g'.revealed ≡ g.revealed → KeptSecrets s z g' w
  carried g g' w k ec er =
      record {
        lengths = ec ∙ k.lengths;
        revealed = λ x. ap (has_secret x) er
            ∙ k.revealed x;
        known = k.known;
        own = k.own;
        clear = k.clear;
        heard = k.heard;
        once = k.once;
        early = k.early;
        full = k.full;
      }

  -- more is hashed, and nothing is posted
  pub quiet : (g g' : Configuration) (w next : World) (hs : List (List ℕ)) → KeptSecrets s z g w → g'.committed ≡ g.committed → g'.revealed ≡ g.revealed
      → next.promises ≡ w.promises → next.posted ≡ w.posted ++ [] → next.hashed ≡ noted_all w.hashed hs → collision s.hash w.hashed hs
      ≡ None → KeptSecrets s z g' next
  quiet g g' w next hs k ec er wc wp wh clear =
      let same_posted = wp ∙ append-nil w.posted in
      record {
        lengths = ec ∙ rw wc k.lengths;
        revealed = λ x. ap (has_secret x) er ∙ rw (wc, same_posted) (k.revealed x);
        known = λ x h. k.known x (rw wc at h);
        own = λ x h. rw (wc, wh) (is_own-more s w.hashed hs (held_secret s x.party x.secret) (digest_at w.promises x) (k.own x h));
        clear = rw wh (no_collision s.hash w.hashed hs k.clear clear);
        heard = λ t h. rw wh (all_more w.hashed hs t (k.heard t (rw same_posted at h)));
        once = rw wc k.once;
        early = λ a n t o h. rw wc (k.early a n t o (rw same_posted at h));
        full = λ x p i. rw wc (k.full x (rw wc at p) i);
      }
