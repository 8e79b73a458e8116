-- Signatures by hand.
use Rattle.std.proofs.Common.{◌≡◌, List, [], ◌∷◌, true, false, refl, ap, inl, inr}
use Rattle.std.specs.Prelude.{not}
use Rattle.std.proofs.lemmas.Bool.{and_from}
use Rattle.spec_bitcoin.specs.Keys.{Pair, has_signed}
use Rattle.spec_calculus.specs.Configuration.{Configuration}
use Rattle.spec_run.specs.declared.event.Event.{Event}
use Rattle.spec_run.specs.declared.outcome.Reason.{Reason}
use Rattle.spec_run.specs.declared.outcome.Reason.TheVariants as reason
use Rattle.spec_run.specs.Setup.{Setup}
use Rattle.spec_run.specs.World.{World, live_position_at}
use Rattle.spec_run.specs.Compiled.{compiled_instance}
use Rattle.spec_run.specs.Signing.{initial_pairs, authorising_pairs}
use Rattle.spec_next.specs.declared.requirement.Requirement.{Requirement}
use Rattle.spec_next.specs.declared.outlook.Ruling.{Ruling}
use Rattle.spec_next.specs.declared.outlook.Ruling.TheVariants as rulings
use Rattle.spec_next.specs.Candidates.{are_signed}
use Rattle.spec_next.specs.Hands.{are_in_book, is_in_hand}
use Rattle.spec_next.specs.Requirements.{requirements_of}
use Rattle.spec_next.specs.Prospects.{lasting, outstanding, prospect, requirements_by, ruling}
use Rattle.theory_calculus.specs.Members.{Is_in}
use Rattle.theory_calculus.proofs.Members.{in_append, in_filter, filter_has, in_from_contains, contains_from_in, all_in}
use Rattle.theory_next.specs.Hands.{AreInBook, HandsCount, HandsCountTheorem}
use Rattle.theory_next.proofs.Never.{in_decisive, is_false}

in_book : (w : World) (pairs : List Pair) → are_in_book w.book pairs ≡ true → AreInBook w pairs
in_book w [] h = cc
in_book w (q ∷ qs) h = record {
  one = q;
  there = contains_from_in (q ∷ qs) q (inl refl);
  all = λ p i. all_in (λ (x : Pair). has_signed w.book (x.0) (x.1)) (q ∷ qs) p h (in_from_contains (q ∷ qs) p i);
}

all_signed : (w : World) (pairs : List Pair) → ((p : Pair) → Is_in p pairs → has_signed w.book (p.0) (p.1) ≡ true) → are_signed w.book pairs ≡ true
all_signed w [] h = refl
all_signed w (q ∷ qs) h = and_from _ _ (h q (inl refl)) (all_signed w qs (λ p i. h p (inr i)))

book_has : (w : World) (pairs : List Pair) → AreInBook w pairs → are_in_book w.book pairs ≡ true
book_has w [] a = absurd (in_from_contains [] a.one a.there)
book_has w (q ∷ qs) a = all_signed w (q ∷ qs) (λ p i. a.all p (contains_from_in (q ∷ qs) p i))

module _ (s : Setup) (g : Configuration) (w : World) where
  -- what stays so of a refusal isn't given by hand
  no_hand : (r : Reason) (x : Requirement) → Is_in x (lasting r) → is_in_hand s w x ≡ false
  no_hand reason.NoHonest x (inl e) = ap (is_in_hand s w) e
  no_hand reason.NoHonest x (inr i) = absurd i
  no_hand (reason.NoSecret y) x (inl e) = ap (is_in_hand s w) e
  no_hand (reason.NoSecret y) x (inr i) = absurd i
  no_hand (reason.BadSecretLength y) x (inl e) = ap (is_in_hand s w) e
  no_hand (reason.BadSecretLength y) x (inr i) = absurd i
  no_hand (reason.HashRepeated y) x (inl e) = ap (is_in_hand s w) e
  no_hand (reason.HashRepeated y) x (inr i) = absurd i
  no_hand _ x i = absurd i

  left_over : (e : Event) (x : Requirement) → Is_in x (outstanding s g w e) → is_in_hand s w x ≡ false
  left_over e x i = is_false _ (in_filter (λ y. not (is_in_hand s w y)) (requirements_of s g w e) x i).1

  by_ruling : (e : Event) (r : Ruling) (x : Requirement) → Is_in x (requirements_by (outstanding s g w e) r) → is_in_hand s w x ≡ false
  by_ruling e rulings.Can x i = absurd i
  by_ruling e (rulings.Cannot why) x i = elim (in_append x (lasting why) (outstanding s g w e) (in_decisive _ x i)) [
    | inl a ↦ no_hand why x a
    | inr b ↦ left_over e x b
  ]
  by_ruling e rulings.Halts x i = absurd i

  pub hands_count_here : HandsCount s g w
  hands_count_here = record {
    left = λ e x. (
      λ h. let f = in_filter (λ y. not (is_in_hand s w y)) (requirements_of s g w e) x (in_from_contains (outstanding s g w e) x h) in
          (contains_from_in (requirements_of s g w e) x f.0, is_false _ f.1),
      λ h. contains_from_in (outstanding s g w e) x
          (filter_has (λ y. not (is_in_hand s w y)) (requirements_of s g w e) x (in_from_contains (requirements_of s g w e) x h.0) (ap not h.1)),
    );
    said = λ e x h. by_ruling e (ruling s w e) x (in_from_contains (prospect s g w e).requirements x h);
    starts = λ party k.
        let pairs = initial_pairs s party (compiled_instance s w k) in
        (λ h. in_book w pairs h, λ a. book_has w pairs a);
    authorises = λ party n i.
        let pairs = authorising_pairs s w party (live_position_at w n) i in
        (λ h. in_book w pairs h, λ a. book_has w pairs a);
  }

pub hands_count : HandsCountTheorem
hands_count s g w = hands_count_here s g w
