-- Once all have committed, all endorse and all sign the initial transaction.
use Rattle.std.proofs.Common.{◌≡◌, ℕ, List, [], ◌∷◌, ◌++◌, map, Bool, true, false, not, Some, None, refl, sym, ap, ◌∙◌, subst, inl, inr, ◌⊎◌}
use Rattle.std.specs.Prelude.{◌&&◌, is_some, if◌then◌else◌}
use Rattle.std.specs.List.{filter}
use Rattle.std.specs.Str.{bytes_eq}
use Rattle.std.proofs.lemmas.Bool.{and_from, or_left, or_right}
use Rattle.spec_data.specs.Lists.{is_among, first_reason}
use Rattle.spec_terms.specs.Advert.{Advert}
use Rattle.spec_terms.specs.Parties.{participants}
use Rattle.spec_terms.specs.Precondition.{Holding, persistent}
use Rattle.spec_bitcoin.specs.Keys.{Pair, has_signed}
use Rattle.spec_calculus.specs.Configuration.{Configuration}
use Rattle.spec_calculus.specs.Beginning.{is_init_authorised}
use Rattle.spec_calculus.specs.Steps.{after_steps}
use Rattle.spec_compiler.specs.Instance.{Instance}
use Rattle.spec_compiler.specs.Endorsements.{Need, is_met, all_met, missing_endorsement}
use Rattle.spec_run.specs.declared.event.Event.{Event}
use Rattle.spec_run.specs.declared.event.Event.TheVariants as events
use Rattle.spec_run.specs.Setup.{Setup, pre_at, pre_of}
use Rattle.spec_run.specs.World.{World}
use Rattle.spec_run.specs.Compiled.{compiled_instance}
use Rattle.spec_run.specs.Pending.{done, applied, unless}
use Rattle.spec_run.specs.Signing.{signed_all, with_pairs, needs_at, pairs_of_party, endorsing_pairs, endorse_row, initial_pairs, missing_need, missed_need, init_row}
use Rattle.spec_run.specs.Event.{pending, played}
use Rattle.spec_run.specs.Steps.{is_of_party, is_bound_live, init_steps}
use Rattle.spec_run.specs.Translation.{last_configuration, last_world}
use Rattle.theory_calculus.specs.Members.{Is_in}
use Rattle.theory_calculus.proofs.Members.{all_then, filter_has}
use Rattle.theory_calculus.proofs.Names.{bytes_refl}
use Rattle.theory_script.proofs.Missing.{none_unmet}
use Rattle.theory_world.proofs.Book.{signed_more, signed_new}
use Rattle.theory_world.proofs.Ledger.Acceptable.{none_reason}
use Rattle.theory_world.proofs.Later.{compiled_is}
use Rattle.theory_world.proofs.Staying.{inits_stay, auth_inits_new}
use Rattle.theory_run.proofs.Events.Advertised.{none_is}
use Rattle.theory_next.proofs.OneMore as one_more
use Rattle.theory_next.proofs.Onward.{GoesSoFar, Fine}
use Rattle.theory_next.proofs.FirstStage.{IsFirst, AllLive, has_first, takes_part_in, kept_so_far, bound_live}
use Rattle.theory_next.proofs.FirstQuiet.{passes_quietly}

module _ (s : Setup) (advert : Advert) (first : IsFirst s advert) where
  -- ---- signing the initial transaction

  -- what isn't signed yet is that of one of these
  pub record Starting (st : Instance) (rest : List (List ℕ)) (g : Configuration) (w : World) : Type 0 where
    pub compiled : compiled_instance s w 0 ≡ Some st
    pub live : AllLive w
    pub endorsed : all_met w.book (needs_at s st) ≡ true
    pub may : (d : List ℕ × Holding) → Is_in d (persistent advert.pre)
        → Is_in (d.1).owner rest ⊎ (is_init_authorised g.init_authorised 0 (d.0) ≡ true)

  module _ (es : List Event) (so : GoesSoFar s es) (st : Instance) (party : List ℕ) (takes : is_among party (participants advert) ≡ true)
      (compiled : compiled_instance s (last_world s es) 0 ≡ Some st) where
    abbrev w : World
    w = last_world s es

    abbrev g : Configuration
    g = last_configuration s es

    abbrev started_world : World
    started_world = with_pairs w (initial_pairs s party (compiled_instance s w 0))

    started : all_met w.book (needs_at s st) ≡ true → pending s w (events.Init 0 party) ≡ done started_world []
    started endorsed =
        let none : missing_endorsement s.hash st w.book ≡ None = none_is _ (none_unmet w.book (needs_at s st) ∙ endorsed) in
        let missed : missed_need s w 0 party ≡ None =
        (λ i. if first.honest party takes i then missing_need s w (compiled i) else None) ∙ none in
        let row : first_reason (init_row s w 0 party) ≡ None =
        none_reason (init_row s w 0 party) (
          ap not (has_first s advert first),
          (
            ap not (takes_part_in s advert first party takes),
            (ap (λ o. not (is_some o)) compiled, (ap is_some missed, tt)),
          ),
        ) in
        ap (λ r. unless r w [] (done started_world [])) row

    abbrev endorsed_world : World
    endorsed_world = with_pairs w (endorsing_pairs s party (compiled_instance s w 0))

    pub endorses : pending s w (events.Endorse 0 party) ≡ done endorsed_world []
    endorses =
        let row : first_reason (endorse_row s w 0 party) ≡ None =
        none_reason (endorse_row s w 0 party) (
          ap not (has_first s advert first),
          (ap not (takes_part_in s advert first party takes), (ap (λ o. not (is_some o)) compiled, tt)),
        ) in
        ap (λ r. unless r w [] (done endorsed_world [])) row

  -- what stays once it is signed
  still_met : (book pairs : List Pair) (needs : List Need) → all_met book needs ≡ true → all_met (signed_all book pairs) needs ≡ true
  still_met book pairs needs h =
      all_then (is_met book) (is_met (signed_all book pairs)) needs (λ (n : Need) m. signed_more book pairs n.key n.digest m) h

  module _ (st : Instance) (after : List Event)
      (ending : (es : List Event) → GoesSoFar s es → Starting st [] (last_configuration s es) (last_world s es) → Fine s (played s (es ++ after))) where
    abbrev bound_of : List ℕ → World → List (List ℕ × Holding)
    bound_of party w = filter (λ d. is_of_party party d && is_bound_live w 0 d) (persistent (pre_at s 0))

    -- one more has signed
    started_so : (party : List ℕ) (rest : List (List ℕ)) (es : List Event) (so : GoesSoFar s es)
        → (takes : is_among party (participants advert) ≡ true)
        → (start : Starting st (party ∷ rest) (last_configuration s es) (last_world s es))
        → Starting st rest (after_steps (last_configuration s es) (init_steps s (last_world s es) 0 party))
        (applied (last_world s es) (done (started_world es so st party takes start.compiled) []))
    started_so party rest es so takes start =
        let w = last_world s es in
        let g = last_configuration s es in
        record {
          compiled = start.compiled;
          live = record { live = start.live.live };
          endorsed = still_met w.book (initial_pairs s party (compiled_instance s w 0)) (needs_at s st) start.endorsed;
          may = λ d i. elim (start.may d i) [
            | inl a ↦ elim a [
              | inl q ↦ inr (own d i q)
              | inr k ↦ inl k
            ]
            | inr b ↦ inr (inits_stay (init_steps s w 0 party) g 0 (d.0) b)
          ];
        }
      where
        own : (d : List ℕ × Holding) → Is_in d (persistent advert.pre) → (d.1).owner ≡ party
            → is_init_authorised (after_steps (last_configuration s es) (init_steps s (last_world s es) 0 party)).init_authorised 0 (d.0) ≡ true
        own d i q =
            let w = last_world s es in
            let g = last_configuration s es in
            let there = subst (λ pre. Is_in d (persistent pre)) (sym (ap pre_of first.there)) i in
            let told = (compiled_is s w 0 st start.compiled).advertised in
            let live = bound_live s advert first g w (kept_so_far s es so).holds.honest.run.books.book told start.live d i in
            let mine : is_of_party party d ≡ true = subst (λ p. bytes_eq (d.1).owner p ≡ true) q (bytes_refl (d.1).owner) in
            auth_inits_new 0 (bound_of party w) g d
            (filter_has (λ x. is_of_party party x && is_bound_live w 0 x) (persistent (pre_at s 0)) d there (and_from _ _ mine live))

    pub all_start : (rest : List (List ℕ)) → ((p : List ℕ) → Is_in p rest → is_among p (participants advert) ≡ true)
        → (es : List Event) → GoesSoFar s es → Starting st rest (last_configuration s es) (last_world s es)
        → Fine s (played s (es ++ (map (λ p. events.Init 0 p) rest ++ after)))
    all_start [] take es so start = ending es so start
    all_start (party ∷ rest) take es so start =
        let takes = take party (inl refl) in
        let e = events.Init 0 party in
        let declared = first.declared party takes in
        let next = started_world es so st party takes start.compiled in
        let is_done = started es so st party takes start.compiled start.endorsed in
        passes_quietly s es so e declared (map (λ p. events.Init 0 p) rest ++ after) next is_done (λ further world.
        let reached = one_more.last_configuration_is s es so.run so.on e declared next is_done in
        let later = started_so party rest es so takes start in
        all_start rest (λ p i. take p (inr i)) (es ++ e ∷ []) further
        (subst (Starting st rest (last_configuration s (es ++ e ∷ []))) (sym world)
        (subst (λ g. Starting st rest g (applied (last_world s es) (done next []))) (sym reached) later)))

  -- ---- endorsing

  -- a need of a party is among its pairs
  pair_there : (party : List ℕ) (ns : List Need) (n : Need) → Is_in n ns → n.party ≡ party
      → has_signed (pairs_of_party party ns) n.key n.digest ≡ true
  pair_there party [] n i e = absurd i
  pair_there party (m ∷ ns) n (inl q) e =
      let t : bytes_eq m.party party ≡ true =
      subst (λ (x : Need). bytes_eq x.party party ≡ true) q (subst (λ p. bytes_eq n.party p ≡ true) e (bytes_refl n.party)) in
      let here : has_signed ((m.key, m.digest) ∷ pairs_of_party party ns) n.key n.digest ≡ true =
      subst (λ (x : Need). has_signed ((x.key, x.digest) ∷ pairs_of_party party ns) n.key n.digest ≡ true) q
      (or_left _ _ (and_from _ _ (bytes_refl n.key) (bytes_refl n.digest))) in
      rw t here
  pair_there party (m ∷ ns) n (inr i) e = by_test (bytes_eq m.party party) (pair_there party ns n i e)
    where
      by_test : (b : Bool) → has_signed (pairs_of_party party ns) n.key n.digest ≡ true
          → has_signed (if b then (m.key, m.digest) ∷ pairs_of_party party ns else pairs_of_party party ns) n.key n.digest ≡ true
      by_test true ih = or_right (bytes_eq m.key n.key && bytes_eq m.digest n.digest) _ ih
      by_test false ih = ih

  -- what isn't endorsed yet is that of one of these
  pub record Endorsing (st : Instance) (rest : List (List ℕ)) (w : World) : Type 0 where
    pub compiled : compiled_instance s w 0 ≡ Some st
    pub live : AllLive w
    pub signed : (n : Need) → Is_in n (needs_at s st) → Is_in n.party rest ⊎ (is_met w.book n ≡ true)

  all_signed : (book : List Pair) (ns : List Need) → ((n : Need) → Is_in n ns → is_met book n ≡ true) → all_met book ns ≡ true
  all_signed book [] h = refl
  all_signed book (n ∷ ns) h = and_from _ _ (h n (inl refl)) (all_signed book ns (λ m i. h m (inr i)))

  -- all that is needed is endorsed
  pub endorsed_all : (st : Instance) (w : World) → Endorsing st [] w → all_met w.book (needs_at s st) ≡ true
  endorsed_all st w e = all_signed w.book (needs_at s st) (λ n i. elim (e.signed n i) [ inl a ↦ absurd a | inr b ↦ b ])

  module _ (st : Instance) (after : List Event)
      (ending : (es : List Event) → GoesSoFar s es → Endorsing st [] (last_world s es) → Fine s (played s (es ++ after))) where
    endorsed_so : (party : List ℕ) (rest : List (List ℕ)) (es : List Event) (so : GoesSoFar s es)
        → (takes : is_among party (participants advert) ≡ true) → (so_far : Endorsing st (party ∷ rest) (last_world s es))
        → Endorsing st rest (applied (last_world s es) (done (endorsed_world es so st party takes so_far.compiled) []))
    endorsed_so party rest es so takes so_far =
        let w = last_world s es in
        let pairs = endorsing_pairs s party (compiled_instance s w 0) in
        record {
          compiled = so_far.compiled;
          live = record { live = so_far.live.live };
          signed = λ n i. elim (so_far.signed n i) [
            | inl a ↦ elim a [
              | inl q ↦ inr (signed_new w.book pairs n.key n.digest
                  (ap (λ o. has_signed (endorsing_pairs s party o) n.key n.digest) so_far.compiled ∙ pair_there party (needs_at s st) n i q))
              | inr k ↦ inl k
            ]
            | inr b ↦ inr (signed_more w.book pairs n.key n.digest b)
          ];
        }

    pub all_endorse : (rest : List (List ℕ)) → ((p : List ℕ) → Is_in p rest → is_among p (participants advert) ≡ true)
        → (es : List Event) → GoesSoFar s es → Endorsing st rest (last_world s es)
        → Fine s (played s (es ++ (map (λ p. events.Endorse 0 p) rest ++ after)))
    all_endorse [] take es so so_far = ending es so so_far
    all_endorse (party ∷ rest) take es so so_far =
        let takes = take party (inl refl) in
        let e = events.Endorse 0 party in
        let next = endorsed_world es so st party takes so_far.compiled in
        passes_quietly s es so e (first.declared party takes) (map (λ p. events.Endorse 0 p) rest ++ after) next
        (endorses es so st party takes so_far.compiled) (λ further world.
        all_endorse rest (λ p i. take p (inr i)) (es ++ e ∷ []) further
        (subst (Endorsing st rest) (sym world) (endorsed_so party rest es so takes so_far)))
