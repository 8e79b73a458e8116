-- Each reason for which an event is refused before it reaches the ledger may be printed.
use Rattle.std.proofs.Common.{◌≡◌, ℕ, List, [], ◌∷◌, ◌++◌, map, Bool, true, false, Option, Some}
use Rattle.std.proofs.Common.{None}
use Rattle.std.proofs.Common.{refl, subst, cond}
use Rattle.std.specs.Prelude.{if◌then◌else◌, is_some, filter, nat_le, not}
use Rattle.std.specs.List.{list_all, AllByRecursion}
use Rattle.std.specs.Option.{option_map_or}
use Rattle.std.proofs.lemmas.Bool.{and_parts}
use Rattle.spec_data.specs.Lists.{is_among, has_number, look_up, first_reason}
use Rattle.spec_terms.specs.Advert.{Advert}
use Rattle.spec_terms.specs.Term as term
use Rattle.spec_terms.specs.Term.{branches}
use Rattle.spec_terms.specs.Core.{core, puts_of, is_asked}
use Rattle.spec_terms.specs.Faults.{IsWellFormed}
use Rattle.spec_terms.specs.Parties.{participants}
use Rattle.spec_terms.specs.Paths.{at}
use Rattle.spec_terms.specs.Precondition.{Holding, volatile}
use Rattle.spec_terms.specs.Readable.{is_name, is_readable_entry}
use Rattle.spec_terms.specs.declared.pre.Pre.{Pre}
use Rattle.spec_terms.specs.declared.pre.Pre.TheVariants.{Persistent, Volatile, Secret}
use Rattle.spec_terms.specs.declared.path.PathStep.{PathStep}
use Rattle.spec_bitcoin.specs.Keys.{IsStep, key_of}
use Rattle.spec_data.specs.Ranges.{max_money}
use Rattle.spec_compiler.specs.Instance.{Instance, branch_label}
use Rattle.spec_compiler.specs.declared.prepared.Prepared.{Prepared}
use Rattle.spec_compiler.specs.Transactions.{holding_or_none}
use Rattle.spec_compiler.specs.Compilation.{compilation}
use Rattle.spec_compiler.specs.Endorsements.{Need, put_owner, branch_needs, put_needs, needs_of, path_needs, needs, needed, is_met}
use Rattle.spec_run.specs.declared.outcome.Reason.{Reason}
use Rattle.spec_run.specs.Setup.{Setup, contract_at, pre_at, pre_of, is_honest, bytes_or_none}
use Rattle.spec_run.specs.World.{ContractPosition, World, output_at, is_deposit, live_position_at}
use Rattle.spec_run.specs.Compiled.{compiled_instance}
use Rattle.spec_run.specs.Conditions.{IsSetup}
use Rattle.spec_run.specs.Pending.{Pending, unless}
use Rattle.spec_run.specs.Ledger.{position_path, branch_in}
use Rattle.spec_run.specs.Advertising.{repeated, not_live, unsuited, advertise_row}
use Rattle.spec_run.specs.Committing.{secrets_at, own_digests, not_held, badly_long, used_digests, used_again}
use Rattle.spec_run.specs.Committing.{missing_secret, bad_secret}
use Rattle.spec_run.specs.Committing.{committed_digests, commit_row, repeated_digest, digest_row}
use Rattle.spec_run.specs.Signing.{missing_need, missed_need, not_endorsed, init_row, branch_if_live}
use Rattle.spec_run.specs.Revealing.{reveal_row}
use Rattle.spec_run.specs.Giving.{first_dead, first_foreign, give_row}
use Rattle.spec_run.specs.Firing.{revealed_by, first_unshown, unknown_secret, position_instance, unknown_at, fire_row}
use Rattle.theory_calculus.proofs.Members.{found}
use Rattle.theory_calculus.proofs.Names.{looked_in}
use Rattle.theory_world.proofs.Contracts.Checking.{compiled_checked}
use Rattle.theory_play_text.specs.Printable.{IsWide, IsNamed, IsParty, IsReason, IsOutcome}
use Rattle.theory_play_text.proofs.LedgerAnswers.{first_has, number_some}
use Rattle.theory_play_text.proofs.LegalSteps.{by_get, by_append, all_by_in}
use Rattle.theory_play_text.proofs.Named.{AllNamed, IsReadable, IsHeld, HasNames, has_names, own_named, reveals_named, branch_fine}

-- ---- reasons that name something

pub unless_shown : (w : World) (o : Option Reason) (hashes : List (List ℕ)) (d : Pending) → ((r : Reason) → o ≡ Some r → IsReason r)
    → IsOutcome d.outcome → IsOutcome (unless o w hashes d).outcome
unless_shown w None hashes d f h = h
unless_shown w (Some r) hashes d f h = f r refl

name_some : (o : Option (List ℕ)) → ((x : List ℕ) → o ≡ Some x → IsNamed x) → is_some o ≡ true → IsNamed (bytes_or_none o)
name_some None f h = cc
name_some (Some x) f h = f x refl

abbrev AreNamed : {V : Type 0} → List (List ℕ × V) → Type 0
AreNamed ps = AllByRecursion (λ p. IsNamed (p.0)) ps

-- the one or the other
chosen : {X : Type 0} (P : X → Type 0) (t : Bool) (x y : X) → P x → P y → P (if t then x else y)
chosen P true x y h k = h
chosen P false x y h k = k

-- an answer that is this name or comes later
first_named : (t : Bool) (x y : List ℕ) (later : Option (List ℕ)) → IsNamed x → (later ≡ Some y → IsNamed y)
    → (if t then Some x else later) ≡ Some y → IsNamed y
first_named true x y later h f e = let same : x ≡ y = cc in subst IsNamed same h
first_named false x y later h f e = f e

later_named : (t : Bool) (x y : List ℕ) (later : Option (List ℕ)) → IsNamed x → (later ≡ Some y → IsNamed y)
    → (if t then later else Some x) ≡ Some y → IsNamed y
later_named true x y later h f e = f e
later_named false x y later h f e = let same : x ≡ y = cc in subst IsNamed same h

later_wide : (t : Bool) (x y : ℕ) (later : Option ℕ) → IsWide x → (later ≡ Some y → IsWide y) → (if t then later else Some x) ≡ Some y
    → IsWide y
later_wide true x y later h f e = f e
later_wide false x y later h f e = let same : x ≡ y = cc in subst IsWide same h

repeated_named : (seen : List ℕ) (bs : List (List ℕ × ℕ)) → AreNamed bs → (x : List ℕ) → repeated seen bs ≡ Some x → IsNamed x
repeated_named seen [] h x e = cc
repeated_named seen (b ∷ bs) h x e =
    first_named (has_number (b.1) seen) (b.0) x _ h.0 (repeated_named (seen ++ b.1 ∷ []) bs h.1 x) e

not_live_named : (w : World) (bs : List (List ℕ × ℕ)) → AreNamed bs → (x : List ℕ) → not_live w bs ≡ Some x → IsNamed x
not_live_named w [] h x e = cc
not_live_named w (b ∷ bs) h x e = later_named (is_deposit (output_at w (b.1))) (b.0) x _ h.0 (not_live_named w bs h.1 x) e

used_named : (seen : List (List ℕ)) (ds : List (List ℕ × List ℕ)) → AreNamed ds → (x : List ℕ) → used_again seen ds ≡ Some x → IsNamed x
used_named seen [] h x e = cc
used_named seen (d ∷ ds) h x e = first_named (is_among (d.1) seen) (d.0) x _ h.0 (used_named (seen ++ d.1 ∷ []) ds h.1 x) e

dead_wide : (w : World) (ns : List ℕ) → AllByRecursion IsWide ns → (n : ℕ) → first_dead w ns ≡ Some n → IsWide n
dead_wide w [] h n e = cc
dead_wide w (m ∷ ms) h n e = later_wide (is_deposit (output_at w m)) m n _ h.0 (dead_wide w ms h.1 n) e

foreign_wide : (s : Setup) (w : World) (a : List ℕ) (ns : List ℕ) → AllByRecursion IsWide ns → (n : ℕ) → first_foreign s w a ns ≡ Some n
    → IsWide n
foreign_wide s w a [] h n e = cc
foreign_wide s w a (m ∷ ms) h n e = later_wide _ m n _ h.0 (foreign_wide s w a ms h.1 n) e

unsuited_named : (s : Setup) (w : World) (k : ℕ) (bs : List (List ℕ × ℕ)) → AreNamed bs → (x : List ℕ) → unsuited s w k bs ≡ Some x
    → IsNamed x
unsuited_named s w k [] h x e = cc
unsuited_named s w k (b ∷ bs) h x e = later_named _ (b.0) x _ h.0 (unsuited_named s w k bs h.1 x) e

not_held_named : (s : Setup) (party : List ℕ) (names : List (List ℕ)) → AllNamed names → (x : List ℕ) → not_held s party names ≡ Some x
    → IsNamed x
not_held_named s party [] h x e = cc
not_held_named s party (y ∷ ys) h x e =
    let n = and_parts (is_name y) (list_all is_name ys) h in later_named _ y x _ n.0 (not_held_named s party ys n.1 x) e

badly_long_named : (s : Setup) (party : List ℕ) (names : List (List ℕ)) → AllNamed names → (x : List ℕ) → badly_long s party names ≡ Some x
    → IsNamed x
badly_long_named s party [] h x e = cc
badly_long_named s party (y ∷ ys) h x e =
    let n = and_parts (is_name y) (list_all is_name ys) h in later_named _ y x _ n.0 (badly_long_named s party ys n.1 x) e

unshown_named : (s : Setup) (w : World) (st : Instance) (names : List (List ℕ)) → AllNamed names → (x : List ℕ)
    → first_unshown s w st names ≡ Some x → IsNamed x
unshown_named s w st [] h x e = cc
unshown_named s w st (y ∷ ys) h x e =
    let n = and_parts (is_name y) (list_all is_name ys) h in later_named _ y x _ n.0 (unshown_named s w st ys n.1 x) e

own_digests_named : (s : Setup) (party : List ℕ) (names : List (List ℕ)) → AllNamed names → AreNamed (own_digests s party names)
own_digests_named s party [] h = tt
own_digests_named s party (y ∷ ys) h =
    let n = and_parts (is_name y) (list_all is_name ys) h in (n.0, own_digests_named s party ys n.1)

if_named : (t : Bool) (o : Option (List ℕ)) (x : List ℕ) → (o ≡ Some x → IsNamed x) → (if t then o else None) ≡ Some x → IsNamed x
if_named true o x f e = f e
if_named false o x f e = cc

-- ---- endorsements

volatile_named : (pre : List Pre) → IsReadable pre → AllByRecursion IsHeld (volatile pre)
volatile_named [] h = tt
volatile_named (Persistent party value name ∷ es) h = volatile_named es (and_parts _ (list_all is_readable_entry es) h).1
volatile_named (Volatile party value name ∷ es) h =
    let p = and_parts _ (list_all is_readable_entry es) h in
    let n = and_parts (is_name party) _ p.0 in
    (((and_parts (nat_le value max_money) (is_name name) n.1).1, n.0), volatile_named es p.1)
volatile_named (Secret party name ∷ es) h = volatile_named es (and_parts _ (list_all is_readable_entry es) h).1

named_party : (a : List ℕ) → IsNamed a → IsParty a
named_party [] h = tt
named_party (b ∷ bytes) h = h

one_by_one : (names : List (List ℕ)) → AllNamed names → AllByRecursion IsNamed names
one_by_one [] h = tt
one_by_one (x ∷ xs) h = let n = and_parts (is_name x) (list_all is_name xs) h in (n.0, one_by_one xs n.1)

mapped : {X Y : Type 0} (P : X → Type 0) (Q : Y → Type 0) (f : X → Y) (p : X → Bool) → ((x : X) → P x → Q (f x)) → (xs : List X)
    → AllByRecursion P xs → AllByRecursion Q (map f (filter p xs))
mapped P Q f p g [] h = tt
mapped P Q f p g (x ∷ xs) h = by_test (p x) (mapped P Q f p g xs h.1)
  where
    by_test : (t : Bool) → AllByRecursion Q (map f (filter p xs)) → AllByRecursion Q (map f (cond t (x ∷ filter p xs) (filter p xs)))
    by_test true r = (g x h.0, r)
    by_test false r = r

abbrev IsNeed : Need → Type 0
IsNeed need = AllByRecursion IsStep need.path × IsParty need.party

module _ (hash : List ℕ → List ℕ) (advert : Advert) (well : IsWellFormed advert) where
  names : HasNames advert
  names = has_names advert well

  put_named : (name : List ℕ) → IsParty (put_owner advert name)
  put_named name = by_held (look_up name (volatile advert.pre)) refl
    where
      by_held : (o : Option Holding) → look_up name (volatile advert.pre) ≡ o → IsParty (holding_or_none o).owner
      by_held None e = tt
      by_held (Some d) e =
          let i = looked_in (volatile advert.pre) name d e in
          named_party d.owner (all_by_in IsHeld (volatile advert.pre) (volatile_named advert.pre (has_names advert well).pre) (name, d) i).1

  puts_need : (path : List PathStep) → AllByRecursion IsStep path → (puts ds : List (List ℕ))
      → AllByRecursion IsNeed (put_needs hash advert path puts ds)
  puts_need path h [] ds = tt
  puts_need path h (x ∷ xs) [] = tt
  puts_need path h (x ∷ xs) (d ∷ ds) = ((h, put_named x), puts_need path h xs ds)

  asked_need : (contract : ℕ) (path : List PathStep) (b : term.Guarded) (digest : List ℕ) → AllByRecursion IsStep path
      → AllByRecursion IsNeed (branch_needs hash contract advert path b digest)
  asked_need contract path b digest h =
      mapped IsNamed IsNeed
      (λ party. record { path = path; party = party; key = key_of hash (branch_label contract path party); digest = digest })
      (λ party. not (is_asked b party)) (λ party n. (h, named_party party n)) (participants advert)
      (one_by_one (participants advert) (has_names advert well).people)

  need_all : (contract : ℕ) (path : List PathStep) (b : term.Guarded) (ds : List (List ℕ)) → AllByRecursion IsStep path
      → AllByRecursion IsNeed (needs_of hash contract advert path b ds)
  need_all contract path b [] h = tt
  need_all contract path b (d ∷ ds) h =
      by_append IsNeed (branch_needs hash contract advert path b d) _ (asked_need contract path b d h)
      (puts_need path h (puts_of (core b)) ds)

  path_need : (contract : ℕ) (path : List PathStep) (made : Prepared) → AllByRecursion IsNeed (path_needs hash contract advert path made)
  path_need contract path made = by_branch (at advert.root path) refl
    where
      by_branch : (o : Option term.Guarded) → at advert.root path ≡ o
          → AllByRecursion IsNeed (option_map_or (λ b. needs_of hash contract advert path b made.digests) o [])
      by_branch None e = tt
      by_branch (Some b) e = need_all contract path b made.digests (branch_fine advert well path b e).steps

  all_needs : (contract : ℕ) (paths : List (List PathStep × Prepared)) → AllByRecursion IsNeed (needs hash contract advert paths)
  all_needs contract [] = tt
  all_needs contract (p ∷ ps) =
      by_append IsNeed (path_needs hash contract advert (p.0) (p.1)) _ (path_need contract (p.0) (p.1)) (all_needs contract ps)

-- ---- the rows

module _ (s : Setup) (is : IsSetup s) (w : World) where
  pre_readable : (k : ℕ) → IsReadable (pre_at s k)
  pre_readable k = by_contract (contract_at s k) refl
    where
      by_contract : (o : Option Advert) → contract_at s k ≡ o → IsReadable (pre_of o)
      by_contract None e = refl
      by_contract (Some a) e = (has_names a (by_get IsWellFormed s.contracts k a is.contracts e)).pre

  secrets_are : (k : ℕ) (party : List ℕ) → AllNamed (secrets_at s k party)
  secrets_are k party = own_named party (pre_at s k) (pre_readable k)

  pub advertise_shown : (k : ℕ) (bs : List (List ℕ × ℕ)) → AreNamed bs → (r : Reason) → first_reason (advertise_row s w k bs) ≡ Some r
      → IsReason r
  advertise_shown k bs h = first_has IsReason (advertise_row s w k bs) (
    λ x. tt,
    (
      λ x. tt,
      (
        λ x. tt,
        (
          name_some (repeated [] bs) (repeated_named [] bs h),
          (
            name_some (not_live w bs) (not_live_named w bs h),
            (
              name_some (unsuited s w k bs) (unsuited_named s w k bs h),
              (
                λ x. tt,
                tt,
              ),
            ),
          ),
        ),
      ),
    ),
  )

  pub commit_shown : (k : ℕ) (a : List ℕ) (ds : List (List ℕ × List ℕ)) (r : Reason) → first_reason (commit_row s w k a ds) ≡ Some r
      → IsReason r
  commit_shown k a ds = first_has IsReason (commit_row s w k a ds) (
    λ x. tt,
    (
      λ x. tt,
      (
        λ x. tt,
        (
          λ x. tt,
          (
            λ x. tt,
            (
              name_some (missing_secret s k a)
                  (λ x e. if_named (is_honest s a) _ x (not_held_named s a (secrets_at s k a) (secrets_are k a) x) e),
              (
                name_some (bad_secret s k a) (λ x e. if_named (is_honest s a) _ x
                    (badly_long_named s a (secrets_at s k a) (secrets_are k a) x) e),
                tt,
              ),
            ),
          ),
        ),
      ),
    ),
  )

  pub digest_shown : (k : ℕ) (a : List ℕ) (ds : List (List ℕ × List ℕ)) → AreNamed ds → (r : Reason)
      → first_reason (digest_row s w k a ds) ≡ Some r
      → IsReason r
  digest_shown k a ds h =
      let named = chosen AreNamed (is_honest s a) (own_digests s a (secrets_at s k a)) ds
      (own_digests_named s a (secrets_at s k a) (secrets_are k a)) h in
      first_has IsReason (digest_row s w k a ds)
      (name_some (repeated_digest s w k a ds) (used_named (used_digests w.promises) (committed_digests s k a ds) named), tt)

  need_shown : (o : Option Instance) (k : ℕ) → compiled_instance s w k ≡ o → (n : Need) → missing_need s w o ≡ Some n → IsNeed n
  need_shown None k c n e = cc
  need_shown (Some st) k c n e =
      let f = found (λ need. not (is_met w.book need)) (needed s.hash st) n e in
      all_by_in IsNeed (needed s.hash st)
      (all_needs s.hash st.advert (compiled_checked s is w k st c) st.contract (compilation s.hash st).paths) n f.0

  missed_shown : (k : ℕ) (a : List ℕ) (o : Option Need) → missed_need s w k a ≡ o → is_some o ≡ true → IsReason (not_endorsed o)
  missed_shown k a None e h = cc
  missed_shown k a (Some n) e h = by_honest (is_honest s a) e
    where
      by_honest : (t : Bool) → (if t then missing_need s w (compiled_instance s w k) else None) ≡ Some n → IsReason (not_endorsed (Some n))
      by_honest true q = need_shown (compiled_instance s w k) k refl n q
      by_honest false q = cc

  pub init_shown : (k : ℕ) (a : List ℕ) (r : Reason) → first_reason (init_row s w k a) ≡ Some r → IsReason r
  init_shown k a = first_has IsReason (init_row s w k a)
      (λ x. tt, (λ x. tt, (λ x. tt, (missed_shown k a (missed_need s w k a) refl, tt))))

  pub give_shown : (a : List ℕ) (ns : List ℕ) (os : List (List ℕ × ℕ)) → AllByRecursion IsWide ns → (r : Reason)
      → first_reason (give_row s w a ns os) ≡ Some r → IsReason r
  give_shown a ns os h = first_has IsReason (give_row s w a ns os) (
    number_some IsWide (first_dead w ns) (dead_wide w ns h),
    (number_some IsWide (first_foreign s w a ns) (foreign_wide s w a ns h), (λ x. tt, (λ x. tt, (λ x. tt, tt)))),
  )

  pub reveal_shown : (k : ℕ) (a x : List ℕ) → IsNamed x → (r : Reason) → first_reason (reveal_row s w k a x) ≡ Some r → IsReason r
  reveal_shown k a x h = first_has IsReason (reveal_row s w k a x) (λ q. tt, (λ q. tt, (λ q. h, (λ q. tt, (λ q. tt, (λ q. tt, tt))))))

  revealed_names : (o : Option ContractPosition) (j : ℕ) → AllNamed (revealed_by (branch_if_live s o j))
  revealed_names None j = refl
  revealed_names (Some held) j = by_contract (contract_at s held.contract) refl
    where
      by_branch : (a : Advert) → IsWellFormed a → (b : Option term.Guarded) → at a.root (position_path held j) ≡ b
          → AllNamed (revealed_by b)
      by_branch a well None e = refl
      by_branch a well (Some b) e = reveals_named b (branch_fine a well (position_path held j) b e).readable

      by_contract : (o : Option Advert) → contract_at s held.contract ≡ o → AllNamed (revealed_by (branch_in o (position_path held j)))
      by_contract None e = refl
      by_contract (Some a) e =
          by_branch a (by_get IsWellFormed s.contracts held.contract a is.contracts e) (at a.root (position_path held j)) refl

  unknown_named : (o : Option Instance) (b : Option term.Guarded) → AllNamed (revealed_by b) → (x : List ℕ)
      → unknown_secret s w o b ≡ Some x → IsNamed x
  unknown_named None b h x e = cc
  unknown_named (Some st) b h x e = unshown_named s w st (revealed_by b) h x e

  pub fire_shown : (n j : ℕ) (r : Reason) → first_reason (fire_row s w n j) ≡ Some r → IsReason r
  fire_shown n j = first_has IsReason (fire_row s w n j) (
    λ x. tt,
    (
      λ x. tt,
      (
        name_some (unknown_at s w n j)
            (unknown_named (position_instance s w (live_position_at w n)) (branch_if_live s (live_position_at w n) j)
            (revealed_names (live_position_at w n) j)),
        tt,
      ),
    ),
  )
