-- A secret that is missing for a branch, of an honest party, can be revealed: its contract has begun, its party has committed, and it isn't
-- posted.
use Rattle.std.proofs.Common.{◌≡◌, ℕ, ◌-◌, List, [], ◌∷◌, ◌++◌, map, Bool, true, false, Option, Some, None, refl, sym, ap, ◌∙◌, subst, inl, inr, ◌⊎◌}
use Rattle.std.specs.Prelude.{◌||◌, ◌&&◌, is_some, if◌then◌else◌}
use Rattle.std.specs.Str.{bytes_eq}
use Rattle.std.proofs.lemmas.Bool.{and_parts, and_from, or_left, or_right, false≢true}
use Rattle.std.proofs.lemmas.Slice.Eq.{bytes_eq-Decides}
use Rattle.spec_data.specs.Lists.{is_among, look_up}
use Rattle.spec_terms.specs.Advert.{Advert}
use Rattle.spec_terms.specs.Core.{core, asks, lock, puts_of, reveals_of}
use Rattle.spec_terms.specs.Parties.{participants, choice_mentions}
use Rattle.spec_terms.specs.Precondition.{secrets, party_of}
use Rattle.spec_terms.specs.Term as term
use Rattle.spec_terms.specs.declared.pre.Pre.{Pre}
use Rattle.spec_terms.specs.declared.pre.Pre.TheVariants.{Persistent, Volatile, Secret}
use Rattle.spec_calculus.specs.Configuration.{Configuration}
use Rattle.spec_calculus.specs.Beginning as calculus
use Rattle.spec_calculus.specs.Branches.{active_at, advert_of, contract_number, is_revealed, is_revealed_by}
use Rattle.spec_calculus.specs.Steps.{branch_at}
use Rattle.spec_run.specs.Setup.{Setup}
use Rattle.spec_run.specs.Committing.{is_secret_long}
use Rattle.spec_run.specs.Revealing.{fits, fitting}
use Rattle.spec_run.specs.Secrets.{is_shown}
use Rattle.spec_next.specs.declared.requirement.Requirement.{Requirement}
use Rattle.spec_next.specs.declared.requirement.Requirement.TheVariants as requirements
use Rattle.spec_next.specs.Requirements.{Condition, authorised, put_in, secret_requirement, revealed, undecided_or_true, asked_for, asked_by_branch, unmet}
use Rattle.theory_calculus.specs.Members.{Is_in}
use Rattle.theory_calculus.proofs.Members.{in_append, in_from_contains}
use Rattle.theory_calculus.proofs.Names.{bytes_refl}
use Rattle.theory_world.proofs.Hashed.{among_left}
use Rattle.theory_world.proofs.Contracts.Mentions.{added}
use Rattle.theory_run.specs.KeptSecrets.{is_own}
use Rattle.theory_next.proofs.Exact.{from_map, is_failing}

-- ---- what is missing for a branch

-- the secret of this name is an honest party's, and isn't revealed
pub record Lacks (honest : List (List ℕ)) (g : Configuration) (k : ℕ) (pre : List Pre) (party secret : List ℕ) : Type 0 where
  pub owner : look_up secret (secrets pre) ≡ Some party
  pub is_honest' : is_among party honest ≡ true
  pub hidden : is_revealed g.revealed k party secret ≡ false

abbrev is_secret : Requirement → Option (List ℕ × (ℕ × List ℕ))
is_secret (requirements.Secret party k secret) = Some (party, (k, secret))
is_secret _ = None

module _ (honest : List (List ℕ)) (g : Configuration) (n i : ℕ) (k : ℕ) (pre : List Pre) (b : term.Guarded) (party : List ℕ) (j : ℕ) (secret : List ℕ) where
  abbrev wanted : Requirement
  wanted = requirements.Secret party j secret

  -- the contract's number is that of the requirement
  record Found : Type 0 where
    number : k ≡ j
    lacks : Lacks honest g k pre party secret

  by_owner : (o : Option (List ℕ)) (x : List ℕ) → look_up x (secrets pre) ≡ o → secret_requirement honest k o x ≡ wanted
      → is_revealed_by g.revealed k o x ≡ false → Found
  by_owner None x e q f = cc
  by_owner (Some p) x e q f = by_honesty (is_among p honest) refl q
    where
      by_honesty : (h : Bool) → is_among p honest ≡ h → (if h then requirements.Secret p k x else requirements.Posted p x) ≡ wanted → Found
      by_honesty true h r =
          let pp : p ≡ party = cc in
          let kk : k ≡ j = cc in
          let xx : x ≡ secret = cc in
          record {
            number = kk;
            lacks = record {
              owner = subst (λ (y : List ℕ). look_up y (secrets pre) ≡ Some party) xx (e ∙ ap (λ (y : List ℕ). Some y) pp);
              is_honest' = subst (λ (y : List ℕ). is_among y honest ≡ true) pp h;
              hidden =
                  subst (λ (y : List ℕ). is_revealed g.revealed k party y ≡ false) xx
                  (subst (λ (y : List ℕ). is_revealed g.revealed k y x ≡ false) pp f);
            };
          }
      by_honesty false h r = cc

  found : Is_in wanted (unmet (asked_for honest g n i k pre b)) → Found
  found h =
      let f = is_failing (asked_for honest g n i k pre b) wanted h in
      by_place f.condition (in_from_contains (asked_for honest g n i k pre b) f.condition f.there) f.outstanding f.fails
    where
      by_rest : (c : Condition) → Is_in c (revealed honest g k pre (reveals_of (core b)))
          ⊎ ((c ≡ (undecided_or_true g k pre (core b), requirements.Predicate)) ⊎ ⊥) → c.1 ≡ wanted → c.0 ≡ false → Found
      by_rest c (inl r) q z =
          let m = from_map (λ x. (is_revealed_by g.revealed k (look_up x (secrets pre)) x, secret_requirement honest k (look_up x (secrets pre)) x))
          (reveals_of (core b)) c r in
          by_owner (look_up m.0 (secrets pre)) m.0 refl (sym (ap (λ (d : Condition). d.1) m.2) ∙ q) (sym (ap (λ (d : Condition). d.0) m.2) ∙ z)
      by_rest c (inr (inl e)) q z = let no : requirements.Predicate ≡ wanted = sym (ap (λ (d : Condition). d.1) e) ∙ q in cc
      by_rest c (inr (inr e)) q z = absurd e

      by_place : (c : Condition) → Is_in c (asked_for honest g n i k pre b) → c.1 ≡ wanted → c.0 ≡ false → Found
      by_place c (inl e) q z = let no : requirements.Height (lock b) (lock b - g.time) ≡ wanted = sym (ap (λ (d : Condition). d.1) e) ∙ q in cc
      by_place c (inr h) q z = elim (in_append c (authorised g n i (asks b)) _ h) [
        | inl r ↦
            let m = from_map _ (asks b) c r in
            let no : requirements.Authorisation m.0 n i ≡ wanted = sym (ap (λ (d : Condition). d.1) m.2) ∙ q in cc
        | inr r ↦ elim (in_append c (put_in g k (puts_of (core b))) _ r) [
          | inl p ↦
              let m = from_map _ (puts_of (core b)) c p in
              let no : requirements.Put m.0 ≡ wanted = sym (ap (λ (d : Condition). d.1) m.2) ∙ q in cc
          | inr t ↦ by_rest c (in_append c (revealed honest g k pre (reveals_of (core b))) _ t) q z
        ]
      ]

-- of a branch that is there
pub record LacksOfBranch (s : Setup) (g : Configuration) (n i : ℕ) (party : List ℕ) (k : ℕ) (secret : List ℕ) : Type 0 where
  pub b : term.Guarded
  pub here : branch_at g n i ≡ Some b
  pub number : contract_number (active_at g.active n) ≡ k
  pub lacks : Lacks s.header.honest g k (calculus.pre_of (advert_of g.contracts (active_at g.active n))) party secret

pub lacks_of : (s : Setup) (g : Configuration) (n i : ℕ) (party : List ℕ) (k : ℕ) (secret : List ℕ)
    → Is_in (requirements.Secret party k secret) (unmet (asked_by_branch s.header.honest g n i (active_at g.active n) (branch_at g n i)))
    → LacksOfBranch s g n i party k secret
lacks_of s g n i party k secret h = by_branch (branch_at g n i) refl h
  where
    by_branch : (o : Option term.Guarded) → branch_at g n i ≡ o
        → Is_in (requirements.Secret party k secret) (unmet (asked_by_branch s.header.honest g n i (active_at g.active n) o))
        → LacksOfBranch s g n i party k secret
    by_branch None e q = absurd q
    by_branch (Some b) e q =
        let pre = calculus.pre_of (advert_of g.contracts (active_at g.active n)) in
        let f = found s.header.honest g n i (contract_number (active_at g.active n)) pre b party k secret q in
        record {
          b = b;
          here = e;
          number = f.number;
          lacks = subst (λ (m : ℕ). Lacks s.header.honest g m pre party secret) f.number f.lacks;
        }

-- ---- secrets

-- a party with a secret takes part
secret_named : (pre : List Pre) (party secret : List ℕ) → Is_in (secret, party) (secrets pre) → is_among party (map party_of pre) ≡ true
secret_named [] party secret h = absurd h
secret_named (Persistent p value name ∷ pre) party secret h = or_right (bytes_eq p party) _ (secret_named pre party secret h)
secret_named (Volatile p value name ∷ pre) party secret h = or_right (bytes_eq p party) _ (secret_named pre party secret h)
secret_named (Secret p name ∷ pre) party secret (inl e) =
    or_left _ _ (subst (λ y. bytes_eq p y ≡ true) (ap (λ (y : List ℕ × List ℕ). y.1) (sym e)) (bytes_refl p))
secret_named (Secret p name ∷ pre) party secret (inr i) = or_right (bytes_eq p party) _ (secret_named pre party secret i)

pub secret_takes_part : (a : Advert) (party secret : List ℕ) → Is_in (secret, party) (secrets a.pre) → is_among party (participants a) ≡ true
secret_takes_part a party secret i =
    added (map party_of a.pre ++ choice_mentions a.root) [] party
    (among_left party (map party_of a.pre) (choice_mentions a.root) (secret_named a.pre party secret i))

-- a posted string that fits is found
posted_fits : (s : Setup) (digest t : List ℕ) (xs : List (List ℕ)) → is_among t xs ≡ true → fits s digest t ≡ true
    → is_some (fitting s xs digest) ≡ true
posted_fits s digest t [] h f = absurd (false≢true h)
posted_fits s digest t (x ∷ xs) h f = by_first (bytes_eq x t) refl h (posted_fits s digest t xs)
  where
    passes : (b : Bool) → is_some (fitting s xs digest) ≡ true → is_some (if b then Some x else fitting s xs digest) ≡ true
    passes true k = refl
    passes false k = k

    by_first : (b : Bool) → bytes_eq x t ≡ b → (b || is_among t xs) ≡ true
        → (is_among t xs ≡ true → fits s digest t ≡ true → is_some (fitting s xs digest) ≡ true)
        → is_some (if fits s digest x then Some x else fitting s xs digest) ≡ true
    by_first true e k later =
        ap (λ (b : Bool). is_some (if b then Some x else fitting s xs digest)) (ap (fits s digest) ((bytes_eq-Decides x t).0 e) ∙ f)
    by_first false e k later = passes (fits s digest x) (later k f)

-- an own secret that isn't shown isn't posted
pub unposted : (s : Setup) (hashed posted : List (List ℕ)) (held digest : Option (List ℕ)) → is_own s hashed held digest ≡ true → is_some digest ≡ true
    → is_shown s posted digest ≡ false → (bytes : List ℕ) → held ≡ Some bytes → is_among bytes posted ≡ false
unposted s hashed posted held None own some hidden bytes e = absurd (false≢true some)
unposted s hashed posted None (Some d) own some hidden bytes e = cc
unposted s hashed posted (Some t) (Some d) own some hidden bytes e = by_posted (is_among bytes posted) refl
  where
    same : t ≡ bytes
    same = cc

    fitting_one : fits s d bytes ≡ true
    fitting_one =
        let p = and_parts (bytes_eq (s.hash t) d && is_secret_long t) (is_among t hashed) own in
        let q = and_parts (bytes_eq (s.hash t) d) (is_secret_long t) p.0 in
        subst (λ (x : List ℕ). fits s d x ≡ true) same (and_from (is_secret_long t) (bytes_eq (s.hash t) d) q.1 q.0)

    by_posted : (b : Bool) → is_among bytes posted ≡ b → b ≡ false
    by_posted false q = refl
    by_posted true q = absurd (false≢true (sym hidden ∙ posted_fits s d bytes posted q fitting_one))
