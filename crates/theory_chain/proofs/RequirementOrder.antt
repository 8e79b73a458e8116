-- The lines below a transaction stand in their order, each once; and whom they name is waited for.
use Rattle.std.proofs.Common.{◌≡◌, ℕ, ◌<◌, List, [], ◌∷◌, ◌++◌, map, Bool, true, false, Option, Some, None, zero, suc}
use Rattle.std.proofs.Common.{refl, sym, ap, subst, ◌∙◌, inl, inr, cond, arith, append_assoc}
use Rattle.std.specs.Prelude.{◌⊎◌, not, is_some, nat_lt, filter, if◌then◌else◌}
use Rattle.std.specs.List.{Contains, list_any}
use Rattle.std.specs.Str.{bytes_eq}
use Rattle.std.proofs.lemmas.Bool.{and_from, and_parts, both_ways, not-true}
use Rattle.spec_terms.specs.Term as term
use Rattle.spec_terms.specs.Core.{core, puts_of, reveals_of}
use Rattle.spec_terms.specs.Faults.{IsWellFormed}
use Rattle.spec_terms.specs.Precondition.{persistent, names_of}
use Rattle.spec_bitcoin.specs.declared.label.Label.{Label}
use Rattle.spec_bitcoin.specs.declared.label.Label.TheVariants as labels
use Rattle.spec_compiler.specs.declared.unsigned.Spent.{Spent}
use Rattle.spec_compiler.specs.declared.unsigned.Unsigned.{Unsigned}
use Rattle.spec_compiler.specs.Keyed.Instance.{Instance, people}
use Rattle.spec_compiler.specs.Keyed.Keys.{Keys}
use Rattle.spec_run.specs.Firing.{revealed_by}
use Rattle.spec_tool.specs.declared.which.Which.{Which}
use Rattle.spec_tool.specs.declared.which.Which.TheVariants as names
use Rattle.spec_tool.specs.Keyed.Listed.{Listed, listed_at}
use Rattle.spec_deal.specs.declared.entry.Shown.{Shown}
use Rattle.spec_deal.specs.declared.finish.Verb.{Verb}
use Rattle.spec_deal.specs.declared.signed.Signed.{Signed}
use Rattle.spec_deal.specs.declared.transaction.Transaction.{Transaction}
use Rattle.spec_deal.specs.declared.transaction.Wallet.{Wallet}
use Rattle.spec_deal.specs.Finished.{label_party, which_branch}
use Rattle.spec_deal.specs.Given.{has, missing}
use Rattle.spec_deal.specs.SecretFile.{string_for}
use Rattle.spec_deal.specs.Slots.{Slot, slots}
use Rattle.spec_deal.specs.Wallets.{input_wallet}
use Rattle.theory_calculus.specs.Members.{Is_in}
use Rattle.theory_calculus.proofs.Members.{in_left, in_right, in_append, in_filter, filter_has, in_from_contains, contains_from_in}
use Rattle.theory_calculus.proofs.Names.{bytes-true, bytes_refl, different_names, persistent_different}
use Rattle.theory_psbt.proofs.KeysDiffer.{participants_differ}
use Rattle.theory_world.proofs.Tests.{map_append}
use Rattle.theory_deal.specs.Signing.{Signs, AsksExactly}
use Rattle.theory_deal.specs.SigningOrder.{Precedes, IsAscending, IsSameSignature, SignaturesInOrder}
use Rattle.theory_deal.proofs.ReadBranches.{puts_different, reveals_different}
use Rattle.spec_chain.specs.declared.requirement.Requirement.{Requirement}
use Rattle.spec_chain.specs.declared.requirement.Requirement.TheVariants as requirements
use Rattle.spec_chain.specs.Following.{State}
use Rattle.spec_chain.specs.Outputs.{is_deposit}
use Rattle.spec_chain.specs.Outstanding.{asked, lock_of, is_needed_for, signature_requirement, signature_requirements, deposits_needed, deposits_outstanding, secrets_outstanding, secret_requirement, gone_requirements, predicate_requirements, is_false, puts_by, outstanding, is_never, is_of, waits_for, awaited}
use Rattle.spec_chain.specs.StateText.{all_outstanding}
use Rattle.theory_chain.specs.RequirementOrder.{may_stand, RequirementsInOrder, Names, AwaitsOf, IsAwaited, WaitsExactly}
use Rattle.theory_chain.proofs.Ascending.{ascend_then, ascend_append, ascend_map, standing, in_split, AreApart, names_apart}
use Rattle.theory_chain.proofs.Needs.{named_is}
use Rattle.theory_chain.proofs.Deals.Outputs.{any_there, there_of}
use Rattle.theory_chain.proofs.Deals.Positions.{branch_at_path}
use Rattle.theory_chain.proofs.Deals.Transactions.{of_branch, named_path}
use Rattle.theory_chain.proofs.Deals.Whole.{from_map, in_map}
use Rattle.theory_chain.proofs.Runs.Kept.{none_any}

-- ---- parts of lists

-- these are of a list, and stand in its order
record Part {X : Type 0} (xs those : List X) : Type 0 where
  ascends : IsAscending (Precedes xs) those
  among : (a : X) → Is_in a those → Is_in a xs

part_all : {X : Type 0} (xs : List X) → Part xs xs
part_all xs = record { ascends = standing xs; among = λ a h. h }

pub ascend_filter : {X : Type 0} (R : X → X → Type 0) (p : X → Bool) (xs : List X) → IsAscending R xs → IsAscending R (filter p xs)
ascend_filter R p [] h = tt
ascend_filter R p (x ∷ xs) h = by_test (p x) (ascend_filter R p xs h.1)
  where
    by_test : (b : Bool) → IsAscending R (filter p xs) → IsAscending R (cond b (x ∷ filter p xs) (filter p xs))
    by_test true later = (λ y i. h.0 y (in_filter p xs y i).0, later)
    by_test false later = later

part_filter : {X : Type 0} (p : X → Bool) (xs those : List X) → Part xs those → Part xs (filter p those)
part_filter p xs those part = record {
  ascends = ascend_filter (Precedes xs) p those part.ascends;
  among = λ a h. part.among a (in_filter p those a h).0;
}

precedes_map : {X Y : Type 0} (f : X → Y) (xs : List X) (x y : X) → Precedes xs x y → Precedes (map f xs) (f x) (f y)
precedes_map {X} {Y} f xs x y p = record {
  prefix = map f p.prefix;
  between = map f p.between;
  behind = map f p.behind;
  stands =
      ap (map f) p.stands ∙ map_append f p.prefix (x ∷ (p.between ++ y ∷ p.behind))
      ∙ ap (λ (zs : List Y). map f p.prefix ++ f x ∷ zs) (map_append f p.between (y ∷ p.behind));
}

part_map : {X Y : Type 0} (f : X → Y) (xs those : List X) → Part xs those → Part (map f xs) (map f those)
part_map {X} {Y} f xs those part = record {
  ascends =
      ascend_map (Precedes (map f xs)) f those
      (ascend_then (Precedes xs) (λ (a b : X). Precedes (map f xs) (f a) (f b)) those (λ a b p. precedes_map f xs a b p) part.ascends);
  among = λ b h.
      let r = from_map f those b h in
      subst (λ (y : Y). Is_in y (map f xs)) (sym r.2) (in_map f xs r.0 (part.among r.0 r.1));
}

precedes_left : {X : Type 0} (xs ys : List X) (x y : X) → Precedes xs x y → Precedes (xs ++ ys) x y
precedes_left {X} xs ys x y p = record {
  prefix = p.prefix;
  between = p.between;
  behind = p.behind ++ ys;
  stands =
      ap (λ (zs : List X). zs ++ ys) p.stands ∙ append_assoc p.prefix (x ∷ (p.between ++ y ∷ p.behind)) ys
      ∙ ap (λ (zs : List X). p.prefix ++ x ∷ zs) (append_assoc p.between (y ∷ p.behind) ys);
}

precedes_right : {X : Type 0} (xs ys : List X) (x y : X) → Precedes ys x y → Precedes (xs ++ ys) x y
precedes_right {X} xs ys x y p = record {
  prefix = xs ++ p.prefix;
  between = p.between;
  behind = p.behind;
  stands = ap (λ (zs : List X). xs ++ zs) p.stands ∙ sym (append_assoc xs p.prefix (x ∷ (p.between ++ y ∷ p.behind)));
}

precedes_across : {X : Type 0} (xs ys : List X) (x y : X) → Is_in x xs → Is_in y ys → Precedes (xs ++ ys) x y
precedes_across {X} xs ys x y h k =
    let p = in_split xs x h in
    let q = in_split ys y k in
    let e = p.2 in
    let f = q.2 in
    record {
      prefix = p.0;
      between = p.1 ++ q.0;
      behind = q.1;
      stands =
          (λ i. e i ++ f i) ∙ append_assoc p.0 (x ∷ p.1) (q.0 ++ y ∷ q.1)
          ∙ ap (λ (zs : List X). p.0 ++ x ∷ zs) (sym (append_assoc p.1 q.0 (y ∷ q.1)));
    }

part_append : {X : Type 0} (xs ys those others : List X) → Part xs those → Part ys others → Part (xs ++ ys) (those ++ others)
part_append xs ys those others p q = record {
  ascends =
      ascend_append (Precedes (xs ++ ys)) those others
      (ascend_then (Precedes xs) (Precedes (xs ++ ys)) those (λ a b. precedes_left xs ys a b) p.ascends)
      (ascend_then (Precedes ys) (Precedes (xs ++ ys)) others (λ a b. precedes_right xs ys a b) q.ascends)
      (λ a b i j. precedes_across xs ys a b (p.among a i) (q.among b j));
  among = λ a h. by_place a (in_append a those others h);
}
  where
    by_place : (a : _) → Is_in a those ⊎ Is_in a others → Is_in a (xs ++ ys)
    by_place a (inl i) = in_left a xs ys (p.among a i)
    by_place a (inr i) = in_right a xs ys (q.among a i)

part_one : {X : Type 0} (b : Bool) (x : X) → Part (x ∷ []) (cond b (x ∷ []) [])
part_one true x = part_all (x ∷ [])
part_one false x = record { ascends = tt; among = λ a h. absurd h }

-- ---- kinds of lines

abbrev kind : Requirement → ℕ
kind (requirements.Height height) = 0
kind (requirements.Signature which input label verb) = 1
kind (requirements.Wallet which input deposit owner verb) = 1
kind (requirements.Deposit name) = 2
kind (requirements.Secret name party) = 3
kind requirements.DepositGone = 4
kind requirements.PredicateFalse = 5

-- that of a signature, by a key or by a wallet
signature_kind_of : (slot : Slot) → kind (signature_requirement slot) ≡ 1
signature_kind_of slot = by_wallet slot.which slot.pending slot.input slot.spent slot.label slot.verb slot.wallet
  where
    by_wallet : (which : Which) (pending : Unsigned) (k : ℕ) (spent : Spent) (label : Label) (verb : Verb) (wallet : Option Wallet)
        → kind (signature_requirement
        (record { which = which; pending = pending; input = k; spent = spent; label = label; verb = verb; wallet = wallet })) ≡ 1
    by_wallet which pending k spent label verb None = refl
    by_wallet which pending k spent label verb (Some w) = refl

abbrev AreOfKind : ℕ → List Requirement → Type 0
AreOfKind k rs = (r : Requirement) → Is_in r rs → kind r ≡ k

abbrev AreBehind : ℕ → List Requirement → Type 0
AreBehind k rs = (r : Requirement) → Is_in r rs → k < kind r

behind_append : (k m : ℕ) (those others : List Requirement) → k < m → AreOfKind m those → AreBehind m others → AreBehind k (those ++ others)
behind_append k m those others less f g r h = by_place (in_append r those others h)
  where
    by_place : Is_in r those ⊎ Is_in r others → k < kind r
    by_place (inl i) = let e = f r i in omega (arith, e, less)
    by_place (inr i) = let e = g r i in omega (arith, e, less)

apart_append : (k : ℕ) (those others : List Requirement) → AreOfKind k those → AreBehind k others → AreApart those → AreApart others
    → AreApart (those ++ others)
apart_append k those others f g a b =
    ascend_append (λ (x y : Requirement). x ≡ y → ⊥) those others a b (λ x y i j e.
    let p = f x i in
    let q = g y j in
    let same : kind x ≡ kind y = ap kind e in
    absurd (omega (arith, p, q, same)))

one_apart : (b : Bool) (r : Requirement) → AreApart (cond b (r ∷ []) [])
one_apart true r = (λ y i. absurd i, tt)
one_apart false r = tt

one_kind : (b : Bool) (r : Requirement) → AreOfKind (kind r) (cond b (r ∷ []) [])
one_kind true r x (inl e) = ap kind e
one_kind true r x (inr i) = absurd i
one_kind false r x i = absurd i

map_kind : {X : Type 0} (f : X → Requirement) (k : ℕ) (xs : List X) → ((x : X) → kind (f x) ≡ k) → AreOfKind k (map f xs)
map_kind f k xs all r h =
    let p = from_map f xs r h in
    ap kind p.2 ∙ all p.0

map_apart : {X : Type 0} (f : X → Requirement) (xs : List X) → IsAscending (λ (x y : X). f x ≡ f y → ⊥) xs → AreApart (map f xs)
map_apart f xs h = ascend_map (λ (x y : Requirement). x ≡ y → ⊥) f xs h

-- where a deposit is gone, one line says so
gone_cond : (xs : List (List ℕ)) → (b : Bool) × (gone_requirements xs ≡ cond b (requirements.DepositGone ∷ []) [])
gone_cond [] = (false, refl)
gone_cond (x ∷ xs) = (true, refl)

-- ---- signatures with one line

ascend_within : {X : Type 0} (R S : X → X → Type 0) (xs : List X) → ((x y : X) → Is_in x xs → Is_in y xs → R x y → S x y)
    → IsAscending R xs → IsAscending S xs
ascend_within R S [] f h = tt
ascend_within R S (x ∷ xs) f h =
    (λ y i. f x y (inl refl) (inr i) (h.0 y i), ascend_within R S xs (λ a b i j. f a b (inr i) (inr j)) h.1)

of_deposit : (label : Label) (party : List ℕ) → label ≡ labels.Deposit party → label ≡ labels.Deposit (label_party label)
of_deposit label party e = e ∙ sym (ap (λ (x : Label). labels.Deposit (label_party x)) e)

-- a wallet signs under the label of its owner's deposits
label_of_wallet : (s : Instance) (keys : Keys) (which : Which) (k : ℕ) (label : Label) (verb : Verb) (w : Wallet) → Signs s which k label verb
    → input_wallet keys s.advert which k ≡ Some w → label ≡ labels.Deposit (label_party label)
label_of_wallet s keys names.Init k label verb w h e = of_deposit label _ h.key
label_of_wallet s keys (names.At path) zero label verb w h e = cc
label_of_wallet s keys (names.At path) (suc k) label verb w h e = of_deposit label _ h.2.key

abbrev line_with : Slot → Option Wallet → Requirement
line_with z wallet =
    signature_requirement
    (record { which = z.which; pending = z.pending; input = z.input; spent = z.spent; label = z.label; verb = z.verb; wallet = wallet })

-- two signatures with one line are one
same_signature : (hash : List ℕ → List ℕ) (keys : Keys) (s : Instance) → AsksExactly → (x y : Slot) → Is_in x (slots hash keys s)
    → Is_in y (slots hash keys s) → signature_requirement x ≡ signature_requirement y → IsSameSignature x y
same_signature hash keys s asked_for x y i j e = by_wallets x.wallet y.wallet refl refl e
  where
    label_is : (z : Slot) → Is_in z (slots hash keys s) → (w : Wallet) → z.wallet ≡ Some w → z.label ≡ labels.Deposit (label_party z.label)
    label_is z h w f =
        let a = (asked_for hash keys s z).0 (contains_from_in (slots hash keys s) z h) in
        label_of_wallet s keys z.which z.input z.label z.verb w a.signs (sym a.brought ∙ f)

    by_wallets : (o p : Option Wallet) → x.wallet ≡ o → y.wallet ≡ p → line_with x o ≡ line_with y p → IsSameSignature x y
    by_wallets None None f g h = record { which = cc; input = cc; label = cc }
    by_wallets None (Some v) f g h = cc
    by_wallets (Some w) None f g h = cc
    by_wallets (Some w) (Some v) f g h =
        let party : label_party x.label ≡ label_party y.label = cc in
        record {
          which = cc;
          input = cc;
          label = label_is x i w f ∙ ap labels.Deposit party ∙ sym (label_is y j v g);
        }

-- ---- the lines of a transaction

module _ (hash : List ℕ → List ℕ) (keys : Keys) (s : Instance) (given : List Signed) (strings : List Shown) (state : State)
    (tip : ℕ) (which : Which) (l : Listed) where
  abbrev heights : List Requirement
  heights = if nat_lt tip l.pending.lock then requirements.Height l.pending.lock ∷ [] else []

  abbrev signatures : List Requirement
  signatures = signature_requirements hash keys s given which

  abbrev deposits : List Requirement
  deposits = map requirements.Deposit (deposits_outstanding s state which)

  abbrev secrets : List Requirement
  secrets = map (secret_requirement s) (secrets_outstanding s strings which)

  abbrev gone : List Requirement
  gone = gone_requirements (deposits_outstanding s state which)

  abbrev predicate : List Requirement
  predicate = predicate_requirements s strings which

  abbrev all : List Requirement
  all = heights ++ (signatures ++ (deposits ++ (secrets ++ (gone ++ predicate))))

  same_lines : listed_at hash keys s which ≡ Some l → outstanding hash keys s given strings state tip which ≡ all
  same_lines named =
      ap (λ (o : Option Transaction). (if nat_lt tip (lock_of o) then requirements.Height (lock_of o) ∷ [] else [])
      ++ (signatures ++ (deposits ++ (secrets ++ (gone ++ predicate)))))
      (named_is hash keys s which l named)

  gone_part : Part (requirements.DepositGone ∷ []) gone
  gone_part =
      let r = gone_cond (deposits_outstanding s state which) in
      subst (Part (requirements.DepositGone ∷ [])) (sym r.1) (part_one r.0 requirements.DepositGone)

  lines_part : Part (may_stand hash keys s which l) all
  lines_part =
      let never = part_append (requirements.DepositGone ∷ []) (requirements.PredicateFalse ∷ []) gone predicate gone_part
      (part_one (is_false strings (secrets_outstanding s strings which) (which_branch s which)) requirements.PredicateFalse) in
      let told = part_map (secret_requirement s) (revealed_by (which_branch s which)) (secrets_outstanding s strings which)
      (part_filter (λ a. not (is_some (string_for strings a))) (revealed_by (which_branch s which)) (revealed_by (which_branch s which))
      (part_all (revealed_by (which_branch s which)))) in
      let funded = part_map requirements.Deposit (deposits_needed s which) (deposits_outstanding s state which)
      (part_filter (λ x. not (list_any (is_deposit x) state.live)) (deposits_needed s which) (deposits_needed s which) (part_all (deposits_needed s which))) in
      let signed = part_map signature_requirement (slots hash keys s) (filter (is_needed_for which) (missing hash keys s given))
      (part_filter (is_needed_for which) (slots hash keys s) (missing hash keys s given)
      (part_filter (λ slot. not (has hash keys given slot)) (slots hash keys s) (slots hash keys s) (part_all (slots hash keys s)))) in
      let spare = requirements.DepositGone ∷ requirements.PredicateFalse ∷ [] in
      let behind_deposits = map (secret_requirement s) (revealed_by (which_branch s which)) ++ spare in
      let behind_signatures = map requirements.Deposit (deposits_needed s which) ++ behind_deposits in
      part_append (requirements.Height l.pending.lock ∷ []) (map signature_requirement (slots hash keys s) ++ behind_signatures)
      heights (signatures ++ (deposits ++ (secrets ++ (gone ++ predicate))))
      (part_one (nat_lt tip l.pending.lock) (requirements.Height l.pending.lock))
      (part_append (map signature_requirement (slots hash keys s)) behind_signatures signatures (deposits ++ (secrets ++ (gone ++ predicate))) signed
      (part_append (map requirements.Deposit (deposits_needed s which)) behind_deposits deposits (secrets ++ (gone ++ predicate)) funded
      (part_append (map (secret_requirement s) (revealed_by (which_branch s which))) spare secrets (gone ++ predicate) told never)))

  -- ---- each once

  signed_apart : AsksExactly → IsAscending (λ (x y : Slot). IsSameSignature x y → ⊥) (slots hash keys s) → AreApart signatures
  signed_apart asked_for once =
      let needed = filter (is_needed_for which) (missing hash keys s given) in
      map_apart signature_requirement needed
      (ascend_within (λ (x y : Slot). IsSameSignature x y → ⊥) (λ x y. signature_requirement x ≡ signature_requirement y → ⊥) needed
      (λ x y i j f e. f (same_signature hash keys s asked_for x y (slot_among x i) (slot_among y j) e))
      (ascend_filter (λ (x y : Slot). IsSameSignature x y → ⊥) (is_needed_for which) (missing hash keys s given)
      (ascend_filter (λ (x y : Slot). IsSameSignature x y → ⊥) (λ slot. not (has hash keys given slot)) (slots hash keys s) once)))
    where
      slot_among : (x : Slot) → Is_in x (filter (is_needed_for which) (missing hash keys s given)) → Is_in x (slots hash keys s)
      slot_among x i =
          (in_filter (λ slot. not (has hash keys given slot)) (slots hash keys s) x
          (in_filter (is_needed_for which) (missing hash keys s given) x i).0).0

  funded_apart : AreApart (deposits_needed s which) → AreApart deposits
  funded_apart once =
      map_apart requirements.Deposit (deposits_outstanding s state which)
      (ascend_then (λ (x y : List ℕ). x ≡ y → ⊥) (λ x y. requirements.Deposit x ≡ requirements.Deposit y → ⊥) (deposits_outstanding s state which)
      (λ x y f e. f cc)
      (ascend_filter (λ (x y : List ℕ). x ≡ y → ⊥) (λ x. not (list_any (is_deposit x) state.live)) (deposits_needed s which) once))

  told_apart : AreApart (revealed_by (which_branch s which)) → AreApart secrets
  told_apart once =
      map_apart (secret_requirement s) (secrets_outstanding s strings which)
      (ascend_then (λ (x y : List ℕ). x ≡ y → ⊥) (λ x y. secret_requirement s x ≡ secret_requirement s y → ⊥) (secrets_outstanding s strings which)
      (λ x y f e. f cc)
      (ascend_filter (λ (x y : List ℕ). x ≡ y → ⊥) (λ a. not (is_some (string_for strings a))) (revealed_by (which_branch s which)) once))

  lines_apart : AsksExactly → IsAscending (λ (x y : Slot). IsSameSignature x y → ⊥) (slots hash keys s) → AreApart (deposits_needed s which)
      → AreApart (revealed_by (which_branch s which)) → AreApart all
  lines_apart asked_for signed funded told =
      let false_one = is_false strings (secrets_outstanding s strings which) (which_branch s which) in
      let r = gone_cond (deposits_outstanding s state which) in
      let gone_kind : AreOfKind 4 gone = subst (AreOfKind 4) (sym r.1) (one_kind r.0 requirements.DepositGone) in
      let gone_apart : AreApart gone = subst AreApart (sym r.1) (one_apart r.0 requirements.DepositGone) in
      let predicate_behind : AreBehind 4 predicate = λ x i. let e = one_kind false_one requirements.PredicateFalse x i in omega (arith, e) in
      let secret_kind = map_kind (secret_requirement s) 3 (secrets_outstanding s strings which) (λ x. refl) in
      let deposit_kind = map_kind requirements.Deposit 2 (deposits_outstanding s state which) (λ x. refl) in
      let signature_kind = map_kind signature_requirement 1 (filter (is_needed_for which) (missing hash keys s given)) signature_kind_of in
      let gone_behind = behind_append 3 4 gone predicate (omega arith) gone_kind predicate_behind in
      let secrets_behind = behind_append 2 3 secrets (gone ++ predicate) (omega arith) secret_kind gone_behind in
      let deposits_behind = behind_append 1 2 deposits (secrets ++ (gone ++ predicate)) (omega arith) deposit_kind secrets_behind in
      let signatures_behind = behind_append 0 1 signatures (deposits ++ (secrets ++ (gone ++ predicate))) (omega arith) signature_kind deposits_behind in
      apart_append 0 heights (signatures ++ (deposits ++ (secrets ++ (gone ++ predicate))))
      (one_kind (nat_lt tip l.pending.lock) (requirements.Height l.pending.lock)) signatures_behind
      (one_apart (nat_lt tip l.pending.lock) (requirements.Height l.pending.lock))
      (apart_append 1 signatures (deposits ++ (secrets ++ (gone ++ predicate))) signature_kind deposits_behind (signed_apart asked_for signed)
      (apart_append 2 deposits (secrets ++ (gone ++ predicate)) deposit_kind secrets_behind (funded_apart funded)
      (apart_append 3 secrets (gone ++ predicate) secret_kind gone_behind (told_apart told)
      (apart_append 4 gone predicate gone_kind predicate_behind gone_apart (one_apart false_one requirements.PredicateFalse)))))

-- ---- what is needed, each once

deposits_apart : (hash : List ℕ → List ℕ) (keys : Keys) (s : Instance) (which : Which) (l : Listed) → IsWellFormed s.advert
    → listed_at hash keys s which ≡ Some l → AreApart (deposits_needed s which)
deposits_apart hash keys s names.Init l well named =
    names_apart (names_of (persistent s.advert.pre)) (persistent_different s.advert.pre (different_names s.advert well))
deposits_apart hash keys s (names.At path) l well named =
    let n = named_path hash keys s path l named in
    let of = of_branch hash keys s path n.0 n.1 in
    subst (λ (o : Option term.Guarded). AreApart (puts_by o)) (sym (branch_at_path hash keys s path of.here of.i of.b of.ends))
    (names_apart (puts_of (core of.b)) (puts_different hash keys s well path of.here of.i of.b of.ends))

secrets_apart : (hash : List ℕ → List ℕ) (keys : Keys) (s : Instance) (which : Which) (l : Listed) → IsWellFormed s.advert
    → listed_at hash keys s which ≡ Some l → AreApart (revealed_by (which_branch s which))
secrets_apart hash keys s names.Init l well named = tt
secrets_apart hash keys s (names.At path) l well named =
    let n = named_path hash keys s path l named in
    let of = of_branch hash keys s path n.0 n.1 in
    subst (λ (o : Option term.Guarded). AreApart (revealed_by o)) (sym (branch_at_path hash keys s path of.here of.i of.b of.ends))
    (names_apart (reveals_of (core of.b)) (reveals_different hash keys s well path of.here of.i of.b of.ends))

pub requirements_in_order : AsksExactly → SignaturesInOrder → RequirementsInOrder
requirements_in_order asked_for ordered hash keys s given strings state tip which l well named =
    let same = sym (same_lines hash keys s given strings state tip which l named) in (
      subst (IsAscending (Precedes (may_stand hash keys s which l))) same (lines_part hash keys s given strings state tip which l).ascends,
      subst AreApart same
          (lines_apart hash keys s given strings state tip which l asked_for (ordered hash keys s).once (deposits_apart hash keys s which l well named)
          (secrets_apart hash keys s which l well named)),
    )

-- ---- who is waited for

names_of_test : (party : List ℕ) (r : Requirement) → is_of party r ≡ true → Names r party
names_of_test party (requirements.Height height) e = cc
names_of_test party (requirements.Signature which input label verb) e = bytes-true (label_party label) party e
names_of_test party (requirements.Wallet which input deposit owner verb) e = bytes-true owner party e
names_of_test party (requirements.Deposit name) e = cc
names_of_test party (requirements.Secret name holder) e = bytes-true holder party e
names_of_test party requirements.DepositGone e = cc
names_of_test party requirements.PredicateFalse e = cc

test_of_names : (party : List ℕ) (r : Requirement) → Names r party → is_of party r ≡ true
test_of_names party (requirements.Height height) n = absurd n
test_of_names party (requirements.Signature which input label verb) n = ap (λ (x : List ℕ). bytes_eq x party) n ∙ bytes_refl party
test_of_names party (requirements.Wallet which input deposit owner verb) n = ap (λ (x : List ℕ). bytes_eq x party) n ∙ bytes_refl party
test_of_names party (requirements.Deposit name) n = absurd n
test_of_names party (requirements.Secret name holder) n = ap (λ (x : List ℕ). bytes_eq x party) n ∙ bytes_refl party
test_of_names party requirements.DepositGone n = absurd n
test_of_names party requirements.PredicateFalse n = absurd n

awaits_of_test : (party : List ℕ) (lines : List Requirement) → waits_for party lines ≡ true → AwaitsOf party lines
awaits_of_test party lines e =
    let p = and_parts (not (list_any is_never lines)) (list_any (is_of party) lines) e in
    let r = there_of (is_of party) lines p.1 in
    let none = not-true _ p.0 in
    record {
      line = r.0;
      among = contains_from_in lines r.0 r.1;
      names = names_of_test party r.0 r.2;
      funded = λ h. both_ways _ none (any_there is_never lines requirements.DepositGone (in_from_contains lines requirements.DepositGone h) refl);
      possible = λ h. both_ways _ none (any_there is_never lines requirements.PredicateFalse (in_from_contains lines requirements.PredicateFalse h) refl);
    }

test_of_awaits : (party : List ℕ) (lines : List Requirement) → AwaitsOf party lines → waits_for party lines ≡ true
test_of_awaits party lines a =
    and_from (not (list_any is_never lines)) (list_any (is_of party) lines)
    (ap not (none_any is_never lines (λ r i. by_kind r i)))
    (any_there (is_of party) lines a.line (in_from_contains lines a.line a.among) (test_of_names party a.line a.names))
  where
    by_kind : (r : Requirement) → Is_in r lines → is_never r ≡ false
    by_kind (requirements.Height height) i = refl
    by_kind (requirements.Signature which input label verb) i = refl
    by_kind (requirements.Wallet which input deposit owner verb) i = refl
    by_kind (requirements.Deposit name) i = refl
    by_kind (requirements.Secret name holder) i = refl
    by_kind requirements.DepositGone i = absurd (a.funded (contains_from_in lines requirements.DepositGone i))
    by_kind requirements.PredicateFalse i = absurd (a.possible (contains_from_in lines requirements.PredicateFalse i))

pub waits_exactly : WaitsExactly
waits_exactly hash keys s given strings state tip = (
  λ party. (to party, from party),
  (part_filter waits (people s) (people s) (part_all (people s))).ascends,
  ascend_filter (λ (x y : List ℕ). x ≡ y → ⊥) waits (people s) (names_apart (people s) (participants_differ s.advert)),
)
  where
    lines : Which → List Requirement
    lines which = outstanding hash keys s given strings state tip which

    waits : List ℕ → Bool
    waits party = list_any (waits_for party) (all_outstanding hash keys s given strings state tip)

    to : (party : List ℕ) → Contains (awaited s (all_outstanding hash keys s given strings state tip)) party
        → IsAwaited hash keys s given strings state tip party
    to party h =
        let p = in_filter waits (people s) party (in_from_contains (awaited s (all_outstanding hash keys s given strings state tip)) party h) in
        let r = there_of (waits_for party) (all_outstanding hash keys s given strings state tip) p.1 in
        let w = from_map lines (asked s state) r.0 r.1 in
        record {
          person = contains_from_in (people s) party p.0;
          which = w.0;
          asked_for = contains_from_in (asked s state) w.0 w.1;
          waits = awaits_of_test party (lines w.0) (ap (waits_for party) (sym w.2) ∙ r.2);
        }

    from : (party : List ℕ) → IsAwaited hash keys s given strings state tip party
        → Contains (awaited s (all_outstanding hash keys s given strings state tip)) party
    from party a =
        contains_from_in (awaited s (all_outstanding hash keys s given strings state tip)) party
        (filter_has waits (people s) party (in_from_contains (people s) party a.person)
        (any_there (waits_for party) (all_outstanding hash keys s given strings state tip) (lines a.which)
        (in_map lines (asked s state) a.which (in_from_contains (asked s state) a.which a.asked_for))
        (test_of_awaits party (lines a.which) a.waits)))
