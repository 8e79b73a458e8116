-- What comes next as JSON has no floats, and nests a few levels only.
use Rattle.std.proofs.Common.{◌≡◌, ℕ, suc, ◌≤◌, List, [], ◌∷◌, ◌++◌, map, Bool, false, Option, Some, None, option_map, refl, arith}
use Rattle.std.specs.Prelude.{filter, flat_map, codes, max, ◌||◌}
use Rattle.serde_json.specs.Data.{Data, null, object, Members, no_members, member, depth, items_depth, members_depth}
use Rattle.serde_json.specs.View.{items_of}
use Rattle.serde_json.specs.Written.{has_float, items_have_float, members_have_float}
use Rattle.serde_json.specs.Read.{max_depth}
use Rattle.spec_json.specs.Values.{list_value, text_value, number_value, optional_value}
use Rattle.spec_calculus.specs.declared.parts.ActiveContract.{ActiveContract}
use Rattle.spec_calculus.specs.declared.parts.Deposit.{Deposit}
use Rattle.spec_calculus.specs.declared.step.Owner.{Owner}
use Rattle.spec_calculus.specs.declared.step.Owner.TheVariants as owners
use Rattle.spec_calculus.specs.Configuration.{Configuration}
use Rattle.spec_run.specs.declared.event.Event.{Event}
use Rattle.spec_next.specs.declared.lead.Lead.{Lead}
use Rattle.spec_next.specs.declared.lead.Made.{Made}
use Rattle.spec_next.specs.declared.lead.Made.TheVariants as makes
use Rattle.spec_next.specs.declared.outlook.Ruling.{Ruling}
use Rattle.spec_next.specs.declared.outlook.Ruling.TheVariants as rulings
use Rattle.spec_next.specs.declared.outlook.Outlook.{Outlook}
use Rattle.spec_next.specs.declared.requirement.Requirement.{Requirement}
use Rattle.spec_next.specs.JsonForm.{made_value, makes_value, path_value, name_value, missing_value, reason_value, output_of, told_event, event_value}
use Rattle.spec_next.specs.JsonForm.{event_values, waits_value, owner_value, deposit_value, active_value, output_values, shown_value, outlooks_value}
use Rattle.spec_next.specs.Listed.{is_for_party, listed_of, of_party}

-- ---- values

-- no floats, and so deep at most
record Is_plain (n : ℕ) (d : Data) : Type 0 where
  float : has_float d ≡ false
  shallow : depth d ≤ n

neither : (a b : Bool) → a ≡ false → b ≡ false → (a || b) ≡ false
neither a b e f = rw (e, f) refl

both : (a b n : ℕ) → a ≤ n → b ≤ n → max a b ≤ n
both a b n h k = omega (arith, h, k)

deeper : (m n : ℕ) (d : Data) → m ≤ n → Is_plain m d → Is_plain n d
deeper m n d h p = let q = p.shallow in record { float = p.float; shallow = omega (arith, h, q) }

text_plain : (n : ℕ) (text : List ℕ) → Is_plain n (text_value text)
text_plain n text = record { float = refl; shallow = omega arith }

number_plain : (n k : ℕ) → Is_plain n (number_value k)
number_plain n k = record { float = refl; shallow = omega arith }

null_plain : (n : ℕ) → Is_plain n null
null_plain n = record { float = refl; shallow = omega arith }

-- ---- objects

record Members_plain (n : ℕ) (ms : Members) : Type 0 where
  float : members_have_float ms ≡ false
  shallow : members_depth ms ≤ n

nothing : (n : ℕ) → Members_plain n no_members
nothing n = record { float = refl; shallow = omega arith }

one : (n : ℕ) (key : List ℕ) (d : Data) (ms : Members) → Is_plain n d → Members_plain n ms → Members_plain n (member key d ms)
one n key d ms p q = record {
  float = neither (has_float d) (members_have_float ms) p.float q.float;
  shallow = both (depth d) (members_depth ms) n p.shallow q.shallow;
}

object_plain : (n : ℕ) (ms : Members) → Members_plain n ms → Is_plain (suc n) (object ms)
object_plain n ms p = let q = p.shallow in record { float = p.float; shallow = omega (arith, q) }

-- ---- lists

abbrev Are_plain : ℕ → List Data → Type 0
Are_plain n [] = Unit {0}
Are_plain n (d ∷ ds) = Is_plain n d × Are_plain n ds

items_plain : (n : ℕ) (ds : List Data) → Are_plain n ds → (items_have_float (items_of ds) ≡ false) × (items_depth (items_of ds) ≤ n)
items_plain n [] h = (refl, omega arith)
items_plain n (d ∷ ds) h =
    let r = items_plain n ds h.1 in
    (neither (has_float d) (items_have_float (items_of ds)) (h.0).float r.0, both (depth d) (items_depth (items_of ds)) n (h.0).shallow r.1)

list_plain : (n : ℕ) (ds : List Data) → Are_plain n ds → Is_plain (suc n) (list_value ds)
list_plain n ds h = let r = items_plain n ds h in let k = r.1 in record { float = r.0; shallow = omega (arith, k) }

append_plain : (n : ℕ) (ds es : List Data) → Are_plain n ds → Are_plain n es → Are_plain n (ds ++ es)
append_plain n [] es h k = k
append_plain n (d ∷ ds) es h k = (h.0, append_plain n ds es h.1 k)

map_plain : {A : Type 0} (n : ℕ) (f : A → Data) → ((a : A) → Is_plain n (f a)) → (xs : List A) → Are_plain n (map f xs)
map_plain n f h [] = tt
map_plain n f h (x ∷ xs) = (h x, map_plain n f h xs)

flat_plain : {A : Type 0} (n : ℕ) (f : A → List Data) → ((a : A) → Are_plain n (f a)) → (xs : List A) → Are_plain n (flat_map f xs)
flat_plain n f h [] = tt
flat_plain n f h (x ∷ xs) = append_plain n (f x) (flat_map f xs) (h x) (flat_plain n f h xs)

-- ---- events

name_plain : (n : ℕ) (name : Option (List ℕ)) → Is_plain n (name_value name)
name_plain n None = null_plain n
name_plain n (Some name) = text_plain n name

output_plain : (n : ℕ) (output : Option ℕ) → Is_plain n (optional_value (option_map number_value output))
output_plain n None = null_plain n
output_plain n (Some k) = number_plain n k

made_plain : (made : Made) → Is_plain 1 (made_value made)
made_plain (makes.Paid party value) =
    object_plain 0 _ (one 0 (codes "party") _ _ (text_plain 0 _) (one 0 (codes "value") _ _ (number_plain 0 value) (nothing 0)))
made_plain (makes.Led position value) =
    object_plain 0 _ (one 0 (codes "path") _ _ (text_plain 0 _) (one 0 (codes "value") _ _ (number_plain 0 value) (nothing 0)))

makes_plain : (lead : Option Lead) → Is_plain 2 (makes_value lead)
makes_plain None = list_plain 1 [] tt
makes_plain (Some l) = list_plain 1 (map made_value l.made) (map_plain 1 made_value made_plain l.made)

path_plain : (n : ℕ) (lead : Option Lead) → Is_plain n (path_value lead)
path_plain n None = null_plain n
path_plain n (Some l) = text_plain n _

reason_plain : (n : ℕ) (ruling : Ruling) → Is_plain n (reason_value ruling)
reason_plain n rulings.Can = null_plain n
reason_plain n (rulings.Cannot reason) = text_plain n _
reason_plain n rulings.Halts = null_plain n

missing_plain : (requirement : Requirement) → Is_plain 1 (missing_value requirement)
missing_plain requirement =
    object_plain 0 _ (one 0 (codes "line") _ _ (text_plain 0 _) (one 0 (codes "party") _ _ (name_plain 0 _) (nothing 0)))

told_plain : (k : ℕ) (e : Event) (r : Ruling) (lost : Bool) (required : List Requirement) (lead : Option Lead)
    → Is_plain 3 (told_event k e r lost required lead)
told_plain k e r lost required lead =
    object_plain 2 _
    (one 2 (codes "contract") _ _ (number_plain 2 k)
    (one 2 (codes "kind") _ _ (text_plain 2 _)
    (one 2 (codes "line") _ _ (text_plain 2 _)
    (one 2 (codes "makes") _ _ (makes_plain lead)
    (one 2 (codes "missing") _ _ (list_plain 1 (map missing_value required) (map_plain 1 missing_value missing_plain required))
    (one 2 (codes "output") _ _ (output_plain 2 (output_of e))
    (one 2 (codes "party") _ _ (name_plain 2 _)
    (one 2 (codes "path") _ _ (path_plain 2 lead)
    (one 2 (codes "reason") _ _ (reason_plain 2 r)
    (one 2 (codes "status") _ _ (text_plain 2 _) (nothing 2)))))))))))

events_plain : (party : Option (List ℕ)) (g : Configuration) (o : Outlook) → Are_plain 3 (event_values party g o)
events_plain party g o = map_plain 3 (event_value g o.contract) (λ p. told_plain o.contract p.event p.ruling _ p.requirements _) (listed_of party o)

-- ---- who can act

waits_plain : (party : Option (List ℕ)) (o : Outlook) → Is_plain 2 (waits_value party o)
waits_plain party o =
    object_plain 1 _
    (one 1 (codes "contract") _ _ (number_plain 1 o.contract)
    (one 1 (codes "parties") _ _ (list_plain 0 (map text_value (of_party party o.waits)) (map_plain 0 text_value (text_plain 0) (of_party party o.waits)))
    (nothing 1)))

-- ---- live outputs

owner_plain : (n : ℕ) (owner : Owner) → Is_plain n (owner_value owner)
owner_plain n (owners.Party party) = text_plain n party
owner_plain n owners.Outside = null_plain n

deposit_plain : (d : Deposit) → Is_plain 1 (deposit_value d)
deposit_plain d =
    object_plain 0 _
    (one 0 (codes "number") _ _ (number_plain 0 d.number)
    (one 0 (codes "party") _ _ (owner_plain 0 d.owner) (one 0 (codes "value") _ _ (number_plain 0 d.value) (nothing 0))))

active_plain : (a : ActiveContract) → Is_plain 1 (active_value a)
active_plain a =
    object_plain 0 _
    (one 0 (codes "contract") _ _ (number_plain 0 a.contract)
    (one 0 (codes "number") _ _ (number_plain 0 a.number)
    (one 0 (codes "path") _ _ (text_plain 0 _) (one 0 (codes "value") _ _ (number_plain 0 a.balance) (nothing 0)))))

outputs_plain : (g : Configuration) → Are_plain 1 (output_values g)
outputs_plain g =
    append_plain 1 (map deposit_value g.deposits) (map active_value g.active) (map_plain 1 deposit_value deposit_plain g.deposits)
    (map_plain 1 active_value active_plain g.active)

-- ---- all

shown_plain : (party : Option (List ℕ)) (g : Configuration) (os : List Outlook) → Is_plain 5 (shown_value party g os)
shown_plain party g os =
    object_plain 4 _
    (one 4 (codes "events") _ _ (list_plain 3 (flat_map (event_values party g) os) (flat_plain 3 (event_values party g) (events_plain party g) os))
    (one 4 (codes "height") _ _ (number_plain 4 g.time)
    (one 4 (codes "outputs") _ _ (deeper 2 4 _ (omega arith) (list_plain 1 (output_values g) (outputs_plain g)))
    (one 4 (codes "waits") _ _ (deeper 3 4 _ (omega arith) (list_plain 2 (map (waits_value party) os) (map_plain 2 (waits_value party) (waits_plain party) os)))
    (nothing 4)))))

pub has_no_float : (party : Option (List ℕ)) (g : Configuration) (os : List Outlook) → has_float (outlooks_value party g os) ≡ false
has_no_float party g os = (shown_plain party g (filter (λ o. is_for_party party o) os)).float

pub is_shallow : (party : Option (List ℕ)) (g : Configuration) (os : List Outlook) → depth (outlooks_value party g os) ≤ max_depth
is_shallow party g os = let h = (shown_plain party g (filter (λ o. is_for_party party o) os)).shallow in omega (arith, h)
