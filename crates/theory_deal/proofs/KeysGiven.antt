-- The keys that sign in a deal that is taken are given: none of them is the one that stands for none.
use Rattle.std.proofs.Common.{◌≡◌, ℕ, zero, suc, List, [], ◌∷◌, ◌++◌, map, Bool, true, false, not, Option, Some, None, refl, sym, ap, ◌∙◌, subst, inl, inr}
use Rattle.std.specs.Prelude.{◌&&◌, ◌||◌, slice_get, is_some, Ok}
use Rattle.std.specs.List.{Contains, list_all}
use Rattle.std.specs.Option.{option_map}
use Rattle.std.specs.Str.{bytes_eq}
use Rattle.std.proofs.lemmas.Bool.{and_parts, and_from}
use Rattle.spec_data.specs.Lists.{is_among}
use Rattle.spec_terms.specs.Term as term
use Rattle.spec_terms.specs.Advert.{Advert}
use Rattle.spec_terms.specs.Core.{core, puts_of}
use Rattle.spec_terms.specs.Faults.{IsWellFormed}
use Rattle.spec_terms.specs.Order.{branch_paths}
use Rattle.spec_terms.specs.Parties.{choice_mentions, participants}
use Rattle.spec_terms.specs.Paths.{at}
use Rattle.spec_terms.specs.Precondition.{Holding, persistent, volatile, deposits, names_of, party_of}
use Rattle.spec_terms.specs.declared.path.PathStep.{PathStep}
use Rattle.spec_terms.specs.declared.pre.Pre.{Pre}
use Rattle.spec_terms.specs.declared.pre.Pre.TheVariants.{Persistent, Volatile, Secret}
use Rattle.spec_bitcoin.specs.declared.label.Label.{Label}
use Rattle.spec_bitcoin.specs.declared.label.Label.TheVariants as labels
use Rattle.spec_compiler.specs.declared.prepared.Prepared.{Prepared}
use Rattle.spec_compiler.specs.declared.unsigned.Unsigned.{Unsigned}
use Rattle.spec_compiler.specs.Keyed.Keys.{Keys, own_script, own_payee}
use Rattle.spec_compiler.specs.Keyed.Instance.{Instance, branch_label}
use Rattle.spec_compiler.specs.Keyed.Transactions.{holding_or_none, prepared}
use Rattle.spec_compiler.specs.Keyed.Compilation.{path_transactions, compilation}
use Rattle.spec_compiler.specs.Keyed.ByPath.{unsigned_at}
use Rattle.spec_compiler.specs.Keyed.Endorsements.{put_owner}
use Rattle.spec_text.specs.Words.{◌>>=◌}
use Rattle.spec_tool.specs.declared.which.Which.{Which}
use Rattle.spec_tool.specs.declared.which.Which.TheVariants as names
use Rattle.spec_tool.specs.Keyed.Listed.{Listed, initial_listed, path_listed, listed, listed_at}
use Rattle.spec_deal.specs.declared.deal.Deal.{Deal}
use Rattle.spec_deal.specs.declared.deal.Needed.TheVariants as needs
use Rattle.spec_deal.specs.declared.entry.Value.{Value}
use Rattle.spec_deal.specs.declared.transaction.Wallet.{Wallet}
use Rattle.spec_deal.specs.DealFile.{is_compressed, is_key, key_or_none, is_used, read_deal}
use Rattle.spec_deal.specs.Needed.{deal_contract, path_labels, needed_labels}
use Rattle.spec_deal.specs.Setting.{no_key, key_at, deal_keys, deal_instance}
use Rattle.spec_deal.specs.Slots.{Slot, slot_key}
use Rattle.spec_deal.specs.Used.{is_key_deposit, has_key_deposit, is_paid, uses_key}
use Rattle.spec_deal.specs.Verifier.{Verifier}
use Rattle.spec_deal.specs.Wallets.{puts_at, wallet_of, input_wallet, signer_key}
use Rattle.theory_calculus.specs.Members.{Is_in}
use Rattle.theory_calculus.proofs.Members.{in_left, in_right, in_from_contains, all_in}
use Rattle.theory_calculus.proofs.Names.{bytes_refl, persistent_deposit, volatile_named}
use Rattle.theory_world.proofs.Hashed.{among_head, among_tail, among_left}
use Rattle.theory_script.proofs.Checked.{puts_known}
use Rattle.theory_script.proofs.Keyed.InOrder.{paths_in_order}
use Rattle.theory_world.proofs.Contracts.Mentions.{added}
use Rattle.theory_deal.proofs.Branches.{branch_found}
use Rattle.theory_deal.proofs.ByName.{listed_in}
use Rattle.theory_deal.proofs.Listed.{any_there}
use Rattle.theory_deal.proofs.OfKeys.{no_own}
use Rattle.theory_deal.proofs.ReadDeals.{value_there, key_value, used_value, is_of}
use Rattle.theory_deal.proofs.Scripts.{name_at, stands_there, made_at}
use Rattle.theory_deal.proofs.Signing.{asks_exactly, in_map, map_in, flat_in, among_in}
use Rattle.theory_deal.proofs.Ledger.KeysApart.{key_is}
use Rattle.theory_deal.specs.Files.{KeysAreGiven}
use Rattle.theory_deal.specs.Signing.{BranchBy, Signs, IsAsked}

-- what stands at a number is there
get_in : {X : Type 0} (xs : List X) (k : ℕ) (x : X) → slice_get xs k ≡ Some x → Is_in x xs
get_in [] k x e = cc
get_in (y ∷ ys) zero x e = inl (first e)
  where
    first : Some y ≡ Some x → x ≡ y
    first q = cc
get_in (y ∷ ys) (suc k) x e = inr (get_in ys k x e)

-- a key has another first byte
no_such : (v : Verifier) (bytes : List ℕ) → is_key v bytes ≡ true → bytes ≡ no_key → ⊥
no_such v bytes h e =
    let none : is_key v no_key ≡ true = subst (λ (x : List ℕ). is_key v x ≡ true) e h in
    let first = (and_parts (is_compressed no_key) (v.is_point no_key) none).0 in
    cc

module _ (v : Verifier) (hash : List ℕ → List ℕ) (advert : Advert) (text : List ℕ) (deal : Deal) (e : read_deal v advert text ≡ Ok deal) where
  abbrev keys : Keys
  keys = deal_keys deal

  abbrev s : Instance
  s = deal_instance advert deal

  -- the key of a label that is needed and used isn't that
  used_key : (label : Label) → Is_in label (needed_labels advert) → is_used (deal_keys deal) advert (needs.Key label) ≡ true
      → key_at deal.keys label ≡ no_key → ⊥
  used_key label i u none =
      let d = is_of v advert text deal e in
      let x = used_value v advert d.entries d.fit d.none label i
      (subst (λ (z : Deal). is_used (deal_keys z) advert (needs.Key label) ≡ true) (sym d.same) u) in
      let r = value_there v d.entries d.fit (needs.Key label) x.0 x.1 in
      let k = key_value v label r.entry.needed x.0 r.of_it r.fitting in
      let lies : key_at deal.keys label ≡ key_or_none (Some x.0) =
      ap (λ (z : Deal). key_at z.keys label) (sym d.same) ∙ key_is d.entries (needed_labels advert) label x.0 i x.1 in
      no_such v k.0 k.2 (ap (λ (z : Value). key_or_none (Some z)) (sym k.1) ∙ sym lies ∙ none)

  -- ---- of deposits

  owner_mentioned : (pre : List Pre) (d : List ℕ × Holding) → Is_in d (deposits pre) → is_among (d.1).owner (map party_of pre) ≡ true
  owner_mentioned [] d i = absurd i
  owner_mentioned (Persistent party value name ∷ es) d (inl same) =
      subst (λ (x : List ℕ × Holding). is_among (x.1).owner (party ∷ map party_of es) ≡ true) (sym same) (among_head party (map party_of es))
  owner_mentioned (Persistent party value name ∷ es) d (inr i) = among_tail (d.1).owner party (map party_of es) (owner_mentioned es d i)
  owner_mentioned (Volatile party value name ∷ es) d (inl same) =
      subst (λ (x : List ℕ × Holding). is_among (x.1).owner (party ∷ map party_of es) ≡ true) (sym same) (among_head party (map party_of es))
  owner_mentioned (Volatile party value name ∷ es) d (inr i) = among_tail (d.1).owner party (map party_of es) (owner_mentioned es d i)
  owner_mentioned (Secret party name ∷ es) d i = among_tail (d.1).owner party (map party_of es) (owner_mentioned es d i)

  owner_in : (d : List ℕ × Holding) → Is_in d (deposits advert.pre) → Is_in (d.1).owner (participants advert)
  owner_in d i =
      among_in (d.1).owner (participants advert)
      (added (map party_of advert.pre ++ choice_mentions advert.root) [] (d.1).owner
      (among_left (d.1).owner (map party_of advert.pre) (choice_mentions advert.root) (owner_mentioned advert.pre d i)))

  deposit_key_given : (d : List ℕ × Holding) → Is_in d (deposits advert.pre) → own_script (deal_keys deal) (d.0) ≡ None → (label : Label)
      → label ≡ labels.Deposit (d.1).owner → key_at deal.keys label ≡ no_key → ⊥
  deposit_key_given d i none label same zero_key =
      let label_in : Is_in (labels.Deposit (d.1).owner) (needed_labels advert) =
      in_left (labels.Deposit (d.1).owner) (map (λ party. labels.Deposit party) (participants advert)) _
      (map_in (λ (party : List ℕ). labels.Deposit party) (participants advert) (d.1).owner (owner_in d i)) in
      let brings : is_key_deposit (deal_keys deal) (d.1).owner d ≡ true =
      and_from (bytes_eq (d.1).owner (d.1).owner) (not (is_some (own_script (deal_keys deal) (d.0)))) (bytes_refl (d.1).owner)
      (ap (λ (o : Option (List ℕ)). not (is_some o)) none) in
      let has_one : has_key_deposit (deal_keys deal) advert (d.1).owner ≡ true =
      any_there (is_key_deposit (deal_keys deal) (d.1).owner) (deposits advert.pre) d i brings in
      let used : uses_key (deal_keys deal) advert (d.1).owner ≡ true =
      ap (λ (b : Bool). b || (is_paid advert (d.1).owner && not (is_some (own_payee (deal_keys deal) (d.1).owner)))) has_one in
      used_key (labels.Deposit (d.1).owner) label_in used (ap (key_at deal.keys) (sym same) ∙ zero_key)

  -- ---- of branches

  branch_key_given : (path : List PathStep) (d : Unsigned) → unsigned_at hash (deal_keys deal) (deal_instance advert deal) path ≡ Some d
      → (party : List ℕ) → Contains (participants advert) party → (label : Label) → label ≡ branch_label deal_contract path party
      → key_at deal.keys label ≡ no_key → ⊥
  branch_key_given path d there party c label same zero_key =
      let l = path_listed (deal_instance advert deal) path d in
      let among = listed_in hash (deal_keys deal) (deal_instance advert deal) (names.At path) l
      (ap (option_map (path_listed (deal_instance advert deal) path)) there) in
      let label_in : Is_in (branch_label deal_contract path party) (needed_labels advert) =
      in_right (branch_label deal_contract path party) (map (λ a. labels.Deposit a) (participants advert)) _
      (flat_in (path_labels advert) (branch_paths advert.root) path (branch_label deal_contract path party) (path_in among)
      (map_in (branch_label deal_contract path) (participants advert) party (in_from_contains (participants advert) party c))) in
      used_key (branch_label deal_contract path party) label_in refl (ap (key_at deal.keys) (sym same) ∙ zero_key)
    where
      of_init : path_listed (deal_instance advert deal) path d ≡ initial_listed hash (deal_keys deal) (deal_instance advert deal) → ⊥
      of_init q = let w : names.At path ≡ names.Init = ap (λ (x : Listed). x.which) q in cc

      path_in : Is_in (path_listed (deal_instance advert deal) path d) (listed hash (deal_keys deal) (deal_instance advert deal))
          → Is_in path (branch_paths advert.root)
      path_in (inl q) = absurd (of_init q)
      path_in (inr i) =
          let all = path_transactions hash (deal_keys deal) (deal_instance advert deal) in
          let r = in_map (λ (p : List PathStep × Unsigned). path_listed (deal_instance advert deal) (p.0) (p.1)) all
          (path_listed (deal_instance advert deal) path d) i in
          let w : names.At path ≡ names.At ((r.0).0) = ap (λ (x : Listed). x.which) r.2 in
          let one : path ≡ (r.0).0 = cc in
          subst (Is_in path) (paths_in_order hash (deal_keys deal) (deal_instance advert deal))
          (subst (λ (p : List PathStep). Is_in p (map (λ q. q.0) (compilation hash (deal_keys deal) (deal_instance advert deal)).paths)) (sym one)
          (map_in (λ (p : List PathStep × Prepared). p.0) (compilation hash (deal_keys deal) (deal_instance advert deal)).paths
          ((r.0).0, prepared hash (r.0).1)
          (map_in (λ (p : List PathStep × Unsigned). (p.0, prepared hash p.1)) all (r.0) r.1)))

  -- ---- all

  none_own : (name : List ℕ) (o : Option (List ℕ)) → o ≡ Some name → (o >>= wallet_of (deal_keys deal)) ≡ None
      → own_script (deal_keys deal) name ≡ None
  none_own name o q none =
      no_own (deal_keys deal) name (ap (λ (x : Option (List ℕ)). x >>= wallet_of (deal_keys deal)) (sym q) ∙ none)

  each_given : IsWellFormed advert → (slot : Slot) → IsAsked hash (deal_keys deal) (deal_instance advert deal) slot → slot.wallet ≡ None
      → key_at deal.keys slot.label ≡ no_key → ⊥
  each_given well slot a none zero_key = by_which slot.which slot.input a.there a.signs (sym a.brought ∙ none)
    where
      by_branch : (path : List PathStep) (k : ℕ) (b : term.Guarded) → at advert.root path ≡ Some b
          → option_map (λ (l : Listed). l.pending) (listed_at hash (deal_keys deal) (deal_instance advert deal) (names.At path)) ≡ Some slot.pending
          → BranchBy (deal_instance advert deal) path b k slot.label slot.verb → input_wallet (deal_keys deal) advert (names.At path) k ≡ None → ⊥
      by_branch path zero b there made h w =
          branch_key_given path slot.pending
          (made_at hash (deal_keys deal) (deal_instance advert deal) path
          (unsigned_at hash (deal_keys deal) (deal_instance advert deal) path) slot.pending made)
          h.party h.takes_part slot.label h.key zero_key
      by_branch path (suc k) b there made h w =
          let x = stands_there hash (deal_keys deal) (deal_instance advert deal) path b slot.pending
          (made_at hash (deal_keys deal) (deal_instance advert deal) path
          (unsigned_at hash (deal_keys deal) (deal_instance advert deal) path) slot.pending made) there in
          let found = branch_found hash (deal_keys deal) (deal_instance advert deal) path x.here x.i x.c x.stands in
          let known : list_all (λ n. is_among n (names_of (volatile advert.pre))) (puts_of (core b)) ≡ true =
          subst (λ (y : term.Guarded). list_all (λ n. is_among n (names_of (volatile advert.pre))) (puts_of (core y)) ≡ true) x.same
          (puts_known advert well x.here.position found.choice found.stands.branches x.i x.c found.is_branch) in
          let put = volatile_named advert.pre h.name
          (all_in (λ n. is_among n (names_of (volatile advert.pre))) (puts_of (core b)) h.name known
          (get_in (puts_of (core b)) k h.name h.stands)) in
          let owner : put_owner advert h.name ≡ (put.0).owner = ap (λ (o : Option Holding). (holding_or_none o).owner) put.1 in
          let stands : slice_get (puts_at (at advert.root path)) k ≡ Some h.name =
          ap (λ (o : Option term.Guarded). slice_get (puts_at o) k) there ∙ h.stands in
          deposit_key_given (h.name, put.0) put.2 (none_own h.name (slice_get (puts_at (at advert.root path)) k) stands w) slot.label
          (h.key ∙ ap (λ (party : List ℕ). labels.Deposit party) owner) zero_key

      by_which : (which : Which) (k : ℕ)
          → option_map (λ (l : Listed). l.pending) (listed_at hash (deal_keys deal) (deal_instance advert deal) which) ≡ Some slot.pending
          → Signs (deal_instance advert deal) which k slot.label slot.verb → input_wallet (deal_keys deal) advert which k ≡ None → ⊥
      by_which names.Init k there h w =
          deposit_key_given h.deposit
          (persistent_deposit advert.pre h.deposit (get_in (persistent advert.pre) k h.deposit h.stands))
          (none_own ((h.deposit).0) (slice_get (names_of (persistent advert.pre)) k)
          (name_at (persistent advert.pre) k h.deposit h.stands) w) slot.label h.key zero_key
      by_which (names.At path) k there h w = by_branch path k h.0 h.1 there h.2 w

pub keys_are_given : KeysAreGiven
keys_are_given v hash advert text deal well e slot c none same =
    let keys = deal_keys deal in
    let s : Instance = deal_instance advert deal in
    let a = (asks_exactly hash keys s slot).0 c in
    let by_label : slot_key hash keys slot ≡ key_at deal.keys slot.label =
    ap (λ (o : Option Wallet). signer_key hash keys o slot.label) none in
    each_given v hash advert text deal e well slot a none (sym by_label ∙ same)
