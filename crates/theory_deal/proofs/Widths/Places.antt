-- What the transactions of a deal spend lies at places that a transaction can name, and its scripts can stand in a witness.
use Rattle.std.proofs.Common.{◌≡◌, ℕ, ◌<◌, ◌^◌, List, [], ◌∷◌, map, true, Option, Some, None, refl, sym, subst, arith, lit<}
use Rattle.std.proofs.Common.{inl, inr}
use Rattle.std.specs.Prelude.{nat_le, slice_get, length}
use Rattle.std.specs.List.{list_all, AllByRecursion}
use Rattle.std.specs.Option.{option_map, option_map_or, option_and_then}
use Rattle.std.proofs.lemmas.Bool.{and_parts}
use Rattle.std.proofs.lemmas.Bool.Decides.{nat_tests}
use Rattle.spec_data.specs.Hashes.{HashesBytes}
use Rattle.spec_data.specs.Lists.{is_among, look_up}
use Rattle.spec_terms.specs.Term as term
use Rattle.spec_terms.specs.Term.{Contract, branches, parts_list, auth, after, put_reveal, withdraw, split}
use Rattle.spec_terms.specs.Core.{core, puts_of}
use Rattle.spec_terms.specs.Precondition.{Holding, persistent, deposits, names_of}
use Rattle.spec_terms.specs.Readable.{is_readable_branch, is_readable_split, are_readable_parts, is_some_list, most_parts}
use Rattle.spec_terms.specs.declared.path.PathStep.{PathStep}
use Rattle.spec_terms.specs.declared.path.PathStep.TheVariants.{Branch as To, Part as Into}
use Rattle.spec_bitcoin.specs.declared.tx.OutPoint.{OutPoint}
use Rattle.spec_bitcoin.specs.Spelling.{IsPlace, IsString, stripped}
use Rattle.spec_compiler.specs.Keyed.OwnScripts.{code_of}
use Rattle.spec_compiler.specs.Keyed.Keys.{Keys, own_script}
use Rattle.spec_compiler.specs.Keyed.Instance.{Instance, branch_path}
use Rattle.spec_compiler.specs.Keyed.Statements.{AreKeys, IsCompiled}
use Rattle.spec_compiler.specs.declared.unsigned.Spent.{Spent}
use Rattle.spec_compiler.specs.declared.unsigned.Unsigned.{Unsigned}
use Rattle.spec_compiler.specs.Keyed.Transactions.{Standing, party_script, tx_of, output_outpoint, deposit, outpoint_or_none, put_deposits, branch_unsigned}
use Rattle.spec_compiler.specs.Keyed.Transactions.{part_standing, root_standing, initial_unsigned}
use Rattle.spec_compiler.specs.Keyed.ByPath.{PathEnd, at_position, at_branch, branch_end, continued_end, part_end, next_end, end_at, as_unsigned}
use Rattle.spec_tool.specs.declared.which.Which.{Which}
use Rattle.spec_tool.specs.declared.which.Which.TheVariants as names
use Rattle.spec_tool.specs.Keyed.Listed.{Listed, path_listed, listed_at}
use Rattle.spec_deal.specs.Needed.{needed_deposits}
use Rattle.theory_calculus.specs.Members.{Is_in}
use Rattle.theory_calculus.proofs.Members.{get_below}
use Rattle.theory_calculus.proofs.Names.{persistent_deposit, in_named, looked_in, named_looked}
use Rattle.theory_script.proofs.Keyed.Stands.{some_same}
use Rattle.theory_world.proofs.Labels.{core_readable}
use Rattle.theory_psbt_listed.proofs.Digests.{BytesIn}
use Rattle.theory_deal.specs.Finished.{IsApplied}
use Rattle.theory_deal.proofs.Branches.{along, branch_found}
use Rattle.theory_deal.proofs.ReadBranches.{branch_reads, puts_needed}
use Rattle.theory_deal.proofs.Widths.ScriptBytes.{KeysOfBytes, AreBrought, code_string, position_string, party_string}

-- what is spent lies at a place, and its script can stand in a witness
pub record IsSpendable (x : Spent) : Type 0 where
  pub place : IsPlace x.outpoint
  pub script : IsString x.script

module _ (hash : List ℕ → List ℕ) (bytes : HashesBytes hash) (keys : Keys) (s : Instance) (applied : IsApplied s)
    (bound : names_of s.bound ≡ needed_deposits s.advert) (places : (d : List ℕ × OutPoint) → Is_in d s.bound → IsPlace (d.1)) where
  -- ---- places

  named_place : (n : List ℕ) → is_among n (needed_deposits s.advert) ≡ true → IsPlace (outpoint_or_none (look_up n s.bound))
  named_place n k =
      let v = named_looked s.bound n (subst (λ ns. is_among n ns ≡ true) (sym bound) k) in
      subst (λ o. IsPlace (outpoint_or_none o)) (sym (v.1)) (places (n, v.0) (looked_in s.bound n (v.0) (v.1)))

  made_place : (d : Unsigned) (k : ℕ) → k < 2 ^ 32 → IsPlace (output_outpoint hash d k)
  made_place d k l = record {
    txid = bytes.bytes (hash (stripped (tx_of d)));
    size = bytes.size (hash (stripped (tx_of d)));
    vout = l;
  }

  abbrev IfPlace : PathEnd → Type 0
  IfPlace (at_position here choice) = IsPlace here.output.outpoint
  IfPlace (at_branch here i b) = IsPlace here.output.outpoint

  at_end : (here : Standing) (choice : Contract) (j : ℕ) (r : PathEnd) → IsPlace here.output.outpoint → branch_end here choice j ≡ Some r
      → IfPlace r
  at_end here choice j r now e = by_branch (slice_get (branches choice) j) e
    where
      by_branch : (o : Option term.Guarded) → option_map (at_branch here j) o ≡ Some r → IfPlace r
      by_branch None k = cc
      by_branch (Some b) k = subst IfPlace (some_same k) now

  at_continued : (here : Standing) (i : ℕ) (b c : term.Guarded) (p : Standing × Contract) → continued_end hash keys s here i b c ≡ Some p
      → IsPlace p.0.output.outpoint
  at_continued here i b (put_reveal puts reveals test next) p e =
      subst (λ (q : Standing × Contract). IsPlace q.0.output.outpoint) (some_same e)
      (made_place (branch_unsigned hash keys s here i b) 0 (lit< tt))
  at_continued here i b (withdraw party) p e = cc
  at_continued here i b (split parts) p e = cc
  at_continued here i b (auth party body) p e = cc
  at_continued here i b (after height body) p e = cc

  at_part : (here : Standing) (i k : ℕ) (b c : term.Guarded) (r : PathEnd) → is_readable_branch c ≡ true
      → part_end hash keys s here i b k c ≡ Some r → IfPlace r
  at_part here i k b (put_reveal puts reveals test next) r h e = cc
  at_part here i k b (withdraw party) r h e = cc
  at_part here i k b (auth party body) r h e = cc
  at_part here i k b (after height body) r h e = cc
  at_part here i k b (split parts) r h e = by_part (slice_get (parts_list parts) k) refl e
    where
      by_part : (o : Option (ℕ × Contract)) → slice_get (parts_list parts) k ≡ o
          → option_map
          (λ (p : ℕ × Contract).
          at_position (part_standing hash keys s (branch_path here.position i) (branch_unsigned hash keys s here i b) k p.0 p.1) p.1)
          o ≡ Some r
          → IfPlace r
      by_part None is x = cc
      by_part (Some p) is x =
          let few = (and_parts (is_some_list (parts_list parts)) (nat_le (length (parts_list parts)) most_parts)
          (and_parts (is_readable_split parts) (are_readable_parts parts) h).0).1 in
          let below = get_below (parts_list parts) k p is in
          let small : k < 2 ^ 32 = grind (arith, nat_tests, few, below) in
          subst IfPlace (some_same x) (made_place (branch_unsigned hash keys s here i b) k small)

  next_place : (prefix : List PathStep) (step : PathStep) (p r : PathEnd) → end_at hash keys s prefix ≡ Some p → IfPlace p
      → next_end hash keys s step p ≡ Some r → IfPlace r
  next_place prefix (To j) (at_position here choice) r there now e = at_end here choice j r now e
  next_place prefix (Into k) (at_position here choice) r there now e = cc
  next_place prefix (Into k) (at_branch here i b) r there now e =
      at_part here i k b (core b) r (core_readable b (branch_reads hash keys s applied.checked prefix here i b there)) e
  next_place prefix (To j) (at_branch here i b) r there now e = by_continued (continued_end hash keys s here i b (core b)) refl e
    where
      by_continued : (o : Option (Standing × Contract)) → continued_end hash keys s here i b (core b) ≡ o
          → option_and_then (λ (p : Standing × Contract). branch_end p.0 p.1 j) o ≡ Some r → IfPlace r
      by_continued None is k = cc
      by_continued (Some p) is k = at_end (p.0) (p.1) j r (at_continued here i b (core b) p is) k

  position_place : (path : List PathStep) (here : Standing) (i : ℕ) (b : term.Guarded)
      → end_at hash keys s path ≡ Some (at_branch here i b) → IsPlace here.output.outpoint
  position_place path here i b e =
      along hash keys s IfPlace next_place [] path (at_position (root_standing hash keys s) s.advert.root) (at_branch here i b) refl
      (made_place (initial_unsigned hash keys s) 0 (lit< tt)) e

  -- ---- with scripts

  module _ (are_keys : AreKeys hash keys) (brought : AreBrought keys) (key_bytes : KeysOfBytes hash keys) (hashes : BytesIn s.hashes) where
    abbrev pub AreSpendable : List Spent → Type 0
    AreSpendable xs = AllByRecursion IsSpendable xs

    one_deposit : (n : List ℕ) (h : Holding) → is_among n (needed_deposits s.advert) ≡ true → IsSpendable (deposit hash keys s n h)
    one_deposit n h k = record { place = named_place n k; script = by_script (own_script keys n) refl }
      where
        by_script : (o : Option (List ℕ)) → own_script keys n ≡ o → IsString (option_map_or code_of o (party_script hash keys h.owner))
        by_script None e = party_string hash keys are_keys key_bytes h.owner
        by_script (Some own) e = code_string own (brought n own e)

    persistent_spendable : (ds : List (List ℕ × Holding)) → ((d : List ℕ × Holding) → Is_in d ds → Is_in d (deposits s.advert.pre))
        → AreSpendable (map (λ d. deposit hash keys s d.0 d.1) ds)
    persistent_spendable [] f = tt
    persistent_spendable (d ∷ ds) f = (
      one_deposit (d.0) (d.1) (in_named (deposits s.advert.pre) d (f d (inl refl))),
      persistent_spendable ds (λ x i. f x (inr i)),
    )

    puts_spendable : (puts : List (List ℕ)) → list_all (λ n. is_among n (needed_deposits s.advert)) puts ≡ true
        → AreSpendable (put_deposits hash keys s puts)
    puts_spendable [] h = tt
    puts_spendable (n ∷ puts) h =
        let p = and_parts (is_among n (needed_deposits s.advert)) (list_all (λ x. is_among x (needed_deposits s.advert)) puts) h in
        (one_deposit n _ p.0, puts_spendable puts p.1)

    branch_spendable : (path : List PathStep) (here : Standing) (i : ℕ) (b : term.Guarded)
        → end_at hash keys s path ≡ Some (at_branch here i b) → AreSpendable (branch_unsigned hash keys s here i b).spends
    branch_spendable path here i b e =
        let found = branch_found hash keys s path here i b e in
        let compiled : IsCompiled s here.position found.choice = record {
          checked = applied.checked;
          committed = applied.committed;
          is_position = found.stands.branches;
        } in
        let script = position_string hash keys are_keys key_bytes s hashes here.position found.choice compiled in (
          record { place = position_place path here i b e; script = subst IsString (sym found.stands.script) script },
          puts_spendable (puts_of (core b)) (puts_needed hash keys s applied.checked path here i b e),
        )

    by_ends : (path : List PathStep) (o : Option PathEnd) → end_at hash keys s path ≡ o → (l : Listed)
        → option_map (path_listed s path) (option_and_then (as_unsigned hash keys s) o) ≡ Some l → AreSpendable l.pending.spends
    by_ends path None ends l e = cc
    by_ends path (Some (at_position here choice)) ends l e = cc
    by_ends path (Some (at_branch here i b)) ends l e =
        subst (λ (x : Listed). AreSpendable x.pending.spends) (some_same e) (branch_spendable path here i b ends)

    pub spendable_at : (which : Which) (l : Listed) → listed_at hash keys s which ≡ Some l → AreSpendable l.pending.spends
    spendable_at names.Init l e =
        subst (λ (x : Listed). AreSpendable x.pending.spends) (some_same e)
        (persistent_spendable (persistent s.advert.pre) (persistent_deposit s.advert.pre))
    spendable_at (names.At path) l e = by_ends path (end_at hash keys s path) refl l e
