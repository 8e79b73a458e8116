-- What is found by the list of a contract's transactions is what the definitions find.
use Rattle.std.proofs.Common.{◌≡◌, ℕ, suc, ◌+◌, ◌<◌, ◌^◌, List, [], ◌∷◌, length, map, Bool, true, false, Option, Some, None}
use Rattle.std.proofs.Common.{refl, sym, ap, subst, ◌∙◌, arith}
use Rattle.spec_run.specs.Conditions.{IsSetup}
use Rattle.bm_match.specs.Matches.{compiled_from, all_compiled}
use Rattle.std.specs.Prelude.{option_map, if◌then◌else◌, Result, IfOk}
use Rattle.std.specs.Option.{option_map_or}
use Rattle.spec_terms.specs.Advert.{Advert}
use Rattle.spec_compiler.specs.Instance.{Instance}
use Rattle.spec_run.specs.Setup.{Setup, contract_at}
use Rattle.spec_run.specs.World.{World}
use Rattle.spec_run.specs.Compiled.{compiled_instance, instance_if_complete, instance_of, is_complete}
use Rattle.spec_text.specs.Lines.{lines_of}
use Rattle.spec_tool.specs.declared.which.Which.{Which}
use Rattle.spec_tool.specs.declared.finding.Kind.{Kind}
use Rattle.spec_tool.specs.declared.finding.Kind.TheVariants as kinds
use Rattle.spec_tool.specs.declared.finding.Finding.{Finding}
use Rattle.spec_tool.specs.declared.finding.AuditReport.{AuditReport}
use Rattle.spec_tool.specs.Listed.{Listed, listed}
use Rattle.spec_tool.specs.Audit.{Given, empty, not_hex, bad, read, given_line, listed_by, listed_in, now_of, kind_given, finding, findings_from}
use Rattle.spec_tool.specs.Audit.{Missing, missing_of, audit_report}
use Rattle.theory_audit.specs.Audited.{AuditsFindAll}
use Rattle.theory_audit.specs.Nothing.{NothingLacks}
use Rattle.bm_compile.specs.Numbered.{Numbered, numbered}
use Rattle.bm_audit_listed.specs.declared.entries.Candidate.{Candidate}
use Rattle.bm_audit_listed.specs.Parts.{candidates_by, as_candidate, absent_among}
use Rattle.bm_audit_listed.proofs.Listing.{candidates_listed, names_listed, absent_listed}
use Rattle.bm_audit.specs.Found.{kind_said, onto_found, found_from, Finds}
use Rattle.bm_world.specs.Playing.{Played, setup_in}
use Rattle.bm_audit.specs.Audited.{Audited, Follows}

-- ---- the list

pub candidates_in : (s : Setup) (o : Option Instance) → candidates_by (option_map (numbered s.hash) o) ≡ map as_candidate (listed_by s o)
candidates_in s None = refl
candidates_in s (Some instance) = candidates_listed s.hash instance

-- ---- findings

module _ (s : Setup) (w : World) (all : List Listed) where
  kind_is : (g : Given) → kind_said s w (map as_candidate all) g ≡ kind_given s w all g
  kind_is empty = refl
  kind_is not_hex = refl
  kind_is (bad place) = refl
  kind_is (read tx) = ap (λ (names : List Which). Some (kinds.Read names (now_of s w tx))) (names_listed all tx)

  onto_is : (n : ℕ) (o : Option Kind) (later : List Finding) → onto_found n o later ≡ option_map_or (λ kind. finding n kind ∷ later) o later
  onto_is n None later = refl
  onto_is n (Some kind) later = refl

  pub found_is : (n : ℕ) (lines : List (List ℕ)) → found_from s w (map as_candidate all) n lines ≡ findings_from s w all n lines
  found_is n [] = refl
  found_is n (line ∷ lines) =
      let a = kind_is (given_line line) in
      let b = found_is (n + 1) lines in
      (λ i. onto_found n (a i) (b i)) ∙ onto_is n (kind_given s w all (given_line line)) (findings_from s w all (n + 1) lines)

-- ---- what a contract is compiled with

compiled_with : (w : World) (k : ℕ) (advert : Advert) (b : Bool) (instance : Instance)
    → (if b then Some (instance_of w k advert) else None) ≡ Some instance → (instance.contract ≡ k) × (instance.advert ≡ advert)
compiled_with w k advert true instance h =
    let e : instance_of w k advert ≡ instance = some_is h in (ap (λ (x : Instance). x.contract) (sym e), ap (λ (x : Instance). x.advert) (sym e))
  where
    some_is : Some (instance_of w k advert) ≡ Some instance → instance_of w k advert ≡ instance
    some_is q = cc
compiled_with w k advert false instance h = cc

pub compiled_of : (s : Setup) (w : World) (k : ℕ) (advert : Advert) (instance : Instance) → contract_at s k ≡ Some advert
    → compiled_instance s w k ≡ Some instance → (instance.contract ≡ k) × (instance.advert ≡ advert)
compiled_of s w k advert instance e h =
    compiled_with w k advert (is_complete w k advert) instance (sym (ap (instance_if_complete w k) e) ∙ h)

-- ---- the report

pub report_is : (s : Setup) (w : World) (k : ℕ) (text : List ℕ) (cs : List Candidate) (findings : List Finding) (absent : List Which)
    (missing : List Missing) → cs ≡ map as_candidate (listed_in s w k) → findings ≡ found_from s w cs 1 (lines_of text)
    → absent ≡ absent_among cs findings → missing ≡ missing_of s.hash w.book (listed_in s w k)
    → record { findings = findings; absent = absent; missing = missing } ≡ audit_report s w k text
report_is s w k text cs findings absent missing c f a m =
    let all = listed_in s w k in
    let found : findings ≡ findings_from s w all 1 (lines_of text) =
    f ∙ ap (λ (x : List Candidate). found_from s w x 1 (lines_of text)) c ∙ found_is s w all 1 (lines_of text) in
    let gone = a ∙ (λ i. absent_among (c i) (found i)) ∙ absent_listed all (findings_from s w all 1 (lines_of text)) in
    λ i. record { findings = found i; absent = gone i; missing = m i }

pub follows_from : (s : Setup) (w : World) (k : ℕ) (text : List ℕ) (report : AuditReport) → AuditsFindAll → NothingLacks
    → report ≡ audit_report s w k text → Follows s w k text report
follows_from s w k text report finds lacks e =
    subst (Follows s w k text) (sym e)
    (record { all = finds.finds s w k text; none_absent = lacks.none_absent s w k text; none_missing = lacks.none_missing s w k text })

-- ---- compiled contracts

length-compiled_from : (s : Setup) (w : World) (k : ℕ) (adverts : List Advert) → length (compiled_from s w k adverts) ≡ length adverts
length-compiled_from s w k [] = refl
length-compiled_from s w k (a ∷ adverts) = ap (λ n. suc n) (length-compiled_from s w (k + 1) adverts)

pub few_compiled : (s : Setup) (w : World) → IsSetup s → length (all_compiled s w) < 2 ^ 32
few_compiled s w setup =
    let e = length-compiled_from s w 0 s.contracts in
    let few = setup.few_contracts in
    omega (arith, e, few)

-- ---- missing signatures

pub missing_none : (s : Setup) (w : World) (o : Option Instance) → None ≡ option_map (numbered s.hash) o
    → [] ≡ missing_of s.hash w.book (listed_by s o)
missing_none s w None h = refl
missing_none s w (Some instance) h = cc

pub missing_nowhere : (s : Setup) (w : World) (k : ℕ) (n : Numbered) → None ≡ contract_at s k
    → Some n ≡ option_map (numbered s.hash) (compiled_instance s w k) → [] ≡ missing_of s.hash w.book (listed_in s w k)
missing_nowhere s w k n none h =
    let e : compiled_instance s w k ≡ None = ap (instance_if_complete w k) (sym none) in
    let f : Some n ≡ option_map (numbered s.hash) None = h ∙ ap (option_map (numbered s.hash)) e in
    absurd (apart f)
  where
    apart : Some n ≡ option_map (numbered s.hash) None → ⊥
    apart q = cc

pub missing_some : {E : Type 0} (s : Setup) (w : World) (k : ℕ) (advert : Advert) (n : Numbered) (r : Result (List Missing) E)
    → Some advert ≡ contract_at s k → Some n ≡ option_map (numbered s.hash) (compiled_instance s w k)
    → ((i : Instance) → i.contract ≡ k → i.advert ≡ advert → n ≡ numbered s.hash i → IfOk r (λ all. all ≡ missing_of s.hash w.book (listed s.hash i)))
    → IfOk r (λ all. all ≡ missing_of s.hash w.book (listed_in s w k))
missing_some s w k advert n r e h f = by_instance (compiled_instance s w k) refl
  where
    number_of : (i : Instance) → Some n ≡ Some (numbered s.hash i) → n ≡ numbered s.hash i
    number_of i q = cc

    by_instance : (o : Option Instance) → compiled_instance s w k ≡ o → IfOk r (λ all. all ≡ missing_of s.hash w.book (listed_in s w k))
    by_instance None c = absurd (apart (h ∙ ap (option_map (numbered s.hash)) c))
      where
        apart : Some n ≡ option_map (numbered s.hash) None → ⊥
        apart q = cc
    by_instance (Some i) c =
        let p = compiled_of s w k advert i (sym e) c in
        subst (λ (o : Option Instance). IfOk r (λ all. all ≡ missing_of s.hash w.book (listed_by s o))) (sym c)
        (f i p.0 p.1 (number_of i (h ∙ ap (option_map (numbered s.hash)) c)))

pub audited_by : {H : Type 0} (digest : H → List ℕ → List ℕ) (old new : Played H) (cs : List Candidate) (text : List ℕ) (k : ℕ)
    (findings : List Finding) (absent : List Which) (missing : List Missing)
    → old.halt ≡ None → cs ≡ map as_candidate (listed_in (setup_in digest old) old.world k) → Finds digest old new cs text findings
    → absent ≡ absent_among cs findings → missing ≡ missing_of (digest old.hasher) old.world.book (listed_in (setup_in digest old) old.world k)
    → Audited digest old new k text (record { findings = findings; absent = absent; missing = missing })
audited_by digest old new cs text k findings absent missing g c f a m = record {
  going = g;
  hears = f.calm.hears;
  calm = f.calm.calm;
  found = report_is (setup_in digest old) old.world k text cs findings absent missing c f.found a m;
}
