-- A transaction is finished exactly where nothing is missing, and then it is the plan's and opens.
use Rattle.std.proofs.Common.{◌≡◌, ℕ, List, true, Option, Some, None, refl, ap, inl, inr}
use Rattle.std.specs.Prelude.{is_some}
use Rattle.std.specs.Option.{option_map}
use Rattle.spec_data.specs.Lists.{or_else}
use Rattle.spec_bitcoin.specs.Spelling.{spelling}
use Rattle.spec_compiler.specs.Keyed.Keys.{Keys}
use Rattle.spec_compiler.specs.Keyed.Instance.{Instance}
use Rattle.spec_run.specs.Firing.{revealed_by}
use Rattle.spec_tool.specs.declared.which.Which.{Which}
use Rattle.spec_tool.specs.declared.which.Which.TheVariants as names
use Rattle.spec_tool.specs.Keyed.Listed.{Listed}
use Rattle.spec_deal.specs.declared.signed.Signed.{Signed}
use Rattle.spec_deal.specs.declared.finish.FinishRefusal.TheVariants as refusals
use Rattle.spec_deal.specs.Answers.{unless_refused}
use Rattle.spec_deal.specs.Finished.{witnesses, finished, unendorsed_refusal, endorsement_refusal, signature_refusal, which_branch, secret_refusal}
use Rattle.spec_deal.specs.Finished.{unsigned_refusal, predicate_refusal, finish_refusal}
use Rattle.spec_deal.specs.Given.{has, endorsements, may_start, first_unendorsed}
use Rattle.spec_deal.specs.declared.entry.Shown.{Shown}
use Rattle.spec_deal.specs.SecretFile.{string_for}
use Rattle.spec_deal.specs.Setting.{deal_keys, deal_instance}
use Rattle.spec_deal.specs.Slots.{listed_slots}
use Rattle.theory_deal.specs.Finished.{Oracle, accepts, oracle_by, do_fit, AllInputsOpen}
use Rattle.theory_deal.specs.Whole.{IsComplete, FinishesExactly, AreRead, FinishTheorem}
use Rattle.theory_deal.proofs.FinishedOpens.{first_none, second_none, map_none, inputs_opened, all_open}
use Rattle.theory_deal.proofs.KeysGiven.{keys_are_given}
use Rattle.theory_deal.proofs.Listed.{all_pass, none_fails}
use Rattle.theory_deal.proofs.Planned.{finished_is_planned}
use Rattle.theory_deal.proofs.ReadDeals.{deals_are_sized}
use Rattle.theory_deal.proofs.ReadSecrets.{secrets_fit}
use Rattle.theory_deal.proofs.ReadSignatures.{signatures_are_shaped}
use Rattle.theory_deal.proofs.Verified.{accepts_read, agrees_accepts, keys_agree}

both_none : {R : Type 0} (a b : Option R) → a ≡ None → b ≡ None → or_else a b ≡ None
both_none None b h k = k
both_none (Some r) b h k = cc

module _ (hash : List ℕ → List ℕ) (keys : Keys) (s : Instance) (given : List Signed) where
  endorsed_if : (which : Which) → endorsement_refusal hash keys s given which ≡ None → which ≡ names.Init
      → may_start hash keys s given ≡ true
  endorsed_if names.Init h e =
      all_pass (has hash keys given) (endorsements hash keys s)
      (map_none unendorsed_refusal (first_unendorsed hash keys s given) h)
  endorsed_if (names.At path) h e = cc

  if_endorsed : (which : Which) → (which ≡ names.Init → may_start hash keys s given ≡ true)
      → endorsement_refusal hash keys s given which ≡ None
  if_endorsed names.Init h =
      ap (option_map unendorsed_refusal) (none_fails (has hash keys given) (endorsements hash keys s) (h refl))
  if_endorsed (names.At path) h = refl

  module _ (strings : List Shown) (l : Listed) where
    complete_if : finish_refusal hash keys s given strings l ≡ None → IsComplete hash keys s given strings l
    complete_if h =
        let a = second_none (endorsement_refusal hash keys s given l.which) _ h in
        let b = second_none (signature_refusal hash keys s given l) _ a in
        record {
          endorsed = endorsed_if l.which (first_none (endorsement_refusal hash keys s given l.which) _ h);
          signed =
              all_pass (has hash keys given) (listed_slots keys s.advert l)
              (map_none unsigned_refusal _ (first_none (signature_refusal hash keys s given l) _ a));
          shown =
              all_pass (λ name. is_some (string_for strings name)) (revealed_by (which_branch s l.which))
              (map_none refusals.Secret _ (first_none (secret_refusal strings (which_branch s l.which)) _ b));
          holds = second_none (secret_refusal strings (which_branch s l.which)) _ b;
        }

    if_complete : IsComplete hash keys s given strings l → finish_refusal hash keys s given strings l ≡ None
    if_complete c =
        both_none (endorsement_refusal hash keys s given l.which) _ (if_endorsed l.which c.endorsed)
        (both_none (signature_refusal hash keys s given l) _
        (ap (option_map unsigned_refusal)
        (none_fails (has hash keys given) (listed_slots keys s.advert l) c.signed))
        (both_none (secret_refusal strings (which_branch s l.which)) (predicate_refusal strings (which_branch s l.which))
        (ap (option_map refusals.Secret)
        (none_fails (λ name. is_some (string_for strings name)) (revealed_by (which_branch s l.which)) c.shown))
        c.holds))

pub finishes_exactly : FinishesExactly
finishes_exactly hash keys s given strings l = (complete_if hash keys s given strings l, if_complete hash keys s given strings l)

pub strings_fit : (hash : List ℕ → List ℕ) (keys : Keys) (s : Instance) (strings : List Shown) → AreRead hash keys s strings
    → do_fit hash s strings ≡ true
strings_fit hash keys s strings (inl e) = ap (do_fit hash s) e
strings_fit hash keys s strings (inr r) = secrets_fit hash keys s r.0 strings r.1

pub finish_theorem : FinishTheorem
finish_theorem v hash advert deal_text deal file given strings which l checked deal_read given_read strings_read there refusal =
    let keys = deal_keys deal in
    let s = deal_instance advert deal in
    let sized = deals_are_sized v hash advert deal_text deal deal_read in
    let shaped = signatures_are_shaped v hash keys s file given given_read in
    let complete = complete_if hash keys s given strings l refusal in
    let open_all : (oracle : Oracle) → accepts hash keys s given oracle l ≡ true
    → AllInputsOpen hash keys s given oracle l (witnesses hash keys s given strings l l.which) =
    λ oracle accepted.
    inputs_opened hash keys s given strings which l oracle sized.are_keys (sized.applied checked) shaped.short
    (strings_fit hash keys s strings strings_read) there refusal accepted in
    let ws = witnesses hash keys s given strings l l.which in
    let accepted = accepts_read v hash keys s given file which l (inr (keys_are_given v hash advert deal_text deal checked deal_read)) given_read there
    complete.signed in
    record {
      printed = ap (λ r. unless_refused r (spelling (finished hash keys s given strings l))) refusal;
      planned = finished_is_planned hash keys s given strings l;
      inputs_open = open_all;
      inputs_verified = open_all (oracle_by v hash l) accepted;
      inputs_agreed = λ oracle agrees. open_all oracle (keys_agree v hash keys s given l oracle agrees accepted);
      opens = λ of_keys oracle accepted. all_open hash keys s given oracle l ws of_keys (open_all oracle accepted);
      verified = λ of_keys. all_open hash keys s given (oracle_by v hash l) l ws of_keys (open_all (oracle_by v hash l) accepted);
      agreed = λ of_keys oracle agrees.
          all_open hash keys s given oracle l ws of_keys (open_all oracle (agrees_accepts v hash keys s given l oracle agrees accepted));
      endorsed = complete.endorsed;
    }
