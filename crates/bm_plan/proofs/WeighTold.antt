-- What is printed of a compiled contract with weights is what is printed of its instance.
use Rattle.std.proofs.Common.{◌≡◌, ℕ, List, [], ◌∷◌, ◌++◌, Option, Some, None, refl, ap, ◌∙◌, codes}
use Rattle.std.specs.Prelude.{IfSome}
use Rattle.std.specs.Fmt.{decimal}
use Rattle.std.specs.Option.{option_map}
use Rattle.spec_terms.specs.Advert.{Advert}
use Rattle.spec_compiler.specs.Instance.{Instance}
use Rattle.spec_compiler.specs.Statements.{IsHash}
use Rattle.spec_compiler.specs.Compilation.{compilation}
use Rattle.spec_text.specs.RunText.{newline}
use Rattle.spec_tool.specs.WeighText.{bracketed, object, transaction_values, named_all, setting_values, plan_value}
use Rattle.bm_compile.specs.Numbered.{Numbered, numbered}
use Rattle.bm_plan.proofs.AsCompiled.{weights_by_lists}
use Rattle.bm_plan.specs.Told.{listed_values, weigh_told}

values_are : (hash : List ℕ → List ℕ) (s : Option Instance) (advert : Advert) → IsHash hash → IfSome s (λ i. i.advert ≡ advert)
    → listed_values advert (option_map (numbered hash) s) ≡ setting_values hash s
values_are hash None advert size h = refl
values_are hash (Some s) advert size h =
    let c = compilation hash s in
    ap (transaction_values (named_all c)) (weights_by_lists hash s size advert c.init c.paths c.scripts h refl refl refl)

pub weigh_told-plan : (hash : List ℕ → List ℕ) (s : Option Instance) (advert : Advert) (c : Option Numbered) → IsHash hash
    → IfSome s (λ i. i.advert ≡ advert) → c ≡ option_map (numbered hash) s → weigh_told advert c ≡ plan_value hash 0 s ++ newline
weigh_told-plan hash s advert c size h e =
    ap (weigh_told advert) e
    ∙ ap (λ (values : List (List ℕ)). object ((codes "contract", decimal 0) ∷ ((codes "transactions", bracketed values) ∷ [])) ++ newline)
    (values_are hash s advert size h)
