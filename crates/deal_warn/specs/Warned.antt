-- What is warned of, by what is known of the transactions.
use Rattle.std.specs.Prelude.{ℕ, ◌+◌, ◌-◌, List, [], ◌∷◌, ◌++◌, length, nat_lt, codes}
use Rattle.std.specs.Fmt.{decimal}
use Rattle.std.specs.List.{flat_map}
use Rattle.spec_terms.specs.Advert.{Advert}
use Rattle.spec_terms.specs.Precondition.{secrets, names_of}
use Rattle.spec_terms.specs.declared.path.PathStep.{PathStep}
use Rattle.spec_bitcoin.specs.declared.tx.TxOut.{TxOut}
use Rattle.spec_tool.specs.declared.which.Which.{Which}
use Rattle.spec_tool.specs.Keyed.Listed.{which_text}
use Rattle.spec_deal.specs.declared.entry.Shown.{Shown}
use Rattle.spec_deal.specs.declared.transaction.Input.{Input}
use Rattle.spec_deal.specs.declared.transaction.Transaction.{Transaction}
use Rattle.spec_deal.specs.DealText.{line_of}
use Rattle.spec_deal.specs.WarnText.{least_value, paid_value, if_warned, script_warnings, dust_warnings, secret_warnings}
use Rattle.deal_warn.specs.Sized.{size_by}

-- output k, if its value is small
abbrev pub output_warnings : Which → ℕ → TxOut → List (List ℕ)
output_warnings which k output =
    if_warned (nat_lt output.value (least_value output.script))
    (codes "dust" ∷ which_text which ∷ decimal k ∷ decimal output.value ∷ decimal (least_value output.script) ∷ [])

abbrev pub spent_by : List Input → ℕ
spent_by [] = 0
spent_by (input ∷ inputs) = input.spent.value + spent_by inputs

unfoldable pub fee_by : Transaction → ℕ
fee_by t = spent_by t.inputs - paid_value t.tx.outputs

abbrev pub fee_warnings_by : Advert → Transaction → List (List ℕ)
fee_warnings_by advert t =
    if_warned (nat_lt (fee_by t) (size_by advert t))
    (codes "fee" ∷ which_text t.which ∷ decimal (fee_by t) ∷ decimal (size_by advert t) ∷ [])

abbrev pub transaction_warnings_by : Advert → Transaction → List (List ℕ)
transaction_warnings_by advert t = dust_warnings t.which 0 t.tx.outputs ++ fee_warnings_by advert t

-- of the positions, the transactions and the secrets
abbrev pub warnings_by : Advert → List (List PathStep × List ℕ) → List Transaction → List Shown → List (List ℕ)
warnings_by advert scripts transactions strings =
    flat_map script_warnings scripts
    ++ (flat_map (transaction_warnings_by advert) transactions
    ++ flat_map (secret_warnings strings) (names_of (secrets advert.pre)))

-- the lines, and how many they are
abbrev pub text_of : List (List ℕ) → List ℕ
text_of lines = flat_map (λ line. line) lines ++ line_of (codes "warnings" ∷ decimal (length lines) ∷ [])
