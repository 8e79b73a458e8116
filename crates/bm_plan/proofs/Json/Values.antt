-- The values of a plan have the texts that are defined.
use Rattle.std.proofs.Common.{◌≡◌, ℕ, suc, ◌+◌, ◌<◌, List, [], ◌∷◌, ◌++◌, length, map, drop, get_or, Bool, false, refl, sym, ap, ◌∙◌, append_assoc, add-one, drop-cons, codes}
use Rattle.std.specs.Prelude.{Result, Ok, Err, IfOk}
use Rattle.std.specs.Fmt.{decimal}
use Rattle.json.specs.Print.{escape_byte}
use Rattle.serde_json.specs.Data.{Data, number, unsigned, string, array, object, item, no_items, Members, member, no_members}
use Rattle.serde_json.specs.View.{view}
use Rattle.serde_json.specs.declared.value.Value.{Value}
use Rattle.serde_json.specs.Written.{has_float, compact_text}
use Rattle.spec_data.specs.Digits.{hex_text}
use Rattle.spec_terms.specs.declared.path.PathStep.{PathStep}
use Rattle.spec_bitcoin.specs.Keys.{path_text}
use Rattle.spec_compiler.specs.declared.prepared.Prepared.{Prepared}
use Rattle.spec_tool.specs.declared.weight.Weight.{Weight}
use Rattle.spec_tool.specs.WeighText as weigh
use Rattle.bm_plan.specs.Seen.{seen, plain}
use Rattle.bm_plan.proofs.Json.Escapes.{escape_hex, path_plain, string_plain}
use Rattle.bm_plan.proofs.Json.Texts.{SameMembers, array_text, object_text}

pub hex_plain : (bytes : List ℕ) → seen (string (hex_text bytes)) ≡ plain (weigh.quoted (hex_text bytes))
hex_plain bytes = string_plain (hex_text bytes) (escape_hex bytes)

pub path_named : (path : List PathStep) → seen (string (path_text path)) ≡ plain (weigh.quoted (path_text path))
path_named path = string_plain (path_text path) (path_plain path)

pub init_plain : seen (string (codes "init")) ≡ plain (weigh.quoted (codes "init"))
unfolding escape_byte seen
init_plain = refl

pub weight_text : (w : Weight) → seen (array (item (number (unsigned w.least)) (item (number (unsigned w.most)) no_items))) ≡ plain (weigh.weight_value w)
unfolding seen
weight_text w = array_text (number (unsigned w.least) ∷ (number (unsigned w.most) ∷ [])) (decimal w.least ∷ (decimal w.most ∷ [])) refl

pub transaction_text : (digests hex name total txid weight : Data) (lock : ℕ) (a b d e f g : List ℕ)
    → seen digests ≡ plain a → seen hex ≡ plain b → seen name ≡ plain d → seen total ≡ plain e → seen txid ≡ plain f → seen weight ≡ plain g
    → seen (object (member (codes "digests") digests (member (codes "hex") hex (member (codes "lock") (number (unsigned lock))
    (member (codes "name") name (member (codes "total") total (member (codes "txid") txid (member (codes "weight") weight no_members))))))))
    ≡ plain (weigh.object ((codes "digests", a) ∷ ((codes "hex", b) ∷ ((codes "lock", decimal lock) ∷ ((codes "name", d)
    ∷ ((codes "total", e) ∷ ((codes "txid", f) ∷ ((codes "weight", g) ∷ []))))))))
unfolding escape_byte seen
transaction_text digests hex name total txid weight lock a b d e f g ha hb hd he hf hg =
    let ms : Members = member (codes "digests") digests (member (codes "hex") hex (member (codes "lock") (number (unsigned lock))
    (member (codes "name") name (member (codes "total") total (member (codes "txid") txid (member (codes "weight") weight no_members)))))) in
    let texts : List (List ℕ × List ℕ) = (codes "digests", a) ∷ ((codes "hex", b) ∷ ((codes "lock", decimal lock) ∷ ((codes "name", d)
    ∷ ((codes "total", e) ∷ ((codes "txid", f) ∷ ((codes "weight", g) ∷ [])))))) in
    let same : SameMembers ms texts =
    (refl, ha, (refl, hb, (refl, refl, (refl, hd, (refl, he, (refl, hf, (refl, hg, tt))))))) in
    object_text ms texts same

pub plan_text : (contract : ℕ) (transactions : Data) (t : List ℕ) → seen transactions ≡ plain t
    → seen (object (member (codes "contract") (number (unsigned contract)) (member (codes "transactions") transactions no_members)))
    ≡ plain (weigh.object ((codes "contract", decimal contract) ∷ ((codes "transactions", t) ∷ [])))
unfolding escape_byte seen
plan_text contract transactions t h =
    let ms : Members = member (codes "contract") (number (unsigned contract)) (member (codes "transactions") transactions no_members) in
    let texts : List (List ℕ × List ℕ) = (codes "contract", decimal contract) ∷ ((codes "transactions", t) ∷ []) in
    let same : SameMembers ms texts = (refl, refl, (refl, h, tt)) in
    object_text ms texts same

-- ---- a value's text

pub text_is : (d : Data) (t : List ℕ) → seen d ≡ plain t → (has_float d ≡ false) × (compact_text d ≡ t)
unfolding seen
text_is d t h = (ap (λ (p : Bool × List ℕ). p.0) h, ap (λ (p : Bool × List ℕ). p.1) h)

-- what is seen of a value that was made
pub seen_of : {E : Type 0} (r : Result Value E) (d : Data) (t : List ℕ) → IfOk r (λ v. view v ≡ d) → seen d ≡ plain t → IfOk r (λ v. seen (view v) ≡ plain t)
seen_of (Ok v) d t h e = ap seen h ∙ e
seen_of (Err x) d t h e = tt

-- ---- lists of values

seen_more : (values : List Value) (v : Value) → map seen (map view (values ++ v ∷ [])) ≡ map seen (map view values) ++ seen (view v) ∷ []
seen_more [] v = refl
seen_more (x ∷ values) v = ap (λ (rest : List (Bool × List ℕ)). seen (view x) ∷ rest) (seen_more values v)

abbrev Weighed : Type 0
Weighed = Weight × Weight

-- one more transaction is told, and those that are left
pub one_told : (values new : List Value) (v : Value) (paths : List (List PathStep × Prepared)) (i : ℕ) (p : List PathStep × Prepared)
    (w : Weighed) (rest more : List Weighed) (all : List (Bool × List ℕ)) → i < length paths → p ≡ get_or paths i p → rest ≡ w ∷ more
    → new ≡ values ++ v ∷ [] → seen (view v) ≡ plain (weigh.transaction_value ((weigh.named_path p).0) (p.1) w)
    → map seen (map view values) ++ map plain (weigh.transaction_values (map weigh.named_path (drop i paths)) rest) ≡ all
    → map seen (map view new) ++ map plain (weigh.transaction_values (map weigh.named_path (drop (i + 1) paths)) more) ≡ all
one_told values new v paths i p w rest more all low is prefix grown h told =
    let seens = λ (vs : List Value). map seen (map view vs) in
    let left = λ (ps : List (List PathStep × Prepared)) (ws : List Weighed). map plain (weigh.transaction_values (map weigh.named_path ps) ws) in
    let later = left (drop (suc i) paths) more in
    let cut : drop i paths ≡ get_or paths i p ∷ drop (suc i) paths = drop-cons paths i p low in
    let same : left (drop i paths) rest ≡ left (p ∷ drop (suc i) paths) (w ∷ more) =
    (λ j. left (cut j) (prefix j)) ∙ ap (λ q. left (q ∷ drop (suc i) paths) (w ∷ more)) (sym is) in
    let e : seens new ≡ seens values ++ seen (view v) ∷ [] = ap seens grown ∙ seen_more values v in
    rw add-one (
    ap (λ xs. xs ++ later) e
    ∙ (append_assoc (seens values) (seen (view v) ∷ []) later
    ∙ (ap (λ x. seens values ++ (x ∷ later)) h
    ∙ (ap (λ xs. seens values ++ xs) (sym same) ∙ told)))
    )
