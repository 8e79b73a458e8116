-- One more branch of a choice in brackets, or part of a split, with those behind its plus or comma.
use Rattle.std.proofs.Common.{◌≡◌, ℕ, zero, suc, ◌-◌, List, true, Ok, refl, arith, subst}
use Rattle.spec_terms.specs.Term.{Guarded, Contract, branch, Parts, part}
use Rattle.spec_text.specs.declared.token.Symbol.TheVariants as mark
use Rattle.spec_text.specs.declared.lexeme.Lexeme.{Lexeme}
use Rattle.spec_text.specs.Reading.{token_by, a_symbol}
use Rattle.spec_text.specs.ReadContract.{BranchReader, ChoiceReader, branch_limit, allowed_branch, goes_on, branches_at, a_value, parts_go_on, parts_at}

pub branch_step : (read : BranchReader) (d m b : ℕ) (ts us vs ws : List Lexeme) (g : Guarded) (n : ℕ) (r : Contract) (l : ℕ) → ¬ (m ≡ 0)
    → allowed_branch read (branch_limit d b m) b ts ≡ Ok ((g, n), us) → token_by goes_on us ≡ Ok (true, vs)
    → branches_at read d (m - 1) n vs ≡ Ok ((r, l), ws) → branches_at read d m b ts ≡ Ok ((branch g r, l), ws)
unfolding branches_at
branch_step read d zero b ts us vs ws g n r l some first on others = absurd (some refl)
branch_step read d (suc k) b ts us vs ws g n r l some first on others =
    let less : suc k - 1 ≡ k = omega arith in
    let behind : branches_at read d k n vs ≡ Ok ((r, l), ws) = subst (λ j. branches_at read d j n vs ≡ Ok ((r, l), ws)) less others in
    rw (first, on, behind) refl

pub part_step : (read : ChoiceReader) (m b : ℕ) (ts us vs ws xs zs : List Lexeme) (v : ℕ) (c : Contract) (n : ℕ) (r : Parts) (l : ℕ) → ¬ (m ≡ 0)
    → token_by a_value ts ≡ Ok (v, us) → token_by (a_symbol mark.Arrow) us ≡ Ok (tt, vs) → read b vs ≡ Ok ((c, n), ws)
    → token_by parts_go_on ws ≡ Ok (true, xs) → parts_at read (m - 1) n xs ≡ Ok ((r, l), zs) → parts_at read m b ts ≡ Ok ((part v c r, l), zs)
unfolding parts_at
part_step read zero b ts us vs ws xs zs v c n r l some value arrow next on others = absurd (some refl)
part_step read (suc k) b ts us vs ws xs zs v c n r l some value arrow next on others =
    let less : suc k - 1 ≡ k = omega arith in
    let behind : parts_at read k n xs ≡ Ok ((r, l), zs) = subst (λ j. parts_at read j n xs ≡ Ok ((r, l), zs)) less others in
    rw (value, arrow, next, on, behind) refl
