-- The plans of the years, read year by year.
use Rattle.std.proofs.Common.{◌≡◌, ℕ, zero, suc, ◌+◌, List, [], ◌∷◌, ◌++◌}
use Rattle.std.proofs.Common.{None, Some, Option, refl, sym, ap, subst, ◌∙◌, arith}
use Rattle.std.specs.Prelude.{filter_map}
use Rattle.std.proofs.lemmas.List.Elements.{filter_map-append}
use Rattle.std.specs.Option.{option_to_list}
use Rattle.cpi_plan.specs.Plan.{Plan, IsPlan}
use Rattle.cpi_plan.specs.Stored.{plan_from}
use Rattle.cpi_plan.specs.declared.plan_rows.Node.{Node}
use Rattle.cpi_plan.specs.declared.plan_rows.Place.{Place}
use Rattle.cpi_plan.proofs.StoredLemmas.{plan_whole}
use Rattle.cpi_sql_rows.specs.Lists.{numbers, years, if_whole, plan_at, plans_of}
use Rattle.cpi_sql_rows.specs.declared.reference_months.ReferenceMonth.{ReferenceMonth}

-- a plan passes the tests
pub whole_is : (p : Plan) → IsPlan p → if_whole p ≡ Some p
whole_is p v = rw (plan_whole p v) refl

-- a year without nodes has no plan
pub none_made : (year : ℕ) (nodes : List Node) (places : List Place) (reference : Option ℕ) → nodes ≡ []
    → None ≡ if_whole (plan_from year nodes places reference)
none_made year nodes places reference e = rw e refl

pub stored_is : (p q : Plan) → IsPlan p → p ≡ q → Some p ≡ if_whole q
stored_is p q v e = ap Some e ∙ sym (whole_is q (subst IsPlan e v))

pub no_years : (nodes : List (ℕ × Node)) (places : List (ℕ × Place)) (references : List (ℕ × ReferenceMonth))
    → plans_of (years 0) nodes places references ≡ []
unfolding years
no_years nodes places references = refl

numbers_more : (first n : ℕ) → numbers first (n + 1) ≡ numbers first n ++ (first + n) ∷ []
numbers_more first zero = ap (λ k. k ∷ []) (omega arith)
numbers_more first (suc n) =
    let more : suc n + 1 ≡ suc (n + 1) = omega arith in
    ap (numbers first) more
    ∙ ap (λ ks. first ∷ ks) (numbers_more (first + 1) n ∙ ap (λ k. numbers (first + 1) n ++ k ∷ []) (omega arith))

made_one : {X Y : Type 0} (f : X → Option Y) (o : Option Y) (x : X) → f x ≡ o → filter_map f (x ∷ []) ≡ option_to_list o
made_one f None x e = rw e refl
made_one f (Some y) x e = rw e refl

-- one year more
pub plans_more : (nodes : List (ℕ × Node)) (places : List (ℕ × Place)) (references : List (ℕ × ReferenceMonth))
    (n : ℕ) (o : Option Plan)
    → o ≡ plan_at nodes places references (2000 + n)
    → plans_of (years (n + 1)) nodes places references ≡ plans_of (years n) nodes places references ++ option_to_list o
unfolding years
plans_more nodes places references n o e =
    ap (filter_map (plan_at nodes places references)) (numbers_more 2000 n)
    ∙ filter_map-append (plan_at nodes places references) (numbers 2000 n) ((2000 + n) ∷ [])
    ∙ ap (λ zs. plans_of (numbers 2000 n) nodes places references ++ zs)
    (made_one (plan_at nodes places references) o (2000 + n) (sym e))
