-- A plan is made of its nodes, places and reference month. Rows that are put for a plan put it among the plans.
use Rattle.std.proofs.Common.{◌≡◌, ◌≢◌, inl, inr, ℕ, ◌+◌, Bool, true, false, List, [], ◌∷◌}
use Rattle.std.proofs.Common.{Some, None, Option, refl, sym, ap, subst, ◌∙◌, arith, ◌&&◌, ◌||◌, ◌==◌}
use Rattle.std.specs.Prelude.{filter, is_some, if◌then◌else◌}
use Rattle.std.specs.declared.cmp.Ordering.TheVariants.{Less, Equal}
use Rattle.std.specs.Ordering.{nat_cmp}
use Rattle.std.specs.Cmp.{tied_itself}
use Rattle.std.specs.List.Sorted.{IsStrictlySortedBy}
use Rattle.std.proofs.lemmas.Bool.{true≢false}
use Rattle.std.proofs.lemmas.Cmp.{nat_cmp_total}
use Rattle.std.proofs.lemmas.Map.Keys.{sorted_tail}
use Rattle.sqlite.specs.Tree.{Trees}
use Rattle.sqlite_rules.specs.Lists.{Has}
use Rattle.sqlite_rules.proofs.ListLemmas.{all_from, has_filtered, has_kept, some_from, some_has, test_has}
use Rattle.sqlite_rules.proofs.ProbeLemmas.{has_mapped, mapped_has}
use Rattle.cpi_codes.specs.CodeOrder.{code_cmp, is_same_code, is_code_elementary}
use Rattle.cpi_codes.specs.CodeText.{is_code_at_or_below}
use Rattle.cpi_codes.specs.declared.codes.Code.{Code}
use Rattle.cpi_codes.specs.contracts.codes.CodeOrd.TheImpl.Laws.{total-law}
use Rattle.cpi_codes.proofs.CodePath.{at_or_below_parts, no_group}
use Rattle.cpi_codes.proofs.CodeBytes.{absent_below}
use Rattle.cpi_codes.proofs.CodeBelow.{fits}
use Rattle.cpi_codes.proofs.CodeIs.{same_code_is}
use Rattle.cpi_rows.specs.Keyed.{IsInOrder, put_by}
use Rattle.cpi_rows.specs.Held.{held_by}
use Rattle.cpi_plan.specs.Sums.{weight_under, is_node}
use Rattle.cpi_plan.specs.Plan.{Plan, IsPlan}
use Rattle.cpi_plan.specs.Stored.{weight_of, weights_in, plan_from, is_whole}
use Rattle.cpi_plan.specs.declared.plan_rows.Weight.{Weight}
use Rattle.cpi_plan.specs.declared.plan_rows.Node.{Node}
use Rattle.cpi_plan.specs.declared.plan_rows.Place.{Place}
use Rattle.cpi_plan.proofs.FaultLemmas.{equal_is}
use Rattle.cpi_plan.proofs.UnderLemmas.{number_is, and_first, and_second, under_cons}
use Rattle.cpi_plan.proofs.StoredLemmas.{below_itself}
use Rattle.cpi_codes.proofs.CodesAbove.{same_code_itself}
use Rattle.cpi_sql_rows.specs.Lists.{years, if_whole, plan_at, plans_in, nodes_in, places_in, node_in, place_in_row}
use Rattle.cpi_sql_rows.specs.Lists.{reference_of, reference_month_in_row, references_for, references_in}
use Rattle.cpi_sql_rows.specs.declared.reference_months.ReferenceMonth.{ReferenceMonth}
use Rattle.cpi_sql_rows.proofs.Listed.{same_in_order, head_in}
use Rattle.cpi_sql_writes.proofs.Replaced.{Replaced}
use Rattle.cpi_sql_writes.proofs.PlanLists.{made_put}
use Rattle.cpi_sql_rows.proofs.YearLemmas.{stored_is}
use Rattle.cpi_sql_rows.proofs.Lists.{some_is}

-- ---- elementary codes
none_below : (c : Code) → is_code_elementary c ≡ true → c.aggregate ≡ None → ⊥
none_below c e none = true≢false (sym e ∙ ap is_some none)

fits_same : (x y : Option ℕ) → (x ≡ None → ⊥) → fits x y ≡ true → x ≡ y
fits_same None y some h = absurd (some refl)
fits_same (Some d) None some h = cc
fits_same (Some d) (Some e) some h = ap (λ n. Some n) (sym (number_is e d h))

-- nothing but an elementary aggregate is at or below it
below_elementary : (c d : Code) → is_code_elementary c ≡ true → is_code_at_or_below c d ≡ true → c ≡ d
below_elementary c d e h = at (c.division == 0) refl (sym (at_or_below_parts c d) ∙ h)
  where
    under : (c.group ≡ None → c.class ≡ None) × (c.class ≡ None → c.subclass ≡ None)
        × (c.subclass ≡ None → c.aggregate ≡ None)
    under = absent_below c.division c.group c.class c.subclass c.aggregate c.valid

    subclass : c.subclass ≡ None → ⊥
    subclass n = none_below c e (under.2 n)

    class : c.class ≡ None → ⊥
    class n = subclass (under.1 n)

    group : c.group ≡ None → ⊥
    group n = class (under.0 n)

    at : (z : Bool) → (c.division == 0) ≡ z
        → (z || ((d.division == c.division)
        && (fits c.group d.group
        && (fits c.class d.class && (fits c.subclass d.subclass && fits c.aggregate d.aggregate))))) ≡ true → c ≡ d
    at true z f = absurd (group (no_group c (number_is c.division 0 z)))
    at false z f =
        let g = and_second (d.division == c.division) _ f in
        let k = and_second (fits c.group d.group) _ g in
        let s = and_second (fits c.class d.class) _ k in
        same_code_is c d (sym (number_is d.division c.division (and_first (d.division == c.division) _ f)))
        (fits_same c.group d.group group (and_first (fits c.group d.group) _ g))
        (fits_same c.class d.class class (and_first (fits c.class d.class) _ k))
        (fits_same c.subclass d.subclass subclass (and_first (fits c.subclass d.subclass) _ s))
        (fits_same c.aggregate d.aggregate (none_below c e) (and_second (fits c.subclass d.subclass) _ s))

-- ---- the weight of an elementary aggregate
module _ (c : Code) (elementary : is_code_elementary c ≡ true) where
  nothing : (xs : List Weight) → ((z : Weight) → Has xs z → is_code_at_or_below c z.code ≡ false)
      → weight_under c xs ≡ 0
  nothing [] h = refl
  nothing (x ∷ xs) h =
      let sum : weight_under c (x ∷ xs) ≡ 0 + weight_under c xs = under_cons c x xs false (h x (inl refl)) in
      omega (arith, sum, nothing xs (λ z k. h z (inr k)))

  alone : (xs : List Weight) (u : Weight) → IsInOrder code_cmp (λ w. w.code) xs → Has xs u → c ≡ u.code
      → weight_under c xs ≡ u.parts
  alone [] u sorted h e = absurd h
  alone (x ∷ xs) u sorted h e = at (is_code_at_or_below c x.code) refl h
      (λ k. alone xs u (sorted_tail (λ a b. code_cmp a.code b.code) x xs sorted) k e)
    where
      clash : (z : Weight) → Has xs z → x.code ≡ z.code → ⊥
      clash z k same = absurd (let no : Equal ≡ Less = sym (tied_itself total-law x.code)
          ∙ subst (λ d. code_cmp x.code d ≡ Less) (sym same) (head_in total-law
          (λ (w : Weight). w.code) x xs z sorted k) in cc)

      other : (z : Weight) → Has xs z → c ≡ x.code → (b : Bool) → is_code_at_or_below c z.code ≡ b → b ≡ false
      other z k here true f = absurd (clash z k (sym here ∙ below_elementary c z.code elementary f))
      other z k here false f = refl

      at : (b : Bool) → is_code_at_or_below c x.code ≡ b → Has (x ∷ xs) u → (Has xs u → weight_under c xs ≡ u.parts)
          → weight_under c (x ∷ xs) ≡ u.parts
      at true f (inl is) later =
          let here = below_elementary c x.code elementary f in
          let rest = nothing xs (λ z k. other z k here (is_code_at_or_below c z.code) refl) in
          under_cons c x xs true f ∙ ap (λ n. x.parts + n) rest ∙ omega arith ∙ ap (λ (w : Weight). w.parts) (sym is)
      at true f (inr k) later = absurd (clash u k (sym (below_elementary c x.code elementary f) ∙ e))
      at false f (inl is) later = absurd (true≢false (sym (below_itself c)
          ∙ ap (is_code_at_or_below c) (e ∙ ap (λ (w : Weight). w.code) is) ∙ f))
      at false f (inr k) later =
          let sum : weight_under c (x ∷ xs) ≡ 0 + weight_under c xs = under_cons c x xs false f in
          omega (arith, sum, later k)

weights_has : (ns : List Node) (w : Weight) → Has (weights_in ns) w → (n : Node) × Has ns n
    × (is_code_elementary n.code ≡ true) × (w ≡ weight_of n)
weights_has ns w h =
    let it = has_mapped weight_of (filter (λ n. is_code_elementary n.code) ns) w h in
    let kept = has_filtered (λ (n : Node). is_code_elementary n.code) ns it.0 it.1 in
    (it.0, kept.0, kept.1, it.2)

has_weights : (ns : List Node) (n : Node) → Has ns n → is_code_elementary n.code ≡ true
    → Has (weights_in ns) (weight_of n)
has_weights ns n h e = mapped_has weight_of (filter (λ n. is_code_elementary n.code) ns) n
    (has_kept (λ (n : Node). is_code_elementary n.code) ns n h e)

weights_in_order : (ns : List Node) → IsInOrder code_cmp (λ n. n.code) ns
    → IsInOrder code_cmp (λ w. w.code) (weights_in ns)
unfolding IsStrictlySortedBy
weights_in_order [] sorted = tt
weights_in_order (n ∷ ns) sorted = at (is_code_elementary n.code) refl (weights_in_order ns sorted.1)
  where
    at : (b : Bool) → is_code_elementary n.code ≡ b → IsInOrder code_cmp (λ w. w.code) (weights_in ns)
        → IsInOrder code_cmp (λ w. w.code) (weights_in (n ∷ ns))
    at true e rest = rw e (
      all_from (λ z. code_cmp n.code z.code ≡ Less) (weights_in ns)
          (λ z h.
          let it = weights_has ns z h in
          subst (λ (w : Weight). code_cmp n.code w.code ≡ Less) (sym it.3) (head_in total-law
          (λ (m : Node). m.code) n ns it.0 sorted it.1)),
      rest,
    )
    at false e rest = rw e rest

module _ (p : Plan) (v : IsPlan p) where
  same_weight : (n : Node) (u : Weight) → Has p.nodes n → Has p.weights u → is_code_elementary n.code ≡ true
      → n.code ≡ u.code → weight_of n ≡ u
  same_weight n u h k e same =
      let sum : n.weight ≡ weight_under n.code p.weights =
      number_is n.weight _ (test_has
      (λ (n : Node). n.weight == weight_under n.code p.weights) p.nodes n v.weighed h) in
      let parts : n.weight ≡ u.parts = sum ∙ alone n.code e p.weights u v.weights_in_order k same in
      λ i. record { code = same i; parts = parts i }

  -- the weights are those of the elementary nodes
  pub weights_are : weights_in p.nodes ≡ p.weights
  weights_are =
      same_in_order total-law (λ (w : Weight). w.code) (weights_in p.nodes) p.weights
      (weights_in_order p.nodes v.nodes_in_order) v.weights_in_order
      (λ w h.
      let it = weights_has p.nodes w h in
      let node : is_node p.weights it.0.code ≡ true = v.complete it.0.code
      ∙ some_from (λ (m : Node). is_same_code m.code it.0.code) p.nodes it.0 it.1 (same_code_itself it.0.code) in
      let u = some_has (λ (w : Weight). is_code_at_or_below it.0.code w.code) p.weights node in
      subst (Has p.weights) (sym (it.3
      ∙ same_weight it.0 u.0 it.1 u.1 it.2 (below_elementary it.0.code u.0.code it.2 u.2))) u.1)
      (λ w h.
      let elementary : is_code_elementary w.code ≡ true = test_has
      (λ (w : Weight). is_code_elementary w.code) p.weights w v.elementary h in
      let node : is_node p.weights w.code ≡ true = some_from
      (λ (u : Weight). is_code_at_or_below w.code u.code) p.weights w h (below_itself w.code) in
      let n = some_has (λ (m : Node). is_same_code m.code w.code) p.nodes (sym (v.complete w.code) ∙ node) in
      let same = equal_is n.0.code w.code n.2 in
      let mine : is_code_elementary n.0.code ≡ true = ap is_code_elementary same ∙ elementary in
      subst (Has (weights_in p.nodes)) (same_weight n.0 w n.1 h mine same) (has_weights p.nodes n.0 n.1 mine))

  -- so the plan is made of its nodes and places
  pub plan_again : p ≡ plan_from p.year p.nodes p.places p.reference
  plan_again = λ i. record {
    year = p.year;
    nodes = p.nodes;
    weights = sym weights_are i;
    places = p.places;
    reference = p.reference;
  }

-- ---- plans by year
of_year : (nodes : List (ℕ × Node)) (places : List (ℕ × Place)) (references : List (ℕ × ReferenceMonth)) (y : ℕ)
    (q : Plan) → plan_at nodes places references y ≡ Some q
    → q.year ≡ y
of_year nodes places references y q e = at (is_whole (read y)) e
  where
    read : ℕ → Plan
    read z = plan_from z (held_by z nodes) (held_by z places) (reference_of (held_by z references))

    at : (b : Bool) → (if b then Some (read y) else None) ≡ Some q → q.year ≡ y
    at true e = ap (λ (r : Plan). r.year) (sym (some_is e))
    at false e = cc

-- the rows of a reference month say it
says_reference : (o : Option ℕ) → reference_of (references_for o) ≡ o
says_reference None = refl
says_reference (Some month) = refl

pub one_in_order : (o : Option ℕ) → IsInOrder nat_cmp (λ (m : ReferenceMonth). m.month) (references_for o)
unfolding IsStrictlySortedBy
one_in_order None = tt
one_in_order (Some month) = (tt, tt)

module _ (p : Plan) (v : IsPlan p) (old new : Trees)
    (nodes : Replaced total-law (λ (n : Node). n.code) node_in p.year p.nodes (old 6) (new 6))
    (places : Replaced nat_cmp_total (λ (q : Place). q.item) place_in_row p.year p.places (old 8) (new 8))
    (references : Replaced nat_cmp_total (λ (m : ReferenceMonth). m.month) reference_month_in_row p.year
    (references_for p.reference) (old 34) (new 34)) where
  abbrev plan_in : Trees → ℕ → Option Plan
  plan_in trees y = plan_at (nodes_in (trees 6)) (places_in (trees 8)) (references_in (trees 34)) y

  here : plan_in new p.year ≡ Some p
  here =
      (λ i. if_whole (plan_from p.year (nodes.here i) (places.here i) (reference_of (references.here i))))
      ∙ ap (λ o. if_whole (plan_from p.year p.nodes p.places o)) (says_reference p.reference)
      ∙ sym (stored_is p (plan_from p.year p.nodes p.places p.reference) v (plan_again p v))

  there : (y : ℕ) → y ≢ p.year → plan_in new y ≡ plan_in old y
  there y apart = λ i. if_whole (plan_from y (nodes.there y apart i) (places.there y apart i)
      (reference_of (references.there y apart i)))

  -- the plan is put among the plans
  pub plans_put : plans_in new ≡ put_by (λ q. q.year) p (plans_in old)
  unfolding years
  plans_put =
      made_put (λ (q : Plan). q.year) (plan_in old) (plan_in new) p
      (of_year (nodes_in (old 6)) (places_in (old 8)) (references_in (old 34)))
      (of_year (nodes_in (new 6)) (places_in (new 8)) (references_in (new 34))) here there
      2000 200 v.in_calendar.0 (omega (arith, v.in_calendar.1))
