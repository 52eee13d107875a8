-- A body has one first fault.
use Rattle.std.proofs.Common.{◌≡◌, ◌≢◌, ℕ, true, false, refl, sym, ap, ◌∙◌, ◌==◌}
use Rattle.std.specs.declared.cmp.Ordering.{Ordering}
use Rattle.std.specs.declared.cmp.Ordering.TheVariants.{Less, Equal, Greater}
use Rattle.std.specs.Ordering.{is_eq, is_gt, ordering_reverse}
use Rattle.cpi_codes.specs.CodeOrder.{code_cmp, is_same_code}
use Rattle.cpi_codes.specs.declared.codes.Code.{Code}
use Rattle.cpi_codes.specs.contracts.codes.CodeOrd.TheImpl.Laws.{total-law}
use Rattle.cpi_codes.proofs.CodeIs.{same_code_is}
use Rattle.cpi_codes.proofs.CodePath.{same_part, is_eq_parts}
use Rattle.cpi_rows.proofs.Truth.{and_first, and_second, no_true_false, same_of_equal}
use Rattle.cpi_plan.specs.declared.plan_faults.PlanFault.{PlanFault}
use Rattle.cpi_plan.specs.declared.plan_faults.PlanFault.TheVariants.{DuplicateCode, NotElementary, ZeroWeight}
use Rattle.cpi_plan.specs.declared.plan_faults.PlanFault.TheVariants.{WeightSum, TitleMissing, UnknownItem, ItemTwice}
use Rattle.cpi_plan.specs.declared.plan_faults.PlanFault.TheVariants.{UnknownAggregate, Reference, NoMemory}
use Rattle.cpi_plan.specs.Plan.{Body, IsFirstFault, CodesOnce, Passes2, Passes3, Passes4, Passes5, Passes6, Passes7}
use Rattle.cpi_plan.specs.Plan.{Passes8}
use Rattle.cpi_plan.proofs.UnderLemmas.{part_is}

-- codes that compare equal are one code
pub equal_is : (n q : Code) → is_same_code n q ≡ true → n ≡ q
equal_is n q h =
    let parts = sym (is_eq_parts n q) ∙ h in
    let rest = and_second (q.division == n.division) _ parts in
    let third = and_second (same_part q.group n.group) _ rest in
    let fourth = and_second (same_part q.class n.class) _ third in
    sym (same_code_is q n (same_of_equal q.division n.division (and_first (q.division == n.division) _ parts))
    (part_is q.group n.group (and_first (same_part q.group n.group) _ rest))
    (part_is q.class n.class (and_first (same_part q.class n.class) _ third))
    (part_is q.subclass n.subclass (and_first (same_part q.subclass n.subclass) _ fourth))
    (part_is q.aggregate n.aggregate (and_second (same_part q.subclass n.subclass) _ fourth)))

pub level : (s t : Ordering) → s ≡ ordering_reverse t → is_gt s ≡ false → is_gt t ≡ false → is_eq s ≡ true
level Equal t e f g = refl
level Greater t e f g = cc
level Less Less e f g = cc
level Less Equal e f g = cc
level Less Greater e f g = cc

module _ (year : ℕ) (b : Body) where
  clash1 : IsFirstFault year DuplicateCode b → CodesOnce b.titles b.weights → ⊥
  clash1 h p = h p

  clash2 : IsFirstFault year NotElementary b → Passes2 b → ⊥
  clash2 h p = no_true_false (sym p.1 ∙ h.1)

  clash3 : IsFirstFault year ZeroWeight b → Passes3 b → ⊥
  clash3 h p = no_true_false (sym h.1 ∙ p.1)

  clash4 : (n : ℕ) → IsFirstFault year (WeightSum n) b → Passes4 b → ⊥
  clash4 n h p = h.2 (h.1 ∙ p.1)

  clash5 : (c : Code) → IsFirstFault year (TitleMissing c) b → Passes5 b → ⊥
  clash5 c h p = no_true_false (sym h.1.0 ∙ p.1 c)

  clash6 : IsFirstFault year UnknownItem b → Passes6 b → ⊥
  clash6 h p = no_true_false (sym h.1 ∙ p.1)

  clash7 : IsFirstFault year ItemTwice b → Passes7 b → ⊥
  clash7 h p = h.1 p.1

  clash8 : IsFirstFault year UnknownAggregate b → Passes8 b → ⊥
  clash8 h p = no_true_false (sym h.1 ∙ p.1)

  pub one_fault : (f g : PlanFault) → f ≢ NoMemory → g ≢ NoMemory → IsFirstFault year f b → IsFirstFault year g b →
      f ≡ g
  one_fault NoMemory g p q h k = absurd (p refl)
  one_fault DuplicateCode NoMemory p q h k = absurd (q refl)
  one_fault DuplicateCode DuplicateCode p q h k = refl
  one_fault DuplicateCode NotElementary p q h k = absurd (clash1 h k.0)
  one_fault DuplicateCode ZeroWeight p q h k = absurd (clash1 h k.0.0)
  one_fault DuplicateCode (WeightSum n) p q h k = absurd (clash1 h k.0.0.0)
  one_fault DuplicateCode (TitleMissing n) p q h k = absurd (clash1 h k.0.0.0.0)
  one_fault DuplicateCode UnknownItem p q h k = absurd (clash1 h k.0.0.0.0.0)
  one_fault DuplicateCode ItemTwice p q h k = absurd (clash1 h k.0.0.0.0.0.0)
  one_fault DuplicateCode UnknownAggregate p q h k = absurd (clash1 h k.0.0.0.0.0.0.0)
  one_fault DuplicateCode Reference p q h k = absurd (clash1 h k.0.0.0.0.0.0.0.0)
  one_fault NotElementary NoMemory p q h k = absurd (q refl)
  one_fault NotElementary DuplicateCode p q h k = absurd (clash1 k h.0)
  one_fault NotElementary NotElementary p q h k = refl
  one_fault NotElementary ZeroWeight p q h k = absurd (clash2 h k.0)
  one_fault NotElementary (WeightSum n) p q h k = absurd (clash2 h k.0.0)
  one_fault NotElementary (TitleMissing n) p q h k = absurd (clash2 h k.0.0.0)
  one_fault NotElementary UnknownItem p q h k = absurd (clash2 h k.0.0.0.0)
  one_fault NotElementary ItemTwice p q h k = absurd (clash2 h k.0.0.0.0.0)
  one_fault NotElementary UnknownAggregate p q h k = absurd (clash2 h k.0.0.0.0.0.0)
  one_fault NotElementary Reference p q h k = absurd (clash2 h k.0.0.0.0.0.0.0)
  one_fault ZeroWeight NoMemory p q h k = absurd (q refl)
  one_fault ZeroWeight DuplicateCode p q h k = absurd (clash1 k h.0.0)
  one_fault ZeroWeight NotElementary p q h k = absurd (clash2 k h.0)
  one_fault ZeroWeight ZeroWeight p q h k = refl
  one_fault ZeroWeight (WeightSum n) p q h k = absurd (clash3 h k.0)
  one_fault ZeroWeight (TitleMissing n) p q h k = absurd (clash3 h k.0.0)
  one_fault ZeroWeight UnknownItem p q h k = absurd (clash3 h k.0.0.0)
  one_fault ZeroWeight ItemTwice p q h k = absurd (clash3 h k.0.0.0.0)
  one_fault ZeroWeight UnknownAggregate p q h k = absurd (clash3 h k.0.0.0.0.0)
  one_fault ZeroWeight Reference p q h k = absurd (clash3 h k.0.0.0.0.0.0)
  one_fault (WeightSum m) NoMemory p q h k = absurd (q refl)
  one_fault (WeightSum m) DuplicateCode p q h k = absurd (clash1 k h.0.0.0)
  one_fault (WeightSum m) NotElementary p q h k = absurd (clash2 k h.0.0)
  one_fault (WeightSum m) ZeroWeight p q h k = absurd (clash3 k h.0)
  one_fault (WeightSum m) (WeightSum n) p q h k = ap (λ x. WeightSum x) (h.1 ∙ sym k.1)
  one_fault (WeightSum m) (TitleMissing n) p q h k = absurd (clash4 m h k.0)
  one_fault (WeightSum m) UnknownItem p q h k = absurd (clash4 m h k.0.0)
  one_fault (WeightSum m) ItemTwice p q h k = absurd (clash4 m h k.0.0.0)
  one_fault (WeightSum m) UnknownAggregate p q h k = absurd (clash4 m h k.0.0.0.0)
  one_fault (WeightSum m) Reference p q h k = absurd (clash4 m h k.0.0.0.0.0)
  one_fault (TitleMissing m) NoMemory p q h k = absurd (q refl)
  one_fault (TitleMissing m) DuplicateCode p q h k = absurd (clash1 k h.0.0.0.0)
  one_fault (TitleMissing m) NotElementary p q h k = absurd (clash2 k h.0.0.0)
  one_fault (TitleMissing m) ZeroWeight p q h k = absurd (clash3 k h.0.0)
  one_fault (TitleMissing m) (WeightSum n) p q h k = absurd (clash4 n k h.0)
  one_fault (TitleMissing m) (TitleMissing n) p q h k =
      ap (λ x. TitleMissing x) (equal_is m n (level (code_cmp m n) (code_cmp n m) (total-law.antisymm m n)
      (h.1.1 n k.1.0) (k.1.1 m h.1.0)))
  one_fault (TitleMissing m) UnknownItem p q h k = absurd (clash5 m h k.0)
  one_fault (TitleMissing m) ItemTwice p q h k = absurd (clash5 m h k.0.0)
  one_fault (TitleMissing m) UnknownAggregate p q h k = absurd (clash5 m h k.0.0.0)
  one_fault (TitleMissing m) Reference p q h k = absurd (clash5 m h k.0.0.0.0)
  one_fault UnknownItem NoMemory p q h k = absurd (q refl)
  one_fault UnknownItem DuplicateCode p q h k = absurd (clash1 k h.0.0.0.0.0)
  one_fault UnknownItem NotElementary p q h k = absurd (clash2 k h.0.0.0.0)
  one_fault UnknownItem ZeroWeight p q h k = absurd (clash3 k h.0.0.0)
  one_fault UnknownItem (WeightSum n) p q h k = absurd (clash4 n k h.0.0)
  one_fault UnknownItem (TitleMissing n) p q h k = absurd (clash5 n k h.0)
  one_fault UnknownItem UnknownItem p q h k = refl
  one_fault UnknownItem ItemTwice p q h k = absurd (clash6 h k.0)
  one_fault UnknownItem UnknownAggregate p q h k = absurd (clash6 h k.0.0)
  one_fault UnknownItem Reference p q h k = absurd (clash6 h k.0.0.0)
  one_fault ItemTwice NoMemory p q h k = absurd (q refl)
  one_fault ItemTwice DuplicateCode p q h k = absurd (clash1 k h.0.0.0.0.0.0)
  one_fault ItemTwice NotElementary p q h k = absurd (clash2 k h.0.0.0.0.0)
  one_fault ItemTwice ZeroWeight p q h k = absurd (clash3 k h.0.0.0.0)
  one_fault ItemTwice (WeightSum n) p q h k = absurd (clash4 n k h.0.0.0)
  one_fault ItemTwice (TitleMissing n) p q h k = absurd (clash5 n k h.0.0)
  one_fault ItemTwice UnknownItem p q h k = absurd (clash6 k h.0)
  one_fault ItemTwice ItemTwice p q h k = refl
  one_fault ItemTwice UnknownAggregate p q h k = absurd (clash7 h k.0)
  one_fault ItemTwice Reference p q h k = absurd (clash7 h k.0.0)
  one_fault UnknownAggregate NoMemory p q h k = absurd (q refl)
  one_fault UnknownAggregate DuplicateCode p q h k = absurd (clash1 k h.0.0.0.0.0.0.0)
  one_fault UnknownAggregate NotElementary p q h k = absurd (clash2 k h.0.0.0.0.0.0)
  one_fault UnknownAggregate ZeroWeight p q h k = absurd (clash3 k h.0.0.0.0.0)
  one_fault UnknownAggregate (WeightSum n) p q h k = absurd (clash4 n k h.0.0.0.0)
  one_fault UnknownAggregate (TitleMissing n) p q h k = absurd (clash5 n k h.0.0.0)
  one_fault UnknownAggregate UnknownItem p q h k = absurd (clash6 k h.0.0)
  one_fault UnknownAggregate ItemTwice p q h k = absurd (clash7 k h.0)
  one_fault UnknownAggregate UnknownAggregate p q h k = refl
  one_fault UnknownAggregate Reference p q h k = absurd (clash8 h k.0)
  one_fault Reference NoMemory p q h k = absurd (q refl)
  one_fault Reference DuplicateCode p q h k = absurd (clash1 k h.0.0.0.0.0.0.0.0)
  one_fault Reference NotElementary p q h k = absurd (clash2 k h.0.0.0.0.0.0.0)
  one_fault Reference ZeroWeight p q h k = absurd (clash3 k h.0.0.0.0.0.0)
  one_fault Reference (WeightSum n) p q h k = absurd (clash4 n k h.0.0.0.0.0)
  one_fault Reference (TitleMissing n) p q h k = absurd (clash5 n k h.0.0.0.0)
  one_fault Reference UnknownItem p q h k = absurd (clash6 k h.0.0.0)
  one_fault Reference ItemTwice p q h k = absurd (clash7 k h.0.0)
  one_fault Reference UnknownAggregate p q h k = absurd (clash8 k h.0)
  one_fault Reference Reference p q h k = refl
