-- What a query on one table answers.
use Rattle.std.proofs.Common.{◌≡◌, inl, inr, ℕ, ℤ, not, Some, ◌&&◌, List, [], ◌∷◌}
use Rattle.std.proofs.Common.{◌++◌, map, Bool, true, false, cond, refl, sym, ap, subst, ◌∙◌}
use Rattle.std.proofs.lemmas.Bool.{not-true}
use Rattle.std.specs.List.{flat_map, list_all}
use Rattle.std.specs.List.Sorted.{IsPermutation}
use Rattle.std.proofs.lemmas.List.Sorted.{IsPermutation-sym}
use Rattle.sqlite.specs.declared.types.Value.TheVariants.{Null, Int, Real, Text, Blob}
use Rattle.sqlite.specs.declared.types.Value.{Value}
use Rattle.std.specs.Ordering.{is_eq}
use Rattle.sqlite.specs.Collation.TheVariants.{Binary}
use Rattle.sqlite_sql.specs.declared.ops.BinaryOp.TheVariants.{Compare}
use Rattle.sqlite_sql.specs.declared.ops.CompareOp.TheVariants.{Eq}
use Rattle.sqlite.specs.Ops.{binary, is_true, from_truth}
use Rattle.sqlite_value.proofs.OrderLemmas.{value_cmp-Null}
use Rattle.cpi_sql_rows.specs.Texts.{whole_query}
use Rattle.cpi_sql_rows.specs.Shelf.{equals}
use Rattle.sqlite.specs.Edit.{without_all}
use Rattle.sqlite_value.specs.declared.keys.Key.{Key}
use Rattle.sqlite.specs.Order.{Row}
use Rattle.sqlite.specs.Tree.{Trees, has_rowid, without_rowid}
use Rattle.sqlite.specs.Term.{Term, holds, eval_all}
use Rattle.sqlite.specs.Query.{inner, end, IsAnswer, Output, output, matches}
use Rattle.sqlite_rules.specs.Lists.{Has}
use Rattle.sqlite_rules.proofs.ProbeLemmas.{has_mapped, mapped_has}
use Rattle.sqlite_rules.proofs.ListLemmas.{all_from, all_has, has_filtered, has_kept}
use Rattle.sqlite_trees.proofs.ListLemmas.{all-permutation}

module _ {X Y : Type 0} (p : X → Bool) (f : X → Y) where
  abbrev kept : List X → List Y
  kept xs = flat_map (λ x. cond (p x) (f x ∷ []) []) xs

  hit : (x : X) (xs : List X) (y : Y) (b : Bool) → p x ≡ b → (Has (kept xs) y → (z : X) × Has xs z × (p z ≡ true)
      × (y ≡ f z)) → Has (cond b (f x ∷ []) [] ++ kept xs) y
      → (z : X) × Has (x ∷ xs) z × (p z ≡ true) × (y ≡ f z)
  hit x xs y true e later (inl same) = (x, inl refl, e, same)
  hit x xs y true e later (inr k) = let r = later k in (r.0, inr r.1, r.2, r.3)
  hit x xs y false e later k = let r = later k in (r.0, inr r.1, r.2, r.3)

  pub has_matched : (xs : List X) (y : Y) → Has (kept xs) y → (x : X) × Has xs x × (p x ≡ true) × (y ≡ f x)
  has_matched [] y h = absurd h
  has_matched (x ∷ xs) y h = hit x xs y (p x) refl (has_matched xs y) h

  kept_more : (z : X) (xs : List X) (y : Y) (b : Bool) → Has (kept xs) y → Has (cond b (f z ∷ []) [] ++ kept xs) y
  kept_more z xs y true k = inr k
  kept_more z xs y false k = k

  pub matched_has : (xs : List X) (x : X) → Has xs x → p x ≡ true → Has (kept xs) (f x)
  matched_has [] x h e = absurd h
  matched_has (z ∷ xs) x (inl same) e = let here : p z ≡ true = ap p (sym same) ∙ e in
      subst (λ b. Has (cond b (f z ∷ []) [] ++ kept xs) (f x)) (sym here) (inl (ap f same))
  matched_has (z ∷ xs) x (inr k) e = kept_more z xs (f x) (p z) (matched_has xs x k e)

pub has_permuted : {X : Type 0} (xs ys : List X) (x : X) → IsPermutation xs ys → Has ys x → Has xs x
has_permuted xs ys x same =
    all_has (Has xs) ys x (all-permutation (Has xs) xs ys same (all_from (Has xs) xs (λ e h. h)))

-- each row that passes is shown, and no other
pub record Members (terms project : List Term) (table : List Row) (params : Row) (rows : List Row) : Type 0 where
  pub sound : (x : Row) → Has rows x → (r : Row) × Has table r × (list_all (holds (params ∷ r ∷ [])) terms ≡ true)
      × (x ≡ eval_all project (params ∷ r ∷ []))
  pub complete : (r : Row) → Has table r → list_all (holds (params ∷ r ∷ [])) terms ≡ true
      → Has rows (eval_all project (params ∷ r ∷ []))

pub members : (tree : ℕ) (terms project : List Term) (order : List (Term
    × Key)) (db : Trees) (params : Row) (rows : List Row)
    → IsAnswer (whole_query tree terms project order) db params rows
    → Members terms project (db tree) params rows
members tree terms project order db params rows answer =
    let q = whole_query tree terms project order in
    let test = λ (r : Row). list_all (holds (params ∷ r ∷ [])) terms in
    let env = λ (r : Row). params ∷ r ∷ [] in
    let all = matches db terms (inner tree end) (params ∷ []) in
    let kept : answer.kept ≡ map (output q) all = answer.distinct ∙ ap (map (output q)) answer.grouped in
    record {
      sound = λ x h.
          let o = has_mapped (λ (k : Output). k.1) answer.ordered x (subst (λ l. Has l x) answer.shown h) in
          let e = has_mapped (output q) all o.0 (subst
          (λ l. Has l o.0) kept (has_permuted answer.kept answer.ordered o.0 answer.same o.1)) in
          let r = has_matched test env (db tree) e.0 e.1 in
          (r.0, r.1, r.2, o.2 ∙ ap (λ (k : Output). k.1) (e.2 ∙ ap (output q) r.3));
      complete = λ r h passes.
          let o = output q (env r) in
          let there = subst (λ l. Has l o) (sym kept)
          (mapped_has (output q) all (env r) (matched_has test env (db tree) r h passes)) in
          subst (λ l. Has l (eval_all project (env r))) (sym answer.shown) (mapped_has
          (λ (k : Output). k.1) answer.ordered o
          (has_permuted answer.ordered answer.kept o (IsPermutation-sym _ _ answer.same) there));
    }

-- ---- an equality with a number, as WHERE tests it

pub true_of : (b : Bool) → is_true (from_truth (Some b)) ≡ b
true_of true = refl
true_of false = refl

pub and_true : (b : Bool) → (b && true) ≡ b
and_true true = refl
and_true false = refl

pub equality : (v : Value) (n : ℤ)
    → list_all (λ t. is_true t) (binary (Compare Eq Binary) v (Int n) ∷ []) ≡ equals v (Int n)
unfolding binary
equality Null n = sym (ap is_eq (value_cmp-Null (Int n)))
equality (Int m) n = and_true _ ∙ true_of _
equality (Real x) n = and_true _ ∙ true_of _
equality (Text t) n = and_true _ ∙ true_of _
equality (Blob b) n = and_true _ ∙ true_of _

pub text_equality : (v : Value) (t : List ℕ)
    → list_all (λ w. is_true w) (binary (Compare Eq Binary) v (Text t) ∷ []) ≡ equals v (Text t)
unfolding binary
text_equality Null t = sym (ap is_eq (value_cmp-Null (Text t)))
text_equality (Int m) t = and_true _ ∙ true_of _
text_equality (Real x) t = and_true _ ∙ true_of _
text_equality (Text u) t = and_true _ ∙ true_of _
text_equality (Blob b) t = and_true _ ∙ true_of _

-- ---- what is left after some rowids are taken out

pub left_has : (ids : List ℤ) (rows : List Row) (x : Row) → Has (without_all rows ids) x → Has rows x
    × ((id : ℤ) → Has ids id → has_rowid id x ≡ false)
left_has [] rows x h = (h, λ id none. absurd none)
left_has (i ∷ ids) rows x h =
    let later = left_has ids (without_rowid i rows) x h in
    let here = has_filtered (λ r. not (has_rowid i r)) rows x later.0 in (
      here.0,
      λ id among. elim among [
        | inl same ↦ ap (λ k. has_rowid k x) same
            ∙ not-true _ here.1
        | inr k ↦ later.1 id k
      ],
    )

pub has_left : (ids : List ℤ) (rows : List Row) (x : Row) → Has rows x
    → ((id : ℤ) → Has ids id → has_rowid id x ≡ false) → Has (without_all rows ids) x
has_left [] rows x h none = h
has_left (i ∷ ids) rows x h none =
    has_left ids (without_rowid i rows) x (has_kept (λ r. not (has_rowid i r)) rows x h (ap not (none i (inl refl))))
    (λ id k. none id (inr k))
