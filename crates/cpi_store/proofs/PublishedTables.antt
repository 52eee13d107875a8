-- The table that is asked for, with one more release after the others.
use Rattle.std.proofs.Common.{◌≡◌, ◌≢◌, ◌⊎◌, inl, inr, ◌≤◌, ◌<◌, arith, leb, eqb, ℕ, Bool, true, false, List, [], ◌∷◌}
use Rattle.std.proofs.Common.{◌++◌, map, filter, Some, None, Option, refl, sym, ap, ◌∙◌}
use Rattle.std.specs.declared.cmp.Ordering.{Ordering}
use Rattle.std.specs.declared.cmp.Ordering.TheVariants.{Less, Equal, Greater}
use Rattle.std.proofs.lemmas.Bool.{false≢true}
use Rattle.std.proofs.lemmas.Bool.Decides.{leb_tells, eqb_tells}
use Rattle.std.specs.Prelude.{nat_le, ◌==◌}
use Rattle.std.specs.Ordering.{nat_cmp, is_le}
use Rattle.std.proofs.lemmas.Cmp.{ranked}
use Rattle.std.proofs.lemmas.List.{append-nil, map-append}
use Rattle.std.proofs.lemmas.List.Elements.{filter-append}
use Rattle.cpi_release.specs.Latest.{latest_row}
use Rattle.cpi_release.specs.PublishedTables.{PublishedTable, published_table, published_until, is_asked}
use Rattle.cpi_release.specs.declared.release.Release.{Release}
use Rattle.cpi_release.proofs.LatestRows.{latest_own, latest_other}
use Rattle.cpi_store.specs.Tables.{table_until, is_wanted}

module _ (month : ℕ) (revision : Option ℕ) (until : ℕ) where
  abbrev asked : PublishedTable → Bool
  asked t = is_asked revision t.revision

  abbrev due : Release → Bool
  due r = nat_le r.publishes until

  abbrev in_month : PublishedTable → ℕ
  in_month t = t.month

  -- the tables that are asked for of some releases
  abbrev of : List Release → List PublishedTable
  of rs = filter asked (published_until until rs)

  of_behind : (rs : List Release) (r : Release) → of (rs ++ r ∷ []) ≡ of rs ++ of (r ∷ [])
  of_behind rs r =
      ap (λ xs. filter asked (map published_table xs)) (filter-append due rs (r ∷ []))
      ∙ ap (filter asked) (map-append published_table (filter due rs) (filter due (r ∷ [])))
      ∙ filter-append asked (published_until until rs) (published_until until (r ∷ []))

  one_more : (rs : List Release) (r : Release) (ts : List PublishedTable) → of (r ∷ []) ≡ ts →
      table_until month revision until (rs ++ r ∷ []) ≡ latest_row in_month month (of rs ++ ts)
  one_more rs r ts is = ap (latest_row in_month month) (of_behind rs r ∙ ap (λ xs. of rs ++ xs) is)

  none_more : (rs : List Release) (r : Release) → of (r ∷ []) ≡ [] →
      table_until month revision until (rs ++ r ∷ []) ≡ table_until month revision until rs
  none_more rs r is = one_more rs r [] is ∙ ap (latest_row in_month month) (append-nil (of rs))

  pub table_wanted : (rs : List Release) (r : Release) → is_wanted month revision until r ≡ true →
      table_until month revision until (rs ++ r ∷ []) ≡ Some (published_table r)
  table_wanted rs r e = cases (due r) (asked (published_table r)) refl refl (eqb_tells r.month month)
    where
      cases : (d a : Bool) → due r ≡ d → asked (published_table r) ≡ a →
          ((eqb r.month month ≡ true) × (r.month ≡ month))
          ⊎ ((eqb r.month month ≡ false) × (r.month ≢ month)) → table_until month revision until (rs ++ r ∷ []) ≡ Some
          (published_table r)
      cases true true f g (inl same) = one_more rs r (published_table r ∷ []) (rw (f, g) refl)
          ∙ latest_own in_month month (of rs) (published_table r) same.1
      cases true true f g (inr apart) = absurd (false≢true (rw (f, g, apart.0) at e))
      cases true false f g tells = absurd (false≢true (rw (f, g) at e))
      cases false a f g tells = absurd (false≢true (rw f at e))

  pub table_unwanted : (rs : List Release) (r : Release) → is_wanted month revision until r ≡ false →
      table_until month revision until (rs ++ r ∷ []) ≡ table_until month revision until rs
  table_unwanted rs r e = cases (due r) (asked (published_table r)) refl refl (eqb_tells r.month month)
    where
      cases : (d a : Bool) → due r ≡ d → asked (published_table r) ≡ a →
          ((eqb r.month month ≡ true) × (r.month ≡ month))
          ⊎ ((eqb r.month month ≡ false) × (r.month ≢ month)) →
          table_until month revision until (rs ++ r ∷ []) ≡ table_until month revision until rs
      cases true true f g (inl same) = absurd (false≢true (sym (rw (f, g, same.0) at e)))
      cases true true f g (inr apart) = one_more rs r (published_table r ∷ []) (rw (f, g) refl)
          ∙ latest_other in_month month (of rs) (published_table r) apart.1
      cases true false f g tells = none_more rs r (rw (f, g) refl)
      cases false a f g tells = none_more rs r (rw f refl)

-- a revision that is named is one of those that may be latest
pub wanted_named : (month revision until : ℕ) (r : Release) → (r.revision == revision) ≡ true →
    is_wanted month (Some revision) until r ≡ is_wanted month None until r
wanted_named month revision until r e = rw e refl

pub wanted_other : (month revision until : ℕ) (r : Release) → (r.revision == revision) ≡ false →
    is_wanted month (Some revision) until r ≡ false
wanted_other month revision until r e = cases (nat_le r.publishes until) refl
  where
    cases : (b : Bool) → nat_le r.publishes until ≡ b → is_wanted month (Some revision) until r ≡ false
    cases true f = rw (f, e) refl
    cases false f = rw f refl

pub le_is : (a b : ℕ) → nat_le a b ≡ is_le (nat_cmp a b)
le_is a b = cases (leb_tells a b) (nat_cmp a b) refl
  where
    cases : ((leb a b ≡ true) × (a ≤ b)) ⊎ ((leb a b ≡ false) × (b < a)) → (s : Ordering) → nat_cmp a b ≡ s →
        nat_le a b ≡ is_le (nat_cmp a b)
    cases (inl le) Greater e = absurd (omega (arith, le.1, ranked a b Greater (sym e)))
    cases (inl le) Less e = le.0 ∙ sym (ap is_le e)
    cases (inl le) Equal e = le.0 ∙ sym (ap is_le e)
    cases (inr gt) Greater e = gt.0 ∙ sym (ap is_le e)
    cases (inr gt) Less e = absurd (omega (arith, gt.1, ranked a b Less (sym e)))
    cases (inr gt) Equal e = absurd (omega (arith, gt.1, ranked a b Equal (sym e)))
