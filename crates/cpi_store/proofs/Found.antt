-- A holder found at a place, and the lists of all after the holder changed.
use Rattle.std.proofs.Common.{◌≡◌, ℕ, zero, suc, ◌<◌, List, [], ◌∷◌, ◌++◌, map, length, get_or, set, Some, None, refl}
use Rattle.std.proofs.Common.{sym, ap, ◌∙◌}
use Rattle.std.specs.Prelude.{IsSome}
use Rattle.std.specs.declared.cmp.Ordering.TheVariants.{Less, Equal, Greater}
use Rattle.std.specs.declared.cmp.Ordering.{Ordering}
use Rattle.std.specs.Ordering.{nat_cmp, is_eq}
use Rattle.std.specs.List.{flat_map}
use Rattle.std.proofs.lemmas.Cmp.{nat_cmp_total, ranked}
use Rattle.cpi_rows.specs.Keyed.{with_row, row_at, IsInOrder}
use Rattle.cpi_rows.specs.Held.{held_by, held_cmp, held_key}
use Rattle.cpi_rows.specs.Gathered.{rows_in}
use Rattle.cpi_rows.proofs.Places.{row_found, put_at_row, put_in_order}
use Rattle.cpi_rows.proofs.Puts.{map_put}
use Rattle.cpi_survey.specs.declared.assignment.Assigned.{Assigned}
use Rattle.cpi_rows.proofs.Gathered.{held_gathered, put_gathered}
use Rattle.cpi_survey.specs.Quote.{QuoteRow, quote_cmp, quote_key}
use Rattle.cpi_store.specs.Outlet.{with_name}
use Rattle.cpi_survey.specs.Own.{OwnPart}
use Rattle.cpi_store.specs.declared.outlet.Outlet.{Outlet}
use Rattle.cpi_survey.specs.declared.assignment.Assignment.{Assignment}
use Rattle.cpi_store.specs.declared.holder.Holder.{Holder}
use Rattle.cpi_store.specs.declared.taken_over.TakenOver.{TakenOver}
use Rattle.cpi_store.specs.Holders.{collectors_of, collector_of_holder, all_assignments, all_given, quotes_of_holders}
use Rattle.cpi_store.specs.Holders.{assignments_of, quotes_of, named_by}
use Rattle.cpi_store.proofs.OwnGiven.{assignments_held}

map_set_same : {X Y : Type 0} (f : X → Y) (xs : List X) (i : ℕ) (y d : X) → f y ≡ f (get_or xs i d) →
    map f (set xs i y) ≡ map f xs
map_set_same f [] i y d same = refl
map_set_same f (x ∷ xs) zero y d same = ap (λ v. v ∷ map f xs) same
map_set_same f (x ∷ xs) (suc i) y d same = ap (λ vs. f x ∷ vs) (map_set_same f xs i y d same)

flat_map_set_same : {X Y : Type 0} (f : X → List Y) (xs : List X) (i : ℕ) (y d : X) → f y ≡ f (get_or xs i d) →
    flat_map f (set xs i y) ≡ flat_map f xs
flat_map_set_same f [] i y d same = refl
flat_map_set_same f (x ∷ xs) zero y d same = ap (λ vs. vs ++ flat_map f xs) same
flat_map_set_same f (x ∷ xs) (suc i) y d same = ap (λ vs. f x ++ vs) (flat_map_set_same f xs i y d same)

module _ (hs : List Holder) (sorted : IsInOrder nat_cmp (λ h. h.number) hs) (c : ℕ) (at : ℕ)
    (in_range : at < length hs) (level : (d : Holder) → nat_cmp (get_or hs at d).number c ≡ Equal) (h : Holder)
    (found : h ≡ get_or hs at h) where
  pub number_is : (get_or hs at h).number ≡ c
  number_is = ranked _ _ _ (sym (level h))

  pub own_quotes : held_by c (quotes_of_holders hs) ≡ h.own.quotes
  own_quotes =
      held_gathered quote_cmp quote_key (λ g. g.number) quotes_of c hs sorted
      ∙ ap (rows_in quotes_of) (row_found nat_cmp_total (λ g. g.number) hs sorted c at h in_range (level h))
      ∙ ap quotes_of (sym found)

  module _ (after : Holder) (same : after.number ≡ h.number) where
    same_at : after.number ≡ (get_or hs at h).number
    same_at = same ∙ ap (λ (g : Holder). g.number) found

    pub quotes_after : (q : QuoteRow) → after.own.quotes ≡ with_row quote_cmp quote_key q h.own.quotes →
        quotes_of_holders (set hs at after) ≡ with_row (held_cmp quote_cmp) (held_key quote_key) (c, q)
        (quotes_of_holders hs)
    quotes_after q e =
        put_gathered quote_cmp quote_key (λ g. g.number) quotes_of q after hs at h sorted in_range same_at
        (e ∙ ap (λ (g : Holder). with_row quote_cmp quote_key q g.own.quotes) found)
        ∙ ap (λ n. with_row (held_cmp quote_cmp) (held_key quote_key) (n, q) (quotes_of_holders hs)) number_is

    pub assignments_after : after.own.assignments ≡ h.own.assignments →
        all_assignments (set hs at after) ≡ all_assignments hs
    assignments_after e = flat_map_set_same (λ g. map (λ x. (g.number, x)) (assignments_of g)) hs at after h
        (ap (λ n. map (λ x. (n, x)) (assignments_of after)) same_at
        ∙ ap (λ ws. map (λ x. ((get_or hs at h).number, x)) (map (λ a. a.assignment) ws))
        (e ∙ ap (λ (g : Holder). g.own.assignments) found))

    pub quotes_same : after.own.quotes ≡ h.own.quotes → quotes_of_holders (set hs at after) ≡ quotes_of_holders hs
    quotes_same e = flat_map_set_same (λ g. map (λ x. (g.number, x)) (quotes_of g)) hs at after h
        (ap (λ n. map (λ x. (n, x)) (quotes_of after)) same_at ∙ ap (λ ws. map (λ x. ((get_or hs at h).number, x)) ws)
        (e ∙ ap (λ (g : Holder). g.own.quotes) found))

    pub assignments_put : (a : Assigned) → after.own.assignments ≡ with_row nat_cmp
        (λ x. x.assignment.slot) a h.own.assignments → all_assignments (set hs at after) ≡ with_row (held_cmp nat_cmp)
        (held_key (λ x. x.slot)) (c, a.assignment) (all_assignments hs)
    assignments_put a e =
        put_gathered nat_cmp (λ (x : Assignment). x.slot) (λ g. g.number) assignments_of a.assignment after hs at h
        sorted in_range same_at
        (ap (map (λ (x : Assigned). x.assignment)) e ∙ map_put nat_cmp (λ (x : Assignment). x.slot)
        (λ (x : Assigned). x.assignment) a h.own.assignments
        ∙ ap (λ (g : Holder). with_row nat_cmp (λ (x : Assignment). x.slot) a.assignment (assignments_of g)) found)
        ∙ ap (λ n. with_row (held_cmp nat_cmp) (held_key (λ (x : Assignment). x.slot)) (n, a.assignment)
        (all_assignments hs)) number_is

    pub order_after : IsInOrder nat_cmp (λ g. g.number) (set hs at after)
    order_after =
        rw (put_at_row nat_cmp_total (λ (g : Holder). g.number) hs sorted after at
        (in_range, λ d. rw (same_at ∙ number_is) (level d)))
        (put_in_order nat_cmp_total (λ (g : Holder). g.number) hs after sorted)

    pub collectors_after : after.key ≡ h.key → collectors_of (set hs at after) ≡ collectors_of hs
    collectors_after e = map_set_same collector_of_holder hs at after h
        (ap (λ n. record { number = n; key = after.key }) same_at
        ∙ ap (λ k. record { number = (get_or hs at h).number; key = k }) (e ∙ ap (λ (g : Holder). g.key) found))

    pub own_assignments_after : after.own.assignments ≡ h.own.assignments →
        map (λ (g : Holder). g.own.assignments) (set hs at after) ≡ map (λ (g : Holder). g.own.assignments) hs
    own_assignments_after e = map_set_same (λ (g : Holder). g.own.assignments) hs at after h
        (e ∙ ap (λ (g : Holder). g.own.assignments) found)

-- a collector who is listed is a holder
pub known_holder : (c : ℕ) (hs : List Holder) → IsSome (row_at nat_cmp (λ k. k.number) c (collectors_of hs)) →
    IsSome (row_at nat_cmp (λ (h : Holder). h.number) c hs)
known_holder c [] some = some
known_holder c (h ∷ hs) some = cases (nat_cmp h.number c) refl some (known_holder c hs)
  where
    cases : (s : Ordering) → nat_cmp h.number c ≡ s →
        IsSome (row_at nat_cmp (λ k. k.number) c (collectors_of (h ∷ hs))) →
        (IsSome (row_at nat_cmp (λ k. k.number) c (collectors_of hs)) →
        IsSome (row_at nat_cmp (λ (g : Holder). g.number) c hs)) →
        IsSome (row_at nat_cmp (λ (g : Holder). g.number) c (h ∷ hs))
    cases Less p some rest = rw (ap is_eq p) (rest (rw (ap is_eq p) at some))
    cases Equal p some rest = rw (ap is_eq p) refl
    cases Greater p some rest = rw (ap is_eq p) (rest (rw (ap is_eq p) at some))

found_more : (outlets : List Outlet) (c : ℕ) (h g : Holder) (hs : List Holder) → (s : Ordering) →
    nat_cmp g.number c ≡ s → named_by outlets (map (λ (x : Holder). x.own.assignments) (g ∷ hs)) ≡ map
    (λ (x : Holder). x.own.assignments) (g ∷ hs) → row_at nat_cmp (λ (x : Holder). x.number) c (g ∷ hs) ≡ Some h →
    (named_by outlets (map (λ (x : Holder). x.own.assignments) hs) ≡ map (λ (x : Holder). x.own.assignments) hs →
    row_at nat_cmp (λ (x : Holder). x.number) c hs ≡ Some h →
    map (with_name outlets) (assignments_of h) ≡ h.own.assignments) →
    map (with_name outlets) (assignments_of h) ≡ h.own.assignments
found_more outlets c h g hs Less p names found rest = rest (cc) (rw (ap is_eq p) at found)
found_more outlets c h g hs Equal p names found rest = let same : Some g ≡ Some h = rw (ap is_eq p) at found in
    let here : g ≡ h = cc in let first : map (with_name outlets) (assignments_of g) ≡ g.own.assignments = cc in
    rw (← here) first
found_more outlets c h g hs Greater p names found rest = rest (cc) (rw (ap is_eq p) at found)

found_names : (outlets : List Outlet) (c : ℕ) (h : Holder) (hs : List Holder) →
    named_by outlets (map (λ (x : Holder). x.own.assignments) hs) ≡ map (λ (x : Holder). x.own.assignments) hs →
    row_at nat_cmp (λ (x : Holder). x.number) c hs ≡ Some h →
    map (with_name outlets) (assignments_of h) ≡ h.own.assignments
found_names outlets c h [] names found = let e : None ≡ Some h = found in cc
found_names outlets c h (g ∷ hs) names found = found_more outlets c h g hs (nat_cmp g.number c) refl names found
    (λ n f. found_names outlets c h hs n f)

abbrev part : List Assigned → List QuoteRow → OwnPart
part assignments quotes = record { assignments = assignments; quotes = quotes }

-- what a found holder has is what its rows among all say
pub own_found : (outlets : List Outlet) (taken : List TakenOver) (c : ℕ) (h : Holder) (hs : List Holder) →
    IsInOrder nat_cmp (λ x. x.number) hs → named_by outlets (map (λ (x : Holder). x.own.assignments) hs) ≡ map
    (λ (x : Holder). x.own.assignments) hs → row_at nat_cmp (λ (x : Holder). x.number) c hs ≡ Some h →
    h.own ≡ record {
      assignments = map (with_name outlets) (map (λ g. g.assignment) (held_by c (all_given taken hs)));
      quotes = held_by c (quotes_of_holders hs);
    }
own_found outlets taken c h hs sorted names found =
    let quotes : held_by c (quotes_of_holders hs) ≡ h.own.quotes =
    held_gathered quote_cmp quote_key (λ g. g.number) quotes_of c hs sorted ∙ ap (rows_in quotes_of) found in
    let rows : held_by c (all_assignments hs) ≡ assignments_of h = held_gathered nat_cmp (λ (a : Assignment). a.slot)
    (λ g. g.number) assignments_of c hs sorted ∙ ap (rows_in assignments_of) found in
    let named : map (with_name outlets) (map (λ g. g.assignment) (held_by c (all_given taken hs))) ≡ h.own.assignments
    = ap (map (with_name outlets)) (assignments_held taken c (all_assignments hs) ∙ rows)
    ∙ found_names outlets c h hs names found in
    ap (λ mine. part mine h.own.quotes) (sym named)
    ∙ ap (part (map (with_name outlets) (map (λ g. g.assignment) (held_by c (all_given taken hs))))) (sym quotes)

abbrev nothing : OwnPart
nothing = record { assignments = []; quotes = [] }

-- a number that no holder has, has nothing
pub own_missing : (outlets : List Outlet) (taken : List TakenOver) (c : ℕ) (hs : List Holder) →
    IsInOrder nat_cmp (λ x. x.number) hs → row_at nat_cmp (λ (x : Holder). x.number) c hs ≡ None →
    nothing ≡ record {
      assignments = map (with_name outlets)
          (map (λ g. g.assignment) (held_by c (all_given taken hs)));
      quotes = held_by c (quotes_of_holders hs);
    }
own_missing outlets taken c hs sorted none =
    let quotes : held_by c (quotes_of_holders hs) ≡ [] =
    held_gathered quote_cmp quote_key (λ g. g.number) quotes_of c hs sorted ∙ ap (rows_in quotes_of) none in
    let rows : held_by c (all_assignments hs) ≡ [] = held_gathered nat_cmp (λ (a : Assignment). a.slot)
    (λ g. g.number) assignments_of c hs sorted ∙ ap (rows_in assignments_of) none in
    let named : map (with_name outlets) (map (λ g. g.assignment) (held_by c (all_given taken hs))) ≡ [] =
    ap (map (with_name outlets)) (assignments_held taken c (all_assignments hs) ∙ rows) in
    ap (λ mine. part mine []) (sym named) ∙ ap (part
    (map (with_name outlets) (map (λ g. g.assignment) (held_by c (all_given taken hs))))) (sym quotes)
