-- The headers show the same as the releases.
use Rattle.std.proofs.Common.{◌≡◌, ◌≢◌, inl, inr, ℕ, ◌==◌, Bool, true, false, List, [], ◌∷◌, map, ◌++◌, Some, None}
use Rattle.std.proofs.Common.{Option, IsTrue, refl, sym, ap, subst, ◌∙◌}
use Rattle.std.specs.Prelude.{IfSome, IsSome, filter, nat_le, option_map, if◌then◌else◌}
use Rattle.std.specs.Option.{option_map_or, option_or}
use Rattle.std.specs.List.{AllByRecursion}
use Rattle.std.specs.List.Sorted.{IsStrictlySortedBy}
use Rattle.std.specs.declared.cmp.Ordering.{Ordering}
use Rattle.std.specs.declared.cmp.Ordering.TheVariants.{Less, Equal}
use Rattle.std.specs.Ordering.{nat_cmp, is_eq}
use Rattle.std.specs.Cmp.{tied_itself}
use Rattle.std.proofs.lemmas.Bool.{and_from, and_parts, eq-eqb, eqb-true, true≢false}
use Rattle.std.proofs.lemmas.List.{map-id}
use Rattle.std.proofs.lemmas.Map.Lookups.{exact_pairs, exact_unsigned}
use Rattle.std.proofs.lemmas.Simd.{map-map}
use Rattle.sqlite.specs.Order.{Row}
use Rattle.sqlite.specs.Tree.{Trees}
use Rattle.sqlite_rules.specs.Lists.{Has}
use Rattle.sqlite_rules.proofs.ListLemmas.{all_from, all_has, has_filtered, has_kept, some_from, some_has}
use Rattle.sqlite_rules.proofs.ProbeLemmas.{mapped_has}
use Rattle.cpi_rows.specs.Keyed.{IsInOrder, row_at}
use Rattle.cpi_rows.specs.Held.{held_by, held_cmp, held_key}
use Rattle.cpi_rows.proofs.Found.{row_key}
use Rattle.cpi_release.specs.FrozenMonths.{ReleaseKey, frozen_month, frozen_months, release_cmp, release_key}
use Rattle.cpi_release.specs.Latest.{latest_row}
use Rattle.cpi_release.specs.PublishedTables.{PublishedTable, asked_table, is_asked, published_table, published_until}
use Rattle.cpi_release.specs.PublishedTables.{frozen_month_of}
use Rattle.cpi_release.specs.Releases.{latest_release}
use Rattle.cpi_release.specs.declared.level.Level.{Level}
use Rattle.cpi_release.specs.declared.release.Release.{Release}
use Rattle.cpi_release.proofs.LatestRows.{latest_all}
use Rattle.cpi_store.proofs.Released.{release_total}
use Rattle.cpi_store.specs.Tables.{table_until}
use Rattle.cpi_sql_rows.specs.HeldTables.{HeldTable, OfReleases, row_with_holder, level_table, release_in}
use Rattle.cpi_sql_rows.specs.Lists.{header_in, header_key, headers_in, frozens_in, carrieds_in, levels_in}
use Rattle.cpi_sql_rows.specs.Lists.{rows_in_key_order, release_from, release_number, releases_in}
use Rattle.cpi_sql_rows.specs.Shelf.{AllStandOf}
use Rattle.cpi_sql_rows.specs.Texts.{is_release}
use Rattle.cpi_sql_rows.specs.declared.release_rows.Header.{Header}
use Rattle.cpi_sql_rows.proofs.Listed.{listed_in_order}
use Rattle.cpi_sql_rows.proofs.Lists.{some_is}
use Rattle.cpi_sql_rows.proofs.Members.{has_row, row_of}
use Rattle.cpi_sql_reads.specs.Headers.{holds_release, headers_until, is_header_there, latest_header, months_of}
use Rattle.cpi_sql_reads.specs.Headers.{months_until}
use Rattle.cpi_sql_reads.specs.Headers.{latest_revision}
use Rattle.cpi_sql_reads.specs.ReleaseLists.{AreListsOf, IsListOfRelease, IsLatest, IsListOf, ReleaseList, list_key}

-- the header of a release: all but its lists
abbrev pub header_of : Release → Header
header_of r = record {
  month = r.month;
  revision = r.revision;
  frozen_at = r.frozen_at;
  publishes = r.publishes;
  carry = r.carry;
}

-- the rows of a release's table; none if there is no such release
abbrev levels_at : List Release → ReleaseKey → List Level
levels_at releases key = option_map_or (λ r. r.levels) (row_at release_cmp release_key key releases) []

-- ---- the latest of a month

-- in lists that are made of one another
latest_mapped : {X Y : Type 0} (part : X → Y) (month_of : Y → ℕ) (month : ℕ) (xs : List X)
    → latest_row month_of month (map part xs) ≡ option_map part (latest_row (λ x. month_of (part x)) month xs)
latest_mapped part month_of month [] = refl
latest_mapped {X} {Y} part month_of month (x ∷ xs) =
    ap (λ o. option_or o (if month_of (part x) == month then Some (part x) else None))
    (latest_mapped part month_of month xs)
    ∙ at (latest_row (λ z. month_of (part z)) month xs) (month_of (part x) == month)
  where
    at : (o : Option X) (b : Bool) → option_or (option_map part o) (if b then Some (part x) else None)
        ≡ option_map part (option_or o (if b then Some x else None))
    at (Some y) b = refl
    at None true = refl
    at None false = refl

or_parts : {X : Type 0} (o p : Option X) → option_or o p ≡ None → (o ≡ None) × (p ≡ None)
or_parts None p e = (refl, e)
or_parts (Some x) p e = absurd (let no : Some x ≡ None = e in cc)

-- a month that one of them is of has a latest
latest_is : {X : Type 0} (month_of : X → ℕ) (month : ℕ) (xs : List X) (x : X) → Has xs x → month_of x ≡ month
    → latest_row month_of month xs ≢ None
latest_is month_of month [] x h same e = h
latest_is month_of month (y ∷ ys) x (inl is) same e =
    let none = (or_parts (latest_row month_of month ys) _ e).1 in
    let no : Some y ≡ None = rw (eq-eqb (month_of y) month (ap month_of (sym is) ∙ same)) at none in cc
latest_is month_of month (y ∷ ys) x (inr h) same e =
    latest_is month_of month ys x h same (or_parts (latest_row month_of month ys) _ e).0

-- the latest header is one of them, and of the month
latest_has : (month : ℕ) (headers : List Header) (h : Header) → latest_header month headers ≡ Some h
    → Has headers h × (h.month ≡ month)
latest_has month headers h e =
    latest_all (λ (g : Header). g.month) month (Has headers) headers h (all_from (Has headers) headers (λ _ has. has)) e

-- ---- keys

-- keys that compare as equal are one
pub key_is : (a b c d : ℕ) → release_cmp (a, b) (c, d) ≡ Equal → ◌≡◌ {A = ReleaseKey} (a, b) (c, d)
key_is a b c d tie = exact_pairs nat_cmp nat_cmp exact_unsigned exact_unsigned (a, b) (c, d) tie

-- a header that is among them is that of a release that there is
has_there : (month revision : ℕ) (headers : List Header) (h : Header) → Has headers h
    → ◌≡◌ {A = ReleaseKey} (header_key h) (month, revision) → holds_release month revision headers ≡ true
has_there month revision headers h has key = some_from _ headers h has
    (and_from _ _ (eq-eqb h.month month (ap (λ (k : ReleaseKey). k.0) key))
    (eq-eqb h.revision revision (ap (λ (k : ReleaseKey). k.1) key)))

-- so is the latest of a month
pub latest_there : (month : ℕ) (headers : List Header) (h : Header) → latest_header month headers ≡ Some h
    → holds_release month h.revision headers ≡ true
latest_there month headers h e =
    let it = latest_has month headers h e in has_there month h.revision headers h it.0 (λ n. (it.1 n, h.revision))

-- ---- those that pass a test

filter_mapped : {X Y : Type 0} (p : Y → Bool) (part : X → Y) (xs : List X)
    → filter p (map part xs) ≡ map part (filter (λ x. p (part x)) xs)
filter_mapped p part [] = refl
filter_mapped p part (x ∷ xs) =
    elim (p (part x)) as (λ b. (if b then part x ∷ filter p (map part xs) else filter p (map part xs))
    ≡ map part (if b then x ∷ filter (λ y. p (part y)) xs else filter (λ y. p (part y)) xs))
    [ true ↦ ap (λ ys. part x ∷ ys) (filter_mapped p part xs) | false ↦ filter_mapped p part xs ]

-- the headers whose tables are published, of the revision that is asked for
abbrev asked_headers : Option ℕ → ℕ → List Header → List Header
asked_headers revision until headers = filter (λ h. is_asked revision h.revision) (headers_until until headers)

all_kept : {X : Type 0} (xs : List X) → filter (λ x. true) xs ≡ xs
all_kept [] = refl
all_kept (x ∷ xs) = ap (λ ys. x ∷ ys) (all_kept xs)

module _ (trees : Trees) where
  abbrev headers : List Header
  headers = headers_in (trees 26)

  abbrev all_levels : List (ℕ × Level)
  all_levels = levels_in (trees 32)

  -- the release of a header, and its table
  abbrev one : Header → Release
  one h = release_from (frozens_in (trees 28)) (carrieds_in (trees 30)) all_levels h

  abbrev shown : Header → PublishedTable
  shown h = published_table (one h)

  pub months_are : frozen_months (releases_in trees) ≡ months_of headers
  unfolding releases_in
  months_are = map-map frozen_month one headers

  pub headers_told : headers ≡ map header_of (releases_in trees)
  unfolding releases_in
  headers_told = sym (map-map header_of one headers ∙ map-id headers)

  -- ---- the tables that are published

  tables_made : (until : ℕ) → published_until until (releases_in trees) ≡ map shown (headers_until until headers)
  unfolding releases_in
  tables_made until = ap (map published_table) (filter_mapped (λ (r : Release). nat_le r.publishes until) one headers)
      ∙ map-map published_table one (headers_until until headers)

  pub tables_are : (until : ℕ)
      → map frozen_month_of (published_until until (releases_in trees)) ≡ months_until until headers
  tables_are until = ap (map frozen_month_of) (tables_made until)
      ∙ map-map frozen_month_of shown (headers_until until headers)

  -- the table that is asked for
  table_made : (month : ℕ) (revision : Option ℕ) (until : ℕ) → table_until month revision until (releases_in trees)
      ≡ option_map shown (latest_header month (asked_headers revision until headers))
  table_made month revision until =
      ap (asked_table month revision) (tables_made until)
      ∙ ap (latest_row (λ (t : PublishedTable). t.month) month)
      (filter_mapped (λ (t : PublishedTable). is_asked revision t.revision) shown (headers_until until headers))
      ∙ latest_mapped shown (λ (t : PublishedTable). t.month) month (asked_headers revision until headers)

  pub revision_is : (month until : ℕ)
      → option_map (λ (t : PublishedTable). t.revision) (table_until month None until (releases_in trees))
      ≡ latest_revision month until headers
  revision_is month until =
      ap (option_map (λ (t : PublishedTable). t.revision)) (table_made month None until)
      ∙ cases (latest_header month (asked_headers None until headers))
      ∙ ap (λ hs. option_map (λ (h : Header). h.revision) (latest_header month hs))
      (all_kept (headers_until until headers))
    where
      cases : (o : Option Header) → option_map (λ (t : PublishedTable). t.revision) (option_map shown o)
          ≡ option_map (λ (h : Header). h.revision) o
      cases None = refl
      cases (Some h) = refl

  -- ---- the releases are in order

  all_later : (h : Header) (hs : List Header)
      → AllByRecursion (λ (s : Header). release_cmp (header_key h) (header_key s) ≡ Less) hs
      → AllByRecursion (λ (r : Release). release_cmp (header_key h) (release_key r) ≡ Less) (map one hs)
  all_later h [] all = tt
  all_later h (s ∷ hs) all = (all.0, all_later h hs all.1)

  made_in_order : (hs : List Header) → IsInOrder release_cmp header_key hs
      → IsInOrder release_cmp release_key (map one hs)
  unfolding IsStrictlySortedBy
  made_in_order [] sorted = tt
  made_in_order (h ∷ hs) sorted = (all_later h hs sorted.0, made_in_order hs sorted.1)

  pub releases_ordered : IsInOrder release_cmp release_key (releases_in trees)
  unfolding releases_in
  releases_ordered = made_in_order headers (listed_in_order release_total header_key header_in (trees 26))

  -- the release of a header is found by its key
  release_own : (h : Header) → Has headers h
      → row_at release_cmp release_key (header_key h) (releases_in trees) ≡ Some (one h)
  unfolding releases_in
  release_own h has =
      row_of release_total release_key (releases_in trees) (one h) releases_ordered (mapped_has one headers h has)

  levels_own : (h : Header) → Has headers h
      → levels_at (releases_in trees) (header_key h) ≡ held_by (release_number h.month h.revision) all_levels
  levels_own h has = ap (λ o. option_map_or (λ (r : Release). r.levels) o []) (release_own h has)

  pub table_is : (month revision until : ℕ)
      → option_map (λ (t : PublishedTable). t.levels) (table_until month (Some revision) until (releases_in trees))
      ≡ (if is_header_there month revision until headers
      then Some (levels_at (releases_in trees) (month, revision)) else None)
  table_is month revision until =
      ap (option_map (λ (t : PublishedTable). t.levels)) (table_made month (Some revision) until)
      ∙ cases (latest_header month (asked_headers (Some revision) until headers)) refl
      (is_header_there month revision until headers) refl
    where
      cases : (o : Option Header) → latest_header month (asked_headers (Some revision) until headers) ≡ o
          → (b : Bool) → is_header_there month revision until headers ≡ b
          → option_map (λ (t : PublishedTable). t.levels) (option_map shown o)
          ≡ (if b then Some (levels_at (releases_in trees) (month, revision)) else None)
      cases None e false is = refl
      cases None e true is =
          let it = some_has _ headers is in
          let both = and_parts (it.0.month == month) _ it.2 in
          let due = and_parts (it.0.revision == revision) _ both.1 in
          absurd (latest_is (λ (h : Header). h.month) month (asked_headers (Some revision) until headers) it.0
          (has_kept _ (headers_until until headers) it.0 (has_kept _ headers it.0 it.1 due.1) due.0)
          (eqb-true it.0.month month both.0) e)
      cases (Some h) e b is =
          let found = latest_has month (asked_headers (Some revision) until headers) h e in
          let asked = has_filtered _ (headers_until until headers) h found.0 in
          let due = has_filtered _ headers h asked.0 in
          let there : is_header_there month revision until headers ≡ true = some_from _ headers h due.0
          (and_from _ _ (eq-eqb h.month month found.1) (and_from _ _ asked.1 due.1)) in
          ap Some (sym (levels_own h due.0)
          ∙ (λ n. levels_at (releases_in trees) (found.1 n, eqb-true h.revision revision asked.1 n)))
          ∙ ap (λ b. if b then Some (levels_at (releases_in trees) (month, revision)) else None) (sym there ∙ is)

  -- ---- the latest release of a month

  -- what it lists
  list_made : {X : Type 0} (list : Release → List X) (month : ℕ) (o : Option Header)
      → latest_header month headers ≡ o
      → option_map_or list (latest_release (releases_in trees) month) [] ≡ option_map_or list (option_map one o) []
  unfolding releases_in
  list_made list month o e =
      ap (λ r. option_map_or list r []) (latest_mapped one (λ (r : Release). r.month) month headers
      ∙ ap (option_map one) e)

  -- ---- lists

  module _ {X : Type 0} (t : HeldTable X is_release) (list : Release → List X) where
    -- what was read of the rows of a release that there is
    pub list_read : {K : Type 0} {R : K → K → Ordering} {key : X → K} {stands : Row → Option X}
        → OfReleases R key stands t list → (month revision : ℕ) → holds_release month revision headers ≡ true
        → (rows : List X) → rows ≡ held_by (release_number month revision)
        (rows_in_key_order (held_cmp R) (held_key key) (row_with_holder release_in t.after) (trees t.tree))
        → AllStandOf (row_with_holder release_in t.after) (release_number month revision) (trees t.tree)
        → IsListOf t list trees (record { month = month; revision = revision; rows = rows })
    list_read {R = R} {key = key} law month revision e rows is stand =
        let it = some_has _ headers e in
        let both = and_parts (it.0.month == month) (it.0.revision == revision) it.2 in
        let same : ◌≡◌ {A = ReleaseKey} (header_key it.0) (month, revision) =
        (λ n. (eqb-true it.0.month month both.0 n, eqb-true it.0.revision revision both.1 n)) in record {
          release = one it.0;
          there = subst (λ k. row_at release_cmp release_key k (releases_in trees) ≡ Some (one it.0)) same
              (release_own it.0 it.1);
          rows = is ∙ sym (law.lists trees it.0
              ∙ ap (λ (k : ReleaseKey). held_by (release_number k.0 k.1)
              (rows_in_key_order (held_cmp R) (held_key key) (row_with_holder release_in t.after)
              (trees t.tree))) same);
          stand = stand;
        }

    -- the list of the month's latest release
    latest_list : (month : ℕ) (h : Header) → latest_header month headers ≡ Some h → (l : ReleaseList X)
        → ◌≡◌ {A = ReleaseKey} (list_key l) (month, h.revision) → IsListOf t list trees l
        → IsLatest t list trees month (Some l)
    latest_list month h e l key is =
        let it = latest_has month headers h e in
        let named : ◌≡◌ {A = ReleaseKey} (list_key l) (header_key h) = key ∙ (λ n. (sym it.1 n, h.revision)) in
        let same : is.release ≡ one h = some_is (sym is.there
        ∙ ap (λ k. row_at release_cmp release_key k (releases_in trees)) named ∙ release_own h it.0) in record {
          rows = is.rows ∙ ap list same ∙ sym (list_made list month (Some h) e);
          list = is;
          stand = λ g latest.
              let this : h ≡ g = cc in
              subst (λ (x : Header). AllStandOf (row_with_holder release_in t.after) (release_number month x.revision)
              (trees t.tree)) this (subst (λ (k : ReleaseKey). AllStandOf (row_with_holder release_in t.after)
              (release_number k.0 k.1) (trees t.tree)) key is.stand);
        }

    -- it is what was asked for by that header
    pub latest_found : (month : ℕ) (h : Header) → latest_header month headers ≡ Some h
        → (found : Option (ReleaseList X)) → IsListOfRelease (month, h.revision) headers found
        → IfSome found (IsListOf t list trees) → IsLatest t list trees month found
    latest_found month h e (Some l) key is = latest_list month h e l key is
    latest_found month h e None gone is = absurd (true≢false (sym (latest_there month headers h e) ∙ gone))

    -- a month that has no release
    pub latest_none : (month : ℕ) → latest_header month headers ≡ None → IsLatest t list trees month None
    latest_none month e = record {
      rows = sym (list_made list month None e);
      list = tt;
      stand = λ h is. absurd (cc);
    }

-- ---- cached tables

-- a list that is found in the cache is that of its release
pub cached_is : {X : Type 0} (t : HeldTable X is_release) (list : Release → List X) (trees : Trees)
    (lists : List (ReleaseList X)) (month revision : ℕ) (l : ReleaseList X) → AreListsOf t list trees lists
    → row_at release_cmp list_key (month, revision) lists ≡ Some l
    → IsListOf t list trees l × ◌≡◌ {A = ReleaseKey} (list_key l) (month, revision)
cached_is t list trees lists month revision l all found = (
  all_has (IsListOf t list trees) lists l all (has_row release_cmp list_key (month, revision) lists l found),
  key_is l.month l.revision month revision (row_key release_cmp list_key (month, revision) l lists found),
)

-- the cached table is lent if it is published
pub table_shown : (trees : Trees) (month revision until : ℕ) (tables : List (ReleaseList Level)) (is : Bool)
    → is ≡ is_header_there month revision until (headers_in (trees 26))
    → AreListsOf level_table (λ (r : Release). r.levels) trees tables
    → (IsTrue is → IsSome (row_at release_cmp list_key (month, revision) tables))
    → (if is then option_map (λ (l : ReleaseList Level). l.rows)
    (row_at release_cmp list_key (month, revision) tables) else None)
    ≡ option_map (λ (t : PublishedTable). t.levels) (table_until month (Some revision) until (releases_in trees))
table_shown trees month revision until tables is told stand there =
    cases is (row_at release_cmp list_key (month, revision) tables) refl there
    ∙ sym (table_is trees month revision until
    ∙ ap (λ b. if b then Some (levels_at (releases_in trees) (month, revision)) else None) (sym told))
  where
    cases : (b : Bool) (o : Option (ReleaseList Level)) → row_at release_cmp list_key (month, revision) tables ≡ o
        → (IsTrue b → IsSome o) → (if b then option_map (λ (l : ReleaseList Level). l.rows) o else None)
        ≡ (if b then Some (levels_at (releases_in trees) (month, revision)) else None)
    cases false o e some = refl
    cases true None e some = absurd (let no = some refl in cc)
    cases true (Some l) e some =
        let it = cached_is level_table (λ (r : Release). r.levels) trees tables month revision l stand e in
        ap Some (it.0.rows ∙ ap (λ o. option_map_or (λ (r : Release). r.levels) o []) (sym it.0.there)
        ∙ ap (levels_at (releases_in trees)) it.1)

-- a table that is published is that of a release
pub there_has : (month revision until : ℕ) (headers : List Header) → is_header_there month revision until headers ≡ true
    → holds_release month revision headers ≡ true
there_has month revision until headers is =
    let it = some_has _ headers is in
    let both = and_parts (it.0.month == month) _ it.2 in
    some_from _ headers it.0 it.1 (and_from _ _ both.0 (and_parts (it.0.revision == revision) _ both.1).0)

-- a list that is added at the end is found
pub behind_found : {X : Type 0} (l : ReleaseList X) (lists : List (ReleaseList X))
    → IsSome (row_at release_cmp list_key (list_key l) (lists ++ l ∷ []))
behind_found l [] = rw (tied_itself release_total (list_key l)) refl
behind_found l (k ∷ lists) =
    elim (is_eq (release_cmp (list_key k) (list_key l)))
    as (λ b. IsSome (if b then Some k else row_at release_cmp list_key (list_key l) (lists ++ l ∷ [])))
    [ true ↦ refl | false ↦ behind_found l lists ]
