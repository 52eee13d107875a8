-- The codes of a header, and the rows of a month.
use Rattle.std.proofs.Common.{◌≡◌, inl, inr, ℕ, pos, ◌+◌, ◌/◌, ◌%◌, ◌==◌, ◌&&◌, List, [], ◌∷◌, map}
use Rattle.std.proofs.Common.{Bool, true, false, None, Some, Option, refl, sym, ap, subst, ◌∙◌, arith, take}
use Rattle.std.proofs.Common.{length, ◌≤◌}
use Rattle.std.specs.Prelude.{nat_le, if◌then◌else◌}
use Rattle.std.specs.List.{All, AllByRecursion, list_all, slice_split}
use Rattle.std.proofs.lemmas.Bool.{and_from, and_parts, leb-true}
use Rattle.std.proofs.lemmas.Bool.Decides.{eqb_tells}
use Rattle.std.proofs.lemmas.List.{take_all}
use Rattle.std.proofs.lemmas.List.Elements.{All-from_recursion}
use Rattle.std.proofs.lemmas.List.Splits.{slice_split_none, slice_split_at}
use Rattle.sqlite.specs.declared.types.Value.{Value}
use Rattle.sqlite.specs.declared.types.Value.TheVariants.{Int}
use Rattle.sqlite.specs.Collation.TheVariants.{Binary}
use Rattle.sqlite_sql.specs.declared.ops.BinaryOp.TheVariants.{Compare}
use Rattle.sqlite_sql.specs.declared.ops.CompareOp.TheVariants.{Eq}
use Rattle.sqlite.specs.Ops.{binary, is_true}
use Rattle.sqlite.specs.Order.{Row, column}
use Rattle.sqlite_trees.proofs.ListLemmas.{all-append}
use Rattle.cpi_codes.specs.CodeOf.{spelled_code}
use Rattle.cpi_codes.specs.CodeParts.{two_digits, dot_and_digit, dash_and_number}
use Rattle.cpi_codes.specs.CodeText.{code_text}
use Rattle.cpi_codes.specs.declared.codes.Code.{Code}
use Rattle.cpi_codes.proofs.CodeOf.{there}
use Rattle.cpi_sql_rows.specs.Lists.{and_then, number_in_value, if_within, number_within, month_at, month_from, each_of}
use Rattle.cpi_sql_rows.specs.Lists.{spelled_codes}
use Rattle.cpi_sql_rows.specs.Lists.{revision_from, release_from_key, release_number}
use Rattle.cpi_sql_rows.specs.ReleaseRows.{carry_text}
use Rattle.cpi_sql_rows.specs.Shelf.{equals}
use Rattle.cpi_sql_rows.proofs.Lists.{bound_is, ranged_is, same_number, equal_number, some_is}
use Rattle.cpi_sql_rows.proofs.Reading.{and_true, equality}
use Rattle.cpi_sql_rows.proofs.QuoteOffice.{HasMonth, month_of, same_month}

-- ---- each stands for something

each_is : {X Y Z : Type 0} (f : Z → Option Y) (g : X → Z) (xs : List X) (ys : List Y)
    → map (λ x. f (g x)) xs ≡ map Some ys
    → each_of f (map g xs) ≡ Some ys
each_is f g [] [] e = refl
each_is f g [] (y ∷ ys) e = cc
each_is f g (x ∷ xs) [] e = cc
each_is f g (x ∷ xs) (y ∷ ys) e =
    let here : f (g x) ≡ Some y = cc in
    let later : map (λ z. f (g z)) xs ≡ map Some ys = cc in
    rw (here, each_is f g xs ys later) refl

-- after the last
pub each_all : {X Y Z : Type 0} (f : Z → Option Y) (g : X → Z) (xs : List X) (i : ℕ) (ys : List Y) → length xs ≤ i
    → map (λ x. f (g x)) (take i xs) ≡ map Some ys → each_of f (map g xs) ≡ Some ys
each_all f g xs i ys last e = each_is f g xs ys (ap (map (λ x. f (g x))) (sym (take_all i xs last)) ∙ e)

-- ---- codes with a space between each two

abbrev is_space : ℕ → Bool
is_space x = x == 32

above_space : (n : ℕ) → is_space (48 + n) ≡ false
above_space n = elim (eqb_tells (48 + n) 32) [
  | inl same ↦ absurd (omega (arith, same.1))
  | inr apart ↦ apart.0
]

abbrev HasNoSpace : List ℕ → Type 0
HasNoSpace bytes = AllByRecursion (λ x. is_space x ≡ false) bytes

two_no_space : (n : ℕ) → HasNoSpace (two_digits n)
two_no_space n = (above_space (n / 10), (above_space (n % 10), tt))

dotted_no_space : (o : Option ℕ) → HasNoSpace (dot_and_digit o)
dotted_no_space None = tt
dotted_no_space (Some d) = (refl, (above_space d, tt))

dashed_no_space : (o : Option ℕ) → HasNoSpace (dash_and_number o)
dashed_no_space None = tt
dashed_no_space (Some n) = (refl, two_no_space n)

text_no_space : (c : Code) → All (λ x. is_space x ≡ false) (code_text c)
text_no_space c =
    let P = λ (x : ℕ). is_space x ≡ false in
    let four = all-append P (dot_and_digit c.subclass) (dash_and_number c.aggregate) (dotted_no_space c.subclass)
    (dashed_no_space c.aggregate) in
    let three = all-append P (dot_and_digit c.class) _ (dotted_no_space c.class) four in
    let two = all-append P (dot_and_digit c.group) _ (dotted_no_space c.group) three in
    All-from_recursion P (code_text c) (all-append P (two_digits c.division) _ (two_no_space c.division) two)

parts_are : (c : Code) (cs : List Code) → slice_split is_space (carry_text (c ∷ cs)) ≡ map code_text (c ∷ cs)
parts_are c [] = slice_split_none is_space (code_text c) (text_no_space c)
parts_are c (d ∷ cs) =
    slice_split_at is_space (code_text c) 32 (carry_text (d ∷ cs)) (text_no_space c) refl
    ∙ ap (λ parts. code_text c ∷ parts) (parts_are d cs)

each_read : (cs : List Code) → each_of spelled_code (map code_text cs) ≡ Some cs
each_read [] = refl
each_read (c ∷ cs) = rw (there (code_text c) c refl, each_read cs) refl

-- what a header is written with is what is read from it
pub carry_read : (carry : List Code) → spelled_codes (carry_text carry) ≡ Some carry
carry_read [] = refl
carry_read (c ∷ []) = ap (each_of spelled_code) (parts_are c []) ∙ each_read (c ∷ [])
carry_read (c ∷ d ∷ cs) = ap (each_of spelled_code) (parts_are c (d ∷ cs)) ∙ each_read (c ∷ d ∷ cs)

-- ---- rows that begin with a release

-- a number is within its limits
pub within_limits : (low high : ℕ) (v : Value) (n : ℕ) → number_within low high v ≡ Some n → (low ≤ n) × (n ≤ high)
within_limits low high v n e =
    let it = bound_is (number_in_value v) (if_within low high) n e in
    at it.0 (nat_le low it.0 && nat_le it.0 high) refl it.2
  where
    at : (k : ℕ) (b : Bool) → (nat_le low k && nat_le k high) ≡ b → (if b then Some k else None) ≡ Some n → (low ≤ n)
        × (n ≤ high)
    at k true f g =
        let both = and_parts (nat_le low k) (nat_le k high) f in
        let same : k ≡ n = some_is g in
        subst (λ z. (low ≤ z) × (z ≤ high)) same (leb-true low k both.0, leb-true k high both.1)
    at k false f g = cc

-- the columns that name a release
pub record HasRelease (r : Row) (number : ℕ) : Type 0 where
  pub month : ℕ
  pub revision : ℕ
  pub is : release_number month revision ≡ number
  pub named : HasMonth (column r 1) month
  pub column : column r 2 ≡ Int (pos revision)
  pub low : 1 ≤ revision
  pub high : revision ≤ 9

pub release_of : (r : Row) (number : ℕ) → release_from_key (column r 1) (column r 2) ≡ Some number
    → HasRelease r number
release_of r number e =
    let one = bound_is (month_from (column r 1)) _ _ e in
    let two = bound_is (revision_from (column r 2)) _ _ one.2 in
    let limits = within_limits 1 9 (column r 2) two.0 two.1 in
    record {
      month = one.0;
      revision = two.0;
      is = some_is two.2;
      named = month_of (column r 1) one.0 one.1;
      column = ranged_is 1 9 (column r 2) two.0 two.1;
      low = limits.0;
      high = limits.1;
    }

-- a number is that of one release
pub one_release : (m v k w : ℕ) → 1 ≤ v → v ≤ 9 → 1 ≤ w → w ≤ 9 → release_number m v ≡ release_number k w
    → (m ≡ k) × (v ≡ w)
one_release m v k w a b c d e = (omega (arith, a, b, c, d, e), omega (arith, a, b, c, d, e))

-- the rows of the month with the number `n`, in the revision `v`
abbrev pub of_release : ℕ → ℕ → Row → Bool
of_release n v r = equals (column r 1) (Int (pos n)) && equals (column r 2) (Int (pos v))

-- as WHERE tests it
pub release_tested : (r : Row) (n v : ℕ)
    → list_all (λ t. is_true t) (binary (Compare Eq Binary) (column r 1) (Int (pos n))
    ∷ binary (Compare Eq Binary) (column r 2) (Int (pos v)) ∷ []) ≡ of_release n v r
release_tested r n v =
    ap (λ b. is_true (binary (Compare Eq Binary) (column r 1) (Int (pos n))) && b) (equality (column r 2) (pos v))
    ∙ ap (λ b. b && equals (column r 2) (Int (pos v))) (sym (and_true _) ∙ equality (column r 1) (pos n))

pub release_named : (n m v : ℕ) → month_at n ≡ Some m → 1 ≤ v → v ≤ 9 → (r : Row)
    → release_from_key (column r 1) (column r 2) ≡ Some (release_number m v) → of_release n v r ≡ true
release_named n m v is low high r e =
    let a = release_of r (release_number m v) e in
    let key = one_release a.month a.revision m v a.low a.high low high a.is in
    let same : a.named.number ≡ n = same_month a.named.number n m (a.named.is ∙ ap Some key.0) is in
    and_from _ _ (equal_number (column r 1) n (a.named.column ∙ ap (λ k. Int (pos k)) same))
    (equal_number (column r 2) v (a.column ∙ ap (λ k. Int (pos k)) key.1))

-- a row among those is of that release
pub release_numbered : (n m v : ℕ) → month_at n ≡ Some m → (r : Row) (k : ℕ) → of_release n v r ≡ true
    → release_from_key (column r 1) (column r 2) ≡ Some k → k ≡ release_number m v
release_numbered n m v is r k test e =
    let a = release_of r k e in
    let both = and_parts _ _ test in
    let same : a.named.number ≡ n = same_number (column r 1) a.named.number n a.named.column both.0 in
    let months : a.month ≡ m = some_is (sym a.named.is ∙ ap month_at same ∙ is) in
    let revisions : a.revision ≡ v = same_number (column r 2) a.revision v a.column both.1 in
    sym a.is ∙ ap (λ x. release_number x a.revision) months ∙ ap (release_number m) revisions

module _ {X : Type 0} (from : Row → Option X) where
  abbrev pub release_entry : Row → Option (ℕ × X)
  release_entry r = and_then (release_from_key (column r 1) (column r 2)) (λ n. and_then (from r) (λ x. Some (n, x)))

  -- a row with its release, by its parts
  pub record IsBeside (r : Row) (number : ℕ) (x : X) : Type 0 where
    pub release : release_from_key (column r 1) (column r 2) ≡ Some number
    pub row : from r ≡ Some x

  pub beside : (r : Row) (number : ℕ) (x : X) → release_entry r ≡ Some (number, x) → IsBeside r number x
  beside r number x e =
      let one = bound_is (release_from_key (column r 1) (column r 2)) _ _ e in
      let two = bound_is (from r) _ _ one.2 in
      let pair : ◌≡◌ {A = ℕ × X} (one.0, two.0) (number, x) = some_is two.2 in
      record {
        release = one.1 ∙ ap (λ (p : ℕ × X). Some p.0) pair;
        row = two.1 ∙ ap (λ (p : ℕ × X). Some p.1) pair;
      }
