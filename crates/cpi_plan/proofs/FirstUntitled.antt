-- The first untitled code is the least of those on the paths.
use Rattle.std.proofs.Common.{◌≡◌, Bool, true, false, cond, List, [], ◌∷◌, filter, Option, Some, None, refl, sym, ap}
use Rattle.std.proofs.Common.{◌∙◌, subst, ◌||◌}
use Rattle.std.specs.declared.cmp.Ordering.{Ordering}
use Rattle.std.specs.declared.cmp.Ordering.TheVariants.{Less, Equal, Greater}
use Rattle.std.specs.Ordering.{is_gt, ordering_reverse}
use Rattle.std.specs.List.{list_any, flat_map}
use Rattle.std.proofs.lemmas.List.Folds.{list_any-append}
use Rattle.std.proofs.lemmas.Cmp.{tied_itself, alike_right}
use Rattle.std.proofs.lemmas.Map.Views.{any-filter_same}
use Rattle.cpi_codes.specs.CodeOrder.{code_cmp, is_same_code}
use Rattle.cpi_codes.specs.CodePath.{path}
use Rattle.cpi_codes.specs.CodeText.{is_code_at_or_below}
use Rattle.cpi_codes.specs.declared.codes.Code.{Code}
use Rattle.cpi_codes.specs.contracts.codes.CodeOrd.TheImpl.Laws.{total-law}
use Rattle.cpi_codes.proofs.CodesAbove.{in_path}
use Rattle.cpi_rows.proofs.Truth.{and_first, or_of_first, or_of_second}
use Rattle.cpi_plan.specs.declared.plan_rows.Title.{Title}
use Rattle.cpi_plan.specs.declared.plan_rows.Weight.{Weight}
use Rattle.cpi_plan.specs.Sums.{is_node}
use Rattle.cpi_plan.specs.Steps.{IsFirstCode}
use Rattle.cpi_plan.specs.Plan.{is_untitled}
use Rattle.cpi_plan.specs.Planned.{lesser, first_of, first_untitled}
use Rattle.cpi_plan.proofs.FaultLemmas.{equal_is, level}

none_left : (p : Code → Bool) → ((c : Code) → p c ≡ false) → (cs : List Code) → filter p cs ≡ []
none_left p h [] = refl
none_left p h (c ∷ cs) = rw (h c) (none_left p h cs)

-- ---- the first of codes passes what all pass, and none comes before it
abbrev NotAfter : Code → Option Code → Type 0
NotAfter k None = ⊥
NotAfter k (Some m) = is_gt (code_cmp m k) ≡ false

module _ (p : Code → Bool) where
  lesser_passes : (c : Code) (o : Option Code) (m : Code) → p c ≡ true → ((d : Code) → o ≡ Some d → p d ≡ true) →
      lesser c o ≡ m → p m ≡ true
  lesser_passes c None m pc po e = ap p (sym e) ∙ pc
  lesser_passes c (Some d) m pc po e = cases (is_gt (code_cmp c d)) e
    where
      cases : (b : Bool) → cond b d c ≡ m → p m ≡ true
      cases true e = ap p (sym e) ∙ po d refl
      cases false e = ap p (sym e) ∙ pc

  first_passes : (cs : List Code) (m : Code) → first_of (filter p cs) ≡ Some m → p m ≡ true
  first_passes [] m e = cc
  first_passes (c ∷ cs) m e = cases (p c) refl (λ d f. first_passes cs d f) e
    where
      cases : (b : Bool) → p c ≡ b → ((d : Code) → first_of (filter p cs) ≡ Some d → p d ≡ true) →
          first_of (cond b (c ∷ filter p cs) (filter p cs)) ≡ Some m → p m ≡ true
      cases true pc rest e = let least : lesser c (first_of (filter p cs)) ≡ m = cc in
          lesser_passes c (first_of (filter p cs)) m pc rest least
      cases false pc rest e = rest m e

gt_self : (c : Code) → is_gt (code_cmp c c) ≡ false
gt_self c = ap is_gt (tied_itself total-law c)

flip : (s t : Ordering) → s ≡ ordering_reverse t → is_gt t ≡ true → is_gt s ≡ false
flip s Less e h = cc
flip s Equal e h = cc
flip s Greater e h = ap is_gt e

not_after : (a b : Code) → is_gt (code_cmp a b) ≡ true → is_gt (code_cmp b a) ≡ false
not_after a b h = flip (code_cmp b a) (code_cmp a b) (total-law.antisymm b a) h

-- at most as great as one that is at most as great as a third
at_most : (s t u : Ordering) → is_gt s ≡ false → is_gt t ≡ false → (s ≡ Equal → u ≡ t) → (t ≡ Equal → s ≡ u) →
    (s ≡ Less → t ≡ Less → u ≡ Less) → is_gt u ≡ false
at_most Greater t u g h e f l = cc
at_most Equal t u g h e f l = ap is_gt (e refl) ∙ h
at_most Less Greater u g h e f l = cc
at_most Less Equal u g h e f l = ap is_gt (sym (f refl)) ∙ g
at_most Less Less u g h e f l = ap is_gt (l refl refl)

not_after_trans : (c d k : Code) → is_gt (code_cmp c d) ≡ false → is_gt (code_cmp d k) ≡ false →
    is_gt (code_cmp c k) ≡ false
not_after_trans c d k g h = at_most (code_cmp c d) (code_cmp d k) (code_cmp c k) g h (λ e. total-law.congr c d k e)
    (λ e. alike_right total-law d k c e) (λ e f. total-law.trans c d k e f)

not_later : (k : Code) (cs : List Code) → list_any (is_same_code k) cs ≡ true → NotAfter k (first_of cs)
not_later k [] h = cc
not_later k (c ∷ cs) h = cases (is_same_code k c) refl (λ t. not_later k cs t) h
  where
    here : (o : Option Code) → k ≡ c → is_gt (code_cmp (lesser c o) k) ≡ false
    here None e = subst (λ z. is_gt (code_cmp c z) ≡ false) (sym e) (gt_self c)
    here (Some d) e = subst (λ z. is_gt (code_cmp (lesser c (Some d)) z) ≡ false) (sym e)
        (least d (is_gt (code_cmp c d)) refl)
      where
        least : (d : Code) (b : Bool) → is_gt (code_cmp c d) ≡ b → is_gt (code_cmp (cond b d c) c) ≡ false
        least d true g = not_after c d g
        least d false g = gt_self c

    there : (o : Option Code) → NotAfter k o → is_gt (code_cmp (lesser c o) k) ≡ false
    there None n = absurd n
    there (Some d) n = least d n (is_gt (code_cmp c d)) refl
      where
        least : (d : Code) → is_gt (code_cmp d k) ≡ false → (b : Bool) → is_gt (code_cmp c d) ≡ b →
            is_gt (code_cmp (cond b d c) k) ≡ false
        least d n true g = n
        least d n false g = not_after_trans c d k g n

    cases : (b : Bool) → is_same_code k c ≡ b → (list_any (is_same_code k) cs ≡ true → NotAfter k (first_of cs)) →
        (b || list_any (is_same_code k) cs) ≡ true → NotAfter k (first_of (c ∷ cs))
    cases true e rest h = here (first_of cs) (equal_is k c e)
    cases false e rest h = there (first_of cs) (rest h)

module _ (p : Code → Bool) (k : Code) (f : IsFirstCode p k) (cs : List Code)
    (among : list_any (is_same_code k) cs ≡ true) where
  kept : list_any (is_same_code k) (filter p cs) ≡ true
  kept = any-filter_same (is_same_code k) p true (λ x e. ap p (sym (equal_is k x e)) ∙ f.0) cs ∙ among

  pub first_is_least : first_of (filter p cs) ≡ Some k
  first_is_least = cases (first_of (filter p cs)) refl (not_later k (filter p cs) kept)
    where
      cases : (o : Option Code) → first_of (filter p cs) ≡ o → NotAfter k o → o ≡ Some k
      cases None e n = absurd n
      cases (Some m) e n = ap (λ c. Some c) (equal_is m k
          (level (code_cmp m k) (code_cmp k m) (total-law.antisymm m k) n (f.1 m (first_passes p cs m e))))

-- a node is on the path of a code with weight
node_among : (k : Code) (ws : List Weight) → is_node ws k ≡ true →
    list_any (is_same_code k) (flat_map (λ w. path w.code) ws) ≡ true
node_among k [] h = h
node_among k (w ∷ ws) h = list_any-append (is_same_code k) (path w.code) (flat_map (λ x. path x.code) ws)
    ∙ cases (is_code_at_or_below k w.code) refl (λ t. node_among k ws t) h
  where
    cases : (b : Bool) → is_code_at_or_below k w.code ≡ b →
        (is_node ws k ≡ true → list_any (is_same_code k) (flat_map (λ x. path x.code) ws) ≡ true) →
        (b || is_node ws k) ≡ true → (list_any (is_same_code k) (path w.code) || list_any (is_same_code k)
        (flat_map (λ x. path x.code) ws)) ≡ true
    cases true e rest h = or_of_first (list_any (is_same_code k) (path w.code)) _ (in_path k w.code e)
    cases false e rest h = or_of_second (list_any (is_same_code k) (path w.code)) _ (rest h)

pub first_untitled_is : (titles : List Title) (weights : List Weight) (k : Code) →
    IsFirstCode (is_untitled titles weights) k → first_untitled titles weights ≡ Some k
first_untitled_is titles weights k f = first_is_least (is_untitled titles weights) k f
    (flat_map (λ w. path w.code) weights) (node_among k weights (and_first (is_node weights k) _ f.0))

pub none_untitled : (titles : List Title) (weights : List Weight) →
    ((k : Code) → is_untitled titles weights k ≡ false) → first_untitled titles weights ≡ None
none_untitled titles weights h = ap first_of (none_left (is_untitled titles weights) h
    (flat_map (λ w. path w.code) weights))
