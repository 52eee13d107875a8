-- A call that lends: more is said of its end than its trait asks.
use mathlib.Core.List.{[]}
use mathlib.Core.Option.{none}
use seplogic.Ra.Ura.{Ura}
use base.Fml.{GName}
use base.Logic.{SProp, ent, emp, ex_e, ex_i, id⊢, mono_r, sep, via}
use types.Logic.{Logic, sem}
use contract.Monad.{fact, fact_i}
use denote.Follow.{follows_by, follows_so, such_by}
use denote.RattleType.{RattleType}
use borrow.Fn.Refines.{Gives, Turns, by_parts, pull_last}
use Rattle.std.specs.Prelude.{⊤}

module _ {M : Type 1} (𝓤 : Ura M) where
  -- an end of which more is known
  pub ends_more : (𝓛 : Logic 𝓤) (R : RattleType) (γ : GName) (P Q : R.Denot → Type 0) → ((v : R.Denot) → P v → Q v)
      → ent 𝓤 (sem 𝓛 (follows_so R R γ none (λ _ _. ⊤) P)) (sem 𝓛 (follows_so R R γ none (λ _ _. ⊤) Q))
  unfolding such_by
  ends_more 𝓛 R γ P Q more =
      ex_e 𝓤 (λ (s : (s : (R.Denot → R.Denot) × R.Denot) × ((w : R.Denot) → ⊤) × P s.1).
      sem 𝓛 (follows_by R.Denot R.Denot R.coded.code R.coded.code γ none s.0.0 s.0.1))
      (λ s. ex_i 𝓤 (λ (t : (t : (R.Denot → R.Denot) × R.Denot) × ((w : R.Denot) → ⊤) × Q t.1).
      sem 𝓛 (follows_by R.Denot R.Denot R.coded.code R.coded.code γ none t.0.0 t.0.1))
      (s.0, s.1, more s.0.1 s.2))

  -- with a fact
  pub with_fact : (P Q : SProp 𝓤) (φ : Type 0) → ent 𝓤 P Q → φ → ent 𝓤 P (sep 𝓤 Q (fact 𝓤 φ))
  with_fact P Q φ h p = via 𝓤 Q h (via 𝓤 (sep 𝓤 Q (emp 𝓤)) (pull_last 𝓤 Q) (mono_r 𝓤 Q (fact_i 𝓤 φ (emp 𝓤) p)))

  -- a method owes nothing, and its clauses give its trait's
  pub gives : (R X : Type 0) (D E : R → X → SProp 𝓤) → ((r : R) (x : X) → ent 𝓤 (D r x) (E r x))
      → Gives 𝓤 (emp 𝓤) (Unit {0}) (λ g. emp 𝓤) (λ g. Turns 𝓤 R X D E)
  gives R X D E h = by_parts 𝓤 [] [] (emp 𝓤) (emp 𝓤) R X (λ _ _. []) (λ _ _. []) D E (fact_i 𝓤 (Unit {0}) (emp 𝓤) tt)
      (λ _. id⊢ 𝓤 (emp 𝓤)) (λ r x. fact_i 𝓤 (Unit {0}) (D r x) tt) (λ r x _. h r x) (λ _. tt) (λ _ _ _ _. tt)
