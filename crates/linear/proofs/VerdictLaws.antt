-- Laws of the verdict: which fault it names, and that verdict 0 holds exactly for linearizations. Assumes nothing.
use mathlib.Core.Path.{◌≡◌, refl, ◌∙◌}
use mathlib.Core.List.{List}
use Prim.Native.Nat.{ℕ}
use Rattle.limits.specs.Operations.{Table}
use Rattle.history.specs.History.{Event}
use Rattle.history.proofs.ListLaws.{clash}
use Rattle.history.proofs.HistoryLaws.{Sound}
use Rattle.linear.specs.declared.Verdict.{Verdict}
use Rattle.linear.specs.declared.Verdict.TheVariants.{Linear, NoOperation, Uncalled, Missing, Turned, Unplayable}
use Rattle.linear.specs.Conditions.{Not20, Not21, Not22, Not23, Not24}
use Rattle.linear.specs.Decide.{not20?, not21?, not22?, not23?, not24?}
use Rattle.linear.specs.Verdict.{unless_so, verdict}
use Rattle.linear.specs.Linear.{Linearizes}
use Rattle.linear.proofs.SoundLaws.{conditions_linearize}
use Rattle.linear.proofs.CompleteLaws.{linearizes_conditions}

-- ---- one fault at a time

-- no fault, and the next one is asked
pub unless_free : {P : Type 0} (d : Dec P) (f r : Verdict) → P → unless_so d f r ≡ r
unless_free (yes _) f r p = refl
unless_free (no n) f r p = absurd (n p)

-- the fault
pub unless_fault : {P : Type 0} (d : Dec P) (f r : Verdict) → ¬ P → unless_so d f r ≡ f
unless_fault (yes p) f r n = absurd (n p)
unless_fault (no _) f r n = refl

-- a verdict that is not the fault is that of the rest
unless_both : {P : Type 0} (d : Dec P) (f r v : Verdict) → (f ≡ v → ⊥) → unless_so d f r ≡ v → P × (r ≡ v)
unless_both (yes p) f r v ne e = (p, e)
unless_both (no _) f r v ne e = absurd (ne e)

-- ---- the verdict that a fault gives, those before it being absent

module _ (T : Table) (h : List Event) (l : List ℕ) where
  pub verdict_20 : ¬ Not20 T l → verdict T h l ≡ NoOperation
  unfolding verdict
  verdict_20 n = unless_fault (not20? T l) NoOperation _ n

  pub verdict_21 : Not20 T l → ¬ Not21 h l → verdict T h l ≡ Uncalled
  unfolding verdict
  verdict_21 a n = unless_free (not20? T l) NoOperation _ a ∙ unless_fault (not21? h l) Uncalled _ n

  pub verdict_22 : Not20 T l → Not21 h l → ¬ Not22 h l → verdict T h l ≡ Missing
  unfolding verdict
  verdict_22 a b n = unless_free (not20? T l) NoOperation _ a ∙ unless_free (not21? h l) Uncalled _ b ∙ unless_fault (not22? h l) Missing _ n

  pub verdict_23 : Not20 T l → Not21 h l → Not22 h l → ¬ Not23 h l → verdict T h l ≡ Turned
  unfolding verdict
  verdict_23 a b c n =
      unless_free (not20? T l) NoOperation _ a ∙ unless_free (not21? h l) Uncalled _ b ∙ unless_free (not22? h l) Missing _ c ∙ unless_fault (not23? h l) Turned _ n

  pub verdict_24 : Not20 T l → Not21 h l → Not22 h l → Not23 h l → ¬ Not24 T h l → verdict T h l ≡ Unplayable
  unfolding verdict
  verdict_24 a b c d n =
      unless_free (not20? T l) NoOperation _ a ∙ unless_free (not21? h l) Uncalled _ b ∙ unless_free (not22? h l) Missing _ c ∙ unless_free (not23? h l) Turned _ d
      ∙ unless_fault (not24? T h l) Unplayable _ n

  pub verdict_0 : Not20 T l → Not21 h l → Not22 h l → Not23 h l → Not24 T h l → verdict T h l ≡ Linear
  unfolding verdict
  verdict_0 a b c d e =
      unless_free (not20? T l) NoOperation _ a ∙ unless_free (not21? h l) Uncalled _ b ∙ unless_free (not22? h l) Missing _ c ∙ unless_free (not23? h l) Turned _ d
      ∙ unless_free (not24? T h l) Unplayable _ e

  -- ---- verdict 0 and linearizations, for a history whose every event can stand

  -- verdict 0 is given to linearizations only
  pub linear_sound : Sound T h → verdict T h l ≡ Linear → Linearizes T h l
  unfolding verdict
  linear_sound so v =
      let a = unless_both (not20? T l) NoOperation _ Linear (λ e. clash (cc)) v in
      let b = unless_both (not21? h l) Uncalled _ Linear (λ e. clash (cc)) a.1 in
      let c = unless_both (not22? h l) Missing _ Linear (λ e. clash (cc)) b.1 in
      let d = unless_both (not23? h l) Turned _ Linear (λ e. clash (cc)) c.1 in
      let e = unless_both (not24? T h l) Unplayable Linear Linear (λ e. clash (cc)) d.1 in
      conditions_linearize T h l so a.0 b.0 c.0 d.0 e.0

  -- and every linearization gets it
  pub linear_complete : Sound T h → Linearizes T h l → verdict T h l ≡ Linear
  linear_complete so z = let p = linearizes_conditions T h l so z in verdict_0 p.not20 p.not21 p.not22 p.not23 p.not24
