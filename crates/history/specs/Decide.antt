-- Decisions of 'called' and 'precedes', so that the listed order and the verdict compute. Nothing here has to be believed: a decision carries its proof.
--   both?, either?       of two statements, by decisions of each
--   called?, precedes?   of a history
use Rattle.std.specs.Prelude.{◌⊎◌, List, [], ◌∷◌, ℕ}
use Rattle.std.proofs.Common.{inl, inr}
use Rattle.std.proofs.Math.Decide.{ℕ_discrete}
use Rattle.history.specs.History.{Event, call, ret, Called, Precedes}

abbrev pub both? : {P Q : Type 0} → Dec P → Dec Q → Dec (P × Q)
both? (yes p) (yes q) = yes (p, q)
both? (yes p) (no q) = no (λ r. q r.1)
both? (no p) q = no (λ r. p r.0)

pub neither : {P Q : Type 0} → ¬ P → ¬ Q → P ⊎ Q → ⊥
neither p q (inl a) = p a
neither p q (inr b) = q b

abbrev pub either? : {P Q : Type 0} → Dec P → Dec Q → Dec (P ⊎ Q)
either? (yes p) q = yes (inl p)
either? (no p) (yes q) = yes (inr q)
either? (no p) (no q) = no (neither p q)

abbrev pub called? : (h : List Event) (o : ℕ) → Dec (Called h o)
called? [] o = no (λ e. e)
called? (call p ∷ h) o = either? (ℕ_discrete o p) (called? h o)
called? (ret p a ∷ h) o = called? h o

abbrev pub precedes? : (h : List Event) (a b : ℕ) → Dec (Precedes h a b)
precedes? [] a b = no (λ e. e)
precedes? (call c ∷ h) a b = precedes? h a b
precedes? (ret c v ∷ h) a b = either? (both? (ℕ_discrete a c) (called? h b)) (precedes? h a b)
