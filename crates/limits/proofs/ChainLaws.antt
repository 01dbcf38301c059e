-- The chains of tests 1 to 8, put together from their parts. Assumes nothing.
use Rattle.std.proofs.Common.{◌≡◌, Bool, true, false, List, ℕ, ℤ, Option, Some, None, refl}
use Rattle.limits.specs.Operations.{Input}
use Rattle.limits.specs.declared.Refusal.{Refusal}
use Rattle.limits.specs.declared.Refusal.TheVariants.{Threads, Slots}
use Rattle.limits.specs.Refusals.{Fit, unless, unless_at, and_then, input_refusal}
use Rattle.limits.specs.Parts.{number_refusal, operations_refusal, table_refusal, schedule_refusal}

unless_then : (b : Bool) (r : Refusal) (f g : Fit) → and_then (unless b r f) g ≡ unless b r (and_then f g)
unless_then true r f g = refl
unless_then false r f g = refl

unless_at_then : (p : Option ℕ) (r : ℕ → Refusal) (f g : Fit) → and_then (unless_at p r f) g ≡ unless_at p r (and_then f g)
unless_at_then None r f g = refl
unless_at_then (Some i) r f g = refl

pub table_chain : (threads : ℕ) (thread kind : List ℕ) (sample : List ℤ)
    → table_refusal threads thread kind sample ≡ and_then (number_refusal threads 16 Threads) (operations_refusal threads thread kind sample)
unfolding table_refusal operations_refusal
table_chain threads thread kind sample = simp (unless_then)

pub input_chain : (i : Input)
    → input_refusal i ≡ and_then (number_refusal i.threads 16 Threads) (and_then (number_refusal i.slots 64 Slots)
    (and_then (operations_refusal i.threads i.thread i.kind i.sample) (schedule_refusal i.threads i.slots i.kind i.schedule)))
unfolding input_refusal operations_refusal schedule_refusal
input_chain i = simp (unless_then, unless_at_then)
