-- Nothing in this file has to be believed: twins of this crate's private functions.
--   Shows   three lists that were ps, ns and es, begun with what the records show
use Rattle.std.specs.Prelude.{◌≡◌, List, map, ℕ, ℤ}
use Rattle.limits.specs.Lists.{over}
use Rattle.machine.specs.declared.ThreadRecord.{ThreadRecord}
use Rattle.machine.specs.Shown.{phase_told}

pub record Shows (records : List ThreadRecord) (ps : List ℕ) (ns : List ℤ) (es : List ℕ) (ps' : List ℕ) (ns' : List ℤ) (es' : List ℕ) : Type 0 where
  pub phases : ps' ≡ over (map (λ (r : ThreadRecord). (phase_told r.phase).0) records) ps
  pub numbers : ns' ≡ over (map (λ (r : ThreadRecord). (phase_told r.phase).1) records) ns
  pub ends : es' ≡ over (map (λ (r : ThreadRecord). (phase_told r.phase).2) records) es
