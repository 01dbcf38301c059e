-- Each phase's word and what it shows.
use Rattle.std.proofs.Common.{rules, sym, ap, ◌∙◌, ℤ, w32, FitsSigned}
use mir.ValLaws.{to_z-of_z}
use Rattle.machine.specs.declared.Phase.TheVariants.{Holding}
use Rattle.numerals.proofs.PrintLaws.{wrote_then, wrote_as}
use Rattle.lines.specs.Twins.{phase_text}
use Rattle.lines.proofs.LengthLaws.{phase_is_low}
use Rattle.lines.proofs.put_phase.Goals as goal

pub returns-in-CalledPut-clause-put : goal.returns-in-CalledPut-clause-put
returns-in-CalledPut-clause-put c = wrote_as (ap phase_text (sym c.in-CalledPut.is)) c.put_bytes-in-CalledPut.ensures

pub returns-in-Reserved-clause-short : goal.returns-in-Reserved-clause-short
returns-in-Reserved-clause-short c = phase_is_low c.in-Reserved.is (search rules)

pub returns-in-CalledTake-clause-put : goal.returns-in-CalledTake-clause-put
returns-in-CalledTake-clause-put c = wrote_as (ap phase_text (sym c.in-CalledTake.is)) c.put_bytes-in-CalledTake.ensures

pub returns-in-Scanning-clause-short : goal.returns-in-Scanning-clause-short
returns-in-Scanning-clause-short c = phase_is_low c.in-Scanning.is (search rules)

pub returns-in-Holding-clause-put : goal.returns-in-Holding-clause-put
returns-in-Holding-clause-put c =
    let h = c.in-Holding in
    let f : FitsSigned w32 h.x = search rules in
    wrote_as (ap (λ (z : ℤ). phase_text (Holding z)) (to_z-of_z w32 h.x f) ∙ ap phase_text (sym h.is)) (wrote_then c.put_bytes-in-Holding.ensures c.end_sample.ensures)

pub returns-in-Holding-clause-short : goal.returns-in-Holding-clause-short
returns-in-Holding-clause-short c = phase_is_low c.in-Holding.is (search rules)
