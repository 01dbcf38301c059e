-- Six parts put one after the other, each no longer than its lines can be.
use Rattle.std.proofs.Common.{arith, [], ◌∷◌}
use Rattle.numerals.specs.Decimal.{decimal}
use Rattle.numerals.specs.Words.{bytes, line}
use Rattle.numerals.proofs.PrintLaws.{wrote_then}
use Rattle.lines.specs.Lines.{count_lines}
use Rattle.lines.proofs.LengthLaws.{back_low}
use Rattle.listing.specs.Twins.{events_of, order_of, slots_of, threads_of, listing_by}
use Rattle.listing.proofs.LengthLaws.{parts_low}
use Rattle.listing.proofs.parts.Shown.put.Goals as goal

pub returns-clause-put : goal.returns-clause-put
unfolding listing_by
returns-clause-put c =
    wrote_then c.put_line.ensures (wrote_then c.put_events.ensures.put (wrote_then c.put_order.ensures.put
    (wrote_then c.put_slots.ensures.put (wrote_then c.put_threads.ensures.put c.put_counts.ensures.put))))

pub returns-clause-short : goal.returns-clause-short
unfolding listing_by
returns-clause-short c =
    let s = c.args.self.now in
    parts_low (line (bytes "back" ∷ decimal s.summary.back ∷ [])) (events_of s) (order_of s) (slots_of s) (threads_of s) (count_lines s.summary)
    (back_low s.summary.back (omega arith)) c.put_events.ensures.short c.put_order.ensures.short c.put_slots.ensures.short c.put_threads.ensures.short c.put_counts.ensures.short
