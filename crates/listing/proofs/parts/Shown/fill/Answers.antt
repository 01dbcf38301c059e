-- The listing is never longer than 12,288 bytes; a shorter text is written to only where the count fits.
use Rattle.std.proofs.Common.{arith, rules, ◌≤◌, length}
use Rattle.listing.specs.Twins.{listing_by}
use Rattle.listing.proofs.AnswerLaws.{text_made}
use Rattle.listing.proofs.parts.Shown.fill.Goals as goal

pub returns-clause-text_says : goal.returns-clause-text_says
returns-clause-text_says c =
    let fits : length (listing_by c.args.self.now) ≤ length c.args.text.now = grind arith in
    text_made fits c.new-page.ensures.text c.new-page.ensures.start c.put-2.ensures.put c.count-2.ensures (search rules)
