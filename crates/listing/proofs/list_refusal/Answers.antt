use Rattle.std.proofs.Common.{rules, arith}
use Rattle.listing.proofs.AnswerLaws.{text_made, refusal_says}
use Rattle.listing.proofs.list_refusal.Goals as goal

pub returns : goal.returns
returns c = refusal_says (text_made (omega arith) c.new-page.ensures.text c.new-page.ensures.start c.put_refusal-2.ensures.put c.count-2.ensures (search rules)) c.put_refusal.ensures.short
