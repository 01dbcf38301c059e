-- The first entry that is no thread, by the library's search. Assumes nothing.
use Rattle.std.proofs.Common.{rules, ◌∙◌, nat_le}
use borrow.Author.Tests.{tests}
use Rattle.std.proofs.lemmas.Iterator.{YieldsList-from_slice}
use Rattle.std.proofs.lemmas.Iterator.Search.{position_from_yields_List}
use Rattle.limits.proofs.SearchLaws.{position_lowest}
use Rattle.limits.proofs.Input.first_stray.Goals as goal

pub returns : goal.returns
returns c =
    position_from_yields_List (λ t. nat_le c.args.self.now.threads t) _ _ _ c.position.ensures.ran (YieldsList-from_slice c.args.self.now.schedule.now cc) (λ x b q k. search (rules, tests))
    ∙ position_lowest (λ t. nat_le c.args.self.now.threads t) c.args.self.now.schedule.now
