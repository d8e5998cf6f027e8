use Rattle.std.proofs.Common.{rules}
use borrow.Author.Tests.{tests}
use Rattle.finite.proofs.Asked.{every_element}
use Rattle.layout.specs.Names.{printable}
use Rattle.layout.proofs.name.is_all_printable.Goals as goal

pub returns : goal.returns
returns c = every_element _ _ c.args.text.now 0 printable c.all.result c.all.ensures.ran (cc) (λ x b q k. search (rules, tests))
