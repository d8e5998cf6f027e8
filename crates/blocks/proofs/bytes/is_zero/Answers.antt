use Rattle.std.proofs.Common.{nat_eq, rules}
use borrow.Author.Tests.{tests}
use Rattle.finite.proofs.Asked.{every_element}
use Rattle.blocks.proofs.bytes.is_zero.Goals as goal

pub returns : goal.returns
returns c = every_element _ _ c.args.bytes.now 0 (λ byte. nat_eq byte 0) c.all.result c.all.ensures.ran (cc) (λ x b q k. search (rules, tests))
