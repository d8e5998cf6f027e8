use Rattle.std.proofs.Common.{◌%◌, ◌==◌, ◌∙◌, rules, tests}
use Rattle.std.proofs.lemmas.Iterator.{YieldsList-from_slice}
use Rattle.std.proofs.lemmas.Iterator.Search.{position_from_yields_List}
use Rattle.bottoms.proofs.Picks.{oldest_is}
use Rattle.bottoms.proofs.banked.channels.oldest_on.Goals as goal

pub returns : goal.returns
returns c =
    position_from_yields_List (λ w. w.block % 4 == c.args.channel) _ _ _ c.position.ensures.ran (YieldsList-from_slice c.args.queue.now cc) (λ x b q k. search (rules, tests))
    ∙ oldest_is c.args.channel c.args.queue.now
