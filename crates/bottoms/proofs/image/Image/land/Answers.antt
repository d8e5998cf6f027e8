use Rattle.std.proofs.Common.{arith}
use Rattle.std.proofs.lemmas.Grind.{common_steps}
use Rattle.bottoms.proofs.Landing.{blocks_landed}
use Rattle.bottoms.proofs.image.Image.land.Goals as goal

pub returns-clause-blocks : goal.returns-clause-blocks
returns-clause-blocks c = blocks_landed c.args.self.now.0.items _ c.args.write.now (grind (arith, common_steps)) c.requires.within
