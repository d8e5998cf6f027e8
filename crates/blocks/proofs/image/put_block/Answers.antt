-- the check leaves this goal
use Rattle.blocks.proofs.Images.{lent}
use Rattle.blocks.proofs.image.put_block.Goals as goal

pub returns : goal.returns
returns c = lent c.args.image.now c.args.bytes.now c.args.b c.requires.within c.told-bytes c.write_block.new.part c.write_block.ensures
